use Rattle.std.proofs.Common.{◌≡◌, ◌++◌, ◌∷◌, [], sym, ap, ◌∙◌, List, ℕ}
use Rattle.std.proofs.lemmas.List.{append-nil}
use Rattle.log_lines.specs.Spelling.{names_text}
use Rattle.event_log.proofs.Appends.{names_text-append, puts_next}
use Rattle.event_log.proofs.writing.put_names.Goals as goal

pub loop-name-preserved : goal.loop-name-preserved
loop-name-preserved c =
    let put : c.put_spaced.new.out ≡ c.loop-name.out ++ names_text (c.name-item.result ∷ []) = c.in_ok-put_spaced.ensures ∙ ap (λ (t : List ℕ). c.loop-name.out ++ 32 ∷ t) (c.as_bytes.ensures.value ∙ sym (append-nil c.name-item.result)) in
    puts_next names_text names_text-append c.args.out.now c.loop-name.out c.put_spaced.new.out c.args.names.now c.loop-name.name-index c.name-item.result c.loop-name-test.true c.name-item.is c.loop-name.invariant put
