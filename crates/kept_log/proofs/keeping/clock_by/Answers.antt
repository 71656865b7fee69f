use Rattle.std.proofs.Common.{ℕ, ◌++◌, ◌∷◌, [], List, take, slice_index_or, get_or, sym, ap, ◌∙◌}
use Rattle.std.proofs.lemmas.List.{get_or_default}
use Rattle.kept_log.specs.inside.Counted.{clock_by}
use Rattle.kept_log.proofs.Steps.{clock_next}
use Rattle.kept_log.proofs.keeping.clock_by.Goals as goal

pub loop-j-preserved : goal.loop-j-preserved
loop-j-preserved c =
    let j = c.loop-j.j in
    let x = get_or c.args.clock.now j 0 in
    c.in_ok-push.ensures.ok
    ∙ ap (λ (r : List ℕ). r ++ c.count_in.result ∷ []) c.loop-j.invariant
    ∙ ap (λ (n : ℕ). clock_by c.args.counts.now 0 (take j c.args.clock.now) ++ n ∷ []) (c.count_in.ensures ∙ ap (λ (row : List ℕ). slice_index_or row x 0) c.row_at.ensures.row)
    ∙ sym (clock_next c.args.counts.now c.args.clock.now j x c.loop-j-test.true (get_or_default c.args.clock.now j 0 x c.loop-j-test.true))
