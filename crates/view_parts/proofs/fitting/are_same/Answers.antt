use Rattle.std.proofs.Common.{◌≡◌, Bool, true, false, [], arith, refl, sym, ◌∙◌}
use Rattle.std.specs.Prelude.{not}
use Rattle.std.proofs.lemmas.List.{take_more_same, get_or_read}
use Rattle.std.proofs.lemmas.Slice.Eq.{bytes_eq-Decides}
use Rattle.view_parts.proofs.fitting.are_same.Goals as goal

not_unequal : (b : Bool) → false ≡ not b → b ≡ true
not_unequal true h = refl
not_unequal false h = absurd (no h)
  where
    no : false ≡ true → ⊥
    no h = cc

pub loop-i-preserved : goal.loop-i-preserved
loop-i-preserved c =
    let i = c.loop-i.i in
    let one = get_or_read c.args.names.now i c.index-names-i.result (omega arith) c.index-names-i.is [] in
    let other = get_or_read c.args.others.now i c.index-others-i.result (omega arith) c.index-others-i.is [] in
    let same = (bytes_eq-Decides c.as_bytes.result.now c.as_bytes-in-loop-i.result.now).0 (not_unequal _ (sym c.if-ne.false ∙ c.ne.ensures)) in
    take_more_same c.args.names.now c.args.others.now i [] (omega arith) (omega arith) c.loop-i.invariant
    (sym one ∙ sym c.as_bytes.ensures.value ∙ same ∙ c.as_bytes-in-loop-i.ensures.value ∙ other)
