use Rattle.std.proofs.Common.{sym, ◌∙◌}
use Rattle.std.proofs.lemmas.Slice.Eq.{bytes_eq-Decides}
use Rattle.conjunctions.proofs.Earlier.{same_system}
use Rattle.conjunctions.proofs.systems.grown.Goals as goal

pub returns-then-eq : goal.returns-then-eq
returns-then-eq c =
    let same = (bytes_eq-Decides c.lens.result.now c.lens-2.result.now).0 (sym c.eq.ensures ∙ c.if-eq.true) in
    same_system c.args.order.now c.args.system c.requires (sym c.shape.ensures.shape ∙ sym c.lens.ensures.lens ∙ same ∙ c.lens-2.ensures.lens ∙ c.shape-2.ensures.lens)
