use Rattle.std.proofs.Common.{◌≡◌, ◌≤◌, length, arith, ap, subst, ◌∙◌, sym}
use Rattle.std.proofs.lemmas.List.{ext_get_or}
use Rattle.run_model.specs.Cut.{IsWithin}
use Rattle.cut_lattice.proofs.Steps.{all_within}
use Rattle.least_holding.proofs.finding.cut_of.Goals as goal

pub returns : goal.returns
returns c =
    let done = c.loop-process.invariant in
    let same : length c.lens-lens.result.now ≡ length c.args.vector.now = ap length c.lens-lens.ensures.lens ∙ sym c.requires in
    let all : length c.args.vector.now ≤ c.loop-process.process = omega (arith, c.loop-process-test.false, same) in (
      ext_get_or 0 c.loop-process.cut c.args.vector.now (done.size ∙ same) (λ k lt. done.done k (omega (arith, lt, all, done.size, same))),
      subst (IsWithin c.args.vector.now) c.lens-lens.ensures.lens (all_within c.args.vector.now c.lens-lens.result.now c.loop-process.process done.within all),
    )
