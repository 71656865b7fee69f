use Rattle.std.proofs.Common.{◌≡◌, ◌∙◌, length, ap, sym, subst}
use Rattle.std.specs.Prelude.{ℕ}
use Rattle.std.specs.List.{AllByRecursion}
use Rattle.run_model.specs.Cut.{lengths}
use Rattle.causal_order.specs.Growth.{HasClock}
use Rattle.causal_order.proofs.Growing.{length-lengths}
use Rattle.vector_clock.proofs.Placing.{procs_are}
use Rattle.vector_clock.proofs.Joining.{joined_batch}
use Rattle.vector_clock.proofs.joined.Joined.new.Goals as goal

pub new-requires-clause-each : goal.new-requires-clause-each
new-requires-clause-each c =
    let count : c.procs.result ≡ length c.args.admitted.now = c.procs.ensures.count ∙ ap length c.shape.ensures.lens ∙ length-lengths c.args.admitted.now in
    subst (λ (n : ℕ). AllByRecursion (HasClock n) c.args.batch.now) (sym count) c.requires.each

pub invariant_of-result : goal.invariant_of-result
invariant_of-result c =
    let count = c.procs.ensures.count ∙ ap length c.shape.ensures.lens ∙ length-lengths c.args.admitted.now in
    record {
      count = procs_are c.procs.result c.args.batch.now c.in_ok-added.added (sym c.in_ok-added.ensures) ∙ count;
      lens_are = c.requires.lens ∙ ap lengths (sym (joined_batch c.args.admitted.now c.in_ok-added.added c.args.batch.now c.procs.result count c.in_ok-added.ensures));
    }

pub returns : goal.returns
returns c =
    let count = c.procs.ensures.count ∙ ap length c.shape.ensures.lens ∙ length-lengths c.args.admitted.now in
    joined_batch c.args.admitted.now c.in_ok-added.added c.args.batch.now c.procs.result count c.in_ok-added.ensures
