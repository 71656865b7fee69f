use Rattle.std.proofs.Common.{◌≡◌, to_z, of_z, ℕ, ℤ, ◌-ℤ◌, ◌≤ℤ◌, List, All, ◌∙◌, sym, ap, subst}
use Rattle.event_log.specs.States.{StatesView}
use Rattle.std.specs.Int.{w128}
use Rattle.std.specs.Prelude.{◌↔◌, FitsSigned, int_le}
use Rattle.std.proofs.lemmas.Int.{to_z-of_z}
use Rattle.pull_system.specs.System.{IsPull}
use Rattle.pull_system.specs.Pulls.{ClosedUnder}
use Rattle.channel_preds.specs.Truth.{lens_of}
use Rattle.counter_preds.specs.Counters.{AreCounters, AreThere, value_in, value_within}
use Rattle.counter_preds.specs.Truth as counters
use Rattle.counter_preds.proofs.Tests.{le_holds, holds_le}
use Rattle.part_pulls.proofs.Atoms.{are_counters, diff_at_most_is}
use Rattle.part_pulls.proofs.atom_pulls.diff_at_most_pulls.Goals as goal

pub diff_at_most-requires-clause-counters : goal.diff_at_most-requires-clause-counters
diff_at_most-requires-clause-counters c =
    subst (λ (s : StatesView). AreCounters s c.args.left c.args.right) (sym c.states-states.ensures.states)
    (are_counters c.args.seen.now c.states-states.ensures.trace c.args.left c.args.right c.requires.fits.0 c.requires.fits.1 c.requires.counters)

pub returns : goal.returns
returns c =
    let seen = c.args.seen.now in
    let k = c.args.k in
    let states = c.states-states.ensures.states in
    let told = c.in_ok-pulls.ensures in
    let pulls = c.in_ok-pulls.pulls in
    let difference = c.first_difference.result in
    let is : difference ≡ (value_in seen.trace.states c.args.left 0 -ℤ value_in seen.trace.states c.args.right 0) = c.first_difference.ensures ∙ ap (λ (s : StatesView). value_in s c.args.left 0 -ℤ value_in s c.args.right 0) states in
    let same : to_z w128 (of_z w128 k) ≡ k = to_z-of_z w128 k c.ranges.k in
    let own : pulls ≡ counters.at_most_pulls seen.trace.states c.args.left c.args.right k =
    told.pulls ∙ ap (λ (z : ℤ). counters.at_most_pulls c.states-states.result.now c.args.left c.args.right z) same ∙ ap (λ (s : StatesView). counters.at_most_pulls s c.args.left c.args.right k) states in
    let fit = subst (λ (s : StatesView). All (IsPull (lens_of s)) pulls) states told.fit in
    let closed = subst (λ (s : StatesView). (v : List ℕ) → AreThere s c.args.left c.args.right v → ClosedUnder pulls v ↔ ((value_within s c.args.left v -ℤ value_within s c.args.right v) ≤ℤ k)) states
    (subst (λ (z : ℤ). (v : List ℕ) → AreThere c.states-states.result.now c.args.left c.args.right v → ClosedUnder pulls v ↔ ((value_within c.states-states.result.now c.args.left v -ℤ value_within c.states-states.result.now c.args.right v) ≤ℤ z)) same told.closed) in
    let fits : FitsSigned w128 difference = record { sfits = c.first_difference.type_inv } in
    rw same (rw (to_z-of_z w128 difference fits)
    (diff_at_most_is seen c.states-states.ensures.trace c.args.left c.args.right k c.requires.fits c.requires.counters pulls own fit closed (int_le difference k)
    (λ h. subst (λ z. z ≤ℤ k) is (holds_le difference k h), λ h. le_holds difference k (subst (λ z. z ≤ℤ k) (sym is) h))))
