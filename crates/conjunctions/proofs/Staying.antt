-- What a later run asks of the cuts of the earlier one: no more, where what was there met it.
use Rattle.std.proofs.Common.{ℕ, ◌<◌, Bool, true, false, List, [], ◌∷◌, length, Some, None, sym, subst}
use Rattle.trace_growth.specs.Growing.{IsTrace}
use Rattle.pull_system.specs.Growth.{Stays}
use Rattle.pull_system.proofs.Staying.{AllStay, stay_none, stay_one, stay_on}
use Rattle.slice_graph.specs.PullLists.{pulls_of_order}
use Rattle.slice_graph.proofs.OrderGrowing.{order_stays}
use Rattle.rctl_parts.specs.Pieces.{Atom, Piece, atom, temporal, local, at_most, at_least, never, diff_at_most, diff_at_least}
use Rattle.rctl_parts.specs.MadeFor.{AtomFits, PieceFits, EachFits}
use Rattle.local_preds.specs.LocalPulls.{never_pull, constant_pulls_of}
use Rattle.local_preds.specs.LocalRuns.{HasGrownAt, constant_truth}
use Rattle.local_preds.proofs.Growing.{local_stays, never_stays}
use Rattle.channel_preds.specs.Truth.{lens_of}
use Rattle.channel_preds.proofs.Growing.{at_most_stays, at_least_stays}
use Rattle.part_pulls.specs.declared.observed.Observed.{Observed}
use Rattle.part_pulls.specs.Observing.{clocks_seen, lens_seen, scope_seen, AreFull}
use Rattle.part_pulls.specs.Systems.{pulls_of_atom, pulls_of_part, pulls_of_parts, system_of}
use Rattle.part_pulls.specs.Later.{IsLater}
use Rattle.part_pulls.proofs.Atoms.{lens_same, there, fits_process, is_variable}
use Rattle.part_pulls.specs.Counters.{counter}
use Rattle.counter_preds.specs.Truth as counters
use Rattle.counter_preds.proofs.Growing as counter_growing

-- a process of the earlier run has grown
pub has_grown_at : (before after : Observed) → IsTrace before.trace.states → IsTrace after.trace.states → AreFull before → IsLater before after → (p : ℕ) → p < length before.trace.states.events
    → HasGrownAt before.trace.states after.trace.states before.watch_process before.watch_rows after.watch_rows p
has_grown_at before after old new full later p there = record {
  old = old.whole;
  new = new.whole;
  there = there;
  header = later.header;
  events = later.events.each p;
  full = full.each p;
  rows = λ w on. later.rows w p on;
}

-- both runs have the same header, and each process its old events
pub more_events : (before after : Observed) → IsLater before after → counters.HasMoreEvents before.trace.states after.trace.states
more_events before after later = record { header = later.header; each = later.events.each }

-- the pulls of two runs stay: those of the order, and of each atom that is made for them
pub record OrderStays (before after : Observed) : Type 0 where
  pub order : AllStay (lens_seen before) (pulls_of_order (clocks_seen before)) (pulls_of_order (clocks_seen after))
  pub atoms : (a : Atom) → AtomFits (scope_seen before) a → AllStay (lens_seen before) (pulls_of_atom before a) (pulls_of_atom after a)

part_stays : (before after : Observed) → OrderStays before after → (p : Piece) → PieceFits (scope_seen before) p
    → AllStay (lens_seen before) (pulls_of_part before p) (pulls_of_part after p)
part_stays before after stays (atom a) fits = stays.atoms a fits
part_stays before after stays (temporal operator ps) fits = stay_none (lens_seen before)

parts_stay : (before after : Observed) → OrderStays before after → (ps : List Piece) → EachFits (scope_seen before) ps
    → AllStay (lens_seen before) (pulls_of_parts before ps) (pulls_of_parts after ps)
parts_stay before after stays [] fits = stay_none (lens_seen before)
parts_stay before after stays (p ∷ ps) fits =
    stay_on (lens_seen before) (pulls_of_part before p) (pulls_of_part after p) (pulls_of_parts before ps) (pulls_of_parts after ps)
    (part_stays before after stays p fits.0) (parts_stay before after stays ps fits.1)

pub system_stays : (before after : Observed) → OrderStays before after → (ps : List Piece) → EachFits (scope_seen before) ps → Stays (system_of before ps) (system_of after ps)
system_stays before after stays ps fits =
    let all = stay_on (lens_seen before) (pulls_of_order (clocks_seen before)) (pulls_of_order (clocks_seen after)) (pulls_of_parts before ps) (pulls_of_parts after ps)
    stays.order (parts_stay before after stays ps fits) in
    record { each = all.each }

constant_stays : (old lens : List ℕ) (value : Bool) → AllStay old (constant_pulls_of old value) (constant_pulls_of lens value)
constant_stays old lens true = stay_none old
constant_stays old lens false = stay_one old (never_pull old) (never_pull lens) (never_stays old lens)

atoms_stay : (before after : Observed) → IsTrace before.trace.states → IsTrace after.trace.states → AreFull before → IsLater before after → (a : Atom) → AtomFits (scope_seen before) a
    → AllStay (lens_of before.trace.states) (pulls_of_atom before a) (pulls_of_atom after a)
atoms_stay before after old new full later (local None e) fits = constant_stays (lens_of before.trace.states) (lens_of after.trace.states) (constant_truth e)
atoms_stay before after old new full later (local (Some p) e) fits =
    stay_one (lens_of before.trace.states) _ _
    (local_stays before.trace.states after.trace.states before.watch_process before.watch_rows after.watch_rows p e (has_grown_at before after old new full later p (there before old p fits.1))
    (fits_process before p e fits.2))
atoms_stay before after old new full later (at_most p q k) fits =
    stay_one (lens_of before.trace.states) _ _ (at_most_stays before.trace.states after.trace.states p q k later.events)
atoms_stay before after old new full later (at_least p q k) fits =
    stay_one (lens_of before.trace.states) _ _ (at_least_stays before.trace.states after.trace.states p q k later.events)
atoms_stay before after old new full later never fits = constant_stays (lens_of before.trace.states) (lens_of after.trace.states) false
atoms_stay before after old new full later (diff_at_most p x q y k) fits =
    stay_one (lens_of before.trace.states) _ _
    (counter_growing.at_most_stays before.trace.states after.trace.states (counter p x) (counter q y) k (more_events before after later) old.whole new.whole (is_variable before old p x fits.0) (is_variable before old q y fits.1))
atoms_stay before after old new full later (diff_at_least p x q y k) fits =
    stay_one (lens_of before.trace.states) _ _
    (counter_growing.at_least_stays before.trace.states after.trace.states (counter p x) (counter q y) k (more_events before after later) old.whole new.whole (is_variable before old p x fits.0) (is_variable before old q y fits.1))

pub orders_stay : (before after : Observed) → IsTrace before.trace.states → IsTrace after.trace.states → AreFull before → IsLater before after → OrderStays before after
orders_stay before after old new full later = record {
  order = order_stays (clocks_seen before) (clocks_seen after) later.clocks;
  atoms = λ a fits.
      subst (λ (lens : List ℕ). AllStay lens (pulls_of_atom before a) (pulls_of_atom after a)) (sym (lens_same before old)) (atoms_stay before after old new full later a fits);
}
