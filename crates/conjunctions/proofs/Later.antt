-- Rows of conjunctions of atoms may be begun from by those of a later trace.
use Rattle.std.proofs.Common.{◌≡◌, ℕ, suc, zero, ◌+◌, ◌<◌, ◌≤◌, Bool, true, false, List, [], ◌∷◌, ◌++◌, length, get_or, sum, take, flat_map, Some, None, refl, sym, ◌∙◌, ap, subst, arith, length-append}
use Rattle.std.specs.Prelude.{slice_index_or}
use Rattle.std.proofs.lemmas.List.Concat.{flat_map-cons}
use Rattle.run_model.proofs.Counts.{length-lengths}
use Rattle.trace_growth.specs.Growing.{IsTrace}
use Rattle.pull_system.specs.declared.pull.Pull.{Pull}
use Rattle.pull_system.specs.System.{no_pull}
use Rattle.pull_system.specs.Vector.{IsAtMost}
use Rattle.pull_system.specs.Rows.{RowsView, row_at}
use Rattle.slice_workers.specs.Views.{SettledView}
use Rattle.pull_system.specs.Growth.{DidNotFall, PullGrows, Grows}
use Rattle.raise_machine.proofs.Raising.{grown_bounds}
use Rattle.slice_workers.proofs.Firsts.{first_final}
use Rattle.slice_graph.specs.PullLists.{pulls_of_order}
use Rattle.slice_graph.proofs.OrderGrowing.{lengths_grow, order_count, order_each}
use Rattle.rctl_parts.specs.Pieces.{Atom, Piece, Pieces, none, more, listed, atom, temporal, local, at_most, at_least, never, diff_at_most, diff_at_least}
use Rattle.rctl_parts.specs.MadeFor.{Scope, AtomFits, PieceFits, PiecesFit, EachFits, AllFit}
use Rattle.local_preds.specs.LocalPulls.{never_pull, constant_pulls_of}
use Rattle.local_preds.specs.LocalRuns.{constant_truth}
use Rattle.local_preds.proofs.Growing.{local_grows, never_grows}
use Rattle.channel_preds.specs.Truth.{lens_of}
use Rattle.channel_preds.proofs.Growing.{at_most_grows, at_least_grows, lens-get_or}
use Rattle.part_pulls.specs.declared.observed.Observed.{Observed}
use Rattle.part_pulls.specs.Observing.{clocks_seen, lens_seen, scope_seen, AreFull}
use Rattle.conjunctions.specs.Numbering.{within, within_operand, conjunctions_in, all_conjunctions}
use Rattle.part_pulls.specs.Systems.{pulls_of_atom, pulls_of_part, pulls_of_parts, system_of}
use Rattle.conjunctions.specs.Settling.{IsSettled, AreSettled, IsFloor, AreFloors}
use Rattle.part_pulls.specs.Later.{IsLater}
use Rattle.part_pulls.proofs.Atoms.{lens_same, there, fits_process, is_variable}
use Rattle.part_pulls.specs.Counters.{AllRise, CountersRise, counter, counters_of_atom, counters_of_part, counters_of_parts}
use Rattle.part_pulls.proofs.Rising.{first_rises, others_rise, left_rises, right_rises}
use Rattle.conjunctions.proofs.EachRising.{EachRises, conjunctions_rise}
use Rattle.counter_preds.proofs.Growing as counter_growing
use Rattle.conjunctions.proofs.Staying.{has_grown_at, more_events, OrderStays, system_stays, orders_stay}
use Rattle.part_pulls.proofs.Readings.{is_order}

-- as many pulls, and each asks for no less
pub record PullsGrow (old lens : List ℕ) (before after : List Pull) : Type 0 where
  pub count : length before ≡ length after
  pub each : (k : ℕ) → k < length after → PullGrows old lens (slice_index_or before k no_pull) (slice_index_or after k no_pull)

pub grow_none : (old lens : List ℕ) → PullsGrow old lens [] []
grow_none old lens = record { count = refl; each = λ k there. absurd (omega arith) }

pub grow_one : (old lens : List ℕ) (p q : Pull) → PullGrows old lens p q → PullsGrow old lens (p ∷ []) (q ∷ [])
grow_one old lens p q grows = record { count = refl; each = at }
  where
    at : (k : ℕ) → k < 1 → PullGrows old lens (slice_index_or (p ∷ []) k no_pull) (slice_index_or (q ∷ []) k no_pull)
    at zero there = grows
    at (suc k) there = absurd (omega arith)

tail : (old lens : List ℕ) (p q : Pull) (ps qs : List Pull) → PullsGrow old lens (p ∷ ps) (q ∷ qs) → PullsGrow old lens ps qs
tail old lens p q ps qs grows = record { count = let h = grows.count in omega arith; each = λ k there. grows.each (suc k) (omega arith) }

pub grow_on : (old lens : List ℕ) (ps qs rs ts : List Pull) → PullsGrow old lens ps qs → PullsGrow old lens rs ts → PullsGrow old lens (ps ++ rs) (qs ++ ts)
grow_on old lens [] [] rs ts left right = right
grow_on old lens [] (q ∷ qs) rs ts left right = absurd (let h = left.count in omega arith)
grow_on old lens (p ∷ ps) [] rs ts left right = absurd (let h = left.count in omega arith)
grow_on old lens (p ∷ ps) (q ∷ qs) rs ts left right =
    let others = grow_on old lens ps qs rs ts (tail old lens p q ps qs left) right in
    record { count = ap suc others.count; each = at others }
  where
    at : PullsGrow old lens (ps ++ rs) (qs ++ ts) → (k : ℕ) → k < length ((q ∷ qs) ++ ts) → PullGrows old lens (slice_index_or ((p ∷ ps) ++ rs) k no_pull) (slice_index_or ((q ∷ qs) ++ ts) k no_pull)
    at others zero there = left.each 0 (omega arith)
    at others (suc k) there = others.each k (omega arith)

-- the pulls of two runs: of the order, and of each atom that is made for them
pub record OrderGrows (before after : Observed) : Type 0 where
  pub fell : DidNotFall (lens_seen before) (lens_seen after)
  pub order : PullsGrow (lens_seen before) (lens_seen after) (pulls_of_order (clocks_seen before)) (pulls_of_order (clocks_seen after))
  pub atoms : (a : Atom) → AtomFits (scope_seen before) a → AllRise after (counters_of_atom a) → PullsGrow (lens_seen before) (lens_seen after) (pulls_of_atom before a) (pulls_of_atom after a)

part_grows : (before after : Observed) → OrderGrows before after → (p : Piece) → PieceFits (scope_seen before) p → AllRise after (counters_of_part p)
    → PullsGrow (lens_seen before) (lens_seen after) (pulls_of_part before p) (pulls_of_part after p)
part_grows before after grows (atom a) fits rise = grows.atoms a fits rise
part_grows before after grows (temporal operator ps) fits rise = grow_none (lens_seen before) (lens_seen after)

parts_grow : (before after : Observed) → OrderGrows before after → (ps : List Piece) → EachFits (scope_seen before) ps → AllRise after (counters_of_parts ps)
    → PullsGrow (lens_seen before) (lens_seen after) (pulls_of_parts before ps) (pulls_of_parts after ps)
parts_grow before after grows [] fits rise = grow_none (lens_seen before) (lens_seen after)
parts_grow before after grows (p ∷ ps) fits rise =
    grow_on (lens_seen before) (lens_seen after) (pulls_of_part before p) (pulls_of_part after p) (pulls_of_parts before ps) (pulls_of_parts after ps)
    (part_grows before after grows p fits.0 (first_rises after p ps rise)) (parts_grow before after grows ps fits.1 (others_rise after p ps rise))

pub system_grows : (before after : Observed) → OrderGrows before after → (ps : List Piece) → EachFits (scope_seen before) ps → AllRise after (counters_of_parts ps) → Grows (system_of before ps) (system_of after ps)
system_grows before after grows ps fits rise =
    let all = grow_on (lens_seen before) (lens_seen after) (pulls_of_order (clocks_seen before)) (pulls_of_order (clocks_seen after)) (pulls_of_parts before ps) (pulls_of_parts after ps)
    grows.order (parts_grow before after grows ps fits rise) in
    record { fell = grows.fell; count = all.count; each = all.each }

-- of two runs, the later asks for no less, and for no more where what was there met it
record RunGrows (before after : Observed) : Type 0 where
  grows : OrderGrows before after
  stays : OrderStays before after

kept_floor : (before after : Observed) → RunGrows before after → (ps : List Piece) (rows : RowsView) → EachFits (scope_seen before) ps → AllRise after (counters_of_parts ps) → IsSettled before ps rows → IsFloor after ps rows
kept_floor before after run ps rows fits rise settled = record {
  fell = subst (λ (lens : List ℕ). DidNotFall lens (lens_seen after)) (sym settled.lens) run.grows.fell;
  floor = λ atoms.
      grown_bounds (system_of before ps) (system_of after ps) (settled.system atoms) (system_grows before after run.grows ps fits rise) rows settled.lens (settled.least atoms);
  stays = λ atoms. record {
    each = λ process count there some few within.
        first_final (system_of before ps) (system_of after ps) (settled.system atoms) (system_grows before after run.grows ps fits rise) (system_stays before after run.stays ps fits) rows settled.lens
        (settled.least atoms) process count (omega (arith, there, run.grows.fell.count)) some (omega (arith, few, ap (λ (lens : List ℕ). get_or lens process 0) settled.lens))
        (subst (λ (lens : List ℕ). IsAtMost (row_at lens rows.words (sum (take process lens) + count)) lens) settled.lens within);
  };
}

kept_floors : (before after : Observed) → RunGrows before after → (cs : List (List Piece)) (rows : List SettledView) → AllFit (scope_seen before) cs → EachRises after cs → AreSettled before cs rows
    → AreFloors after rows cs
kept_floors before after run [] [] fits rise h = tt
kept_floors before after run [] (r ∷ rows) fits rise h = tt
kept_floors before after run (c ∷ cs) [] fits rise h = tt
kept_floors before after run (c ∷ cs) (r ∷ rows) fits rise h = (kept_floor before after run c r.rows fits.0 rise.0 h.0, kept_floors before after run cs rows fits.1 rise.1 h.1)

-- ---- each conjunction is made for what the formula is made for

fits_joined : (scope : Scope) (xs ys : List (List Piece)) → AllFit scope xs → AllFit scope ys → AllFit scope (xs ++ ys)
fits_joined scope [] ys left right = right
fits_joined scope (x ∷ xs) ys left right = (left.0, fits_joined scope xs ys left.1 right)

listed_fits : (scope : Scope) (ps : Pieces) → PiecesFit scope ps → EachFits scope (listed ps)
listed_fits scope none h = tt
listed_fits scope (more p ps) h = (h.0, listed_fits scope ps h.1)

mutual
  within_fits : (scope : Scope) (p : Piece) → PieceFits scope p → AllFit scope (within p)
  within_fits scope (atom a) h = tt
  within_fits scope (temporal operator ps) h = fits_joined scope (within_operand ps) (listed ps ∷ []) (operand_within_fits scope ps h.1) (listed_fits scope ps h.1, tt)

  operand_within_fits : (scope : Scope) (ps : Pieces) → PiecesFit scope ps → AllFit scope (within_operand ps)
  operand_within_fits scope none h = tt
  operand_within_fits scope (more p ps) h = fits_joined scope (within p) (within_operand ps) (within_fits scope p h.0) (operand_within_fits scope ps h.1)

all_within_fit : (scope : Scope) (ps : List Piece) → EachFits scope ps → AllFit scope (flat_map within ps)
all_within_fit scope [] h = tt
all_within_fit scope (p ∷ ps) h =
    subst (AllFit scope) (sym (flat_map-cons within p ps)) (fits_joined scope (within p) (flat_map within ps) (within_fits scope p h.0) (all_within_fit scope ps h.1))

conjunctions_fit : (scope : Scope) (ds : List (List Piece)) → AllFit scope ds → AllFit scope (all_conjunctions ds)
conjunctions_fit scope [] h = tt
conjunctions_fit scope (d ∷ ds) h =
    subst (AllFit scope) (sym (flat_map-cons conjunctions_in d ds))
    (fits_joined scope (conjunctions_in d) (all_conjunctions ds) (fits_joined scope (flat_map within d) (d ∷ []) (all_within_fit scope d h.0) (h.0, tt)) (conjunctions_fit scope ds h.1))

-- ---- what was observed later asks for no less

never_grow : (old lens : List ℕ) → get_or old 0 0 ≤ get_or lens 0 0 → (value : Bool) → PullsGrow old lens (constant_pulls_of old value) (constant_pulls_of lens value)
never_grow old lens longer true = grow_none old lens
never_grow old lens longer false = grow_one old lens (never_pull old) (never_pull lens) (never_grows old lens longer)

longer_first : (before after : Observed) → IsLater before after → get_or (lens_of before.trace.states) 0 0 ≤ get_or (lens_of after.trace.states) 0 0
longer_first before after later =
    let more = later.events.each 0 in
    omega (arith, lens-get_or before.trace.states.events 0, lens-get_or after.trace.states.events 0, ap length more.1, length-append (get_or before.trace.states.events 0 []) more.0)

atoms_grow : (before after : Observed) → IsTrace before.trace.states → IsTrace after.trace.states → AreFull before → IsLater before after → (a : Atom) → AtomFits (scope_seen before) a → AllRise after (counters_of_atom a)
    → PullsGrow (lens_of before.trace.states) (lens_of after.trace.states) (pulls_of_atom before a) (pulls_of_atom after a)
atoms_grow before after old new full later (local None e) fits rise = never_grow (lens_of before.trace.states) (lens_of after.trace.states) (longer_first before after later) (constant_truth e)
atoms_grow before after old new full later (local (Some p) e) fits rise =
    grow_one (lens_of before.trace.states) (lens_of after.trace.states) _ _
    (local_grows before.trace.states after.trace.states before.watch_process before.watch_rows after.watch_rows p e (has_grown_at before after old new full later p (there before old p fits.1))
    (fits_process before p e fits.2))
atoms_grow before after old new full later (at_most p q k) fits rise =
    grow_one (lens_of before.trace.states) (lens_of after.trace.states) _ _ (at_most_grows before.trace.states after.trace.states p q k later.events)
atoms_grow before after old new full later (at_least p q k) fits rise =
    grow_one (lens_of before.trace.states) (lens_of after.trace.states) _ _ (at_least_grows before.trace.states after.trace.states p q k later.events)
atoms_grow before after old new full later never fits rise = never_grow (lens_of before.trace.states) (lens_of after.trace.states) (longer_first before after later) false
atoms_grow before after old new full later (diff_at_most p x q y k) fits rise =
    grow_one (lens_of before.trace.states) (lens_of after.trace.states) _ _
    (counter_growing.at_most_grows before.trace.states after.trace.states (counter p x) (counter q y) k (more_events before after later) old.whole new.whole (is_variable before old p x fits.0) (is_variable before old q y fits.1)
    (left_rises after (counter p x) (counter q y) rise) (right_rises after (counter p x) (counter q y) rise))
atoms_grow before after old new full later (diff_at_least p x q y k) fits rise =
    grow_one (lens_of before.trace.states) (lens_of after.trace.states) _ _
    (counter_growing.at_least_grows before.trace.states after.trace.states (counter p x) (counter q y) k (more_events before after later) old.whole new.whole (is_variable before old p x fits.0) (is_variable before old q y fits.1)
    (left_rises after (counter p x) (counter q y) rise) (right_rises after (counter p x) (counter q y) rise))

pub order_grows : (before after : Observed) → IsTrace before.trace.states → IsTrace after.trace.states → AreFull before → IsLater before after → OrderGrows before after
order_grows before after old new full later = record {
  fell = record {
    count = length-lengths (clocks_seen before) ∙ sym later.clocks.count ∙ sym (length-lengths (clocks_seen after));
    each = lengths_grow (clocks_seen before) (clocks_seen after) later.clocks;
  };
  order = record {
    count = order_count (clocks_seen before) (clocks_seen after) later.clocks;
    each = order_each (clocks_seen before) (clocks_seen after) (is_order after new) later.clocks;
  };
  atoms = λ a fits rise.
      subst (λ (lens : List ℕ). PullsGrow (lens_seen before) lens (pulls_of_atom before a) (pulls_of_atom after a)) (sym (lens_same after new))
      (subst (λ (lens : List ℕ). PullsGrow lens (lens_of after.trace.states) (pulls_of_atom before a) (pulls_of_atom after a)) (sym (lens_same before old)) (atoms_grow before after old new full later a fits rise));
}

-- rows that were settled are rows from which the same conjunctions may begin later
pub settled_are_floors : (before after : Observed) (ds : List (List Piece)) (rows : List SettledView) → IsTrace before.trace.states → IsTrace after.trace.states → AreFull before → IsLater before after
    → AllFit (scope_seen before) ds → CountersRise after ds → AreSettled before (all_conjunctions ds) rows → AreFloors after rows (all_conjunctions ds)
settled_are_floors before after ds rows old new full later fits rise settled =
    kept_floors before after (record { grows = order_grows before after old new full later; stays = orders_stay before after old new full later }) (all_conjunctions ds) rows (conjunctions_fit (scope_seen before) ds fits) (conjunctions_rise after ds rise) settled
