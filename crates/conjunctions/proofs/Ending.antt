-- A conjunction once all of its parts were added.
use Rattle.std.proofs.Common.{◌≡◌, ℕ, ◌-◌, ◌*◌, ◌<◌, ◌≤◌, Bool, true, false, List, [], ◌∷◌, ◌++◌, length, All, Some, refl, sym, ◌∙◌, ap, subst, arith}
use Rattle.std.specs.Prelude.{◌&&◌}
use Rattle.std.proofs.lemmas.List.{length-map}
use Rattle.std.proofs.lemmas.List.Elements.{All-append}
use Rattle.std.proofs.Math.Nat.{mul-le-mul}
use Rattle.run_model.specs.Cut.{Clocks, lengths}
use Rattle.pota_base.specs.Limits.{most_parts, most_processes}
use Rattle.trace_growth.specs.Growing.{IsTrace}
use Rattle.pull_system.specs.declared.pull.Pull.{Pull}
use Rattle.pull_system.specs.System.{IsPull}
use Rattle.pull_system.specs.Rows.{RowsView}
use Rattle.slice_workers.specs.Spent.{spent_of}
use Rattle.slice_workers.specs.Views.{SettledView}
use Rattle.pull_system.specs.Growth.{DidNotFall, grown_words}
use Rattle.raise_machine.specs.Bounds.{AreBounds}
use Rattle.slice_graph.specs.Views.{SliceView}
use Rattle.slice_graph.specs.Fitting.{HasOrder}
use Rattle.slice_graph.specs.PullLists.{pulls_of_order}
use Rattle.slice_graph.proofs.OrderPulls.{order_pulls_fit, order_pulls_count, order_closed}
use Rattle.rctl_parts.specs.declared.part.Part.{Part}
use Rattle.rctl_parts.specs.Pieces.{Piece, atom, temporal, piece_of, pieces_of}
use Rattle.rctl_parts.specs.MadeFor.{parts_count}
use Rattle.event_log.specs.declared.log.Event.{Event}
use Rattle.part_pulls.specs.declared.observed.Observed.{Observed}
use Rattle.part_pulls.specs.Observing.{clocks_seen, lens_seen}
use Rattle.part_pulls.specs.Systems.{is_atom, pulls_of_parts}
use Rattle.conjunctions.specs.Numbering.{all_atoms}
use Rattle.conjunctions.specs.inside.Numbering.{gives_order}
use Rattle.conjunctions.specs.Counting.{rooms_of, first_of}
use Rattle.conjunctions.specs.Rounds.{RoundView}
use Rattle.conjunctions.specs.inside.Gathering.{AddsPulls, first_pulls}
use Rattle.conjunctions.specs.inside.Beginning.{BeginsWithOrder}
use Rattle.conjunctions.specs.Settling.{CutsStay, AreFloors}
use Rattle.conjunctions.specs.inside.Settling.{CanBegin, SettlesOne, conjoined_of}
use Rattle.conjunctions.proofs.Settled.{AreFirstPulls, few_pulls, has_order}
use Rattle.conjunctions.proofs.Adding.{closed_none}
use Rattle.part_pulls.proofs.Atoms.{lens_same}
use Rattle.part_pulls.proofs.Readings.{is_order}
use Rattle.conjunctions.proofs.Ordering.{atoms_give_none}

pub first_pulls_are : (seen : Observed) → IsTrace seen.trace.states → (gives : Bool) → AreFirstPulls (clocks_seen seen) gives
first_pulls_are seen trace true = record {
  fit = λ k d there. absurd (omega arith);
  count = omega arith;
  closed = λ c consistent. closed_none c;
  orders = λ is. absurd (cc);
}
first_pulls_are seen trace false = record {
  fit = order_pulls_fit (clocks_seen seen) (is_order seen trace);
  count = omega (arith, order_pulls_count (clocks_seen seen));
  closed = λ c consistent. (order_closed (clocks_seen seen) (is_order seen trace) c consistent.shaped consistent.within).1 consistent;
  orders = λ is c shaped within. (order_closed (clocks_seen seen) (is_order seen trace) c shaped within).0;
}

-- ---- the requirements of a system

pub pulls_fit : (seen : Observed) → IsTrace seen.trace.states → (pulls : List Pull) (ps : List Piece) → AddsPulls seen (first_pulls (clocks_seen seen) (gives_order ps)) pulls ps
    → (order : Clocks) → order ≡ clocks_seen seen → All (IsPull (lengths order)) pulls
pulls_fit seen trace pulls ps adds order is =
    let P : List Pull → Type 0 = λ list. All (IsPull (lens_seen seen)) list in
    let here : All (IsPull (lens_seen seen)) pulls =
    subst P (sym adds.is) (All-append (IsPull (lens_seen seen)) (first_pulls (clocks_seen seen) (gives_order ps)) adds.added (first_pulls_are seen trace (gives_order ps)).fit adds.fit) in
    subst (λ (o : Clocks). All (IsPull (lengths o)) pulls) (sym is) here

pub pulls_have_order : (seen : Observed) → IsTrace seen.trace.states → (pulls : List Pull) (ps : List Piece) → AddsPulls seen (first_pulls (clocks_seen seen) (gives_order ps)) pulls ps
    → (order : Clocks) → order ≡ clocks_seen seen → HasOrder order (record { lens = lengths order; pulls = pulls })
pulls_have_order seen trace pulls ps adds order is =
    subst (λ (o : Clocks). HasOrder o (record { lens = lengths o; pulls = pulls })) (sym is)
    (has_order seen pulls ps (first_pulls_are seen trace (gives_order ps)) adds)

pub length_count : (ps : List Piece) → length ps ≤ parts_count ps
length_count [] = omega arith
length_count (atom a ∷ ps) = omega (arith, length_count ps)
length_count (temporal o qs ∷ ps) = omega (arith, length_count ps)

few_rooms : (n : ℕ) (ps : List Piece) → n ≤ most_processes → rooms_of n ps ≤ 1024 * length ps
few_rooms n [] h = omega arith
few_rooms n (atom a ∷ ps) h = omega (arith, few_rooms n ps h)
few_rooms n (temporal o qs ∷ ps) h = let square : n * n ≤ most_processes * most_processes = mul-le-mul h h in omega (arith, few_rooms n ps h)

few_processes : (seen : Observed) → IsTrace seen.trace.states → length (lens_seen seen) ≤ most_processes
few_processes seen trace = let few = trace.whole.header.few in omega (arith, ap length (lens_same seen trace), length-map seen.trace.states.events (λ (es : List Event). length es), trace.whole.events)

pub pulls_count : (seen : Observed) → IsTrace seen.trace.states → (pulls : List Pull) (ps : List Piece) → AddsPulls seen (first_pulls (clocks_seen seen) (gives_order ps)) pulls ps
    → parts_count ps ≤ most_parts → length pulls < 4294967296
pulls_count seen trace pulls ps adds few =
    let n = length (lens_seen seen) in
    let small = few_processes seen trace in
    let less : n - 1 ≤ most_processes = omega arith in
    let square : n * (n - 1) ≤ most_processes * most_processes = mul-le-mul {n₁ = n} {m₁ = n - 1} {n₂ = most_processes} {m₂ = most_processes} small less in
    let rooms = few_rooms n ps small in
    let bound = few_pulls seen pulls ps (first_pulls_are seen trace (gives_order ps)) adds in
    omega (arith, length_count ps)

-- where all parts are atoms, the pulls begin with those of the order
pub begins_with_order : (seen : Observed) (pulls : List Pull) (ps : List Piece) → AddsPulls seen (first_pulls (clocks_seen seen) (gives_order ps)) pulls ps
    → (order : Clocks) → order ≡ clocks_seen seen → (keeps : Bool) → keeps ≡ all_atoms ps → keeps ≡ true → BeginsWithOrder order pulls
begins_with_order seen pulls ps adds order is keeps keeps_is kept =
    subst (λ (o : Clocks). BeginsWithOrder o pulls) (sym is)
    (record { others = adds.added; is = adds.is ∙ ap (λ b. first_pulls (clocks_seen seen) b ++ adds.added) (atoms_give_none ps (sym keeps_is ∙ kept)) })

-- the rows of before of the conjunction itself
pub can_begin : (seen : Observed) (before : List SettledView) (pulls : List Pull) (ps : List Piece) → AddsPulls seen (first_pulls (clocks_seen seen) (gives_order ps)) pulls ps → AreFloors seen before (ps ∷ [])
    → CanBegin (record { lens = lens_seen seen; pulls = pulls }) (all_atoms ps) (first_of before)
can_begin seen [] pulls ps adds floors = record { fell = record { fell = λ rows keeps is. absurd (cc) }; floor = λ rows keeps is. absurd (cc); stays = λ rows keeps is. absurd (cc) }
can_begin seen (one ∷ before) pulls ps adds floors = record {
  fell = record { fell = λ found keeps is. subst (λ (r : RowsView). DidNotFall r.lens (lens_seen seen)) (same found is) floors.0.fell };
  floor = λ found keeps is.
      let P : List Pull → RowsView → Type 0 = λ list r. AreBounds (record { lens = lens_seen seen; pulls = list }) (grown_words (lens_seen seen) r) in
      subst (λ (r : RowsView). P pulls r) (same found is) (subst (λ (list : List Pull). P list one.rows) (sym (own keeps)) (floors.0.floor keeps));
  stays = λ found keeps is.
      let P : List Pull → RowsView → Type 0 = λ list r. CutsStay (record { lens = lens_seen seen; pulls = list }) r in
      subst (λ (r : RowsView). P pulls r) (same found is) (subst (λ (list : List Pull). P list one.rows) (sym (own keeps)) (floors.0.stays keeps));
}
  where
    own : all_atoms ps ≡ true → pulls ≡ pulls_of_order (clocks_seen seen) ++ pulls_of_parts seen ps
    own keeps = adds.is ∙ ap (λ b. first_pulls (clocks_seen seen) b ++ adds.added) (atoms_give_none ps keeps) ∙ ap (λ list. pulls_of_order (clocks_seen seen) ++ list) (adds.own keeps)

    same : (found : RowsView) → first_of (one ∷ before) ≡ Some found → one.rows ≡ found
    same found is = cc

pub can_begin_by : (seen : Observed) (before : List SettledView) (pulls : List Pull) (ps : List Piece) → AddsPulls seen (first_pulls (clocks_seen seen) (gives_order ps)) pulls ps → AreFloors seen before (ps ∷ [])
    → (order : Clocks) → order ≡ clocks_seen seen → (keeps : Bool) → keeps ≡ all_atoms ps → CanBegin (record { lens = lengths order; pulls = pulls }) keeps (first_of before)
can_begin_by seen before pulls ps adds floors order is keeps keeps_is =
    subst (λ (k : Bool). CanBegin (record { lens = lengths order; pulls = pulls }) k (first_of before)) (sym keeps_is)
    (subst (λ (o : Clocks). CanBegin (record { lens = lengths o; pulls = pulls }) (all_atoms ps) (first_of before)) (sym is) (can_begin seen before pulls ps adds floors))

pub settles_one_by : (seen : Observed) (pulls : List Pull) (ps : List Piece) (workers : ℕ) (old new : RoundView) (s t : ℕ) (slice : SliceView) (order : Clocks) → order ≡ clocks_seen seen
    → (keeps : Bool) → keeps ≡ all_atoms ps → SettlesOne (conjoined_of order pulls keeps) workers old new (spent_of s t) slice → SettlesOne (conjoined_of (clocks_seen seen) pulls (all_atoms ps)) workers old new (spent_of s t) slice
settles_one_by seen pulls ps workers old new s t slice order is keeps keeps_is one =
    subst (λ (k : Bool). SettlesOne (conjoined_of (clocks_seen seen) pulls k) workers old new (spent_of s t) slice) keeps_is
    (subst (λ (o : Clocks). SettlesOne (conjoined_of o pulls keeps) workers old new (spent_of s t) slice) is one)

-- all parts were taken
pub few_parts : (parts : List Part) → parts_count (pieces_of parts) ≤ most_parts → length parts ≤ most_parts
few_parts parts few = omega (arith, length_count (pieces_of parts), length-map parts piece_of)

-- ---- whether all parts are atoms

and_false : (b : Bool) → (b && false) ≡ false
and_false true = refl
and_false false = refl

pub some_temporal : (ps : List Piece) (p : Piece) (later : List Piece) → is_atom p ≡ false → all_atoms (ps ++ p ∷ later) ≡ false
some_temporal [] p later h = ap (λ b. b && all_atoms later) h
some_temporal (q ∷ ps) p later h = ap (λ b. is_atom q && b) (some_temporal ps p later h) ∙ and_false (is_atom q)

pub all_and_one : (ps : List Piece) (p : Piece) → all_atoms ps ≡ true → is_atom p ≡ true → all_atoms (ps ++ p ∷ []) ≡ true
all_and_one [] p all one = ap (λ b. b && true) one
all_and_one (q ∷ ps) p all one = both (is_atom q) (all_atoms ps) (all_atoms (ps ++ p ∷ [])) all (λ h. all_and_one ps p h one)
  where
    both : (a b c : Bool) → (a && b) ≡ true → (b ≡ true → c ≡ true) → (a && c) ≡ true
    both true b c h more = more h
    both false b c h more = h
