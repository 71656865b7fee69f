-- The initial cut is closed under the system of a disjunct exactly where some disjunct is true there.
use Rattle.std.proofs.Common.{◌≡◌, ℕ, zero, suc, ◌+◌, ◌<◌, inl, inr, List, [], ◌∷◌, length, get_or, sym, subst, arith}
use Rattle.std.specs.Prelude.{◌↔◌}
use Rattle.run_model.specs.Cut.{Cut, initial}
use Rattle.run_model.specs.Consistent.{IsConsistent}
use Rattle.run_model.specs.Meaning.{Sat, SatSome}
use Rattle.run_model.proofs.Orders.{initial_consistent}
use Rattle.trace_growth.specs.Growing.{IsTrace}
use Rattle.pull_system.specs.System.{IsClosed}
use Rattle.slice_graph.specs.Views.{SliceView}
use Rattle.rctl_parts.specs.Pieces.{Piece, pieces}
use Rattle.rctl_parts.specs.MadeFor.{EachFits, AllFit, PiecesFit, Scope}
use Rattle.rctl_parts.specs.Spelled.{conjunction_of, conjunctions_of, disjunction_of}
use Rattle.part_pulls.specs.declared.observed.Observed.{Observed}
use Rattle.part_pulls.specs.Observing.{Reading, AreAnswers, clocks_seen, run_seen, names_seen, scope_seen}
use Rattle.part_pulls.specs.Counters.{CountersRise, AllRise, counters_of_parts}
use Rattle.part_pulls.proofs.Rising.{first_disjunct_rises, other_disjuncts_rise, counters_pieces}
use Rattle.certificate_nodes.specs.declared.plan.Asked.{Asked}
use Rattle.certificate_nodes.specs.declared.plan.Plan.{Plan}
use Rattle.certificate_nodes.specs.Plans.{no_parts, system_of}
use Rattle.certificate_nodes.specs.Given.{AreGiven, SomeCloses}
use Rattle.certificate.specs.Numbering.{asked_by_all, nodes_in_all, disjunct_count, disjunct_nodes, disjuncts_asked, plan_of}
use Rattle.certificate.proofs.Standing.{Stand, stand_left, stand_right, stand_all, count_all}
use Rattle.certificate.proofs.Meaning.{Given, closed_parts, all_mean}

pub parts_fit : (scope : Scope) (ps : List Piece) → EachFits scope ps → PiecesFit scope (pieces ps)
parts_fit scope [] h = h
parts_fit scope (p ∷ ps) h = (h.0, parts_fit scope ps h.1)

-- one of the lists of parts has a system under which the cut is closed
abbrev OneCloses : Observed → Plan → List SliceView → List (List Asked) → Cut → Type 0
OneCloses seen plan slices lists c = (number : ℕ) × (number < length lists) × IsClosed (system_of (clocks_seen seen) plan slices (get_or lists number no_parts)) c

-- the system of one disjunct
disjunct_means : (seen : Observed) (plan : Plan) (slices : List SliceView) (reading : Reading) → Given seen plan slices reading → (ps : List Piece) (before : ℕ) → EachFits (scope_seen seen) ps
    → AllRise seen (counters_of_parts ps) → Stand plan.nodes before (nodes_in_all seen before (pieces ps)) → (c : Cut) → IsConsistent (clocks_seen seen) c
    → IsClosed (system_of (clocks_seen seen) plan slices (asked_by_all seen before (pieces ps))) c ↔ Sat (run_seen seen reading) (conjunction_of (names_seen seen reading) ps) c
disjunct_means seen plan slices reading stands ps before fits rise here c consistent =
    let closed = closed_parts seen stands.trace plan slices (asked_by_all seen before (pieces ps)) c consistent in
    let mean = all_mean seen plan slices reading stands (pieces ps) before (parts_fit (scope_seen seen) ps fits) (subst (AllRise seen) (sym (counters_pieces ps)) rise) here c consistent in
    (λ h. mean.0 (closed.0 h), λ h. closed.1 (mean.1 h))

-- the first disjunct, and the others
more_close : (seen : Observed) (plan : Plan) (slices : List SliceView) (reading : Reading) (ps : List Piece) (ds : List (List Piece)) (before : ℕ) (c : Cut)
    → IsClosed (system_of (clocks_seen seen) plan slices (asked_by_all seen before (pieces ps))) c ↔ Sat (run_seen seen reading) (conjunction_of (names_seen seen reading) ps) c
    → OneCloses seen plan slices (disjuncts_asked seen (before + disjunct_count ps) ds) c ↔ SatSome (run_seen seen reading) (conjunctions_of (names_seen seen reading) ds) c
    → OneCloses seen plan slices (disjuncts_asked seen before (ps ∷ ds)) c ↔ SatSome (run_seen seen reading) (conjunctions_of (names_seen seen reading) (ps ∷ ds)) c
more_close seen plan slices reading ps ds before c first others = (λ h. by_number h.0 h.1 h.2, from)
  where
    by_number : (number : ℕ) → number < length (disjuncts_asked seen before (ps ∷ ds))
        → IsClosed (system_of (clocks_seen seen) plan slices (get_or (disjuncts_asked seen before (ps ∷ ds)) number no_parts)) c
        → SatSome (run_seen seen reading) (conjunctions_of (names_seen seen reading) (ps ∷ ds)) c
    by_number zero there closed = inl (first.0 closed)
    by_number (suc number) there closed = inr (others.0 (number, omega (arith, there), closed))

    from : SatSome (run_seen seen reading) (conjunctions_of (names_seen seen reading) (ps ∷ ds)) c → OneCloses seen plan slices (disjuncts_asked seen before (ps ∷ ds)) c
    from h = elim h [
      | inl one ↦ (0, omega arith, first.1 one)
      | inr later ↦ let one = others.1 later in (suc one.0, omega (arith, one.1), one.2)
    ]

some_mean : (seen : Observed) (plan : Plan) (slices : List SliceView) (reading : Reading) → Given seen plan slices reading → (ds : List (List Piece)) (before : ℕ) → AllFit (scope_seen seen) ds
    → CountersRise seen ds → Stand plan.nodes before (disjunct_nodes seen before ds) → (c : Cut) → IsConsistent (clocks_seen seen) c
    → OneCloses seen plan slices (disjuncts_asked seen before ds) c ↔ SatSome (run_seen seen reading) (conjunctions_of (names_seen seen reading) ds) c
some_mean seen plan slices reading stands [] before fits rise here c consistent = (λ h. absurd (omega (arith, h.1)), λ h. absurd h)
some_mean seen plan slices reading stands (ps ∷ ds) before fits rise here c consistent =
    let own = nodes_in_all seen before (pieces ps) in
    let later = disjunct_nodes seen (before + disjunct_count ps) ds in
    more_close seen plan slices reading ps ds before c
    (disjunct_means seen plan slices reading stands ps before fits.0 (first_disjunct_rises seen ps ds rise) (stand_left plan.nodes before own later here) c consistent)
    (some_mean seen plan slices reading stands ds (before + disjunct_count ps) fits.1 (other_disjuncts_rise seen ps ds rise)
    (stand_right plan.nodes before (disjunct_count ps) own later (count_all seen before (pieces ps)) here) c consistent)

-- the truth that is concluded from the slices of all nodes is that of the formula
pub conclusion_true : (seen : Observed) (ds : List (List Piece)) (slices : List SliceView) → IsTrace seen.trace.states → AllFit (scope_seen seen) ds → CountersRise seen ds
    → AreGiven (clocks_seen seen) (plan_of seen ds) slices → length slices ≡ length (plan_of seen ds).nodes → (reading : Reading) → AreAnswers seen reading
    → SomeCloses (clocks_seen seen) (plan_of seen ds) slices ↔ Sat (run_seen seen reading) (disjunction_of (names_seen seen reading) ds) (initial (clocks_seen seen))
conclusion_true seen ds slices trace fits rise given all reading are =
    let stands : Given seen (plan_of seen ds) slices reading = record { trace = trace; given = given; all = all; answers = are } in
    let means = some_mean seen (plan_of seen ds) slices reading stands ds 0 fits rise (stand_all (plan_of seen ds).nodes) (initial (clocks_seen seen)) (initial_consistent (clocks_seen seen)) in
    (λ h. means.0 (h.number, h.there, h.closed), λ h. let one = means.1 h in record { number = one.0; there = one.1; closed = one.2 })
