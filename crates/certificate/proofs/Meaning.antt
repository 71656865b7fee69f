-- A consistent cut is closed under what a part asks exactly where the part is true.
use Rattle.std.proofs.Common.{◌≡◌, ℕ, ◌+◌, ◌<◌, List, [], ◌∷◌, ◌++◌, length, flat_map, sym, ap, subst, arith}
use Rattle.std.specs.Prelude.{◌↔◌}
use Rattle.std.proofs.lemmas.List.Concat.{flat_map-cons}
use Rattle.run_model.specs.Cut.{Cut}
use Rattle.run_model.specs.Consistent.{IsConsistent}
use Rattle.run_model.specs.Slice.{Cuts}
use Rattle.run_model.specs.Formula.{Formula, And}
use Rattle.run_model.proofs.Counts.{length-lengths}
use Rattle.run_model.specs.Meaning.{Sat, SatAll}
use Rattle.trace_growth.specs.Growing.{IsTrace}
use Rattle.pull_system.specs.declared.pull.Pull.{Pull}
use Rattle.pull_system.specs.System.{SystemView, IsClosed}
use Rattle.pull_system.specs.Pulls.{ClosedUnder}
use Rattle.pull_system.proofs.PullLists.{closed_under, closed_left, closed_right, closed_both}
use Rattle.slice_graph.specs.Views.{SliceView, slice_of}
use Rattle.slice_graph.specs.Fitting.{ClosedCuts}
use Rattle.slice_graph.specs.PullLists.{pulls_of_order, pulls_of_slice}
use Rattle.slice_graph.proofs.OrderPulls.{order_closed}
use Rattle.slice_graph.proofs.SlicePulls.{slice_closed}
use Rattle.temporal_slice.proofs.NextPulls.{next_closed}
use Rattle.rctl_grammar.specs.declared.tree.Operator.{Operator}
use Rattle.rctl_grammar.specs.declared.tree.Operator.TheVariants as operator
use Rattle.rctl_parts.specs.Pieces.{Piece, Pieces, atom, temporal, none, more}
use Rattle.rctl_parts.specs.MadeFor.{OperatorFits, PieceFits, PiecesFit}
use Rattle.rctl_parts.specs.Spelled.{formula_of, formulas_of, operated}
use Rattle.part_pulls.specs.declared.observed.Observed.{Observed}
use Rattle.part_pulls.specs.Observing.{Reading, AreAnswers, clocks_seen, run_seen, names_seen, scope_seen}
use Rattle.part_pulls.specs.Operating.{Operated}
use Rattle.part_pulls.specs.Counters.{AllRise, counters_of_part, counters_of_operand}
use Rattle.part_pulls.proofs.Atoms.{meaning}
use Rattle.part_pulls.proofs.Operators.{operated_means, processes_fit}
use Rattle.part_pulls.proofs.Readings.{is_order}
use Rattle.part_pulls.proofs.Rising.{rise_left, rise_right}
use Rattle.part_pulls.proofs.Slices.{cut_is}
use Rattle.certificate_nodes.specs.declared.plan.Asked.{Asked}
use Rattle.certificate_nodes.specs.declared.plan.Asked.TheVariants as asked
use Rattle.certificate_nodes.specs.declared.plan.Node.{Node}
use Rattle.certificate_nodes.specs.declared.plan.Plan.{Plan}
use Rattle.certificate_nodes.specs.Plans.{node_at, slice_at, pulls_given, pulls_asked, system_of}
use Rattle.certificate_nodes.specs.Given.{SlicedBy, IsGiven, AreGiven}
use Rattle.certificate.specs.Numbering.{nodes_of, operand_nodes, asked_by, asked_by_all, nodes_in, nodes_in_all, operand_node}
use Rattle.certificate.proofs.Standing.{Stand, stand_left, stand_right, stand_there, stand_at, count_in, count_all}

-- ---- one conjunction

-- a consistent cut is closed under the system of a conjunction exactly where it is closed under what its parts ask
pub closed_parts : (seen : Observed) → IsTrace seen.trace.states → (plan : Plan) (slices : List SliceView) (parts : List Asked) (c : Cut) → IsConsistent (clocks_seen seen) c
    → IsClosed (system_of (clocks_seen seen) plan slices parts) c ↔ ClosedUnder (flat_map (pulls_asked plan slices) parts) c
closed_parts seen trace plan slices parts c consistent =
    let o = clocks_seen seen in
    let asked = flat_map (pulls_asked plan slices) parts in
    let whole = closed_under (system_of o plan slices parts) c in
    let ordered = (order_closed o (is_order seen trace) c consistent.shaped consistent.within).1 consistent in
    (λ h. closed_right (pulls_of_order o) asked c (whole.0 h), λ h. whole.1 (closed_both (pulls_of_order o) asked c ordered h))

-- the slice of an operand gives what its operator asks
pub given_means : (seen : Observed) → IsTrace seen.trace.states → (reading : Reading) (kind : Operator) (f : Formula) (system : SystemView) (slice : SliceView) → OperatorFits (scope_seen seen) kind
    → IsGiven (clocks_seen seen) kind system slice → ((d : Cut) → IsConsistent (clocks_seen seen) d → IsClosed system d ↔ Sat (run_seen seen reading) f d)
    → (c : Cut) → IsConsistent (clocks_seen seen) c → ClosedUnder (pulls_given kind slice) c ↔ Sat (run_seen seen reading) (operated (names_seen seen reading) kind f) c
given_means seen trace reading kind f system slice fits given same c consistent = by_operator kind fits given.cuts
  where
    closed : (d : Cut) → IsConsistent (clocks_seen seen) d → ClosedCuts (clocks_seen seen) system d ↔ Sat (run_seen seen reading) f d
    closed d is = (λ h. (same d is).0 h.1, λ h. (is, (same d is).1 h))

    -- EF, AG and EG ask by the slice of their own cuts
    own : (k : Operator) → OperatorFits (scope_seen seen) k → (Cuts (clocks_seen seen) (slice_of slice) c ↔ Operated k (clocks_seen seen) (ClosedCuts (clocks_seen seen) system) c)
        → ClosedUnder (pulls_of_slice slice) c ↔ Sat (run_seen seen reading) (operated (names_seen seen reading) k f) c
    own k fit cuts =
        let asks = slice_closed (clocks_seen seen) slice given.fits given.rows c (cut_is (clocks_seen seen) slice given.fits c consistent) in
        let means = operated_means seen trace k f (ClosedCuts (clocks_seen seen) system) fit reading closed c in
        (λ h. means.0 (cuts.0 (asks.0 h)), λ h. asks.1 (cuts.1 (means.1 h)))

    by_operator : (k : Operator) → OperatorFits (scope_seen seen) k → ((d : Cut) → IsConsistent (clocks_seen seen) d → Cuts (clocks_seen seen) (slice_of slice) d ↔ SlicedBy k (clocks_seen seen) (ClosedCuts (clocks_seen seen) system) d)
        → ClosedUnder (pulls_given k slice) c ↔ Sat (run_seen seen reading) (operated (names_seen seen reading) k f) c
    by_operator operator.Ef fit cuts = own operator.Ef fit (cuts c consistent)
    by_operator operator.Ag fit cuts = own operator.Ag fit (cuts c consistent)
    by_operator operator.Eg fit cuts = own operator.Eg fit (cuts c consistent)
    by_operator (operator.Ex process) fit cuts =
        let there : process < length slice.lens = omega (arith, processes_fit seen trace (operator.Ex process) fit, ap length given.fits.shape, length-lengths (clocks_seen seen)) in
        let asks = next_closed (clocks_seen seen) slice given.fits given.rows process there c consistent in
        let means = operated_means seen trace (operator.Ex process) f (Cuts (clocks_seen seen) (slice_of slice)) fit reading
        (λ d is. (λ h. (closed d is).0 ((cuts d is).0 h), λ h. (cuts d is).1 ((closed d is).1 h))) c in
        (λ h. means.0 (asks.0 h), λ h. asks.1 (means.1 h))
    by_operator operator.Af fit cuts = absurd fit
    by_operator operator.Ax fit cuts = absurd fit

-- ---- parts, by induction

-- what stands of the nodes of a plan, and the names that formulas are spelled with
pub record Given (seen : Observed) (plan : Plan) (slices : List SliceView) (reading : Reading) : Type 0 where
  pub trace : IsTrace seen.trace.states
  pub given : AreGiven (clocks_seen seen) plan slices
  pub all : length slices ≡ length plan.nodes
  pub answers : AreAnswers seen reading

-- by the node of its operand
node_means : (seen : Observed) (plan : Plan) (slices : List SliceView) (reading : Reading) → Given seen plan slices reading → (kind : Operator) (ps : Pieces) (parts : List Asked) (number : ℕ)
    → OperatorFits (scope_seen seen) kind → Stand plan.nodes number (record { operator = kind; parts = parts } ∷ [])
    → ((d : Cut) → IsConsistent (clocks_seen seen) d → ClosedUnder (flat_map (pulls_asked plan slices) parts) d ↔ SatAll (run_seen seen reading) (formulas_of (names_seen seen reading) ps) d)
    → (c : Cut) → IsConsistent (clocks_seen seen) c
    → ClosedUnder (pulls_asked plan slices (asked.Inner number)) c ↔ Sat (run_seen seen reading) (formula_of (names_seen seen reading) (temporal kind ps)) c
node_means seen plan slices reading stands kind ps parts number fits here same c consistent =
    subst (λ (n : Node). ClosedUnder (pulls_given n.operator (slice_at slices number)) c ↔ Sat (run_seen seen reading) (formula_of (names_seen seen reading) (temporal kind ps)) c) (sym node) means
  where
    node : node_at plan number ≡ record { operator = kind; parts = parts }
    node = stand_at plan.nodes number (record { operator = kind; parts = parts }) here

    there : number < length slices
    there = omega (arith, stands.all, stand_there plan.nodes number (record { operator = kind; parts = parts }) here)

    given : IsGiven (clocks_seen seen) kind (system_of (clocks_seen seen) plan slices parts) (slice_at slices number)
    given = subst (λ (n : Node). IsGiven (clocks_seen seen) n.operator (system_of (clocks_seen seen) plan slices n.parts) (slice_at slices number)) node (stands.given.each number there)

    means : ClosedUnder (pulls_given kind (slice_at slices number)) c ↔ Sat (run_seen seen reading) (formula_of (names_seen seen reading) (temporal kind ps)) c
    means =
        given_means seen stands.trace reading kind (And (formulas_of (names_seen seen reading) ps)) (system_of (clocks_seen seen) plan slices parts) (slice_at slices number) fits given
        (λ d is.
        let closed = closed_parts seen stands.trace plan slices parts d is in
        let parts_same = same d is in
        (λ h. parts_same.0 (closed.0 h), λ h. closed.1 (parts_same.1 h)))
        c consistent

mutual
  pub part_means : (seen : Observed) (plan : Plan) (slices : List SliceView) (reading : Reading) → Given seen plan slices reading → (p : Piece) (before : ℕ) → PieceFits (scope_seen seen) p
      → AllRise seen (counters_of_part p) → Stand plan.nodes before (nodes_in seen before p) → (c : Cut) → IsConsistent (clocks_seen seen) c
      → ClosedUnder (pulls_asked plan slices (asked_by seen before p)) c ↔ Sat (run_seen seen reading) (formula_of (names_seen seen reading) p) c
  part_means seen plan slices reading stands (atom a) before fits rise here c consistent = meaning seen stands.trace a fits rise reading stands.answers c consistent
  part_means seen plan slices reading stands (temporal kind ps) before fits rise here c consistent =
      node_means seen plan slices reading stands kind ps (asked_by_all seen before ps) (before + operand_nodes ps) fits.0
      (stand_right plan.nodes before (operand_nodes ps) (nodes_in_all seen before ps) (operand_node seen before (temporal kind ps)) (count_all seen before ps) here)
      (λ d is. all_mean seen plan slices reading stands ps before fits.1 rise (stand_left plan.nodes before (nodes_in_all seen before ps) (operand_node seen before (temporal kind ps)) here) d is)
      c consistent

  pub all_mean : (seen : Observed) (plan : Plan) (slices : List SliceView) (reading : Reading) → Given seen plan slices reading → (ps : Pieces) (before : ℕ) → PiecesFit (scope_seen seen) ps
      → AllRise seen (counters_of_operand ps) → Stand plan.nodes before (nodes_in_all seen before ps) → (c : Cut) → IsConsistent (clocks_seen seen) c
      → ClosedUnder (flat_map (pulls_asked plan slices) (asked_by_all seen before ps)) c ↔ SatAll (run_seen seen reading) (formulas_of (names_seen seen reading) ps) c
  all_mean seen plan slices reading stands none before fits rise here c consistent = (λ h. tt, λ h. λ k d there. absurd (omega arith))
  all_mean seen plan slices reading stands (more p ps) before fits rise here c consistent =
      let first = part_means seen plan slices reading stands p before fits.0 (rise_left seen (counters_of_part p) (counters_of_operand ps) rise)
      (stand_left plan.nodes before (nodes_in seen before p) (nodes_in_all seen (before + nodes_of p) ps) here) c consistent in
      let others = all_mean seen plan slices reading stands ps (before + nodes_of p) fits.1 (rise_right seen (counters_of_part p) (counters_of_operand ps) rise)
      (stand_right plan.nodes before (nodes_of p) (nodes_in seen before p) (nodes_in_all seen (before + nodes_of p) ps) (count_in seen before p) here) c consistent in
      let one = pulls_asked plan slices (asked_by seen before p) in
      let rest = flat_map (pulls_asked plan slices) (asked_by_all seen (before + nodes_of p) ps) in
      let cons : flat_map (pulls_asked plan slices) (asked_by_all seen before (more p ps)) ≡ one ++ rest =
      flat_map-cons (pulls_asked plan slices) (asked_by seen before p) (asked_by_all seen (before + nodes_of p) ps) in
      subst (λ (pulls : List Pull). ClosedUnder pulls c ↔ SatAll (run_seen seen reading) (formulas_of (names_seen seen reading) (more p ps)) c) (sym cons)
      (λ h. (first.0 (closed_left one rest c h), others.0 (closed_right one rest c h)), λ h. closed_both one rest c (first.1 h.0) (others.1 h.1))
