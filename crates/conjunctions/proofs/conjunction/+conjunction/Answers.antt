use Rattle.std.proofs.Common.{◌≡◌, ℕ, ◌+◌, ◌≤◌, ◌∷◌, [], length, take, flat_map, List, Some, None, Bool, true, false, refl, sym, ◌∙◌, ap, subst, arith}
use Rattle.std.specs.Prelude.{IsTrue, ◌↔◌}
use Rattle.run_model.specs.Cut.{Clocks, initial}
use Rattle.run_model.specs.Slice.{Cuts}
use Rattle.slice_graph.specs.Views.{slice_of}
use Rattle.slice_graph.specs.Fitting.{FitsOrder}
use Rattle.trace_growth.specs.Growing.{IsTrace}
use Rattle.vector_clock.specs.Events.{clocks_of}
use Rattle.rctl_parts.specs.declared.part.Part.{Part}
use Rattle.rctl_parts.specs.Pieces.{Piece, piece_of, pieces_of, pieces, temporal}
use Rattle.rctl_parts.proofs.Folds.{piece-Temporal}
use Rattle.rctl_parts.proofs.Rules as rules_of
use Rattle.std.proofs.lemmas.Result.{IfOk-weaker}
use Rattle.pull_system.specs.declared.pull.Pull.{Pull}
use Rattle.slice_workers.specs.Spent.{spent_of}
use Rattle.rctl_parts.specs.MadeFor.{EachFits, parts_count}
use Rattle.part_pulls.specs.declared.observed.Observed.{Observed}
use Rattle.conjunctions.specs.Rounds.{RoundView, HasOrderSystem}
use Rattle.conjunctions.specs.Settling.{AreFloors, Settles}
use Rattle.conjunctions.specs.inside.Beginning.{GatheredFits}
use Rattle.conjunctions.proofs.Beginning.{gathered_more}
use Rattle.conjunctions.proofs.InTurn.{settles_on}
use Rattle.conjunctions.proofs.Settled.{slice_settled, rows_settled}
use Rattle.part_pulls.proofs.Taken.{splits_at, taken_more, length-taken, fits_at, count_at, taken_all}
use Rattle.conjunctions.proofs.Gathering.{PartsAdded, added_none, added_more, floors_at, floors_last}
use Rattle.conjunctions.proofs.Ending.{begins_with_order, first_pulls_are, pulls_fit, pulls_count, pulls_have_order, can_begin_by, settles_one_by, few_parts}
use Rattle.conjunctions.specs.declared.answer.PartAnswer.{PartAnswer}
use Rattle.part_pulls.specs.Systems.{is_atom}
use Rattle.conjunctions.specs.Numbering.{within, conjunctions_in}
use Rattle.conjunctions.specs.inside.Numbering.{gives_order}
use Rattle.conjunctions.specs.Answering.{IsSliceOf, IsPartAnswer, place}
use Rattle.part_pulls.specs.Observing.{clocks_seen, scope_seen}
use Rattle.conjunctions.specs.inside.Gathering.{AddsPulls, first_pulls, AddsOperator}
use Rattle.part_pulls.specs.Counters.{AllRise, counters_of_parts}
use Rattle.part_pulls.specs.Operating.{Operated, FitsProcesses}
use Rattle.part_pulls.proofs.Rising.{temporal_rises, rises_at}
use Rattle.part_pulls.proofs.Operators.{processes_fit}
use Rattle.conjunctions.proofs.Parts.{temporal_fits, temporal_count, temporal_floors, temporal_settles, atom_settles, temporal_adds, temporal_answer, atom_answer}
use Rattle.conjunctions.proofs.conjunction.+conjunction.Goals as goal

pub add_part-settle_conjunction-requires-clause-fits : goal.add_part-settle_conjunction-requires-clause-fits
add_part-settle_conjunction-requires-clause-fits g t c = λ κs lives.
    let is = ap piece_of c.in-Temporal.is ∙ piece-Temporal c.in-Temporal.operator c.in-Temporal.parts in
    rw c.as_slice.ensures ((temporal_fits (scope_seen c.args.seen.now) (piece_of c.args.part.now) c.in-Temporal.operator (pieces_of c.in-Temporal.parts) is c.requires.part.fits).1)

pub add_part-settle_conjunction-requires-clause-count : goal.add_part-settle_conjunction-requires-clause-count
add_part-settle_conjunction-requires-clause-count g t c = λ κs lives.
    let is = ap piece_of c.in-Temporal.is ∙ piece-Temporal c.in-Temporal.operator c.in-Temporal.parts in
    rw c.as_slice.ensures (temporal_count (piece_of c.args.part.now) c.in-Temporal.operator (pieces_of c.in-Temporal.parts) is c.requires.part.count)

pub add_part-settle_conjunction-requires-clause-begins : goal.add_part-settle_conjunction-requires-clause-begins
add_part-settle_conjunction-requires-clause-begins g t c = λ κs lives.
    let is = ap piece_of c.in-Temporal.is ∙ piece-Temporal c.in-Temporal.operator c.in-Temporal.parts in
    record {
      floors = rw c.as_slice.ensures (temporal_floors c.args.seen.now c.args.round.now.before (piece_of c.args.part.now) c.in-Temporal.operator (pieces_of c.in-Temporal.parts) is c.requires.part.begins.floors);
      order = c.requires.part.begins.order;
    }

pub add_part-settle_conjunction-requires-clause-counters : goal.add_part-settle_conjunction-requires-clause-counters
add_part-settle_conjunction-requires-clause-counters g t c = λ κs lives.
    let is = ap piece_of c.in-Temporal.is ∙ piece-Temporal c.in-Temporal.operator c.in-Temporal.parts in
    rw c.as_slice.ensures (temporal_rises c.args.seen.now (piece_of c.args.part.now) c.in-Temporal.operator (pieces_of c.in-Temporal.parts) is c.requires.part.counters)

-- the order that the trace keeps is the run's
order_is : (seen : Observed) (order : Clocks) (trace : IsTrace seen.trace.states) → order ≡ clocks_of seen.trace.states.events → order ≡ clocks_seen seen
order_is seen order trace is = is ∙ sym trace.clocks

pub add_part-add_operator-requires-clause-fits : goal.add_part-add_operator-requires-clause-fits
add_part-add_operator-requires-clause-fits g t c =
    let order = order_is c.args.seen.now c.order-order.result.now c.order-order.ensures.trace c.order-order.ensures.order in
    subst (λ (o : Clocks). FitsOrder o c.in_ok-operand-in-Temporal.operand) (sym order) c.in_ok-operand-in-Temporal.ensures.slice.fits

pub add_part-add_operator-requires-clause-operator : goal.add_part-add_operator-requires-clause-operator
add_part-add_operator-requires-clause-operator g t c =
    let seen = c.args.seen.now in
    let order = order_is seen c.order-order.result.now c.order-order.ensures.trace c.order-order.ensures.order in
    let is = ap piece_of c.in-Temporal.is ∙ piece-Temporal c.in-Temporal.operator c.in-Temporal.parts in
    let fits = (temporal_fits (scope_seen seen) (piece_of c.args.part.now) c.in-Temporal.operator (pieces_of c.in-Temporal.parts) is c.requires.part.fits).0 in
    subst (λ (o : Clocks). FitsProcesses (length o) c.in-Temporal.operator) (sym order) (processes_fit seen c.order-order.ensures.trace c.in-Temporal.operator fits)

pub add_part-add_operator-requires-clause-floor : goal.add_part-add_operator-requires-clause-floor
add_part-add_operator-requires-clause-floor g t c =
    let order = order_is c.args.seen.now c.order-order.result.now c.order-order.ensures.trace c.order-order.ensures.order in
    subst (λ (o : Clocks). GatheredFits o c.args.gathered.now) (sym order) c.requires.floor

pub add_part-add_atom-requires-clause-atom : goal.add_part-add_atom-requires-clause-atom
add_part-add_atom-requires-clause-atom g t c = grind (arith, rules_of.pieces)

pub add_part-add_atom-requires-clause-fits : goal.add_part-add_atom-requires-clause-fits
add_part-add_atom-requires-clause-fits g t c = c.requires.part.fits

pub add_part-add_atom-requires-clause-counters : goal.add_part-add_atom-requires-clause-counters
add_part-add_atom-requires-clause-counters g t c = c.requires.part.counters

pub add_part-returns-in_ok-truth-in-Temporal : goal.add_part-returns-in_ok-truth-in-Temporal
add_part-returns-in_ok-truth-in-Temporal g t c =
    let seen = c.args.seen.now in
    let o = c.in-Temporal.operator in
    let ps = pieces_of c.in-Temporal.parts in
    let is : piece_of c.args.part.now ≡ temporal o (pieces ps) = ap piece_of c.in-Temporal.is ∙ piece-Temporal o c.in-Temporal.parts in
    let fits = (temporal_fits (scope_seen seen) (piece_of c.args.part.now) o ps is c.requires.part.fits).0 in
    let trace = c.order-order.ensures.trace in
    let order = order_is seen c.order-order.result.now trace c.order-order.ensures.order in
    let operand = c.in_ok-operand-in-Temporal.operand in
    let operand_is : IsSliceOf seen operand ps = subst (λ (parts : List Part). IsSliceOf seen operand (pieces_of parts)) c.as_slice.ensures c.in_ok-operand-in-Temporal.ensures.slice in
    let told = c.in_ok-truth-in-Temporal.ensures in
    let adds = subst (λ (k : Clocks). AddsOperator k o operand c.args.gathered.now.pulls c.add_operator.new.gathered.pulls) order told.pulls in
    let truth = subst (λ (k : Clocks). IsTrue c.in_ok-truth-in-Temporal.truth ↔ Operated o k (Cuts k (slice_of operand)) (initial k)) order told.truth in
    let answer : PartAnswer = record { disjunct = c.args.disjunct; part = c.args.number; operator = Some o; truth = c.in_ok-truth-in-Temporal.truth; operand = Some operand } in
    record {
      answer = subst (λ (p : Piece). IsPartAnswer seen (place c.args.disjunct c.args.number p) answer) (sym is)
          (temporal_answer seen trace o ps operand c.args.disjunct c.args.number answer fits operand_is refl refl refl refl truth);
      pulls = subst (λ (p : Piece). AddsPulls seen c.args.gathered.now.pulls c.add_operator.new.gathered.pulls (p ∷ [])) (sym is)
          (temporal_adds seen trace o ps operand c.args.gathered.now.pulls c.add_operator.new.gathered.pulls fits operand_is adds);
      floor = subst (λ (k : Clocks). GatheredFits k c.add_operator.new.gathered) order told.floor;
      order = told.order;
      settles = temporal_settles seen c.args.means.now.workers c.args.round.now c.settle_conjunction.new.round c.args.steps.now c.settle_conjunction.new.steps (piece_of c.args.part.now) o ps is
          (rw c.as_slice.ensures at c.in_ok-operand-in-Temporal.ensures.settles);
    }

pub add_part-returns-in_ok-truth-in-Local : goal.add_part-returns-in_ok-truth-in-Local
add_part-returns-in_ok-truth-in-Local g t c =
    let seen = c.args.seen.now in
    let p = piece_of c.args.part.now in
    let is : is_atom p ≡ true = grind (arith, rules_of.pieces) in
    let answer : PartAnswer = record { disjunct = c.args.disjunct; part = c.args.number; operator = None; truth = c.in_ok-truth-in-Local.truth; operand = None } in
    record {
      answer = atom_answer seen p c.args.disjunct c.args.number answer is refl refl refl refl c.in_ok-truth-in-Local.ensures.truth;
      pulls = c.in_ok-truth-in-Local.ensures.pulls;
      floor = let adds = c.in_ok-truth-in-Local.ensures.pulls in
          gathered_more (clocks_seen seen) c.args.gathered.now c.add_atom.new.gathered adds.added adds.is c.in_ok-truth-in-Local.ensures.floor.floor_is (λ is. let e : false ≡ true = sym c.in_ok-truth-in-Local.ensures.floor.others ∙ is in absurd (cc)) c.in_ok-truth-in-Local.ensures.floor.no_slice c.requires.floor;
      order = c.in_ok-truth-in-Local.ensures.order;
      settles = atom_settles seen c.args.means.now.workers c.args.round.now c.args.steps.now p is c.requires.part.begins.order;
    }

pub settle_conjunction-parts-init : goal.settle_conjunction-parts-init
settle_conjunction-parts-init g t c =
    let seen = c.args.seen.now in
    let order_is = c.order-order.ensures.order ∙ sym c.order-order.ensures.trace.clocks in
    let gives : Bool = gives_order (pieces_of c.args.parts.now) in
    added_none seen c.args.means.now.workers c.args.disjunct c.args.round.now c.args.steps.now c.args.answers.now (first_pulls (clocks_seen seen) gives) c.in_ok-gathered.gathered
    (c.in_ok-gathered.ensures.pulls ∙ ap (λ (o : Clocks). first_pulls o gives) order_is)
    (c.in_ok-gathered.ensures.order ∙ order_is) (subst (λ (o : Clocks). GatheredFits o c.in_ok-gathered.gathered) order_is c.in_ok-gathered.ensures.floor) c.requires.begins.order

pub settle_conjunction-overflow_cast-number : goal.settle_conjunction-overflow_cast-number
settle_conjunction-overflow_cast-number g t c = omega (arith, few_parts c.args.parts.now c.requires.count, c.parts-test.true)

pub settle_conjunction-overflow_add-number : goal.settle_conjunction-overflow_add-number
settle_conjunction-overflow_add-number g t c = omega (arith, few_parts c.args.parts.now c.requires.count, c.parts-test.true)

pub settle_conjunction-add_part-requires-clause-part : goal.settle_conjunction-add_part-requires-clause-part
settle_conjunction-add_part-requires-clause-part g t c = λ κs lives.
    let seen = c.args.seen.now in
    let earlier = pieces_of (take c.parts.index c.args.parts.now) in
    let p = piece_of c.index-parts-index.result in
    let splits = splits_at c.args.parts.now c.parts.index c.index-parts-index.result c.parts-test.true c.index-parts-index.is in
    record {
      fits = fits_at (scope_seen seen) _ p splits.later (subst (EachFits (scope_seen seen)) splits.is c.requires.fits);
      count = omega (arith, ap parts_count splits.is, count_at earlier p splits.later, c.requires.count);
      counters = rises_at seen earlier p splits.later (subst (λ (ps : List Piece). AllRise seen (counters_of_parts ps)) splits.is c.requires.counters);
      begins = record {
        floors = floors_at seen c.args.means.now.workers c.args.round.now c.parts.round c.args.steps.now c.parts.steps earlier p splits.later
            (subst (λ (ps : List Piece). AreFloors seen c.args.round.now.before (conjunctions_in ps)) splits.is c.requires.begins.floors) c.parts.invariant.settles;
        order = c.parts.invariant.settles.order;
      };
    }

pub settle_conjunction-parts-preserved : goal.settle_conjunction-parts-preserved
settle_conjunction-parts-preserved g t c =
    let seen = c.args.seen.now in
    let ps = pieces_of (take c.parts.index c.args.parts.now) in
    let p = piece_of c.index-parts-index.result in
    let there = c.parts-test.true in
    let begun = first_pulls (clocks_seen seen) (gives_order (pieces_of c.args.parts.now)) in
    let number : c.parts.index + 1 ≡ length ps + 1 = ap (λ n. n + 1) (sym (length-taken c.args.parts.now c.parts.index (omega (arith, there)))) in
    let is = subst (λ (k : ℕ). IsPartAnswer seen (place c.args.disjunct k p) c.in_ok-answer.answer) number c.in_ok-answer.ensures.answer in
    subst (PartsAdded seen c.args.means.now.workers c.args.disjunct c.args.round.now c.add_part.new.round c.args.steps.now c.add_part.new.steps c.args.answers.now c.push.new.self begun c.add_part.new.gathered)
    (sym (taken_more c.args.parts.now c.parts.index c.index-parts-index.result there c.index-parts-index.is))
    (added_more seen c.args.means.now.workers c.args.disjunct c.args.round.now c.parts.round c.add_part.new.round c.args.steps.now c.parts.steps c.add_part.new.steps c.args.answers.now c.parts.answers c.push.new.self
    begun c.parts.gathered c.add_part.new.gathered ps p c.in_ok-answer.answer c.parts.invariant c.in_ok-answer.ensures.pulls c.in_ok-answer.ensures.order c.in_ok-answer.ensures.floor c.in_ok-answer.ensures.settles is c.in_ok-push.ensures.ok)

-- all parts were taken
adds_all : (seen : Observed) (pulls : List Pull) (parts : List Part) (i : ℕ) → length parts ≤ i → AddsPulls seen (first_pulls (clocks_seen seen) (gives_order (pieces_of parts))) pulls (pieces_of (take i parts))
    → AddsPulls seen (first_pulls (clocks_seen seen) (gives_order (pieces_of parts))) pulls (pieces_of parts)
adds_all seen pulls parts i h adds = subst (AddsPulls seen (first_pulls (clocks_seen seen) (gives_order (pieces_of parts))) pulls) (taken_all parts i h) adds

settles_all : (seen : Observed) (workers : ℕ) (old new : RoundView) (s t : ℕ) (parts : List Part) (i : ℕ) → length parts ≤ i → Settles seen workers old new (spent_of s t) (flat_map within (pieces_of (take i parts)))
    → Settles seen workers old new (spent_of s t) (flat_map within (pieces_of parts))
settles_all seen workers old new s t parts i h settles = subst (λ (ps : List Piece). Settles seen workers old new (spent_of s t) (flat_map within ps)) (taken_all parts i h) settles

pub settle_conjunction-settle_gathered-requires-clause-fit : goal.settle_conjunction-settle_gathered-requires-clause-fit
settle_conjunction-settle_gathered-requires-clause-fit g t c = λ κs lives.
    pulls_fit c.args.seen.now c.order-order.ensures.trace c.parts.gathered.pulls (pieces_of c.args.parts.now)
    (adds_all c.args.seen.now c.parts.gathered.pulls c.args.parts.now c.parts.index c.parts-test.false c.parts.invariant.adds) c.order-order.result.now (c.order-order.ensures.order ∙ sym c.order-order.ensures.trace.clocks)

pub settle_conjunction-settle_gathered-requires-clause-count : goal.settle_conjunction-settle_gathered-requires-clause-count
settle_conjunction-settle_gathered-requires-clause-count g t c = λ κs lives.
    pulls_count c.args.seen.now c.order-order.ensures.trace c.parts.gathered.pulls (pieces_of c.args.parts.now)
    (adds_all c.args.seen.now c.parts.gathered.pulls c.args.parts.now c.parts.index c.parts-test.false c.parts.invariant.adds) c.requires.count

pub settle_conjunction-settle_gathered-requires-clause-order : goal.settle_conjunction-settle_gathered-requires-clause-order
settle_conjunction-settle_gathered-requires-clause-order g t c = λ κs lives.
    pulls_have_order c.args.seen.now c.order-order.ensures.trace c.parts.gathered.pulls (pieces_of c.args.parts.now)
    (adds_all c.args.seen.now c.parts.gathered.pulls c.args.parts.now c.parts.index c.parts-test.false c.parts.invariant.adds) c.order-order.result.now (c.order-order.ensures.order ∙ sym c.order-order.ensures.trace.clocks)

pub settle_conjunction-settle_gathered-requires-clause-first : goal.settle_conjunction-settle_gathered-requires-clause-first
settle_conjunction-settle_gathered-requires-clause-first g t c = λ κs lives.
    begins_with_order c.args.seen.now c.parts.gathered.pulls (pieces_of c.args.parts.now)
    (adds_all c.args.seen.now c.parts.gathered.pulls c.args.parts.now c.parts.index c.parts-test.false c.parts.invariant.adds)
    c.order-order.result.now (c.order-order.ensures.order ∙ sym c.order-order.ensures.trace.clocks) c.are_atoms.result c.are_atoms.ensures

pub settle_conjunction-settle_gathered-requires-clause-floor : goal.settle_conjunction-settle_gathered-requires-clause-floor
settle_conjunction-settle_gathered-requires-clause-floor g t c = λ κs lives.
    subst (λ (o : Clocks). GatheredFits o c.parts.gathered) (sym (c.order-order.ensures.order ∙ sym c.order-order.ensures.trace.clocks)) c.parts.invariant.floor

pub settle_conjunction-settle_gathered-requires-clause-before : goal.settle_conjunction-settle_gathered-requires-clause-before
settle_conjunction-settle_gathered-requires-clause-before g t c = λ κs lives.
    let seen = c.args.seen.now in
    let settles = settles_all seen c.args.means.now.workers c.args.round.now c.parts.round c.args.steps.now c.parts.steps c.args.parts.now c.parts.index c.parts-test.false c.parts.invariant.settles in
    can_begin_by seen c.parts.round.before c.parts.gathered.pulls (pieces_of c.args.parts.now)
    (adds_all seen c.parts.gathered.pulls c.args.parts.now c.parts.index c.parts-test.false c.parts.invariant.adds)
    (floors_last seen c.args.means.now.workers c.args.round.now c.parts.round c.args.steps.now c.parts.steps (pieces_of c.args.parts.now) c.requires.begins.floors settles)
    c.order-order.result.now (c.order-order.ensures.order ∙ sym c.order-order.ensures.trace.clocks) c.are_atoms.result c.are_atoms.ensures

pub settle_conjunction-returns-clause-slice : goal.settle_conjunction-returns-clause-slice
settle_conjunction-returns-clause-slice g t c =
    let seen = c.args.seen.now in
    let ps = pieces_of c.args.parts.now in
    let trace = c.order-order.ensures.trace in
    let adds = adds_all seen c.parts.gathered.pulls c.args.parts.now c.parts.index c.parts-test.false c.parts.invariant.adds in
    IfOk-weaker c.settle_gathered.result _ _
    (λ slice one.
    slice_settled seen c.parts.gathered.pulls ps c.args.means.now.workers c.parts.round c.settle_gathered.new.round c.parts.steps c.settle_gathered.new.steps slice (first_pulls_are seen trace (gives_order ps)) adds
    (settles_one_by seen c.parts.gathered.pulls ps c.args.means.now.workers c.parts.round c.settle_gathered.new.round c.parts.steps c.settle_gathered.new.steps slice c.order-order.result.now
    (c.order-order.ensures.order ∙ sym trace.clocks) c.are_atoms.result c.are_atoms.ensures one))
    c.settle_gathered.ensures

pub settle_conjunction-returns-clause-settles : goal.settle_conjunction-returns-clause-settles
settle_conjunction-returns-clause-settles g t c =
    let seen = c.args.seen.now in
    let ps = pieces_of c.args.parts.now in
    let trace = c.order-order.ensures.trace in
    let adds = adds_all seen c.parts.gathered.pulls c.args.parts.now c.parts.index c.parts-test.false c.parts.invariant.adds in
    let early = settles_all seen c.args.means.now.workers c.args.round.now c.parts.round c.args.steps.now c.parts.steps c.args.parts.now c.parts.index c.parts-test.false c.parts.invariant.settles in
    IfOk-weaker c.settle_gathered.result _ _
    (λ slice one.
    settles_on seen c.args.means.now.workers c.args.round.now c.parts.round c.settle_gathered.new.round c.args.steps.now c.parts.steps c.settle_gathered.new.steps (flat_map within ps) (ps ∷ []) early
    (rows_settled seen c.parts.gathered.pulls ps c.args.means.now.workers c.parts.round c.settle_gathered.new.round c.parts.steps c.settle_gathered.new.steps slice (first_pulls_are seen trace (gives_order ps)) adds
    (settles_one_by seen c.parts.gathered.pulls ps c.args.means.now.workers c.parts.round c.settle_gathered.new.round c.parts.steps c.settle_gathered.new.steps slice c.order-order.result.now
    (c.order-order.ensures.order ∙ sym trace.clocks) c.are_atoms.result c.are_atoms.ensures one)))
    c.settle_gathered.ensures

pub settle_conjunction-settle_gathered-requires-clause-shared : goal.settle_conjunction-settle_gathered-requires-clause-shared
settle_conjunction-settle_gathered-requires-clause-shared g t c = λ κs lives.
    let seen = c.args.seen.now in
    let is = c.order-order.ensures.order ∙ sym c.order-order.ensures.trace.clocks in
    record { same = c.parts.invariant.order ∙ sym is; system = subst (λ (o : Clocks). HasOrderSystem o c.parts.round) (sym is) c.parts.invariant.settles.order }
