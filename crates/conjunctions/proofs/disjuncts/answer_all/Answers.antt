use Rattle.std.proofs.Common.{◌≡◌, ℕ, ◌+◌, false, List, [], None, take, length, refl, sym, ◌∙◌, ap, subst, arith}
use Rattle.std.specs.Prelude.{◌||◌}
use Rattle.run_model.specs.Cut.{lengths}
use Rattle.slice_graph.specs.Views.{SliceView}
use Rattle.conjunctions.specs.declared.answer.PartAnswer.{PartAnswer}
use Rattle.conjunctions.specs.Answering.{IsSliceOf, places_from}
use Rattle.conjunctions.specs.inside.Answering.{AddsAnswers}
use Rattle.conjunctions.specs.Rounds.{RoundView}
use Rattle.conjunctions.specs.Settling.{AreFloors, Settles}
use Rattle.rctl_parts.specs.Pieces.{Piece, pieces_of, disjuncts_of}
use Rattle.std.proofs.lemmas.List.{length-map}
use Rattle.slice_workers.specs.Spent.{spent_of}
use Rattle.rctl_parts.specs.declared.part.Part.{Part}
use Rattle.rctl_parts.specs.MadeFor.{AllFit, EachFits, parts_count, disjuncts_count}
use Rattle.part_pulls.specs.Observing.{clocks_seen, lens_seen, scope_seen}
use Rattle.conjunctions.specs.Numbering.{conjunctions_in, all_conjunctions}
use Rattle.conjunctions.specs.inside.Joining.{so_far}
use Rattle.part_pulls.specs.Counters.{AllRise, CountersRise, counters_of_parts}
use Rattle.part_pulls.proofs.Readings.{is_order}
use Rattle.part_pulls.proofs.Rising.{disjunct_rises}
use Rattle.part_pulls.proofs.Taken.{disjunct_at, disjuncts_taken, length-disjuncts, all_taken, disjunct_fits, disjunct_count}
use Rattle.conjunctions.proofs.Answered.{Answered, answered_none, answered_more, answered_all, disjunct_floors, joins, same_lens}
use Rattle.conjunctions.proofs.disjuncts.answer_all.Goals as goal

pub disjuncts-init : goal.disjuncts-init
disjuncts-init g c =
    let seen = c.args.seen.now in
    let shown = so_far (lens_seen seen) None in
    let none = answered_none seen c.args.means.now.workers c.args.round.now c.args.steps.now shown refl c.requires.begins.order in
    subst (λ (parts : List PartAnswer). Answered seen c.args.means.now.workers c.args.round.now c.begin.new.self c.args.steps.now c.args.steps.now parts false shown []) (sym c.new-parts.ensures)
    (subst (λ (round : RoundView). Answered seen c.args.means.now.workers c.args.round.now round c.args.steps.now c.args.steps.now [] false shown []) (sym c.begin.ensures) none)

pub settle_conjunction-requires-clause-fits : goal.settle_conjunction-requires-clause-fits
settle_conjunction-requires-clause-fits g c = λ κs lives.
    let splits = disjunct_at c.args.disjuncts.now c.disjuncts.index c.index-disjuncts-index.result c.disjuncts-test.true c.index-disjuncts-index.is in
    let fits = disjunct_fits (scope_seen c.args.seen.now) (disjuncts_of (take c.disjuncts.index c.args.disjuncts.now)) (pieces_of c.index-disjuncts-index.result) splits.later
    (subst (AllFit (scope_seen c.args.seen.now)) splits.is c.requires.made.fit) in
    subst (λ (parts : List Part). EachFits (scope_seen c.args.seen.now) (pieces_of parts)) (sym c.as_slice-disjunct.ensures) fits

pub settle_conjunction-requires-clause-count : goal.settle_conjunction-requires-clause-count
settle_conjunction-requires-clause-count g c = λ κs lives.
    let splits = disjunct_at c.args.disjuncts.now c.disjuncts.index c.index-disjuncts-index.result c.disjuncts-test.true c.index-disjuncts-index.is in
    omega (
      arith,
      ap disjuncts_count splits.is,
      disjunct_count (disjuncts_of (take c.disjuncts.index c.args.disjuncts.now)) (pieces_of c.index-disjuncts-index.result) splits.later,
      c.requires.made.parts,
      ap (λ (parts : List Part). parts_count (pieces_of parts)) c.as_slice-disjunct.ensures,
    )

pub settle_conjunction-requires-clause-begins : goal.settle_conjunction-requires-clause-begins
settle_conjunction-requires-clause-begins g c = λ κs lives.
    let seen = c.args.seen.now in
    let splits = disjunct_at c.args.disjuncts.now c.disjuncts.index c.index-disjuncts-index.result c.disjuncts-test.true c.index-disjuncts-index.is in
    let floors = disjunct_floors seen c.args.means.now.workers c.args.round.now c.disjuncts.round c.args.steps.now c.disjuncts.steps (disjuncts_of (take c.disjuncts.index c.args.disjuncts.now)) (pieces_of c.index-disjuncts-index.result) splits.later
    (subst (λ (ds : List (List Piece)). AreFloors seen c.args.round.now.before (all_conjunctions ds)) splits.is c.requires.begins.floors) c.disjuncts.invariant.settles in
    record { floors = subst (λ (parts : List Part). AreFloors seen c.disjuncts.round.before (conjunctions_in (pieces_of parts))) (sym c.as_slice-disjunct.ensures) floors; order = c.disjuncts.invariant.settles.order }

pub settle_conjunction-requires-clause-counters : goal.settle_conjunction-requires-clause-counters
settle_conjunction-requires-clause-counters g c = λ κs lives.
    let seen = c.args.seen.now in
    let splits = disjunct_at c.args.disjuncts.now c.disjuncts.index c.index-disjuncts-index.result c.disjuncts-test.true c.index-disjuncts-index.is in
    let rise = disjunct_rises seen (disjuncts_of (take c.disjuncts.index c.args.disjuncts.now)) (pieces_of c.index-disjuncts-index.result) splits.later (subst (CountersRise seen) splits.is c.requires.counters) in
    subst (λ (parts : List Part). AllRise seen (counters_of_parts (pieces_of parts))) (sym c.as_slice-disjunct.ensures) rise

pub disjuncts-preserved : goal.disjuncts-preserved
disjuncts-preserved g c =
    let seen = c.args.seen.now in
    let o = clocks_seen seen in
    let all = c.args.disjuncts.now in
    let ds = disjuncts_of (take c.disjuncts.index all) in
    let d = pieces_of c.index-disjuncts-index.result in
    let there = c.disjuncts-test.true in
    let order = is_order seen c.order.ensures.trace in
    let number : c.disjuncts.index + 1 ≡ 1 + length ds = omega (arith, length-disjuncts all c.disjuncts.index (omega (arith, there))) in
    let settles = subst (λ (parts : List Part). Settles seen c.args.means.now.workers c.disjuncts.round c.settle_conjunction.new.round (spent_of c.disjuncts.steps c.settle_conjunction.new.steps) (conjunctions_in (pieces_of parts)))
    c.as_slice-disjunct.ensures c.in_ok-one.ensures.settles in
    let told = subst (λ (k : ℕ). AddsAnswers seen c.disjuncts.parts c.settle_conjunction.new.answers (places_from k 1 d)) number
    (subst (λ (parts : List Part). AddsAnswers seen c.disjuncts.parts c.settle_conjunction.new.answers (places_from (c.disjuncts.index + 1) 1 (pieces_of parts))) c.as_slice-disjunct.ensures c.in_ok-one.ensures.answers) in
    let is = subst (λ (parts : List Part). IsSliceOf seen c.in_ok-one.one (pieces_of parts)) c.as_slice-disjunct.ensures c.in_ok-one.ensures.slice in
    let joined = joins o order c.disjuncts.joined c.in_ok-one.one c.in_ok-more.more c.disjuncts.invariant.fits is.fits c.in_ok-more.ensures in
    let has = c.in_ok-truth.ensures o is.fits in
    subst (Answered seen c.args.means.now.workers c.args.round.now c.settle_conjunction.new.round c.args.steps.now c.settle_conjunction.new.steps c.settle_conjunction.new.answers (c.disjuncts.truth || c.in_ok-truth.field-0) c.in_ok-more.more)
    (sym (disjuncts_taken all c.disjuncts.index c.index-disjuncts-index.result there c.index-disjuncts-index.is))
    (answered_more seen order c.args.means.now.workers c.args.round.now c.disjuncts.round c.settle_conjunction.new.round c.args.steps.now c.disjuncts.steps c.settle_conjunction.new.steps c.disjuncts.parts c.settle_conjunction.new.answers
    c.disjuncts.truth c.in_ok-truth.field-0 (so_far (lens_seen seen) c.disjuncts.joined) c.in_ok-one.one c.in_ok-more.more ds d c.disjuncts.invariant settles told is has
    joined.fits joined.stands)

pub join_disjunct-requires : goal.join_disjunct-requires
join_disjunct-requires g c = same_lens (clocks_seen c.args.seen.now) c.disjuncts.joined c.in_ok-one.one c.disjuncts.invariant.fits c.in_ok-one.ensures.slice.fits

pub overflow_cast-number : goal.overflow_cast-number
overflow_cast-number g c = omega (arith, length-map c.args.disjuncts.now pieces_of, c.requires.made.few, c.disjuncts-test.true)

pub overflow_add-number : goal.overflow_add-number
overflow_add-number g c = omega (arith, length-map c.args.disjuncts.now pieces_of, c.requires.made.few, c.disjuncts-test.true)

pub returns-clause-answer : goal.returns-clause-answer
returns-clause-answer g c =
    let seen = c.args.seen.now in
    let lens = c.shape-shape.ensures.lens ∙ ap lengths (c.order.ensures.order ∙ sym c.order.ensures.trace.clocks) in
    let slice : c.in_ok-slice.slice ≡ so_far (lens_seen seen) c.disjuncts.joined = c.in_ok-slice.ensures ∙ ap (λ (l : List ℕ). so_far l c.disjuncts.joined) lens in
    let all = subst (Answered seen c.args.means.now.workers c.args.round.now c.disjuncts.round c.args.steps.now c.disjuncts.steps c.disjuncts.parts c.disjuncts.truth (so_far (lens_seen seen) c.disjuncts.joined))
    (all_taken c.args.disjuncts.now c.disjuncts.index c.disjuncts-test.false) c.disjuncts.invariant in
    answered_all seen c.args.means.now.workers c.args.round.now c.disjuncts.round c.args.steps.now c.disjuncts.steps (record { batch = c.batches.result; truth = c.disjuncts.truth; slice = c.in_ok-slice.slice; parts = c.disjuncts.parts })
    (disjuncts_of c.args.disjuncts.now) c.batches.ensures
    (subst (λ (s : SliceView). Answered seen c.args.means.now.workers c.args.round.now c.disjuncts.round c.args.steps.now c.disjuncts.steps c.disjuncts.parts c.disjuncts.truth s (disjuncts_of c.args.disjuncts.now)) (sym slice) all)

pub returns-clause-settles : goal.returns-clause-settles
returns-clause-settles g c =
    subst (λ (ds : List (List Piece)). Settles c.args.seen.now c.args.means.now.workers c.args.round.now c.disjuncts.round (spent_of c.args.steps.now c.disjuncts.steps) (all_conjunctions ds))
    (all_taken c.args.disjuncts.now c.disjuncts.index c.disjuncts-test.false) c.disjuncts.invariant.settles
