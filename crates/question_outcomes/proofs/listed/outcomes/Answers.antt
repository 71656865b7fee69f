use Rattle.std.proofs.Common.{◌≡◌, ◌+◌, List, [], ◌∷◌, ◌++◌, length, take, get_or, min, None, sym, ◌∙◌, ap, subst}
use Rattle.rctl_parts.specs.declared.part.Part.{Part}
use Rattle.rctl_parts.specs.Pieces.{disjuncts_of}
use Rattle.question_meaning.specs.declared.form.Form.TheVariants as form
use Rattle.asked_list.specs.declared.list.AskedRange.{AskedRange}
use Rattle.asked_list.specs.declared.list.Listed.{Listed}
use Rattle.asked_list.specs.Lists.{range_of}
use Rattle.part_pulls.specs.declared.observed.Observed.{Observed}
use Rattle.part_pulls.specs.Observing.{clocks_seen}
use Rattle.part_pulls.specs.Counters.{CountersRise}
use Rattle.conjunctions.specs.Settling.{CanAnswer}
use Rattle.question_outcomes.specs.Telling.{AreOutcomes, IsOutcomeOf, HasSystem}
use Rattle.question_outcomes.proofs.Ranges.{range_answers, range_rises, range_pieces, outcome_in, outcomes_more, questions_taken}
use Rattle.question_outcomes.proofs.listed.outcomes.Goals as goal

-- what is read past the end
abbrev blank : Listed
blank = record { name = None; formula = 0; range = record { form = form.Never; from = 0; to = 0 } }

-- the disjuncts of a range, as far as it is there
abbrev part_of : AskedRange → List (List Part) → List (List Part)
part_of range all = range_of (min range.from (min range.to (length all))) (min range.to (length all)) all

pub outcome_of-requires-clause-can : goal.outcome_of-requires-clause-can
outcome_of-requires-clause-can g c κs within =
    let seen = c.args.observation.now.growing.seen in
    let all = c.args.observation.now.growing.disjuncts in
    let range : AskedRange = (get_or c.args.listed.now c.listed.question-index blank).range in
    let part : c.in_range-asked.result.now ≡ part_of range all = c.in_range-asked.ensures ∙ ap (part_of range) (c.as_slice-disjuncts.ensures ∙ c.disjuncts.ensures) in
    let to = min range.to (length all) in
    let is = ap disjuncts_of part ∙ range_pieces all (min range.from to) to in
    subst (λ (s : Observed). CanAnswer s (disjuncts_of c.in_range-asked.result.now)) (sym c.seen-seen.ensures.seen)
    (subst (CanAnswer seen) (sym is) (range_answers seen (disjuncts_of all) (c.seen-seen.ensures.made c.requires.unspent) (min range.from to) to))

pub outcome_of-requires-clause-rise : goal.outcome_of-requires-clause-rise
outcome_of-requires-clause-rise g c κs within =
    let seen = c.args.observation.now.growing.seen in
    let all = c.args.observation.now.growing.disjuncts in
    let range : AskedRange = (get_or c.args.listed.now c.listed.question-index blank).range in
    let part : c.in_range-asked.result.now ≡ part_of range all = c.in_range-asked.ensures ∙ ap (part_of range) (c.as_slice-disjuncts.ensures ∙ c.disjuncts.ensures) in
    let to = min range.to (length all) in
    let is = ap disjuncts_of part ∙ range_pieces all (min range.from to) to in
    subst (λ (s : Observed). CountersRise s (disjuncts_of c.in_range-asked.result.now)) (sym c.seen-seen.ensures.seen)
    (subst (CountersRise seen) (sym is) (range_rises seen (disjuncts_of all) (c.seen-seen.ensures.rise c.requires.unspent) (min range.from to) to))

pub listed-preserved : goal.listed-preserved
listed-preserved g c =
    let seen = c.args.observation.now.growing.seen in
    let all = c.args.observation.now.growing.disjuncts in
    let ds = disjuncts_of all in
    let i = c.listed.question-index in
    let q : Listed = get_or c.args.listed.now i blank in
    let o = c.in_ok-outcome.outcome in
    let asked = c.in_range-asked.result.now in
    let part : asked ≡ part_of q.range all = c.in_range-asked.ensures ∙ ap (part_of q.range) (c.as_slice-disjuncts.ensures ∙ c.disjuncts.ensures) in
    let one : IsOutcomeOf seen (disjuncts_of asked) q.range.form o = subst (λ (s : Observed). IsOutcomeOf s (disjuncts_of asked) q.range.form o) c.seen-seen.ensures.seen c.in_ok-outcome.ensures.outcome in
    record {
      made = subst (AreOutcomes seen ds (take (i + 1) c.args.listed.now)) (sym c.in_ok-push.ensures.ok)
          (subst (λ (qs : List Listed). AreOutcomes seen ds qs (c.listed.made ++ o ∷ [])) (sym (questions_taken c.args.listed.now i blank c.listed-test.true))
          (outcomes_more seen ds (take i c.args.listed.now) c.listed.made q o c.listed.invariant.made (outcome_in seen all q.range o asked part one)));
      system = subst (λ (s : Observed). HasSystem (clocks_seen s) c.outcome_of.new.system) c.seen-seen.ensures.seen c.in_ok-outcome.ensures.system;
    }
