-- What is kept of answers, as the value of the code has it.
use Rattle.std.proofs.Common.{◌≡◌, List, length, Option, Some, None, sym, ap, ◌∙◌, subst}
use Rattle.std.specs.Prelude.{IsSome}
use Rattle.std.proofs.lemmas.Bool.{true≢false}
use Rattle.slice_workers.specs.Views.{SettledView}
use Rattle.rctl_parts.specs.Pieces.{disjuncts_of}
use Rattle.part_pulls.specs.Later.{IsLater}
use Rattle.conjunctions.specs.declared.answer.Answer.{Answer}
use Rattle.conjunctions.specs.declared.round.Kept.{Kept}
use Rattle.conjunctions.specs.Numbering.{all_conjunctions}
use Rattle.observation.specs.Growing.{GrowingView}
use Rattle.answering.specs.Going.{GoesOn}
use Rattle.answering.proofs.Going.{settled_count}
use Rattle.session.specs.Standing.{AnsweredView}
use Rattle.session.specs.inside.Standing.{Stands}

rows_of : (growing : GrowingView) (rows : List SettledView) (answer : Option Answer) → Stands growing rows answer → IsSome answer → length rows ≡ length (all_conjunctions (disjuncts_of growing.disjuncts))
rows_of growing rows None stands made = absurd (true≢false (sym made))
rows_of growing rows (Some told) stands made = settled_count growing.seen (all_conjunctions (disjuncts_of growing.disjuncts)) rows stands.settled

-- where there is an answer, there are as many rows as conjunctions
pub rows_made : (v w : AnsweredView) → v ≡ w → Stands v.of v.settled v.answer → IsSome w.answer → length v.settled ≡ length (all_conjunctions (disjuncts_of w.of.disjuncts))
rows_made v w same stands made = rows_of v.of v.settled v.answer stands (subst (λ (u : AnsweredView). IsSome u.answer) (sym same) made) ∙ ap (λ (u : AnsweredView). length (all_conjunctions (disjuncts_of u.of.disjuncts))) same

-- what was kept goes on with what was observed since
pub goes_on_since : ((kept : Kept) (before after : GrowingView) → after.disjuncts ≡ before.disjuncts → IsLater before.seen after.seen → GoesOn kept before → GoesOn kept after)
    → (v w : AnsweredView) (kept : Kept) (now : GrowingView) → v ≡ w → now.disjuncts ≡ w.of.disjuncts → IsLater w.of.seen now.seen → GoesOn kept v.of → GoesOn kept now
goes_on_since law v w kept now same formula later goes = law kept w.of now formula later (subst (λ (u : AnsweredView). GoesOn kept u.of) same goes)
