-- A question holds exactly where its range of the answer says so.
use Rattle.std.proofs.Common.{◌≡◌, ◌↔◌, ℕ, ◌-◌, ◌≤◌, Bool, true, false, not, MatchBool, IsTrue, List, length, subst, refl, arith}
use Rattle.std.proofs.lemmas.Bool.{false≢true}
use mathlib.Core.Bool.{beq}
use Rattle.run_model.specs.Cut.{initial}
use Rattle.run_model.specs.Formula.{Formula}
use Rattle.run_model.specs.Meaning.{Sat}
use Rattle.question_meaning.specs.Asking.{AreFor, asked_formula, is_turned, question}
use Rattle.question_meaning.specs.Question.{Holds}
use Rattle.rctl_parts.specs.Pieces.{Piece}
use Rattle.rctl_parts.specs.Spelled.{disjunction_of, part_formulas}
use Rattle.rctl_parts.proofs.Spelling.{disjuncts_spelled, spelled_disjuncts}
use Rattle.conjunctions.specs.declared.answer.Answer.{Answer}
use Rattle.conjunctions.specs.Answering.{IsAnswer}
use Rattle.part_pulls.specs.Observing.{AreAnswers, Reading, clocks_seen, names_seen, run_seen}
use Rattle.part_pulls.specs.declared.observed.Observed.{Observed}
use Rattle.part_pulls.proofs.Readings.{is_order}
use Rattle.trace_growth.specs.Growing.{IsTrace}
use Rattle.asked_parts.specs.Asked.{SpellAt, IsAnsweredBy, asked_disjuncts}
use Rattle.asked_parts.proofs.Spelling.{answered_by_parts}
use Rattle.asked_list.specs.declared.list.AskedRange.{AskedRange}
use Rattle.asked_list.specs.Lists.{range_of, IsAskedIn}
use Rattle.asked_answers.specs.Holding.{some_true}
use Rattle.asked_answers.proofs.Parts.{some_told}

-- the range's disjuncts are true at the initial cut
abbrev RangeHolds : Observed → Reading → List (List Piece) → Type 0
RangeHolds seen reading ds = Sat (run_seen seen reading) (disjunction_of (names_seen seen reading) ds) (initial (clocks_seen seen))

range_told : (seen : Observed) (reading : Reading) → AreAnswers seen reading → (ds : List (List Piece)) (answer : Answer) → IsAnswer seen ds answer
    → (from to : ℕ) → from ≤ to → to ≤ length ds → (some_true answer.parts from (to - from) ≡ true) ↔ RangeHolds seen reading (range_of from to ds)
range_told seen reading answers ds answer is from to up within =
    let some = some_told seen reading answers ds answer.parts is.parts from (to - from) (omega (arith, up, within)) in
    let r = run_seen seen reading in
    let names = names_seen seen reading in
    let c = initial (clocks_seen seen) in
    (λ h. disjuncts_spelled r names (range_of from to ds) c (some.0 h), λ h. some.1 (spelled_disjuncts r names (range_of from to ds) c h))

-- it says so where it is told, turned where the form turns it
turned_told : (turned some : Bool) (P : Type 0) → (some ≡ true) ↔ P → IsTrue (not (beq some turned)) ↔ MatchBool turned (P → ⊥) P
turned_told true true P is = (λ h. absurd (false≢true h), λ lacks. absurd (lacks (is.0 refl)))
turned_told true false P is = (λ h p. absurd (false≢true (is.1 p)), λ lacks. refl)
turned_told false true P is = (λ h. is.0 refl, λ p. refl)
turned_told false false P is = (λ h. absurd (false≢true h), λ p. absurd (false≢true (is.1 p)))

pub held : (answer : Answer) (asked : AskedRange) (some turned : Bool) → asked.from ≤ asked.to
    → some ≡ some_true answer.parts asked.from (asked.to - asked.from) → turned ≡ is_turned asked.form
    → (seen : Observed) (ds own : List (List Piece)) (reading : Reading) → IsTrace seen.trace.states → IsAnswer seen ds answer → AreAnswers seen reading → IsAskedIn ds asked own
    → (f : Formula) → SpellAt (run_seen seen reading) (names_seen seen reading) own (asked_formula asked.form f) → AreFor asked.form (part_formulas (names_seen seen reading) own)
    → IsTrue (not (beq some turned)) ↔ Holds (run_seen seen reading) (question asked.form f)
held answer asked some turned up some_is turned_is seen ds own reading trace is answers there f spell for =
    let r = run_seen seen reading in
    let names = names_seen seen reading in
    let told = some_true answer.parts asked.from (asked.to - asked.from) in
    let range = range_told seen reading answers ds answer is asked.from asked.to up there.within in
    let own_range = subst (λ l. (told ≡ true) ↔ RangeHolds seen reading l) there.asked range in
    let by = answered_by_parts r (is_order seen trace) names asked.form f own spell for in
    let says : IsTrue (not (beq told (is_turned asked.form))) ↔ IsAnsweredBy r names asked.form own = turned_told (is_turned asked.form) told (RangeHolds seen reading (asked_disjuncts asked.form own)) own_range in
    rw (some_is, turned_is) (λ h. by.1 (says.0 h), λ h. says.1 (by.0 h))
