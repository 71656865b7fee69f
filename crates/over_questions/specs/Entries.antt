-- What the reading of a question of either kind gives.
use Rattle.std.specs.Prelude.{◌≡◌, ℕ, ◌+◌, ◌-◌, nat_lt, List, length, None, Some, Ok, Err}
use Rattle.std.specs.Prelude.{if◌then◌else◌}
use Rattle.pota_base.specs.declared.fault.Refused.{Refused}
use Rattle.pota_base.specs.declared.fault.Refused.TheVariants as refused
use Rattle.question_forms.specs.Questions.{IsQuestionFault}
use Rattle.question_forms.specs.Questions as questions
use Rattle.question_forms.specs.declared.question.Question.{Question}
use Rattle.question_instances.specs.Over.{IsOverIn, over_of}
use Rattle.question_instances.specs.declared.over.Over.{Over}
use Rattle.over_questions.specs.Reading.{IsOverFault, IsOverQuestion, IsReadAs}
use Rattle.over_questions.specs.declared.entry.Entry.{Entry}
use Rattle.over_questions.specs.declared.entry.Entry.TheVariants as entry
use Rattle.over_questions.specs.declared.entry.EntryFault.{EntryFault}
use Rattle.over_questions.specs.declared.entry.EntryFault.TheVariants as fault
use Rattle.over_questions.specs.declared.reading.OverQuestionFault.{OverQuestionFault}
use Rattle.over_questions.specs.declared.reading.OverQuestionFault.TheVariants as over_fault

-- the text is this question: one that names nothing that stands for processes, or one over
-- processes
abbrev pub IsEntryOf : List ℕ → Entry → Type 0
IsEntryOf text (entry.One q) = (over_of text ≡ Ok None) × IsReadAs text q
IsEntryOf text (entry.Over over) =
    (over_of text ≡ Ok (Some over)) × IsOverIn (length text) over
    × (q : Question) × IsOverQuestion text over q

-- the text has this first fault
abbrev pub IsEntryFault : List ℕ → EntryFault → Type 0
IsEntryFault text (fault.One f) = (over_of text ≡ Ok None) × IsQuestionFault text f
IsEntryFault text (fault.For f) = over_of text ≡ Err f
IsEntryFault text (fault.Over over f) =
    (over_of text ≡ Ok (Some over)) × IsOverFault text over f

-- a fault is such; nothing is said where memory runs out
abbrev pub RefusesEntry : Refused EntryFault → (EntryFault → Type 0) → Type 0
RefusesEntry (refused.Fault f) Is = Is f
RefusesEntry refused.NoMemory Is = Unit {0}

-- ---- where a fault is

-- the byte of the text as it was asked, by that of the text without the words that name what stands
-- for processes
abbrev pub place_behind : Over → ℕ → ℕ
place_behind over place =
    if nat_lt place over.from then place else place + (over.to - over.from)

-- the byte of the text without these words
abbrev pub plain_place : OverQuestionFault → ℕ
plain_place (over_fault.Question f) = questions.place_of f
plain_place (over_fault.Barred from barred) = from + barred.place

-- the byte of the question at which the fault is
abbrev pub place_of : EntryFault → ℕ
place_of (fault.One f) = questions.place_of f
place_of (fault.For f) = f.place
place_of (fault.Over over f) = place_behind over (plain_place f)
