-- Questions of both kinds, whatever texts they come from.
use Rattle.std.specs.Prelude.{◌≡◌, ℕ, ◌+◌, ⊤, List, [], ◌∷◌, ◌++◌, length, Option, None, Some}
use Rattle.std.specs.List.{AllByRecursion, AllZip}
use Rattle.asked_list.specs.Lists.{HasRoom, IsAskedList}
use Rattle.asked_list.specs.declared.list.AskedList.{AskedList}
use Rattle.asked_list.specs.declared.list.Listed.{Listed}
use Rattle.asked_list.specs.declared.list.TooMany.{TooMany}
use Rattle.pota_base.specs.declared.fault.Refused.{Refused}
use Rattle.pota_base.specs.declared.fault.Refused.TheVariants as refused
use Rattle.question_forms.specs.declared.question.Question.{Question}
use Rattle.question_instances.specs.declared.over.Over.{Over}
use Rattle.over_questions.specs.Entries.{IsEntryOf}
use Rattle.over_questions.specs.declared.entry.Entry.{Entry}
use Rattle.over_questions.specs.declared.entry.Entry.TheVariants as entry
use Rattle.over_questions.specs.declared.entry.EntryFault.{EntryFault}
use Rattle.rctl_class.specs.NamedParts.{AreDisjuncts, disjuncts_of}
use Rattle.ask_questions.specs.Listing.{AreBehind, IsEntry}
use Rattle.ask_questions.specs.declared.reading.AskedQuestions.{AskedQuestions}
use Rattle.ask_questions.specs.declared.reading.QuestionsFault.{QuestionsFault}
use Rattle.ask_questions.specs.declared.reading.QuestionsFault.TheVariants as fault
use Rattle.ask_questions.specs.declared.reading.NumberedFault.{NumberedFault}

-- the texts are these questions
abbrev pub AreRead : List (List ℕ) → List Entry → Type 0
AreRead texts entries = AllZip IsEntryOf texts entries

-- the disjuncts of a question are such as a formula that was read can have
abbrev pub IsSized : Entry → Type 0
IsSized (entry.One q) = AreDisjuncts (disjuncts_of q.classed.disjuncts)
IsSized (entry.Over over) = ⊤

abbrev pub AreSized : List Entry → Type 0
AreSized entries = AllByRecursion IsSized entries

-- one after the other, each is the next one of the list, or these names stand for its processes
abbrev pub AreKinds : AskedList → List Entry → List (Option Over) → List Listed → Type 0
AreKinds list [] [] [] = ⊤
AreKinds list [] [] (one ∷ ones) = ⊥
AreKinds list [] (o ∷ os) ones = ⊥
AreKinds list (entry.One q ∷ es) [] ones = ⊥
AreKinds list (entry.One q ∷ es) (None ∷ os) [] = ⊥
AreKinds list (entry.One q ∷ es) (None ∷ os) (one ∷ ones) =
    IsEntry list q one × AreKinds list es os ones
AreKinds list (entry.One q ∷ es) (Some over ∷ os) ones = ⊥
AreKinds list (entry.Over over ∷ es) [] ones = ⊥
AreKinds list (entry.Over over ∷ es) (None ∷ os) ones = ⊥
AreKinds list (entry.Over over ∷ es) (Some other ∷ os) ones =
    (over ≡ other) × AreKinds list es os ones

-- the list and the names are those of the questions
pub record AreAddedTo (list : AskedList) (entries : List Entry) (overs : List (Option Over))
    : Type 0 where
  pub fit : IsAskedList list
  pub each : AreKinds list entries overs list.listed
  pub whole : AreBehind 0 list.listed (length list.classed.disjuncts)

abbrev pub AreAdded : List Entry → AskedQuestions → Type 0
AreAdded entries asked = AreAddedTo asked.list entries asked.overs

-- there is no room for the question of this number, from 1, behind those before it
pub record HasNoRoomFor (entries : List Entry) (number : ℕ) : Type 0 where
  pub before : List Entry
  pub question : Question
  pub behind : List Entry
  pub among : entries ≡ before ++ entry.One question ∷ behind
  pub numbered : number ≡ length before + 1
  pub asked : AskedQuestions
  pub added : AreAdded before asked
  pub full : HasRoom asked.list question → ⊥

abbrev pub IsFullAt : List Entry → ℕ → QuestionsFault → Type 0
IsFullAt entries number (fault.Question f) = ⊥
IsFullAt entries number fault.TooMany = HasNoRoomFor entries number

abbrev pub IsTooMany : List Entry → NumberedFault → Type 0
IsTooMany entries f = IsFullAt entries f.question f.fault

-- there is no room in the list for the question
abbrev pub HasNoRoomIn : AskedList → Entry → Type 0
HasNoRoomIn list (entry.One q) = HasRoom list q → ⊥
HasNoRoomIn list (entry.Over over) = ⊥

-- a refusal is such; nothing is said where memory runs out
abbrev pub RefusesAdding : Refused TooMany → Type 0 → Type 0
RefusesAdding (refused.Fault f) Is = Is
RefusesAdding refused.NoMemory Is = Unit {0}

abbrev pub Refuses : Refused NumberedFault → (NumberedFault → Type 0) → Type 0
Refuses (refused.Fault f) Is = Is f
Refuses refused.NoMemory Is = Unit {0}

-- the text at this index, from 0, can't be read
abbrev pub numbered_fault : ℕ → Refused EntryFault → Refused NumberedFault
numbered_fault index (refused.Fault f) =
    refused.Fault (record { question = index + 1; fault = fault.Question f })
numbered_fault index refused.NoMemory = refused.NoMemory

-- there is no room for the question of this number
abbrev pub many_at : ℕ → Refused TooMany → Refused NumberedFault
many_at number (refused.Fault f) =
    refused.Fault (record { question = number; fault = fault.TooMany })
many_at number refused.NoMemory = refused.NoMemory
