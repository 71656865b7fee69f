-- Questions in one list, by their texts.
use Rattle.std.specs.Prelude.{◌≡◌, ℕ, ◌+◌, List, [], ◌∷◌, ◌++◌, length}
use Rattle.asked_list.specs.Lists.{HasRange, disjuncts_in}
use Rattle.asked_list.specs.declared.list.AskedList.{AskedList}
use Rattle.asked_list.specs.declared.list.Listed.{Listed}
use Rattle.question_forms.specs.declared.question.Question.{Question}
use Rattle.rctl_class.specs.NamedParts.{disjuncts_of}
pub use Rattle.over_questions.specs.Reading.{IsReadAs}

-- ---- the list

-- an entry of the list is that of a question: its name, where its formula begins in its text, its
-- form, and which of all disjuncts are its own
pub record IsEntry (list : AskedList) (q : Question) (entry : Listed) : Type 0 where
  pub name : entry.name ≡ q.name
  pub formula : entry.formula ≡ q.formula
  pub form : entry.range.form ≡ q.form
  pub has : HasRange entry.range list.forms (disjuncts_in list)
      (disjuncts_of q.classed.disjuncts)

-- an entry of the list is that of the question of a text
abbrev pub IsListed : AskedList → List ℕ → Listed → Type 0
IsListed list text entry = (q : Question) × IsReadAs text q × IsEntry list q entry

-- the ranges of the entries are one behind the other, from this disjunct on up to that one
abbrev pub AreBehind : ℕ → List Listed → ℕ → Type 0
AreBehind from [] to = from ≡ to
AreBehind from (entry ∷ entries) to =
    (entry.range.from ≡ from) × AreBehind entry.range.to entries to

-- ---- their texts

-- these texts are before the text of that number, from 1
pub record IsAt (number : ℕ) (texts before : List (List ℕ)) (text : List ℕ) : Type 0 where
  pub behind : List (List ℕ)
  pub among : texts ≡ before ++ text ∷ behind
  pub numbered : number ≡ length before + 1
