-- A question with names of processes in the place of those that stand for them.
use Rattle.std.specs.Prelude.{ℕ, Bool, true, false, ◌&&◌, ◌||◌, ◌==◌, List, [], ◌∷◌, ◌++◌, take}
use Rattle.std.specs.Prelude.{drop, if◌then◌else◌}
use Rattle.std.specs.Str.{bytes_eq}
use Rattle.pota_names.specs.Names.{is_name_byte}
use Rattle.question_text.specs.Bytes.{is_blank}
use Rattle.question_instances.specs.declared.instance.Naming.{Naming}
use Rattle.question_instances.specs.declared.over.Over.{Over}

-- a name that stands for a process, and the name of the process
pub record Renaming : Type 0 where
  pub word : List ℕ
  pub process : List ℕ

-- what the code hands on of it
abbrev pub renaming_of : Naming → Renaming
renaming_of n = record { word = n.word.now; process = n.process.now }

-- the process's name for which the word stands, or the word itself
abbrev pub renamed : List Renaming → List ℕ → List ℕ
renamed [] word = word
renamed (n ∷ ns) word = if bytes_eq word n.word then n.process else renamed ns word

-- a word, behind a `.` or an `@` as it is
abbrev pub put_word : Bool → List Renaming → List ℕ → List ℕ
put_word after names [] = []
put_word true names (b ∷ word) = b ∷ word
put_word false names (b ∷ word) = renamed names (b ∷ word)

-- a `.` or an `@`, behind which is the name of a variable or a watch
abbrev pub is_access : ℕ → Bool
is_access b = b == 46 || b == 64

-- whether the next word is behind one, by a byte behind a word, which may be empty
abbrev pub next_after : (after empty : Bool) → ℕ → Bool
next_after after empty b = if empty && is_blank b then after else is_access b

abbrev pub is_none : List ℕ → Bool
is_none [] = true
is_none (b ∷ word) = false

-- a text of which the first bytes of a word were passed over
abbrev pub scanned : List Renaming → Bool → List ℕ → List ℕ → List ℕ
scanned names after word [] = put_word after names word
scanned names after word (b ∷ text) =
    if is_name_byte b then scanned names after (word ++ b ∷ []) text
    else put_word after names word
    ++ b ∷ scanned names (next_after after (is_none word) b) [] text

-- the question without the words that name them, and with the processes for the names
abbrev pub instance_text : List ℕ → Over → List Renaming → List ℕ
instance_text text over names =
    take over.from text ++ scanned names false [] (drop over.to text)
