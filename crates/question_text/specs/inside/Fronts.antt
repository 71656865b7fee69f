-- Places of a front.
use Rattle.std.specs.Prelude.{ℕ, ◌≤◌, ⊤}
use Rattle.question_text.specs.declared.front.Front.{Front}
use Rattle.question_text.specs.declared.front.Front.TheVariants as front

-- its place lies within so many bytes
abbrev pub IsWithin : ℕ → Front → Type 0
IsWithin len (front.Words asking from) = from ≤ len
IsWithin len front.NoWords = ⊤
IsWithin len (front.NoEnd at) = at ≤ len
