-- What a watch that was handed in says of states.
use Rattle.std.specs.Prelude.{ℤ, Bool, List}
use Rattle.watch.specs.declared.predicate.Handed.{Handed}

-- what a watch that was handed in says of states
abbrev pub Says : (X : Type 0) → (X → Type 0) → Type 0
Says X P = Handed X P → List (List ℤ) → List Bool

-- what a watch says, by what the values behind its table answer
abbrev pub said_by : {X : Type 0} {P : X → Type 0} → (((x : X) × P x) → List (List ℤ) → List Bool)
    → Says X P
said_by answers h = answers (h.watch.vtable, h.watch.value)
