-- The watches that a run hands in.
use Rattle.std.specs.Prelude.{ℕ, List, map}
use Rattle.watch.specs.declared.predicate.Handed.{Handed}

-- their names
abbrev pub names_of : {X : Type 0} {P : X → Type 0} → List (Handed X P) → List (List ℕ)
names_of {X} {P} handed = map (λ (h : Handed X P). h.name) handed
