-- Sets of consistent cuts that are closed under minimum and maximum, and the smallest one round a
-- set.
use Rattle.std.specs.Prelude.{◌≡◌, ℕ, ◌≤◌, ◌⊎◌, List, [], ◌∷◌}
use Rattle.run_model.specs.Cut.{Cut, Clocks, count, IsWithin, min_cut, max_cut}
use Rattle.run_model.specs.Consistent.{IsConsistent}

-- a sublattice of the consistent cuts: the satisfying cuts of a regular predicate (Garg and Mittal)
pub record IsSublattice (o : Clocks) (A : Cut → Type 0) : Type 0 where
  pub consistent : (c : Cut) → A c → IsConsistent o c
  pub has_min : (c d : Cut) → A c → A d → A (min_cut c d)
  pub has_max : (c d : Cut) → A c → A d → A (max_cut c d)

pub record IsLeast (A : Cut → Type 0) (j : Cut) : Type 0 where
  pub member : A j
  pub least : (c : Cut) → A c → IsWithin j c

pub record IsGreatest (A : Cut → Type 0) (t : Cut) : Type 0 where
  pub member : A t
  pub greatest : (c : Cut) → A c → IsWithin c t

-- the members that have event a of process i
abbrev pub Having : (Cut → Type 0) → ℕ → ℕ → Cut → Type 0
Having A i a c = A c × (a ≤ count c i)

-- the members of one of two sets
abbrev pub Either : (Cut → Type 0) → (Cut → Type 0) → Cut → Type 0
Either A B c = A c ⊎ B c

-- the smallest sublattice that holds a set (Mittal and Garg): what minimum and maximum make of its
-- members
pub data Smallest (A : Cut → Type 0) : Cut → Type 0 where
  given : {c : Cut} → A c → Smallest A c
  minimum : {c d : Cut} → Smallest A c → Smallest A d → Smallest A (min_cut c d)
  maximum : {c d : Cut} → Smallest A c → Smallest A d → Smallest A (max_cut c d)

-- the first cut and all the others are in the set
abbrev pub AllIn : (Cut → Type 0) → Cut → List Cut → Type 0
AllIn A c [] = A c
AllIn A c (d ∷ ds) = A c × AllIn A d ds

-- the minimum, and the maximum, of a list of cuts that is not empty
abbrev pub min_of : Cut → List Cut → Cut
min_of c [] = c
min_of c (d ∷ ds) = min_cut c (min_of d ds)

abbrev pub max_of : Cut → List Cut → Cut
max_of c [] = c
max_of c (d ∷ ds) = max_cut c (max_of d ds)

-- the same sublattice as lists: a maximum of cuts, each a minimum of members
abbrev pub IsMinOf : (Cut → Type 0) → Cut → Type 0
IsMinOf A c = (d : Cut) × (ds : List Cut) × AllIn A d ds × (c ≡ min_of d ds)

abbrev pub IsMaxOfMins : (Cut → Type 0) → Cut → Type 0
IsMaxOfMins A c = (d : Cut) × (ds : List Cut) × AllIn (IsMinOf A) d ds × (c ≡ max_of d ds)
