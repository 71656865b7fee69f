-- Runs of which only the first events of each process are logged, as killed processes leave them.
use Rattle.std.specs.Prelude.{◌≡◌, ℕ, List, [], ◌∷◌, ◌++◌, length, take, get_or}
use Rattle.run_model.specs.Cut.{Cut, Clocks, IsWithin, lengths}
use Rattle.run_model.specs.Consistent.{clock, IsEvent}

-- of each process of the whole run the first events are logged, maybe all of them
pub record IsBeginning (logged whole : Clocks) : Type 0 where
  pub procs : length logged ≡ length whole
  pub each : (p : ℕ) → (more : List Cut) × (get_or whole p [] ≡ get_or logged p [] ++ more)

-- a cut of logged events that is logged whole: each event that the clocks of its events count is
-- one of its own
pub record IsLoggedWhole (o : Clocks) (c : Cut) : Type 0 where
  pub shaped : length c ≡ length o
  pub within : IsWithin c (lengths o)
  pub pasts : (i a : ℕ) → IsEvent c i a → IsWithin (clock o i a) c

-- of each process the first ones, so many as the cut has
abbrev pub upto : {A : Type 0} → List (List A) → Cut → List (List A)
upto [] c = []
upto (rows ∷ o) [] = [] ∷ upto o []
upto (rows ∷ o) (n ∷ c) = take n rows ∷ upto o c
