-- The order of a run by its vector clocks, the consistent cuts, and the paths through them.
use Rattle.std.specs.Prelude.{◌≡◌, ℕ, zero, suc, ◌<◌, ◌≤◌, List, [], ◌∷◌, length, get_or}
use Rattle.run_model.specs.Cut.{Cut, Clocks, count, IsWithin, Follows, lengths}

-- the past of event a of process i, which has the event itself: its vector clock (Fidge; Mattern).
-- Events count from 1, so that there is no past of event 0
unfoldable pub clock : Clocks → ℕ → ℕ → Cut
clock o i zero = []
clock o i (suc a) = get_or (get_or o i []) a []

-- event a of process i is in the cut
abbrev pub IsEvent : Cut → ℕ → ℕ → Type 0
IsEvent c i a = (0 < a) × (a ≤ count c i)

-- these clocks are those of a partial order of the events: each has one count per process, counts
-- its own event and no event that is not there, holds the past of each event that it has, and no
-- two events are in the past of each other
pub record IsOrder (o : Clocks) : Type 0 where
  pub shaped : (i a : ℕ) → IsEvent (lengths o) i a → length (clock o i a) ≡ length o
  pub own : (i a : ℕ) → IsEvent (lengths o) i a → count (clock o i a) i ≡ a
  pub named : (i a : ℕ) → IsEvent (lengths o) i a → IsWithin (clock o i a) (lengths o)
  pub transitive : (i a j b : ℕ) → IsEvent (lengths o) i a → IsEvent (clock o i a) j b
      → IsWithin (clock o j b) (clock o i a)
  pub loopless : (i a j b : ℕ) → IsEvent (lengths o) i a → IsEvent (clock o i a) j b
      → a ≤ count (clock o j b) i → (i ≡ j) × (a ≡ b)

-- event a of process i happened before event b of process j (Lamport), as the clocks state it,
-- where both are there
pub record HappenedBefore (o : Clocks) (i a j b : ℕ) : Type 0 where
  pub first : IsEvent (lengths o) i a
  pub second : IsEvent (lengths o) j b
  pub in_past : IsEvent (clock o j b) i a
  pub differs : (i ≡ j) × (a ≡ b) → ⊥

-- a consistent cut holds the past of the last event that it has of each process (Mattern)
pub record IsConsistent (o : Clocks) (c : Cut) : Type 0 where
  pub shaped : length c ≡ length o
  pub within : IsWithin c (lengths o)
  pub pasts : (i : ℕ) → 0 < count c i → IsWithin (clock o i (count c i)) c

-- a path from the first cut to the last within a set: the cuts behind the first, each with exactly
-- one event more than the one before
abbrev pub PathIn : (Cut → Type 0) → Cut → List Cut → Cut → Type 0
PathIn A c [] d = A c × (c ≡ d)
PathIn A c (e ∷ es) d = A c × Follows c e × PathIn A e es d

-- a path of consistent cuts; one cut alone is a path
abbrev pub IsPath : Clocks → Cut → List Cut → Cut → Type 0
IsPath o c es d = PathIn (IsConsistent o) c es d
