-- What the temporal operators make of a set of cuts (Sen and Garg, on finite runs), and what they
-- and disjunction make of slices.
use Rattle.std.specs.Prelude.{◌≡◌, ℕ, ◌<◌, ◌≤◌, List, [], ◌∷◌, length, Option, Some, None}
use Rattle.std.specs.Prelude.{option_map, if◌then◌else◌, nat_le}
use Rattle.run_model.specs.Cut.{Cut, Clocks, count, min_cut, max_cut, with_next, lengths, initial}
use Rattle.run_model.specs.Consistent.{IsEvent, IsPath, clock}
use Rattle.run_model.specs.Sublattice.{AllIn}
use Rattle.run_model.specs.Slice.{Slice, HasWithin}

-- EF: some path from c ends in the set
abbrev pub EfHolds : Clocks → (Cut → Type 0) → Cut → Type 0
EfHolds o A c = (es : List Cut) × (d : Cut) × IsPath o c es d × A d

-- AG: each cut of every path from c is in the set
abbrev pub AgHolds : Clocks → (Cut → Type 0) → Cut → Type 0
AgHolds o A c = (es : List Cut) (d : Cut) → IsPath o c es d → AllIn A c es

-- EG: some path from c to the final cut stays in the set
abbrev pub EgHolds : Clocks → (Cut → Type 0) → Cut → Type 0
EgHolds o A c = (es : List Cut) × IsPath o c es (lengths o) × AllIn A c es

-- EX of process i: some path of two cuts from c ends in the set, with one event of i more
abbrev pub ExHolds : Clocks → ℕ → (Cut → Type 0) → Cut → Type 0
ExHolds o i A c =
    (i < length c) × IsPath o c (with_next c i ∷ []) (with_next c i) × A (with_next c i)

-- AG at c by the rows of the set's slice: each is within the maximum of c and the past of its
-- event, so c has each event of the row that is not in that past
pub record AgHoldsByRows (o : Clocks) (s : Slice) (c : Cut) : Type 0 where
  pub bottom : HasWithin s.bottom c
  pub rows : (i a : ℕ) → IsEvent (lengths o) i a → HasWithin (s.row i a) (max_cut c (clock o i a))

-- EG at c by the rows: c has each event that shares its row with another
abbrev pub HasPairs : Clocks → Slice → Cut → Type 0
HasPairs o s c =
    (i a j b : ℕ) → IsEvent (lengths o) i a → IsEvent (lengths o) j b → s.row i a ≡ s.row j b
    → ((i ≡ j) × (a ≡ b) → ⊥) → a ≤ count c i

-- the slice of all consistent cuts
abbrev pub whole : Clocks → Slice
whole o = record { bottom = Some (initial o); row = λ i a. Some (clock o i a) }

-- the slice of no cut
abbrev pub nowhere : Slice
nowhere = record { bottom = None; row = λ i a. None }

-- the slice of the cuts within t: the rows of the events that t has
abbrev pub lowered : Slice → Cut → Slice
lowered s t =
    record { bottom = s.bottom; row = λ i a. if nat_le a (count t i) then s.row i a else None }

-- the slice of the cuts that hold b
abbrev pub raised : Slice → Cut → Slice
raised s b = record { bottom = Some b; row = λ i a. option_map (max_cut b) (s.row i a) }

-- the minimum, where an absent cut counts as above all
abbrev pub min_row : Option Cut → Option Cut → Option Cut
min_row None k = k
min_row (Some j) None = Some j
min_row (Some j) (Some k) = Some (min_cut j k)

-- the slice of the smallest sublattice round two closed sets (Mittal and Garg)
abbrev pub joined : Slice → Slice → Slice
joined s t =
    record { bottom = min_row s.bottom t.bottom; row = λ i a. min_row (s.row i a) (t.row i a) }

-- slices joined one after the other
abbrev pub joined_all : Slice → List Slice → Slice
joined_all s [] = s
joined_all s (t ∷ ts) = joined_all (joined s t) ts
