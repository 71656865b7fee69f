-- Slices (Mittal and Garg): a closed set of cuts by its least cut and, for each event, the least
-- cut that has the event (Birkhoff: a finite distributive lattice is known by its join-irreducible
-- members).
use Rattle.std.specs.Prelude.{◌≡◌, ℕ, zero, suc, ◌≤◌, List, [], ◌∷◌, Option, Some, None}
use Rattle.std.specs.Prelude.{MatchOption, All, ◌&&◌, nat_lt, if◌then◌else◌, length, flat_map}
use Rattle.std.specs.List.{range_with_len}
use Rattle.run_model.specs.Cut.{Cut, Clocks, count, IsWithin, lengths}
use Rattle.run_model.specs.Consistent.{IsConsistent, IsEvent, clock}
use Rattle.run_model.specs.Sublattice.{IsLeast, IsGreatest, Having}

-- a least cut, and a row for each event: the least cut with event a of process i. Each is absent
-- where there is no such cut. Rows of what is no event say nothing
pub record Slice : Type 0 where
  pub bottom : Option Cut
  pub row : ℕ → ℕ → Option Cut

-- the optional cut is there, and within c
abbrev pub HasWithin : Option Cut → Cut → Type 0
HasWithin None c = ⊥
HasWithin (Some j) c = IsWithin j c

-- the least member of the set, and absent exactly where the set is empty
abbrev pub IsLeastOf : (Cut → Type 0) → Option Cut → Type 0
IsLeastOf A None = (c : Cut) → A c → ⊥
IsLeastOf A (Some j) = IsLeast A j

-- the cuts of a slice: it has the bottom, and the row of each event that it has
pub record Cuts (o : Clocks) (s : Slice) (c : Cut) : Type 0 where
  pub consistent : IsConsistent o c
  pub from_bottom : HasWithin s.bottom c
  pub rows : (i a : ℕ) → IsEvent c i a → HasWithin (s.row i a) c

-- the slice is that of the set
pub record StandsFor (o : Clocks) (s : Slice) (A : Cut → Type 0) : Type 0 where
  pub bottom : IsLeastOf A s.bottom
  pub rows : (i a : ℕ) → IsEvent (lengths o) i a → IsLeastOf (Having A i a) (s.row i a)

-- the slice is that of its own cuts
abbrev pub Fits : Clocks → Slice → Type 0
Fits o s = StandsFor o s (Cuts o s)

-- `edge Q b -> P a`: a cut with event a of P has event b of Q
pub record Edge : Type 0 where
  pub cause : ℕ
  pub cause_position : ℕ
  pub effect : ℕ
  pub effect_position : ℕ

abbrev pub Keeps : Cut → Edge → Type 0
Keeps c e = e.effect_position ≤ count c e.effect → e.cause_position ≤ count c e.cause

-- the set that two cuts and edges denote
pub record Denoted (o : Clocks) (low high : Cut) (edges : List Edge) (c : Cut) : Type 0 where
  pub consistent : IsConsistent o c
  pub above : IsWithin low c
  pub below : IsWithin c high
  pub keeps : All (Keeps c) edges

abbrev pub cut_of : Option Cut → Cut
cut_of None = []
cut_of (Some j) = j

-- the row of the event before, or the bottom
abbrev pub previous : Slice → ℕ → ℕ → Option Cut
previous s i zero = s.bottom
previous s i (suc zero) = s.bottom
previous s i (suc (suc a)) = s.row i (suc a)

-- the edge into event a of process p from process q, where the event's row has more of q than the
-- row before and than the event's past
abbrev pub edge_into : Clocks → Slice → ℕ → ℕ → ℕ → List Edge
edge_into o s p a q =
    let b = count (cut_of (s.row p a)) q in
    if nat_lt (count (cut_of (previous s p a)) q) b && nat_lt (count (clock o p a) q) b
    then record { cause = q; cause_position = b; effect = p; effect_position = a } ∷ []
    else []

-- the edges of a slice with this greatest cut, by their effects and then by their causes, each in
-- the order of the processes
unfoldable pub edges_of : Clocks → Slice → Cut → List Edge
edges_of o s high =
    flat_map (λ p. flat_map (λ a. flat_map (edge_into o s p a)
    (range_with_len 0 (length (cut_of (s.row p a))))) (range_with_len 1 (count high p)))
    (range_with_len 0 (length high))

-- how a slice with cuts is printed: its least cut, its greatest cut and its edges
pub record IsPrintedAs (o : Clocks) (A : Cut → Type 0) (low high : Cut) (edges : List Edge) : Type 0
  where
    pub slice : Slice
    pub stands : StandsFor o slice A
    pub least : IsLeast A low
    pub greatest : IsGreatest A high
    pub listed : edges ≡ edges_of o slice high

-- the text of a slice: its least and its greatest cut and its edges, or no bounds where the slice
-- is empty
pub record SliceText : Type 0 where
  pub bounds : Option (Cut × Cut)
  pub edges : List Edge

-- the set that the text of a slice denotes
abbrev pub DenotedBy : Clocks → SliceText → Cut → Type 0
DenotedBy o text c = MatchOption text.bounds ⊥ (λ bounds. Denoted o bounds.0 bounds.1 text.edges c)

-- the text is that of the set's slice
abbrev pub IsTextOf : Clocks → (Cut → Type 0) → SliceText → Type 0
IsTextOf o A text = MatchOption text.bounds ((text.edges ≡ []) × ((c : Cut) → A c → ⊥))
    (λ bounds. IsPrintedAs o A bounds.0 bounds.1 text.edges)
