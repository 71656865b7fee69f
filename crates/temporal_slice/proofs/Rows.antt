-- The rows that are pushed, and cuts that are joined.
use Rattle.std.proofs.Common.{◌≡◌, ℕ, zero, suc, ◌+◌, ◌<◌, ◌≤◌, ◌↔◌, max, List, [], ◌∷◌, ◌++◌, length, replicate, get_or, sum, Option, Some, option_map, refl, sym, ap, ◌∙◌, subst, arith, inl, inr}
use Rattle.pota_base.specs.Shape.{HasEvent, row_of}
use Rattle.pota_base.specs.declared.shape.EventId.{EventId}
use Rattle.run_model.specs.Cut.{Cut, Clocks, IsWithin, max_cut, lengths, initial}
use Rattle.run_model.specs.Consistent.{IsOrder, IsConsistent, IsEvent, clock}
use Rattle.run_model.specs.Slice.{Slice}
use Rattle.run_model.specs.Operators.{whole, raised}
use Rattle.run_model.proofs.Counts.{length-lengths, length-max, max_within}
use Rattle.run_model.proofs.Orders.{initial_consistent}
use Rattle.slice_graph.specs.Views.{SliceView, slice_of, IsCut, IsRow, last_row}
use Rattle.slice_graph.proofs.Building.{BuiltBy, IsRowOf, built_none, built_more, bottom_row, event_row}

pub initial_is : (o : Clocks) (n : ℕ) → n ≡ length o → replicate n 0 ≡ initial o
unfolding initial
initial_is o n is = ap (λ (k : ℕ). replicate k 0) is

pub consistent_cut : (o : Clocks) (c : Cut) → IsConsistent o c → IsCut (lengths o) c
consistent_cut o c h = record { size = h.shaped ∙ sym (length-lengths o); within = h.within }

pub event_in : (o : Clocks) (e : EventId) → HasEvent (lengths o) e → IsEvent (lengths o) e.process e.position
event_in o e h = (h.first, h.last)

pub clock_cut : (o : Clocks) → IsOrder o → (e : EventId) → HasEvent (lengths o) e → IsCut (lengths o) (clock o e.process e.position)
clock_cut o order e h = record {
  size = order.shaped e.process e.position (event_in o e h) ∙ sym (length-lengths o);
  within = order.named e.process e.position (event_in o e h);
}

pub max_cut_cut : (lens : List ℕ) (c d : Cut) → IsCut lens c → IsCut lens d → IsCut lens (max_cut c d)
max_cut_cut lens c d h k = record { size = omega (arith, length-max c d, h.size, k.size); within = max_within c d lens h.within k.within }

-- ---- the first row and the next

pub bottom_pushed : (lens : List ℕ) (s : Slice) (v w : SliceView) (k : Option Cut) → v ≡ record { lens = lens; rows = [] } → k ≡ s.bottom
    → w ≡ record v { rows = v.rows ++ k ∷ [] } → BuiltBy lens (IsRowOf lens s) 1 w
bottom_pushed lens s v w k none is more = subst (λ (n : ℕ). BuiltBy lens (IsRowOf lens s) n w) (omega arith)
    (built_more lens (IsRowOf lens s) 0 v w k (built_none lens (IsRowOf lens s) v none) (bottom_row lens s k is) more)

pub event_pushed : (lens : List ℕ) (s : Slice) (row : ℕ) (e : EventId) (v w : SliceView) (k : Option Cut) → BuiltBy lens (IsRowOf lens s) row v → HasEvent lens e → row_of lens e ≡ row
    → k ≡ s.row e.process e.position → w ≡ record v { rows = v.rows ++ k ∷ [] } → BuiltBy lens (IsRowOf lens s) (row + 1) w
event_pushed lens s row e v w k h there at is more = built_more lens (IsRowOf lens s) row v w k h (event_row lens s row e k there at is) more

-- the row of an event's position
pub row_of_last : (s : Slice) (i a : ℕ) → 1 ≤ a → last_row s i a ≡ s.row i a
row_of_last s i zero some = absurd (omega arith)
row_of_last s i (suc a) some = refl

-- what comes before the events
pub first_behind : (lens : List ℕ) (e : EventId) → e ≡ record { process = 0; position = 0 } → row_of lens e + 1 ≡ 1
first_behind lens e is = ap (λ (x : EventId). row_of lens x + 1) is ∙ omega arith
