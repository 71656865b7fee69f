-- Consistent cuts are vectors, and the starts of rows lie within the cuts that have their events.
use Rattle.std.proofs.Common.{◌≡◌, ℕ, ◌≤◌, ◌↔◌, List, length, get_or, set, sym, ap, ◌∙◌, subst, arith, inl, inr}
use Rattle.std.proofs.lemmas.Bool.{cases_eq}
use Rattle.std.proofs.lemmas.List.{length-map, get_or-set_same, get_or-set_other}
use Rattle.pota_base.specs.Shape.{HasEvent, row_of}
use Rattle.pota_base.specs.declared.shape.EventId.{EventId}
use Rattle.run_model.specs.Cut.{Cut, Clocks, count, IsWithin, min_cut, max_cut, lengths}
use Rattle.run_model.specs.Consistent.{IsConsistent}
use Rattle.run_model.proofs.Counts.{count-min, count-max, length-min, length-max}
use Rattle.pull_system.specs.Vector.{IsVector, IsMinimum, IsMaximum}
use Rattle.pull_system.specs.Rows.{start_of}
use Rattle.pull_system.proofs.Starts.{start_of-bottom, start_of-event, length-start_of}

pub cut_vector : (o : Clocks) (c : Cut) → IsConsistent o c → IsVector (lengths o) c
unfolding lengths
cut_vector o c h = record {
  size = omega (arith, h.shaped, length-map o length);
  within = λ i. omega (arith, h.within i);
}

pub cut_minimum : (c d : Cut) → length c ≡ length d → IsMinimum c d (min_cut c d)
cut_minimum c d sizes = record { size = omega (arith, length-min c d, sizes); each = count-min c d }

pub cut_maximum : (c d : Cut) → length c ≡ length d → IsMaximum c d (max_cut c d)
cut_maximum c d sizes = record { size = omega (arith, length-max c d, sizes); each = count-max c d }

pub bottom_within : (lens : List ℕ) (c : Cut) → IsWithin (start_of lens 0) c
bottom_within lens c i = omega (arith, start_of-bottom lens i)

-- the start of an event's row has the event's position on its process, and nothing else
pub event_within : (lens : List ℕ) (e : EventId) (c : Cut) → HasEvent lens e
    → IsWithin (start_of lens (row_of lens e)) c ↔ (e.position ≤ count c e.process)
event_within lens e c there = (
  λ h. omega (arith, h e.process, at),
  λ h i. elim (cases_eq i e.process) [
    | inl eq ↦ subst (λ (k : ℕ). count (start_of lens (row_of lens e)) k ≤ count c k) (sym eq) (omega (arith, h, at))
    | inr ne ↦ omega (arith, ap (λ (ns : List ℕ). get_or ns i 0) is, get_or-set_other (start_of lens 0) e.process i e.position 0 ne, start_of-bottom lens i)
  ],
)
  where
    is : start_of lens (row_of lens e) ≡ set (start_of lens 0) e.process e.position
    is = start_of-event lens e.process e.position there.process there.first there.last

    at : count (start_of lens (row_of lens e)) e.process ≡ e.position
    at = ap (λ (ns : List ℕ). get_or ns e.process 0) is ∙ get_or-set_same (start_of lens 0) e.process e.position 0 (omega (arith, there.process, length-start_of lens 0))
