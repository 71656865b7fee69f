-- The greatest cuts of the slices that the operators make.
use Rattle.std.proofs.Common.{◌≡◌, Option, Some, None}
use Rattle.run_model.specs.Cut.{Cut, Clocks, IsWithin, max_cut, min_cut, lengths}
use Rattle.run_model.specs.Consistent.{IsOrder, IsConsistent}
use Rattle.run_model.specs.Sublattice.{IsSublattice}
use Rattle.run_model.specs.Slice.{Slice, Cuts, StandsFor}
use Rattle.run_model.specs.Operators.{whole, lowered, raised}
use Rattle.run_model.proofs.Counts.{within_refl, within_trans, within_min, max_within, max_left, min_left}
use Rattle.run_model.proofs.Orders.{min_consistent, max_consistent, consistent_closed}
use Rattle.run_model.proofs.SliceLemmas.{cuts_closed, exact_slice, stands_fits}
use Rattle.meaning_laws.proofs.ResultSlices.{whole_stands, lowered_stands, raised_stands}
use Rattle.slice_graph.specs.Views.{SliceView, joined_rows}
use Rattle.slice_graph.specs.Fitting.{Agrees}
use Rattle.slice_graph.proofs.Building.{agrees_stands}
use Rattle.slice_graph.proofs.Tops.{top_of_set}
use Rattle.temporal_slice.specs.inside.Operands.{operand, FitsOperand}

-- ---- the consistent cuts within one

within_closed : (o : Clocks) → IsOrder o → (t : Cut) → IsSublattice o (λ c. IsConsistent o c × IsWithin c t)
within_closed o order t = record {
  consistent = λ c h. h.0;
  has_min = λ c d h k. (min_consistent o order c d h.0 k.0, within_trans (min_cut c d) c t (min_left c d) h.1);
  has_max = λ c d h k. (max_consistent o order c d h.0 k.0, max_within c d t h.1 k.1);
}

pub lowered_top : (o : Clocks) → IsOrder o → (t : Cut) → IsConsistent o t → (v : SliceView) → Agrees o (lowered (whole o) t) v → t ≡ joined_rows v
lowered_top o order t consistent v agrees =
    let A : Cut → Type 0 = λ c. IsConsistent o c × IsWithin c t in
    top_of_set o order A (within_closed o order t) v agrees.shape agrees.count
    (agrees_stands o (lowered (whole o) t) v A agrees (lowered_stands o (whole o) (IsConsistent o) t (whole_stands o order) consistent)) t
    (record { member = (consistent, within_refl t); greatest = λ c h. h.1 })

-- ---- the cuts of a slice that hold one

holding_closed : (o : Clocks) → IsOrder o → (s : Slice) (b : Cut) → IsSublattice o (λ c. Cuts o s c × IsWithin b c)
holding_closed o order s b =
    let closed = cuts_closed o order s in
    record {
      consistent = λ c h. h.0.consistent;
      has_min = λ c d h k. (closed.has_min c d h.0 k.0, within_min b c d h.1 k.1);
      has_max = λ c d h k. (closed.has_max c d h.0 k.0, within_trans b c (max_cut c d) h.1 (max_left c d));
    }

operand_stands : (o : Clocks) → IsOrder o → (k : Option SliceView) → FitsOperand o k → StandsFor o (operand o k) (Cuts o (operand o k))
operand_stands o order None h = stands_fits o (IsConsistent o) (consistent_closed o order) (whole o) (whole_stands o order)
operand_stands o order (Some v) h = h.stands

pub raised_top : (o : Clocks) → IsOrder o → (k : Option SliceView) → FitsOperand o k → (b : Cut) → Cuts o (operand o k) b → Cuts o (operand o k) (lengths o) → (v : SliceView)
    → Agrees o (raised (operand o k) b) v → lengths o ≡ joined_rows v
raised_top o order k fits b member last v agrees =
    let s : Slice = operand o k in
    let A : Cut → Type 0 = λ c. Cuts o s c × IsWithin b c in
    top_of_set o order A (holding_closed o order s b) v agrees.shape agrees.count
    (agrees_stands o (raised s b) v A agrees (raised_stands o s (Cuts o s) b (cuts_closed o order s).has_max (operand_stands o order k fits) member)) (lengths o)
    (record { member = (last, member.consistent.within); greatest = λ c h. h.0.consistent.within })

-- each consistent cut is one of the slice of all of them
pub whole_cuts : (o : Clocks) → IsOrder o → (c : Cut) → IsConsistent o c → Cuts o (whole o) c
whole_cuts o order c h = (exact_slice o (IsConsistent o) (consistent_closed o order) (whole o) (whole_stands o order) c).0 h
