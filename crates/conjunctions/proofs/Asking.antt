-- What operators over a slice ask of cuts.
use Rattle.std.proofs.Common.{◌≡◌, ℕ, ◌*◌, List, ◌++◌, length, All, sym, ◌∙◌, ap, subst}
use Rattle.std.specs.Prelude.{◌↔◌}
use Rattle.run_model.specs.Cut.{Cut, Clocks}
use Rattle.run_model.specs.Consistent.{IsConsistent}
use Rattle.run_model.specs.Operators.{ExHolds}
use Rattle.run_model.specs.Slice.{Cuts}
use Rattle.rctl_grammar.specs.declared.tree.Operator.{Operator}
use Rattle.rctl_grammar.specs.declared.tree.Operator.TheVariants as operator
use Rattle.pull_system.specs.declared.pull.Pull.{Pull}
use Rattle.pull_system.specs.System.{SystemView, IsPull}
use Rattle.pull_system.specs.Pulls.{ClosedUnder}
use Rattle.pull_system.proofs.PullLists.{closed_under}
use Rattle.slice_graph.specs.Views.{SliceView, HasAllRows, slice_of}
use Rattle.slice_graph.specs.Fitting.{FitsOrder}
use Rattle.slice_graph.specs.PullLists.{pulls_of_slice}
use Rattle.slice_graph.proofs.SlicePulls.{slice_pulls_fit, slice_pulls_count, slice_closed}
use Rattle.part_pulls.specs.Operating.{Operated}
use Rattle.part_pulls.proofs.Slices.{cut_of_lengths, cut_is}
use Rattle.conjunctions.specs.inside.Beginning.{AsksAlone}
use Rattle.conjunctions.specs.inside.Gathering.{AddsOperator}
use Rattle.conjunctions.specs.inside.Settling.{IsSliceOfSystem}

-- the pulls of an operator's own slice
pub operated_adds : (o : Clocks) (operator : Operator) (operand slice : SliceView) (old new : List Pull) → FitsOrder o slice → HasAllRows slice
    → ((c : Cut) → IsConsistent o c → Cuts o (slice_of slice) c ↔ Operated operator o (Cuts o (slice_of operand)) c) → new ≡ old ++ pulls_of_slice slice → AddsOperator o operator operand old new
operated_adds o operator operand slice old new fits rows cuts is = record {
  added = pulls_of_slice slice;
  is = is;
  fit = subst (λ (lens : List ℕ). All (IsPull lens) (pulls_of_slice slice)) fits.shape (slice_pulls_fit o slice fits rows);
  count = slice_pulls_count slice ∙ ap (λ (lens : List ℕ). length lens * length lens) fits.shape;
  closed = λ c consistent.
      let closed = slice_closed o slice fits rows c (cut_is o slice fits c consistent) in
      let same = cuts c consistent in
      (λ h. same.0 (closed.0 h), λ h. closed.1 (same.1 h));
  orders = λ gives c shaped within h. ((slice_closed o slice fits rows c (cut_of_lengths o slice fits c shaped within)).0 h).consistent;
}

-- those of EX, over the operand's slice
pub next_adds : (o : Clocks) (process : ℕ) (operand : SliceView) (old new added : List Pull) → FitsOrder o operand → new ≡ old ++ added → All (IsPull operand.lens) added
    → length added ≡ length operand.lens * length operand.lens → ((c : Cut) → IsConsistent o c → ClosedUnder added c ↔ ExHolds o process (Cuts o (slice_of operand)) c)
    → AddsOperator o (operator.Ex process) operand old new
next_adds o process operand old new added fits is fit count closed = record {
  added = added;
  is = is;
  fit = subst (λ (lens : List ℕ). All (IsPull lens) added) fits.shape fit;
  count = count ∙ ap (λ (lens : List ℕ). length lens * length lens) fits.shape;
  closed = closed;
  orders = λ gives. absurd (cc);
}

-- a slice that asks alone has the cuts that are closed under the system
pub alone_is_slice : (o : Clocks) (system : SystemView) (slice : SliceView) → AsksAlone o system.pulls slice → IsSliceOfSystem o system slice
alone_is_slice o system slice asks = record {
  fits = asks.fits;
  cuts = λ c consistent.
      let closed = slice_closed o slice asks.fits asks.rows c (cut_is o slice asks.fits c consistent) in
      let under = closed_under system c in
      let P : List Pull → Type 0 = λ pulls. ClosedUnder pulls c in
      (λ h. under.1 (subst P (sym asks.own) (closed.1 h)), λ h. closed.0 (subst P asks.own (under.0 h)));
}
