-- The slice that a node gives is there.
use Rattle.std.proofs.Common.{◌≡◌, ℕ, ◌⊎◌, List, length, inl, inr, arith}
use Rattle.std.specs.Prelude.{slice_index}
use Rattle.std.proofs.lemmas.Bool.{cases_lt}
use Rattle.pota_base.specs.Shape.{IsShape}
use Rattle.run_model.specs.Cut.{Cut, Clocks, min_cut, max_cut, lengths}
use Rattle.run_model.specs.Consistent.{IsOrder, IsConsistent}
use Rattle.run_model.specs.Sublattice.{IsSublattice}
use Rattle.run_model.proofs.Counts.{length-lengths, search_below}
use Rattle.meaning_laws.proofs.ClosureLemmas.{some_time_closed, each_time_closed, staying_closed}
use Rattle.meaning_laws.proofs.DecisionLemmas.{Decided, decide_some_time, decide_each_time, decide_staying}
use Rattle.slice_existence.proofs.Members.{slice_there}
use Rattle.pull_system.specs.System.{SystemView, IsSystem, IsClosed, HoldsPull, source_of, target_of, ask}
use Rattle.slice_graph.specs.Views.{SliceView}
use Rattle.slice_graph.specs.Fitting.{ClosedCuts}
use Rattle.slice_graph.proofs.Kept.{closed_cuts_closed}
use Rattle.rctl_grammar.specs.declared.tree.Operator.{Operator}
use Rattle.rctl_grammar.specs.declared.tree.Operator.TheVariants as operator
use Rattle.certificate_nodes.specs.Given.{SlicedBy, IsGiven}
use Rattle.node_slices.proofs.Tables.{HasSlice, slice_kept}

-- ---- what is decided

-- all pulls hold, or one doesn't
pub decide_closed : (system : SystemView) (v : List ℕ) → Decided (IsClosed system v)
decide_closed system v =
    elim (search_below (λ k. HoldsPull system v k → ⊥) (HoldsPull system v) held (length system.pulls)) [
      | inl w ↦ inr (λ h. w.2 (h.each w.0 w.1))
      | inr all ↦ inl (record { each = all })
    ]
  where
    held : (k : ℕ) → (HoldsPull system v k → ⊥) ⊎ HoldsPull system v k
    held k = elim (cases_lt (slice_index v (target_of system k)) (ask system k (slice_index v (source_of system k)))) [
      | inl less ↦ inl (λ h. absurd (omega (arith, less, h)))
      | inr most ↦ inr most
    ]

decide_cuts : (o : Clocks) (system : SystemView) (c : Cut) → IsConsistent o c → Decided (ClosedCuts o system c)
decide_cuts o system c k = elim (decide_closed system c) [ inl h ↦ inl (k, h) | inr n ↦ inr (λ h. n h.1) ]

-- ---- the sets of the operators

module _ (o : Clocks) (order : IsOrder o) (A : Cut → Type 0) (closed : IsSublattice o A) where
  abbrev Sliced : Operator → Cut → Type 0
  Sliced kind c = IsConsistent o c × SlicedBy kind o A c

  no_members : (B : Cut → Type 0) → ((c : Cut) → B c → ⊥) → IsSublattice o B
  no_members B none = record { consistent = λ c h. absurd (none c h); has_min = λ c d h k. absurd (none c h); has_max = λ c d h k. absurd (none c h) }

  sliced_closed : (kind : Operator) → IsSublattice o (Sliced kind)
  sliced_closed operator.Ef = some_time_closed o order A closed
  sliced_closed operator.Ag = each_time_closed o order A closed
  sliced_closed operator.Eg = staying_closed o order A closed
  sliced_closed (operator.Ex process) = record {
    consistent = λ c h. h.0;
    has_min = λ c d h k. let m = closed.has_min c d h.1 k.1 in (closed.consistent (min_cut c d) m, m);
    has_max = λ c d h k. let m = closed.has_max c d h.1 k.1 in (closed.consistent (max_cut c d) m, m);
  }
  sliced_closed operator.Af = no_members (Sliced operator.Af) (λ c h. h.1)
  sliced_closed operator.Ax = no_members (Sliced operator.Ax) (λ c h. h.1)

  module _ (decide : (c : Cut) → IsConsistent o c → Decided (A c)) where
    decide_by : (kind : Operator) (c : Cut) → IsConsistent o c → Decided (SlicedBy kind o A c)
    decide_by operator.Ef c k = decide_some_time o order A decide c k
    decide_by operator.Ag c k = decide_each_time o order A decide c k
    decide_by operator.Eg c k = decide_staying o A decide c k
    decide_by (operator.Ex process) c k = decide c k
    decide_by operator.Af c k = inr (λ h. h)
    decide_by operator.Ax c k = inr (λ h. h)

    decide_sliced : (kind : Operator) (c : Cut) → IsConsistent o c → Decided (Sliced kind c)
    decide_sliced kind c k = elim (decide_by kind c k) [ inl h ↦ inl (k, h) | inr n ↦ inr (λ h. n h.1) ]

    has_slice : IsShape (lengths o) → (kind : Operator) → HasSlice o (Sliced kind)
    has_slice shape kind =
        let made = slice_there o (Sliced kind) (sliced_closed kind) (decide_sliced kind) in
        slice_kept o (Sliced kind) (sliced_closed kind) made.0 made.1 shape

-- ---- the node's slice

pub given_there : (o : Clocks) → IsOrder o → IsShape (lengths o) → (kind : Operator) (system : SystemView) → IsSystem system → system.lens ≡ lengths o
    → (slice : SliceView) × IsGiven o kind system slice
given_there o order shape kind system is lens =
    let closed = closed_cuts_closed o order system is lens (length-lengths o) in
    let has = has_slice o order (ClosedCuts o system) closed (decide_cuts o system) shape kind in (
      has.slice,
      record {
        rows = has.rows;
        fits = has.fits;
        cuts = λ c k. (λ h. ((has.cuts c).1 h).1, λ h. (has.cuts c).0 (k, h));
      },
    )
