-- From a slice of the model to the slice that the code made.
use Rattle.std.proofs.Common.{◌≡◌, ℕ, ◌≤◌, ◌↔◌, length, Option}
use Rattle.run_model.specs.Cut.{Cut, Clocks, IsWithin, lengths}
use Rattle.run_model.specs.Consistent.{IsOrder, IsConsistent}
use Rattle.run_model.specs.Sublattice.{IsSublattice, IsLeast, IsGreatest}
use Rattle.run_model.specs.Slice.{Slice, Cuts, StandsFor}
use Rattle.run_model.specs.Operators.{EfHolds, AgHolds, EgHolds, AgHoldsByRows, HasPairs, whole, nowhere, lowered, raised}
use Rattle.run_model.proofs.SliceLemmas.{exact_slice, cuts_closed}
use Rattle.meaning_laws.proofs.ClosureLemmas.{some_time_closed, each_time_closed, staying_closed}
use Rattle.meaning_laws.proofs.ResultSlices.{some_time_slice, some_time_nowhere, each_time_slice, each_time_nowhere, staying_slice, staying_nowhere}
use Rattle.slice_graph.specs.Views.{SliceView, slice_of}
use Rattle.slice_graph.specs.Fitting.{FitsOrder, Agrees}
use Rattle.slice_graph.proofs.Building.{agrees_stands, fits_of_set}

-- the consistent cuts at which an operator says so
abbrev pub ConsistentAnd : Clocks → (Cut → Type 0) → Cut → Type 0
ConsistentAnd o B c = IsConsistent o c × B c

-- what is said of an operator's slice
pub record IsMade (o : Clocks) (B : Cut → Type 0) (v : SliceView) : Type 0 where
  pub stands : StandsFor o (slice_of v) (ConsistentAnd o B)
  pub fits : FitsOrder o v
  pub cuts : (c : Cut) → IsConsistent o c → Cuts o (slice_of v) c ↔ B c

pub made : (o : Clocks) (B : Cut → Type 0) → IsSublattice o (ConsistentAnd o B) → (s : Slice) → StandsFor o s (ConsistentAnd o B) → (v : SliceView) → Agrees o s v → IsMade o B v
made o B closed s stands v agrees =
    let here = agrees_stands o s v (ConsistentAnd o B) agrees stands in
    record {
      stands = here;
      fits = fits_of_set o v (ConsistentAnd o B) closed agrees.shape agrees.count here;
      cuts = λ c consistent.
          let exact = exact_slice o (ConsistentAnd o B) closed (slice_of v) here c in
          (λ cut. (exact.1 cut).1, λ h. exact.0 (consistent, h));
    }

-- ---- EF

pub ef_closed : (o : Clocks) → IsOrder o → (v : SliceView) → IsSublattice o (ConsistentAnd o (EfHolds o (Cuts o (slice_of v))))
ef_closed o order v = some_time_closed o order (Cuts o (slice_of v)) (cuts_closed o order (slice_of v))

pub ef_within : (o : Clocks) → IsOrder o → (v : SliceView) (top : Cut) → IsGreatest (Cuts o (slice_of v)) top → (w : SliceView) → Agrees o (lowered (whole o) top) w
    → IsMade o (EfHolds o (Cuts o (slice_of v))) w
ef_within o order v top greatest = made o (EfHolds o (Cuts o (slice_of v))) (ef_closed o order v) (lowered (whole o) top)
    (some_time_slice o order (Cuts o (slice_of v)) (λ c h. h.consistent) top greatest)

pub ef_none : (o : Clocks) → IsOrder o → (v : SliceView) → ((c : Cut) → Cuts o (slice_of v) c → ⊥) → (w : SliceView) → Agrees o nowhere w
    → IsMade o (EfHolds o (Cuts o (slice_of v))) w
ef_none o order v none = made o (EfHolds o (Cuts o (slice_of v))) (ef_closed o order v) nowhere (some_time_nowhere o (Cuts o (slice_of v)) none)

-- ---- AG

pub ag_closed : (o : Clocks) → IsOrder o → (v : SliceView) → IsSublattice o (ConsistentAnd o (AgHolds o (Cuts o (slice_of v))))
ag_closed o order v = each_time_closed o order (Cuts o (slice_of v)) (cuts_closed o order (slice_of v))

pub ag_from : (o : Clocks) → IsOrder o → (v : SliceView) → FitsOrder o v → (b : Cut) → IsLeast (λ c. IsConsistent o c × AgHoldsByRows o (slice_of v) c) b
    → (w : SliceView) → Agrees o (raised (whole o) b) w → IsMade o (AgHolds o (Cuts o (slice_of v))) w
ag_from o order v fits b least = made o (AgHolds o (Cuts o (slice_of v))) (ag_closed o order v) (raised (whole o) b)
    (each_time_slice o order (Cuts o (slice_of v)) (cuts_closed o order (slice_of v)) (slice_of v) fits.stands b least)

pub ag_none : (o : Clocks) → IsOrder o → (v : SliceView) → (Cuts o (slice_of v) (lengths o) → ⊥) → (w : SliceView) → Agrees o nowhere w
    → IsMade o (AgHolds o (Cuts o (slice_of v))) w
ag_none o order v none = made o (AgHolds o (Cuts o (slice_of v))) (ag_closed o order v) nowhere (each_time_nowhere o order (Cuts o (slice_of v)) none)

-- ---- EG

pub eg_closed : (o : Clocks) → IsOrder o → (v : SliceView) → IsSublattice o (ConsistentAnd o (EgHolds o (Cuts o (slice_of v))))
eg_closed o order v = staying_closed o order (Cuts o (slice_of v)) (cuts_closed o order (slice_of v))

pub eg_from : (o : Clocks) → IsOrder o → (v : SliceView) → FitsOrder o v → Cuts o (slice_of v) (lengths o) → (b : Cut)
    → IsLeast (λ c. Cuts o (slice_of v) c × HasPairs o (slice_of v) c) b
    → (w : SliceView) → Agrees o (raised (slice_of v) b) w → IsMade o (EgHolds o (Cuts o (slice_of v))) w
eg_from o order v fits last b least = made o (EgHolds o (Cuts o (slice_of v))) (eg_closed o order v) (raised (slice_of v) b)
    (staying_slice o (Cuts o (slice_of v)) (cuts_closed o order (slice_of v)) (slice_of v) fits.stands last b least)

pub eg_none : (o : Clocks) → IsOrder o → (v : SliceView) → (Cuts o (slice_of v) (lengths o) → ⊥) → (w : SliceView) → Agrees o nowhere w
    → IsMade o (EgHolds o (Cuts o (slice_of v))) w
eg_none o order v none = made o (EgHolds o (Cuts o (slice_of v))) (eg_closed o order v) nowhere (staying_nowhere o (Cuts o (slice_of v)) none)
