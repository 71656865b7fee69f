-- Laws of runs that are logged in part, as statements.
use Rattle.std.specs.Prelude.{◌≡◌, ℕ, ◌↔◌}
use Rattle.run_model.specs.Cut.{Cut, Clocks, IsWithin, lengths}
use Rattle.run_model.specs.Consistent.{clock, IsEvent, IsOrder, IsConsistent}
use Rattle.run_model.specs.Sublattice.{IsGreatest}
use Rattle.torn_runs.specs.Torn.{IsBeginning, IsLoggedWhole, upto}

-- a consistent cut of the run, all of whose events are logged
abbrev pub IsLoggedCut : Clocks → Clocks → Cut → Type 0
IsLoggedCut logged whole c = IsConsistent whole c × IsWithin c (lengths logged)

-- the cuts that are logged whole are the consistent cuts of the run all of whose events are logged
abbrev pub LoggedWholeIsConsistent : Type 0
LoggedWholeIsConsistent = (logged whole : Clocks) (c : Cut) → IsBeginning logged whole
    → IsOrder whole → IsLoggedWhole logged c ↔ IsLoggedCut logged whole c

-- so the greatest of the ones is the greatest of the others
abbrev pub GreatestIsGreatestCut : Type 0
GreatestIsGreatestCut = (logged whole : Clocks) (c : Cut) → IsBeginning logged whole
    → IsOrder whole → IsGreatest (IsLoggedWhole logged) c ↔ IsGreatest (IsLoggedCut logged whole) c

-- whatever is logged there is a greatest cut that is logged whole
abbrev pub ThereIsAGreatest : Type 0
ThereIsAGreatest = (o : Clocks) → (c : Cut) × IsGreatest (IsLoggedWhole o) c

-- and one alone
abbrev pub GreatestIsOne : Type 0
GreatestIsOne = (o : Clocks) (c d : Cut) → IsGreatest (IsLoggedWhole o) c
    → IsGreatest (IsLoggedWhole o) d → c ≡ d

-- a run of which everything is logged stays whole
abbrev pub WholeStays : Type 0
WholeStays = (o : Clocks) → IsOrder o → IsGreatest (IsLoggedWhole o) (lengths o)

-- the events of a cut that is logged whole are those of the run up to that cut
abbrev pub SameEvents : Type 0
SameEvents = (logged whole : Clocks) (c : Cut) → IsBeginning logged whole
    → IsLoggedWhole logged c → upto logged c ≡ upto whole c

-- the events of a consistent cut are a run
abbrev pub CutsAreOrders : Type 0
CutsAreOrders = (o : Clocks) (c : Cut) → IsOrder o → IsConsistent o c → IsOrder (upto o c)

-- it has exactly these events
abbrev pub HasTheEvents : Type 0
HasTheEvents = (o : Clocks) (c : Cut) → IsConsistent o c → lengths (upto o c) ≡ c

-- with the pasts that they have in the whole run
abbrev pub PastsStay : Type 0
PastsStay = (o : Clocks) (c : Cut) (i a : ℕ) → IsConsistent o c → IsEvent c i a
    → clock (upto o c) i a ≡ clock o i a

-- its consistent cuts are those of the whole run that lie within the cut
abbrev pub CutsWithinStay : Type 0
CutsWithinStay = (o : Clocks) (c d : Cut) → IsOrder o → IsConsistent o c
    → IsConsistent (upto o c) d ↔ (IsConsistent o d × IsWithin d c)
