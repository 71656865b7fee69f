-- The set that is shown of a formula.
use Rattle.std.proofs.Common.{◌≡◌, ◌↔◌, Bool, true, false, MatchBool, refl}
use Rattle.run_model.specs.Cut.{Cut}
use Rattle.run_model.specs.Run.{Run}
use Rattle.run_model.specs.Sublattice.{IsSublattice, Smallest}
use Rattle.run_model.specs.Formula.{Formula}
use Rattle.run_model.specs.Meaning.{IsRun, Family}
use Rattle.run_model.specs.Class.{is_conjunctive, IsKeptFor, IsRegularIn, Shown}
use Rattle.meaning_laws.proofs.RegularLemmas.{regular_closed}
use Rattle.meaning_laws.proofs.JoinLemmas.{smallest_closed, smallest_of_closed}

-- the two cases of `Shown`
abbrev ShownIf : Bool → Run → Formula → Cut → Type 0
ShownIf b r f c = MatchBool b (Family r f c) (Smallest (Family r f) c)

closed_if : (r : Run) → IsRun r → (f : Formula) → IsKeptFor r f → (b : Bool) → is_conjunctive true f ≡ b → IsSublattice r.clocks (ShownIf b r f)
closed_if r run f kept true e = regular_closed r run f (record { form = e; kept = kept })
closed_if r run f kept false e = smallest_closed r.clocks run.order (Family r f) (λ c h. h.0)

pub shown_closed : (r : Run) → IsRun r → (f : Formula) → IsKeptFor r f → IsSublattice r.clocks (Shown r f)
shown_closed r run f kept = closed_if r run f kept (is_conjunctive true f) refl

smallest_if : (r : Run) → IsRun r → (f : Formula) → IsKeptFor r f → (b : Bool) → is_conjunctive true f ≡ b → (c : Cut) → ShownIf b r f c ↔ Smallest (Family r f) c
smallest_if r run f kept true e c = let same = smallest_of_closed r.clocks (Family r f) (regular_closed r run f (record { form = e; kept = kept })) c in (same.1, same.0)
smallest_if r run f kept false e c = (λ h. h, λ h. h)

pub shown_smallest : (r : Run) → IsRun r → (f : Formula) → IsKeptFor r f → (c : Cut) → Shown r f c ↔ Smallest (Family r f) c
shown_smallest r run f kept c = smallest_if r run f kept (is_conjunctive true f) refl c
