-- What it says of a part that its witness shows nothing.
use Rattle.std.proofs.Common.{◌≡◌, List, [], ◌∷◌, subst, refl}
use Rattle.std.specs.Prelude.{◌↔◌, IsFalse}
use Rattle.run_model.specs.Cut.{Cut, initial}
use Rattle.run_model.specs.Run.{Run}
use Rattle.run_model.specs.Consistent.{IsConsistent, PathIn}
use Rattle.run_model.specs.Sublattice.{AllIn}
use Rattle.run_model.specs.Formula.{Ef, Ag, Eg, Af, Ax, Formula, Truth, Comparison, Watched, InTransit, Empty, Difference, Not, And, Or, Temporal, Next, Until}
use Rattle.run_model.specs.Meaning.{Sat}
use Rattle.run_model.specs.Witness.{Witness, PathTo, Place, Nothing, StepsIn, is_temporal, IsOfKind}
use Rattle.run_model.specs.Witness as W
use Rattle.meaning_laws.proofs.WitnessLemmas.{cuts_along, steps_are_path}

last_of_all : (A B : Cut → Type 0) (c : Cut) (es : List Cut) (d : Cut) → PathIn A c es d → AllIn B c es → B d
last_of_all A B c [] d p h = subst B p.1 h
last_of_all A B c (e ∷ es) d p h = last_of_all A B e es d p.2 h.1

abbrev Says : Run → Formula → Witness → Type 0
Says r (Temporal Ef f) w = (w ≡ Nothing) ↔ (Sat r (Temporal Ef f) (initial r.clocks) → ⊥)
Says r (Temporal Ag f) w = (w ≡ Nothing) ↔ Sat r (Temporal Ag f) (initial r.clocks)
Says r (Temporal Eg f) w = w ≡ Nothing → ⊥
Says r (Temporal Af f) w = Unit {0}
Says r (Temporal Ax f) w = Unit {0}
Says r (Truth b) w = Unit {0}
Says r (Comparison process variable relation side) w = Unit {0}
Says r (Watched process watch) w = Unit {0}
Says r (InTransit sender receiver relation k) w = Unit {0}
Says r (Empty sender receiver) w = Unit {0}
Says r (Difference p x q y relation k) w = Unit {0}
Says r (Not f) w = Unit {0}
Says r (And fs) w = Unit {0}
Says r (Or fs) w = Unit {0}
Says r (Next process f) w = (w ≡ Nothing) ↔ (Sat r (Next process f) (initial r.clocks) → ⊥)
Says r (Until all left right) w = Unit {0}

plain_says : (r : Run) (f : Formula) → IsFalse (is_temporal f) → Says r f Nothing
plain_says r (Temporal operator f) plain = absurd cc
plain_says r (Next process f) plain = absurd cc
plain_says r (Truth b) plain = tt
plain_says r (Comparison process variable relation side) plain = tt
plain_says r (Watched process watch) plain = tt
plain_says r (InTransit sender receiver relation k) plain = tt
plain_says r (Empty sender receiver) plain = tt
plain_says r (Difference p x q y relation k) plain = tt
plain_says r (Not f) plain = tt
plain_says r (And fs) plain = tt
plain_says r (Or fs) plain = tt
plain_says r (Until all left right) plain = tt

reached : (r : Run) (f : Formula) (path : PathTo) → StepsIn (IsConsistent r.clocks) (initial r.clocks) path.steps path.goal → Sat r f path.goal → Sat r (Temporal Ef f) (initial r.clocks)
reached r f path steps there = (cuts_along (initial r.clocks) path.steps, path.goal, steps_are_path r.clocks (initial r.clocks) path.steps path.goal steps, there)

each_along : (r : Run) (f : Formula) (path : PathTo) → StepsIn (IsConsistent r.clocks) (initial r.clocks) path.steps path.goal → Sat r (Temporal Ag f) (initial r.clocks) → Sat r f path.goal
each_along r f path steps always =
    let is_path = steps_are_path r.clocks (initial r.clocks) path.steps path.goal steps in
    let es = cuts_along (initial r.clocks) path.steps in
    last_of_all (IsConsistent r.clocks) (Sat r f) (initial r.clocks) es path.goal is_path (always es path.goal is_path)

pub says : (r : Run) (f : Formula) (w : Witness) → IsOfKind r f w → Says r f w
says r _ _ (W.IsOfKind.reaches {f = f} {path = path} steps least) = (λ e. absurd cc, λ never. absurd (never (reached r f path steps least.member.1)))
says r _ _ (W.IsOfKind.refutes {f = f} {path = path} steps false_there) = (λ e. absurd cc, λ always. absurd (false_there (each_along r f path steps always)))
says r _ _ (W.IsOfKind.stays steps goal) = λ e. absurd cc
says r _ _ (W.IsOfKind.false_at_start misses) = λ e. absurd cc
says r _ _ (W.IsOfKind.false_at_finish misses) = λ e. absurd cc
says r _ _ (W.IsOfKind.come_together first other two together) = λ e. absurd cc
says r f _ (W.IsOfKind.not_temporal plain) = plain_says r f plain
says r _ _ (W.IsOfKind.never never) = (λ e. never, λ h. refl)
says r _ _ (W.IsOfKind.each_time always) = (λ e. always, λ h. refl)
says r _ _ (W.IsOfKind.reaches_next next) = (λ e. absurd cc, λ never. absurd (never next))
says r _ _ (W.IsOfKind.never_next never) = (λ e. never, λ h. refl)
