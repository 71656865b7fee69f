-- What EF, AG and EG say at the initial cut, of whichever set of cuts.
use Rattle.std.proofs.Common.{◌≡◌, ◌⊎◌, List, [], ◌∷◌, sym, subst, ◌∙◌, inl, inr}
use Rattle.run_model.specs.Cut.{Cut, Clocks, lengths, initial}
use Rattle.run_model.specs.Consistent.{IsConsistent, IsOrder, IsPath}
use Rattle.run_model.specs.Sublattice.{AllIn}
use Rattle.run_model.specs.Operators.{EfHolds, AgHolds, EgHolds}
use Rattle.run_model.proofs.Counts.{initial_within, within_both, length-lengths}
use Rattle.run_model.proofs.Orders.{initial_consistent, final_consistent}
use Rattle.run_model.proofs.Paths.{path_last, path_rises, each_time_ends, each_time_from_ends}
use Rattle.meaning_laws.proofs.OperatorLemmas.{path_exists, path_to_final}
use Rattle.question_meaning.specs.Question.{Meets}

-- a set of consistent cuts goes into another
abbrev pub Goes : Clocks → (Cut → Type 0) → (Cut → Type 0) → Type 0
Goes o A B = (c : Cut) → IsConsistent o c → A c → B c

pub path_from_initial : (o : Clocks) → IsOrder o → (c : Cut) → IsConsistent o c → (es : List Cut) × IsPath o (initial o) es c
path_from_initial o order c k = path_exists o order (initial o) c (initial_consistent o) k (initial_within o c)

-- ---- EF

pub reached : (o : Clocks) (A : Cut → Type 0) → EfHolds o A (initial o) → (c : Cut) × IsConsistent o c × A c
reached o A w = (w.1, path_last (IsConsistent o) (initial o) w.0 w.1 w.2, w.3)

pub reach : (o : Clocks) → IsOrder o → (A : Cut → Type 0) (c : Cut) → IsConsistent o c → A c → EfHolds o A (initial o)
reach o order A c k h = let p = path_from_initial o order c k in (p.0, c, p.1, h)

pub some_time_goes : (o : Clocks) (A B : Cut → Type 0) → Goes o A B → (c : Cut) → EfHolds o A c → EfHolds o B c
some_time_goes o A B goes c w = (w.0, w.1, w.2, goes w.1 (path_last (IsConsistent o) c w.0 w.1 w.2) w.3)

-- ---- AG

pub throughout : (o : Clocks) → IsOrder o → (A : Cut → Type 0) → AgHolds o A (initial o) → (c : Cut) → IsConsistent o c → A c
throughout o order A each c k = let p = path_from_initial o order c k in each_time_ends o A (initial o) each p.0 c p.1

pub each_time_throughout : (o : Clocks) (A : Cut → Type 0) → ((c : Cut) → IsConsistent o c → A c) → (c : Cut) → AgHolds o A c
each_time_throughout o A all c = each_time_from_ends o A c (λ es d p. all d (path_last (IsConsistent o) c es d p))

pub each_time_goes : (o : Clocks) (A B : Cut → Type 0) → Goes o A B → (c : Cut) → AgHolds o A c → AgHolds o B c
each_time_goes o A B goes c each = each_time_from_ends o B c (λ es d p. goes d (path_last (IsConsistent o) c es d p) (each_time_ends o A c each es d p))

-- ---- the final cut

-- no path goes on from it
pub final_is_last : (o : Clocks) → IsOrder o → (es : List Cut) (d : Cut) → IsPath o (lengths o) es d → d ≡ lengths o
final_is_last o order es d p =
    let k = path_last (IsConsistent o) (lengths o) es d p in
    within_both d (lengths o) (k.shaped ∙ sym (length-lengths o)) k.within (path_rises (IsConsistent o) (lengths o) es d p)

pub final_from : (o : Clocks) → IsOrder o → (A : Cut → Type 0) → AgHolds o (EfHolds o A) (initial o) → A (lengths o)
final_from o order A each =
    let w = throughout o order (EfHolds o A) each (lengths o) (final_consistent o order) in
    subst A (final_is_last o order w.0 w.1 w.2) w.3

pub from_final : (o : Clocks) → IsOrder o → (A : Cut → Type 0) → A (lengths o) → AgHolds o (EfHolds o A) (initial o)
from_final o order A h = each_time_throughout o (EfHolds o A) (λ c k. let p = path_to_final o order c k in (p.0, lengths o, p.1, h)) (initial o)

-- ---- EG, and the paths that meet a set

all_go : (o : Clocks) (A B : Cut → Type 0) → Goes o A B → (c : Cut) (es : List Cut) (d : Cut) → IsPath o c es d → AllIn A c es → AllIn B c es
all_go o A B goes c [] d p h = goes c p.0 h
all_go o A B goes c (e ∷ es) d p h = (goes c p.0 h.0, all_go o A B goes e es d p.2 h.1)

pub staying_goes : (o : Clocks) (A B : Cut → Type 0) → Goes o A B → (c : Cut) → EgHolds o A c → EgHolds o B c
staying_goes o A B goes c w = (w.0, w.1, all_go o A B goes c w.0 (lengths o) w.1 w.2)

-- a path that stays outside a set doesn't meet it
pub misses : (A : Cut → Type 0) (c : Cut) (es : List Cut) → AllIn (λ x. A x → ⊥) c es → Meets A c es → ⊥
misses A c [] all h = all h
misses A c (e ∷ es) all (inl h) = all.0 h
misses A c (e ∷ es) all (inr h) = misses A e es all.1 h

-- a path meets the set, or stays outside it
pub meets_or_misses : (o : Clocks) (A : Cut → Type 0) → ((c : Cut) → IsConsistent o c → A c ⊎ (A c → ⊥)) → (c : Cut) (es : List Cut) (d : Cut) → IsPath o c es d → Meets A c es ⊎ AllIn (λ x. A x → ⊥) c es
meets_or_misses o A decided c [] d p = decided c p.0
meets_or_misses o A decided c (e ∷ es) d p = elim (decided c p.0) [
  | inl h ↦ inl (inl h)
  | inr lacks ↦ elim (meets_or_misses o A decided e es d p.2) [
    | inl h ↦ inl (inr h)
    | inr all ↦ inr (lacks, all)
  ]
]

-- some cut of a path that meets a set is a consistent cut of the set
pub met : (o : Clocks) (A : Cut → Type 0) (c : Cut) (es : List Cut) (d : Cut) → IsPath o c es d → Meets A c es → (x : Cut) × IsConsistent o x × A x
met o A c [] d p h = (c, p.0, h)
met o A c (e ∷ es) d p (inl h) = (c, p.0, h)
met o A c (e ∷ es) d p (inr h) = met o A e es d p.2 h

pub meets_first : (A : Cut → Type 0) (c : Cut) (es : List Cut) → A c → Meets A c es
meets_first A c [] h = h
meets_first A c (e ∷ es) h = inl h

pub meets_last : (o : Clocks) (A : Cut → Type 0) (c : Cut) (es : List Cut) (d : Cut) → IsPath o c es d → A d → Meets A c es
meets_last o A c [] d p h = subst A (sym p.1) h
meets_last o A c (e ∷ es) d p h = inr (meets_last o A e es d p.2 h)
