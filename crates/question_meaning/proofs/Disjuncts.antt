-- What is asked of disjuncts, by the set of the cuts where some of them has all its parts true.
use Rattle.std.proofs.Common.{◌≡◌, ◌↔◌, List, [], ◌∷◌, length, inl, inr, arith}
use Rattle.std.specs.Prelude.{⊤}
use Rattle.run_model.specs.Cut.{Cut}
use Rattle.run_model.specs.Run.{Run}
use Rattle.run_model.specs.Formula.{Formula}
use Rattle.run_model.specs.Operators.{EfHolds, AgHolds, EgHolds}
use Rattle.run_model.specs.Meaning.{SatAll}
use Rattle.run_model.specs.Class.{SatParts, SatDisjuncts}
use Rattle.question_meaning.specs.declared.form.Form.TheVariants as form
use Rattle.question_meaning.specs.Asking.{members, asked}
use Rattle.question_meaning.proofs.Operators.{Goes, some_time_goes, each_time_goes, staying_goes}

pub all_of_parts : (r : Run) (fs : List Formula) (c : Cut) → SatParts r fs c → SatAll r (members fs) c
all_of_parts r [] c h = h
all_of_parts r (f ∷ fs) c h = (h.0, all_of_parts r fs c h.1)

pub parts_of_all : (r : Run) (fs : List Formula) (c : Cut) → SatAll r (members fs) c → SatParts r fs c
parts_of_all r [] c h = h
parts_of_all r (f ∷ fs) c h = (h.0, parts_of_all r fs c h.1)

-- ---- EF of each disjunct

pub some_asked : (r : Run) (ds : List (List Formula)) (c : Cut) → SatDisjuncts r (asked form.Can ds) c → EfHolds r.clocks (SatDisjuncts r ds) c
some_asked r [] c h = absurd h
some_asked r (d ∷ ds) c (inl h) = some_time_goes r.clocks (SatAll r (members d)) (SatDisjuncts r (d ∷ ds)) (λ x k s. inl (parts_of_all r d x s)) c h.0
some_asked r (d ∷ ds) c (inr h) = some_time_goes r.clocks (SatDisjuncts r ds) (SatDisjuncts r (d ∷ ds)) (λ x k s. inr s) c (some_asked r ds c h)

pub asked_some : (r : Run) (ds : List (List Formula)) (c : Cut) → EfHolds r.clocks (SatDisjuncts r ds) c → SatDisjuncts r (asked form.Can ds) c
asked_some r [] c w = absurd w.3
asked_some r (d ∷ ds) c w = elim w.3 [
  | inl s ↦ inl ((w.0, w.1, w.2, all_of_parts r d w.1 s), tt)
  | inr s ↦ inr (asked_some r ds c (w.0, w.1, w.2, s))
]

-- ---- AG, EG and AG EF of the one disjunct

disjunct_goes : (r : Run) (d : List Formula) → Goes r.clocks (SatAll r (members d)) (SatDisjuncts r (d ∷ []))
disjunct_goes r d c k s = inl (parts_of_all r d c s)

goes_disjunct : (r : Run) (d : List Formula) → Goes r.clocks (SatDisjuncts r (d ∷ [])) (SatAll r (members d))
goes_disjunct r d c k (inl s) = all_of_parts r d c s
goes_disjunct r d c k (inr lacks) = absurd lacks

pub each_asked : (r : Run) (ds : List (List Formula)) → length ds ≡ 1 → (c : Cut) → SatDisjuncts r (asked form.Always ds) c ↔ AgHolds r.clocks (SatDisjuncts r ds) c
each_asked r [] one c = absurd (omega (arith, one))
each_asked r (d ∷ []) one c = (
  λ h. elim h [
    | inl s ↦ each_time_goes r.clocks (SatAll r (members d)) (SatDisjuncts r (d ∷ [])) (disjunct_goes r d) c s.0
    | inr lacks ↦ absurd lacks
  ],
  λ h. inl (each_time_goes r.clocks (SatDisjuncts r (d ∷ [])) (SatAll r (members d)) (goes_disjunct r d) c h, tt),
)
each_asked r (d ∷ e ∷ ds) one c = absurd (omega (arith, one))

pub staying_asked : (r : Run) (ds : List (List Formula)) → length ds ≡ 1 → (c : Cut) → SatDisjuncts r (asked form.Surely ds) c ↔ EgHolds r.clocks (SatDisjuncts r ds) c
staying_asked r [] one c = absurd (omega (arith, one))
staying_asked r (d ∷ []) one c = (
  λ h. elim h [
    | inl s ↦ staying_goes r.clocks (SatAll r (members d)) (SatDisjuncts r (d ∷ [])) (disjunct_goes r d) c s.0
    | inr lacks ↦ absurd lacks
  ],
  λ h. inl (staying_goes r.clocks (SatDisjuncts r (d ∷ [])) (SatAll r (members d)) (goes_disjunct r d) c h, tt),
)
staying_asked r (d ∷ e ∷ ds) one c = absurd (omega (arith, one))

pub final_asked : (r : Run) (ds : List (List Formula)) → length ds ≡ 1 → (c : Cut) → SatDisjuncts r (asked form.AtEnd ds) c ↔ AgHolds r.clocks (EfHolds r.clocks (SatDisjuncts r ds)) c
final_asked r [] one c = absurd (omega (arith, one))
final_asked r (d ∷ []) one c =
    let o = r.clocks in
    let D = SatDisjuncts r (d ∷ []) in
    let A = SatAll r (members d) in (
      λ h. elim h [
        | inl s ↦ each_time_goes o (λ x. EfHolds o A x × ⊤) (EfHolds o D) (λ x k t. some_time_goes o A D (disjunct_goes r d) x t.0) c s.0
        | inr lacks ↦ absurd lacks
      ],
      λ h. inl (each_time_goes o (EfHolds o D) (λ x. EfHolds o A x × ⊤) (λ x k t. (some_time_goes o D A (goes_disjunct r d) x t, tt)) c h, tt),
    )
final_asked r (d ∷ e ∷ ds) one c = absurd (omega (arith, one))

-- ---- a formula as it is

pub plain_asked : (r : Run) (ds : List (List Formula)) (c : Cut) → SatDisjuncts r ds c → SatDisjuncts r (asked form.Plain ds) c
plain_asked r [] c h = h
plain_asked r (d ∷ ds) c (inl h) = inl h
plain_asked r (d ∷ ds) c (inr h) = inr (plain_asked r ds c h)

pub asked_plain : (r : Run) (ds : List (List Formula)) (c : Cut) → SatDisjuncts r (asked form.Plain ds) c → SatDisjuncts r ds c
asked_plain r [] c h = h
asked_plain r (d ∷ ds) c (inl h) = inl h
asked_plain r (d ∷ ds) c (inr h) = inr (asked_plain r ds c h)
