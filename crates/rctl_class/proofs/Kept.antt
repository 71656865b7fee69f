-- A run keeps what a formula asks for exactly where none of its counters falls.
use Rattle.std.proofs.Common.{◌↔◌, List, [], ◌∷◌, ◌++◌, Contains}
use Rattle.std.proofs.lemmas.List.Elements.{All-nil, All-cons, All-head, All-tail, All-append, All-weaker, All-contains, All-contains_itself, Contains-append_left, Contains-append_right}
use Rattle.run_model.specs.Run.{Run}
use Rattle.run_model.specs.Formula as model
use Rattle.run_model.specs.Formula.{Formula, Formulas}
use Rattle.run_model.specs.Class.{NeverFalls, IsKeptFor, AreKeptFor, PartsKeptFor, DisjunctsKeptFor}
use Rattle.rctl_class.specs.Counters.{Counter, counters_of, all_counters, parts_counters, disjuncts_counters, HaveSameMembers, NoneFalls}

abbrev Stays : Run → Counter → Type 0
Stays r c = NeverFalls r c.process c.variable

fewer : (r : Run) (xs ys : List Counter) → ((c : Counter) → Contains xs c → Contains ys c) → NoneFalls r ys → NoneFalls r xs
fewer r xs ys among h = All-weaker (Contains xs) (Stays r) (λ c m. All-contains (Stays r) ys c h (among c m)) xs (All-contains_itself xs)

first_of : (r : Run) (xs ys : List Counter) → NoneFalls r (xs ++ ys) → NoneFalls r xs
first_of r xs ys h = fewer r xs (xs ++ ys) (λ c m. Contains-append_left xs ys c m) h

last_of : (r : Run) (xs ys : List Counter) → NoneFalls r (xs ++ ys) → NoneFalls r ys
last_of r xs ys h = fewer r ys (xs ++ ys) (λ c m. Contains-append_right xs ys c m) h

mutual
  pub kept_stays : (r : Run) (f : Formula) → IsKeptFor r f → NoneFalls r (counters_of f)
  kept_stays r (model.Truth b) h = All-nil (Stays r)
  kept_stays r (model.Comparison p v relation side) h = All-nil (Stays r)
  kept_stays r (model.Watched p w) h = All-nil (Stays r)
  kept_stays r (model.InTransit p q relation k) h = All-nil (Stays r)
  kept_stays r (model.Empty p q) h = All-nil (Stays r)
  kept_stays r (model.Difference p x q y relation k) h =
      let left : Counter = record { process = p; variable = x } in
      let right : Counter = record { process = q; variable = y } in
      All-cons (Stays r) left (right ∷ []) h.0 (All-cons (Stays r) right [] h.1 (All-nil (Stays r)))
  kept_stays r (model.Not f) h = kept_stays r f h
  kept_stays r (model.And fs) h = all_kept_stay r fs h
  kept_stays r (model.Or fs) h = all_kept_stay r fs h
  kept_stays r (model.Temporal o f) h = kept_stays r f h
  kept_stays r (model.Next process f) h = kept_stays r f h
  kept_stays r (model.Until all left right) h =
      All-append (Stays r) (counters_of left) (counters_of right) (kept_stays r left h.0) (kept_stays r right h.1)

  all_kept_stay : (r : Run) (fs : Formulas) → AreKeptFor r fs → NoneFalls r (all_counters fs)
  all_kept_stay r model.Nil h = All-nil (Stays r)
  all_kept_stay r (model.Cons f fs) h = All-append (Stays r) (counters_of f) (all_counters fs) (kept_stays r f h.0) (all_kept_stay r fs h.1)

mutual
  pub stays_kept : (r : Run) (f : Formula) → NoneFalls r (counters_of f) → IsKeptFor r f
  stays_kept r (model.Truth b) h = tt
  stays_kept r (model.Comparison p v relation side) h = tt
  stays_kept r (model.Watched p w) h = tt
  stays_kept r (model.InTransit p q relation k) h = tt
  stays_kept r (model.Empty p q) h = tt
  stays_kept r (model.Difference p x q y relation k) h =
      let left : Counter = record { process = p; variable = x } in
      let right : Counter = record { process = q; variable = y } in
      (All-head (Stays r) left (right ∷ []) h, All-head (Stays r) right [] (All-tail (Stays r) left (right ∷ []) h))
  stays_kept r (model.Not f) h = stays_kept r f h
  stays_kept r (model.And fs) h = all_stay_kept r fs h
  stays_kept r (model.Or fs) h = all_stay_kept r fs h
  stays_kept r (model.Temporal o f) h = stays_kept r f h
  stays_kept r (model.Next process f) h = stays_kept r f h
  stays_kept r (model.Until all left right) h =
      (stays_kept r left (first_of r (counters_of left) (counters_of right) h), stays_kept r right (last_of r (counters_of left) (counters_of right) h))

  all_stay_kept : (r : Run) (fs : Formulas) → NoneFalls r (all_counters fs) → AreKeptFor r fs
  all_stay_kept r model.Nil h = tt
  all_stay_kept r (model.Cons f fs) h =
      (stays_kept r f (first_of r (counters_of f) (all_counters fs) h), all_stay_kept r fs (last_of r (counters_of f) (all_counters fs) h))

parts_kept_stay : (r : Run) (fs : List Formula) → PartsKeptFor r fs ↔ NoneFalls r (parts_counters fs)
parts_kept_stay r [] = (λ h. All-nil (Stays r), λ h. tt)
parts_kept_stay r (f ∷ fs) =
    let rest = parts_kept_stay r fs in (
      λ h. All-append (Stays r) (counters_of f) (parts_counters fs) (kept_stays r f h.0) (rest.0 h.1),
      λ h. (stays_kept r f (first_of r (counters_of f) (parts_counters fs) h), rest.1 (last_of r (counters_of f) (parts_counters fs) h)),
    )

pub disjuncts_kept_stay : (r : Run) (ds : List (List Formula)) → DisjunctsKeptFor r ds ↔ NoneFalls r (disjuncts_counters ds)
disjuncts_kept_stay r [] = (λ h. All-nil (Stays r), λ h. tt)
disjuncts_kept_stay r (d ∷ ds) =
    let first = parts_kept_stay r d in
    let rest = disjuncts_kept_stay r ds in (
      λ h. All-append (Stays r) (parts_counters d) (disjuncts_counters ds) (first.0 h.0) (rest.0 h.1),
      λ h. (first.1 (first_of r (parts_counters d) (disjuncts_counters ds) h), rest.1 (last_of r (parts_counters d) (disjuncts_counters ds) h)),
    )

-- disjuncts with the counters of a formula ask what it asks
pub same_kept : (r : Run) (ds : List (List Formula)) (f : Formula) → HaveSameMembers (disjuncts_counters ds) (counters_of f) → DisjunctsKeptFor r ds ↔ IsKeptFor r f
same_kept r ds f same = (
  λ h. stays_kept r f (fewer r (counters_of f) (disjuncts_counters ds) (λ c m. (same.same c).1 m) ((disjuncts_kept_stay r ds).0 h)),
  λ h. (disjuncts_kept_stay r ds).1 (fewer r (disjuncts_counters ds) (counters_of f) (λ c m. (same.same c).0 m) (kept_stays r f h)),
)
