-- The instance of a tally that is shown is one of its instances, and what that comes to.
use Rattle.std.proofs.Common.{◌≡◌, ℕ, ◌≤◌, Bool, true, false, List, [], ◌∷◌, ◌++◌, length, Some, refl, ◌∙◌, arith}
use Rattle.std.specs.Prelude.{slice_get, if◌then◌else◌}
use Rattle.std.specs.List.{AllByRecursion, AllZip, filter}
use Rattle.part_pulls.specs.declared.observed.Observed.{Observed}
use Rattle.question_instances.specs.declared.over.Over.{Over}
use Rattle.asked_instances.specs.Instances.{pairs_asked}
use Rattle.asked_instances.specs.declared.asking.Instance.{Instance}
use Rattle.instance_outcomes.specs.Answers.{AreKnown, IsAnswered, IsKnownIn, header_of}
use Rattle.instance_outcomes.specs.Over.{IsTallyFor, source_in}
use Rattle.instance_outcomes.specs.Tallies.{fails}
use Rattle.instance_outcomes.specs.declared.tallied.Answered.{Answered}
use Rattle.instance_outcomes.specs.declared.tallied.Tally.{Tally}
use Rattle.instance_outcomes.proofs.Tallying.{known}

-- ---- what holds of all of a list

all_filtered : {X : Type 0} (P : X → Type 0) (f : X → Bool) (xs : List X) → AllByRecursion P xs → AllByRecursion P (filter f xs)
all_filtered P f [] all = tt
all_filtered P f (x ∷ xs) all = by (f x) (all_filtered P f xs all.1)
  where
    by : (b : Bool) → AllByRecursion P (filter f xs) → AllByRecursion P (if b then x ∷ filter f xs else filter f xs)
    by true rest = (all.0, rest)
    by false rest = rest

all_joined : {X : Type 0} (P : X → Type 0) (xs ys : List X) → AllByRecursion P xs → AllByRecursion P ys → AllByRecursion P (xs ++ ys)
all_joined P [] ys all more = more
all_joined P (x ∷ xs) ys all more = (all.0, all_joined P xs ys all.1 more)

first_of : {X : Type 0} (P : X → Type 0) (xs : List X) → AllByRecursion P xs → 1 ≤ length xs → (x : X) × (slice_get xs 0 ≡ Some x) × P x
first_of P [] all some = absurd (omega (arith, some))
first_of P (x ∷ xs) all some = (x, refl, all.0)

longer : {X : Type 0} (xs ys : List X) → length ys ≤ length (xs ++ ys)
longer [] ys = omega arith
longer (x ∷ xs) ys = omega (arith, longer xs ys)

-- ---- instances

module _ (seen : Observed) where
  -- it is what an instance comes to, of which the header has each name
  abbrev pub IsOf : Answered → Type 0
  IsOf a = (i : Instance) × IsAnswered seen i a × IsKnownIn (header_of seen) i

  each_of : (is : List Instance) (answers : List Answered) → AreKnown (header_of seen) is → AllZip (IsAnswered seen) is answers → AllByRecursion IsOf answers
  each_of [] [] known are = tt
  each_of [] (a ∷ answers) known are = absurd are
  each_of (i ∷ is) [] known are = absurd are
  each_of (i ∷ is) (a ∷ answers) known are = ((i, are.0, known.0), each_of is answers known.1 are.1)

  many_of : (is : List Instance) (answers : List Answered) → AllZip (IsAnswered seen) is answers → length is ≡ length answers
  many_of [] [] are = refl
  many_of [] (a ∷ answers) are = absurd are
  many_of (i ∷ is) [] are = absurd are
  many_of (i ∷ is) (a ∷ answers) are = omega (arith, many_of is answers are.1)

  pub shown_of : (text : List ℕ) (over : Over) (t : Tally) → IsTallyFor seen text over t → (a : Answered) × (t.shown ≡ Some a) × IsOf a
  shown_of text over t is =
      let answers = is.tally.answers in
      let s = source_in seen text over in
      let each = each_of is.instances answers (known s (pairs_asked s) is.instances refl is.are) is.tally.each in
      let many = many_of is.instances answers is.tally.each in
      let more = longer (filter fails answers) answers in
      let first = first_of IsOf (filter fails answers ++ answers) (all_joined IsOf (filter fails answers) answers (all_filtered IsOf fails answers each) each) (let some = is.some in omega (arith, some, many, more)) in
      (first.0, is.tally.counted.shown ∙ first.1, first.2)
