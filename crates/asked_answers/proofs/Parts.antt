-- The truth of a disjunct by the parts of an answer.
use Rattle.std.proofs.Common.{◌≡◌, ◌↔◌, ℕ, zero, suc, ◌+◌, ◌<◌, ◌≤◌, ◌==◌, Bool, true, false, not, ◌||◌, ◌&&◌, List, [], ◌∷◌, ◌++◌, length, map, take, drop, get_or, sym, subst, refl, ◌∙◌, inl, inr, arith}
use Rattle.std.proofs.lemmas.Bool.{cases_Bool, and_parts, false≢true, eq-eqb}
use Rattle.std.proofs.lemmas.Bool.Decides.{eqb_tells}
use Rattle.run_model.specs.Cut.{initial}
use Rattle.run_model.specs.Class.{SatParts, SatDisjuncts}
use Rattle.conjunctions.specs.declared.answer.PartAnswer.{PartAnswer}
use Rattle.conjunctions.specs.Answering.{Place, places_from, all_places, ArePartAnswers}
use Rattle.part_pulls.specs.Observing.{AreAnswers, Reading, clocks_seen, names_seen, run_seen}
use Rattle.part_pulls.specs.declared.observed.Observed.{Observed}
use Rattle.rctl_parts.specs.Pieces.{Piece}
use Rattle.rctl_parts.specs.Spelled.{formula_of, part_formulas}
use Rattle.asked_answers.specs.Holding.{all_true, some_true}

-- all parts are true at the initial cut
abbrev pub PartsHold : Observed → Reading → List Piece → Type 0
PartsHold seen reading ps = SatParts (run_seen seen reading) (map (formula_of (names_seen seen reading)) ps) (initial (clocks_seen seen))

-- the answers behind those of some places
record Rest (seen : Observed) (places : List Place) (d : ℕ) (P : Type 0) (parts : List PartAnswer) : Type 0 where
  rest : List PartAnswer
  are : ArePartAnswers seen places rest
  same : (all_true d parts ≡ true) ↔ (P × (all_true d rest ≡ true))

both_true : (a b : Bool) → a ≡ true → b ≡ true → a && b ≡ true
both_true a b x y = rw (x, y) refl

not_or : (a b : Bool) → a ≡ true → not a || b ≡ true → b ≡ true
not_or a b x h = rw x at h

is_not_or : (a b : Bool) → b ≡ true → not a || b ≡ true
is_not_or true b h = h
is_not_or false b h = refl

other_or : (a b : Bool) → a ≡ false → not a || b ≡ true
other_or a b h = rw h refl

same_number : (x d : ℕ) → x ≡ d → (x == d) ≡ true
same_number x d is = eq-eqb x d is

other_number : (x d : ℕ) → (x ≡ d → ⊥) → (x == d) ≡ false
other_number x d apart = elim (eqb_tells x d) [
  | inl same ↦ absurd (apart same.1)
  | inr other ↦ other.0
]

-- behind the parts of the disjunct of that number
own : (seen : Observed) (reading : Reading) → AreAnswers seen reading → (d k : ℕ) (ps : List Piece) (places : List Place) (parts : List PartAnswer)
    → ArePartAnswers seen (places_from d k ps ++ places) parts → Rest seen places d (PartsHold seen reading ps) parts
own seen reading answers d k [] places parts are = record { rest = parts; are = are; same = (λ h. (tt, h), λ h. h.1) }
own seen reading answers d k (p ∷ ps) places [] are = absurd are
own seen reading answers d k (p ∷ ps) places (a ∷ parts) are =
    let more = own seen reading answers d (k + 1) ps places parts are.1 in
    let number = same_number a.disjunct d are.0.of_disjunct in
    let truth = are.0.truth reading answers in
    record {
      rest = more.rest;
      are = more.are;
      same = (
        λ h. let both = and_parts (not (a.disjunct == d) || a.truth) (all_true d parts) h in
            let later = more.same.0 both.1 in
            ((truth.0 (not_or (a.disjunct == d) a.truth number both.0), later.0), later.1),
        λ h. both_true (not (a.disjunct == d) || a.truth) (all_true d parts) (is_not_or (a.disjunct == d) a.truth (truth.1 h.0.0)) (more.same.1 (h.0.1, h.1)),
      );
    }

-- behind those of another
other : (seen : Observed) (d n k : ℕ) → (n ≡ d → ⊥) → (ps : List Piece) (places : List Place) (parts : List PartAnswer)
    → ArePartAnswers seen (places_from n k ps ++ places) parts → Rest seen places d (Unit {0}) parts
other seen d n k apart [] places parts are = record { rest = parts; are = are; same = (λ h. (tt, h), λ h. h.1) }
other seen d n k apart (p ∷ ps) places [] are = absurd are
other seen d n k apart (p ∷ ps) places (a ∷ parts) are =
    let more = other seen d n (k + 1) apart ps places parts are.1 in
    let number = other_number a.disjunct d (λ is. apart (sym are.0.of_disjunct ∙ is)) in
    record {
      rest = more.rest;
      are = more.are;
      same = (
        λ h. more.same.0 (and_parts (not (a.disjunct == d) || a.truth) (all_true d parts) h).1,
        λ h. both_true (not (a.disjunct == d) || a.truth) (all_true d parts) (other_or (a.disjunct == d) a.truth number) (more.same.1 h),
      );
    }

-- no disjunct from a higher number on has it
none_there : (seen : Observed) (d n : ℕ) → d < n → (ds : List (List Piece)) (parts : List PartAnswer) → ArePartAnswers seen (all_places n ds) parts → all_true d parts ≡ true
none_there seen d n lt [] [] are = refl
none_there seen d n lt [] (a ∷ parts) are = absurd are
none_there seen d n lt (ps ∷ ds) parts are =
    let behind = other seen d n 1 (λ is. absurd (omega (arith, is, lt))) ps (all_places (n + 1) ds) parts are in
    behind.same.1 (tt, none_there seen d (n + 1) (omega (arith, lt)) ds behind.rest behind.are)

-- disjunct number i, the first of which has the number n
pub told : (seen : Observed) (reading : Reading) → AreAnswers seen reading → (n i : ℕ) (ds : List (List Piece)) (parts : List PartAnswer) → ArePartAnswers seen (all_places n ds) parts
    → i < length ds → (all_true (n + i) parts ≡ true) ↔ PartsHold seen reading (get_or ds i [])
told seen reading answers n i [] parts are lt = absurd (omega (arith, lt))
told seen reading answers n zero (ps ∷ ds) parts are lt =
    let number : n + 0 ≡ n = omega arith in
    let here = own seen reading answers n 1 ps (all_places (n + 1) ds) parts are in
    rw number (
      λ h. (here.same.0 h).0,
      λ h. here.same.1 (h, none_there seen n (n + 1) (omega arith) ds here.rest here.are),
    )
told seen reading answers n (suc i) (ps ∷ ds) parts are lt =
    let d = n + suc i in
    let behind = other seen d n 1 (λ is. absurd (omega (arith, is))) ps (all_places (n + 1) ds) parts are in
    let later = told seen reading answers (n + 1) i ds behind.rest behind.are (omega (arith, lt)) in
    let number : n + 1 + i ≡ n + suc i = omega arith in
    let there : (all_true d behind.rest ≡ true) ↔ PartsHold seen reading (get_or ds i []) = subst (λ k. (all_true k behind.rest ≡ true) ↔ PartsHold seen reading (get_or ds i [])) number later in
    (λ h. there.0 (behind.same.0 h).1, λ h. behind.same.1 (tt, there.1 h))

-- ---- one of several

-- some of the disjuncts is
abbrev pub DisjunctsHold : Observed → Reading → List (List Piece) → Type 0
DisjunctsHold seen reading ds = SatDisjuncts (run_seen seen reading) (part_formulas (names_seen seen reading) ds) (initial (clocks_seen seen))

drop_next : (ds : List (List Piece)) (i : ℕ) → i < length ds → drop i ds ≡ get_or ds i [] ∷ drop (suc i) ds
drop_next [] i lt = absurd (omega (arith, lt))
drop_next (d ∷ ds) zero lt = refl
drop_next (d ∷ ds) (suc i) lt = drop_next ds i (omega (arith, lt))

pub some_told : (seen : Observed) (reading : Reading) → AreAnswers seen reading → (ds : List (List Piece)) (parts : List PartAnswer) → ArePartAnswers seen (all_places 1 ds) parts
    → (from count : ℕ) → from + count ≤ length ds → (some_true parts from count ≡ true) ↔ DisjunctsHold seen reading (take count (drop from ds))
some_told seen reading answers ds parts are from zero within = (λ h. absurd (false≢true h), λ h. absurd h)
some_told seen reading answers ds parts are from (suc count) within =
    let here : (all_true (from + 1) parts ≡ true) ↔ PartsHold seen reading (get_or ds from []) =
    subst (λ k. (all_true k parts ≡ true) ↔ PartsHold seen reading (get_or ds from [])) (omega arith) (told seen reading answers 1 from ds parts are (omega (arith, within))) in
    let next : from + 1 ≡ suc from = omega arith in
    let later : (some_true parts (from + 1) count ≡ true) ↔ DisjunctsHold seen reading (take count (drop (suc from) ds)) =
    subst (λ k. (some_true parts (from + 1) count ≡ true) ↔ DisjunctsHold seen reading (take count (drop k ds))) next (some_told seen reading answers ds parts are (from + 1) count (omega (arith, within))) in
    rw (drop_next ds from (omega (arith, within))) (
      λ h. elim (cases_Bool (all_true (from + 1) parts)) [
        | inl is ↦ inl (here.0 is)
        | inr is ↦ inr (later.0 (rw is at h))
      ],
      λ h. elim h [
        | inl s ↦ rw (here.1 s) refl
        | inr s ↦ elim (cases_Bool (all_true (from + 1) parts)) [
          | inl is ↦ rw is refl
          | inr is ↦ rw is (later.1 s)
        ]
      ],
    )

-- ---- one more

pub next_true : (parts : List PartAnswer) (from count rest : ℕ) → count ≡ suc rest → all_true (from + 1) parts ≡ false → some_true parts from count ≡ some_true parts (from + 1) rest
next_true parts from count rest is none = rw is (rw none refl)
