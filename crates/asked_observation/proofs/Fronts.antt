-- The first disjuncts of a list, and the names that are unknown there.
use Rattle.std.proofs.Common.{◌≡◌, ℕ, zero, suc, ◌+◌, ◌-◌, ◌<◌, ◌≤◌, Bool, true, false, nat_lt, if◌then◌else◌, List, [], ◌∷◌, length, take, None, Some, refl, sym, ap, subst, ◌∙◌, arith}
use Rattle.std.proofs.lemmas.List.{length-map, length-take-le}
use Rattle.std.proofs.lemmas.Option.{none-some}
use Rattle.rctl_class.specs.NamedParts.{NamedPiece, AllFit, AreDisjuncts, disjuncts_count, disjuncts_of, disjuncts_uses, pieces_of}
use Rattle.rctl_class.specs.declared.named.NamedPart.{NamedPart}
use Rattle.rctl_class.specs.Uses.{KnownNames, first_unknown}
use Rattle.rctl_grammar.specs.declared.fault.FormulaFault.{FormulaFault}
use Rattle.asked_list.specs.Lists.{IsAskedList, disjuncts_in}
use Rattle.asked_list.specs.declared.list.AskedList.{AskedList}
use Rattle.asked_list.specs.declared.list.Listed.{Listed}
use Rattle.asked_list.proofs.Added.{some}
use Rattle.asked_observation.specs.declared.unknown.UnknownName.{UnknownName}
use Rattle.asked_observation.specs.Observed.{IsUnknownBehind, IsUnknownIn, unknown_from}
use Rattle.asked_observation.specs.inside.Fronts.{AreFew}

-- the names of no disjunct
none_of_none : (known : KnownNames) → first_unknown known [] (disjuncts_uses []) ≡ None
unfolding first_unknown
none_of_none known = refl

-- ---- fronts

take_pieces : (k : ℕ) (ds : List (List NamedPart)) → disjuncts_of (take k ds) ≡ take k (disjuncts_of ds)
take_pieces zero ds = refl
take_pieces (suc k) [] = refl
take_pieces (suc k) (d ∷ ds) = ap (λ l. pieces_of d ∷ l) (take_pieces k ds)

front_fits : (k : ℕ) (ds : List (List NamedPiece)) → AllFit ds → AllFit (take k ds)
front_fits zero ds fit = tt
front_fits (suc k) [] fit = tt
front_fits (suc k) (d ∷ ds) fit = (fit.0, front_fits k ds fit.1)

front_short : (k : ℕ) (ds : List (List NamedPiece)) → length (take k ds) ≤ length ds
front_short zero ds = omega arith
front_short (suc k) [] = omega arith
front_short (suc k) (d ∷ ds) = omega (arith, front_short k ds)

front_counts : (k : ℕ) (ds : List (List NamedPiece)) → disjuncts_count (take k ds) ≤ disjuncts_count ds
front_counts zero ds = omega arith
front_counts (suc k) [] = omega arith
front_counts (suc k) (d ∷ ds) = omega (arith, front_counts k ds)

pub front_some : (k : ℕ) (ds : List (List NamedPart)) → AreFew (disjuncts_of ds) → (front : List (List NamedPart)) → front ≡ take k ds → 1 ≤ length front → AreDisjuncts (disjuncts_of front)
front_some k ds few front is one =
    let pieces = ap disjuncts_of is ∙ take_pieces k ds in
    subst AreDisjuncts (sym pieces) (record {
      fit = front_fits k (disjuncts_of ds) few.fit;
      some = let len = ap length pieces in omega (arith, len, length-map front pieces_of, one);
      few = omega (arith, front_short k (disjuncts_of ds), few.few);
      parts = omega (arith, front_counts k (disjuncts_of ds), few.parts);
    })

-- ---- one disjunct less

take_of_take : {A : Type 0} (j k : ℕ) (xs : List A) → j ≤ k → take j (take k xs) ≡ take j xs
take_of_take zero k xs le = refl
take_of_take (suc j) zero xs le = absurd (omega (arith, le))
take_of_take (suc j) (suc k) [] le = refl
take_of_take (suc j) (suc k) (x ∷ xs) le = ap (λ l. x ∷ l) (take_of_take j k xs (omega (arith, le)))

-- the front of so many
abbrev pub IsFront : {A : Type 0} → List A → List A → Type 0
IsFront xs front = front ≡ take (length front) xs

take_all : {A : Type 0} (xs : List A) → xs ≡ take (length xs) xs
take_all [] = refl
take_all (x ∷ xs) = ap (λ l. x ∷ l) (take_all xs)

pub whole_front : {A : Type 0} (xs : List A) → IsFront xs xs
whole_front xs = take_all xs

pub shorter : {A : Type 0} (xs front less : List A) → IsFront xs front → 1 < length front → less ≡ take (length front - 1) front → IsFront xs less × (length less ≡ length front - 1)
shorter xs front less is long less_is =
    let len : length less ≡ length front - 1 = ap length less_is ∙ length-take-le (length front - 1) front (omega arith) in
    let whole : less ≡ take (length front - 1) xs =
    less_is ∙ ap (take (length front - 1)) is ∙ take_of_take (length front - 1) (length front) xs (omega arith) in
    (whole ∙ ap (λ (n : ℕ). take n xs) (sym len), len)

-- ---- the names that are unknown there

abbrev pub HasUnknown : KnownNames → List (List NamedPart) → FormulaFault → Type 0
HasUnknown known front fault = first_unknown known [] (disjuncts_uses (disjuncts_of front)) ≡ Some fault

pub some_there : (known : KnownNames) (front : List (List NamedPart)) (fault : FormulaFault) → HasUnknown known front fault → 1 ≤ length front
some_there known [] fault has = absurd (none-some fault (sym (none_of_none known) ∙ has))
some_there known (d ∷ ds) fault has = omega arith

-- behind so many disjuncts, which have none, is the first
pub behind : (known : KnownNames) (ds front less : List (List NamedPart)) (fault : FormulaFault) → IsFront ds front → HasUnknown known front fault → IsFront ds less → length front ≡ length less + 1
    → first_unknown known [] (disjuncts_uses (disjuncts_of less)) ≡ None → IsUnknownBehind known (disjuncts_of ds) (length less) fault
behind known ds front less fault is has less_is one none = record {
  free = ap (λ l. first_unknown known [] (disjuncts_uses l)) (sym (ap disjuncts_of less_is ∙ take_pieces (length less) ds)) ∙ none;
  here = ap (λ l. first_unknown known [] (disjuncts_uses l)) (sym (ap disjuncts_of is ∙ take_pieces (length front) ds ∙ ap (λ (n : ℕ). take n (disjuncts_of ds)) one)) ∙ has;
}

pub in_the_first : (known : KnownNames) (ds front : List (List NamedPart)) (fault : FormulaFault) → IsFront ds front → HasUnknown known front fault → length front ≤ 1 → IsUnknownBehind known (disjuncts_of ds) 0 fault
in_the_first known ds front fault is has few =
    let one = some_there known front fault has in
    behind known ds front [] fault is has refl (omega (arith, one, few)) (none_of_none known)

-- ---- of a list

pub few_of : (list : AskedList) → IsAskedList list → 1 ≤ length list.classed.disjuncts → AreFew (disjuncts_in list)
few_of list is one =
    let are = some list is (omega (arith, length-map list.classed.disjuncts pieces_of, one)) in
    record { fit = are.fit; few = are.few; parts = are.parts }

kept_by : (number before : ℕ) (fault : FormulaFault) (q : Listed) (qs : List Listed) (b : Bool) → (unknown_from (number + 1) before fault qs).fault ≡ fault
    → (if b then record { question = number; formula = q.formula; fault = fault } else unknown_from (number + 1) before fault qs).fault ≡ fault
kept_by number before fault q qs true rest = refl
kept_by number before fault q qs false rest = rest

fault_kept : (number before : ℕ) (fault : FormulaFault) (qs : List Listed) → (unknown_from number before fault qs).fault ≡ fault
fault_kept number before fault [] = refl
fault_kept number before fault (q ∷ qs) = kept_by number before fault q qs (nat_lt before q.range.to) (fault_kept (number + 1) before fault qs)

pub named_in : (known : KnownNames) (list : AskedList) (before : ℕ) (fault : FormulaFault) (unknown : UnknownName) → IsUnknownBehind known (disjuncts_in list) before fault
    → unknown ≡ unknown_from 1 before fault list.listed → IsUnknownIn known list unknown
named_in known list before fault unknown first is =
    let same : unknown.fault ≡ fault = ap (λ (u : UnknownName). u.fault) is ∙ fault_kept 1 before fault list.listed in
    record {
      before = before;
      first = subst (IsUnknownBehind known (disjuncts_in list) before) (sym same) first;
      named = is ∙ ap (λ (f : FormulaFault). unknown_from 1 before f list.listed) (sym same);
    }
