-- Canonical steps are justified.
use Rattle.std.proofs.Common.{◌≡◌, ℕ, zero, suc, ◌+◌, ◌-◌, ◌<◌, ◌≤◌, Bool, true, false, List, [], ◌∷◌, length, sum, refl, sym, ap, subst, ◌∙◌, arith, inl, inr, get_or, take}
use Rattle.std.specs.Prelude.{Some, nat_le, if◌then◌else◌, ◌==◌}
use Rattle.std.proofs.lemmas.Bool.{cases_Bool, leb-true, le-leb, lt-leb}
use Rattle.std.proofs.lemmas.Bool.Decides.{nat_tests}
use Rattle.std.proofs.lemmas.List.Sums.{sum_by-cons}
use Rattle.pota_base.specs.declared.shape.EventId.{EventId}
use Rattle.pota_base.specs.Shape.{HasEvent, row_of}
use Rattle.pull_system.specs.Rows.{start_of}
use Rattle.pull_system.proofs.Starts.{in_head}
use Rattle.certificate_table.specs.Begun.{BegunView, LastIsClosed, AreOfOneProcess, MayFollow, MayBegin, MayRaise}
use Rattle.certificate_raises.specs.Canonical.{IsFirstFailing, is_first, after_of}

-- both rows are of the first process
here : (len : ℕ) (lens : List ℕ) (row : ℕ) → suc row ≤ len → 1 ≤ row → AreOfOneProcess (len ∷ lens) (suc row) row
here len lens row within some = record {
  process = 0;
  first = omega (arith, ap (λ v. get_or v 0 0) (in_head len lens (suc row) within));
  second = omega (arith, some, ap (λ v. get_or v 0 0) (in_head len lens row (omega (arith, within))));
}

-- or of a later one
there : (len : ℕ) (lens : List ℕ) (row : ℕ) → len ≤ row → AreOfOneProcess lens (suc (row - len)) (row - len) → AreOfOneProcess (len ∷ lens) (suc row) row
there len lens row past one =
    let less : suc row - len ≡ suc (row - len) = omega (arith, past) in
    record {
      process = suc one.process;
      first = subst (λ (n : ℕ). 0 < get_or (start_of lens n) one.process 0) (sym less) one.first;
      second = one.second;
    }

-- a row that isn't that of a first event comes behind another of its process
same_process : (lens : List ℕ) (row : ℕ) → suc row ≤ sum lens → is_first lens (suc row) ≡ false → AreOfOneProcess lens (suc row) row
same_process [] row le h = absurd (omega (arith, le))
same_process (len ∷ lens) row le h = elim (cases_Bool (nat_le (suc row) len)) [
  | inl within ↦ here len lens row (leb-true _ _ within) (grind (arith, nat_tests))
  | inr beyond ↦
      let past : len ≤ row = grind (arith, nat_tests) in
      let next : is_first lens (suc row - len) ≡ false = subst (λ (b : Bool). (if b then suc row == 1 else is_first lens (suc row - len)) ≡ false) beyond h in
      let is : suc row - len ≡ suc (row - len) = omega (arith, past) in
      there len lens row past (same_process lens (row - len) (omega (arith, le, past, sum_by-cons (λ (n : ℕ). n) len lens)) (subst (λ (n : ℕ). is_first lens n ≡ false) is next))
]

follows_if : (lens : List ℕ) (row : ℕ) (first : Bool) → is_first lens (suc row) ≡ first → suc row ≤ sum lens → MayFollow lens (suc row) (Some (if first then 0 else row))
follows_if lens row true e le = (omega arith, inl refl)
follows_if lens row false e le = (omega arith, inr (same_process lens row le e))

pub after_follows : (lens : List ℕ) (row : ℕ) → row ≤ sum lens → MayFollow lens row (after_of lens row)
after_follows lens zero le = tt
after_follows lens (suc row) le = follows_if lens row (is_first lens (suc row)) refl le

pub row_follows : (v : BegunView) → LastIsClosed v → v.begun ≤ sum v.system.lens → MayBegin v v.begun (after_of v.system.lens v.begun)
row_follows v settled more = record { next = refl; there = more; follows = after_follows v.system.lens v.begun more; settled = settled }

pub raise_follows : (v : BegunView) (k x : ℕ) → 0 < v.begun → IsFirstFailing v k x → MayRaise v k x
raise_follows v k x begun first = record { begun = begun; pull = first.pull; reached = omega (arith, first.value); more = first.fails }

-- ---- by the event of a row

first_of_event : (lens : List ℕ) (row process position : ℕ) → process + 1 ≤ length lens → 1 ≤ position → position ≤ get_or lens process 0 → sum (take process lens) + position ≡ row → is_first lens row ≡ (position == 1)
first_of_event [] row process position process_there some last is = absurd (omega (arith, process_there))
first_of_event (len ∷ lens) row zero position process_there some last is =
    let same : row ≡ position = omega (arith, is) in
    let within : nat_le row len ≡ true = le-leb row len (omega (arith, same, last)) in
    ap (λ (b : Bool). if b then row == 1 else is_first lens (row - len)) within ∙ ap (λ (n : ℕ). n == 1) same
first_of_event (len ∷ lens) row (suc process) position process_there some last is =
    let whole : sum (take (suc process) (len ∷ lens)) ≡ len + sum (take process lens) = sum_by-cons (λ (n : ℕ). n) len (take process lens) in
    let beyond : nat_le row len ≡ false = lt-leb row len (omega (arith, is, whole, some)) in
    ap (λ (b : Bool). if b then row == 1 else is_first lens (row - len)) beyond ∙ first_of_event lens (row - len) process position (omega (arith, process_there)) some last (omega (arith, is, whole))

after_is : (lens : List ℕ) (row : ℕ) (first : Bool) → 1 ≤ row → is_first lens row ≡ first → Some (if first then 0 else row - 1) ≡ after_of lens row
after_is lens zero first some is = absurd (omega (arith, some))
after_is lens (suc row) first some is =
    let less : suc row - 1 ≡ row = omega arith in
    ap (λ (n : ℕ). Some (if first then 0 else n)) less ∙ ap (λ (b : Bool). Some (if b then 0 else row)) (sym is)

pub after_event : (lens : List ℕ) (row : ℕ) (event : EventId) → HasEvent lens event → row_of lens event ≡ row → Some (if event.position == 1 then 0 else row - 1) ≡ after_of lens row
after_event lens row event has is =
    after_is lens row (event.position == 1) (omega (arith, is, has.first)) (first_of_event lens row event.process event.position has.process has.first has.last is)
