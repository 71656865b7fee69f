-- The numbers of the messages that the events of a process send to, or receive from, one other process.
use Rattle.std.proofs.Common.{◌≡◌, ℕ, zero, suc, ◌≤◌, Bool, true, false, ◌||◌, List, [], ◌∷◌, ◌++◌, length, map, take, count_by, refl, sym, ap, ◌∙◌, arith, inl, inr, append_assoc, length-append}
use Rattle.std.specs.Prelude.{◌==◌, nat_eq, if◌then◌else◌}
use Rattle.std.specs.Set.{is_member}
use Rattle.std.proofs.lemmas.Bool.{cases_Bool}
use Rattle.std.proofs.lemmas.List.Folds.{list_any-append}
use Rattle.std.proofs.lemmas.List.Sums.{sum_by-cons}
use Rattle.event_log.specs.declared.log.Kind.{Kind}
use Rattle.event_log.specs.declared.log.Kind.TheVariants as kind
use Rattle.event_log.specs.declared.log.Event.{Event}
use Rattle.event_log.specs.States.{event_of, kind_of}
use Rattle.run_model.specs.Run as run

-- what is sent to process q
abbrev pub sent_id : ℕ → Kind → List ℕ
sent_id q kind.Internal = []
sent_id q (kind.Send to id) = if to == q then id ∷ [] else []
sent_id q (kind.Receive sender id) = []

-- what is received from process p
abbrev pub received_id : ℕ → Kind → List ℕ
received_id p kind.Internal = []
received_id p (kind.Send to id) = []
received_id p (kind.Receive sender id) = if sender == p then id ∷ [] else []

abbrev pub ids : (Kind → List ℕ) → List Event → List ℕ
ids of [] = []
ids of (e ∷ es) = of e.kind ++ ids of es

pub ids-append : (of : Kind → List ℕ) (xs ys : List Event) → ids of (xs ++ ys) ≡ ids of xs ++ ids of ys
ids-append of [] ys = refl
ids-append of (e ∷ xs) ys = ap (λ (l : List ℕ). of e.kind ++ l) (ids-append of xs ys) ∙ sym (append_assoc (of e.kind) (ids of xs) (ids of ys))

-- ---- as many as the run counts

one_or_none : (b : Bool) (id : ℕ) → length (if b then id ∷ [] else []) ≡ (if b then 1 else 0)
one_or_none true id = refl
one_or_none false id = refl

sent_one : (q : ℕ) (k : Kind) → length (sent_id q k) ≡ (if run.is_send_to q (kind_of k) then 1 else 0)
sent_one q kind.Internal = refl
sent_one q (kind.Send to id) = one_or_none (to == q) id
sent_one q (kind.Receive sender id) = refl

received_one : (p : ℕ) (k : Kind) → length (received_id p k) ≡ (if run.is_receipt_from p (kind_of k) then 1 else 0)
received_one p kind.Internal = refl
received_one p (kind.Send to id) = refl
received_one p (kind.Receive sender id) = one_or_none (sender == p) id

counted : (of : Kind → List ℕ) (test : run.Kind → Bool) → ((k : Kind) → length (of k) ≡ (if test (kind_of k) then 1 else 0)) → (es : List Event)
    → length (ids of es) ≡ count_by (λ (e : run.Event). test e.kind) (map event_of es)
counted of test one [] = refl
counted of test one (e ∷ es) =
    omega (
      arith,
      length-append (of e.kind) (ids of es),
      one e.kind,
      counted of test one es,
      sum_by-cons (λ (x : run.Event). if test x.kind then 1 else 0) (event_of e) (map event_of es),
    )

pub length-sent_ids : (q : ℕ) (es : List Event) → length (ids (sent_id q) es) ≡ count_by (λ (e : run.Event). run.is_send_to q e.kind) (map event_of es)
length-sent_ids q es = counted (sent_id q) (run.is_send_to q) (sent_one q) es

pub length-received_ids : (p : ℕ) (es : List Event) → length (ids (received_id p) es) ≡ count_by (λ (e : run.Event). run.is_receipt_from p e.kind) (map event_of es)
length-received_ids p es = counted (received_id p) (run.is_receipt_from p) (received_one p) es

-- ---- members

or_left : (a b : Bool) → a ≡ true → (a || b) ≡ true
or_left true b h = refl
or_left false b h = cc

or_right : (a b : Bool) → b ≡ true → (a || b) ≡ true
or_right true b h = refl
or_right false b h = h

pub in_first : (xs ys : List ℕ) (id : ℕ) → is_member nat_eq xs id ≡ true → is_member nat_eq (xs ++ ys) id ≡ true
in_first xs ys id h = list_any-append (nat_eq id) xs ys ∙ or_left (is_member nat_eq xs id) (is_member nat_eq ys id) h

pub in_second : (xs ys : List ℕ) (id : ℕ) → is_member nat_eq ys id ≡ true → is_member nat_eq (xs ++ ys) id ≡ true
in_second xs ys id h = list_any-append (nat_eq id) xs ys ∙ or_right (is_member nat_eq xs id) (is_member nat_eq ys id) h

-- a member of one of two lists
pub in_either : (P : ℕ → Type 0) (xs ys : List ℕ) → ((id : ℕ) → is_member nat_eq xs id ≡ true → P id) → ((id : ℕ) → is_member nat_eq ys id ≡ true → P id) → (id : ℕ) → is_member nat_eq (xs ++ ys) id ≡ true → P id
in_either P xs ys first second id h = elim (cases_Bool (is_member nat_eq xs id)) [
  | inl there ↦ first id there
  | inr absent ↦ second id (skip (is_member nat_eq xs id) (is_member nat_eq ys id) absent (sym (list_any-append (nat_eq id) xs ys) ∙ h))
]
  where
    skip : (a b : Bool) → a ≡ false → (a || b) ≡ true → b ≡ true
    skip true b absent h = cc
    skip false b absent h = h

-- longer fronts of longer lists have no fewer members
pub member_stays : (of : Kind → List ℕ) (xs ys : List Event) (m n id : ℕ) → m ≤ n → is_member nat_eq (ids of (take m xs)) id ≡ true → is_member nat_eq (ids of (take n (xs ++ ys))) id ≡ true
member_stays of [] ys zero n id le h = cc
member_stays of [] ys (suc m) n id le h = cc
member_stays of (e ∷ xs) ys zero n id le h = cc
member_stays of (e ∷ xs) ys (suc m) zero id le h = absurd (omega arith)
member_stays of (e ∷ xs) ys (suc m) (suc n) id le h =
    in_either (λ (x : ℕ). is_member nat_eq (of e.kind ++ ids of (take n (xs ++ ys))) x ≡ true) (of e.kind) (ids of (take m xs))
    (λ x there. in_first (of e.kind) (ids of (take n (xs ++ ys))) x there)
    (λ x there. in_second (of e.kind) (ids of (take n (xs ++ ys))) x (member_stays of xs ys m n x (omega arith) there)) id h
