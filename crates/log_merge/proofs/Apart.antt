-- Which sources have no fault, and that their order doesn't matter.
use Rattle.std.proofs.Common.{◌≡◌, ℕ, zero, suc, ◌+◌, ◌-◌, ◌≤◌, Bool, true, false, cond, Option, Some, None, List, [], ◌∷◌, ◌++◌, length, map, replicate, refl, sym, ap, ◌∙◌, subst, arith, append_assoc, ◌⊎◌, inl, inr}
use Rattle.std.specs.Prelude.{◌↔◌, ◌==◌, ◌&&◌, ◌||◌, slice_get, filter, flat_map, count_by, Contains}
use Rattle.std.specs.List.{list_any, AllByRecursion}
use Rattle.std.specs.List.Sorted.{IsPermutation}
use Rattle.std.specs.Option.{option_map, option_or}
use Rattle.std.specs.Str.{bytes_eq}
use Rattle.std.proofs.lemmas.Bool.{cases_Bool, eq-eqb, eqb-true, ne_eqb, or_parts, true≢false}
use Rattle.std.proofs.lemmas.List.{length-append, append-nil, map-append}
use Rattle.std.proofs.lemmas.List.Elements.{Contains-append_left, Contains-append_right, Contains-append_cases, All-from_recursion, filter-append}
use Rattle.std.proofs.lemmas.List.Folds.{Any-from_list_any}
use Rattle.std.proofs.lemmas.List.Sorted.{IsPermutation-sym, Contains-permutation, length_permutation, sum_by-IsPermutation, list_any-IsPermutation}
use Rattle.std.proofs.lemmas.List.Sums.{sum_by-cons, sum_by-append}
use Rattle.std.proofs.lemmas.Option.{none-some, slice_get_past}
use Rattle.std.proofs.lemmas.Slice.Eq.{slice_eq-Decides, bytes_eq-Decides}
use Rattle.pota_base.specs.Limits.{most_events, most_sources}
use Rattle.log_lines.specs.Reading.{choose}
use Rattle.event_log.specs.declared.log.Binding.{Binding}
use Rattle.event_log.specs.declared.log.Event.{Event}
use Rattle.event_log.specs.declared.log.Header.{Header}
use Rattle.event_log.specs.declared.log.Log.{Log}
use Rattle.event_log.specs.Numbers.{variables_at}
use Rattle.log_merge.specs.declared.fault.Found.{Found}
use Rattle.fault_kinds.specs.declared.merge.MergeCode.TheVariants as code
use Rattle.log_merge.specs.declared.seen.Seen.{Seen}
use Rattle.log_merge.specs.declared.seen.Seen.TheVariants.{Nothing, One, Two}
use Rattle.log_merge.specs.Sources.{IsSource, OwnLine, events_of, own_lines, has_lines_of, another}
use Rattle.log_merge.specs.Sources.{seen_of, events_in}
use Rattle.log_merge.specs.Faults.{same_procs, same_start, differs, not_alone, one_too_many, event_too_many, source_fault, placed, fault_from, found}
use Rattle.log_merge.specs.Merging.{Placed, placed_events, placed_in, placed_from, of_process, by_process, numbered, variables_in, all_variables, merged_log}
use Rattle.log_merge.specs.Laws.{StartAlike, AreApart, NoFaultIsApart, AnyOrderWillDo}
use Rattle.log_merge.proofs.Judged.{IsFine, fine, or_nothing, map_nothing, events_in-push}
use Rattle.log_merge.proofs.Owned.{IsOf, is_of, seen_none, seen_one_process, HasNone, has_none, alone_none}

-- ---- sources without a fault, one by one

abbrev AllFine : List Log → List Log → Type 0
AllFine before [] = Unit {0}
AllFine before (s ∷ rest) = (source_fault before s ≡ None) × AllFine (before ++ s ∷ []) rest

all_fine : (before rest : List Log) → fault_from before rest ≡ None → AllFine before rest
unfolding fault_from
all_fine before [] e = tt
all_fine before (s ∷ rest) e =
    let parts = or_nothing (option_map (placed (length before + 1)) (source_fault before s)) (fault_from (before ++ s ∷ []) rest) e in
    (map_nothing (placed (length before + 1)) (source_fault before s) parts.0, all_fine (before ++ s ∷ []) rest parts.1)

no_fault : (before rest : List Log) → AllFine before rest → fault_from before rest ≡ None
unfolding fault_from
no_fault before [] all = refl
no_fault before (s ∷ rest) all = ap (λ (o : Option Found). option_or (option_map (placed (length before + 1)) o) (fault_from (before ++ s ∷ []) rest)) all.0 ∙ no_fault (before ++ s ∷ []) rest all.1

-- ---- lists of sources

pub first_in : {A : Type 0} (x : A) (xs : List A) → Contains (x ∷ xs) x
first_in x xs = (0, omega arith, refl)

in_one : {A : Type 0} (x y : A) → Contains (x ∷ []) y → x ≡ y
in_one x y (zero, lt, is) = is
in_one x y (suc k, lt, is) = absurd (omega arith)

abbrev bit : {A : Type 0} → (A → Bool) → A → ℕ
bit p x = cond (p x) 1 0

counted_cons : {A : Type 0} (p : A → Bool) (x : A) (xs : List A) → count_by p (x ∷ xs) ≡ cond (p x) 1 0 + count_by p xs
counted_cons p x xs = sum_by-cons (bit p) x xs

counted_first : {A : Type 0} (p : A → Bool) (x : A) (xs : List A) → p x ≡ true → count_by p (x ∷ xs) ≡ 1 + count_by p xs
counted_first p x xs on = counted_cons p x xs ∙ ap (λ (b : Bool). cond b 1 0 + count_by p xs) on

counted_later : {A : Type 0} (p : A → Bool) (x : A) (xs : List A) → p x ≡ false → count_by p (x ∷ xs) ≡ count_by p xs
counted_later p x xs off = counted_cons p x xs ∙ ap (λ (b : Bool). cond b 1 0 + count_by p xs) off ∙ omega arith

counted_append : {A : Type 0} (p : A → Bool) (xs ys : List A) → count_by p (xs ++ ys) ≡ count_by p xs + count_by p ys
counted_append p xs ys = sum_by-append (bit p) xs ys

none_counted : {A : Type 0} (p : A → Bool) (xs : List A) → list_any p xs ≡ false → count_by p xs ≡ 0
none_counted p [] e = refl
none_counted p (x ∷ xs) e =
    let parts = or_parts (p x) (list_any p xs) e in
    counted_later p x xs parts.0 ∙ none_counted p xs parts.1

none_any : {A : Type 0} (p : A → Bool) (xs : List A) → count_by p xs ≡ 0 → list_any p xs ≡ false
none_any p [] e = refl
none_any p (x ∷ xs) e = elim (cases_Bool (p x)) [
  | inl on ↦ absurd (omega (arith, e, counted_first p x xs on))
  | inr off ↦ ap (λ (b : Bool). b || list_any p xs) off ∙ none_any p xs (sym (counted_later p x xs off) ∙ e)
]

-- ---- from the faults to what is so

alike_turned : (g h : Header) → StartAlike g h → StartAlike h g
alike_turned g h a = record { version = sym a.version; procs = sym a.procs }

alike_joined : (g h i : Header) → StartAlike g h → StartAlike h i → StartAlike g i
alike_joined g h i a b = record { version = a.version ∙ b.version; procs = a.procs ∙ b.procs }

-- what the test of two headers says
procs_decided : (g h : Header) → (same_procs g h ≡ true) ↔ (g.procs ≡ h.procs)
procs_decided g h = slice_eq-Decides {E = bytes_eq} bytes_eq-Decides g.procs h.procs (same_procs g h) refl

start_told : (g h : Header) → same_start g h ≡ true → StartAlike g h
start_told g h e = elim (cases_Bool (g.version == h.version)) [
  | inl same ↦ record { version = eqb-true g.version h.version same; procs = (procs_decided g h).0 (sym (ap (λ (b : Bool). b && same_procs g h) same) ∙ e) }
  | inr other ↦ absurd (true≢false (sym e ∙ ap (λ (b : Bool). b && same_procs g h) other))
]

start_same : (g h : Header) → StartAlike g h → same_start g h ≡ true
start_same g h a = ap (λ (b : Bool). b && same_procs g h) (eq-eqb g.version h.version a.version) ∙ (procs_decided g h).1 a.procs

same_as : (before : List Log) (s : Log) → differs before s ≡ None → AreApart before → (t : Log) → Contains before t → StartAlike t.header s.header
same_as [] s e apart t has = absurd (omega (arith, has.1))
same_as (f ∷ rest) s e apart t has = alike_joined t.header f.header s.header (apart.same t f has (first_in f rest)) (go (same_start f.header s.header) refl e)
  where
    go : (b : Bool) → same_start f.header s.header ≡ b → cond b None (found code.HeaderDiffers 2) ≡ None → StartAlike f.header s.header
    go true is h = start_told f.header s.header is
    go false is h = absurd (none-some _ (sym h))

all_of : (p q : ℕ) (ls : List OwnLine) → AllByRecursion (IsOf p) ls → list_any (is_of q) ls ≡ true → p ≡ q
all_of p q [] all some = absurd cc
all_of p q (l ∷ ls) all some = elim (cases_Bool (l.process == q)) [
  | inl here ↦ sym all.0 ∙ eqb-true l.process q here
  | inr other ↦ let rest : list_any (is_of q) ls ≡ true = rw other at some in all_of p q ls all.1 rest
]

alone_of : (before : List Log) (ls : List OwnLine) (seen : Seen) → seen_of ls ≡ seen → not_alone before seen ≡ None → (p q : ℕ) → list_any (is_of p) ls ≡ true → list_any (is_of q) ls ≡ true → p ≡ q
alone_of before ls Nothing is e p q a b = absurd (true≢false (sym a ∙ ap (list_any (is_of p)) (seen_none ls is)))
alone_of before ls (One r line) is e p q a b =
    let one = seen_one_process ls r line is in
    sym (all_of r p ls one.all a) ∙ all_of r q ls one.all b
alone_of before ls (Two line) is e p q a b = absurd (none-some _ (sym e))

none_before : (before : List Log) (ls : List OwnLine) (seen : Seen) → seen_of ls ≡ seen → not_alone before seen ≡ None → (p : ℕ) → list_any (is_of p) ls ≡ true → list_any (has_lines_of p) before ≡ false
none_before before ls Nothing is e p some = absurd (true≢false (sym some ∙ ap (list_any (is_of p)) (seen_none ls is)))
none_before before ls (One r line) is e p some =
    let same = all_of r p ls (seen_one_process ls r line is).all some in
    ap (λ (n : ℕ). list_any (has_lines_of n) before) (sym same) ∙ alone_none before r line e
none_before before ls (Two line) is e p some = absurd (none-some _ (sym e))

apart_more : (before : List Log) (s : Log) → AreApart before → IsFine before s → AreApart (before ++ s ∷ [])
apart_more before s apart ok = record {
  same = λ a b ina inb. same a b (Contains-append_cases before (s ∷ []) a ina) (Contains-append_cases before (s ∷ []) b inb);
  alone = λ a ina. alone a (Contains-append_cases before (s ∷ []) a ina);
  once = λ p. once p (cases_Bool (has_lines_of p s));
  few = let no : length before ≡ most_sources → ⊥ = ok.few in omega (arith, apart.few, no, length-append before (s ∷ []));
  small = omega (arith, events_in-push before s, apart.small, ok.small);
}
  where
    alike : (t : Log) → Contains before t → StartAlike t.header s.header
    alike = same_as before s ok.same apart

    same : (a b : Log) → Contains before a ⊎ Contains (s ∷ []) a → Contains before b ⊎ Contains (s ∷ []) b → StartAlike a.header b.header
    same a b (inl x) (inl y) = apart.same a b x y
    same a b (inl x) (inr y) = subst (λ (t : Log). StartAlike a.header t.header) (in_one s b y) (alike a x)
    same a b (inr x) (inl y) = subst (λ (t : Log). StartAlike t.header b.header) (in_one s a x) (alike_turned b.header s.header (alike b y))
    same a b (inr x) (inr y) = subst (λ (t : Log). StartAlike t.header b.header) (in_one s a x) (subst (λ (t : Log). StartAlike s.header t.header) (in_one s b y) (record { version = refl; procs = refl }))

    alone : (a : Log) → Contains before a ⊎ Contains (s ∷ []) a → (p q : ℕ) → has_lines_of p a ≡ true → has_lines_of q a ≡ true → p ≡ q
    alone a (inl x) p q hp hq = apart.alone a x p q hp hq
    alone a (inr x) p q hp hq =
        let is = in_one s a x in
        alone_of before (own_lines s) (seen_of (own_lines s)) refl ok.alone p q (ap (has_lines_of p) is ∙ hp) (ap (has_lines_of q) is ∙ hq)

    empty : (p : ℕ) → count_by (has_lines_of p) [] ≡ 0
    empty p = refl

    once : (p : ℕ) → (has_lines_of p s ≡ true) ⊎ (has_lines_of p s ≡ false) → count_by (has_lines_of p) (before ++ s ∷ []) ≤ 1
    once p (inl on) =
        let zero_before = none_counted (has_lines_of p) before (none_before before (own_lines s) (seen_of (own_lines s)) refl ok.alone p on) in
        omega (arith, counted_append (has_lines_of p) before (s ∷ []), zero_before, counted_first (has_lines_of p) s [] on, empty p)
    once p (inr off) = omega (arith, counted_append (has_lines_of p) before (s ∷ []), apart.once p, counted_later (has_lines_of p) s [] off, empty p)

apart_all : (before rest : List Log) → AreApart before → AllFine before rest → AreApart (before ++ rest)
apart_all before [] apart all = subst AreApart (sym (append-nil before)) apart
apart_all before (s ∷ rest) apart all = subst AreApart (append_assoc before (s ∷ []) rest) (apart_all (before ++ s ∷ []) rest (apart_more before s apart (fine before s all.0)) all.1)

apart_none : AreApart []
apart_none = record {
  same = λ s t a b. absurd (omega (arith, a.1));
  alone = λ s a. absurd (omega (arith, a.1));
  once = λ p. omega arith;
  few = omega arith;
  small = omega arith;
}

-- ---- and back

record AreTwo (ls : List OwnLine) : Type 0 where
  p : ℕ
  q : ℕ
  first : list_any (is_of p) ls ≡ true
  second : list_any (is_of q) ls ≡ true
  apart : p ≡ q → ⊥

any_here : (q : ℕ) (l : OwnLine) (ls : List OwnLine) → l.process ≡ q → list_any (is_of q) (l ∷ ls) ≡ true
any_here q l ls e = rw (eq-eqb l.process q e) refl

any_later : (q : ℕ) (l : OwnLine) (ls : List OwnLine) → list_any (is_of q) ls ≡ true → list_any (is_of q) (l ∷ ls) ≡ true
any_later q l ls e = go (l.process == q)
  where
    go : (b : Bool) → (b || list_any (is_of q) ls) ≡ true
    go true = refl
    go false = e

another_there : (p : ℕ) (ls : List OwnLine) (k : OwnLine) → another p ls ≡ Some k → (list_any (is_of k.process) ls ≡ true) × (p ≡ k.process → ⊥)
another_there p [] k e = absurd (none-some k e)
another_there p (l ∷ ls) k e = elim (cases_Bool (p == l.process)) [
  | inl same ↦
      let rest : another p ls ≡ Some k = rw same at e in
      let h = another_there p ls k rest in
      (any_later k.process l ls h.0, h.1)
  | inr other ↦
      let here : Some l ≡ Some k = rw other at e in
      let is : l ≡ k = cc in
      (any_here k.process l ls (ap (λ (x : OwnLine). x.process) is), λ h. true≢false (sym (eq-eqb p l.process (h ∙ ap (λ (x : OwnLine). x.process) (sym is))) ∙ other))
]

two_seen : (ls : List OwnLine) (line : ℕ) → seen_of ls ≡ Two line → AreTwo ls
two_seen [] line e = absurd cc
two_seen (l ∷ ls) line e = go (another l.process ls) refl e
  where
    go : (o : Option OwnLine) → another l.process ls ≡ o → choose o (λ (k : OwnLine). Two k.line) (One l.process l.line) ≡ Two line → AreTwo (l ∷ ls)
    go None is h = absurd cc
    go (Some k) is h =
        let there = another_there l.process ls k is in
        record { p = l.process; q = k.process; first = any_here l.process l ls refl; second = any_later k.process l ls there.0; apart = there.1 }

module _ (before : List Log) (s : Log) (rest : List Log) (apart : AreApart (before ++ s ∷ rest)) where
  here : Contains (before ++ s ∷ rest) s
  here = Contains-append_right before (s ∷ rest) s (first_in s rest)

  not_differs : (b : List Log) → before ≡ b → differs b s ≡ None
  not_differs [] is = refl
  not_differs (f ∷ fs) is =
      let there : Contains (before ++ s ∷ rest) f = Contains-append_left before (s ∷ rest) f (subst (λ (xs : List Log). Contains xs f) (sym is) (first_in f fs)) in
      let same : same_start f.header s.header ≡ true = start_same f.header s.header (apart.same f s there here) in
      ap (λ (b : Bool). cond b None (found code.HeaderDiffers 2)) same

  is_alone : (seen : Seen) → seen_of (own_lines s) ≡ seen → not_alone before seen ≡ None
  is_alone Nothing is = refl
  is_alone (One p line) is =
      let one = seen_one_process (own_lines s) p line is in
      let many = counted_first (has_lines_of p) s rest one.some in
      let zero_before : count_by (has_lines_of p) before ≡ 0 = omega (arith, apart.once p, counted_append (has_lines_of p) before (s ∷ rest), many) in
      ap (λ (b : Bool). cond b (found code.ProcessTwice line) None) (none_any (has_lines_of p) before zero_before)
  is_alone (Two line) is =
      let two = two_seen (own_lines s) line is in
      absurd (two.apart (apart.alone s here two.p two.q two.first two.second))

  not_too_many : one_too_many before ≡ None
  not_too_many =
      let no : (length before == most_sources) ≡ false = ne_eqb (length before) most_sources (λ e. absurd (omega (arith, e, apart.few, length-append before (s ∷ rest)))) in
      ap (λ (b : Bool). cond b (found code.TooManySources 1) None) no

  has_room : event_too_many before s ≡ None
  has_room =
      let size : Log → ℕ = λ (x : Log). length (events_of x) in
      let past : slice_get (events_of s) (most_events - events_in before) ≡ None = slice_get_past (events_of s) (most_events - events_in before) (omega (arith, apart.small, sum_by-append size before (s ∷ rest), sum_by-cons size s rest)) in
      rw past refl

  is_fine : source_fault before s ≡ None
  is_fine = rw (not_differs before refl, is_alone (seen_of (own_lines s)) refl, not_too_many, has_room) refl

fine_all : (before rest : List Log) → AreApart (before ++ rest) → AllFine before rest
fine_all before [] apart = tt
fine_all before (s ∷ rest) apart = (is_fine before s rest apart, fine_all (before ++ s ∷ []) rest (subst AreApart (sym (append_assoc before (s ∷ []) rest)) apart))

pub no_fault_is_apart : NoFaultIsApart
no_fault_is_apart sources = (λ e. apart_all [] sources apart_none (all_fine [] sources e), λ apart. no_fault [] sources (fine_all [] sources apart))

-- ---- another order

count_permuted : (p : Log → Bool) (xs ys : List Log) → IsPermutation xs ys → count_by p ys ≡ count_by p xs
count_permuted p xs ys moved = sum_by-IsPermutation (bit p) xs ys moved

apart_permuted : (xs ys : List Log) → IsPermutation xs ys → AreApart xs → AreApart ys
apart_permuted xs ys moved apart =
    let back = IsPermutation-sym xs ys moved in
    record {
      same = λ s t a b. apart.same s t (Contains-permutation ys xs s back a) (Contains-permutation ys xs t back b);
      alone = λ s a. apart.alone s (Contains-permutation ys xs s back a);
      once = λ p. omega (arith, apart.once p, count_permuted (has_lines_of p) xs ys moved);
      few = omega (arith, apart.few, length_permutation xs ys moved);
      small = omega (arith, apart.small, sum_by-IsPermutation (λ (s : Log). length (events_of s)) xs ys moved);
    }

pub flat_none : {A : Type 0} (f : Log → List A) (xs : List Log) → ((s : Log) → Contains xs s → f s ≡ []) → flat_map f xs ≡ []
flat_none f [] none = refl
flat_none f (x ∷ xs) none = rw (none x (first_in x xs)) (flat_none f xs (λ s (k, lt, is). none s (suc k, omega (arith, lt), is)))

pub any_false : (q : Log → Bool) (xs : List Log) (t : Log) → Contains xs t → list_any q xs ≡ false → q t ≡ false
any_false q [] t has e = absurd (omega (arith, has.1))
any_false q (x ∷ xs) t (zero, lt, is) e = ap q (sym is) ∙ (or_parts (q x) (list_any q xs) e).0
any_false q (x ∷ xs) t (suc k, lt, is) e = any_false q xs t (k, omega (arith, lt), is) (or_parts (q x) (list_any q xs) e).1

pub later_in : {A : Type 0} (x y : A) (xs : List A) → Contains xs y → Contains (x ∷ xs) y
later_in x y xs has = (suc has.0, omega (arith, has.1), has.2)

-- where one of them has something, that is all
pub flat_one : {A : Type 0} (f : Log → List A) (q : Log → Bool) (xs : List Log) → ((s : Log) → Contains xs s → q s ≡ false → f s ≡ []) → count_by q xs ≤ 1 → (s : Log) → Contains xs s → q s ≡ true → flat_map f xs ≡ f s
flat_one {A = A} f q [] none once s has on = absurd (omega (arith, has.1))
flat_one {A = A} f q (x ∷ xs) none once s has on = go (flat_one f q xs (λ t there. none t (later_in x t xs there))) has (cases_Bool (q x))
  where
    go : (count_by q xs ≤ 1 → (t : Log) → Contains xs t → q t ≡ true → flat_map f xs ≡ f t) → Contains (x ∷ xs) s → (q x ≡ true) ⊎ (q x ≡ false) → f x ++ flat_map f xs ≡ f s
    go later has (inl first_on) =
        let rest : list_any q xs ≡ false = none_any q xs (omega (arith, once, counted_first q x xs first_on)) in
        let empty : flat_map f xs ≡ [] = flat_none f xs (λ t there. none t (later_in x t xs there) (any_false q xs t there rest)) in
        ap (λ (ys : List A). f x ++ ys) empty ∙ append-nil (f x) ∙ ap f (first has rest)
      where
        first : Contains (x ∷ xs) s → list_any q xs ≡ false → x ≡ s
        first (zero, lt, is) rest = is
        first (suc k, lt, is) rest = absurd (true≢false (sym on ∙ any_false q xs s (k, omega (arith, lt), is) rest))
    go later (zero, lt, is) (inr other) = absurd (true≢false (sym on ∙ ap q (sym is) ∙ other))
    go later (suc k, lt, is) (inr other) =
        let few : count_by q xs ≤ 1 = omega (arith, once, counted_later q x xs other) in
        ap (λ (ys : List A). ys ++ flat_map f xs) (none x (first_in x xs) other) ∙ later few s (k, omega (arith, lt), is) on

flat_same : {A : Type 0} (f : Log → List A) (q : Log → Bool) (xs ys : List Log) → IsPermutation xs ys → ((s : Log) → Contains xs s → q s ≡ false → f s ≡ []) → count_by q xs ≤ 1 → flat_map f xs ≡ flat_map f ys
flat_same {A = A} f q xs ys moved none once = go (cases_Bool (list_any q xs))
  where
    back : IsPermutation ys xs
    back = IsPermutation-sym xs ys moved

    none_moved : (s : Log) → Contains ys s → q s ≡ false → f s ≡ []
    none_moved s has = none s (Contains-permutation ys xs s back has)

    go : (list_any q xs ≡ true) ⊎ (list_any q xs ≡ false) → flat_map f xs ≡ flat_map f ys
    go (inl some) =
        let any = Any-from_list_any q xs some in
        let has : Contains xs any.1 = (any.0, any.2, any.3) in
        flat_one f q xs none once any.1 has any.4
        ∙ sym (flat_one f q ys none_moved (omega (arith, once, count_permuted q xs ys moved)) any.1 (Contains-permutation xs ys any.1 moved has) any.4)
    go (inr empty) =
        let empty_moved : list_any q ys ≡ false = sym (list_any-IsPermutation q xs ys moved) ∙ empty in
        flat_none f xs (λ s has. none s has (any_false q xs s has empty)) ∙ sym (flat_none f ys (λ s has. none_moved s has (any_false q ys s has empty_moved)))

-- ---- the merged log without the numbers of the sources

abbrev event_in : Placed → Event
event_in x = x.event

abbrev events_in_order : ℕ → ℕ → List Event → List Event
events_in_order p zero es = []
events_in_order p (suc n) es = filter (λ (e : Event). e.process == p) es ++ events_in_order (p + 1) n es

abbrev numbered_events : ℕ → List Event → List Event
numbered_events n [] = []
numbered_events n (e ∷ es) = let first : Event = record e { line = n } in first ∷ numbered_events (n + 1) es

numbered_plain : (n : ℕ) (xs : List Placed) → numbered n xs ≡ numbered_events n (map event_in xs)
numbered_plain n [] = refl
numbered_plain n (x ∷ xs) = let first : Event = record x.event { line = n } in ap (λ (es : List Event). first ∷ es) (numbered_plain (n + 1) xs)

of_plain : (p : ℕ) (xs : List Placed) → map event_in (of_process p xs) ≡ filter (λ (e : Event). e.process == p) (map event_in xs)
of_plain p [] = refl
of_plain p (x ∷ xs) = elim (cases_Bool (x.event.process == p)) [
  | inl on ↦ rw on (ap (λ (es : List Event). x.event ∷ es) (of_plain p xs))
  | inr off ↦ rw off (of_plain p xs)
]

in_order_plain : (p n : ℕ) (xs : List Placed) → map event_in (by_process p n xs) ≡ events_in_order p n (map event_in xs)
in_order_plain p zero xs = refl
in_order_plain p (suc n) xs = map-append event_in (of_process p xs) (by_process (p + 1) n xs) ∙ ap (λ (es : List Event). es ++ map event_in (by_process (p + 1) n xs)) (of_plain p xs)
    ∙ ap (λ (es : List Event). filter (λ (e : Event). e.process == p) (map event_in xs) ++ es) (in_order_plain (p + 1) n xs)

events_plain : (n : ℕ) (es : List Event) → map event_in (placed_events n es) ≡ es
events_plain n [] = refl
events_plain n (e ∷ es) = ap (λ (xs : List Event). e ∷ xs) (events_plain n es)

placed_plain : (n : ℕ) (xs : List Log) → map event_in (placed_from n xs) ≡ flat_map events_of xs
placed_plain n [] = refl
placed_plain n (s ∷ xs) = map-append event_in (placed_in n s) (placed_from (n + 1) xs) ∙ ap (λ (es : List Event). es ++ map event_in (placed_from (n + 1) xs)) (events_plain n (events_of s))
    ∙ ap (λ (es : List Event). events_of s ++ es) (placed_plain (n + 1) xs)

filter_flat : (p : ℕ) (xs : List Log) → filter (λ (e : Event). e.process == p) (flat_map events_of xs) ≡ flat_map (λ (s : Log). filter (λ (e : Event). e.process == p) (events_of s)) xs
filter_flat p [] = refl
filter_flat p (s ∷ xs) = filter-append (λ (e : Event). e.process == p) (events_of s) (flat_map events_of xs) ∙ ap (λ (es : List Event). filter (λ (e : Event). e.process == p) (events_of s) ++ es) (filter_flat p xs)

same_order : (p n : ℕ) (es fs : List Event) → ((q : ℕ) → filter (λ (e : Event). e.process == q) es ≡ filter (λ (e : Event). e.process == q) fs) → events_in_order p n es ≡ events_in_order p n fs
same_order p zero es fs same = refl
same_order p (suc n) es fs same = ap (λ (xs : List Event). xs ++ events_in_order (p + 1) n es) (same p) ∙ ap (λ (xs : List Event). filter (λ (e : Event). e.process == p) fs ++ xs) (same_order (p + 1) n es fs same)

same_variables : (p n : ℕ) (xs ys : List Log) → ((q : ℕ) → variables_in q xs ≡ variables_in q ys) → all_variables p n xs ≡ all_variables p n ys
same_variables p zero xs ys same = refl
same_variables p (suc n) xs ys same = ap (λ (v : List Binding). v ∷ all_variables (p + 1) n xs) (same p) ∙ ap (λ (vs : List (List Binding)). variables_in p ys ∷ vs) (same_variables (p + 1) n xs ys same)

batch_plain : (n : ℕ) (xs : List Log) → numbered 1 (by_process 0 n (placed_from 1 xs)) ≡ numbered_events 1 (events_in_order 0 n (flat_map events_of xs))
batch_plain n xs = numbered_plain 1 (by_process 0 n (placed_from 1 xs)) ∙ ap (numbered_events 1) (in_order_plain 0 n (placed_from 1 xs) ∙ ap (events_in_order 0 n) (placed_plain 1 xs))

pub is_source : (xs : List Log) → AllByRecursion IsSource xs → (s : Log) → Contains xs s → IsSource s
is_source xs sources s has = subst IsSource has.2 (All-from_recursion IsSource xs sources has.0 s has.1)

module _ (xs ys : List Log) (moved : IsPermutation xs ys) (apart : AreApart xs) (sources : AllByRecursion IsSource xs) where
  none_of : (p : ℕ) (s : Log) → Contains xs s → has_lines_of p s ≡ false → HasNone p s
  none_of p s has none = has_none p s (is_source xs sources s has) none

  variables_moved : (p : ℕ) → variables_in p xs ≡ variables_in p ys
  variables_moved p = flat_same (λ (s : Log). variables_at s.header.vars p) (has_lines_of p) xs ys moved (λ s has none. (none_of p s has none).variables) (apart.once p)

  events_moved : (p : ℕ) → filter (λ (e : Event). e.process == p) (flat_map events_of xs) ≡ filter (λ (e : Event). e.process == p) (flat_map events_of ys)
  events_moved p = filter_flat p xs ∙ flat_same (λ (s : Log). filter (λ (e : Event). e.process == p) (events_of s)) (has_lines_of p) xs ys moved
      (λ s has none. ap (λ (es : List Event). filter (λ (e : Event). e.process == p) es) (sym (events_plain 0 (events_of s))) ∙ sym (of_plain p (placed_in 0 s)) ∙ ap (map event_in) ((none_of p s has none).events 0)) (apart.once p) ∙ sym (filter_flat p ys)

  batch_moved : (n : ℕ) → numbered 1 (by_process 0 n (placed_from 1 xs)) ≡ numbered 1 (by_process 0 n (placed_from 1 ys))
  batch_moved n = batch_plain n xs ∙ ap (numbered_events 1) (same_order 0 n (flat_map events_of xs) (flat_map events_of ys) events_moved) ∙ sym (batch_plain n ys)

-- a log of this version, with these processes, variables and events
abbrev made : ℕ → List (List ℕ) → List (List Binding) → List Event → Log
made version procs vars events = record { header = record { version = version; procs = procs; vars = vars; var_lines = replicate (length procs) 0 }; batches = events ∷ [] }

logs_same : (xs ys : List Log) → IsPermutation xs ys → AreApart xs → AllByRecursion IsSource xs → merged_log xs ≡ merged_log ys
logs_same [] [] moved apart sources = refl
logs_same [] (y ∷ ys) moved apart sources = absurd (omega (arith, length_permutation [] (y ∷ ys) moved))
logs_same (x ∷ xs) [] moved apart sources = absurd (omega (arith, length_permutation (x ∷ xs) [] moved))
logs_same (x ∷ xs) (y ∷ ys) moved apart sources =
    let there : Contains (x ∷ xs) y = Contains-permutation (y ∷ ys) (x ∷ xs) y (IsPermutation-sym (x ∷ xs) (y ∷ ys) moved) (first_in y ys) in
    let alike : StartAlike x.header y.header = apart.same x y (first_in x xs) there in
    let version = x.header.version in
    let n = length x.header.procs in
    let vars : all_variables 0 n (x ∷ xs) ≡ all_variables 0 n (y ∷ ys) = same_variables 0 n (x ∷ xs) (y ∷ ys) (variables_moved (x ∷ xs) (y ∷ ys) moved apart sources) in
    let events = batch_moved (x ∷ xs) (y ∷ ys) moved apart sources n in
    ap (λ (v : List (List Binding)). made version x.header.procs v (numbered 1 (by_process 0 n (placed_from 1 (x ∷ xs))))) vars
    ∙ ap (λ (es : List Event). made version x.header.procs (all_variables 0 n (y ∷ ys)) es) events
    ∙ ap (λ (ns : List (List ℕ)). made version ns (all_variables 0 (length ns) (y ∷ ys)) (numbered 1 (by_process 0 (length ns) (placed_from 1 (y ∷ ys))))) alike.procs
    ∙ ap (λ (k : ℕ). made k y.header.procs (all_variables 0 (length y.header.procs) (y ∷ ys)) (numbered 1 (by_process 0 (length y.header.procs) (placed_from 1 (y ∷ ys))))) alike.version

pub any_order_will_do : AnyOrderWillDo
any_order_will_do xs ys moved sources = (
  (
    λ e. (no_fault_is_apart ys).1 (apart_permuted xs ys moved ((no_fault_is_apart xs).0 e)),
    λ e. (no_fault_is_apart xs).1 (apart_permuted ys xs (IsPermutation-sym xs ys moved) ((no_fault_is_apart ys).0 e)),
  ),
  λ e. logs_same xs ys moved ((no_fault_is_apart xs).0 e) sources,
)
