-- A slow reading of the definitions, by listing all cuts: whether a cut is consistent, whether a formula holds, and the slice of the
-- formula's family. It computes, and is proved to mean what the definitions say, so examples can be checked by computing.
use Rattle.std.proofs.Common.{◌≡◌, ℕ, zero, suc, ◌+◌, ◌<◌, ◌≤◌, ◌⊎◌, Bool, true, false, not, ◌&&◌, ◌||◌, eqb, leb, List, [], ◌∷◌, ◌++◌, length, map, flat_map, filter, pos, ◌-ℤ◌, ltb, Decides, sym, ap, ◌∙◌, subst, refl, inl, inr, arith, le_refl, zero-le}
use Rattle.std.specs.List.{range_with_len, list_all, list_any}
use Rattle.std.proofs.lemmas.Bool.{cond_both, cases_lt, cases_Bool, false≢true, and_parts, and_from, or_cases, or_left, or_right, not_from_false, not-true, leb-true, le-leb, ltb-true, lt-ltb, eqb-true, eq-eqb, both_ways}
use Rattle.run_model.specs.Cut.{Cut, Clocks, count, IsWithin, with_next, lengths}
use Rattle.run_model.specs.Run.{Run}
use Rattle.run_model.specs.Consistent.{clock, IsOrder, IsConsistent, IsPath}
use Rattle.run_model.specs.Sublattice.{AllIn}
use Rattle.run_model.specs.Operators.{EfHolds, AgHolds, EgHolds, ExHolds}
use Rattle.run_model.specs.Formula.{Ef, Ag, Eg, Af, Ax, Formula, Truth, Comparison, Watched, InTransit, Empty, Difference, Not, And, Or, Temporal, Next, Until, Formulas, Nil, Cons}
use Rattle.run_model.specs.Meaning.{compares, value_at, side_at, in_transit, Sat, SatAll, SatSome}
use Rattle.run_model.proofs.Counts.{within_refl, within_both, total, total_below, total_within, with_next_above, with_next_same, length-lengths}
use Rattle.run_model.proofs.Orders.{has_process}
use Rattle.run_model.proofs.Paths.{path_first, path_last, path_rises, each_time_ends, each_time_from_ends, next_time_from, next_time_lands}
use Rattle.meaning_laws.proofs.OperatorLemmas.{path_exists}

-- ---- membership in lists

abbrev pub IsIn : Cut → List Cut → Type 0
IsIn c [] = ⊥
IsIn c (d ∷ ds) = (c ≡ d) ⊎ IsIn c ds

in_left : (c : Cut) (xs ys : List Cut) → IsIn c xs → IsIn c (xs ++ ys)
in_left c [] ys h = absurd h
in_left c (x ∷ xs) ys h = elim h [ inl e ↦ inl e | inr k ↦ inr (in_left c xs ys k) ]

in_right : (c : Cut) (xs ys : List Cut) → IsIn c ys → IsIn c (xs ++ ys)
in_right c [] ys h = h
in_right c (x ∷ xs) ys h = inr (in_right c xs ys h)

in_mapped : (n : ℕ) (c : Cut) (xs : List Cut) → IsIn c xs → IsIn (n ∷ c) (map (λ d. n ∷ d) xs)
in_mapped n c [] h = absurd h
in_mapped n c (x ∷ xs) h = elim h [ inl e ↦ inl (ap (λ d. n ∷ d) e) | inr k ↦ inr (in_mapped n c xs k) ]

in_flat : (f : ℕ → List Cut) (c : Cut) (k a n : ℕ) → a ≤ k → k < a + n → IsIn c (f k) → IsIn c (flat_map f (range_with_len a n))
in_flat f c k a zero l m h = absurd (omega (arith, l, m))
in_flat f c k a (suc n) l m h = elim (cases_lt a k) [
  | inl later ↦ in_right c (f a) (flat_map f (range_with_len (a + 1) n)) (in_flat f c k (a + 1) n (omega (arith, later)) (omega (arith, m)) h)
  | inr now ↦ in_left c (f a) (flat_map f (range_with_len (a + 1) n)) (subst (λ x. IsIn c (f x)) (omega (arith, l, now)) h)
]

pub in_filtered : (p : Cut → Bool) (c : Cut) (xs : List Cut) → IsIn c xs → p c ≡ true → IsIn c (filter p xs)
in_filtered p c [] h t = absurd h
in_filtered p c (x ∷ xs) h t = cond_both (p x) (x ∷ filter p xs) (filter p xs) (IsIn c)
    (λ y. elim h [ inl e ↦ inl e | inr k ↦ inr (in_filtered p c xs k t) ])
    (λ n. elim h [ inl e ↦ absurd (both_ways (p x) n (subst (λ d. p d ≡ true) e t)) | inr k ↦ in_filtered p c xs k t ])

pub filtered_in : (p : Cut → Bool) (c : Cut) (xs : List Cut) → IsIn c (filter p xs) → IsIn c xs × (p c ≡ true)
filtered_in p c [] = λ h. absurd h
filtered_in p c (x ∷ xs) = cond_both (p x) (x ∷ filter p xs) (filter p xs) (λ ys. IsIn c ys → (IsIn c (x ∷ xs) × (p c ≡ true)))
    (λ y h. elim h [ inl e ↦ (inl e, subst (λ d. p d ≡ true) (sym e) y) | inr k ↦ let r = filtered_in p c xs k in (inr r.0, r.1) ])
    (λ n h. let r = filtered_in p c xs h in (inr r.0, r.1))

any_in : (p : Cut → Bool) (cs : List Cut) → list_any p cs ≡ true → (c : Cut) × IsIn c cs × (p c ≡ true)
any_in p [] h = absurd (false≢true h)
any_in p (x ∷ cs) h = elim (or_cases (p x) (list_any p cs) h) [
  | inl t ↦ (x, inl refl, t)
  | inr k ↦ let r = any_in p cs k in (r.0, inr r.1, r.2)
]

in_any : (p : Cut → Bool) (c : Cut) (cs : List Cut) → IsIn c cs → p c ≡ true → list_any p cs ≡ true
in_any p c [] h t = absurd h
in_any p c (x ∷ cs) h t = elim h [
  | inl e ↦ or_left (p x) (list_any p cs) (subst (λ d. p d ≡ true) e t)
  | inr k ↦ or_right (p x) (list_any p cs) (in_any p c cs k t)
]

all_at : (p : Cut → Bool) (c : Cut) (cs : List Cut) → list_all p cs ≡ true → IsIn c cs → p c ≡ true
all_at p c [] h k = absurd k
all_at p c (x ∷ cs) h k =
    let both = and_parts (p x) (list_all p cs) h in
    elim k [ inl e ↦ subst (λ d. p d ≡ true) (sym e) both.0 | inr l ↦ all_at p c cs both.1 l ]

all_from : (p : Cut → Bool) (cs : List Cut) → ((c : Cut) → IsIn c cs → p c ≡ true) → list_all p cs ≡ true
all_from p [] h = refl
all_from p (x ∷ cs) h = and_from (p x) (list_all p cs) (h x (inl refl)) (all_from p cs (λ c k. h c (inr k)))

-- ---- cuts

abbrev pub within : Cut → Cut → Bool
within [] d = true
within (x ∷ c) [] = leb x 0 && within c []
within (x ∷ c) (y ∷ d) = leb x y && within c d

within_cons : (x : ℕ) (c : Cut) (y : ℕ) (d : Cut) → x ≤ y → IsWithin c d → IsWithin (x ∷ c) (y ∷ d)
within_cons x c y d h k zero = h
within_cons x c y d h k (suc i) = k i

within_none : (x : ℕ) (c : Cut) → x ≤ 0 → IsWithin c [] → IsWithin (x ∷ c) []
within_none x c h k zero = h
within_none x c h k (suc i) = k i

pub within_is : (c d : Cut) → within c d ≡ true → IsWithin c d
within_is [] d h = λ i. zero-le
within_is (x ∷ c) [] h = let both = and_parts (leb x 0) (within c []) h in within_none x c (leb-true x 0 both.0) (within_is c [] both.1)
within_is (x ∷ c) (y ∷ d) h = let both = and_parts (leb x y) (within c d) h in within_cons x c y d (leb-true x y both.0) (within_is c d both.1)

pub is_within : (c d : Cut) → IsWithin c d → within c d ≡ true
is_within [] d h = refl
is_within (x ∷ c) [] h = and_from (leb x 0) (within c []) (le-leb x 0 (h 0)) (is_within c [] (λ i. h (suc i)))
is_within (x ∷ c) (y ∷ d) h = and_from (leb x y) (within c d) (le-leb x y (h 0)) (is_within c d (λ i. h (suc i)))

-- a test of each number below n
abbrev pub all_below : (ℕ → Bool) → ℕ → Bool
all_below p zero = true
all_below p (suc n) = all_below p n && p n

abbrev pub some_below : (ℕ → Bool) → ℕ → Bool
some_below p zero = false
some_below p (suc n) = some_below p n || p n

pub all_below_at : (p : ℕ → Bool) (n i : ℕ) → all_below p n ≡ true → i < n → p i ≡ true
all_below_at p zero i h l = absurd (omega (arith, l))
all_below_at p (suc n) i h l =
    let both = and_parts (all_below p n) (p n) h in
    elim (cases_lt i n) [
      | inl m ↦ all_below_at p n i both.0 m
      | inr g ↦ subst (λ x. p x ≡ true) (omega (arith, l, g)) both.1
    ]

all_below_from : (p : ℕ → Bool) (n : ℕ) → ((i : ℕ) → i < n → p i ≡ true) → all_below p n ≡ true
all_below_from p zero h = refl
all_below_from p (suc n) h = and_from (all_below p n) (p n) (all_below_from p n (λ i l. h i (omega (arith, l)))) (h n (omega arith))

pub some_below_is : (p : ℕ → Bool) (n : ℕ) → some_below p n ≡ true → (i : ℕ) × (i < n) × (p i ≡ true)
some_below_is p zero h = absurd (false≢true h)
some_below_is p (suc n) h = elim (or_cases (some_below p n) (p n) h) [
  | inl k ↦ let r = some_below_is p n k in (r.0, omega (arith, r.1), r.2)
  | inr t ↦ (n, omega arith, t)
]

pub some_below_from : (p : ℕ → Bool) (n i : ℕ) → i < n → p i ≡ true → some_below p n ≡ true
some_below_from p zero i l t = absurd (omega (arith, l))
some_below_from p (suc n) i l t = elim (cases_lt i n) [
  | inl m ↦ or_left (some_below p n) (p n) (some_below_from p n i m t)
  | inr g ↦ or_right (some_below p n) (p n) (subst (λ x. p x ≡ true) (omega (arith, l, g)) t)
]

abbrev has_its_past : Clocks → Cut → ℕ → Bool
has_its_past o c i = leb (count c i) 0 || within (clock o i (count c i)) c

abbrev pub consistent : Clocks → Cut → Bool
consistent o c = eqb (length c) (length o) && (within c (lengths o) && all_below (has_its_past o c) (length c))

pub consistent_is : (o : Clocks) (c : Cut) → consistent o c ≡ true → IsConsistent o c
consistent_is o c h =
    let first = and_parts (eqb (length c) (length o)) (within c (lengths o) && all_below (has_its_past o c) (length c)) h in
    let second = and_parts (within c (lengths o)) (all_below (has_its_past o c) (length c)) first.1 in
    record {
      shaped = eqb-true (length c) (length o) first.0;
      within = within_is c (lengths o) second.0;
      pasts = λ i p. elim (or_cases (leb (count c i) 0) (within (clock o i (count c i)) c) (all_below_at (has_its_past o c) (length c) i second.1 (has_process c i (count c i) (p, le_refl (count c i))))) [
        | inl none ↦ absurd (omega (arith, p, leb-true (count c i) 0 none))
        | inr k ↦ within_is (clock o i (count c i)) c k
      ];
    }

pub is_consistent : (o : Clocks) (c : Cut) → IsConsistent o c → consistent o c ≡ true
is_consistent o c k = and_from (eqb (length c) (length o)) (within c (lengths o) && all_below (has_its_past o c) (length c)) (eq-eqb (length c) (length o) k.shaped)
    (and_from (within c (lengths o)) (all_below (has_its_past o c) (length c)) (is_within c (lengths o) k.within)
    (all_below_from (has_its_past o c) (length c) (λ i l. elim (cases_lt 0 (count c i)) [
      | inl p ↦ or_right (leb (count c i) 0) (within (clock o i (count c i)) c) (is_within (clock o i (count c i)) c (k.pasts i p))
      | inr g ↦ or_left (leb (count c i) 0) (within (clock o i (count c i)) c) (le-leb (count c i) 0 g)
    ])))

-- the cuts within t
abbrev pub cuts_within : Cut → List Cut
cuts_within [] = [] ∷ []
cuts_within (n ∷ t) = flat_map (λ x. map (λ c. x ∷ c) (cuts_within t)) (range_with_len 0 (n + 1))

all_listed : (c t : Cut) → length c ≡ length t → IsWithin c t → IsIn c (cuts_within t)
all_listed [] [] e h = inl refl
all_listed [] (n ∷ t) e h = absurd (omega (arith, e))
all_listed (x ∷ c) [] e h = absurd (omega (arith, e))
all_listed (x ∷ c) (n ∷ t) e h = in_flat (λ y. map (λ d. y ∷ d) (cuts_within t)) (x ∷ c) x 0 (n + 1) (omega arith) (omega (arith, h 0)) (in_mapped x c (cuts_within t) (all_listed c t (omega (arith, e)) (λ i. h (suc i))))

abbrev pub consistent_cuts : Clocks → List Cut
consistent_cuts o = filter (consistent o) (cuts_within (lengths o))

pub listed_consistent : (o : Clocks) (c : Cut) → IsConsistent o c → IsIn c (consistent_cuts o)
listed_consistent o c k = in_filtered (consistent o) c (cuts_within (lengths o)) (all_listed c (lengths o) (k.shaped ∙ sym (length-lengths o)) k.within) (is_consistent o c k)

pub consistent_listed : (o : Clocks) (c : Cut) → IsIn c (consistent_cuts o) → IsConsistent o c
consistent_listed o c h = consistent_is o c (filtered_in (consistent o) c (cuts_within (lengths o)) h).1

-- ---- truth

abbrev pub stays : Clocks → (Cut → Bool) → ℕ → Cut → Bool
stays o p zero c = false
stays o p (suc fuel) c = p c && (within (lengths o) c || some_below (λ i. consistent o (with_next c i) && stays o p fuel (with_next c i)) (length c))

abbrev pub next_holds : Clocks → (Cut → Bool) → ℕ → Cut → Bool
next_holds o p i c = ltb i (length c) && (consistent o (with_next c i) && p (with_next c i))

-- cs are the consistent cuts
unfoldable mutual
  pub holds : Run → List Cut → Formula → Cut → Bool
  holds r cs (Truth b) c = b
  holds r cs (Comparison process variable relation side) c = compares relation (value_at r process variable c) (side_at r side c)
  holds r cs (Watched process watch) c = r.watched (r.process process) watch (count c (r.process process))
  holds r cs (InTransit sender receiver relation k) c = compares relation (pos (in_transit r (r.process sender) (r.process receiver) c)) (pos k)
  holds r cs (Empty sender receiver) c = eqb (in_transit r (r.process sender) (r.process receiver) c) 0
  holds r cs (Difference p x q y relation k) c = compares relation (value_at r p x c -ℤ value_at r q y c) k
  holds r cs (Not f) c = not (holds r cs f c)
  holds r cs (And fs) c = holds_all r cs fs c
  holds r cs (Or fs) c = holds_some r cs fs c
  holds r cs (Temporal Ef f) c = list_any (λ d. within c d && holds r cs f d) cs
  holds r cs (Temporal Ag f) c = list_all (λ d. not (within c d) || holds r cs f d) cs
  holds r cs (Temporal Eg f) c = stays r.clocks (holds r cs f) (suc (total (lengths r.clocks))) c
  holds r cs (Temporal Af f) c = false
  holds r cs (Temporal Ax f) c = false
  holds r cs (Next process f) c = next_holds r.clocks (holds r cs f) (r.process process) c
  holds r cs (Until all left right) c = false

  pub holds_all : Run → List Cut → Formulas → Cut → Bool
  holds_all r cs Nil c = true
  holds_all r cs (Cons f fs) c = holds r cs f c && holds_all r cs fs c

  pub holds_some : Run → List Cut → Formulas → Cut → Bool
  holds_some r cs Nil c = false
  holds_some r cs (Cons f fs) c = holds r cs f c || holds_some r cs fs c

-- a test and what it decides, at consistent cuts
abbrev Reads : Clocks → (Cut → Bool) → (Cut → Type 0) → Type 0
Reads o p A = (c : Cut) → IsConsistent o c → Decides (p c) (A c)

some_time_reads : (o : Clocks) → IsOrder o → (p : Cut → Bool) (A : Cut → Type 0) → Reads o p A → Reads o (λ c. list_any (λ d. within c d && p d) (consistent_cuts o)) (EfHolds o A)
some_time_reads o order p A reads c k = (
  λ h.
      let w = any_in (λ d. within c d && p d) (consistent_cuts o) h in
      let l = consistent_listed o w.0 w.1 in
      let both = and_parts (within c w.0) (p w.0) w.2 in
      let path = path_exists o order c w.0 k l (within_is c w.0 both.0) in
      (path.0, w.0, path.1, (reads w.0 l).0 both.1),
  λ v.
      let l = path_last (IsConsistent o) c v.0 v.1 v.2 in
      in_any (λ d. within c d && p d) v.1 (consistent_cuts o) (listed_consistent o v.1 l) (and_from (within c v.1) (p v.1) (is_within c v.1 (path_rises (IsConsistent o) c v.0 v.1 v.2)) ((reads v.1 l).1 v.3)),
)

each_time_reads : (o : Clocks) → IsOrder o → (p : Cut → Bool) (A : Cut → Type 0) → Reads o p A → Reads o (λ c. list_all (λ d. not (within c d) || p d) (consistent_cuts o)) (AgHolds o A)
each_time_reads o order p A reads c k = (
  λ h. each_time_from_ends o A c (λ es d path.
      let l = path_last (IsConsistent o) c es d path in
      let up = is_within c d (path_rises (IsConsistent o) c es d path) in
      elim (or_cases (not (within c d)) (p d) (all_at (λ d. not (within c d) || p d) d (consistent_cuts o) h (listed_consistent o d l))) [
        | inl n ↦ absurd (both_ways (within c d) (not-true (within c d) n) up)
        | inr t ↦ (reads d l).0 t
      ]),
  λ each. all_from (λ d. not (within c d) || p d) (consistent_cuts o) (λ d m. elim (cases_Bool (within c d)) [
    | inl t ↦
        let l = consistent_listed o d m in
        let path = path_exists o order c d k l (within_is c d t) in
        or_right (not (within c d)) (p d) ((reads d l).1 (each_time_ends o A c each path.0 d path.1))
    | inr n ↦ or_left (not (within c d)) (p d) (not_from_false (within c d) n)
  ]),
)

at_end : (o : Clocks) (c : Cut) → IsConsistent o c → IsWithin (lengths o) c → c ≡ lengths o
at_end o c k h = within_both c (lengths o) (k.shaped ∙ sym (length-lengths o)) k.within h

stays_is : (o : Clocks) (p : Cut → Bool) (A : Cut → Type 0) → Reads o p A → (fuel : ℕ) (c : Cut) → IsConsistent o c → stays o p fuel c ≡ true → EgHolds o A c
stays_is o p A reads zero c k h = absurd (false≢true h)
stays_is o p A reads (suc fuel) c k h =
    let both = and_parts (p c) (within (lengths o) c || some_below (λ i. consistent o (with_next c i) && stays o p fuel (with_next c i)) (length c)) h in
    let now = (reads c k).0 both.0 in
    elim (or_cases (within (lengths o) c) (some_below (λ i. consistent o (with_next c i) && stays o p fuel (with_next c i)) (length c)) both.1) [
      | inl t ↦ ([], (k, at_end o c k (within_is (lengths o) c t)), now)
      | inr s ↦
          let w = some_below_is (λ i. consistent o (with_next c i) && stays o p fuel (with_next c i)) (length c) s in
          let next = and_parts (consistent o (with_next c w.0)) (stays o p fuel (with_next c w.0)) w.2 in
          let rest = stays_is o p A reads fuel (with_next c w.0) (consistent_is o (with_next c w.0) next.0) next.1 in
          (with_next c w.0 ∷ rest.0, (k, (w.0, w.1, refl), rest.1), (now, rest.2))
    ]

grows : (c : Cut) (i : ℕ) → i < length c → total c < total (with_next c i)
grows c i h = total_below c (with_next c i) i (with_next_above c i h) (omega (arith, with_next_same c i h))

is_stays : (o : Clocks) (p : Cut → Bool) (A : Cut → Type 0) → Reads o p A → (es : List Cut) (c : Cut) (fuel : ℕ) → total (lengths o) < total c + fuel → IsPath o c es (lengths o) → AllIn A c es → stays o p fuel c ≡ true
is_stays o p A reads [] c zero f path all = absurd (omega (arith, f, ap total path.1))
is_stays o p A reads (e ∷ es) c zero f path all = absurd (omega (arith, f, total_within c (lengths o) path.0.within))
is_stays o p A reads [] c (suc fuel) f path all = and_from (p c) (within (lengths o) c || some_below (λ i. consistent o (with_next c i) && stays o p fuel (with_next c i)) (length c)) ((reads c path.0).1 all)
    (or_left (within (lengths o) c) (some_below (λ i. consistent o (with_next c i) && stays o p fuel (with_next c i)) (length c)) (is_within (lengths o) c (subst (λ x. IsWithin x c) path.1 (within_refl c))))
is_stays o p A reads (e ∷ es) c (suc fuel) f path all =
    let i = path.1.0 in
    let there = path.1.1 in
    let next : stays o p fuel (with_next c i) ≡ true = subst (λ x. stays o p fuel x ≡ true) path.1.2 (is_stays o p A reads es e fuel (subst (λ x. total (lengths o) < total x + fuel) (sym path.1.2) (omega (arith, f, grows c i there))) path.2 all.1) in
    let k : IsConsistent o (with_next c i) = subst (IsConsistent o) path.1.2 (path_first (IsConsistent o) e es (lengths o) path.2) in
    and_from (p c) (within (lengths o) c || some_below (λ i. consistent o (with_next c i) && stays o p fuel (with_next c i)) (length c)) ((reads c path.0).1 all.0)
    (or_right (within (lengths o) c) (some_below (λ i. consistent o (with_next c i) && stays o p fuel (with_next c i)) (length c))
    (some_below_from (λ i. consistent o (with_next c i) && stays o p fuel (with_next c i)) (length c) i there (and_from (consistent o (with_next c i)) (stays o p fuel (with_next c i)) (is_consistent o (with_next c i) k) next)))

staying_reads : (o : Clocks) (p : Cut → Bool) (A : Cut → Type 0) → Reads o p A → Reads o (stays o p (suc (total (lengths o)))) (EgHolds o A)
staying_reads o p A reads c k = (
  stays_is o p A reads (suc (total (lengths o))) c k,
  λ w. is_stays o p A reads w.0 c (suc (total (lengths o))) (omega arith) w.1 w.2,
)

next_time_reads : (o : Clocks) (p : Cut → Bool) (A : Cut → Type 0) → Reads o p A → (i : ℕ) → Reads o (next_holds o p i) (ExHolds o i A)
next_time_reads o p A reads i c k = (
  λ h.
      let first = and_parts (ltb i (length c)) (consistent o (with_next c i) && p (with_next c i)) h in
      let second = and_parts (consistent o (with_next c i)) (p (with_next c i)) first.1 in
      let n = consistent_is o (with_next c i) second.0 in
      next_time_from o i A c (ltb-true i (length c) first.0) k n ((reads (with_next c i) n).0 second.1),
  λ w.
      let n = next_time_lands o i A c w in
      and_from (ltb i (length c)) (consistent o (with_next c i) && p (with_next c i)) (lt-ltb i (length c) w.0)
      (and_from (consistent o (with_next c i)) (p (with_next c i)) (is_consistent o (with_next c i) n) ((reads (with_next c i) n).1 w.2)),
)

test_reads : (b : Bool) → Decides b (b ≡ true)
test_reads b = (λ h. h, λ h. h)

zero_reads : (n : ℕ) → Decides (eqb n 0) (n ≡ 0)
zero_reads n = (eqb-true n 0, eq-eqb n 0)

not_reads : (b : Bool) (P : Type 0) → Decides b P → Decides (not b) (P → ⊥)
not_reads true P d = (λ h. absurd (false≢true h), λ n. absurd (n (d.0 refl)))
not_reads false P d = (λ h p. false≢true (d.1 p), λ n. refl)

both_read : (a b : Bool) (P Q : Type 0) → Decides a P → Decides b Q → Decides (a && b) (P × Q)
both_read a b P Q d e = (λ h. let w = and_parts a b h in (d.0 w.0, e.0 w.1), λ w. and_from a b (d.1 w.0) (e.1 w.1))

either_reads : (a b : Bool) (P Q : Type 0) → Decides a P → Decides b Q → Decides (a || b) (P ⊎ Q)
either_reads a b P Q d e = (
  λ h. elim (or_cases a b h) [ inl t ↦ inl (d.0 t) | inr t ↦ inr (e.0 t) ],
  λ w. elim w [ inl x ↦ or_left a b (d.1 x) | inr y ↦ or_right a b (e.1 y) ],
)

never_reads : Decides false ⊥
never_reads = (λ h. absurd (false≢true h), λ h. absurd h)

-- the reading is that of the definition
mutual
  unfolding holds holds_all holds_some

  pub holds_reads : (r : Run) → IsOrder r.clocks → (f : Formula) (c : Cut) → IsConsistent r.clocks c → Decides (holds r (consistent_cuts r.clocks) f c) (Sat r f c)
  holds_reads r order (Truth b) c k = test_reads b
  holds_reads r order (Comparison process variable relation side) c k = test_reads (compares relation (value_at r process variable c) (side_at r side c))
  holds_reads r order (Watched process watch) c k = test_reads (r.watched (r.process process) watch (count c (r.process process)))
  holds_reads r order (InTransit sender receiver relation m) c k = test_reads (compares relation (pos (in_transit r (r.process sender) (r.process receiver) c)) (pos m))
  holds_reads r order (Empty sender receiver) c k = zero_reads (in_transit r (r.process sender) (r.process receiver) c)
  holds_reads r order (Difference p x q y relation m) c k = test_reads (compares relation (value_at r p x c -ℤ value_at r q y c) m)
  holds_reads r order (Not f) c k = not_reads (holds r (consistent_cuts r.clocks) f c) (Sat r f c) (holds_reads r order f c k)
  holds_reads r order (And fs) c k = all_read r order fs c k
  holds_reads r order (Or fs) c k = some_reads r order fs c k
  holds_reads r order (Temporal Ef f) c k = some_time_reads r.clocks order (holds r (consistent_cuts r.clocks) f) (Sat r f) (holds_reads r order f) c k
  holds_reads r order (Temporal Ag f) c k = each_time_reads r.clocks order (holds r (consistent_cuts r.clocks) f) (Sat r f) (holds_reads r order f) c k
  holds_reads r order (Temporal Eg f) c k = staying_reads r.clocks (holds r (consistent_cuts r.clocks) f) (Sat r f) (holds_reads r order f) c k
  holds_reads r order (Temporal Af f) c k = never_reads
  holds_reads r order (Temporal Ax f) c k = never_reads
  holds_reads r order (Next process f) c k = next_time_reads r.clocks (holds r (consistent_cuts r.clocks) f) (Sat r f) (holds_reads r order f) (r.process process) c k
  holds_reads r order (Until all left right) c k = never_reads

  all_read : (r : Run) → IsOrder r.clocks → (fs : Formulas) (c : Cut) → IsConsistent r.clocks c → Decides (holds_all r (consistent_cuts r.clocks) fs c) (SatAll r fs c)
  all_read r order Nil c k = (λ h. tt, λ h. refl)
  all_read r order (Cons f fs) c k = both_read (holds r (consistent_cuts r.clocks) f c) (holds_all r (consistent_cuts r.clocks) fs c) (Sat r f c) (SatAll r fs c) (holds_reads r order f c k) (all_read r order fs c k)

  some_reads : (r : Run) → IsOrder r.clocks → (fs : Formulas) (c : Cut) → IsConsistent r.clocks c → Decides (holds_some r (consistent_cuts r.clocks) fs c) (SatSome r fs c)
  some_reads r order Nil c k = never_reads
  some_reads r order (Cons f fs) c k = either_reads (holds r (consistent_cuts r.clocks) f c) (holds_some r (consistent_cuts r.clocks) fs c) (Sat r f c) (SatSome r fs c) (holds_reads r order f c k) (some_reads r order fs c k)
