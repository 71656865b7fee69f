-- The family of a regular formula is closed under minimum and maximum.
use Rattle.std.proofs.Common.{◌≡◌, ℕ, ◌-◌, ◌≤◌, ◌⊎◌, ◌↔◌, min, max, Bool, true, false, not, ◌==◌, cond, List, [], ◌∷◌, ◌++◌, ℤ, pos, ◌-ℤ◌, bytes_eq, sym, ap, ◌∙◌, subst, refl, inl, inr, arith}
use Rattle.std.specs.List.{list_all}
use Rattle.std.proofs.lemmas.Bool.{cases_lt, false≢true, and_parts, and_from, or_cases, not-true, not_from_false, false_from_ne_true, both_ways}
use Rattle.std.proofs.lemmas.List.Folds.{list_all-append}
use Rattle.std.proofs.lemmas.Slice.Eq.{bytes_eq-Decides}
use Rattle.run_model.specs.Cut.{Cut, count, min_cut, max_cut}
use Rattle.run_model.specs.Run.{Name, Run}
use Rattle.run_model.specs.Consistent.{IsOrder, IsConsistent}
use Rattle.run_model.specs.Sublattice.{IsSublattice}
use Rattle.run_model.specs.Formula.{Relation, LessOrEqual, GreaterOrEqual, Side, Number, Variable, Operator, Ef, Ag, Eg, Af, Ax, Formula, Truth, Comparison, Watched, InTransit, Empty, Difference, Not, And, Or, Temporal, Next, Until, Formulas, Nil, Cons}
use Rattle.run_model.specs.Meaning.{compares, value_at, side_at, in_transit, IsRun, Sat, SatAll, SatSome, Family}
use Rattle.run_model.specs.Class.{side_processes, processes, all_processes, is_plain, all_plain, is_one_name, is_local, turned, after_sign, is_unequal, is_analysed, is_conjunctive, all_conjunctive, NeverFalls, IsKeptFor, AreKeptFor, IsRegular, IsRegularIn}
use Rattle.run_model.proofs.Counts.{count-min, count-max}
use Rattle.run_model.proofs.Orders.{min_consistent, max_consistent}
use Rattle.run_model.proofs.Paths.{all_first}
use Rattle.meaning_laws.proofs.ClosureLemmas.{some_time_min, some_time_max, each_time_min, each_time_max, staying_min, staying_max, next_time_min, next_time_max}
use Rattle.meaning_laws.proofs.DecisionLemmas.{stable}
use Rattle.run_model.proofs.RelationLemmas.{compares-turned, HoldsOf, holds_of, from_holds, holds_between}
use Rattle.meaning_laws.proofs.DifferenceLemmas.{difference_min, difference_max, ints_between}

-- ---- a local formula goes by the count of its process

one_name : (names : List Name) → is_one_name names ≡ true → (p : Name) × (list_all (bytes_eq p) names ≡ true)
one_name [] h = ([], refl)
one_name (p ∷ names) h = (p, and_from (bytes_eq p p) (list_all (bytes_eq p) names) ((bytes_eq-Decides p p).1 refl) h)

same_name : (p q : Name) (names : List Name) → list_all (bytes_eq p) (q ∷ names) ≡ true → (q ≡ p) × (list_all (bytes_eq p) names ≡ true)
same_name p q names h =
    let both = and_parts (bytes_eq p q) (list_all (bytes_eq p) names) h in
    (sym ((bytes_eq-Decides p q).0 both.0), both.1)

split_names : (p : Name) (xs ys : List Name) → list_all (bytes_eq p) (xs ++ ys) ≡ true → (list_all (bytes_eq p) xs ≡ true) × (list_all (bytes_eq p) ys ≡ true)
split_names p xs ys h = and_parts (list_all (bytes_eq p) xs) (list_all (bytes_eq p) ys) (sym (list_all-append (bytes_eq p) xs ys) ∙ h)

-- the cuts have the same number of events of the process
abbrev Alike : Run → Name → Cut → Cut → Type 0
Alike r p c d = count c (r.process p) ≡ count d (r.process p)

value_alike : (r : Run) (p q variable : Name) (c d : Cut) → Alike r p c d → q ≡ p → value_at r q variable c ≡ value_at r q variable d
value_alike r p q variable c d same e = subst (λ x. value_at r x variable c ≡ value_at r x variable d) (sym e) (ap (r.value (r.process p) variable) same)

side_alike : (r : Run) (p : Name) (side : Side) (c d : Cut) → Alike r p c d → list_all (bytes_eq p) (side_processes side) ≡ true → side_at r side c ≡ side_at r side d
side_alike r p (Number k) c d same h = refl
side_alike r p (Variable q variable) c d same h = value_alike r p q variable c d same (same_name p q [] h).0

watch_alike : (r : Run) (p q watch : Name) (c d : Cut) → Alike r p c d → q ≡ p → r.watched (r.process q) watch (count c (r.process q)) ≡ r.watched (r.process q) watch (count d (r.process q))
watch_alike r p q watch c d same e = subst (λ x. r.watched (r.process x) watch (count c (r.process x)) ≡ r.watched (r.process x) watch (count d (r.process x))) (sym e) (ap (r.watched (r.process p) watch) same)

comparison_alike : (r : Run) (p q variable : Name) (relation : Relation) (side : Side) (c d : Cut) → Alike r p c d → list_all (bytes_eq p) (q ∷ side_processes side) ≡ true → compares relation (value_at r q variable c) (side_at r side c) ≡ compares relation (value_at r q variable d) (side_at r side d)
comparison_alike r p q variable relation side c d same h =
    let n = same_name p q (side_processes side) h in
    ap (λ x. compares relation x (side_at r side c)) (value_alike r p q variable c d same n.0) ∙ ap (compares relation (value_at r q variable d)) (side_alike r p side c d same n.1)

mutual
  unfolding is_plain all_plain processes all_processes

  pub local_alike : (r : Run) (p : Name) (f : Formula) → is_plain f ≡ true → list_all (bytes_eq p) (processes f) ≡ true → (c d : Cut) → Alike r p c d → Sat r f c → Sat r f d
  local_alike r p (Truth b) plain names c d same h = h
  local_alike r p (Comparison q variable relation side) plain names c d same h = sym (comparison_alike r p q variable relation side c d same names) ∙ h
  local_alike r p (Watched q watch) plain names c d same h = sym (watch_alike r p q watch c d same (same_name p q [] names).0) ∙ h
  local_alike r p (InTransit sender receiver relation k) plain names c d same h = absurd (false≢true plain)
  local_alike r p (Empty sender receiver) plain names c d same h = absurd (false≢true plain)
  local_alike r p (Difference s x q y relation k) plain names c d same h = absurd (false≢true plain)
  local_alike r p (Not f) plain names c d same h = λ g. h (local_alike r p f plain names d c (sym same) g)
  local_alike r p (And fs) plain names c d same h = all_alike r p fs plain names c d same h
  local_alike r p (Or fs) plain names c d same h = some_alike r p fs plain names c d same h
  local_alike r p (Temporal operator f) plain names c d same h = absurd (false≢true plain)
  local_alike r p (Next process f) plain names c d same h = absurd (false≢true plain)
  local_alike r p (Until all left right) plain names c d same h = absurd (false≢true plain)

  all_alike : (r : Run) (p : Name) (fs : Formulas) → all_plain fs ≡ true → list_all (bytes_eq p) (all_processes fs) ≡ true → (c d : Cut) → Alike r p c d → SatAll r fs c → SatAll r fs d
  all_alike r p Nil plain names c d same h = tt
  all_alike r p (Cons f fs) plain names c d same h =
      let q = and_parts (is_plain f) (all_plain fs) plain in
      let n = split_names p (processes f) (all_processes fs) names in
      (local_alike r p f q.0 n.0 c d same h.0, all_alike r p fs q.1 n.1 c d same h.1)

  some_alike : (r : Run) (p : Name) (fs : Formulas) → all_plain fs ≡ true → list_all (bytes_eq p) (all_processes fs) ≡ true → (c d : Cut) → Alike r p c d → SatSome r fs c → SatSome r fs d
  some_alike r p Nil plain names c d same h = h
  some_alike r p (Cons f fs) plain names c d same h =
      let q = and_parts (is_plain f) (all_plain fs) plain in
      let n = split_names p (processes f) (all_processes fs) names in
      elim h [
        | inl u ↦ inl (local_alike r p f q.0 n.0 c d same u)
        | inr v ↦ inr (some_alike r p fs q.1 n.1 c d same v)
      ]

-- ---- what is kept by minimum and maximum of consistent cuts

-- the formula with its sign is true
abbrev pub Signed : Run → Bool → Formula → Cut → Type 0
Signed r true f c = Sat r f c
Signed r false f c = Sat r f c → ⊥

pub record Keeps (r : Run) (M : Cut → Type 0) : Type 0 where
  pub has_min : (c d : Cut) → IsConsistent r.clocks c → IsConsistent r.clocks d → M c → M d → M (min_cut c d)
  pub has_max : (c d : Cut) → IsConsistent r.clocks c → IsConsistent r.clocks d → M c → M d → M (max_cut c d)

signed_alike : (r : Run) (sign : Bool) (p : Name) (f : Formula) → is_plain f ≡ true → list_all (bytes_eq p) (processes f) ≡ true → (c d : Cut) → Alike r p c d → Signed r sign f c → Signed r sign f d
signed_alike r true p f plain names c d same h = local_alike r p f plain names c d same h
signed_alike r false p f plain names c d same h = λ g. h (local_alike r p f plain names d c (sym same) g)

min_is_one : (c d : Cut) (i : ℕ) → (count c i ≡ count (min_cut c d) i) ⊎ (count d i ≡ count (min_cut c d) i)
min_is_one c d i = elim (cases_lt (count c i) (count d i)) [
  | inl l ↦ inl (omega (arith, count-min c d i, l))
  | inr g ↦ inr (omega (arith, count-min c d i, g))
]

max_is_one : (c d : Cut) (i : ℕ) → (count c i ≡ count (max_cut c d) i) ⊎ (count d i ≡ count (max_cut c d) i)
max_is_one c d i = elim (cases_lt (count c i) (count d i)) [
  | inl l ↦ inr (omega (arith, count-max c d i, l))
  | inr g ↦ inl (omega (arith, count-max c d i, g))
]

pub local_keeps : (r : Run) (sign : Bool) (f : Formula) → is_local f ≡ true → Keeps r (Signed r sign f)
local_keeps r sign f h =
    let both = and_parts (is_plain f) (is_one_name (processes f)) h in
    let name = one_name (processes f) both.1 in
    record {
      has_min = λ c d k l p q. elim (min_is_one c d (r.process name.0)) [
        | inl e ↦ signed_alike r sign name.0 f both.0 name.1 c (min_cut c d) e p
        | inr e ↦ signed_alike r sign name.0 f both.0 name.1 d (min_cut c d) e q
      ];
      has_max = λ c d k l p q. elim (max_is_one c d (r.process name.0)) [
        | inl e ↦ signed_alike r sign name.0 f both.0 name.1 c (max_cut c d) e p
        | inr e ↦ signed_alike r sign name.0 f both.0 name.1 d (max_cut c d) e q
      ];
    }

-- ---- channels

abbrev Mid : ℕ → ℕ → ℕ → Type 0
Mid a b n = (min a b ≤ n) × (n ≤ max a b)

abbrev flow : Run → ℕ → ℕ → ℕ → ℕ → ℕ
flow r p q a b = r.sent p q a - r.received p q b

least_left : (m a x : ℕ) → m ≡ min a x → a ≤ x → m ≡ a
least_left m a x e h = omega (arith, e, h)

least_right : (m a x : ℕ) → m ≡ min a x → x ≤ a → m ≡ x
least_right m a x e h = omega (arith, e, h)

greatest_left : (m a x : ℕ) → m ≡ max a x → x ≤ a → m ≡ a
greatest_left m a x e h = omega (arith, e, h)

greatest_right : (m a x : ℕ) → m ≡ max a x → a ≤ x → m ≡ x
greatest_right m a x e h = omega (arith, e, h)

flow_min : (r : Run) → IsRun r → (p q a b x y m n : ℕ) → m ≡ min a x → n ≡ min b y → Mid (flow r p q a b) (flow r p q x y) (flow r p q m n)
flow_min r run p q a b x y m n first second = elim (cases_lt a x) [
  | inl l ↦
      let s = ap (r.sent p q) (least_left m a x first (omega (arith, l))) in
      let up = run.sent_rises p q a x (omega (arith, l)) in
      elim (cases_lt b y) [
        | inl k ↦ let t = ap (r.received p q) (least_left n b y second (omega (arith, k))) in (omega (arith, s, t), omega (arith, s, t))
        | inr k ↦ let t = ap (r.received p q) (least_right n b y second k) in let down = run.received_rises p q y b k in (omega (arith, s, t, up, down), omega (arith, s, t, up, down))
      ]
  | inr l ↦
      let s = ap (r.sent p q) (least_right m a x first l) in
      let up = run.sent_rises p q x a l in
      elim (cases_lt b y) [
        | inl k ↦ let t = ap (r.received p q) (least_left n b y second (omega (arith, k))) in let down = run.received_rises p q b y (omega (arith, k)) in (omega (arith, s, t, up, down), omega (arith, s, t, up, down))
        | inr k ↦ let t = ap (r.received p q) (least_right n b y second k) in (omega (arith, s, t), omega (arith, s, t))
      ]
]

flow_max : (r : Run) → IsRun r → (p q a b x y m n : ℕ) → m ≡ max a x → n ≡ max b y → Mid (flow r p q a b) (flow r p q x y) (flow r p q m n)
flow_max r run p q a b x y m n first second = elim (cases_lt a x) [
  | inl l ↦
      let s = ap (r.sent p q) (greatest_right m a x first (omega (arith, l))) in
      let up = run.sent_rises p q a x (omega (arith, l)) in
      elim (cases_lt b y) [
        | inl k ↦ let t = ap (r.received p q) (greatest_right n b y second (omega (arith, k))) in (omega (arith, s, t), omega (arith, s, t))
        | inr k ↦ let t = ap (r.received p q) (greatest_left n b y second k) in let down = run.received_rises p q y b k in (omega (arith, s, t, up, down), omega (arith, s, t, up, down))
      ]
  | inr l ↦
      let s = ap (r.sent p q) (greatest_left m a x first l) in
      let up = run.sent_rises p q x a l in
      elim (cases_lt b y) [
        | inl k ↦ let t = ap (r.received p q) (greatest_right n b y second (omega (arith, k))) in let down = run.received_rises p q b y (omega (arith, k)) in (omega (arith, s, t, up, down), omega (arith, s, t, up, down))
        | inr k ↦ let t = ap (r.received p q) (greatest_left n b y second k) in (omega (arith, s, t), omega (arith, s, t))
      ]
]

mid_tested : (b : Bool) (x y z : ℕ) → Mid x y z → Mid (cond b 0 x) (cond b 0 y) (cond b 0 z)
mid_tested true x y z h = (omega arith, omega arith)
mid_tested false x y z h = h

transit_min : (r : Run) → IsRun r → (p q : ℕ) (c d : Cut) → Mid (in_transit r p q c) (in_transit r p q d) (in_transit r p q (min_cut c d))
unfolding in_transit
transit_min r run p q c d = mid_tested (p == q) (flow r p q (count c p) (count c q)) (flow r p q (count d p) (count d q)) (flow r p q (count (min_cut c d) p) (count (min_cut c d) q))
    (flow_min r run p q (count c p) (count c q) (count d p) (count d q) (count (min_cut c d) p) (count (min_cut c d) q) (count-min c d p) (count-min c d q))

transit_max : (r : Run) → IsRun r → (p q : ℕ) (c d : Cut) → Mid (in_transit r p q c) (in_transit r p q d) (in_transit r p q (max_cut c d))
unfolding in_transit
transit_max r run p q c d = mid_tested (p == q) (flow r p q (count c p) (count c q)) (flow r p q (count d p) (count d q)) (flow r p q (count (max_cut c d) p) (count (max_cut c d) q))
    (flow_max r run p q (count c p) (count c q) (count d p) (count d q) (count (max_cut c d) p) (count (max_cut c d) q) (count-max c d p) (count-max c d q))

-- the comparison that a channel formula with its sign makes
abbrev pub Compared : Run → Name → Name → Relation → ℕ → Cut → Type 0
Compared r p q relation k c = HoldsOf relation (in_transit r (r.process p) (r.process q) c) k

channel_keeps : (r : Run) → IsRun r → (p q : Name) (relation : Relation) (k : ℕ) → is_unequal relation ≡ false → Keeps r (Compared r p q relation k)
channel_keeps r run p q relation k one = record {
  has_min = λ c d l m h g. let mid = transit_min r run (r.process p) (r.process q) c d in
      holds_between relation (in_transit r (r.process p) (r.process q) c) (in_transit r (r.process p) (r.process q) d) (in_transit r (r.process p) (r.process q) (min_cut c d)) k one mid.0 mid.1 h g;
  has_max = λ c d l m h g. let mid = transit_max r run (r.process p) (r.process q) c d in
      holds_between relation (in_transit r (r.process p) (r.process q) c) (in_transit r (r.process p) (r.process q) d) (in_transit r (r.process p) (r.process q) (max_cut c d)) k one mid.0 mid.1 h g;
}

-- ---- differences of counters

abbrev pub difference_at : Run → Name → Name → Name → Name → Cut → ℤ
difference_at r p x q y c = value_at r p x c -ℤ value_at r q y c

-- the comparison that a difference with its sign makes
abbrev pub DifferenceCompared : Run → Name → Name → Name → Name → Relation → ℤ → Cut → Type 0
DifferenceCompared r p x q y relation k c = compares relation (difference_at r p x q y c) k ≡ true

difference_keeps : (r : Run) (p x q y : Name) → NeverFalls r p x → NeverFalls r q y → (relation : Relation) (k : ℤ) → is_unequal relation ≡ false → Keeps r (DifferenceCompared r p x q y relation k)
difference_keeps r p x q y up more relation k one =
    let i = r.process p in
    let j = r.process q in
    record {
      has_min = λ c d l m h g. ints_between relation (difference_at r p x q y c) (difference_at r p x q y d) (difference_at r p x q y (min_cut c d)) k one
          (difference_min (r.value i x) (r.value j y) up more (count c i) (count c j) (count d i) (count d j) (count (min_cut c d) i) (count (min_cut c d) j) (count-min c d i) (count-min c d j)) h g;
      has_max = λ c d l m h g. ints_between relation (difference_at r p x q y c) (difference_at r p x q y d) (difference_at r p x q y (max_cut c d)) k one
          (difference_max (r.value i x) (r.value j y) up more (count c i) (count c j) (count d i) (count d j) (count (max_cut c d) i) (count (max_cut c d) j) (count-max c d i) (count-max c d j)) h g;
    }

pub difference_signed : (r : Run) (sign : Bool) (p x q y : Name) (relation : Relation) (k : ℤ) (c : Cut) → DifferenceCompared r p x q y (after_sign sign relation) k c ↔ Signed r sign (Difference p x q y relation k) c
difference_signed r true p x q y relation k c = (λ h. h, λ h. h)
difference_signed r false p x q y relation k c =
    let n = difference_at r p x q y c in (
      λ h e. both_ways (compares relation n k) (not-true (compares relation n k) (sym (compares-turned relation n k) ∙ h)) e,
      λ h. compares-turned relation n k ∙ not_from_false (compares relation n k) (false_from_ne_true (compares relation n k) h),
    )

-- sets with the same members at consistent cuts are kept alike
keeps_same : (r : Run) → IsOrder r.clocks → (M N : Cut → Type 0) → ((c : Cut) → IsConsistent r.clocks c → M c ↔ N c) → Keeps r M → Keeps r N
keeps_same r order M N same k = record {
  has_min = λ c d l m h g. (same (min_cut c d) (min_consistent r.clocks order c d l m)).0 (k.has_min c d l m ((same c l).1 h) ((same d m).1 g));
  has_max = λ c d l m h g. (same (max_cut c d) (max_consistent r.clocks order c d l m)).0 (k.has_max c d l m ((same c l).1 h) ((same d m).1 g));
}

-- a channel comparison with its sign, in numbers
pub channel_signed : (r : Run) (sign : Bool) (p q : Name) (relation : Relation) (k : ℕ) (c : Cut) → Compared r p q (after_sign sign relation) k c ↔ Signed r sign (InTransit p q relation k) c
channel_signed r true p q relation k c = (from_holds relation (in_transit r (r.process p) (r.process q) c) k, holds_of relation (in_transit r (r.process p) (r.process q) c) k)
channel_signed r false p q relation k c =
    let n = in_transit r (r.process p) (r.process q) c in (
      λ h e. both_ways (compares relation (pos n) (pos k)) (not-true (compares relation (pos n) (pos k)) (sym (compares-turned relation (pos n) (pos k)) ∙ from_holds (turned relation) n k h)) e,
      λ h. holds_of (turned relation) n k (compares-turned relation (pos n) (pos k) ∙ not_from_false (compares relation (pos n) (pos k)) (false_from_ne_true (compares relation (pos n) (pos k)) h)),
    )

-- `empty` says at most 0, and its negation at least 1
abbrev pub empty_relation : Bool → Relation
empty_relation true = LessOrEqual
empty_relation false = GreaterOrEqual

abbrev pub empty_bound : Bool → ℕ
empty_bound true = 0
empty_bound false = 1

empty_one : (sign : Bool) → is_unequal (empty_relation sign) ≡ false
empty_one true = refl
empty_one false = refl

truth_local : (b : Bool) → is_local (Truth b) ≡ true
unfolding is_plain processes
truth_local b = refl

watch_local : (q watch : Name) → is_local (Watched q watch) ≡ true
unfolding is_plain processes
watch_local q watch = refl

pub empty_signed : (r : Run) (sign : Bool) (p q : Name) (c : Cut) → Compared r p q (empty_relation sign) (empty_bound sign) c ↔ Signed r sign (Empty p q) c
empty_signed r true p q c = (λ h. omega (arith, h), λ h. omega (arith, h))
empty_signed r false p q c = (λ h e. absurd (omega (arith, h, e)), λ h. elim (cases_lt 0 (in_transit r (r.process p) (r.process q) c)) [ inl l ↦ omega (arith, l) | inr g ↦ absurd (h (omega (arith, g))) ])

-- ---- conjunctions

abbrev pub SignedAll : Run → Bool → Formulas → Cut → Type 0
SignedAll r true fs c = SatAll r fs c
SignedAll r false fs c = SatSome r fs c → ⊥

keeps_none : (r : Run) (sign : Bool) → Keeps r (SignedAll r sign Nil)
keeps_none r true = record { has_min = λ c d k l h g. tt; has_max = λ c d k l h g. tt }
keeps_none r false = record { has_min = λ c d k l h g. h; has_max = λ c d k l h g. h }

keeps_more : (r : Run) (sign : Bool) (f : Formula) (fs : Formulas) → Keeps r (Signed r sign f) → Keeps r (SignedAll r sign fs) → Keeps r (SignedAll r sign (Cons f fs))
keeps_more r true f fs k l = record {
  has_min = λ c d m n h g. (k.has_min c d m n h.0 g.0, l.has_min c d m n h.1 g.1);
  has_max = λ c d m n h g. (k.has_max c d m n h.0 g.0, l.has_max c d m n h.1 g.1);
}
keeps_more r false f fs k l = record {
  has_min = λ c d m n h g w. elim w [
    | inl u ↦ k.has_min c d m n (λ x. h (inl x)) (λ x. g (inl x)) u
    | inr v ↦ l.has_min c d m n (λ x. h (inr x)) (λ x. g (inr x)) v
  ];
  has_max = λ c d m n h g w. elim w [
    | inl u ↦ k.has_max c d m n (λ x. h (inl x)) (λ x. g (inl x)) u
    | inr v ↦ l.has_max c d m n (λ x. h (inr x)) (λ x. g (inr x)) v
  ];
}

-- ---- negation

pub not_signed : (r : Run) → IsOrder r.clocks → (sign : Bool) (f : Formula) (c : Cut) → IsConsistent r.clocks c → Signed r (not sign) f c ↔ Signed r sign (Not f) c
not_signed r order true f c k = (λ h. h, λ h. h)
not_signed r order false f c k = (λ h n. n h, λ h. stable r order f c k h)

-- ---- operators

temporal_keeps : (r : Run) → IsOrder r.clocks → (operator : Operator) (f : Formula) → is_analysed operator ≡ true → Keeps r (Sat r f) → Keeps r (Sat r (Temporal operator f))
temporal_keeps r order Ef f one k = record {
  has_min = λ c d l m h g. some_time_min r.clocks order (Sat r f) c d l m h;
  has_max = λ c d l m h g. some_time_max r.clocks order (Sat r f) k.has_max c d l m h g;
}
temporal_keeps r order Ag f one k = record {
  has_min = λ c d l m h g. each_time_min r.clocks order (Sat r f) k.has_min c d l m h g;
  has_max = λ c d l m h g. each_time_max r.clocks order (Sat r f) c d l h;
}
temporal_keeps r order Eg f one k = record {
  has_min = λ c d l m h g. staying_min r.clocks order (Sat r f) k.has_min c d m h g;
  has_max = λ c d l m h g. staying_max r.clocks order (Sat r f) k.has_max c d m (all_first (Sat r f) d g.0 g.2) h;
}
temporal_keeps r order Af f one k = absurd (false≢true one)
temporal_keeps r order Ax f one k = absurd (false≢true one)

next_keeps : (r : Run) → IsOrder r.clocks → (process : Name) (f : Formula) → Keeps r (Sat r f) → Keeps r (Sat r (Next process f))
next_keeps r order process f k = record {
  has_min = λ c d l m h g. next_time_min r.clocks order (Sat r f) k.has_min c d l m (r.process process) h g;
  has_max = λ c d l m h g. next_time_max r.clocks order (Sat r f) k.has_max c d l m (r.process process) h g;
}

-- ---- together

mutual
  unfolding is_conjunctive all_conjunctive

  pub keeps : (r : Run) → IsRun r → (f : Formula) (sign : Bool) → is_conjunctive sign f ≡ true → IsKeptFor r f → Keeps r (Signed r sign f)
  keeps r run (Truth b) sign h kept = local_keeps r sign (Truth b) (truth_local b)
  keeps r run (Comparison q variable relation side) sign h kept = local_keeps r sign (Comparison q variable relation side) h
  keeps r run (Watched q watch) sign h kept = local_keeps r sign (Watched q watch) (watch_local q watch)
  keeps r run (InTransit p q relation k) sign h kept = keeps_same r run.order (Compared r p q (after_sign sign relation) k) (Signed r sign (InTransit p q relation k)) (λ c l. channel_signed r sign p q relation k c) (channel_keeps r run p q (after_sign sign relation) k (not-true (is_unequal (after_sign sign relation)) h))
  keeps r run (Empty p q) sign h kept = keeps_same r run.order (Compared r p q (empty_relation sign) (empty_bound sign)) (Signed r sign (Empty p q)) (λ c l. empty_signed r sign p q c) (channel_keeps r run p q (empty_relation sign) (empty_bound sign) (empty_one sign))
  keeps r run (Difference p x q y relation k) sign h kept =
      let both = and_parts (not (bytes_eq p q)) (not (is_unequal (after_sign sign relation))) h in
      keeps_same r run.order (DifferenceCompared r p x q y (after_sign sign relation) k) (Signed r sign (Difference p x q y relation k)) (λ c l. difference_signed r sign p x q y relation k c)
      (difference_keeps r p x q y kept.0 kept.1 (after_sign sign relation) k (not-true (is_unequal (after_sign sign relation)) both.1))
  keeps r run (Not f) sign h kept = elim (or_cases (is_local (Not f)) (is_conjunctive (not sign) f) h) [
    | inl l ↦ local_keeps r sign (Not f) l
    | inr g ↦ keeps_same r run.order (Signed r (not sign) f) (Signed r sign (Not f)) (not_signed r run.order sign f) (keeps r run f (not sign) g kept)
  ]
  keeps r run (And fs) true h kept = elim (or_cases (is_local (And fs)) (all_conjunctive true fs) h) [
    | inl l ↦ local_keeps r true (And fs) l
    | inr g ↦ keeps_all r run fs true g kept
  ]
  keeps r run (And fs) false h kept = local_keeps r false (And fs) h
  keeps r run (Or fs) true h kept = local_keeps r true (Or fs) h
  keeps r run (Or fs) false h kept = elim (or_cases (is_local (Or fs)) (all_conjunctive false fs) h) [
    | inl l ↦ local_keeps r false (Or fs) l
    | inr g ↦ keeps_all r run fs false g kept
  ]
  keeps r run (Temporal operator f) true h kept =
      let both = and_parts (is_analysed operator) (is_conjunctive true f) h in
      temporal_keeps r run.order operator f both.0 (keeps r run f true both.1 kept)
  keeps r run (Temporal operator f) false h kept = absurd (false≢true h)
  keeps r run (Next process f) true h kept = next_keeps r run.order process f (keeps r run f true h kept)
  keeps r run (Next process f) false h kept = absurd (false≢true h)
  keeps r run (Until all left right) sign h kept = absurd (false≢true h)

  keeps_all : (r : Run) → IsRun r → (fs : Formulas) (sign : Bool) → all_conjunctive sign fs ≡ true → AreKeptFor r fs → Keeps r (SignedAll r sign fs)
  keeps_all r run Nil sign h kept = keeps_none r sign
  keeps_all r run (Cons f fs) sign h kept =
      let both = and_parts (is_conjunctive sign f) (all_conjunctive sign fs) h in
      keeps_more r sign f fs (keeps r run f sign both.0 kept.0) (keeps_all r run fs sign both.1 kept.1)

-- the family of a regular formula is closed
pub regular_closed : (r : Run) → IsRun r → (f : Formula) → IsRegularIn r f → IsSublattice r.clocks (Family r f)
regular_closed r run f h =
    let k = keeps r run f true h.form h.kept in
    record {
      consistent = λ c m. m.0;
      has_min = λ c d m n. (min_consistent r.clocks run.order c d m.0 n.0, k.has_min c d m.0 n.0 m.1 n.1);
      has_max = λ c d m n. (max_consistent r.clocks run.order c d m.0 n.0, k.has_max c d m.0 n.0 m.1 n.1);
    }
