-- Numbers that flow on.
use Rattle.std.proofs.Common.{◌≡◌, ◌⊎◌, ℕ, zero, suc, ◌-◌, ◌<◌, ◌≤◌, List, [], ◌∷◌, ◌++◌, length, get_or, take, drop, append-nil, replicate, refl, sym, ap, ◌∙◌, subst, arith, inl, inr}
use Rattle.std.specs.List.{All, Contains}
use Rattle.std.specs.List.Sorted.{IsNonDecreasingBy, IsPermutation}
use Rattle.std.proofs.lemmas.Bool.{cases_eq}
use Rattle.std.proofs.lemmas.List.Sorted.{Contains-permutation, IsPermutation-sym}
use Rattle.std.proofs.lemmas.List.{get_or_default, take_all, drop_all}
use Rattle.std.proofs.lemmas.List.Elements.{Contains-get_or, Contains-append_left, Contains-push, Contains-push_cases}
use Rattle.greatest_reach.specs.declared.reach.Start.{Start}
use Rattle.greatest_reach.specs.Back.{Back, itself, further}
use Rattle.greatest_reach.specs.Graph.{IsGraph, Reads, Starts, AreGreatest}
use Rattle.greatest_reach.specs.inside.Flow.{AreMarked, IsUnderway, IsGrown}
use Rattle.greatest_reach.proofs.Marks.{is_there}
use Rattle.greatest_reach.proofs.Backs.{back_on}

pub back_first : {N : Type 0} (Link : N → N → Type 0) (x y z : N) → Link x y → Back Link y z → Back Link x z
back_first Link x y z l itself = further itself l
back_first Link x y z l (further {x = m} b k) = further (back_first Link x y m l b) k

none_in : (e : ℕ) → Contains {X = ℕ} [] e → ⊥
none_in e h = omega (arith, h.1)

-- ---- one number

-- what is on the stack is a node
pub stacked_there : (readers : List (List ℕ)) (value : ℕ) (values stack : List ℕ) → 0 < value → IsUnderway readers value values stack → (e : ℕ) → Contains stack e → e < length values
stacked_there readers value values stack some under e h = is_there values e (omega (arith, some, under.stacked e h))

-- a node leaves the stack, and its readers have the number
pub spread_on : (readers : List (List ℕ)) (value node : ℕ) (old new rest after : List ℕ) → 0 < value → IsUnderway readers value old (rest ++ node ∷ []) → AreMarked (get_or readers node []) value old new rest after
    → IsUnderway readers value new after
spread_on readers value node old new rest after some under m = record { width = m.width ∙ under.width; closed = closed; stacked = stacked; lower = lower }
  where
    lower : (e : ℕ) → (get_or new e 0 ≡ 0) ⊎ (value ≤ get_or new e 0)
    lower e = go (get_or new e 0) refl
      where
        go : (n : ℕ) → get_or new e 0 ≡ n → (get_or new e 0 ≡ 0) ⊎ (value ≤ get_or new e 0)
        go zero is = inl is
        go (suc n) is = elim (m.added e (omega (arith, is))) [
          | inl had ↦ elim (under.lower e) [ inl none ↦ absurd (omega (arith, had, none)) | inr low ↦ inr (omega (arith, low, m.kept e had)) ]
          | inr k ↦ inr (omega (arith, k.1))
        ]

    stacked : (f : ℕ) → Contains after f → get_or new f 0 ≡ value
    stacked f h = elim (m.stacked f h) [
      | inl was ↦
          let own = under.stacked f (Contains-append_left rest (node ∷ []) f was) in
          m.kept f (omega (arith, own, some)) ∙ own
      | inr is ↦ is
    ]

    raised : (e : ℕ) → get_or old e 0 ≤ get_or new e 0
    raised e = go (get_or old e 0) refl
      where
        go : (n : ℕ) → get_or old e 0 ≡ n → get_or old e 0 ≤ get_or new e 0
        go zero is = omega (arith, is)
        go (suc n) is = omega (arith, m.kept e (omega (arith, is)))

    closed : (f e : ℕ) → Reads readers e f → (get_or new f 0 ≤ get_or new e 0) ⊎ Contains after f
    closed f e reads = go (get_or new f 0) refl
      where
        had_number : 0 < get_or old f 0 → (get_or new f 0 ≤ get_or new e 0) ⊎ Contains after f
        had_number had = elim (under.closed f e reads) [
          | inl le ↦ inl (omega (arith, le, raised e, m.kept f had))
          | inr on ↦ elim (Contains-push_cases rest node f on) [
            | inl below ↦ inr (m.stays f below)
            | inr is ↦
                let got = m.all e (subst (λ (k : ℕ). Contains (get_or readers k []) e) (sym is) reads) in
                let own = under.stacked f on in
                inl (elim (lower e) [ inl none ↦ absurd (omega (arith, got, none)) | inr low ↦ omega (arith, low, own, m.kept f had) ])
          ]
        ]

        go : (n : ℕ) → get_or new f 0 ≡ n → (get_or new f 0 ≤ get_or new e 0) ⊎ Contains after f
        go zero is = inl (omega (arith, is))
        go (suc n) is = elim (m.added f (omega (arith, is))) [ inl had ↦ had_number had | inr k ↦ inr k.2 ]

pub grown_on : (readers : List (List ℕ)) (value node : ℕ) (first old new rest after : List ℕ) → 0 < value → IsUnderway readers value old (rest ++ node ∷ []) → AreMarked (get_or readers node []) value old new rest after
    → IsGrown readers value first old → IsGrown readers value first new
grown_on readers value node first old new rest after some under m grown = record {
  kept = λ e h. m.kept e (omega (arith, h, grown.kept e h)) ∙ grown.kept e h;
  added = added;
}
  where
    own : get_or old node 0 ≡ value
    own = under.stacked node (Contains-push rest node)

    -- the node itself looks back on one that had the number
    behind : (x : ℕ) × Back (Reads readers) node x × (get_or first x 0 ≡ value)
    behind = elim (grown.added node (omega (arith, own, some))) [
      | inl had ↦ (node, itself, sym (grown.kept node had) ∙ own)
      | inr k ↦ k.1
    ]

    added : (e : ℕ) → 0 < get_or new e 0 → (0 < get_or first e 0) ⊎ ((get_or new e 0 ≡ value) × ((x : ℕ) × Back (Reads readers) e x × (get_or first x 0 ≡ value)))
    added e h = elim (m.added e h) [
      | inl had ↦ elim (grown.added e had) [
        | inl was ↦ inl was
        | inr k ↦ inr (m.kept e had ∙ k.0, k.1)
      ]
      | inr k ↦ inr (k.1, (behind.0, back_first (Reads readers) e node behind.0 k.0 behind.1, behind.2))
    ]

-- ---- all numbers, the greatest first

-- the number that starts, and its node
abbrev pub start_at : List Start → ℕ → Start
start_at starts k = get_or starts k (record { value = 0; node = 0 })

-- the numbers from the i-th on have flowed
pub record AreSettled (readers : List (List ℕ)) (starts : List Start) (i : ℕ) (values : List ℕ) : Type 0 where
  pub width : length values ≡ length readers
  pub closed : (f e : ℕ) → Reads readers e f → get_or values f 0 ≤ get_or values e 0
  pub lower : (e k : ℕ) → k < i → (get_or values e 0 ≡ 0) ⊎ ((start_at starts k).value ≤ get_or values e 0)
  pub done : (k : ℕ) → i ≤ k → k < length starts → (start_at starts k).value ≤ get_or values (start_at starts k).node 0
  pub reached : (e : ℕ) → 0 < get_or values e 0 → (x : ℕ) × Back (Reads readers) e x × Starts starts x (get_or values e 0)

none : (n e : ℕ) → get_or {A = ℕ} (replicate n 0) e 0 ≡ 0
none zero e = refl
none (suc n) zero = refl
none (suc n) (suc e) = none n e

-- it has flowed
pub one_settled : (readers : List (List ℕ)) (starts : List Start) (i value node : ℕ) (old mid new after : List ℕ) → 0 < i → i ≤ length starts → 0 < value → IsNonDecreasingBy (λ (s : Start). s.value) starts
    → start_at starts (i - 1) ≡ record { value = value; node = node } → AreSettled readers starts i old → AreMarked (node ∷ []) value old mid [] after
    → IsUnderway readers value new [] → IsGrown readers value mid new → AreSettled readers starts (i - 1) new
one_settled readers starts i value node old mid new after first last some rising at s m under grown = record {
  width = under.width;
  closed = λ f e reads. elim (under.closed f e reads) [ inl le ↦ le | inr on ↦ absurd (none_in f on) ];
  lower = lower;
  done = done;
  reached = reached;
}
  where
    value_is : (start_at starts (i - 1)).value ≡ value
    value_is = ap (λ (x : Start). x.value) at

    lower : (e k : ℕ) → k < i - 1 → (get_or new e 0 ≡ 0) ⊎ ((start_at starts k).value ≤ get_or new e 0)
    lower e k lt = elim (under.lower e) [
      | inl z ↦ inl z
      | inr low ↦
          let up = rising k (i - 1) (record { value = 0; node = 0 }) (omega (arith, lt)) (omega (arith, first, last)) in
          inr (omega (arith, low, up, value_is))
    ]

    kept : (e : ℕ) → 0 < get_or old e 0 → get_or new e 0 ≡ get_or old e 0
    kept e h = grown.kept e (omega (arith, h, m.kept e h)) ∙ m.kept e h

    done : (k : ℕ) → i - 1 ≤ k → k < length starts → (start_at starts k).value ≤ get_or new (start_at starts k).node 0
    done k le lt = elim (cases_eq k (i - 1)) [
      | inl same ↦ subst (λ (n : ℕ). (start_at starts n).value ≤ get_or new (start_at starts n).node 0) (sym same) own
      | inr other ↦
          let was = s.done k (omega (arith, le, other, first)) lt in
          go (start_at starts k).value refl was
    ]
      where
        own : (start_at starts (i - 1)).value ≤ get_or new (start_at starts (i - 1)).node 0
        own =
            let got = m.all node (Contains-push [] node) in
            let there : 0 < get_or new node 0 = omega (arith, got, grown.kept node got) in
            let high : value ≤ get_or new node 0 = elim (under.lower node) [ inl z ↦ absurd (omega (arith, there, z)) | inr low ↦ low ] in
            subst (λ (x : Start). x.value ≤ get_or new x.node 0) (sym at) high

        go : (n : ℕ) → (start_at starts k).value ≡ n → (start_at starts k).value ≤ get_or old (start_at starts k).node 0 → (start_at starts k).value ≤ get_or new (start_at starts k).node 0
        go zero is was = omega (arith, is)
        go (suc n) is was = omega (arith, was, kept (start_at starts k).node (omega (arith, is, was)))

    here : Starts starts node value
    here = subst (Contains starts) at (Contains-get_or starts (i - 1) (record { value = 0; node = 0 }) (omega (arith, first, last)))

    -- of what has a number after the start
    mid_reached : (e : ℕ) → 0 < get_or mid e 0 → (x : ℕ) × Back (Reads readers) e x × Starts starts x (get_or mid e 0)
    mid_reached e some_ = elim (m.added e some_) [
      | inl had ↦
          let k = s.reached e had in
          (k.0, k.1, subst (Starts starts k.0) (sym (m.kept e had)) k.2)
      | inr k ↦
          let is : node ≡ e = elim (Contains-push_cases [] node e k.0) [ inl z ↦ absurd (none_in e z) | inr same ↦ same ] in
          (e, itself, subst (λ (n : ℕ). Starts starts n (get_or mid e 0)) is (subst (Starts starts node) (sym k.1) here))
    ]

    reached : (e : ℕ) → 0 < get_or new e 0 → (x : ℕ) × Back (Reads readers) e x × Starts starts x (get_or new e 0)
    reached e h = elim (grown.added e h) [
      | inl had ↦
          let k = mid_reached e had in
          (k.0, k.1, subst (Starts starts k.0) (sym (grown.kept e had)) k.2)
      | inr k ↦
          let x = k.1.0 in
          let b = mid_reached x (omega (arith, some, k.1.2)) in
          (b.0, back_on (Reads readers) e x b.0 k.1.1 b.1, subst (Starts starts b.0) (k.1.2 ∙ sym k.0) b.2)
    ]

-- ---- at the end

pub are_greatest : (readers : List (List ℕ)) (starts : List Start) (values : List ℕ) → AreSettled readers starts 0 values → AreGreatest readers starts values
are_greatest readers starts values s = record { width = s.width; each = λ e lt. record { above = above e; reached = reached e } }
  where
    falls : (e x : ℕ) → Back (Reads readers) e x → get_or values x 0 ≤ get_or values e 0
    falls e x itself = omega arith
    falls e x (further {x = m} b l) = omega (arith, falls e m b, s.closed x m l)

    above : (e x : ℕ) → Back (Reads readers) e x → (n : ℕ) → Starts starts x n → n ≤ get_or values e 0
    above e x b n there =
        let is : start_at starts there.0 ≡ record { value = n; node = x } = get_or_default starts there.0 _ _ there.1 ∙ there.2 in
        let own = s.done there.0 (omega arith) there.1 in
        let high : n ≤ get_or values x 0 = subst (λ (y : Start). y.value ≤ get_or values y.node 0) is own in
        omega (arith, high, falls e x b)

    reached : (e : ℕ) → (get_or values e 0 ≡ 0) ⊎ ((x : ℕ) × Back (Reads readers) e x × Starts starts x (get_or values e 0))
    reached e = go (get_or values e 0) refl
      where
        go : (n : ℕ) → get_or values e 0 ≡ n → (get_or values e 0 ≡ 0) ⊎ ((x : ℕ) × Back (Reads readers) e x × Starts starts x (get_or values e 0))
        go zero is = inl is
        go (suc n) is = inr (s.reached e (omega (arith, is)))

-- the order of the starts doesn't matter
pub any_order : (readers : List (List ℕ)) (starts sorted : List Start) (values : List ℕ) → IsPermutation starts sorted → AreGreatest readers sorted values → AreGreatest readers starts values
any_order readers starts sorted values same are = record {
  width = are.width;
  each = λ e lt.
      let is = are.each e lt in
      record {
        above = λ x b n there. is.above x b n (Contains-permutation starts sorted _ same there);
        reached = elim is.reached [
          | inl z ↦ inl z
          | inr k ↦ inr (k.0, k.1, Contains-permutation sorted starts _ (IsPermutation-sym starts sorted same) k.2)
        ];
      };
}

-- ---- the node that leaves the stack

pub top_there : (readers : List (List ℕ)) (value node : ℕ) (values rest : List ℕ) → 0 < value → IsUnderway readers value values (rest ++ node ∷ []) → node < length readers
top_there readers value node values rest some under =
    omega (arith, stacked_there readers value values (rest ++ node ∷ []) some under node (Contains-push rest node), under.width)

pub row_is : (readers : List (List ℕ)) (value node : ℕ) (values rest row : List ℕ) → 0 < value → IsUnderway readers value values (rest ++ node ∷ []) → get_or readers node row ≡ get_or readers node []
row_is readers value node values rest row some under = get_or_default readers node row [] (top_there readers value node values rest some under)

pub readers_there : (readers : List (List ℕ)) (value node : ℕ) (values rest row : List ℕ) → 0 < value → IsUnderway readers value values (rest ++ node ∷ []) → IsGraph readers → row ≡ get_or readers node [] → All (λ e. e < length values) row
readers_there readers value node values rest row some under graph is = λ k d lt.
    let own = graph node [] (top_there readers value node values rest some under) k d (omega (arith, lt, ap length is)) in
    omega (arith, own, under.width, ap (λ (xs : List ℕ). get_or xs k d) is)

-- what a slice of all items gives back
pub whole : (n : ℕ) (new old : List ℕ) → length new ≡ length old → n ≡ length old → take n (new ++ drop (length new) old) ≡ new
whole n new old same is =
    ap (λ (xs : List ℕ). take n (new ++ xs)) (drop_all (length new) old (omega (arith, same))) ∙ ap (take n) (append-nil new) ∙ take_all n new (omega (arith, same, is))
