-- What holds of the columns as events are taken one by one, and why one may always be taken.
use Rattle.std.proofs.Common.{◌≡◌, ℕ, zero, suc, ◌+◌, ◌-◌, ◌<◌, ◌≤◌, Bool, true, false, List, [], ◌∷◌, ◌++◌, length, refl, sym, ap, subst, ◌∙◌, arith, inl, inr, eq-eqb}
use Rattle.std.specs.Prelude.{◌⊎◌, get_or, set, replicate, sum, max}
use Rattle.std.proofs.lemmas.Bool.{cases_Bool, cases_eq, cases_lt, ne_eqb}
use Rattle.std.proofs.lemmas.List.{get_or-set_same, get_or-set_other, get_or_append_left, get_or_push, get_or_past, length_push, length-set, get_or-replicate, length-replicate}
use Rattle.std.proofs.lemmas.List.Sums.{sum_by-cons}
use Rattle.run_model.specs.Cut.{Cut, Clocks, count, IsWithin, lengths, initial, with_next}
use Rattle.run_model.specs.Consistent.{clock, IsEvent, IsOrder, IsConsistent, HappenedBefore}
use Rattle.run_model.proofs.Counts.{count_past, within_both, total, total_within, total_next, length-lengths, count-initial, search_below, with_next_same, with_next_other}
use Rattle.run_model.proofs.Orders.{initial_consistent, final_consistent, has_past, has_process, earlier_happened_before}
use Rattle.meaning_laws.proofs.Climb.{next_exists}
use Rattle.meaning_laws.proofs.OperatorLemmas.{Below, below_climbable, below_apart}
use Rattle.causal_order.proofs.Orders.{is_before, next_others}
use Rattle.pota_base.specs.declared.shape.EventId.{EventId}
use Rattle.view_parts.specs.Parts.{place}
use Rattle.view_picture.specs.Columns.{Rows, column, HasBefore, AreColumns}
use Rattle.view_picture.specs.Ties.{known}
use Rattle.view_picture.specs.inside.Placing.{MayTake, greatest_below, greatest_before, column_due, HavePlaces}

-- ---- the greatest of some numbers

pub greatest_same : (f g : ℕ → ℕ) (n : ℕ) → ((k : ℕ) → k < n → f k ≡ g k) → greatest_below f n ≡ greatest_below g n
unfolding greatest_below
greatest_same f g zero same = refl
greatest_same f g (suc n) same =
    let before = greatest_same f g n (λ k lt. same k (omega (arith, lt))) in
    let last = same n (omega arith) in
    omega (arith, before, last)

pub greatest_above : (f : ℕ → ℕ) (n k : ℕ) → k < n → f k ≤ greatest_below f n
unfolding greatest_below
greatest_above f zero k lt = absurd (omega (arith, lt))
greatest_above f (suc n) k lt = elim (cases_eq k n) [
  | inl same ↦ subst (λ (j : ℕ). f j ≤ max (greatest_below f n) (f n)) (sym same) (omega arith)
  | inr other ↦ let more = greatest_above f n k (omega (arith, lt, other)) in omega (arith, more)
]

pub greatest_within : (f : ℕ → ℕ) (n most : ℕ) → ((k : ℕ) → k < n → f k ≤ most) → greatest_below f n ≤ most
unfolding greatest_below
greatest_within f zero most each = omega arith
greatest_within f (suc n) most each =
    let before = greatest_within f n most (λ k lt. each k (omega (arith, lt))) in
    let last = each n (omega arith) in
    omega (arith, before, last)

pub greatest_is : (f : ℕ → ℕ) (n : ℕ) → (greatest_below f n ≡ 0) ⊎ ((k : ℕ) × (k < n) × (f k ≡ greatest_below f n))
unfolding greatest_below
greatest_is f zero = inl refl
greatest_is f (suc n) = elim (cases_lt (greatest_below f n) (f n)) [
  | inl lt ↦ inr (n, omega arith, omega (arith, lt))
  | inr ge ↦ elim (greatest_is f n) [
    | inl none ↦ inl (omega (arith, none, ge))
    | inr w ↦ inr (w.0, omega (arith, w.1), omega (arith, w.2, ge))
  ]
]

-- ---- what is known of an event

pub known_own : (o : Clocks) (i a : ℕ) → known o (place i a) i ≡ a - 1
known_own o i a = rw (eq-eqb i i refl) refl

pub known_other : (o : Clocks) (i a j : ℕ) → (j ≡ i → ⊥) → known o (place i a) j ≡ count (clock o i a) j
known_other o i a j ne = rw (ne_eqb j i ne) refl

next_known : (o : Clocks) (c : Cut) (p : ℕ) → p < length c → MayTake o c p → (j : ℕ) → known o (place p (count c p + 1)) j ≤ count c j
next_known o c p there may j = elim (cases_eq j p) [
  | inl same ↦ subst (λ (k : ℕ). known o (place p (count c p + 1)) k ≤ count c k) (sym same) (omega (arith, known_own o p (count c p + 1)))
  | inr other ↦ omega (arith, known_other o p (count c p + 1) j other, next_others o c p there may.1 j other)
]

pub known_within : (o : Clocks) → IsOrder o → (c : Cut) → IsConsistent o c → (i a : ℕ) → IsEvent c i a → (j : ℕ) → known o (place i a) j ≤ count c j
known_within o order c consistent i a ev j = elim (cases_eq j i) [
  | inl same ↦ subst (λ (k : ℕ). known o (place i a) k ≤ count c k) (sym same) (omega (arith, known_own o i a, ev.1))
  | inr other ↦ omega (arith, known_other o i a j other, has_past o order c consistent i a ev j)
]

-- what happened before an event is known of it
pub before_is_known : (o : Clocks) → IsOrder o → (i a j b : ℕ) → HappenedBefore o i a j b → a ≤ known o (place j b) i
before_is_known o order i a j b h = elim (cases_eq i j) [
  | inl same ↦
      let own : count (clock o j b) i ≡ b = subst (λ (k : ℕ). count (clock o j b) k ≡ b) (sym same) (order.own j b h.second) in
      let other : a ≡ b → ⊥ = λ e. h.differs (same, e) in
      subst (λ (k : ℕ). a ≤ known o (place j b) k) (sym same) (omega (arith, known_own o j b, h.in_past.1, own, other))
  | inr ne ↦ omega (arith, known_other o j b i ne, h.in_past.1)
]

-- and what is known of it happened before it
pub known_is_before : (o : Clocks) → IsOrder o → (i a j b : ℕ) → IsEvent (lengths o) i a → IsEvent (lengths o) j b → a ≤ known o (place j b) i → HappenedBefore o i a j b
known_is_before o order i a j b first second le = elim (cases_eq i j) [
  | inl same ↦
      let le_own : a ≤ known o (place j b) j = subst (λ (k : ℕ). a ≤ known o (place j b) k) same le in
      subst (λ (k : ℕ). HappenedBefore o k a j b) (sym same) (earlier_happened_before o order j a b second first.0 (omega (arith, le_own, known_own o j b, second.0)))
  | inr ne ↦ is_before o i a j b first second (omega (arith, le, known_other o j b i ne)) (λ e. ne e.0)
]

-- ---- which column is due

due_shown : (o : Clocks) (shown : EventId → Bool) (rows : Rows) (e : EventId) → shown e ≡ true → column_due o shown rows e ≡ greatest_before o rows e + 1
due_shown o shown rows e h = rw h refl

due_other : (o : Clocks) (shown : EventId → Bool) (rows : Rows) (e : EventId) → shown e ≡ false → column_due o shown rows e ≡ column rows e.process (e.position - 1)
due_other o shown rows e h = rw h refl

due_same : (o : Clocks) (shown : EventId → Bool) (rows new : Rows) (e : EventId) → ((j : ℕ) → column new j (known o e j) ≡ column rows j (known o e j)) → column new e.process (e.position - 1) ≡ column rows e.process (e.position - 1)
    → column_due o shown new e ≡ column_due o shown rows e
due_same o shown rows new e each own = elim (cases_Bool (shown e)) [
  | inl shows ↦
      due_shown o shown new e shows ∙ ap (λ (n : ℕ). n + 1) (greatest_same (λ j. column new j (known o e j)) (λ j. column rows j (known o e j)) (length o) (λ j lt. each j)) ∙ sym (due_shown o shown rows e shows)
  | inr hides ↦ due_other o shown new e hides ∙ own ∙ sym (due_other o shown rows e hides)
]

-- ---- sums

pub total_is_sum : (c : Cut) → total c ≡ sum c
unfolding total
total_is_sum [] = refl
total_is_sum (x ∷ c) = ap (λ (n : ℕ). x + n) (total_is_sum c) ∙ sym (sum_by-cons (λ n. n) x c)

pub sum_next : (c : Cut) (p : ℕ) → p < length c → sum (with_next c p) ≡ sum c + 1
sum_next c p there = omega (arith, total_is_sum c, total_is_sum (with_next c p), total_next c p there)

pub sum_within : (c d : Cut) → IsWithin c d → sum c ≤ sum d
sum_within c d within = omega (arith, total_is_sum c, total_is_sum d, total_within c d within)

-- ---- before the first event

zeros : (o : Clocks) (c : Cut) (n : ℕ) → n ≡ length o → c ≡ replicate n 0 → c ≡ initial o
unfolding initial
zeros o c n same c_is = c_is ∙ ap (λ (k : ℕ). replicate k 0) same

abbrev opening_row : List ℕ
opening_row = 0 ∷ []

zero_row : (row : List ℕ) (a : ℕ) → row ≡ 0 ∷ [] → get_or row a 0 ≡ 0
zero_row row zero e = ap (λ (r : List ℕ). get_or r zero 0) e
zero_row row (suc a) e = ap (λ (r : List ℕ). get_or r (suc a) 0) e

pub placed_first : (o : Clocks) (shown : EventId → Bool) (c : Cut) (rows : Rows) (n : ℕ) → n ≡ length o → c ≡ replicate n 0 → rows ≡ replicate n (0 ∷ []) → HavePlaces o shown c rows
placed_first o shown c rows n same c_is rows_is = record {
  procs = ap length rows_is ∙ length-replicate n opening_row ∙ same;
  consistent = subst (IsConsistent o) (sym initial_is) (initial_consistent o);
  widths = λ p lt. ap length (row p (omega (arith, same, lt))) ∙ omega (arith, none p);
  opening = λ p. opened p 0;
  each = λ i a ev. absurd (omega (arith, ev.0, ev.1, none i));
  few = λ i a le. omega (arith, opened i a);
}
  where
    initial_is : c ≡ initial o
    initial_is = zeros o c n same c_is

    none : (p : ℕ) → count c p ≡ 0
    none p = ap (λ (d : Cut). count d p) initial_is ∙ count-initial o p

    row : (p : ℕ) → p < n → get_or rows p [] ≡ 0 ∷ []
    row p lt = ap (λ (r : Rows). get_or r p []) rows_is ∙ get_or-replicate n p (0 ∷ []) [] lt

    opened : (p a : ℕ) → column rows p a ≡ 0
    opened p a = elim (cases_lt p n) [
      | inl lt ↦ zero_row (get_or rows p []) a (row p lt)
      | inr ge ↦ ap (λ (r : List ℕ). get_or r a 0) (get_or_past rows p [] (omega (arith, ap length rows_is, length-replicate n opening_row, ge)))
    ]

-- ---- one event more

-- the greatest column of what happened before the next event is no more than there are events
pub next_few : (o : Clocks) (shown : EventId → Bool) (c : Cut) (rows : Rows) (p : ℕ) → HavePlaces o shown c rows → p < length o → MayTake o c p → greatest_before o rows (place p (count c p + 1)) ≤ sum c
next_few o shown c rows p h there may =
    greatest_within (λ j. column rows j (known o (place p (count c p + 1)) j)) (length o) (sum c)
    (λ j lt. h.few j (known o (place p (count c p + 1)) j) (next_known o c p (omega (arith, there, h.consistent.shaped)) may j))

due_few : (o : Clocks) (shown : EventId → Bool) (c : Cut) (rows : Rows) (p : ℕ) → HavePlaces o shown c rows → p < length o → MayTake o c p → column_due o shown rows (place p (count c p + 1)) ≤ sum c + 1
due_few o shown c rows p h there may = elim (cases_Bool (shown (place p (count c p + 1)))) [
  | inl shows ↦ omega (arith, due_shown o shown rows (place p (count c p + 1)) shows, next_few o shown c rows p h there may)
  | inr hides ↦ omega (arith, due_other o shown rows (place p (count c p + 1)) hides, h.few p (count c p + 1 - 1) (omega arith))
]

next_placed : (o : Clocks) (shown : EventId → Bool) (c : Cut) (rows : Rows) (p v : ℕ) → IsOrder o → HavePlaces o shown c rows → p < length o → MayTake o c p → v ≡ column_due o shown rows (place p (count c p + 1))
    → HavePlaces o shown (with_next c p) (set rows p (get_or rows p [] ++ v ∷ []))
next_placed o shown c rows p v order h there may v_is = record {
  procs = length-set rows p (get_or rows p [] ++ v ∷ []) ∙ h.procs;
  consistent = may.1;
  widths = λ q lt. elim (cases_eq q p) [
    | inl same ↦ subst (λ (k : ℕ). length (get_or new k []) ≡ count (with_next c p) k + 1) (sym same) (omega (arith, ap length row_new, length_push (get_or rows p []) v, h.widths p there, with_next_same c p in_cut))
    | inr other ↦ omega (arith, ap length (row_other q other), h.widths q lt, with_next_other c p q other)
  ];
  opening = λ q. stays q 0 (omega arith) ∙ h.opening q;
  each = λ i a ev. elim (in_next i a ev) [
    | inl old ↦
        stays i a old.1 ∙ h.each i a old ∙ sym (due_same o shown rows new (place i a) (λ j. stays j (known o (place i a) j) (known_within o order c h.consistent i a old j)) (stays i (a - 1) (omega (arith, old.1))))
    | inr t ↦ subst (λ (k : ℕ). column new k a ≡ column_due o shown new (place k a)) (sym t.0) (subst (λ (b : ℕ). column new p b ≡ column_due o shown new (place p b)) (sym t.1) at_next)
  ];
  few = λ i a le. elim (cases_eq a 0) [
    | inl none ↦ subst (λ (b : ℕ). column new i b ≤ sum (with_next c p)) (sym none) (omega (arith, stays i 0 (omega arith), h.opening i))
    | inr some ↦ elim (in_next i a (omega (arith, some), le)) [
      | inl old ↦ omega (arith, stays i a old.1, h.few i a old.1, sum_next c p in_cut)
      | inr t ↦ subst (λ (k : ℕ). column new k a ≤ sum (with_next c p)) (sym t.0) (subst (λ (b : ℕ). column new p b ≤ sum (with_next c p)) (sym t.1)
          (omega (arith, new_at, v_is, due_few o shown c rows p h there may, sum_next c p in_cut)))
    ]
  ];
}
  where
    new : Rows
    new = set rows p (get_or rows p [] ++ v ∷ [])

    in_cut : p < length c
    in_cut = omega (arith, there, h.consistent.shaped)

    row_new : get_or new p [] ≡ get_or rows p [] ++ v ∷ []
    row_new = get_or-set_same rows p (get_or rows p [] ++ v ∷ []) [] (omega (arith, there, h.procs))

    row_other : (q : ℕ) → (q ≡ p → ⊥) → get_or new q [] ≡ get_or rows q []
    row_other q ne = get_or-set_other rows p q (get_or rows p [] ++ v ∷ []) [] ne

    stays_own : (b : ℕ) → b ≤ count c p → column new p b ≡ column rows p b
    stays_own b le = ap (λ (row : List ℕ). get_or row b 0) row_new ∙ get_or_append_left (get_or rows p []) (v ∷ []) 0 b (omega (arith, le, h.widths p there))

    stays : (q b : ℕ) → b ≤ count c q → column new q b ≡ column rows q b
    stays q b le = elim (cases_eq q p) [
      | inl same ↦ subst (λ (k : ℕ). column new k b ≡ column rows k b) (sym same) (stays_own b (subst (λ (k : ℕ). b ≤ count c k) same le))
      | inr other ↦ ap (λ (row : List ℕ). get_or row b 0) (row_other q other)
    ]

    new_at : column new p (count c p + 1) ≡ v
    new_at = ap (λ (row : List ℕ). get_or row (count c p + 1) 0) row_new ∙ get_or_push (get_or rows p []) v 0 (count c p + 1) (h.widths p there)

    at_next : column new p (count c p + 1) ≡ column_due o shown new (place p (count c p + 1))
    at_next =
        new_at ∙ v_is ∙ sym (due_same o shown rows new (place p (count c p + 1)) (λ j. stays j (known o (place p (count c p + 1)) j) (next_known o c p in_cut may j))
        (stays p (count c p + 1 - 1) (omega arith)))

    in_next : (i a : ℕ) → IsEvent (with_next c p) i a → IsEvent c i a ⊎ ((i ≡ p) × (a ≡ count c p + 1))
    in_next i a ev = elim (cases_eq i p) [
      | inl same ↦ elim (cases_eq a (count c p + 1)) [
        | inl last ↦ inr (same, last)
        | inr before ↦
            let le : a ≤ count (with_next c p) p = subst (λ (k : ℕ). a ≤ count (with_next c p) k) same ev.1 in
            inl (ev.0, subst (λ (k : ℕ). a ≤ count c k) (sym same) (omega (arith, le, before, with_next_same c p in_cut)))
      ]
      | inr other ↦ inl (ev.0, omega (arith, ev.1, with_next_other c p i other))
    ]

pub taken : (o : Clocks) (shown : EventId → Bool) (c d : Cut) (rows new : Rows) (p v : ℕ) → IsOrder o → HavePlaces o shown c rows → p < length o → MayTake o c p → v ≡ column_due o shown rows (place p (count c p + 1)) → d ≡ with_next c p
    → new ≡ set rows p (get_or rows p [] ++ v ∷ []) → HavePlaces o shown d new × (sum c < sum d)
taken o shown c d rows new p v order h there may v_is d_is new_is = (
  subst (λ (x : Cut). HavePlaces o shown x new) (sym d_is) (subst (λ (x : Rows). HavePlaces o shown (with_next c p) x) (sym new_is) (next_placed o shown c rows p v order h there may v_is)),
  omega (arith, ap sum d_is, sum_next c p (omega (arith, there, h.consistent.shaped))),
)

-- ---- one may always be taken

-- some process of a cut may go on
abbrev pub GoesOn : Clocks → Cut → Type 0
GoesOn o c = (p : ℕ) × (p < length o) × MayTake o c p

-- a consistent cut that isn't the final one goes on
pub goes_on : (o : Clocks) (c : Cut) → IsOrder o → IsConsistent o c → (c ≡ lengths o → ⊥) → GoesOn o c
goes_on o c order consistent not_final = elim (search_below (λ j. count c j < count (lengths o) j) (λ j. count (lengths o) j ≤ count c j) (λ j. cases_lt (count c j) (count (lengths o) j)) (length o)) [
  | inl w ↦ one w.0 w.2
  | inr all ↦ absurd (not_final (within_both c (lengths o) (consistent.shaped ∙ sym (length-lengths o)) consistent.within (λ j. elim (cases_lt j (length o)) [
    | inl lt ↦ all j lt
    | inr ge ↦ omega (arith, count_past (lengths o) j (omega (arith, length-lengths o)))
  ])))
]
  where
    final : IsConsistent o (lengths o)
    final = final_consistent o order

    one : (j : ℕ) → count c j < count (lengths o) j → GoesOn o c
    one j lacks =
        let n = next_exists o (Below o (lengths o)) (lengths o) (clock o) (below_climbable o order (lengths o) final) c (consistent, consistent.within) (below_apart o order c (lengths o) final) j lacks in
        (n.0, omega (arith, n.1, consistent.shaped), (n.2, n.3.0))

-- ---- behind the last event

-- the columns of a process never fall, and rise at a shown event
rising : (o : Clocks) (shown : EventId → Bool) (rows : Rows) → IsOrder o → HavePlaces o shown (lengths o) rows → (i b : ℕ) → IsEvent (lengths o) i b → (column rows i (b - 1) ≤ column rows i b) × (shown (place i b) ≡ true → column rows i (b - 1) < column rows i b)
rising o shown rows order h i b ev = (
  elim (cases_Bool (shown (place i b))) [
    | inl shows ↦ omega (arith, above shows)
    | inr hides ↦ omega (arith, h.each i b ev, due_other o shown rows (place i b) hides)
  ],
  above,
)
  where
    there : i < length o
    there = omega (arith, has_process (lengths o) i b ev, length-lengths o)

    above : shown (place i b) ≡ true → column rows i (b - 1) < column rows i b
    above shows =
        let le = greatest_above (λ j. column rows j (known o (place i b) j)) (length o) i there in
        omega (arith, le, ap (column rows i) (known_own o i b), h.each i b ev, due_shown o shown rows (place i b) shows)

rises : (o : Clocks) (shown : EventId → Bool) (rows : Rows) → IsOrder o → HavePlaces o shown (lengths o) rows → (i a b : ℕ) → a ≤ b → b ≤ count (lengths o) i → column rows i a ≤ column rows i b
rises o shown rows order h i a zero le end =
    let none : zero ≡ a = omega (arith, le) in
    subst (λ (n : ℕ). column rows i n ≤ column rows i zero) none (omega arith)
rises o shown rows order h i a (suc b) le end = elim (cases_eq a (suc b)) [
  | inl same ↦ subst (λ (n : ℕ). column rows i n ≤ column rows i (suc b)) (sym same) (omega arith)
  | inr other ↦
      let before : suc b - 1 ≡ b = omega arith in
      let next = (rising o shown rows order h i (suc b) (omega arith, end)).0 in
      omega (arith, rises o shown rows order h i a b (omega (arith, le, other)) (omega (arith, end)), next, ap (column rows i) before)
]

above_before : (o : Clocks) (shown : EventId → Bool) (rows : Rows) → IsOrder o → HavePlaces o shown (lengths o) rows → (i a j b : ℕ) → shown (place j b) ≡ true → HappenedBefore o i a j b → column rows i a < column rows j b
above_before o shown rows order h i a j b shows before =
    let there : i < length o = omega (arith, has_process (lengths o) i a before.first, length-lengths o) in
    let le = greatest_above (λ k. column rows k (known o (place j b) k)) (length o) i there in
    let rose = rises o shown rows order h i a (known o (place j b) i) (before_is_known o order i a j b before) (known_within o order (lengths o) (final_consistent o order) j b before.second i) in
    omega (arith, le, rose, h.each j b before.second, due_shown o shown rows (place j b) shows)

-- the last shown event among the first ones of a process, which has their column
record HasLastShown (o : Clocks) (shown : EventId → Bool) (rows : Rows) (j n : ℕ) : Type 0 where
  position : ℕ
  some : 0 < position
  within : position ≤ n
  is_shown : shown (place j position) ≡ true
  same : column rows j position ≡ column rows j n

last_shown_is : (o : Clocks) (shown : EventId → Bool) (rows : Rows) → HavePlaces o shown (lengths o) rows → (j n : ℕ) → n ≤ count (lengths o) j → (column rows j n ≡ 0) ⊎ HasLastShown o shown rows j n
last_shown_is o shown rows h j zero le = inl (h.opening j)
last_shown_is o shown rows h j (suc n) le = elim (cases_Bool (shown (place j (suc n)))) [
  | inl shows ↦ inr (record { position = suc n; some = omega arith; within = omega arith; is_shown = shows; same = refl })
  | inr hides ↦
      let before : suc n - 1 ≡ n = omega arith in
      let same : column rows j (suc n) ≡ column rows j n = h.each j (suc n) (omega arith, le) ∙ due_other o shown rows (place j (suc n)) hides ∙ ap (column rows j) before in
      elim (last_shown_is o shown rows h j n (omega (arith, le))) [
        | inl none ↦ inl (same ∙ none)
        | inr w ↦ inr (record { position = w.position; some = w.some; within = omega (arith, w.within); is_shown = w.is_shown; same = w.same ∙ sym same })
      ]
]

right_behind : (o : Clocks) (shown : EventId → Bool) (rows : Rows) → IsOrder o → HavePlaces o shown (lengths o) rows → (i a : ℕ) → shown (place i a) ≡ true → IsEvent (lengths o) i a → (column rows i a ≡ 1) ⊎ HasBefore o shown rows i a
right_behind o shown rows order h i a shows ev = elim (greatest_is (λ j. column rows j (known o (place i a) j)) (length o)) [
  | inl none ↦ inl (omega (arith, none, is))
  | inr w ↦ elim (last_shown_is o shown rows h w.0 (known o (place i a) w.0) (within w.0)) [
    | inl none ↦ inl (omega (arith, none, w.2, is))
    | inr last ↦
        let first : IsEvent (lengths o) w.0 last.position = (last.some, omega (arith, last.within, within w.0)) in
        inr (record {
          process = w.0;
          position = last.position;
          before = known_is_before o order w.0 last.position i a first ev last.within;
          is_shown = last.is_shown;
          next_to = omega (arith, is, w.2, last.same);
        })
  ]
]
  where
    is : column rows i a ≡ greatest_before o rows (place i a) + 1
    is = h.each i a ev ∙ due_shown o shown rows (place i a) shows

    within : (j : ℕ) → known o (place i a) j ≤ count (lengths o) j
    within j = known_within o order (lengths o) (final_consistent o order) i a ev j

all_placed : (o : Clocks) (shown : EventId → Bool) (rows : Rows) → IsOrder o → HavePlaces o shown (lengths o) rows → AreColumns o shown rows
all_placed o shown rows order h = record {
  before = above_before o shown rows order h;
  tight = right_behind o shown rows order h;
  carried = λ i a hides ev.
      let before : a + 1 - 1 ≡ a = omega arith in
      h.each i (a + 1) ev ∙ due_other o shown rows (place i (a + 1)) hides ∙ ap (column rows i) before;
  opening = h.opening;
  widths = h.widths;
  procs = h.procs;
}

pub placed_all : (o : Clocks) (shown : EventId → Bool) (c : Cut) (rows : Rows) → IsOrder o → c ≡ lengths o → HavePlaces o shown c rows → AreColumns o shown rows
placed_all o shown c rows order is h = all_placed o shown rows order (subst (λ (d : Cut). HavePlaces o shown d rows) is h)
