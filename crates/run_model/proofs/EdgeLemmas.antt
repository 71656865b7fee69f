-- Least cut, greatest cut and edges denote the cuts of a slice.
use Rattle.std.proofs.Common.{sym, ◌≡◌, ℕ, zero, suc, ◌+◌, ◌<◌, ◌≤◌, ◌↔◌, Bool, true, ltb, ◌&&◌, List, [], ◌∷◌, ◌++◌, length, flat_map, All, Option, Some, None, subst, inl, inr, arith, le_refl, le_trans}
use Rattle.std.specs.List.{range_with_len}
use Rattle.std.proofs.lemmas.Bool.{cases_lt, cond_both, ltb-true, lt-ltb, and_parts, and_from, cond-true}
use Rattle.std.proofs.lemmas.List.Elements.{All-nil, All-cons, All-head, All-tail, All-append}
use Rattle.run_model.specs.Cut.{Cut, Clocks, count, IsWithin}
use Rattle.run_model.specs.Consistent.{clock, IsEvent, IsOrder, IsConsistent}
use Rattle.run_model.specs.Sublattice.{IsSublattice, IsLeast, IsGreatest}
use Rattle.run_model.specs.Slice.{Slice, HasWithin, Cuts, StandsFor, IsPrintedAs, Edge, Keeps, Denoted, cut_of, previous, edge_into, edges_of}
use Rattle.run_model.proofs.Counts.{count_past}
use Rattle.run_model.proofs.Orders.{has_process, event_up, has_past}
use Rattle.run_model.proofs.SliceLemmas.{has_within_up, exact_slice, cuts_member, member_cuts}

-- ---- what holds of each item of a list of lists

pub all_left : {X : Type 0} (P : X → Type 0) (xs ys : List X) → All P (xs ++ ys) → All P xs
all_left P [] ys h = All-nil P
all_left P (x ∷ xs) ys h = All-cons P x xs (All-head P x (xs ++ ys) h) (all_left P xs ys (All-tail P x (xs ++ ys) h))

pub all_right : {X : Type 0} (P : X → Type 0) (xs ys : List X) → All P (xs ++ ys) → All P ys
all_right P [] ys h = h
all_right P (x ∷ xs) ys h = all_right P xs ys (All-tail P x (xs ++ ys) h)

pub all_flat : {X : Type 0} (P : X → Type 0) (f : ℕ → List X) (a n : ℕ) → ((k : ℕ) → a ≤ k → k < a + n → All P (f k)) → All P (flat_map f (range_with_len a n))
all_flat P f a zero h = All-nil P
all_flat P f a (suc n) h = All-append P (f a) (flat_map f (range_with_len (a + 1) n)) (h a (le_refl a) (omega arith)) (all_flat P f (a + 1) n (λ k l m. h k (omega (arith, l)) (omega (arith, m))))

pub all_flat_at : {X : Type 0} (P : X → Type 0) (f : ℕ → List X) (a n k : ℕ) → a ≤ k → k < a + n → All P (flat_map f (range_with_len a n)) → All P (f k)
all_flat_at P f a zero k l m h = absurd (omega (arith, l, m))
all_flat_at P f a (suc n) k l m h = elim (cases_lt a k) [
  | inl later ↦ all_flat_at P f (a + 1) n k (omega (arith, later)) (omega (arith, m)) (all_right P (f a) (flat_map f (range_with_len (a + 1) n)) h)
  | inr now ↦ subst (λ x. All P (f x)) (omega (arith, l, now)) (all_left P (f a) (flat_map f (range_with_len (a + 1) n)) h)
]

-- ---- edges one by one

-- an edge of the slice within its greatest cut
pub record IsEdge (o : Clocks) (s : Slice) (high : Cut) (p a q : ℕ) : Type 0 where
  pub there : IsEvent high p a
  pub more : count (cut_of (previous s p a)) q < count (cut_of (s.row p a)) q
  pub new : count (clock o p a) q < count (cut_of (s.row p a)) q

abbrev KeepsAt : Slice → Cut → ℕ → ℕ → ℕ → Type 0
KeepsAt s c p a q = a ≤ count c p → count (cut_of (s.row p a)) q ≤ count c q

abbrev is_edge : Clocks → Slice → ℕ → ℕ → ℕ → Bool
is_edge o s p a q = ltb (count (cut_of (previous s p a)) q) (count (cut_of (s.row p a)) q) && ltb (count (clock o p a) q) (count (cut_of (s.row p a)) q)

abbrev the_edge : Slice → ℕ → ℕ → ℕ → Edge
the_edge s p a q = record { cause = q; cause_position = count (cut_of (s.row p a)) q; effect = p; effect_position = a }

listed_one : (o : Clocks) (s : Slice) (c : Cut) (p a q : ℕ) → ((is_edge o s p a q ≡ true) → KeepsAt s c p a q) → All (Keeps c) (edge_into o s p a q)
listed_one o s c p a q h = cond_both (is_edge o s p a q) (the_edge s p a q ∷ []) [] (All (Keeps c))
    (λ t. All-cons (Keeps c) (the_edge s p a q) [] (h t) (All-nil (Keeps c)))
    (λ f. All-nil (Keeps c))

unlisted_one : (o : Clocks) (s : Slice) (c : Cut) (p a q : ℕ) → is_edge o s p a q ≡ true → All (Keeps c) (edge_into o s p a q) → KeepsAt s c p a q
unlisted_one o s c p a q t h = All-head (Keeps c) (the_edge s p a q) [] (subst (All (Keeps c)) (cond-true (is_edge o s p a q) (the_edge s p a q ∷ []) [] t) h)

abbrev EdgesKept : Clocks → Slice → Cut → Cut → Type 0
EdgesKept o s high c = (p a q : ℕ) → IsEdge o s high p a q → KeepsAt s c p a q

pub edges_listed : (o : Clocks) (s : Slice) (high c : Cut) → EdgesKept o s high c → All (Keeps c) (edges_of o s high)
unfolding edges_of
edges_listed o s high c h = all_flat (Keeps c) (λ p. flat_map (λ a. flat_map (edge_into o s p a) (range_with_len 0 (length (cut_of (s.row p a))))) (range_with_len 1 (count high p))) 0 (length high) (λ p l m.
    all_flat (Keeps c) (λ a. flat_map (edge_into o s p a) (range_with_len 0 (length (cut_of (s.row p a))))) 1 (count high p) (λ a first last.
    all_flat (Keeps c) (edge_into o s p a) 0 (length (cut_of (s.row p a))) (λ q k n.
    listed_one o s c p a q (λ t.
    let both = and_parts (ltb (count (cut_of (previous s p a)) q) (count (cut_of (s.row p a)) q)) (ltb (count (clock o p a) q) (count (cut_of (s.row p a)) q)) t in
    h p a q (record {
      there = (omega (arith, first), omega (arith, last));
      more = ltb-true (count (cut_of (previous s p a)) q) (count (cut_of (s.row p a)) q) both.0;
      new = ltb-true (count (clock o p a) q) (count (cut_of (s.row p a)) q) both.1;
    })))))

pub edges_kept : (o : Clocks) (s : Slice) (high c : Cut) → All (Keeps c) (edges_of o s high) → EdgesKept o s high c
unfolding edges_of
edges_kept o s high c h p a q e =
    let row = cut_of (s.row p a) in
    let process : p < length high = has_process high p a e.there in
    let counted : q < length row = elim (cases_lt q (length row)) [ inl l ↦ l | inr g ↦ absurd (omega (arith, count_past row q g, e.more)) ] in
    let of_process = all_flat_at (Keeps c) (λ p. flat_map (λ a. flat_map (edge_into o s p a) (range_with_len 0 (length (cut_of (s.row p a))))) (range_with_len 1 (count high p))) 0 (length high) p (omega arith) (omega (arith, process)) h in
    let of_event = all_flat_at (Keeps c) (λ a. flat_map (edge_into o s p a) (range_with_len 0 (length (cut_of (s.row p a))))) 1 (count high p) a (omega (arith, e.there.0)) (omega (arith, e.there.1)) of_process in
    let of_cause = all_flat_at (Keeps c) (edge_into o s p a) 0 (length row) q (omega arith) (omega (arith, counted)) of_event in
    unlisted_one o s c p a q (and_from (ltb (count (cut_of (previous s p a)) q) (count row q)) (ltb (count (clock o p a) q) (count row q)) (lt-ltb (count (cut_of (previous s p a)) q) (count row q) e.more) (lt-ltb (count (clock o p a) q) (count row q) e.new)) of_cause

-- ---- the denoted set

row_within : (k : Option Cut) (c : Cut) → HasWithin k c → IsWithin (cut_of k) c
row_within None c h = absurd h
row_within (Some j) c h = h

within_row : (k : Option Cut) (c d : Cut) → HasWithin k d → IsWithin (cut_of k) c → HasWithin k c
within_row None c d h l = h
within_row (Some j) c d h l = l

pub cuts_denoted : (o : Clocks) (s : Slice) (low high : Cut) → IsLeast (Cuts o s) low → IsGreatest (Cuts o s) high → (c : Cut) → Cuts o s c → Denoted o low high (edges_of o s high) c
cuts_denoted o s low high least greatest c cut = record {
  consistent = cut.consistent;
  above = least.least c cut;
  below = greatest.greatest c cut;
  keeps = edges_listed o s high c (λ p a q e has. row_within (s.row p a) c (cut.rows p a (e.there.0, has)) q);
}

kept_next : (o : Clocks) → IsOrder o → (s : Slice) (high : Cut) → Cuts o s high → (c : Cut) → IsConsistent o c → IsWithin c high → EdgesKept o s high c → (i a : ℕ) → IsEvent c i a → HasWithin (previous s i a) c → HasWithin (s.row i a) c
kept_next o order s high top c k below edges i a ev before =
    let row = cut_of (s.row i a) in
    within_row (s.row i a) c high (top.rows i a (event_up c high i a below ev)) (λ q. elim (cases_lt (count (cut_of (previous s i a)) q) (count row q)) [
      | inr old ↦ le_trans old (row_within (previous s i a) c before q)
      | inl more ↦ elim (cases_lt (count (clock o i a) q) (count row q)) [
        | inr old ↦ le_trans old (has_past o order c k i a ev q)
        | inl new ↦ edges i a q (record { there = event_up c high i a below ev; more = more; new = new }) ev.1
      ]
    ])

kept_all : (o : Clocks) → IsOrder o → (s : Slice) (high : Cut) → Cuts o s high → (c : Cut) → IsConsistent o c → IsWithin c high → HasWithin s.bottom c → EdgesKept o s high c → (i a : ℕ) → IsEvent c i a → HasWithin (s.row i a) c
kept_all o order s high top c k below bottom edges i zero ev = absurd (omega (arith, ev.0))
kept_all o order s high top c k below bottom edges i (suc zero) ev = kept_next o order s high top c k below edges i 1 ev bottom
kept_all o order s high top c k below bottom edges i (suc (suc a)) ev = kept_next o order s high top c k below edges i (suc (suc a)) ev
    (kept_all o order s high top c k below bottom edges i (suc a) (omega arith, omega (arith, ev.1)))

pub denoted_cuts : (o : Clocks) → IsOrder o → (s : Slice) (low high : Cut) → IsLeast (Cuts o s) low → IsGreatest (Cuts o s) high → (c : Cut) → Denoted o low high (edges_of o s high) c → Cuts o s c
denoted_cuts o order s low high least greatest c d =
    let bottom = has_within_up s.bottom low c d.above least.member.from_bottom in
    record {
      consistent = d.consistent;
      from_bottom = bottom;
      rows = kept_all o order s high greatest.member c d.consistent d.below bottom (edges_kept o s high c d.keeps);
    }

-- least cut, greatest cut and edges denote the cuts of the slice
pub denoted_is_cuts : (o : Clocks) → IsOrder o → (s : Slice) (low high : Cut) → IsLeast (Cuts o s) low → IsGreatest (Cuts o s) high → (c : Cut) → Cuts o s c ↔ Denoted o low high (edges_of o s high) c
denoted_is_cuts o order s low high least greatest c = (cuts_denoted o s low high least greatest c, denoted_cuts o order s low high least greatest c)

least_cuts : (o : Clocks) (A : Cut → Type 0) → IsSublattice o A → (s : Slice) → StandsFor o s A → (low : Cut) → IsLeast A low → IsLeast (Cuts o s) low
least_cuts o A closed s stands low k = record {
  member = member_cuts o A closed s stands low k.member;
  least = λ c h. k.least c (cuts_member o A closed s stands c h);
}

greatest_cuts : (o : Clocks) (A : Cut → Type 0) → IsSublattice o A → (s : Slice) → StandsFor o s A → (high : Cut) → IsGreatest A high → IsGreatest (Cuts o s) high
greatest_cuts o A closed s stands high k = record {
  member = member_cuts o A closed s stands high k.member;
  greatest = λ c h. k.greatest c (cuts_member o A closed s stands c h);
}

-- what is printed of a closed set denotes it
pub printed_denotes : (o : Clocks) → IsOrder o → (A : Cut → Type 0) → IsSublattice o A → (low high : Cut) (edges : List Edge) → IsPrintedAs o A low high edges → (c : Cut) → A c ↔ Denoted o low high edges c
printed_denotes o order A closed low high edges k c =
    let exact = exact_slice o A closed k.slice k.stands c in
    let both = denoted_is_cuts o order k.slice low high (least_cuts o A closed k.slice k.stands low k.least) (greatest_cuts o A closed k.slice k.stands high k.greatest) c in (
      λ h. subst (λ es. Denoted o low high es c) (sym k.listed) (both.0 (exact.0 h)),
      λ d. exact.1 (both.1 (subst (λ es. Denoted o low high es c) k.listed d)),
    )
