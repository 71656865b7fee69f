-- The first event that shares its row with another, without sorting: a least cut tells who shares it.
use Rattle.std.proofs.Common.{◌≡◌, ℕ, zero, suc, ◌+◌, ◌<◌, ◌≤◌, List, [], ◌∷◌, length, refl, sym, ap, subst, ◌∙◌, arith, inl, inr}
use Rattle.std.specs.Prelude.{◌⊎◌, ◌↔◌, Option, Some, None}
use Rattle.std.proofs.lemmas.Bool.{cases_lt, cases_order}
use Rattle.run_model.specs.Cut.{Cut, Clocks, count, IsWithin, lengths}
use Rattle.run_model.specs.Consistent.{clock, IsEvent, IsOrder, IsConsistent}
use Rattle.run_model.specs.Sublattice.{IsLeast, Having}
use Rattle.run_model.specs.Slice.{Slice, Cuts, Fits}
use Rattle.run_model.specs.Operators.{HasPairs}
use Rattle.run_model.specs.Witness.{Place, AreTwo, IsPlace, IsBefore, IsFirst, row_at, Shares}
use Rattle.run_model.proofs.Counts.{within_both}
use Rattle.run_model.proofs.SliceLemmas.{least_of_member}
use Rattle.slice_graph.specs.Views.{SliceView, slice_of, last_row, IsRow, no_row}
use Rattle.slice_graph.specs.Words.{filled, past_ends, row_words}
use Rattle.slice_graph.proofs.Words.{count-past_ends}
use Rattle.witness.specs.inside.Twins.{HasLaterTwin, IsOperand, HasFinal}

-- ---- the row order

pub in_order : (e f : Place) → (IsBefore e f ⊎ IsBefore f e) ⊎ ((e.process ≡ f.process) × (e.position ≡ f.position))
in_order e f = elim (cases_order e.process f.process) [
  | inr w ↦ elim w [ inl l ↦ inl (inl (inl l)) | inr g ↦ inl (inr (inl g)) ]
  | inl same ↦ elim (cases_order e.position f.position) [
    | inl here ↦ inr (same, here)
    | inr w ↦ elim w [ inl l ↦ inl (inl (inr (same, l))) | inr g ↦ inl (inr (inr (sym same, g))) ]
  ]
]

before_trans : (e f g : Place) → IsBefore e f → IsBefore f g → IsBefore e g
before_trans e f g (inl p) (inl q) = inl (omega arith)
before_trans e f g (inl p) (inr q) = inl (omega (arith, q.0))
before_trans e f g (inr p) (inl q) = inl (omega (arith, p.0))
before_trans e f g (inr p) (inr q) = inr (p.0 ∙ q.0, omega (arith, p.1, q.1))

before_differ : (e f : Place) → IsBefore e f → AreTwo e f
before_differ e f (inl p) same = omega (arith, same.0)
before_differ e f (inr p) same = omega (arith, p.1, same.1)

-- ---- rows

abbrev pub row_from : Clocks → Slice → Place → Cut → Type 0
row_from o s e r = (row_at s e ≡ Some r) × IsLeast (Having (Cuts o s) e.process e.position) r

module _ (o : Clocks) (s : Slice) (fits : Fits o s) (final : Cuts o s (lengths o)) where
  pub row_there : (e : Place) → IsPlace o e → (r : Cut) × row_from o s e r
  row_there e there =
      let r = least_of_member (Having (Cuts o s) e.process e.position) (row_at s e) (lengths o) (fits.rows e.process e.position there) (final, there.1) in
      (r.0, (r.1, r.2))

  -- rows that have each other's events are one
  same_rows : (e f : Place) (r q : Cut) → row_from o s e r → row_from o s f q → f.position ≤ count r f.process → e.position ≤ count q e.process → r ≡ q
  same_rows e f r q re rf has other =
      within_both r q (re.1.member.0.consistent.shaped ∙ sym rf.1.member.0.consistent.shaped)
      (re.1.least q (rf.1.member.0, other)) (rf.1.least r (re.1.member.0, has))

  -- the last event of a process in a row is there
  last_there : (e : Place) (r : Cut) (j : ℕ) → row_from o s e r → 0 < count r j → IsPlace o (record { process = j; position = count r j })
  last_there e r j re some = (some, re.1.member.0.consistent.within j)

  -- where its row has the event, it has the event's row
  pub last_shares : (e : Place) (r : Cut) (j : ℕ) (q : Cut) → row_from o s e r → row_from o s (record { process = j; position = count r j }) q → e.position ≤ count q e.process → row_at s (record { process = j; position = count r j }) ≡ row_at s e
  last_shares e r j q re rf has = rf.0 ∙ ap Some (sym (same_rows e (record { process = j; position = count r j }) r q re rf (omega arith) has)) ∙ sym re.0

  -- an event that shares a row is in it
  twin_in : (e f : Place) (r : Cut) → row_from o s e r → IsPlace o f → row_at s f ≡ row_at s e → f.position ≤ count r f.process
  twin_in e f r re there same =
      let q = row_there f there in
      let one : q.0 ≡ r = some_same q.0 r (sym q.1.0 ∙ same ∙ re.0) in
      subst (λ (c : Cut). f.position ≤ count c f.process) one q.1.1.member.1
    where
      some_same : (x y : Cut) → Some x ≡ Some y → x ≡ y
      some_same x y h = cc

  -- if some event of a process shares the row, then the last one in the row has the event
  pub twin_last : (e f : Place) (r : Cut) (q : Cut) → row_from o s e r → IsPlace o f → row_at s f ≡ row_at s e → row_from o s (record { process = f.process; position = count r f.process }) q → e.position ≤ count q e.process
  twin_last e f r q re there same rf =
      let g = row_there f there in
      let one : g.0 ≡ r = some_same g.0 r (sym g.1.0 ∙ same ∙ re.0) in
      let inside = g.1.1.least q (rf.1.member.0, omega (arith, rf.1.member.1, twin_in e f r re there same)) in
      omega (arith, inside e.process, ap (λ (c : Cut). count c e.process) one, re.1.member.1)
    where
      some_same : (x y : Cut) → Some x ≡ Some y → x ≡ y
      some_same x y h = cc

  -- ---- the three ways in which the search ends

  pub own_later : (e : Place) (r : Cut) → row_from o s e r → e.position < count r e.process → HasLaterTwin o s e
  own_later e r re more =
      let last : Place = record { process = e.process; position = count r e.process } in
      let there = last_there e r e.process re (omega arith) in
      let q = row_there last there in
      (last, there, inr (refl, more), last_shares e r e.process q.0 re q.1 (omega (arith, q.1.1.member.1)))

  pub other_later : (e : Place) (r : Cut) (j : ℕ) (q : Cut) → row_from o s e r → e.process < j → 0 < count r j → row_from o s (record { process = j; position = count r j }) q → e.position ≤ count q e.process → HasLaterTwin o s e
  other_later e r j q re later some rf has = (record { process = j; position = count r j }, last_there e r j re some, inl later, last_shares e r j q re rf has)

  pub none_later : (e : Place) (r : Cut) → row_from o s e r → count r e.process ≤ e.position
      → ((j : ℕ) → e.process < j → 0 < count r j → (q : Cut) → row_from o s (record { process = j; position = count r j }) q → e.position ≤ count q e.process → ⊥) → HasLaterTwin o s e → ⊥
  none_later e r re own none twin = ends twin.2
    where
      ends : IsBefore e twin.0 → ⊥
      ends (inr h) = omega (arith, h.1, ap (λ (i : ℕ). count r i) h.0, twin_in e twin.0 r re twin.1 twin.3)
      ends (inl h) =
          let some : 0 < count r twin.0.process = omega (arith, twin.1.0, twin_in e twin.0 r re twin.1 twin.3) in
          let q = row_there (record { process = twin.0.process; position = count r twin.0.process }) (last_there e r twin.0.process re some) in
          none twin.0.process h some q.0 q.1 (twin_last e twin.0 r q.0 re twin.1 twin.3 q.1)

-- ---- the first pair

pub first_later_is_first : (o : Clocks) (s : Slice) (e : Place) → IsFirst o (HasLaterTwin o s) e → IsFirst o (λ x. (f : Place) × IsPlace o f × Shares s x f) e
first_later_is_first o s e first = record {
  there = first.there;
  has = (first.has.0, first.has.1, (before_differ e first.has.0 first.has.2, first.has.3));
  first = λ x there before twin. elim (in_order x twin.0) [
    | inr same ↦ twin.2.0 same
    | inl w ↦ elim w [
      | inl later ↦ first.first x there before (twin.0, twin.1, later, twin.2.1)
      | inr earlier ↦ first.first twin.0 twin.1 (before_trans twin.0 x e earlier before) (x, there, earlier, sym twin.2.1)
    ]
  ];
}

-- no two events have one row
pub no_pairs : (o : Clocks) (s : Slice) → ((e : Place) → IsPlace o e → HasLaterTwin o s e → ⊥) → (c : Cut) → HasPairs o s c
no_pairs o s none c i a j b ev fv same differ =
    let e : Place = record { process = i; position = a } in
    let f : Place = record { process = j; position = b } in
    elim (in_order e f) [
      | inr one ↦ absurd (differ one)
      | inl w ↦ elim w [ inl before ↦ absurd (none e ev (f, fv, before, sym same)) | inr after ↦ absurd (none f fv (e, ev, after, same)) ]
    ]

-- ---- rows as words

pub last_of : (s : Slice) (i a : ℕ) → 0 < a → last_row s i a ≡ s.row i a
last_of s i zero some = absurd (omega arith)
last_of s i (suc a) some = refl

pub words_of : (v : SliceView) (e : Place) → 0 < e.position → row_words v e.process e.position ≡ filled v.lens (row_at (slice_of v) e)
words_of v e some = ap (filled v.lens) (last_of (slice_of v) e.process e.position some)

-- words within the lengths are those of a cut
pub filled_some : (lens : List ℕ) (k : Option Cut) (c : Cut) → 1 ≤ length lens → IsWithin c lens → filled lens k ≡ c → k ≡ Some c
filled_some lens None c some within same = absurd (omega (arith, within 0, ap (λ (w : Cut). count w 0) same, count-past_ends lens 0 (omega arith)))
filled_some lens (Some d) c some within same = ap Some same

-- rows with the same words are one
pub filled_one : (lens : List ℕ) (k l : Option Cut) → 1 ≤ length lens → IsRow lens k → IsRow lens l → filled lens k ≡ filled lens l → k ≡ l
filled_one lens None None some kr lr same = refl
filled_one lens None (Some d) some kr lr same = filled_some lens None d some lr.within same
filled_one lens (Some c) None some kr lr same = sym (filled_some lens None c some kr.within (sym same))
filled_one lens (Some c) (Some d) some kr lr same = ap Some same
