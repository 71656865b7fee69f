-- What a slice stands for: a closed set is the set of the cuts of its slice, and slices of one set agree at events.
use Rattle.std.proofs.Common.{◌≡◌, ℕ, zero, suc, ◌<◌, ◌≤◌, ◌↔◌, length, Option, Some, None, sym, ap, ◌∙◌, subst, refl, inl, inr, arith, le_refl}
use Rattle.std.proofs.lemmas.Bool.{cases_lt, cases_eq}
use Rattle.run_model.specs.Cut.{Cut, Clocks, count, IsWithin, min_cut, max_cut, lengths}
use Rattle.run_model.specs.Consistent.{IsEvent, IsOrder, IsConsistent}
use Rattle.run_model.specs.Sublattice.{IsSublattice, IsLeast, IsGreatest, Having}
use Rattle.run_model.specs.Slice.{Slice, HasWithin, IsLeastOf, Cuts, StandsFor, Fits}
use Rattle.run_model.proofs.Counts.{count-min, count-max, count_past, within_trans, within_min, max_within, max_left, max_right, within_both}
use Rattle.run_model.proofs.Orders.{event_of_run, min_consistent, max_consistent}

pub least_within : (A : Cut → Type 0) (k : Option Cut) (c : Cut) → IsLeastOf A k → A c → HasWithin k c
least_within A None c l h = l c h
least_within A (Some j) c l h = l.least c h

-- a least member that is there
pub least_there : (A : Cut → Type 0) (k : Option Cut) (c : Cut) → IsLeastOf A k → HasWithin k c → (j : Cut) × (k ≡ Some j) × IsLeast A j × IsWithin j c
least_there A None c l h = absurd h
least_there A (Some j) c l h = (j, refl, l, h)

pub least_of_member : (A : Cut → Type 0) (k : Option Cut) (c : Cut) → IsLeastOf A k → A c → (j : Cut) × (k ≡ Some j) × IsLeast A j × IsWithin j c
least_of_member A k c l h = least_there A k c l (least_within A k c l h)

pub has_within_up : (k : Option Cut) (c d : Cut) → IsWithin c d → HasWithin k c → HasWithin k d
has_within_up None c d up h = h
has_within_up (Some j) c d up h = within_trans j c d h up

pub has_within_min : (k : Option Cut) (c d : Cut) → HasWithin k c → HasWithin k d → HasWithin k (min_cut c d)
has_within_min None c d h l = h
has_within_min (Some j) c d h l = within_min j c d h l

-- what is the least of a set is the least of each set with the same members
pub least_same : (A B : Cut → Type 0) → ((c : Cut) → A c ↔ B c) → (k : Option Cut) → IsLeastOf A k → IsLeastOf B k
least_same A B same None l = λ c h. l c ((same c).1 h)
least_same A B same (Some j) l = record { member = (same j).0 l.member; least = λ c h. l.least c ((same c).1 h) }

pub stands_same : (o : Clocks) (s : Slice) (A B : Cut → Type 0) → ((c : Cut) → A c ↔ B c) → StandsFor o s A → StandsFor o s B
stands_same o s A B same k = record {
  bottom = least_same A B same s.bottom k.bottom;
  rows = λ i a ev. least_same (Having A i a) (Having B i a) (λ c. (λ h. ((same c).0 h.0, h.1), λ h. ((same c).1 h.0, h.1))) (s.row i a) (k.rows i a ev);
}

-- slices that agree at the bottom and at events stand for the same sets
pub stands_rows : (o : Clocks) (s t : Slice) (A : Cut → Type 0) → s.bottom ≡ t.bottom → ((i a : ℕ) → IsEvent (lengths o) i a → s.row i a ≡ t.row i a) → StandsFor o s A → StandsFor o t A
stands_rows o s t A e f k = record {
  bottom = subst (IsLeastOf A) e k.bottom;
  rows = λ i a ev. subst (IsLeastOf (Having A i a)) (f i a ev) (k.rows i a ev);
}

-- the cuts of a slice are closed, whatever its rows are
pub cuts_closed : (o : Clocks) → IsOrder o → (s : Slice) → IsSublattice o (Cuts o s)
cuts_closed o order s = record {
  consistent = λ c k. k.consistent;
  has_min = λ c d k l. record {
    consistent = min_consistent o order c d k.consistent l.consistent;
    from_bottom = has_within_min s.bottom c d k.from_bottom l.from_bottom;
    rows = λ i a ev. has_within_min (s.row i a) c d (k.rows i a (ev.0, omega (arith, ev.1, count-min c d i))) (l.rows i a (ev.0, omega (arith, ev.1, count-min c d i)));
  };
  has_max = λ c d k l. record {
    consistent = max_consistent o order c d k.consistent l.consistent;
    from_bottom = has_within_up s.bottom c (max_cut c d) (max_left c d) k.from_bottom;
    rows = λ i a ev. elim (cases_lt (count c i) (count d i)) [
      | inl h ↦ has_within_up (s.row i a) d (max_cut c d) (max_right c d) (l.rows i a (ev.0, omega (arith, ev.1, h, count-max c d i)))
      | inr h ↦ has_within_up (s.row i a) c (max_cut c d) (max_left c d) (k.rows i a (ev.0, omega (arith, ev.1, h, count-max c d i)))
    ];
  };
}

-- a member within c that has all events of c of the first k processes
abbrev Gathered : (Cut → Type 0) → Cut → ℕ → Type 0
Gathered A c k = (m : Cut) × A m × IsWithin m c × ((i : ℕ) → i < k → count c i ≤ count m i)

gather_more : (o : Clocks) (A : Cut → Type 0) → IsSublattice o A → (s : Slice) → StandsFor o s A → (c : Cut) → Cuts o s c → (k : ℕ) → Gathered A c k → Gathered A c (suc k)
gather_more o A closed s stands c cut k g = elim (cases_lt 0 (count c k)) [
  | inl pos ↦
      let ev : IsEvent c k (count c k) = (pos, le_refl (count c k)) in
      let r = least_there (Having A k (count c k)) (s.row k (count c k)) c (stands.rows k (count c k) (event_of_run o c cut.consistent k (count c k) ev)) (cut.rows k (count c k) ev) in (
        max_cut g.0 r.0,
        closed.has_max g.0 r.0 g.1 r.2.member.0,
        max_within g.0 r.0 c g.2 r.3,
        λ i l. elim (cases_eq i k) [
          | inl e ↦ subst (λ x. count c x ≤ count (max_cut g.0 r.0) x) (sym e) (omega (arith, count-max g.0 r.0 k, r.2.member.1))
          | inr ne ↦ omega (arith, count-max g.0 r.0 i, g.3 i (omega (arith, l, ne)))
        ],
      )
  | inr none ↦ (
    g.0,
    g.1,
    g.2,
    λ i l. elim (cases_eq i k) [
      | inl e ↦ subst (λ x. count c x ≤ count g.0 x) (sym e) (omega (arith, none))
      | inr ne ↦ g.3 i (omega (arith, l, ne))
    ],
  )
]

gather : (o : Clocks) (A : Cut → Type 0) → IsSublattice o A → (s : Slice) → StandsFor o s A → (c : Cut) → Cuts o s c → (k : ℕ) → Gathered A c k
gather o A closed s stands c cut zero =
    let b = least_there A s.bottom c stands.bottom cut.from_bottom in
    (b.0, b.2.member, b.3, λ i l. absurd (omega (arith, l)))
gather o A closed s stands c cut (suc k) = gather_more o A closed s stands c cut k (gather o A closed s stands c cut k)

pub cuts_member : (o : Clocks) (A : Cut → Type 0) → IsSublattice o A → (s : Slice) → StandsFor o s A → (c : Cut) → Cuts o s c → A c
cuts_member o A closed s stands c cut =
    let g = gather o A closed s stands c cut (length c) in
    let same : g.0 ≡ c = within_both g.0 c ((closed.consistent g.0 g.1).shaped ∙ sym cut.consistent.shaped) g.2 (λ i. elim (cases_lt i (length c)) [ inl l ↦ g.3 i l | inr p ↦ omega (arith, count_past c i p) ]) in
    subst A same g.1

pub member_cuts : (o : Clocks) (A : Cut → Type 0) → IsSublattice o A → (s : Slice) → StandsFor o s A → (c : Cut) → A c → Cuts o s c
member_cuts o A closed s stands c h = record {
  consistent = closed.consistent c h;
  from_bottom = least_within A s.bottom c stands.bottom h;
  rows = λ i a ev. least_within (Having A i a) (s.row i a) c (stands.rows i a (event_of_run o c (closed.consistent c h) i a ev)) (h, ev.1);
}

-- a closed set is the set of the cuts of its slice
pub exact_slice : (o : Clocks) (A : Cut → Type 0) → IsSublattice o A → (s : Slice) → StandsFor o s A → (c : Cut) → A c ↔ Cuts o s c
exact_slice o A closed s stands c = (member_cuts o A closed s stands c, cuts_member o A closed s stands c)

-- a slice that stands for a closed set fits its order
pub stands_fits : (o : Clocks) (A : Cut → Type 0) → IsSublattice o A → (s : Slice) → StandsFor o s A → Fits o s
stands_fits o A closed s stands = stands_same o s A (Cuts o s) (exact_slice o A closed s stands) stands

one_least : (o : Clocks) (A : Cut → Type 0) → ((c : Cut) → A c → IsConsistent o c) → (j k : Option Cut) → IsLeastOf A j → IsLeastOf A k → j ≡ k
one_least o A consistent None None l m = refl
one_least o A consistent None (Some k) l m = absurd (l k m.member)
one_least o A consistent (Some j) None l m = absurd (m j l.member)
one_least o A consistent (Some j) (Some k) l m = ap Some (within_both j k ((consistent j l.member).shaped ∙ sym (consistent k m.member).shaped) (l.least k m.member) (m.least j l.member))

-- the rows of two slices of one set are equal at events, and their bottoms are
pub one_bottom : (o : Clocks) (A : Cut → Type 0) → ((c : Cut) → A c → IsConsistent o c) → (s t : Slice) → StandsFor o s A → StandsFor o t A → s.bottom ≡ t.bottom
one_bottom o A consistent s t k l = one_least o A consistent s.bottom t.bottom k.bottom l.bottom

pub one_row : (o : Clocks) (A : Cut → Type 0) → ((c : Cut) → A c → IsConsistent o c) → (s t : Slice) → StandsFor o s A → StandsFor o t A → (i a : ℕ) → IsEvent (lengths o) i a → s.row i a ≡ t.row i a
one_row o A consistent s t k l i a ev = one_least o (Having A i a) (λ c h. consistent c h.0) (s.row i a) (t.row i a) (k.rows i a ev) (l.rows i a ev)

-- a member that holds the row of each event that has one is the greatest
pub greatest_from_rows : (o : Clocks) (A : Cut → Type 0) → IsSublattice o A → (s : Slice) → StandsFor o s A → (t : Cut) → A t → ((i a : ℕ) (j : Cut) → IsEvent (lengths o) i a → s.row i a ≡ Some j → IsWithin j t) → IsGreatest A t
greatest_from_rows o A closed s stands t member holds = record {
  member = member;
  greatest = λ c h i. elim (cases_lt 0 (count c i)) [
    | inl pos ↦
        let ev = event_of_run o c (closed.consistent c h) i (count c i) (pos, le_refl (count c i)) in
        let r = least_of_member (Having A i (count c i)) (s.row i (count c i)) c (stands.rows i (count c i) ev) (h, le_refl (count c i)) in
        omega (arith, r.2.member.1, holds i (count c i) r.0 ev r.1 i)
    | inr none ↦ omega (arith, none)
  ];
}
