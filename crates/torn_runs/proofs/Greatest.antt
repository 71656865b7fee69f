-- The greatest cut that is logged whole.
use Rattle.std.proofs.Common.{set, ◌≡◌, ℕ, zero, suc, ◌<◌, ◌≤◌, ◌⊎◌, ◌↔◌, length, sym, ◌∙◌, subst, inl, inr, arith}
use Rattle.std.proofs.lemmas.Bool.{cases_lt, cases_eq}
use Rattle.std.proofs.lemmas.List.{length-set, get_or-set_same, get_or-set_other}
use Rattle.run_model.specs.Cut.{Cut, Clocks, count, IsWithin, lengths}
use Rattle.run_model.specs.Consistent.{clock, IsEvent, IsOrder}
use Rattle.run_model.specs.Sublattice.{IsGreatest}
use Rattle.run_model.proofs.Counts.{within_both, within_refl, within_trans, length-lengths, search_below, total, total_below}
use Rattle.meaning_laws.proofs.DecisionLemmas.{decide_within}
use Rattle.run_model.proofs.Orders.{has_process}
use Rattle.torn_runs.specs.Torn.{IsBeginning, IsLoggedWhole}
use Rattle.torn_runs.specs.Laws.{IsLoggedCut}
use Rattle.torn_runs.proofs.Beginnings.{whole_to_cut, cut_to_whole}

-- two sets with the same members have the same greatest ones
pub greatest_same : (A B : Cut → Type 0) → ((c : Cut) → A c → B c) → ((c : Cut) → B c → A c) → (c : Cut) → IsGreatest A c → IsGreatest B c
greatest_same A B to back c g = record { member = to c g.member; greatest = λ d m. g.greatest d (back d m) }

pub greatest_is_cut : (logged whole : Clocks) (c : Cut) → IsBeginning logged whole → IsOrder whole → IsGreatest (IsLoggedWhole logged) c ↔ IsGreatest (IsLoggedCut logged whole) c
greatest_is_cut logged whole c b order = (
  greatest_same (IsLoggedWhole logged) (IsLoggedCut logged whole) (λ d. whole_to_cut logged whole d b) (λ d. cut_to_whole logged whole d b order) c,
  greatest_same (IsLoggedCut logged whole) (IsLoggedWhole logged) (λ d. cut_to_whole logged whole d b order) (λ d. whole_to_cut logged whole d b) c,
)

pub greatest_one : (o : Clocks) (c d : Cut) → IsGreatest (IsLoggedWhole o) c → IsGreatest (IsLoggedWhole o) d → c ≡ d
greatest_one o c d g h = within_both c d (g.member.shaped ∙ sym h.member.shaped) (h.greatest c g.member) (g.greatest d h.member)

pub whole_stays : (o : Clocks) → IsOrder o → IsGreatest (IsLoggedWhole o) (lengths o)
whole_stays o order = record {
  member = record { shaped = length-lengths o; within = within_refl (lengths o); pasts = order.named };
  greatest = λ c k. k.within;
}

-- ---- there is one: the first event of a process that counts too much is left out, as long as there is one

-- event a of process i, counted from 0, counts events that the cut hasn't
abbrev Lacks : Clocks → Cut → ℕ → ℕ → Type 0
Lacks o c i a = IsWithin (clock o i (suc a)) c → ⊥

abbrev Row : Clocks → Cut → ℕ → Type 0
Row o c i = (a : ℕ) → a < count c i → IsWithin (clock o i (suc a)) c

decide_row : (o : Clocks) (c : Cut) (i : ℕ) → ((a : ℕ) × (a < count c i) × Lacks o c i a) ⊎ Row o c i
decide_row o c i = search_below (Lacks o c i) (λ a. IsWithin (clock o i (suc a)) c) (λ a. elim (decide_within (clock o i (suc a)) c) [ inl h ↦ inr h | inr no' ↦ inl no' ]) (count c i)

-- all cuts that are logged whole lie within the cut
abbrev Bounds : Clocks → Cut → Type 0
Bounds o c = (d : Cut) → IsLoggedWhole o d → IsWithin d c

past_by_row : (o : Clocks) (c : Cut) (i a : ℕ) → Row o c i → IsEvent c i a → IsWithin (clock o i a) c
past_by_row o c i zero row ev = absurd (omega (arith, ev.0))
past_by_row o c i (suc a) row ev = row a (omega (arith, ev.1))

whole_by_rows : (o : Clocks) (c : Cut) → length c ≡ length o → IsWithin c (lengths o) → ((i : ℕ) → i < length c → Row o c i) → IsLoggedWhole o c
whole_by_rows o c e h rows = record {
  shaped = e;
  within = h;
  pasts = λ i a ev. past_by_row o c i a (rows i (has_process c i a ev)) ev;
}

-- without the event and those behind it on its process
pub count-set_same : (c : Cut) (i a : ℕ) → i < length c → count (set c i a) i ≡ a
count-set_same c i a h = get_or-set_same c i a 0 h

pub lower_within : (c : Cut) (i a : ℕ) → i < length c → a ≤ count c i → IsWithin (set c i a) c
lower_within c i a l h j = elim (cases_eq j i) [
  | inl e ↦ subst (λ x. count (set c i a) x ≤ count c x) (sym e) (omega (arith, get_or-set_same c i a 0 l, h))
  | inr ne ↦ omega (arith, get_or-set_other c i j a 0 ne)
]

pub lower_above : (d c : Cut) (i a : ℕ) → i < length c → IsWithin d c → count d i ≤ a → IsWithin d (set c i a)
lower_above d c i a l h k j = elim (cases_eq j i) [
  | inl e ↦ subst (λ x. count d x ≤ count (set c i a) x) (sym e) (omega (arith, get_or-set_same c i a 0 l, k))
  | inr ne ↦ omega (arith, get_or-set_other c i j a 0 ne, h j)
]

lower_bounds : (o : Clocks) (c : Cut) (i a : ℕ) → i < length c → a < count c i → Lacks o c i a → Bounds o c → Bounds o (set c i a)
lower_bounds o c i a l h lacks bounds d k = lower_above d c i a l (bounds d k) (elim (cases_lt a (count d i)) [
  | inl more ↦ absurd (lacks (within_trans (clock o i (suc a)) d c (k.pasts i (suc a) (omega arith, omega (arith, more))) (bounds d k)))
  | inr few ↦ few
])

greatest_by : (o : Clocks) (fuel : ℕ) (c : Cut) → length c ≡ length o → IsWithin c (lengths o) → Bounds o c → total c < fuel → (d : Cut) × IsGreatest (IsLoggedWhole o) d
greatest_by o zero c e h bounds f = absurd (omega (arith, f))
greatest_by o (suc fuel) c e h bounds f = elim (search_below (λ i. (a : ℕ) × (a < count c i) × Lacks o c i a) (Row o c) (decide_row o c) (length c)) [
  | inr rows ↦ (c, record { member = whole_by_rows o c e h rows; greatest = bounds })
  | inl w ↦
      let next : Cut = set c w.0 w.2.0 in
      let below : IsWithin next c = lower_within c w.0 w.2.0 w.1 (omega (arith, w.2.1)) in
      greatest_by o fuel next (length-set c w.0 w.2.0 ∙ e) (within_trans next c (lengths o) below h) (lower_bounds o c w.0 w.2.0 w.1 w.2.1 w.2.2 bounds)
      (omega (arith, f, total_below next c w.0 below (omega (arith, count-set_same c w.0 w.2.0 w.1, w.2.1))))
]

pub greatest_there : (o : Clocks) → (c : Cut) × IsGreatest (IsLoggedWhole o) c
greatest_there o = greatest_by o (suc (total (lengths o))) (lengths o) (length-lengths o) (within_refl (lengths o)) (λ d k. k.within) (omega arith)
