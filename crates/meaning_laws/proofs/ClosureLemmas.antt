-- EF, AG, EG and EX keep sets closed under minimum and maximum, without a slice of the set.
use Rattle.std.proofs.Common.{◌≡◌, ℕ, ◌+◌, ◌<◌, ◌≤◌, ◌⊎◌, List, [], ◌∷◌, length, sym, ap, ◌∙◌, subst, inl, inr, arith, ◌++◌}
use Rattle.std.proofs.lemmas.Bool.{cases_lt, cases_eq}
use Rattle.run_model.specs.Cut.{Cut, Clocks, count, IsWithin, min_cut, max_cut, with_next, Follows, lengths}
use Rattle.run_model.specs.Consistent.{IsOrder, IsConsistent, PathIn, IsPath}
use Rattle.run_model.specs.Sublattice.{IsSublattice, AllIn}
use Rattle.run_model.specs.Operators.{EfHolds, AgHolds, EgHolds, ExHolds}
use Rattle.run_model.proofs.Counts.{count-min, count-max, length-min, length-max, within_trans, min_left, max_left, max_right, max_within, same_counts, max_absorbs, length-with_next, with_next_same, with_next_other}
use Rattle.run_model.proofs.Orders.{min_consistent, max_consistent}
use Rattle.run_model.proofs.Paths.{path_first, path_last, path_rises, path_joined, path_wider, path_all, all_first, each_time_ends, each_time_from_ends, next_time_from, next_time_lands}
use Rattle.meaning_laws.proofs.OperatorLemmas.{path_exists}

-- ---- EF

pub some_time_min : (o : Clocks) → IsOrder o → (A : Cut → Type 0) (c d : Cut) → IsConsistent o c → IsConsistent o d → EfHolds o A c → EfHolds o A (min_cut c d)
some_time_min o order A c d k l w =
    let p = path_exists o order (min_cut c d) w.1 (min_consistent o order c d k l) (path_last (IsConsistent o) c w.0 w.1 w.2) (within_trans (min_cut c d) c w.1 (min_left c d) (path_rises (IsConsistent o) c w.0 w.1 w.2)) in
    (p.0, w.1, p.1, w.3)

pub some_time_max : (o : Clocks) → IsOrder o → (A : Cut → Type 0) → ((x y : Cut) → IsConsistent o x → IsConsistent o y → A x → A y → A (max_cut x y)) → (c d : Cut) → IsConsistent o c → IsConsistent o d → EfHolds o A c → EfHolds o A d → EfHolds o A (max_cut c d)
some_time_max o order A keeps c d k l w v =
    let x = w.1 in
    let y = v.1 in
    let at_x = path_last (IsConsistent o) c w.0 x w.2 in
    let at_y = path_last (IsConsistent o) d v.0 y v.2 in
    let inside = max_within c d (max_cut x y) (within_trans c x (max_cut x y) (path_rises (IsConsistent o) c w.0 x w.2) (max_left x y)) (within_trans d y (max_cut x y) (path_rises (IsConsistent o) d v.0 y v.2) (max_right x y)) in
    let p = path_exists o order (max_cut c d) (max_cut x y) (max_consistent o order c d k l) (max_consistent o order x y at_x at_y) inside in
    (p.0, max_cut x y, p.1, keeps x y at_x at_y w.3 v.3)

-- ---- AG

pub each_time_max : (o : Clocks) → IsOrder o → (A : Cut → Type 0) (c d : Cut) → IsConsistent o c → AgHolds o A c → AgHolds o A (max_cut c d)
each_time_max o order A c d k each = each_time_from_ends o A (max_cut c d) (λ es e p.
    let q = path_exists o order c e k (path_last (IsConsistent o) (max_cut c d) es e p) (within_trans c (max_cut c d) e (max_left c d) (path_rises (IsConsistent o) (max_cut c d) es e p)) in
    each_time_ends o A c each q.0 e q.1)

spread : (e c d : Cut) → length e ≡ length c → length c ≡ length d → IsWithin (min_cut c d) e → min_cut (max_cut e c) (max_cut e d) ≡ e
spread e c d s t h = same_counts (min_cut (max_cut e c) (max_cut e d)) e
    (omega (arith, length-min (max_cut e c) (max_cut e d), length-max e c, length-max e d, s, t))
    (λ i. omega (arith, count-min (max_cut e c) (max_cut e d) i, count-max e c i, count-max e d i, count-min c d i, h i))

pub each_time_min : (o : Clocks) → IsOrder o → (A : Cut → Type 0) → ((x y : Cut) → IsConsistent o x → IsConsistent o y → A x → A y → A (min_cut x y)) → (c d : Cut) → IsConsistent o c → IsConsistent o d → AgHolds o A c → AgHolds o A d → AgHolds o A (min_cut c d)
each_time_min o order A keeps c d k l each other = each_time_from_ends o A (min_cut c d) (λ es e p.
    let at_e = path_last (IsConsistent o) (min_cut c d) es e p in
    let x = max_consistent o order e c at_e k in
    let y = max_consistent o order e d at_e l in
    let q = path_exists o order c (max_cut e c) k x (max_right e c) in
    let r = path_exists o order d (max_cut e d) l y (max_right e d) in
    subst A (spread e c d (at_e.shaped ∙ sym k.shaped) (k.shaped ∙ sym l.shaped) (path_rises (IsConsistent o) (min_cut c d) es e p))
    (keeps (max_cut e c) (max_cut e d) x y (each_time_ends o A c each q.0 (max_cut e c) q.1) (each_time_ends o A d other r.0 (max_cut e d) r.1)))

-- ---- EG

-- a map of cuts under which each step stands still or is a step takes paths to paths
mapped_path : (A B : Cut → Type 0) (f : Cut → Cut) → ((x : Cut) → A x → B (f x)) → ((x e : Cut) → A x → A e → Follows x e → (f e ≡ f x) ⊎ Follows (f x) (f e)) → (c : Cut) (es : List Cut) (d : Cut) → PathIn A c es d → (fs : List Cut) × PathIn B (f c) fs (f d)
mapped_path A B f keeps steps c [] d p = ([], (keeps c p.0, ap f p.1))
mapped_path A B f keeps steps c (e ∷ es) d p =
    let rest = mapped_path A B f keeps steps e es d p.2 in
    elim (steps c e p.0 (path_first A e es d p.2) p.1) [
      | inl still ↦ (rest.0, subst (λ x. PathIn B x rest.0 (f d)) still rest.1)
      | inr step ↦ (f e ∷ rest.0, (keeps c p.0, step, rest.1))
    ]

max_next_still : (x d : Cut) (k : ℕ) → k < length x → length x ≡ length d → count x k < count d k → max_cut (with_next x k) d ≡ max_cut x d
max_next_still x d k there s h = same_counts (max_cut (with_next x k) d) (max_cut x d)
    (omega (arith, length-max (with_next x k) d, length-max x d, length-with_next x k))
    (λ i. elim (cases_eq i k) [
      | inl e ↦ subst (λ y. count (max_cut (with_next x k) d) y ≡ count (max_cut x d) y) (sym e) (omega (arith, count-max (with_next x k) d k, count-max x d k, with_next_same x k there, h))
      | inr ne ↦ omega (arith, count-max (with_next x k) d i, count-max x d i, with_next_other x k i ne)
    ])

max_next_step : (x d : Cut) (k : ℕ) → k < length x → length x ≡ length d → count d k ≤ count x k → max_cut (with_next x k) d ≡ with_next (max_cut x d) k
max_next_step x d k there s h =
    let in_max : k < length (max_cut x d) = omega (arith, length-max x d, there) in
    same_counts (max_cut (with_next x k) d) (with_next (max_cut x d) k)
    (omega (arith, length-max (with_next x k) d, length-max x d, length-with_next x k, length-with_next (max_cut x d) k))
    (λ i. elim (cases_eq i k) [
      | inl e ↦ subst (λ y. count (max_cut (with_next x k) d) y ≡ count (with_next (max_cut x d) k) y) (sym e) (omega (arith, count-max (with_next x k) d k, count-max x d k, with_next_same x k there, with_next_same (max_cut x d) k in_max, h))
      | inr ne ↦ omega (arith, count-max (with_next x k) d i, count-max x d i, with_next_other x k i ne, with_next_other (max_cut x d) k i ne)
    ])

max_steps : (o : Clocks) (d : Cut) → IsConsistent o d → (x e : Cut) → IsConsistent o x → Follows x e → (max_cut e d ≡ max_cut x d) ⊎ Follows (max_cut x d) (max_cut e d)
max_steps o d l x e k f =
    let s = k.shaped ∙ sym l.shaped in
    elim (cases_lt (count x f.0) (count d f.0)) [
      | inl h ↦ inl (subst (λ y. max_cut y d ≡ max_cut x d) (sym f.2) (max_next_still x d f.0 f.1 s h))
      | inr h ↦ inr (f.0, omega (arith, length-max x d, f.1), subst (λ y. max_cut y d ≡ with_next (max_cut x d) f.0) (sym f.2) (max_next_step x d f.0 f.1 s h))
    ]

min_next_still : (x d : Cut) (k : ℕ) → k < length x → length x ≡ length d → count d k ≤ count x k → min_cut (with_next x k) d ≡ min_cut x d
min_next_still x d k there s h = same_counts (min_cut (with_next x k) d) (min_cut x d)
    (omega (arith, length-min (with_next x k) d, length-min x d, length-with_next x k))
    (λ i. elim (cases_eq i k) [
      | inl e ↦ subst (λ y. count (min_cut (with_next x k) d) y ≡ count (min_cut x d) y) (sym e) (omega (arith, count-min (with_next x k) d k, count-min x d k, with_next_same x k there, h))
      | inr ne ↦ omega (arith, count-min (with_next x k) d i, count-min x d i, with_next_other x k i ne)
    ])

min_next_step : (x d : Cut) (k : ℕ) → k < length x → length x ≡ length d → count x k < count d k → min_cut (with_next x k) d ≡ with_next (min_cut x d) k
min_next_step x d k there s h =
    let in_min : k < length (min_cut x d) = omega (arith, length-min x d, there, s) in
    same_counts (min_cut (with_next x k) d) (with_next (min_cut x d) k)
    (omega (arith, length-min (with_next x k) d, length-min x d, length-with_next x k, length-with_next (min_cut x d) k))
    (λ i. elim (cases_eq i k) [
      | inl e ↦ subst (λ y. count (min_cut (with_next x k) d) y ≡ count (with_next (min_cut x d) k) y) (sym e) (omega (arith, count-min (with_next x k) d k, count-min x d k, with_next_same x k there, with_next_same (min_cut x d) k in_min, h))
      | inr ne ↦ omega (arith, count-min (with_next x k) d i, count-min x d i, with_next_other x k i ne, with_next_other (min_cut x d) k i ne)
    ])

min_steps : (o : Clocks) (d : Cut) → IsConsistent o d → (x e : Cut) → IsConsistent o x → Follows x e → (min_cut e d ≡ min_cut x d) ⊎ Follows (min_cut x d) (min_cut e d)
min_steps o d l x e k f =
    let s = k.shaped ∙ sym l.shaped in
    elim (cases_lt (count x f.0) (count d f.0)) [
      | inl h ↦ inr (f.0, omega (arith, length-min x d, f.1, s), subst (λ y. min_cut y d ≡ with_next (min_cut x d) f.0) (sym f.2) (min_next_step x d f.0 f.1 s h))
      | inr h ↦ inl (subst (λ y. min_cut y d ≡ min_cut x d) (sym f.2) (min_next_still x d f.0 f.1 s h))
    ]

-- the consistent cuts of A
abbrev Both : Clocks → (Cut → Type 0) → Cut → Type 0
Both o A c = IsConsistent o c × A c

both_path : (o : Clocks) (A : Cut → Type 0) (c : Cut) (es : List Cut) (d : Cut) → IsPath o c es d → AllIn A c es → PathIn (Both o A) c es d
both_path o A c [] d p h = ((p.0, h), p.1)
both_path o A c (e ∷ es) d p h = ((p.0, h.0), p.1, both_path o A e es d p.2 h.1)

stays : (o : Clocks) (A : Cut → Type 0) (c : Cut) (es : List Cut) → PathIn (Both o A) c es (lengths o) → EgHolds o A c
stays o A c es p = (es, path_wider (Both o A) (IsConsistent o) (λ x h. h.0) c es (lengths o) p, path_all A c es (lengths o) (path_wider (Both o A) A (λ x h. h.1) c es (lengths o) p))

-- each cut of a path to the final cut, joined with a fixed member
pub staying_max : (o : Clocks) → IsOrder o → (A : Cut → Type 0) → ((x y : Cut) → IsConsistent o x → IsConsistent o y → A x → A y → A (max_cut x y)) → (c d : Cut) → IsConsistent o d → A d → EgHolds o A c → EgHolds o A (max_cut c d)
staying_max o order A keeps c d l member w =
    let p = both_path o A c w.0 (lengths o) w.1 w.2 in
    let at_end = path_last (Both o A) c w.0 (lengths o) p in
    let q = mapped_path (Both o A) (Both o A) (λ x. max_cut x d) (λ x h. (max_consistent o order x d h.0 l, keeps x d h.0 l h.1 member)) (λ x e h g f. max_steps o d l x e h.0 f) c w.0 (lengths o) p in
    let ends : max_cut (lengths o) d ≡ lengths o = max_absorbs (lengths o) d (at_end.0.shaped ∙ sym l.shaped) l.within in
    stays o A (max_cut c d) q.0 (subst (λ x. PathIn (Both o A) (max_cut c d) q.0 x) ends q.1)

min_final : (o : Clocks) (d : Cut) → IsConsistent o (lengths o) → IsConsistent o d → min_cut (lengths o) d ≡ d
min_final o d k l = same_counts (min_cut (lengths o) d) d (omega (arith, length-min (lengths o) d, k.shaped, l.shaped)) (λ i. omega (arith, count-min (lengths o) d i, l.within i))

-- the path of c, cut down to d, and then the path of d
pub staying_min : (o : Clocks) → IsOrder o → (A : Cut → Type 0) → ((x y : Cut) → IsConsistent o x → IsConsistent o y → A x → A y → A (min_cut x y)) → (c d : Cut) → IsConsistent o d → EgHolds o A c → EgHolds o A d → EgHolds o A (min_cut c d)
staying_min o order A keeps c d l w v =
    let p = both_path o A c w.0 (lengths o) w.1 w.2 in
    let at_end = path_last (Both o A) c w.0 (lengths o) p in
    let r = both_path o A d v.0 (lengths o) v.1 v.2 in
    let member = all_first A d v.0 v.2 in
    let q = mapped_path (Both o A) (Both o A) (λ x. min_cut x d) (λ x h. (min_consistent o order x d h.0 l, keeps x d h.0 l h.1 member)) (λ x e h g f. min_steps o d l x e h.0 f) c w.0 (lengths o) p in
    let down = subst (λ x. PathIn (Both o A) (min_cut c d) q.0 x) (min_final o d at_end.0 l) q.1 in
    let all = path_joined (Both o A) (min_cut c d) q.0 d v.0 (lengths o) down r in
    stays o A (min_cut c d) (q.0 ++ v.0) all

-- ---- EX

-- minimum and maximum of the next cuts are the next cuts of minimum and maximum
next_of_min : (c d : Cut) (i : ℕ) → length c ≡ length d → i < length c → min_cut (with_next c i) (with_next d i) ≡ with_next (min_cut c d) i
next_of_min c d i s l = same_counts (min_cut (with_next c i) (with_next d i)) (with_next (min_cut c d) i)
    (omega (arith, length-min (with_next c i) (with_next d i), length-with_next c i, length-with_next d i, length-with_next (min_cut c d) i, length-min c d))
    (λ j. elim (cases_eq j i) [
      | inl e ↦ subst (λ x. count (min_cut (with_next c i) (with_next d i)) x ≡ count (with_next (min_cut c d) i) x) (sym e)
          (omega (arith, count-min (with_next c i) (with_next d i) i, with_next_same c i l, with_next_same d i (omega (arith, l, s)), with_next_same (min_cut c d) i (omega (arith, l, s, length-min c d)), count-min c d i))
      | inr ne ↦ omega (arith, count-min (with_next c i) (with_next d i) j, with_next_other c i j ne, with_next_other d i j ne, with_next_other (min_cut c d) i j ne, count-min c d j)
    ])

next_of_max : (c d : Cut) (i : ℕ) → length c ≡ length d → i < length c → max_cut (with_next c i) (with_next d i) ≡ with_next (max_cut c d) i
next_of_max c d i s l = same_counts (max_cut (with_next c i) (with_next d i)) (with_next (max_cut c d) i)
    (omega (arith, length-max (with_next c i) (with_next d i), length-with_next c i, length-with_next d i, length-with_next (max_cut c d) i, length-max c d))
    (λ j. elim (cases_eq j i) [
      | inl e ↦ subst (λ x. count (max_cut (with_next c i) (with_next d i)) x ≡ count (with_next (max_cut c d) i) x) (sym e)
          (omega (arith, count-max (with_next c i) (with_next d i) i, with_next_same c i l, with_next_same d i (omega (arith, l, s)), with_next_same (max_cut c d) i (omega (arith, l, s, length-max c d)), count-max c d i))
      | inr ne ↦ omega (arith, count-max (with_next c i) (with_next d i) j, with_next_other c i j ne, with_next_other d i j ne, with_next_other (max_cut c d) i j ne, count-max c d j)
    ])

pub next_time_min : (o : Clocks) → IsOrder o → (A : Cut → Type 0) → ((x y : Cut) → IsConsistent o x → IsConsistent o y → A x → A y → A (min_cut x y)) → (c d : Cut) → IsConsistent o c → IsConsistent o d → (i : ℕ) → ExHolds o i A c → ExHolds o i A d → ExHolds o i A (min_cut c d)
next_time_min o order A keeps c d k l i w v =
    let e = next_of_min c d i (k.shaped ∙ sym l.shaped) w.0 in
    let m = next_time_lands o i A c w in
    let n = next_time_lands o i A d v in
    next_time_from o i A (min_cut c d) (omega (arith, length-min c d, k.shaped, l.shaped, w.0)) (min_consistent o order c d k l)
    (subst (IsConsistent o) e (min_consistent o order (with_next c i) (with_next d i) m n))
    (subst A e (keeps (with_next c i) (with_next d i) m n w.2 v.2))

pub next_time_max : (o : Clocks) → IsOrder o → (A : Cut → Type 0) → ((x y : Cut) → IsConsistent o x → IsConsistent o y → A x → A y → A (max_cut x y)) → (c d : Cut) → IsConsistent o c → IsConsistent o d → (i : ℕ) → ExHolds o i A c → ExHolds o i A d → ExHolds o i A (max_cut c d)
next_time_max o order A keeps c d k l i w v =
    let e = next_of_max c d i (k.shaped ∙ sym l.shaped) w.0 in
    let m = next_time_lands o i A c w in
    let n = next_time_lands o i A d v in
    next_time_from o i A (max_cut c d) (omega (arith, length-max c d, k.shaped, l.shaped, w.0)) (max_consistent o order c d k l)
    (subst (IsConsistent o) e (max_consistent o order (with_next c i) (with_next d i) m n))
    (subst A e (keeps (with_next c i) (with_next d i) m n w.2 v.2))

-- ---- together

pub some_time_closed : (o : Clocks) → IsOrder o → (A : Cut → Type 0) → IsSublattice o A → IsSublattice o (λ c. IsConsistent o c × EfHolds o A c)
some_time_closed o order A closed = record {
  consistent = λ c h. h.0;
  has_min = λ c d h l. (min_consistent o order c d h.0 l.0, some_time_min o order A c d h.0 l.0 h.1);
  has_max = λ c d h l. (max_consistent o order c d h.0 l.0, some_time_max o order A (λ x y p q. closed.has_max x y) c d h.0 l.0 h.1 l.1);
}

pub each_time_closed : (o : Clocks) → IsOrder o → (A : Cut → Type 0) → IsSublattice o A → IsSublattice o (λ c. IsConsistent o c × AgHolds o A c)
each_time_closed o order A closed = record {
  consistent = λ c h. h.0;
  has_min = λ c d h l. (min_consistent o order c d h.0 l.0, each_time_min o order A (λ x y p q. closed.has_min x y) c d h.0 l.0 h.1 l.1);
  has_max = λ c d h l. (max_consistent o order c d h.0 l.0, each_time_max o order A c d h.0 h.1);
}

pub staying_closed : (o : Clocks) → IsOrder o → (A : Cut → Type 0) → IsSublattice o A → IsSublattice o (λ c. IsConsistent o c × EgHolds o A c)
staying_closed o order A closed = record {
  consistent = λ c h. h.0;
  has_min = λ c d h l. (min_consistent o order c d h.0 l.0, staying_min o order A (λ x y p q. closed.has_min x y) c d l.0 h.1 l.1);
  has_max = λ c d h l. (max_consistent o order c d h.0 l.0, staying_max o order A (λ x y p q. closed.has_max x y) c d l.0 (all_first A d l.1.0 l.1.2) h.1);
}

pub next_time_closed : (o : Clocks) → IsOrder o → (A : Cut → Type 0) → IsSublattice o A → (i : ℕ) → IsSublattice o (λ c. IsConsistent o c × ExHolds o i A c)
next_time_closed o order A closed i = record {
  consistent = λ c h. h.0;
  has_min = λ c d h l. (min_consistent o order c d h.0 l.0, next_time_min o order A (λ x y p q. closed.has_min x y) c d h.0 l.0 i h.1 l.1);
  has_max = λ c d h l. (max_consistent o order c d h.0 l.0, next_time_max o order A (λ x y p q. closed.has_max x y) c d h.0 l.0 i h.1 l.1);
}
