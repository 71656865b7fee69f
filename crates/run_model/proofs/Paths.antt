-- Paths: they rise, can be joined, and what holds at the end of every path holds at each of its cuts.
use Rattle.std.proofs.Common.{ℕ, ◌<◌, List, [], ◌∷◌, ◌++◌, length, sym, subst, refl}
use Rattle.run_model.specs.Cut.{Cut, Clocks, IsWithin, with_next, Follows}
use Rattle.run_model.specs.Consistent.{IsConsistent, PathIn, IsPath}
use Rattle.run_model.specs.Sublattice.{AllIn}
use Rattle.run_model.specs.Operators.{AgHolds, ExHolds}
use Rattle.run_model.proofs.Counts.{within_refl, within_trans, with_next_above}

pub follows_rises : (c d : Cut) → Follows c d → IsWithin c d
follows_rises c d f = subst (λ x. IsWithin c x) (sym f.2) (with_next_above c f.0 f.1)

pub path_first : (A : Cut → Type 0) (c : Cut) (es : List Cut) (d : Cut) → PathIn A c es d → A c
path_first A c [] d p = p.0
path_first A c (e ∷ es) d p = p.0

pub path_last : (A : Cut → Type 0) (c : Cut) (es : List Cut) (d : Cut) → PathIn A c es d → A d
path_last A c [] d p = subst A p.1 p.0
path_last A c (e ∷ es) d p = path_last A e es d p.2

pub path_rises : (A : Cut → Type 0) (c : Cut) (es : List Cut) (d : Cut) → PathIn A c es d → IsWithin c d
path_rises A c [] d p = subst (λ x. IsWithin c x) p.1 (within_refl c)
path_rises A c (e ∷ es) d p = within_trans c e d (follows_rises c e p.1) (path_rises A e es d p.2)

pub path_joined : (A : Cut → Type 0) (c : Cut) (es : List Cut) (d : Cut) (fs : List Cut) (e : Cut) → PathIn A c es d → PathIn A d fs e → PathIn A c (es ++ fs) e
path_joined A c [] d fs e p q = subst (λ x. PathIn A x fs e) (sym p.1) q
path_joined A c (x ∷ es) d fs e p q = (p.0, p.1, path_joined A x es d fs e p.2 q)

-- a path within a set is one within each set that holds it
pub path_wider : (A B : Cut → Type 0) → ((c : Cut) → A c → B c) → (c : Cut) (es : List Cut) (d : Cut) → PathIn A c es d → PathIn B c es d
path_wider A B h c [] d p = (h c p.0, p.1)
path_wider A B h c (e ∷ es) d p = (h c p.0, p.1, path_wider A B h e es d p.2)

pub all_wider : (A B : Cut → Type 0) → ((c : Cut) → A c → B c) → (c : Cut) (es : List Cut) → AllIn A c es → AllIn B c es
all_wider A B h c [] p = h c p
all_wider A B h c (e ∷ es) p = (h c p.0, all_wider A B h e es p.1)

pub all_first : (A : Cut → Type 0) (c : Cut) (es : List Cut) → AllIn A c es → A c
all_first A c [] p = p
all_first A c (e ∷ es) p = p.0

-- the cuts of a path within a set are in the set
pub path_all : (A : Cut → Type 0) (c : Cut) (es : List Cut) (d : Cut) → PathIn A c es d → AllIn A c es
path_all A c [] d p = p.0
path_all A c (e ∷ es) d p = (p.0, path_all A e es d p.2)

pub all_last : (A B : Cut → Type 0) (c : Cut) (es : List Cut) (d : Cut) → PathIn B c es d → AllIn A c es → A d
all_last A B c [] d p h = subst A p.1 h
all_last A B c (e ∷ es) d p h = all_last A B e es d p.2 h.1

-- a path whose cuts are all in A is a path within both sets
pub path_both : (A B : Cut → Type 0) (c : Cut) (es : List Cut) (d : Cut) → PathIn B c es d → AllIn A c es → PathIn A c es d
path_both A B c [] d p h = (h, p.1)
path_both A B c (e ∷ es) d p h = (h.0, p.1, path_both A B e es d p.2 h.1)

-- what holds at the end of every path from c holds at each cut of every path from c
pub ends_are_all : (A B : Cut → Type 0) (c : Cut) (es : List Cut) (d : Cut) → ((fs : List Cut) (e : Cut) → PathIn B c fs e → A e) → PathIn B c es d → AllIn A c es
ends_are_all A B c [] d h p = h [] c (p.0, refl)
ends_are_all A B c (e ∷ es) d h p = (h [] c (p.0, refl), ends_are_all A B e es d (λ fs x q. h (e ∷ fs) x (p.0, p.1, q)) p.2)

pub each_time_ends : (o : Clocks) (A : Cut → Type 0) (c : Cut) → AgHolds o A c → (es : List Cut) (d : Cut) → IsPath o c es d → A d
each_time_ends o A c h es d p = all_last A (IsConsistent o) c es d p (h es d p)

pub each_time_from_ends : (o : Clocks) (A : Cut → Type 0) (c : Cut) → ((es : List Cut) (d : Cut) → IsPath o c es d → A d) → AgHolds o A c
each_time_from_ends o A c h es d p = ends_are_all A (IsConsistent o) c es d h p

-- a step to a consistent cut of the set is a path of two cuts
pub next_time_from : (o : Clocks) (i : ℕ) (A : Cut → Type 0) (c : Cut) → i < length c → IsConsistent o c → IsConsistent o (with_next c i) → A (with_next c i) → ExHolds o i A c
next_time_from o i A c l k n h = (l, (k, (i, l, refl), (n, refl)), h)

pub next_time_lands : (o : Clocks) (i : ℕ) (A : Cut → Type 0) (c : Cut) → ExHolds o i A c → IsConsistent o (with_next c i)
next_time_lands o i A c w = path_last (IsConsistent o) c (with_next c i ∷ []) (with_next c i) w.1
