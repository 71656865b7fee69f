-- Hosts in their order: which ones they are, that each is there once, and that each has a place.
use Rattle.std.proofs.Common.{◌≡◌, ℕ, ◌+◌, Bool, true, false, List, [], ◌∷◌, ◌++◌, refl, sym, ap, ◌∙◌, inl, inr}
use Rattle.std.specs.Prelude.{is_some, ◌||◌}
use Rattle.std.specs.List.{list_any, AllByRecursion}
use Rattle.std.specs.List.Sorted.{IsStrictlySortedBy}
use Rattle.std.specs.declared.cmp.Ordering.{Ordering}
use Rattle.std.specs.declared.cmp.Ordering.TheVariants.{Less, Equal, Greater}
use Rattle.std.specs.Ordering.{match_ordering, nat_cmp, is_eq, ordering_reverse}
use Rattle.std.specs.Cmp.Lexicographic.{slice_cmp}
use Rattle.std.specs.Str.{bytes_eq}
use Rattle.std.proofs.lemmas.Bool.{cases_Bool}
use Rattle.std.proofs.lemmas.Cmp.{nat_list_cmp_total}
use Rattle.std.proofs.lemmas.Map.Text.{is_eq-slice_cmp}
use Rattle.std.proofs.lemmas.Slice.Eq.{bytes_eq-Decides}
use Rattle.log_lines.specs.Names.{place_from, place_of, are_distinct}
use Rattle.vclog_import.specs.Lines.{Record}
use Rattle.vclog_import.specs.Hosts.{Host, with_host, hosts_from, hosts_of}

-- ---- tests of all hosts

pub or_none : (a : Bool) → (a || false) ≡ a
or_none true = refl
or_none false = refl

or_twice : (a b : Bool) → (a || b) ≡ (a || (a || b))
or_twice true b = refl
or_twice false b = refl

or_swap : (a b c : Bool) → (b || (a || c)) ≡ (a || (b || c))
or_swap true true c = refl
or_swap true false c = refl
or_swap false b c = refl

-- equal hosts are one
pub same_host : (g h : Host) → slice_cmp nat_cmp g h ≡ Equal → g ≡ h
same_host g h is = (bytes_eq-Decides g h).0 (sym (is_eq-slice_cmp g h) ∙ ap is_eq is)

pub any-with_host : (p : Host → Bool) (h : Host) (ks : List Host) → list_any p (with_host h ks) ≡ (p h || list_any p ks)
unfolding with_host
any-with_host p h [] = refl
any-with_host p h (k ∷ ks) = go (any-with_host p h ks) (slice_cmp nat_cmp h k) refl
  where
    go : list_any p (with_host h ks) ≡ (p h || list_any p ks) → (o : Ordering) → slice_cmp nat_cmp h k ≡ o → list_any p (match_ordering o (h ∷ k ∷ ks) (k ∷ ks) (k ∷ with_host h ks)) ≡ (p h || (p k || list_any p ks))
    go rest Less is = refl
    go rest Equal is = or_twice (p k) (list_any p ks) ∙ ap (λ (x : Host). p x || (p k || list_any p ks)) (sym (same_host h k is))
    go rest Greater is = ap (λ (b : Bool). p k || b) rest ∙ or_swap (p h) (p k) (list_any p ks)

pub hosts_from-push : (hosts : List Host) (rs : List Record) (r : Record) → hosts_from hosts (rs ++ r ∷ []) ≡ with_host r.host (hosts_from hosts rs)
unfolding hosts_from
hosts_from-push hosts [] r = refl
hosts_from-push hosts (q ∷ rs) r = hosts_from-push (with_host q.host hosts) rs r

any-hosts_from : (p : Host → Bool) (hosts : List Host) (rs : List Record) → list_any p (hosts_from hosts rs) ≡ (list_any (λ (r : Record). p r.host) rs || list_any p hosts)
unfolding hosts_from
any-hosts_from p hosts [] = refl
any-hosts_from p hosts (r ∷ rs) =
    any-hosts_from p (with_host r.host hosts) rs
    ∙ ap (λ (b : Bool). list_any (λ (q : Record). p q.host) rs || b) (any-with_host p r.host hosts)
    ∙ or_move (list_any (λ (q : Record). p q.host) rs) (p r.host) (list_any p hosts)
  where
    or_move : (a b c : Bool) → (a || (b || c)) ≡ ((b || a) || c)
    or_move true true c = refl
    or_move true false c = refl
    or_move false true c = refl
    or_move false false c = refl

-- a test passes at a host of the records exactly where it does at one of the records
pub any-hosts : (p : Host → Bool) (rs : List Record) → list_any p (hosts_of rs) ≡ list_any (λ (r : Record). p r.host) rs
any-hosts p rs = any-hosts_from p [] rs ∙ or_none (list_any (λ (r : Record). p r.host) rs)

-- ---- the order

-- each of the hosts stands behind this one in the order
abbrev pub AllBehind : Host → List Host → Type 0
AllBehind k hosts = AllByRecursion (λ (h : Host). slice_cmp nat_cmp k h ≡ Less) hosts

abbrev pub Ascend : List Host → Type 0
Ascend hosts = IsStrictlySortedBy (slice_cmp nat_cmp) hosts

all-with_host : (P : Host → Type 0) (h : Host) (ks : List Host) → P h → AllByRecursion P ks → AllByRecursion P (with_host h ks)
unfolding with_host
all-with_host P h [] one all = (one, tt)
all-with_host P h (k ∷ ks) one all = go (all-with_host P h ks one all.1) (slice_cmp nat_cmp h k)
  where
    go : AllByRecursion P (with_host h ks) → (o : Ordering) → AllByRecursion P (match_ordering o (h ∷ k ∷ ks) (k ∷ ks) (k ∷ with_host h ks))
    go rest Less = (one, all)
    go rest Equal = all
    go rest Greater = (all.0, rest)

behind_all : (h k : Host) (ks : List Host) → slice_cmp nat_cmp h k ≡ Less → AllBehind k ks → AllBehind h ks
behind_all h k [] less all = tt
behind_all h k (x ∷ ks) less all = (nat_list_cmp_total.trans h k x less all.0, behind_all h k ks less all.1)

ascend-with_host : (h : Host) (ks : List Host) → Ascend ks → Ascend (with_host h ks)
unfolding with_host IsStrictlySortedBy
ascend-with_host h [] up = (tt, tt)
ascend-with_host h (k ∷ ks) up = go (ascend-with_host h ks up.1) (slice_cmp nat_cmp h k) refl
  where
    go : Ascend (with_host h ks) → (o : Ordering) → slice_cmp nat_cmp h k ≡ o → Ascend (match_ordering o (h ∷ k ∷ ks) (k ∷ ks) (k ∷ with_host h ks))
    go rest Less is = ((is, behind_all h k ks is up.0), up)
    go rest Equal is = up
    go rest Greater is = (all-with_host (λ (x : Host). slice_cmp nat_cmp k x ≡ Less) h ks (nat_list_cmp_total.antisymm k h ∙ ap ordering_reverse is) up.0, rest)

ascend-hosts : (hosts : List Host) (rs : List Record) → Ascend hosts → Ascend (hosts_from hosts rs)
unfolding hosts_from
ascend-hosts hosts [] up = up
ascend-hosts hosts (r ∷ rs) up = ascend-hosts (with_host r.host hosts) rs (ascend-with_host r.host hosts up)

-- ---- places

-- a host has a place exactly where it is one of them
pub placed-from : (n : ℕ) (hosts : List Host) (host : Host) → is_some (place_from n hosts host) ≡ list_any (λ (h : Host). bytes_eq h host) hosts
placed-from n [] host = refl
placed-from n (k ∷ ks) host = elim (cases_Bool (bytes_eq k host)) [
  | inl same ↦ rw same refl
  | inr other ↦ rw other (placed-from (n + 1) ks host)
]

once : (k : Host) (ks : List Host) → AllBehind k ks → list_any (λ (h : Host). bytes_eq h k) ks ≡ false
once k [] all = refl
once k (x ∷ ks) all =
    let other : bytes_eq x k ≡ false = sym (is_eq-slice_cmp x k) ∙ ap is_eq (nat_list_cmp_total.antisymm x k ∙ ap ordering_reverse all.0) in
    rw other (once k ks all.1)

ascending_distinct : (hosts : List Host) → Ascend hosts → are_distinct hosts ≡ true
unfolding IsStrictlySortedBy
ascending_distinct [] up = refl
ascending_distinct (k ∷ ks) up =
    let none : is_some (place_of ks k) ≡ false = placed-from 0 ks k ∙ once k ks up.0 in
    rw none (ascending_distinct ks up.1)

-- each host stands once
pub hosts_are_distinct : (rs : List Record) → are_distinct (hosts_of rs) ≡ true
unfolding IsStrictlySortedBy
hosts_are_distinct rs = ascending_distinct (hosts_of rs) (ascend-hosts [] rs tt)

-- what holds of the host of each record holds of each host
pub all-hosts : (P : Host → Type 0) (rs : List Record) → AllByRecursion (λ (r : Record). P r.host) rs → AllByRecursion P (hosts_of rs)
unfolding hosts_from
all-hosts P rs all = go [] rs tt all
  where
    go : (hosts : List Host) (qs : List Record) → AllByRecursion P hosts → AllByRecursion (λ (r : Record). P r.host) qs → AllByRecursion P (hosts_from hosts qs)
    go hosts [] so more = so
    go hosts (q ∷ qs) so more = go (with_host q.host hosts) qs (all-with_host P q.host hosts more.0 so) more.1

-- the host of a record is one of the hosts
pub host_is_placed : (before : List Record) (r : Record) (behind : List Record) → is_some (place_of (hosts_of (before ++ r ∷ behind)) r.host) ≡ true
host_is_placed before r behind =
    placed-from 0 (hosts_of (before ++ r ∷ behind)) r.host
    ∙ any-hosts (λ (h : Host). bytes_eq h r.host) (before ++ r ∷ behind)
    ∙ found before
  where
    or_true : (a : Bool) → (a || true) ≡ true
    or_true true = refl
    or_true false = refl

    found : (front : List Record) → list_any (λ (g : Record). bytes_eq g.host r.host) (front ++ r ∷ behind) ≡ true
    found [] = let same : bytes_eq r.host r.host ≡ true = (bytes_eq-Decides r.host r.host).1 refl in rw same refl
    found (g ∷ front) = ap (λ (b : Bool). bytes_eq g.host r.host || b) (found front) ∙ or_true (bytes_eq g.host r.host)
