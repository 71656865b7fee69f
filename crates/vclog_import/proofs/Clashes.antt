-- Hosts whose processes would have one name.
use Rattle.std.proofs.Common.{◌≡◌, Bool, true, false, Some, None, List, [], ◌∷◌, refl, sym, ap, subst, ◌∙◌, inl, inr, ◌⊎◌}
use Rattle.std.specs.Prelude.{not, ◌||◌, if◌then◌else◌}
use Rattle.std.specs.List.{list_any}
use Rattle.std.specs.Str.{bytes_eq}
use Rattle.std.proofs.lemmas.Bool.{cases_Bool, or_cases, or_parts, or_from, or_right, and_left, and_right}
use Rattle.std.proofs.lemmas.Slice.Eq.{bytes_eq-Decides}
use Rattle.fault_kinds.specs.declared.import.ImportCode.TheVariants as code
use Rattle.vclog_import.specs.Lines.{Record}
use Rattle.vclog_import.specs.Hosts.{Host, name_of, with_host, hosts_from, hosts_of, do_clash}
use Rattle.vclog_import.specs.Faults.{clash_fault}
use Rattle.vclog_import.specs.inside.Scans.{Has, AreApart}
use Rattle.vclog_import.proofs.HostLaws.{any-with_host, any-hosts}

same_bytes : (g h : Host) → g ≡ h → bytes_eq g h ≡ true
same_bytes g h is = (bytes_eq-Decides g h).1 is

-- a host doesn't clash with itself
pub no_clash_with_itself : (h : Host) → do_clash h h ≡ false
no_clash_with_itself h = and_right (bytes_eq (name_of h) (name_of h)) (not (bytes_eq h h)) (ap not (same_bytes h h refl))

-- where one name means one host, they don't clash
pub no_clash : (g h : Host) → (name_of g ≡ name_of h → g ≡ h) → do_clash g h ≡ false
no_clash g h apart = elim (cases_Bool (bytes_eq (name_of g) (name_of h))) [
  | inl same ↦ and_right (bytes_eq (name_of g) (name_of h)) (not (bytes_eq g h)) (ap not (same_bytes g h (apart ((bytes_eq-Decides (name_of g) (name_of h)).0 same))))
  | inr other ↦ and_left (bytes_eq (name_of g) (name_of h)) (not (bytes_eq g h)) other
]

-- and where they don't, one name means one host
pub one_host : (g h : Host) → do_clash g h ≡ false → name_of g ≡ name_of h → g ≡ h
one_host g h none same =
    let names : bytes_eq (name_of g) (name_of h) ≡ true = same_bytes (name_of g) (name_of h) same in
    let hosts : not (bytes_eq g h) ≡ false = rw names at none in
    (bytes_eq-Decides g h).0 (not_false (bytes_eq g h) hosts)
  where
    not_false : (b : Bool) → not b ≡ false → b ≡ true
    not_false true e = refl
    not_false false e = sym e

pub none_of : (p : Host → Bool) (hosts : List Host) (g : Host) → list_any p hosts ≡ false → Has g hosts → p g ≡ false
none_of p [] g none has = absurd cc
none_of p (k ∷ hosts) g none has =
    let parts = or_parts (p k) (list_any p hosts) none in
    elim (or_cases (bytes_eq k g) (list_any (λ (h : Host). bytes_eq h g) hosts) has) [
      | inl same ↦ subst (λ (x : Host). p x ≡ false) ((bytes_eq-Decides k g).0 same) parts.0
      | inr later ↦ none_of p hosts g parts.1 later
    ]

-- a host that is there clashes with none of those that are apart
pub known_clashes_not : (hosts : List Host) (h : Host) → AreApart hosts → Has h hosts → list_any (λ (k : Host). do_clash k h) hosts ≡ false
known_clashes_not hosts h apart has = go hosts (λ g there. there)
  where
    go : (ks : List Host) → ((g : Host) → Has g ks → Has g hosts) → list_any (λ (k : Host). do_clash k h) ks ≡ false
    go [] within = refl
    go (k ∷ ks) within =
        let first : Has k (k ∷ ks) = ap (λ (b : Bool). b || list_any (λ (x : Host). bytes_eq x k) ks) (same_bytes k k refl) in
        or_from (do_clash k h) (list_any (λ (x : Host). do_clash x h) ks)
        (no_clash k h (apart k h (within k first) has))
        (go ks (λ g there. within g (or_right (bytes_eq k g) (list_any (λ (x : Host). bytes_eq x g) ks) there)))

has_with : (g h : Host) (hosts : List Host) → Has g (with_host h hosts) → (h ≡ g) ⊎ Has g hosts
has_with g h hosts has = elim (or_cases (bytes_eq h g) (list_any (λ (x : Host). bytes_eq x g) hosts) (sym (any-with_host (λ (x : Host). bytes_eq x g) h hosts) ∙ has)) [
  | inl same ↦ inl ((bytes_eq-Decides h g).0 same)
  | inr there ↦ inr there
]

-- hosts that are apart stay so with one more that clashes with none of them
pub apart_more : (hosts : List Host) (h : Host) → AreApart hosts → list_any (λ (k : Host). do_clash k h) hosts ≡ false → AreApart (with_host h hosts)
apart_more hosts h apart none f g has_f has_g same = elim (has_with f h hosts has_f) [
  | inl is_f ↦ elim (has_with g h hosts has_g) [
    | inl is_g ↦ sym is_f ∙ is_g
    | inr there_g ↦ sym is_f ∙ sym (one_host g h (none_of (λ (k : Host). do_clash k h) hosts g none there_g) (sym same ∙ ap name_of (sym is_f)))
  ]
  | inr there_f ↦ elim (has_with g h hosts has_g) [
    | inl is_g ↦ one_host f h (none_of (λ (k : Host). do_clash k h) hosts f none there_f) (same ∙ ap name_of (sym is_g)) ∙ is_g
    | inr there_g ↦ apart f g there_f there_g same
  ]
]

-- whether the hosts before a record clash with its host
pub clash_is : (before : List Record) (r : Record) → clash_fault before r ≡ (if list_any (λ (h : Host). do_clash h r.host) (hosts_of before) then Some code.HostClash else None)
clash_is before r = ap (λ (b : Bool). if b then Some code.HostClash else None) (sym (any-hosts (λ (h : Host). do_clash h r.host) before))

pub clash_with : (h : Host) (hosts : List Host) → list_any (λ (k : Host). do_clash k h) (with_host h hosts) ≡ list_any (λ (k : Host). do_clash k h) hosts
clash_with h hosts = any-with_host (λ (k : Host). do_clash k h) h hosts ∙ ap (λ (b : Bool). b || list_any (λ (k : Host). do_clash k h) hosts) (no_clash_with_itself h)

pub no_hosts_apart : AreApart (hosts_of [])
unfolding hosts_from
no_hosts_apart g h has_g has_h same = absurd cc
