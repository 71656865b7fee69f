-- Host lines and hosts in lists of references.
use Rattle.std.proofs.Common.{◌≡◌, ℕ, zero, suc, ◌+◌, ◌<◌, ◌≤◌, Bool, true, false, Option, Some, None, List, [], ◌∷◌, ◌++◌, length, map, take, drop, get_or, replicate, refl, sym, ap, ◌∙◌, arith}
use Rattle.std.specs.Prelude.{is_some, not, ◌||◌}
use Rattle.std.specs.Borrow.{Bor}
use Rattle.std.specs.List.{list_any, AllByRecursion}
use Rattle.std.specs.Option.{option_map}
use Rattle.std.proofs.lemmas.List.{drop_more, take_more, take_all, drop_all, get_or-map, length-map}
use Rattle.event_log.specs.declared.log.Binding.{Binding}
use Rattle.event_log.specs.declared.log.Header.{Header}
use Rattle.serde_json.specs.Data.{Members}
use Rattle.fault_kinds.specs.declared.import.ImportCode.{ImportCode}
use Rattle.fault_kinds.specs.declared.import.ImportCode.TheVariants as code
use Rattle.vclog_import.specs.declared.host_lines.HostLine.{HostLine}
use Rattle.vclog_import.specs.Lines.{Record}
use Rattle.vclog_import.specs.Hosts.{Host, name_of}
use Rattle.vclog_import.specs.inside.Hosts.{IsNamed}
use Rattle.vclog_import.specs.Clock.{clock_in}
use Rattle.vclog_import.specs.Faults.{at_line, is_bad}
use Rattle.vclog_import.specs.Imported.{counting, header_of}
use Rattle.vclog_import.specs.inside.Reading.{record_of, records}
use Rattle.vclog_import.specs.inside.Scans.{hosts_in, bad_clock, first_bad_clock}
use Rattle.vclog_import.proofs.Firsts.{bad_clock-none, bad_clock-some, no_bad_clock}

-- ---- clocks

pub is_some-map : {A B : Type 0} (f : A → B) (o : Option A) → is_some (option_map f o) ≡ is_some o
is_some-map f None = refl
is_some-map f (Some x) = refl

pub bad_where_bad : (r : Record) → is_bad r ≡ true → bad_clock r ≡ None
bad_where_bad r bad = rw bad refl

pub bad_where_none : (r : Record) → is_bad r ≡ false → is_some (clock_in r.clock) ≡ false → bad_clock r ≡ Some code.BadClock
bad_where_none r fine none = rw (fine, none) refl

pub good_where_some : (r : Record) → is_some (clock_in r.clock) ≡ true → bad_clock r ≡ None
good_where_some r some = go (is_bad r) refl
  where
    go : (b : Bool) → is_bad r ≡ b → bad_clock r ≡ None
    go true bad = bad_where_bad r bad
    go false fine = rw (fine, some) refl

pub has_bad : (r : Record) (found : Bool) → is_bad r ≡ false → is_some (clock_in r.clock) ≡ found → not found ≡ is_some (bad_clock r)
has_bad r true fine some = sym (ap is_some (good_where_some r some))
has_bad r false fine none = sym (ap is_some (bad_where_none r fine none))

pub told_bad : {A : Type 0} (r : Record) (f : A → Members) (found : Option A) (none : Bool) → is_bad r ≡ false → option_map f found ≡ clock_in r.clock → is_some found ≡ not none → none ≡ is_some (bad_clock r)
told_bad r f found none fine is told = turned none (is_some found) told ∙ has_bad r (is_some found) fine (ap is_some (sym is) ∙ is_some-map f found)
  where
    turned : (a b : Bool) → b ≡ not a → a ≡ not b
    turned true b e = sym (ap not e)
    turned false b e = sym (ap not e)

-- what a bad clock is
pub only_bad : (r : Record) → is_some (bad_clock r) ≡ true → bad_clock r ≡ Some code.BadClock
only_bad r some = go (is_bad r) (is_some (clock_in r.clock)) refl refl
  where
    go : (b k : Bool) → is_bad r ≡ b → is_some (clock_in r.clock) ≡ k → bad_clock r ≡ Some code.BadClock
    go true k bad is = absurd (let e = bad_where_bad r bad in let f = sym (ap is_some e) ∙ some in cc)
    go false true fine is = absurd (let e = good_where_some r is in let f = sym (ap is_some e) ∙ some in cc)
    go false false fine is = bad_where_none r fine is

pub none_bad : (o : Option ImportCode) → is_some o ≡ false → o ≡ None
none_bad None e = refl
none_bad (Some c) e = absurd cc

lines_cut : (lines : List HostLine) (i : ℕ) (d : HostLine) → i < length lines → records (drop i lines) ≡ record_of (get_or lines i d) ∷ records (drop (i + 1) lines)
lines_cut lines i d lt = ap (λ (ls : List HostLine). records ls) (drop_more lines i d lt)

pub bad_line : (lines : List HostLine) (i : ℕ) (d : HostLine) → i < length lines → is_some (bad_clock (record_of (get_or lines i d))) ≡ true → first_bad_clock (records (drop i lines)) ≡ Some (at_line (record_of (get_or lines i d)) code.BadClock)
bad_line lines i d lt bad = ap first_bad_clock (lines_cut lines i d lt) ∙ bad_clock-some (record_of (get_or lines i d)) (records (drop (i + 1) lines)) code.BadClock (only_bad (record_of (get_or lines i d)) bad)

pub good_line : (lines : List HostLine) (i : ℕ) (d : HostLine) → i < length lines → is_some (bad_clock (record_of (get_or lines i d))) ≡ false → first_bad_clock (records (drop i lines)) ≡ first_bad_clock (records (drop (i + 1) lines))
good_line lines i d lt good = ap first_bad_clock (lines_cut lines i d lt) ∙ bad_clock-none (record_of (get_or lines i d)) (records (drop (i + 1) lines)) (none_bad (bad_clock (record_of (get_or lines i d))) good)

pub no_line_bad : (lines : List HostLine) (i : ℕ) → length lines ≤ i → first_bad_clock (records (drop i lines)) ≡ None
no_line_bad lines i past = ap (λ (ls : List HostLine). first_bad_clock (records ls)) (drop_all i lines past) ∙ no_bad_clock

-- ---- hosts

pub host_at : (hosts : List (Bor Host)) (i : ℕ) (x : Bor Host) → i < length hosts → x ≡ get_or hosts i x → x.now ≡ get_or (hosts_in hosts) i x.now
host_at hosts i x lt is = ap (λ (h : Bor Host). h.now) is ∙ sym (get_or-map (λ (h : Bor Host). h.now) hosts i x x.now lt)

pub any_here : (p : Host → Bool) (hosts : List (Bor Host)) (i : ℕ) (d : Bor Host) → i < length hosts → p (get_or hosts i d).now ≡ true → list_any p (hosts_in (drop i hosts)) ≡ true
any_here p hosts i d lt yes_p = ap (λ (hs : List (Bor Host)). list_any p (hosts_in hs)) (drop_more hosts i d lt) ∙ ap (λ (b : Bool). b || list_any p (hosts_in (drop (i + 1) hosts))) yes_p

pub any_later : (p : Host → Bool) (hosts : List (Bor Host)) (i : ℕ) (d : Bor Host) → i < length hosts → p (get_or hosts i d).now ≡ false → list_any p (hosts_in (drop i hosts)) ≡ list_any p (hosts_in (drop (i + 1) hosts))
any_later p hosts i d lt no_p = ap (λ (hs : List (Bor Host)). list_any p (hosts_in hs)) (drop_more hosts i d lt) ∙ ap (λ (b : Bool). b || list_any p (hosts_in (drop (i + 1) hosts))) no_p

pub any_none : (p : Host → Bool) (hosts : List (Bor Host)) (i : ℕ) → length hosts ≤ i → list_any p (hosts_in (drop i hosts)) ≡ false
any_none p hosts i past = ap (λ (hs : List (Bor Host)). list_any p (hosts_in hs)) (drop_all i hosts past)

-- ---- the header

pub named_at : (hosts : List (Bor Host)) (i : ℕ) (d : Bor Host) → AllByRecursion IsNamed (hosts_in hosts) → i < length hosts → IsNamed (get_or hosts i d).now
named_at [] i d all lt = absurd (omega arith)
named_at (h ∷ hosts) zero d all lt = all.0
named_at (h ∷ hosts) (suc i) d all lt = named_at hosts i d all.1 (omega arith)

-- the header with the first i hosts
pub record HasHosts (h : Header) (hosts : List (Bor Host)) (i : ℕ) : Type 0 where
  pub version_is : h.version ≡ 1
  pub procs_are : h.procs ≡ map name_of (hosts_in (take i hosts))
  pub vars_are : h.vars ≡ replicate i (counting ∷ [])
  pub lines_are : h.var_lines ≡ replicate i 0

replicate-more : {A : Type 0} (i : ℕ) (x : A) → replicate i x ++ x ∷ [] ≡ replicate (i + 1) x
replicate-more {A} i x = go i ∙ let e : suc i ≡ i + 1 = omega arith in ap (λ (n : ℕ). replicate n x) e
  where
    go : (n : ℕ) → replicate n x ++ x ∷ [] ≡ x ∷ replicate n x
    go zero = refl
    go (suc n) = ap (λ (xs : List A). x ∷ xs) (go n)

pub host_more : (h k : Header) (hosts : List (Bor Host)) (i : ℕ) (d : Bor Host) → HasHosts h hosts i → i < length hosts → k.version ≡ h.version → k.procs ≡ h.procs ++ name_of (get_or hosts i d).now ∷ [] → k.vars ≡ h.vars ++ (counting ∷ []) ∷ [] → k.var_lines ≡ h.var_lines ++ 0 ∷ [] → HasHosts k hosts (i + 1)
host_more h k hosts i d so lt version procs vars lines = record {
  version_is = version ∙ so.version_is;
  procs_are = procs ∙ ap (λ (ns : List (List ℕ)). ns ++ name_of (get_or hosts i d).now ∷ []) so.procs_are ∙ sym (ap (λ (hs : List (Bor Host)). map name_of (hosts_in hs)) (take_more hosts i d lt) ∙ mapped (take i hosts) (get_or hosts i d));
  vars_are = vars ∙ ap (λ (vs : List (List Binding)). vs ++ (counting ∷ []) ∷ []) so.vars_are ∙ replicate-more i (counting ∷ []);
  lines_are = lines ∙ ap (λ (ns : List ℕ). ns ++ 0 ∷ []) so.lines_are ∙ replicate-more i 0;
}
  where
    mapped : (hs : List (Bor Host)) (x : Bor Host) → map name_of (hosts_in (hs ++ x ∷ [])) ≡ map name_of (hosts_in hs) ++ name_of x.now ∷ []
    mapped [] x = refl
    mapped (g ∷ hs) x = ap (λ (ns : List (List ℕ)). name_of g.now ∷ ns) (mapped hs x)

pub all_hosts : (h : Header) (hosts : List (Bor Host)) (i : ℕ) → HasHosts h hosts i → i ≡ length hosts → h ≡ header_of (hosts_in hosts)
all_hosts h hosts i so end =
    let procs : h.procs ≡ map name_of (hosts_in hosts) = so.procs_are ∙ ap (λ (hs : List (Bor Host)). map name_of (hosts_in hs)) (take_all i hosts (omega (arith, end))) in
    let long : i ≡ length (hosts_in hosts) = end ∙ sym (length-map hosts (λ (g : Bor Host). g.now)) in
    let vars : h.vars ≡ replicate (length (hosts_in hosts)) (counting ∷ []) = so.vars_are ∙ ap (λ (n : ℕ). replicate n (counting ∷ [])) long in
    let lines : h.var_lines ≡ replicate (length (hosts_in hosts)) 0 = so.lines_are ∙ ap (λ (n : ℕ). replicate n 0) long in
    ap (λ (v : ℕ). record h { version = v }) so.version_is ∙ ap (λ (ns : List (List ℕ)). record h { version = 1; procs = ns }) procs
    ∙ ap (λ (vs : List (List Binding)). record { version = 1; procs = map name_of (hosts_in hosts); vars = vs; var_lines = h.var_lines }) vars
    ∙ ap (λ (ns : List ℕ). record { version = 1; procs = map name_of (hosts_in hosts); vars = replicate (length (hosts_in hosts)) (counting ∷ []); var_lines = ns }) lines
