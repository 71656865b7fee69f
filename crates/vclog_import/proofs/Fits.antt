-- An imported log may be handed on.
use Rattle.std.proofs.Common.{◌≡◌, ℕ, zero, suc, ◌+◌, ◌^◌, ◌<◌, ◌≤◌, Bool, true, false, Option, Some, None, List, [], ◌∷◌, ◌++◌, length, map, replicate, refl, sym, ap, subst, ◌∙◌, arith, inl, inr, append_assoc, length-append, lit≤, lit<, rules}
use Rattle.std.specs.Prelude.{is_some, unwrap_or, option_and_then, not, ◌||◌, ◌&&◌, ◌==◌, nat_lt, nat_le, pos, FitsSigned, if◌then◌else◌}
use Rattle.std.specs.Int.{w64}
use Rattle.std.specs.List.{AllByRecursion, list_any, list_all}
use Rattle.std.specs.Str.{bytes_eq}
use Rattle.std.proofs.lemmas.Bool.{cases_Bool, or_parts, or_from, or_left, or_right, and_from, and_parts, not-true}
use Rattle.std.proofs.lemmas.Bool.Decides.{nat_tests, Decides-ltb}
use Rattle.std.proofs.lemmas.Int.{ints}
use Rattle.std.proofs.lemmas.List.Sums.{count_by-le-length}
use Rattle.std.proofs.lemmas.List.{append-nil, length-map, length-replicate}
use Rattle.std.proofs.lemmas.Slice.Eq.{bytes_eq-Decides}
use Rattle.pota_base.specs.Limits.{longest_name, most_events, most_processes}
use Rattle.log_lines.specs.Names.{place_of, are_distinct}
use Rattle.log_lines.specs.Reading.{choose}
use Rattle.log_lines.specs.Spelling.{names_of}
use Rattle.pota_names.specs.Names.{is_name, is_name_start, is_name_byte}
use Rattle.event_log.specs.declared.log.Binding.{Binding}
use Rattle.event_log.specs.declared.log.Event.{Event}
use Rattle.event_log.specs.declared.log.Header.{Header}
use Rattle.event_log.specs.declared.item.Item.TheVariants as item
use Rattle.event_log.specs.FittingItems.{FitFrom}
use Rattle.event_log.specs.LogText.{named, AssignFits, BindingsFit, HeaderFits, EventFits, event_items}
use Rattle.event_log.specs.Numbers.{variables_at}
use Rattle.serde_json.specs.Data.{Data, Members}
use Rattle.serde_json.specs.Find.{get_member, as_number, as_u64}
use Rattle.fault_kinds.specs.declared.import.ImportCode.{ImportCode}
use Rattle.fault_kinds.specs.declared.import.ImportCode.TheVariants as code
use Rattle.fault_kinds.specs.declared.import.ImportFault.{ImportFault}
use Rattle.vclog_import.specs.Lines.{Record, is_due_behind}
use Rattle.vclog_import.specs.Hosts.{Host, name_byte, name_of, hosts_of, records_of, do_clash}
use Rattle.vclog_import.specs.inside.Hosts.{IsNamed}
use Rattle.vclog_import.specs.Clock.{counter, clock_of, count_of}
use Rattle.vclog_import.specs.Faults.{Judge, first_of, is_bad, is_host_too_many, is_record_too_many, clock_fault, number_fault, line_fault, clash_fault, unknown_fault, is_too_long, is_truncated, ended_at, last_line, judged, judged_lines, earlier, fault_of}
use Rattle.vclog_import.specs.Imported.{counting, header_of, event_of, events_from}
use Rattle.vclog_import.specs.inside.Scans.{Has, AreApart, IsFine}
use Rattle.vclog_import.specs.Laws.{ImportedLogsFit}
use Rattle.vclog_import.proofs.Firsts.{cases_Option, first_of-none, first_of-some}
use Rattle.vclog_import.proofs.HostLaws.{hosts_are_distinct, hosts_from-push, all-hosts, placed-from}
use Rattle.vclog_import.proofs.Clashes.{no_hosts_apart, apart_more, clash_is}
use Rattle.vclog_import.proofs.Placed.{IsPlaced, placed_all}

-- ---- names

byte_of_name : (b : ℕ) → is_name_byte (name_byte b) ≡ true
byte_of_name b = elim (cases_Bool (is_name_byte b)) [
  | inl is ↦ rw is is
  | inr other ↦ rw other refl
]

bytes_of_name : (host : Host) → list_all is_name_byte (map name_byte host) ≡ true
bytes_of_name [] = refl
bytes_of_name (b ∷ host) = and_from (is_name_byte (name_byte b)) (list_all is_name_byte (map name_byte host)) (byte_of_name b) (bytes_of_name host)

-- a byte that is no digit becomes one that a name may begin with
start_of_name : (b : ℕ) → (nat_le 48 b && nat_le b 57) ≡ false → is_name_start (name_byte b) ≡ true
start_of_name b other = go (is_name_byte b) refl
  where
    left : (x y : Bool) → (x || y) ≡ true → y ≡ false → x ≡ true
    left true y e none = refl
    left false y e none = sym none ∙ e

    go : (t : Bool) → is_name_byte b ≡ t → is_name_start (if t then b else 95) ≡ true
    go true is = left (is_name_start b) (nat_le 48 b && nat_le b 57) is other
    go false is = refl

few_left : (n : ℕ) → n + 1 ≤ longest_name → nat_lt n longest_name ≡ true
few_left n le = grind (arith, nat_tests)

-- a host of at most 64 bytes of name, and not none, has a name
pub host_is_named : (host : Host) → 0 < length host → length (name_of host) ≤ longest_name → is_name (name_of host) ≡ true
host_is_named [] some few = absurd (omega arith)
host_is_named (b ∷ host) some few = go (nat_le 48 b && nat_le b 57) refl few
  where
    go : (t : Bool) → (nat_le 48 b && nat_le b 57) ≡ t → length (if t then 95 ∷ map name_byte (b ∷ host) else map name_byte (b ∷ host)) ≤ longest_name → is_name (if t then 95 ∷ map name_byte (b ∷ host) else map name_byte (b ∷ host)) ≡ true
    go true is le = and_from (nat_lt (length (map name_byte (b ∷ host))) longest_name) (list_all is_name_byte (map name_byte (b ∷ host))) (few_left (length (map name_byte (b ∷ host))) (omega (arith, le))) (bytes_of_name (b ∷ host))
    go false is le = and_from (is_name_start (name_byte b)) (nat_lt (length (map name_byte host)) longest_name && list_all is_name_byte (map name_byte host)) (start_of_name b is)
        (and_from (nat_lt (length (map name_byte host)) longest_name) (list_all is_name_byte (map name_byte host)) (few_left (length (map name_byte host)) (omega (arith, le))) (bytes_of_name host))

not_zero : (n : ℕ) → (n == 0) ≡ false → 0 < n
not_zero n other = grind (arith, nat_tests)

not_more : (m n : ℕ) → nat_lt m n ≡ false → n ≤ m
not_more m n other = grind (arith, nat_tests)

not_least : (m n : ℕ) → nat_le m n ≡ false → n < m
not_least m n other = grind (arith, nat_tests)

-- the host of a host line that isn't bad has a name
pub fine_is_named : (r : Record) → IsFine r → IsNamed r.host
fine_is_named r fine =
    let parts = or_parts (length r.host == 0) (nat_lt longest_name (length (name_of r.host))) fine in
    host_is_named r.host (not_zero (length r.host) parts.0) (not_more longest_name (length (name_of r.host)) parts.1)

pub hosts_are_named : (rs : List Record) → AllByRecursion IsFine rs → AllByRecursion IsNamed (hosts_of rs)
hosts_are_named rs fine = all-hosts IsNamed rs (go rs fine)
  where
    go : (qs : List Record) → AllByRecursion IsFine qs → AllByRecursion (λ (r : Record). IsNamed r.host) qs
    go [] all = tt
    go (q ∷ qs) all = (fine_is_named q all.0, go qs all.1)

-- ---- records without a fault

-- no record has a fault behind those before it
abbrev pub AllQuiet : Judge → List Record → List Record → Type 0
AllQuiet fault before [] = Unit {0}
AllQuiet fault before (r ∷ rs) = (fault before r ≡ None) × AllQuiet fault (before ++ r ∷ []) rs

pub all_quiet : (fault : Judge) (before rs : List Record) → first_of fault before rs ≡ None → AllQuiet fault before rs
all_quiet fault before [] none = tt
all_quiet fault before (r ∷ rs) none = elim (cases_Option (fault before r)) [
  | inl fine ↦ (fine, all_quiet fault (before ++ r ∷ []) rs (sym (first_of-none fault before r rs fine) ∙ none))
  | inr bad ↦ absurd (let e = sym none ∙ first_of-some fault before r rs bad.0 bad.1 in cc)
]

-- what a line without a fault is
record IsQuiet (before : List Record) (r : Record) : Type 0 where
  fine : is_bad r ≡ false
  hosts : is_host_too_many before r ≡ false
  records : is_record_too_many before ≡ false

line_is_quiet : (before : List Record) (r : Record) → line_fault before r ≡ None → IsQuiet before r
line_is_quiet before r none = go (is_bad r) refl none
  where
    numbers : (h n : Bool) → is_host_too_many before r ≡ h → is_record_too_many before ≡ n → is_bad r ≡ false → (if h then Some code.TooManyHosts else (if n then Some code.TooManyEvents else None)) ≡ None → IsQuiet before r
    numbers true n hs ns bad e = absurd cc
    numbers false true hs ns bad e = absurd cc
    numbers false false hs ns bad e = record { fine = bad; hosts = hs; records = ns }

    go : (b : Bool) → is_bad r ≡ b → (if b then Some code.BadHostLine else choose (clock_fault r) (λ (c : ImportCode). Some c) (number_fault before r)) ≡ None → IsQuiet before r
    go true bad e = absurd cc
    go false bad e = elim (cases_Option (clock_fault r)) [
      | inl good ↦ numbers (is_host_too_many before r) (is_record_too_many before) refl refl bad (sym (ap (λ (o : Option ImportCode). choose o (λ (c : ImportCode). Some c) (number_fault before r)) good) ∙ e)
      | inr wrong ↦ absurd (let x = sym (ap (λ (o : Option ImportCode). choose o (λ (c : ImportCode). Some c) (number_fault before r)) wrong.1) ∙ e in cc)
    ]

all_fine : (before rs : List Record) → AllQuiet line_fault before rs → AllByRecursion IsFine rs
all_fine before [] all = tt
all_fine before (r ∷ rs) all = ((line_is_quiet before r all.0).fine, all_fine (before ++ r ∷ []) rs all.1)

-- the counts at the last of the records
record AreFew (rs : List Record) : Type 0 where
  hosts : length (hosts_of rs) ≤ most_processes
  records : length rs ≤ most_events

few_from : (before : List Record) (r : Record) (rs : List Record) → AllQuiet line_fault before (r ∷ rs) → AreFew (before ++ r ∷ rs)
few_from before r [] all =
    let quiet = line_is_quiet before r all.0 in
    record {
      hosts = not_more most_processes (length (hosts_of (before ++ r ∷ []))) quiet.hosts;
      records = omega (arith, length-append before (r ∷ []), not_least most_events (length before) quiet.records);
    }
few_from before r (q ∷ rs) all = subst AreFew (append_assoc before (r ∷ []) (q ∷ rs)) (few_from (before ++ r ∷ []) q rs all.1)

-- no two hosts of records that don't clash have one name
apart_from : (before rs : List Record) → AreApart (hosts_of before) → AllQuiet clash_fault before rs → AreApart (hosts_of (before ++ rs))
apart_from before [] apart all = subst (λ (qs : List Record). AreApart (hosts_of qs)) (sym (append-nil before)) apart
apart_from before (r ∷ rs) apart all =
    let none : list_any (λ (h : Host). do_clash h r.host) (hosts_of before) ≡ false = unclashed (list_any (λ (h : Host). do_clash h r.host) (hosts_of before)) (sym (clash_is before r) ∙ all.0) in
    let more : AreApart (hosts_of (before ++ r ∷ [])) = subst AreApart (sym (hosts_from-push [] before r)) (apart_more (hosts_of before) r.host apart none) in
    subst (λ (qs : List Record). AreApart (hosts_of qs)) (append_assoc before (r ∷ []) rs) (apart_from (before ++ r ∷ []) rs more all.1)
  where
    unclashed : (b : Bool) → (if b then Some code.HostClash else None) ≡ None → b ≡ false
    unclashed true e = absurd cc
    unclashed false e = refl

-- ---- the header

names_apart : (hosts : List Host) → are_distinct hosts ≡ true → AreApart hosts → are_distinct (map name_of hosts) ≡ true
names_apart [] distinct apart = refl
names_apart (k ∷ ks) distinct apart =
    let parts = and_parts (not (is_some (place_of ks k))) (are_distinct ks) distinct in
    let once : list_any (λ (h : Host). bytes_eq h k) ks ≡ false = sym (placed-from 0 ks k) ∙ not-true (is_some (place_of ks k)) parts.0 in
    let none : is_some (place_of (map name_of ks) (name_of k)) ≡ false = placed-from 0 (map name_of ks) (name_of k) ∙ others ks (λ h has. has) once in
    rw none (names_apart ks parts.1 (λ g h has_g has_h. apart g h (later g has_g) (later h has_h)))
  where
    later : (g : Host) → Has g ks → Has g (k ∷ ks)
    later g has = or_right (bytes_eq k g) (list_any (λ (h : Host). bytes_eq h g) ks) has

    first : Has k (k ∷ ks)
    first = or_left (bytes_eq k k) (list_any (λ (h : Host). bytes_eq h k) ks) ((bytes_eq-Decides k k).1 refl)

    others : (hs : List Host) → ((g : Host) → Has g hs → Has g ks) → list_any (λ (h : Host). bytes_eq h k) hs ≡ false → list_any (λ (n : Host). bytes_eq n (name_of k)) (map name_of hs) ≡ false
    others [] within none = refl
    others (h ∷ hs) within none =
        let parts = or_parts (bytes_eq h k) (list_any (λ (x : Host). bytes_eq x k) hs) none in
        let has : Has h (h ∷ hs) = or_left (bytes_eq h h) (list_any (λ (x : Host). bytes_eq x h) hs) ((bytes_eq-Decides h h).1 refl) in
        or_from (bytes_eq (name_of h) (name_of k)) (list_any (λ (n : Host). bytes_eq n (name_of k)) (map name_of hs))
        (elim (cases_Bool (bytes_eq (name_of h) (name_of k))) [
          | inr other ↦ other
          | inl same ↦ absurd (let e = (bytes_eq-Decides h k).1 (apart h k (later h (within h has)) first ((bytes_eq-Decides (name_of h) (name_of k)).0 same)) in let f = parts.0 in cc)
        ])
        (others hs (λ g there. within g (or_right (bytes_eq h g) (list_any (λ (x : Host). bytes_eq x g) hs) there)) parts.1)

counting_fits : BindingsFit (counting ∷ [])
counting_fits = record { few = lit≤ tt; each = (record { name = refl; value = fits_signed }, tt); distinct = refl }
  where
    fits_signed : FitsSigned w64 (pos 0)
    fits_signed = search rules

all_replicated : {A : Type 0} (P : A → Type 0) (n : ℕ) (x : A) → P x → AllByRecursion P (replicate n x)
all_replicated P zero x p = tt
all_replicated P (suc n) x p = (p, all_replicated P n x p)

names_each : (hosts : List Host) → AllByRecursion IsNamed hosts → AllByRecursion (λ (n : List ℕ). is_name n ≡ true) (map name_of hosts)
names_each [] all = tt
names_each (h ∷ hosts) all = (all.0, names_each hosts all.1)

header_fits : (hosts : List Host) → 0 < length hosts → length hosts ≤ most_processes → AllByRecursion IsNamed hosts → are_distinct (map name_of hosts) ≡ true → HeaderFits (header_of hosts)
header_fits hosts some few named distinct =
    let long : length (map name_of hosts) ≡ length hosts = length-map hosts name_of in
    record {
      version = inl refl;
      procs = record { some = omega (arith, some, long); few = omega (arith, few, long); each = names_each hosts named; distinct = distinct };
      all = length-replicate (length hosts) (counting ∷ []) ∙ sym long;
      vars = all_replicated BindingsFit (length hosts) (counting ∷ []) counting_fits;
    }

-- ---- the events

count_fits : (ms : Members) (host : Host) → count_of ms host < 2 ^ 32
count_fits ms host = go (get_member host ms)
  where
    within : (n : ℕ) (t : Bool) → nat_lt n (2 ^ 32) ≡ t → unwrap_or (if t then Some n else None) 0 < 2 ^ 32
    within n true is = (Decides-ltb n (2 ^ 32)).0 is
    within n false is = lit< tt

    number : (o : Option ℕ) → unwrap_or (option_and_then (λ (n : ℕ). if nat_lt n (2 ^ 32) then Some n else None) o) 0 < 2 ^ 32
    number None = lit< tt
    number (Some n) = within n (nat_lt n (2 ^ 32)) refl

    go : (o : Option Data) → unwrap_or (option_and_then counter o) 0 < 2 ^ 32
    go None = lit< tt
    go (Some d) = number (option_and_then as_u64 (as_number d))

counts_fit : (ms : Members) (hosts : List Host) → AllByRecursion (λ (n : ℕ). n < 2 ^ 32) (map (count_of ms) hosts)
counts_fit ms [] = tt
counts_fit ms (h ∷ hosts) = (count_fits ms h, counts_fit ms hosts)

variables_are : (n p : ℕ) → p < n → variables_at (replicate n (counting ∷ [])) p ≡ counting ∷ []
variables_are zero p lt = absurd (omega arith)
variables_are (suc n) zero lt = refl
variables_are (suc n) (suc p) lt = variables_are n p (omega arith)

small_fits : (n : ℕ) → n ≤ most_events + 1 → FitsSigned w64 (pos n)
small_fits n le = omega (arith, ints)

event_fits : (hosts : List Host) (before : List Record) (r : Record) → IsPlaced hosts r → length before ≤ most_events → EventFits (header_of hosts) (event_of hosts before r)
event_fits hosts before r placed few =
    let e = event_of hosts before r in
    let is : e.process ≡ placed.place = ap (λ (o : Option ℕ). unwrap_or o 0) placed.is in
    let there : e.process < length hosts = omega (arith, is, placed.there) in
    let long : length (map name_of hosts) ≡ length hosts = length-map hosts name_of in
    let vars : variables_at (header_of hosts).vars e.process ≡ counting ∷ [] = variables_are (length hosts) e.process there in
    record {
      process = omega (arith, there, long);
      width = inl (length-map hosts (count_of (clock_of r)) ∙ sym long);
      clock = counts_fit (clock_of r) hosts;
      kind = tt;
      few = lit≤ tt;
      assigns = subst (λ (v : List Binding). AllByRecursion (AssignFits v) e.assigns) (sym vars) (record { variable = lit< tt; value = position_fits }, tt);
      distinct = subst (λ (v : List Binding). are_distinct (names_of (map (named v) e.assigns)) ≡ true) (sym vars) refl;
    }
  where
    position_fits : FitsSigned w64 (pos (records_of r.host before + 1))
    position_fits = small_fits (records_of r.host before + 1) (omega (arith, few, count_by-le-length (λ (q : Record). bytes_eq q.host r.host) before))

events_fit : (hosts : List Host) (before rs : List Record) → AllByRecursion (IsPlaced hosts) rs → length before + length rs ≤ most_events → AllByRecursion (EventFits (header_of hosts)) (events_from hosts before rs)
unfolding events_from
events_fit hosts before [] all few = tt
events_fit hosts before (r ∷ rs) all few = (event_fits hosts before r all.0 (omega (arith, few)), events_fit hosts (before ++ r ∷ []) rs all.1 (omega (arith, few, length-append before (r ∷ []))))

-- items of one batch
fit_from : (h : Header) (n : ℕ) (es : List Event) → AllByRecursion (EventFits h) es → n + length es ≤ most_events → FitFrom h n (event_items es ++ item.End ∷ [])
fit_from h n [] all few = tt
fit_from h n (e ∷ es) all few = (all.0, omega (arith, few), fit_from h (n + 1) es all.1 (omega (arith, few)))

length-events : (hosts : List Host) (before rs : List Record) → length (events_from hosts before rs) ≡ length rs
unfolding events_from
length-events hosts before [] = refl
length-events hosts before (r ∷ rs) = ap suc (length-events hosts (before ++ r ∷ []) rs)

-- ---- the law

some_host : (rs : List Record) → 0 < length rs → 0 < length (hosts_of rs)
some_host [] some = absurd (omega arith)
some_host (r ∷ rs) some = omega (arith, (placed_all [] (r ∷ rs)).0.there)

-- a text without a fault has records, and none of its parts has a fault
record IsSound (text : List ℕ) : Type 0 where
  some : 0 < length (judged text)
  lines : first_of line_fault [] (judged text) ≡ None
  clashes : first_of clash_fault [] (judged text) ≡ None

one_of_both : (b : Bool) (f g : ImportFault) → (if b then Some f else Some g) ≡ None → ⊥
one_of_both true f g e = absurd cc
one_of_both false f g e = absurd cc

is_sound : (text : List ℕ) → fault_of text ≡ None → IsSound text
is_sound text none = go (first_of line_fault [] (judged text)) (is_too_long text) (is_truncated text) (first_of clash_fault [] (judged text)) (first_of (unknown_fault (hosts_of (judged text))) [] (judged text)) refl refl refl refl none
  where
    go : (l : Option ImportFault) (long cut : Bool) (c u : Option ImportFault) → first_of line_fault [] (judged text) ≡ l → is_too_long text ≡ long → is_truncated text ≡ cut → first_of clash_fault [] (judged text) ≡ c
        → choose l (λ (f : ImportFault). Some f) (choose (ended_at (last_line text) long cut) (λ (f : ImportFault). Some f) (earlier c u)) ≡ None → IsSound text
    go (Some f) long cut c u ls ts cs hs e = absurd cc
    go None true cut c u ls ts cs hs e = absurd cc
    go None false true c u ls ts cs hs e = absurd cc
    go None false false (Some f) None ls ts cs hs e = absurd cc
    go None false false (Some f) (Some g) ls ts cs hs e = absurd (one_of_both (nat_le f.line g.line) f g e)
    go None false false None u ls ts cs hs e =
        let parts = or_parts (not (is_due_behind true (judged_lines text))) (length (judged text) == 0) cs in
        record { some = not_zero (length (judged text)) parts.1; lines = ls; clashes = hs }

pub imported_logs_fit : ImportedLogsFit
imported_logs_fit text none =
    let sound = is_sound text none in
    let rs = judged text in
    let quiet = all_quiet line_fault [] rs sound.lines in
    let few = all_few rs sound.some quiet in
    let apart : AreApart (hosts_of rs) = apart_from [] rs no_hosts_apart (all_quiet clash_fault [] rs sound.clashes) in
    let header = header_fits (hosts_of rs) (some_host rs sound.some) few.hosts (hosts_are_named rs (all_fine [] rs quiet)) (names_apart (hosts_of rs) (hosts_are_distinct rs) apart) in
    let events = events_fit (hosts_of rs) [] rs (placed_all [] rs) (omega (arith, few.records)) in
    record {
      header = header;
      events = events;
      few = few.records;
      items = (header, fit_from (header_of (hosts_of rs)) 0 (events_from (hosts_of rs) [] rs) events (omega (arith, few.records, length-events (hosts_of rs) [] rs)));
    }
  where
    all_few : (qs : List Record) → 0 < length qs → AllQuiet line_fault [] qs → AreFew qs
    all_few [] some all = absurd (omega arith)
    all_few (q ∷ qs) some all = few_from [] q qs all
