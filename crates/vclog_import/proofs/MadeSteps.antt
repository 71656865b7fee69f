-- Events that are made record by record.
use Rattle.std.proofs.Common.{◌≡◌, ℕ, zero, suc, ◌+◌, ◌-◌, ◌<◌, ◌≤◌, Bool, true, false, cond, Option, Some, None, List, [], ◌∷◌, ◌++◌, length, map, take, drop, get_or, set, refl, sym, ap, subst, ◌∙◌, arith, inl, inr, ◌⊎◌, append_assoc, length-drop, to_z, of_z}
use Rattle.std.specs.Prelude.{ℤ, pos, is_some, not, unwrap_or, FitsSigned}
use Rattle.std.specs.Int.{w64}
use Rattle.std.proofs.lemmas.Int.{ints, to_z-of_z}
use Rattle.std.specs.Option.{option_map}
use Rattle.serde_json.specs.Data.{Members, no_members}
use Rattle.std.specs.Borrow.{Bor}
use Rattle.std.specs.List.{AllByRecursion}
use Rattle.std.specs.Str.{bytes_eq}
use Rattle.std.proofs.lemmas.Bool.{cases_eq, cases_Bool, not-true}
use Rattle.std.proofs.lemmas.List.{append-nil, length-map, get_or-set_same, get_or-set_other, take_more, drop_more, take_all, drop_all, take-append-drop, get_or-map, drop-map}
use Rattle.std.proofs.lemmas.List.Sums.{sum_by-append, sum_by-cons, count_by-le-length}
use Rattle.std.proofs.lemmas.Slice.Eq.{bytes_eq-Decides}
use Rattle.pota_base.specs.Limits.{most_events}
use Rattle.log_lines.specs.Names.{place_of, are_distinct}
use Rattle.log_lines.specs.Reading.{choose}
use Rattle.event_log.specs.declared.log.Assign.{Assign}
use Rattle.event_log.specs.declared.log.Event.{Event}
use Rattle.event_log.specs.declared.log.Kind.TheVariants as kind
use Rattle.event_log.proofs.NameLaws.{place_some, place_again}
use Rattle.vclog_import.specs.declared.events.Events.{Events}
use Rattle.fault_kinds.specs.declared.import.ImportCode.TheVariants as code
use Rattle.fault_kinds.specs.declared.import.ImportFault.{ImportFault}
use Rattle.vclog_import.specs.declared.host_lines.HostLine.{HostLine}
use Rattle.vclog_import.specs.Lines.{Record}
use Rattle.vclog_import.specs.Hosts.{Host, hosts_of, records_of}
use Rattle.vclog_import.specs.Clock.{clock_in, clock_of, count_of, all_known}
use Rattle.vclog_import.specs.Faults.{at_line, first_of, unknown_fault, earlier}
use Rattle.vclog_import.specs.Imported.{event_of, events_from}
use Rattle.vclog_import.specs.inside.Made.{HasMade}
use Rattle.vclog_import.specs.inside.Reading.{record_of, records}
use Rattle.vclog_import.specs.inside.Scans.{hosts_in, bad_clock, first_bad_clock, fault_with}
use Rattle.vclog_import.specs.inside.Scans.{IsFine}
use Rattle.vclog_import.proofs.HostLaws.{host_is_placed}
use Rattle.vclog_import.proofs.LineLists.{bad_where_none, good_where_some}
use Rattle.vclog_import.proofs.Firsts.{first_of-none, first_of-some, first_of-nil, bad_clock-none, bad_clock-some, no_bad_clock}

-- ---- one record more

pub events_from-push : (hosts : List Host) (front rs : List Record) (r : Record) → events_from hosts front (rs ++ r ∷ []) ≡ events_from hosts front rs ++ event_of hosts (front ++ rs) r ∷ []
unfolding events_from
events_from-push hosts front [] r = ap (λ (before : List Record). event_of hosts before r ∷ []) (sym (append-nil front))
events_from-push hosts front (q ∷ rs) r =
    ap (λ (es : List Event). event_of hosts front q ∷ es) (events_from-push hosts (front ++ q ∷ []) rs r ∙ ap (λ (before : List Record). events_from hosts (front ++ q ∷ []) rs ++ event_of hosts before r ∷ []) (append_assoc front (q ∷ []) rs))

pub records_of-push : (host : Host) (rs : List Record) (r : Record) → records_of host (rs ++ r ∷ []) ≡ records_of host rs + cond (bytes_eq r.host host) 1 0
records_of-push host rs r = sum_by-append (λ (q : Record). cond (bytes_eq q.host host) 1 0) rs (r ∷ []) ∙ ap (λ (n : ℕ). records_of host rs + n) (sum_by-cons (λ (q : Record). cond (bytes_eq q.host host) 1 0) r [] ∙ last (cond (bytes_eq r.host host) 1 0))
  where
    last : (n : ℕ) → n + 0 ≡ n
    last n = omega arith

-- the counts with one record more of the host at this place
pub counts_more : (hosts : List Host) (counts : List ℕ) (before : List Record) (r : Record) (place : ℕ) → are_distinct hosts ≡ true → place_of hosts r.host ≡ Some place → length hosts ≤ length counts
    → ((p : ℕ) → p < length hosts → get_or counts p 0 ≡ records_of (get_or hosts p []) before)
    → (p : ℕ) → p < length hosts → get_or (set counts place (get_or counts place 0 + 1)) p 0 ≡ records_of (get_or hosts p []) (before ++ r ∷ [])
counts_more hosts counts before r place distinct found long so p lt =
    let at = place_some hosts r.host place found in
    elim (cases_eq p place) [
      | inl same ↦
          let own : bytes_eq r.host (get_or hosts p []) ≡ true = (bytes_eq-Decides r.host (get_or hosts p [])).1 (sym at.1 ∙ ap (λ (k : ℕ). get_or hosts k []) (sym same)) in
          ap (λ (k : ℕ). get_or (set counts place (get_or counts place 0 + 1)) k 0) same
          ∙ get_or-set_same counts place (get_or counts place 0 + 1) 0 (omega (arith, at.0))
          ∙ ap (λ (k : ℕ). get_or counts k 0 + 1) (sym same) ∙ ap (λ (n : ℕ). n + 1) (so p lt)
          ∙ sym (records_of-push (get_or hosts p []) before r ∙ ap (λ (b : Bool). records_of (get_or hosts p []) before + cond b 1 0) own)
      | inr other ↦
          let not_own : bytes_eq r.host (get_or hosts p []) ≡ false = apart p other lt (cases_Bool (bytes_eq r.host (get_or hosts p []))) in
          get_or-set_other counts place p (get_or counts place 0 + 1) 0 other
          ∙ so p lt ∙ sym (records_of-push (get_or hosts p []) before r ∙ ap (λ (b : Bool). records_of (get_or hosts p []) before + cond b 1 0) not_own ∙ omega arith)
    ]
  where
    apart : (q : ℕ) → (q ≡ place → ⊥) → q < length hosts → ◌⊎◌ (bytes_eq r.host (get_or hosts q []) ≡ true) (bytes_eq r.host (get_or hosts q []) ≡ false) → bytes_eq r.host (get_or hosts q []) ≡ false
    apart q other low (inl same) = absurd (other (some_is (sym (place_again hosts q distinct low) ∙ ap (place_of hosts) (sym ((bytes_eq-Decides r.host (get_or hosts q [])).0 same)) ∙ found)))
      where
        some_is : ◌≡◌ {A = Option ℕ} (Some q) (Some place) → q ≡ place
        some_is e = cc
    apart q other low (inr none) = none

-- the event of a record at its place
pub event_is : (hosts : List Host) (before : List Record) (r : Record) (place n : ℕ) (clock : List ℕ) (e : Event) → place_of hosts r.host ≡ Some place → n ≡ records_of r.host before → clock ≡ map (count_of (clock_of r)) hosts
    → e ≡ record (event_of hosts before r) { process = place; clock = clock; assigns = record { variable = 0; value = pos (n + 1) } ∷ [] } → e ≡ event_of hosts before r
event_is hosts before r place n clock e found counted clock_is is =
    is ∙ ap (λ (p : ℕ). record (event_of hosts before r) { process = p; clock = clock; assigns = record { variable = 0; value = pos (n + 1) } ∷ [] }) (sym (ap (λ (o : Option ℕ). unwrap_or o 0) found))
    ∙ ap (λ (c : List ℕ). record (event_of hosts before r) { clock = c; assigns = record { variable = 0; value = pos (n + 1) } ∷ [] }) clock_is
    ∙ ap (λ (k : ℕ). record (event_of hosts before r) { assigns = record { variable = 0; value = pos (k + 1) } ∷ [] }) counted

-- a count is at most that of all records
pub counts_few : (made : Events) (before : List Record) (p : ℕ) → HasMade made before → p < length made.hosts.now → get_or made.counts p 0 ≤ length before
counts_few made before p so lt = omega (arith, so.counts_are p lt, count_by-le-length (λ (r : Record). bytes_eq r.host (get_or (hosts_in made.hosts.now) p [])) before)

-- the count at the place of a host is that of its records
pub count_at : (made : Events) (before : List Record) (host : Host) (place : ℕ) → HasMade made before → place < length made.hosts.now → place_of (hosts_in made.hosts.now) host ≡ Some place → get_or made.counts place 0 ≡ records_of host before
count_at made before host place so lt found = so.counts_are place lt ∙ ap (λ (h : Host). records_of h before) (place_some (hosts_in made.hosts.now) host place found).1

-- the events with one more
pub made_more : (old new : Events) (before : List Record) (r : Record) (place : ℕ) (clock : List ℕ) (assigns : List Assign) (value : ℤ) → HasMade old before → are_distinct (hosts_in old.hosts.now) ≡ true → place_of (hosts_in old.hosts.now) r.host ≡ Some place
    → length old.hosts.now ≤ length old.counts → new.hosts.now ≡ old.hosts.now → new.counts ≡ set old.counts place (get_or old.counts place 0 + 1)
    → new.events ≡ old.events ++ record { process = place; line = r.line; clock = clock; kind = kind.Internal; assigns = assigns } ∷ [] → clock ≡ map (count_of (clock_of r)) (hosts_in old.hosts.now)
    → assigns ≡ record { variable = 0; value = value } ∷ [] → value ≡ pos (get_or old.counts place 0 + 1) → HasMade new (before ++ r ∷ [])
made_more old new before r place clock assigns value so distinct found long hosts counts events clock_is assigns_are value_is =
    let hs = hosts_in old.hosts.now in
    let within : place < length old.hosts.now = omega (arith, (place_some hs r.host place found).0, length-map old.hosts.now (λ (h : Bor Host). h.now)) in
    let same : hosts_in new.hosts.now ≡ hs = ap (λ (x : List (Bor Host)). hosts_in x) hosts in
    let all : assigns ≡ record { variable = 0; value = pos (get_or old.counts place 0 + 1) } ∷ [] = assigns_are ∙ ap (λ (v : ℤ). record { variable = 0; value = v } ∷ []) value_is in
    let event = event_is hs before r place (get_or old.counts place 0) clock (record { process = place; line = r.line; clock = clock; kind = kind.Internal; assigns = assigns }) found (count_at old before r.host place so within found) clock_is
    (ap (λ (as_ : List Assign). record { process = place; line = r.line; clock = clock; kind = kind.Internal; assigns = as_ }) all) in
    record {
      events_are = events ∙ ap (λ (es : List Event). es ++ record { process = place; line = r.line; clock = clock; kind = kind.Internal; assigns = assigns } ∷ []) so.events_are
          ∙ ap (λ (e : Event). events_from hs [] before ++ e ∷ []) event ∙ sym (events_from-push hs [] before r) ∙ ap (λ (x : List Host). events_from x [] (before ++ r ∷ [])) (sym same);
      counts_are = λ p lt.
          let low : p < length hs = omega (arith, lt, ap length hosts, length-map old.hosts.now (λ (h : Bor Host). h.now)) in
          ap (λ (cs : List ℕ). get_or cs p 0) counts
          ∙ counts_more hs old.counts before r place distinct found (omega (arith, long, length-map old.hosts.now (λ (h : Bor Host). h.now))) (λ q less. so.counts_are q (omega (arith, less, length-map old.hosts.now (λ (h : Bor Host). h.now)))) p low
          ∙ ap (λ (x : List Host). records_of (get_or x p []) (before ++ r ∷ [])) (sym same);
      few = omega (arith, so.few, ap length hosts);
    }

-- ---- record by record

pub line_at : (lines : List HostLine) (i : ℕ) (d : HostLine) → i < length lines → record_of (get_or lines i d) ≡ get_or (records lines) i (record_of (get_or lines i d))
line_at lines i d lt = sym (get_or-map record_of lines i d (record_of (get_or lines i d)) lt)

pub line_within : (lines : List HostLine) (i : ℕ) → i < length lines → i < length (records lines)
line_within lines i lt = omega (arith, lt, length-map lines record_of)

pub lines_past : (lines : List HostLine) (i : ℕ) → length lines ≤ i → length (records lines) ≤ i
lines_past lines i past = omega (arith, past, length-map lines record_of)

pub fine_at : (rs : List Record) (i : ℕ) (r : Record) → AllByRecursion IsFine rs → i < length rs → r ≡ get_or rs i r → IsFine r
fine_at [] i r all lt is = absurd (omega arith)
fine_at (q ∷ rs) zero r all lt is = subst IsFine (sym is) all.0
fine_at (q ∷ rs) (suc i) r all lt is = fine_at rs i r all.1 (omega arith) is

pub host_known : (rs : List Record) (i : ℕ) (r : Record) → i < length rs → r ≡ get_or rs i r → is_some (place_of (hosts_of rs) r.host) ≡ true
host_known rs i r lt is =
    let split : take i rs ++ r ∷ drop (i + 1) rs ≡ rs = ap (λ (qs : List Record). take i rs ++ qs) (ap (λ (q : Record). q ∷ drop (i + 1) rs) is ∙ sym (drop_more rs i r lt)) ∙ take-append-drop i rs in
    subst (λ (qs : List Record). is_some (place_of (hosts_of qs) r.host) ≡ true) split (host_is_placed (take i rs) r (drop (i + 1) rs))

-- the first i records have events and no fault
pub record Making (rs : List Record) (hosts : List Host) (made : Events) (i : ℕ) : Type 0 where
  pub made_is : HasMade made (take i rs)
  pub hosts_are : hosts_in made.hosts.now ≡ hosts
  pub good : first_bad_clock rs ≡ first_bad_clock (drop i rs)
  pub known : first_of (unknown_fault hosts) [] rs ≡ first_of (unknown_fault hosts) (take i rs) (drop i rs)

module _ (rs : List Record) (hosts : List Host) (made : Events) (i : ℕ) (r : Record) (so : Making rs hosts made i) (lt : i < length rs) (is : r ≡ get_or rs i r) where
  cut : drop i rs ≡ r ∷ drop (i + 1) rs
  cut = drop_more rs i r lt ∙ ap (λ (q : Record). q ∷ drop (i + 1) rs) (sym is)

  more : take (i + 1) rs ≡ take i rs ++ r ∷ []
  more = take_more rs i r lt ∙ ap (λ (q : Record). take i rs ++ q ∷ []) (sym is)

  good_rest : bad_clock r ≡ None → first_bad_clock rs ≡ first_bad_clock (drop (i + 1) rs)
  good_rest none = so.good ∙ ap first_bad_clock cut ∙ bad_clock-none r (drop (i + 1) rs) none

  pub making_more : (new : Events) → HasMade new (take i rs ++ r ∷ []) → hosts_in new.hosts.now ≡ hosts → bad_clock r ≡ None → all_known hosts (clock_of r) ≡ true → Making rs hosts new (i + 1)
  making_more new next are none known = record {
    made_is = subst (HasMade new) (sym more) next;
    hosts_are = are;
    good = good_rest none;
    known = so.known ∙ ap (first_of (unknown_fault hosts) (take i rs)) cut ∙ first_of-none (unknown_fault hosts) (take i rs) r (drop (i + 1) rs) (rw known refl) ∙ ap (λ (front : List Record). first_of (unknown_fault hosts) front (drop (i + 1) rs)) (sym more);
  }

  pub bad_here : (clash : Option ImportFault) → hosts ≡ hosts_of rs → bad_clock r ≡ Some code.BadClock → fault_with clash rs ≡ Some (at_line r code.BadClock)
  bad_here clash are bad = ap (λ (o : Option ImportFault). choose o (λ (f : ImportFault). Some f) (earlier clash (first_of (unknown_fault (hosts_of rs)) [] rs))) (so.good ∙ ap first_bad_clock cut ∙ bad_clock-some r (drop (i + 1) rs) code.BadClock bad)

  pub unknown_here : (clash : Option ImportFault) (f : ImportFault) → hosts ≡ hosts_of rs → bad_clock r ≡ None → all_known hosts (clock_of r) ≡ false
      → choose (first_bad_clock (drop (i + 1) rs)) (λ (g : ImportFault). Some g) (earlier clash (Some (at_line r code.UnknownHost))) ≡ Some f → fault_with clash rs ≡ Some f
  unknown_here clash f are none unknown told =
      ap (λ (hs : List Host). choose (first_bad_clock rs) (λ (g : ImportFault). Some g) (earlier clash (first_of (unknown_fault hs) [] rs))) (sym are)
      ∙ ap (λ (o : Option ImportFault). choose (first_bad_clock rs) (λ (g : ImportFault). Some g) (earlier clash o)) (so.known ∙ ap (first_of (unknown_fault hosts) (take i rs)) cut ∙ first_of-some (unknown_fault hosts) (take i rs) r (drop (i + 1) rs) code.UnknownHost (rw unknown refl))
      ∙ ap (λ (o : Option ImportFault). choose o (λ (g : ImportFault). Some g) (earlier clash (Some (at_line r code.UnknownHost)))) (good_rest none) ∙ told

-- all records have events
pub making_all : (rs : List Record) (hosts : List Host) (made : Events) (i : ℕ) (clash : Option ImportFault) → Making rs hosts made i → length rs ≤ i → hosts ≡ hosts_of rs → fault_with clash rs ≡ earlier clash None
making_all rs hosts made i clash so past are =
    ap (λ (hs : List Host). choose (first_bad_clock rs) (λ (g : ImportFault). Some g) (earlier clash (first_of (unknown_fault hs) [] rs))) (sym are)
    ∙ ap (λ (o : Option ImportFault). choose (first_bad_clock rs) (λ (g : ImportFault). Some g) (earlier clash o)) (so.known ∙ ap (first_of (unknown_fault hosts) (take i rs)) (drop_all i rs past) ∙ first_of-nil (unknown_fault hosts) (take i rs))
    ∙ ap (λ (o : Option ImportFault). choose o (λ (g : ImportFault). Some g) (earlier clash None)) (so.good ∙ ap first_bad_clock (drop_all i rs past) ∙ no_bad_clock)

-- ---- line by line

clock_is_there : (r : Record) (ms : Members) → clock_in r.clock ≡ Some ms → clock_of r ≡ ms
clock_is_there r ms is = ap (λ (o : Option Members). unwrap_or o no_members) is

module _ {A : Type 0} (view : A → Members) (lines : List HostLine) (hosts : List Host) (made : Events) (i : ℕ) (d : HostLine) (found : Option A)
    (so : Making (records lines) hosts made i) (lt : i < length lines) (fine : AllByRecursion IsFine (records lines)) (are : hosts ≡ hosts_of (records lines))
    (read : option_map view found ≡ clock_in (record_of (get_or lines i d)).clock) where
  within : i < length (records lines)
  within = line_within lines i lt

  at : record_of (get_or lines i d) ≡ get_or (records lines) i (record_of (get_or lines i d))
  at = line_at lines i d lt

  good : (a : A) → found ≡ Some a → clock_in (record_of (get_or lines i d)).clock ≡ Some (view a)
  good a is = sym read ∙ ap (option_map view) is

  not_bad : (a : A) → found ≡ Some a → bad_clock (record_of (get_or lines i d)) ≡ None
  not_bad a is = good_where_some (record_of (get_or lines i d)) (ap is_some (good a is))

  pub bad_line_here : (clash : Option ImportFault) → found ≡ None → fault_with clash (records lines) ≡ Some (at_line (record_of (get_or lines i d)) code.BadClock)
  bad_line_here clash none =
      let r = record_of (get_or lines i d) in
      bad_here (records lines) hosts made i r so within at clash are (bad_where_none r (fine_at (records lines) i r fine within at) (ap is_some (sym read ∙ ap (option_map view) none)))

  pub unknown_line_here : (clash : Option ImportFault) (f : ImportFault) (a : A) (known : Bool) → found ≡ Some a → known ≡ all_known hosts (view a) → not known ≡ true
      → choose (first_bad_clock (records (take (length lines - (i + 1)) (drop (i + 1) lines)))) (λ (g : ImportFault). Some g) (earlier clash (Some (at_line (record_of (get_or lines i d)) code.UnknownHost))) ≡ Some f
      → fault_with clash (records lines) ≡ Some f
  unknown_line_here clash f a known is told other fault =
      let r = record_of (get_or lines i d) in
      let rest : records (take (length lines - (i + 1)) (drop (i + 1) lines)) ≡ drop (i + 1) (records lines) = ap (λ (ls : List HostLine). records ls) (take_all (length lines - (i + 1)) (drop (i + 1) lines) (omega (arith, length-drop (i + 1) lines))) ∙ sym (drop-map record_of (i + 1) lines) in
      unknown_here (records lines) hosts made i r so within at clash f are (not_bad a is) (ap (all_known hosts) (clock_is_there r (view a) (good a is)) ∙ sym told ∙ not-true known other)
      (ap (λ (rs : List Record). choose (first_bad_clock rs) (λ (g : ImportFault). Some g) (earlier clash (Some (at_line r code.UnknownHost)))) (sym rest) ∙ fault)

  pub line_more : (new : Events) (a : A) (known : Bool) → found ≡ Some a → known ≡ all_known hosts (view a) → not known ≡ false → ((before : List Record) → HasMade made before → HasMade new (before ++ record_of (get_or lines i d) ∷ [])) → hosts_in new.hosts.now ≡ hosts_in made.hosts.now → Making (records lines) hosts new (i + 1)
  line_more new a known is told here next same =
      let r = record_of (get_or lines i d) in
      making_more (records lines) hosts made i r so within at new (next (take i (records lines)) so.made_is) (same ∙ so.hosts_are) (not_bad a is) (ap (all_known hosts) (clock_is_there r (view a) (good a is)) ∙ sym told ∙ not_not known here)
    where
      not_not : (b : Bool) → not b ≡ false → b ≡ true
      not_not true e = refl
      not_not false e = absurd cc

  pub line_clock : (counts : List ℕ) (a : A) → found ≡ Some a → counts ≡ map (count_of (view a)) hosts → counts ≡ map (count_of (clock_of (record_of (get_or lines i d)))) (hosts_in made.hosts.now)
  line_clock counts a is told =
      told ∙ ap (λ (ms : Members). map (count_of ms) hosts) (sym (clock_is_there (record_of (get_or lines i d)) (view a) (good a is))) ∙ ap (map (count_of (clock_of (record_of (get_or lines i d))))) (sym so.hosts_are)

  pub line_host : is_some (place_of (hosts_in made.hosts.now) (get_or lines i d).host.now) ≡ true
  line_host = ap (λ (hs : List Host). is_some (place_of hs (get_or lines i d).host.now)) (so.hosts_are ∙ are) ∙ host_known (records lines) i (record_of (get_or lines i d)) within at

-- a count is small, also as a signed number
pub small_count : (made : Events) (before : List Record) (host : Host) (place : ℕ) → HasMade made before → length before < most_events → place_of (hosts_in made.hosts.now) host ≡ Some place → get_or made.counts place 0 ≤ most_events
small_count made before host place so few found =
    let there : place < length made.hosts.now = omega (arith, (place_some (hosts_in made.hosts.now) host place found).0, length-map made.hosts.now (λ (h : Bor Host). h.now)) in
    omega (arith, counts_few made before place so there, few)

small_fits : (n : ℕ) → n ≤ most_events + 1 → FitsSigned w64 (pos n)
small_fits n le = omega (arith, ints)

pub signed_count : (z : ℤ) (n : ℕ) → z ≡ pos (n + 1) → n ≤ most_events → to_z w64 (of_z w64 z) ≡ pos (n + 1)
signed_count z n is small = to_z-of_z w64 z (subst (FitsSigned w64) (sym is) (small_fits (n + 1) (omega (arith, small)))) ∙ is
