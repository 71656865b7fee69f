-- A text that is scanned host line by host line.
use Rattle.std.proofs.Common.{◌≡◌, ℕ, ◌<◌, ◌≤◌, Bool, true, false, Option, Some, None, List, [], ◌∷◌, ◌++◌, length, refl, sym, ap, subst, ◌∙◌, arith, append_assoc, length-append}
use Rattle.std.specs.Prelude.{not, ◌||◌, ◌==◌, nat_lt, nat_le, is_some, if◌then◌else◌}
use Rattle.std.specs.List.{list_any}
use Rattle.std.proofs.lemmas.Bool.Decides.{nat_tests}
use Rattle.std.proofs.lemmas.List.{append-nil, length-map}
use Rattle.std.specs.Borrow.{Bor}
use Rattle.pota_base.specs.Limits.{most_events, most_processes}
use Rattle.log_lines.specs.Reading.{choose}
use Rattle.fault_kinds.specs.declared.import.ImportCode.{ImportCode}
use Rattle.fault_kinds.specs.declared.import.ImportCode.TheVariants as code
use Rattle.fault_kinds.specs.declared.import.ImportFault.{ImportFault}
use Rattle.vclog_import.specs.declared.host_lines.HostLine.{HostLine}
use Rattle.vclog_import.specs.declared.host_lines.HostLines.{HostLines}
use Rattle.vclog_import.specs.declared.scanning.Scan.{Scan}
use Rattle.vclog_import.specs.Lines.{Record, is_due_behind, feeds}
use Rattle.vclog_import.specs.Hosts.{with_host, hosts_from, hosts_of, do_clash}
use Rattle.vclog_import.specs.Faults.{at_line, first_of, is_bad, is_host_too_many, is_record_too_many, clash_fault, is_too_long, judged, judged_lines, last_line, ended_at, is_truncated, end_fault}
use Rattle.vclog_import.specs.inside.Reading.{record_of, records, left, due_at_end}
use Rattle.vclog_import.specs.inside.Reading.{line_at_end, Gives, Ends}
use Rattle.vclog_import.specs.inside.Scans.{plain_fault, until, hosts_in, Has, AreApart, HasScanned}
use Rattle.vclog_import.specs.inside.Scans.{IsScan}
use Rattle.vclog_import.proofs.HostLaws.{hosts_from-push}
use Rattle.vclog_import.proofs.Clashes.{no_hosts_apart, known_clashes_not, apart_more, clash_is, clash_with}
use Rattle.vclog_import.proofs.Firsts.{here, first_of-push, first_of-none, first_of-some, first_of-nil, until-none, until-some, until-nil}

-- these lines were scanned, and those are left
pub record Scanning (text : List ℕ) (s : Scan) (h : HostLines) : Type 0 where
  pub scanned : HasScanned s
  pub first : first_of plain_fault [] (judged text) ≡ first_of plain_fault (records s.lines.items) (left h)
  pub taken : until plain_fault [] (judged text) ≡ records s.lines.items ++ until plain_fault (records s.lines.items) (left h)
  pub all : judged text ≡ records s.lines.items ++ left h
  pub due : due_at_end h ≡ is_due_behind true (judged_lines text)
  pub line : line_at_end h ≡ last_line text
  pub unfinished : h.unfinished ≡ not (is_too_long text)

pub scanning_more : (text : List ℕ) (s t : Scan) (h k : HostLines) (r : Record) → Scanning text s h → Gives h k r → records t.lines.items ≡ records s.lines.items ++ r ∷ [] → plain_fault (records s.lines.items) r ≡ None → HasScanned t → Scanning text t k
scanning_more text s t h k r so gives more none scanned =
    let before = records s.lines.items in
    record {
      scanned = scanned;
      first = so.first ∙ ap (first_of plain_fault before) gives.left_is ∙ first_of-none plain_fault before r (left k) none ∙ ap (λ (front : List Record). first_of plain_fault front (left k)) (sym more);
      taken = so.taken ∙ ap (λ (rs : List Record). before ++ until plain_fault before rs) gives.left_is ∙ ap (λ (rs : List Record). before ++ rs) (until-none plain_fault before r (left k) none)
          ∙ sym (append_assoc before (r ∷ []) (until plain_fault (before ++ r ∷ []) (left k))) ∙ ap (λ (front : List Record). front ++ until plain_fault front (left k)) (sym more);
      all = so.all ∙ ap (λ (rs : List Record). before ++ rs) gives.left_is ∙ sym (append_assoc before (r ∷ []) (left k)) ∙ ap (λ (front : List Record). front ++ left k) (sym more);
      due = gives.due_is ∙ so.due;
      line = gives.goes.line_is ∙ so.line;
      unfinished = gives.goes.unfinished_is ∙ so.unfinished;
    }

-- a scan that ends with a fault of the line
pub scan_faulty : (text : List ℕ) (s t : Scan) (h k : HostLines) (r : Record) (c : ImportCode) → Scanning text s h → Gives h k r → records t.lines.items ≡ records s.lines.items ++ r ∷ [] → plain_fault (records s.lines.items) r ≡ Some c → t.fault ≡ Some (at_line r c) → IsScan text t
scan_faulty text s t h k r c so gives more some fault =
    let before = records s.lines.items in
    let first : first_of plain_fault [] (judged text) ≡ Some (at_line r c) = so.first ∙ ap (first_of plain_fault before) gives.left_is ∙ first_of-some plain_fault before r (left k) c some in
    record {
      lines_are = more ∙ sym (so.taken ∙ ap (λ (rs : List Record). before ++ until plain_fault before rs) gives.left_is ∙ ap (λ (rs : List Record). before ++ rs) (until-some plain_fault before r (left k) c some));
      fault_is = fault ∙ sym (ap (λ (o : Option ImportFault). choose o (λ (f : ImportFault). Some f) (end_fault text)) first);
      fine = λ none. absurd (let e = sym none ∙ fault in cc);
    }

pub has_same : (s t : Scan) → t.lines.items ≡ s.lines.items → t.hosts.items ≡ s.hosts.items → t.clash ≡ s.clash → HasScanned s → HasScanned t
has_same s t lines hosts clash so = record {
  hosts_are = ap (λ (hs : List (Bor (List ℕ))). hosts_in hs) hosts ∙ so.hosts_are ∙ ap (λ (ls : List HostLine). hosts_of (records ls)) (sym lines);
  few_hosts = omega (arith, so.few_hosts, ap length hosts);
  few_lines = omega (arith, so.few_lines, ap length lines);
  clash_is = clash ∙ so.clash_is ∙ ap (λ (ls : List HostLine). first_of clash_fault [] (records ls)) (sym lines);
  apart = λ none. subst (λ (hs : List (Bor (List ℕ))). AreApart (hosts_in hs)) (sym hosts) (so.apart (sym clash ∙ none));
}

not_twice : (b : Bool) → not (not b) ≡ b
not_twice true = refl
not_twice false = refl

-- a scan that comes to the end of the text
pub scan_ends : (text : List ℕ) (s t : Scan) (h k : HostLines) (empty : Bool) → Scanning text s h → Ends h k → t.lines.items ≡ s.lines.items → t.hosts.items ≡ s.hosts.items → t.clash ≡ s.clash → empty ≡ (length s.lines.items == 0)
    → t.fault ≡ ended_at k.line (not k.unfinished) (not k.is_due || empty) → IsScan text t
scan_ends text s t h k empty so ends lines hosts clash is_empty fault =
    let before = records s.lines.items in
    let all : judged text ≡ before = so.all ∙ ap (λ (rs : List Record). before ++ rs) ends.none ∙ append-nil before in
    let none : first_of plain_fault [] (judged text) ≡ None = so.first ∙ ap (first_of plain_fault before) ends.none ∙ first_of-nil plain_fault before in
    let line : k.line ≡ last_line text = sym (omega (arith, ap feeds ends.rest_is)) ∙ ends.goes.line_is ∙ so.line in
    let long : not k.unfinished ≡ is_too_long text = ap not (ends.goes.unfinished_is ∙ so.unfinished) ∙ not_twice (is_too_long text) in
    let count : length s.lines.items ≡ length (judged text) = sym (ap length all ∙ length-map s.lines.items record_of) in
    let cut : (not k.is_due || empty) ≡ is_truncated text =
    ap (λ (d : Bool). not d || empty) (ends.due_is ∙ so.due) ∙ ap (λ (b : Bool). not (is_due_behind true (judged_lines text)) || b) (is_empty ∙ ap (λ (n : ℕ). n == 0) count) in
    record {
      lines_are = ap (λ (ls : List HostLine). records ls) lines ∙ sym (so.taken ∙ ap (λ (rs : List Record). before ++ until plain_fault before rs) ends.none ∙ ap (λ (rs : List Record). before ++ rs) (until-nil plain_fault before) ∙ append-nil before);
      fault_is = fault ∙ ap (λ (n : ℕ). ended_at n (not k.unfinished) (not k.is_due || empty)) line ∙ ap (λ (b : Bool). ended_at (last_line text) b (not k.is_due || empty)) long ∙ ap (ended_at (last_line text) (is_too_long text)) cut
          ∙ sym (ap (λ (o : Option ImportFault). choose o (λ (f : ImportFault). Some f) (end_fault text)) none);
      fine = λ fine. has_same s t lines hosts clash so.scanned;
    }

-- ---- a line more

pub scanned_none : (s : Scan) → s.lines.items ≡ [] → s.hosts.items ≡ [] → s.clash ≡ None → HasScanned s
unfolding hosts_from
scanned_none s lines hosts clash = record {
  hosts_are = ap (λ (hs : List (Bor (List ℕ))). hosts_in hs) hosts ∙ sym (ap (λ (ls : List HostLine). hosts_of (records ls)) lines);
  few_hosts = omega (arith, ap length hosts);
  few_lines = omega (arith, ap length lines);
  clash_is = clash ∙ sym (ap (λ (ls : List HostLine). first_of clash_fault [] (records ls)) lines ∙ first_of-nil clash_fault []);
  apart = λ none. subst (λ (hs : List (Bor (List ℕ))). AreApart (hosts_in hs)) (sym hosts) no_hosts_apart;
}

pub records-push : (lines : List HostLine) (line : HostLine) → records (lines ++ line ∷ []) ≡ records lines ++ record_of line ∷ []
records-push [] line = refl
records-push (l ∷ lines) line = ap (λ (rs : List Record). record_of l ∷ rs) (records-push lines line)

more_than : (m n : ℕ) → m < n → nat_lt m n ≡ true
more_than m n lt = grind (arith, nat_tests)

at_most : (m n : ℕ) → n ≤ m → nat_lt m n ≡ false
at_most m n le = grind (arith, nat_tests)

at_least : (m n : ℕ) → m ≤ n → nat_le m n ≡ true
at_least m n le = grind (arith, nat_tests)

below : (m n : ℕ) → n < m → nat_le m n ≡ false
below m n lt = grind (arith, nat_tests)

module _ (s : Scan) (line : HostLine) (hosts : List (Bor (List ℕ))) (scanned : HasScanned s) (put : hosts_in hosts ≡ with_host line.host.now (hosts_in s.hosts.items)) where
  now : hosts_in hosts ≡ hosts_of (records s.lines.items ++ record_of line ∷ [])
  now = put ∙ ap (with_host line.host.now) scanned.hosts_are ∙ sym (hosts_from-push [] (records s.lines.items) (record_of line))

  long : length hosts ≡ length (hosts_of (records s.lines.items ++ record_of line ∷ []))
  long = sym (length-map hosts (λ (h : Bor (List ℕ)). h.now)) ∙ ap length now

  module _ (fine : is_bad (record_of line) ≡ false) where
    pub is_host_33 : most_processes < length hosts → Some code.TooManyHosts ≡ plain_fault (records s.lines.items) (record_of line)
    is_host_33 more =
        let many : is_host_too_many (records s.lines.items) (record_of line) ≡ true = more_than most_processes (length (hosts_of (records s.lines.items ++ record_of line ∷ []))) (omega (arith, more, long)) in
        sym (rw (fine, many) refl)

    few : length hosts ≤ most_processes → is_host_too_many (records s.lines.items) (record_of line) ≡ false
    few le = at_most most_processes (length (hosts_of (records s.lines.items ++ record_of line ∷ []))) (omega (arith, le, long))

    pub is_record_50001 : length hosts ≤ most_processes → most_events ≤ length s.lines.items → Some code.TooManyEvents ≡ plain_fault (records s.lines.items) (record_of line)
    is_record_50001 le most =
        let many : is_record_too_many (records s.lines.items) ≡ true = at_least most_events (length (records s.lines.items)) (omega (arith, most, length-map s.lines.items record_of)) in
        sym (rw (fine, few le, many) refl)

    pub is_no_fault : length hosts ≤ most_processes → length s.lines.items < most_events → None ≡ plain_fault (records s.lines.items) (record_of line)
    is_no_fault le less =
        let not_many : is_record_too_many (records s.lines.items) ≡ false = below most_events (length (records s.lines.items)) (omega (arith, less, length-map s.lines.items record_of)) in
        sym (rw (fine, few le, not_many) refl)

  -- the first clash with that of the line itself
  clash_next : first_of clash_fault [] (records s.lines.items ++ record_of line ∷ []) ≡ choose s.clash (λ (f : ImportFault). Some f) (if list_any (λ (h : List ℕ). do_clash h line.host.now) (hosts_in s.hosts.items) then Some (at_line (record_of line) code.HostClash) else None)
  clash_next =
      first_of-push clash_fault [] (records s.lines.items) (record_of line)
      ∙ ap (λ (o : Option ImportFault). choose o (λ (f : ImportFault). Some f) (here clash_fault (records s.lines.items) (record_of line))) (sym scanned.clash_is)
      ∙ ap (λ (o : Option ImportCode). choose s.clash (λ (f : ImportFault). Some f) (choose o (λ (c : ImportCode). Some (at_line (record_of line) c)) None)) (clash_is (records s.lines.items) (record_of line) ∙ ap (λ (hs : List (List ℕ)). if list_any (λ (h : List ℕ). do_clash h line.host.now) hs then Some code.HostClash else None) (sym scanned.hosts_are))
      ∙ ap (choose s.clash (λ (f : ImportFault). Some f)) (placed (list_any (λ (h : List ℕ). do_clash h line.host.now) (hosts_in s.hosts.items)))
    where
      placed : (b : Bool) → choose (if b then Some code.HostClash else None) (λ (c : ImportCode). Some (at_line (record_of line) c)) None ≡ (if b then Some (at_line (record_of line) code.HostClash) else None)
      placed true = refl
      placed false = refl

  module _ (t : Scan) (lines : records t.lines.items ≡ records s.lines.items ++ record_of line ∷ []) (hosts_is : t.hosts.items ≡ hosts) (le : length hosts ≤ most_processes) (less : length s.lines.items < most_events) where
    made : t.clash ≡ first_of clash_fault [] (records s.lines.items ++ record_of line ∷ []) → (t.clash ≡ None → list_any (λ (h : List ℕ). do_clash h line.host.now) (hosts_in s.hosts.items) ≡ false) → (t.clash ≡ None → s.clash ≡ None) → HasScanned t
    made clash quiet was = record {
      hosts_are = ap (λ (hs : List (Bor (List ℕ))). hosts_in hs) hosts_is ∙ now ∙ ap hosts_of (sym lines);
      few_hosts = omega (arith, le, ap length hosts_is);
      few_lines = omega (arith, less, ap length lines, length-map t.lines.items record_of, length-append (records s.lines.items) (record_of line ∷ []), length-map s.lines.items record_of);
      clash_is = clash ∙ ap (first_of clash_fault []) (sym lines);
      apart = λ none. subst (λ (hs : List (Bor (List ℕ))). AreApart (hosts_in hs)) (sym hosts_is) (subst AreApart (sym put) (apart_more (hosts_in s.hosts.items) line.host.now (scanned.apart (was none)) (quiet none)));
    }

    -- a line with a new host, where none clashed before
    pub scanned_new : s.clash ≡ None → t.clash ≡ (if list_any (λ (h : List ℕ). do_clash h line.host.now) (hosts_in hosts) then Some (at_line (record_of line) code.HostClash) else None) → HasScanned t
    scanned_new none clash =
        let same : list_any (λ (h : List ℕ). do_clash h line.host.now) (hosts_in hosts) ≡ list_any (λ (h : List ℕ). do_clash h line.host.now) (hosts_in s.hosts.items) = ap (list_any (λ (h : List ℕ). do_clash h line.host.now)) put ∙ clash_with line.host.now (hosts_in s.hosts.items) in
        let is : t.clash ≡ (if list_any (λ (h : List ℕ). do_clash h line.host.now) (hosts_in s.hosts.items) then Some (at_line (record_of line) code.HostClash) else None) = clash ∙ ap (λ (b : Bool). if b then Some (at_line (record_of line) code.HostClash) else None) same in
        made
        (is ∙ sym (clash_next ∙ ap (λ (o : Option ImportFault). choose o (λ (f : ImportFault). Some f) (if list_any (λ (h : List ℕ). do_clash h line.host.now) (hosts_in s.hosts.items) then Some (at_line (record_of line) code.HostClash) else None)) none))
        (λ no_clash. unclashed (list_any (λ (h : List ℕ). do_clash h line.host.now) (hosts_in s.hosts.items)) (sym is ∙ no_clash))
        (λ no_clash. none)
      where
        unclashed : (b : Bool) → (if b then Some (at_line (record_of line) code.HostClash) else None) ≡ None → b ≡ false
        unclashed true e = absurd cc
        unclashed false e = refl

    -- a line that needs no look for a clash
    pub scanned_known : t.clash ≡ s.clash → (s.clash ≡ None → Has line.host.now (hosts_in s.hosts.items)) → HasScanned t
    scanned_known clash has =
        let quiet : s.clash ≡ None → list_any (λ (h : List ℕ). do_clash h line.host.now) (hosts_in s.hosts.items) ≡ false = λ none. known_clashes_not (hosts_in s.hosts.items) line.host.now (scanned.apart none) (has none) in
        made (clash ∙ sym (clash_next ∙ stays s.clash quiet)) (λ none. quiet (sym clash ∙ none)) (λ none. sym clash ∙ none)
      where
        stays : (o : Option ImportFault) → (o ≡ None → list_any (λ (h : List ℕ). do_clash h line.host.now) (hosts_in s.hosts.items) ≡ false) → choose o (λ (f : ImportFault). Some f) (if list_any (λ (h : List ℕ). do_clash h line.host.now) (hosts_in s.hosts.items) then Some (at_line (record_of line) code.HostClash) else None) ≡ o
        stays (Some f) q = refl
        stays None q = ap (λ (b : Bool). if b then Some (at_line (record_of line) code.HostClash) else None) (q refl)

pub no_clash_yet : (o : Option ImportFault) (none : Bool) → is_some o ≡ not none → none ≡ true → o ≡ None
no_clash_yet None none is e = refl
no_clash_yet (Some f) true is e = absurd cc
no_clash_yet (Some f) false is e = absurd cc

pub some_clash : (o : Option ImportFault) (none : Bool) → is_some o ≡ not none → none ≡ false → o ≡ None → ⊥
some_clash None true is e n = absurd cc
some_clash None false is e n = absurd cc
some_clash (Some f) none is e n = absurd cc
