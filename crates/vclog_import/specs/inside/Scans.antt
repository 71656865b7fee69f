-- The faults of records in two scans: what the hosts tell, and then, as far as that went, the
-- clocks.
use Rattle.std.specs.Prelude.{◌≡◌, ℕ, ◌≤◌, true, false, List, [], ◌∷◌, ◌++◌, length, map}
use Rattle.std.specs.Prelude.{Option, None, Some, is_some, if◌then◌else◌}
use Rattle.std.specs.Borrow.{Bor}
use Rattle.std.specs.List.{list_any}
use Rattle.std.specs.Str.{bytes_eq}
use Rattle.pota_base.specs.Limits.{most_events, most_processes}
use Rattle.log_lines.specs.Reading.{choose}
use Rattle.fault_kinds.specs.declared.import.ImportCode.{ImportCode}
use Rattle.fault_kinds.specs.declared.import.ImportCode.TheVariants as code
use Rattle.fault_kinds.specs.declared.import.ImportFault.{ImportFault}
use Rattle.vclog_import.specs.declared.scanning.Scan.{Scan}
use Rattle.vclog_import.specs.Lines.{Record}
use Rattle.vclog_import.specs.Hosts.{Host, name_of, hosts_of}
use Rattle.vclog_import.specs.Faults.{Judge, at_line, first_of, is_bad, number_fault, clock_fault}
use Rattle.vclog_import.specs.Faults.{clash_fault, unknown_fault, earlier, judged, end_fault}
use Rattle.vclog_import.specs.inside.Reading.{records}

-- the faults that need no clock
abbrev pub plain_fault : Judge
plain_fault before r = if is_bad r then Some code.BadHostLine else number_fault before r

-- the records up to the first one with a fault, and that one
unfoldable pub until : Judge → List Record → List Record → List Record
until fault before [] = []
until fault before (r ∷ rs) =
    if is_some (fault before r) then r ∷ [] else r ∷ until fault (before ++ r ∷ []) rs

-- a bad host line has no clock that could be bad
abbrev pub bad_clock : Record → Option ImportCode
bad_clock r = if is_bad r then None else clock_fault r

-- the first bad clock of the records
unfoldable pub first_bad_clock : List Record → Option ImportFault
first_bad_clock [] = None
first_bad_clock (r ∷ rs) = choose (bad_clock r) (λ c. Some (at_line r c)) (first_bad_clock rs)

-- the host line isn't bad
abbrev pub IsFine : Record → Type 0
IsFine r = is_bad r ≡ false

-- the first fault of clocks, or else of hosts, of which this is the first one of names
abbrev pub fault_with : Option ImportFault → List Record → Option ImportFault
fault_with clash rs = choose (first_bad_clock rs) (λ f. Some f)
    (earlier clash (first_of (unknown_fault (hosts_of rs)) [] rs))

-- the bytes of the hosts
abbrev pub hosts_in : List (Bor (List ℕ)) → List Host
hosts_in hosts = map (λ h. h.now) hosts

-- the host is one of these
abbrev pub Has : Host → List Host → Type 0
Has host hosts = list_any (λ (h : Host). bytes_eq h host) hosts ≡ true

-- no two hosts have one name
abbrev pub AreApart : List Host → Type 0
AreApart hosts = (g h : Host) → Has g hosts → Has h hosts → name_of g ≡ name_of h → g ≡ h

-- the records of which the lines are kept have no fault without their clocks
pub record HasScanned (s : Scan) : Type 0 where
  pub hosts_are : hosts_in s.hosts.items ≡ hosts_of (records s.lines.items)
  pub few_hosts : length s.hosts.items ≤ most_processes
  pub few_lines : length s.lines.items ≤ most_events
  pub clash_is : s.clash ≡ first_of clash_fault [] (records s.lines.items)
  pub apart : s.clash ≡ None → AreApart (hosts_in s.hosts.items)

-- what the hosts of a text tell
pub record IsScan (text : List ℕ) (s : Scan) : Type 0 where
  pub lines_are : records s.lines.items ≡ until plain_fault [] (judged text)
  pub fault_is : s.fault
      ≡ choose (first_of plain_fault [] (judged text)) (λ f. Some f) (end_fault text)
  pub fine : s.fault ≡ None → HasScanned s
