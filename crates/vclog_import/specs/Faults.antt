-- The first fault of a text.
use Rattle.std.specs.Prelude.{ℕ, ◌+◌, Bool, true, not, ◌||◌, ◌==◌, nat_lt, nat_le, List, []}
use Rattle.std.specs.Prelude.{◌∷◌, ◌++◌, length, take, Option, None, Some, is_some, if◌then◌else◌}
use Rattle.std.specs.Prelude.{Result, Ok, Err}
use Rattle.std.specs.List.{list_any}
use Rattle.pota_base.specs.declared.fault.Refused.{Refused}
use Rattle.pota_base.specs.declared.fault.Refused.TheVariants.{Fault, NoMemory}
use Rattle.pota_base.specs.Limits.{longest_log, longest_name, most_events, most_processes}
use Rattle.log_lines.specs.Reading.{choose}
use Rattle.fault_kinds.specs.declared.import.ImportCode.{ImportCode}
use Rattle.fault_kinds.specs.declared.import.ImportCode.TheVariants as code
use Rattle.fault_kinds.specs.declared.import.ImportFault.{ImportFault}
use Rattle.vclog_import.specs.Lines.{Line, Record, lines_in, feeds, records_in, is_due_behind}
use Rattle.vclog_import.specs.Hosts.{Host, name_of, hosts_of, do_clash}
use Rattle.vclog_import.specs.Clock.{clock_in, clock_of, all_known}

-- ---- what is judged of a text

-- there is byte 67,108,865
abbrev pub is_too_long : List ℕ → Bool
is_too_long text = nat_lt longest_log (length text)

-- the bytes before that one
abbrev pub front_of : List ℕ → List ℕ
front_of text = take longest_log text

-- the lines of the text; of a text that is too long only the whole ones before that byte
abbrev pub judged_lines : List ℕ → List Line
judged_lines text = lines_in (not (is_too_long text)) (front_of text)

-- the records of the text
abbrev pub judged : List ℕ → List Record
judged text = records_in true 1 (judged_lines text)

-- the line on which the input stands at its end, or at the byte that is too much
abbrev pub last_line : List ℕ → ℕ
last_line text = feeds (front_of text) + 1

-- ---- faults of records

-- a fault of a record behind those before it
abbrev pub Judge : Type 0
Judge = List Record → Record → Option ImportCode

abbrev pub at_line : Record → ImportCode → ImportFault
at_line r code = record { code = code; line = r.line }

-- the first fault of records behind those before them
unfoldable pub first_of : Judge → List Record → List Record → Option ImportFault
first_of fault before [] = None
first_of fault before (r ∷ rs) =
    choose (fault before r) (λ c. Some (at_line r c)) (first_of fault (before ++ r ∷ []) rs)

-- there is no space, or no host before it, or its name is longer than 64 bytes
abbrev pub is_bad : Record → Bool
is_bad r = length r.host == 0 || nat_lt longest_name (length (name_of r.host))

-- its host is the 33rd
abbrev pub is_host_too_many : List Record → Record → Bool
is_host_too_many before r = nat_lt most_processes (length (hosts_of (before ++ r ∷ [])))

-- it is record 50,001
abbrev pub is_record_too_many : List Record → Bool
is_record_too_many before = nat_le most_events (length before)

abbrev pub number_fault : Judge
number_fault before r = if is_host_too_many before r then Some code.TooManyHosts
    else if is_record_too_many before then Some code.TooManyEvents else None

abbrev pub clock_fault : Record → Option ImportCode
clock_fault r = if is_some (clock_in r.clock) then None else Some code.BadClock

-- the faults that come by line, and on a line in this order
abbrev pub line_fault : Judge
line_fault before r = if is_bad r then Some code.BadHostLine
    else choose (clock_fault r) (λ c. Some c) (number_fault before r)

-- its host has the name of another host that came before
abbrev pub clash_fault : Judge
clash_fault before r =
    if list_any (λ (g : Record). do_clash g.host r.host) before then Some code.HostClash else None

-- its clock has a positive counter of what is no host of the text
abbrev pub unknown_fault : List Host → Judge
unknown_fault hosts before r =
    if all_known hosts (clock_of r) then None else Some code.UnknownHost

-- ---- the first fault

-- a description is due, or there is no record
abbrev pub is_truncated : List ℕ → Bool
is_truncated text =
    not (is_due_behind true (judged_lines text)) || length (judged text) == 0

-- the fault where the input stands: that of the byte that is too much, else that of a truncated
-- text
abbrev pub ended_at : ℕ → Bool → Bool → Option ImportFault
ended_at line is_long is_cut =
    if is_long then Some (record { code = code.TooLong; line = line })
    else if is_cut then Some (record { code = code.Truncated; line = line }) else None

abbrev pub end_fault : List ℕ → Option ImportFault
end_fault text = ended_at (last_line text) (is_too_long text) (is_truncated text)

-- of two faults the one on the lower line, the first of them on one line
abbrev pub earlier : Option ImportFault → Option ImportFault → Option ImportFault
earlier None g = g
earlier (Some f) None = Some f
earlier (Some f) (Some g) = if nat_le f.line g.line then Some f else Some g

-- the first fault of hosts, where all records are there
abbrev pub host_fault : List Record → Option ImportFault
host_fault rs =
    earlier (first_of clash_fault [] rs) (first_of (unknown_fault (hosts_of rs)) [] rs)

-- the first fault of a text: of its lines, else of its end, and only without these of its hosts
abbrev pub fault_of : List ℕ → Option ImportFault
fault_of text = choose (first_of line_fault [] (judged text)) (λ f. Some f)
    (choose (end_fault text) (λ f. Some f) (host_fault (judged text)))

-- what holds of a fault
abbrev pub IfFault : {T : Type 0} → Result T (Refused ImportFault) → (ImportFault → Type 0)
    → Type 0
IfFault (Ok x) P = Unit {0}
IfFault (Err (Fault f)) P = P f
IfFault (Err NoMemory) P = Unit {0}
