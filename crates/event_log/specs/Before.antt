-- What the lines before a line say, and what a line gives after them. The lines are without their
-- line feeds, the newest first.
use Rattle.std.specs.Prelude.{◌≡◌, ◌⊎◌, ℕ, ◌+◌, ◌-◌, Bool, true, false, not, ◌&&◌, ◌||◌, ◌==◌}
use Rattle.std.specs.Prelude.{nat_le, List, [], ◌∷◌, ◌++◌, length, map, replicate, Option, None}
use Rattle.std.specs.Prelude.{Some, is_some, unwrap_or, Result, Ok, Err, if◌then◌else◌}
use Rattle.std.specs.Str.{bytes_eq}
use Rattle.log_lines.specs.Names.{Name, place_of}
use Rattle.log_lines.specs.Spelling.{NamedValue, VarsLine, batch_line, end_line}
use Rattle.log_lines.specs.Reading.{choose, text_at, procs_in, vars_in, event_in, begins_vars}
use Rattle.event_log.specs.declared.item.LogCode.{LogCode}
use Rattle.event_log.specs.declared.item.LogCode.TheVariants as code
use Rattle.event_log.specs.declared.item.Item.{Item}
use Rattle.event_log.specs.declared.item.Item.TheVariants as item
use Rattle.event_log.specs.declared.log.Binding.{Binding}
use Rattle.event_log.specs.declared.log.Header.{Header}
use Rattle.event_log.specs.declared.log.Event.{Event}
use Rattle.event_log.specs.Numbers.{event_named}

abbrev pub Line : Type 0
Line = List ℕ

-- `pota-log 1` or `pota-log 2`: 48 is the byte of the digit 0
abbrev pub heading_of : ℕ → Line
heading_of version =
    112 ∷ 111 ∷ 116 ∷ 97 ∷ 45 ∷ 108 ∷ 111 ∷ 103 ∷ 32 ∷ (48 + version) ∷ []

-- there are two versions
abbrev pub IsVersion : ℕ → Type 0
IsVersion version = (version ≡ 1) ⊎ (version ≡ 2)

-- the version that a first line names
abbrev pub version_in : Line → Option ℕ
version_in line =
    if bytes_eq line (heading_of 1) then Some 1
    else if bytes_eq line (heading_of 2) then Some 2 else None

-- ---- looking back

-- the version of the first line
unfoldable pub version : List Line → ℕ
version [] = 1
version (line ∷ older) =
    if length older == 0 then unwrap_or (version_in line) 1 else version older

-- the names of the second line
unfoldable pub names : List Line → List Name
names [] = []
names (line ∷ older) = if length older == 1 then unwrap_or (procs_in line) [] else names older

-- whether a line past the second doesn't begin with `vars`
unfoldable pub is_header_over : List Line → Bool
is_header_over [] = false
is_header_over (line ∷ older) =
    (nat_le 2 (length older) && not (begins_vars line)) || is_header_over older

-- lists for as many processes, those added without variables
abbrev pub filled : List (List Binding) → ℕ → List (List Binding)
filled variables count = variables ++ replicate (count - length variables) []

abbrev pub bindings_of : List NamedValue → List Binding
bindings_of values = map (λ (v : NamedValue). record { name = v.name; value = v.value }) values

-- the variables of one process more
abbrev pub with_variables : List (List Binding) → Option ℕ → VarsLine → List (List Binding)
with_variables variables None v = variables
with_variables variables (Some process) v = filled variables process ++ bindings_of v.variables ∷ []

-- the variables with those of a `vars` line
abbrev pub variables_after : List Name → List (List Binding) → Line → List (List Binding)
variables_after procs variables line =
    choose (vars_in line) (λ v. with_variables variables (place_of procs v.process) v) variables

-- The variables of the processes up to that of the last `vars` line, where those lines stand before
-- all others.
unfoldable pub variables : List Line → List (List Binding)
variables [] = []
variables (line ∷ older) =
    if nat_le 2 (length older) && (not (is_header_over older) && begins_vars line)
    then variables_after (names older) (variables older) line
    else variables older

-- the lines that spell these variables, from this one on, and 0 for a process without variables
abbrev pub lines_from : ℕ → List (List Binding) → List ℕ
lines_from line [] = []
lines_from line ([] ∷ others) = 0 ∷ lines_from line others
lines_from line ((b ∷ bindings) ∷ others) = line ∷ lines_from (line + 1) others

-- the `vars` lines stand right behind the second line
abbrev pub var_lines_of : List (List Binding) → List ℕ
var_lines_of variables = lines_from 3 variables

-- the header of this version, these processes and variables, with the lines that spell them
abbrev pub headed : ℕ → List Name → List (List Binding) → Header
headed version procs variables = record {
  version = version;
  procs = procs;
  vars = variables;
  var_lines = var_lines_of variables;
}

-- the header that the lines spell
abbrev pub header_of : List Line → Header
header_of older =
    headed (version older) (names older) (filled (variables older) (length (names older)))

-- whether the line begins with `ev`
abbrev pub begins_event : Line → Bool
begins_event line = is_some (text_at (101 ∷ 118 ∷ []) line)

-- how many events there are
unfoldable pub events : List Line → ℕ
events [] = 0
events (line ∷ older) =
    if nat_le 2 (length older) && begins_event line then events older + 1 else events older

-- whether the `end` line is among the lines
unfoldable pub is_ended : List Line → Bool
is_ended [] = false
is_ended (line ∷ older) = (nat_le 2 (length older) && bytes_eq line end_line) || is_ended older

-- ---- what a line gives: items, or its first fault

pub record Told : Type 0 where
  pub items : List Item
  pub fault : Option LogCode

abbrev pub gives : List Item → Told
gives items = record { items = items; fault = None }

abbrev pub refuses : LogCode → Told
refuses fault = record { items = []; fault = Some fault }

-- nothing where the test holds, else this fault
abbrev pub requires : LogCode → Bool → Told
requires fault true = gives []
requires fault false = refuses fault

abbrev pub heading_told : Line → Told
heading_told line = requires code.BadHeader (is_some (version_in line))

abbrev pub procs_told : Line → Told
procs_told line = requires code.BadProcs (is_some (procs_in line))

-- a `vars` line, whose process comes after that of the `vars` line before it
abbrev pub vars_placed : List (List Binding) → Option ℕ → Told
vars_placed variables None = refuses code.UnknownProcess
vars_placed variables (Some process) = requires code.BadLine (nat_le (length variables) process)

abbrev pub vars_told : List Name → List (List Binding) → Line → Told
vars_told procs variables line =
    choose (vars_in line) (λ v. vars_placed variables (place_of procs v.process))
    (refuses code.BadLine)

abbrev pub event_told : Result Event LogCode → Told
event_told (Ok e) = gives (item.Event e ∷ [])
event_told (Err fault) = refuses fault

-- an event, `batch` or `end`, on the line of this number and after so many events
abbrev pub body_told : ℕ → List Name → List (List Binding) → ℕ → ℕ → Line → Told
body_told version procs variables number events line =
    if bytes_eq line batch_line then gives (item.BatchEnd ∷ [])
    else if bytes_eq line end_line then gives (item.End ∷ [])
    else choose (event_in line)
    (λ e. event_told (event_named version procs variables number events e))
    (refuses code.BadLine)

-- the first line behind the header gives the header too, whatever is wrong with the line
abbrev pub with_header : List Line → Told → Told
with_header older told =
    if is_header_over older then told
    else record { items = item.Header (header_of older) ∷ told.items; fault = told.fault }

unfoldable pub told : List Line → Line → Told
told older line =
    if is_ended older then refuses code.Trailing
    else if length older == 0 then heading_told line
    else if length older == 1 then procs_told line
    else if is_header_over older || not (begins_vars line)
    then with_header older
    (body_told (version older) (names older) (variables older) (length older + 1) (events older)
    line)
    else vars_told (names older) (variables older) line
