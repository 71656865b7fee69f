-- Reading a line of a report: what it says, or None where no line of its kind is spelled so.
use Rattle.std.specs.Prelude.{ℕ, ◌-◌, ◌^◌, Bool, true, false, ◌&&◌, ◌==◌, nat_lt, nat_le, List, []}
use Rattle.std.specs.Prelude.{◌∷◌, ◌++◌, length, sum, Option, None, Some, codes, if◌then◌else◌}
use Rattle.std.specs.Str.{bytes_eq}
use Rattle.std.specs.Borrow.{Bor}
use Rattle.run_model.specs.Cut.{Cut, count}
use Rattle.pota_base.specs.declared.shape.EventId.{EventId}
use Rattle.pota_base.specs.Number.{◌>>=◌, number_at}
use Rattle.pota_base.specs.Limits.{most_events}
use Rattle.log_lines.specs.Names.{Name, place_of}
use Rattle.log_lines.specs.Reading.{choose, text_at, spaced_name_at, clock_at}
use Rattle.witness_kinds.specs.declared.Path.{Path}
use Rattle.witness_kinds.specs.declared.Witness.{Witness}
use Rattle.witness_kinds.specs.declared.Witness.TheVariants as witness
use Rattle.slice_graph.specs.declared.edges.Edge.{Edge}
use Rattle.report_lines.specs.declared.kinds.WitnessText.{WitnessText}
use Rattle.report_lines.specs.Spelling.{title}
use Rattle.report_lines.specs.Formula.{is_canonical}

-- ---- parts of lines

-- the value, where nothing is left behind it
abbrev pub alone : {A : Type 0} → A × List ℕ → Option A
alone read = if length read.1 == 0 then Some read.0 else None

-- a number from 1 to 4,294,967,295
unfoldable pub positive_at : List ℕ → Option (ℕ × List ℕ)
positive_at bytes = number_at (2 ^ 32 - 1) bytes >>= λ n. if n.0 == 0 then None else Some n

-- whether each count of the first cut is at most that of the second
abbrev pub are_within : Cut → Cut → Bool
are_within [] d = true
are_within (x ∷ c) [] = false
are_within (x ∷ c) (y ∷ d) = nat_le x y && are_within c d

-- a cut of so many processes
unfoldable pub cut_at : ℕ → List ℕ → Option (Cut × List ℕ)
cut_at width bytes = clock_at bytes >>= λ c. if length c.0 == width then Some c else None

-- a cut within the lengths
unfoldable pub within_at : Cut → List ℕ → Option (Cut × List ℕ)
within_at lengths bytes =
    cut_at (length lengths) bytes >>= λ c. if are_within c.0 lengths then Some c else None

-- ` NAME NAT`, an event that is there
unfoldable pub event_at : List Name → Cut → List ℕ → Option (EventId × List ℕ)
event_at procs lengths bytes = do
  name ← spaced_name_at bytes
  process ← place_of procs name.0
  rest ← text_at (32 ∷ []) name.1
  position ← positive_at rest
  if nat_le position.0 (count lengths process)
      then Some (record { process = process; position = position.0 }, position.1) else None

-- ---- lines

abbrev pub is_title : List ℕ → Bool
is_title line = bytes_eq line title

unfoldable pub batch_in : List ℕ → Option ℕ
batch_in line = text_at (codes "batch ") line >>= positive_at >>= alone

-- of so many processes, at most 50,000 events in all
unfoldable pub lengths_in : ℕ → List ℕ → Option Cut
lengths_in procs line =
    text_at (codes "lengths ") line >>= cut_at procs >>= alone >>= λ lengths. if nat_le
    (sum lengths) most_events then Some lengths else None

unfoldable pub formula_in : List ℕ → Option (List ℕ)
formula_in line =
    text_at (codes "formula ") line >>= λ text. if is_canonical text then Some text else None

abbrev pub truth_in : List ℕ → Option Bool
truth_in text =
    if bytes_eq text (codes "true") then Some true else if bytes_eq text (codes "false")
    then Some false else None

unfoldable pub verdict_in : List ℕ → Option Bool
verdict_in line = text_at (codes "verdict ") line >>= truth_in

-- two cuts parted by a space
unfoldable pub bounds_in : Cut → List ℕ → Option (Option (Cut × Cut))
bounds_in lengths bytes = do
  low ← within_at lengths bytes
  rest ← text_at (32 ∷ []) low.1
  high ← within_at lengths rest
  alone (Some (low.0, high.0), high.1)

-- the bounds of a slice, or none where it is empty
unfoldable pub slice_in : Cut → List ℕ → Option (Option (Cut × Cut))
slice_in lengths line =
    text_at (codes "slice ") line >>= λ rest. if bytes_eq rest (codes "empty") then Some None
    else bounds_in lengths rest

unfoldable pub edge_in : List Name → Cut → List ℕ → Option Edge
edge_in procs lengths line = do
  rest ← text_at (codes "edge") line
  cause ← event_at procs lengths rest
  arrow ← text_at (codes " ->") cause.1
  effect ← event_at procs lengths arrow
  alone (record { cause = cause.0; effect = effect.0 }, effect.1)

unfoldable pub step_in : List Name → Cut → List ℕ → Option EventId
step_in procs lengths line = text_at (codes "step") line >>= event_at procs lengths >>= alone

-- ---- witnesses

-- a path of which no step is read yet
abbrev pub path_to : Cut → Path
path_to goal = record { goal = goal; steps = [] }

abbrev pub goal_in : Cut → List ℕ → Option Path
goal_in lengths bytes = within_at lengths bytes >>= alone >>= λ goal. Some (path_to goal)

abbrev pub pair_in : List Name → Cut → List ℕ → Option Witness
pair_in procs lengths bytes = do
  first ← event_at procs lengths bytes
  other ← event_at procs lengths first.1
  alone (witness.StuckPair first.0 other.0, other.1)

abbrev pub plain_in : List ℕ → Option Witness
plain_in bytes =
    if bytes_eq bytes (codes "none") then Some witness.Nothing
    else if bytes_eq bytes (codes "stuck start") then Some witness.StuckStart
    else if bytes_eq bytes (codes "stuck finish") then Some witness.StuckFinish
    else None

-- ---- the steps of a path

abbrev pub has_path : Witness → Bool
has_path (witness.Reach path) = true
has_path (witness.Against path) = true
has_path (witness.Always path) = true
has_path w = false

abbrev pub steps_of : Witness → List EventId
steps_of (witness.Reach path) = path.steps
steps_of (witness.Against path) = path.steps
steps_of (witness.Always path) = path.steps
steps_of w = []

-- the witness with these steps of its path, if it has one
abbrev pub with_steps : Witness → List EventId → Witness
with_steps (witness.Reach path) steps = witness.Reach (record { goal = path.goal; steps = steps })
with_steps (witness.Against path) steps =
    witness.Against (record { goal = path.goal; steps = steps })
with_steps (witness.Always path) steps = witness.Always (record { goal = path.goal; steps = steps })
with_steps w steps = w

-- ---- the line of a witness

-- what is told behind the numbers of a witness
unfoldable pub kind_in : List Name → Cut → List ℕ → Option Witness
kind_in procs lengths bytes =
    choose (text_at (codes "reach ") bytes)
    (λ rest. goal_in lengths rest >>= λ path. Some (witness.Reach path))
    (choose (text_at (codes "against ") bytes)
    (λ rest. goal_in lengths rest >>= λ path. Some (witness.Against path))
    (choose (text_at (codes "always ") bytes)
    (λ rest. goal_in lengths rest >>= λ path. Some (witness.Always path))
    (choose (text_at (codes "stuck pair") bytes) (pair_in procs lengths)
    (plain_in bytes))))

-- `witness NAT.NAT `
unfoldable pub numbers_at : List ℕ → Option (ℕ × ℕ × List ℕ)
numbers_at line = do
  rest ← text_at (codes "witness ") line
  disjunct ← positive_at rest
  dot ← text_at (46 ∷ []) disjunct.1
  part ← positive_at dot
  space ← text_at (32 ∷ []) part.1
  Some (disjunct.0, part.0, space)

-- a witness, a path of it without its steps
unfoldable pub witness_in : List Name → Cut → List ℕ → Option WitnessText
witness_in procs lengths line = do
  numbers ← numbers_at line
  kind ← kind_in procs lengths numbers.2
  Some (record { disjunct = numbers.0; part = numbers.1; witness = kind })

-- what the code's reader gave, the bytes behind the reference
abbrev pub numbers_seen : Option (ℕ × ℕ × Bor (List ℕ)) → Option (ℕ × ℕ × List ℕ)
numbers_seen None = None
numbers_seen (Some n) = Some (n.0, n.1, n.2.now)
