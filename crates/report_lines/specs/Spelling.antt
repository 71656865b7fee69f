-- The lines of a report, and the one spelling of each, without its line feed; and what has a
-- spelling.
use Rattle.std.specs.Prelude.{◌≡◌, ℕ, ◌^◌, ◌<◌, ◌≤◌, Bool, true, false, List, [], ◌∷◌, ◌++◌, length}
use Rattle.std.specs.Prelude.{sum, Option, None, Some, codes}
use Rattle.std.specs.List.{AllByRecursion}
use Rattle.std.specs.Fmt.{decimal}
use Rattle.run_model.specs.Cut.{Cut, IsWithin}
use Rattle.pota_base.specs.declared.shape.EventId.{EventId}
use Rattle.pota_base.specs.Shape.{HasEvent}
use Rattle.pota_base.specs.Limits.{most_events}
use Rattle.log_lines.specs.Names.{Name}
use Rattle.log_lines.specs.Spelling.{ProcsFit, clock_text}
use Rattle.event_log.specs.LogText.{name_at}
use Rattle.witness_kinds.specs.declared.Path.{Path}
use Rattle.witness_kinds.specs.declared.Witness.{Witness}
use Rattle.witness_kinds.specs.declared.Witness.TheVariants as witness
use Rattle.slice_graph.specs.declared.edges.Edge.{Edge}
use Rattle.report_lines.specs.declared.kinds.WitnessText.{WitnessText}

-- ---- parts of lines

-- ` NAME NAT`, the name that of the event's process
abbrev pub event_text : List Name → EventId → List ℕ
event_text procs e = 32 ∷ (name_at procs e.process ++ 32 ∷ decimal e.position)

abbrev pub truth_text : Bool → List ℕ
truth_text true = codes "true"
truth_text false = codes "false"

-- bottom and top, parted by a space, or `empty`
abbrev pub bounds_text : Option (Cut × Cut) → List ℕ
bounds_text None = codes "empty"
bounds_text (Some bounds) = clock_text bounds.0 ++ 32 ∷ clock_text bounds.1

-- what is told behind the numbers of a witness
abbrev pub kind_text : List Name → Witness → List ℕ
kind_text procs witness.Nothing = codes "none"
kind_text procs (witness.Reach path) = codes "reach " ++ clock_text path.goal
kind_text procs (witness.Against path) = codes "against " ++ clock_text path.goal
kind_text procs (witness.Always path) = codes "always " ++ clock_text path.goal
kind_text procs witness.StuckStart = codes "stuck start"
kind_text procs witness.StuckFinish = codes "stuck finish"
kind_text procs (witness.StuckPair first other) =
    codes "stuck pair" ++ (event_text procs first ++ event_text procs other)

-- ---- lines

-- the first line
abbrev pub title : List ℕ
title = codes "pota-report 1"

abbrev pub batch_line : ℕ → List ℕ
batch_line batch = codes "batch " ++ decimal batch

abbrev pub lengths_line : Cut → List ℕ
lengths_line lengths = codes "lengths " ++ clock_text lengths

abbrev pub formula_line : List ℕ → List ℕ
formula_line text = codes "formula " ++ text

abbrev pub verdict_line : Bool → List ℕ
verdict_line verdict = codes "verdict " ++ truth_text verdict

-- the bottom and the top of a slice
abbrev pub slice_line : Option (Cut × Cut) → List ℕ
slice_line bounds = codes "slice " ++ bounds_text bounds

-- an edge, the cause first
abbrev pub edge_line : List Name → Edge → List ℕ
edge_line procs e =
    codes "edge" ++ (event_text procs e.cause ++ (codes " ->" ++ event_text procs e.effect))

-- a witness without the steps of its path, which have lines of their own
abbrev pub witness_line : List Name → WitnessText → List ℕ
witness_line procs w =
    codes "witness " ++ (decimal w.disjunct ++ 46
    ∷ (decimal w.part ++ 32 ∷ kind_text procs w.witness))

abbrev pub step_line : List Name → EventId → List ℕ
step_line procs e = codes "step" ++ event_text procs e

-- ---- what has a spelling

-- a number from 1 to 4,294,967,295
pub record IsPositive (n : ℕ) : Type 0 where
  pub some : 1 ≤ n
  pub small : n < 2 ^ 32

-- one component a process, and at most 50,000 events
pub record LengthsFit (procs : List Name) (lengths : Cut) : Type 0 where
  pub width : length lengths ≡ length procs
  pub few : sum lengths ≤ most_events

-- one component a process, within the lengths
pub record CutFits (lengths c : Cut) : Type 0 where
  pub width : length c ≡ length lengths
  pub within : IsWithin c lengths

pub record EdgeFits (lengths : Cut) (e : Edge) : Type 0 where
  pub cause : HasEvent lengths e.cause
  pub effect : HasEvent lengths e.effect

abbrev pub BoundsFit : Cut → Option (Cut × Cut) → Type 0
BoundsFit lengths None = Unit {0}
BoundsFit lengths (Some bounds) = CutFits lengths bounds.0 × CutFits lengths bounds.1

pub record PathFits (lengths : Cut) (path : Path) : Type 0 where
  pub goal : CutFits lengths path.goal
  pub steps : AllByRecursion (HasEvent lengths) path.steps

abbrev pub WitnessFits : Cut → Witness → Type 0
WitnessFits lengths witness.Nothing = Unit {0}
WitnessFits lengths (witness.Reach path) = PathFits lengths path
WitnessFits lengths (witness.Against path) = PathFits lengths path
WitnessFits lengths (witness.Always path) = PathFits lengths path
WitnessFits lengths witness.StuckStart = Unit {0}
WitnessFits lengths witness.StuckFinish = Unit {0}
WitnessFits lengths (witness.StuckPair first other) =
    HasEvent lengths first × HasEvent lengths other

-- a witness of a part, with the numbers of its disjunct and of the part
pub record WitnessTextFits (lengths : Cut) (w : WitnessText) : Type 0 where
  pub disjunct : IsPositive w.disjunct
  pub part : IsPositive w.part
  pub witness : WitnessFits lengths w.witness

-- the names and the lengths of the processes of a run
pub record RunFits (names : List Name) (counts : Cut) : Type 0 where
  pub procs : ProcsFit names
  pub lengths : LengthsFit names counts

-- the processes of the events of a pair have names
abbrev pub IsNamed : List Name → Witness → Type 0
IsNamed procs (witness.StuckPair first other) =
    (first.process < length procs) × (other.process < length procs)
IsNamed procs w = Unit {0}
