-- The first fault of sources, source by source.
use Rattle.std.specs.Prelude.{ℕ, ◌+◌, ◌-◌, Bool, ◌==◌, ◌&&◌, List, [], ◌∷◌, ◌++◌, length, Option}
use Rattle.std.specs.Prelude.{None, Some, if◌then◌else◌}
use Rattle.std.specs.Cmp.Lexicographic.{pointwise}
use Rattle.std.specs.List.{list_any}
use Rattle.std.specs.Option.{option_map, option_or}
use Rattle.std.specs.Str.{bytes_eq}
use Rattle.pota_base.specs.Limits.{most_events, most_sources}
use Rattle.event_log.specs.declared.log.Header.{Header}
use Rattle.event_log.specs.declared.log.Log.{Log}
use Rattle.fault_kinds.specs.declared.merge.MergeCode.{MergeCode}
use Rattle.fault_kinds.specs.declared.merge.MergeCode.TheVariants as code
use Rattle.log_merge.specs.declared.fault.Found.{Found}
use Rattle.fault_kinds.specs.declared.merge.MergeFault.{MergeFault}
use Rattle.log_merge.specs.declared.seen.Seen.{Seen}
use Rattle.log_merge.specs.declared.seen.Seen.TheVariants.{Nothing, One, Two}
use Rattle.log_merge.specs.Sources.{events_of, own_lines, has_lines_of, seen_of, line_at, events_in}

-- the first of two faults that is there
infixl 10 ◌<|>◌
abbrev pub ◌<|>◌ : {F : Type 0} → Option F → Option F → Option F
first <|> second = option_or first second

-- there is this fault
abbrev pub found : MergeCode → ℕ → Option Found
found code line = Some (record { code = code; line = line })

-- whether the headers name the same processes
abbrev pub same_procs : Header → Header → Bool
same_procs a b = pointwise bytes_eq a.procs b.procs

-- whether they begin with the same two lines
abbrev pub same_start : Header → Header → Bool
same_start a b = a.version == b.version && same_procs a b

-- its version or its processes aren't those of the first source
abbrev pub differs : List Log → Log → Option Found
differs [] source = None
differs (first ∷ rest) source =
    if same_start first.header source.header then None else found code.HeaderDiffers 2

-- It has lines of two processes; or a source before it has lines of its process.
abbrev pub not_alone : List Log → Seen → Option Found
not_alone before Nothing = None
not_alone before (One process line) =
    if list_any (has_lines_of process) before then found code.ProcessTwice line else None
not_alone before (Two line) = found code.TwoProcesses line

-- it is source 33
abbrev pub one_too_many : List Log → Option Found
one_too_many before = if length before == most_sources then found code.TooManySources 1 else None

-- it has event 50,001 of all events
abbrev pub event_too_many : List Log → Log → Option Found
event_too_many before source =
    option_map (λ (line : ℕ). record { code = code.TooManyEvents; line = line })
    (line_at (most_events - events_in before) (events_of source))

-- the first fault of a source behind those before it, in this order
abbrev pub source_fault : List Log → Log → Option Found
source_fault before source =
    differs before source <|> not_alone before (seen_of (own_lines source))
    <|> one_too_many before <|> event_too_many before source

-- the fault of the source of this number
abbrev pub placed : ℕ → Found → MergeFault
placed source f = record { code = f.code; source = source; line = f.line }

-- the first fault of the sources behind those before them
unfoldable pub fault_from : List Log → List Log → Option MergeFault
fault_from before [] = None
fault_from before (source ∷ rest) =
    option_map (placed (length before + 1)) (source_fault before source)
    <|> fault_from (before ++ source ∷ []) rest

-- the first fault of the sources
abbrev pub merge_fault : List Log → Option MergeFault
merge_fault sources = fault_from [] sources
