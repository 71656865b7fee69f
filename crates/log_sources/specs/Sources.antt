-- The texts of several logs one behind another, the sources, read byte by byte. The bytes of a
-- source, the newest first, are its past.
use Rattle.std.specs.Prelude.{ℕ, ◌+◌, nat_le, List, [], ◌∷◌, ◌++◌, length, map, Option, None, Some}
use Rattle.std.specs.Prelude.{if◌then◌else◌}
use Rattle.std.specs.Option.{option_map}
use Rattle.pota_base.specs.Limits.{longest_log, most_sources}
use Rattle.log_lines.specs.Reading.{choose}
use Rattle.event_log.specs.declared.item.LogFault.{LogFault}
use Rattle.event_log.specs.declared.log.Log.{Log}
use Rattle.event_log.specs.Feeding.{Past}
use Rattle.event_log.specs.Moments.{lines}
use Rattle.event_log.specs.LogEnd.{is_whole}
use Rattle.event_log.specs.Faults.{first_fault, items, end_fault}
use Rattle.fault_kinds.specs.declared.merge.MergeCode.{MergeCode}
use Rattle.fault_kinds.specs.declared.merge.MergeCode.TheVariants as code
use Rattle.fault_kinds.specs.declared.merge.MergeFault.{MergeFault}
use Rattle.log_merge.specs.Faults.{source_fault, placed}
use Rattle.log_sources.specs.Drafts.{log_in}

-- what the bytes so far are
pub record Sources : Type 0 where
  -- the sources before the one that is read
  pub before : List Past
  -- the one that is read
  pub now : Past
  -- how many bytes there are
  pub total : ℕ
  pub fault : Option MergeFault

abbrev pub no_sources : Sources
no_sources = record { before = []; now = []; total = 0; fault = None }

-- a fault of the source behind those before it
abbrev pub fault_at : List Past → MergeCode → ℕ → MergeFault
fault_at before code line = record { code = code; source = length before + 1; line = line }

-- a fault of its own
abbrev pub of_source : List Past → LogFault → MergeFault
of_source before f = fault_at before (code.Log f.code) f.line

-- where the source is whole the next byte is of the next one
unfoldable pub turned : Sources → Sources
turned s =
    if is_whole s.now then record s { before = s.before ++ s.now ∷ []; now = [] } else s

-- the fault of the next byte, whatever byte it is
unfoldable pub input_fault : Sources → Option MergeFault
input_fault s =
    if nat_le most_sources (length s.before) then Some (fault_at s.before code.TooManySources 1)
    else if nat_le longest_log s.total
    then Some (fault_at s.before code.TooLong (length (lines s.now) + 1))
    else None

-- the log of a source, with its events in one batch
abbrev pub log_at : Past → Log
log_at past = log_in (items past)

-- the fault of a whole source behind those before it
unfoldable pub join_fault : List Past → Past → Option MergeFault
join_fault before now =
    option_map (placed (length before + 1)) (source_fault (map log_at before) (log_at now))

abbrev pub own_fault : List Past → Past → Option MergeFault
own_fault before now = option_map (of_source before) (first_fault now)

abbrev pub whole_fault : List Past → Past → Option MergeFault
whole_fault before now = if is_whole now then join_fault before now else None

-- the fault of a source, whole or not: its own comes first
unfoldable pub fault_behind : List Past → Past → Option MergeFault
fault_behind before now =
    choose (own_fault before now) (λ f. Some f) (whole_fault before now)

-- so many bytes came, the last ones of this source
abbrev pub judged : List Past → Past → ℕ → Sources
judged before now total =
    record { before = before; now = now; total = total; fault = fault_behind before now }

-- one byte more
abbrev pub taken : Sources → ℕ → Sources
taken s b =
    choose (input_fault s) (λ f. record s { fault = Some f })
    (judged s.before (b ∷ s.now) (s.total + 1))

-- nothing comes behind a fault
unfoldable pub step : Sources → ℕ → Sources
step s b = choose s.fault (λ f. s) (taken (turned s) b)

-- all bytes in turn
unfoldable pub after : Sources → List ℕ → Sources
after s [] = s
after s (b ∷ bytes) = after (step s b) bytes

-- the fault where the input ends here
unfoldable pub last_fault : Sources → Option MergeFault
last_fault s =
    choose s.fault (λ f. Some f) (option_map (of_source s.before) (end_fault s.now))

-- the logs of all sources, each with its events in one batch
abbrev pub logs_of : Sources → List Log
logs_of s = map log_at (s.before ++ s.now ∷ [])
