-- Laws of imported logs.
use Rattle.std.specs.Prelude.{◌≡◌, ◌↔◌, ℕ, ◌+◌, ◌≤◌, List, ◌∷◌, [], ◌++◌, length, None, Some}
use Rattle.std.specs.Prelude.{is_some, true}
use Rattle.std.specs.List.{AllByRecursion}
use Rattle.run_model.specs.Consistent.{HappenedBefore}
use Rattle.run_model.specs.Run as run
use Rattle.pota_base.specs.Limits.{longest_kept, most_events}
use Rattle.log_lines.specs.Names.{place_of}
use Rattle.event_log.specs.FittingItems.{FitFirst}
use Rattle.event_log.specs.LogText.{HeaderFits, EventFits, log_items}
use Rattle.event_log.specs.States.{trace_of_log}
use Rattle.vclog_import.specs.Lines.{Record}
use Rattle.vclog_import.specs.Hosts.{hosts_of, records_of}
use Rattle.vclog_import.specs.Clock.{clock_of, count_of}
use Rattle.vclog_import.specs.Faults.{judged, fault_of}
use Rattle.vclog_import.specs.Imported.{header_of, events_from, imported}

-- a record of the text and the event that it is: event a of process i, the process of its host
pub record IsRecord (rs : List Record) (r : Record) (i a : ℕ) : Type 0 where
  pub before : List Record
  pub behind : List Record
  pub stands : rs ≡ before ++ r ∷ behind
  pub process : place_of (hosts_of rs) r.host ≡ Some i
  pub position : a ≡ records_of r.host before + 1

-- the clock of record h counts event a of the host of record g, and h isn't that event itself, but
-- event b of process j
pub record IsCounted (g h : Record) (i a j b : ℕ) : Type 0 where
  pub counted : a ≤ count_of (clock_of h) g.host
  pub differs : (i ≡ j) × (a ≡ b) → ⊥

-- In the trace of an imported text an event happened before another exactly where the clock of the
-- other one counts it.
abbrev pub CountersAreTheOrder : Type 0
CountersAreTheOrder = (text : List ℕ) (g h : Record) (i a j b : ℕ)
    → IsRecord (judged text) g i a → IsRecord (judged text) h j b
    → HappenedBefore (run.clocks_of (trace_of_log (imported text))) i a j b
    ↔ IsCounted g h i a j b

-- The imported log has a header and at most 50,000 events that could be read, but for their lines,
-- and has an item for each.
pub record ImportedFits (text : List ℕ) : Type 0 where
  pub header : HeaderFits (header_of (hosts_of (judged text)))
  pub events : AllByRecursion (EventFits (header_of (hosts_of (judged text))))
      (events_from (hosts_of (judged text)) [] (judged text))
  pub few : length (judged text) ≤ most_events
  pub items : FitFirst (log_items (imported text))

abbrev pub ImportedLogsFit : Type 0
ImportedLogsFit = (text : List ℕ) → fault_of text ≡ None → ImportedFits text

-- a text of more than 67,108,864 bytes has a fault, and more bytes don't change it
abbrev pub LongTextsAreFaulty : Type 0
LongTextsAreFaulty = (text more : List ℕ) → longest_kept ≤ length text
    → (is_some (fault_of text) ≡ true) × (fault_of (text ++ more) ≡ fault_of text)
