-- Which sources can be merged, and that their order doesn't matter.
use Rattle.std.specs.Prelude.{◌≡◌, ◌↔◌, ℕ, ◌<◌, ◌≤◌, true, List, length, map, None, count_by}
use Rattle.std.specs.Prelude.{Contains}
use Rattle.std.specs.List.{AllByRecursion}
use Rattle.std.specs.List.Sorted.{IsPermutation}
use Rattle.pota_base.specs.Limits.{most_events, most_sources}
use Rattle.event_log.specs.declared.log.Header.{Header}
use Rattle.event_log.specs.declared.log.Log.{Log}
use Rattle.event_log.specs.LogText.{HeaderFits, EventFits, LogFits, HasVarLines}
use Rattle.vector_clock.specs.Events.{CanBeChecked}
use Rattle.log_merge.specs.Sources.{IsSource, in_one_batch, has_lines_of, events_in}
use Rattle.log_merge.specs.Faults.{merge_fault}
use Rattle.log_merge.specs.Merging.{merged_header, merged_events, numbered, merged_log, merged}

-- two headers of one version and of the same processes
pub record StartAlike (g h : Header) : Type 0 where
  pub version : g.version ≡ h.version
  pub procs : g.procs ≡ h.procs

-- Sources of one version and of the same processes, each with lines of at most one of them, and no
-- two with lines of the same one. There are at most 32, with at most 50,000 events.
pub record AreApart (sources : List Log) : Type 0 where
  pub same : (s t : Log) → Contains sources s → Contains sources t
      → StartAlike s.header t.header
  pub alone : (s : Log) → Contains sources s → (p q : ℕ) → has_lines_of p s ≡ true
      → has_lines_of q s ≡ true → p ≡ q
  pub once : (p : ℕ) → count_by (has_lines_of p) sources ≤ 1
  pub few : length sources ≤ most_sources
  pub small : events_in sources ≤ most_events

-- there is no fault exactly where the sources can be merged
abbrev pub NoFaultIsApart : Type 0
NoFaultIsApart = (sources : List Log) → (merge_fault sources ≡ None) ↔ AreApart sources

-- In every order of the sources there is a log, and then the same one, or in none.
abbrev pub AnyOrderWillDo : Type 0
AnyOrderWillDo = (xs ys : List Log) → IsPermutation xs ys → AllByRecursion IsSource xs
    → ((merge_fault xs ≡ None) ↔ (merge_fault ys ≡ None))
    × (merge_fault xs ≡ None → merged_log xs ≡ merged_log ys)

-- The merged log has a header and events that could be read, and its clocks can be checked. Only
-- its lines are none of a text.
pub record MergedFits (sources : List Log) : Type 0 where
  pub header : HeaderFits (merged_header sources)
  pub events : AllByRecursion (EventFits (merged_header sources))
      (numbered 1 (merged_events sources))
  pub checked : CanBeChecked (merged_log sources)

abbrev pub MergedLogsFit : Type 0
MergedLogsFit = (sources : List Log) → 0 < length sources → AllByRecursion IsSource sources
    → merge_fault sources ≡ None → MergedFits sources

-- a log that reading gives is a source, and so is the same log in one batch
abbrev pub LogsAreSources : Type 0
LogsAreSources = (log : Log) → LogFits log → HasVarLines log.header
    → IsSource log × IsSource (in_one_batch log)

-- with all its events in one batch each source is as good
abbrev pub BatchesDoNotMatter : Type 0
BatchesDoNotMatter = (sources : List Log)
    → (merge_fault (map in_one_batch sources) ≡ merge_fault sources)
    × (merged (map in_one_batch sources) ≡ merged sources)
