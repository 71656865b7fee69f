-- What the reader of sources keeps of the bytes so far.
use Rattle.std.specs.Prelude.{◌≡◌, ◌<◌, ◌≤◌, List, length, map, None}
use Rattle.std.specs.List.{AllByRecursion}
use Rattle.pota_base.specs.Limits.{most_sources}
use Rattle.event_log.specs.declared.log.Log.{Log}
use Rattle.event_log.specs.LogEnd.{is_whole}
use Rattle.event_log.specs.Faults.{first_fault, items}
use Rattle.event_log.specs.Reader.{HasRead}
use Rattle.log_merge.specs.Sources.{IsSource}
use Rattle.log_merge.specs.Faults.{merge_fault}
use Rattle.log_merge.specs.Owners.{HasJoined}
use Rattle.log_sources.specs.declared.reader.SourceReader.{SourceReader}
use Rattle.log_sources.specs.Drafts.{empty_draft, with_items}
use Rattle.log_sources.specs.Sources.{Sources, turned, log_at}

-- the reader goes on with the last of these sources, behind those that are whole
pub record ReadsOn (r : SourceReader) (s : Sources) : Type 0 where
  pub faultless : first_fault s.now ≡ None
  pub total_is : r.total ≡ s.total
  pub sources_are : r.sources ≡ map log_at s.before
  pub each : AllByRecursion IsSource r.sources
  pub joined : HasJoined r.joined r.sources
  pub log : HasRead r.reader s.now
  pub draft_is : r.draft ≡ with_items empty_draft (items s.now)

-- the reader has read these sources
pub record HasReadSources (r : SourceReader) (s : Sources) : Type 0 where
  pub fault_is : r.fault ≡ s.fault
  pub faultless : s.fault ≡ None → first_fault s.now ≡ None
  pub between_is : s.fault ≡ None → r.between ≡ is_whole s.now
  pub reads : s.fault ≡ None → ReadsOn r (turned s)

-- the logs can be merged
pub record CanMerge (logs : List Log) : Type 0 where
  pub some : 0 < length logs
  pub few : length logs ≤ most_sources
  pub each : AllByRecursion IsSource logs
  pub faultless : merge_fault logs ≡ None
