-- The events of the records so far.
use Rattle.std.specs.Prelude.{◌≡◌, ℕ, ◌<◌, ◌≤◌, List, [], length, get_or}
use Rattle.pota_base.specs.Limits.{most_processes}
use Rattle.vclog_import.specs.declared.events.Events.{Events}
use Rattle.vclog_import.specs.Lines.{Record}
use Rattle.vclog_import.specs.Hosts.{records_of}
use Rattle.vclog_import.specs.Imported.{events_from}
use Rattle.vclog_import.specs.inside.Scans.{hosts_in}

-- the events are those of these records, and the counts are those of their hosts
pub record HasMade (made : Events) (before : List Record) : Type 0 where
  pub events_are : made.events ≡ events_from (hosts_in made.hosts.now) [] before
  pub counts_are : (p : ℕ) → p < length made.hosts.now
      → get_or made.counts p 0 ≡ records_of (get_or (hosts_in made.hosts.now) p []) before
  pub few : length made.hosts.now ≤ most_processes
