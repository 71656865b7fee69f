-- The log that a text of two-line records is.
use Rattle.std.specs.Prelude.{ℕ, ◌+◌, pos, List, [], ◌∷◌, ◌++◌, length, map, replicate, unwrap_or}
use Rattle.log_lines.specs.Names.{place_of}
use Rattle.event_log.specs.declared.log.Binding.{Binding}
use Rattle.event_log.specs.declared.log.Event.{Event}
use Rattle.event_log.specs.declared.log.Header.{Header}
use Rattle.event_log.specs.declared.log.Kind.TheVariants as kind
use Rattle.event_log.specs.declared.log.Log.{Log}
use Rattle.vclog_import.specs.Lines.{Record}
use Rattle.vclog_import.specs.Hosts.{Host, name_of, hosts_of, records_of}
use Rattle.vclog_import.specs.Clock.{clock_of, count_of}
use Rattle.vclog_import.specs.Faults.{judged}

-- the variable `n` of each process, 0 at first
abbrev pub counting : Binding
counting = record { name = 110 ∷ []; value = pos 0 }

-- the processes are the hosts
abbrev pub header_of : List Host → Header
header_of hosts = record {
  version = 1;
  procs = map name_of hosts;
  vars = replicate (length hosts) (counting ∷ []);
  var_lines = replicate (length hosts) 0;
}

-- A record is an internal event of its host, on its host line. It counts itself in `n`. Its clock
-- has the counter of each host.
abbrev pub event_of : List Host → List Record → Record → Event
event_of hosts before r = record {
  process = unwrap_or (place_of hosts r.host) 0;
  line = r.line;
  clock = map (count_of (clock_of r)) hosts;
  kind = kind.Internal;
  assigns = record { variable = 0; value = pos (records_of r.host before + 1) } ∷ [];
}

-- the events of records behind those before them
unfoldable pub events_from : List Host → List Record → List Record → List Event
events_from hosts before [] = []
events_from hosts before (r ∷ rs) =
    event_of hosts before r ∷ events_from hosts (before ++ r ∷ []) rs

-- all is one batch, in the order of the text
abbrev pub log_of : List Record → Log
log_of rs = record {
  header = header_of (hosts_of rs);
  batches = events_from (hosts_of rs) [] rs ∷ [];
}

abbrev pub imported : List ℕ → Log
imported text = log_of (judged text)
