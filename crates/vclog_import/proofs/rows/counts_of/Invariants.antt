use Rattle.std.proofs.Common.{◌≡◌, length}
use Rattle.std.specs.Prelude.{◌&&◌}
use Rattle.serde_json.specs.View.{members_view}
use Rattle.vclog_import.specs.Clock.{all_known}
use Rattle.vclog_import.specs.inside.Scans.{hosts_in}
use Rattle.vclog_import.proofs.Filling.{fill}
use Rattle.vclog_import.proofs.rows.counts_of.Given as goal

abbrev pub invariant-loop-key : goal.invariant-loop-key
invariant-loop-key l = record {
  long : length l.counts.items ≡ length l.hosts;
  filled : fill (hosts_in l.hosts) (members_view l.members.entries) l.initial.counts.items ≡ fill (hosts_in l.hosts) (members_view l.key-iterator) l.counts.items;
  known : all_known (hosts_in l.hosts) (members_view l.members.entries) ≡ (l.all_known && all_known (hosts_in l.hosts) (members_view l.key-iterator));
}
