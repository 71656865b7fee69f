use Rattle.std.proofs.Common.{arith}
use Rattle.vclog_import.specs.Imported.{events_from}
use Rattle.std.proofs.lemmas.List.{get_or-replicate}
use Rattle.pota_base.specs.Limits.{most_processes}
use Rattle.vclog_import.proofs.events.Events.new.Goals as goal

pub returns-clause-made : goal.returns-clause-made
unfolding events_from
returns-clause-made c = record { events_are = c.new.ensures; counts_are = λ p lt. get_or-replicate most_processes p 0 0 (omega (arith, c.requires)); few = c.requires }
