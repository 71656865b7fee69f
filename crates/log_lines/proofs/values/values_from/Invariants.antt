use Rattle.std.proofs.Common.{◌≡◌, ◌-◌, []}
use Rattle.log_lines.specs.Reading.{values_from}
use Rattle.log_lines.specs.Drafts.{values_of}
use Rattle.log_lines.proofs.values.values_from.Given as goal

abbrev pub invariant-loop : goal.invariant-loop
invariant-loop l = values_from l.most [] l.bytes ≡ values_from (l.most - l.counter) (values_of l.values.items) l.rest
