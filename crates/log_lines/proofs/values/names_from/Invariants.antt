use Rattle.std.proofs.Common.{◌≡◌, ◌-◌, []}
use Rattle.log_lines.specs.Reading.{names_from}
use Rattle.log_lines.specs.Drafts.{texts_of}
use Rattle.log_lines.proofs.values.names_from.Given as goal

abbrev pub invariant-loop : goal.invariant-loop
invariant-loop l = names_from l.most [] l.bytes ≡ names_from (l.most - l.counter) (texts_of l.names.items) l.rest
