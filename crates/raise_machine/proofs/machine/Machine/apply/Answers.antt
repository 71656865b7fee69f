use Rattle.std.proofs.Common.{rules}
use Rattle.raise_machine.proofs.Running.{pulls, lends, pull_entry, lend_small}
use Rattle.raise_machine.proofs.machine.Machine.apply.Goals as goal

pub entry-asked-requires-clause-entry : goal.entry-asked-requires-clause-entry
entry-asked-requires-clause-entry c = (pull_entry _ c.ends-target.ensures.system _ c.self.invariant.1 c.in-Pull.row c.in-Pull.k c.in-Pull.x (search rules)).1

pub invariant_of-self : goal.invariant_of-self
invariant_of-self c = (search rules, (pulls _ c.ends-target.ensures.system _ c.self.invariant.1 c.in-Pull.row c.in-Pull.k c.in-Pull.x (search rules) _ _ _ c.ends-target.ensures.target c.entry-asked.ensures (search rules)).0)

pub invariant_of-self-in-Lend : goal.invariant_of-self-in-Lend
invariant_of-self-in-Lend c = (search rules, lends _ _ c.self.invariant.1 c.in-Lend.to_row c.in-Lend.from_row c.in-Lend.process c.in-Lend.y (search rules) _ (search rules))

pub raise-requires-in-Lend-clause-value : goal.raise-requires-in-Lend-clause-value
raise-requires-in-Lend-clause-value c = lend_small c.self.inside.system (search rules) _ c.self.invariant.1 c.in-Lend.to_row c.in-Lend.from_row c.in-Lend.process c.in-Lend.y (search rules)
