use Rattle.vclog_import.proofs.ClockLaws.{clock_read, clock_refused, memory_false}
use Rattle.vclog_import.proofs.clock.clock_in.Goals as goal

pub returns-in-Ok : goal.returns-in-Ok
returns-in-Ok c = clock_read c.args.text.now _ _ c.in-Ok.ensures.ok.0 c.in-Ok.ensures.ok.1 c.into_clock.ensures

pub returns-else-is_memory : goal.returns-else-is_memory
returns-else-is_memory c = clock_refused c.args.text.now (c.in-Err.ensures.err (λ memory. memory_false c.is_memory.result c.if-is_memory.false (c.is_memory.ensures.1 memory)))
