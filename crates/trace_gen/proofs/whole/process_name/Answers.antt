use Rattle.std.proofs.Common.{rules}
use Rattle.trace_gen.proofs.Naming.{name_found}
use Rattle.trace_gen.proofs.whole.process_name.Goals as goal

pub unwrap-requires : goal.unwrap-requires
unwrap-requires c = name_found c.args.index c.as_slice.result.now c.in_ok-name.name c.requires (search rules) c.in_ok-name.ensures
