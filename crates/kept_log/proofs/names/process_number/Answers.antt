use Rattle.kept_log.proofs.InHeader.{place_or_len}
use Rattle.kept_log.proofs.names.process_number.Goals as goal

pub returns : goal.returns
returns c = let e = place_or_len c.args.header.now.procs c.args.name.now in cc
