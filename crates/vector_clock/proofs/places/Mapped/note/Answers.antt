use Rattle.std.proofs.Common.{sym}
use Rattle.vector_clock.proofs.Noting.{first_written}
use Rattle.vector_clock.proofs.places.Mapped.note.Goals as goal

pub returns-clause-ok : goal.returns-clause-ok
returns-clause-ok c = first_written c.args.self.now.met c.insert.new.self _ c.args.message c.args.met (sym c.in_default.ensures.value) c.in_ok-insert.ensures.updates c.get_mut.follows.holds-at-none
