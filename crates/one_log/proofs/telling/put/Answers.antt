use Rattle.one_log.proofs.Written.{told_text}
use Rattle.one_log.proofs.telling.put.Goals as goal

pub returns : goal.returns
returns g c =
    told_text c.write_all.result (g.D.Sink.held c.args.diag.now) (g.D.Sink.held c.write_all.new.out) (g.D.Sink.faults c.args.diag.now) (g.D.Sink.faults c.write_all.new.out)
    c.args.line.now c.write_all.ensures.whole c.write_all.ensures.part c.write_all.ensures.cause
