use Rattle.log_answers.proofs.Calm.{calm_so}
use Rattle.certificate_answers.specs.inside.Certifying.{aim_for}
use Rattle.certificate_answers.proofs.Certificates.{certified_log, not_read, whole_there}
use Rattle.certificate_answers.proofs.certifying.certify_log.Goals as goal

pub returns-in-Err-clause-certifies : goal.returns-in-Err-clause-certifies
returns-in-Err-clause-certifies g c s text stated is =
    not_read (λ h. (goal.Watch-dyn g (h.watch.vtable, h.watch.value)).answers h.watch.value) s c.read_log.new.checking.check (g.S.Source.left c.args.log.now) (g.S.Source.left c.read_log.new.log) (g.O.Sink.held c.args.out.now) (g.O.Sink.held c.read_log.new.out) (g.O.Sink.held c.read_log.new.out)
    (g.S.Source.faults c.args.log.now) (g.S.Source.faults c.read_log.new.log) (g.O.Sink.faults c.args.out.now) (g.O.Sink.faults c.read_log.new.out) (g.O.Sink.faults c.read_log.new.out)
    c.in-Err.stop c.args.checking.each_batch c.requires.last (c.in-Err.ensures.log (aim_for s) is)

pub certify_read-requires : goal.certify_read-requires
certify_read-requires g c =
    let s = c.requires.check.0 in
    let w = whole_there (λ h. (goal.Watch-dyn g (h.watch.vtable, h.watch.value)).answers h.watch.value) s c.read_log.new.checking.check (g.S.Source.left c.args.log.now) (g.S.Source.left c.read_log.new.log) (g.O.Sink.held c.args.out.now) (g.O.Sink.held c.read_log.new.out) (g.O.Sink.held c.read_log.new.out)
    (g.S.Source.faults c.args.log.now) (g.S.Source.faults c.read_log.new.log) (g.O.Sink.faults c.args.out.now) (g.O.Sink.faults c.read_log.new.out) (g.O.Sink.faults c.read_log.new.out)
    _ c.args.checking.each_batch c.requires.last (c.in-Ok.ensures.log (aim_for s) c.requires.check.3) in
    (aim_for s, w.0, w.1, w.2, w.3)

pub returns-in-Ok-clause-certifies : goal.returns-in-Ok-clause-certifies
returns-in-Ok-clause-certifies g c s text stated is =
    certified_log (λ h. (goal.Watch-dyn g (h.watch.vtable, h.watch.value)).answers h.watch.value) s c.read_log.new.checking.check (g.S.Source.left c.args.log.now) (g.S.Source.left c.read_log.new.log) (g.O.Sink.held c.args.out.now) (g.O.Sink.held c.read_log.new.out) (g.O.Sink.held c.certify_read.new.out)
    (g.S.Source.faults c.args.log.now) (g.S.Source.faults c.read_log.new.log) (g.O.Sink.faults c.args.out.now) (g.O.Sink.faults c.read_log.new.out) (g.O.Sink.faults c.certify_read.new.out)
    _ c.args.checking.each_batch c.requires.last (c.in-Ok.ensures.log (aim_for s) is) c.certify_read.result
    (c.certify_read.ensures s text stated)

pub returns-in-Err-clause-calm : goal.returns-in-Err-clause-calm
returns-in-Err-clause-calm g c = c.in-Err.ensures.calm

pub returns-in-Ok-clause-calm : goal.returns-in-Ok-clause-calm
returns-in-Ok-clause-calm g c = calm_so (g.S.Source.faults c.args.log.now) (g.S.Source.faults c.read_log.new.log) c.certify_read.result c.in-Ok.ensures.calm
