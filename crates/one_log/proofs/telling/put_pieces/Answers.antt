use Rattle.std.proofs.Common.{◌++◌}
use Rattle.pota_base.specs.Outside.{AppendsPrefix}
use Rattle.one_log.proofs.Pieces.{on_err, on_err-of, longer, behind}
use Rattle.one_log.proofs.telling.put_pieces.Goals as goal

pub returns-in_err-write_all-clause-part : goal.returns-in_err-write_all-clause-part
returns-in_err-write_all-clause-part g c =
    on_err c.from_residual.result (AppendsPrefix (g.D.Sink.held c.args.diag.now) (g.D.Sink.held c.write_all.new.out) (c.args.first.now ++ (c.args.word.now ++ c.args.last.now)))
    (longer (g.D.Sink.held c.args.diag.now) (g.D.Sink.held c.write_all.new.out) c.args.first.now (c.args.word.now ++ c.args.last.now) c.in_err-write_all.ensures.part)

pub returns-in_err-write_all-2-clause-part : goal.returns-in_err-write_all-2-clause-part
returns-in_err-write_all-2-clause-part g c =
    on_err c.from_residual-in_err-write_all-2.result (AppendsPrefix (g.D.Sink.held c.args.diag.now) (g.D.Sink.held c.write_all-2.new.out) (c.args.first.now ++ (c.args.word.now ++ c.args.last.now)))
    (behind (g.D.Sink.held c.args.diag.now) (g.D.Sink.held c.write_all.new.out) (g.D.Sink.held c.write_all-2.new.out) c.args.first.now (c.args.word.now ++ c.args.last.now) c.in_ok-write_all.ensures.whole
    (longer (g.D.Sink.held c.write_all.new.out) (g.D.Sink.held c.write_all-2.new.out) c.args.word.now c.args.last.now c.in_err-write_all-2.ensures.part))

pub returns-clause-part : goal.returns-clause-part
returns-clause-part g c =
    on_err-of c.write_all-3.result (AppendsPrefix (g.D.Sink.held c.write_all-2.new.out) (g.D.Sink.held c.write_all-3.new.out) c.args.last.now)
    (AppendsPrefix (g.D.Sink.held c.args.diag.now) (g.D.Sink.held c.write_all-3.new.out) (c.args.first.now ++ (c.args.word.now ++ c.args.last.now)))
    (λ part.
    behind (g.D.Sink.held c.args.diag.now) (g.D.Sink.held c.write_all.new.out) (g.D.Sink.held c.write_all-3.new.out) c.args.first.now (c.args.word.now ++ c.args.last.now) c.in_ok-write_all.ensures.whole
    (behind (g.D.Sink.held c.write_all.new.out) (g.D.Sink.held c.write_all-2.new.out) (g.D.Sink.held c.write_all-3.new.out) c.args.word.now c.args.last.now c.in_ok-write_all-2.ensures.whole part))
    c.write_all-3.ensures.part
