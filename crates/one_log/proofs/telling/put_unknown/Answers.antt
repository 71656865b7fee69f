use Rattle.std.proofs.Common.{codes, ◌++◌}
use Rattle.one_log.proofs.Pieces.{line_told}
use Rattle.one_log.proofs.Written.{told_text}
use Rattle.one_log.proofs.telling.put_unknown.Goals as goal

pub returns : goal.returns
returns g c =
    line_told (g.D.Sink.held c.args.diag.now) (g.D.Sink.held c.put_pieces.new.diag) (g.D.Sink.faults c.args.diag.now) (g.D.Sink.faults c.put_pieces.new.diag) c.args.word.now
    (told_text c.put_pieces.result (g.D.Sink.held c.args.diag.now) (g.D.Sink.held c.put_pieces.new.diag) (g.D.Sink.faults c.args.diag.now) (g.D.Sink.faults c.put_pieces.new.diag)
    (codes "pota_log: --keep " ++ (c.args.word.now ++ codes ": not in the log\n")) c.put_pieces.ensures.whole c.put_pieces.ensures.part c.put_pieces.ensures.cause)
