use Rattle.std.proofs.Common.{[], arith}
use Rattle.pota_base.specs.Changes.{of_source}
use Rattle.input_reading.specs.Intakes.{ReadsShort}
use Rattle.log_input.proofs.Stands.{err_so, read_short, records_stood}
use Rattle.log_input.proofs.reading.read_records.Goals as goal

pub read_all-requires : goal.read_all-requires
read_all-requires g c = ([], (c.new-kept.ensures, omega arith))

pub returns-clause-reads : goal.returns-clause-reads
returns-clause-reads g c =
    records_stood (of_source g.S.Source c.args.source.now c.read_all.new.source) c.read_all.new.intake c.in_ok-end.end (c.in_ok-end.ensures.reads [] (c.new-kept.ensures, omega arith))
    (λ other. c.in_ok-end.ensures.calm (λ e. other cc)) c.as_slice-text.result.now c.as_slice-text.ensures c.in_ok-judged.judged c.in_ok-judged.ensures c.with_line.result c.with_line.ensures

pub returns-clause-short : goal.returns-clause-short
returns-clause-short g c =
    err_so c.with_line.result (ReadsShort (of_source g.S.Source c.args.source.now c.read_all.new.source))
    (read_short (of_source g.S.Source c.args.source.now c.read_all.new.source) c.read_all.new.intake c.in_ok-end.end (c.in_ok-end.ensures.reads [] (c.new-kept.ensures, omega arith)))
