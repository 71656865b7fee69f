use Rattle.std.proofs.Common.{[], arith}
use Rattle.pota_base.specs.Changes.{of_source}
use Rattle.input_reading.specs.Intakes.{ReadsShort}
use Rattle.log_input.proofs.Stands.{err_so, read_short}
use Rattle.one_log.proofs.Beginnings.{torn_ended, torn_done, torn_failed}
use Rattle.one_log.proofs.torn.read_torn.Goals as goal

pub read_all-requires : goal.read_all-requires
read_all-requires g c = ([], (c.new-kept.ensures, omega arith))

pub returns-in-Ended-clause-reads : goal.returns-in-Ended-clause-reads
returns-in-Ended-clause-reads g c =
    torn_ended c.args.form (of_source g.S.Source c.args.source.now c.read_all.new.source) c.read_all.new.intake c.in_ok-read_all.field-0 (c.in_ok-read_all.ensures.reads [] (c.new-kept.ensures, omega arith))
    (λ other. c.in_ok-read_all.ensures.calm (λ e. other cc)) c.as_slice.result.now c.as_slice.ensures c.judge.result c.judge.ensures c.in-Ended.is

pub returns-in-Ended-clause-short : goal.returns-in-Ended-clause-short
returns-in-Ended-clause-short g c =
    err_so c.judge.result (ReadsShort (of_source g.S.Source c.args.source.now c.read_all.new.source))
    (read_short (of_source g.S.Source c.args.source.now c.read_all.new.source) c.read_all.new.intake c.in_ok-read_all.field-0 (c.in_ok-read_all.ensures.reads [] (c.new-kept.ensures, omega arith)))

pub returns-in-Done-clause-reads : goal.returns-in-Done-clause-reads
returns-in-Done-clause-reads g c =
    torn_done c.args.form (of_source g.S.Source c.args.source.now c.read_all.new.source) c.read_all.new.intake c.in_ok-read_all.field-0 (c.in_ok-read_all.ensures.reads [] (c.new-kept.ensures, omega arith))
    (λ other. c.in_ok-read_all.ensures.calm (λ e. other cc)) c.in-Done.is

pub returns-clause-reads : goal.returns-clause-reads
returns-clause-reads g c =
    torn_failed c.args.form (of_source g.S.Source c.args.source.now c.read_all.new.source) c.read_all.new.intake c.in_ok-read_all.field-0 (c.in_ok-read_all.ensures.reads [] (c.new-kept.ensures, omega arith))
    (λ other. c.in_ok-read_all.ensures.calm (λ e. other cc)) c.in-Failed.is
