use Rattle.std.proofs.Common.{[], refl, arith}
use Rattle.pota_base.specs.Changes.{change_of}
use Rattle.input_reading.specs.Intakes.{ReadsShort}
use Rattle.whole_answers.proofs.Stands.{err_so, read_short, records_ended, records_done, records_failed}
use Rattle.whole_answers.proofs.records.read_records.Goals as goal

pub read_all-requires : goal.read_all-requires
read_all-requires g c = ([], (c.new-kept.ensures, omega arith))

pub returns-in-Ended-clause-reads : goal.returns-in-Ended-clause-reads
returns-in-Ended-clause-reads g c =
    records_ended (g.S.Source.left c.args.source.now) (g.S.Source.left c.read_all.new.source) (g.S.Source.faults c.args.source.now) (g.S.Source.faults c.read_all.new.source) c.read_all.new.intake c.in_ok-read_all.field-0 (c.in_ok-read_all.ensures.reads [] (c.new-kept.ensures, omega arith))
    c.as_slice.result.now c.as_slice.ensures c.import_all.result c.import_all.ensures c.in-Ended.is

pub returns-in-Ended-clause-short : goal.returns-in-Ended-clause-short
returns-in-Ended-clause-short g c =
    err_so c.import_all.result (ReadsShort (change_of (g.S.Source.left c.args.source.now) (g.S.Source.left c.read_all.new.source) (g.S.Source.faults c.args.source.now) (g.S.Source.faults c.read_all.new.source))) (read_short (g.S.Source.left c.args.source.now) (g.S.Source.left c.read_all.new.source) (g.S.Source.faults c.args.source.now) (g.S.Source.faults c.read_all.new.source) c.read_all.new.intake c.in_ok-read_all.field-0 (c.in_ok-read_all.ensures.reads [] (c.new-kept.ensures, omega arith)))

pub returns-in-Done-clause-reads : goal.returns-in-Done-clause-reads
returns-in-Done-clause-reads g c =
    records_done (g.S.Source.left c.args.source.now) (g.S.Source.left c.read_all.new.source) (g.S.Source.faults c.args.source.now) (g.S.Source.faults c.read_all.new.source) c.read_all.new.intake c.in_ok-read_all.field-0 (c.in_ok-read_all.ensures.reads [] (c.new-kept.ensures, omega arith))
    c.as_slice-in-Done.result.now c.as_slice-in-Done.ensures c.import_all-in-Done.result c.import_all-in-Done.ensures c.in-Done.is

pub returns-in-Done-clause-short : goal.returns-in-Done-clause-short
returns-in-Done-clause-short g c =
    err_so c.import_all-in-Done.result (ReadsShort (change_of (g.S.Source.left c.args.source.now) (g.S.Source.left c.read_all.new.source) (g.S.Source.faults c.args.source.now) (g.S.Source.faults c.read_all.new.source))) (read_short (g.S.Source.left c.args.source.now) (g.S.Source.left c.read_all.new.source) (g.S.Source.faults c.args.source.now) (g.S.Source.faults c.read_all.new.source) c.read_all.new.intake c.in_ok-read_all.field-0 (c.in_ok-read_all.ensures.reads [] (c.new-kept.ensures, omega arith)))

pub returns-clause-reads : goal.returns-clause-reads
returns-clause-reads g c =
    records_failed (g.S.Source.left c.args.source.now) (g.S.Source.left c.read_all.new.source) (g.S.Source.faults c.args.source.now) (g.S.Source.faults c.read_all.new.source) c.read_all.new.intake c.in_ok-read_all.field-0 (c.in_ok-read_all.ensures.reads [] (c.new-kept.ensures, omega arith)) c.in-Failed.is

pub returns-in-Ended-clause-calm : goal.returns-in-Ended-clause-calm
returns-in-Ended-clause-calm g c other = let is = c.in-Ended.is in c.in_ok-read_all.ensures.calm (λ e. cc)

pub returns-in-Done-clause-calm : goal.returns-in-Done-clause-calm
returns-in-Done-clause-calm g c other = let is = c.in-Done.is in c.in_ok-read_all.ensures.calm (λ e. cc)

pub returns-clause-calm : goal.returns-clause-calm
returns-clause-calm g c other = absurd (other refl)
