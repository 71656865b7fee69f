use Rattle.std.proofs.Common.{◌≡◌, None, [], refl, subst}
use Rattle.pota_base.specs.Changes.{change_of}
use Rattle.input_reading.specs.Intakes.{ReadsAll}
use Rattle.log_sources.specs.Sources.{after, no_sources}
use Rattle.log_sources.specs.Reading.{HasReadSources}
use Rattle.log_sources.specs.Gathering.{IsFaulty}
use Rattle.log_sources.proofs.Taking.{begins, gathers_ended, gathers_done, gathers_failed}
use Rattle.log_sources.proofs.gathering.gather.Goals as goal

pub read_all-requires : goal.read_all-requires
read_all-requires g c = ([], begins c.new-reader.result c.new-reader.ensures)

pub returns-in-Ended-clause-reads : goal.returns-in-Ended-clause-reads
returns-in-Ended-clause-reads g c =
    gathers_ended (g.S.Source.left c.args.source.now) (g.S.Source.left c.read_all.new.source) (g.S.Source.faults c.args.source.now) (g.S.Source.faults c.read_all.new.source) c.read_all.new.intake c.finished.result
    (subst (ReadsAll (change_of (g.S.Source.left c.args.source.now) (g.S.Source.left c.read_all.new.source) (g.S.Source.faults c.args.source.now) (g.S.Source.faults c.read_all.new.source)) (λ bytes. HasReadSources c.read_all.new.intake (after no_sources bytes) × ((after no_sources bytes).fault ≡ None)) (λ bytes. HasReadSources c.read_all.new.intake (after no_sources bytes) × IsFaulty (after no_sources bytes)) []) c.in-Ended.is (c.in_ok-read_all.ensures.reads [] (begins c.new-reader.result c.new-reader.ensures)))
    c.finished.ensures

pub returns-in-Done-clause-reads : goal.returns-in-Done-clause-reads
returns-in-Done-clause-reads g c =
    gathers_done (g.S.Source.left c.args.source.now) (g.S.Source.left c.read_all.new.source) (g.S.Source.faults c.args.source.now) (g.S.Source.faults c.read_all.new.source) c.read_all.new.intake c.finished-in-Done.result
    (subst (ReadsAll (change_of (g.S.Source.left c.args.source.now) (g.S.Source.left c.read_all.new.source) (g.S.Source.faults c.args.source.now) (g.S.Source.faults c.read_all.new.source)) (λ bytes. HasReadSources c.read_all.new.intake (after no_sources bytes) × ((after no_sources bytes).fault ≡ None)) (λ bytes. HasReadSources c.read_all.new.intake (after no_sources bytes) × IsFaulty (after no_sources bytes)) []) c.in-Done.is (c.in_ok-read_all.ensures.reads [] (begins c.new-reader.result c.new-reader.ensures)))
    c.finished-in-Done.ensures

pub returns-in-Failed-clause-reads : goal.returns-in-Failed-clause-reads
returns-in-Failed-clause-reads g c =
    gathers_failed (g.S.Source.left c.args.source.now) (g.S.Source.left c.read_all.new.source) (g.S.Source.faults c.args.source.now) (g.S.Source.faults c.read_all.new.source) c.read_all.new.intake
    (subst (ReadsAll (change_of (g.S.Source.left c.args.source.now) (g.S.Source.left c.read_all.new.source) (g.S.Source.faults c.args.source.now) (g.S.Source.faults c.read_all.new.source)) (λ bytes. HasReadSources c.read_all.new.intake (after no_sources bytes) × ((after no_sources bytes).fault ≡ None)) (λ bytes. HasReadSources c.read_all.new.intake (after no_sources bytes) × IsFaulty (after no_sources bytes)) []) c.in-Failed.is (c.in_ok-read_all.ensures.reads [] (begins c.new-reader.result c.new-reader.ensures)))

pub returns-in-Ended-clause-calm : goal.returns-in-Ended-clause-calm
returns-in-Ended-clause-calm g c other = let is = c.in-Ended.is in c.in_ok-read_all.ensures.calm (λ e. cc)

pub returns-in-Done-clause-calm : goal.returns-in-Done-clause-calm
returns-in-Done-clause-calm g c other = let is = c.in-Done.is in c.in_ok-read_all.ensures.calm (λ e. cc)

pub returns-in-Failed-clause-calm : goal.returns-in-Failed-clause-calm
returns-in-Failed-clause-calm g c other = absurd (other refl)
