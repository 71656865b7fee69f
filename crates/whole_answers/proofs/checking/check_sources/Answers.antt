use Rattle.whole_answers.specs.inside.Standing.{sources}
use Rattle.whole_answers.proofs.Dues.{checked, calm_so_far}
use Rattle.whole_answers.proofs.Stands.{sources_can}
use Rattle.whole_answers.proofs.checking.check_sources.Goals as goal

pub check_standing-requires-clause-can : goal.check_standing-requires-clause-can
check_standing-requires-clause-can g c κs lives =
    sources_can (g.S.Source.left c.args.source.now) (g.S.Source.left c.read_sources-standing.new.source) (g.S.Source.faults c.args.source.now) (g.S.Source.faults c.read_sources-standing.new.source) c.read_sources-standing.result c.read_sources-standing.ensures.reads

pub returns-clause-checks : goal.returns-clause-checks
returns-clause-checks g c aim is each =
    checked sources aim each (g.S.Source.left c.args.source.now) (g.S.Source.left c.read_sources-standing.new.source) (g.O.Sink.held c.args.out.now) (g.O.Sink.held c.check_standing.new.out)
    (g.S.Source.faults c.args.source.now) (g.S.Source.faults c.read_sources-standing.new.source) (g.O.Sink.faults c.args.out.now) (g.O.Sink.faults c.check_standing.new.out)
    c.read_sources-standing.result c.check_standing.result c.read_sources-standing.ensures.reads c.read_sources-standing.ensures.short
    (sources_can (g.S.Source.left c.args.source.now) (g.S.Source.left c.read_sources-standing.new.source) (g.S.Source.faults c.args.source.now) (g.S.Source.faults c.read_sources-standing.new.source) c.read_sources-standing.result c.read_sources-standing.ensures.reads)
    (c.check_standing.ensures aim is)

pub returns-clause-calm : goal.returns-clause-calm
returns-clause-calm g c =
    calm_so_far c.requires.check.0 (g.O.Sink.held c.args.out.now) (g.O.Sink.held c.check_standing.new.out) (g.S.Source.faults c.args.source.now) (g.S.Source.faults c.read_sources-standing.new.source)
    (g.O.Sink.faults c.args.out.now) (g.O.Sink.faults c.check_standing.new.out) c.read_sources-standing.result c.check_standing.result c.read_sources-standing.ensures.calm (c.check_standing.ensures c.requires.check.0 c.requires.check.1)
