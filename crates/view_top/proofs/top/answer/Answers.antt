use Rattle.std.proofs.Common.{◌≡◌, [], sym, ◌∙◌}
use Rattle.input_reading.specs.declared.reading.End.TheVariants as end
use Rattle.view_top.proofs.Calm.{calm_view}
use Rattle.view_top.proofs.Outcomes.{has_come, viewed}
use Rattle.view_top.proofs.top.answer.Goals as goal

pub put_view-requires : goal.put_view-requires
put_view-requires g c =
    let all = c.in-Ok.ensures.reads [] c.new-taken.ensures in
    (all.read, has_come (g.S.Source.left c.read_all.new.source) (g.S.Source.faults c.args.input.now) (g.S.Source.faults c.read_all.new.source) c.read_all.new.intake all.read c.in-Ok.end all.to)

pub returns-in-Ok-clause-viewed : goal.returns-in-Ok-clause-viewed
returns-in-Ok-clause-viewed g c =
    viewed (g.S.Source.left c.args.input.now) (g.S.Source.left c.read_all.new.source) (g.O.Sink.held c.args.out.now) (g.O.Sink.held c.put_view.new.out) (g.S.Source.faults c.args.input.now) (g.S.Source.faults c.read_all.new.source)
    (g.O.Sink.faults c.args.out.now) (g.O.Sink.faults c.put_view.new.out) _ c.in-Some.asked (sym c.view_asked.ensures ∙ c.in-Some.is) c.read_all.new.intake c.in-Ok.end c.put_view.result
    (c.in-Ok.ensures.reads [] c.new-taken.ensures) c.put_view.ensures

pub returns-in-Ok-clause-calm : goal.returns-in-Ok-clause-calm
returns-in-Ok-clause-calm g c =
    let all = c.in-Ok.ensures.reads [] c.new-taken.ensures in
    let come = has_come (g.S.Source.left c.read_all.new.source) (g.S.Source.faults c.args.input.now) (g.S.Source.faults c.read_all.new.source) c.read_all.new.intake all.read c.in-Ok.end all.to in
    calm_view (g.S.Source.faults c.args.input.now) (g.S.Source.faults c.read_all.new.source) c.in-Some.asked c.in-Ok.end all.read (g.O.Sink.held c.args.out.now) (g.O.Sink.held c.put_view.new.out)
    (g.O.Sink.faults c.args.out.now) (g.O.Sink.faults c.put_view.new.out) c.put_view.result
    (λ other. c.in-Ok.ensures.calm (λ e. other (let same : c.in-Ok.end ≡ end.Failed = cc in same))) (c.put_view.ensures all.read come)
