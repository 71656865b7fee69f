use Rattle.std.proofs.Common.{Ok, sym, ap, subst, ◌∙◌}
use Rattle.std.proofs.Common.{Result}
use Rattle.pota_base.specs.declared.fault.NoMemory.{NoMemory}
use Rattle.pota_base.specs.Changes.{change_of}
use Rattle.whole_answers.specs.declared.standing.Standing.{Standing}
use Rattle.whole_answers.specs.inside.Checking.{ChecksStanding}
use Rattle.whole_answers.proofs.checking.check_standing.Goals as goal

pub returns-in-Ok-Whole : goal.returns-in-Ok-Whole
returns-in-Ok-Whole g c aim is =
    subst (λ (s : Result Standing NoMemory). ChecksStanding (change_of (g.O.Sink.held c.args.out.now) (g.O.Sink.held c.check_whole.new.out) (g.O.Sink.faults c.args.out.now) (g.O.Sink.faults c.check_whole.new.out)) aim s c.told.result)
    (sym (c.in-Ok-Whole.is ∙ ap (λ (x : Standing). Ok x) c.in-Ok-Whole.field-0-is))
    (record { ended = c.check_whole.result; checked = c.check_whole.ensures aim is; told = c.told.ensures })
