use Rattle.std.proofs.Common.{◌∙◌, ◌+◌, ap, if◌then◌else◌, refl}
use Rattle.instance_outcomes.proofs.Counts.{one_more}
use Rattle.instance_outcomes.proofs.counting.with.Goals as goal

pub returns : goal.returns
returns c = λ before is.
    one_more before c.args.next c.args.tally _ is refl
    (c.counted-failing.ensures ∙ ap (λ b. if b then c.args.tally.fails + 1 else c.args.tally.fails) c.fails.ensures)
    (c.counted-nowhere.ensures ∙ ap (λ b. if b then c.args.tally.nowhere + 1 else c.args.tally.nowhere) c.has_nowhere.ensures)
    c.shown_of.ensures
