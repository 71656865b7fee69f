use Rattle.std.proofs.Common.{◌≡◌, refl, ◌∙◌}
use Rattle.log_part.specs.declared.front.Front.TheVariants as front
use Rattle.verify_top.proofs.Judging.{asks_about, short_read, none_read}
use Rattle.verify_top.specs.Asking.{aim_for}
use Rattle.verify_top.proofs.input.judge_input.Goals as goal

pub read_front-requires : goal.read_front-requires
read_front-requires g c = (aim_for c.args.stated.formula.tree, c.in-Ok.ensures)

pub judge_front-requires : goal.judge_front-requires
judge_front-requires g c = (c.args.stated.formula.tree, g.S.Source.left c.args.input.now, g.S.Source.faults c.args.input.now, c.in-Ok-read_front.ensures.front (aim_for c.args.stated.formula.tree) c.in-Ok.ensures)

pub returns-in-Ok-read_front-clause-answers : goal.returns-in-Ok-read_front-clause-answers
returns-in-Ok-read_front-clause-answers g c words is =
    c.judge_front.ensures.answers words c.args.stated.formula.tree (g.S.Source.left c.args.input.now) (g.S.Source.faults c.args.input.now) (asks_about words c.args.stated is)
    (c.in-Ok-read_front.ensures.front (aim_for c.args.stated.formula.tree) c.in-Ok.ensures)

pub returns-in-Err-clause-answers : goal.returns-in-Err-clause-answers
returns-in-Err-clause-answers g c words is = short_read _ _ _ _ words c.in-Err.ensures.short

pub returns-in_default-clause-answers : goal.returns-in_default-clause-answers
returns-in_default-clause-answers g c words is = none_read _ _ words

pub returns-in-Ok-read_front-clause-calm : goal.returns-in-Ok-read_front-clause-calm
returns-in-Ok-read_front-clause-calm g c other =
    c.judge_front.ensures.calm other
    ∙ c.in-Ok-read_front.ensures.calm (λ e. other (c.judge_front.ensures.failed (let same : c.in-Ok-read_front.front ≡ front.Failed = cc in same)))

pub returns-in-Err-clause-calm : goal.returns-in-Err-clause-calm
returns-in-Err-clause-calm g c other = c.in-Err.ensures.calm (λ e. cc)

pub returns-in_default-clause-calm : goal.returns-in_default-clause-calm
returns-in_default-clause-calm g c other = refl
