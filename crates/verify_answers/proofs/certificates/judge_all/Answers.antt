use Rattle.std.proofs.Common.{◌≡◌, ap, ◌∙◌}
use Rattle.certificate_input.specs.declared.told.Told.TheVariants as tells
use Rattle.verify_answers.specs.inside.Judging.{answer_of}
use Rattle.verify_answers.proofs.Certifying.{judged_as, judged_short}
use Rattle.verify_answers.proofs.certificates.judge_all.Goals as goal

pub read_certificate-requires : goal.read_certificate-requires
read_certificate-requires g c = c.requires

pub returns-in-Ok-clause-judged : goal.returns-in-Ok-clause-judged
returns-in-Ok-clause-judged g c =
    judged_as (g.S.Source.left c.args.source.now) (g.S.Source.left c.read_certificate.new.source) (g.S.Source.faults c.args.source.now) (g.S.Source.faults c.read_certificate.new.source) c.args.verifier c.args.front.now
    c.in-Ok.told c.answer_of.result c.answer_of.ensures c.in-Ok.ensures.tells

pub returns-in-Err-clause-judged : goal.returns-in-Err-clause-judged
returns-in-Err-clause-judged g c =
    judged_short (g.S.Source.left c.args.source.now) (g.S.Source.left c.read_certificate.new.source) (g.S.Source.faults c.args.source.now) (g.S.Source.faults c.read_certificate.new.source) c.args.verifier c.args.front.now
    c.in-Err.ensures.short

pub returns-in-Ok-clause-calm : goal.returns-in-Ok-clause-calm
returns-in-Ok-clause-calm g c other =
    c.in-Ok.ensures.calm (λ e. other (c.answer_of.ensures ∙ (let same : c.in-Ok.told ≡ tells.Failed = cc in ap answer_of same)))

pub returns-in-Err-clause-calm : goal.returns-in-Err-clause-calm
returns-in-Err-clause-calm g c other = c.in-Err.ensures.calm (λ e. cc)
