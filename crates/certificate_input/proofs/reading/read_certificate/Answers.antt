use Rattle.std.proofs.Common.{refl}
use Rattle.std.proofs.lemmas.Result.{IfOk-weaker}
use Rattle.certificate_input.proofs.TellingLaws.{front_leads, tells_end, tells_failed}
use Rattle.certificate_input.proofs.reading.read_certificate.Goals as goal

pub read_for-requires : goal.read_for-requires
read_for-requires g c = (
  c.args.verifier,
  c.args.front.now,
  (front_leads g.N.Said.follows c.args.verifier c.new-input.result c.take.new.self c.args.front.now c.in_ok-line.field-0 c.new-input.ensures c.requires c.in_default.is c.in_ok-line.ensures, refl),
)

pub returns-in-Ended-clause-tells : goal.returns-in-Ended-clause-tells
returns-in-Ended-clause-tells g c =
    let leads = front_leads g.N.Said.follows c.args.verifier c.new-input.result c.take.new.self c.args.front.now c.in_ok-line.field-0 c.new-input.ensures c.requires c.in_default.is c.in_ok-line.ensures in
    let all = c.in_ok-read_for.ensures.reads c.args.verifier c.args.front.now (leads, refl) in
    IfOk-weaker c.finish.result _ _ (λ t is. tells_end g.N.Said.follows c.args.verifier (g.S.Source.left c.args.source.now) (g.S.Source.left c.read_for.new.source) (g.S.Source.faults c.args.source.now)
    (g.S.Source.faults c.read_for.new.source) c.args.front.now c.read_for.new.intake.input c.read_for.new.intake.refused c.in_ok-read_for.field-0 t c.in-Ended.is all is) c.finish.ensures

pub returns-clause-tells : goal.returns-clause-tells
returns-clause-tells g c =
    let leads = front_leads g.N.Said.follows c.args.verifier c.new-input.result c.take.new.self c.args.front.now c.in_ok-line.field-0 c.new-input.ensures c.requires c.in_default.is c.in_ok-line.ensures in
    let all = c.in_ok-read_for.ensures.reads c.args.verifier c.args.front.now (leads, refl) in
    tells_failed g.N.Said.follows c.args.verifier (g.S.Source.left c.args.source.now) (g.S.Source.left c.read_for.new.source) (g.S.Source.faults c.args.source.now)
    (g.S.Source.faults c.read_for.new.source) c.args.front.now c.read_for.new.intake.input c.read_for.new.intake.refused c.in_ok-read_for.field-0 c.in-Failed.is all
