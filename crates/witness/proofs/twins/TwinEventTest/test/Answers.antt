use Rattle.std.proofs.Common.{sym, ◌∙◌}
use Rattle.std.specs.Prelude.{◌==◌}
use Rattle.std.proofs.lemmas.Bool.{and_from, eq-eqb, true≢false}
use Rattle.run_model.proofs.Counts.{length-lengths}
use Rattle.witness.proofs.TwinSteps.{shares_by}
use Rattle.witness.proofs.twins.TwinEventTest.test.Goals as goal

pub returns : goal.returns
returns c =
    let t = c.args.self.now in
    let e = c.args.event in
    shares_by t.order.now t.slice.now t.event e c.words-row.result.now c.words.result.now c.eq-2.result (length-lengths t.order.now) c.requires.0 c.requires.1 c.requires.2
    (λ same. true≢false (sym (and_from (e.process == t.event.process) (e.position == t.event.position) (eq-eqb e.process t.event.process (sym same.0)) (eq-eqb e.position t.event.position (sym same.1))) ∙ sym c.eq.ensures ∙ c.if-eq.false))
    c.words-row.ensures.words c.words.ensures.words c.eq-2.ensures
