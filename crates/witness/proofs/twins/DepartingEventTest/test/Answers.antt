use Rattle.std.proofs.Common.{true, false, refl, sym, ◌∙◌}
use Rattle.std.proofs.lemmas.Bool.{true≢false}
use Rattle.witness.proofs.TwinSteps.{departs_by}
use Rattle.witness.proofs.twins.DepartingEventTest.test.Goals as goal

pub returns-then-eq : goal.returns-then-eq
returns-then-eq c =
    let t = c.args.self.now in
    let d = departs_by t.order.now t.slice.now c.args.event c.words.result.now c.clock.result.now true c.requires.0 c.requires.1 c.words.ensures.words c.clock.ensures.clock (sym c.eq.ensures ∙ c.if-eq.true) in
    (λ yes. absurd (true≢false (sym yes)), λ departs. absurd (d.0 refl departs))

pub returns : goal.returns
returns c =
    let t = c.args.self.now in
    let d = departs_by t.order.now t.slice.now c.args.event c.words.result.now c.clock.result.now false c.requires.0 c.requires.1 c.words.ensures.words c.clock.ensures.clock (sym c.eq.ensures ∙ c.if-eq.false) in
    (λ yes. d.1 refl, λ departs. refl)
