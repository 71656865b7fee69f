use Rattle.std.proofs.Common.{◌≡◌, true, false, sym, ◌∙◌, arith}
use Rattle.view_parts.specs.Parts.{place}
use Rattle.view_parts.specs.About.{sets_some}
use Rattle.view_text.proofs.Looking.{named_here, named_earlier, never_named}
use Rattle.view_text.proofs.ties.last_named.Goals as goal

pub returns-then-sets_some-clause-last : goal.returns-then-sets_some-clause-last
returns-then-sets_some-clause-last c =
    let s = c.args.states.now in
    let tokens = c.args.tokens.now in
    let at = c.loop-position.position in
    let set : sets_some s tokens (place c.args.process at) ≡ true = sym c.sets_some.ensures ∙ c.if-sets_some.true in
    sym (c.loop-position.invariant.1 ∙ named_here s tokens c.args.process at c.loop-position-test.true set)

pub loop-position-preserved : goal.loop-position-preserved
loop-position-preserved c =
    let s = c.args.states.now in
    let tokens = c.args.tokens.now in
    let at = c.loop-position.position in
    let set : sets_some s tokens (place c.args.process at) ≡ false = sym c.sets_some.ensures ∙ c.if-sets_some.false in
    (omega (arith, c.loop-position.invariant.0), c.loop-position.invariant.1 ∙ named_earlier s tokens c.args.process at c.loop-position-test.true set)

pub returns-clause-last : goal.returns-clause-last
returns-clause-last c = sym (c.loop-position.invariant.1 ∙ never_named c.args.states.now c.args.tokens.now c.args.process c.loop-position.position (omega (arith, c.loop-position-test.false)))
