use Rattle.std.proofs.Common.{◌≡◌, true, false, ◌-◌, [], get_or, sym, ap, ◌∙◌, arith}
use Rattle.view_parts.specs.Parts.{no_event}
use Rattle.view_text.specs.Latest.{sets}
use Rattle.view_text.proofs.Settings.{last_here, last_earlier, never_set}
use Rattle.view_text.proofs.latest.last_setting.Goals as goal

pub returns-then-sets-clause-last : goal.returns-then-sets-clause-last
returns-then-sets-clause-last c =
    let events = get_or c.args.states.now.events c.args.process [] in
    let at = c.loop-position.position in
    let set : sets c.args.variable (get_or events (at - 1) no_event) ≡ true = ap (sets c.args.variable) (sym c.event_at.ensures) ∙ sym c.sets.ensures ∙ c.if-sets.true in
    sym (c.loop-position.invariant.1 ∙ last_here events c.args.variable at c.loop-position-test.true set)

pub loop-position-preserved : goal.loop-position-preserved
loop-position-preserved c =
    let events = get_or c.args.states.now.events c.args.process [] in
    let at = c.loop-position.position in
    let set : sets c.args.variable (get_or events (at - 1) no_event) ≡ false = ap (sets c.args.variable) (sym c.event_at.ensures) ∙ sym c.sets.ensures ∙ c.if-sets.false in
    (omega arith, c.loop-position.invariant.1 ∙ last_earlier events c.args.variable at c.loop-position-test.true set)

pub returns-clause-last : goal.returns-clause-last
returns-clause-last c = let n = never_set (get_or c.args.states.now.events c.args.process []) c.args.variable c.loop-position.position (omega arith) in sym (c.loop-position.invariant.1 ∙ n)
