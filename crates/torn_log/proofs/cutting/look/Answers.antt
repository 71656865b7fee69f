use Rattle.std.proofs.Common.{length, sym, ap, subst, refl, arith}
use Rattle.event_log.specs.declared.item.Item.{Item}
use Rattle.torn_log.specs.Counts.{Grows}
use Rattle.torn_log.specs.Items.{with_item, ItemStands}
use Rattle.torn_log.specs.Rounds.{HasLooked}
use Rattle.torn_log.proofs.Parts.{event_is, nothing_more}
use Rattle.torn_log.proofs.Passing.{length-lens}
use Rattle.torn_log.proofs.Lowering.{looked_event, looked_other}
use Rattle.torn_log.proofs.cutting.look.Goals as goal

pub returns-in-Some-clause-looked : goal.returns-in-Some-clause-looked
returns-in-Some-clause-looked g c = λ events before has bounds are grows.
    let is = event_is (g.P.Part.item c.args.part.now) c.in-Some.event.now c.in-Some.ensures in
    let stands = subst (ItemStands (length c.args.cut.now)) is c.requires.stands in
    subst (λ (i : Item). HasLooked events before i c.args.cut.now c.lower.new.cut c.lower.result) (sym is)
    (looked_event events before c.in-Some.event.now c.args.counts.now c.args.cut.now c.lower.new.cut c.lower.result bounds are (subst (λ (i : Item). Grows (with_item before i) events) is grows)
    (omega (arith, stands.process, ap length are, length-lens before, c.requires.counts)) stands.process (c.lower.ensures.lowered events has bounds))

pub returns-in-None-clause-looked : goal.returns-in-None-clause-looked
returns-in-None-clause-looked g c = λ events before has bounds are grows. looked_other events before (g.P.Part.item c.args.part.now) c.args.cut.now c.args.cut.now (nothing_more before (g.P.Part.item c.args.part.now) c.in-None.ensures) bounds refl
