use Rattle.std.proofs.Common.{map, length, get_or, sym, ap, refl, ◌∙◌}
use Rattle.event_log.specs.declared.item.Item.{Item}
use Rattle.torn_log.specs.Items.{with_item}
use Rattle.torn_log.proofs.Parts.{event_is, nothing_more}
use Rattle.torn_log.proofs.Passing.{count_event}
use Rattle.torn_log.proofs.counting.count.Goals as goal

pub returns-in-Some : goal.returns-in-Some
returns-in-Some g c = λ events are.
    c.raise.ensures ∙ count_event events c.in-Some.event.now c.args.counts.now (get_or c.args.counts.now c.in-Some.event.now.process 0) refl are
    ∙ ap (λ (i : Item). map length (with_item events i)) (sym (event_is (g.P.Part.item c.args.part.now) c.in-Some.event.now c.in-Some.ensures))

pub returns-in_default : goal.returns-in_default
returns-in_default g c = λ events are. are ∙ ap (map length) (sym (nothing_more events (g.P.Part.item c.args.part.now) c.in_default.ensures))
