use Rattle.std.proofs.Common.{List, subst, arith, rules}
use Rattle.std.specs.List.{AllByRecursion}
use Rattle.event_log.specs.declared.log.Event.{Event}
use Rattle.event_log.specs.States.{IsKnown}
use Rattle.layer_rows.proofs.Atoms.{may_follow}
use Rattle.layer_rows.proofs.states.read.Goals as goal

pub extend-requires : goal.extend-requires
extend-requires c =
    may_follow c.in_ok-states.states c.in-Some-header.header c.loop-item.events c.in_ok-states.ensures
    (subst (λ (es : List Event). AllByRecursion (IsKnown c.in-Some-header.header) es) c.as_slice.ensures (c.are_known.ensures c.if-not-are_known.false))
    (omega (arith, c.if-len-gt-MOST_EVENTS.false, c.len.ensures))
