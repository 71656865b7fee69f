use Rattle.std.proofs.Common.{◌≡◌, ◌-◌, Bool, Some, sym, ap, ◌∙◌}
use Rattle.std.specs.Prelude.{if◌then◌else◌}
use Rattle.std.proofs.lemmas.Bool.{eq-eqb, ne_eqb}
use Rattle.certificate_raises.specs.Canonical.{after_of}
use Rattle.certificate_raises.proofs.Following.{after_event}
use Rattle.certificate_raises.proofs.row.row_before.Goals as goal

pub returns-then-event-eq1 : goal.returns-then-event-eq1
returns-then-event-eq1 c =
    let row = c.args.row in
    let found = after_event c.shape.result.now row c.in_ok-event.event c.in_ok-event.ensures.there c.in_ok-event.ensures.row in
    let first : Some 0 ≡ after_of c.shape.result.now row = ap (λ (b : Bool). Some (if b then 0 else row - 1)) (sym (eq-eqb _ _ c.if-event-eq1.true)) ∙ found in
    cc (first, c.shape.ensures.shape, c.system.ensures.system)

pub returns : goal.returns
returns c =
    let row = c.args.row in
    let found = after_event c.shape.result.now row c.in_ok-event.event c.in_ok-event.ensures.there c.in_ok-event.ensures.row in
    let later : Some (row - 1) ≡ after_of c.shape.result.now row = ap (λ (b : Bool). Some (if b then 0 else row - 1)) (sym (ne_eqb _ _ c.if-event-eq1.false)) ∙ found in
    cc (later, c.shape.ensures.shape, c.system.ensures.system)
