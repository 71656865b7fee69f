use Rattle.std.proofs.Common.{◌∙◌, refl}
use Rattle.log_rules.specs.Judgement.{events_of}
use Rattle.filled_log.proofs.Begins.{stands, may_be_admitted, extended}
use Rattle.filled_log.proofs.filling.Begun.extend.Goals as goal

pub filled-requires : goal.filled-requires
filled-requires c = stands c.args.self.now c.requires.0 c.args.batch c.requires.1 c.requires.2

pub admit-requires : goal.admit-requires
admit-requires c =
    may_be_admitted c.args.self.now c.requires.0 c.args.batch c.requires.1 c.requires.2 c.as_slice.result.now
    (c.as_slice.ensures ∙ c.in-Ok.ensures (events_of c.requires.0) c.requires.1.admitted)

pub returns-in-Ok-push-clause-ok : goal.returns-in-Ok-push-clause-ok
returns-in-Ok-push-clause-ok c log has may =
    extended c.args.self.now log c.args.batch has may _ c.in-Ok.batch c.as_slice.result.now c.as_slice.ensures (c.in-Ok.ensures (events_of log) has.admitted)
    (c.in-Ok-admit.ensures.ok (events_of log) has.admitted) refl c.in-Ok-push.ensures.ok
