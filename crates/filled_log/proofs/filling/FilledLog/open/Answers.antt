use Rattle.std.proofs.Common.{refl}
use Rattle.filled_log.proofs.Steps.{opens}
use Rattle.filled_log.proofs.filling.FilledLog.open.Goals as goal

pub returns-in-Ok : goal.returns-in-Ok
returns-in-Ok c = opens c.args.header c.args.self.now _ c.in-Ok.begun c.requires.waiting c.in-Ok.ensures refl refl refl
