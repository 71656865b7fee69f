use Rattle.log_intake.proofs.Steps.{adds_all}
use Rattle.log_intake.proofs.intake.LogIntake.add_all.Goals as goal

pub returns-clause-is : goal.returns-clause-is
returns-clause-is g c = λ terms log is fit. adds_all (λ h. (goal.Watch-dyn g (h.watch.vtable, h.watch.value)).answers h.watch.value) terms log c.args.self.now c.args.batch is fit
