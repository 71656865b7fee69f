use Rattle.log_check.specs.Aims.{terms_of}
use Rattle.log_check.proofs.Steps.{observed_for}
use Rattle.log_check.proofs.check.LogCheck.observation.Goals as goal

pub observation-requires : goal.observation-requires
observation-requires g c = (terms_of c.requires.0, c.requires.1, c.requires.2, c.requires.3.intake, c.requires.4)

pub returns-clause-is : goal.returns-clause-is
returns-clause-is g c aim j log is closed =
    observed_for (λ h. (goal.Watch-dyn g (h.watch.vtable, h.watch.value)).answers h.watch.value) aim j log c.args.self.now c.observation.result.now is closed c.observation.ensures.kept (c.observation.ensures.is (terms_of aim) j log is.intake closed)
