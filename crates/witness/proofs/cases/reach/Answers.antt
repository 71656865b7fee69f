use Rattle.std.proofs.Common.{Some, sym, ap, ◌∙◌}
use Rattle.run_model.specs.Witness as model
use Rattle.witness.proofs.cases.reach.Goals as goal

pub returns-in-None : goal.returns-in-None
returns-in-None c = model.IsCanonical.never (sym c.in-None.ensures.bottom)

pub returns-in_ok-path_to-in-Some : goal.returns-in_ok-path_to-in-Some
returns-in_ok-path_to-in-Some c = model.IsCanonical.reaches (sym c.in-Some.ensures.bottom ∙ ap Some (sym c.in_ok-path_to-in-Some.ensures.goal)) c.in_ok-path_to-in-Some.ensures.steps
