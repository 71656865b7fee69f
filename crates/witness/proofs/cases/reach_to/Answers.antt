use Rattle.std.proofs.Common.{length, ap, sym, ◌∙◌, Some}
use Rattle.run_model.specs.Witness as model
use Rattle.witness.proofs.CaseSteps.{initial_is}
use Rattle.witness.proofs.cases.reach_to.Goals as goal

pub path_to-requires-clause-start : goal.path_to-requires-clause-start
path_to-requires-clause-start c = initial_is c.args.order.now c.procs.result c.in_ok-start-in-Some.start (c.procs.ensures.count ∙ ap length c.shape.ensures.lens) c.in_ok-start-in-Some.ensures

pub returns-in-None : goal.returns-in-None
returns-in-None c = λ s bottom. model.IsCanonical.never (bottom ∙ c.in-None.is)

pub returns-in_ok-path-in-Some : goal.returns-in_ok-path-in-Some
returns-in_ok-path-in-Some c = λ s bottom.
    model.IsCanonical.reaches (bottom ∙ c.in-Some.is ∙ ap Some (sym (c.in_ok-path-in-Some.ensures.goal ∙ c.as_slice.ensures))) c.in_ok-path-in-Some.ensures.steps
