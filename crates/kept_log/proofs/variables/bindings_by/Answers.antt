use Rattle.std.proofs.Common.{◌++◌, List, Bool, take, sym, ap, ◌∙◌}
use Rattle.kept_runs.specs.Chosen.{chosen}
use Rattle.event_log.specs.declared.log.Binding.{Binding}
use Rattle.kept_log.specs.inside.Numbered.{is_kept_variable, chosen_one}
use Rattle.kept_log.proofs.Steps.{chosen_step}
use Rattle.kept_log.proofs.variables.bindings_by.Goals as goal

pub loop-variable-preserved : goal.loop-variable-preserved
loop-variable-preserved c =
    let t = is_kept_variable c.args.numbers.now c.args.process in
    let j = c.loop-variable.variable in
    let x = c.index-bindings-variable.result in
    c.in_ok-kept.ensures
    ∙ ap (λ (r : List Binding). r ++ chosen_one c.keeps-is_kept.result x) c.loop-variable.invariant
    ∙ ap (λ (b : Bool). chosen t (take j c.args.bindings.now) ++ chosen_one b x) c.keeps-is_kept.ensures
    ∙ sym (chosen_step t c.args.bindings.now j x c.loop-variable-test.true c.index-bindings-variable.is)
