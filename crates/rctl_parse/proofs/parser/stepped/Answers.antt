use Rattle.rctl_parse.proofs.LeafSteps.{passes_on}
use Rattle.rctl_parse.proofs.SteppingSteps.{stepping_found, stepping_shorter, stepping_missing, stepping_bound}
use Rattle.rctl_parse.proofs.parser.stepped.Goals as goal

pub returns-in_err-inside-clause-step : goal.returns-in_err-inside-clause-step
returns-in_err-inside-clause-step c = λ name other. passes_on _ _ _ c.in_err-inside.field-0.0 _ _ c.from_residual.ensures.1 (λ y same. same) c.in_err-inside.ensures
    (λ f bound. stepping_bound _ name _ _ f other bound)

pub returns-in_err-process-clause-step : goal.returns-in_err-process-clause-step
returns-in_err-process-clause-step c = λ name other. passes_on _ _ _ c.in_err-process.field-0.0 _ _ c.from_residual-in_err-process.ensures.1 (λ y same. same) c.in_err-process.ensures
    (λ f miss. stepping_missing _ _ name _ _ f other c.in_ok-inside.ensures miss)

pub returns-clause-shorter : goal.returns-clause-shorter
returns-clause-shorter c = stepping_shorter _ _ _ c.in_ok-process.ensures

pub returns-clause-step : goal.returns-clause-step
returns-clause-step c = λ name other. stepping_found _ _ name _ _ _ _ other c.in_ok-inside.ensures c.in_ok-process.ensures
