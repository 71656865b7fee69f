use Rattle.rctl_parse.proofs.WholeSteps.{text_complete}
use Rattle.rctl_parse.proofs.read.parse_long.Goals as goal

pub returns-clause-complete : goal.returns-clause-complete
returns-clause-complete c = λ t given. text_complete _ _ _ t _ c.in_ok-lexed.ensures.lexed c.as_slice.ensures given c.formula_of.ensures.read c.formula_of.ensures.fault
