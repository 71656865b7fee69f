use Rattle.std.proofs.Common.{◌∙◌}
use Rattle.answering.proofs.Going.{settled_count}
use Rattle.answering.proofs.answering.Answering.conjunctions.Goals as goal

pub returns-clause-conjunctions : goal.returns-clause-conjunctions
returns-clause-conjunctions c = λ seen cs is. c.len.ensures ∙ settled_count seen cs _ is
