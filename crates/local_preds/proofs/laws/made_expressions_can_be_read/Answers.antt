use Rattle.std.specs.Prelude.{pos, false, length, get_or}
use Rattle.local_preds.specs.Rows.{len_at}
use Rattle.local_preds.proofs.Expressions.{fitting_readable, constant_readable, same_constant}
use Rattle.local_preds.proofs.laws.made_expressions_can_be_read.Goals as goal

pub returns-clause-local : goal.returns-clause-local
returns-clause-local c = λ states watch_process watch_rows p e fits full. fitting_readable _ _ watch_process watch_rows p e fits full

pub returns-clause-constant : goal.returns-clause-constant
returns-clause-constant c = constant_readable

pub returns-clause-same : goal.returns-clause-same
returns-clause-same c = λ value watched e h. same_constant value (λ v. pos 0) watched (λ w. false) e h
