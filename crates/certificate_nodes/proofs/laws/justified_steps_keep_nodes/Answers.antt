use Rattle.certificate_nodes.proofs.Keeping.{node_keeps, begun_keeps, raised_keeps, verdict_keeps}
use Rattle.certificate_nodes.proofs.laws.justified_steps_keep_nodes.Goals as goal

pub returns-clause-node : goal.returns-clause-node
returns-clause-node c = node_keeps

pub returns-clause-row : goal.returns-clause-row
returns-clause-row c = begun_keeps

pub returns-clause-raise : goal.returns-clause-raise
returns-clause-raise c = raised_keeps

pub returns-clause-verdict : goal.returns-clause-verdict
returns-clause-verdict c = verdict_keeps
