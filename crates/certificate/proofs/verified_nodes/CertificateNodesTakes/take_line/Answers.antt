use Rattle.std.proofs.Common.{subst}
use Rattle.std.specs.Prelude.{IfOk}
use Rattle.std.specs.Bool.{OnFalse}
use Rattle.certificate_text.specs.Taking.{NoneFollows}
use Rattle.certificate_nodes.specs.Nodes.{NodesView}
use Rattle.certificate.specs.Following.{Follows}
use Rattle.certificate.proofs.verified_nodes.CertificateNodesTakes.take_line.Goals as goal

pub returns-clause-refused : goal.returns-clause-refused
returns-clause-refused g c = subst (λ (v : NodesView). IfOk c.take_line.result (λ ok. OnFalse ok (NoneFollows Follows v c.args.line))) c.self.view_is c.take_line.ensures.refused
