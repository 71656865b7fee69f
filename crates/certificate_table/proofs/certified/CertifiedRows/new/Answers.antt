use Rattle.std.proofs.Common.{rules}
use Rattle.pull_system.specs.System.{IsSystem}
use Rattle.certificate_table.proofs.Keeping.{fresh_certified}
use Rattle.certificate_table.proofs.certified.CertifiedRows.new.Goals as goal

pub invariant_of-result : goal.invariant_of-result
invariant_of-result c =
    let is : IsSystem c.args.system = c.shape.ensures.system in
    (search rules, search (rules, fresh_certified c.args.system is))
