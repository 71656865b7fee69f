use Rattle.std.proofs.Common.{arith, ◌≡◌, ◌-◌}
use Rattle.pull_system.specs.System.{source_of}
use Rattle.raise_machine.specs.Bounds.{word_at}
use Rattle.certificate_table.proofs.Keeping.{word_small}
use Rattle.certificate_table.proofs.certified.CertifiedRows.reached.Goals as goal

pub overflow_cast-result : goal.overflow_cast-result
overflow_cast-result c =
    let read : c.word.result ≡ word_at c.self.inside.system.lens c.self.inside.rows.words (c.self.inside.begun - 1) (source_of c.self.inside.system c.args.k) = cc (c.word.ensures, c.ends-source.ensures.source, c.self.invariant.0) in
    omega (arith, read, word_small _ c.self.invariant.1 (c.self.inside.begun - 1) (source_of c.self.inside.system c.args.k) c.ends-source.ensures.pull.source)
