use Rattle.std.proofs.Common.{arith}
use Rattle.certificate_table.specs.Begun.{with_row}
use Rattle.certificate_raises.proofs.Doubting.{marked_most}
use Rattle.certificate_raises.proofs.row.next_row.Goals as goal

pub returns-clause-begun : goal.returns-clause-begun
returns-clause-begun c = c.reset.ensures (with_row c.args.rows.now c.args.rows.now.begun c.row_before.result) c.requires.doubts

pub returns-clause-marked : goal.returns-clause-marked
returns-clause-marked c = omega (arith, marked_most c.reset.new.self, (c.reset.ensures c.args.rows.now c.requires.doubts).count)
