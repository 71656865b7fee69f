use Rattle.std.proofs.Common.{◌≡◌}
use Rattle.certificate_table.specs.Begun.{lent}
use Rattle.certificate_table.proofs.lending.lend.Given as goal

abbrev pub invariant-loop-process : goal.invariant-loop-process
invariant-loop-process l = record {
  lens : l.rows.lens ≡ l.fn.rows.lens;
  words : l.rows.words ≡ lent l.fn.rows.lens l.fn.rows.words l.row l.other l.process;
}
