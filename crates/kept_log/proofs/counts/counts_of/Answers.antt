use Rattle.std.proofs.Common.{◌≡◌, ◌+◌, take, length, sym, ap, ◌∙◌, arith}
use Rattle.clock_laws.specs.Joined.{as_one}
use Rattle.kept_log.specs.declared.counts.Row.{Row}
use Rattle.kept_log.specs.inside.Counted.{first_row, row_with_all}
use Rattle.kept_log.proofs.Rows.{row_none, row_append, kept_within, few_before}
use Rattle.kept_log.proofs.Steps.{batches_more}
use Rattle.kept_log.proofs.counts.counts_of.Goals as goal

pub loop-batch-init : goal.loop-batch-init
loop-batch-init c = c.in_ok-row.ensures ∙ sym (row_none c.args.numbers.now (first_row c.args.process))

pub loop-batch-preserved : goal.loop-batch-preserved
loop-batch-preserved c =
    let i = c.loop-batch.batch-index in
    let b = c.batch-item.result in
    let first = first_row c.args.process in
    let front = as_one (take i c.args.batches.now) in
    let more : row_with_all c.args.numbers.now first (as_one (take (i + 1) c.args.batches.now)) ≡ row_with_all c.args.numbers.now (row_with_all c.args.numbers.now first front) b =
    ap (row_with_all c.args.numbers.now first) (batches_more c.args.batches.now i b c.loop-batch-test.true c.batch-item.is) ∙ row_append c.args.numbers.now first front b in
    cc (c.in_ok-take_all.ensures)

pub take_all-requires : goal.take_all-requires
take_all-requires c =
    let i = c.loop-batch.batch-index in
    let b = c.batch-item.result in
    let first = first_row c.args.process in
    omega (
      arith,
      kept_within c.args.numbers.now first (as_one (take i c.args.batches.now)),
      few_before c.args.batches.now i b c.loop-batch-test.true c.batch-item.is,
      ap (λ (r : Row). r.kept) c.loop-batch.invariant,
      ap length c.as_slice.ensures,
    )
