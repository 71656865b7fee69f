use Rattle.std.proofs.Common.{rules, arith, ◌≡◌, ◌∙◌, ◌+◌, suc, ap}
use Rattle.raise_machine.specs.Bounds.{word_at}
use Rattle.certificate_table.specs.Begun.{lent}
use Rattle.certificate_table.proofs.Keeping.{lent_stays}
use Rattle.certificate_table.proofs.lending.lend.Goals as goal

pub raise-requires-clause-value : goal.raise-requires-clause-value
raise-requires-clause-value c =
    let lens = c.args.rows.now.lens in
    let there = c.loop-process-test.true in
    let stays = lent_stays lens c.args.rows.now.words c.args.row c.args.other c.loop-process.process c.args.other c.loop-process.process (search rules) (search rules) (λ e. omega (arith, e, c.requires.earlier)) in
    let read : c.word-word.result ≡ word_at lens c.args.rows.now.words c.args.other c.loop-process.process = cc (c.word-word.ensures, c.loop-process.invariant.lens, c.loop-process.invariant.words, stays) in
    omega (arith, read, c.requires.small c.loop-process.process (search rules))

pub loop-process-preserved : goal.loop-process-preserved
loop-process-preserved c =
    let lens = c.args.rows.now.lens in
    let stays = lent_stays lens c.args.rows.now.words c.args.row c.args.other c.loop-process.process c.args.other c.loop-process.process (search rules) (search rules) (λ e. omega (arith, e, c.requires.earlier)) in
    let next : lent lens c.args.rows.now.words c.args.row c.args.other (c.loop-process.process + 1) ≡ lent lens c.args.rows.now.words c.args.row c.args.other (suc c.loop-process.process) = ap (λ n. lent lens c.args.rows.now.words c.args.row c.args.other n) (let e : c.loop-process.process + 1 ≡ suc c.loop-process.process = omega arith in e) in
    record { lens = c.raise.ensures.lens ∙ c.loop-process.invariant.lens; words = cc (next, c.raise.ensures.words, c.word-word.ensures, c.loop-process.invariant.lens, c.loop-process.invariant.words, stays) }
