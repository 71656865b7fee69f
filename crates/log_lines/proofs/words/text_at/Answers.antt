use Rattle.std.proofs.Common.{◌≡◌, true, false, arith, slice_index, length, sym, ◌∙◌}
use Rattle.std.specs.Prelude.{◌==◌}
use Rattle.std.proofs.lemmas.Bool.Decides.{nat_tests}
use Rattle.std.proofs.lemmas.List.{take_rest}
use Rattle.log_lines.proofs.Steps.{text-more, text-other, text-short, text-done}
use Rattle.log_lines.proofs.words.text_at.Goals as goal

pub returns-then-i-bytes : goal.returns-then-i-bytes
returns-then-i-bytes c = sym (c.loop-i.invariant.read ∙ text-short c.args.text.now c.args.bytes.now c.loop-i.i c.loop-i-test.true (omega arith))

pub returns-then-bytes-i : goal.returns-then-bytes-i
returns-then-bytes-i c =
    let other : (slice_index c.args.bytes.now c.loop-i.i == slice_index c.args.text.now c.loop-i.i) ≡ false = grind (arith, nat_tests) in
    sym (c.loop-i.invariant.read ∙ text-other c.args.text.now c.args.bytes.now c.loop-i.i c.loop-i-test.true (omega arith) other)

pub loop-i-preserved : goal.loop-i-preserved
loop-i-preserved c =
    let same : (slice_index c.args.bytes.now c.loop-i.i == slice_index c.args.text.now c.loop-i.i) ≡ true = grind (arith, nat_tests) in
    record { read = c.loop-i.invariant.read ∙ text-more c.args.text.now c.args.bytes.now c.loop-i.i c.loop-i-test.true (omega arith) same; within = omega arith }

pub returns : goal.returns
returns c =
    let all : c.loop-i.i ≡ length c.args.text.now = omega arith in
    let read = rw all at c.loop-i.invariant.read in
    rw take_rest (sym (read ∙ text-done c.args.text.now c.args.bytes.now (length c.args.text.now) (omega arith)))
