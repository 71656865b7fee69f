use Rattle.std.proofs.Common.{◌≡◌, ◌≤◌, true, false, rules, arith, slice_index, sym, ◌∙◌}
use Rattle.pota_base.specs.Number.{is_digit}
use Rattle.pota_base.proofs.Digits.{digits-stop, digits-next}
use Rattle.log_lines.proofs.counts.count_at.Goals as goal

pub returns-then-not-is_digit : goal.returns-then-not-is_digit
returns-then-not-is_digit c =
    let d : is_digit (slice_index c.args.bytes.now c.digits.i) ≡ false = search rules in
    c.count_end.ensures ∙ sym (c.digits.invariant ∙ digits-stop 4294967295 c.digits.count c.digits.i c.args.bytes.now c.digits.i c.digits-test.true d)

pub digits-preserved : goal.digits-preserved
digits-preserved c =
    let d : is_digit (slice_index c.args.bytes.now c.digits.i) ≡ true = search rules in
    let room = c.has_room.ensures c.if-not-has_room.false in
    let low : slice_index c.args.bytes.now c.digits.i ≤ 57 = grind (arith, d) in
    rw c.from.ensures (c.digits.invariant ∙ digits-next 4294967295 c.digits.count c.digits.i c.args.bytes.now c.digits.i c.digits-test.true d room.0 (omega (arith, low, room.1)))
