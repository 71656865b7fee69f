use Rattle.std.proofs.Common.{◌≡◌, true, false, rules, arith, slice_index, sym, ◌∙◌, length}
use Rattle.pota_base.specs.Number.{is_digit}
use Rattle.pota_base.proofs.Digits.{digits-stop, digits-zero, digits-over, digits-next, digits-all}
use Rattle.pota_base.proofs.number.number_at.Goals as goal

pub returns-then-not-is_digit-clause-gives : goal.returns-then-not-is_digit-clause-gives
returns-then-not-is_digit-clause-gives c =
    let d : is_digit (slice_index c.args.bytes.now c.digits.i) ≡ false = search rules in
    c.digits_end.ensures.gives ∙ sym (c.digits.invariant.read ∙ digits-stop c.args.most c.digits.value c.digits.i c.args.bytes.now c.digits.i c.digits-test.true d)

pub returns-then-is_leading_zero-clause-gives : goal.returns-then-is_leading_zero-clause-gives
returns-then-is_leading_zero-clause-gives c =
    let d : is_digit (slice_index c.args.bytes.now c.digits.i) ≡ true = search rules in
    sym (c.digits.invariant.read ∙ digits-zero c.args.most c.digits.value c.digits.i c.args.bytes.now c.digits.i c.digits-test.true d (sym c.if-is_leading_zero.ensures))

pub returns-in_default-clause-gives : goal.returns-in_default-clause-gives
returns-in_default-clause-gives c =
    let d : is_digit (slice_index c.args.bytes.now c.digits.i) ≡ true = search rules in
    sym (c.digits.invariant.read ∙ digits-over c.args.most c.digits.value c.digits.i c.args.bytes.now c.digits.i c.digits-test.true d (sym c.if-is_leading_zero.ensures) c.in_default.ensures.none)

pub digits-preserved : goal.digits-preserved
digits-preserved c =
    let d : is_digit (slice_index c.args.bytes.now c.digits.i) ≡ true = search rules in
    let sum = c.in-Some.ensures.some in
    record {
      read = rw sum.0 (c.digits.invariant.read ∙ digits-next c.args.most c.digits.value c.digits.i c.args.bytes.now c.digits.i c.digits-test.true d (sym c.if-is_leading_zero.ensures) (rw sum.0 at sum.1));
      bound = sum.1;
    }

pub returns-clause-gives : goal.returns-clause-gives
returns-clause-gives c =
    let all : c.digits.i ≡ length c.args.bytes.now = omega arith in
    let whole = rw all at c.digits.invariant.read in
    c.digits_end-2.ensures.gives ∙ sym (whole ∙ digits-all c.args.most c.digits.value (length c.args.bytes.now) c.args.bytes.now (length c.args.bytes.now) (omega arith))
