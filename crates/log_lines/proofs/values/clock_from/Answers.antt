use Rattle.std.proofs.Common.{◌≡◌, ◌-◌, ◌^◌, [], ◌∷◌, None, Some, arith, ◌∙◌}
use Rattle.std.proofs.lemmas.Result.{err_from_is_err_and}
use Rattle.log_lines.specs.Reading.{text_at, number_at}
use Rattle.log_lines.proofs.Steps.{clock-end, clock-bad, fails_none}
use Rattle.log_lines.proofs.NumberLaws.{clock-next, shorter}
use Rattle.log_lines.proofs.values.clock_from.Goals as goal

pub returns-in_err-number : goal.returns-in_err-number
returns-in_err-number c =
    let comma : text_at (44 ∷ []) c.loop-behind.rest.now ≡ Some c.in-Some.behind.now = grind arith in
    let h : number_at (2 ^ 32 - 1) c.in-Some.behind.now ≡ None = grind arith in
    let p = err_from_is_err_and c.from_residual-in_err-number.result c.from_residual-in_err-number.ensures.1 in
    let i = c.loop-behind.invariant in
    rw (p.1, p.2) (fails_none _ _ (i.2 ∙ clock-bad i.0 c.loop-behind.clock.items c.loop-behind.rest.now c.in-Some.behind.now i.1 comma h))

pub loop-behind-smaller : goal.loop-behind-smaller
loop-behind-smaller c =
    let comma : text_at (44 ∷ []) c.loop-behind.rest.now ≡ Some c.in-Some.behind.now = grind arith in
    let h : number_at (2 ^ 32 - 1) c.in-Some.behind.now ≡ Some (c.in_ok-number.number, c.in_ok-number.after.now) = grind arith in
    shorter c.loop-behind.rest.now c.in-Some.behind.now c.in_ok-number.after.now (2 ^ 32 - 1) c.in_ok-number.number (omega arith) comma h

pub loop-behind-preserved : goal.loop-behind-preserved
loop-behind-preserved c =
    let comma : text_at (44 ∷ []) c.loop-behind.rest.now ≡ Some c.in-Some.behind.now = grind arith in
    let h : number_at (2 ^ 32 - 1) c.in-Some.behind.now ≡ Some (c.in_ok-number.number, c.in_ok-number.after.now) = grind arith in
    let i = c.loop-behind.invariant in
    let next = clock-next i.0 c.loop-behind.clock.items c.loop-behind.rest.now c.in-Some.behind.now c.in_ok-number.after.now c.in_ok-number.number i.1 comma h in
    (next.0, next.1, i.2 ∙ rw c.in_ok-push-2.ensures.items next.2)

pub returns : goal.returns
returns c =
    let comma : text_at (44 ∷ []) c.loop-behind.rest.now ≡ None = grind arith in
    let i = c.loop-behind.invariant in
    i.2 ∙ clock-end i.0 c.loop-behind.clock.items c.loop-behind.rest.now comma
