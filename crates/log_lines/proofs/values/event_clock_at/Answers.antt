use Rattle.std.proofs.Common.{◌≡◌, ◌-◌, ◌^◌, [], ◌∷◌, None, Some, arith, refl, ◌∙◌}
use Rattle.std.proofs.lemmas.Result.{err_from_is_err_and}
use Rattle.log_lines.specs.Reading.{text_at, number_at}
use Rattle.log_lines.proofs.Steps.{fails_none}
use Rattle.log_lines.proofs.ItemLaws.{left_out, not_left_out, counts_given}
use Rattle.log_lines.proofs.values.event_clock_at.Goals as goal

pub returns-in_err-rest : goal.returns-in_err-rest
returns-in_err-rest c =
    let none : number_at (2 ^ 32 - 1) c.args.bytes.now ≡ None = grind arith in
    let no_tilde : text_at (126 ∷ []) c.args.bytes.now ≡ None = grind arith in
    let p = err_from_is_err_and c.from_residual.result c.from_residual.ensures.1 in
    rw (p.1, p.2) (fails_none _ _ (not_left_out c.args.bytes.now none no_tilde))

pub returns-in_default : goal.returns-in_default
returns-in_default c =
    let tilde : text_at (126 ∷ []) c.args.bytes.now ≡ Some c.in_ok-rest.rest.now = grind arith in
    left_out c.args.bytes.now c.in_ok-rest.rest.now tilde ∙ rw c.new.ensures.items refl

pub returns : goal.returns
returns c =
    let first : number_at (2 ^ 32 - 1) c.args.bytes.now ≡ Some (c.in-Some.first, c.in-Some.rest.now) = grind arith in
    rw (counts_given c.args.bytes.now (c.in-Some.first, c.in-Some.rest.now) first) c.clock_from.ensures
