use Rattle.std.proofs.Common.{◌≡◌, Some, false, true, length, refl, sym, ◌∙◌, arith}
use Rattle.report_lines.specs.Reading.{cut_at, within_at, are_within}
use Rattle.report_lines.proofs.Cuts.{within_same}
use Rattle.report_lines.proofs.parts.within_at.Goals as goal

pub returns-then-not-within : goal.returns-then-not-within
unfolding within_at
returns-then-not-within c =
    let read : cut_at (length c.args.lengths.now) c.args.bytes.now ≡ Some (c.in-Some.cut, c.in-Some.rest.now) = grind arith in
    let width : length c.in-Some.cut ≡ length c.args.lengths.now = grind arith in
    let test : are_within c.in-Some.cut c.args.lengths.now ≡ false = within_same _ _ c.within.result width c.within.ensures ∙ c.if-not-within.true in
    rw (read, test) refl

pub returns : goal.returns
unfolding within_at
returns c =
    let read : cut_at (length c.args.lengths.now) c.args.bytes.now ≡ Some (c.in-Some.cut, c.in-Some.rest.now) = grind arith in
    let width : length c.in-Some.cut ≡ length c.args.lengths.now = grind arith in
    let test : are_within c.in-Some.cut c.args.lengths.now ≡ true = within_same _ _ c.within.result width c.within.ensures ∙ c.if-not-within.false in
    rw (read, test) refl
