use Rattle.std.proofs.Common.{◌^◌, ◌<◌, length, sym, subst, arith}
use Rattle.std.proofs.lemmas.Result.{err_from_is_err_and}
use Rattle.report.specs.Machine.{IsGood}
use Rattle.view_parts.proofs.Running.{anew_good}
use Rattle.view_parts.proofs.Faults.{none_taken, reached, one_taken, line_room}
use Rattle.view_parts.proofs.Steps.{line_refused, lines_over}
use Rattle.view_parts.proofs.reading.read_lines.Goals as goal

pub lines-init : goal.lines-init
lines-init c = none_taken c.args.text.now

pub behind-requires : goal.behind-requires
behind-requires c =
    let got = reached c.args.text.now c.lines.rest.now c.lines.line c.lines.draft c.lines.invariant in
    subst IsGood (sym c.begun_anew.ensures) (anew_good c.lines.draft got.good)

pub returns-in_err-draft : goal.returns-in_err-draft
returns-in_err-draft c =
    let p = err_from_is_err_and c.from_residual.result c.from_residual.ensures.1 in
    let split = c.in-Some.ensures.some in
    rw (p.1, p.2) (line_refused c.args.text.now c.lines.rest.now c.in-Some.front.now c.in-Some.after.now c.lines.line c.lines.draft c.in_err-draft.field-0.0 c.lines.invariant split.0 split.1 (rw c.begun_anew.ensures at c.in_err-draft.ensures.fault))

pub overflow_add-line : goal.overflow_add-line
overflow_add-line c =
    let small : length c.args.text.now < 2 ^ 64 = omega arith in
    let room = line_room c.args.text.now c.lines.rest.now c.in-Some.front.now c.in-Some.after.now c.lines.line c.lines.draft c.lines.invariant c.in-Some.ensures.some.1 small in
    omega (arith, room)

pub lines-preserved : goal.lines-preserved
lines-preserved c =
    one_taken c.args.text.now c.lines.rest.now c.in-Some.front.now c.in-Some.after.now c.lines.line c.lines.draft c.in_ok-draft.draft c.lines.invariant c.in-Some.ensures.some.0 c.in-Some.ensures.some.1 (rw c.begun_anew.ensures at c.in_ok-draft.ensures.read)

pub returns : goal.returns
returns c = lines_over c.args.text.now c.lines.rest.now c.lines.line c.lines.draft c.ended.result c.lines.invariant c.in_default.ensures.none c.ended.ensures.read c.ended.ensures.fault
