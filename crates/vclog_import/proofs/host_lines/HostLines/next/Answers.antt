use Rattle.std.proofs.Common.{refl, sym, ◌∙◌, subst}
use Rattle.vclog_import.specs.inside.Reading.{Gives}
use Rattle.vclog_import.proofs.LineSteps.{passed_more, then_gives, then_ends, passes_description, passes_line, gives_record, ends_records}
use Rattle.vclog_import.proofs.host_lines.HostLines.next.Goals as goal

pub returns-in_err-line-clause-none : goal.returns-in_err-line-clause-none
returns-in_err-line-clause-none c = rw c.from_residual.ensures (then_ends c.args.self.now c.lines.self c.next_line.new.self c.lines.invariant (ends_records c.lines.self c.next_line.new.self c.in_err-line.ensures.none))

pub lines-preserved-then-not-self : goal.lines-preserved-then-not-self
lines-preserved-then-not-self c =
    let takes = c.in_ok-line.ensures.some in
    passed_more c.args.self.now c.lines.self _ c.lines.invariant (passes_description c.lines.self c.next_line.new.self _ c.in_ok-line.line.now takes refl refl refl (sym takes.due_is ∙ c.if-not-self.true) refl)

pub returns-then-not-is_passed-clause-some : goal.returns-then-not-is_passed-clause-some
returns-then-not-is_passed-clause-some c =
    let takes = c.in_ok-line.ensures.some in
    let gives = gives_record c.lines.self c.next_line.new.self _ c.in_ok-line.line.now takes refl refl refl (sym takes.due_is ∙ c.if-not-self.false) (sym c.is_passed.ensures ∙ c.if-not-is_passed.true) refl in
    then_gives c.args.self.now c.lines.self _ _ c.lines.invariant (subst (Gives c.lines.self _) (sym c.of.ensures) gives)

pub lines-preserved : goal.lines-preserved
lines-preserved c =
    let takes = c.in_ok-line.ensures.some in
    passed_more c.args.self.now c.lines.self c.next_line.new.self c.lines.invariant (passes_line c.lines.self c.next_line.new.self c.next_line.new.self c.in_ok-line.line.now takes refl refl refl (sym takes.due_is ∙ c.if-not-self.false) (sym c.is_passed.ensures ∙ c.if-not-is_passed.false) c.if-not-self.false)
