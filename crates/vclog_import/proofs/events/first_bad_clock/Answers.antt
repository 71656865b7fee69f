use Rattle.std.proofs.Common.{sym, ◌∙◌}
use Rattle.vclog_import.proofs.LineLists.{bad_line, good_line, no_line_bad}
use Rattle.vclog_import.proofs.events.first_bad_clock.Goals as goal

pub returns-then-branch : goal.returns-then-branch
returns-then-branch c = sym (c.loop-line.invariant ∙ bad_line c.args.lines.now c.loop-line.line-index _ c.loop-line-test.true (sym c.in_ok-has_bad_clock.ensures ∙ c.if-branch.true))

pub loop-line-preserved : goal.loop-line-preserved
loop-line-preserved c = c.loop-line.invariant ∙ good_line c.args.lines.now c.loop-line.line-index _ c.loop-line-test.true (sym c.in_ok-has_bad_clock.ensures ∙ c.if-branch.false)

pub returns : goal.returns
returns c = sym (c.loop-line.invariant ∙ no_line_bad c.args.lines.now c.loop-line.line-index c.loop-line-test.false)
