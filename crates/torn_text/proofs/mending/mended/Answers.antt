use Rattle.torn_text.specs.Mending.{mended}
use Rattle.torn_text.proofs.Lines.{mended_one, mended_all}
use Rattle.torn_text.proofs.mending.mended.Goals as goal

pub lines-preserved : goal.lines-preserved
lines-preserved c =
    rw c.in_ok-is_open.ensures.state
    (mended_one c.lines.is_open c.lines.text c.mend.new.text (mended c.args.bytes.now) c.in-Some.line.now c.in-Some.behind.now c.lines.rest.now c.in-Some.ensures.some.0 c.in-Some.ensures.some.1 c.in_ok-is_open.ensures.text c.lines.invariant)

pub returns : goal.returns
returns c = mended_all c.lines.is_open c.lines.text c.close.new.text (mended c.args.bytes.now) c.lines.rest.now c.in_default.ensures.none c.in_ok-close.ensures c.lines.invariant
