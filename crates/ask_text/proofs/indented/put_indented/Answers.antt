use Rattle.std.proofs.Common.{◌++◌}
use Rattle.ask_text.specs.Indented.{indented}
use Rattle.ask_text.proofs.Steps.{byte_put, bytes_put}
use Rattle.ask_text.proofs.indented.put_indented.Goals as goal

pub loop-i-preserved : goal.loop-i-preserved
loop-i-preserved c =
    byte_put c.args.text.now c.loop-i.i c.loop-i.begins c.loop-i.out c.put_byte.new.out (c.args.out.now ++ indented c.args.text.now) c.loop-i-test.true c.loop-i.invariant c.in_ok-put_byte.ensures

pub returns : goal.returns
returns c = bytes_put c.args.text.now c.loop-i.i c.loop-i.begins c.loop-i.out (c.args.out.now ++ indented c.args.text.now) c.loop-i-test.false c.loop-i.invariant
