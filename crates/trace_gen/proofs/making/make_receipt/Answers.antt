use Rattle.std.proofs.Common.{get_or}
use Rattle.std.proofs.lemmas.List.{get_or_default}
use Rattle.trace_gen.specs.Making.{nobody}
use Rattle.trace_gen.proofs.Turns.{receipt_is, both_ok}
use Rattle.trace_gen.proofs.making.make_receipt.Goals as goal

pub returns : goal.returns
returns c =
    let ps = c.args.processes.now in
    let i = c.args.index in
    let found = c.index-processes-index.result in
    both_ok c.receive.result _ _ _ c.receive.ensures.event c.receive.ensures.process (λ e event after.
    receipt_is ps i c.args.line (get_or ps i found) c.receive.new.process c.in-Some.message c.pop.new.self e
    (get_or_default ps i nobody found c.requires.there) c.in-Some.ensures event after)
