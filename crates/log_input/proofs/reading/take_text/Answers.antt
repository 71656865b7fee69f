use Rattle.std.proofs.Common.{[], sym, subst}
use Rattle.event_log.specs.declared.item.LogFault.{LogFault}
use Rattle.log_input.specs.inside.Judging.{HasTextFault}
use Rattle.log_input.proofs.Texts.{items_fit_first, item_fault, byte_fault, taken}
use Rattle.log_input.proofs.reading.take_text.Goals as goal

pub take_all-requires-clause-fit : goal.take_all-requires-clause-fit
take_all-requires-clause-fit c = items_fit_first c.args.text.now c.in-Ok.fed (c.in-Ok.ensures.read [] c.requires.read).0

pub returns-in-Err-Fault-clause-fault : goal.returns-in-Err-Fault-clause-fault
returns-in-Err-Fault-clause-fault c =
    subst (λ (f : LogFault). HasTextFault c.args.text.now f) (sym c.in-Err-Fault.fault-is)
    (item_fault c.args.text.now c.in-Ok.fed (c.in-Ok.ensures.read [] c.requires.read).0 c.in-Err-Fault.fault (rw c.in-Err-Fault.field-0-is at c.in-Err-Fault.ensures.fault))

pub returns-in-Some-clause-fault : goal.returns-in-Some-clause-fault
returns-in-Some-clause-fault c =
    byte_fault c.args.text.now c.in-Ok.fed (c.in-Ok.ensures.read [] c.requires.read).0 c.take_all.new.self c.in-Ok-take_all.ensures.ok c.in-Some.fault c.in-Some.is

pub returns-in-None-clause-ok : goal.returns-in-None-clause-ok
returns-in-None-clause-ok c =
    let read = c.in-Ok.ensures.read [] c.requires.read in
    taken c.args.text.now c.in-Ok.fed read.0 c.take_all.new.self c.in-Ok-take_all.ensures.ok c.feed.new.self read.1 c.in-None.is
