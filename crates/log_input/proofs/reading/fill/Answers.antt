use Rattle.log_input.proofs.Wholes.{closes, has_begun, whole_log}
use Rattle.log_rules.specs.Judgement.{judged, waiting}
use Rattle.log_trace.specs.Judging.{without_formula}
use Rattle.event_log.specs.LogText.{log_items}
use Rattle.log_input.proofs.reading.fill.Goals as goal

pub into_log-requires : goal.into_log-requires
into_log-requires c = has_begun c.take_log.new.self (judged without_formula waiting (log_items c.args.log)) (closes c.take_log.new.self c.args.log c.requires.batch c.in-Ok.ensures.ok)

pub returns-in-Ok : goal.returns-in-Ok
returns-in-Ok c =
    whole_log c.take_log.new.self (judged without_formula waiting (log_items c.args.log)) c.into_log.result c.args.places (closes c.take_log.new.self c.args.log c.requires.batch c.in-Ok.ensures.ok) c.into_log.ensures

pub returns-in-Err-Fault : goal.returns-in-Err-Fault
returns-in-Err-Fault c = (c.in-Err-Fault.fault, rw c.in-Err-Fault.field-0-is at c.in-Err-Fault.ensures.fault, c.place.ensures)
