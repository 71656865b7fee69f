use Rattle.std.proofs.Common.{◌≡◌, refl, subst}
use Rattle.event_log.specs.declared.item.LogFault.{LogFault}
use Rattle.log_input.specs.Places.{place_by}
use Rattle.one_log.proofs.Beginnings.{event_refused, bytes_refused, begun_so, is_beginning}
use Rattle.one_log.proofs.torn.judge_items.Goals as goal

pub into_log-log-requires : goal.into_log-log-requires
into_log-log-requires c = begun_so c.args.items c.in_ok-torn.torn c.in_ok-torn.ensures.beginning c.take_all.new.self c.in-Ok.ensures.ok (c.requires.whole c.in-None.is)

pub returns-in-Err-Fault : goal.returns-in-Err-Fault
returns-in-Err-Fault c =
    event_refused c.args.items c.in_ok-torn.torn c.in_ok-torn.ensures.beginning c.args.fault c.args.places.now c.in-Err-Fault.found c.place.result
    (subst (λ (f : LogFault). c.place.result ≡ place_by c.args.places.now f) c.in-Err-Fault.found-is c.place.ensures)
    (rw c.in-Err-Fault.field-0-is at c.in-Err-Fault.ensures.fault)

pub returns-in-Some : goal.returns-in-Some
returns-in-Some c =
    bytes_refused c.args.items c.in_ok-torn.torn c.in_ok-torn.ensures.beginning c.take_all.new.self c.in-Ok.ensures.ok c.args.fault c.args.places.now c.in-Some.why c.in-Some.is

pub returns-in-None : goal.returns-in-None
returns-in-None c =
    is_beginning c.args.items c.in_ok-torn.torn c.in_ok-torn.ensures.beginning c.take_all.new.self c.in-Ok.ensures.ok (c.requires.whole c.in-None.is) c.args.fault c.args.places.now c.in-None.is
    c.into_log-log.result c.in_ok-torn.torn.left_out refl c.into_log-log.ensures
