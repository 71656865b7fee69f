use Rattle.std.proofs.Common.{◌<◌, ◌≡◌, None, length, refl, subst, arith}
use Rattle.event_log.specs.declared.item.LogFault.{LogFault}
use Rattle.event_log.specs.LogText.{log_items}
use Rattle.torn_log.specs.TornLogs.{as_torn}
use Rattle.log_input.specs.Places.{place_by}
use Rattle.one_log.proofs.Beginnings.{are_whole, event_refused, begun_so, is_beginning}
use Rattle.one_log.proofs.torn.judge_whole.Goals as goal

pub into_log-log-requires : goal.into_log-log-requires
into_log-log-requires c =
    let log = c.args.log in
    begun_so (log_items log) (as_torn c.in_ok-torn.torn) c.in_ok-torn.ensures.beginning c.take_log.new.self c.in-Ok.ensures.ok
    (are_whole log log.batches refl (let one : length log.batches ≡ 1 = c.requires.batch in omega (arith, one)))

pub returns-in-Ok : goal.returns-in-Ok
returns-in-Ok c =
    let log = c.args.log in
    is_beginning (log_items log) (as_torn c.in_ok-torn.torn) c.in_ok-torn.ensures.beginning c.take_log.new.self c.in-Ok.ensures.ok
    (are_whole log log.batches refl (let one : length log.batches ≡ 1 = c.requires.batch in omega (arith, one))) None c.args.places.now refl
    c.into_log-log.result c.in_ok-torn.torn.left_out refl c.into_log-log.ensures

pub returns-in-Err-Fault : goal.returns-in-Err-Fault
returns-in-Err-Fault c =
    event_refused (log_items c.args.log) (as_torn c.in_ok-torn.torn) c.in_ok-torn.ensures.beginning None c.args.places.now c.in-Err-Fault.found c.place.result
    (subst (λ (f : LogFault). c.place.result ≡ place_by c.args.places.now f) c.in-Err-Fault.found-is c.place.ensures)
    (rw c.in-Err-Fault.field-0-is at c.in-Err-Fault.ensures.fault)
