use Rattle.std.proofs.Common.{sym, ◌∙◌, ap, subst, List, ℕ, Some, [], ◌∷◌, ◌++◌}
use Rattle.fault_kinds.specs.declared.import.ImportFault.{ImportFault}
use Rattle.std.specs.List.{AllByRecursion}
use Rattle.std.specs.Borrow.{Bor}
use Rattle.std.proofs.lemmas.Result.{err_from_is_err_and}
use Rattle.vclog_import.specs.declared.host_lines.HostLine.{HostLine}
use Rattle.event_log.specs.declared.log.Event.{Event}
use Rattle.vclog_import.specs.Faults.{fault_of}
use Rattle.vclog_import.specs.Hosts.{hosts_of}
use Rattle.vclog_import.specs.inside.Hosts.{IsNamed}
use Rattle.vclog_import.specs.Imported.{header_of, events_from}
use Rattle.vclog_import.specs.inside.Reading.{records}
use Rattle.vclog_import.specs.inside.Scans.{hosts_in, first_bad_clock, fault_with, IsFine}
use Rattle.vclog_import.proofs.Fits.{hosts_are_named}
use Rattle.vclog_import.proofs.ImportSteps.{faulty, lines_fine, fault_left, hosts_left, log_is, carried}
use Rattle.vclog_import.proofs.importing.import.Goals as goal

pub returns-in_err-events-clause-fault : goal.returns-in_err-events-clause-fault
returns-in_err-events-clause-fault c =
    let p = err_from_is_err_and c.from_residual-in_err-events.result c.from_residual-in_err-events.ensures.1 in
    rw (p.1, p.2) (carried c.in_err-events.field-0.0 (fault_with c.in_ok-scan.scan.clash (records c.as_slice-lines.result.now)) (fault_of c.args.text.now)
    (fault_left c.args.text.now c.in_ok-scan.scan c.in_ok-scan.ensures c.in_default.is ∙ ap (λ (ls : List HostLine). fault_with c.in_ok-scan.scan.clash (records ls)) (sym c.as_slice-lines.ensures.value))
    c.in_err-events.ensures.fault)

pub returns-in-Some-clause-fault : goal.returns-in-Some-clause-fault
returns-in-Some-clause-fault c =
    faulty c.args.text.now c.in_ok-scan.scan c.in-Some.fault c.in_ok-bad.bad c.in_ok-scan.ensures c.in-Some.is (c.in_ok-bad.ensures ∙ ap (λ (ls : List HostLine). first_bad_clock (records ls)) c.as_slice-lines.ensures.value)
    ∙ ap (λ (f : ImportFault). Some f) (sym c.unwrap_or.ensures)

pub events_of-requires-clause-lines : goal.events_of-requires-clause-lines
events_of-requires-clause-lines c = subst (λ (ls : List HostLine). AllByRecursion IsFine (records ls)) (sym c.as_slice-lines.ensures.value) (lines_fine c.args.text.now c.in_ok-scan.scan c.in_ok-scan.ensures c.in_default.is)

pub header_of-requires : goal.header_of-requires
header_of-requires c =
    subst (λ (hs : List (Bor (List ℕ))). AllByRecursion IsNamed (hosts_in hs)) (sym c.as_slice-hosts.ensures.value)
    (subst (AllByRecursion IsNamed) (sym (hosts_left c.args.text.now c.in_ok-scan.scan c.in_ok-scan.ensures c.in_default.is)) (hosts_are_named (records c.in_ok-scan.scan.lines.items) (lines_fine c.args.text.now c.in_ok-scan.scan c.in_ok-scan.ensures c.in_default.is)))

pub returns-clause-ok : goal.returns-clause-ok
returns-clause-ok c =
    log_is c.args.text.now c.in_ok-scan.scan c.in_ok-scan.ensures c.in_default.is c.in_ok-header.header c.in_ok-events.events c.push.new.self
    (c.in_ok-header.ensures ∙ ap (λ (hs : List (Bor (List ℕ))). header_of (hosts_in hs)) c.as_slice-hosts.ensures.value)
    (c.in_ok-events.ensures.ok ∙ ap (λ (ls : List HostLine). events_from (hosts_of (records ls)) [] (records ls)) c.as_slice-lines.ensures.value)
    (c.in_ok-push.ensures.ok ∙ ap (λ (bs : List (List Event)). bs ++ c.in_ok-events.events ∷ []) c.in_ok-batches.ensures)

pub returns-clause-faultless : goal.returns-clause-faultless
returns-clause-faultless c =
    fault_left c.args.text.now c.in_ok-scan.scan c.in_ok-scan.ensures c.in_default.is
    ∙ ap (λ (ls : List HostLine). fault_with c.in_ok-scan.scan.clash (records ls)) (sym c.as_slice-lines.ensures.value) ∙ c.in_ok-events.ensures.faultless
