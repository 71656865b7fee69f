use Rattle.std.proofs.Common.{ap, sym, ◌∙◌, refl, arith, List}
use Rattle.vclog_import.specs.declared.host_lines.HostLine.{HostLine}
use Rattle.vclog_import.specs.inside.Reading.{records}
use Rattle.vclog_import.proofs.ScanSteps.{is_host_33, is_record_50001, is_no_fault, scanned_new, scanned_known, records-push, no_clash_yet, some_clash}
use Rattle.vclog_import.proofs.scanning.Scan.add.Goals as goal
use Rattle.vclog_import.proofs.scanning.Scan.add.Goals.{else-is_new-via-then-is_new+else-is_none, else-is_new-via-else-is_new}

pub returns-then-len-gt-MOST_PROCESSES-clause-fault : goal.returns-then-len-gt-MOST_PROCESSES-clause-fault
returns-then-len-gt-MOST_PROCESSES-clause-fault c =
    is_host_33 c.args.self.now c.args.line c.put_host.new.hosts.items c.requires c.in_ok-is_new.ensures.hosts (sym c.is_bad.ensures ∙ c.if-is_bad.false)
    (omega (arith, c.len.ensures, c.if-len-gt-MOST_PROCESSES.true, c.put_host.new.hosts.ok.0))

pub returns-then-count-ge-MOST_EVENTS-clause-fault : goal.returns-then-count-ge-MOST_EVENTS-clause-fault
returns-then-count-ge-MOST_EVENTS-clause-fault c =
    is_record_50001 c.args.self.now c.args.line c.put_host.new.hosts.items c.requires c.in_ok-is_new.ensures.hosts (sym c.is_bad.ensures ∙ c.if-is_bad.false)
    (omega (arith, c.len.ensures, c.if-len-gt-MOST_PROCESSES.false, c.put_host.new.hosts.ok.0)) (omega (arith, c.len-count.ensures, c.if-count-ge-MOST_EVENTS.true, c.args.self.now.lines.ok.0))

pub returns-in_ok-self-clause-fault : goal.returns-in_ok-self-clause-fault
returns-in_ok-self-clause-fault c =
    is_no_fault c.args.self.now c.args.line c.put_host.new.hosts.items c.requires c.in_ok-is_new.ensures.hosts (sym c.is_bad.ensures ∙ c.if-is_bad.false)
    (omega (arith, c.len.ensures, c.if-len-gt-MOST_PROCESSES.false, c.put_host.new.hosts.ok.0)) (omega (arith, c.len-count.ensures, c.if-count-ge-MOST_EVENTS.false, c.args.self.now.lines.ok.0))

pub returns-in_ok-self-clause-fine : goal.returns-in_ok-self-clause-fine
returns-in_ok-self-clause-fine c none =
    scanned_new c.args.self.now c.args.line c.put_host.new.hosts.items c.requires c.in_ok-is_new.ensures.hosts _
    (ap (λ (ls : List HostLine). records ls) c.in_ok-push.ensures.items ∙ records-push c.args.self.now.lines.items c.args.line) refl
    (omega (arith, c.len.ensures, c.if-len-gt-MOST_PROCESSES.false, c.put_host.new.hosts.ok.0)) (omega (arith, c.len-count.ensures, c.if-count-ge-MOST_EVENTS.false, c.args.self.now.lines.ok.0))
    (no_clash_yet c.args.self.now.clash c.is_none.result c.is_none.ensures c.if-is_none.true) c.in_ok-self.ensures

pub returns-else-is_new-clause-fault : goal.returns-else-is_new-clause-fault
returns-else-is_new-clause-fault c =
    is_no_fault c.args.self.now c.args.line c.put_host.new.hosts.items c.requires c.in_ok-is_new.ensures.hosts (sym c.is_bad.ensures ∙ c.if-is_bad.false)
    (omega (arith, c.len.ensures, c.if-len-gt-MOST_PROCESSES.false, c.put_host.new.hosts.ok.0)) (omega (arith, c.len-count.ensures, c.if-count-ge-MOST_EVENTS.false, c.args.self.now.lines.ok.0))

pub returns-else-is_new-clause-fine : goal.returns-else-is_new-clause-fine
returns-else-is_new-clause-fine c none =
    scanned_known c.args.self.now c.args.line c.put_host.new.hosts.items c.requires c.in_ok-is_new.ensures.hosts _
    (ap (λ (ls : List HostLine). records ls) c.in_ok-push.ensures.items ∙ records-push c.args.self.now.lines.items c.args.line) refl
    (omega (arith, c.len.ensures, c.if-len-gt-MOST_PROCESSES.false, c.put_host.new.hosts.ok.0)) (omega (arith, c.len-count.ensures, c.if-count-ge-MOST_EVENTS.false, c.args.self.now.lines.ok.0))
    refl (λ no_clash. elim c.else-is_new.branch [
      | else-is_new-via-then-is_new+else-is_none w ↦ absurd (some_clash c.args.self.now.clash w.is_none.result w.is_none.ensures w.if-is_none.false no_clash)
      | else-is_new-via-else-is_new w ↦ c.in_ok-is_new.ensures.known w.if-is_new.false
    ])
