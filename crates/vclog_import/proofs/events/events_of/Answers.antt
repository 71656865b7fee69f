use Rattle.std.proofs.Common.{ap, ◌∙◌, List, ℕ}
use Rattle.std.specs.Borrow.{Bor}
use Rattle.log_lines.specs.Names.{are_distinct}
use Rattle.fault_kinds.specs.declared.import.ImportFault.{ImportFault}
use Rattle.vclog_import.specs.Faults.{earlier}
use Rattle.vclog_import.specs.inside.Reading.{records}
use Rattle.vclog_import.specs.inside.Scans.{hosts_in}
use Rattle.vclog_import.proofs.HostLaws.{hosts_are_distinct}
use Rattle.vclog_import.proofs.MadeSteps.{making_all, bad_line_here, unknown_line_here, line_more, line_host, lines_past}
use Rattle.std.specs.Prelude.{Option, None}
use Rattle.vclog_import.proofs.events.events_of.Goals as goal

pub returns-in_default-clause-fault : goal.returns-in_default-clause-fault
returns-in_default-clause-fault c = bad_line_here _ c.args.lines.now (hosts_in c.args.hosts.now) c.loop-i.made c.loop-i.i _ c.in_ok-clock.field-0 c.loop-i.invariant c.loop-i-test.true c.requires.lines c.requires.hosts c.in_ok-clock.ensures c.args.clash c.in_default.is

pub counts_of-requires : goal.counts_of-requires
counts_of-requires c = ap are_distinct c.requires.hosts ∙ hosts_are_distinct (records c.args.lines.now)

pub returns-then-not-told-clause-fault : goal.returns-then-not-told-clause-fault
returns-then-not-told-clause-fault c = unknown_line_here _ c.args.lines.now (hosts_in c.args.hosts.now) c.loop-i.made c.loop-i.i _ c.in_ok-clock.field-0 c.loop-i.invariant c.loop-i-test.true c.requires.lines c.requires.hosts c.in_ok-clock.ensures c.args.clash c.in_ok-fault.fault c.in-Some.clock c.in_ok-told.told.all_known c.in-Some.is c.in_ok-told.ensures.known c.if-not-told.true c.in_ok-fault.ensures

pub add-requires-clause-distinct : goal.add-requires-clause-distinct
add-requires-clause-distinct c = ap are_distinct (c.loop-i.invariant.hosts_are ∙ c.requires.hosts) ∙ hosts_are_distinct (records c.args.lines.now)

pub add-requires-clause-host : goal.add-requires-clause-host
add-requires-clause-host c = line_host _ c.args.lines.now (hosts_in c.args.hosts.now) c.loop-i.made c.loop-i.i _ c.in_ok-clock.field-0 c.loop-i.invariant c.loop-i-test.true c.requires.lines c.requires.hosts c.in_ok-clock.ensures

pub loop-i-preserved : goal.loop-i-preserved
loop-i-preserved c = line_more _ c.args.lines.now (hosts_in c.args.hosts.now) c.loop-i.made c.loop-i.i _ c.in_ok-clock.field-0 c.loop-i.invariant c.loop-i-test.true c.requires.lines c.requires.hosts c.in_ok-clock.ensures c.add.new.self c.in-Some.clock c.in_ok-told.told.all_known c.in-Some.is c.in_ok-told.ensures.known c.if-not-told.false c.in_ok-add.ensures.made (ap (λ (hs : Bor (List (Bor (List ℕ)))). hosts_in hs.now) c.add.ensures.hosts)

pub returns-in-None-clause-faultless : goal.returns-in-None-clause-faultless
returns-in-None-clause-faultless c = making_all (records c.args.lines.now) (hosts_in c.args.hosts.now) c.loop-i.made c.loop-i.i c.args.clash c.loop-i.invariant (lines_past c.args.lines.now c.loop-i.i c.loop-i-test.false) c.requires.hosts ∙ ap (λ (o : Option ImportFault). earlier o None) c.in-None.is

pub returns-in-Some-clash-clause-fault : goal.returns-in-Some-clash-clause-fault
returns-in-Some-clash-clause-fault c = making_all (records c.args.lines.now) (hosts_in c.args.hosts.now) c.loop-i.made c.loop-i.i c.args.clash c.loop-i.invariant (lines_past c.args.lines.now c.loop-i.i c.loop-i-test.false) c.requires.hosts ∙ ap (λ (o : Option ImportFault). earlier o None) c.in-Some-clash.is
