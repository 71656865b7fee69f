use Rattle.std.proofs.Common.{◌≡◌, false, true, arith, sym, ◌∙◌}
use Rattle.log_lines.specs.Reading.{begins_vars}
use Rattle.event_log.proofs.LineSteps.{heading_takes, procs_takes, vars_takes, first_takes}
use Rattle.event_log.proofs.line_reader.LineReader.take_header.Goals as goal

pub returns-then-self-eq0-clause-takes : goal.returns-then-self-eq0-clause-takes
returns-then-self-eq0-clause-takes c = heading_takes c.args.self.now c.take_heading.new.self c.args.line.now c.args.items.now c.fault_of.result c.take_heading.result c.requires.stage c.if-self-eq0.true c.fault_of.ensures c.take_heading.ensures.told c.take_heading.ensures.next

pub returns-then-self-eq1-clause-takes : goal.returns-then-self-eq1-clause-takes
returns-then-self-eq1-clause-takes c = procs_takes c.args.self.now c.take_procs.new.self c.args.line.now c.args.items.now c.fault_of-then-self-eq1.result c.take_procs.result c.requires.stage c.if-self-eq1.true c.fault_of-then-self-eq1.ensures c.take_procs.ensures.told c.take_procs.ensures.next

pub returns-then-begins_vars-clause-takes : goal.returns-then-begins_vars-clause-takes
returns-then-begins_vars-clause-takes c =
    let begins : begins_vars c.args.line.now ≡ true = sym c.begins_vars.ensures ∙ c.if-begins_vars.true in
    vars_takes c.args.self.now c.take_vars.new.self c.args.line.now c.args.items.now c.fault_of-then-begins_vars.result c.take_vars.result c.requires.stage (omega arith) begins c.fault_of-then-begins_vars.ensures c.take_vars.ensures.told c.take_vars.ensures.next

pub returns-clause-takes : goal.returns-clause-takes
returns-clause-takes c =
    let begins : begins_vars c.args.line.now ≡ false = sym c.begins_vars.ensures ∙ c.if-begins_vars.false in
    first_takes c.args.self.now c.take_body.new.self c.args.line.now c.args.items.now c.push.new.self c.take_body.new.items c.fault_of-2.result c.in_ok-header.header c.take_body.result c.requires.stage (omega arith) begins c.in_ok-header.ensures c.in_ok-push.ensures.ok c.fault_of-2.ensures c.take_body.ensures.takes
