use Rattle.std.proofs.Common.{◌<◌, length, sym, ap, ◌∙◌, arith}
use Rattle.event_log.specs.declared.log.Header.{Header}
use Rattle.view_text.specs.Ties.{untied_in}
use Rattle.view_text.proofs.Looking.{none_at_first, none_so_far, first_found}
use Rattle.view_text.proofs.ties.untied.Goals as goal

pub loop-process-init : goal.loop-process-init
loop-process-init c = none_at_first (untied_in c.args.states.now c.args.tokens.now c.args.cut.now c.args.ended)

pub returns-in-Some : goal.returns-in-Some
returns-in-Some c =
    let made = untied_in c.args.states.now c.args.tokens.now c.args.cut.now c.args.ended in
    let k = c.loop-process.process in
    let less : k < length c.args.states.now.header.procs = omega (arith, c.loop-process-test.true, c.len-process-end.ensures, ap (λ (h : Header). length h.procs) c.header.ensures.header) in
    sym (first_found (length c.args.states.now.header.procs) k made c.in-Some.event c.loop-process.invariant (sym c.untied_in.ensures ∙ c.in-Some.is) less)

pub loop-process-preserved : goal.loop-process-preserved
loop-process-preserved c =
    none_so_far c.loop-process.process (untied_in c.args.states.now c.args.tokens.now c.args.cut.now c.args.ended) c.loop-process.invariant (sym c.untied_in.ensures ∙ c.in_default.is)
