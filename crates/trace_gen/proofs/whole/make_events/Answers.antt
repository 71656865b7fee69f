use Rattle.std.proofs.Common.{◌∙◌, subst, sym, arith, ◌+◌, List}
use Rattle.event_log.specs.declared.log.Event.{Event}
use Rattle.trace_gen.proofs.Loops.{MadeSoFar, so_far_none, so_far_can, so_far_next, so_far_all}
use Rattle.trace_gen.proofs.whole.make_events.Goals as goal

pub loop-number-init : goal.loop-number-init
loop-number-init c = so_far_none c.args.seed c.args.procs c.args.count c.new-words.result c.new-events.result c.as_mut_slice-processes.result.now
    c.new-events.ensures c.new-words.ensures (c.as_mut_slice-processes.ensures.value ∙ c.in_ok-owned.ensures)

pub make-requires : goal.make-requires
make-requires c = so_far_can c.args.seed c.args.procs c.args.count c.loop-number.events c.loop-number.number c.loop-number.words c.loop-number.processes
    c.loop-number.invariant c.requires.some c.requires.few (omega arith)

pub loop-number-preserved : goal.loop-number-preserved
loop-number-preserved c = subst (λ (es : List Event). MadeSoFar c.args.seed c.args.procs c.args.count es (c.loop-number.number + 1) c.draw-word.new.self c.make.new.processes) (sym c.in_ok-push.ensures.ok)
    (so_far_next c.args.seed c.args.procs c.args.count c.loop-number.events c.loop-number.number c.loop-number.words c.draw-word.result c.draw-word.new.self c.loop-number.processes
    c.make.new.processes c.in_ok-make.field-0 c.loop-number.invariant c.requires.some (omega arith) c.draw-word.ensures.word c.draw-word.ensures.state c.in_ok-make.ensures)

pub returns : goal.returns
returns c = so_far_all c.args.seed c.args.procs c.args.count c.loop-number.events c.loop-number.number c.loop-number.words c.loop-number.processes c.loop-number.invariant (omega arith)
