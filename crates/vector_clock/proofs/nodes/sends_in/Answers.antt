use Rattle.std.proofs.Common.{◌∙◌, ◌+◌, ap, sym, subst, take, arith}
use Rattle.std.specs.Prelude.{Some}
use Rattle.event_log.specs.declared.log.Kind.{Kind}
use Rattle.vector_clock.specs.declared.message.Message.{Message}
use Rattle.vector_clock.specs.declared.places.Met.{Met}
use Rattle.vector_clock.specs.declared.places.Places.{Places}
use Rattle.vector_clock.specs.Messages.{message_sent}
use Rattle.vector_clock.specs.inside.Nodes.{AreSends}
use Rattle.vector_clock.proofs.Looks.{no_sends, sends_kept, sends_noted, all_sends}
use Rattle.vector_clock.proofs.CountLaws.{no_send}
use Rattle.vector_clock.proofs.nodes.sends_in.Goals as goal
use Rattle.vector_clock.proofs.nodes.sends_in.Goals.{in-Send+in_ok-note, in_default}

pub loop-i-init : goal.loop-i-init
loop-i-init c = no_sends c.new-places.result c.args.batch.now (λ m. ap (λ (x : Met). x.sent) (c.new-places.ensures m))

pub loop-i-preserved : goal.loop-i-preserved
loop-i-preserved c = elim c.match-event.branch [
  | in-Send+in_ok-note w ↦
      subst (λ (p : Places). AreSends p (take (c.loop-i.i + 1) c.args.batch.now)) (sym w.places-is)
      (sends_noted c.loop-i.places w.note.new.self c.args.batch.now c.loop-i.i c.index-batch-i.result w.new.result w.sent_at.result c.loop-i-test.true c.index-batch-i.is
      (ap (λ (k : Kind). message_sent c.index-batch-i.result.process k) w.in-Send.is ∙ ap (λ (m : Message). Some m) (sym w.new.ensures)) (ap (λ (x : Met). x.sent) w.sent_at.ensures) w.in_ok-note.ensures.ok c.loop-i.invariant)
  | in_default w ↦
      subst (λ (p : Places). AreSends p (take (c.loop-i.i + 1) c.args.batch.now)) (sym w.places-is)
      (sends_kept c.loop-i.places c.args.batch.now c.loop-i.i c.index-batch-i.result c.loop-i-test.true c.index-batch-i.is (no_send c.index-batch-i.result.process c.index-batch-i.result.kind w.in_default.not-Send) c.loop-i.invariant)
]

pub returns : goal.returns
returns c = all_sends c.loop-i.places c.args.batch.now c.loop-i.i (omega (arith, c.loop-i-test.false)) c.loop-i.invariant
