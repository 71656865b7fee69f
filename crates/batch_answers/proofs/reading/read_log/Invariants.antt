use Rattle.std.proofs.Common.{◌≡◌, ◌-◌}
use Rattle.pota_base.specs.Limits.{longest_kept}
use Rattle.batch_answers.proofs.ReadingSteps.{GoingSoFar}
use Rattle.batch_answers.proofs.reading.read_log.Given as goal

abbrev pub invariant-turns : goal.invariant-turns
invariant-turns g l =
    record {
      going : GoingSoFar (λ h. (goal.Watch-dyn g (h.watch.vtable, h.watch.value)).answers h.watch.value)
          (g.S.Source.left l.fn.log) (g.S.Source.left l.log) (g.O.Sink.held l.fn.out) (g.O.Sink.held l.out)
          (g.S.Source.faults l.fn.log) (g.S.Source.faults l.log) (g.O.Sink.faults l.fn.out) (g.O.Sink.faults l.out)
          l.fn.checking.each_batch l.checking.each_batch l.fn.checking.check l.reader l.checking.check l.room;
      calm : g.S.Source.faults l.log ≡ g.S.Source.faults l.fn.log;
    }

abbrev pub decreases-turns : goal.decreases-turns
decreases-turns g l = longest_kept - l.reader.feeder.total
