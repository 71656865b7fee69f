use Rattle.std.proofs.Common.{◌≡◌, ◌-◌, ◌++◌, take, drop, map, length}
use Rattle.run_model.specs.Run.{assigned}
use Rattle.event_log.specs.States.{assignment_of}
use Rattle.event_log.proofs.Histories.{CopiedSoFar}
use Rattle.event_log.proofs.history.push_state.Given as goal

abbrev pub invariant-loop-i : goal.invariant-loop-i
invariant-loop-i l = CopiedSoFar l.fn.values.items l.width l.i l.values.items

abbrev pub invariant-loop-assign : goal.invariant-loop-assign
invariant-loop-assign l = l.values.items ≡ l.fn.values.items ++ assigned (drop (length l.fn.values.items - l.width) l.fn.values.items) (map assignment_of (take l.assign-index l.assigns))
