use Rattle.std.proofs.Common.{◌≡◌, ◌+◌, [], drop, get_or}
use Rattle.view_text.specs.Latest.{first_setting}
use Rattle.view_text.proofs.latest.next_setting.Given as goal

abbrev pub invariant-loop-before : goal.invariant-loop-before
invariant-loop-before l =
    let events = get_or l.states.events l.process [] in
    first_setting l.variable (l.events + 1) (drop l.events events) ≡ first_setting l.variable (l.before + 1) (drop l.before events)
