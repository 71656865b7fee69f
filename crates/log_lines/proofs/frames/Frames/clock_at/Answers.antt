use Rattle.std.proofs.Common.{arith}
use Rattle.log_lines.specs.Spelling.{event_clock_text}
use Rattle.log_lines.proofs.ItemLaws.{event_clock_takes, counts_are}
use Rattle.log_lines.proofs.FrameLaws.{stands_before}
use Rattle.log_lines.proofs.frames.Frames.clock_at.Goals as goal

pub slice_bounds-text-count : goal.slice_bounds-text-count
slice_bounds-text-count c =
    let clock = c.in_ok-clock.clock.items in
    let taken = event_clock_takes c.args.bytes.now clock c.in_ok-clock.rest.now c.in_ok-clock.ensures in
    (stands_before c.args.bytes.now (event_clock_text clock) c.in_ok-clock.rest.now taken.text).within

pub keep-requires-clause-small : goal.keep-requires-clause-small
keep-requires-clause-small c =
    let clock = c.in_ok-clock.clock.items in
    rw c.deref.ensures.value (event_clock_takes c.args.bytes.now clock c.in_ok-clock.rest.now c.in_ok-clock.ensures).fits

pub keep-requires-clause-spelled : goal.keep-requires-clause-spelled
keep-requires-clause-spelled c =
    let clock = c.in_ok-clock.clock.items in
    let taken = event_clock_takes c.args.bytes.now clock c.in_ok-clock.rest.now c.in_ok-clock.ensures in
    rw c.deref.ensures.value (stands_before c.args.bytes.now (event_clock_text clock) c.in_ok-clock.rest.now taken.text).front

pub returns-in-Some : goal.returns-in-Some
returns-in-Some c = counts_are c.args.bytes.now (c.in-Some.found.0.items, c.in-Some.found.1.now) (grind arith)
