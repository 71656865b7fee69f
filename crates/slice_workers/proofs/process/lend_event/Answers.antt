use Rattle.std.proofs.Common.{arith, ◌≡◌, ◌+◌, sum, take, get_or, ap, ◌∙◌}
use Rattle.pull_system.specs.System.{SystemView}
use Rattle.slice_workers.proofs.Reached.{event_lends}
use Rattle.slice_workers.proofs.process.lend_event.Goals as goal

pub lend-requires-clause-event : goal.lend-requires-clause-event
lend-requires-clause-event c =
    let system : SystemView = c.args.table.now.system in
    let lens : c.shape-shape.result.now ≡ system.lens = c.shape-shape.ensures.shape ∙ ap (λ s. s.lens) c.system.ensures in
    event_lends system.lens c.args.seat.now.floor c.args.row c.row_of-from_row.result c.args.process c.min-position.result c.args.count c.requires.process c.if-position-gt0.true
    (omega (arith, c.len_of.ensures.len, c.min-position.ensures, ap (λ xs. get_or xs c.args.process 0) lens)) (omega (arith, c.min-position.ensures)) c.requires.count
    (c.row_of-from_row.ensures.row ∙ ap (λ xs. sum (take c.args.process xs) + c.min-position.result) lens)
