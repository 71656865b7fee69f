use Rattle.std.proofs.Common.{length, map, get_or}
use Rattle.pota_base.specs.declared.shape.EventId.{EventId}
use Rattle.pota_base.specs.Shape.{HasEvent}
use Rattle.view_picture.proofs.Places.{all_at, row_there}
use Rattle.view_picture.proofs.left_out.put_all_before.Goals as goal

pub put_left_out_before-requires-clause-there : goal.put_left_out_before-requires-clause-there
put_left_out_before-requires-clause-there c =
    let none : EventId = record { process = 0; position = 0 } in
    let there = all_at (HasEvent (map length c.args.states.now.events)) c.args.shown.now c.loop-k.k none c.requires.there c.loop-k-test.true in
    row_there c.args.states.now.events c.args.columns.now (get_or c.args.shown.now c.loop-k.k none) c.requires.fit there
