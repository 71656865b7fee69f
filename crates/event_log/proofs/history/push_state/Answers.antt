use Rattle.std.proofs.Common.{◌≡◌, ◌-◌, length, drop, [], ◌∷◌, ◌++◌, arith}
use Rattle.std.specs.Prelude.{pos}
use Rattle.std.proofs.lemmas.Int.{to_z-of_z}
use Rattle.std.proofs.lemmas.List.{length-drop}
use Rattle.event_log.proofs.Histories.{copied_more, copied_all, assigned_behind, behind_len}
use Rattle.run_model.specs.Run.{assigned}
use Rattle.event_log.proofs.history.push_state.Goals as goal

pub loop-i-preserved : goal.loop-i-preserved
loop-i-preserved c =
    let more = copied_more c.args.values.now.items c.loop-i.values.items c.args.width c.loop-i.i c.index-value.result.now c.loop-i.invariant (omega (arith, c.len-next.ensures)) c.index-value.ensures in
    let pushed = c.in_ok-push.ensures.items in
    let same : c.push.new.self.items ≡ c.loop-i.values.items ++ c.index-value.result.now ∷ [] = grind (arith, to_z-of_z) in
    rw same more

pub loop-assign-init : goal.loop-assign-init
unfolding assigned
loop-assign-init c = copied_all _ _ _ _ c.loop-i.invariant (omega (arith, c.len-next.ensures))

pub index_mut-requires : goal.index_mut-requires
index_mut-requires c =
    let row = drop (length c.args.values.now.items - c.args.width) c.args.values.now.items in
    let wide : length row ≡ c.args.width = omega (arith, length-drop (length c.args.values.now.items - c.args.width) c.args.values.now.items, c.requires.last) in
    let there = behind_len c.args.values.now.items row c.loop-assign.values.items c.args.assigns.now c.loop-assign.assign-index c.args.width (record { variable = 0; value = pos 0 }) c.loop-assign.invariant wide c.requires.within c.loop-assign-test.true in
    grind (arith, c.len-next.ensures)

pub loop-assign-preserved : goal.loop-assign-preserved
loop-assign-preserved c =
    let row = drop (length c.args.values.now.items - c.args.width) c.args.values.now.items in
    let more = assigned_behind c.args.values.now.items row c.loop-assign.values.items c.args.assigns.now c.loop-assign.assign-index (record { variable = 0; value = pos 0 }) c.loop-assign.invariant c.loop-assign-test.true in
    grind (arith, to_z-of_z, more, c.len-next.ensures)
