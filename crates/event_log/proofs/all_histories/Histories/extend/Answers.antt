use Rattle.std.proofs.Common.{◌∙◌, length, ap, sym, subst, arith, List}
use Rattle.event_log.specs.declared.log.Event.{Event}
use Rattle.event_log.specs.inside.Places.{ArePlaced, histories_of}
use Rattle.event_log.specs.inside.States.{Added}
use Rattle.event_log.proofs.Histories.{when_ok, when_err}
use Rattle.event_log.proofs.Placing.{length-histories_of, shape_is, room_placed, longer_fits, all_have_rows, extended}
use Rattle.event_log.proofs.all_histories.Histories.extend.Goals as goal

pub add_batch-requires-clause-procs : goal.add_batch-requires-clause-procs
add_batch-requires-clause-procs c = omega (arith, c.requires.procs, length-histories_of c.self.inside.all.items c.self.inside.each.items, ap length c.self.view_is)

pub add_batch-requires-clause-room : goal.add_batch-requires-clause-room
add_batch-requires-clause-room c = room_placed c.self.inside.all.items c.self.inside.each.items c.args.self.now c.args.batch.items c.self.invariant c.self.view_is c.requires.room

pub cut_back-requires-clause-fits : goal.cut_back-requires-clause-fits
cut_back-requires-clause-fits c =
    let lens = shape_is c.self.inside.all.items c.self.inside.each.items c.args.self.now c.args.shape.now c.self.view_is c.requires.shape in
    longer_fits c.args.shape.now c.self.inside.each.items c.add_batch.new.each.items c.add_batch.ensures.longer lens

pub invariant_of-self : goal.invariant_of-self
invariant_of-self c =
    let before = c.self.inside.each.items in
    let lens = shape_is c.self.inside.all.items before c.args.self.now c.args.shape.now c.self.view_is c.requires.shape in
    let all = when_err c.add_batch.result _ c.add_batch.ensures.err (sym c.is_err.ensures.value ∙ c.if-is_err.true) in
    let each = c.cut_back.ensures before c.add_batch.ensures.longer (all_have_rows c.self.inside.all.items before c.self.invariant) lens in
    subst (λ (es : List Event). ArePlaced es c.cut_back.new.each.items) (sym all) (subst (ArePlaced c.self.inside.all.items) (sym each) c.self.invariant)

pub returns-then-is_err-clause-err : goal.returns-then-is_err-clause-err
returns-then-is_err-clause-err c =
    let before = c.self.inside.each.items in
    let lens = shape_is c.self.inside.all.items before c.args.self.now c.args.shape.now c.self.view_is c.requires.shape in
    let all = when_err c.add_batch.result _ c.add_batch.ensures.err (sym c.is_err.ensures.value ∙ c.if-is_err.true) in
    let each = c.cut_back.ensures before c.add_batch.ensures.longer (all_have_rows c.self.inside.all.items before c.self.invariant) lens in
    ap (λ (es : List Event). histories_of es c.cut_back.new.each.items) all ∙ ap (histories_of c.self.inside.all.items) each ∙ c.self.view_is

pub invariant_of-self-else-is_err : goal.invariant_of-self-else-is_err
invariant_of-self-else-is_err c =
    let all = when_ok c.add_batch.result _ c.add_batch.ensures.all (sym c.is_err.ensures.value ∙ c.if-is_err.false) in
    let each = when_ok c.add_batch.result _ c.add_batch.ensures.each (sym c.is_err.ensures.value ∙ c.if-is_err.false) in
    let is = extended c.self.inside.all.items c.args.batch.items c.self.inside.each.items c.add_batch.new.each.items c.args.self.now c.self.invariant c.self.view_is c.requires.room each in
    subst (λ (es : List Event). ArePlaced es c.add_batch.new.each.items) (sym all) is.placed

pub returns-clause-ok : goal.returns-clause-ok
returns-clause-ok c =
    let all = when_ok c.add_batch.result _ c.add_batch.ensures.all (sym c.is_err.ensures.value ∙ c.if-is_err.false) in
    let each = when_ok c.add_batch.result _ c.add_batch.ensures.each (sym c.is_err.ensures.value ∙ c.if-is_err.false) in
    let is = extended c.self.inside.all.items c.args.batch.items c.self.inside.each.items c.add_batch.new.each.items c.args.self.now c.self.invariant c.self.view_is c.requires.room each in
    subst (λ (es : List Event). Added c.args.self.now c.args.batch.items (histories_of es c.add_batch.new.each.items)) (sym all) is.added
