use Rattle.std.proofs.Common.{ℕ, ◌<◌, ◌^◌, length, map, replicate, ap, ◌∙◌, sym, subst, arith}
use Rattle.std.proofs.lemmas.List.{length-map}
use Rattle.torn_log.specs.Items.{ItemStands}
use Rattle.torn_log.proofs.Parts.{part_at, part_below, parts_past}
use Rattle.torn_log.proofs.Passing.{one_stands, has_room}
use Rattle.torn_log.proofs.Lowering.{goes_first, goes_more, goes_all, goes_long}
use Rattle.torn_log.proofs.cutting.look_at_all.Goals as goal

pub loop-part-init : goal.loop-part-init
loop-part-init g c = goes_first c.args.sends.now (map g.P.Part.item c.args.parts.now) c.args.cut.now c.in_ok-counts.counts (c.in_ok-counts.ensures ∙ ap (λ (n : ℕ). replicate n 0) c.len-procs.ensures)

pub look-looked-requires-clause-stands : goal.look-looked-requires-clause-stands
look-looked-requires-clause-stands g c =
    subst (λ (n : ℕ). ItemStands n (g.P.Part.item c.part-item.result)) (sym c.loop-part.invariant.long)
    (one_stands (length c.args.cut.now) (map g.P.Part.item c.args.parts.now) c.loop-part.part-index (g.P.Part.item c.part-item.result) c.requires (part_below g.P.Part.item c.args.parts.now c.loop-part.part-index c.loop-part-test.true)
    (part_at g.P.Part.item c.args.parts.now c.loop-part.part-index c.part-item.result c.loop-part-test.true c.part-item.is))

pub look-looked-requires-clause-counts : goal.look-looked-requires-clause-counts
look-looked-requires-clause-counts g c = goes_long c.loop-part.invariant

pub count-requires-clause-stands : goal.count-requires-clause-stands
count-requires-clause-stands g c =
    subst (λ (n : ℕ). ItemStands n (g.P.Part.item c.part-item.result)) (sym (omega (arith, goes_long c.loop-part.invariant, c.loop-part.invariant.long)))
    (one_stands (length c.args.cut.now) (map g.P.Part.item c.args.parts.now) c.loop-part.part-index (g.P.Part.item c.part-item.result) c.requires (part_below g.P.Part.item c.args.parts.now c.loop-part.part-index c.loop-part-test.true)
    (part_at g.P.Part.item c.args.parts.now c.loop-part.part-index c.part-item.result c.loop-part-test.true c.part-item.is))

pub count-requires-clause-room : goal.count-requires-clause-room
count-requires-clause-room g c =
    let small : length (map g.P.Part.item c.args.parts.now) < 2 ^ 64 = omega (arith, length-map c.args.parts.now g.P.Part.item) in
    has_room (length c.args.cut.now) (map g.P.Part.item c.args.parts.now) c.loop-part.part-index c.loop-part.counts c.requires (part_below g.P.Part.item c.args.parts.now c.loop-part.part-index c.loop-part-test.true) small c.loop-part.invariant.counts_are

pub loop-part-preserved : goal.loop-part-preserved
loop-part-preserved g c =
    goes_more c.args.sends.now (map g.P.Part.item c.args.parts.now) (length c.args.cut.now) c.loop-part.part-index c.args.cut.now c.loop-part.cut c.look-looked.new.cut c.loop-part.counts c.count.new.counts c.loop-part.lowered c.look-looked.result c.either-both.result (g.P.Part.item c.part-item.result)
    c.requires (part_below g.P.Part.item c.args.parts.now c.loop-part.part-index c.loop-part-test.true) (part_at g.P.Part.item c.args.parts.now c.loop-part.part-index c.part-item.result c.loop-part-test.true c.part-item.is)
    c.loop-part.invariant c.look-looked.ensures.looked c.count.ensures c.either-both.ensures c.look-looked.ensures.long

pub returns : goal.returns
returns g c = goes_all c.loop-part.invariant (parts_past g.P.Part.item c.args.parts.now c.loop-part.part-index c.loop-part-test.false)
