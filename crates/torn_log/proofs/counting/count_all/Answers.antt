use Rattle.std.proofs.Common.{ℕ, ◌<◌, ◌^◌, length, map, take, sym, ap, subst, ◌∙◌, arith}
use Rattle.std.proofs.lemmas.List.{length-map}
use Rattle.vector_clock.specs.Events.{no_events}
use Rattle.torn_log.specs.Items.{with_items, ItemStands}
use Rattle.torn_log.proofs.Parts.{part_at, part_below, parts_past}
use Rattle.torn_log.proofs.Passing.{items_more, items_all, one_stands, has_room, counts_none, counts_long}
use Rattle.torn_log.proofs.counting.count_all.Goals as goal

pub loop-part-init : goal.loop-part-init
loop-part-init g c = c.in_ok-counts.ensures ∙ counts_none c.args.procs

pub count-requires-clause-stands : goal.count-requires-clause-stands
count-requires-clause-stands g c =
    let items = map g.P.Part.item c.args.parts.now in
    subst (λ (n : ℕ). ItemStands n (g.P.Part.item c.part-item.result)) (sym (counts_long c.args.procs (take c.loop-part.part-index items) c.loop-part.counts c.loop-part.invariant))
    (one_stands c.args.procs items c.loop-part.part-index (g.P.Part.item c.part-item.result) c.requires (part_below g.P.Part.item c.args.parts.now c.loop-part.part-index c.loop-part-test.true) (part_at g.P.Part.item c.args.parts.now c.loop-part.part-index c.part-item.result c.loop-part-test.true c.part-item.is))

pub count-requires-clause-room : goal.count-requires-clause-room
count-requires-clause-room g c =
    let items = map g.P.Part.item c.args.parts.now in
    let small : length items < 2 ^ 64 = omega (arith, length-map c.args.parts.now g.P.Part.item) in
    has_room c.args.procs items c.loop-part.part-index c.loop-part.counts c.requires (part_below g.P.Part.item c.args.parts.now c.loop-part.part-index c.loop-part-test.true) small c.loop-part.invariant

pub loop-part-preserved : goal.loop-part-preserved
loop-part-preserved g c =
    let items = map g.P.Part.item c.args.parts.now in
    c.count.ensures (with_items (no_events c.args.procs) (take c.loop-part.part-index items)) c.loop-part.invariant
    ∙ ap (map length) (sym (items_more (no_events c.args.procs) items c.loop-part.part-index (g.P.Part.item c.part-item.result) (part_below g.P.Part.item c.args.parts.now c.loop-part.part-index c.loop-part-test.true)
    (part_at g.P.Part.item c.args.parts.now c.loop-part.part-index c.part-item.result c.loop-part-test.true c.part-item.is)))

pub returns : goal.returns
returns g c =
    let items = map g.P.Part.item c.args.parts.now in
    c.loop-part.invariant ∙ ap (map length) (items_all (no_events c.args.procs) items c.loop-part.part-index (parts_past g.P.Part.item c.args.parts.now c.loop-part.part-index c.loop-part-test.false))
