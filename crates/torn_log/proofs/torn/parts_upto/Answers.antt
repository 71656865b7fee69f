use Rattle.std.specs.Vec.Iter.{into_iter_items}
use Rattle.std.proofs.Common.{◌≡◌, ◌<◌, ◌^◌, ℕ, [], length, map, replicate, ap, rules, sym, ◌∙◌, arith}
use Rattle.std.proofs.lemmas.List.{length-map, nil_from_length}
use Rattle.torn_log.proofs.Parts.{kept_one}
use Rattle.torn_log.proofs.Keeping.{keeps_none, keeps_stand, keeps_long, keeps_room, keeps_next, keeps_all}
use Rattle.torn_log.proofs.torn.parts_upto.Goals as goal

pub loop-part-init : goal.loop-part-init
loop-part-init g c =
    keeps_none c.args.cut.now (map g.P.Part.item c.args.parts) (map g.P.Part.item c.new-kept.result) c.in_ok-counts.counts _ (ap (map g.P.Part.item) c.new-kept.ensures) (c.in_ok-counts.ensures ∙ ap (λ (n : ℕ). replicate n 0) c.len-procs.ensures) (ap (map g.P.Part.item) (search rules)) c.requires

pub stays-stay-requires-clause-stands : goal.stays-stay-requires-clause-stands
stays-stay-requires-clause-stands g c =
    keeps_stand c.args.cut.now (map g.P.Part.item c.args.parts) (map g.P.Part.item c.loop-part.kept) c.loop-part.counts (map g.P.Part.item (into_iter_items c.loop-part.rest)) (map g.P.Part.item (into_iter_items c.next.new.self)) (g.P.Part.item c.in-Some.part) (ap (map g.P.Part.item) c.in-Some.ensures.items) c.loop-part.invariant

pub stays-stay-requires-clause-counts : goal.stays-stay-requires-clause-counts
stays-stay-requires-clause-counts g c =
    keeps_long c.args.cut.now (map g.P.Part.item c.args.parts) (map g.P.Part.item c.loop-part.kept) c.loop-part.counts (map g.P.Part.item (into_iter_items c.loop-part.rest)) c.loop-part.invariant

pub count-requires-clause-stands : goal.count-requires-clause-stands
count-requires-clause-stands g c =
    keeps_stand c.args.cut.now (map g.P.Part.item c.args.parts) (map g.P.Part.item c.loop-part.kept) c.loop-part.counts (map g.P.Part.item (into_iter_items c.loop-part.rest)) (map g.P.Part.item (into_iter_items c.next.new.self)) (g.P.Part.item c.in-Some.part) (ap (map g.P.Part.item) c.in-Some.ensures.items) c.loop-part.invariant

pub count-requires-clause-room : goal.count-requires-clause-room
count-requires-clause-room g c =
    let small : length (map g.P.Part.item c.args.parts) < 2 ^ 64 = omega (arith, length-map c.args.parts g.P.Part.item) in
    keeps_room c.args.cut.now (map g.P.Part.item c.args.parts) (map g.P.Part.item c.loop-part.kept) c.loop-part.counts (map g.P.Part.item (into_iter_items c.loop-part.rest)) (map g.P.Part.item (into_iter_items c.next.new.self)) (g.P.Part.item c.in-Some.part) (ap (map g.P.Part.item) c.in-Some.ensures.items) small c.loop-part.invariant

pub loop-part-preserved : goal.loop-part-preserved
loop-part-preserved g c =
    keeps_next c.args.cut.now (map g.P.Part.item c.args.parts) (map g.P.Part.item c.loop-part.kept) (map g.P.Part.item c.keep.new.kept) c.loop-part.counts c.count.new.counts (map g.P.Part.item (into_iter_items c.loop-part.rest)) (map g.P.Part.item (into_iter_items c.next.new.self)) (g.P.Part.item c.in-Some.part) c.stays-stay.result (ap (map g.P.Part.item) c.in-Some.ensures.items) c.loop-part.invariant
    c.stays-stay.ensures c.count.ensures (kept_one g.P.Part.item c.loop-part.kept c.keep.new.kept c.stays-stay.result c.in-Some.part c.in_ok-keep.ensures)

pub returns : goal.returns
returns g c =
    let none : into_iter_items c.loop-part.rest ≡ [] =
    nil_from_length (into_iter_items c.loop-part.rest) (sym c.loop-part.rest.rest.ok.0 ∙ c.in_default.ensures.cases.0) in
    keeps_all c.args.cut.now (map g.P.Part.item c.args.parts) (map g.P.Part.item c.loop-part.kept) c.loop-part.counts (map g.P.Part.item (into_iter_items c.loop-part.rest)) (ap (map g.P.Part.item) none) c.loop-part.invariant
