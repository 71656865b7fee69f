use Rattle.std.proofs.Common.{◌≡◌, List, length, map, sym, ap, subst}
use Rattle.vector_clock.specs.Events.{no_events}
use Rattle.event_log.specs.declared.item.Item.{Item}
use Rattle.torn_log.specs.Items.{ItemsStand, kept_from}
use Rattle.torn_log.specs.Torn.{AreUpto}
use Rattle.torn_log.proofs.Keeping.{cut_stands, are_upto}
use Rattle.torn_log.proofs.torn.upto_greatest.Goals as goal

pub parts_upto-requires : goal.parts_upto-requires
parts_upto-requires g c =
    let all = ap (map g.P.Part.item) c.as_slice-all.ensures in
    subst (λ (items : List Item). ItemsStand (length c.in_ok-cut.cut) items) all
    (cut_stands c.args.procs (map g.P.Part.item c.as_slice-all.result.now) c.in_ok-cut.cut (subst (ItemsStand c.args.procs) (sym all) c.requires) c.in_ok-cut.ensures)

pub returns : goal.returns
returns g c =
    let all = ap (map g.P.Part.item) c.as_slice-all.ensures in
    subst (λ (items : List Item). AreUpto c.args.procs items (map g.P.Part.item c.in_ok-parts.parts) c.in_ok-left_out.left_out) all
    (are_upto c.args.procs (map g.P.Part.item c.as_slice-all.result.now) c.in_ok-cut.cut c.in_ok-counts.counts c.in_ok-left_out.left_out (map g.P.Part.item c.in_ok-parts.parts)
    c.in_ok-cut.ensures c.in_ok-counts.ensures c.in_ok-left_out.ensures
    (subst (λ (items : List Item). map g.P.Part.item c.in_ok-parts.parts ≡ kept_from c.in_ok-cut.cut (no_events (length c.in_ok-cut.cut)) items) (sym all) c.in_ok-parts.ensures))
