use Rattle.std.proofs.Common.{◌∙◌, arith}
use Rattle.channel_preds.proofs.Reaching.{placed_more, placed_all}
use Rattle.channel_preds.proofs.positions.first_positions.Goals as goal

pub loop-lead-preserved : goal.loop-lead-preserved
loop-lead-preserved c =
    rw c.in_ok-push.ensures.items
    (placed_more c.args.leads.now c.args.more c.args.follows.now c.args.extra c.loop-lead.lead-index c.loop-lead.place _ c.requires.leads (omega arith)
    c.loop-lead.invariant _ c.first_from-place.ensures.first)

pub returns : goal.returns
returns c =
    c.from_vec.ensures ∙ c.in_ok-push-2.ensures.items
    ∙ placed_all c.args.leads.now c.args.more c.args.follows.now c.args.extra c.loop-lead.lead-index c.loop-lead.place _ c.requires.leads (omega arith) c.loop-lead.invariant
