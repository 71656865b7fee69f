use Rattle.std.proofs.Common.{sym, ◌∙◌, ap}
use Rattle.log_sources.specs.declared.draft.Draft.{Draft}
use Rattle.log_sources.specs.Drafts.{with_item}
use Rattle.log_sources.proofs.DraftLaws.{none_drafted, item_drafted}
use Rattle.log_sources.proofs.draft.Draft.take_all.Goals as goal

pub loop-item-init : goal.loop-item-init
loop-item-init c = sym (none_drafted c.args.self.now)

pub loop-item-preserved : goal.loop-item-preserved
loop-item-preserved c = c.in_ok-take.ensures ∙ ap (λ (d : Draft). with_item d c.in-Some.item) c.loop-item.invariant ∙ sym (item_drafted c.args.self.now c.loop-item.yielded c.in-Some.item)
