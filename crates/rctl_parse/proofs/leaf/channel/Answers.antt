use Rattle.rctl_parse.proofs.LeafSteps.{passes_on}
use Rattle.rctl_parse.proofs.LeafReads.{inside, channel_read, channel_without_comma, channel_without_receiver, channel_without_closing}
use Rattle.rctl_parse.proofs.leaf.channel.Goals as goal

pub returns-in_err-rest-2 : goal.returns-in_err-rest-2
returns-in_err-rest-2 c = passes_on _ _ _ c.in_err-rest-2.field-0.0 _ _ c.from_residual-in_err-rest-2.ensures.1 (λ y same. same) c.in_err-rest-2.ensures
    (λ f miss. channel_without_comma _ _ _ _ f (inside _ _ _ _ _ _ c.in_ok-rest.ensures c.in_ok-sender.ensures) miss)

pub returns-in_err-receiver : goal.returns-in_err-receiver
returns-in_err-receiver c = passes_on _ _ _ c.in_err-receiver.field-0.0 _ _ c.from_residual-in_err-receiver.ensures.1 (λ y same. same) c.in_err-receiver.ensures
    (λ f miss. channel_without_receiver _ _ _ _ _ _ f (inside _ _ _ _ _ _ c.in_ok-rest.ensures c.in_ok-sender.ensures) c.in_ok-rest-2.ensures miss)

pub returns-in_err-rest-3 : goal.returns-in_err-rest-3
returns-in_err-rest-3 c = passes_on _ _ _ c.in_err-rest-3.field-0.0 _ _ c.from_residual-in_err-rest-3.ensures.1 (λ y same. same) c.in_err-rest-3.ensures
    (λ f miss. channel_without_closing _ _ _ _ _ _ _ _ f (inside _ _ _ _ _ _ c.in_ok-rest.ensures c.in_ok-sender.ensures) c.in_ok-rest-2.ensures c.in_ok-receiver.ensures miss)

pub returns : goal.returns
returns c = channel_read _ _ _ _ _ _ _ _ _ _ (inside _ _ _ _ _ _ c.in_ok-rest.ensures c.in_ok-sender.ensures) c.in_ok-rest-2.ensures c.in_ok-receiver.ensures c.in_ok-rest-3.ensures
