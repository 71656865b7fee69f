use Rattle.std.proofs.Common.{rules}
use Rattle.channel_preds.proofs.Counting.{channel_fits}
use Rattle.channel_preds.proofs.channel.counts.Goals as goal

pub returns-clause-channel : goal.returns-clause-channel
returns-clause-channel c = search rules

pub returns-clause-shape : goal.returns-clause-shape
returns-clause-shape c = channel_fits c.args.states.now c.args.sender c.args.receiver c.requires.sender c.requires.receiver _ (returns-clause-channel c)
