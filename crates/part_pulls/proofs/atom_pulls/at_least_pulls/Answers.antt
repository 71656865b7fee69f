use Rattle.std.proofs.Common.{◌<◌, length, ◌∙◌, refl, sym, ap, subst}
use Rattle.event_log.specs.States.{StatesView}
use Rattle.channel_preds.specs.Channels.{channel_of, FitsShape}
use Rattle.channel_preds.specs.Truth.{lens_of}
use Rattle.part_pulls.proofs.Atoms.{there, at_least_is}
use Rattle.part_pulls.proofs.atom_pulls.at_least_pulls.Goals as goal

pub counts-requires-clause-sender : goal.counts-requires-clause-sender
counts-requires-clause-sender c =
    subst (λ (s : StatesView). c.args.sender < length s.events) (sym c.states.ensures.states) (there c.args.seen.now c.states.ensures.trace c.args.sender c.requires.fits.0)

pub counts-requires-clause-receiver : goal.counts-requires-clause-receiver
counts-requires-clause-receiver c =
    subst (λ (s : StatesView). c.args.receiver < length s.events) (sym c.states.ensures.states) (there c.args.seen.now c.states.ensures.trace c.args.receiver c.requires.fits.1)

pub at_least-requires : goal.at_least-requires
at_least-requires c = c.requires.fits.2

pub returns : goal.returns
returns c =
    let seen = c.args.seen.now in
    let told = c.in_ok-pulls.ensures in
    let channel_is = c.in_ok-channel.ensures.channel ∙ ap (λ (s : StatesView). channel_of s c.args.sender c.args.receiver) c.states.ensures.states in
    let shape = subst (λ (s : StatesView). FitsShape (lens_of s) c.in_ok-channel.channel) c.states.ensures.states c.in_ok-channel.ensures.shape in
    at_least_is seen c.states.ensures.trace c.args.sender c.args.receiver c.args.k c.requires.fits c.in_ok-channel.channel channel_is shape c.in_ok-pulls.pulls told.pulls
    (told.fit (lens_of seen.trace.states) shape) told.closed _ refl
