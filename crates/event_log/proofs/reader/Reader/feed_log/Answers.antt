use Rattle.std.proofs.Common.{refl, sym, ◌∙◌}
use Rattle.event_log.proofs.FeedSteps.{stays_read}
use Rattle.event_log.proofs.reader.Reader.feed_log.Goals as goal

pub returns-then-is_some-clause-read : goal.returns-then-is_some-clause-read
returns-then-is_some-clause-read c = stays_read c.args.self.now _ c.new-items.result c.args.piece.now c.args.piece.now (sym c.is_some.ensures ∙ c.if-is_some.true) c.new-items.ensures refl refl
