use Rattle.log_sources.specs.Sources.{after, no_sources}
use Rattle.log_sources.proofs.Taking.{none_matters, may_follow}
use Rattle.log_sources.proofs.gathering.SourceReaderIntake.take.Goals as goal

pub returns-in-Some : goal.returns-in-Some
returns-in-Some c bytes open_ =
    none_matters c.feed.new.self bytes c.args.piece.now (c.in_ok-feed.ensures.read (after no_sources bytes) open_.0) _ (c.in_ok-feed.ensures.fault (after no_sources bytes) open_.0) c.in-Some.field-0 c.in-Some.is

pub returns-in-None : goal.returns-in-None
returns-in-None c bytes open_ =
    may_follow c.feed.new.self bytes c.args.piece.now (c.in_ok-feed.ensures.read (after no_sources bytes) open_.0) _ (c.in_ok-feed.ensures.fault (after no_sources bytes) open_.0) c.args.self.now open_ c.requires.some c.in-None.is
