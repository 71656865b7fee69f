use Rattle.std.proofs.Common.{◌≡◌, None, refl, sym, ◌∙◌}
use Rattle.event_log.proofs.ReadLaws.{some_value}
use Rattle.event_log.proofs.FeedSteps.{faults_all, reads_all, none_value}
use Rattle.event_log.proofs.reader.Reader.feed.Goals as goal

pub returns-then-is_some-clause-read : goal.returns-then-is_some-clause-read
returns-then-is_some-clause-read c = λ past has.
    let fault = some_value c.in_ok-fed.fed.fault (sym c.is_some.ensures ∙ c.if-is_some.true) in
    faults_all c.feed_log.new.self c.args.piece.now c.in_ok-fed.behind.now c.in_ok-fed.fed fault.0 past (c.in_ok-fed.ensures.read past has) fault.1

pub returns-clause-read : goal.returns-clause-read
returns-clause-read c = λ past has.
    let none : c.in_ok-fed.fed.fault ≡ None = none_value c.in_ok-fed.fed.fault (sym c.is_some.ensures ∙ c.if-is_some.false) in
    reads_all c.feed_log.new.self _ c.args.piece.now c.in_ok-fed.behind.now c.in_ok-fed.fed c.fault_behind-self.result past (c.in_ok-fed.ensures.read past has) none c.fault_behind-self.ensures refl refl refl
