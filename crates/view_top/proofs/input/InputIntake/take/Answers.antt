use Rattle.std.proofs.Common.{◌≡◌, None, refl, sym, ◌∙◌, arith}
use Rattle.event_log.proofs.FeedSteps.{none_value}
use Rattle.event_log.proofs.ReadLaws.{some_value}
use Rattle.view_top.proofs.Pieces.{may_judge, ends_faulty, goes_on, ends_full}
use Rattle.view_top.proofs.input.InputIntake.take.Goals as goal

pub judge-requires : goal.judge-requires
judge-requires c = may_judge c.args.self.now c.requires.at.0 c.args.piece.now c.in_ok-fed.behind.now c.feed_log.new.self c.in_ok-fed.fed c.requires.at.1 c.in_ok-fed.ensures.read

pub returns-then-is_some : goal.returns-then-is_some
returns-then-is_some c bytes known =
    let some = some_value c.in_ok-self.field-0 (sym c.is_some.ensures ∙ c.if-is_some.true) in
    ends_faulty c.args.self.now bytes c.args.piece.now c.in_ok-fed.behind.now c.feed_log.new.self c.in_ok-fed.fed known c.in_ok-fed.ensures.read
    c.judge.new.log c.in_ok-self.field-0 c.in_ok-self.ensures
    (record c.args.self.now { reader = c.feed_log.new.self; log = c.judge.new.log; fault = c.in_ok-self.field-0 }) some.0 some.1 refl

pub returns-then-self-lt-MOST_BYTES : goal.returns-then-self-lt-MOST_BYTES
returns-then-self-lt-MOST_BYTES c bytes known =
    let none : c.in_ok-self.field-0 ≡ None = none_value c.in_ok-self.field-0 (sym c.is_some.ensures ∙ c.if-is_some.false) in
    goes_on c.args.self.now bytes c.args.piece.now c.in_ok-fed.behind.now c.feed_log.new.self c.in_ok-fed.fed known c.in_ok-fed.ensures.read
    c.judge.new.log c.in_ok-self.field-0 c.in_ok-self.ensures _ none refl refl refl c.in_ok-extend_from_slice.ensures.ok refl (omega (arith, c.if-self-lt-MOST_BYTES.true)) c.requires.some

pub returns-else-self-lt-MOST_BYTES : goal.returns-else-self-lt-MOST_BYTES
returns-else-self-lt-MOST_BYTES c bytes known =
    let none : c.in_ok-self.field-0 ≡ None = none_value c.in_ok-self.field-0 (sym c.is_some.ensures ∙ c.if-is_some.false) in
    ends_full c.args.self.now bytes c.args.piece.now c.in_ok-fed.behind.now c.feed_log.new.self c.in_ok-fed.fed known c.in_ok-fed.ensures.read
    c.judge.new.log c.in_ok-self.field-0 c.in_ok-self.ensures _ none refl refl refl c.in_ok-extend_from_slice.ensures.ok refl (omega (arith, c.if-self-lt-MOST_BYTES.false))
