use Rattle.std.proofs.Common.{◌≡◌, true, false, None, refl, sym, ◌∙◌, subst}
use Rattle.event_log.proofs.ReadLaws.{some_value}
use Rattle.event_log.proofs.FeedSteps.{KnowsEnd, piece_goes_on, piece_faults, piece_ends, log_ends, none_value}
use Rattle.event_log.proofs.feeder.Feeder.feed_log.Goals as goal

pub returns-in_default : goal.returns-in_default
returns-in_default c =
    let open_ : c.is_ended.result ≡ false = cc in
    piece_ends c.args.self.now c.lines.self c.take_plain.new.self _ c.args.piece.now c.lines.rest.now c.lines.items c.in_ok-fault.fault c.lines.invariant (subst (KnowsEnd c.lines.self) open_ c.is_ended.ensures) c.in_default.ensures.none c.in_ok-fault.ensures refl refl refl

pub returns-then-is_some : goal.returns-then-is_some
returns-then-is_some c =
    let open_ : c.is_ended.result ≡ false = cc in
    let fault = some_value c.in_ok-fault-2.fault (sym c.is_some.ensures ∙ c.if-is_some.true) in
    piece_faults c.args.self.now c.lines.self c.take_line.new.self c.args.piece.now c.lines.rest.now c.in-Some.line.now c.in-Some.after.now c.lines.items c.take_line.new.items c.in_ok-fault-2.fault fault.0 c.lines.invariant (subst (KnowsEnd c.lines.self) open_ c.is_ended.ensures)
    (record { plain = c.in-Some.ensures.some.0; split = c.in-Some.ensures.some.1 }) c.in_ok-fault-2.ensures fault.1 c.in-Some.after.now c.take_line.new.self

pub lines-preserved : goal.lines-preserved
lines-preserved c =
    let open_ : c.is_ended.result ≡ false = cc in
    let none : c.in_ok-fault-2.fault ≡ None = none_value c.in_ok-fault-2.fault (sym c.is_some.ensures ∙ c.if-is_some.false) in
    piece_goes_on c.args.self.now c.lines.self c.take_line.new.self c.args.piece.now c.lines.rest.now c.in-Some.line.now c.in-Some.after.now c.lines.items c.take_line.new.items c.in_ok-fault-2.fault c.lines.invariant (subst (KnowsEnd c.lines.self) open_ c.is_ended.ensures)
    (record { plain = c.in-Some.ensures.some.0; split = c.in-Some.ensures.some.1 }) c.in_ok-fault-2.ensures none

pub returns : goal.returns
returns c =
    let whole : c.is_ended.result ≡ true = cc in
    log_ends c.args.self.now c.lines.self c.lines.self c.args.piece.now c.lines.rest.now c.lines.items c.lines.invariant (subst (KnowsEnd c.lines.self) whole c.is_ended.ensures) refl
