use Rattle.std.proofs.Common.{◌≡◌, length, sym, ◌∙◌, arith}
use Rattle.event_log.proofs.ReadLaws.{some_value}
use Rattle.log_sources.proofs.ReadingOn.{then_takes, all_taken, fault_taken}
use Rattle.log_sources.proofs.reader.SourceReader.feed.Goals as goal

pub returns-then-is_some-clause-fault : goal.returns-then-is_some-clause-fault
returns-then-is_some-clause-fault c = λ s has.
    let x = some_value c.sources.self.fault (sym c.is_some.ensures ∙ c.if-is_some.true) in
    (fault_taken c.args.self.now c.sources.self c.args.piece.now c.sources.rest.now x.0 c.sources.invariant.takes x.1 s has).fault_is

pub returns-then-is_some-clause-read : goal.returns-then-is_some-clause-read
returns-then-is_some-clause-read c =
    let x = some_value c.sources.self.fault (sym c.is_some.ensures ∙ c.if-is_some.true) in
    fault_taken c.args.self.now c.sources.self c.args.piece.now c.sources.rest.now x.0 c.sources.invariant.takes x.1

pub sources-preserved : goal.sources-preserved
sources-preserved c =
    let at = c.sources.invariant.at in
    let g = c.in_ok-rest.ensures.takes at.0 at.1 in
    record { takes = then_takes c.args.self.now c.sources.self c.read_on.new.self c.args.piece.now c.sources.rest.now c.in_ok-rest.rest.now c.sources.invariant.takes c.in_ok-rest.ensures.takes; at = (g.now, g.reads) }

pub returns-clause-fault : goal.returns-clause-fault
returns-clause-fault c = λ s has.
    let none : length c.sources.rest.now ≡ 0 = grind arith in
    (all_taken c.args.self.now c.sources.self c.args.piece.now c.sources.rest.now c.sources.invariant.takes none s has).fault_is

pub returns-clause-read : goal.returns-clause-read
returns-clause-read c =
    let none : length c.sources.rest.now ≡ 0 = grind arith in
    all_taken c.args.self.now c.sources.self c.args.piece.now c.sources.rest.now c.sources.invariant.takes none
