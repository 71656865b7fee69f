use Rattle.std.proofs.Common.{◌≡◌, length, Option, refl, subst, arith}
use Rattle.std.proofs.lemmas.List.{nil_from_length}
use Rattle.std.proofs.lemmas.Result.{IfOk-weaker}
use Rattle.event_log.specs.declared.item.LogFault.{LogFault}
use Rattle.event_log.specs.inside.Feeding.{TakesPlain}
use Rattle.event_log.proofs.FeedSteps.{whole_line, line_faults_is, kept_line}
use Rattle.event_log.proofs.feeder.Feeder.take_line.Goals as goal

pub returns-then-is_quiet : goal.returns-then-is_quiet
returns-then-is_quiet c =
    let none : length c.args.self.now.line.items ≡ 0 = grind arith in
    let empty = nil_from_length c.args.self.now.line.items none in
    IfOk-weaker c.close.result _ _ (λ fault closes. whole_line c.args.self.now _ c.close.new.self c.args.chunk.now c.args.items.now fault c.close.new.items c.requires (record { room = c.is_quiet.ensures.room c.if-is_quiet.true; open_ = c.is_quiet.ensures.open_ c.if-is_quiet.true }) empty refl refl empty c.close.ensures.line closes) c.close.ensures.closes

pub returns-in-Some : goal.returns-in-Some
returns-in-Some c = line_faults_is c.args.self.now c.take_plain.new.self c.take_plain.new.self c.args.chunk.now c.args.items.now c.in-Some.fault c.in_ok-fault.field-0 c.in_ok-fault.ensures c.in-Some.is

pub returns : goal.returns
returns c =
    let taken = subst (λ (o : Option LogFault). TakesPlain c.args.self.now c.args.chunk.now o c.take_plain.new.self) c.in_default.is c.in_ok-fault.ensures in
    let line_is : c.deref.result.now ≡ c.take_plain.new.self.line.items = cc in
    kept_line c.args.self.now c.take_plain.new.self _ c.close-2.new.self _ c.args.chunk.now c.deref.result.now c.args.items.now c.in_ok-fault-2.fault c.close-2.new.items taken line_is refl refl c.in_ok-fault-2.ensures.closes refl refl c.clear.ensures.items
