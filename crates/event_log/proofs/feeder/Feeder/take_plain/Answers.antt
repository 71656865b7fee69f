use Rattle.std.proofs.Common.{◌≡◌, ℕ, ◌+◌, List, take, drop, get_or, [], ◌∷◌, ◌++◌, Option, Some, None, sym, ap, ◌∙◌, subst}
use Rattle.std.proofs.lemmas.List.{take_more, take-append-drop}
use Rattle.event_log.specs.declared.item.LogFault.{LogFault}
use Rattle.event_log.specs.inside.Feeding.{TakesPlain}
use Rattle.event_log.proofs.FeedSteps.{quiet_takes, then_plain, fault_stays}
use Rattle.event_log.proofs.feeder.Feeder.take_plain.Goals as goal

pub returns-then-is_quiet : goal.returns-then-is_quiet
returns-then-is_quiet c =
    quiet_takes c.args.self.now c.take_quiet.new.self c.args.chunk.now c.requires (record { room = c.is_quiet.ensures.room c.if-is_quiet.true; open_ = c.is_quiet.ensures.open_ c.if-is_quiet.true }) c.in_ok-take_quiet.ensures

pub returns-in-Some : goal.returns-in-Some
returns-in-Some c =
    let xs = c.args.chunk.now in
    let i = c.bytes.i in
    let step = then_plain c.args.self.now c.bytes.self c.take_byte.new.self (take i xs) (get_or xs i 0 ∷ []) c.in_ok-fault.field-0 c.bytes.invariant c.in_ok-fault.ensures in
    let faulty = subst (λ (o : Option LogFault). TakesPlain c.args.self.now (take i xs ++ get_or xs i 0 ∷ []) o c.take_byte.new.self) c.in-Some.is step in
    let all : (take i xs ++ get_or xs i 0 ∷ []) ++ drop (i + 1) xs ≡ xs = ap (λ (ys : List ℕ). ys ++ drop (i + 1) xs) (sym (take_more xs i 0 c.bytes-test.true)) ∙ take-append-drop (i + 1) xs in
    subst (λ (ys : List ℕ). TakesPlain c.args.self.now ys (Some c.in-Some.fault) c.take_byte.new.self) all (fault_stays c.args.self.now c.take_byte.new.self c.take_byte.new.self (take i xs ++ get_or xs i 0 ∷ []) (drop (i + 1) xs) c.in-Some.fault faulty)

pub bytes-preserved : goal.bytes-preserved
bytes-preserved c =
    let xs = c.args.chunk.now in
    let i = c.bytes.i in
    let step = then_plain c.args.self.now c.bytes.self c.take_byte.new.self (take i xs) (get_or xs i 0 ∷ []) c.in_ok-fault.field-0 c.bytes.invariant c.in_ok-fault.ensures in
    let none = subst (λ (o : Option LogFault). TakesPlain c.args.self.now (take i xs ++ get_or xs i 0 ∷ []) o c.take_byte.new.self) c.in_default.is step in
    subst (λ (ys : List ℕ). TakesPlain c.args.self.now ys None c.take_byte.new.self) (sym (take_more xs i 0 c.bytes-test.true)) none
