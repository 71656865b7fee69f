use Rattle.std.proofs.Common.{Bool, Err, sym, subst}
use Rattle.vector_clock.proofs.Admitting.{if_fault}
use Rattle.log_rules.specs.Judgement.{growing}
use Rattle.log_check.specs.Aims.{rules_of, terms_of}
use Rattle.log_check.specs.Checking.{IsCheckOf}
use Rattle.log_check.proofs.Steps.{adds_all}
use Rattle.log_check.proofs.Whole.{events_follow, last_judged, last_refused}
use Rattle.log_check.proofs.check.LogCheck.take_last.Goals as goal

pub close-requires : goal.close-requires
close-requires g c =
    let r = c.requires.check in
    let came = adds_all (λ h. (goal.Watch-dyn g (h.watch.vtable, h.watch.value)).answers h.watch.value) r.0 r.1 c.args.batch c.args.self.now c.add_all.new.self r.2 c.add_all.ensures.kept
    (c.add_all.ensures.is (terms_of r.0) r.1 r.2.intake (events_follow r.1 c.args.batch r.3)) in
    record { check = (r.0, growing r.1 c.args.batch, came, tt) }

pub returns-in-Ok-clause-ok : goal.returns-in-Ok-clause-ok
returns-in-Ok-clause-ok g c aim log is fit =
    let came = adds_all (λ h. (goal.Watch-dyn g (h.watch.vtable, h.watch.value)).answers h.watch.value) aim log c.args.batch c.args.self.now c.add_all.new.self is c.add_all.ensures.kept
    (c.add_all.ensures.is (terms_of aim) log is.intake (events_follow log c.args.batch fit)) in
    subst (IsCheckOf (λ h. (goal.Watch-dyn g (h.watch.vtable, h.watch.value)).answers h.watch.value) aim c.close.new.self) (sym (last_judged (rules_of aim) log c.args.batch))
    (c.in-Ok.ensures.ok aim (growing log c.args.batch) came tt).is

pub returns-in-Err-clause-fault : goal.returns-in-Err-clause-fault
returns-in-Err-clause-fault g c = if_fault {T = Bool} (Err c.in-Err.refused) (λ why told aim log is fit.
    let came = adds_all (λ h. (goal.Watch-dyn g (h.watch.vtable, h.watch.value)).answers h.watch.value) aim log c.args.batch c.args.self.now c.add_all.new.self is c.add_all.ensures.kept
    (c.add_all.ensures.is (terms_of aim) log is.intake (events_follow log c.args.batch fit)) in
    last_refused (rules_of aim) log c.args.batch c.close.new.self.intake.batches why (told aim (growing log c.args.batch) came tt)) c.in-Err.ensures.fault
