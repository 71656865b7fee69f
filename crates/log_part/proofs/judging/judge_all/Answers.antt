use Rattle.std.specs.Vec.Iter.{into_iter_items}
use Rattle.std.proofs.Common.{◌≡◌, Bool, ◌∷◌, [], rules, sym, ◌∙◌}
use Rattle.log_rules.specs.Judgement.{Judgement, judge, judged}
use Rattle.log_check.specs.Aims.{Aim, rules_of}
use Rattle.log_check.specs.Checking.{IsCheckOf, IsRefusedAs, MayFollow}
use Rattle.log_part.specs.inside.Reading.{JudgesTo}
use Rattle.std.proofs.lemmas.List.{nil_from_length}
use Rattle.log_part.proofs.ItemSteps.{begins, may_take, goes_on, refused_so, stops, all_done}
use Rattle.log_part.proofs.judging.judge_all.Goals as goal

pub loop-item-init : goal.loop-item-init
loop-item-init g c =
    begins (λ h. (goal.Watch-dyn g (h.watch.vtable, h.watch.value)).answers h.watch.value) c.args.check.now c.args.items _ (search rules)

pub take-requires : goal.take-requires
take-requires g c = record {
  check = may_take (λ h. (goal.Watch-dyn g (h.watch.vtable, h.watch.value)).answers h.watch.value) c.args.check.now c.args.items c.loop-item.check c.in-Some.item (into_iter_items c.next.new.self)
      (into_iter_items c.loop-item.rest) c.in-Some.ensures.items c.loop-item.invariant c.requires;
}

pub loop-item-preserved : goal.loop-item-preserved
loop-item-preserved g c =
    goes_on (λ h. (goal.Watch-dyn g (h.watch.vtable, h.watch.value)).answers h.watch.value) c.args.check.now c.args.items c.loop-item.check c.in-Some.item (into_iter_items c.next.new.self)
    (into_iter_items c.loop-item.rest) c.in-Some.ensures.items c.loop-item.invariant c.take.new.self c.in-Ok.field-0 c.in-Ok.ensures.ok

pub returns-in-Err : goal.returns-in-Err
returns-in-Err g c =
    refused_so Bool c.refusal_in.result c.in-Err.refused
    (λ why. (aim : Aim) (j : Judgement) → IsCheckOf (λ h. (goal.Watch-dyn g (h.watch.vtable, h.watch.value)).answers h.watch.value) aim c.args.check.now j → MayFollow j c.args.items
    → JudgesTo (λ h. (goal.Watch-dyn g (h.watch.vtable, h.watch.value)).answers h.watch.value) aim c.take.new.self (judged (rules_of aim) j c.args.items) why)
    (λ why. (aim : Aim) (j : Judgement) → IsCheckOf (λ h. (goal.Watch-dyn g (h.watch.vtable, h.watch.value)).answers h.watch.value) aim c.loop-item.check j → MayFollow j (c.in-Some.item ∷ [])
    → IsRefusedAs j (judge (rules_of aim) j c.in-Some.item) c.take.new.self.intake.batches why)
    c.refusal_in.ensures c.in-Err.ensures.fault
    (λ why told. stops (λ h. (goal.Watch-dyn g (h.watch.vtable, h.watch.value)).answers h.watch.value) c.args.check.now c.args.items c.loop-item.check c.in-Some.item (into_iter_items c.next.new.self)
    (into_iter_items c.loop-item.rest) c.in-Some.ensures.items c.loop-item.invariant c.take.new.self c.take.new.self.intake.batches why told)

pub returns : goal.returns
returns g c aim j is follows =
    let none : into_iter_items c.loop-item.rest ≡ [] =
    nil_from_length (into_iter_items c.loop-item.rest) (sym c.loop-item.rest.rest.ok.0 ∙ c.in_default.ensures.cases.0) in
    all_done (λ h. (goal.Watch-dyn g (h.watch.vtable, h.watch.value)).answers h.watch.value) c.args.check.now c.args.items c.loop-item.check (into_iter_items c.loop-item.rest) none c.loop-item.invariant aim j is follows
