use Rattle.std.specs.Vec.Iter.{into_iter_items}
use Rattle.std.proofs.Common.{◌≡◌, [], rules, sym, ◌∙◌}
use Rattle.std.proofs.lemmas.List.{nil_from_length}
use Rattle.log_trace.proofs.Items.{begins, may_take, goes_on, stops, all_done}
use Rattle.log_trace.proofs.trace.LogTrace.take_all.Goals as goal

pub loop-item-init : goal.loop-item-init
loop-item-init c = begins c.args.self.now c.args.items _ (search rules)

pub take-requires : goal.take-requires
take-requires c =
    may_take c.args.self.now c.args.items c.loop-item.self (into_iter_items c.loop-item.rest) c.in-Some.item (into_iter_items c.next.new.self) c.in-Some.ensures.items c.loop-item.invariant c.requires

pub loop-item-preserved : goal.loop-item-preserved
loop-item-preserved c =
    goes_on c.args.self.now c.args.items c.loop-item.self (into_iter_items c.loop-item.rest) c.in-Some.item (into_iter_items c.next.new.self) c.in-Some.ensures.items c.loop-item.invariant
    c.take.new.self c.in_default-take.ensures.ok

pub returns-in-Err-clause-fault : goal.returns-in-Err-clause-fault
returns-in-Err-clause-fault c =
    stops c.args.self.now c.args.items c.loop-item.self (into_iter_items c.loop-item.rest) c.in-Some.item (into_iter_items c.next.new.self) c.in-Some.ensures.items c.loop-item.invariant
    c.in-Err.refused c.in-Err.ensures.fault

pub returns-clause-ok : goal.returns-clause-ok
returns-clause-ok c =
    let none : into_iter_items c.loop-item.rest ≡ [] =
    nil_from_length (into_iter_items c.loop-item.rest) (sym c.loop-item.rest.rest.ok.0 ∙ c.in_default.ensures.cases.0) in
    all_done c.args.self.now c.args.items c.loop-item.self (into_iter_items c.loop-item.rest) none c.loop-item.invariant
