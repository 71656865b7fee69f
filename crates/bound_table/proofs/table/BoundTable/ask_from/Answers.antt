use Rattle.std.proofs.Common.{rules, subst}
use Rattle.pull_system.specs.System.{SystemView}
use Rattle.pull_fans.specs.Asks.{AreAsks}
use Rattle.bound_table.proofs.Settling.{entry_there}
use Rattle.bound_table.proofs.Seeing.{asks_hold}
use Rattle.bound_table.proofs.table.BoundTable.ask_from.Goals as goal

pub asks-asks-requires-clause-entry : goal.asks-asks-requires-clause-entry
asks-asks-requires-clause-entry g c =
    let less = entry_there _ c.args.row c.args.process c.args.x _ _ _ c.requires.settling c.requires.reached in search (rules, less)

pub rise_to-requires-clause-asks : goal.rise_to-requires-clause-asks
rise_to-requires-clause-asks g c =
    let system : SystemView = c.args.self.now.system in
    let P : SystemView → Type 0 = λ s. AreAsks s c.args.process c.args.x c.asks-asks.result.now in subst P c.system.ensures c.asks-asks.ensures.asks

pub returns-clause-holds : goal.returns-clause-holds
returns-clause-holds g c =
    let system : SystemView = c.args.self.now.system in
    let P : SystemView → Type 0 = λ s. AreAsks s c.args.process c.args.x c.asks-asks.result.now in
    let are = subst P c.system.ensures c.asks-asks.ensures.asks in
    λ k there from. asks_hold system c.args.process c.args.x k c.asks-asks.result.now _ are c.rise_to.ensures.reaches there from
