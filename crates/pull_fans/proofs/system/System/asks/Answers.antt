use Rattle.std.proofs.Common.{rules, ◌∙◌, length, ap, subst}
use Rattle.pull_system.specs.System.{SystemView, IsSystem}
use Rattle.pull_fans.proofs.Asking.{has_asks}
use Rattle.pull_fans.proofs.system.System.asks.Goals as goal

pub row_of-requires : goal.row_of-requires
row_of-requires g c =
    let is = subst IsSystem c.self.view_is c.self.invariant.0 in
    (has_asks c.args.self.now is c.args.process c.args.x c.procs.result (search rules) (c.procs.ensures.count ∙ ap (λ (s : SystemView). length s.lens) c.self.view_is) c.ask_rows.result.now c.ask_rows.ensures).room

pub returns-clause-asks : goal.returns-clause-asks
returns-clause-asks g c =
    let is = subst IsSystem c.self.view_is c.self.invariant.0 in
    (has_asks c.args.self.now is c.args.process c.args.x c.procs.result (search rules) (c.procs.ensures.count ∙ ap (λ (s : SystemView). length s.lens) c.self.view_is) c.ask_rows.result.now c.ask_rows.ensures).row c.row_of.result.now c.row_of.ensures.row
