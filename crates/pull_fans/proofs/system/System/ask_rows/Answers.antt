use Rattle.std.proofs.Common.{◌+◌, ◌<◌, length, get_or, arith, ap, subst}
use Rattle.pull_system.specs.System.{SystemView}
use Rattle.pull_fans.specs.Fans.{pulls_of_fans}
use Rattle.pull_fans.specs.inside.Asks.{AreAskRows}
use Rattle.pull_fans.proofs.Asking.{fan_read}
use Rattle.pull_fans.proofs.system.System.ask_rows.Goals as goal

pub returns-in-OfFan : goal.returns-in-OfFan
returns-in-OfFan c =
    let inside = c.self.inside in
    let process = c.args.process in
    let there : process < length inside.shape = omega (arith, c.requires, ap (λ (s : SystemView). length s.lens) c.self.view_is) in
    let P : SystemView → Type 0 = λ s. AreAskRows s process (get_or s.lens process 0 + 2) c.rows.result.now in
    subst P c.self.view_is
    (fan_read record { lens = inside.shape; pulls = pulls_of_fans inside.fans } inside.fans process (get_or inside.shape process 0 + 2) c.in-OfFan.number inside.asks c.get.result.now c.get-in-OfFan.result.now c.rows.result.now (c.self.invariant.3.each process there) c.get.ensures.item
    c.in-OfFan.is c.get-in-OfFan.ensures.item c.rows.ensures)
