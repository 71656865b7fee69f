use Rattle.std.proofs.Common.{ℕ, List, ap}
use Rattle.pull_fans.specs.Fans.{FanView}
use Rattle.pull_fans.proofs.Fans.{no_tables}
use Rattle.pull_fans.proofs.fan.Fan.new.Goals as goal

pub returns : goal.returns
returns c =
    let made : List (List ℕ) → FanView = λ tables. record { src = c.args.src; targets = c.args.targets; tables = tables } in
    ap made (no_tables c.layout_of-layout.result c.args.targets c.width-width.result c.in_ok-entries.entries.items)
