use Rattle.std.proofs.Common.{rules}
use Rattle.pull_fans.proofs.Fans.{fan_of_one}
use Rattle.pull_fans.proofs.fan.Fan.of_pull.Goals as goal

pub returns : goal.returns
returns c = fan_of_one c.args.pull.now c.push.new.self c.push_narrow.new.entries.items c.len.result (search rules) (search rules) (search rules)
