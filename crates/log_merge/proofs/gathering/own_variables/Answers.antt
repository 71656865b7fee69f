use Rattle.std.proofs.Common.{◌≤◌, length, sym, ◌∙◌, arith}
use Rattle.log_merge.proofs.Gathers.{no_variables_there}
use Rattle.log_merge.proofs.gathering.own_variables.Goals as goal

pub returns-else-process-len : goal.returns-else-process-len
returns-else-process-len c =
    let past : length c.args.header.now.vars ≤ c.args.process = omega (arith, c.len.ensures, c.if-process-len.false) in
    c.new.ensures ∙ sym (no_variables_there c.args.header.now.vars c.args.process past)
