use Rattle.std.proofs.Common.{rules}
use Rattle.rctl_lexer.proofs.Numbers.{value_is}
use Rattle.rctl_lexer.proofs.front.number_value.Goals as goal

pub returns : goal.returns
returns c = value_is _ _ c.read_i64.ensures.spelled (search rules) c.read_i64.ensures.only
