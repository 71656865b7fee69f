use Rattle.std.proofs.Common.{rules}
use Rattle.command_words.proofs.WholeNumbers.{read_is}
use Rattle.command_words.proofs.numbers.whole_number.Goals as goal

pub returns : goal.returns
returns c = read_is c.args.text.now c.read_u64.result (search rules) (search rules) (search rules)
