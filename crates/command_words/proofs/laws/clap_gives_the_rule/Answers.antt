use Rattle.command_words.proofs.Agree.{values_agree}
use Rattle.command_words.proofs.laws.clap_gives_the_rule.Goals as goal

pub returns : goal.returns
returns c = values_agree
