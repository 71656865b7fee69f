use Rattle.command_words.proofs.Agree.{words_taken}
use Rattle.command_words.proofs.laws.clap_takes_the_rule.Goals as goal

pub returns : goal.returns
returns c = words_taken
