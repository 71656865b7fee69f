use Rattle.std.proofs.Common.{◌∙◌, ap}
use Rattle.clap.specs.Words.{found_of}
use Rattle.command_words.specs.ByClap.{from_words}
use Rattle.command_words.proofs.Found.{source_row}
use Rattle.command_words.proofs.values.stands.Goals as goal

pub returns : goal.returns
returns c = c.is_from_words.ensures ∙ ap from_words c.value_source.ensures ∙ source_row (found_of c.args.matches.now) c.args.name.now
