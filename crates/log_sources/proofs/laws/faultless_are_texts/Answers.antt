use Rattle.log_sources.proofs.Texts as texts
use Rattle.log_sources.proofs.laws.faultless_are_texts.Goals as goal

pub returns : goal.returns
returns c = texts.faultless_are_texts
