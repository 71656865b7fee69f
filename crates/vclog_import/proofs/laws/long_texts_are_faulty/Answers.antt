use Rattle.vclog_import.proofs.LongTexts as law
use Rattle.vclog_import.proofs.laws.long_texts_are_faulty.Goals as goal

pub returns : goal.returns
returns c = law.long_texts_are_faulty
