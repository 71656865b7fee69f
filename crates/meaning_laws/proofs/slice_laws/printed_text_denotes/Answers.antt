use Rattle.run_model.proofs.EdgeLemmas.{printed_denotes}
use Rattle.meaning_laws.proofs.slice_laws.printed_text_denotes.Goals as goal

pub returns : goal.returns
returns g c = λ o k. printed_denotes o k g.A.SetOfCuts.has
