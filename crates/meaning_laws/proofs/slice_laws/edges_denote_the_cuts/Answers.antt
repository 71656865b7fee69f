use Rattle.run_model.proofs.EdgeLemmas.{denoted_is_cuts}
use Rattle.meaning_laws.proofs.slice_laws.edges_denote_the_cuts.Goals as goal

pub returns : goal.returns
returns c = denoted_is_cuts
