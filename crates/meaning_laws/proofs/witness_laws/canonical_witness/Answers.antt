use Rattle.meaning_laws.proofs.WitnessLemmas.{canonical_is_of_kind}
use Rattle.meaning_laws.proofs.witness_laws.canonical_witness.Goals as goal

pub returns : goal.returns
returns c = canonical_is_of_kind
