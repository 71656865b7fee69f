use Rattle.meaning_laws.proofs.JoinLemmas.{joined_grouped}
use Rattle.meaning_laws.proofs.slice_laws.joined_slices_group.Goals as goal

pub returns-clause-bottoms : goal.returns-clause-bottoms
returns-clause-bottoms c = λ s t u. joined_grouped s.bottom t.bottom u.bottom

pub returns-clause-rows : goal.returns-clause-rows
returns-clause-rows c = λ s t u i a. joined_grouped (s.row i a) (t.row i a) (u.row i a)
