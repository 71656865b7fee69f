use Rattle.vector_clock.proofs.NewNames.{same_open, same_loop}
use Rattle.vector_clock.proofs.laws.only_new_names_count.Goals as goal

pub returns : goal.returns
returns c = λ o a e sound own back. (same_open o a e sound back, same_loop o a e sound back)
