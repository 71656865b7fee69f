use Rattle.ask_laws.proofs.Said.{at_end_holds}
use Rattle.ask_laws.proofs.at_end_holds_where_the_final_cut_satisfies.Goals as goal

pub returns : goal.returns
returns c = at_end_holds
