use Rattle.ask_laws.proofs.Said.{plain_holds}
use Rattle.ask_laws.proofs.plain_holds_where_the_initial_cut_satisfies.Goals as goal

pub returns : goal.returns
returns c = plain_holds
