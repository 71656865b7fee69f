use Rattle.ask_laws.proofs.Said.{can_holds}
use Rattle.ask_laws.proofs.can_holds_where_some_cut_satisfies.Goals as goal

pub returns : goal.returns
returns c = can_holds
