use Rattle.ask_laws.proofs.Said.{over_holds}
use Rattle.ask_laws.proofs.over_holds_where_it_holds_for_each.Goals as goal

pub returns : goal.returns
returns c = over_holds
