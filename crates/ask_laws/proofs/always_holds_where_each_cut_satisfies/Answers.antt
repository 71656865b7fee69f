use Rattle.ask_laws.proofs.Said.{always_holds}
use Rattle.ask_laws.proofs.always_holds_where_each_cut_satisfies.Goals as goal

pub returns : goal.returns
returns c = always_holds
