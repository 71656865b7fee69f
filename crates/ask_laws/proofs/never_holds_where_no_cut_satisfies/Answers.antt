use Rattle.ask_laws.proofs.Said.{never_holds}
use Rattle.ask_laws.proofs.never_holds_where_no_cut_satisfies.Goals as goal

pub returns : goal.returns
returns c = never_holds
