use Rattle.ask_laws.proofs.Said.{surely_holds}
use Rattle.ask_laws.proofs.surely_holds_where_each_path_meets.Goals as goal

pub returns : goal.returns
returns c = surely_holds
