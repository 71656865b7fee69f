use Rattle.std.proofs.Common.{refl}
use Rattle.view_top.proofs.Pieces.{opens}
use Rattle.view_top.proofs.input.Input.new.Goals as goal

pub returns : goal.returns
returns c = opens _ c.new.ensures c.new-2.ensures c.new-3.ensures refl refl
