use Rattle.std.proofs.Common.{◌≡◌, ◌++◌, take}
use Rattle.std.specs.List.{flat_map}
use Rattle.view_text.specs.Text.{witness_rows}
use Rattle.view_text.proofs.witnesses.put_witnesses.Given as goal

abbrev pub invariant-loop-witness : goal.invariant-loop-witness
invariant-loop-witness l = l.out ≡ l.fn.out ++ flat_map (witness_rows l.told.states.now l.told.tokens.now l.told.extent l.alternatives) (take l.witness-index l.witnesses)
