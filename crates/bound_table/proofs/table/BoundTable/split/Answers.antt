use Rattle.std.proofs.Common.{rules}
use Rattle.bound_table.proofs.Moves.{splits, has_word}
use Rattle.bound_table.proofs.table.BoundTable.split.Goals as goal

pub split_seat-requires : goal.split_seat-requires
split_seat-requires c = (search rules, has_word c.self.inside.table.shared.key.begins _ _ c.self.invariant.2 c.self.invariant.1, splits c.self.inside.table.shared.key.begins _ _ _)
