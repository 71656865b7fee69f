use Rattle.std.proofs.Common.{length}
use Rattle.row_text.proofs.piece.put_piece.Given as goal

abbrev pub decreases-loop-byte : goal.decreases-loop-byte
decreases-loop-byte l = length l.rest
