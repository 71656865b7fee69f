use Rattle.std.proofs.Common.{◌-◌, ap, length, arith}
use Rattle.pota_base.specs.Limits.{longest_kept}
use Rattle.input_reading.proofs.ReadingLaws.{kept_done}
use Rattle.input_reading.proofs.kept.KeptIntake.take.Goals as goal

pub returns-in_ok-extend_from_slice-2 : goal.returns-in_ok-extend_from_slice-2
returns-in_ok-extend_from_slice-2 c bytes open_ =
    kept_done longest_kept c.args.self.now.bytes bytes c.args.piece.now c.extend_from_slice-else-piece-room.new.self (longest_kept - c.len-room.result) (omega (arith, c.len-room.ensures, open_.1, ap length open_.0)) open_.0 (omega (arith, c.if-piece-room.false)) c.in_ok-extend_from_slice-2.ensures.ok
