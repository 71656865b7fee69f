-- Steps on bounds leave a seat's claims as they are.
use Rattle.std.proofs.Common.{refl, ◌∙◌}
use Rattle.bound_table.specs.Views.{SeatView, KeepsClaims}

pub keeps_refl : (seat : SeatView) → KeepsClaims seat seat
keeps_refl seat = record { table = refl; claims = refl; marks = refl }

pub keeps_trans : (a b c : SeatView) → KeepsClaims a b → KeepsClaims b c → KeepsClaims a c
keeps_trans a b c first second = record { table = second.table ∙ first.table; claims = second.claims ∙ first.claims; marks = second.marks ∙ first.marks }
