use Rattle.std.proofs.Common.{◌≡◌, false}
use Rattle.std.specs.List.{list_any}
use Rattle.view_parts.specs.Parts.{event_at}
use Rattle.view_picture.specs.Drawing.{is_receipt}
use Rattle.view_picture.specs.inside.Lost.{places_behind}
use Rattle.view_picture.proofs.lost.is_received_among.Given as goal

abbrev pub invariant-loop-k : goal.invariant-loop-k
invariant-loop-k l = list_any (λ e. is_receipt l.sender l.id (event_at l.states e).kind) (places_behind l.receiver l.first l.k) ≡ false
