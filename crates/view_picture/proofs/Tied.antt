-- Where there is a tie, and where a cut has corners.
use Rattle.std.proofs.Common.{◌≡◌, ℕ, true, false, [], ◌∷◌, get_or, refl}
use Rattle.pota_base.specs.declared.shape.EventId.{EventId}
use Rattle.event_log.specs.States.{StatesView}
use Rattle.vector_clock.specs.Events.{clocks_of}
use Rattle.view_picture.specs.Columns.{Rows}
use Rattle.view_picture.specs.declared.frame.Frame.{Frame}
use Rattle.view_picture.specs.Shown.{has_shown}
use Rattle.view_picture.specs.Drawing.{corners, shown_corners}
use Rattle.run_model.specs.Cut.{Cut}
use Rattle.view_picture.specs.Ties.{last_known, is_tied, tie_from}

pub a_tie : (s : StatesView) (rows : Rows) (e : EventId) (p : ℕ) → is_tied s rows e p ≡ true → tie_from s rows e p ≡ record { cause = last_known (clocks_of s.events) rows e p; effect = e } ∷ []
a_tie s rows e p h = rw h refl

pub no_tie : (s : StatesView) (rows : Rows) (e : EventId) (p : ℕ) → is_tied s rows e p ≡ false → tie_from s rows e p ≡ []
no_tie s rows e p h = rw h refl

pub corners_shown : (f : Frame) (rows : Rows) (cut : Cut) (shift p : ℕ) → has_shown (get_or rows p []) ≡ true → shown_corners f rows cut shift p ≡ corners f rows cut shift p
corners_shown f rows cut shift p h = rw h refl
