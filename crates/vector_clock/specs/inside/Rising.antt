-- Inside: lists of messages whose numbers rise.
use Rattle.std.specs.Prelude.{ℕ, ◌<◌, List, length, get_or}
use Rattle.vector_clock.specs.declared.message.Message.{Message}
use Rattle.vector_clock.specs.declared.places.Kept.{Kept}
use Rattle.vector_clock.specs.Rising.{nothing_kept}

-- each message has a greater number than those before it
pub record IsRising (kept : List Kept) : Type 0 where
  pub each : (i j : ℕ) → i < j → j < length kept
      → (get_or kept i nothing_kept).message.id < (get_or kept j nothing_kept).message.id

-- the message has a greater number than each of them
abbrev pub IsNext : List Kept → Message → Type 0
IsNext kept n = (j : ℕ) → j < length kept → (get_or kept j nothing_kept).message.id < n.id
