-- Inside: the places of a message's send and receipt, as they are noted and forgotten.
use Rattle.std.specs.Prelude.{◌≡◌, ℕ, Bool, false, ◌==◌, Option, None, Some, if◌then◌else◌}
use Rattle.std.specs.Option.{option_or}
use Rattle.vector_clock.specs.declared.message.Message.{Message}
use Rattle.vector_clock.specs.Messages.{is_same}
use Rattle.vector_clock.specs.declared.places.Met.{Met}

-- each message has the same places in both
abbrev pub HaveSame : (Message → Met) → (Message → Met) → Type 0
HaveSame new old = (m : Message) → new m ≡ old m

-- this is the place
abbrev pub is_place : ℕ → Option ℕ → Bool
is_place place None = false
is_place place (Some a) = a == place

-- the place, unless the other one is the same
abbrev pub without : Option ℕ → Option ℕ → Option ℕ
without place None = place
without place (Some gone) = if is_place gone place then None else place

-- these places are kept for the message where it had none, and nothing else has changed
pub record IsNoted (old new : Message → Met) (message : Message) (met : Met) : Type 0 where
  pub sent : (m : Message) → (new m).sent ≡ (if is_same message m
      then option_or (old message).sent met.sent else (old m).sent)
  pub received : (m : Message) → (new m).received ≡ (if is_same message m
      then option_or (old message).received met.received else (old m).received)

-- these places are kept no more for the message, and nothing else has changed
pub record IsForgotten (old new : Message → Met) (message : Message) (met : Met) : Type 0 where
  pub sent : (m : Message) → (new m).sent ≡ (if is_same message m
      then without (old message).sent met.sent else (old m).sent)
  pub received : (m : Message) → (new m).received ≡ (if is_same message m
      then without (old message).received met.received else (old m).received)
