-- Where each message is sent first.
use Rattle.std.specs.Prelude.{◌≡◌, ℕ, Option, Some, if◌then◌else◌}
use Rattle.std.specs.Option.{unwrap_or}
use Rattle.std.specs.BTreeMap.{get}
use Rattle.vector_clock.specs.declared.message.Message.{Message}
use Rattle.vector_clock.specs.Events.{Events}
use Rattle.vector_clock.specs.Messages.{is_same, first_send}
use Rattle.vector_clock.specs.Met.{message_cmp}
use Rattle.torn_log.specs.declared.sends.Sends.{Sends}

abbrev pub place_in : Sends → Message → Option ℕ
place_in sends m = get message_cmp sends.places m

-- the first sends of these events are kept
abbrev pub HasSends : Sends → Events → Type 0
HasSends sends events = (m : Message) → place_in sends m ≡ first_send events m

-- the place is kept for the message, where it had none
abbrev pub IsNoted : Sends → Sends → Message → ℕ → Type 0
IsNoted old new n place = (m : Message) → place_in new m ≡ (if is_same n m
    then Some (unwrap_or (place_in old n) place) else place_in old m)
