-- Where messages were met first.
use Rattle.std.specs.Prelude.{get_or, None, if◌then◌else◌}
use Rattle.std.specs.Option.{unwrap_or}
use Rattle.std.specs.Ordering.{nat_cmp, ordering_then}
use Rattle.std.specs.declared.cmp.Ordering.{Ordering}
use Rattle.std.specs.BTreeMap.{get}
use Rattle.vector_clock.specs.declared.message.Message.{Message}
use Rattle.vector_clock.specs.declared.places.Mapped.{Mapped}
use Rattle.vector_clock.specs.declared.places.Met.{Met}
use Rattle.vector_clock.specs.declared.places.Places.{Places}
use Rattle.vector_clock.specs.Rising.{nothing_kept, rank_of, is_among}

-- messages by number, then sender, then receiver
abbrev pub message_cmp : Message → Message → Ordering
message_cmp m n =
    ordering_then (nat_cmp m.id n.id)
    (ordering_then (nat_cmp m.sender n.sender) (nat_cmp m.receiver n.receiver))

abbrev pub nowhere : Met
nowhere = record { sent = None; received = None }

-- the places that the map has for a message
abbrev pub mapped_at : Mapped → Message → Met
mapped_at p m = unwrap_or (get message_cmp p.met m) nowhere

-- the places that are kept for a message
abbrev pub met_at : Places → Message → Met
met_at p m =
    if is_among p.rising.items m
    then (get_or p.rising.items (rank_of p.rising.items m.id) nothing_kept).met
    else mapped_at p.others m
