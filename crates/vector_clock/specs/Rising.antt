-- Messages in a list, each with a greater number than those before it.
use Rattle.std.specs.Prelude.{ℕ, suc, Bool, ◌&&◌, nat_lt, List, [], ◌∷◌, length, get_or, None}
use Rattle.std.specs.Prelude.{if◌then◌else◌}
use Rattle.vector_clock.specs.declared.message.Message.{Message}
use Rattle.vector_clock.specs.declared.places.Kept.{Kept}
use Rattle.vector_clock.specs.Messages.{is_same}

-- what stands where nothing is kept
abbrev pub nothing_kept : Kept
nothing_kept = record {
  message = record { sender = 0; receiver = 0; id = 0 };
  met = record { sent = None; received = None };
}

-- how many of the first have a smaller number
abbrev pub rank_of : List Kept → ℕ → ℕ
rank_of [] id = 0
rank_of (first ∷ kept) id = if nat_lt first.message.id id then suc (rank_of kept id) else 0

-- whether the message is one of them
abbrev pub is_among : List Kept → Message → Bool
is_among kept m = nat_lt (rank_of kept m.id) (length kept)
    && is_same (get_or kept (rank_of kept m.id) nothing_kept).message m
