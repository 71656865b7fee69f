-- A cut that is lowered, event by event and round by round, until it is logged whole.
use Rattle.std.specs.Prelude.{◌≡◌, ℕ, ◌<◌, ◌≤◌, Bool, true, false, List, length, map, set, sum}
use Rattle.std.specs.Prelude.{get_or}
use Rattle.run_model.specs.Cut.{Cut, count, IsWithin}
use Rattle.run_model.specs.Consistent.{clock, IsEvent}
use Rattle.torn_runs.specs.Torn.{IsLoggedWhole}
use Rattle.event_log.specs.declared.item.Item.{Item}
use Rattle.vector_clock.specs.Events.{Events, own_events}
use Rattle.torn_log.specs.declared.sends.Sends.{Sends}
use Rattle.torn_log.specs.Items.{with_item}
use Rattle.torn_log.specs.Needs.{needs}
use Rattle.torn_log.specs.Sends.{HasSends}

-- a cut of logged events within which all cuts lie that are logged whole
pub record BoundsAll (events : Events) (cut : Cut) : Type 0 where
  pub shaped : length cut ≡ length events
  pub within : IsWithin cut (map length events)
  pub bounds : (d : Cut) → IsLoggedWhole (needs events) d → IsWithin d cut

-- one event, which stands behind so many events of each process, was looked at
abbrev pub IsLowered : Cut → List ℕ → ℕ → Cut → Cut → Bool → Type 0
IsLowered need counts process old new true = (new ≡ set old process (get_or counts process 0))
    × (get_or counts process 0 < count old process) × (IsWithin need old → ⊥)
IsLowered need counts process old new false =
    (new ≡ old) × (get_or counts process 0 < count old process → IsWithin need old)

-- the events of the cut up to these have all that they stand on
abbrev pub IsSettledUpto : Events → Events → Cut → Type 0
IsSettledUpto events before cut = (i a : ℕ) → IsEvent cut i a
    → a ≤ length (own_events before i) → IsWithin (clock (needs events) i a) cut

-- the cut was lowered; or it is as it was, and settled with the item where it was before
abbrev pub IsLookedAt : Events → Events → Item → Cut → Cut → Bool → Type 0
IsLookedAt events before i old new true = sum new < sum old
IsLookedAt events before i old new false = (new ≡ old)
    × (IsSettledUpto events before old → IsSettledUpto events (with_item before i) old)

pub record HasLooked (events before : Events) (i : Item) (old new : Cut) (lowered : Bool)
    : Type 0 where
  pub bounds : BoundsAll events new
  pub looked : IsLookedAt events before i old new lowered

-- the cut was lowered, or it is as it was and settled up to these events
abbrev pub IsGone : Events → Events → Cut → Cut → Bool → Type 0
IsGone events before old new true = sum new < sum old
IsGone events before old new false = (new ≡ old) × IsSettledUpto events before new

-- what is known behind a round
pub record IsRoundOf (events before : Events) (old new : Cut) (lowered : Bool) : Type 0 where
  pub bounds : BoundsAll events new
  pub gone : IsGone events before old new lowered

abbrev pub IsRound : Sends → Events → Cut → Cut → Bool → Type 0
IsRound sends events old new lowered =
    HasSends sends events → BoundsAll events old → IsRoundOf events events old new lowered
