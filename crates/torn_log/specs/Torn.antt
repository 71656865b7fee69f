-- The items of a torn log up to the greatest cut of the run that is logged whole.
use Rattle.std.specs.Prelude.{◌≡◌, ℕ, List}
use Rattle.run_model.specs.Cut.{Cut}
use Rattle.run_model.specs.Sublattice.{IsGreatest}
use Rattle.torn_runs.specs.Torn.{IsLoggedWhole}
use Rattle.event_log.specs.declared.item.Item.{Item}
use Rattle.vector_clock.specs.Events.{Events, no_events}
use Rattle.torn_log.specs.declared.torn.Torn.{Torn}
use Rattle.torn_log.specs.Items.{with_items, kept_from, events_in, items_upto, left_out}
use Rattle.torn_log.specs.Needs.{needs}

-- the greatest cut of logged events that has all that its events stand on
abbrev pub IsKept : Events → Cut → Type 0
IsKept events cut = IsGreatest (IsLoggedWhole (needs events)) cut

-- of these items behind a header of so many processes these are kept up to that cut, and so many
-- events of each process are left out
pub record AreUpto (procs : ℕ) (items kept : List Item) (left : List ℕ) : Type 0 where
  pub cut : Cut
  pub greatest : IsKept (with_items (no_events procs) items) cut
  pub kept_are : kept ≡ kept_from cut (no_events procs) items
  pub left_out_are : left ≡ left_out (with_items (no_events procs) items) cut

-- the items have the events of that cut alone, and for each process it is told how many events were
-- left out
pub record IsTornOf (items : List Item) (torn : Torn) : Type 0 where
  pub cut : Cut
  pub greatest : IsKept (events_in items) cut
  pub items_are : torn.items ≡ items_upto cut items
  pub left_out_are : torn.left_out ≡ left_out (events_in items) cut
