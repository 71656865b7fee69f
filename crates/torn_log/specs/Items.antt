-- The events that the items of a log give, and the items up to a cut.
use Rattle.std.specs.Prelude.{ℕ, ◌-◌, Bool, true, nat_le, List, [], ◌∷◌, ◌++◌, length, map}
use Rattle.std.specs.Prelude.{Option, None, Some, if◌then◌else◌}
use Rattle.std.specs.List.{AllByRecursion}
use Rattle.run_model.specs.Cut.{Cut, count}
use Rattle.event_log.specs.declared.item.Item.{Item}
use Rattle.event_log.specs.declared.item.Item.TheVariants as item
use Rattle.event_log.specs.declared.log.Event.{Event}
use Rattle.event_log.specs.States.{with_event}
use Rattle.vector_clock.specs.Events.{Events, EventStands, no_events, place}

-- how many processes the header has, which is the first item
abbrev pub procs_in : List Item → ℕ
procs_in [] = 0
procs_in (item.Header h ∷ items) = length h.procs
procs_in (item.Event e ∷ items) = 0
procs_in (item.BatchEnd ∷ items) = 0
procs_in (item.End ∷ items) = 0

-- the event of an item, where it is one
abbrev pub event_in : Item → Option Event
event_in (item.Header h) = None
event_in (item.Event e) = Some e
event_in item.BatchEnd = None
event_in item.End = None

-- an event stands behind those of its process
abbrev pub with_item : Events → Item → Events
with_item events (item.Header h) = events
with_item events (item.Event e) = with_event events e
with_item events item.BatchEnd = events
with_item events item.End = events

abbrev pub with_items : Events → List Item → Events
with_items events [] = events
with_items events (i ∷ items) = with_items (with_item events i) items

-- the events of each process in their order
abbrev pub events_in : List Item → Events
events_in items = with_items (no_events (procs_in items)) items

-- an event has its place among so many processes
abbrev pub ItemStands : ℕ → Item → Type 0
ItemStands procs (item.Header h) = Unit {0}
ItemStands procs (item.Event e) = EventStands procs e
ItemStands procs item.BatchEnd = Unit {0}
ItemStands procs item.End = Unit {0}

abbrev pub ItemsStand : ℕ → List Item → Type 0
ItemsStand procs items = AllByRecursion (ItemStands procs) items

-- ---- up to a cut

-- an item behind these events stays, if it isn't an event that the cut hasn't
abbrev pub stays : Cut → Events → Item → Bool
stays cut before (item.Header h) = true
stays cut before (item.Event e) = nat_le (place before e) (count cut e.process)
stays cut before item.BatchEnd = true
stays cut before item.End = true

abbrev pub kept_item : Cut → Events → Item → List Item
kept_item cut before i = if stays cut before i then i ∷ [] else []

abbrev pub kept_from : Cut → Events → List Item → List Item
kept_from cut before [] = []
kept_from cut before (i ∷ items) =
    kept_item cut before i ++ kept_from cut (with_item before i) items

-- the items without the events that the cut hasn't
abbrev pub items_upto : Cut → List Item → List Item
items_upto cut items = kept_from cut (no_events (procs_in items)) items

-- each count without that of the cut
abbrev pub differences : List ℕ → Cut → List ℕ
differences [] cut = []
differences (n ∷ counts) [] = n ∷ differences counts []
differences (n ∷ counts) (m ∷ cut) = (n - m) ∷ differences counts cut

-- for each process, how many of its events the cut hasn't
abbrev pub left_out : Events → Cut → List ℕ
left_out events cut = differences (map length events) cut
