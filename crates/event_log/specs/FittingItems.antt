-- Items that are those of a log, as far as they go.
use Rattle.std.specs.Prelude.{ℕ, ◌+◌, ◌<◌, List, [], ◌∷◌}
use Rattle.pota_base.specs.Limits.{most_events}
use Rattle.event_log.specs.declared.item.Item.{Item}
use Rattle.event_log.specs.declared.item.Item.TheVariants as item
use Rattle.event_log.specs.declared.log.Header.{Header}
use Rattle.event_log.specs.LogText.{HeaderFits, EventFits}

-- items of a log with this header behind so many events: each event fits the header, and there are
-- at most 50,000
abbrev pub FitFrom : Header → ℕ → List Item → Type 0
FitFrom h events [] = Unit {0}
FitFrom h events (item.Header other ∷ items) = ⊥
FitFrom h events (item.Event e ∷ items) =
    EventFits h e × (events < most_events) × FitFrom h (events + 1) items
FitFrom h events (item.BatchEnd ∷ items) = FitFrom h events items
FitFrom h events (item.End ∷ items) = FitFrom h events items

-- items of a log from its header on
abbrev pub FitFirst : List Item → Type 0
FitFirst [] = Unit {0}
FitFirst (item.Header h ∷ items) = HeaderFits h × FitFrom h 0 items
FitFirst (item.Event e ∷ items) = ⊥
FitFirst (item.BatchEnd ∷ items) = ⊥
FitFirst (item.End ∷ items) = ⊥
