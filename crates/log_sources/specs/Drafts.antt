-- The log that items spell. All its events are in one batch.
use Rattle.std.specs.Prelude.{List, [], ◌∷◌, ◌++◌}
use Rattle.event_log.specs.declared.item.Item.{Item}
use Rattle.event_log.specs.declared.item.Item.TheVariants as item
use Rattle.event_log.specs.declared.log.Header.{Header}
use Rattle.event_log.specs.declared.log.Log.{Log}
use Rattle.log_sources.specs.declared.draft.Draft.{Draft}

abbrev pub no_header : Header
no_header = record { version = 1; procs = []; vars = []; var_lines = [] }

abbrev pub empty_draft : Draft
empty_draft = record { header = no_header; events = [] }

-- one item more
abbrev pub with_item : Draft → Item → Draft
with_item draft (item.Header h) = record draft { header = h }
with_item draft (item.Event e) = record draft { events = draft.events ++ e ∷ [] }
with_item draft item.BatchEnd = draft
with_item draft item.End = draft

unfoldable pub with_items : Draft → List Item → Draft
with_items draft [] = draft
with_items draft (i ∷ items) = with_items (with_item draft i) items

abbrev pub log_of : Draft → Log
log_of draft = record { header = draft.header; batches = draft.events ∷ [] }

-- the log of these items
abbrev pub log_in : List Item → Log
log_in items = log_of (with_items empty_draft items)
