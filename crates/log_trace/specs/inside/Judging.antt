-- Inside: the line that closes a batch.
use Rattle.std.specs.Prelude.{Bool, true, false}
use Rattle.event_log.specs.declared.item.Item.{Item}
use Rattle.event_log.specs.declared.item.Item.TheVariants as item

-- the line that closes a batch, and whether it closes the log
abbrev pub end_item : (last : Bool) → Item
end_item false = item.BatchEnd
end_item true = item.End
