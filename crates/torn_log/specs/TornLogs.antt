-- A log of one batch up to that cut.
use Rattle.event_log.specs.LogText.{log_items}
use Rattle.torn_log.specs.declared.torn.Torn.{Torn}
use Rattle.torn_log.specs.declared.torn.TornLog.{TornLog}

-- by its items
abbrev pub as_torn : TornLog → Torn
as_torn t = record { items = log_items t.log; left_out = t.left_out }
