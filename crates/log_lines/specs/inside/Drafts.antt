-- What the readings within a line gave, where names are slices of the line.
use Rattle.std.specs.Prelude.{ℕ, List, Option, None, Some}
use Rattle.std.specs.Borrow.{Bor}
use Rattle.log_lines.specs.declared.draft.Setting.{Setting}
use Rattle.log_lines.specs.declared.draft.ActionDraft.{ActionDraft}
use Rattle.log_lines.specs.Names.{Name}
use Rattle.log_lines.specs.Spelling.{NamedValue, Action}
use Rattle.log_lines.specs.Drafts.{value_of, action_of}

abbrev pub value_seen : Option (Setting × Bor (List ℕ)) → Option (NamedValue × List ℕ)
value_seen None = None
value_seen (Some v) = Some (value_of v.0, v.1.now)

abbrev pub message_seen : Option (Bor (List ℕ) × ℕ × Bor (List ℕ)) → Option (Name × ℕ × List ℕ)
message_seen None = None
message_seen (Some m) = Some (m.0.now, m.1, m.2.now)

abbrev pub action_seen : Option (ActionDraft × Bor (List ℕ)) → Option (Action × List ℕ)
action_seen None = None
action_seen (Some a) = Some (action_of a.0, a.1.now)
