-- What the code's values say, where names are slices of the line.
use Rattle.std.specs.Prelude.{◌≡◌, ℕ, List, map, Option, None, Some, Result, Ok, Err}
use Rattle.std.specs.Borrow.{Bor}
use Rattle.log_lines.specs.declared.draft.LineError.{LineError}
use Rattle.log_lines.specs.declared.draft.LineError.TheVariants as error
use Rattle.log_lines.specs.declared.draft.Setting.{Setting}
use Rattle.log_lines.specs.declared.draft.ActionDraft.{ActionDraft}
use Rattle.log_lines.specs.declared.draft.ActionDraft.TheVariants as drafted
use Rattle.log_lines.specs.declared.draft.EventDraft.{EventDraft}
use Rattle.log_lines.specs.declared.draft.VarsDraft.{VarsDraft}
use Rattle.log_lines.specs.Names.{Name}
use Rattle.log_lines.specs.Spelling.{NamedValue, Action, Internal, Send, Receive, EventLine}
use Rattle.log_lines.specs.Spelling.{VarsLine}

-- ---- what a reader of bytes gave

abbrev pub rest_seen : Option (Bor (List ℕ)) → Option (List ℕ)
rest_seen None = None
rest_seen (Some rest) = Some rest.now

abbrev pub name_seen : Option (Bor (List ℕ) × Bor (List ℕ)) → Option (Name × List ℕ)
name_seen None = None
name_seen (Some n) = Some (n.0.now, n.1.now)

abbrev pub value_of : Setting → NamedValue
value_of s = record { name = s.name.now; value = s.value }

abbrev pub values_of : List Setting → List NamedValue
values_of settings = map value_of settings

abbrev pub texts_of : List (Bor (List ℕ)) → List Name
texts_of names = map (λ n. n.now) names

abbrev pub action_of : ActionDraft → Action
action_of drafted.Internal = Internal
action_of (drafted.Send to id) = Send to.now id
action_of (drafted.Receive sender id) = Receive sender.now id

abbrev pub event_of : EventDraft → EventLine
event_of e = record {
  actor = e.actor.now;
  clock = e.clock.items;
  action = action_of e.action;
  assigns = values_of e.settings.items;
}

abbrev pub vars_of : VarsDraft → VarsLine
vars_of v = record { process = v.process.now; variables = values_of v.settings.items }

-- ---- what a function that may run out of memory returned, seen by `view`, is what reading gives

abbrev pub Fails : {Y : Type 0} → LineError → Option Y → Type 0
Fails error.NoMemory read = Unit {0}
Fails error.Malformed read = read ≡ None

abbrev pub Gives : {X Y : Type 0} → (X → Y) → Result X LineError → Option Y → Type 0
Gives view (Ok x) read = read ≡ Some (view x)
Gives view (Err e) read = Fails e read
