-- Reading a line from left to right: what stands at the front of the bytes, with the bytes after
-- it, or None where it does not stand there. What was read before stands in the argument `front`.
use Rattle.std.specs.Prelude.{ℕ, zero, suc, ◌+◌, ◌-◌, ◌^◌, Bool, ◌&&◌, ◌==◌, nat_lt, nat_le, List}
use Rattle.std.specs.Prelude.{[], ◌∷◌, ◌++◌, length, take, drop, slice_index, Option, None, Some}
use Rattle.std.specs.Prelude.{is_some, if◌then◌else◌}
use Rattle.pota_base.specs.Limits.{longest_name, most_processes, most_variables}
pub use Rattle.pota_base.specs.Number.{◌>>=◌, number_at, signed_at}
use Rattle.log_lines.specs.Names.{Name, is_name_start, is_name_byte, are_distinct}
use Rattle.log_lines.specs.Spelling.{NamedValue, Action, Internal, Send, Receive, EventLine}
use Rattle.log_lines.specs.Spelling.{VarsLine, names_of}

-- ---- words and names

-- what follows this text
unfoldable pub text_at : List ℕ → List ℕ → Option (List ℕ)
text_at [] bytes = Some bytes
text_at (t ∷ ts) [] = None
text_at (t ∷ ts) (b ∷ bs) = if b == t then text_at ts bs else None

-- how many bytes at the front pass the test
abbrev pub front : (ℕ → Bool) → List ℕ → ℕ
front test [] = 0
front test (b ∷ bs) = if test b then front test bs + 1 else 0

abbrev pub name_of : ℕ → List ℕ → Option (Name × List ℕ)
name_of k bytes =
    if (nat_lt 0 k && nat_le k longest_name) && is_name_start (slice_index bytes 0)
    then Some (take k bytes, drop k bytes) else None

-- the longest run of letters, digits and underscores, where it is a name
unfoldable pub name_at : List ℕ → Option (Name × List ℕ)
name_at bytes = name_of (front is_name_byte bytes) bytes

-- ` NAME`
unfoldable pub spaced_name_at : List ℕ → Option (Name × List ℕ)
spaced_name_at bytes = text_at (32 ∷ []) bytes >>= name_at

-- ` NAME=INT`
unfoldable pub value_at : List ℕ → Option (NamedValue × List ℕ)
value_at bytes = do
  name ← spaced_name_at bytes
  after ← text_at (61 ∷ []) name.1
  value ← signed_at after
  Some (record { name = name.0; value = value.0 }, value.1)

-- ---- lists, to the end of the line

-- at most `most` items more, each read by `item_at`
unfoldable pub items_from : {A : Type 0} → (List ℕ → Option (A × List ℕ)) → ℕ → List A → List ℕ
    → Option (List A)
items_from item_at zero front bytes = if length bytes == 0 then Some front else None
items_from item_at (suc most) front bytes =
    if length bytes == 0 then Some front
    else (item_at bytes >>= λ x. items_from item_at most (front ++ x.0 ∷ []) x.1)

abbrev pub names_from : ℕ → List Name → List ℕ → Option (List Name)
names_from most front bytes = items_from spaced_name_at most front bytes

abbrev pub values_from : ℕ → List NamedValue → List ℕ → Option (List NamedValue)
values_from most front bytes = items_from value_at most front bytes

-- at most 16 values, of distinct variables
unfoldable pub values_at : List ℕ → Option (List NamedValue)
values_at bytes = do
  values ← values_from most_variables [] bytes
  if are_distinct (names_of values) then Some values else None

-- what follows from the value, where there is one, else this
abbrev pub choose : {A B : Type 0} → Option A → (A → B) → B → B
choose None some none = none
choose (Some x) some none = some x

-- the numbers behind commas, as far as they go; `fuel` bounds their count
unfoldable pub clock_from : ℕ → List ℕ → List ℕ → Option (List ℕ × List ℕ)
clock_from zero front bytes = Some (front, bytes)
clock_from (suc fuel) front bytes =
    choose (text_at (44 ∷ []) bytes)
    (λ after. number_at (2 ^ 32 - 1) after >>= λ n. clock_from fuel (front ++ n.0 ∷ []) n.1)
    (Some (front, bytes))

-- the counts of a clock or a cut
unfoldable pub clock_at : List ℕ → Option (List ℕ × List ℕ)
clock_at bytes = number_at (2 ^ 32 - 1) bytes >>= λ n. clock_from (length n.1) (n.0 ∷ []) n.1

-- the clock of an event, which has no counts where it is left out
unfoldable pub event_clock_at : List ℕ → Option (List ℕ × List ℕ)
event_clock_at bytes =
    choose (text_at (126 ∷ []) bytes) (λ after. Some ([], after)) (clock_at bytes)

-- ---- whole lines

-- ` NAME ID`
unfoldable pub message_at : List ℕ → Option (Name × ℕ × List ℕ)
message_at bytes = do
  peer ← spaced_name_at bytes
  after ← text_at (32 ∷ []) peer.1
  id ← number_at (2 ^ 64 - 1) after
  Some (peer.0, id.0, id.1)

-- ` NAME ID` behind `send` and behind `recv`
abbrev pub send_at : List ℕ → Option (Action × List ℕ)
send_at bytes = message_at bytes >>= λ m. Some (Send m.0 m.1, m.2)

abbrev pub receive_at : List ℕ → Option (Action × List ℕ)
receive_at bytes = message_at bytes >>= λ m. Some (Receive m.0 m.1, m.2)

-- `int`, `send NAME ID` or `recv NAME ID`
unfoldable pub action_at : List ℕ → Option (Action × List ℕ)
action_at bytes =
    choose (text_at (105 ∷ 110 ∷ 116 ∷ []) bytes) (λ rest. Some (Internal, rest))
    (choose (text_at (115 ∷ 101 ∷ 110 ∷ 100 ∷ []) bytes) send_at
    (text_at (114 ∷ 101 ∷ 99 ∷ 118 ∷ []) bytes >>= receive_at))

unfoldable pub event_in : List ℕ → Option EventLine
event_in line = do
  rest ← text_at (101 ∷ 118 ∷ []) line
  actor ← spaced_name_at rest
  after ← text_at (32 ∷ []) actor.1
  clock ← event_clock_at after
  space ← text_at (32 ∷ []) clock.1
  action ← action_at space
  assigns ← values_at action.1
  Some (record { actor = actor.0; clock = clock.0; action = action.0; assigns = assigns })

unfoldable pub vars_in : List ℕ → Option VarsLine
vars_in line = do
  rest ← text_at (118 ∷ 97 ∷ 114 ∷ 115 ∷ []) line
  process ← spaced_name_at rest
  variables ← values_at process.1
  if nat_lt 0 (length variables)
      then Some (record { process = process.0; variables = variables }) else None

unfoldable pub procs_in : List ℕ → Option (List Name)
procs_in line = do
  rest ← text_at (112 ∷ 114 ∷ 111 ∷ 99 ∷ 115 ∷ []) line
  names ← names_from most_processes [] rest
  if nat_lt 0 (length names) && are_distinct names then Some names else None

-- whether the line begins with `vars`
abbrev pub begins_vars : List ℕ → Bool
begins_vars line = is_some (text_at (118 ∷ 97 ∷ 114 ∷ 115 ∷ []) line)
