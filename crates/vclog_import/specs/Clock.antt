-- The clocks of records: JSON objects from hosts to counters.
use Rattle.std.specs.Prelude.{ℕ, ◌^◌, Bool, true, not, ◌&&◌, ◌||◌, nat_lt, List, Option, None, Some}
use Rattle.std.specs.Prelude.{is_some, unwrap_or, option_and_then, if◌then◌else◌}
use Rattle.std.specs.Str.{is_utf8}
use Rattle.log_lines.specs.Names.{place_of}
use Rattle.serde_json.specs.Data.{Data, Members, no_members, member}
use Rattle.serde_json.specs.Find.{get_member, as_number, as_u64, as_object}
use Rattle.serde_json.specs.Read.{read}
use Rattle.vclog_import.specs.Lines.{Record}
use Rattle.vclog_import.specs.Hosts.{Host}

-- a number from 0 to 4294967295
abbrev pub counter : Data → Option ℕ
counter value = option_and_then (λ n. if nat_lt n (2 ^ 32) then Some n else None)
    (option_and_then as_u64 (as_number value))

abbrev pub are_counters : Members → Bool
are_counters no_members = true
are_counters (member key value rest) = is_some (counter value) && are_counters rest

-- the members where each is a counter
abbrev pub if_counters : Members → Option Members
if_counters members = if are_counters members then Some members else None

-- the value that `serde_json` reads in the text, which has to be UTF-8
unfoldable pub value_in : List ℕ → Option Data
value_in text = if is_utf8 text then read text else None

-- the clock that the text is: an object each of whose members is a counter. Of equal keys it has
-- the one that the reading keeps, the last.
unfoldable pub clock_in : List ℕ → Option Members
clock_in text = option_and_then if_counters (option_and_then as_object (value_in text))

-- the clock of a record that has one
abbrev pub clock_of : Record → Members
clock_of r = unwrap_or (clock_in r.clock) no_members

-- the counter of a host, and 0 where the clock has none
abbrev pub count_of : Members → Host → ℕ
count_of members host = unwrap_or (option_and_then counter (get_member host members)) 0

-- the key is one of the hosts, or its counter isn't positive
abbrev pub is_known : List Host → List ℕ → Data → Bool
is_known hosts key value =
    not (nat_lt 0 (unwrap_or (counter value) 0)) || is_some (place_of hosts key)

-- each key of a positive counter is one of the hosts
abbrev pub all_known : List Host → Members → Bool
all_known hosts no_members = true
all_known hosts (member key value rest) = is_known hosts key value && all_known hosts rest
