-- The first fault of a text and the items that it gives, looked up over all its bytes. Each byte is
-- a moment, and the bytes before it, the newest first, are its past.
use Rattle.std.specs.Prelude.{◌≡◌, ℕ, ◌+◌, Bool, not, ◌&&◌, ◌||◌, ◌==◌, nat_lt, nat_le, List, []}
use Rattle.std.specs.Prelude.{◌∷◌, ◌++◌, length, slice_index, Option, None, Some, is_some}
use Rattle.std.specs.Prelude.{if◌then◌else◌}
use Rattle.std.specs.Option.{option_map}
use Rattle.pota_base.specs.Limits.{longest_line, longest_log}
use Rattle.log_lines.specs.Reading.{choose}
use Rattle.event_log.specs.declared.item.LogCode.{LogCode}
use Rattle.event_log.specs.declared.item.LogCode.TheVariants as code
use Rattle.event_log.specs.declared.item.LogFault.{LogFault}
use Rattle.event_log.specs.declared.item.Item.{Item}
use Rattle.event_log.specs.declared.item.Fed.{Fed}
use Rattle.event_log.specs.Before.{heading_of, is_ended, Told, gives, refuses, told}
use Rattle.event_log.specs.LogText.{onto}
use Rattle.event_log.specs.Moments.{line_now, lines}

-- the first line of a version, with its line feed
abbrev pub heading_line : ℕ → List ℕ
heading_line version = heading_of version ++ 10 ∷ []

-- Whether the byte may stand at this place of the first line. The first lines of both versions
-- differ in one place alone, so that what such bytes make begins one of them.
abbrev pub is_heading_byte : ℕ → ℕ → Bool
is_heading_byte place b =
    b == slice_index (heading_line 1) place || b == slice_index (heading_line 2) place

-- The fault at a byte, by the number of bytes before it, whether the `end` line was completed, and
-- the bytes of its line before it: the first that is there.
unfoldable pub byte_fault : ℕ → Bool → ℕ → ℕ → Option LogCode
byte_fault total ended width b =
    if nat_le longest_log total then Some code.LogTooLong
    else if nat_lt total 11 && not (is_heading_byte total b) then Some code.BadHeader
    else if ended then Some code.Trailing
    else if nat_le longest_line width && not (b == 10) then Some code.LineTooLong
    else None

-- what a line feed gives: what its line gives
abbrev pub feed_told : ℕ → List ℕ → Told
feed_told b past = if b == 10 then told (lines past) (line_now past) else gives []

-- what the byte gives after its past
abbrev pub moment_told : ℕ → List ℕ → Told
moment_told b past =
    choose (byte_fault (length past) (is_ended (lines past)) (length (line_now past)) b) refuses
    (feed_told b past)

-- a fault's line is 1 plus the line feeds before it
abbrev pub placed : List ℕ → LogCode → LogFault
placed past fault = record { code = fault; line = length (lines past) + 1 }

-- the first fault of the first moment that has one
unfoldable pub first_fault : List ℕ → Option LogFault
first_fault [] = None
first_fault (b ∷ past) =
    choose (first_fault past) (λ f. Some f) (option_map (placed past) (moment_told b past).fault)

-- the items of all moments up to the first that has a fault, which may give some before it
unfoldable pub items : List ℕ → List Item
items [] = []
items (b ∷ past) =
    if is_some (first_fault past) then items past else items past ++ (moment_told b past).items

-- the fault where the input ends there: the first one, else that the `end` line wasn't completed
abbrev pub end_fault : List ℕ → Option LogFault
end_fault past =
    choose (first_fault past) (λ f. Some f) (if is_ended (lines past) then None
    else Some (placed past code.Truncated))

-- the same over bytes in their order
abbrev pub fault_of : List ℕ → Option LogFault
fault_of bytes = first_fault (onto bytes [])

abbrev pub items_in : List ℕ → List Item
items_in bytes = items (onto bytes [])

-- what a piece gave between two moments: the items between, and the first fault up to now
pub record FedIs (fed : Fed) (past now : List ℕ) : Type 0 where
  pub items_are : items now ≡ items past ++ fed.items
  pub fault_is : fed.fault ≡ first_fault now
