-- Kept events by the counts of the kept events of each process.
use Rattle.std.specs.Prelude.{ℕ, zero, suc, ◌+◌, ◌==◌, List, [], ◌∷◌, ◌++◌, map, slice_index_or}
use Rattle.std.specs.Prelude.{if◌then◌else◌}
use Rattle.std.specs.List.{filter}
use Rattle.event_log.specs.declared.log.Kind.TheVariants as kind
use Rattle.event_log.specs.declared.log.Event.{Event}
use Rattle.kept_log.specs.declared.numbers.Numbers.{Numbers}
use Rattle.kept_log.specs.declared.counts.Row.{Row}
use Rattle.kept_log.specs.inside.Numbered.{is_kept, is_open, assigns_by}

-- ---- the counts

-- a row of a process that has no events yet
abbrev pub first_row : ℕ → Row
first_row process = record { process = process; counts = 0 ∷ []; kept = 0 }

-- with one more kept or dropped event of the process
abbrev pub row_counted : Row → ℕ → Row
row_counted row kept = record row { counts = row.counts ++ kept ∷ []; kept = kept }

-- with the next event of the log
abbrev pub row_with : Numbers → Row → Event → Row
row_with numbers row e =
    if e.process == row.process
    then row_counted row (if is_kept numbers e then row.kept + 1 else row.kept)
    else row

unfoldable pub row_with_all : Numbers → Row → List Event → Row
row_with_all numbers row [] = row
row_with_all numbers row (e ∷ es) = row_with_all numbers (row_with numbers row e) es

-- for each number of the first events of a process, how many of these are kept
abbrev pub counts_of : Numbers → List Event → ℕ → List ℕ
counts_of numbers es process = (row_with_all numbers (first_row process) es).counts

-- of each of so many processes
unfoldable pub all_counts : Numbers → List Event → ℕ → List (List ℕ)
all_counts numbers es zero = []
all_counts numbers es (suc n) = all_counts numbers es n ++ counts_of numbers es n ∷ []

-- ---- the events

-- how many events of a process a clock counts, of those that are kept
abbrev pub count_at : List (List ℕ) → ℕ → ℕ → ℕ
count_at counts process a = slice_index_or (slice_index_or counts process []) a 0

-- from process j on
abbrev pub clock_by : List (List ℕ) → ℕ → List ℕ → List ℕ
clock_by counts j [] = []
clock_by counts j (a ∷ clock) = count_at counts j a ∷ clock_by counts (j + 1) clock

-- an event as it is kept
abbrev pub event_by : Numbers → List (List ℕ) → Event → Event
event_by numbers counts e =
    record e {
      clock = clock_by counts 0 e.clock;
      kind = if is_open numbers e then e.kind else kind.Internal;
      assigns = assigns_by numbers e.process e.assigns;
    }

abbrev pub events_by : Numbers → List (List ℕ) → List Event → List Event
events_by numbers counts es = map (event_by numbers counts) (filter (is_kept numbers) es)
