-- The numbers among the values.
use Rattle.std.specs.Prelude.{ℕ, ◌-◌, ◌^◌, ◌&&◌, nat_le, Option, None, Some, option_and_then}
use Rattle.std.specs.Prelude.{if◌then◌else◌}
use Rattle.pota_base.specs.Number.{number_at, whole}
use Rattle.pota_base.specs.Limits.{most_events, most_processes, most_workers}
use Rattle.command_words.specs.Rule.{Text}
use Rattle.call_options.specs.declared.sizes.Sizes.{Sizes}

-- the number of 64 bits that the whole text spells, in decimal digits without a sign or a leading
-- zero, where it is in this range
abbrev pub number : ℕ → ℕ → Text → Option ℕ
number low high text =
    option_and_then (λ n. if nat_le low n && nat_le n high then Some n else None)
    (whole (number_at (2 ^ 64 - 1) text))

-- 1 to 16 workers, and one where the words say nothing of them
abbrev pub workers_of : Option Text → Option ℕ
workers_of None = Some 1
workers_of (Some text) = number 1 most_workers text

-- the number of a value that must be there
abbrev pub needed : ℕ → ℕ → Option Text → Option ℕ
needed low high text = option_and_then (number low high) text

-- any seed, 1 to 32 processes, and at most 50,000 events
abbrev pub sizes_of : Option Text → Option Text → Option Text → Option Sizes
sizes_of seed procs events = option_and_then (λ s. option_and_then (λ p. option_and_then (λ e.
    Some (record { seed = s; procs = p; events = e }))
    (needed 0 most_events events)) (needed 1 most_processes procs)) (needed 0 (2 ^ 64 - 1) seed)
