-- What the words ask for.
use Rattle.std.specs.Prelude.{ℕ, Bool, ◌||◌, List, Option, None, Some, is_some, option_map}
use Rattle.std.specs.Prelude.{option_and_then, codes, if◌then◌else◌}
use Rattle.std.specs.Str.{bytes_eq}
use Rattle.command_words.specs.declared.request.Task.{Task}
use Rattle.command_words.specs.declared.request.Task.TheVariants.{Read, Bench}
use Rattle.command_words.specs.declared.request.Form.{Form}
use Rattle.command_words.specs.declared.request.Form.TheVariants as form
use Rattle.command_words.specs.declared.request.Product.TheVariants.{Reports, Certificate}
use Rattle.command_words.specs.declared.request.Reporting.{Reporting}
use Rattle.command_words.specs.Rule.{Text, Given, given, is_used, value_of}
use Rattle.command_words.specs.Numbers.{workers_of, sizes_of}

-- the values of the positionals and options, as texts, and which flags stand
pub record Values : Type 0 where
  pub command : Option Text
  pub formula : Option Text
  pub workers : Option Text
  pub seed : Option Text
  pub procs : Option Text
  pub events : Option Text
  pub slice : Bool
  pub witness : Bool
  pub each_batch : Bool
  pub vclog : Bool
  pub merged : Bool

-- the values that the rule gives
abbrev pub values_of : Given → Values
values_of g = record {
  command = value_of (codes "command") g.uses;
  formula = value_of (codes "formula") g.uses;
  workers = value_of (codes "workers") g.uses;
  seed = value_of (codes "seed") g.uses;
  procs = value_of (codes "procs") g.uses;
  events = value_of (codes "events") g.uses;
  slice = is_used (codes "slice") g.uses;
  witness = is_used (codes "witness") g.uses;
  each_batch = is_used (codes "each-batch") g.uses;
  vclog = is_used (codes "vclog") g.uses;
  merged = is_used (codes "merged") g.uses;
}

-- what the flags ask for
abbrev pub reporting_of : Values → Reporting
reporting_of v = record {
  shown = record { slice = v.slice; witness = v.witness };
  each_batch = v.each_batch;
}

-- one of the three options of `bench` stands
abbrev pub has_sizes : Values → Bool
has_sizes v = is_some v.seed || is_some v.procs || is_some v.events

-- a flag stands
abbrev pub has_flags : Values → Bool
has_flags v = v.slice || v.witness || v.each_batch || v.vclog || v.merged

-- how the input is read; several logs have no records of two lines, and no reports batch by batch
abbrev pub form_of : Values → Option Form
form_of v = if v.merged then (if v.vclog || v.each_batch then None else Some form.Merged)
    else if v.vclog then Some form.Clocks else Some form.Text

-- `check` takes the flags, and none of the three options of `bench`
abbrev pub check_of : Values → Option Task
check_of v = if has_sizes v then None
    else option_map (λ f. Read (record { form = f; product = Reports (reporting_of v) }))
    (form_of v)

-- `certify` takes neither, and reads the text of one log
abbrev pub certify_of : Values → Option Task
certify_of v = if has_sizes v || has_flags v then None
    else Some (Read (record { form = form.Text; product = Certificate }))

-- `bench` takes no flag, and wants its three options
abbrev pub bench_of : Values → Option Task
bench_of v = if has_flags v then None
    else option_map Bench (sizes_of v.seed v.procs v.events)

abbrev pub task_of : Text → Values → Option Task
task_of command v = if bytes_eq command (codes "check") then check_of v
    else if bytes_eq command (codes "bench") then bench_of v
    else if bytes_eq command (codes "certify") then certify_of v
    else None

-- a command, its formula as it was given, and the number of workers
pub record Wanted : Type 0 where
  pub formula : Text
  pub workers : ℕ
  pub task : Task

abbrev pub wanted : Values → Option Wanted
wanted v = option_and_then (λ command. option_and_then (λ formula.
    option_and_then (λ task. option_and_then (λ workers.
    Some (record { formula = formula; workers = workers; task = task }))
    (workers_of v.workers)) (task_of command v)) v.formula) v.command

-- what the words ask for, and none exactly where they are refused
abbrev pub request_of : List Text → Option Wanted
request_of words = option_and_then (λ g. wanted (values_of g)) (given words)
