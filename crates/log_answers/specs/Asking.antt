-- What is asked of a log, and how far its check has come.
use Rattle.std.specs.Prelude.{ℕ, Bool, List}
use Rattle.call_options.specs.declared.sizes.Sizes.{Sizes}
use Rattle.log_rules.specs.Judgement.{Prefix, Judgement}
use Rattle.reported_log.specs.Aims.{Aim}

-- what a log is checked for, and whether each batch has a report of its own
pub record Asking : Type 0 where
  pub aim : Aim
  pub each : Bool

abbrev pub asking_of : (aim : Aim) → (each : Bool) → Asking
asking_of aim each = record { aim = aim; each = each }

-- the judgement so far, and the text that was written
pub record Progress : Type 0 where
  pub judgement : Judgement
  pub text : List ℕ

abbrev pub progress_of : (judgement : Judgement) → (text : List ℕ) → Progress
progress_of judgement text = record { judgement = judgement; text = text }

-- the logs that have a report before this one
pub record Reached : Type 0 where
  pub before : List Prefix
  pub log : Prefix

abbrev pub reached_of : (before : List Prefix) → (log : Prefix) → Reached
reached_of before log = record { before = before; log = log }

-- a log of these sizes that is made for a bench, and what it is checked for
pub record Summing : Type 0 where
  pub aim : Aim
  pub log : Prefix
  pub sizes : Sizes

abbrev pub summing_of : (aim : Aim) → (log : Prefix) → (sizes : Sizes) → Summing
summing_of aim log sizes = record { aim = aim; log = log; sizes = sizes }
