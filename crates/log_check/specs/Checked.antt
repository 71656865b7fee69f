-- What a check leaves behind: a log as it was observed, and the formula on it.
use Rattle.std.specs.Prelude.{◌≡◌, ◌↔◌, []}
use Rattle.run_model.specs.Cut.{initial}
use Rattle.run_model.specs.Meaning.{Sat}
use Rattle.run_model.specs.Run.{Run, run_of, clocks_of}
use Rattle.rctl_class.specs.Nodes.{node_of, formula_of}
use Rattle.rctl_parts.specs.Pieces.{disjuncts_of}
use Rattle.rctl_parts.specs.Spelled.{disjunction_of}
use Rattle.rctl_names.specs.Resolving.{numbered_disjuncts}
use Rattle.part_pulls.specs.declared.observed.Observed.{Observed}
use Rattle.part_pulls.specs.Observing.{AreAnswers, clocks_seen, run_seen, names_seen}
use Rattle.log_rules.specs.Judgement.{Prefix}
use Rattle.log_rules.specs.SoFar.{trace_so_far}
use Rattle.log_check.specs.declared.checked.CheckedLog.{CheckedLog}
use Rattle.log_intake.specs.Taking.{trace_after}
use Rattle.log_check.specs.Aims.{Aim, reading_of}

-- the run of a log so far, with what the watches say
abbrev pub run_so_far : Aim → Prefix → Run
run_so_far aim log = run_of (trace_so_far log.header log.batches) aim.watches

-- the formula is true at the initial cut of the run so far
abbrev pub IsTrueSoFar : Aim → Prefix → Type 0
IsTrueSoFar aim log =
    Sat (run_so_far aim log) (formula_of aim.node)
    (initial (clocks_of (trace_so_far log.header log.batches)))

-- the disjuncts are true at the initial cut of what was observed
abbrev pub IsTrueOn : Aim → CheckedLog → Type 0
IsTrueOn aim checked =
    Sat (run_seen checked.seen (reading_of aim))
    (disjunction_of (names_seen checked.seen (reading_of aim)) (disjuncts_of checked.disjuncts))
    (initial (clocks_seen checked.seen))

-- the trace of a log, and no watches
abbrev pub observed_alone : Prefix → Observed
observed_alone log = record { trace = trace_after log; watch_process = []; watch_rows = [] }

-- the trace of this log was observed, for the aim's formula and watches
pub record IsCheckedLog (aim : Aim) (log : Prefix) (checked : CheckedLog) : Type 0 where
  pub trace : checked.seen.trace ≡ trace_after log
  -- the formula, and its text
  pub node : node_of checked.stated.formula.tree ≡ aim.node
  pub text : checked.stated.text ≡ aim.text
  -- the disjuncts are those of the formula, in the order of its text
  pub split : disjuncts_of checked.disjuncts ≡ numbered_disjuncts log.header aim.names aim.node
  -- without watches nothing but the trace was observed
  pub alone : aim.names ≡ [] → checked.seen ≡ observed_alone log
  -- what the watches answered to the states of the log
  pub watches : AreAnswers checked.seen (reading_of aim)
  -- the disjuncts are true exactly where the formula is
  pub truth : IsTrueOn aim checked ↔ IsTrueSoFar aim log
