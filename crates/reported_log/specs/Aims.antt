-- What a log is checked for: a formula, what its reports show, and the watches that it may name.
use Rattle.std.specs.Prelude.{ℕ, List}
use Rattle.run_model.specs.Run.{Name, Watches}
use Rattle.rctl_class.specs.Nodes.{Node, node_of, formula_of}
use Rattle.report.specs.declared.report.Report.{Report}
use Rattle.call_options.specs.declared.shown.Shown.{Shown}
use Rattle.answer_report.specs.PassedOn.{Asked, IsReportOf}
use Rattle.stated_formula.specs.declared.formula.Stated.{Stated}
use Rattle.log_rules.specs.Judgement.{Prefix, Rules}
use Rattle.log_check.specs.Aims as log_aims
use Rattle.log_check.specs.Checked as log_checked
pub use Rattle.log_check.specs.Aims.{Says, said_by, names_of, watches_of, AreWatches, unknown_name}

-- a formula by its nodes, with what is asked of it, and the watches that were handed in, by their
-- names
pub record Aim : Type 0 where
  pub node : Node
  pub text : List ℕ
  pub shown : Shown
  pub names : List Name
  pub watches : Watches

-- what the log is taken for
abbrev pub taken_for : Aim → log_aims.Aim
taken_for aim = record {
  node = aim.node;
  text = aim.text;
  names = aim.names;
  watches = aim.watches;
}

-- what the reports are asked for
abbrev pub asked_of : Aim → Asked
asked_of aim = record {
  formula = formula_of aim.node;
  text = aim.text;
  slice = aim.shown.slice;
  witness = aim.shown.witness;
}

-- names are judged by the formula and the watches, and batches by the formula's counters, their
-- clocks and their messages
abbrev pub rules_of : Aim → Rules
rules_of aim = log_aims.rules_of (taken_for aim)

-- what is asked of a formula that was read and classified
abbrev pub aim_of : Stated → Shown → List Name → Watches → Aim
aim_of s shown names watches = record {
  node = node_of s.formula.tree;
  text = s.text;
  shown = shown;
  names = names;
  watches = watches;
}

-- the formula is true at the initial cut of the run so far
abbrev pub IsTrueSoFar : Aim → Prefix → Type 0
IsTrueSoFar aim so_far = log_checked.IsTrueSoFar (taken_for aim) so_far

-- the report on the log so far
abbrev pub IsReportFor : Aim → Prefix → Report → Type 0
IsReportFor aim so_far report =
    IsReportOf (asked_of aim) so_far.header so_far.batches aim.watches report
