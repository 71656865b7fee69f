-- A formula's refusal as that of its question.
use Rattle.std.specs.Prelude.{ℕ}
use Rattle.pota_base.specs.declared.fault.Refused.{Refused}
use Rattle.pota_base.specs.declared.fault.Refused.TheVariants as refused
use Rattle.rctl_grammar.specs.declared.fault.FormulaFault.{FormulaFault}
use Rattle.question_forms.specs.declared.question.QuestionFault.{QuestionFault}
use Rattle.question_forms.specs.declared.question.QuestionFault.TheVariants as fault

-- where the formula is from that byte on
abbrev pub refused_from : ℕ → Refused FormulaFault → Refused QuestionFault
refused_from from (refused.Fault f) = refused.Fault (fault.Formula from f)
refused_from from refused.NoMemory = refused.NoMemory
