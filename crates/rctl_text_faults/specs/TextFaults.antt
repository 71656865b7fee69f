-- The faults that a text has, and the first of them.
use Rattle.std.specs.Prelude.{◌≡◌, ℕ, ◌<◌, ◌⊎◌, List, length}
use Rattle.pota_base.specs.Limits.{longest_formula}
use Rattle.rctl_grammar.specs.declared.fault.FormulaCode.{FormulaCode}
use Rattle.rctl_grammar.specs.declared.fault.FormulaCode.TheVariants as code
use Rattle.rctl_grammar.specs.declared.fault.FormulaFault.{FormulaFault}
use Rattle.rctl_lexer.specs.Lexing.{lex}
use Rattle.rctl_laws.specs.Table.{HasFault, Precedes}

-- the text has such a fault at that place: it is too long, or its tokens have the fault
abbrev pub TextHasFault : List ℕ → FormulaCode → ℕ → Type 0
TextHasFault text code.TooLong at = (longest_formula < length text) × (at ≡ longest_formula)
TextHasFault text c at = HasFault (lex text).tokens (lex text).end c at

-- too long comes before all others, and each of these is the other or comes before it by its place,
-- and at one place by its rank
abbrev pub ComesFirst : FormulaFault → FormulaCode → ℕ → Type 0
ComesFirst fault code.TooLong at = fault.code ≡ code.TooLong
ComesFirst fault c at = (fault.code ≡ code.TooLong) ⊎ Precedes fault c at

-- the text has the fault, and none that it has comes before it
pub record IsFirstFault (text : List ℕ) (fault : FormulaFault) : Type 0 where
  pub stands : TextHasFault text fault.code fault.place
  pub first : (c : FormulaCode) (at : ℕ) → TextHasFault text c at → ComesFirst fault c at
