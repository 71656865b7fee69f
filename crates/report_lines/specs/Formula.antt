-- Canonical texts of formulas.
use Rattle.std.specs.Prelude.{◌≡◌, ℕ, Bool, false, ◌&&◌, List, codes, ◌++◌, Option, None, Some}
use Rattle.std.specs.Prelude.{is_none, if◌then◌else◌}
use Rattle.std.specs.Str.{bytes_eq}
use Rattle.rctl_grammar.specs.declared.tree.Tree.{Tree}
use Rattle.rctl_grammar.specs.Grammar.{Disjunction}
use Rattle.rctl_grammar.specs.Machine.{read}
use Rattle.rctl_grammar.specs.Shape.{shape_of, shape_disjunction}
use Rattle.rctl_lexer.specs.Lexing.{lex}
use Rattle.rctl_round_trip.specs.PassedOn.{IsReadAs, long_fault}
use Rattle.rctl_print.specs.Canonical.{canonical}

-- the text is read, however long it is, and what was read is printed as the text
pub record IsCanonical (text : List ℕ) : Type 0 where
  pub tree : Tree
  pub read : IsReadAs text tree
  pub printed : canonical (shape_of tree) ≡ text

-- whether a formula is printed as the text
abbrev pub prints_as : Option Disjunction → List ℕ → Bool
prints_as None text = false
prints_as (Some d) text = bytes_eq (canonical (shape_disjunction d)) text

-- the test of the same
unfoldable pub is_canonical : List ℕ → Bool
is_canonical text = is_none (long_fault text) && prints_as (read (lex text).tokens) text
