-- Inside: a formula's parts with numbers in place of names, part by part.
use Rattle.std.specs.Prelude.{◌≡◌, List, [], map, Option, None, Some}
use Rattle.rctl_grammar.specs.declared.tree.Operator.TheVariants as operator
use Rattle.rctl_parts.specs.declared.expr.LocalSide.TheVariants as number_side
use Rattle.rctl_parts.specs.Exprs as expr
use Rattle.rctl_parts.specs.Pieces as piece
use Rattle.rctl_parts.specs.MadeFor as made
use Rattle.rctl_class.specs.declared.named.NamedSide.TheVariants as named_side
use Rattle.rctl_class.specs.NamedParts as named
use Rattle.rctl_grammar.specs.declared.fault.FormulaFault.{FormulaFault}
use Rattle.pota_base.specs.declared.fault.Refused.{Refused}
use Rattle.rctl_parse.specs.Reading.{Faults}
use Rattle.rctl_parts.specs.Spelled.{Names}
use Rattle.rctl_parts.specs.declared.part.Part.{Part}
use Rattle.rctl_names.specs.declared.process.Process.{Process}
use Rattle.rctl_names.specs.declared.scope.Scope.{Scope}
use Rattle.rctl_names.specs.declared.watches.Watches.{Watches}
use Rattle.rctl_names.specs.Numbers.{number}
use Rattle.rctl_names.specs.inside.Numbers.{LocalName, local_names}
use Rattle.rctl_names.specs.inside.Numbers.{all_local_names, local_fault, local_after, part_fault}
use Rattle.rctl_names.specs.inside.Numbers.{operand_fault, disjuncts_fault, part_after}
use Rattle.rctl_names.specs.inside.Numbers.{operand_after}
use Rattle.rctl_names.specs.inside.Numbers.{disjuncts_after}
use Rattle.rctl_names.specs.inside.Seen.{names_in, variables_on, watched_in}
use Rattle.rctl_names.specs.Resolving.{expr_in, exprs_in, piece_in, pieces_in}

-- names without a fault, and the watches behind them
abbrev pub AreFree : Process → Watches → Watches → List LocalName → Type 0
AreFree on old new us =
    (local_fault (variables_on on) on.number (watched_in old) us ≡ None)
    × (watched_in new ≡ local_after on.number (watched_in old) us)

-- the expression, with numbers
abbrev pub IsExprIn : Process → Watches → Watches → named.Expr → expr.Expr → Type 0
IsExprIn on old new e made =
    AreFree on old new (local_names e) × (made ≡ expr_in (variables_on on) old.names.now e)

-- the members, with numbers
abbrev pub AreExprsIn : Process → Watches → Watches → named.Exprs → expr.Exprs → Type 0
AreExprsIn on old new es made =
    AreFree on old new (all_local_names es) × (made ≡ exprs_in (variables_on on) old.names.now es)

-- the first fault of the names of an expression over a process
abbrev pub fault_on : Process → Watches → List LocalName → Option FormulaFault
fault_on on watches us = local_fault (variables_on on) on.number (watched_in watches) us

-- a part, with numbers
abbrev pub IsPieceIn : Scope → Watches → Watches → named.NamedPiece → piece.Piece → Type 0
IsPieceIn scope old new p made =
    (part_fault (names_in scope old) (watched_in old) p ≡ None)
    × (watched_in new ≡ part_after (names_in scope old) (watched_in old) p)
    × (made ≡ piece_in (names_in scope old) p)

-- the first fault of the names of a part without watches
abbrev pub fault_in : Names → named.NamedPiece → Option FormulaFault
fault_in names p = part_fault names (record { names = []; on = [] }) p

-- a part without watches, with numbers
abbrev pub IsPartIn : Names → named.NamedPiece → Part → Type 0
IsPartIn names p made = (fault_in names p ≡ None) × (piece.piece_of made ≡ piece_in names p)

-- a stop for that fault
abbrev pub FaultsOf : Names → named.NamedPiece → Refused FormulaFault → Type 0
FaultsOf names p stop = Faults stop (λ f. fault_in names p ≡ Some f)

-- the parts of a conjunction, with numbers
abbrev pub ArePiecesIn : Scope → Watches → Watches → named.Pieces → piece.Pieces → Type 0
ArePiecesIn scope old new ps made =
    (operand_fault (names_in scope old) (watched_in old) ps ≡ None)
    × (watched_in new ≡ operand_after (names_in scope old) (watched_in old) ps)
    × (made ≡ pieces_in (names_in scope old) ps)

-- disjuncts, with numbers
abbrev pub AreDisjunctsIn : Scope → Watches → Watches → List (List named.NamedPiece)
    → List (List piece.Piece) → Type 0
AreDisjunctsIn scope old new ds made =
    (disjuncts_fault (names_in scope old) (watched_in old) ds ≡ None)
    × (watched_in new ≡ disjuncts_after (names_in scope old) (watched_in old) ds)
    × (made ≡ map (map (piece_in (names_in scope old))) ds)
