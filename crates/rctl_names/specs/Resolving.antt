-- The parts of a formula with numbers in the place of names.
-- ---- what each part becomes
use Rattle.std.specs.Prelude.{◌≡◌, ℕ, ◌≤◌, true, List, [], map, length, get_or, Option, None}
use Rattle.std.specs.Prelude.{Some}
use Rattle.run_model.specs.Run.{Name}
use Rattle.pota_base.specs.Limits.{most_variables}
use Rattle.event_log.specs.declared.log.Binding.{Binding}
use Rattle.event_log.specs.declared.log.Header.{Header}
use Rattle.event_log.specs.States.{IsHeader}
use Rattle.rctl_grammar.specs.declared.tree.Operator.TheVariants as operator
use Rattle.rctl_grammar.specs.declared.tree.Place.{Place}
use Rattle.rctl_parts.specs.declared.expr.LocalSide.{LocalSide}
use Rattle.rctl_parts.specs.declared.expr.LocalSide.TheVariants as number_side
use Rattle.rctl_parts.specs.Exprs as expr
use Rattle.rctl_parts.specs.Pieces as piece
use Rattle.rctl_parts.specs.Spelled.{Names, part_formulas}
use Rattle.rctl_parts.specs.MadeFor as made
use Rattle.rctl_parts.specs.MadeFor.{AreMadeFor}
use Rattle.rctl_class.specs.declared.named.NamedSide.{NamedSide}
use Rattle.rctl_class.specs.declared.named.NamedSide.TheVariants as named_side
use Rattle.rctl_class.specs.NamedParts as named
use Rattle.rctl_class.specs.Classed.{disjunct_formulas}
use Rattle.rctl_class.specs.Nodes.{Node}
use Rattle.rctl_class.specs.Walk.{disjuncts_from}
use Rattle.rctl_class.specs.Uses.{first_unknown}
use Rattle.rctl_names.specs.declared.scope.Scope.{Scope}
use Rattle.rctl_parts.specs.declared.part.Resolved.{Resolved}
use Rattle.rctl_names.specs.Numbers.{number, variables_of, known_in}
use Rattle.rctl_names.specs.Seen.{names_of}

-- the right side of a comparison
abbrev pub side_in : List Name → NamedSide → LocalSide
side_in variables (named_side.Number value) = number_side.Number value
side_in variables (named_side.Variable v) = number_side.Variable (number variables v.name)

abbrev mutual
  -- an expression over a process with these variables
  pub expr_in : List Name → List Name → named.Expr → expr.Expr
  expr_in variables watches (named.truth value) = expr.truth value
  expr_in variables watches (named.comparison left compare right) =
      expr.comparison (number variables left.name) compare (side_in variables right)
  expr_in variables watches (named.watched name) = expr.watch (number watches name.name)
  expr_in variables watches (named.negation e) = expr.negation (expr_in variables watches e)
  expr_in variables watches (named.conjunction es) =
      expr.conjunction (exprs_in variables watches es)
  expr_in variables watches (named.disjunction es) =
      expr.disjunction (exprs_in variables watches es)

  -- its members
  pub exprs_in : List Name → List Name → named.Exprs → expr.Exprs
  exprs_in variables watches named.no_expr = expr.none
  exprs_in variables watches (named.and_expr e es) =
      expr.more (expr_in variables watches e) (exprs_in variables watches es)

-- a local expression over a process or over none
abbrev pub local_in : Names → Option Place → named.Expr → piece.Atom
local_in names None e = piece.local None (expr_in [] names.watches e)
local_in names (Some p) e =
    piece.local (Some (number names.processes p.name))
    (expr_in (variables_of names p.name) names.watches e)

-- the number of a process, and that of one of its variables
abbrev pub process_in : Names → Place → ℕ
process_in names p = number names.processes p.name

abbrev pub variable_in : Names → Place → Place → ℕ
variable_in names p x = number (variables_of names p.name) x.name

abbrev mutual
  -- a part
  pub piece_in : Names → named.NamedPiece → piece.Piece
  piece_in names (named.local on e) = piece.atom (local_in names on e)
  piece_in names (named.at_most p q k) =
      piece.atom (piece.at_most (process_in names p) (process_in names q) k)
  piece_in names (named.at_least p q k) =
      piece.atom (piece.at_least (process_in names p) (process_in names q) k)
  piece_in names (named.never p q) = piece.atom piece.never
  piece_in names (named.diff_at_most p x q y k) =
      piece.atom (piece.diff_at_most (process_in names p) (variable_in names p x)
      (process_in names q) (variable_in names q y) k)
  piece_in names (named.diff_at_least p x q y k) =
      piece.atom (piece.diff_at_least (process_in names p) (variable_in names p x)
      (process_in names q) (variable_in names q y) k)
  piece_in names (named.temporal operator ps) = piece.temporal operator (pieces_in names ps)
  piece_in names (named.next p ps) =
      piece.temporal (operator.Ex (process_in names p)) (pieces_in names ps)

  -- the parts of an operand
  pub pieces_in : Names → named.Pieces → piece.Pieces
  pieces_in names named.no_piece = piece.none
  pieces_in names (named.and_piece p ps) = piece.more (piece_in names p) (pieces_in names ps)

-- ---- what one step gives

-- ---- what resolving gives

-- a header with few variables, and few watches
pub record CanResolve (header : Header) (watches : List Name) : Type 0 where
  pub fits : IsHeader header
  pub variables : (p : ℕ) → length (get_or header.vars p []) ≤ most_variables
  pub few : length watches ≤ 8

-- how many variables each process of a header has, and the process that each watch is on
abbrev pub scope_of : Header → List (Option ℕ) → made.Scope
scope_of header on =
    record { variables = map (λ (bs : List Binding). length bs) header.vars; watch_process = on }

-- disjuncts with the numbers of a header's names and of these watches
abbrev pub numbered_in : Header → List Name → List (List named.NamedPiece) → List (List piece.Piece)
numbered_in header watches ds = map (map (piece_in (names_of header watches))) ds

-- the disjuncts of a formula of the class, by the numbers of a header and of these watches
abbrev pub numbered_disjuncts : Header → List Name → Node → List (List piece.Piece)
numbered_disjuncts header watches n = numbered_in header watches (disjuncts_from true n)

-- the parts with numbers spell the very formulas of the parts with names, and are made for the
-- header and the watches
pub record IsResolved (header : Header) (watches : List Name) (ds : List (List named.NamedPiece))
    (resolved : Resolved) : Type 0 where
  pub free : first_unknown (known_in (names_of header watches)) [] (named.disjuncts_uses ds) ≡ None
  pub spelled : part_formulas (names_of header watches) (piece.disjuncts_of resolved.disjuncts)
      ≡ disjunct_formulas ds
  pub numbered : piece.disjuncts_of resolved.disjuncts ≡ numbered_in header watches ds
  pub made_for : AreMadeFor (scope_of header resolved.watch_process)
      (piece.disjuncts_of resolved.disjuncts)
  pub paired : length resolved.watch_process ≡ length watches
