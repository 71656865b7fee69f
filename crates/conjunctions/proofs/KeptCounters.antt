-- What a formula asks the run to keep: that its counters never fall.
use Rattle.std.proofs.Common.{ℕ, List, [], ◌∷◌, Some, None, sym, subst}
use Rattle.run_model.specs.Run.{Name, Run}
use Rattle.run_model.specs.Formula as model
use Rattle.run_model.specs.Class.{IsKeptFor, AreKeptFor, NeverFalls}
use Rattle.trace_growth.specs.Growing.{IsTrace}
use Rattle.counter_preds.specs.Counters.{IsCounter}
use Rattle.counter_preds.proofs.Meaning.{never_falls}
use Rattle.rctl_grammar.specs.declared.tree.Operator.{Operator}
use Rattle.rctl_grammar.specs.declared.tree.Operator.TheVariants as operator
use Rattle.rctl_parts.specs.Exprs as expr
use Rattle.rctl_parts.specs.Exprs.{Expr, Exprs}
use Rattle.rctl_parts.specs.Pieces.{Atom, Piece, Pieces, none, more, pieces, atom, temporal, local, at_most, at_least, never, diff_at_most, diff_at_least}
use Rattle.rctl_parts.specs.MadeFor.{AtomFits, PieceFits, PiecesFit, EachFits, AllFit, VariableFits}
use Rattle.rctl_parts.specs.Spelled.{Names, numbered_name, variable_at, formula_in, formulas_in, operated, atom_formula, formula_of, formulas_of, conjunctions_of, disjunction_of}
use Rattle.part_pulls.specs.declared.observed.Observed.{Observed}
use Rattle.part_pulls.specs.Observing.{Reading, scope_seen, run_seen, names_seen}
use Rattle.part_pulls.specs.Counters.{AllRise, CountersRise, counter, counters_of_atom, counters_of_part, counters_of_operand, counters_of_parts}
use Rattle.part_pulls.proofs.Atoms.{is_variable, variable_name}
use Rattle.part_pulls.proofs.Rising.{rise_left, rise_right, left_rises, right_rises, first_rises, others_rise, first_disjunct_rises, other_disjuncts_rise}

-- a local expression has no counters
mutual
  expr_kept : (r : Run) (variables watches : List Name) (process : Name) (e : Expr) → IsKeptFor r (formula_in variables watches process e)
  expr_kept r variables watches process (expr.truth value) = tt
  expr_kept r variables watches process (expr.comparison left compare right) = tt
  expr_kept r variables watches process (expr.watch number) = tt
  expr_kept r variables watches process (expr.negation e) = expr_kept r variables watches process e
  expr_kept r variables watches process (expr.conjunction es) = exprs_kept r variables watches process es
  expr_kept r variables watches process (expr.disjunction es) = exprs_kept r variables watches process es

  exprs_kept : (r : Run) (variables watches : List Name) (process : Name) (es : Exprs) → AreKeptFor r (formulas_in variables watches process es)
  exprs_kept r variables watches process expr.none = tt
  exprs_kept r variables watches process (expr.more e es) = (expr_kept r variables watches process e, exprs_kept r variables watches process es)

-- a counter by its number is one by its name
named : (seen : Observed) → IsTrace seen.trace.states → (reading : Reading) (p x : ℕ) → VariableFits (scope_seen seen) p x → IsCounter seen.trace.states (counter p x)
    → NeverFalls (run_seen seen reading) (numbered_name (names_seen seen reading).processes p) (variable_at (names_seen seen reading) p x)
named seen trace reading p x fits rising =
    subst (λ (name : Name). NeverFalls (run_seen seen reading) (numbered_name (names_seen seen reading).processes p) name) (sym (variable_name seen reading p x))
    (never_falls seen.trace.states reading.watches (counter p x) trace.whole (is_variable seen trace p x fits) rising)

atom_kept : (seen : Observed) → IsTrace seen.trace.states → (reading : Reading) (a : Atom) → AtomFits (scope_seen seen) a → AllRise seen (counters_of_atom a)
    → IsKeptFor (run_seen seen reading) (atom_formula (names_seen seen reading) a)
atom_kept seen trace reading (local None e) fits rise = expr_kept _ _ _ _ e
atom_kept seen trace reading (local (Some p) e) fits rise = expr_kept _ _ _ _ e
atom_kept seen trace reading (at_most p q k) fits rise = tt
atom_kept seen trace reading (at_least p q k) fits rise = tt
atom_kept seen trace reading never fits rise = tt
atom_kept seen trace reading (diff_at_most p x q y k) fits rise =
    (named seen trace reading p x fits.0 (left_rises seen (counter p x) (counter q y) rise), named seen trace reading q y fits.1 (right_rises seen (counter p x) (counter q y) rise))
atom_kept seen trace reading (diff_at_least p x q y k) fits rise =
    (named seen trace reading p x fits.0 (left_rises seen (counter p x) (counter q y) rise), named seen trace reading q y fits.1 (right_rises seen (counter p x) (counter q y) rise))

operated_kept : (r : Run) (names : Names) (o : Operator) (f : model.Formula) → IsKeptFor r f → IsKeptFor r (operated names o f)
operated_kept r names operator.Ef f h = h
operated_kept r names operator.Ag f h = h
operated_kept r names operator.Eg f h = h
operated_kept r names (operator.Ex process) f h = h
operated_kept r names operator.Af f h = h
operated_kept r names operator.Ax f h = h

mutual
  piece_kept : (seen : Observed) → IsTrace seen.trace.states → (reading : Reading) (p : Piece) → PieceFits (scope_seen seen) p → AllRise seen (counters_of_part p)
      → IsKeptFor (run_seen seen reading) (formula_of (names_seen seen reading) p)
  piece_kept seen trace reading (atom a) fits rise = atom_kept seen trace reading a fits rise
  piece_kept seen trace reading (temporal o ps) fits rise =
      operated_kept (run_seen seen reading) (names_seen seen reading) o (model.And (formulas_of (names_seen seen reading) ps)) (pieces_kept seen trace reading ps fits.1 rise)

  pieces_kept : (seen : Observed) → IsTrace seen.trace.states → (reading : Reading) (ps : Pieces) → PiecesFit (scope_seen seen) ps → AllRise seen (counters_of_operand ps)
      → AreKeptFor (run_seen seen reading) (formulas_of (names_seen seen reading) ps)
  pieces_kept seen trace reading none fits rise = tt
  pieces_kept seen trace reading (more p ps) fits rise =
      (piece_kept seen trace reading p fits.0 (rise_left seen (counters_of_part p) (counters_of_operand ps) rise), pieces_kept seen trace reading ps fits.1 (rise_right seen (counters_of_part p) (counters_of_operand ps) rise))

conjunction_kept : (seen : Observed) → IsTrace seen.trace.states → (reading : Reading) (ps : List Piece) → EachFits (scope_seen seen) ps → AllRise seen (counters_of_parts ps)
    → AreKeptFor (run_seen seen reading) (formulas_of (names_seen seen reading) (pieces ps))
conjunction_kept seen trace reading [] fits rise = tt
conjunction_kept seen trace reading (p ∷ ps) fits rise = (piece_kept seen trace reading p fits.0 (first_rises seen p ps rise), conjunction_kept seen trace reading ps fits.1 (others_rise seen p ps rise))

disjuncts_kept : (seen : Observed) → IsTrace seen.trace.states → (reading : Reading) (ds : List (List Piece)) → AllFit (scope_seen seen) ds → CountersRise seen ds
    → AreKeptFor (run_seen seen reading) (conjunctions_of (names_seen seen reading) ds)
disjuncts_kept seen trace reading [] fits rise = tt
disjuncts_kept seen trace reading (d ∷ ds) fits rise =
    (conjunction_kept seen trace reading d fits.0 (first_disjunct_rises seen d ds rise), disjuncts_kept seen trace reading ds fits.1 (other_disjuncts_rise seen d ds rise))

pub kept_for : (seen : Observed) (reading : Reading) (ds : List (List Piece)) → IsTrace seen.trace.states → AllFit (scope_seen seen) ds → CountersRise seen ds
    → IsKeptFor (run_seen seen reading) (disjunction_of (names_seen seen reading) ds)
kept_for seen reading ds trace fits rise = disjuncts_kept seen trace reading ds fits rise
