use Rattle.std.proofs.Common.{◌≡◌, to_z, of_z, ℕ, ℤ, sym, ◌∙◌, ap, subst}
use Rattle.std.specs.Int.{w128}
use Rattle.std.proofs.lemmas.Int.{to_z-of_z}
use Rattle.std.proofs.lemmas.Result.{IfOk-weaker}
use Rattle.rctl_parts.specs.declared.part.Part.{Part}
use Rattle.rctl_parts.specs.Exprs.{expr_of}
use Rattle.rctl_parts.specs.Pieces.{Piece, piece_of, pieces_of, pieces, Atom, atom, temporal, local, at_most, at_least, never, diff_at_most, diff_at_least}
use Rattle.rctl_parts.specs.MadeFor.{PieceFits, AtomFits}
use Rattle.rctl_parts.proofs.Folds.{piece-Local, piece-AtMost, piece-AtLeast, piece-Never, piece-DiffAtMost, piece-DiffAtLeast, piece-Temporal}
use Rattle.counter_preds.specs.declared.values.Variable.{Variable}
use Rattle.part_pulls.specs.declared.observed.Observed.{Observed}
use Rattle.part_pulls.specs.Observing.{scope_seen}
use Rattle.part_pulls.specs.Systems.{is_atom}
use Rattle.part_pulls.specs.Counters.{AllRise, counters_of_atom, counters_of_part}
use Rattle.part_pulls.proofs.Atoms.{for_atom, bound_fits}
use Rattle.part_pulls.proofs.atom.pulls_of_atom.Goals as goal

fits_as : (seen : Observed) (part part' : Part) (a : Atom) → part ≡ part' → piece_of part' ≡ atom a → PieceFits (scope_seen seen) (piece_of part) → AtomFits (scope_seen seen) a
fits_as seen part part' a is at fits = subst (PieceFits (scope_seen seen)) (ap piece_of is ∙ at) fits

rises_as : (seen : Observed) (part part' : Part) (a : Atom) → part ≡ part' → piece_of part' ≡ atom a → AllRise seen (counters_of_part (piece_of part)) → AllRise seen (counters_of_atom a)
rises_as seen part part' a is at rise = subst (λ (p : Piece). AllRise seen (counters_of_part p)) (ap piece_of is ∙ at) rise

-- what holds of these numbers holds of the variables that have them
by_numbers : (P : ℕ → ℕ → ℕ → ℕ → Type 0) (p x q y : ℕ) (v w : Variable) → v.process ≡ p → v.number ≡ x → w.process ≡ q → w.number ≡ y → P p x q y → P v.process v.number w.process w.number
by_numbers P p x q y v w a b c d h =
    subst (λ (i : ℕ). P i v.number w.process w.number) (sym a) (subst (λ (i : ℕ). P p i w.process w.number) (sym b) (subst (λ (i : ℕ). P p x i w.number) (sym c) (subst (λ (i : ℕ). P p x q i) (sym d) h)))

pub local_pulls-requires-clause-fits : goal.local_pulls-requires-clause-fits
local_pulls-requires-clause-fits c = fits_as c.args.seen.now _ _ _ c.in-Local.is (piece-Local c.in-Local.process c.in-Local.expr) c.requires.fits

pub at_most_pulls-requires-clause-fits : goal.at_most_pulls-requires-clause-fits
at_most_pulls-requires-clause-fits c = fits_as c.args.seen.now _ _ _ c.in-AtMost.is (piece-AtMost c.in-AtMost.sender c.in-AtMost.receiver c.in-AtMost.k) c.requires.fits

pub at_least_pulls-requires-clause-fits : goal.at_least_pulls-requires-clause-fits
at_least_pulls-requires-clause-fits c = fits_as c.args.seen.now _ _ _ c.in-AtLeast.is (piece-AtLeast c.in-AtLeast.sender c.in-AtLeast.receiver c.in-AtLeast.k) c.requires.fits

pub unreachable-requires : goal.unreachable-requires
unreachable-requires c =
    let is : piece_of c.args.part.now ≡ temporal c.in-Temporal.operator (pieces (pieces_of c.in-Temporal.parts)) = ap piece_of c.in-Temporal.is ∙ piece-Temporal c.in-Temporal.operator c.in-Temporal.parts in
    let e = sym (ap is_atom is) ∙ c.requires.atom in cc

pub returns-in-Local : goal.returns-in-Local
returns-in-Local c =
    let is : piece_of c.args.part.now ≡ atom (local c.in-Local.process (expr_of c.in-Local.expr)) = ap piece_of c.in-Local.is ∙ piece-Local c.in-Local.process c.in-Local.expr in
    IfOk-weaker c.local_pulls.result _ _ (λ found told. for_atom c.args.seen.now (piece_of c.args.part.now) (local c.in-Local.process (expr_of c.in-Local.expr)) found.pulls found.truth is told) c.local_pulls.ensures

pub returns-in-AtMost : goal.returns-in-AtMost
returns-in-AtMost c =
    let a = at_most c.in-AtMost.sender c.in-AtMost.receiver c.in-AtMost.k in
    let is : piece_of c.args.part.now ≡ atom a = ap piece_of c.in-AtMost.is ∙ piece-AtMost c.in-AtMost.sender c.in-AtMost.receiver c.in-AtMost.k in
    IfOk-weaker c.at_most_pulls.result _ _ (λ found told. for_atom c.args.seen.now (piece_of c.args.part.now) a found.pulls found.truth is told) c.at_most_pulls.ensures

pub returns-in-AtLeast : goal.returns-in-AtLeast
returns-in-AtLeast c =
    let a = at_least c.in-AtLeast.sender c.in-AtLeast.receiver c.in-AtLeast.k in
    let is : piece_of c.args.part.now ≡ atom a = ap piece_of c.in-AtLeast.is ∙ piece-AtLeast c.in-AtLeast.sender c.in-AtLeast.receiver c.in-AtLeast.k in
    IfOk-weaker c.at_least_pulls.result _ _ (λ found told. for_atom c.args.seen.now (piece_of c.args.part.now) a found.pulls found.truth is told) c.at_least_pulls.ensures

pub returns-in-Never : goal.returns-in-Never
returns-in-Never c =
    let is : piece_of c.args.part.now ≡ atom never = ap piece_of c.in-Never.is ∙ piece-Never in
    IfOk-weaker c.never_pulls.result _ _ (λ found told. for_atom c.args.seen.now (piece_of c.args.part.now) never found.pulls found.truth is told) c.never_pulls.ensures

pub diff_at_most_pulls-requires-clause-fits : goal.diff_at_most_pulls-requires-clause-fits
diff_at_most_pulls-requires-clause-fits c =
    let seen = c.args.seen.now in
    let w = c.in-DiffAtMost in
    let fits : AtomFits (scope_seen seen) (diff_at_most w.p w.left w.q w.right w.k) = fits_as seen _ _ _ w.is (piece-DiffAtMost w.p w.left w.q w.right w.k) c.requires.fits in
    let same : to_z w128 (of_z w128 w.k) ≡ w.k = to_z-of_z w128 w.k (bound_fits w.k fits.3 fits.4) in
    by_numbers (λ p x q y. AtomFits (scope_seen seen) (diff_at_most p x q y (to_z w128 (of_z w128 w.k)))) w.p w.left w.q w.right c.variable-left.result c.variable-right.result c.variable-left.ensures.process c.variable-left.ensures.number c.variable-right.ensures.process c.variable-right.ensures.number
    (subst (λ (z : ℤ). AtomFits (scope_seen seen) (diff_at_most w.p w.left w.q w.right z)) (sym same) fits)

pub diff_at_most_pulls-requires-clause-counters : goal.diff_at_most_pulls-requires-clause-counters
diff_at_most_pulls-requires-clause-counters c =
    let seen = c.args.seen.now in
    let w = c.in-DiffAtMost in
    by_numbers (λ p x q y. AllRise seen (counters_of_atom (diff_at_most p x q y w.k))) w.p w.left w.q w.right c.variable-left.result c.variable-right.result c.variable-left.ensures.process c.variable-left.ensures.number c.variable-right.ensures.process c.variable-right.ensures.number
    (rises_as seen _ _ _ w.is (piece-DiffAtMost w.p w.left w.q w.right w.k) c.requires.counters)

pub returns-in-DiffAtMost : goal.returns-in-DiffAtMost
returns-in-DiffAtMost c =
    let w = c.in-DiffAtMost in
    let fits : AtomFits (scope_seen c.args.seen.now) (diff_at_most w.p w.left w.q w.right w.k) = fits_as c.args.seen.now _ _ _ w.is (piece-DiffAtMost w.p w.left w.q w.right w.k) c.requires.fits in
    let same : to_z w128 (of_z w128 w.k) ≡ w.k = to_z-of_z w128 w.k (bound_fits w.k fits.3 fits.4) in
    let is = by_numbers (λ p x q y. piece_of c.args.part.now ≡ atom (diff_at_most p x q y (to_z w128 (of_z w128 w.k)))) w.p w.left w.q w.right c.variable-left.result c.variable-right.result c.variable-left.ensures.process c.variable-left.ensures.number c.variable-right.ensures.process c.variable-right.ensures.number
    (ap piece_of w.is ∙ piece-DiffAtMost w.p w.left w.q w.right w.k ∙ ap (λ (z : ℤ). atom (diff_at_most w.p w.left w.q w.right z)) (sym same)) in
    IfOk-weaker c.diff_at_most_pulls.result _ _ (λ found told. for_atom c.args.seen.now (piece_of c.args.part.now) _ found.pulls found.truth is told) c.diff_at_most_pulls.ensures

pub diff_at_least_pulls-requires-clause-fits : goal.diff_at_least_pulls-requires-clause-fits
diff_at_least_pulls-requires-clause-fits c =
    let seen = c.args.seen.now in
    let w = c.in-DiffAtLeast in
    let fits : AtomFits (scope_seen seen) (diff_at_least w.p w.left w.q w.right w.k) = fits_as seen _ _ _ w.is (piece-DiffAtLeast w.p w.left w.q w.right w.k) c.requires.fits in
    let same : to_z w128 (of_z w128 w.k) ≡ w.k = to_z-of_z w128 w.k (bound_fits w.k fits.3 fits.4) in
    by_numbers (λ p x q y. AtomFits (scope_seen seen) (diff_at_least p x q y (to_z w128 (of_z w128 w.k)))) w.p w.left w.q w.right c.variable-left-in-DiffAtLeast.result c.variable-right-in-DiffAtLeast.result c.variable-left-in-DiffAtLeast.ensures.process c.variable-left-in-DiffAtLeast.ensures.number c.variable-right-in-DiffAtLeast.ensures.process c.variable-right-in-DiffAtLeast.ensures.number
    (subst (λ (z : ℤ). AtomFits (scope_seen seen) (diff_at_least w.p w.left w.q w.right z)) (sym same) fits)

pub diff_at_least_pulls-requires-clause-counters : goal.diff_at_least_pulls-requires-clause-counters
diff_at_least_pulls-requires-clause-counters c =
    let seen = c.args.seen.now in
    let w = c.in-DiffAtLeast in
    by_numbers (λ p x q y. AllRise seen (counters_of_atom (diff_at_least p x q y w.k))) w.p w.left w.q w.right c.variable-left-in-DiffAtLeast.result c.variable-right-in-DiffAtLeast.result c.variable-left-in-DiffAtLeast.ensures.process c.variable-left-in-DiffAtLeast.ensures.number c.variable-right-in-DiffAtLeast.ensures.process c.variable-right-in-DiffAtLeast.ensures.number
    (rises_as seen _ _ _ w.is (piece-DiffAtLeast w.p w.left w.q w.right w.k) c.requires.counters)

pub returns-in-DiffAtLeast : goal.returns-in-DiffAtLeast
returns-in-DiffAtLeast c =
    let w = c.in-DiffAtLeast in
    let fits : AtomFits (scope_seen c.args.seen.now) (diff_at_least w.p w.left w.q w.right w.k) = fits_as c.args.seen.now _ _ _ w.is (piece-DiffAtLeast w.p w.left w.q w.right w.k) c.requires.fits in
    let same : to_z w128 (of_z w128 w.k) ≡ w.k = to_z-of_z w128 w.k (bound_fits w.k fits.3 fits.4) in
    let is = by_numbers (λ p x q y. piece_of c.args.part.now ≡ atom (diff_at_least p x q y (to_z w128 (of_z w128 w.k)))) w.p w.left w.q w.right c.variable-left-in-DiffAtLeast.result c.variable-right-in-DiffAtLeast.result c.variable-left-in-DiffAtLeast.ensures.process c.variable-left-in-DiffAtLeast.ensures.number c.variable-right-in-DiffAtLeast.ensures.process c.variable-right-in-DiffAtLeast.ensures.number
    (ap piece_of w.is ∙ piece-DiffAtLeast w.p w.left w.q w.right w.k ∙ ap (λ (z : ℤ). atom (diff_at_least w.p w.left w.q w.right z)) (sym same)) in
    IfOk-weaker c.diff_at_least_pulls.result _ _ (λ found told. for_atom c.args.seen.now (piece_of c.args.part.now) _ found.pulls found.truth is told) c.diff_at_least_pulls.ensures
