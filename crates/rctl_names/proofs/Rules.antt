use Rattle.rctl_parts.proofs.Folds.{expr-Truth, expr-Compare, expr-Watch, expr-Not, expr-And, expr-Or, piece-Local, piece-AtMost, piece-AtLeast, piece-Never, piece-DiffAtMost, piece-DiffAtLeast, piece-Temporal}
use Rattle.rctl_class.proofs.Folds as named

-- expressions by names and by numbers as plain data, variant by variant
pub ruleset exprs = (expr-Truth, expr-Compare, expr-Watch, expr-Not, expr-And, expr-Or, named.expr-Truth, named.expr-Compare, named.expr-Watch, named.expr-Not, named.expr-And, named.expr-Or)

-- parts too
pub ruleset pieces = (piece-Local, piece-AtMost, piece-AtLeast, piece-Never, piece-DiffAtMost, piece-DiffAtLeast, piece-Temporal, named.piece-Local, named.piece-AtMost, named.piece-AtLeast, named.piece-Never, named.piece-DiffAtMost, named.piece-DiffAtLeast, named.piece-Temporal, named.piece-Next)
