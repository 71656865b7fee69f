use Rattle.rctl_parts.proofs.Folds.{expr-Truth, expr-Compare, expr-Watch, expr-Not, expr-And, expr-Or, piece-Local, piece-AtMost, piece-AtLeast, piece-Never, piece-DiffAtMost, piece-DiffAtLeast, piece-Temporal}

-- an expression as plain data, variant by variant
pub ruleset exprs = (expr-Truth, expr-Compare, expr-Watch, expr-Not, expr-And, expr-Or)

-- a part as plain data, variant by variant
pub ruleset pieces = (piece-Local, piece-AtMost, piece-AtLeast, piece-Never, piece-DiffAtMost, piece-DiffAtLeast, piece-Temporal)
