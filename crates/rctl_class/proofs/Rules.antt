use Rattle.rctl_class.proofs.Folds.{node-Leaf, node-Not, node-And, node-Or, node-Temporal, node-Next, node-Until, expr-Truth, expr-Compare, expr-Watch, expr-Not, expr-And, expr-Or, piece-Local, piece-AtMost, piece-AtLeast, piece-Never, piece-DiffAtMost, piece-DiffAtLeast, piece-Temporal, piece-Next}

-- a tree as plain data, variant by variant
pub ruleset nodes = (node-Leaf, node-Not, node-And, node-Or, node-Temporal, node-Next, node-Until)

-- trees, expressions and parts by names as plain data, variant by variant
pub ruleset named = (node-Leaf, node-Not, node-And, node-Or, node-Temporal, node-Next, node-Until, expr-Truth, expr-Compare, expr-Watch, expr-Not, expr-And, expr-Or, piece-Local, piece-AtMost, piece-AtLeast, piece-Never, piece-DiffAtMost, piece-DiffAtLeast, piece-Temporal, piece-Next)
