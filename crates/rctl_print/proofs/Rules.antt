use Rattle.rctl_grammar.proofs.Shapes.{shape-Leaf, shape-Not, shape-And, shape-Or, shape-Temporal, shape-Next, shape-Until}

-- the shape of a tree, variant by variant
pub ruleset shapes = (shape-Leaf, shape-Not, shape-And, shape-Or, shape-Temporal, shape-Next, shape-Until)
