-- How many nodes a formula has, and where one of several disjuncts is split.
use Rattle.std.specs.Prelude.{ℕ, ◌-◌, ◌^◌, min}
use Rattle.rctl_class.specs.Nodes.{Node, leaf, negation, conjunction, disjunction, under}
use Rattle.rctl_class.specs.Nodes.{stepping, until_of}

-- a count, as far as 32 bits go
abbrev pub capped : ℕ → ℕ
capped count = min count (2 ^ 32 - 1)

-- the `|`, or the `&` under a negation, that is no part of another
abbrev pub split_place : Node → ℕ
split_place (leaf a at) = 0
split_place (negation n at) = split_place n
split_place (conjunction ns at) = at
split_place (disjunction ns at) = at
split_place (under operator n at) = 0
split_place (stepping process n at) = 0
split_place (until_of all left right at) = 0
