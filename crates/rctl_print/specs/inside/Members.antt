-- Members that stand in a list.
use Rattle.std.specs.Prelude.{ℕ, List, [], ◌∷◌, ◌++◌}
use Rattle.rctl_grammar.specs.Shape.{Shape, conjunction_of, disjunction_of}
use Rattle.rctl_print.specs.Canonical.{joint_text, member_text, canonical}
use Rattle.rctl_print.specs.declared.joint.Joint.{Joint}
use Rattle.rctl_print.specs.declared.joint.Joint.TheVariants.{Amp, Bar}

-- the formula of members that this joins
abbrev pub joined_of : Joint → List Shape → Shape
joined_of Amp members = conjunction_of members
joined_of Bar members = disjunction_of members

-- a formula as a member, or as an operand
abbrev pub member : Joint → Shape → List ℕ
member joint s = member_text joint s (canonical s)

-- further members, each behind the joint
abbrev pub each_behind : Joint → List Shape → List ℕ
each_behind joint [] = []
each_behind joint (s ∷ rest) = joint_text joint ++ member joint s ++ each_behind joint rest
