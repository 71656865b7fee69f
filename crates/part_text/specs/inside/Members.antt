-- Expressions and parts as members that stand in a list.
use Rattle.std.specs.Prelude.{ℕ, List}
use Rattle.rctl_grammar.specs.Shape.{Shape}
use Rattle.rctl_print.specs.declared.joint.Joint.{Joint}
use Rattle.rctl_print.specs.declared.joint.Joint.TheVariants as joint
use Rattle.rctl_class.specs.declared.named.NamedExpr.{NamedExpr}
use Rattle.rctl_class.specs.declared.named.NamedPart.{NamedPart}
use Rattle.rctl_class.specs.NamedParts.{expr_of, piece_of}
use Rattle.part_text.specs.Texts.{expr_shape, piece_shape}
use Rattle.part_text.specs.declared.joined.Joined.{Joined}
use Rattle.part_text.specs.declared.joined.Joined.TheVariants.{All, Any}

-- what stands between the members
abbrev pub joint_of : Joined → Joint
joint_of All = joint.Amp
joint_of Any = joint.Bar

-- the formula of an expression over a process, and that of a part
abbrev pub shape_over : List ℕ → NamedExpr → Shape
shape_over process e = expr_shape process (expr_of e)

abbrev pub shape_of_part : NamedPart → Shape
shape_of_part part = piece_shape (piece_of part)
