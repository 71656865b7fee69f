-- The texts of some parts, worked by hand.
use Rattle.std.proofs.Common.{◌≡◌, ℕ, pos, negsuc, true, List, None, Some, codes, refl}
use Rattle.std.specs.Fmt.{digits}
use Rattle.rctl_grammar.specs.declared.tree.Compare.TheVariants.{Eq, Ne}
use Rattle.rctl_grammar.specs.declared.tree.Operator.TheVariants.{Ef}
use Rattle.rctl_grammar.specs.declared.tree.Place.{Place}
use Rattle.rctl_class.specs.declared.named.NamedSide.TheVariants.{Number, Variable}
use Rattle.rctl_class.specs.NamedParts.{Expr, truth, comparison, watched, negation, conjunction, disjunction, no_expr, and_expr, local, at_most, never, diff_at_least, temporal, next, no_piece, and_piece}
use Rattle.part_text.specs.Texts.{part_text}

abbrev placed : List ℕ → Place
placed name = record { name = name; at = 0 }

abbrev p : Place
p = placed (codes "P")

abbrev q : Place
q = placed (codes "Q")

abbrev x : Place
x = placed (codes "x")

abbrev equals : ℕ → Expr
equals k = comparison x Eq (Number (pos k))

abbrev either : Expr
either = disjunction (and_expr (equals 1) (and_expr (equals 2) no_expr))

a_number : part_text (local (Some p) (equals 2)) ≡ codes "P.x = 2"
unfolding digits
a_number = refl

a_variable : part_text (local (Some p) (comparison x Ne (Variable (placed (codes "y"))))) ≡ codes "P.x != P.y"
a_variable = refl

a_watch : part_text (local (Some p) (negation (watched (placed (codes "calm"))))) ≡ codes "!P@calm"
a_watch = refl

a_constant : part_text (local None (truth true)) ≡ codes "true"
a_constant = refl

an_or_in_an_and : part_text (local (Some p) (conjunction (and_expr (equals 3) (and_expr either no_expr)))) ≡ codes "P.x = 3 & (P.x = 1 | P.x = 2)"
unfolding digits
an_or_in_an_and = refl

a_channel : part_text (at_most p q 2) ≡ codes "intransit(P,Q) <= 2"
unfolding digits
a_channel = refl

no_message_less : part_text (never p q) ≡ codes "intransit(P,Q) < 0"
unfolding digits
no_message_less = refl

a_difference : part_text (diff_at_least p x q x (negsuc 1)) ≡ codes "P.x - Q.x >= -2"
unfolding digits
a_difference = refl

one_part_reached : part_text (temporal Ef (and_piece (local (Some p) (equals 1)) no_piece)) ≡ codes "EF P.x = 1"
unfolding digits
one_part_reached = refl

an_or_reached : part_text (temporal Ef (and_piece (local (Some p) either) no_piece)) ≡ codes "EF (P.x = 1 | P.x = 2)"
unfolding digits
an_or_reached = refl

two_parts_behind_an_event : part_text (next p (and_piece (local (Some p) (equals 1)) (and_piece (local (Some q) either) no_piece))) ≡ codes "EX P (P.x = 1 & (Q.x = 1 | Q.x = 2))"
unfolding digits
two_parts_behind_an_event = refl
