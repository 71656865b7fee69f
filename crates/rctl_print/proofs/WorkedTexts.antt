-- The canonical texts of some formulas.
use Rattle.std.proofs.Common.{◌≡◌, ℕ, pos, negsuc, true, false, List, codes, refl}
use Rattle.rctl_grammar.specs.declared.tree.Compare.TheVariants.{Eq, Ne, Le}
use Rattle.run_model.specs.Formula.{Ef, Ag}
use Rattle.rctl_grammar.specs.Shape.{number, variable, truth, comparison, watch, transit, emptiness, difference, Shape, plain, not, conjunction, disjunction, under, stepped, until_of, one, more}
use Rattle.rctl_print.specs.Canonical.{canonical}
use Rattle.std.specs.Fmt.{digits}

abbrev p : List ℕ
p = codes "P"

abbrev q : List ℕ
q = codes "Q"

abbrev equals : List ℕ → ℕ → Shape
equals name k = plain (comparison name (codes "x") Eq (number (pos k)))

abbrev yes : Shape
yes = plain (truth true)

a_number : canonical (equals p 2) ≡ codes "P.x = 2"
unfolding digits
a_number = refl

a_variable : canonical (plain (comparison p (codes "x") Le (variable p (codes "y")))) ≡ codes "P.x <= P.y"
a_variable = refl

a_watch : canonical (plain (watch p (codes "calm"))) ≡ codes "P@calm"
a_watch = refl

a_channel : canonical (not (plain (transit p q Ne 1))) ≡ codes "!intransit(P,Q) != 1"
unfolding digits
a_channel = refl

an_or_under_an_operator : canonical (under Ef (disjunction (one (equals p 1)) (equals p 2))) ≡ codes "EF (P.x = 1 | P.x = 2)"
unfolding digits
an_or_under_an_operator = refl

an_and_under_a_negation : canonical (under Ef (not (conjunction (one (equals p 1)) (equals q 1)))) ≡ codes "EF !(P.x = 1 & Q.x = 1)"
unfolding digits
an_and_under_a_negation = refl

an_and_in_an_and : canonical (conjunction (more (one yes) (conjunction (one yes) yes)) (under Ag yes)) ≡ codes "true & (true & true) & AG true"
an_and_in_an_and = refl

an_and_in_an_or : canonical (disjunction (one (conjunction (one yes) yes)) (disjunction (one yes) yes)) ≡ codes "true & true | (true | true)"
an_and_in_an_or = refl

an_and_behind_an_event : canonical (stepped p (conjunction (one (stepped q yes)) yes)) ≡ codes "EX P (EX Q true & true)"
an_and_behind_an_event = refl

a_difference : canonical (plain (difference p (codes "x") q (codes "y") Le (negsuc 1))) ≡ codes "P.x - Q.y <= -2"
unfolding digits
a_difference = refl

an_until : canonical (until_of false (disjunction (one (equals p 1)) yes) (plain (emptiness p q))) ≡ codes "E[P.x = 1 | true U empty(P,Q)]"
unfolding digits
an_until = refl
