-- Worked by hand: what the forms take, and the first fault of what they don't take.
use Rattle.std.specs.Prelude.{◌≡◌, ℕ, ◌+◌, pos, List, None, codes, refl}
use Rattle.run_model.specs.Class.{is_plain, all_plain, processes, all_processes}
use Rattle.question_meaning.specs.declared.form.Form.TheVariants as form
use Rattle.question_text.specs.declared.front.Asking.TheVariants as asking
use Rattle.rctl_grammar.specs.declared.fault.FormulaCode.TheVariants as code
use Rattle.rctl_grammar.specs.declared.tree.Operator.TheVariants as operator
use Rattle.rctl_grammar.specs.declared.tree.Compare.TheVariants as compare
use Rattle.rctl_grammar.specs.declared.tree.Place.{Place}
use Rattle.rctl_grammar.specs.declared.tree.Side.TheVariants as side
use Rattle.rctl_grammar.specs.declared.tree.Atom.TheVariants as atom
use Rattle.rctl_class.specs.Nodes.{Node, Nodes, leaf, negation, conjunction, disjunction, under}
use Rattle.rctl_class.specs.Nodes.{none, more}
use Rattle.rctl_class.specs.Uses.{fault_at}
use Rattle.question_forms.specs.Taking.{form_fault, form_of}

abbrev placed : List ℕ → ℕ → Place
placed name at = record { name = name; at = at }

-- `p.x = 1` from that byte on
abbrev is_1 : List ℕ → ℕ → Node
is_1 p at =
    leaf (atom.Local (placed p at) (placed (codes "x") (at + 2)) compare.Eq (side.Number (pos 1)))
    at

abbrev two : Node → Node → Nodes
two n m = more n (more m none)

-- `a.x = 1 & b.x = 1`
abbrev both : Node
both = conjunction (two (is_1 (codes "a") 0) (is_1 (codes "b") 10)) 8

-- `a.x = 1 | b.x = 1`
abbrev either : Node
either = disjunction (two (is_1 (codes "a") 0) (is_1 (codes "b") 10)) 8

-- `EF a.x = 1`
abbrev reached : Node
reached = under operator.Ef (is_1 (codes "a") 3) 0

-- `EF a.x = 1 | b.x = 1`
abbrev reached_or : Node
reached_or = disjunction (two reached (is_1 (codes "b") 13)) 11

-- ---- never and can take what is analysed

never_both : form_fault asking.Never both ≡ None
unfolding is_plain all_plain processes all_processes
never_both = refl

never_either : form_fault asking.Never either ≡ None
unfolding is_plain all_plain processes all_processes
never_either = refl

can_not_reached : form_fault asking.Can (negation reached_or 0) ≡ fault_at code.NotRegular 0
unfolding is_plain all_plain processes all_processes
can_not_reached = refl

-- ---- at end takes one conjunction

at_end_both : form_fault asking.AtEnd both ≡ None
unfolding is_plain all_plain processes all_processes
at_end_both = refl

at_end_either : form_fault asking.AtEnd either ≡ fault_at code.DisjunctionInside 8
unfolding is_plain all_plain processes all_processes
at_end_either = refl

at_end_not_both : form_fault asking.AtEnd (negation both 0) ≡ fault_at code.DisjunctionInside 8
unfolding is_plain all_plain processes all_processes
at_end_not_both = refl

-- ---- surely takes what has such a negation

surely_one : form_fault asking.Surely (is_1 (codes "a") 0) ≡ None
unfolding is_plain all_plain processes all_processes
surely_one = refl

surely_either : form_fault asking.Surely either ≡ None
unfolding is_plain all_plain processes all_processes
surely_either = refl

surely_both : form_fault asking.Surely both ≡ fault_at code.DisjunctionInside 8
unfolding is_plain all_plain processes all_processes
surely_both = refl

-- ---- always takes both

always_both : form_fault asking.Always both ≡ None
unfolding is_plain all_plain processes all_processes
always_both = refl

always_asks_not_both : form_of asking.Always both ≡ form.AlwaysByNegation
unfolding is_plain all_plain processes all_processes
always_asks_not_both = refl

always_either : form_fault asking.Always either ≡ None
unfolding is_plain all_plain processes all_processes
always_either = refl

always_asks_not_either : form_of asking.Always either ≡ form.AlwaysByNegation
unfolding is_plain all_plain processes all_processes
always_asks_not_either = refl

always_not_both : form_fault asking.Always (negation both 0) ≡ None
unfolding is_plain all_plain processes all_processes
always_not_both = refl

always_asks_both_again : form_of asking.Always (negation both 0) ≡ form.AlwaysByNegation
unfolding is_plain all_plain processes all_processes
always_asks_both_again = refl

-- its negation negates EF, so the formula itself is asked
always_reached : form_fault asking.Always reached ≡ None
unfolding is_plain all_plain processes all_processes
always_reached = refl

always_asks_reached : form_of asking.Always reached ≡ form.Always
unfolding is_plain all_plain processes all_processes
always_asks_reached = refl

-- neither: it is a disjunction, and its negation negates EF
always_reached_or : form_fault asking.Always reached_or ≡ fault_at code.DisjunctionInside 11
unfolding is_plain all_plain processes all_processes
always_reached_or = refl
