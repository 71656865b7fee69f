-- The first fault of a text, over its tokens: the limits laid over the reading from left to right.
use Rattle.std.specs.Prelude.{ℕ, zero, suc, Bool, true, false, ◌+◌, nat_lt, List, [], ◌∷◌, Option}
use Rattle.std.specs.Prelude.{None, Some, if◌then◌else◌}
use Rattle.pota_names.specs.PassedOn.{deepest, most_nodes}
use Rattle.rctl_grammar.specs.declared.token.Kind.{Kind}
use Rattle.rctl_grammar.specs.declared.token.Kind.TheVariants as kind
use Rattle.rctl_grammar.specs.declared.token.Word.{Word}
use Rattle.rctl_grammar.specs.declared.token.Word.TheVariants as word
use Rattle.rctl_grammar.specs.declared.token.Token.{Token}
use Rattle.rctl_grammar.specs.declared.token.End.{End}
use Rattle.rctl_grammar.specs.declared.token.End.TheVariants as end
use Rattle.rctl_grammar.specs.declared.fault.FormulaCode.TheVariants as code
use Rattle.rctl_grammar.specs.declared.fault.FormulaFault.{FormulaFault}
use Rattle.rctl_grammar.specs.Grammar.{Spelled, Conjunction, Disjunction, amp_nodes, bar_nodes}
use Rattle.rctl_grammar.specs.Grammar.{nodes_conjunction, nodes_disjunction, in_range, counts}
use Rattle.rctl_grammar.specs.Machine.{Front, compared, transit_compared, difference_compared}
use Rattle.rctl_grammar.specs.Machine.{Before, nothing, bar, in_stepping, a_stepping}
use Rattle.rctl_grammar.specs.Machine.{Outer, top, in_group, in_left, in_right, Open, first_of}
use Rattle.rctl_grammar.specs.Machine.{next_of, in_negation, in_temporal, State, operand, a_word}
use Rattle.rctl_grammar.specs.Machine.{in_leaf, a_path, after, start, settled, step_kind, whole_of}
use Rattle.rctl_grammar.specs.Machine.{sign, NameSign, by_dot, by_at, no_sign, Following, by_amp}
use Rattle.rctl_grammar.specs.Machine.{by_bar, by_another, following}

-- ---- what stands open, and what was counted

abbrev mutual
  -- the levels open around a disjunction
  pub depth_outer : Outer → ℕ
  depth_outer top = 0
  depth_outer (in_group o opened) = depth o + 1
  depth_outer (in_left o path) = depth o + 1
  depth_outer (in_right o path left name at) = depth o + 1

  -- the levels open around a unary
  pub depth : Open → ℕ
  depth (first_of outer before) = depth_outer outer
  depth (next_of outer before c at) = depth_outer outer
  depth (in_negation o at) = depth o + 1
  depth (in_temporal o operator name at) = depth o + 1
  depth (in_stepping o name at process) = depth o + 1

-- the nodes of the disjunction so far, and its Or, which stands at the first bar
abbrev pub nodes_before : Before → ℕ
nodes_before nothing = 0
nodes_before (bar d at) = nodes_disjunction d + bar_nodes d

abbrev mutual
  -- the nodes whose places stand before a disjunction
  pub nodes_outer : Outer → ℕ
  nodes_outer top = 0
  nodes_outer (in_group o opened) = nodes_open o
  nodes_outer (in_left o path) = nodes_open o + 1
  nodes_outer (in_right o path left name at) = nodes_open o + 1 + nodes_disjunction left

  -- the nodes whose places stand before a unary
  pub nodes_open : Open → ℕ
  nodes_open (first_of outer before) = nodes_outer outer + nodes_before before
  nodes_open (next_of outer before c at) =
      nodes_outer outer + nodes_before before + nodes_conjunction c + amp_nodes c
  nodes_open (in_negation o at) = nodes_open o + 1
  nodes_open (in_temporal o operator name at) = nodes_open o + 1
  nodes_open (in_stepping o name at process) = nodes_open o + 1

-- ---- what a token breaks

abbrev pub syntax_at : ℕ → FormulaFault
syntax_at at = record { code = code.Syntax; place = at }

abbrev pub token_at : ℕ → FormulaFault
token_at at = record { code = code.Token; place = at }

abbrev pub number_at : ℕ → FormulaFault
number_at at = record { code = code.Number; place = at }

abbrev pub too_deep_at : ℕ → FormulaFault
too_deep_at at = record { code = code.TooDeep; place = at }

abbrev pub too_many_at : ℕ → FormulaFault
too_many_at at = record { code = code.TooManyNodes; place = at }

-- the first of two
abbrev pub either : Option FormulaFault → Option FormulaFault → Option FormulaFault
either None second = second
either (Some fault) second = Some fault

-- a token opens a level inside `levels` others
abbrev pub level_opens : ℕ → ℕ → Option FormulaFault
level_opens levels at = if nat_lt levels deepest then None else Some (too_deep_at at)

-- a token is the place of a node behind `nodes` others
abbrev pub node_stands : ℕ → ℕ → Option FormulaFault
node_stands nodes at = if nat_lt nodes most_nodes then None else Some (too_many_at at)

-- whether a word that is no name opens a level
abbrev pub is_operator : Word → Bool
is_operator word.Ef = true
is_operator word.Ag = true
is_operator word.Eg = true
is_operator word.Ex = true
is_operator word.Af = true
is_operator word.Ax = true
is_operator word.E = false
is_operator word.A = false
is_operator word.U = false
is_operator word.True = false
is_operator word.False = false
is_operator word.InTransit = false
is_operator word.Empty = false
is_operator word.Plain = false

-- what a word in the place of a unary breaks, by what follows it
abbrev pub word_limit : Open → Spelled → NameSign → Option FormulaFault
word_limit o w by_dot = node_stands (nodes_open o) w.at
word_limit o w by_at = node_stands (nodes_open o) w.at
word_limit o w no_sign =
    either (if is_operator w.word then level_opens (depth o) w.at else None)
    (node_stands (nodes_open o) w.at)

abbrev pub operand_limit : Open → Kind → ℕ → Option FormulaFault
operand_limit o kind.Bang here =
    either (level_opens (depth o) here) (node_stands (nodes_open o) here)
operand_limit o kind.OpenRound here = level_opens (depth o) here
operand_limit o k here = None

abbrev pub side_limit : Kind → ℕ → Option FormulaFault
side_limit (kind.Number value) here = if in_range value then None else Some (number_at here)
side_limit k here = None

abbrev pub count_limit : Kind → ℕ → Option FormulaFault
count_limit (kind.Number value) here = if counts value then None else Some (number_at here)
count_limit k here = None

abbrev pub front_limit : Front → Kind → ℕ → Option FormulaFault
front_limit (compared left compare at) k here = side_limit k here
front_limit (transit_compared name at channel compare compare_at) k here = count_limit k here
front_limit (difference_compared left minus right compare compare_at) k here = side_limit k here
front_limit front k here = None

abbrev pub path_limit : Open → Kind → ℕ → Option FormulaFault
path_limit o kind.OpenSquare here = level_opens (depth o) here
path_limit o k here = None

-- the first `&` of a conjunction
abbrev pub amp_limit : ℕ → ℕ → ℕ → Option FormulaFault
amp_limit nodes zero here = None
amp_limit nodes (suc n) here = node_stands nodes here

abbrev pub after_limit : Outer → Before → Conjunction → Following → ℕ → Option FormulaFault
after_limit outer before c by_amp here =
    amp_limit (nodes_outer outer + nodes_before before + nodes_conjunction c) (amp_nodes c) here
after_limit outer nothing c by_bar here = node_stands (nodes_outer outer + nodes_conjunction c) here
after_limit outer (bar d at) c by_bar here = None
after_limit outer before c by_another here = None

-- what a token breaks where no word waits
abbrev pub limit_now : State → Kind → ℕ → Option FormulaFault
limit_now (operand o) k here = operand_limit o k here
limit_now (a_word o w) k here = None
limit_now (in_leaf o front) k here = front_limit front k here
limit_now (a_path o all name at) k here = path_limit o k here
limit_now (a_stepping o name at) k here = None
limit_now (after outer before c) k here = after_limit outer before c (following k) here

abbrev pub settled_limit : Option State → Kind → ℕ → Option FormulaFault
settled_limit None k here = None
settled_limit (Some s) k here = limit_now s k here

abbrev pub follow_limit : Open → Spelled → NameSign → Kind → ℕ → Option FormulaFault
follow_limit o w by_dot k here = None
follow_limit o w by_at k here = None
follow_limit o w no_sign k here = settled_limit (settled o w) k here

-- the first limit that a token breaks; a word's own waits for the token behind it, and comes before
-- what that one breaks
abbrev pub limit : State → Kind → ℕ → Option FormulaFault
limit (a_word o w) k here = either (word_limit o w (sign k)) (follow_limit o w (sign k) k here)
limit (operand o) k here = limit_now (operand o) k here
limit (in_leaf o front) k here = limit_now (in_leaf o front) k here
limit (a_path o all name at) k here = limit_now (a_path o all name at) k here
limit (a_stepping o name at) k here = limit_now (a_stepping o name at) k here
limit (after outer before c) k here = limit_now (after outer before c) k here

-- what a word that waits breaks at the end
abbrev pub end_limit : State → Option FormulaFault
end_limit (a_word o w) = word_limit o w no_sign
end_limit s = None

-- ---- the first fault

-- a token is passed, or the fault stands
pub data Passed : Type 0 where
  passed : (s : State) → Passed
  stopped : (fault : FormulaFault) → Passed

-- a limit, or else a token that no formula goes on with
abbrev pub placed : Option FormulaFault → Option State → ℕ → Passed
placed (Some fault) next here = stopped fault
placed None (Some s) here = passed s
placed None None here = stopped (syntax_at here)

abbrev pub then_on : Passed → (State → Option FormulaFault) → Option FormulaFault
then_on (passed s) rest = rest s
then_on (stopped fault) rest = Some fault

abbrev pub is_whole : Option Disjunction → Bool
is_whole (Some d) = true
is_whole None = false

-- what is wrong where the tokens end
abbrev pub end_fault : State → End → Option FormulaFault
end_fault s (end.BadToken at) = either (end_limit s) (Some (token_at at))
end_fault s (end.Ends at) =
    either (end_limit s) (if is_whole (whole_of s) then None else Some (syntax_at at))

-- the first fault from a state on
abbrev pub fault_of : State → List Token → End → Option FormulaFault
fault_of s [] ending = end_fault s ending
fault_of s (t ∷ ts) ending =
    then_on (placed (limit s t.kind t.at) (step_kind s t.kind t.at) t.at)
    (λ next. fault_of next ts ending)

-- the first fault of a text of these tokens, `None` where it is a formula within the limits
abbrev pub first_fault : List Token → End → Option FormulaFault
first_fault tokens ending = fault_of start tokens ending
