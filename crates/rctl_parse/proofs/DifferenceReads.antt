-- The parser's differences: what a function reads, from what those that it calls read.
use Rattle.std.specs.Prelude.{ℕ, ℤ, List, ◌∷◌, Some, Result, Ok, Err, MatchResult}
use Rattle.std.specs.Borrow.{Bor}
use Rattle.std.proofs.Common.{◌≡◌, refl, sym, ◌∙◌, ap, subst, arith}
use Rattle.pota_base.specs.declared.fault.Refused.{Refused}
use Rattle.rctl_grammar.specs.declared.token.Kind.TheVariants as kind
use Rattle.rctl_grammar.specs.declared.token.Token.{Token}
use Rattle.rctl_grammar.specs.declared.token.End.{End}
use Rattle.rctl_grammar.specs.declared.fault.FormulaFault.{FormulaFault}
use Rattle.rctl_grammar.specs.declared.tree.Compare.{Compare}
use Rattle.rctl_grammar.specs.declared.tree.Place.{Place}
use Rattle.rctl_grammar.specs.declared.tree.Atom.{Atom}
use Rattle.rctl_grammar.specs.declared.tree.Atom.TheVariants as atom
use Rattle.rctl_grammar.specs.Grammar.{Spelled, Variable, difference, tok, named, placed_name}
use Rattle.rctl_grammar.specs.Machine.{process_dot, left_side, subtracting, subtracted_process, subtracted_dot, both_sides, difference_compared, going, whole, word_in, compare_in, dot_in}
use Rattle.rctl_parse.specs.Reading.{Faults}
use Rattle.rctl_parse.specs.inside.Reading.{found, minus_in, place_in, comparison_in, BoundRead, LeafFault, Moves, LeafRead}
use Rattle.rctl_parse.proofs.LeafSteps.{for_fault, moves, stops, and_then, then_fault, place_word, compare_word, compare_token, variable_of, behind_dot, behind_minus, behind_subtracted, behind_subtracted_dot, behind_both, subtracted_on_the_left}
use Rattle.rctl_parse.proofs.LeafReads.{MissesHere}

-- behind the `-` as far as the right variable
pub record Subtracted (ts rest : List Token) (ending : End) (process name : Place) : Type 0 where
  pub right : Variable
  pub process_is : placed_name right.process ≡ process
  pub name_is : placed_name right.variable ≡ name
  pub moves : (left : Variable) (minus : ℕ) → Moves (subtracting left minus) ts rest ending (going (both_sides left minus right))

-- as far as the dot
to_dot : (ts a b : List Token) (ending : End) (process : Spelled) (dot : ℕ) → found word_in ts ≡ Some (process, a) → found dot_in a ≡ Some (dot, b)
    → (left : Variable) (minus : ℕ) → Moves (subtracting left minus) ts b ending (going (subtracted_dot left minus process dot))
to_dot ts a b ending process dot hp hd left minus = and_then (subtracting left minus) (subtracted_process left minus process) ts a b ending (going (subtracted_dot left minus process dot))
    (moves word_in named (subtracting left minus) (λ w. going (subtracted_process left minus w)) (behind_minus left minus) ts a ending process hp)
    (moves dot_in (tok kind.Dot) (subtracted_process left minus process) (λ d. going (subtracted_dot left minus process d)) (behind_subtracted left minus process) a b ending dot hd)

pub subtracted : (ts a b rest : List Token) (ending : End) (process name : Place) (dot : ℕ)
    → found place_in ts ≡ Some (process, a) → found dot_in a ≡ Some (dot, b) → found place_in b ≡ Some (name, rest) → Subtracted ts rest ending process name
subtracted ts a b rest ending process name dot hp hd hn = let p = place_word ts a process hp in let v = place_word b rest name hn in record {
  right = variable_of p.0 dot v.0;
  process_is = p.2;
  name_is = v.2;
  moves = λ left minus. and_then (subtracting left minus) (subtracted_dot left minus p.0 dot) ts b rest ending (going (both_sides left minus (variable_of p.0 dot v.0)))
      (to_dot ts a b ending p.0 dot p.1 hd left minus)
      (moves word_in named (subtracted_dot left minus p.0 dot) (λ w. going (both_sides left minus (variable_of p.0 dot w))) (behind_subtracted_dot left minus p.0 dot) b rest ending v.0 v.1);
}

pub without_right_dot : (ts a : List Token) (ending : End) (process : Place) (f : FormulaFault) → found place_in ts ≡ Some (process, a) → MissesHere dot_in a ending f
    → (left : Variable) (minus : ℕ) → LeafFault (subtracting left minus) ts ending f
without_right_dot ts a ending process f hp miss left minus = let p = place_word ts a process hp in
    then_fault (subtracting left minus) (subtracted_process left minus p.0) ts a ending f
    (moves word_in named (subtracting left minus) (λ w. going (subtracted_process left minus w)) (behind_minus left minus) ts a ending p.0 p.1)
    (stops dot_in (tok kind.Dot) (subtracted_process left minus p.0) (λ d. going (subtracted_dot left minus p.0 d)) (behind_subtracted left minus p.0) a ending f miss)

pub without_right_name : (ts a b : List Token) (ending : End) (process : Place) (dot : ℕ) (f : FormulaFault) → found place_in ts ≡ Some (process, a) → found dot_in a ≡ Some (dot, b)
    → MissesHere word_in b ending f → (left : Variable) (minus : ℕ) → LeafFault (subtracting left minus) ts ending f
without_right_name ts a b ending process dot f hp hd miss left minus = let p = place_word ts a process hp in
    then_fault (subtracting left minus) (subtracted_dot left minus p.0 dot) ts b ending f (to_dot ts a b ending p.0 dot p.1 hd left minus)
    (stops word_in named (subtracted_dot left minus p.0 dot) (λ w. going (both_sides left minus (variable_of p.0 dot w))) (behind_subtracted_dot left minus p.0 dot) b ending f miss)

pub without_sign : (ts a : List Token) (ending : End) (process name : Place) (f : FormulaFault) → Subtracted ts a ending process name → MissesHere compare_in a ending f
    → (left : Variable) (minus : ℕ) → LeafFault (subtracting left minus) ts ending f
without_sign ts a ending process name f s miss left minus =
    then_fault (subtracting left minus) (both_sides left minus s.right) ts a ending f (s.moves left minus)
    (stops compare_in compare_token (both_sides left minus s.right) (λ x. going (difference_compared left minus s.right x.0 x.1)) (behind_both left minus s.right) a ending f miss)

-- as far as the comparison's sign
to_sign : (ts a b : List Token) (ending : End) (process name : Place) (c : Compare) (at : ℕ) (s : Subtracted ts a ending process name) → found compare_in a ≡ Some ((c, at), b)
    → (left : Variable) (minus : ℕ) → Moves (subtracting left minus) ts b ending (going (difference_compared left minus s.right c at))
to_sign ts a b ending process name c at s h left minus =
    and_then (subtracting left minus) (both_sides left minus s.right) ts a b ending (going (difference_compared left minus s.right c at)) (s.moves left minus)
    (moves compare_in compare_token (both_sides left minus s.right) (λ x. going (difference_compared left minus s.right x.0 x.1)) (behind_both left minus s.right) a b ending (c, at) h)

pub without_bound : (ts a b : List Token) (ending : End) (process name : Place) (c : Compare) (f : FormulaFault) → Subtracted ts a ending process name → found comparison_in a ≡ Some (c, b)
    → ((left : Variable) (minus : ℕ) (right : Variable) (d : Compare) (at : ℕ) → LeafFault (difference_compared left minus right d at) b ending f)
    → (left : Variable) (minus : ℕ) → LeafFault (subtracting left minus) ts ending f
without_bound ts a b ending process name c f s hc bad left minus = let k = compare_word a b c hc in
    then_fault (subtracting left minus) (difference_compared left minus s.right c k.0) ts b ending f (to_sign ts a b ending process name c k.0 s k.1 left minus) (bad left minus s.right c k.0)

bound_moves : (left : Variable) (minus : ℕ) (right : Variable) (c : Compare) (at : ℕ) (ts rest : List Token) (ending : End) (k : ℤ) (k_at : ℕ) → ts ≡ tok (kind.Number (Some k)) k_at ∷ rest
    → Moves (difference_compared left minus right c at) ts rest ending (whole (difference left minus right c at (Some k) k_at))
bound_moves left minus right c at ts rest ending k k_at is =
    subst (λ (x : List Token). Moves (difference_compared left minus right c at) x rest ending (whole (difference left minus right c at (Some k) k_at))) (sym is)
    (record { text = refl; goes = λ o. refl; shorter = omega arith })

pub difference_read : (ts a b rest : List Token) (ending : End) (left_process left_name process name : Place) (c : Compare) (k : ℤ) → Subtracted ts a ending process name
    → found comparison_in a ≡ Some (c, b) → BoundRead b rest k → (left : Variable) (minus : ℕ) → placed_name left.process ≡ left_process → placed_name left.variable ≡ left_name
    → LeafRead (subtracting left minus) ts rest ending (atom.Difference left_process left_name process name c k) left.process.at
difference_read ts a b rest ending left_process left_name process name c k s hc read left minus is_process is_name = let x = compare_word a b c hc in record {
  l = difference left minus s.right c x.0 (Some k) read.0;
  atom = ap (λ y. atom.Difference y (placed_name left.variable) (placed_name s.right.process) (placed_name s.right.variable) c k) is_process
      ∙ ap (λ y. atom.Difference left_process y (placed_name s.right.process) (placed_name s.right.variable) c k) is_name
      ∙ ap (λ y. atom.Difference left_process left_name y (placed_name s.right.variable) c k) s.process_is
      ∙ ap (λ y. atom.Difference left_process left_name process y c k) s.name_is;
  place = refl;
  in_range = refl;
  moves = and_then (subtracting left minus) (difference_compared left minus s.right c x.0) ts b rest ending (whole (difference left minus s.right c x.0 (Some k) read.0))
      (to_sign ts a b ending process name c x.0 s x.1 left minus) (bound_moves left minus s.right c x.0 b rest ending k read.0 read.1);
}

-- ---- from behind the first dot

abbrev Answer : Type 0
Answer = Result (Atom × Bor (List Token)) (Refused FormulaFault)

-- as far as the `-`
to_minus : (ts a b : List Token) (ending : End) (name : Spelled) (minus : ℕ) → found word_in ts ≡ Some (name, a) → found minus_in a ≡ Some (minus, b)
    → (p : Spelled) (dot : ℕ) → Moves (process_dot p dot) ts b ending (going (subtracting (variable_of p dot name) minus))
to_minus ts a b ending name minus hn hm p dot =
    and_then (process_dot p dot) (left_side (variable_of p dot name)) ts a b ending (going (subtracting (variable_of p dot name) minus))
    (moves word_in named (process_dot p dot) (λ w. going (left_side (variable_of p dot w))) (behind_dot p dot) ts a ending name hn)
    (subtracted_on_the_left (variable_of p dot name) a b ending minus hm)

behind_first : (p : Spelled) (dot : ℕ) (left : Variable) (minus : ℕ) (ts b rest : List Token) (ending : End) (a : Atom) → Moves (process_dot p dot) ts b ending (going (subtracting left minus))
    → LeafRead (subtracting left minus) b rest ending a p.at → LeafRead (process_dot p dot) ts rest ending a p.at
behind_first p dot left minus ts b rest ending a first read =
    record { l = read.l; atom = read.atom; place = read.place; in_range = read.in_range; moves = and_then (process_dot p dot) (subtracting left minus) ts b rest ending (whole read.l) first read.moves }

pub difference_answer : (answer : Answer) (ts a b : List Token) (ending : End) (process name : Place) (minus : ℕ) → found place_in ts ≡ Some (name, a) → found minus_in a ≡ Some (minus, b)
    → MatchResult answer (λ x. (v : Variable) (at : ℕ) → placed_name v.process ≡ process → placed_name v.variable ≡ name → LeafRead (subtracting v at) b x.1.now ending x.0 v.process.at)
    (λ stop. Faults stop (λ f. (v : Variable) (at : ℕ) → LeafFault (subtracting v at) b ending f))
    → MatchResult answer (λ x. (p : Spelled) (dot : ℕ) → placed_name p ≡ process → LeafRead (process_dot p dot) ts x.1.now ending x.0 p.at)
    (λ stop. Faults stop (λ f. (p : Spelled) (dot : ℕ) → LeafFault (process_dot p dot) ts ending f))
difference_answer (Ok x) ts a b ending process name minus hn hm read =
    let v = place_word ts a name hn in
    λ p dot is. behind_first p dot (variable_of p dot v.0) minus ts b x.1.now ending x.0 (to_minus ts a b ending v.0 minus v.1 hm p dot) (read (variable_of p dot v.0) minus is v.2)
difference_answer (Err stop) ts a b ending process name minus hn hm bad =
    let v = place_word ts a name hn in
    for_fault stop (λ f h p dot. then_fault (process_dot p dot) (subtracting (variable_of p dot v.0) minus) ts b ending f (to_minus ts a b ending v.0 minus v.1 hm p dot) (h (variable_of p dot v.0) minus)) bad
