-- The tokens of a part stand before those of the rest.
use Rattle.std.specs.Prelude.{List, [], ◌∷◌, ◌++◌}
use Rattle.std.proofs.Common.{◌≡◌, refl, sym, ◌∙◌, ap, append_assoc}
use Rattle.rctl_grammar.specs.declared.token.Kind.TheVariants as kind
use Rattle.rctl_grammar.specs.declared.token.Word.TheVariants as word
use Rattle.rctl_grammar.specs.declared.token.Token.{Token}
use Rattle.rctl_grammar.specs.Grammar.{number, variable, Leaf, constant, comparison, watch, transit, emptiness, difference, Disjunction, one_conjunction, or, Conjunction, one_unary, and, Unary, leaf, negation, temporal, stepping, group, until, tok, spelled, word_of, named, path_word, text_path, text_leaf, text_disjunction, text_conjunction, text_unary}
use Rattle.rctl_grammar.specs.Machine.{Front, process_dot, left_side, compared, right_process, right_dot, process_at, channel_word, channel_opened, channel_sender, channel_comma, channel_receiver, transit_channel, transit_compared, subtracting, subtracted_process, subtracted_dot, both_sides, difference_compared, State, operand, a_word, in_leaf, a_path, a_stepping, after, text_front, text_of, Before, nothing, bar, Outer, top, in_group, in_left, in_right, Open, first_of, next_of, in_negation, in_temporal, in_stepping, text_before, text_outer, text_open}

abbrev pub Appends : (List Token → List Token) → Type 0
Appends f = (r : List Token) → f r ≡ f [] ++ r

appends-cons : (t : Token) (f : List Token → List Token) → Appends f → Appends (λ r. t ∷ f r)
appends-cons t f h r = ap (λ (xs : List Token). t ∷ xs) (h r)

appends-then : (f g : List Token → List Token) → Appends f → Appends g → Appends (λ r. f (g r))
appends-then f g hf hg r =
    hf (g r) ∙ ap (λ (xs : List Token). f [] ++ xs) (hg r) ∙ sym (append_assoc (f []) (g []) r) ∙ ap (λ (xs : List Token). xs ++ r) (sym (hf (g [])))

appends-leaf : (l : Leaf) → Appends (text_leaf l)
appends-leaf (constant value name at) r = refl
appends-leaf (comparison left compare at (number value here)) r = refl
appends-leaf (comparison left compare at (variable v)) r = refl
appends-leaf (watch process at name) r = refl
appends-leaf (transit name at channel compare compare_at value value_at) r = refl
appends-leaf (emptiness name at channel) r = refl
appends-leaf (difference left minus right compare compare_at value value_at) r = refl

mutual
  pub appends_disjunction : (d : Disjunction) → Appends (text_disjunction d)
  appends_disjunction (one_conjunction c) r = appends_conjunction c r
  appends_disjunction (or d at c) r =
      appends-then (text_disjunction d) (λ xs. tok kind.Bar at ∷ text_conjunction c xs) (appends_disjunction d) (appends-cons (tok kind.Bar at) (text_conjunction c) (appends_conjunction c)) r

  pub appends_conjunction : (c : Conjunction) → Appends (text_conjunction c)
  appends_conjunction (one_unary u) r = appends_unary u r
  appends_conjunction (and c at u) r =
      appends-then (text_conjunction c) (λ xs. tok kind.Amp at ∷ text_unary u xs) (appends_conjunction c) (appends-cons (tok kind.Amp at) (text_unary u) (appends_unary u)) r

  pub appends_unary : (u : Unary) → Appends (text_unary u)
  appends_unary (leaf l) r = appends-leaf l r
  appends_unary (negation at u) r = appends-cons (tok kind.Bang at) (text_unary u) (appends_unary u) r
  appends_unary (temporal op name at u) r = appends-cons (spelled (word_of op) name at) (text_unary u) (appends_unary u) r
  appends_unary (stepping name at process u) r =
      appends-cons (spelled word.Ex name at) (λ xs. named process ∷ text_unary u xs) (appends-cons (named process) (text_unary u) (appends_unary u)) r
  appends_unary (group opened d closed) r =
      appends-cons (tok kind.OpenRound opened) (λ xs. text_disjunction d (tok kind.CloseRound closed ∷ xs))
      (appends-then (text_disjunction d) (λ xs. tok kind.CloseRound closed ∷ xs) (appends_disjunction d) (λ xs. refl)) r
  appends_unary (until path left name at right closed) r =
      appends-then (text_path path) (λ xs. text_disjunction left (spelled word.U name at ∷ text_disjunction right (tok kind.CloseSquare closed ∷ xs))) (λ xs. refl)
      (appends-then (text_disjunction left) (λ xs. spelled word.U name at ∷ text_disjunction right (tok kind.CloseSquare closed ∷ xs)) (appends_disjunction left)
      (appends-cons (spelled word.U name at) (λ xs. text_disjunction right (tok kind.CloseSquare closed ∷ xs))
      (appends-then (text_disjunction right) (λ xs. tok kind.CloseSquare closed ∷ xs) (appends_disjunction right) (λ xs. refl)))) r

appends-before : (before : Before) → Appends (text_before before)
appends-before nothing r = refl
appends-before (bar d at) r = appends-then (text_disjunction d) (λ xs. tok kind.Bar at ∷ xs) (appends_disjunction d) (λ xs. refl) r

mutual
  pub appends_outer : (outer : Outer) → Appends (text_outer outer)
  appends_outer top r = refl
  appends_outer (in_group o opened) r = appends-then (text_open o) (λ xs. tok kind.OpenRound opened ∷ xs) (appends_open o) (λ xs. refl) r
  appends_outer (in_left o path) r = appends-then (text_open o) (text_path path) (appends_open o) (λ xs. refl) r
  appends_outer (in_right o path left name at) r =
      appends-then (text_open o) (λ xs. text_path path (text_disjunction left (spelled word.U name at ∷ xs))) (appends_open o)
      (appends-then (text_path path) (λ xs. text_disjunction left (spelled word.U name at ∷ xs)) (λ xs. refl)
      (appends-then (text_disjunction left) (λ xs. spelled word.U name at ∷ xs) (appends_disjunction left) (λ xs. refl))) r

  pub appends_open : (o : Open) → Appends (text_open o)
  appends_open (first_of outer before) r = appends-then (text_outer outer) (text_before before) (appends_outer outer) (appends-before before) r
  appends_open (next_of outer before c at) r =
      appends-then (text_outer outer) (λ xs. text_before before (text_conjunction c (tok kind.Amp at ∷ xs))) (appends_outer outer)
      (appends-then (text_before before) (λ xs. text_conjunction c (tok kind.Amp at ∷ xs)) (appends-before before)
      (appends-then (text_conjunction c) (λ xs. tok kind.Amp at ∷ xs) (appends_conjunction c) (λ xs. refl))) r
  appends_open (in_negation o at) r = appends-then (text_open o) (λ xs. tok kind.Bang at ∷ xs) (appends_open o) (λ xs. refl) r
  appends_open (in_temporal o op name at) r = appends-then (text_open o) (λ xs. spelled (word_of op) name at ∷ xs) (appends_open o) (λ xs. refl) r
  appends_open (in_stepping o name at process) r = appends-then (text_open o) (λ xs. spelled word.Ex name at ∷ named process ∷ xs) (appends_open o) (λ xs. refl) r

appends-front : (front : Front) → Appends (text_front front)
appends-front (process_dot process dot) r = refl
appends-front (left_side left) r = refl
appends-front (compared left c at) r = refl
appends-front (right_process left c at process) r = refl
appends-front (right_dot left c at process dot) r = refl
appends-front (process_at process at) r = refl
appends-front (channel_word w name at) r = refl
appends-front (channel_opened w name at opened) r = refl
appends-front (channel_sender w name at opened sender) r = refl
appends-front (channel_comma w name at opened sender comma) r = refl
appends-front (channel_receiver w name at opened sender comma receiver) r = refl
appends-front (transit_channel name at channel) r = refl
appends-front (transit_compared name at channel c compare_at) r = refl
appends-front (subtracting left minus) r = refl
appends-front (subtracted_process left minus process) r = refl
appends-front (subtracted_dot left minus process dot) r = refl
appends-front (both_sides left minus right) r = refl
appends-front (difference_compared left minus right c compare_at) r = refl

pub appends_state : (s : State) → Appends (text_of s)
appends_state (operand o) r = appends_open o r
appends_state (a_word o w) r = appends-then (text_open o) (λ xs. named w ∷ xs) (appends_open o) (λ xs. refl) r
appends_state (in_leaf o front) r = appends-then (text_open o) (text_front front) (appends_open o) (appends-front front) r
appends_state (a_path o all name at) r = appends-then (text_open o) (λ xs. spelled (path_word all) name at ∷ xs) (appends_open o) (λ xs. refl) r
appends_state (a_stepping o name at) r = appends-then (text_open o) (λ xs. spelled word.Ex name at ∷ xs) (appends_open o) (λ xs. refl) r
appends_state (after outer before c) r =
    appends-then (text_outer outer) (λ xs. text_before before (text_conjunction c xs)) (appends_outer outer)
    (appends-then (text_before before) (text_conjunction c) (appends-before before) (appends_conjunction c)) r
