-- What a word is once the next token is known, and where a unary ends.
use Rattle.std.specs.Prelude.{ℕ, Bool, true, false, None, Some}
use Rattle.std.proofs.Common.{◌≡◌, refl, subst}
use Rattle.std.proofs.lemmas.Option.{same_Some}
use Rattle.rctl_grammar.specs.declared.token.Kind.{Kind}
use Rattle.rctl_grammar.specs.declared.token.Word.{Word}
use Rattle.rctl_grammar.specs.declared.token.Word.TheVariants as word
use Rattle.run_model.specs.Formula as model
use Rattle.run_model.specs.Run.{Name}
use Rattle.rctl_grammar.specs.Grammar.{Spelled, Disjunction, one_conjunction, or, Conjunction, one_unary, and, Unary, leaf, negation, temporal, stepping, constant, word_of, path_word}
use Rattle.rctl_grammar.specs.Machine.{of_transit, of_emptiness, Front, channel_word, Before, nothing, bar, Outer, Open, first_of, next_of, in_negation, in_temporal, in_stepping, State, operand, in_leaf, a_path, a_stepping, after, plug, settled, step_kind, step_now, whole_of, whole_now}
use Rattle.rctl_grammar.specs.FirstFault.{limit, limit_now, end_limit}

-- what holds behind each conjunction holds where a unary ends
pub plugged : (P : State → Type 0) → ((outer : Outer) (before : Before) (c : Conjunction) → P (after outer before c)) → (o : Open) (u : Unary) → P (plug o u)
plugged P afters (first_of outer before) u = afters outer before (one_unary u)
plugged P afters (next_of outer before c at) u = afters outer before (and c at u)
plugged P afters (in_negation o at) u = plugged P afters o (negation at u)
plugged P afters (in_temporal o op name at) u = plugged P afters o (temporal op name at u)
plugged P afters (in_stepping o name at process) u = plugged P afters o (stepping name at process u)

-- what holds of each state that a word can be
module _ (P : State → Type 0) (operands : (o : Open) → P (operand o)) (leaves : (o : Open) (front : Front) → P (in_leaf o front))
    (paths : (o : Open) (all : Bool) (name : Name) (at : ℕ) → P (a_path o all name at)) (steppings : (o : Open) (name : Name) (at : ℕ) → P (a_stepping o name at))
    (afters : (outer : Outer) (before : Before) (c : Conjunction) → P (after outer before c)) where
  by-word : (o : Open) (w : Word) (name : Name) (at : ℕ) (s : State) → settled o (record { word = w; name = name; at = at }) ≡ Some s → P s
  by-word o word.Ef name at s e = subst P (same_Some _ _ e) (operands (in_temporal o model.Ef name at))
  by-word o word.Ag name at s e = subst P (same_Some _ _ e) (operands (in_temporal o model.Ag name at))
  by-word o word.Eg name at s e = subst P (same_Some _ _ e) (operands (in_temporal o model.Eg name at))
  by-word o word.Ex name at s e = subst P (same_Some _ _ e) (steppings o name at)
  by-word o word.Af name at s e = subst P (same_Some _ _ e) (operands (in_temporal o model.Af name at))
  by-word o word.Ax name at s e = subst P (same_Some _ _ e) (operands (in_temporal o model.Ax name at))
  by-word o word.E name at s e = subst P (same_Some _ _ e) (paths o false name at)
  by-word o word.A name at s e = subst P (same_Some _ _ e) (paths o true name at)
  by-word o word.U name at s e = absurd cc
  by-word o word.True name at s e = subst P (same_Some _ _ e) (plugged P afters o (leaf (constant true name at)))
  by-word o word.False name at s e = subst P (same_Some _ _ e) (plugged P afters o (leaf (constant false name at)))
  by-word o word.InTransit name at s e = subst P (same_Some _ _ e) (leaves o (channel_word of_transit name at))
  by-word o word.Empty name at s e = subst P (same_Some _ _ e) (leaves o (channel_word of_emptiness name at))
  by-word o word.Plain name at s e = absurd cc

  pub settled_is : (o : Open) (w : Spelled) (s : State) → settled o w ≡ Some s → P s
  settled_is o w s e = by-word o w.word w.name w.at s e

-- no word waits there
abbrev pub NoWord : State → Type 0
NoWord s = (k : Kind) (here : ℕ) → (step_kind s k here ≡ step_now s k here) × (limit s k here ≡ limit_now s k here)

pub settled_steps : (o : Open) (w : Spelled) (s : State) → settled o w ≡ Some s → NoWord s
settled_steps = settled_is NoWord (λ o k here. (refl, refl)) (λ o front k here. (refl, refl)) (λ o all name at k here. (refl, refl)) (λ o name at k here. (refl, refl)) (λ outer before c k here. (refl, refl))

abbrev pub EndsPlain : State → Type 0
EndsPlain s = (whole_of s ≡ whole_now s) × (end_limit s ≡ None)

pub settled_ends : (o : Open) (w : Spelled) (s : State) → settled o w ≡ Some s → EndsPlain s
settled_ends = settled_is EndsPlain (λ o. (refl, refl)) (λ o front. (refl, refl)) (λ o all name at. (refl, refl)) (λ o name at. (refl, refl)) (λ outer before c. (refl, refl))

-- an operator's word where it is no name
pub settled_operator : (o : Open) (op : model.Operator) (name : Name) (at : ℕ) → settled o (record { word = word_of op; name = name; at = at }) ≡ Some (operand (in_temporal o op name at))
settled_operator o model.Ef name at = refl
settled_operator o model.Ag name at = refl
settled_operator o model.Eg name at = refl
settled_operator o model.Af name at = refl
settled_operator o model.Ax name at = refl

pub settled_path : (o : Open) (all : Bool) (name : Name) (at : ℕ) → settled o (record { word = path_word all; name = name; at = at }) ≡ Some (a_path o all name at)
settled_path o true name at = refl
settled_path o false name at = refl

-- what stands behind a disjunction
abbrev pub ended : Outer → Disjunction → State
ended outer (one_conjunction c) = after outer nothing c
ended outer (or d at c) = after outer (bar d at) c
