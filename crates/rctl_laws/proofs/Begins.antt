-- The tokens that lead to a state begin a formula, those that lead to none do not, and those that are read are a formula.
use Rattle.std.specs.Prelude.{ℕ, true, List, [], ◌∷◌, ◌++◌, Option, None, Some}
use Rattle.std.proofs.Common.{◌≡◌, refl, sym, ◌∙◌, ap, append-nil}
use Rattle.std.proofs.lemmas.Option.{same_Some}
use Rattle.pota_base.specs.Number.{◌>>=◌}
use Rattle.run_model.specs.Run.{Name}
use Rattle.rctl_grammar.specs.declared.token.Kind.TheVariants as kind
use Rattle.rctl_grammar.specs.declared.token.Word.TheVariants as word
use Rattle.rctl_grammar.specs.declared.token.Token.{Token}
use Rattle.rctl_grammar.specs.declared.tree.Compare.TheVariants as compare
use Rattle.rctl_grammar.specs.Grammar.{Spelled, Variable, number, variable, constant, comparison, watch, transit, emptiness, difference, Disjunction, one_conjunction, or, one_unary, and, Unary, leaf, negation, temporal, stepping, group, until, tok, spelled, named, text_disjunction, text_unary, IsFormula, Begins}
use Rattle.rctl_grammar.specs.Machine.{ChannelWord, of_transit, of_emptiness, Front, process_dot, left_side, compared, right_process, right_dot, process_at, channel_word, channel_opened, channel_sender, channel_comma, channel_receiver, transit_channel, transit_compared, subtracting, subtracted_process, subtracted_dot, both_sides, difference_compared, nothing, bar, Outer, top, in_group, in_left, in_right, Open, first_of, next_of, in_negation, in_temporal, in_stepping, State, operand, a_word, in_leaf, a_path, a_stepping, after, start, settled, step, run, read, whole_of, whole_now, text_front, text_outer, text_open, text_of}
use Rattle.rctl_laws.proofs.Reading.{derivation_is_read}
use Rattle.rctl_laws.proofs.Keeps.{bind_some, joined_text, run_keeps, settled_text}

-- ---- what is open can be closed

abbrev Completed : (List Token → List Token) → Type 0
Completed f = (d : Disjunction) × (rest : List Token) × (text_disjunction d [] ≡ f rest)

-- a word, and a constant
abbrev some_word : Spelled
some_word = record { word = word.Plain; name = []; at = 0 }

abbrev some_variable : Variable
some_variable = record { process = some_word; dot = 0; variable = some_word }

abbrev true_at_0 : Token
true_at_0 = spelled word.True [] 0

abbrev truth : Unary
truth = leaf (constant true [] 0)

mutual
  close-outer : (outer : Outer) (d : Disjunction) → Completed (λ r. text_outer outer (text_disjunction d r))
  close-outer top d = (d, [], refl)
  close-outer (in_group o opened) d = let m = close-open o (group opened d 0) in (m.0, tok kind.CloseRound 0 ∷ m.1, m.2)
  close-outer (in_left o path) d = let m = close-open o (until path d [] 0 d 0) in (m.0, spelled word.U [] 0 ∷ text_disjunction d (tok kind.CloseSquare 0 ∷ m.1), m.2)
  close-outer (in_right o path left name at) d = let m = close-open o (until path left name at d 0) in (m.0, tok kind.CloseSquare 0 ∷ m.1, m.2)

  close-open : (o : Open) (u : Unary) → Completed (λ r. text_open o (text_unary u r))
  close-open (first_of outer nothing) u = close-outer outer (one_conjunction (one_unary u))
  close-open (first_of outer (bar d at)) u = close-outer outer (or d at (one_unary u))
  close-open (next_of outer nothing c at) u = close-outer outer (one_conjunction (and c at u))
  close-open (next_of outer (bar d here) c at) u = close-outer outer (or d here (and c at u))
  close-open (in_negation o at) u = close-open o (negation at u)
  close-open (in_temporal o op name at) u = close-open o (temporal op name at u)
  close-open (in_stepping o name at process) u = close-open o (stepping name at process u)

close-channel : (o : Open) (w : ChannelWord) (name : Name) (at opened : ℕ) (sender : Spelled) (comma : ℕ) (receiver : Spelled)
    → Completed (λ r. text_open o (text_front (channel_receiver w name at opened sender comma receiver) r))
close-channel o of_transit name at opened sender comma receiver =
    let m = close-open o (leaf (transit name at (record { opened = opened; sender = sender; comma = comma; receiver = receiver; closed = 0 }) compare.Eq 0 None 0)) in
    (m.0, tok kind.CloseRound 0 ∷ tok (kind.Compare compare.Eq) 0 ∷ tok (kind.Number None) 0 ∷ m.1, m.2)
close-channel o of_emptiness name at opened sender comma receiver =
    let m = close-open o (leaf (emptiness name at (record { opened = opened; sender = sender; comma = comma; receiver = receiver; closed = 0 }))) in
    (m.0, tok kind.CloseRound 0 ∷ m.1, m.2)

close-leaf : (o : Open) (front : Front) → Completed (λ r. text_open o (text_front front r))
close-leaf o (process_dot process dot) =
    let m = close-open o (leaf (comparison (record { process = process; dot = dot; variable = some_word }) compare.Eq 0 (number None 0))) in
    (m.0, named some_word ∷ tok (kind.Compare compare.Eq) 0 ∷ tok (kind.Number None) 0 ∷ m.1, m.2)
close-leaf o (left_side left) = let m = close-open o (leaf (comparison left compare.Eq 0 (number None 0))) in (m.0, tok (kind.Compare compare.Eq) 0 ∷ tok (kind.Number None) 0 ∷ m.1, m.2)
close-leaf o (compared left c at) = let m = close-open o (leaf (comparison left c at (number None 0))) in (m.0, tok (kind.Number None) 0 ∷ m.1, m.2)
close-leaf o (right_process left c at process) =
    let m = close-open o (leaf (comparison left c at (variable (record { process = process; dot = 0; variable = some_word })))) in (m.0, tok kind.Dot 0 ∷ named some_word ∷ m.1, m.2)
close-leaf o (right_dot left c at process dot) =
    let m = close-open o (leaf (comparison left c at (variable (record { process = process; dot = dot; variable = some_word })))) in (m.0, named some_word ∷ m.1, m.2)
close-leaf o (process_at process at) = let m = close-open o (leaf (watch process at some_word)) in (m.0, named some_word ∷ m.1, m.2)
close-leaf o (channel_word w name at) =
    let m = close-channel o w name at 0 some_word 0 some_word in (m.0, tok kind.OpenRound 0 ∷ named some_word ∷ tok kind.Comma 0 ∷ named some_word ∷ m.1, m.2)
close-leaf o (channel_opened w name at opened) =
    let m = close-channel o w name at opened some_word 0 some_word in (m.0, named some_word ∷ tok kind.Comma 0 ∷ named some_word ∷ m.1, m.2)
close-leaf o (channel_sender w name at opened sender) = let m = close-channel o w name at opened sender 0 some_word in (m.0, tok kind.Comma 0 ∷ named some_word ∷ m.1, m.2)
close-leaf o (channel_comma w name at opened sender comma) = let m = close-channel o w name at opened sender comma some_word in (m.0, named some_word ∷ m.1, m.2)
close-leaf o (channel_receiver w name at opened sender comma receiver) = close-channel o w name at opened sender comma receiver
close-leaf o (transit_channel name at channel) =
    let m = close-open o (leaf (transit name at channel compare.Eq 0 None 0)) in (m.0, tok (kind.Compare compare.Eq) 0 ∷ tok (kind.Number None) 0 ∷ m.1, m.2)
close-leaf o (transit_compared name at channel c compare_at) = let m = close-open o (leaf (transit name at channel c compare_at None 0)) in (m.0, tok (kind.Number None) 0 ∷ m.1, m.2)
close-leaf o (subtracting left minus) =
    let m = close-open o (leaf (difference left minus some_variable compare.Eq 0 None 0)) in
    (m.0, named some_word ∷ tok kind.Dot 0 ∷ named some_word ∷ tok (kind.Compare compare.Eq) 0 ∷ tok (kind.Number None) 0 ∷ m.1, m.2)
close-leaf o (subtracted_process left minus process) =
    let m = close-open o (leaf (difference left minus (record { process = process; dot = 0; variable = some_word }) compare.Eq 0 None 0)) in
    (m.0, tok kind.Dot 0 ∷ named some_word ∷ tok (kind.Compare compare.Eq) 0 ∷ tok (kind.Number None) 0 ∷ m.1, m.2)
close-leaf o (subtracted_dot left minus process dot) =
    let m = close-open o (leaf (difference left minus (record { process = process; dot = dot; variable = some_word }) compare.Eq 0 None 0)) in
    (m.0, named some_word ∷ tok (kind.Compare compare.Eq) 0 ∷ tok (kind.Number None) 0 ∷ m.1, m.2)
close-leaf o (both_sides left minus right) =
    let m = close-open o (leaf (difference left minus right compare.Eq 0 None 0)) in (m.0, tok (kind.Compare compare.Eq) 0 ∷ tok (kind.Number None) 0 ∷ m.1, m.2)
close-leaf o (difference_compared left minus right c compare_at) =
    let m = close-open o (leaf (difference left minus right c compare_at None 0)) in (m.0, tok (kind.Number None) 0 ∷ m.1, m.2)

close : (s : State) → Completed (text_of s)
close (operand o) = let m = close-open o truth in (m.0, true_at_0 ∷ m.1, m.2)
close (a_word o w) = let m = close-open o (leaf (watch w 0 some_word)) in (m.0, tok kind.At 0 ∷ named some_word ∷ m.1, m.2)
close (in_leaf o front) = close-leaf o front
close (a_path o all name at) =
    let d = one_conjunction (one_unary truth) in
    let m = close-open o (until (record { all = all; name = name; at = at; opened = 0 }) d [] 0 d 0) in
    (m.0, tok kind.OpenSquare 0 ∷ true_at_0 ∷ spelled word.U [] 0 ∷ true_at_0 ∷ tok kind.CloseSquare 0 ∷ m.1, m.2)
close (a_stepping o name at) = let m = close-open o (stepping name at some_word truth) in (m.0, named some_word ∷ true_at_0 ∷ m.1, m.2)
close (after outer nothing c) = close-outer outer (one_conjunction c)
close (after outer (bar d at) c) = close-outer outer (or d at c)

pub run_begins : (before : List Token) (s : State) → run start before ≡ Some s → Begins before
run_begins before s e = let m = close s in (m.0, m.1, m.2 ∙ sym (run_keeps before start s e m.1))

-- ---- what no state goes on with begins no formula

run-next : (p q : List Token) → ((x : State) → run x (p ++ q) ≡ (run x p >>= λ y. run y q)) → (next : Option State)
    → (next >>= λ x. run x (p ++ q)) ≡ ((next >>= λ x. run x p) >>= λ x. run x q)
run-next p q ih None = refl
run-next p q ih (Some x) = ih x

pub run_append : (p q : List Token) (s : State) → run s (p ++ q) ≡ (run s p >>= λ x. run x q)
run_append [] q s = refl
run_append (t ∷ p) q s = run-next p q (run_append p q) (step s t)

pub none_begins : (before : List Token) → run start before ≡ None → Begins before → ⊥
none_begins before e (d, rest, is) =
    let r : read (before ++ rest) ≡ Some d = ap read (sym is) ∙ derivation_is_read d in
    let n : read (before ++ rest) ≡ None = rw (run_append before rest start, e) refl in
    cc

-- ---- what is read is a formula

now-text : (s : State) (d : Disjunction) → whole_now s ≡ Some d → text_disjunction d [] ≡ text_of s []
now-text (operand o) d e = absurd cc
now-text (a_word o w) d e = absurd cc
now-text (in_leaf o front) d e = absurd cc
now-text (a_path o all name at) d e = absurd cc
now-text (a_stepping o name at) d e = absurd cc
now-text (after top before c) d e = ap (λ (x : Disjunction). text_disjunction x []) (sym (same_Some _ _ e)) ∙ joined_text before c []
now-text (after (in_group o opened) before c) d e = absurd cc
now-text (after (in_left o path) before c) d e = absurd cc
now-text (after (in_right o path left name at) before c) d e = absurd cc

whole-text : (s : State) (d : Disjunction) → whole_of s ≡ Some d → text_disjunction d [] ≡ text_of s []
whole-text (operand o) d e = absurd cc
whole-text (a_word o w) d e = let b = bind_some (settled o w) whole_now d e in now-text b.0 d b.2 ∙ sym (settled_text o w b.0 b.1 [])
whole-text (in_leaf o front) d e = absurd cc
whole-text (a_path o all name at) d e = absurd cc
whole-text (a_stepping o name at) d e = absurd cc
whole-text (after outer before c) d e = now-text (after outer before c) d e

pub whole_is_formula : (tokens : List Token) (s : State) (d : Disjunction) → run start tokens ≡ Some s → whole_of s ≡ Some d → IsFormula tokens d
whole_is_formula tokens s d e whole = whole-text s d whole ∙ sym (run_keeps tokens start s e []) ∙ append-nil tokens
