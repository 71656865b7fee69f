-- No number out of range comes before the first fault.
use Rattle.std.specs.Prelude.{ℕ, ℤ, negsuc, ◌⊎◌, false, List, [], ◌∷◌, ◌++◌, Option, None, Some}
use Rattle.std.proofs.Common.{◌≡◌, refl, sym, ◌∙◌, ap, subst, inl, inr, arith, append-nil, append_assoc}
use Rattle.std.proofs.lemmas.List.{same_from_push}
use Rattle.pota_base.specs.Number.{◌>>=◌}
use Rattle.run_model.specs.Run.{Name}
use Rattle.rctl_grammar.specs.declared.token.Kind.{Kind}
use Rattle.rctl_grammar.specs.declared.token.Kind.TheVariants as kind
use Rattle.rctl_grammar.specs.declared.token.Word.TheVariants as word
use Rattle.rctl_grammar.specs.declared.token.Token.{Token}
use Rattle.rctl_grammar.specs.declared.token.End.{End}
use Rattle.rctl_grammar.specs.declared.tree.Compare.{Compare}
use Rattle.rctl_grammar.specs.declared.fault.FormulaCode.TheVariants as code
use Rattle.rctl_grammar.specs.declared.fault.FormulaFault.{FormulaFault}
use Rattle.rctl_grammar.specs.Grammar.{Spelled, Channel, Variable, Conjunction, tok, spelled, named, counts}
use Rattle.rctl_grammar.specs.Machine.{Front, process_dot, left_side, compared, right_process, right_dot, process_at, channel_word, channel_opened, channel_sender, channel_comma, channel_receiver, transit_channel, transit_compared, subtracting, subtracted_process, subtracted_dot, both_sides, difference_compared, Before, nothing, bar, Outer, top, in_group, in_left, in_right, Open, State, operand, a_word, in_leaf, a_path, a_stepping, after, start, settled, step, step_kind, step_now, sign, text_open, text_of}
use Rattle.rctl_grammar.specs.FirstFault.{limit_now, settled_limit, placed, stopped, syntax_at, number_at}
use Rattle.rctl_lexer.specs.Lexing.{Ascend, place_of}
use Rattle.rctl_laws.specs.Table.{IsNegative, EndsWithTransit, IsBadNumber, Precedes}
use Rattle.rctl_laws.proofs.Texts.{appends_open}
use Rattle.rctl_laws.proofs.Keeps.{run_keeps, settled_text}
use Rattle.rctl_laws.proofs.Scan.{Waits, own, later}
use Rattle.rctl_laws.proofs.Precedes.{First, Stops, token-first, stops-by, along}

-- ---- a number out of range

-- the token is a bad number there, or a token that no formula goes on with
abbrev Blocked : Option State → Option FormulaFault → ℕ → Type 0
Blocked next broken here = (broken ≡ Some (number_at here)) ⊎ ((broken ≡ None) × (next ≡ None))

abbrev Refused : State → Option ℤ → ℕ → Type 0
Refused s value here = Blocked (step_now s (kind.Number value) here) (limit_now s (kind.Number value) here) here

refused-after : (outer : Outer) (before : Before) (c : Conjunction) (value : Option ℤ) (here : ℕ) → Refused (after outer before c) value here
refused-after top nothing c value here = inr (refl, refl)
refused-after top (bar d at) c value here = inr (refl, refl)
refused-after (in_group o opened) nothing c value here = inr (refl, refl)
refused-after (in_group o opened) (bar d at) c value here = inr (refl, refl)
refused-after (in_left o path) nothing c value here = inr (refl, refl)
refused-after (in_left o path) (bar d at) c value here = inr (refl, refl)
refused-after (in_right o path left name where_at) nothing c value here = inr (refl, refl)
refused-after (in_right o path left name where_at) (bar d at) c value here = inr (refl, refl)

-- two tokens at the end of others
two-last : (a b : List Token) (x y : Token) → a ++ (b ++ x ∷ y ∷ []) ≡ ((a ++ b) ++ x ∷ []) ++ y ∷ []
two-last a b x y = sym (append_assoc (a ++ b) (x ∷ []) (y ∷ []) ∙ append_assoc a b (x ∷ y ∷ []))

-- or it is compared with what ends with a variable: that alone, or a difference
pub record IsCompared (s : State) : Type 0 where
  pub front : List Token
  pub variable : Spelled
  pub compare : Compare
  pub at : ℕ
  pub text : text_of s [] ≡ (front ++ named variable ∷ []) ++ tok (kind.Compare compare) at ∷ []

compared-last : (o : Open) (left : Variable) (c : Compare) (at : ℕ) → IsCompared (in_leaf o (compared left c at))
compared-last o left c at =
    let side : List Token = named left.process ∷ tok kind.Dot left.dot ∷ [] in
    record {
      front = text_open o [] ++ side;
      variable = left.variable;
      compare = c;
      at = at;
      text = appends_open o (side ++ named left.variable ∷ tok (kind.Compare c) at ∷ []) ∙ two-last (text_open o []) side (named left.variable) (tok (kind.Compare c) at);
    }

difference-last : (o : Open) (left : Variable) (minus : ℕ) (right : Variable) (c : Compare) (at : ℕ) → IsCompared (in_leaf o (difference_compared left minus right c at))
difference-last o left minus right c at =
    let sides : List Token = named left.process ∷ tok kind.Dot left.dot ∷ named left.variable ∷ tok kind.Minus minus ∷ named right.process ∷ tok kind.Dot right.dot ∷ [] in
    record {
      front = text_open o [] ++ sides;
      variable = right.variable;
      compare = c;
      at = at;
      text = appends_open o (sides ++ named right.variable ∷ tok (kind.Compare c) at ∷ []) ∙ two-last (text_open o []) sides (named right.variable) (tok (kind.Compare c) at);
    }

abbrev Judged : State → Option ℤ → ℕ → Type 0
Judged s value here = Refused s value here ⊎ IsCompared s

judged-transit : (o : Open) (name : Name) (at : ℕ) (channel : Channel) (c : Compare) (compare_at : ℕ) (value : Option ℤ) (here : ℕ) → counts value ≡ false
    → Refused (in_leaf o (transit_compared name at channel c compare_at)) value here
judged-transit o name at channel c compare_at value here bad = inl (rw bad refl)

judged-leaf : (o : Open) (front : Front) (value : Option ℤ) (here : ℕ) → counts value ≡ false → Judged (in_leaf o front) value here
judged-leaf o (compared left c at) value here bad = inr (compared-last o left c at)
judged-leaf o (difference_compared left minus right c at) value here bad = inr (difference-last o left minus right c at)
judged-leaf o (transit_compared name at channel c compare_at) value here bad = inl (judged-transit o name at channel c compare_at value here bad)
judged-leaf o (process_dot process dot) value here bad = inl (inr (refl, refl))
judged-leaf o (left_side left) value here bad = inl (inr (refl, refl))
judged-leaf o (right_process left c at process) value here bad = inl (inr (refl, refl))
judged-leaf o (right_dot left c at process dot) value here bad = inl (inr (refl, refl))
judged-leaf o (process_at process at) value here bad = inl (inr (refl, refl))
judged-leaf o (channel_word w name at) value here bad = inl (inr (refl, refl))
judged-leaf o (channel_opened w name at opened) value here bad = inl (inr (refl, refl))
judged-leaf o (channel_sender w name at opened sender) value here bad = inl (inr (refl, refl))
judged-leaf o (channel_comma w name at opened sender comma) value here bad = inl (inr (refl, refl))
judged-leaf o (channel_receiver w name at opened sender comma receiver) value here bad = inl (inr (refl, refl))
judged-leaf o (transit_channel name at channel) value here bad = inl (inr (refl, refl))
judged-leaf o (subtracting left minus) value here bad = inl (inr (refl, refl))
judged-leaf o (subtracted_process left minus process) value here bad = inl (inr (refl, refl))
judged-leaf o (subtracted_dot left minus process dot) value here bad = inl (inr (refl, refl))
judged-leaf o (both_sides left minus right) value here bad = inl (inr (refl, refl))

judged-now : (s : State) (value : Option ℤ) (here : ℕ) → counts value ≡ false → Judged s value here
judged-now (operand o) value here bad = inl (inr (refl, refl))
judged-now (a_word o w) value here bad = inl (inr (refl, refl))
judged-now (in_leaf o front) value here bad = judged-leaf o front value here bad
judged-now (a_path o all name at) value here bad = inl (inr (refl, refl))
judged-now (a_stepping o name at) value here bad = inl (inr (refl, refl))
judged-now (after outer before c) value here bad = inl (refused-after outer before c value here)

abbrev Met : State → Option ℤ → ℕ → Type 0
Met s value here = Blocked (step_kind s (kind.Number value) here) (later s (kind.Number value) here) here ⊎ IsCompared s

met-known : (o : Open) (w : Spelled) (s : State) (value : Option ℤ) (here : ℕ) → settled o w ≡ Some s → Judged s value here
    → Blocked (step_now s (kind.Number value) here) (limit_now s (kind.Number value) here) here ⊎ IsCompared (a_word o w)
met-known o w s value here e (inl refused) = inl refused
met-known o w s value here e (inr c) = inr (record { front = c.front; variable = c.variable; compare = c.compare; at = c.at; text = settled_text o w s e [] ∙ c.text })

met-settled : (o : Open) (w : Spelled) (value : Option ℤ) (here : ℕ) → counts value ≡ false → (next : Option State) → settled o w ≡ next
    → Blocked (next >>= λ s. step_now s (kind.Number value) here) (settled_limit next (kind.Number value) here) here ⊎ IsCompared (a_word o w)
met-settled o w value here bad None e = inl (inr (refl, refl))
met-settled o w value here bad (Some s) e = met-known o w s value here e (judged-now s value here bad)

met : (s : State) (value : Option ℤ) (here : ℕ) → counts value ≡ false → Met s value here
met (operand o) value here bad = inl (inr (refl, refl))
met (a_word o w) value here bad = met-settled o w value here bad (settled o w) refl
met (in_leaf o front) value here bad = judged-leaf o front value here bad
met (a_path o all name at) value here bad = inl (inr (refl, refl))
met (a_stepping o name at) value here bad = inl (inr (refl, refl))
met (after outer before c) value here bad = inl (refused-after outer before c value here)

-- ---- where it stands

blocked-stops : (next : Option State) (broken : Option FormulaFault) (here : ℕ) → Blocked next broken here
    → (fault : FormulaFault) × (placed broken next here ≡ stopped fault) × Precedes fault code.Number here
blocked-stops next broken here (inl is) = (number_at here, rw is refl, inr (refl, omega arith))
blocked-stops next broken here (inr (none, no_step)) = (syntax_at here, rw (none, no_step) refl, inr (refl, omega arith))

stops-blocked : (s : State) (t : Token) (value : Option ℤ) → t.kind ≡ kind.Number value → Waits s t.at
    → Blocked (step_kind s (kind.Number value) t.at) (later s (kind.Number value) t.at) t.at → Stops code.Number s t
stops-blocked s t value is waits blocked =
    stops-by code.Number s t (own s (sign t.kind)) refl waits
    (λ _. blocked-stops (step s t) (later s t.kind t.at) t.at (subst (λ (k : Kind). Blocked (step_kind s k t.at) (later s k t.at) t.at) (sym is) blocked))

-- what `intransit` is compared with is not compared with a variable
not-both : (before : List Token) (s : State) → text_of s [] ≡ before → EndsWithTransit before → IsCompared s → ⊥
not-both before s reached e c =
    let transit_text = e.text
    ∙ two-last e.front (spelled word.InTransit e.name e.at ∷ tok kind.OpenRound e.channel.opened ∷ named e.channel.sender ∷ tok kind.Comma e.channel.comma ∷ named e.channel.receiver ∷ [])
    (tok kind.CloseRound e.channel.closed) (tok (kind.Compare e.compare) e.compare_at) in
    let ends = same_from_push _ _ _ _ (sym c.text ∙ reached ∙ transit_text) in
    let last = same_from_push _ _ _ _ ends.0 in
    let kinds : kind.Word c.variable.word c.variable.name ≡ kind.CloseRound = ap (λ (t : Token). t.kind) last.1 in
    cc

known : (s : State) (value : Option ℤ) (here : ℕ) → Met s value here → (IsCompared s → ⊥) → Blocked (step_kind s (kind.Number value) here) (later s (kind.Number value) here) here
known s value here (inl blocked) other = blocked
known s value here (inr c) other = absurd (other c)

-- a number outside the range is none that a variable is compared with either
out-of-range-leaf : (o : Open) (front : Front) (here : ℕ) → Refused (in_leaf o front) None here
out-of-range-leaf o (compared left c at) here = inl refl
out-of-range-leaf o (transit_compared name at channel c compare_at) here = inl refl
out-of-range-leaf o (difference_compared left minus right c compare_at) here = inl refl
out-of-range-leaf o (process_dot process dot) here = inr (refl, refl)
out-of-range-leaf o (left_side left) here = inr (refl, refl)
out-of-range-leaf o (right_process left c at process) here = inr (refl, refl)
out-of-range-leaf o (right_dot left c at process dot) here = inr (refl, refl)
out-of-range-leaf o (process_at process at) here = inr (refl, refl)
out-of-range-leaf o (channel_word w name at) here = inr (refl, refl)
out-of-range-leaf o (channel_opened w name at opened) here = inr (refl, refl)
out-of-range-leaf o (channel_sender w name at opened sender) here = inr (refl, refl)
out-of-range-leaf o (channel_comma w name at opened sender comma) here = inr (refl, refl)
out-of-range-leaf o (channel_receiver w name at opened sender comma receiver) here = inr (refl, refl)
out-of-range-leaf o (transit_channel name at channel) here = inr (refl, refl)
out-of-range-leaf o (subtracting left minus) here = inr (refl, refl)
out-of-range-leaf o (subtracted_process left minus process) here = inr (refl, refl)
out-of-range-leaf o (subtracted_dot left minus process dot) here = inr (refl, refl)
out-of-range-leaf o (both_sides left minus right) here = inr (refl, refl)

out-of-range-now : (s : State) (here : ℕ) → Refused s None here
out-of-range-now (operand o) here = inr (refl, refl)
out-of-range-now (a_word o w) here = inr (refl, refl)
out-of-range-now (in_leaf o front) here = out-of-range-leaf o front here
out-of-range-now (a_path o all name at) here = inr (refl, refl)
out-of-range-now (a_stepping o name at) here = inr (refl, refl)
out-of-range-now (after outer before c) here = refused-after outer before c None here

out-of-range-settled : (next : Option State) (here : ℕ) → Blocked (next >>= λ s. step_now s (kind.Number None) here) (settled_limit next (kind.Number None) here) here
out-of-range-settled None here = inr (refl, refl)
out-of-range-settled (Some s) here = out-of-range-now s here

out-of-range : (s : State) (here : ℕ) → Blocked (step_kind s (kind.Number None) here) (later s (kind.Number None) here) here
out-of-range (operand o) here = inr (refl, refl)
out-of-range (a_word o w) here = out-of-range-settled (settled o w) here
out-of-range (in_leaf o front) here = out-of-range-leaf o front here
out-of-range (a_path o all name at) here = inr (refl, refl)
out-of-range (a_stepping o name at) here = inr (refl, refl)
out-of-range (after outer before c) here = refused-after outer before c None here

number-here : (before rest : List Token) (t : Token) (ending : End) → (t.kind ≡ kind.Number None) ⊎ (IsNegative t.kind × EndsWithTransit before)
    → Ascend 0 (before ++ t ∷ rest) (place_of ending) → First (before ++ t ∷ rest) ending code.Number t.at
number-here before rest t ending (inl is) rises =
    token-first before rest t ending code.Number rises (λ s e waits. stops-blocked s t None is waits (out-of-range s t.at))
number-here before rest t ending (inr ((n, is), transit)) rises =
    token-first before rest t ending code.Number rises (λ s e waits. stops-blocked s t (Some (negsuc n)) is waits
    (known s (Some (negsuc n)) t.at (met s (Some (negsuc n)) t.at refl)
    (not-both before s (sym (run_keeps before start s e []) ∙ append-nil before) transit)))

pub number_first : (tokens : List Token) (ending : End) (at : ℕ) → IsBadNumber tokens at → Ascend 0 tokens (place_of ending) → First tokens ending code.Number at
number_first tokens ending at b =
    along tokens (b.before ++ b.token ∷ b.rest) ending code.Number at b.token.at b.stands.whole b.stands.place
    (number-here b.before b.rest b.token ending b.bad)
