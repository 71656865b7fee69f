-- The first fault of a text is one that the text has.
use Rattle.std.specs.Prelude.{ℕ, ℤ, pos, negsuc, ◌+◌, ◌⊎◌, nat_lt, Bool, true, false, List, [], ◌∷◌, ◌++◌, Option, None, Some, if◌then◌else◌}
use Rattle.std.proofs.Common.{◌≡◌, refl, sym, ◌∙◌, ap, subst, inl, inr, append-nil, append_assoc}
use Rattle.std.proofs.lemmas.Bool.{cond_both, ltb-false}
use Rattle.run_model.specs.Run.{Name}
use Rattle.pota_base.specs.Limits.{deepest, most_nodes}
use Rattle.rctl_grammar.specs.declared.token.Kind.{Kind}
use Rattle.rctl_grammar.specs.declared.token.Kind.TheVariants as kind
use Rattle.rctl_grammar.specs.declared.token.Token.{Token}
use Rattle.rctl_grammar.specs.declared.token.End.{End}
use Rattle.rctl_grammar.specs.declared.token.End.TheVariants as end
use Rattle.rctl_grammar.specs.declared.fault.FormulaFault.{FormulaFault}
use Rattle.rctl_grammar.specs.Grammar.{Spelled, Conjunction, one_unary, and, tok, named, nodes_conjunction, in_range, counts}
use Rattle.rctl_grammar.specs.Machine.{Front, process_dot, left_side, compared, right_process, right_dot, process_at, channel_word, channel_opened, channel_sender, channel_comma, channel_receiver, transit_channel, transit_compared, subtracting, subtracted_process, subtracted_dot, both_sides, difference_compared, Before, nothing, bar, Outer, Open, State, operand, a_word, in_leaf, a_path, a_stepping, after, start, settled, step, run, whole_of, NameSign, by_dot, by_at, no_sign, sign, following, text_open, text_of}
use Rattle.rctl_grammar.specs.FirstFault.{depth, nodes_open, nodes_outer, nodes_before, level_opens, node_stands, either, is_operator, word_limit, operand_limit, front_limit, path_limit, after_limit, limit_now, settled_limit, follow_limit, limit, end_limit, end_fault, placed, then_on, is_whole, fault_of, first_fault, syntax_at, token_at, number_at, too_deep_at, too_many_at}
use Rattle.rctl_laws.specs.Table.{IsAt, IsUnexpected, IsUnfinished, EndsWithTransit, NamesNone, OpensOperand, OpensUntil, IsNode, HasFault}
use Rattle.rctl_laws.proofs.Texts.{appends_open}
use Rattle.rctl_laws.proofs.Keeps.{run_keeps, settled_text}
use Rattle.rctl_laws.proofs.Reading.{one_reading}
use Rattle.rctl_laws.proofs.Begins.{run_append, run_begins, none_begins}

-- what is broken, if anything, the text has
abbrev Holds : List Token → End → Option FormulaFault → Type 0
Holds tokens ending None = Unit {0}
Holds tokens ending (Some fault) = HasFault tokens ending fault.code fault.place

holds-either : (tokens : List Token) (ending : End) (a b : Option FormulaFault) → Holds tokens ending a → Holds tokens ending b → Holds tokens ending (either a b)
holds-either tokens ending None b ha hb = hb
holds-either tokens ending (Some fault) b ha hb = ha

at_token : (before rest : List Token) (t : Token) → IsAt (before ++ t ∷ rest) t.at before t rest
at_token before rest t = record { whole = refl; place = refl }

-- ---- levels and nodes

level-holds : (before rest : List Token) (k : Kind) (here : ℕ) (ending : End) (around : Open)
    → (((before ≡ text_open around []) × OpensOperand k rest) ⊎ OpensUntil around before k)
    → Holds (before ++ tok k here ∷ rest) ending (level_opens (depth around) here)
level-holds before rest k here ending around opens =
    cond_both (nat_lt (depth around) deepest) None (Some (too_deep_at here)) (Holds (before ++ tok k here ∷ rest) ending) (λ e. tt)
    (λ e. record { before = before; token = tok k here; rest = rest; stands = at_token before rest (tok k here); around = around; deep = ltb-false (depth around) deepest e; opens = opens })

node-holds : (before rest : List Token) (k : Kind) (here : ℕ) (ending : End) (nodes : ℕ) → IsNode before k nodes
    → Holds (before ++ tok k here ∷ rest) ending (node_stands nodes here)
node-holds before rest k here ending nodes node =
    cond_both (nat_lt nodes most_nodes) None (Some (too_many_at here)) (Holds (before ++ tok k here ∷ rest) ending) (λ e. tt)
    (λ e. record { before = before; token = tok k here; rest = rest; stands = at_token before rest (tok k here); nodes = nodes; many = ltb-false nodes most_nodes e; node = node })

-- ---- what a token breaks where no word waits

operand-holds : (o : Open) (rest : List Token) (ending : End) (k : Kind) (here : ℕ) → Holds (text_open o [] ++ tok k here ∷ rest) ending (operand_limit o k here)
operand-holds o rest ending kind.Bang here =
    holds-either (text_open o [] ++ tok kind.Bang here ∷ rest) ending (level_opens (depth o) here) (node_stands (nodes_open o) here)
    (level-holds (text_open o []) rest kind.Bang here ending o (inl (refl, inl refl)))
    (node-holds (text_open o []) rest kind.Bang here ending (nodes_open o) (inl (record { around = o; text = refl; count = refl; unary = inl refl })))
operand-holds o rest ending kind.OpenRound here = level-holds (text_open o []) rest kind.OpenRound here ending o (inl (refl, inr (inl refl)))
operand-holds o rest ending k here = tt

side-holds : (before rest : List Token) (ending : End) (value : Option ℤ) (here : ℕ) → Holds (before ++ tok (kind.Number value) here ∷ rest) ending (if in_range value then None else Some (number_at here))
side-holds before rest ending (Some value) here = tt
side-holds before rest ending None here = record { before = before; token = tok (kind.Number None) here; rest = rest; stands = at_token before rest (tok (kind.Number None) here); bad = inl refl }

count-holds : (before rest : List Token) (ending : End) (value : Option ℤ) (here : ℕ) → EndsWithTransit before
    → Holds (before ++ tok (kind.Number value) here ∷ rest) ending (if counts value then None else Some (number_at here))
count-holds before rest ending (Some (pos k)) here transit = tt
count-holds before rest ending (Some (negsuc k)) here transit =
    record { before = before; token = tok (kind.Number (Some (negsuc k))) here; rest = rest; stands = at_token before rest (tok (kind.Number (Some (negsuc k))) here); bad = inr ((k, refl), transit) }
count-holds before rest ending None here transit =
    record { before = before; token = tok (kind.Number None) here; rest = rest; stands = at_token before rest (tok (kind.Number None) here); bad = inl refl }

leaf-holds : (o : Open) (front : Front) (rest : List Token) (ending : End) (k : Kind) (here : ℕ) → Holds (text_of (in_leaf o front) [] ++ tok k here ∷ rest) ending (front_limit front k here)
leaf-holds o (compared left c at) rest ending (kind.Number value) here = side-holds (text_of (in_leaf o (compared left c at)) []) rest ending value here
leaf-holds o (compared left c at) rest ending k here = tt
leaf-holds o (transit_compared name at channel c compare_at) rest ending (kind.Number value) here =
    count-holds (text_of (in_leaf o (transit_compared name at channel c compare_at)) []) rest ending value here
    (record { front = text_open o []; name = name; at = at; channel = channel; compare = c; compare_at = compare_at; text = appends_open o _ })
leaf-holds o (transit_compared name at channel c compare_at) rest ending k here = tt
leaf-holds o (difference_compared left minus right c compare_at) rest ending (kind.Number value) here =
    side-holds (text_of (in_leaf o (difference_compared left minus right c compare_at)) []) rest ending value here
leaf-holds o (difference_compared left minus right c compare_at) rest ending k here = tt
leaf-holds o (process_dot process dot) rest ending k here = tt
leaf-holds o (left_side left) rest ending k here = tt
leaf-holds o (right_process left c at process) rest ending k here = tt
leaf-holds o (right_dot left c at process dot) rest ending k here = tt
leaf-holds o (process_at process at) rest ending k here = tt
leaf-holds o (channel_word w name at) rest ending k here = tt
leaf-holds o (channel_opened w name at opened) rest ending k here = tt
leaf-holds o (channel_sender w name at opened sender) rest ending k here = tt
leaf-holds o (channel_comma w name at opened sender comma) rest ending k here = tt
leaf-holds o (channel_receiver w name at opened sender comma receiver) rest ending k here = tt
leaf-holds o (transit_channel name at channel) rest ending k here = tt
leaf-holds o (subtracting left minus) rest ending k here = tt
leaf-holds o (subtracted_process left minus process) rest ending k here = tt
leaf-holds o (subtracted_dot left minus process dot) rest ending k here = tt
leaf-holds o (both_sides left minus right) rest ending k here = tt

path-holds : (o : Open) (all : Bool) (name : Name) (at : ℕ) (rest : List Token) (ending : End) (k : Kind) (here : ℕ)
    → Holds (text_of (a_path o all name at) [] ++ tok k here ∷ rest) ending (path_limit o k here)
path-holds o all name at rest ending kind.OpenSquare here =
    level-holds (text_of (a_path o all name at) []) rest kind.OpenSquare here ending o (inr (record { all = all; name = name; at = at; text = refl; square = refl }))
path-holds o all name at rest ending k here = tt

after-holds : (outer : Outer) (before : Before) (c : Conjunction) (rest : List Token) (ending : End) (k : Kind) (here : ℕ)
    → Holds (text_of (after outer before c) [] ++ tok k here ∷ rest) ending (after_limit outer before c (following k) here)
after-holds outer before (one_unary u) rest ending kind.Amp here =
    node-holds (text_of (after outer before (one_unary u)) []) rest kind.Amp here ending (nodes_outer outer + nodes_before before + nodes_conjunction (one_unary u))
    (inr (inl (record { outer = outer; disjuncts = before; first = u; text = refl; count = refl; amp = refl })))
after-holds outer before (and c at u) rest ending kind.Amp here = tt
after-holds outer nothing c rest ending kind.Bar here =
    node-holds (text_of (after outer nothing c) []) rest kind.Bar here ending (nodes_outer outer + nodes_conjunction c)
    (inr (inr (record { outer = outer; first = c; text = refl; count = refl; bar = refl })))
after-holds outer (bar d at) c rest ending kind.Bar here = tt
after-holds outer nothing c rest ending k here = tt
after-holds outer (bar d at) c rest ending k here = tt

now-holds : (s : State) (rest : List Token) (ending : End) (k : Kind) (here : ℕ) → Holds (text_of s [] ++ tok k here ∷ rest) ending (limit_now s k here)
now-holds (operand o) rest ending k here = operand-holds o rest ending k here
now-holds (a_word o w) rest ending k here = tt
now-holds (in_leaf o front) rest ending k here = leaf-holds o front rest ending k here
now-holds (a_path o all name at) rest ending k here = path-holds o all name at rest ending k here
now-holds (a_stepping o name at) rest ending k here = tt
now-holds (after outer before c) rest ending k here = after-holds outer before c rest ending k here

-- ---- what a word breaks

-- what follows the word agrees with what it is taken for
abbrev pub Allows : NameSign → List Token → Type 0
Allows by_dot rest = Unit {0}
Allows by_at rest = Unit {0}
Allows no_sign rest = NamesNone rest

word-node : (o : Open) (w : Spelled) (rest : List Token) (ending : End) → Holds (text_open o [] ++ named w ∷ rest) ending (node_stands (nodes_open o) w.at)
word-node o w rest ending =
    node-holds (text_open o []) rest (kind.Word w.word w.name) w.at ending (nodes_open o)
    (inl (record { around = o; text = refl; count = refl; unary = inr (w.word, w.name, refl) }))

word-level : (o : Open) (w : Spelled) (rest : List Token) (ending : End) → NamesNone rest
    → Holds (text_open o [] ++ named w ∷ rest) ending (if is_operator w.word then level_opens (depth o) w.at else None)
word-level o w rest ending none =
    cond_both (is_operator w.word) (level_opens (depth o) w.at) None (Holds (text_open o [] ++ named w ∷ rest) ending)
    (λ e. level-holds (text_open o []) rest (kind.Word w.word w.name) w.at ending o (inl (refl, inr (inr (w.word, w.name, refl, e, none)))))
    (λ e. tt)

word-holds : (o : Open) (w : Spelled) (rest : List Token) (ending : End) (g : NameSign) → Allows g rest → Holds (text_open o [] ++ named w ∷ rest) ending (word_limit o w g)
word-holds o w rest ending by_dot allows = word-node o w rest ending
word-holds o w rest ending by_at allows = word-node o w rest ending
word-holds o w rest ending no_sign allows =
    holds-either (text_open o [] ++ named w ∷ rest) ending (if is_operator w.word then level_opens (depth o) w.at else None) (node_stands (nodes_open o) w.at)
    (word-level o w rest ending allows) (word-node o w rest ending)

follow-settled : (o : Open) (w : Spelled) (rest : List Token) (ending : End) (k : Kind) (here : ℕ) (next : Option State) → settled o w ≡ next
    → Holds (text_open o (named w ∷ []) ++ tok k here ∷ rest) ending (settled_limit next k here)
follow-settled o w rest ending k here None e = tt
follow-settled o w rest ending k here (Some s) e =
    subst (λ (xs : List Token). Holds (xs ++ tok k here ∷ rest) ending (limit_now s k here)) (sym (settled_text o w s e [])) (now-holds s rest ending k here)

follow-holds : (o : Open) (w : Spelled) (rest : List Token) (ending : End) (k : Kind) (here : ℕ) (g : NameSign)
    → Holds (text_open o (named w ∷ []) ++ tok k here ∷ rest) ending (follow_limit o w g k here)
follow-holds o w rest ending k here by_dot = tt
follow-holds o w rest ending k here by_at = tt
follow-holds o w rest ending k here no_sign = follow-settled o w rest ending k here (settled o w) refl

-- the word, and then the others
word-first : (o : Open) (w : Spelled) (rest : List Token) → text_open o (named w ∷ []) ++ rest ≡ text_open o [] ++ named w ∷ rest
word-first o w rest = ap (λ (xs : List Token). xs ++ rest) (appends_open o (named w ∷ [])) ∙ append_assoc (text_open o []) (named w ∷ []) rest

word-limits : (o : Open) (w : Spelled) (rest : List Token) (ending : End) (k : Kind) (here : ℕ) (g : NameSign) → Allows g (tok k here ∷ rest)
    → Holds (text_open o (named w ∷ []) ++ tok k here ∷ rest) ending (either (word_limit o w g) (follow_limit o w g k here))
word-limits o w rest ending k here g allows =
    holds-either (text_open o (named w ∷ []) ++ tok k here ∷ rest) ending (word_limit o w g) (follow_limit o w g k here)
    (subst (λ (xs : List Token). Holds xs ending (word_limit o w g)) (sym (word-first o w (tok k here ∷ rest))) (word-holds o w (tok k here ∷ rest) ending g allows))
    (follow-holds o w rest ending k here g)

pub sign_allows : (k : Kind) (here : ℕ) (rest : List Token) (g : NameSign) → sign k ≡ g → Allows g (tok k here ∷ rest)
sign_allows k here rest by_dot e = tt
sign_allows k here rest by_at e = tt
sign_allows k here rest no_sign e = e

pub limit_holds : (s : State) (rest : List Token) (ending : End) (k : Kind) (here : ℕ) → Holds (text_of s [] ++ tok k here ∷ rest) ending (limit s k here)
limit_holds (operand o) rest ending k here = operand-holds o rest ending k here
limit_holds (a_word o w) rest ending k here = word-limits o w rest ending k here (sign k) (sign_allows k here rest (sign k) refl)
limit_holds (in_leaf o front) rest ending k here = leaf-holds o front rest ending k here
limit_holds (a_path o all name at) rest ending k here = path-holds o all name at rest ending k here
limit_holds (a_stepping o name at) rest ending k here = tt
limit_holds (after outer before c) rest ending k here = after-holds outer before c rest ending k here

end-holds : (s : State) (ending : End) → Holds (text_of s []) ending (end_limit s)
end-holds (operand o) ending = tt
end-holds (a_word o w) ending = subst (λ (xs : List Token). Holds xs ending (word_limit o w no_sign)) (sym (appends_open o (named w ∷ []))) (word-holds o w [] ending no_sign tt)
end-holds (in_leaf o front) ending = tt
end-holds (a_path o all name at) ending = tt
end-holds (a_stepping o name at) ending = tt
end-holds (after outer before c) ending = tt

-- ---- the first fault

unfinished : (tokens : List Token) (s : State) (at : ℕ) → run start tokens ≡ Some s → is_whole (whole_of s) ≡ false → IsUnfinished tokens (end.Ends at) at
unfinished tokens s at e open_still =
    record {
      ends = refl;
      none = λ d is.
          let read_again : whole_of s ≡ Some d = rw e at (one_reading tokens d is) in
          let whole : is_whole (whole_of s) ≡ true = ap is_whole read_again in
          cc;
    }

unexpected : (before rest : List Token) (s : State) (t : Token) → run start before ≡ Some s → step s t ≡ None → IsUnexpected (before ++ t ∷ rest) t.at
unexpected before rest s t e none =
    record {
      before = before;
      token = t;
      rest = rest;
      stands = at_token before rest t;
      begins = run_begins before s e;
      breaks = none_begins (before ++ t ∷ []) (run_append before (t ∷ []) start ∙ rw (e, none) refl);
    }

text-reached : (tokens : List Token) (s : State) → run start tokens ≡ Some s → text_of s [] ≡ tokens
text-reached tokens s e = sym (run_keeps tokens start s e []) ∙ append-nil tokens

end-limit-stands : (tokens : List Token) (s : State) (ending : End) → run start tokens ≡ Some s → Holds tokens ending (end_limit s)
end-limit-stands tokens s ending e = subst (λ (xs : List Token). Holds xs ending (end_limit s)) (text-reached tokens s e) (end-holds s ending)

end-stands : (tokens : List Token) (s : State) (ending : End) → run start tokens ≡ Some s → Holds tokens ending (end_fault s ending)
end-stands tokens s (end.BadToken at) e =
    holds-either tokens (end.BadToken at) (end_limit s) (Some (token_at at)) (end-limit-stands tokens s (end.BadToken at) e) refl
end-stands tokens s (end.Ends at) e =
    holds-either tokens (end.Ends at) (end_limit s) (if is_whole (whole_of s) then None else Some (syntax_at at)) (end-limit-stands tokens s (end.Ends at) e)
    (cond_both (is_whole (whole_of s)) None (Some (syntax_at at)) (Holds tokens (end.Ends at)) (λ h. tt) (λ h. inr (unfinished tokens s at e h)))

token-stands : (before ts : List Token) (s : State) (t : Token) (ending : End) → run start before ≡ Some s
    → (broken : Option FormulaFault) → limit s t.kind t.at ≡ broken → (next : Option State) → step s t ≡ next
    → ((x : State) → step s t ≡ Some x → Holds (before ++ t ∷ ts) ending (fault_of x ts ending))
    → Holds (before ++ t ∷ ts) ending (then_on (placed broken next t.at) (λ x. fault_of x ts ending))
token-stands before ts s t ending e (Some fault) l next n more =
    subst (λ (b : Option FormulaFault). Holds (before ++ t ∷ ts) ending b) l
    (subst (λ (xs : List Token). Holds (xs ++ t ∷ ts) ending (limit s t.kind t.at)) (text-reached before s e) (limit_holds s ts ending t.kind t.at))
token-stands before ts s t ending e None l (Some x) n more = more x n
token-stands before ts s t ending e None l None n more = inl (unexpected before ts s t e n)

reached-next : (before : List Token) (s x : State) (t : Token) → run start before ≡ Some s → step s t ≡ Some x → run start (before ++ t ∷ []) ≡ Some x
reached-next before s x t e n = run_append before (t ∷ []) start ∙ rw (e, n) refl

stands : (ts before : List Token) (s : State) (ending : End) → run start before ≡ Some s → Holds (before ++ ts) ending (fault_of s ts ending)
stands [] before s ending e = subst (λ (xs : List Token). Holds xs ending (end_fault s ending)) (sym (append-nil before)) (end-stands before s ending e)
stands (t ∷ ts) before s ending e =
    token-stands before ts s t ending e (limit s t.kind t.at) refl (step s t) refl
    (λ x n. subst (λ (xs : List Token). Holds xs ending (fault_of x ts ending)) (append_assoc before (t ∷ []) ts)
    (stands ts (before ++ t ∷ []) x ending (reached-next before s x t e n)))

pub first_stands : (tokens : List Token) (ending : End) (fault : FormulaFault) → first_fault tokens ending ≡ Some fault → HasFault tokens ending fault.code fault.place
first_stands tokens ending fault e = subst (λ (b : Option FormulaFault). Holds tokens ending b) e (stands tokens [] start ending refl)
