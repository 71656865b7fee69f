-- How far tokens are passed, and at which place they are stopped.
use Rattle.std.specs.Prelude.{ℕ, ◌+◌, ◌<◌, ◌≤◌, nat_lt, List, [], ◌∷◌, ◌++◌, Option, None, Some, if◌then◌else◌}
use Rattle.std.proofs.Common.{◌≡◌, refl, sym, ◌∙◌, ap, subst, arith}
use Rattle.std.proofs.lemmas.Bool.{cond_both}
use Rattle.std.proofs.lemmas.List.{same_from_push}
use Rattle.pota_base.specs.Number.{◌>>=◌}
use Rattle.pota_base.specs.Limits.{deepest, most_nodes}
use Rattle.rctl_grammar.specs.declared.token.Kind.{Kind}
use Rattle.rctl_grammar.specs.declared.token.Kind.TheVariants as kind
use Rattle.rctl_grammar.specs.declared.token.Token.{Token}
use Rattle.rctl_grammar.specs.declared.token.End.{End}
use Rattle.rctl_grammar.specs.declared.fault.FormulaFault.{FormulaFault}
use Rattle.rctl_grammar.specs.Grammar.{Spelled, Conjunction, one_unary, and, named, nodes_conjunction, in_range, counts}
use Rattle.rctl_grammar.specs.Machine.{Front, process_dot, left_side, compared, right_process, right_dot, process_at, channel_word, channel_opened, channel_sender, channel_comma, channel_receiver, transit_channel, transit_compared, subtracting, subtracted_process, subtracted_dot, both_sides, difference_compared, Before, nothing, bar, Outer, Open, State, operand, a_word, in_leaf, a_path, a_stepping, after, settled, step, run, NameSign, by_dot, by_at, no_sign, sign, following, text_open, text_of}
use Rattle.rctl_grammar.specs.FirstFault.{depth, nodes_open, nodes_outer, nodes_before, level_opens, node_stands, either, is_operator, word_limit, operand_limit, front_limit, path_limit, after_limit, limit_now, settled_limit, follow_limit, limit, placed, then_on, Passed, passed, stopped, fault_of, syntax_at, number_at, too_deep_at, too_many_at}
use Rattle.rctl_lexer.specs.Lexing.{Ascend}
use Rattle.rctl_laws.proofs.Texts.{appends_open, appends_state}
use Rattle.rctl_laws.proofs.Keeps.{step_keeps}

abbrev pub and_on : Passed → (State → Passed) → Passed
and_on (passed s) more = more s
and_on (stopped fault) more = stopped fault

abbrev pub step_limited : State → Token → Passed
step_limited s t = placed (limit s t.kind t.at) (step s t) t.at

abbrev pub scan : State → List Token → Passed
scan s [] = passed s
scan s (t ∷ ts) = and_on (step_limited s t) (λ x. scan x ts)

-- ---- the first fault by what was passed

fault-next : (p q : List Token) (ending : End) (x : Passed) → ((s : State) → fault_of s (p ++ q) ending ≡ then_on (scan s p) (λ y. fault_of y q ending))
    → then_on x (λ y. fault_of y (p ++ q) ending) ≡ then_on (and_on x (λ y. scan y p)) (λ y. fault_of y q ending)
fault-next p q ending (passed s) ih = ih s
fault-next p q ending (stopped fault) ih = refl

pub fault_scan : (p q : List Token) (ending : End) (s : State) → fault_of s (p ++ q) ending ≡ then_on (scan s p) (λ x. fault_of x q ending)
fault_scan [] q ending s = refl
fault_scan (t ∷ p) q ending s = fault-next p q ending (step_limited s t) (fault_scan p q ending)

placed-passed : (broken : Option FormulaFault) (next : Option State) (here : ℕ) (x : State) → placed broken next here ≡ passed x → next ≡ Some x
placed-passed (Some fault) next here x e = absurd cc
placed-passed None (Some y) here x e = let same : y ≡ x = cc in ap Some same
placed-passed None None here x e = absurd cc

run-next : (p : List Token) (x : State) (after_step : Passed) (next : Option State) → ((y : State) → after_step ≡ passed y → next ≡ Some y)
    → ((y : State) → scan y p ≡ passed x → run y p ≡ Some x) → and_on after_step (λ y. scan y p) ≡ passed x → (next >>= λ y. run y p) ≡ Some x
run-next p x (passed y) next is ih e = rw (is y refl) (ih y e)
run-next p x (stopped fault) next is ih e = absurd cc

pub scan_run : (p : List Token) (s x : State) → scan s p ≡ passed x → run s p ≡ Some x
scan_run [] s x e = let same : s ≡ x = cc in ap Some same
scan_run (t ∷ p) s x e = run-next p x (step_limited s t) (step s t) (λ y is. placed-passed (limit s t.kind t.at) (step s t) t.at y is) (λ y h. scan_run p y x h) e

-- ---- places

-- a word that waits stands before the place
abbrev pub Waits : State → ℕ → Type 0
Waits (a_word o w) n = w.at < n
Waits (operand o) n = Unit {0}
Waits (in_leaf o front) n = Unit {0}
Waits (a_path o all name at) n = Unit {0}
Waits (a_stepping o name at) n = Unit {0}
Waits (after outer before c) n = Unit {0}

waits-on : (s : State) (m n : ℕ) → m ≤ n → Waits s m → Waits s n
waits-on (a_word o w) m n le h = omega arith
waits-on (operand o) m n le h = tt
waits-on (in_leaf o front) m n le h = tt
waits-on (a_path o all name at) m n le h = tt
waits-on (a_stepping o name at) m n le h = tt
waits-on (after outer before c) m n le h = tt

-- the word that waits is the token of the step
step-waits : (s x : State) (t : Token) → step s t ≡ Some x → Waits x (t.at + 1)
step-waits s (a_word o w) t e =
    let same : text_of s [] ++ t ∷ [] ≡ text_open o [] ++ named w ∷ [] = sym (appends_state s (t ∷ [])) ∙ step_keeps s (a_word o w) t e [] ∙ appends_open o (named w ∷ []) in
    let token = same_from_push (text_of s []) (text_open o []) t (named w) same in
    let place : t.at ≡ w.at = ap (λ (x : Token). x.at) token.1 in
    omega arith
step-waits s (operand o) t e = tt
step-waits s (in_leaf o front) t e = tt
step-waits s (a_path o all name at) t e = tt
step-waits s (a_stepping o name at) t e = tt
step-waits s (after outer before c) t e = tt

-- what is broken is at this place
abbrev pub At : ℕ → Option FormulaFault → Type 0
At here None = Unit {0}
At here (Some fault) = fault.place ≡ here

at-either : (here : ℕ) (a b : Option FormulaFault) → At here a → At here b → At here (either a b)
at-either here None b ha hb = hb
at-either here (Some fault) b ha hb = ha

at-level : (levels here : ℕ) → At here (level_opens levels here)
at-level levels here = cond_both (nat_lt levels deepest) None (Some (too_deep_at here)) (At here) (λ e. tt) (λ e. refl)

at-node : (nodes here : ℕ) → At here (node_stands nodes here)
at-node nodes here = cond_both (nat_lt nodes most_nodes) None (Some (too_many_at here)) (At here) (λ e. tt) (λ e. refl)

at-operand : (o : Open) (k : Kind) (here : ℕ) → At here (operand_limit o k here)
at-operand o kind.Bang here = at-either here (level_opens (depth o) here) (node_stands (nodes_open o) here) (at-level (depth o) here) (at-node (nodes_open o) here)
at-operand o kind.OpenRound here = at-level (depth o) here
at-operand o k here = tt

at-front : (front : Front) (k : Kind) (here : ℕ) → At here (front_limit front k here)
at-front (compared left c at) (kind.Number value) here = cond_both (in_range value) None (Some (number_at here)) (At here) (λ e. tt) (λ e. refl)
at-front (compared left c at) k here = tt
at-front (transit_compared name at channel c compare_at) (kind.Number value) here = cond_both (counts value) None (Some (number_at here)) (At here) (λ e. tt) (λ e. refl)
at-front (transit_compared name at channel c compare_at) k here = tt
at-front (difference_compared left minus right c compare_at) (kind.Number value) here = cond_both (in_range value) None (Some (number_at here)) (At here) (λ e. tt) (λ e. refl)
at-front (difference_compared left minus right c compare_at) k here = tt
at-front (process_dot process dot) k here = tt
at-front (left_side left) k here = tt
at-front (right_process left c at process) k here = tt
at-front (right_dot left c at process dot) k here = tt
at-front (process_at process at) k here = tt
at-front (channel_word w name at) k here = tt
at-front (channel_opened w name at opened) k here = tt
at-front (channel_sender w name at opened sender) k here = tt
at-front (channel_comma w name at opened sender comma) k here = tt
at-front (channel_receiver w name at opened sender comma receiver) k here = tt
at-front (transit_channel name at channel) k here = tt
at-front (subtracting left minus) k here = tt
at-front (subtracted_process left minus process) k here = tt
at-front (subtracted_dot left minus process dot) k here = tt
at-front (both_sides left minus right) k here = tt

at-path : (o : Open) (k : Kind) (here : ℕ) → At here (path_limit o k here)
at-path o kind.OpenSquare here = at-level (depth o) here
at-path o k here = tt

at-after : (outer : Outer) (before : Before) (c : Conjunction) (k : Kind) (here : ℕ) → At here (after_limit outer before c (following k) here)
at-after outer before (one_unary u) kind.Amp here = at-node (nodes_outer outer + nodes_before before + nodes_conjunction (one_unary u)) here
at-after outer before (and c at u) kind.Amp here = tt
at-after outer nothing c kind.Bar here = at-node (nodes_outer outer + nodes_conjunction c) here
at-after outer (bar d at) c kind.Bar here = tt
at-after outer nothing c k here = tt
at-after outer (bar d at) c k here = tt

at-now : (s : State) (k : Kind) (here : ℕ) → At here (limit_now s k here)
at-now (operand o) k here = at-operand o k here
at-now (a_word o w) k here = tt
at-now (in_leaf o front) k here = at-front front k here
at-now (a_path o all name at) k here = at-path o k here
at-now (a_stepping o name at) k here = tt
at-now (after outer before c) k here = at-after outer before c k here

pub at_word : (o : Open) (w : Spelled) (g : NameSign) → At w.at (word_limit o w g)
at_word o w by_dot = at-node (nodes_open o) w.at
at_word o w by_at = at-node (nodes_open o) w.at
at_word o w no_sign =
    at-either w.at (if is_operator w.word then level_opens (depth o) w.at else None) (node_stands (nodes_open o) w.at)
    (cond_both (is_operator w.word) (level_opens (depth o) w.at) None (At w.at) (λ e. at-level (depth o) w.at) (λ e. tt)) (at-node (nodes_open o) w.at)

-- ---- what a word breaks itself, and what the token behind it breaks

abbrev pub own : State → NameSign → Option FormulaFault
own (a_word o w) g = word_limit o w g
own (operand o) g = None
own (in_leaf o front) g = None
own (a_path o all name at) g = None
own (a_stepping o name at) g = None
own (after outer before c) g = None

abbrev pub later : State → Kind → ℕ → Option FormulaFault
later (a_word o w) k here = follow_limit o w (sign k) k here
later (operand o) k here = limit_now (operand o) k here
later (in_leaf o front) k here = limit_now (in_leaf o front) k here
later (a_path o all name at) k here = limit_now (a_path o all name at) k here
later (a_stepping o name at) k here = limit_now (a_stepping o name at) k here
later (after outer before c) k here = limit_now (after outer before c) k here

pub limit_is : (s : State) (k : Kind) (here : ℕ) → limit s k here ≡ either (own s (sign k)) (later s k here)
limit_is (a_word o w) k here = refl
limit_is (operand o) k here = refl
limit_is (in_leaf o front) k here = refl
limit_is (a_path o all name at) k here = refl
limit_is (a_stepping o name at) k here = refl
limit_is (after outer before c) k here = refl

pub own_before : (s : State) (g : NameSign) (n : ℕ) (fault : FormulaFault) → Waits s n → own s g ≡ Some fault → fault.place < n
own_before (a_word o w) g n fault waits e = let place : fault.place ≡ w.at = subst (At w.at) e (at_word o w g) in omega arith
own_before (operand o) g n fault waits e = absurd cc
own_before (in_leaf o front) g n fault waits e = absurd cc
own_before (a_path o all name at) g n fault waits e = absurd cc
own_before (a_stepping o name at) g n fault waits e = absurd cc
own_before (after outer before c) g n fault waits e = absurd cc

at-settled : (next : Option State) (k : Kind) (here : ℕ) → At here (settled_limit next k here)
at-settled None k here = tt
at-settled (Some s) k here = at-now s k here

at-follow : (o : Open) (w : Spelled) (g : NameSign) (k : Kind) (here : ℕ) → At here (follow_limit o w g k here)
at-follow o w by_dot k here = tt
at-follow o w by_at k here = tt
at-follow o w no_sign k here = at-settled (settled o w) k here

at-later : (s : State) (k : Kind) (here : ℕ) → At here (later s k here)
at-later (a_word o w) k here = at-follow o w (sign k) k here
at-later (operand o) k here = at-operand o k here
at-later (in_leaf o front) k here = at-front front k here
at-later (a_path o all name at) k here = at-path o k here
at-later (a_stepping o name at) k here = tt
at-later (after outer before c) k here = at-after outer before c k here

pub later_at : (s : State) (k : Kind) (here : ℕ) (fault : FormulaFault) → later s k here ≡ Some fault → fault.place ≡ here
later_at s k here fault e = subst (At here) e (at-later s k here)

-- ---- where the tokens are stopped

stop-place : (mine rest : Option FormulaFault) (next : Option State) (here : ℕ) (fault : FormulaFault)
    → ((g : FormulaFault) → mine ≡ Some g → g.place < here) → ((g : FormulaFault) → rest ≡ Some g → g.place ≡ here)
    → placed (either mine rest) next here ≡ stopped fault → fault.place ≤ here
stop-place (Some g) rest next here fault before at e = let same : g ≡ fault = cc in let lt : g.place < here = before g refl in subst (λ (x : FormulaFault). x.place ≤ here) same (omega arith)
stop-place None (Some g) next here fault before at e = let same : g ≡ fault = cc in let eq : g.place ≡ here = at g refl in subst (λ (x : FormulaFault). x.place ≤ here) same (omega arith)
stop-place None None (Some s) here fault before at e = absurd cc
stop-place None None None here fault before at e = let same : syntax_at here ≡ fault = cc in subst (λ (x : FormulaFault). x.place ≤ here) same (omega arith)

step-stops : (s : State) (t : Token) (fault : FormulaFault) → Waits s t.at → step_limited s t ≡ stopped fault → fault.place ≤ t.at
step-stops s t fault waits e =
    stop-place (own s (sign t.kind)) (later s t.kind t.at) (step s t) t.at fault (λ g is. own_before s (sign t.kind) t.at g waits is) (λ g is. later_at s t.kind t.at g is)
    (rw limit_is at e)

ascend-le : (ts : List Token) (start_at n : ℕ) → Ascend start_at ts n → start_at ≤ n
ascend-le [] start_at n h = h
ascend-le (t ∷ ts) start_at n h = let more = ascend-le ts (t.at + 1) n h.1 in omega (arith, h.0)

pub ascend_front : (p : List Token) (start_at : ℕ) (t : Token) (rest : List Token) (stop : ℕ) → Ascend start_at (p ++ t ∷ rest) stop → Ascend start_at p t.at
ascend_front [] start_at t rest stop h = h.0
ascend_front (x ∷ p) start_at t rest stop h = (h.0, ascend_front p (x.at + 1) t rest stop h.1)

scan-next : (p : List Token) (t : Token) (n : ℕ) (fault : FormulaFault) (after_step : Passed)
    → ((g : FormulaFault) → after_step ≡ stopped g → g.place < n) → ((y : State) → after_step ≡ passed y → scan y p ≡ stopped fault → fault.place < n)
    → and_on after_step (λ y. scan y p) ≡ stopped fault → fault.place < n
scan-next p t n fault (passed y) first more e = more y refl e
scan-next p t n fault (stopped g) first more e = let same : g ≡ fault = cc in subst (λ (x : FormulaFault). x.place < n) same (first g refl)

pub scan_stops : (p : List Token) (s : State) (start_at n : ℕ) (fault : FormulaFault) → Waits s start_at → Ascend start_at p n → scan s p ≡ stopped fault → fault.place < n
scan_stops [] s start_at n fault waits h e = absurd cc
scan_stops (t ∷ p) s start_at n fault waits h e =
    let le = ascend-le p (t.at + 1) n h.1 in
    scan-next p t n fault (step_limited s t)
    (λ g is. let stop = step-stops s t g (waits-on s start_at t.at h.0 waits) is in omega arith)
    (λ y is. scan_stops p y (t.at + 1) n fault (step-waits s y t (placed-passed (limit s t.kind t.at) (step s t) t.at y is)) h.1) e

waits-next : (p : List Token) (n : ℕ) (x : State) (after_step : Passed) → ((y : State) → after_step ≡ passed y → scan y p ≡ passed x → Waits x n)
    → and_on after_step (λ y. scan y p) ≡ passed x → Waits x n
waits-next p n x (passed y) more e = more y refl e
waits-next p n x (stopped g) more e = absurd cc

pub scan_waits : (p : List Token) (s x : State) (start_at n : ℕ) → Waits s start_at → Ascend start_at p n → scan s p ≡ passed x → Waits x n
scan_waits [] s x start_at n waits h e = let same : s ≡ x = cc in subst (λ (y : State). Waits y n) same (waits-on s start_at n h waits)
scan_waits (t ∷ p) s x start_at n waits h e =
    waits-next p n x (step_limited s t)
    (λ y is. scan_waits p y x (t.at + 1) n (step-waits s y t (placed-passed (limit s t.kind t.at) (step s t) t.at y is)) h.1) e
