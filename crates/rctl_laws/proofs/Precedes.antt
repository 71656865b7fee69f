-- No fault that a text has comes before its first fault.
use Rattle.std.specs.Prelude.{ℕ, ◌≤◌, Bool, List, [], ◌∷◌, ◌++◌, Option, None, Some}
use Rattle.std.proofs.Common.{◌≡◌, refl, sym, ◌∙◌, subst, inl, inr, arith}
use Rattle.pota_base.specs.Number.{◌>>=◌}
use Rattle.run_model.specs.Run.{Name}
use Rattle.rctl_grammar.specs.declared.token.Kind.{Kind}
use Rattle.rctl_grammar.specs.declared.token.Kind.TheVariants as kind
use Rattle.rctl_grammar.specs.declared.token.Token.{Token}
use Rattle.rctl_grammar.specs.declared.token.End.{End}
use Rattle.rctl_grammar.specs.declared.fault.FormulaCode.{FormulaCode}
use Rattle.rctl_grammar.specs.declared.fault.FormulaCode.TheVariants as code
use Rattle.rctl_grammar.specs.declared.fault.FormulaFault.{FormulaFault}
use Rattle.rctl_grammar.specs.Grammar.{Spelled, Conjunction, Begins}
use Rattle.rctl_grammar.specs.Machine.{Front, process_dot, left_side, compared, right_process, right_dot, process_at, channel_word, channel_opened, channel_sender, channel_comma, channel_receiver, transit_channel, transit_compared, subtracting, subtracted_process, subtracted_dot, both_sides, difference_compared, Before, nothing, bar, Outer, Open, State, operand, a_word, in_leaf, a_path, a_stepping, after, start, settled, step, step_kind, step_now, run, no_sign, sign, following}
use Rattle.rctl_grammar.specs.FirstFault.{operand_limit, front_limit, path_limit, after_limit, limit_now, settled_limit, follow_limit, placed, Passed, passed, stopped, first_fault, syntax_at}
use Rattle.rctl_lexer.specs.Lexing.{Ascend, place_of}
use Rattle.rctl_laws.specs.Table.{IsUnexpected, rank, Precedes}
use Rattle.rctl_laws.proofs.Settled.{settled_is}
use Rattle.rctl_laws.proofs.Begins.{run_append, run_begins}
use Rattle.rctl_laws.proofs.Reading.{Closes}
use Rattle.rctl_laws.proofs.Scan.{step_limited, scan, fault_scan, scan_run, Waits, own, later, limit_is, own_before, later_at, ascend_front, scan_stops, scan_waits}

-- the first fault comes before this one, or is it
abbrev pub First : List Token → End → FormulaCode → ℕ → Type 0
First tokens ending c at = (fault : FormulaFault) × (first_fault tokens ending ≡ Some fault) × Precedes fault c at

-- ---- a fault at a token that is not passed

abbrev pub Stops : FormulaCode → State → Token → Type 0
Stops c s t = (fault : FormulaFault) × (step_limited s t ≡ stopped fault) × Precedes fault c t.at

token-scanned : (before rest : List Token) (t : Token) (ending : End) (c : FormulaCode) → Ascend 0 before t.at
    → ((s : State) → run start before ≡ Some s → Waits s t.at → Stops c s t)
    → (x : Passed) → scan start before ≡ x → First (before ++ t ∷ rest) ending c t.at
token-scanned before rest t ending c rises stops (passed s) e =
    let stop = stops s (scan_run before start s e) (scan_waits before start s 0 t.at tt rises e) in
    (stop.0, fault_scan before (t ∷ rest) ending start ∙ rw (e, stop.1) refl, stop.2)
token-scanned before rest t ending c rises stops (stopped fault) e =
    (fault, fault_scan before (t ∷ rest) ending start ∙ rw e refl, inl (scan_stops before start 0 t.at fault tt rises e))

pub token-first : (before rest : List Token) (t : Token) (ending : End) (c : FormulaCode) → Ascend 0 (before ++ t ∷ rest) (place_of ending)
    → ((s : State) → run start before ≡ Some s → Waits s t.at → Stops c s t) → First (before ++ t ∷ rest) ending c t.at
token-first before rest t ending c rises stops =
    token-scanned before rest t ending c (ascend_front before 0 t rest (place_of ending) rises) stops (scan start before) refl

-- the fault of a word that waits comes before the token, else what the token breaks
pub stops-by : (c : FormulaCode) (s : State) (t : Token) (mine : Option FormulaFault) → own s (sign t.kind) ≡ mine → Waits s t.at
    → (own s (sign t.kind) ≡ None → (fault : FormulaFault) × (placed (later s t.kind t.at) (step s t) t.at ≡ stopped fault) × Precedes fault c t.at) → Stops c s t
stops-by c s t (Some fault) e waits more = (fault, rw (limit_is s t.kind t.at, e) refl, inl (own_before s (sign t.kind) t.at fault waits e))
stops-by c s t None e waits more = let m = more e in (m.0, rw (limit_is s t.kind t.at, e) m.1, m.2)

pub stops-later : (c : FormulaCode) (s : State) (t : Token) (fault : FormulaFault) → Waits s t.at → later s t.kind t.at ≡ Some fault → rank fault.code ≤ rank c → Stops c s t
stops-later c s t fault waits e le =
    stops-by c s t (own s (sign t.kind)) refl waits (λ _. (fault, rw e refl, inr (later_at s t.kind t.at fault e, le)))

-- ---- what the token breaks behind these tokens

-- a word waits for the token only where that is no sign of a name
pub later-settled : (k : Kind) (here : ℕ) → sign k ≡ no_sign → Closes (λ s. later s k here) []
later-settled k here plain o w s e =
    rw (plain, e) (sym (settled_is (λ x. later x k here ≡ limit_now x k here) (λ p. refl) (λ p front. refl) (λ p all name at. refl) (λ p name at. refl) (λ outer before c. refl) o w s e))

-- ---- syntax

abbrev Passes : Option State → Option FormulaFault → Type 0
Passes (Some s) broken = Unit {0}
Passes None None = Unit {0}
Passes None (Some fault) = ⊥

passes-operand : (o : Open) (k : Kind) (here : ℕ) → Passes (step_now (operand o) k here) (operand_limit o k here)
passes-operand o kind.Bang here = tt
passes-operand o kind.OpenRound here = tt
passes-operand o (kind.Word w name) here = tt
passes-operand o k here = tt

passes-none : (next : Option State) → Passes next None
passes-none None = tt
passes-none (Some s) = tt

passes-leaf : (o : Open) (front : Front) (k : Kind) (here : ℕ) → Passes (step_now (in_leaf o front) k here) (front_limit front k here)
passes-leaf o (compared left c at) (kind.Number value) here = tt
passes-leaf o (compared left c at) (kind.Word w name) here = tt
passes-leaf o (compared left c at) k here = tt
passes-leaf o (transit_compared name at channel c compare_at) (kind.Number value) here = tt
passes-leaf o (transit_compared name at channel c compare_at) k here = tt
passes-leaf o (difference_compared left minus right c compare_at) (kind.Number value) here = tt
passes-leaf o (difference_compared left minus right c compare_at) k here = tt
passes-leaf o (process_dot process dot) k here = passes-none (step_now (in_leaf o (process_dot process dot)) k here)
passes-leaf o (left_side left) k here = passes-none (step_now (in_leaf o (left_side left)) k here)
passes-leaf o (right_process left c at process) k here = passes-none (step_now (in_leaf o (right_process left c at process)) k here)
passes-leaf o (right_dot left c at process dot) k here = passes-none (step_now (in_leaf o (right_dot left c at process dot)) k here)
passes-leaf o (process_at process at) k here = passes-none (step_now (in_leaf o (process_at process at)) k here)
passes-leaf o (channel_word w name at) k here = passes-none (step_now (in_leaf o (channel_word w name at)) k here)
passes-leaf o (channel_opened w name at opened) k here = passes-none (step_now (in_leaf o (channel_opened w name at opened)) k here)
passes-leaf o (channel_sender w name at opened sender) k here = passes-none (step_now (in_leaf o (channel_sender w name at opened sender)) k here)
passes-leaf o (channel_comma w name at opened sender comma) k here = passes-none (step_now (in_leaf o (channel_comma w name at opened sender comma)) k here)
passes-leaf o (channel_receiver w name at opened sender comma receiver) k here = passes-none (step_now (in_leaf o (channel_receiver w name at opened sender comma receiver)) k here)
passes-leaf o (transit_channel name at channel) k here = passes-none (step_now (in_leaf o (transit_channel name at channel)) k here)
passes-leaf o (subtracting left minus) k here = passes-none (step_now (in_leaf o (subtracting left minus)) k here)
passes-leaf o (subtracted_process left minus process) k here = passes-none (step_now (in_leaf o (subtracted_process left minus process)) k here)
passes-leaf o (subtracted_dot left minus process dot) k here = passes-none (step_now (in_leaf o (subtracted_dot left minus process dot)) k here)
passes-leaf o (both_sides left minus right) k here = passes-none (step_now (in_leaf o (both_sides left minus right)) k here)

passes-path : (o : Open) (all : Bool) (name : Name) (at : ℕ) (k : Kind) (here : ℕ) → Passes (step_now (a_path o all name at) k here) (path_limit o k here)
passes-path o all name at kind.OpenSquare here = tt
passes-path o all name at k here = tt

passes-after : (outer : Outer) (before : Before) (c : Conjunction) (k : Kind) (here : ℕ) → Passes (step_now (after outer before c) k here) (after_limit outer before c (following k) here)
passes-after outer before c kind.Amp here = tt
passes-after outer before c kind.Bar here = tt
passes-after outer nothing c k here = passes-none (step_now (after outer nothing c) k here)
passes-after outer (bar d at) c k here = passes-none (step_now (after outer (bar d at) c) k here)

passes-now : (s : State) (k : Kind) (here : ℕ) → Passes (step_now s k here) (limit_now s k here)
passes-now (operand o) k here = passes-operand o k here
passes-now (a_word o w) k here = tt
passes-now (in_leaf o front) k here = passes-leaf o front k here
passes-now (a_path o all name at) k here = passes-path o all name at k here
passes-now (a_stepping o name at) k here = passes-none (step_now (a_stepping o name at) k here)
passes-now (after outer before c) k here = passes-after outer before c k here

passes-settled : (k : Kind) (here : ℕ) (next : Option State) → Passes (next >>= λ s. step_now s k here) (settled_limit next k here)
passes-settled k here None = tt
passes-settled k here (Some s) = passes-now s k here

passes-word : (o : Open) (w : Spelled) (k : Kind) (here : ℕ) → Passes (step_kind (a_word o w) k here) (follow_limit o w (sign k) k here)
passes-word o w kind.Dot here = tt
passes-word o w kind.At here = tt
passes-word o w k here = passes-settled k here (settled o w)

passes : (s : State) (k : Kind) (here : ℕ) → Passes (step_kind s k here) (later s k here)
passes (operand o) k here = passes-operand o k here
passes (a_word o w) k here = passes-word o w k here
passes (in_leaf o front) k here = passes-leaf o front k here
passes (a_path o all name at) k here = passes-path o all name at k here
passes (a_stepping o name at) k here = passes-none (step_now (a_stepping o name at) k here)
passes (after outer before c) k here = passes-after outer before c k here

-- a limit is broken by no token that no formula goes on with
refused-plain : (next : Option State) (broken : Option FormulaFault) (here : ℕ) → next ≡ None → Passes next broken → placed broken next here ≡ stopped (syntax_at here)
refused-plain None None here e h = refl
refused-plain None (Some fault) here e h = absurd h
refused-plain (Some s) broken here e h = absurd cc

refused-step : (before : List Token) (t : Token) (s : State) → run start before ≡ Some s → (Begins (before ++ t ∷ []) → ⊥) → (next : Option State) → step s t ≡ next → step s t ≡ None
refused-step before t s e breaks None n = n
refused-step before t s e breaks (Some x) n = absurd (breaks (run_begins (before ++ t ∷ []) x (run_append before (t ∷ []) start ∙ rw (e, n) refl)))

stops-unexpected : (before : List Token) (t : Token) (s : State) → run start before ≡ Some s → Waits s t.at → (Begins (before ++ t ∷ []) → ⊥) → Stops code.Syntax s t
stops-unexpected before t s e waits breaks =
    stops-by code.Syntax s t (own s (sign t.kind)) refl waits
    (λ _. (syntax_at t.at, refused-plain (step s t) (later s t.kind t.at) t.at (refused-step before t s e breaks (step s t) refl) (passes s t.kind t.at), inr (refl, omega arith)))

pub along : (tokens other : List Token) (ending : End) (c : FormulaCode) (at here : ℕ) → tokens ≡ other → here ≡ at
    → (Ascend 0 other (place_of ending) → First other ending c here) → Ascend 0 tokens (place_of ending) → First tokens ending c at
along tokens other ending c at here same place first rises =
    subst (λ (n : ℕ). First tokens ending c n) place (subst (λ (xs : List Token). First xs ending c here) (sym same) (first (subst (λ (xs : List Token). Ascend 0 xs (place_of ending)) same rises)))

pub unexpected-first : (tokens : List Token) (ending : End) (at : ℕ) → IsUnexpected tokens at → Ascend 0 tokens (place_of ending) → First tokens ending code.Syntax at
unexpected-first tokens ending at u =
    along tokens (u.before ++ u.token ∷ u.rest) ending code.Syntax at u.token.at u.stands.whole u.stands.place
    (λ rises. token-first u.before u.rest u.token ending code.Syntax rises (λ s e waits. stops-unexpected u.before u.token s e waits u.breaks))
