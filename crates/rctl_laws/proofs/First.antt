-- The first fault of a text is the first of those that it has.
use Rattle.std.specs.Prelude.{ℕ, ◌⊎◌, false, List, [], Option, None, Some, if◌then◌else◌}
use Rattle.std.proofs.Common.{◌≡◌, refl, sym, ◌∙◌, ap, subst, inl, inr, arith, append-nil}
use Rattle.rctl_grammar.specs.declared.token.Token.{Token}
use Rattle.rctl_grammar.specs.declared.token.End.{End}
use Rattle.rctl_grammar.specs.declared.token.End.TheVariants as end
use Rattle.rctl_grammar.specs.declared.fault.FormulaCode.{FormulaCode}
use Rattle.rctl_grammar.specs.declared.fault.FormulaCode.TheVariants as code
use Rattle.rctl_grammar.specs.declared.fault.FormulaFault.{FormulaFault}
use Rattle.rctl_grammar.specs.Grammar.{Disjunction, IsFormula}
use Rattle.rctl_grammar.specs.Machine.{State, operand, a_word, in_leaf, a_path, a_stepping, after, start, run, whole_of, no_sign}
use Rattle.rctl_grammar.specs.FirstFault.{either, end_limit, end_fault, then_on, Passed, passed, stopped, is_whole, fault_of, first_fault, syntax_at, token_at}
use Rattle.rctl_lexer.specs.Lexing.{Ascend, place_of}
use Rattle.rctl_laws.specs.Table.{IsUnexpected, IsUnfinished, HasFault, Precedes}
use Rattle.rctl_laws.proofs.Begins.{whole_is_formula}
use Rattle.rctl_laws.proofs.Scan.{scan, fault_scan, scan_run, Waits, own, own_before, scan_stops, scan_waits}
use Rattle.rctl_laws.proofs.Precedes.{First}
use Rattle.rctl_laws.proofs.Precedes.{unexpected-first}
use Rattle.rctl_laws.proofs.Numbers.{number_first}
use Rattle.rctl_laws.proofs.Levels.{deep_first, many_first}

-- ---- the end of the text, or a byte that begins no token

pub fault_all : (tokens : List Token) (ending : End) → first_fault tokens ending ≡ then_on (scan start tokens) (λ s. end_fault s ending)
fault_all tokens ending = ap (λ (xs : List Token). fault_of start xs ending) (sym (append-nil tokens)) ∙ fault_scan tokens [] ending start

end-limit-is : (s : State) → end_limit s ≡ own s no_sign
end-limit-is (a_word o w) = refl
end-limit-is (operand o) = refl
end-limit-is (in_leaf o front) = refl
end-limit-is (a_path o all name at) = refl
end-limit-is (a_stepping o name at) = refl
end-limit-is (after outer before c) = refl

-- what is broken where the tokens end comes before the fault, or is it
abbrev Ending : Option FormulaFault → FormulaCode → ℕ → Type 0
Ending broken c at = (fault : FormulaFault) × (broken ≡ Some fault) × Precedes fault c at

ending-either : (s : State) (last : Option FormulaFault) (c : FormulaCode) (at : ℕ) → Waits s at → Ending last c at
    → (mine : Option FormulaFault) → end_limit s ≡ mine → Ending (either (end_limit s) last) c at
ending-either s last c at waits other (Some fault) e = (fault, rw e refl, inl (own_before s no_sign at fault waits (sym (end-limit-is s) ∙ e)))
ending-either s last c at waits other None e = (other.0, rw e other.1, other.2)

ending-scanned : (tokens : List Token) (ending : End) (c : FormulaCode) → Ascend 0 tokens (place_of ending)
    → ((s : State) → run start tokens ≡ Some s → Waits s (place_of ending) → Ending (end_fault s ending) c (place_of ending))
    → (x : Passed) → scan start tokens ≡ x → First tokens ending c (place_of ending)
ending-scanned tokens ending c rises ends (passed s) e =
    let last = ends s (scan_run tokens start s e) (scan_waits tokens start s 0 (place_of ending) tt rises e) in
    (last.0, fault_all tokens ending ∙ rw e last.1, last.2)
ending-scanned tokens ending c rises ends (stopped fault) e =
    (fault, fault_all tokens ending ∙ rw e refl, inl (scan_stops tokens start 0 (place_of ending) fault tt rises e))

bad-token-first : (tokens : List Token) (at : ℕ) → Ascend 0 tokens at → First tokens (end.BadToken at) code.Token at
bad-token-first tokens at rises =
    ending-scanned tokens (end.BadToken at) code.Token rises
    (λ s e waits. ending-either s (Some (token_at at)) code.Token at waits (token_at at, refl, inr (refl, omega arith)) (end_limit s) refl)
    (scan start tokens) refl

-- tokens that are no formula are not whole
still-open : (tokens : List Token) (s : State) → run start tokens ≡ Some s → ((d : Disjunction) → IsFormula tokens d → ⊥) → (whole : Option Disjunction) → whole_of s ≡ whole → is_whole (whole_of s) ≡ false
still-open tokens s e none None w = rw w refl
still-open tokens s e none (Some d) w = absurd (none d (whole_is_formula tokens s d e w))

unfinished-first : (tokens : List Token) (at : ℕ) → ((d : Disjunction) → IsFormula tokens d → ⊥) → Ascend 0 tokens at → First tokens (end.Ends at) code.Syntax at
unfinished-first tokens at none rises =
    ending-scanned tokens (end.Ends at) code.Syntax rises
    (λ s e waits. ending-either s (if is_whole (whole_of s) then None else Some (syntax_at at)) code.Syntax at waits
    (syntax_at at, rw (still-open tokens s e none (whole_of s) refl) refl, inr (refl, omega arith)) (end_limit s) refl)
    (scan start tokens) refl

-- ---- every fault

syntax-first : (tokens : List Token) (ending : End) (at : ℕ) → IsUnexpected tokens at ⊎ IsUnfinished tokens ending at → Ascend 0 tokens (place_of ending) → First tokens ending code.Syntax at
syntax-first tokens ending at (inl u) rises = unexpected-first tokens ending at u rises
syntax-first tokens ending at (inr u) rises =
    subst (λ (e : End). Ascend 0 tokens (place_of e) → First tokens e code.Syntax at) (sym u.ends) (unfinished-first tokens at u.none) rises

pub first_precedes : (tokens : List Token) (ending : End) (c : FormulaCode) (at : ℕ) → Ascend 0 tokens (place_of ending) → HasFault tokens ending c at → First tokens ending c at
first_precedes tokens ending code.Token at rises h = subst (λ (e : End). Ascend 0 tokens (place_of e) → First tokens e code.Token at) (sym h) (bad-token-first tokens at) rises
first_precedes tokens ending code.Syntax at rises h = syntax-first tokens ending at h rises
first_precedes tokens ending code.Number at rises h = number_first tokens ending at h rises
first_precedes tokens ending code.TooDeep at rises h = deep_first tokens ending at h rises
first_precedes tokens ending code.TooManyNodes at rises h = many_first tokens ending at h rises
first_precedes tokens ending c at rises h = absurd h
