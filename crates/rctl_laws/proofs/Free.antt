-- Tokens without a fault are a formula within the limits.
use Rattle.std.specs.Prelude.{ℕ, ◌+◌, ◌≤◌, true, List, Option, None, Some, if◌then◌else◌}
use Rattle.std.proofs.Common.{◌≡◌, refl, sym, ◌∙◌, subst, arith}
use Rattle.std.proofs.lemmas.Option.{same_Some}
use Rattle.std.proofs.lemmas.Bool.{cond_both}
use Rattle.pota_base.specs.Limits.{most_nodes}
use Rattle.rctl_grammar.specs.declared.token.Token.{Token}
use Rattle.rctl_grammar.specs.declared.token.End.{End}
use Rattle.rctl_grammar.specs.declared.token.End.TheVariants as end
use Rattle.rctl_grammar.specs.Grammar.{Conjunction, Disjunction, nodes_conjunction, nodes_disjunction}
use Rattle.rctl_grammar.specs.Machine.{Before, nothing, bar, top, in_group, in_left, in_right, State, operand, a_word, in_leaf, a_path, a_stepping, after, start, joined, settled, run, whole_of, whole_now}
use Rattle.rctl_grammar.specs.FirstFault.{nodes_before, end_limit, end_fault, is_whole, Passed, passed, stopped, then_on, first_fault, syntax_at, token_at}
use Rattle.rctl_laws.specs.Laws.{IsWithinLimits, IsFree}
use Rattle.rctl_laws.proofs.Keeps.{bind_some}
use Rattle.rctl_laws.proofs.Begins.{whole_is_formula}
use Rattle.rctl_laws.proofs.Scan.{scan, scan_run}
use Rattle.rctl_laws.proofs.First.{fault_all}
use Rattle.rctl_laws.proofs.Fits.{Fits, FitsBefore, FitsConjunction, joined_fits, either_none, settled_fits, scan_fits}

-- ---- the formula at the end

joined-nodes : (before : Before) (c : Conjunction) → nodes_disjunction (joined before c) ≡ nodes_before before + nodes_conjunction c
joined-nodes nothing c = omega arith
joined-nodes (bar d at) c = refl

joined-limits : (before : Before) (c : Conjunction) → FitsBefore 0 before → FitsConjunction 0 c → nodes_before before + nodes_conjunction c ≤ most_nodes → IsWithinLimits (joined before c)
joined-limits before c hb hc room =
    let fits = joined_fits 0 before c hb hc in
    record { levels = omega (arith, fits.0); nodes = rw (joined-nodes before c) room; numbers = fits.1 }

now-limits : (s : State) (d : Disjunction) → Fits s → whole_now s ≡ Some d → IsWithinLimits d
now-limits (operand o) d h e = absurd cc
now-limits (a_word o w) d h e = absurd cc
now-limits (in_leaf o front) d h e = absurd cc
now-limits (a_path o all name at) d h e = absurd cc
now-limits (a_stepping o name at) d h e = absurd cc
now-limits (after top before c) d h e = subst IsWithinLimits (same_Some _ _ e) (joined-limits before c h.1 h.2 (omega (arith, h.3)))
now-limits (after (in_group o opened) before c) d h e = absurd cc
now-limits (after (in_left o path) before c) d h e = absurd cc
now-limits (after (in_right o path left name at) before c) d h e = absurd cc

whole-limits : (s : State) (d : Disjunction) → Fits s → end_limit s ≡ None → whole_of s ≡ Some d → IsWithinLimits d
whole-limits (operand o) d h free e = absurd cc
whole-limits (a_word o w) d h free e =
    let b = bind_some (settled o w) whole_now d e in
    now-limits b.0 d (settled_fits o w b.0 b.1 h free) b.2
whole-limits (in_leaf o front) d h free e = absurd cc
whole-limits (a_path o all name at) d h free e = absurd cc
whole-limits (a_stepping o name at) d h free e = absurd cc
whole-limits (after outer before c) d h free e = now-limits (after outer before c) d h e

some-whole : (whole : Option Disjunction) → is_whole whole ≡ true → (d : Disjunction) × (whole ≡ Some d)
some-whole None e = absurd cc
some-whole (Some d) e = (d, refl)

whole-now : (whole : Option Disjunction) (at : ℕ) → (if is_whole whole then None else Some (syntax_at at)) ≡ None → is_whole whole ≡ true
whole-now whole at = cond_both (is_whole whole) None (Some (syntax_at at)) (λ b. b ≡ None → is_whole whole ≡ true) (λ e h. e) (λ e h. absurd cc)

free-end : (tokens : List Token) (s : State) (ending : End) → run start tokens ≡ Some s → Fits s → end_fault s ending ≡ None → IsFree tokens ending
free-end tokens s (end.BadToken at) e h free = let each = either_none (end_limit s) (Some (token_at at)) free in absurd cc
free-end tokens s (end.Ends at) e h free =
    let each = either_none (end_limit s) (if is_whole (whole_of s) then None else Some (syntax_at at)) free in
    let whole = some-whole (whole_of s) (whole-now (whole_of s) at each.1) in
    record { d = whole.0; text = whole_is_formula tokens s whole.0 e whole.1; limits = whole-limits s whole.0 h each.0 whole.1; len = at; ends = refl }

free-scanned : (tokens : List Token) (ending : End) (x : Passed) → scan start tokens ≡ x → then_on x (λ s. end_fault s ending) ≡ None → IsFree tokens ending
free-scanned tokens ending (passed s) e free = free-end tokens s ending (scan_run tokens start s e) (scan_fits tokens start s ((tt, tt), omega arith) e) free
free-scanned tokens ending (stopped fault) e free = absurd cc

pub no_fault : (tokens : List Token) (ending : End) → first_fault tokens ending ≡ None → IsFree tokens ending
no_fault tokens ending free = free-scanned tokens ending (scan start tokens) refl (sym (fault_all tokens ending) ∙ free)
