-- What the calls on states and atoms ask for.
use Rattle.std.proofs.Common.{◌≡◌, ℕ, zero, suc, ◌+◌, ◌<◌, ◌≤◌, ℤ, List, [], ◌∷◌, length, map, get_or, refl, ap, sym, subst, ◌∙◌, arith}
use Rattle.std.specs.Prelude.{Bool, sum, replicate}
use Rattle.std.specs.List.{AllByRecursion}
use Rattle.std.proofs.lemmas.List.Sums.{sum_by-cons}
use Rattle.pota_base.specs.Limits.{most_events}
use Rattle.event_log.specs.declared.log.Binding.{Binding}
use Rattle.event_log.specs.declared.log.Event.{Event}
use Rattle.event_log.specs.declared.log.Header.{Header}
use Rattle.event_log.specs.States.{StatesView, IsKnown, MayFollow}
use Rattle.rctl_grammar.specs.declared.tree.Compare.{Compare}
use Rattle.rctl_parts.specs.declared.expr.LocalExpr.TheVariants as local_expr
use Rattle.rctl_parts.specs.declared.expr.LocalSide.TheVariants as side
use Rattle.rctl_parts.specs.Exprs.{Expr, expr_of}
use Rattle.rctl_parts.proofs.Folds.{expr-Compare}
use Rattle.local_preds.specs.Rows.{IsReadableAt}

no_events : (n : ℕ) → let none : List Event = [] in sum (map length (replicate n none)) ≡ 0
no_events zero = refl
no_events (suc n) = sum_by-cons (λ (k : ℕ). k) 0 (map (length {A = Event}) (replicate n [])) ∙ ap (λ (k : ℕ). 0 + k) (no_events n)

-- known events may follow on none
pub may_follow : (states : StatesView) (header : Header) (events : List Event) → states ≡ record { header = header; events = replicate (length header.procs) [] }
    → AllByRecursion (IsKnown header) events → length events ≤ most_events → MayFollow states.header states.events events
may_follow states header events is known few =
    subst (λ (s : StatesView). MayFollow s.header s.events events) (sym is) (record { known = known; few = omega (arith, no_events (length header.procs)) })

same_item : (vars : List (List Binding)) (i : ℕ) (variables : List Binding) → i < length vars → variables ≡ get_or vars i variables → variables ≡ get_or vars i []
same_item [] i variables there is = absurd (omega arith)
same_item (v ∷ vars) zero variables there is = is
same_item (v ∷ vars) (suc i) variables there is = same_item vars i variables (omega arith) is

-- a comparison of a variable that is there with a number can be read
pub comparison_readable : (states : StatesView) (watch_rows : List (List Bool)) (process left : ℕ) (compare : Compare) (n : ℤ) (variables : List Binding) → process < length states.header.vars
    → variables ≡ get_or states.header.vars process variables → left < length variables
    → IsReadableAt states process watch_rows (expr_of (local_expr.Compare left compare (side.Number n)))
comparison_readable states watch_rows process left compare n variables there is lt =
    let width : length variables ≡ length (get_or states.header.vars process []) = ap (λ (vs : List Binding). length vs) (same_item states.header.vars process variables there is) in
    subst (λ (e : Expr). IsReadableAt states process watch_rows e) (sym (expr-Compare left compare (side.Number n))) (omega (arith, width), tt)
