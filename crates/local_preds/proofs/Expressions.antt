-- The truth of expressions, by cases on them: it is that of their formulas, and rests on what they name alone.
use Rattle.std.proofs.Common.{◌≡◌, ◌↔◌, ℕ, ◌+◌, ◌<◌, ℤ, Bool, true, false, not, List, [], length, get_or, inl, inr, refl, ap, sym, ◌∙◌}
use Rattle.std.specs.Prelude.{◌&&◌, ◌||◌, Option, Some, None}
use Rattle.std.proofs.lemmas.Bool.{and_parts, and_from, or_cases, or_left, or_right, not-true, not_from_false, false_from_ne_true, both_ways, false≢true}
use Rattle.run_model.specs.Cut.{Cut, count}
use Rattle.run_model.specs.Run.{Name, Run}
use Rattle.run_model.specs.Meaning as meaning
use Rattle.run_model.specs.Meaning.{Sat, SatAll, SatSome, compares}
use Rattle.rctl_grammar.specs.declared.tree.Compare.{Compare}
use Rattle.rctl_grammar.specs.Shape.{relation_of}
use Rattle.rctl_parts.specs.declared.expr.LocalSide.{LocalSide}
use Rattle.rctl_parts.specs.declared.expr.LocalSide.TheVariants as side
use Rattle.rctl_parts.specs.Exprs.{Expr, truth, comparison, watch, negation, conjunction, disjunction, Exprs, none, more}
use Rattle.rctl_parts.specs.MadeFor.{SideFits, ExprFits, ExprsFit, is_constant, are_constant}
use Rattle.rctl_parts.specs.Spelled.{numbered_name, side_in, formula_in, formulas_in}
use Rattle.local_preds.specs.Rows.{side_value, is_true, all_true, some_true, IsReadable}
use Rattle.local_preds.specs.Rows.{AreReadable}

-- ---- the formula

-- the values of variables at a cut, by their names
abbrev pub named_value : Run → List Name → Name → Cut → ℕ → ℤ
named_value r variables process c v = meaning.value_at r process (numbered_name variables v) c

-- the truths of watches at a cut, by their names
abbrev pub named_watch : Run → List Name → Name → Cut → ℕ → Bool
named_watch r watches process c w = r.watched (r.process process) (numbered_name watches w) (count c (r.process process))

side_means : (r : Run) (variables : List Name) (process : Name) (c : Cut) (right : LocalSide)
    → meaning.side_at r (side_in variables process right) c ≡ side_value (named_value r variables process c) right
side_means r variables process c (side.Number k) = refl
side_means r variables process c (side.Variable v) = refl

mutual
  pub expr_means : (r : Run) (variables watches : List Name) (process : Name) (c : Cut) (e : Expr)
      → Sat r (formula_in variables watches process e) c ↔ (is_true (named_value r variables process c) (named_watch r watches process c) e ≡ true)
  expr_means r variables watches process c (truth b) = (λ h. h, λ h. h)
  expr_means r variables watches process c (comparison left compare right) =
      let same = ap (compares (relation_of compare) (named_value r variables process c left)) (side_means r variables process c right) in
      (λ h. sym same ∙ h, λ h. same ∙ h)
  expr_means r variables watches process c (watch number) = (λ h. h, λ h. h)
  expr_means r variables watches process c (negation e) =
      let b = is_true (named_value r variables process c) (named_watch r watches process c) e in
      let rest = expr_means r variables watches process c e in (
        λ h. not_from_false b (false_from_ne_true b (λ yes_. h (rest.1 yes_))),
        λ no_ h. both_ways b (not-true b no_) (rest.0 h),
      )
  expr_means r variables watches process c (conjunction es) = all_mean r variables watches process c es
  expr_means r variables watches process c (disjunction es) = some_means r variables watches process c es

  all_mean : (r : Run) (variables watches : List Name) (process : Name) (c : Cut) (es : Exprs)
      → SatAll r (formulas_in variables watches process es) c ↔ (all_true (named_value r variables process c) (named_watch r watches process c) es ≡ true)
  all_mean r variables watches process c none = (λ h. refl, λ h. tt)
  all_mean r variables watches process c (more e es) =
      let one = expr_means r variables watches process c e in
      let rest = all_mean r variables watches process c es in (
        λ h. and_from _ _ (one.0 h.0) (rest.0 h.1),
        λ h.
            let parts = and_parts (is_true (named_value r variables process c) (named_watch r watches process c) e) (all_true (named_value r variables process c) (named_watch r watches process c) es) h in
            (one.1 parts.0, rest.1 parts.1),
      )

  some_means : (r : Run) (variables watches : List Name) (process : Name) (c : Cut) (es : Exprs)
      → SatSome r (formulas_in variables watches process es) c ↔ (some_true (named_value r variables process c) (named_watch r watches process c) es ≡ true)
  some_means r variables watches process c none = (λ h. absurd h, λ h. absurd (false≢true h))
  some_means r variables watches process c (more e es) =
      let one = expr_means r variables watches process c e in
      let rest = some_means r variables watches process c es in
      let this = is_true (named_value r variables process c) (named_watch r watches process c) e in
      let those = some_true (named_value r variables process c) (named_watch r watches process c) es in (
        λ h. elim h [ inl here ↦ or_left this those (one.0 here) | inr there ↦ or_right this those (rest.0 there) ],
        λ h. elim (or_cases this those h) [ inl here ↦ inl (one.1 here) | inr there ↦ inr (rest.1 there) ],
      )

-- ---- what an expression names

-- two sets of values and truths that agree on the variables of a process and the watches on it
pub record Agree (variables : ℕ) (watch_process : List (Option ℕ)) (p : ℕ) (value value' : ℕ → ℤ) (watched watched' : ℕ → Bool) : Type 0 where
  pub values : (v : ℕ) → v < variables → value v ≡ value' v
  pub truths : (w : ℕ) → get_or watch_process w None ≡ Some p → watched w ≡ watched' w

same_side : (variables : ℕ) (value value' : ℕ → ℤ) (right : LocalSide) → SideFits variables right → ((v : ℕ) → v < variables → value v ≡ value' v) → side_value value right ≡ side_value value' right
same_side variables value value' (side.Number k) fits same = refl
same_side variables value value' (side.Variable v) fits same = same v fits

mutual
  pub same_truth : (variables : ℕ) (watch_process : List (Option ℕ)) (p : ℕ) (value value' : ℕ → ℤ) (watched watched' : ℕ → Bool) (e : Expr)
      → ExprFits variables watch_process p e → Agree variables watch_process p value value' watched watched' → is_true value watched e ≡ is_true value' watched' e
  same_truth variables watch_process p value value' watched watched' (truth b) fits same = refl
  same_truth variables watch_process p value value' watched watched' (comparison left compare right) fits same =
      ap (λ (x : ℤ). compares (relation_of compare) x (side_value value right)) (same.values left fits.0)
      ∙ ap (compares (relation_of compare) (value' left)) (same_side variables value value' right fits.1 same.values)
  same_truth variables watch_process p value value' watched watched' (watch number) fits same = same.truths number fits.1
  same_truth variables watch_process p value value' watched watched' (negation e) fits same = ap not (same_truth variables watch_process p value value' watched watched' e fits same)
  same_truth variables watch_process p value value' watched watched' (conjunction es) fits same = same_all variables watch_process p value value' watched watched' es fits same
  same_truth variables watch_process p value value' watched watched' (disjunction es) fits same = same_some variables watch_process p value value' watched watched' es fits same

  same_all : (variables : ℕ) (watch_process : List (Option ℕ)) (p : ℕ) (value value' : ℕ → ℤ) (watched watched' : ℕ → Bool) (es : Exprs)
      → ExprsFit variables watch_process p es → Agree variables watch_process p value value' watched watched' → all_true value watched es ≡ all_true value' watched' es
  same_all variables watch_process p value value' watched watched' none fits same = refl
  same_all variables watch_process p value value' watched watched' (more e es) fits same =
      ap (λ (b : Bool). b && all_true value watched es) (same_truth variables watch_process p value value' watched watched' e fits.0 same)
      ∙ ap (λ (b : Bool). is_true value' watched' e && b) (same_all variables watch_process p value value' watched watched' es fits.1 same)

  same_some : (variables : ℕ) (watch_process : List (Option ℕ)) (p : ℕ) (value value' : ℕ → ℤ) (watched watched' : ℕ → Bool) (es : Exprs)
      → ExprsFit variables watch_process p es → Agree variables watch_process p value value' watched watched' → some_true value watched es ≡ some_true value' watched' es
  same_some variables watch_process p value value' watched watched' none fits same = refl
  same_some variables watch_process p value value' watched watched' (more e es) fits same =
      ap (λ (b : Bool). b || some_true value watched es) (same_truth variables watch_process p value value' watched watched' e fits.0 same)
      ∙ ap (λ (b : Bool). is_true value' watched' e || b) (same_some variables watch_process p value value' watched watched' es fits.1 same)

mutual
  pub same_constant : (value value' : ℕ → ℤ) (watched watched' : ℕ → Bool) (e : Expr) → is_constant e ≡ true → is_true value watched e ≡ is_true value' watched' e
  same_constant value value' watched watched' (truth b) h = refl
  same_constant value value' watched watched' (comparison left compare right) h = absurd (false≢true h)
  same_constant value value' watched watched' (watch number) h = absurd (false≢true h)
  same_constant value value' watched watched' (negation e) h = ap not (same_constant value value' watched watched' e h)
  same_constant value value' watched watched' (conjunction es) h = same_constants value value' watched watched' es h
  same_constant value value' watched watched' (disjunction es) h = some_constants value value' watched watched' es h

  same_constants : (value value' : ℕ → ℤ) (watched watched' : ℕ → Bool) (es : Exprs) → are_constant es ≡ true → all_true value watched es ≡ all_true value' watched' es
  same_constants value value' watched watched' none h = refl
  same_constants value value' watched watched' (more e es) h =
      let parts = and_parts (is_constant e) (are_constant es) h in
      ap (λ (b : Bool). b && all_true value watched es) (same_constant value value' watched watched' e parts.0)
      ∙ ap (λ (b : Bool). is_true value' watched' e && b) (same_constants value value' watched watched' es parts.1)

  some_constants : (value value' : ℕ → ℤ) (watched watched' : ℕ → Bool) (es : Exprs) → are_constant es ≡ true → some_true value watched es ≡ some_true value' watched' es
  some_constants value value' watched watched' none h = refl
  some_constants value value' watched watched' (more e es) h =
      let parts = and_parts (is_constant e) (are_constant es) h in
      ap (λ (b : Bool). b || some_true value watched es) (same_constant value value' watched watched' e parts.0)
      ∙ ap (λ (b : Bool). is_true value' watched' e || b) (some_constants value value' watched watched' es parts.1)

-- ---- what can be read

mutual
  pub fitting_readable : (variables states : ℕ) (watch_process : List (Option ℕ)) (watch_rows : List (List Bool)) (p : ℕ) (e : Expr) → ExprFits variables watch_process p e
      → ((w : ℕ) → get_or watch_process w None ≡ Some p → (w < length watch_rows) × (length (get_or watch_rows w []) ≡ states)) → IsReadable variables states watch_rows e
  fitting_readable variables states watch_process watch_rows p (truth b) fits full = tt
  fitting_readable variables states watch_process watch_rows p (comparison left compare right) fits full = fits
  fitting_readable variables states watch_process watch_rows p (watch number) fits full = full number fits.1
  fitting_readable variables states watch_process watch_rows p (negation e) fits full = fitting_readable variables states watch_process watch_rows p e fits full
  fitting_readable variables states watch_process watch_rows p (conjunction es) fits full = fitting_all variables states watch_process watch_rows p es fits full
  fitting_readable variables states watch_process watch_rows p (disjunction es) fits full = fitting_all variables states watch_process watch_rows p es fits full

  fitting_all : (variables states : ℕ) (watch_process : List (Option ℕ)) (watch_rows : List (List Bool)) (p : ℕ) (es : Exprs) → ExprsFit variables watch_process p es
      → ((w : ℕ) → get_or watch_process w None ≡ Some p → (w < length watch_rows) × (length (get_or watch_rows w []) ≡ states)) → AreReadable variables states watch_rows es
  fitting_all variables states watch_process watch_rows p none fits full = tt
  fitting_all variables states watch_process watch_rows p (more e es) fits full =
      (fitting_readable variables states watch_process watch_rows p e fits.0 full, fitting_all variables states watch_process watch_rows p es fits.1 full)

mutual
  pub constant_readable : (variables states : ℕ) (watch_rows : List (List Bool)) (e : Expr) → is_constant e ≡ true → IsReadable variables states watch_rows e
  constant_readable variables states watch_rows (truth b) h = tt
  constant_readable variables states watch_rows (comparison left compare right) h = absurd (false≢true h)
  constant_readable variables states watch_rows (watch number) h = absurd (false≢true h)
  constant_readable variables states watch_rows (negation e) h = constant_readable variables states watch_rows e h
  constant_readable variables states watch_rows (conjunction es) h = constants_readable variables states watch_rows es h
  constant_readable variables states watch_rows (disjunction es) h = constants_readable variables states watch_rows es h

  constants_readable : (variables states : ℕ) (watch_rows : List (List Bool)) (es : Exprs) → are_constant es ≡ true → AreReadable variables states watch_rows es
  constants_readable variables states watch_rows none h = tt
  constants_readable variables states watch_rows (more e es) h =
      let parts = and_parts (is_constant e) (are_constant es) h in
      (constant_readable variables states watch_rows e parts.0, constants_readable variables states watch_rows es parts.1)
