use Rattle.std.proofs.Common.{◌≡◌, ◌+◌, ◌++◌, ◌<◌, ◌≤◌, ℕ, Bool, List, length, drop, get_or, sym, ap, subst, ◌∙◌, arith}
use Rattle.std.specs.Prelude.{OnOk}
use Rattle.run_model.specs.Cut.{count}
use Rattle.pota_base.specs.declared.shape.EventId.{EventId}
use Rattle.view_parts.specs.Parts.{place}
use Rattle.view_text.specs.Shown.{kept_at, kept_among, shown_above, limit_of, bounds_of, is_whole, is_shown}
use Rattle.view_text.specs.Text.{step_row, folded_steps, step_rows}
use Rattle.view_text.proofs.Bounds.{each_length}
use Rattle.view_text.proofs.Steps.{shown_next, hidden_next, shown_all}
use Rattle.view_text.proofs.witnesses.put_step_rows.Goals.{then-is_shown+in_ok-put_left_out+in_ok-put_step_row, else-is_shown}
use Rattle.view_text.proofs.witnesses.put_step_rows.Goals as goal

pub is_shown-requires-clause-bounds : goal.is_shown-requires-clause-bounds
is_shown-requires-clause-bounds c =
    let s = c.args.told.now.states.now in
    let tokens = c.args.told.now.tokens.now in
    let path = c.args.path.now in
    ap length c.in_ok-bounds.ensures ∙ each_length (λ p. shown_above (kept_at s tokens p) (limit_of c.args.told.now.extent (kept_among s tokens path.steps)) (count path.goal p)) (length s.events)

pub loop-k-preserved : goal.loop-k-preserved
loop-k-preserved c = elim c.if-is_shown.branch [
  | then-is_shown+in_ok-put_left_out+in_ok-put_step_row w ↦
      let s = c.args.told.now.states.now in
      let tokens = c.args.told.now.tokens.now in
      let ext = c.args.told.now.extent in
      let path = c.args.path.now in
      let k = c.loop-k.k in
      let d = place 0 0 in
      let xs = c.as_slice-steps.result.now in
      let whole = c.is_whole-whole.result in
      let above = bounds_of s tokens ext path in
      let shown = is_shown s tokens (is_whole ext (length path.steps)) above in
      let e = get_or path.steps k d in
      let all = c.args.out.now ++ step_rows s tokens ext path in
      let same : xs ≡ path.steps = c.as_slice-steps.ensures in
      let lt : k < length path.steps = subst (λ (l : List EventId). k < length l) same c.loop-k-test.true in
      let whole_is : whole ≡ is_whole ext (length path.steps) = c.is_whole-whole.ensures ∙ ap (λ (l : List EventId). is_whole ext (length l)) same in
      let is : shown e ≡ c.is_shown.result =
      ap (λ (b : Bool). is_shown s tokens b above e) (sym whole_is) ∙ ap (λ (b : List ℕ). is_shown s tokens whole b e) (sym c.in_ok-bounds.ensures)
      ∙ ap (λ (l : List EventId). is_shown s tokens whole c.in_ok-bounds.bounds (get_or l k d)) (sym same) ∙ sym c.is_shown.ensures in
      let row : w.put_step_row.new.out ≡ w.put_left_out.new.out ++ step_row s (k + 1) e =
      w.in_ok-put_step_row.ensures ∙ ap (λ (l : List EventId). w.put_left_out.new.out ++ step_row s (k + 1) (get_or l k d)) same in
      let next = shown_next s shown path.steps k c.loop-k.left_out d c.loop-k.out w.put_left_out.new.out w.put_step_row.new.out all lt (is ∙ w.if-is_shown.true) c.loop-k.invariant.1 w.in_ok-put_left_out.ensures row in (
        omega (arith, w.left_out-is),
        ap (λ (l : ℕ). c.if-is_shown.out ++ folded_steps s shown ((k + 1) + 1) l (drop (k + 1) path.steps)) w.left_out-is
            ∙ ap (λ (o : List ℕ). o ++ folded_steps s shown ((k + 1) + 1) 0 (drop (k + 1) path.steps)) w.out-is ∙ next,
      )
  | else-is_shown w ↦
      let s = c.args.told.now.states.now in
      let tokens = c.args.told.now.tokens.now in
      let ext = c.args.told.now.extent in
      let path = c.args.path.now in
      let k = c.loop-k.k in
      let d = place 0 0 in
      let xs = c.as_slice-steps.result.now in
      let whole = c.is_whole-whole.result in
      let above = bounds_of s tokens ext path in
      let shown = is_shown s tokens (is_whole ext (length path.steps)) above in
      let e = get_or path.steps k d in
      let all = c.args.out.now ++ step_rows s tokens ext path in
      let same : xs ≡ path.steps = c.as_slice-steps.ensures in
      let lt : k < length path.steps = subst (λ (l : List EventId). k < length l) same c.loop-k-test.true in
      let whole_is : whole ≡ is_whole ext (length path.steps) = c.is_whole-whole.ensures ∙ ap (λ (l : List EventId). is_whole ext (length l)) same in
      let is : shown e ≡ c.is_shown.result =
      ap (λ (b : Bool). is_shown s tokens b above e) (sym whole_is) ∙ ap (λ (b : List ℕ). is_shown s tokens whole b e) (sym c.in_ok-bounds.ensures)
      ∙ ap (λ (l : List EventId). is_shown s tokens whole c.in_ok-bounds.bounds (get_or l k d)) (sym same) ∙ sym c.is_shown.ensures in
      let next = hidden_next s shown path.steps k c.loop-k.left_out d c.loop-k.out all lt (is ∙ w.if-is_shown.false) c.loop-k.invariant.1 in (
        omega (arith, w.left_out-is, c.loop-k.invariant.0),
        ap (λ (l : ℕ). c.if-is_shown.out ++ folded_steps s shown ((k + 1) + 1) l (drop (k + 1) path.steps)) w.left_out-is
            ∙ ap (λ (o : List ℕ). o ++ folded_steps s shown ((k + 1) + 1) (c.loop-k.left_out + 1) (drop (k + 1) path.steps)) w.out-is ∙ next,
      )
]

pub returns : goal.returns
returns c =
    let s = c.args.told.now.states.now in
    let tokens = c.args.told.now.tokens.now in
    let path = c.args.path.now in
    let shown = is_shown s tokens (is_whole c.args.told.now.extent (length path.steps)) (bounds_of s tokens c.args.told.now.extent path) in
    let past : length path.steps ≤ c.loop-k.k = subst (λ (l : List EventId). length l ≤ c.loop-k.k) c.as_slice-steps.ensures c.loop-k-test.false in
    let all = shown_all s shown path.steps c.loop-k.k c.loop-k.left_out c.loop-k.out (c.args.out.now ++ step_rows s tokens c.args.told.now.extent path) past c.loop-k.invariant.1 in
    subst (λ (x : List ℕ). OnOk c.put_left_out-2.result (c.put_left_out-2.new.out ≡ x)) all c.put_left_out-2.ensures
