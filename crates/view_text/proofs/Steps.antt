-- Steps that are shown and steps that are not, one step further.
use Rattle.std.proofs.Common.{◌≡◌, ℕ, ◌+◌, ◌<◌, ◌≤◌, Bool, true, false, List, ◌∷◌, ◌++◌, length, drop, get_or, refl, sym, ap, ◌∙◌, append_assoc}
use Rattle.std.proofs.lemmas.List.{drop_more, drop_all}
use Rattle.pota_base.specs.declared.shape.EventId.{EventId}
use Rattle.event_log.specs.States.{StatesView}
use Rattle.view_text.specs.Text.{left_out_row, step_row, folded_steps}

fold_shown : (s : StatesView) (shown : EventId → Bool) (number left_out : ℕ) (e : EventId) (es : List EventId) → shown e ≡ true
    → folded_steps s shown number left_out (e ∷ es) ≡ left_out_row left_out ++ step_row s number e ++ folded_steps s shown (number + 1) 0 es
unfolding folded_steps
fold_shown s shown number left_out e es h = rw h refl

fold_hidden : (s : StatesView) (shown : EventId → Bool) (number left_out : ℕ) (e : EventId) (es : List EventId) → shown e ≡ false
    → folded_steps s shown number left_out (e ∷ es) ≡ folded_steps s shown (number + 1) (left_out + 1) es
unfolding folded_steps
fold_hidden s shown number left_out e es h = rw h refl

-- what stands so far, and then what is made of the steps from number k on, is all of it
pub shown_next : (s : StatesView) (shown : EventId → Bool) (steps : List EventId) (k left_out : ℕ) (d : EventId) (out mid new all : List ℕ) → k < length steps → shown (get_or steps k d) ≡ true
    → out ++ folded_steps s shown (k + 1) left_out (drop k steps) ≡ all → mid ≡ out ++ left_out_row left_out → new ≡ mid ++ step_row s (k + 1) (get_or steps k d)
    → new ++ folded_steps s shown ((k + 1) + 1) 0 (drop (k + 1) steps) ≡ all
shown_next s shown steps k left_out d out mid new all lt h so_far put put_row =
    let e = get_or steps k d in
    let rest = folded_steps s shown ((k + 1) + 1) 0 (drop (k + 1) steps) in
    let split : folded_steps s shown (k + 1) left_out (drop k steps) ≡ left_out_row left_out ++ step_row s (k + 1) e ++ rest =
    ap (folded_steps s shown (k + 1) left_out) (drop_more steps k d lt) ∙ fold_shown s shown (k + 1) left_out e (drop (k + 1) steps) h in
    ap (λ (x : List ℕ). x ++ rest) (put_row ∙ ap (λ (x : List ℕ). x ++ step_row s (k + 1) e) put ∙ append_assoc out (left_out_row left_out) (step_row s (k + 1) e))
    ∙ append_assoc out (left_out_row left_out ++ step_row s (k + 1) e) rest ∙ ap (λ (x : List ℕ). out ++ x) (sym split) ∙ so_far

pub hidden_next : (s : StatesView) (shown : EventId → Bool) (steps : List EventId) (k left_out : ℕ) (d : EventId) (out all : List ℕ) → k < length steps → shown (get_or steps k d) ≡ false
    → out ++ folded_steps s shown (k + 1) left_out (drop k steps) ≡ all → out ++ folded_steps s shown ((k + 1) + 1) (left_out + 1) (drop (k + 1) steps) ≡ all
hidden_next s shown steps k left_out d out all lt h so_far =
    let e = get_or steps k d in
    let split : folded_steps s shown (k + 1) left_out (drop k steps) ≡ folded_steps s shown ((k + 1) + 1) (left_out + 1) (drop (k + 1) steps) =
    ap (folded_steps s shown (k + 1) left_out) (drop_more steps k d lt) ∙ fold_hidden s shown (k + 1) left_out e (drop (k + 1) steps) h in
    ap (λ (x : List ℕ). out ++ x) (sym split) ∙ so_far

pub shown_all : (s : StatesView) (shown : EventId → Bool) (steps : List EventId) (k left_out : ℕ) (out all : List ℕ) → length steps ≤ k
    → out ++ folded_steps s shown (k + 1) left_out (drop k steps) ≡ all → out ++ left_out_row left_out ≡ all
unfolding folded_steps
shown_all s shown steps k left_out out all past so_far = ap (λ (x : List EventId). out ++ folded_steps s shown (k + 1) left_out x) (sym (drop_all k steps past)) ∙ so_far
