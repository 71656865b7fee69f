-- Rows of truths.
use Rattle.std.proofs.Common.{◌≡◌, ℕ, zero, suc, ◌+◌, Bool, List, [], ◌∷◌, ◌++◌, length, map, get_or, refl, ap, sym, ◌∙◌, arith}
use Rattle.std.specs.List.{range_with_len}
use Rattle.std.proofs.lemmas.List.FromFn.{map-range_with_len_more, length-map-range_with_len}
use Rattle.event_log.specs.declared.log.Event.{Event}
use Rattle.event_log.specs.States.{StatesView}
use Rattle.rctl_parts.specs.Exprs.{Expr}
use Rattle.local_preds.specs.Rows.{truth_at, truths_of, len_at}

-- one position more
pub row_more : (f : ℕ → Bool) (position : ℕ) (row next : List Bool) (truth : Bool) → row ≡ map f (range_with_len 0 position) → truth ≡ f position → next ≡ row ++ truth ∷ []
    → next ≡ map f (range_with_len 0 (position + 1))
row_more f position row next truth so_far here pushed =
    pushed ∙ ap (λ (l : List Bool). l ++ truth ∷ []) so_far ∙ ap (λ (b : Bool). map f (range_with_len 0 position) ++ b ∷ []) here
    ∙ sym (map-range_with_len_more f 0 position position (omega arith))

pub length-truths : (states : StatesView) (p : ℕ) (watch_rows : List (List Bool)) (e : Expr) → length (truths_of states p watch_rows e) ≡ len_at states p + 1
length-truths states p watch_rows e = length-map-range_with_len (truth_at states p watch_rows e) 0 (len_at states p + 1)

-- the shape has how many events each process has
pub lens-get_or : (ess : List (List Event)) (p : ℕ) → get_or (map length ess) p 0 ≡ length (get_or ess p [])
lens-get_or [] p = refl
lens-get_or (es ∷ ess) zero = refl
lens-get_or (es ∷ ess) (suc p) = lens-get_or ess p
