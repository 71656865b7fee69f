-- Marks lie within the picture.
use Rattle.std.proofs.Common.{◌≡◌, ℕ, zero, suc, ◌-◌, ◌<◌, ◌≤◌, Bool, true, false, List, [], ◌∷◌, length, get_or, take, subst, arith, inl, inr}
use Rattle.std.specs.Prelude.{fold, max}
use Rattle.std.specs.List.{count_by}
use Rattle.std.proofs.lemmas.Bool.{cases_Bool}
use Rattle.run_model.specs.Cut.{Clocks, count, lengths}
use Rattle.run_model.specs.Consistent.{IsOrder}
use Rattle.run_model.proofs.Counts.{length-lengths}
use Rattle.pota_base.specs.declared.shape.EventId.{EventId}
use Rattle.pota_base.specs.Shape.{HasEvent}
use Rattle.view_picture.specs.Columns.{Rows, AreColumns, column}
use Rattle.view_picture.specs.Frame.{most, are_wide, left_of, column_at}
use Rattle.view_picture.specs.Shown.{has_shown, rank}
use Rattle.view_picture.specs.Laws.{MarksAreInside}
use Rattle.causal_order.proofs.Orders.{event_there}
use Rattle.view_picture.proofs.Apart.{one_counted, none_counted, lane_of}
use Rattle.view_picture.proofs.Shown.{no_less}

abbrev last_of : List ℕ → ℕ
last_of row = get_or row (length row - 1) 0

grows : (rows : Rows) (n : ℕ) → n ≤ fold (λ (m : ℕ) (row : List ℕ). max m (get_or row (length row - 1) 0)) n rows
grows [] n = omega arith
grows (row ∷ rows) n = let more = grows rows (max n (last_of row)) in omega arith

each_below_most : (rows : Rows) (n p : ℕ) → p < length rows → last_of (get_or rows p []) ≤ fold (λ (m : ℕ) (row : List ℕ). max m (get_or row (length row - 1) 0)) n rows
each_below_most [] n p lt = absurd (omega (arith, lt))
each_below_most (row ∷ rows) n zero lt = let more = grows rows (max n (last_of row)) in omega arith
each_below_most (row ∷ rows) n (suc p) lt = each_below_most rows (max n (last_of row)) p (omega (arith, lt))

pub column_rises : (left : ℕ) (wide : Bool) (c d : ℕ) → c ≤ d → column_at left wide c ≤ column_at left wide d
column_rises left true c d le = omega arith
column_rises left false c d le = omega arith

column_right : (left : ℕ) (wide : Bool) (c : ℕ) → left ≤ column_at left wide c
column_right left true c = omega arith
column_right left false c = omega arith

-- no column is beyond the greatest
within_most : (o : Clocks) (shown : EventId → Bool) (rows : Rows) → IsOrder o → AreColumns o shown rows → (e : EventId) → HasEvent (lengths o) e → column rows e.process e.position ≤ most rows
within_most o shown rows order columns e h =
    let there : e.process < length rows = omega (arith, h.process, columns.procs, length-lengths o) in
    let end : length (get_or rows e.process []) - 1 ≡ count (lengths o) e.process = omega (arith, columns.widths e.process (omega (arith, there, columns.procs))) in
    let last : column rows e.process (count (lengths o) e.process) ≤ most rows = subst (λ (n : ℕ). get_or (get_or rows e.process []) n 0 ≤ most rows) end (each_below_most rows 0 e.process there) in
    omega (arith, last, no_less o shown rows order columns e.process e.position (count (lengths o) e.process) (event_there o e h).1 (omega arith))

-- a process that has a shown event is one of those that have one
rank_within : (rows : Rows) (p : ℕ) → p < length rows → has_shown (get_or rows p []) ≡ true → rank rows p < count_by has_shown rows
rank_within [] p there has = absurd (omega (arith, there))
rank_within (row ∷ rows) zero there has = omega (arith, one_counted row rows has)
rank_within (row ∷ rows) (suc p) there has =
    let more = rank_within rows p (omega (arith, there)) has in
    elim (cases_Bool (has_shown row)) [
      | inl first ↦ omega (arith, more, one_counted row (take p rows) first, one_counted row rows first)
      | inr other ↦ omega (arith, more, none_counted row (take p rows) other, none_counted row rows other)
    ]

pub marks_are_inside : MarksAreInside
marks_are_inside o shown s r rows order columns e h shows =
    let left = left_of s in
    let wide = are_wide rows in
    let rises = column_rises left wide (column rows e.process e.position) (most rows) (within_most o shown rows order columns e h) in
    let right = column_right left wide (column rows e.process e.position) in
    let there : e.process < length rows = omega (arith, h.process, columns.procs, length-lengths o) in
    let below = rank_within rows e.process there (lane_of o shown rows order columns e h shows) in
    record {
      left = omega (arith, right);
      right = omega (arith, rises);
      top = omega arith;
      bottom = omega (arith, below);
    }
