-- Feeding watch after watch.
use Rattle.std.proofs.Common.{◌≡◌, ℕ, zero, suc, ◌+◌, ◌<◌, ◌≤◌, ◌⊎◌, inl, inr, ℤ, Bool, List, [], ◌∷◌, ◌++◌, Option, Some, None, length, take, drop, set, get_or, slice_get, refl, ap, sym, ◌∙◌, subst₂, arith}
use Rattle.std.proofs.lemmas.List.{length-set, get_or-set_same, get_or-set_other}
use Rattle.event_log.specs.States.{StatesView}
use Rattle.local_preds.specs.LocalRuns.{AreFull}
use Rattle.watch_feeding.specs.Fed.{states_at, IsFed, MayBeFed, AreWithin, HaveRows, RowsAreFed}
use Rattle.watch_feeding.proofs.Turns.{Answering}

-- ---- lists in which one item was replaced

pub same_or_other : (i j : ℕ) → (i ≡ j) ⊎ (i ≡ j → ⊥)
same_or_other zero zero = inl refl
same_or_other zero (suc j) = inr (λ e. absurd (omega arith))
same_or_other (suc i) zero = inr (λ e. absurd (omega arith))
same_or_other (suc i) (suc j) = elim (same_or_other i j) [ inl e ↦ inl (ap suc e) | inr other ↦ inr (λ e. other (omega arith)) ]

pub slice_get-set_other : {X : Type 0} (xs : List X) (i j : ℕ) (y : X) → (j ≡ i → ⊥) → slice_get (set xs i y) j ≡ slice_get xs j
slice_get-set_other [] i j y other = refl
slice_get-set_other (x ∷ xs) zero zero y other = absurd (other refl)
slice_get-set_other (x ∷ xs) zero (suc j) y other = refl
slice_get-set_other (x ∷ xs) (suc i) zero y other = refl
slice_get-set_other (x ∷ xs) (suc i) (suc j) y other = slice_get-set_other xs i j y (λ e. other (ap suc e))

pub slice_get-set_same : {X : Type 0} (xs : List X) (i : ℕ) (y : X) → i < length xs → slice_get (set xs i y) i ≡ Some y
slice_get-set_same [] i y there = absurd (omega arith)
slice_get-set_same (x ∷ xs) zero y there = refl
slice_get-set_same (x ∷ xs) (suc i) y there = slice_get-set_same xs i y (omega arith)

-- ---- the watches up to a number

-- these watches were fed, and the others are as before
pub record FedBelow {H N : Type 0} (answers : H → Answering) (name : H → N) (states : StatesView) (watch_process : List (Option ℕ)) (from : List ℕ) (old : List H) (old_rows : List (List Bool))
    (next : ℕ) (new : List H) (new_rows : List (List Bool)) : Type 0 where
  pub count : length new ≡ length old
  pub rows : RowsAreFed watch_process from old_rows new_rows
  pub fed : (w p : ℕ) (before after : H) → w < next → get_or watch_process w None ≡ Some p → slice_get old w ≡ Some before → slice_get new w ≡ Some after
      → IsFed (take (get_or from w 0) (get_or old_rows w [])) (drop (get_or from w 0) (states_at states p)) (answers before) (get_or new_rows w []) (answers after)
  pub above : (w : ℕ) → next ≤ w → (slice_get new w ≡ slice_get old w) × (get_or new_rows w [] ≡ get_or old_rows w [])
  pub others : (w : ℕ) → get_or watch_process w None ≡ None → slice_get new w ≡ slice_get old w
  pub names : (w : ℕ) (before after : H) → slice_get old w ≡ Some before → slice_get new w ≡ Some after → name after ≡ name before

-- what feeding one watch gave
pub record TakesTurn {H N : Type 0} (answers : H → Answering) (name : H → N) (states : List (List ℤ)) (from : ℕ) (before : H) (old_row : List Bool) (after : H) (new_row : List Bool) : Type 0 where
  pub fed : IsFed (take from old_row) (drop from states) (answers before) new_row (answers after)
  pub size : length new_row ≡ length old_row
  pub kept : take from new_row ≡ take from old_row
  pub same_name : name after ≡ name before

pub one_value : {X : Type 0} (o : Option X) (x y : X) → o ≡ Some x → o ≡ Some y → x ≡ y
one_value o x y is are = cc

pub no_value : {X : Type 0} (o : Option X) (x : X) → o ≡ Some x → o ≡ None → ⊥
no_value o x is none = cc

-- the next watch may be fed
pub may_be_fed : (states : StatesView) (watch_process : List (Option ℕ)) (from : List ℕ) (old now : List (List Bool)) (w p : ℕ) → HaveRows states watch_process old → get_or watch_process w None ≡ Some p
    → ((q : ℕ) → AreFull states watch_process old q) → AreWithin watch_process from old → RowsAreFed watch_process from old now → MayBeFed states p (get_or from w 0) (get_or now w [])
may_be_fed states watch_process from old now w p have on full within fed = record {
  whole = have.whole;
  process = have.process w p on;
  within = omega (arith, fed.size w, within.each w);
  full = fed.size w ∙ (full p w on).1;
}

-- the next watch is on no process
pub turn_passes : {H N : Type 0} (answers : H → Answering) (name : H → N) (states : StatesView) (watch_process : List (Option ℕ)) (from : List ℕ) (old : List H) (old_rows : List (List Bool))
    (next : ℕ) (new : List H) (new_rows : List (List Bool)) (after_all : List H) (after_rows : List (List Bool)) → get_or watch_process next None ≡ None → after_all ≡ new → after_rows ≡ new_rows
    → FedBelow answers name states watch_process from old old_rows next new new_rows → FedBelow answers name states watch_process from old old_rows (next + 1) after_all after_rows
turn_passes answers name states watch_process from old old_rows next new new_rows after_all after_rows none same same_rows so_far =
    subst₂ (FedBelow answers name states watch_process from old old_rows (next + 1)) (sym same) (sym same_rows) (record {
      count = so_far.count;
      rows = so_far.rows;
      fed = λ w p before after below. elim (same_or_other w next) [
        | inl e ↦ (λ on. absurd (no_value (get_or watch_process w None) p on (ap (λ (v : ℕ). get_or watch_process v None) e ∙ none)))
        | inr other ↦ so_far.fed w p before after (omega arith)
      ];
      above = λ w above. so_far.above w (omega arith);
      others = so_far.others;
      names = so_far.names;
    })

-- the next watch is fed
pub turn_taken : {H N : Type 0} (answers : H → Answering) (name : H → N) (states : StatesView) (watch_process : List (Option ℕ)) (from : List ℕ) (old : List H) (old_rows : List (List Bool))
    (next p : ℕ) (new : List H) (new_rows : List (List Bool)) (x y : H) (row : List Bool) (after_all : List H) (after_rows : List (List Bool))
    → get_or watch_process next None ≡ Some p → next < length new → next < length new_rows → slice_get new next ≡ Some x
    → TakesTurn answers name (states_at states p) (get_or from next 0) x (get_or new_rows next []) y row
    → after_all ≡ set new next y → after_rows ≡ set new_rows next row
    → FedBelow answers name states watch_process from old old_rows next new new_rows
    → FedBelow answers name states watch_process from old old_rows (next + 1) after_all after_rows
turn_taken {H = H} answers name states watch_process from old old_rows next p new new_rows x y row after_all after_rows on there place is turn put put_row so_far = subst₂ (FedBelow answers name states watch_process from old old_rows (next + 1)) (sym put) (sym put_row) (record {
  count = length-set new next y ∙ so_far.count;
  rows = record {
    count = length-set new_rows next row ∙ so_far.rows.count;
    size = λ w. elim (same_or_other w next) [
      | inl e ↦ (rw (row_here w e) (turn.size ∙ ap (λ (v : ℕ). length (get_or new_rows v [])) (sym e) ∙ so_far.rows.size w))
      | inr other ↦ (rw (row_there w other) (so_far.rows.size w))
    ];
    kept = λ w. elim (same_or_other w next) [
      | inl e ↦ (rw (row_here w e) (ap (λ (v : ℕ). take (get_or from v 0) row) e ∙ turn.kept ∙ ap (λ (v : ℕ). take (get_or from v 0) (get_or new_rows v [])) (sym e) ∙ so_far.rows.kept w))
      | inr other ↦ (rw (row_there w other) (so_far.rows.kept w))
    ];
    others = λ w none. row_there w (not_next w none) ∙ so_far.rows.others w none;
  };
  fed = λ w q before after below. elim (same_or_other w next) [
    | inl e ↦ (λ on_q was will. fed_here w q before after e on_q was will)
    | inr other ↦ (λ on_q was will. let so = so_far.fed w q before after (omega arith) on_q was (sym (slice_get-set_other new next w y other) ∙ will) in λ rest. so rest ∙ ap (λ (r : List Bool). r ++ answers after rest) (sym (row_there w other)))
  ];
  above = λ w above. let other = past w above in let so = so_far.above w (omega arith) in (slice_get-set_other new next w y other ∙ so.0, row_there w other ∙ so.1);
  others = λ w none. slice_get-set_other new next w y (not_next w none) ∙ so_far.others w none;
  names = λ w before after was will. elim (same_or_other w next) [
    | inl e ↦ (ap name (after_here w after e will) ∙ turn.same_name ∙ ap name (sym (before_here w before e was)))
    | inr other ↦ so_far.names w before after was (sym (slice_get-set_other new next w y other) ∙ will)
  ];
})
  where
    row_here : (w : ℕ) → w ≡ next → get_or (set new_rows next row) w [] ≡ row
    row_here w e = ap (λ (v : ℕ). get_or (set new_rows next row) v []) e ∙ get_or-set_same new_rows next row [] place

    row_there : (w : ℕ) → (w ≡ next → ⊥) → get_or (set new_rows next row) w [] ≡ get_or new_rows w []
    row_there w other = get_or-set_other new_rows next w row [] other

    not_next : (w : ℕ) → get_or watch_process w None ≡ None → w ≡ next → ⊥
    not_next w none e = no_value (get_or watch_process next None) p on (ap (λ (v : ℕ). get_or watch_process v None) (sym e) ∙ none)

    past : (w : ℕ) → next + 1 ≤ w → w ≡ next → ⊥
    past w above e = omega arith

    before_here : (w : ℕ) (before : H) → w ≡ next → slice_get old w ≡ Some before → before ≡ x
    before_here w before e was = one_value (slice_get old next) before x (ap (slice_get old) (sym e) ∙ was) (sym (so_far.above next (omega arith)).0 ∙ is)

    after_here : (w : ℕ) (after : H) → w ≡ next → slice_get (set new next y) w ≡ Some after → after ≡ y
    after_here w after e will = one_value (slice_get (set new next y) next) after y (ap (slice_get (set new next y)) (sym e) ∙ will) (slice_get-set_same new next y there)

    fed_here : (w q : ℕ) (before after : H) → w ≡ next → get_or watch_process w None ≡ Some q → slice_get old w ≡ Some before → slice_get (set new next y) w ≡ Some after
        → IsFed (take (get_or from w 0) (get_or old_rows w [])) (drop (get_or from w 0) (states_at states q)) (answers before) (get_or (set new_rows next row) w []) (answers after)
    fed_here w q before after e on_q was will rest =
        let first : before ≡ x = before_here w before e was in
        let last : after ≡ y = after_here w after e will in
        let process : q ≡ p = one_value (get_or watch_process next None) q p (ap (λ (v : ℕ). get_or watch_process v None) (sym e) ∙ on_q) on in
        let old_row : get_or old_rows w [] ≡ get_or new_rows next [] = ap (λ (v : ℕ). get_or old_rows v []) e ∙ sym (so_far.above next (omega arith)).1 in
        let number : get_or from w 0 ≡ get_or from next 0 = ap (λ (v : ℕ). get_or from v 0) e in
        rw (first, last, process, old_row, number, row_here w e) (turn.fed rest)
