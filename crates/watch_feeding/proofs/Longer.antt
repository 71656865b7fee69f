-- Rows that are lengthened.
use Rattle.std.proofs.Common.{◌≡◌, ℕ, zero, suc, ◌+◌, ◌<◌, ◌≤◌, inl, inr, Bool, List, [], ◌∷◌, ◌++◌, Option, Some, None, length, take, drop, set, map, get_or, slice_get, refl, ap, sym, ◌∙◌, arith, length-append}
use Rattle.std.proofs.lemmas.List.{length-map, length-set, get_or-set_same, get_or-set_other, map_more, take-append-drop}
use Rattle.std.proofs.Math.Seq.{take-append_seam}
use Rattle.std.proofs.lemmas.Option.{get_or_from_slice_get}
use Rattle.local_preds.proofs.RowSteps.{lens-get_or}
use Rattle.event_log.specs.States.{StatesView}
use Rattle.local_preds.specs.Rows.{len_at}
use Rattle.watch_feeding.specs.Fed.{AreWithin, RowsHaveGrown, RowsAreFed}
use Rattle.watch_feeding.proofs.InTurn.{same_or_other, one_value, no_value}

-- the rows up to a number are long enough, and the others as before
pub record LongBelow (states : StatesView) (watch_process : List (Option ℕ)) (old : List (List Bool)) (next : ℕ) (lens : List ℕ) (new : List (List Bool)) : Type 0 where
  pub grown : RowsHaveGrown watch_process old new
  pub told : lens ≡ map length (take next old)
  pub full : (w p : ℕ) → w < next → get_or watch_process w None ≡ Some p → length (get_or new w []) ≡ len_at states p + 1
  pub above : (w : ℕ) → next ≤ w → get_or new w [] ≡ get_or old w []

-- the next row is lengthened
pub one_grows : (watch_process : List (Option ℕ)) (old : List (List Bool)) (next p : ℕ) (new : List (List Bool)) (row : List Bool)
    → get_or watch_process next None ≡ Some p → next < length new → get_or new next [] ≡ get_or old next []
    → take (length (get_or new next [])) row ≡ get_or new next [] → RowsHaveGrown watch_process old new → RowsHaveGrown watch_process old (set new next row)
one_grows watch_process old next p new row on place is front grown = record {
  count = length-set new next row ∙ grown.count;
  longer = λ w q on_q. elim (same_or_other w next) [
    | inl e ↦ (
      drop (length (get_or new next [])) row,
      ap (λ (v : ℕ). get_or (set new next row) v []) e ∙ get_or-set_same new next row [] place ∙ sym (take-append-drop (length (get_or new next [])) row)
          ∙ ap (λ (r : List Bool). r ++ drop (length (get_or new next [])) row) (front ∙ is ∙ ap (λ (v : ℕ). get_or old v []) (sym e)),
    )
    | inr other ↦ (let so = grown.longer w q on_q in (so.0, get_or-set_other new next w row [] other ∙ so.1))
  ];
  others = λ w none. get_or-set_other new next w row [] (λ e. no_value (get_or watch_process next None) p on (ap (λ (v : ℕ). get_or watch_process v None) (sym e) ∙ none)) ∙ grown.others w none;
}

more_lens : (old : List (List Bool)) (next len : ℕ) (lens more : List ℕ) → next < length old → lens ≡ map length (take next old) → len ≡ length (get_or old next []) → more ≡ lens ++ len ∷ []
    → more ≡ map length (take (next + 1) old)
more_lens old next len lens more there so_far is pushed =
    pushed ∙ ap (λ (l : List ℕ). l ++ len ∷ []) so_far ∙ ap (λ (n : ℕ). map length (take next old) ++ n ∷ []) is ∙ sym (map_more length old next [] there)

pub one_long : (states : StatesView) (watch_process : List (Option ℕ)) (old : List (List Bool)) (next p len : ℕ) (lens lens' : List ℕ) (new : List (List Bool)) (row : List Bool)
    → get_or watch_process next None ≡ Some p → next < length new → len ≡ length (get_or new next []) → lens' ≡ lens ++ len ∷ []
    → take (length (get_or new next [])) row ≡ get_or new next [] → length row ≡ len_at states p + 1
    → LongBelow states watch_process old next lens new → LongBelow states watch_process old (next + 1) lens' (set new next row)
one_long states watch_process old next p len lens lens' new row on place size pushed front full so_far = record {
  grown = one_grows watch_process old next p new row on place (so_far.above next (omega arith)) front so_far.grown;
  told = more_lens old next len lens lens' (let c = so_far.grown.count in omega arith) so_far.told (size ∙ ap (λ (r : List Bool). length r) (so_far.above next (omega arith))) pushed;
  full = λ w q below on_q. elim (same_or_other w next) [
    | inl e ↦
        (let process : q ≡ p = one_value (get_or watch_process next None) q p (ap (λ (v : ℕ). get_or watch_process v None) (sym e) ∙ on_q) on in
        ap (λ (v : ℕ). length (get_or (set new next row) v [])) e ∙ ap (λ (r : List Bool). length r) (get_or-set_same new next row [] place) ∙ full
        ∙ ap (λ (v : ℕ). len_at states v + 1) (sym process))
    | inr other ↦ ap (λ (r : List Bool). length r) (get_or-set_other new next w row [] other) ∙ so_far.full w q (omega arith) on_q
  ];
  above = λ w above. get_or-set_other new next w row [] (past w above) ∙ so_far.above w (omega arith);
}
  where
    past : (w : ℕ) → next + 1 ≤ w → w ≡ next → ⊥
    past w above e = omega arith

-- the next watch is on no process
pub one_stays : (states : StatesView) (watch_process : List (Option ℕ)) (old : List (List Bool)) (next len : ℕ) (lens lens' : List ℕ) (new : List (List Bool))
    → get_or watch_process next None ≡ None → next < length new → len ≡ length (get_or new next []) → lens' ≡ lens ++ len ∷ []
    → LongBelow states watch_process old next lens new → LongBelow states watch_process old (next + 1) lens' new
one_stays states watch_process old next len lens lens' new none place size pushed so_far = record {
  grown = so_far.grown;
  told = more_lens old next len lens lens' (let c = so_far.grown.count in omega arith) so_far.told (size ∙ ap (λ (r : List Bool). length r) (so_far.above next (omega arith))) pushed;
  full = λ w p below. elim (same_or_other w next) [
    | inl e ↦ (λ on. absurd (no_value (get_or watch_process w None) p on (ap (λ (v : ℕ). get_or watch_process v None) e ∙ none)))
    | inr other ↦ so_far.full w p (omega arith)
  ];
  above = λ w above. so_far.above w (omega arith);
}

pub len_is : (states : StatesView) (p len : ℕ) (shape : List ℕ) → shape ≡ map length states.events → len ≡ get_or shape p 0 → len ≡ len_at states p
len_is states p len shape lens is = is ∙ ap (λ (l : List ℕ). get_or l p 0) lens ∙ lens-get_or states.events p

pub length_is : (rows : List (List Bool)) (w len : ℕ) (row : List Bool) → slice_get rows w ≡ Some row → len ≡ length row → len ≡ length (get_or rows w [])
length_is rows w len row is size = size ∙ ap (λ (r : List Bool). length r) (sym (get_or_from_slice_get rows w row [] is))

-- ---- rows that were lengthened and then fed from their old lengths on

pub number-is : (old : List (List Bool)) (from : List ℕ) (w : ℕ) → from ≡ map length old → get_or from w 0 ≡ length (get_or old w [])
number-is old from w are = ap (λ (l : List ℕ). get_or l w 0) are ∙ at old w
  where
    at : (rows : List (List Bool)) (v : ℕ) → get_or (map length rows) v 0 ≡ length (get_or rows v [])
    at [] v = refl
    at (row ∷ rows) zero = refl
    at (row ∷ rows) (suc v) = at rows v

-- no number is above the length of its row, now that rows were lengthened
pub begin_within : (watch_process : List (Option ℕ)) (old long : List (List Bool)) (from : List ℕ) → from ≡ map length old → length old ≡ length watch_process → RowsHaveGrown watch_process old long
    → AreWithin watch_process from long
begin_within watch_process old long from are size grown = record {
  count = ap (λ (l : List ℕ). length l) are ∙ length-map old length ∙ size;
  each = λ w. one w (get_or watch_process w None) refl;
}
  where
    one : (w : ℕ) (o : Option ℕ) → get_or watch_process w None ≡ o → get_or from w 0 ≤ length (get_or long w [])
    one w None none = omega (arith, number-is old from w are, ap (λ (r : List Bool). length r) (grown.others w none))
    one w (Some p) on =
        let more = grown.longer w p on in
        omega (arith, number-is old from w are, ap (λ (r : List Bool). length r) more.1, length-append (get_or old w []) more.0)

pub first_truths : (watch_process : List (Option ℕ)) (old long : List (List Bool)) (from : List ℕ) (w p : ℕ) → get_or watch_process w None ≡ Some p → from ≡ map length old → RowsHaveGrown watch_process old long
    → take (get_or from w 0) (get_or long w []) ≡ get_or old w []
first_truths watch_process old long from w p on are grown =
    let more = grown.longer w p on in
    ap (λ (n : ℕ). take n (get_or long w [])) (number-is old from w are) ∙ ap (take (length (get_or old w []))) more.1 ∙ take-append_seam (get_or old w []) more.0

pub grown_and_fed : (watch_process : List (Option ℕ)) (old long new : List (List Bool)) (from : List ℕ) → from ≡ map length old → RowsHaveGrown watch_process old long → RowsAreFed watch_process from long new
    → RowsHaveGrown watch_process old new
grown_and_fed watch_process old long new from are grown fed = record {
  count = fed.count ∙ grown.count;
  longer = λ w p on. (
    drop (get_or from w 0) (get_or new w []),
    sym (take-append-drop (get_or from w 0) (get_or new w []))
        ∙ ap (λ (r : List Bool). r ++ drop (get_or from w 0) (get_or new w [])) (fed.kept w ∙ first_truths watch_process old long from w p on are grown),
  );
  others = λ w none. fed.others w none ∙ grown.others w none;
}
