-- The words of rows, and a table to which rows are pushed.
use Rattle.std.proofs.Common.{◌≡◌, ℕ, zero, suc, ◌+◌, ◌-◌, ◌*◌, ◌<◌, ◌≤◌, ◌↔◌, leb, List, [], ◌∷◌, ◌++◌, length, get_or, map, replicate, take, drop, Option, Some, None, refl, sym, ap, ◌∙◌, subst, arith, inl, inr, below_more}
use Rattle.std.proofs.lemmas.Bool.{cases_lt, cond-true, cond-false, le-leb, lt-leb}
use Rattle.std.proofs.lemmas.List.{length-map, get_or-map, get_or_past, get_or_append_left, get_or_push, map_push, length-append, length-drop, append_assoc, append-nil, take-append-drop}
use Rattle.run_model.specs.Cut.{Cut, count, IsWithin}
use Rattle.run_model.specs.Slice.{HasWithin}
use Rattle.causal_order.specs.Blocks.{rows_of}
use Rattle.causal_order.proofs.Rows.{length-rows_of, row_at, rows_push, row_within}
use Rattle.slice_graph.specs.Views.{SliceView, IsCut, IsRow, AreCuts, no_row}
use Rattle.slice_graph.specs.Words.{past_ends, filled, cut_in, cuts_in}
use Rattle.slice_graph.specs.inside.Pushing.{some_row}
use Rattle.slice_graph.specs.inside.Words.{IsFilled, AreFilled, AreAllWords, times}

-- ---- words of a row

pub length-past_ends : (lens : List ℕ) → length (past_ends lens) ≡ length lens
length-past_ends lens = length-map lens (λ (len : ℕ). len + 1)

pub count-past_ends : (lens : List ℕ) (i : ℕ) → i < length lens → count (past_ends lens) i ≡ count lens i + 1
count-past_ends lens i lt = get_or-map (λ (len : ℕ). len + 1) lens i 0 0 lt

pub past_ends_most : (lens : List ℕ) (i : ℕ) → count (past_ends lens) i ≤ count lens i + 1
past_ends_most lens i = elim (cases_lt i (length lens)) [
  | inl lt ↦ omega (arith, count-past_ends lens i lt)
  | inr ge ↦ omega (arith, get_or_past (past_ends lens) i 0 (omega (arith, length-past_ends lens)))
]

pub length-filled : (lens : List ℕ) (k : Option Cut) → IsRow lens k → length (filled lens k) ≡ length lens
length-filled lens None h = length-past_ends lens
length-filled lens (Some c) h = h.size

pub filled_most : (lens : List ℕ) (k : Option Cut) → IsRow lens k → (i : ℕ) → count (filled lens k) i ≤ count lens i + 1
filled_most lens None h i = past_ends_most lens i
filled_most lens (Some c) h i = omega (arith, h.within i)

-- a cut within the lengths holds the words exactly where it holds the row
pub filled_within : (lens : List ℕ) (k : Option Cut) (c : Cut) → 1 ≤ length lens → IsWithin c lens → IsWithin (filled lens k) c ↔ HasWithin k c
filled_within lens None c some within = (λ h. omega (arith, h 0, within 0, count-past_ends lens 0 (omega arith)), λ h. absurd h)
filled_within lens (Some j) c some within = (λ h. h, λ h. h)

pub cut_in_cut : (lens : List ℕ) (c : Cut) → IsCut lens c → cut_in lens c ≡ Some c
cut_in_cut lens c h = cond-true (leb (get_or c 0 0) (get_or lens 0 0)) (Some c) None (le-leb (get_or c 0 0) (get_or lens 0 0) (h.within 0))

pub cut_in_past : (lens : List ℕ) → 1 ≤ length lens → cut_in lens (past_ends lens) ≡ None
cut_in_past lens some = cond-false (leb (get_or (past_ends lens) 0 0) (get_or lens 0 0)) (Some (past_ends lens)) None
    (lt-leb (get_or (past_ends lens) 0 0) (get_or lens 0 0) (omega (arith, count-past_ends lens 0 (omega arith))))

pub cut_filled : (lens : List ℕ) (c : Cut) → IsCut lens c → IsFilled lens c
cut_filled lens c h = record { same = sym (ap (filled lens) (cut_in_cut lens c h)); row = subst (IsRow lens) (sym (cut_in_cut lens c h)) h }

pub past_filled : (lens : List ℕ) → 1 ≤ length lens → IsFilled lens (past_ends lens)
past_filled lens some = record { same = sym (ap (filled lens) (cut_in_past lens some)); row = subst (IsRow lens) (sym (cut_in_past lens some)) tt }

-- ---- a table

abbrev pub view_of : List ℕ → ℕ → List ℕ → SliceView
view_of lens n words = record { lens = lens; rows = cuts_in lens n words }

pub rows_are : (lens : List ℕ) (n : ℕ) (words : List ℕ) (v : SliceView) → view_of lens n words ≡ v → length v.rows ≡ n
rows_are lens n words v is =
    sym (ap (λ (x : SliceView). length x.rows) is) ∙ length-map (rows_of (length lens) n words) (cut_in lens) ∙ length-rows_of (length lens) n words

pub no_rows : (lens words : List ℕ) → view_of lens 0 words ≡ record { lens = lens; rows = [] }
unfolding rows_of
no_rows lens words = refl

row_in : (lens : List ℕ) (n : ℕ) (words : List ℕ) (row : ℕ) → row < n → get_or (cuts_in lens n words) row no_row ≡ cut_in lens (get_or (rows_of (length lens) n words) row [])
row_in lens n words row lt = get_or-map (cut_in lens) (rows_of (length lens) n words) row [] no_row (omega (arith, length-rows_of (length lens) n words))

pub rows_pushed : (lens : List ℕ) (n : ℕ) (words row : List ℕ) → length words ≡ n * length lens → length row ≡ length lens
    → rows_of (length lens) (n + 1) (words ++ row) ≡ rows_of (length lens) n words ++ row ∷ []
rows_pushed lens n words row size width =
    let one : n + 1 ≡ suc n = omega arith in
    ap (λ (k : ℕ). rows_of (length lens) k (words ++ row)) one ∙ rows_push (length lens) n words row size width

pub pushed : (lens : List ℕ) (n : ℕ) (words row : List ℕ) (k : Option Cut) (v : SliceView) → view_of lens n words ≡ v → length words ≡ n * length lens
    → length row ≡ length lens → cut_in lens row ≡ k → view_of lens (n + 1) (words ++ row) ≡ record v { rows = v.rows ++ k ∷ [] }
pushed lens n words row k v is size width kept =
    ap (λ (rs : List Cut). record { lens = lens; rows = map (cut_in lens) rs }) (rows_pushed lens n words row size width)
    ∙ ap (λ (rs : List (Option Cut)). record { lens = lens; rows = rs }) (map_push (cut_in lens) (rows_of (length lens) n words) row)
    ∙ ap (λ (x : Option Cut). record { lens = lens; rows = cuts_in lens n words ++ x ∷ [] }) kept
    ∙ ap (λ (x : SliceView). record x { rows = x.rows ++ k ∷ [] }) is

pub still_filled : (lens absent : List ℕ) (n : ℕ) (words row : List ℕ) → AreFilled lens absent n words → IsFilled lens row → length row ≡ length lens
    → AreFilled lens absent (n + 1) (words ++ row)
still_filled lens absent n words row h new width =
    let w : ℕ = length lens in
    let more = rows_pushed lens n words row h.size width in
    let len = length-rows_of w n words in
    record {
      shape = h.shape;
      past = h.past;
      size = omega (arith, length-append words row, h.size);
      each = below_more (λ r. IsFilled lens (get_or (rows_of w (n + 1) (words ++ row)) r [])) n
          (λ r lt. subst (IsFilled lens) (sym (ap (λ (rs : List Cut). get_or rs r []) more ∙ get_or_append_left (rows_of w n words) (row ∷ []) [] r (omega arith))) (h.each r lt))
          (subst (IsFilled lens) (sym (ap (λ (rs : List Cut). get_or rs n []) more ∙ get_or_push (rows_of w n words) row [] n len)) new);
    }

-- the words of all rows
pub all_words_are : (lens absent : List ℕ) (n : ℕ) (words : List ℕ) (v : SliceView) → view_of lens n words ≡ v → AreFilled lens absent n words → AreAllWords v words
all_words_are lens absent n words v is h =
    let count : length (cuts_in lens n words) ≡ n = rows_are lens n words (view_of lens n words) refl in
    subst (λ (x : SliceView). AreAllWords x words) is (record {
      size = h.size ∙ ap (λ (k : ℕ). k * length lens) (sym count);
      each = λ row there.
          let lt : row < n = omega (arith, there, count) in
          ap (λ (k : ℕ). get_or (rows_of (length lens) k words) row []) count
          ∙ (h.each row lt).same
          ∙ ap (filled lens) (sym (row_in lens n words row lt));
    })

-- the words that are cut out are those of the row
pub words_are : (lens absent : List ℕ) (n : ℕ) (words : List ℕ) (v : SliceView) (row : ℕ) → view_of lens n words ≡ v → AreFilled lens absent n words → row < n
    → take (row * length absent + length absent - row * length absent) (drop (row * length absent) words) ≡ filled v.lens (get_or v.rows row no_row)
words_are lens absent n words v row is h lt =
    let w : length absent ≡ length lens = ap length h.past ∙ length-past_ends lens in
    let size : row * length absent + length absent - row * length absent ≡ length lens = omega (arith, w) in
    let place : row * length absent ≡ row * length lens = ap (λ (k : ℕ). row * k) w in
    ap (λ (k : ℕ). take k (drop (row * length absent) words)) size
    ∙ ap (λ (k : ℕ). take (length lens) (drop k words)) place
    ∙ sym (row_at (length lens) n row words lt)
    ∙ (h.each row lt).same
    ∙ ap (filled lens) (sym (row_in lens n words row lt))
    ∙ ap (λ (x : SliceView). filled x.lens (get_or x.rows row no_row)) is

pub words_fit : (lens absent : List ℕ) (n : ℕ) (words : List ℕ) (row : ℕ) → AreFilled lens absent n words → row < n → row * length absent + length absent ≤ length words
words_fit lens absent n words row h lt =
    let w : length absent ≡ length lens = ap length h.past ∙ length-past_ends lens in
    subst (λ (k : ℕ). row * k + k ≤ length words) (sym w) (row_within (length lens) n row (length words) h.size lt)

pub are_cuts : (lens absent : List ℕ) (n : ℕ) (words : List ℕ) (v : SliceView) → view_of lens n words ≡ v → AreFilled lens absent n words → AreCuts v
are_cuts lens absent n words v is h = subst AreCuts is (record {
  shape = h.shape;
  each = λ row. elim (cases_lt row n) [
    | inl lt ↦ subst (IsRow lens) (sym (row_in lens n words row lt)) (h.each row lt).row
    | inr ge ↦ subst (IsRow lens) (sym (get_or_past (cuts_in lens n words) row no_row (omega (arith, rows_are lens n words (view_of lens n words) refl)))) tt
  ];
})

-- ---- one row more

pub cut_pushed : (lens absent : List ℕ) (n : ℕ) (words new : List ℕ) (v : SliceView) (c : Cut) → view_of lens n words ≡ v → AreFilled lens absent n words → IsCut v.lens c
    → new ≡ words ++ c → AreFilled lens absent (n + 1) new × (view_of lens (n + 1) new ≡ record v { rows = v.rows ++ Some c ∷ [] })
cut_pushed lens absent n words new v c is h cut more =
    let here : IsCut lens c = subst (λ (ls : List ℕ). IsCut ls c) (sym (ap (λ (x : SliceView). x.lens) is)) cut in (
      subst (AreFilled lens absent (n + 1)) (sym more) (still_filled lens absent n words c h (cut_filled lens c here) here.size),
      ap (view_of lens (n + 1)) more ∙ pushed lens n words c (Some c) v is h.size here.size (cut_in_cut lens c here),
    )

pub none_pushed : (lens absent : List ℕ) (n : ℕ) (words new : List ℕ) (v : SliceView) → view_of lens n words ≡ v → AreFilled lens absent n words
    → new ≡ words ++ absent → AreFilled lens absent (n + 1) new × (view_of lens (n + 1) new ≡ record v { rows = v.rows ++ no_row ∷ [] })
none_pushed lens absent n words new v is h more =
    let all : new ≡ words ++ past_ends lens = more ∙ ap (λ (w : List ℕ). words ++ w) h.past in (
      subst (AreFilled lens absent (n + 1)) (sym all) (still_filled lens absent n words (past_ends lens) h (past_filled lens h.shape.some) (length-past_ends lens)),
      ap (view_of lens (n + 1)) all ∙ pushed lens n words (past_ends lens) None v is h.size (length-past_ends lens) (cut_in_past lens h.shape.some),
    )

-- so many rows without a cut more
pub nones_pushed : (lens absent : List ℕ) (n count : ℕ) (words new : List ℕ) (v : SliceView) → view_of lens n words ≡ v → AreFilled lens absent n words → new ≡ words ++ times count absent
    → AreFilled lens absent (n + count) new × (view_of lens (n + count) new ≡ record v { rows = v.rows ++ replicate count no_row })
nones_pushed lens absent n zero words new v is h more =
    let same : new ≡ words = more ∙ append-nil words in
    let still : n ≡ n + 0 = omega arith in (
      subst (λ (k : ℕ). AreFilled lens absent k new) still (subst (AreFilled lens absent n) (sym same) h),
      ap (λ (k : ℕ). view_of lens k new) (sym still) ∙ ap (view_of lens n) same ∙ is ∙ ap (λ (rs : List (Option Cut)). record v { rows = rs }) (sym (append-nil v.rows)),
    )
nones_pushed lens absent n (suc count) words new v is h more =
    let front : List ℕ = words ++ times count absent in
    let before = nones_pushed lens absent n count words front v is h refl in
    let all = none_pushed lens absent (n + count) front new (record v { rows = v.rows ++ replicate count no_row }) before.1 before.0 (more ∙ sym (append_assoc words (times count absent) absent)) in
    let next : n + count + 1 ≡ n + suc count = omega arith in (
      subst (λ (k : ℕ). AreFilled lens absent k new) next all.0,
      ap (λ (k : ℕ). view_of lens k new) (sym next) ∙ all.1
          ∙ ap (λ (rs : List (Option Cut)). record v { rows = rs }) (append_assoc v.rows (replicate count no_row) (no_row ∷ []) ∙ ap (λ (ks : List (Option Cut)). v.rows ++ ks) (one_behind count)),
    )
  where
    one_behind : (n : ℕ) → replicate n no_row ++ no_row ∷ [] ≡ replicate (suc n) no_row
    one_behind zero = refl
    one_behind (suc n) = ap (λ (ks : List (Option Cut)). no_row ∷ ks) (one_behind n)

length-zero : (xs : List ℕ) → length xs ≡ 0 → xs ≡ []
length-zero [] none = refl
length-zero (x ∷ xs) none = absurd (omega (arith, none))

-- so many rows with cuts more
pub cuts_pushed : (lens absent : List ℕ) (n count : ℕ) (words block new : List ℕ) (v : SliceView) → view_of lens n words ≡ v → AreFilled lens absent n words → length block ≡ count * length v.lens
    → ((row : ℕ) → row < count → IsCut v.lens (get_or (rows_of (length v.lens) count block) row [])) → new ≡ words ++ block
    → AreFilled lens absent (n + count) new × (view_of lens (n + count) new ≡ record v { rows = v.rows ++ map some_row (rows_of (length v.lens) count block) })
unfolding rows_of
cuts_pushed lens absent n zero words block new v is h size cuts more =
    let same : new ≡ words = more ∙ ap (λ (b : List ℕ). words ++ b) (length-zero block (omega (arith, size))) ∙ append-nil words in
    let still : n ≡ n + 0 = omega arith in (
      subst (λ (k : ℕ). AreFilled lens absent k new) still (subst (AreFilled lens absent n) (sym same) h),
      ap (λ (k : ℕ). view_of lens k new) (sym still) ∙ ap (view_of lens n) same ∙ is ∙ ap (λ (rs : List (Option Cut)). record v { rows = rs }) (sym (append-nil v.rows)),
    )
cuts_pushed lens absent n (suc count) words block new v is h size cuts more =
    let w : ℕ = length v.lens in
    let row : List ℕ = take w block in
    let rest : List ℕ = drop w block in
    let one = cut_pushed lens absent n words (words ++ row) v row is h (cuts 0 (omega arith)) refl in
    let whole : new ≡ (words ++ row) ++ rest = more ∙ ap (λ (b : List ℕ). words ++ b) (sym (take-append-drop w block)) ∙ sym (append_assoc words row rest) in
    let left : length rest ≡ count * w = omega (arith, length-drop w block, size) in
    let all = cuts_pushed lens absent (n + 1) count (words ++ row) rest new (record v { rows = v.rows ++ Some row ∷ [] }) one.1 one.0 left (λ r lt. cuts (suc r) (omega (arith, lt))) whole in
    let next : n + 1 + count ≡ n + suc count = omega arith in (
      subst (λ (k : ℕ). AreFilled lens absent k new) next all.0,
      ap (λ (k : ℕ). view_of lens k new) (sym next) ∙ all.1 ∙ ap (λ (rs : List (Option Cut)). record v { rows = rs }) (append_assoc v.rows (Some row ∷ []) (map some_row (rows_of w count rest))),
    )

-- the cut of a row is within the lengths
pub row_cut : (v : SliceView) → AreCuts v → (row : ℕ) (c : Cut) → Some c ≡ get_or v.rows row no_row → IsCut v.lens c
row_cut v cuts row c is = subst (IsRow v.lens) (sym is) (cuts.each row)
