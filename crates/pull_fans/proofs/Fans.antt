-- The columns of rows: none, one row more, and a table that is the only one.
use Rattle.std.proofs.Common.{◌≡◌, ℕ, zero, suc, ◌+◌, ◌*◌, ◌<◌, List, [], ◌∷◌, ◌++◌, length, get_or, map, replicate, refl, sym, ap, ◌∙◌, arith, append_assoc, append-nil}
use Rattle.std.specs.List.{range_with_len}
use Rattle.std.proofs.lemmas.List.{same_lists, get_or-append-add}
use Rattle.std.proofs.lemmas.List.FromFn.{get_or-map-range_with_len, length-map-range_with_len, map-range_with_len_more}
use Rattle.std.proofs.lemmas.Grind.{same_number_lists}
use Rattle.std.proofs.lemmas.Nat.{mul-add-lt}
use Rattle.std.proofs.Math.ListN.{get_or-append}
use Rattle.pull_system.specs.declared.pull.Pull.{Pull}
use Rattle.pull_fans.specs.Fans.{FanView, column, HasRow, HaveRows, pull_of_fan, pulls_of_fan}
use Rattle.pull_fans.specs.declared.layout.Layout.{Layout}
use Rattle.pull_fans.specs.declared.layout.Layout.TheVariants.{ByTarget}
use Rattle.pull_fans.specs.inside.Layouts.{place_in, tables_in}

-- numbers that are the same one by one
pub same_maps : {X : Type 0} (f g : ℕ → X) (n : ℕ) → ((k : ℕ) → k < n → f k ≡ g k) → map f (range_with_len 0 n) ≡ map g (range_with_len 0 n)
same_maps f g n same =
    same_lists (map f (range_with_len 0 n)) (map g (range_with_len 0 n)) (length-map-range_with_len f 0 n ∙ sym (length-map-range_with_len g 0 n))
    (λ k d there.
    let below : k < n = omega (arith, there, length-map-range_with_len f 0 n) in
    get_or-map-range_with_len f 0 n k k d below (omega arith) ∙ same k below ∙ sym (get_or-map-range_with_len g 0 n k k d below (omega arith)))

-- the table of a target stands in the column of its place
pub table_at : (layout : Layout) (targets : List ℕ) (width values : ℕ) (entries : List ℕ) (i : ℕ) → i < length targets → get_or (tables_in layout targets width values entries) i [] ≡ column width values entries (place_in layout targets i)
table_at layout targets width values entries i there = get_or-map-range_with_len (λ index. column width values entries (place_in layout targets index)) 0 (length targets) i i [] there (omega arith)

pub no_tables : (layout : Layout) (targets : List ℕ) (width : ℕ) (entries : List ℕ) → tables_in layout targets width 0 entries ≡ replicate (length targets) []
no_tables layout targets width entries = none 0 (length targets)
  where
    none : (a n : ℕ) → map (λ index. column width 0 entries (place_in layout targets index)) (range_with_len a n) ≡ replicate n []
    none a zero = refl
    none a (suc n) = ap (λ (ts : List (List ℕ)). [] ∷ ts) (none (a + 1) n)

column_more : (width values : ℕ) (entries row : List ℕ) (i : ℕ) → length entries ≡ values * width → i < width → column width (values + 1) (entries ++ row) i ≡ column width values entries i ++ get_or row i 0 ∷ []
column_more width values entries row i size there =
    map-range_with_len_more entry 0 values values (omega arith)
    ∙ ap (λ (xs : List ℕ). xs ++ entry values ∷ []) (same_maps entry (λ x. get_or entries (x * width + i) 0) values before)
    ∙ ap (λ (x : ℕ). column width values entries i ++ x ∷ []) last
  where
    entry : ℕ → ℕ
    entry x = get_or (entries ++ row) (x * width + i) 0

    before : (x : ℕ) → x < values → get_or (entries ++ row) (x * width + i) 0 ≡ get_or entries (x * width + i) 0
    before x less =
        let inside : x * width + i < width * values = mul-add-lt x width i values less there in
        get_or-append entries row 0 (x * width + i) (omega (arith, inside, size))

    last : get_or (entries ++ row) (values * width + i) 0 ≡ get_or row i 0
    last = ap (λ (n : ℕ). get_or (entries ++ row) (n + i) 0) (sym size) ∙ get_or-append-add entries row i 0

-- one row more
pub has_row : (layout : Layout) (targets : List ℕ) (width values : ℕ) (entries row whole : List ℕ) → length entries ≡ values * width → ((i : ℕ) → i < length targets → place_in layout targets i < width)
    → ((i : ℕ) → i < length targets → get_or whole (place_in layout targets i) 0 ≡ get_or row i 0) → HasRow row (tables_in layout targets width values entries) (tables_in layout targets width (values + 1) (entries ++ whole))
has_row layout targets width values entries row whole size within is = record {
  size = length-map-range_with_len (λ i. column width (values + 1) (entries ++ whole) (place_in layout targets i)) 0 (length targets) ∙ sym (length-map-range_with_len (λ i. column width values entries (place_in layout targets i)) 0 (length targets));
  each = λ j inside.
      let there : j < length targets = omega (arith, inside, length-map-range_with_len (λ i. column width values entries (place_in layout targets i)) 0 (length targets)) in
      let place : ℕ = place_in layout targets j in
      table_at layout targets width (values + 1) (entries ++ whole) j there ∙ column_more width values entries whole place size (within j there)
      ∙ ap (λ (n : ℕ). column width values entries place ++ n ∷ []) (is j there) ∙ ap (λ (xs : List ℕ). xs ++ get_or row j 0 ∷ []) (sym (table_at layout targets width values entries j there));
}

-- so many rows more
pub column_append : (width values count i : ℕ) (entries rows : List ℕ) → length entries ≡ values * width → i < width → column width (values + count) (entries ++ rows) i ≡ column width values entries i ++ column width count rows i
column_append width values zero i entries rows size there =
    ap (λ (n : ℕ). column width n (entries ++ rows) i) (omega arith)
    ∙ same_maps (λ x. get_or (entries ++ rows) (x * width + i) 0) (λ x. get_or entries (x * width + i) 0) values (λ x less.
    let inside : x * width + i < width * values = mul-add-lt x width i values less there in
    get_or-append entries rows 0 (x * width + i) (omega (arith, inside, size)))
    ∙ sym (append-nil (column width values entries i))
column_append width values (suc count) i entries rows size there =
    ap (λ (n : ℕ). column width n (entries ++ rows) i) (let more : values + suc count ≡ (values + count) + 1 = omega arith in more)
    ∙ map-range_with_len_more (λ x. get_or (entries ++ rows) (x * width + i) 0) 0 (values + count) (values + count) (omega arith)
    ∙ ap (λ (xs : List ℕ). xs ++ get_or (entries ++ rows) ((values + count) * width + i) 0 ∷ []) (column_append width values count i entries rows size there)
    ∙ ap (λ (n : ℕ). (column width values entries i ++ column width count rows i) ++ get_or (entries ++ rows) n 0 ∷ []) (let place : (values + count) * width + i ≡ length entries + (count * width + i) = omega (arith, size) in place)
    ∙ ap (λ (x : ℕ). (column width values entries i ++ column width count rows i) ++ x ∷ []) (get_or-append-add entries rows (count * width + i) 0)
    ∙ append_assoc (column width values entries i) (column width count rows i) (get_or rows (count * width + i) 0 ∷ [])
    ∙ ap (λ (xs : List ℕ). column width values entries i ++ xs) (sym (map-range_with_len_more (λ x. get_or rows (x * width + i) 0) 0 count count (omega arith)))
    ∙ ap (λ (n : ℕ). column width values entries i ++ column width n rows i) (let next : count + 1 ≡ suc count = omega arith in next)

pub have_rows : (targets : List ℕ) (values count : ℕ) (entries rows : List ℕ) → length entries ≡ values * length targets
    → HaveRows rows count (tables_in ByTarget targets (length targets) values entries) (tables_in ByTarget targets (length targets) (values + count) (entries ++ rows))
have_rows targets values count entries rows size = record {
  size = tables_size (values + count) (entries ++ rows) ∙ sym (tables_size values entries);
  each = λ j inside.
      let there : j < length targets = omega (arith, inside, tables_size values entries) in
      table_at ByTarget targets (length targets) (values + count) (entries ++ rows) j there
      ∙ column_append (length targets) values count j entries rows size there
      ∙ ap (λ (xs : List ℕ). xs ++ column (length targets) count rows j) (sym (table_at ByTarget targets (length targets) values entries j there))
      ∙ ap (λ (n : ℕ). get_or (tables_in ByTarget targets (length targets) values entries) j [] ++ column n count rows j) (sym (tables_size values entries));
}
  where
    tables_size : (n : ℕ) (words : List ℕ) → length (tables_in ByTarget targets (length targets) n words) ≡ length targets
    tables_size n words = length-map-range_with_len (λ index. column (length targets) n words index) 0 (length targets)

pub one_column : (table : List ℕ) → column 1 (length table) table 0 ≡ table
one_column table =
    same_number_lists (column 1 (length table) table 0) table size
    (λ k there.
    get_or-map-range_with_len entry 0 (length table) k k 0 (omega (arith, there, size)) (omega arith) ∙ ap (λ (i : ℕ). get_or table i 0) (omega arith))
  where
    entry : ℕ → ℕ
    entry x = get_or table (x * 1 + 0) 0

    size : length (column 1 (length table) table 0) ≡ length table
    size = length-map-range_with_len entry 0 (length table)

pub column_next : (width x index item : ℕ) (entries before now : List ℕ) → before ≡ column width x entries index → now ≡ before ++ item ∷ [] → item ≡ get_or entries (x * width + index) 0 → now ≡ column width (x + 1) entries index
column_next width x index item entries before now is more at =
    more ∙ ap (λ (xs : List ℕ). xs ++ item ∷ []) is ∙ ap (λ (y : ℕ). column width x entries index ++ y ∷ []) at
    ∙ sym (map-range_with_len_more (λ y. get_or entries (y * width + index) 0) 0 x x (omega arith))

same_pull : (src dst : ℕ) (table : List ℕ) (pull : Pull) → src ≡ pull.src → dst ≡ pull.dst → table ≡ pull.table → record { src = src; dst = dst; table = table } ≡ pull
same_pull src dst table pull source target entries =
    let by_source : ℕ → Pull = λ s. record { src = s; dst = dst; table = table } in
    let by_target : ℕ → Pull = λ d. record { src = pull.src; dst = d; table = table } in
    let by_table : List ℕ → Pull = λ t. record { src = pull.src; dst = pull.dst; table = t } in
    ap by_source source ∙ ap by_target target ∙ ap by_table entries

-- one pull more of a fan
pub pulls_next : (old before now : List Pull) (fan : FanView) (i src dst : ℕ) (table : List ℕ) → before ≡ old ++ map (pull_of_fan fan) (range_with_len 0 i) → now ≡ before ++ record { src = src; dst = dst; table = table } ∷ []
    → src ≡ fan.src → dst ≡ get_or fan.targets i 0 → table ≡ get_or fan.tables i [] → now ≡ old ++ map (pull_of_fan fan) (range_with_len 0 (i + 1))
pulls_next old before now fan i src dst table is more source target entries =
    more ∙ ap (λ (ps : List Pull). ps ++ record { src = src; dst = dst; table = table } ∷ []) is
    ∙ ap (λ (p : Pull). (old ++ map (pull_of_fan fan) (range_with_len 0 i)) ++ p ∷ []) (same_pull src dst table (pull_of_fan fan i) source target entries)
    ∙ append_assoc old (map (pull_of_fan fan) (range_with_len 0 i)) (pull_of_fan fan i ∷ [])
    ∙ ap (λ (ps : List Pull). old ++ ps) (sym (map-range_with_len_more (pull_of_fan fan) 0 i i (omega arith)))

-- the fan of one pull
pub fan_of_one : (pull : Pull) (targets entries : List ℕ) (values : ℕ) → targets ≡ pull.dst ∷ [] → entries ≡ pull.table → values ≡ length pull.table
    → pulls_of_fan record { src = pull.src; targets = targets; tables = tables_in ByTarget targets 1 values entries } ≡ pull ∷ []
fan_of_one pull targets entries values target table size =
    let fan : List ℕ → ℕ → List ℕ → FanView = λ ts n es. record { src = pull.src; targets = ts; tables = tables_in ByTarget ts 1 n es } in
    let one : List ℕ → List Pull = λ t. record { src = pull.src; dst = pull.dst; table = t } ∷ [] in
    ap (λ (ts : List ℕ). pulls_of_fan (fan ts values entries)) target
    ∙ ap (λ (n : ℕ). pulls_of_fan (fan (pull.dst ∷ []) n entries)) size
    ∙ ap (λ (es : List ℕ). pulls_of_fan (fan (pull.dst ∷ []) (length pull.table) es)) table
    ∙ ap one (one_column pull.table)
