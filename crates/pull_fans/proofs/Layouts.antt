-- Where entries stand in the rows of a fan.
use Rattle.std.proofs.Common.{rules, ◌≡◌, ℕ, zero, suc, ◌+◌, ◌-◌, ◌*◌, ◌<◌, ◌≤◌, ◌⊎◌, inl, inr, List, [], ◌∷◌, ◌++◌, length, get_or, take, drop, refl, sym, ap, ◌∙◌, arith, subst, length-append, Bool, false}
use Rattle.std.specs.Prelude.{IsTrue}
use Rattle.std.specs.List.{slice_range}
use Rattle.std.proofs.lemmas.List.{get_or-append_right, get_or-take, get_or-drop}
use Rattle.std.proofs.lemmas.List.FromFn.{get_or-map-range_with_len, length-map-range_with_len}
use Rattle.std.proofs.lemmas.Nat.{mul-add-lt}
use Rattle.std.proofs.Math.ListN.{get_or-append}
use Rattle.std.proofs.Math.Nat.{mul-le-mul_left}
use Rattle.pull_fans.specs.Fans.{FanView, column}
use Rattle.pull_fans.specs.declared.layout.Layout.{Layout}
use Rattle.pull_fans.specs.declared.layout.Layout.TheVariants.{ByTarget, ByProcess}
use Rattle.pull_fans.specs.inside.Asks.{AreInTurn}
use Rattle.pull_fans.specs.inside.Fans.{AreEntries, AreFanRows, HasProcessRows, IsAround, IsTarget}
use Rattle.pull_fans.specs.inside.Layouts.{AreOthers, AreZeroAt, IsLaidOut, place_in, row_in, tables_in}
use Rattle.pull_fans.proofs.Fans.{table_at}

lt_or_le : (i n : ℕ) → (i < n) ⊎ (n ≤ i)
lt_or_le i n = grind arith

-- the place of a target is within a row
pub place_within : (layout : Layout) (src width : ℕ) (targets : List ℕ) (i : ℕ) → IsLaidOut layout src targets width → i < length targets → place_in layout targets i < width
place_within ByTarget src width targets i laid there = omega (arith, there, laid.size)
place_within ByProcess src width targets i laid there =
    let others : AreOthers src targets = laid.is in
    elim (lt_or_le i src) [
      | inl less ↦ omega (arith, others.before i less, laid.size, there)
      | inr past ↦ omega (arith, others.behind i past there, laid.size, there)
    ]

-- the places of a run stand in turn
pub places_in_turn : (layout : Layout) (targets : List ℕ) (first end i : ℕ) → AreInTurn targets first end → first + i < end → place_in layout targets (first + i) ≡ place_in layout targets first + i
places_in_turn ByTarget targets first end i run there = refl
places_in_turn ByProcess targets first end i run there = run.each i there

-- so the piece of a run is within a row
pub run_within : (layout : Layout) (src width : ℕ) (targets : List ℕ) (first end : ℕ) → IsLaidOut layout src targets width → AreInTurn targets first end → place_in layout targets first + (end - first) ≤ width
run_within layout src width targets first end laid run =
    let last : first + (end - 1 - first) < end = omega (arith, run.some) in
    omega (arith, run.some, places_in_turn layout targets first end (end - 1 - first) run last, place_within layout src width targets (first + (end - 1 - first)) laid (omega (arith, last, run.within)))

-- where an entry of a table stands
pub record StandsAt (width values place x : ℕ) (entries table : List ℕ) : Type 0 where
  pub below : x < values
  pub inside : x * width + place < length entries
  pub is : get_or entries (x * width + place) 0 ≡ get_or table x 0

pub entry_stands : (layout : Layout) (src : ℕ) (targets : List ℕ) (width values index x : ℕ) (entries : List ℕ) (tables : List (List ℕ)) → IsLaidOut layout src targets width → tables_in layout targets width values entries ≡ tables → length entries ≡ values * width
    → index < length targets → x < length (get_or tables index []) → StandsAt width values (place_in layout targets index) x entries (get_or tables index [])
entry_stands layout src targets width values index x entries tables laid same size there value =
    let place : ℕ = place_in layout targets index in
    let at : get_or tables index [] ≡ column width values entries place = ap (λ (ts : List (List ℕ)). get_or ts index []) (sym same) ∙ table_at layout targets width values entries index there in
    let entry : ℕ → ℕ = λ y. get_or entries (y * width + place) 0 in
    let below : x < values = omega (arith, value, ap length at, length-map-range_with_len entry 0 values) in
    let inside : x * width + place < width * values = mul-add-lt x width place values below (place_within layout src width targets index laid there) in
    record {
      below = below;
      inside = omega (arith, inside, size);
      is = sym (ap (λ (t : List ℕ). get_or t x 0) at ∙ get_or-map-range_with_len entry 0 values x x 0 below (omega arith));
    }

-- a row of entries, which has one entry of each table
pub record RowStands (layout : Layout) (targets : List ℕ) (width x : ℕ) (entries : List ℕ) (tables : List (List ℕ)) : Type 0 where
  pub room : x * width + width ≤ length entries
  pub each : (row : List ℕ) → row ≡ slice_range entries (x * width) (x * width + width) → (i : ℕ) → i < length targets → get_or row (place_in layout targets i) 0 ≡ get_or (get_or tables i []) x 0

pub row_stands : (layout : Layout) (src : ℕ) (targets : List ℕ) (width values most x : ℕ) (entries : List ℕ) (tables : List (List ℕ)) → IsLaidOut layout src targets width → tables_in layout targets width values entries ≡ tables → length entries ≡ values * width
    → ((i : ℕ) → i < length targets → length (get_or tables i []) ≡ most) → x < most → 0 < length targets → RowStands layout targets width x entries tables
row_stands layout src targets width values most x entries tables laid same size sizes below some = record {
  room = let first = stands 0 some in omega (arith, size, mul-le-mul_left width (let h : x + 1 ≤ values = omega (arith, first.below) in h));
  each = λ row is i there.
      let place : ℕ = place_in layout targets i in
      ap (λ (xs : List ℕ). get_or xs place 0) is ∙ get_or-take (x * width + width - x * width) (drop (x * width) entries) place 0 (omega (arith, place_within layout src width targets i laid there)) ∙ get_or-drop (x * width) entries place 0 ∙ (stands i there).is;
}
  where
    stands : (i : ℕ) → i < length targets → StandsAt width values (place_in layout targets i) x entries (get_or tables i [])
    stands i there = entry_stands layout src targets width values i x entries tables laid same size there (omega (arith, below, sizes i there))

-- ---- rows with a 0 at the source

pub around_size : (place : ℕ) (row : List ℕ) → place ≤ length row → length (take place row ++ 0 ∷ drop place row) ≡ length row + 1
around_size zero row within = omega arith
around_size (suc place) [] within = absurd (omega (arith, within))
around_size (suc place) (n ∷ row) within = omega (arith, around_size place row (omega (arith, within)))

pub around_none : (place : ℕ) (row : List ℕ) → place ≤ length row → get_or (take place row ++ 0 ∷ drop place row) place 0 ≡ 0
around_none zero row within = refl
around_none (suc place) [] within = absurd (omega (arith, within))
around_none (suc place) (n ∷ row) within = around_none place row (omega (arith, within))

around_before : (place i : ℕ) (row : List ℕ) → i < place → place ≤ length row → get_or (take place row ++ 0 ∷ drop place row) i 0 ≡ get_or row i 0
around_before zero i row less within = absurd (omega (arith, less))
around_before (suc place) i [] less within = absurd (omega (arith, within))
around_before (suc place) zero (n ∷ row) less within = refl
around_before (suc place) (suc i) (n ∷ row) less within = around_before place i row (omega (arith, less)) (omega (arith, within))

around_behind : (place i : ℕ) (row : List ℕ) → place ≤ i → place ≤ length row → get_or (take place row ++ 0 ∷ drop place row) (suc i) 0 ≡ get_or row i 0
around_behind zero i row past within = refl
around_behind (suc place) i [] past within = absurd (omega (arith, within))
around_behind (suc place) zero (n ∷ row) past within = absurd (omega (arith, past))
around_behind (suc place) (suc i) (n ∷ row) past within = around_behind place i row (omega (arith, past)) (omega (arith, within))

-- the numbers stand at the targets
pub around_at : (src : ℕ) (targets row : List ℕ) (i : ℕ) → AreOthers src targets → length row ≡ length targets → i < length targets → get_or (take src row ++ 0 ∷ drop src row) (get_or targets i 0) 0 ≡ get_or row i 0
around_at src targets row i others size there = elim (lt_or_le i src) [
  | inl less ↦ ap (λ (k : ℕ). get_or (take src row ++ 0 ∷ drop src row) k 0) (others.before i less) ∙ around_before src i row less (omega (arith, others.source, size))
  | inr past ↦ ap (λ (k : ℕ). get_or (take src row ++ 0 ∷ drop src row) k 0) (others.behind i past there ∙ (let next : i + 1 ≡ suc i = omega arith in next)) ∙ around_behind src i row past (omega (arith, others.source, size))
]

within_one : (i n : ℕ) → i < n + 1 → (i < n) ⊎ (i ≡ n)
within_one i n h = grind arith

-- 0 stands at the source in one row more
pub zero_more : (src width values : ℕ) (entries whole : List ℕ) → length entries ≡ values * width → src < width → ((x : ℕ) → x < values → get_or entries (x * width + src) 0 ≡ 0) → get_or whole src 0 ≡ 0
    → (x : ℕ) → x < values + 1 → get_or (entries ++ whole) (x * width + src) 0 ≡ 0
zero_more src width values entries whole size within before none x below = elim (within_one x values below) [
  | inl less ↦ get_or-append entries whole 0 (x * width + src) (let inside : x * width + src < width * values = mul-add-lt x width src values less within in omega (arith, inside, size)) ∙ before x less
  | inr last ↦
      get_or-append_right entries whole (length entries) (x * width + src) 0 refl (omega (arith, size, ap (λ (n : ℕ). n * width) last))
      ∙ ap (λ (k : ℕ). get_or whole k 0) (let back : x * width + src - length entries ≡ src = omega (arith, size, ap (λ (n : ℕ). n * width) last) in back) ∙ none
]

-- ---- one row more

pub some_targets : (targets : List ℕ) (none : Bool) → (targets ≡ [] → IsTrue none) → none ≡ false → 0 < length targets
some_targets [] none is not = let no : IsTrue false = subst IsTrue not (is refl) in absurd (search rules)
some_targets (t ∷ targets) none is not = omega arith

not_by_process : ByTarget ≡ ByProcess → ⊥
not_by_process same = search rules

pub source_within : (layout : Layout) (src width : ℕ) (targets : List ℕ) → IsLaidOut layout src targets width → layout ≡ ByProcess → src ≤ length targets
source_within ByTarget src width targets laid by = absurd (not_by_process by)
source_within ByProcess src width targets laid by = let others : AreOthers src targets = laid.is in others.source

row_size : (layout : Layout) (src width : ℕ) (targets row : List ℕ) → IsLaidOut layout src targets width → length row ≡ length targets → length (row_in layout src row) ≡ width
row_size ByTarget src width targets row laid size = omega (arith, laid.size, size)
row_size ByProcess src width targets row laid size = let others : AreOthers src targets = laid.is in omega (arith, laid.size, size, around_size src row (omega (arith, others.source, size)))

-- the numbers stand at the places of the targets
pub row_at : (layout : Layout) (src width : ℕ) (targets row : List ℕ) (i : ℕ) → IsLaidOut layout src targets width → length row ≡ length targets → i < length targets → get_or (row_in layout src row) (place_in layout targets i) 0 ≡ get_or row i 0
row_at ByTarget src width targets row i laid size there = refl
row_at ByProcess src width targets row i laid size there = around_at src targets row i laid.is size there

zero_next : (layout : Layout) (src width values : ℕ) (targets entries row : List ℕ) → IsLaidOut layout src targets width → length entries ≡ values * width → length row ≡ length targets → AreZeroAt layout src width values entries → AreZeroAt layout src width (values + 1) (entries ++ row_in layout src row)
zero_next ByTarget src width values targets entries row laid size count before x by below = absurd (not_by_process by)
zero_next ByProcess src width values targets entries row laid size count before x by below =
    let others : AreOthers src targets = laid.is in
    zero_more src width values entries (take src row ++ 0 ∷ drop src row) size (omega (arith, laid.size, others.source)) (λ y less. before y refl less) (around_none src row (omega (arith, others.source, count))) x below

-- what a fan keeps of its rows
abbrev pub IsKept : Layout → ℕ → List ℕ → ℕ → ℕ → List ℕ → Type 0
IsKept layout src targets width values entries = AreEntries width values entries × IsLaidOut layout src targets width × AreZeroAt layout src width values entries

pub kept_next : (layout : Layout) (src : ℕ) (targets : List ℕ) (width values : ℕ) (entries row now : List ℕ) → IsKept layout src targets width values entries → 0 < length targets → length row ≡ length targets → now ≡ entries ++ row_in layout src row
    → IsKept layout src targets width (values + 1) now
kept_next layout src targets width values entries row now kept some count more =
    let whole : length (row_in layout src row) ≡ width = row_size layout src width targets row kept.1 count in
    let place : place_in layout targets 0 < width = place_within layout src width targets 0 kept.1 some in
    let size : length (entries ++ row_in layout src row) ≡ values * width + width = omega (arith, kept.0.size, whole, length-append entries (row_in layout src row)) in
    subst (λ (list : List ℕ). IsKept layout src targets width (values + 1) list) (sym more) (
      record { size = omega (arith, size); rows = omega (arith, length-append entries (row_in layout src row), whole, place, kept.0.rows) },
      kept.1,
      zero_next layout src width values targets entries row kept.1 kept.0.size count kept.2,
    )

-- in a fan to all processes rows are by target
pub to_all_by_target : (layout : Layout) (src width : ℕ) (targets : List ℕ) → IsLaidOut layout src targets width → ((index : ℕ) → index < length targets → get_or targets index 0 ≡ index) → src < length targets → layout ≡ ByTarget
to_all_by_target ByTarget src width targets laid all inside = refl
to_all_by_target ByProcess src width targets laid all inside =
    let others : AreOthers src targets = laid.is in
    absurd (omega (arith, others.behind src (omega arith) inside, all src inside))

-- so many rows more of a fan by target
pub kept_rows : (src : ℕ) (targets : List ℕ) (width values count : ℕ) (entries rows now : List ℕ) → IsKept ByTarget src targets width values entries → 0 < length targets → length rows ≡ count * length targets → now ≡ entries ++ rows
    → IsKept ByTarget src targets width (values + count) now
kept_rows src targets width values count entries rows now kept some size more =
    let whole : length rows ≡ count * width = size ∙ ap (λ (n : ℕ). count * n) (sym kept.1.size) in
    let all : length (entries ++ rows) ≡ values * width + count * width = omega (arith, kept.0.size, whole, length-append entries rows) in
    let wide : 1 ≤ width = omega (arith, some, kept.1.size) in
    let each : count * 1 ≤ count * width = mul-le-mul_left count wide in
    subst (λ (list : List ℕ). IsKept ByTarget src targets width (values + count) list) (sym more) (
      record { size = omega (arith, all); rows = omega (arith, length-append entries rows, whole, each, kept.0.rows) },
      kept.1,
      λ x by below. absurd (not_by_process by),
    )

-- ---- rows of one entry per process

-- each place of a row is that of a target, or holds 0
record AreByProcess (layout : Layout) (fan : FanView) (width values procs : ℕ) (entries : List ℕ) : Type 0 where
  whole : width ≡ procs
  some : 0 < length fan.targets
  places : (i : ℕ) → i < length fan.targets → place_in layout fan.targets i ≡ get_or fan.targets i 0
  none : (x process : ℕ) → x < values → process < procs → (get_or entries (x * width + process) 0 ≡ 0) ⊎ IsTarget fan process

before_same_behind : (i n : ℕ) → (i < n) ⊎ ((i ≡ n) ⊎ (n < i))
before_same_behind i n = grind arith

by_process : (layout : Layout) (fan : FanView) (width values procs : ℕ) (entries : List ℕ) → IsLaidOut layout fan.src fan.targets width → AreZeroAt layout fan.src width values entries → IsAround fan procs → AreByProcess layout fan width values procs entries
by_process ByTarget fan width values procs entries laid zero_at around = elim around.targets [
  | inl all ↦ record {
    whole = laid.size ∙ all.count;
    some = omega (arith, around.source, all.count);
    places = λ i there. sym (all.each i (omega (arith, there, all.count)));
    none = λ x process below inside. inr record { index = process; there = omega (arith, inside, all.count); is = all.each process inside };
  }
  | inr others ↦ let not : AreOthers fan.src fan.targets → ⊥ = laid.is in absurd (not others.others)
]
by_process ByProcess fan width values procs entries laid zero_at around =
    let are : AreOthers fan.src fan.targets = laid.is in
    elim around.targets [
      | inl all ↦ absurd (omega (arith, are.behind fan.src (omega arith) (omega (arith, around.source, all.count)), all.each fan.src around.source))
      | inr others ↦ record {
        whole = laid.size ∙ others.count;
        some = omega (arith, are.some);
        places = λ i there. refl;
        none = λ x process below inside. elim (before_same_behind process fan.src) [
          | inl less ↦ inr record { index = process; there = omega (arith, less, are.source); is = are.before process less }
          | inr rest ↦ elim rest [
            | inl same ↦ inl (ap (λ (p : ℕ). get_or entries (x * width + p) 0) same ∙ zero_at x refl below)
            | inr past ↦ inr record {
              index = process - 1;
              there = omega (arith, past, inside, others.count);
              is = are.behind (process - 1) (omega (arith, past)) (omega (arith, past, inside, others.count)) ∙ (let back : process - 1 + 1 ≡ process = omega (arith, past) in back);
            }
          ]
        ];
      }
    ]

-- the entries are the rows of the fan for as many values as each of its tables has
pub fan_rows : (fan : FanView) (layout : Layout) (width values : ℕ) (entries : List ℕ) → IsLaidOut layout fan.src fan.targets width → AreZeroAt layout fan.src width values entries → tables_in layout fan.targets width values entries ≡ fan.tables
    → length entries ≡ values * width → (procs count : ℕ) → HasProcessRows fan procs count → AreFanRows fan procs count entries
fan_rows fan layout width values entries laid zero_at same size procs count has = record {
  size = size ∙ ap (λ (n : ℕ). n * width) rows ∙ ap (λ (n : ℕ). count * n) are.whole;
  each = λ x index below target.
      let P : ℕ → Type 0 = λ n. get_or entries (x * n + get_or fan.targets index 0) 0 ≡ get_or (get_or fan.tables index []) x 0 in
      let Q : ℕ → Type 0 = λ p. get_or entries (x * width + p) 0 ≡ get_or (get_or fan.tables index []) x 0 in
      subst P are.whole (subst Q (are.places index target) (entry_stands layout fan.src fan.targets width values index x entries fan.tables laid same size target (omega (arith, below, has.values index target))).is);
  none = λ x process below inside.
      let P : ℕ → Type 0 = λ n. (get_or entries (x * n + process) 0 ≡ 0) ⊎ IsTarget fan process in
      subst P are.whole (are.none x process (omega (arith, below, rows)) inside);
}
  where
    are : AreByProcess layout fan width values procs entries
    are = by_process layout fan width values procs entries laid zero_at has.around

    rows : values ≡ count
    rows =
        let at = ap (λ (ts : List (List ℕ)). get_or ts 0 []) (sym same) ∙ table_at layout fan.targets width values entries 0 are.some in
        let entry : ℕ → ℕ = λ y. get_or entries (y * width + place_in layout fan.targets 0) 0 in
        omega (arith, has.values 0 are.some, ap length at, length-map-range_with_len entry 0 values)
