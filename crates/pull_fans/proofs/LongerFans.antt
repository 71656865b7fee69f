-- Fans whose first rows stay and behind which more come, and the systems of their pulls.
use Rattle.std.proofs.Common.{◌≡◌, ℕ, zero, suc, ◌+◌, ◌-◌, ◌*◌, ◌/◌, ◌^◌, ◌<◌, ◌≤◌, ◌⊎◌, inl, inr, List, [], ◌∷◌, ◌++◌, All, length, get_or, map, take, drop, refl, sym, ap, ◌∙◌, arith, subst, append-nil, append_assoc}
use Rattle.std.specs.List.{range_with_len}
use Rattle.std.proofs.lemmas.Grind.{same_number_lists}
use Rattle.std.proofs.lemmas.List.{get_or-append-add, get_or-drop, get_or-map, get_or-take, get_or_default, get_or_past, length-map, length-take, same_lists, take_all}
use Rattle.std.proofs.lemmas.List.Elements.{All-get_or, All-from_get_or}
use Rattle.std.proofs.lemmas.List.FromFn.{get_or-map-range_with_len, length-map-range_with_len, map-range_with_len_more}
use Rattle.std.proofs.lemmas.Nat.{mul-add-lt}
use Rattle.pota_base.specs.Shape.{IsShape}
use Rattle.pull_system.specs.declared.pull.Pull.{Pull}
use Rattle.pull_system.specs.System.{IsPull, IsSystem, no_pull}
use Rattle.pull_fans.specs.Sources.{numbers_from}
use Rattle.pull_fans.specs.Fans.{FanView, HasRow, column, pull_of_fan, pulls_of_fan, pulls_of_fans}
use Rattle.pull_fans.specs.Growing.{grown_pull, grown_pulls}
use Rattle.pull_fans.specs.declared.layout.Layout.{Layout}
use Rattle.pull_fans.specs.declared.places.Place.{Place}
use Rattle.pull_fans.specs.inside.Growing.{kept_tables, longer_table, longer_fan, grown_fan, FitsRows, MayGrow}
use Rattle.pull_fans.specs.inside.Layouts.{IsLaidOut, place_in, tables_in}
use Rattle.pull_fans.specs.inside.Places.{no_fan, no_place, fan_at, ArePlaces}
use Rattle.pull_fans.specs.inside.Sources.{AreBySource}
use Rattle.pull_fans.proofs.Fans.{same_maps, table_at}
use Rattle.pull_fans.proofs.Layouts.{place_within}
use Rattle.pull_fans.proofs.Numbers.{source_in, numbers_case}
use Rattle.pull_fans.proofs.Placing.{entries_small, of_each}
use Rattle.pull_fans.proofs.Raising.{length-pulls_of_fan, pulls_of_fan-at}

lt_or_le : (i n : ℕ) → (i < n) ⊎ (n ≤ i)
lt_or_le i n = grind arith

-- ---- the first rows

length-column : (width values : ℕ) (entries : List ℕ) (place : ℕ) → length (column width values entries place) ≡ values
length-column width values entries place = length-map-range_with_len (λ x. get_or entries (x * width + place) 0) 0 values

column-entry : (width values : ℕ) (entries : List ℕ) (place x : ℕ) → x < values → get_or (column width values entries place) x 0 ≡ get_or entries (x * width + place) 0
column-entry width values entries place x below = get_or-map-range_with_len (λ y. get_or entries (y * width + place) 0) 0 values x x 0 below (omega arith)

kept_column : (width values count place : ℕ) (entries : List ℕ) → count ≤ values → place < width → column width count (take (count * width) entries) place ≡ take count (column width values entries place)
kept_column width values count place entries few within =
    same_number_lists (column width count (take (count * width) entries) place) (take count (column width values entries place))
    (length-column width count (take (count * width) entries) place ∙ (let size : count ≡ length (take count (column width values entries place)) = omega (arith, few, length-take count (column width values entries place), length-column width values entries place) in size))
    (λ x there.
    let below : x < count = omega (arith, there, length-column width count (take (count * width) entries) place) in
    let inside : x * width + place < width * count = mul-add-lt x width place count below within in
    column-entry width count (take (count * width) entries) place x below
    ∙ get_or-take (count * width) entries (x * width + place) 0 (omega (arith, inside))
    ∙ sym (get_or-take count (column width values entries place) x 0 below ∙ column-entry width values entries place x (omega (arith, below, few))))

-- where rows are taken off, the first entries of each table are left
pub tables_kept : (layout : Layout) (src : ℕ) (targets : List ℕ) (width values count : ℕ) (entries now : List ℕ) → IsLaidOut layout src targets width → count ≤ values → now ≡ take (count * width) entries
    → tables_in layout targets width count now ≡ kept_tables count record { src = src; targets = targets; tables = tables_in layout targets width values entries }
tables_kept layout src targets width values count entries now laid few is =
    ap (tables_in layout targets width count) is
    ∙ same_maps (λ i. column width count (take (count * width) entries) (place_in layout targets i)) (λ i. take count (get_or (tables_in layout targets width values entries) i [])) (length targets)
    (λ i there. kept_column width values count (place_in layout targets i) entries few (place_within layout src width targets i laid there) ∙ ap (take count) (sym (table_at layout targets width values entries i there)))

-- where there are no more, nothing is taken off
pub tables_stay : (layout : Layout) (src : ℕ) (targets : List ℕ) (width values count : ℕ) (entries : List ℕ) → values ≤ count → tables_in layout targets width values entries ≡ kept_tables count record { src = src; targets = targets; tables = tables_in layout targets width values entries }
tables_stay layout src targets width values count entries few =
    same_maps (λ i. column width values entries (place_in layout targets i)) (λ i. take count (get_or (tables_in layout targets width values entries) i [])) (length targets)
    (λ i there.
    sym (take_all count (column width values entries (place_in layout targets i)) (omega (arith, few, length-column width values entries (place_in layout targets i))))
    ∙ ap (take count) (sym (table_at layout targets width values entries i there)))

-- ---- rows behind them

-- behind the first rows so many of the others have come
pub record AreLonger (fan : FanView) (stay procs x : ℕ) (more : List ℕ) (now : FanView) : Type 0 where
  pub src : now.src ≡ fan.src
  pub targets : now.targets ≡ fan.targets
  pub size : length now.tables ≡ length fan.targets
  pub tables : (i : ℕ) → i < length fan.targets → get_or now.tables i [] ≡ longer_table fan stay procs x more i

pub longer_none : (fan now : FanView) (stay procs : ℕ) (more : List ℕ) → now ≡ record fan { tables = kept_tables stay fan } → AreLonger fan stay procs 0 more now
longer_none fan now stay procs more is = record {
  src = ap (λ (f : FanView). f.src) is;
  targets = ap (λ (f : FanView). f.targets) is;
  size = ap (λ (f : FanView). length f.tables) is ∙ length-map-range_with_len kept 0 (length fan.targets);
  tables = λ i there. ap (λ (f : FanView). get_or f.tables i []) is ∙ get_or-map-range_with_len kept 0 (length fan.targets) i i [] there (omega arith) ∙ sym (append-nil (kept i));
}
  where
    kept : ℕ → List ℕ
    kept i = take stay (get_or fan.tables i [])

pub longer_next : (fan before now : FanView) (stay procs x : ℕ) (more numbers : List ℕ) → AreLonger fan stay procs x more before → now.src ≡ before.src → now.targets ≡ before.targets → HasRow numbers before.tables now.tables
    → ((i : ℕ) → i < length fan.targets → get_or numbers i 0 ≡ get_or more (x * procs + get_or fan.targets i 0) 0) → AreLonger fan stay procs (x + 1) more now
longer_next fan before now stay procs x more numbers so_far source targets row are = record {
  src = source ∙ so_far.src;
  targets = targets ∙ so_far.targets;
  size = row.size ∙ so_far.size;
  tables = λ i there.
      let entry : ℕ → ℕ = λ y. get_or more (y * procs + get_or fan.targets i 0) 0 in
      row.each i (omega (arith, there, so_far.size))
      ∙ ap (λ (table : List ℕ). table ++ get_or numbers i 0 ∷ []) (so_far.tables i there)
      ∙ append_assoc (take stay (get_or fan.tables i [])) (column procs x more (get_or fan.targets i 0)) (get_or numbers i 0 ∷ [])
      ∙ ap (λ (n : ℕ). take stay (get_or fan.tables i []) ++ (column procs x more (get_or fan.targets i 0) ++ n ∷ [])) (are i there)
      ∙ ap (λ (list : List ℕ). take stay (get_or fan.tables i []) ++ list) (sym (map-range_with_len_more entry 0 x x (omega arith)));
}

same_fan : (fan now : FanView) (tables : List (List ℕ)) → now.src ≡ fan.src → now.targets ≡ fan.targets → now.tables ≡ tables → now ≡ record fan { tables = tables }
same_fan fan now tables source targets are =
    let by_source : ℕ → FanView = λ s. record { src = s; targets = now.targets; tables = now.tables } in
    let by_targets : List ℕ → FanView = λ ts. record { src = fan.src; targets = ts; tables = now.tables } in
    let by_tables : List (List ℕ) → FanView = λ ts. record { src = fan.src; targets = fan.targets; tables = ts } in
    ap by_source source ∙ ap by_targets targets ∙ ap by_tables are

pub longer_all : (fan now : FanView) (stay procs x : ℕ) (more : List ℕ) → AreLonger fan stay procs x more now → x ≡ length more / procs → now ≡ longer_fan stay procs more fan
longer_all fan now stay procs x more are all =
    same_fan fan now (map table (range_with_len 0 (length fan.targets))) are.src are.targets
    (same_lists now.tables (map table (range_with_len 0 (length fan.targets))) (are.size ∙ sym (length-map-range_with_len table 0 (length fan.targets)))
    (λ k d inside.
    let there : k < length fan.targets = omega (arith, inside, are.size) in
    get_or_default now.tables k d [] inside ∙ are.tables k there ∙ ap (λ (n : ℕ). longer_table fan stay procs n more k) all
    ∙ sym (get_or-map-range_with_len table 0 (length fan.targets) k k d there (omega arith))))
  where
    table : ℕ → List ℕ
    table = longer_table fan stay procs (length more / procs) more

-- the row of a value, as it is cut out of all
abbrev pub cut_row : List ℕ → ℕ → ℕ → List ℕ
cut_row more procs x = take (x * procs + procs - x * procs) (drop (x * procs) more)

pub number_at : (more targets numbers : List ℕ) (procs x i : ℕ) → numbers ≡ map (λ place. get_or (cut_row more procs x) place 0) targets → i < length targets → get_or targets i 0 < procs → get_or numbers i 0 ≡ get_or more (x * procs + get_or targets i 0) 0
number_at more targets numbers procs x i is there within =
    ap (λ (list : List ℕ). get_or list i 0) is ∙ get_or-map (λ place. get_or (cut_row more procs x) place 0) targets i 0 0 there
    ∙ get_or-take (x * procs + procs - x * procs) (drop (x * procs) more) (get_or targets i 0) 0 (omega (arith, within)) ∙ get_or-drop (x * procs) more (get_or targets i 0) 0

pub numbers_small : (fan : FanView) (more numbers : List ℕ) (procs x : ℕ) → FitsRows fan procs more → x < length more / procs → numbers ≡ map (λ place. get_or (cut_row more procs x) place 0) fan.targets → (i : ℕ) → get_or numbers i 0 < 2 ^ 16
numbers_small fan more numbers procs x fits below is i = elim (lt_or_le i (length fan.targets)) [
  | inl there ↦ omega (arith, number_at more fan.targets numbers procs x i is there (fits.targets i there), fits.entries x i below there)
  | inr past ↦ omega (arith, get_or_past numbers i 0 (omega (arith, past, ap length is, length-map fan.targets (λ place. get_or (cut_row more procs x) place 0))))
]

-- ---- pulls and places

pull_grown : (lens : List ℕ) (more : List (List ℕ)) (fan : FanView) (i : ℕ) → i < length fan.targets → pull_of_fan (grown_fan lens more fan) i ≡ grown_pull lens more (pull_of_fan fan i)
pull_grown lens more fan i there =
    let rows : List ℕ = get_or more fan.src [] in
    let made : List ℕ → Pull = λ table. record { src = fan.src; dst = get_or fan.targets i 0; table = table } in
    ap made (get_or-map-range_with_len (longer_table fan (get_or lens fan.src 0 + 1) (length lens) (length rows / length lens) rows) 0 (length fan.targets) i i [] there (omega arith))

map-append : {X Y : Type 0} (f : X → Y) (xs ys : List X) → map f (xs ++ ys) ≡ map f xs ++ map f ys
map-append f [] ys = refl
map-append f (x ∷ xs) ys = ap (λ (zs : List _). f x ∷ zs) (map-append f xs ys)

fan_grown : (lens : List ℕ) (more : List (List ℕ)) (fan : FanView) → pulls_of_fan (grown_fan lens more fan) ≡ grown_pulls lens more (pulls_of_fan fan)
fan_grown lens more fan =
    same_lists (pulls_of_fan (grown_fan lens more fan)) (grown_pulls lens more (pulls_of_fan fan))
    (length-pulls_of_fan (grown_fan lens more fan) ∙ sym (length-map (pulls_of_fan fan) (grown_pull lens more) ∙ length-pulls_of_fan fan))
    (λ k d inside.
    let there : k < length fan.targets = omega (arith, inside, length-pulls_of_fan (grown_fan lens more fan)) in
    get_or_default (pulls_of_fan (grown_fan lens more fan)) k d no_pull inside ∙ pulls_of_fan-at (grown_fan lens more fan) k there ∙ pull_grown lens more fan k there
    ∙ sym (get_or-map (grown_pull lens more) (pulls_of_fan fan) k no_pull d (omega (arith, there, length-pulls_of_fan fan)) ∙ ap (grown_pull lens more) (pulls_of_fan-at fan k there)))

pub pulls_grown : (lens : List ℕ) (more : List (List ℕ)) (fans : List FanView) → pulls_of_fans (map (grown_fan lens more) fans) ≡ grown_pulls lens more (pulls_of_fans fans)
pulls_grown lens more [] = refl
pulls_grown lens more (fan ∷ fans) =
    ap (λ (ps : List Pull). ps ++ pulls_of_fans (map (grown_fan lens more) fans)) (fan_grown lens more fan)
    ∙ ap (λ (ps : List Pull). grown_pulls lens more (pulls_of_fan fan) ++ ps) (pulls_grown lens more fans)
    ∙ sym (map-append (grown_pull lens more) (pulls_of_fan fan) (pulls_of_fans fans))

pub places_grown : (lens : List ℕ) (more : List (List ℕ)) (fans : List FanView) (places : List Place) (pulls : List Pull) → ArePlaces fans places pulls → ArePlaces (map (grown_fan lens more) fans) places (grown_pulls lens more pulls)
places_grown lens more fans places pulls are = record {
  count = are.count ∙ sym (length-map pulls (grown_pull lens more));
  each = λ k inside.
      let there : k < length pulls = omega (arith, inside, length-map pulls (grown_pull lens more)) in
      let place : Place = get_or places k no_place in
      let is = are.each k there in
      let at : fan_at (map (grown_fan lens more) fans) place.fan ≡ grown_fan lens more (fan_at fans place.fan) = get_or-map (grown_fan lens more) fans place.fan no_fan no_fan is.fan in
      record {
        fan = omega (arith, is.fan, length-map fans (grown_fan lens more));
        index = omega (arith, is.index, ap (λ (f : FanView). length f.targets) at);
        is = ap (λ (f : FanView). pull_of_fan f place.index) at ∙ pull_grown lens more (fan_at fans place.fan) place.index is.index ∙ ap (grown_pull lens more) is.is ∙ sym (get_or-map (grown_pull lens more) pulls k no_pull no_pull there);
      };
}

-- the numbers of pulls from the same sources are the same
numbers_same : (ps qs : List Pull) (process n : ℕ) → ((k : ℕ) → k < n → source_in ps k ≡ source_in qs k) → numbers_from ps process n ≡ numbers_from qs process n
numbers_same ps qs process zero same = refl
numbers_same ps qs process (suc n) same =
    let before = numbers_same ps qs process n (λ k less. same k (omega (arith, less))) in
    let here = same n (omega arith) in
    elim (numbers_case ps process n) [
      | inl own ↦
          elim (numbers_case qs process n) [
            | inl other ↦ own.1 ∙ ap (λ (ns : List ℕ). ns ++ n ∷ []) before ∙ sym other.1
            | inr other ↦ absurd (other.0 (sym here ∙ own.0))
          ]
      | inr own ↦
          elim (numbers_case qs process n) [
            | inl other ↦ absurd (own.0 (here ∙ other.0))
            | inr other ↦ own.1 ∙ before ∙ sym other.1
          ]
    ]

pub numbers_grown : (lens new : List ℕ) (more : List (List ℕ)) (pulls : List Pull) (by_source : List (List ℕ)) → length new ≡ length lens → AreBySource record { lens = lens; pulls = pulls } by_source → AreBySource record { lens = new; pulls = grown_pulls lens more pulls } by_source
numbers_grown lens new more pulls by_source size by = record {
  count = by.count ∙ sym size;
  each = λ process there.
      by.each process (omega (arith, there, size))
      ∙ numbers_same pulls (grown_pulls lens more pulls) process (length pulls) (λ k inside. sym (ap (λ (p : Pull). p.src) (get_or-map (grown_pull lens more) pulls k no_pull no_pull inside)))
      ∙ ap (numbers_from (grown_pulls lens more pulls) process) (sym (length-map pulls (grown_pull lens more)));
}

-- ---- systems

pub grown_is : (lens new : List ℕ) (more : List (List ℕ)) (pulls : List Pull) → IsSystem record { lens = lens; pulls = pulls } → IsShape new → All (IsPull new) (grown_pulls lens more pulls) → IsSystem record { lens = new; pulls = grown_pulls lens more pulls }
grown_is lens new more pulls is shape all = record { shape = shape; pulls = all; count = omega (arith, is.count, length-map pulls (grown_pull lens more)) }

-- an entry of the rows is one of a grown pull, so it fits 16 bits
entry_small : (lens new : List ℕ) (more : List (List ℕ)) (pull : Pull) (x : ℕ) → IsShape new → IsPull lens pull → IsPull new (grown_pull lens more pull) → x < length (get_or more pull.src []) / length lens → get_or (get_or more pull.src []) (x * length lens + pull.dst) 0 < 2 ^ 16
entry_small lens new more pull x shape fits grown below =
    let rows : List ℕ = get_or more pull.src [] in
    let first : List ℕ = take (get_or lens pull.src 0 + 1) pull.table in
    let behind : List ℕ = column (length lens) (length rows / length lens) rows pull.dst in
    omega (arith, entries_small new shape (grown_pull lens more pull) grown (length first + x), get_or-append-add first behind x 0, column-entry (length lens) (length rows / length lens) rows pull.dst x below)

pub may_grow : (lens new : List ℕ) (more : List (List ℕ)) (fans : List FanView) → IsShape new → All (IsPull lens) (pulls_of_fans fans) → All (IsPull new) (grown_pulls lens more (pulls_of_fans fans)) → All (MayGrow lens more) fans
may_grow lens new more fans shape all grown =
    All-from_get_or (MayGrow lens more) fans no_fan (λ number there. record {
      source = λ some. (of_each (IsPull lens) fans number 0 there some all).source;
      rows = record {
        targets = λ i inside. (of_each (IsPull lens) fans number i there inside all).target;
        entries = λ x i below inside. entry_small lens new more (pull_of_fan (fan_at fans number) i) x shape (of_each (IsPull lens) fans number i there inside all) (of_each (λ pull. IsPull new (grown_pull lens more pull)) fans number i there inside each) below;
      };
    })
  where
    each : All (λ pull. IsPull new (grown_pull lens more pull)) (pulls_of_fans fans)
    each =
        All-from_get_or (λ pull. IsPull new (grown_pull lens more pull)) (pulls_of_fans fans) no_pull (λ k there.
        subst (IsPull new) (get_or-map (grown_pull lens more) (pulls_of_fans fans) k no_pull no_pull there) (All-get_or (IsPull new) (grown_pulls lens more (pulls_of_fans fans)) k no_pull (omega (arith, there, length-map (pulls_of_fans fans) (grown_pull lens more))) grown))
