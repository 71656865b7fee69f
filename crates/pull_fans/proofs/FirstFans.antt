-- The first fans of a system, one more of them, and the others taken off.
use Rattle.std.proofs.Common.{◌≡◌, ◌≢◌, ℕ, zero, suc, ◌+◌, ◌-◌, ◌*◌, ◌^◌, ◌<◌, ◌≤◌, ◌⊎◌, inl, inr, Some, List, [], ◌∷◌, ◌++◌, All, length, get_or, map, take, drop, set, refl, arith, sym, ap, ◌∙◌, subst, append-nil, append_assoc, length-append}
use Rattle.std.specs.List.{range_with_len}
use Rattle.std.proofs.lemmas.List.{get_or-append-add, get_or-set_other, get_or-set_same, get_or-take, get_or_push, length-take, nil_from_length, take-append-drop, take_all}
use Rattle.std.proofs.Math.ListN.{length-set}
use Rattle.std.proofs.lemmas.Option.{get_or_from_slice_get}
use Rattle.std.specs.Prelude.{slice_get}
use Rattle.std.proofs.lemmas.Grind.{flat_map-append}
use Rattle.std.proofs.lemmas.List.Elements.{All-append, All-get_or, All-take}
use Rattle.std.proofs.lemmas.List.Folds.{length-flat_map-take}
use Rattle.std.proofs.lemmas.List.FromFn.{get_or-map-range_with_len}
use Rattle.std.proofs.Math.ListN.{get_or-append}
use Rattle.std.proofs.Math.Seq.{take-append_seam}
use Rattle.pull_system.specs.declared.pull.Pull.{Pull}
use Rattle.pull_system.specs.System.{SystemView, IsSystem, IsPull, no_pull}
use Rattle.pull_fans.specs.Sources.{numbers_from}
use Rattle.pull_fans.specs.Fans.{FanView, pull_of_fan, pulls_of_fan, pulls_of_fans}
use Rattle.pull_fans.specs.Asks.{IsAskedBy}
use Rattle.pull_fans.specs.inside.Asks.{AreAskRows, AreAllAsks, HoldsAsks, OwnAreAsks, StaysWith, no_rows}
use Rattle.pull_fans.specs.declared.asks.AskRows.{AskRows}
use Rattle.pull_fans.specs.declared.asks.AskRows.TheVariants.{Own, OfFan}
use Rattle.pull_fans.specs.declared.places.Place.{Place}
use Rattle.pull_fans.specs.inside.Fans.{AreFanRows, HasProcessRows}
use Rattle.pull_fans.specs.inside.First.{first_system, HavePulls, IsFromOther, IsKnown}
use Rattle.pull_fans.specs.inside.Places.{no_fan, no_place, fan_at, ArePlaces}
use Rattle.pull_fans.specs.inside.Sources.{AreBySource}
use Rattle.pull_fans.proofs.Numbers.{source_in, numbers_case}
use Rattle.pull_fans.proofs.Placing.{FanFits, fan_fits, item_is, of_each, pulls_more}
use Rattle.pull_fans.proofs.Raising.{ask_rows_other, length-pulls_of_fan, pulls_of_fan-at}

same_or_not : (a b : ℕ) → (a ≡ b) ⊎ (a ≢ b)
same_or_not a b = grind arith

within_one : (i n : ℕ) → i < n + 1 → (i < n) ⊎ (i ≡ n)
within_one i n h = grind arith

-- ---- one item put in the place of another

pub record IsPutAt {X : Type 0} (default : X) (old new : List X) (place : ℕ) (item : X) : Type 0 where
  pub size : length new ≡ length old
  pub here : get_or new place default ≡ item
  pub others : (q : ℕ) → q ≢ place → get_or new q default ≡ get_or old q default

pub put_once : {X : Type 0} (default : X) (old : List X) (place : ℕ) (item : X) → place < length old → IsPutAt default old (set old place item) place item
put_once default old place item there = record {
  size = length-set old place item;
  here = get_or-set_same old place item default there;
  others = λ q other. get_or-set_other old place q item default other;
}

pub put_twice : {X : Type 0} (default : X) (old middle new : List X) (place : ℕ) (first item : X) → place < length old → middle ≡ set old place first → new ≡ set middle place item → IsPutAt default old new place item
put_twice {X} default old middle new place first item there once twice =
    let one = put_once default old place first there in
    let two = put_once default (set old place first) place item (omega (arith, there, one.size)) in
    subst (λ (list : List X). IsPutAt default old list place item) (sym (twice ∙ ap (λ (list : List X). set list place item) once)) record {
      size = two.size ∙ one.size;
      here = two.here;
      others = λ q other. two.others q other ∙ one.others q other;
    }

-- ---- one fan more

-- a fan without targets asks for nothing
pub with_none : (fans : List FanView) (number : ℕ) (fan : FanView) → number < length fans → fan ≡ get_or fans number fan → fan.targets ≡ [] → pulls_of_fans (take (number + 1) fans) ≡ pulls_of_fans (take number fans)
with_none fans number fan there is none =
    pulls_more fans number fan there (item_is fans fans number fan refl there is)
    ∙ ap (λ (ts : List ℕ). pulls_of_fans (take number fans) ++ map (pull_of_fan fan) (range_with_len 0 (length ts))) none
    ∙ append-nil (pulls_of_fans (take number fans))

pub with_no_target : (fans : List FanView) (number : ℕ) (fan : FanView) → number < length fans → fan ≡ get_or fans number fan → length fan.targets ≡ 0 → pulls_of_fans (take (number + 1) fans) ≡ pulls_of_fans (take number fans)
with_no_target fans number fan there is none = with_none fans number fan there is (nil_from_length fan.targets none)

-- the fan of this number, which has a target
pub record FanThere (lens : List ℕ) (fans : List FanView) (number : ℕ) (fan : FanView) : Type 0 where
  pub source : fan.src < length lens
  pub fits : FanFits lens fan.src fan
  pub more : pulls_of_fans (take (number + 1) fans) ≡ pulls_of_fans (take number fans) ++ pulls_of_fan fan

pub fan_there : (lens : List ℕ) (fans : List FanView) (number : ℕ) (fan : FanView) → All (IsPull lens) (pulls_of_fans fans) → number < length fans → fan ≡ get_or fans number fan → 0 < length fan.targets → FanThere lens fans number fan
fan_there lens fans number fan all there found some = record {
  source = let P : FanView → Type 0 = λ f. 0 < length f.targets → f.src < length lens in subst P is (λ inside. (of_each (IsPull lens) fans number 0 there inside all).source) some;
  fits = fan_fits lens fans number fan.src fan all there is refl;
  more = pulls_more fans number fan there is;
}
  where
    is : fan_at fans number ≡ fan
    is = item_is fans fans number fan refl there found

-- a fan from another process asks for nothing in what is held
holds_other : (lens : List ℕ) (pulls : List Pull) (fan : FanView) (fans : List FanView) (process values : ℕ) (held : AskRows) → HoldsAsks record { lens = lens; pulls = pulls } fans process values held → (fan.src ≡ process → ⊥)
    → HoldsAsks record { lens = lens; pulls = pulls ++ pulls_of_fan fan } fans process values held
holds_other lens pulls fan fans process values (Own rows) is other = ask_rows_other lens pulls fan process values rows is other
holds_other lens pulls fan fans process values (OfFan number) is other = record { there = is.there; has = is.has; rows = λ rows are. ask_rows_other lens pulls fan process values rows (is.rows rows are) other }

-- rows of their own are those that are held
own_are : (system : SystemView) (fans : List FanView) (process values : ℕ) (held : AskRows) (rows : List ℕ) → HoldsAsks system fans process values held → held ≡ Own rows → AreAskRows system process values rows
own_are system fans process values held rows holds same = subst (λ (h : AskRows). HoldsAsks system fans process values h) same holds

-- so they are where what is held is read among the first fans
pub own_held : (lens : List ℕ) (fans front : List FanView) (number process : ℕ) (asks : List AskRows) (held : AskRows) → AreAllAsks (first_system lens fans number) fans asks → front ≡ take number fans → process < length lens → slice_get asks process ≡ Some held
    → OwnAreAsks record { lens = lens; pulls = pulls_of_fans front } process (get_or lens process 0 + 2) held
own_held lens fans front number process asks held all same there found =
    let P : List FanView → Type 0 = λ fs. OwnAreAsks record { lens = lens; pulls = pulls_of_fans fs } process (get_or lens process 0 + 2) held in
    let Q : AskRows → Type 0 = λ h. HoldsAsks (first_system lens fans number) fans process (get_or lens process 0 + 2) h in
    let holds : HoldsAsks (first_system lens fans number) fans process (get_or lens process 0 + 2) held = subst Q (get_or_from_slice_get asks process held no_rows found) (all.each process there) in
    subst P (sym same) (λ rows is. own_are (first_system lens fans number) fans process (get_or lens process 0 + 2) held rows holds is)

pub all_raised : (lens : List ℕ) (pulls : List Pull) (fan : FanView) (fans : List FanView) (old new : List AskRows) (now : List ℕ) → AreAllAsks record { lens = lens; pulls = pulls } fans old → IsPutAt no_rows old new fan.src (Own now)
    → AreAskRows record { lens = lens; pulls = pulls ++ pulls_of_fan fan } fan.src (get_or lens fan.src 0 + 2) now → AreAllAsks record { lens = lens; pulls = pulls ++ pulls_of_fan fan } fans new
all_raised lens pulls fan fans old new now all put rows = record {
  count = put.size ∙ all.count;
  each = λ p there. elim (same_or_not p fan.src) [
    | inl same ↦
        let P : ℕ → Type 0 = λ q. HoldsAsks system fans q (get_or lens q 0 + 2) (get_or new q no_rows) in
        subst P (sym same) (subst (λ (h : AskRows). HoldsAsks system fans fan.src (get_or lens fan.src 0 + 2) h) (sym put.here) rows)
    | inr other ↦
        subst (λ (h : AskRows). HoldsAsks system fans p (get_or lens p 0 + 2) h) (sym (put.others p other))
        (holds_other lens pulls fan fans p (get_or lens p 0 + 2) (get_or old p no_rows) (all.each p there) (λ from. other (sym from)))
  ];
}
  where
    system : SystemView
    system = record { lens = lens; pulls = pulls ++ pulls_of_fan fan }

-- the rows of asks of one process more
pub asks_more : (system : SystemView) (fans : List FanView) (process : ℕ) (old new : List AskRows) (held : AskRows) → length old ≡ process → new ≡ old ++ held ∷ []
    → ((p : ℕ) → p < process → HoldsAsks system fans p (get_or system.lens p 0 + 2) (get_or old p no_rows)) → HoldsAsks system fans process (get_or system.lens process 0 + 2) held
    → (p : ℕ) → p < process + 1 → HoldsAsks system fans p (get_or system.lens p 0 + 2) (get_or new p no_rows)
asks_more system fans process old new held size is before here p there = elim (within_one p process there) [
  | inl less ↦
      let P : AskRows → Type 0 = λ h. HoldsAsks system fans p (get_or system.lens p 0 + 2) h in
      subst P (sym (ap (λ (list : List AskRows). get_or list p no_rows) is ∙ get_or-append old (held ∷ []) no_rows p (omega (arith, less, size)))) (before p less)
  | inr same ↦
      let P : ℕ → Type 0 = λ q. HoldsAsks system fans q (get_or system.lens q 0 + 2) (get_or new q no_rows) in
      let Q : AskRows → Type 0 = λ h. HoldsAsks system fans process (get_or system.lens process 0 + 2) h in
      subst P (sym same) (subst Q (sym (ap (λ (list : List AskRows). get_or list process no_rows) is ∙ get_or_push old held no_rows process size)) here)
]

-- ---- numbers

pub range_more : (a n : ℕ) → range_with_len a (suc n) ≡ range_with_len a n ++ (a + n) ∷ []
range_more a zero = ap (λ (x : ℕ). x ∷ []) (let e : a ≡ a + 0 = omega arith in e)
range_more a (suc n) =
    ap (λ (xs : List ℕ). a ∷ xs) (range_more (a + 1) n)
    ∙ ap (λ (x : ℕ). a ∷ (range_with_len (a + 1) n ++ x ∷ [])) (let e : a + 1 + n ≡ a + suc n = omega arith in e)

pub range_next : (a n : ℕ) → range_with_len a (n + 1) ≡ range_with_len a n ++ (a + n) ∷ []
range_next a n = let on : n + 1 ≡ suc n = omega arith in ap (range_with_len a) on ∙ range_more a n

-- the numbers below those of the others
pub numbers_first : (ps qs : List Pull) (process n : ℕ) → n ≤ length ps → numbers_from (ps ++ qs) process n ≡ numbers_from ps process n
numbers_first ps qs process zero h = refl
numbers_first ps qs process (suc n) h =
    let same : source_in (ps ++ qs) n ≡ source_in ps n = ap (λ (p : Pull). p.src) (get_or-append ps qs no_pull n (omega arith)) in
    let before = numbers_first ps qs process n (omega arith) in
    elim (numbers_case (ps ++ qs) process n) [
      | inl here ↦
          elim (numbers_case ps process n) [
            | inl own ↦ here.1 ∙ ap (λ (ns : List ℕ). ns ++ n ∷ []) before ∙ sym own.1
            | inr own ↦ absurd (own.0 (sym same ∙ here.0))
          ]
      | inr other ↦
          elim (numbers_case ps process n) [
            | inl own ↦ absurd (other.0 (same ∙ own.0))
            | inr own ↦ other.1 ∙ before ∙ sym own.1
          ]
    ]

source_behind : (ps qs : List Pull) (k : ℕ) → source_in (ps ++ qs) (length ps + k) ≡ source_in qs k
source_behind ps qs k = ap (λ (p : Pull). p.src) (get_or-append-add ps qs k no_pull)

-- where none of the others is from the process, they add none
pub numbers_none : (ps qs : List Pull) (process k : ℕ) → ((j : ℕ) → j < length qs → source_in qs j ≡ process → ⊥) → k ≤ length qs → numbers_from (ps ++ qs) process (length ps + k) ≡ numbers_from ps process (length ps)
numbers_none ps qs process zero none h = ap (numbers_from (ps ++ qs) process) (let e : length ps + 0 ≡ length ps = omega arith in e) ∙ numbers_first ps qs process (length ps) (omega arith)
numbers_none ps qs process (suc k) none h =
    ap (numbers_from (ps ++ qs) process) (let e : length ps + suc k ≡ suc (length ps + k) = omega arith in e)
    ∙ elim (numbers_case (ps ++ qs) process (length ps + k)) [
      | inl here ↦ absurd (none k (omega arith) (sym (source_behind ps qs k) ∙ here.0))
      | inr other ↦ other.1 ∙ numbers_none ps qs process k none (omega arith)
    ]

-- where all of them are, they add theirs
pub numbers_all : (ps qs : List Pull) (process k : ℕ) → ((j : ℕ) → j < length qs → source_in qs j ≡ process) → k ≤ length qs
    → numbers_from (ps ++ qs) process (length ps + k) ≡ numbers_from ps process (length ps) ++ range_with_len (length ps) k
numbers_all ps qs process zero all h =
    ap (numbers_from (ps ++ qs) process) (let e : length ps + 0 ≡ length ps = omega arith in e) ∙ numbers_first ps qs process (length ps) (omega arith) ∙ sym (append-nil (numbers_from ps process (length ps)))
numbers_all ps qs process (suc k) all h =
    ap (numbers_from (ps ++ qs) process) (let e : length ps + suc k ≡ suc (length ps + k) = omega arith in e)
    ∙ elim (numbers_case (ps ++ qs) process (length ps + k)) [
      | inl here ↦
          here.1
          ∙ ap (λ (ns : List ℕ). ns ++ (length ps + k) ∷ []) (numbers_all ps qs process k all (omega arith))
          ∙ append_assoc (numbers_from ps process (length ps)) (range_with_len (length ps) k) ((length ps + k) ∷ [])
          ∙ ap (λ (ns : List ℕ). numbers_from ps process (length ps) ++ ns) (sym (range_more (length ps) k))
      | inr other ↦ absurd (other.0 (source_behind ps qs k ∙ all k (omega arith)))
    ]

pub numbers_pushed : (lens : List ℕ) (pulls : List Pull) (fan : FanView) (old new : List (List ℕ)) → fan.src < length lens → AreBySource record { lens = lens; pulls = pulls } old
    → IsPutAt [] old new fan.src (get_or old fan.src [] ++ range_with_len (length pulls) (length fan.targets)) → AreBySource record { lens = lens; pulls = pulls ++ pulls_of_fan fan } new
numbers_pushed lens pulls fan old new below by put = record {
  count = put.size ∙ by.count;
  each = λ p there. elim (same_or_not p fan.src) [
    | inl same ↦
        let P : ℕ → Type 0 = λ q. get_or new q [] ≡ numbers_from all q (length all) in
        subst P (sym same)
        (put.here ∙ ap (λ (ns : List ℕ). ns ++ range_with_len (length pulls) (length fan.targets)) (by.each fan.src below)
        ∙ sym (ap (numbers_from all fan.src) size ∙ numbers_all pulls (pulls_of_fan fan) fan.src (length fan.targets) from (omega (arith, length-pulls_of_fan fan))))
    | inr other ↦
        put.others p other ∙ by.each p there
        ∙ sym (ap (numbers_from all p) size ∙ numbers_none pulls (pulls_of_fan fan) p (length fan.targets) (λ j inside is. other (sym is ∙ from j inside)) (omega (arith, length-pulls_of_fan fan)))
  ];
}
  where
    all : List Pull
    all = pulls ++ pulls_of_fan fan

    size : length (pulls ++ pulls_of_fan fan) ≡ length pulls + length fan.targets
    size = omega (arith, length-append pulls (pulls_of_fan fan), length-pulls_of_fan fan)

    from : (j : ℕ) → j < length (pulls_of_fan fan) → source_in (pulls_of_fan fan) j ≡ fan.src
    from j inside = ap (λ (p : Pull). p.src) (pulls_of_fan-at fan j (omega (arith, inside, length-pulls_of_fan fan)))

-- ---- the others taken off

-- the pulls of the first fans, and those of the others
pub split_pulls : (fans : List FanView) (stay : ℕ) → pulls_of_fans fans ≡ pulls_of_fans (take stay fans) ++ pulls_of_fans (drop stay fans)
split_pulls fans stay = ap pulls_of_fans (sym (take-append-drop stay fans)) ∙ flat_map-append pulls_of_fan (take stay fans) (drop stay fans)

-- rows of asks stay where the others don't come from the process
pub asks_stay : (lens : List ℕ) (ps qs : List Pull) (process values : ℕ) (rows : List ℕ) → All (IsFromOther process) qs → AreAskRows record { lens = lens; pulls = ps ++ qs } process values rows → AreAskRows record { lens = lens; pulls = ps } process values rows
asks_stay lens ps qs process values rows others are = record {
  size = are.size;
  covers = λ x k inside there source.
      let P : Pull → Type 0 = λ p. get_or p.table x 0 ≤ get_or rows (x * length lens + p.dst) 0 in
      subst P (at k there) (are.covers x k inside (omega (arith, there, length-append ps qs)) (ap (λ (p : Pull). p.src) (at k there) ∙ source));
  asked = λ x target inside there. elim (are.asked x target inside there) [ inl none ↦ inl none | inr by ↦ inr (own x target (get_or rows (x * length lens + target) 0) by) ];
}
  where
    at : (k : ℕ) → k < length ps → get_or (ps ++ qs) k no_pull ≡ get_or ps k no_pull
    at k there = get_or-append ps qs no_pull k there

    less_or_not : (a b : ℕ) → (a < b) ⊎ (b ≤ a)
    less_or_not a b = grind arith

    own : (x target n : ℕ) → IsAskedBy record { lens = lens; pulls = ps ++ qs } process x target n → IsAskedBy record { lens = lens; pulls = ps } process x target n
    own x target n by = elim (less_or_not by.k (length ps)) [
      | inl less ↦ record {
        k = by.k;
        there = less;
        from = ap (λ (p : Pull). p.src) (sym (at by.k less)) ∙ by.from;
        to = ap (λ (p : Pull). p.dst) (sym (at by.k less)) ∙ by.to;
        asks = ap (λ (p : Pull). get_or p.table x 0) (sym (at by.k less)) ∙ by.asks;
      }
      | inr past ↦
          let i : ℕ = by.k - length ps in
          let place : by.k ≡ length ps + i = omega (arith, past) in
          let inside : i < length qs = omega (arith, by.there, past, length-append ps qs) in
          let behind : get_or (ps ++ qs) by.k no_pull ≡ get_or qs i no_pull = ap (λ (n : ℕ). get_or (ps ++ qs) n no_pull) place ∙ get_or-append-add ps qs i no_pull in
          absurd (All-get_or (IsFromOther process) qs i no_pull inside others (ap (λ (p : Pull). p.src) (sym behind) ∙ by.from))
    ]

-- what is held stays where the others don't come from the process and the fan that is held, if one is, stays
holds_stay : (lens : List ℕ) (ps qs : List Pull) (fans : List FanView) (stay process values : ℕ) (held : AskRows) → All (IsFromOther process) qs → StaysWith stay held → stay ≤ length fans → HoldsAsks record { lens = lens; pulls = ps ++ qs } fans process values held
    → HoldsAsks record { lens = lens; pulls = ps } (take stay fans) process values held
holds_stay lens ps qs fans stay process values (Own rows) others stays few is = asks_stay lens ps qs process values rows others is
holds_stay lens ps qs fans stay process values (OfFan number) others stays few is =
    let below : number < stay = stays number refl in
    let P : FanView → Type 0 = λ fan. HasProcessRows fan (length lens) values in
    let Q : FanView → Type 0 = λ fan. (rows : List ℕ) → AreFanRows fan (length lens) values rows → AreAskRows record { lens = lens; pulls = ps } process values rows in
    let same : fan_at fans number ≡ fan_at (take stay fans) number = sym (get_or-take stay fans number no_fan below) in
    record {
      there = omega (arith, below, few, length-take stay fans);
      has = subst P same is.has;
      rows = subst Q same (λ rows are. asks_stay lens ps qs process values rows others (is.rows rows are));
    }

-- the processes before this one have what the first fans say, the others what all say
pub record AreForgotten (lens : List ℕ) (fans : List FanView) (stay process : ℕ) (by_source : List (List ℕ)) (asks : List AskRows) : Type 0 where
  pub numbers : length by_source ≡ length lens
  pub count : length asks ≡ length lens
  pub sources : (p : ℕ) → p < process → get_or by_source p [] ≡ numbers_from (pulls_of_fans (take stay fans)) p (length (pulls_of_fans (take stay fans)))
  pub rows : (p : ℕ) → p < process → HoldsAsks (first_system lens fans stay) (take stay fans) p (get_or lens p 0 + 2) (get_or asks p no_rows)
  pub sources_left : (p : ℕ) → process ≤ p → p < length lens → get_or by_source p [] ≡ numbers_from (pulls_of_fans fans) p (length (pulls_of_fans fans))
  pub rows_left : (p : ℕ) → process ≤ p → p < length lens → HoldsAsks record { lens = lens; pulls = pulls_of_fans fans } fans p (get_or lens p 0 + 2) (get_or asks p no_rows)

pub none_forgotten : (lens : List ℕ) (fans : List FanView) (stay : ℕ) (by_source : List (List ℕ)) (asks : List AskRows) → AreBySource record { lens = lens; pulls = pulls_of_fans fans } by_source → AreAllAsks record { lens = lens; pulls = pulls_of_fans fans } fans asks
    → AreForgotten lens fans stay 0 by_source asks
none_forgotten lens fans stay by_source asks by all = record {
  numbers = by.count;
  count = all.count;
  sources = λ p below. absurd (omega arith);
  rows = λ p below. absurd (omega arith);
  sources_left = λ p from there. by.each p there;
  rows_left = λ p from there. all.each p there;
}

-- a process that no other fan comes from, and whose rows are not those of another, keeps what it has
pub forgets_nothing : (lens : List ℕ) (fans : List FanView) (stay process : ℕ) (by_source : List (List ℕ)) (asks : List AskRows) → AreForgotten lens fans stay process by_source asks → process < length lens → stay ≤ length fans
    → All (IsFromOther process) (pulls_of_fans (drop stay fans)) → StaysWith stay (get_or asks process no_rows) → AreForgotten lens fans stay (process + 1) by_source asks
forgets_nothing lens fans stay process by_source asks so_far there few none stays = record {
  numbers = so_far.numbers;
  count = so_far.count;
  sources = λ p below. elim (within_one p process below) [
    | inl less ↦ so_far.sources p less
    | inr same ↦
        let P : ℕ → Type 0 = λ q. get_or by_source q [] ≡ numbers_from ps q (length ps) in
        subst P (sym same) (so_far.sources_left process (omega arith) there ∙ ap (λ (list : List Pull). numbers_from list process (length list)) split ∙ ap (numbers_from (ps ++ qs) process) (length-append ps qs) ∙ numbers_none ps qs process (length qs) (λ j inside. All-get_or (IsFromOther process) qs j no_pull inside none) (omega arith))
  ];
  rows = λ p below. elim (within_one p process below) [
    | inl less ↦ so_far.rows p less
    | inr same ↦
        let P : ℕ → Type 0 = λ q. HoldsAsks (first_system lens fans stay) (take stay fans) q (get_or lens q 0 + 2) (get_or asks q no_rows) in
        let Q : List Pull → Type 0 = λ list. HoldsAsks record { lens = lens; pulls = list } fans process (get_or lens process 0 + 2) (get_or asks process no_rows) in
        subst P (sym same) (holds_stay lens ps qs fans stay process (get_or lens process 0 + 2) (get_or asks process no_rows) none stays few (subst Q split (so_far.rows_left process (omega arith) there)))
  ];
  sources_left = λ p from inside. so_far.sources_left p (omega arith) inside;
  rows_left = λ p from inside. so_far.rows_left p (omega arith) inside;
}
  where
    ps : List Pull
    ps = pulls_of_fans (take stay fans)

    qs : List Pull
    qs = pulls_of_fans (drop stay fans)

    split : pulls_of_fans fans ≡ pulls_of_fans (take stay fans) ++ pulls_of_fans (drop stay fans)
    split = split_pulls fans stay

-- of another both are made anew
pub forgets : (lens : List ℕ) (fans : List FanView) (stay process : ℕ) (by_source by_new : List (List ℕ)) (asks asks_new : List AskRows) (numbers : List ℕ) (held : AskRows) → AreForgotten lens fans stay process by_source asks
    → IsPutAt [] by_source by_new process numbers → IsPutAt no_rows asks asks_new process held → numbers ≡ numbers_from (pulls_of_fans (take stay fans)) process (length (pulls_of_fans (take stay fans)))
    → HoldsAsks (first_system lens fans stay) (take stay fans) process (get_or lens process 0 + 2) held → AreForgotten lens fans stay (process + 1) by_new asks_new
forgets lens fans stay process by_source by_new asks asks_new numbers held so_far by put made holds = record {
  numbers = by.size ∙ so_far.numbers;
  count = put.size ∙ so_far.count;
  sources = λ p below. elim (within_one p process below) [
    | inl less ↦ by.others p (λ e. absurd (omega (arith, e, less))) ∙ so_far.sources p less
    | inr same ↦
        let P : ℕ → Type 0 = λ q. get_or by_new q [] ≡ numbers_from (pulls_of_fans (take stay fans)) q (length (pulls_of_fans (take stay fans))) in
        subst P (sym same) (by.here ∙ made)
  ];
  rows = λ p below. elim (within_one p process below) [
    | inl less ↦ let Q : AskRows → Type 0 = λ h. HoldsAsks (first_system lens fans stay) (take stay fans) p (get_or lens p 0 + 2) h in subst Q (sym (put.others p (λ e. absurd (omega (arith, e, less))))) (so_far.rows p less)
    | inr same ↦
        let P : ℕ → Type 0 = λ q. HoldsAsks (first_system lens fans stay) (take stay fans) q (get_or lens q 0 + 2) (get_or asks_new q no_rows) in
        let Q : AskRows → Type 0 = λ h. HoldsAsks (first_system lens fans stay) (take stay fans) process (get_or lens process 0 + 2) h in
        subst P (sym same) (subst Q (sym put.here) holds)
  ];
  sources_left = λ p from inside. by.others p (λ e. absurd (omega (arith, e, from))) ∙ so_far.sources_left p (omega arith) inside;
  rows_left = λ p from inside.
      let Q : AskRows → Type 0 = λ h. HoldsAsks record { lens = lens; pulls = pulls_of_fans fans } fans p (get_or lens p 0 + 2) h in
      subst Q (sym (put.others p (λ e. absurd (omega (arith, e, from))))) (so_far.rows_left p (omega arith) inside);
}

-- the first fans are a system
pub first_is : (lens : List ℕ) (fans : List FanView) (stay : ℕ) → IsSystem record { lens = lens; pulls = pulls_of_fans fans } → IsSystem (first_system lens fans stay)
first_is lens fans stay is = record {
  shape = is.shape;
  pulls = subst (All (IsPull lens)) first (All-take (IsPull lens) (length ps) (pulls_of_fans fans) is.pulls);
  count = omega (arith, is.count, ap length (split_pulls fans stay), length-append ps (pulls_of_fans (drop stay fans)));
}
  where
    ps : List Pull
    ps = pulls_of_fans (take stay fans)

    first : take (length ps) (pulls_of_fans fans) ≡ ps
    first = ap (take (length ps)) (split_pulls fans stay) ∙ take-append_seam ps (pulls_of_fans (drop stay fans))

-- so many first pulls are those of the first fans
pub first_pulls_are : (fans : List FanView) (stay count : ℕ) → HavePulls fans stay count → take count (pulls_of_fans fans) ≡ pulls_of_fans (take stay fans)
first_pulls_are fans stay count have =
    ap (λ (n : ℕ). take n (pulls_of_fans fans)) (sym have.are) ∙ ap (take (length (pulls_of_fans (take stay fans)))) (split_pulls fans stay) ∙ take-append_seam (pulls_of_fans (take stay fans)) (pulls_of_fans (drop stay fans))

-- one fan more from another process
pub others_more : (fans : List FanView) (number process : ℕ) (fan : FanView) → number < length fans → fan ≡ get_or fans number fan → (fan.src ≡ process → ⊥) → All (IsFromOther process) (pulls_of_fans (take number fans))
    → All (IsFromOther process) (pulls_of_fans (take (number + 1) fans))
others_more fans number process fan there found other before =
    subst (All (IsFromOther process)) (sym (pulls_more fans number fan there (item_is fans fans number fan refl there found)))
    (All-append (IsFromOther process) (pulls_of_fans (take number fans)) (pulls_of_fan fan) before own)
  where
    own : All (IsFromOther process) (pulls_of_fan fan)
    own = λ k d inside. λ from.
        other (sym (ap (λ (p : Pull). p.src) (get_or-map-range_with_len (pull_of_fan fan) 0 (length fan.targets) k k d (omega (arith, inside, length-pulls_of_fan fan)) (omega arith))) ∙ from)

pub others_all : (fans : List FanView) (number process : ℕ) → length fans ≤ number → All (IsFromOther process) (pulls_of_fans (take number fans)) → All (IsFromOther process) (pulls_of_fans fans)
others_all fans number process past all = subst (λ (fs : List FanView). All (IsFromOther process) (pulls_of_fans fs)) (take_all number fans past) all

-- the numbers of one fan's pulls are below those of all
pub few_numbers : (fans : List FanView) (number : ℕ) (fan : FanView) → number < length fans → fan ≡ get_or fans number fan → length (pulls_of_fans (take number fans)) + length fan.targets ≤ length (pulls_of_fans fans)
few_numbers fans number fan there found =
    let is = item_is fans fans number fan refl there found in
    omega (arith, length-flat_map-take pulls_of_fan fans number no_fan there, length-pulls_of_fan (fan_at fans number), ap (λ (f : FanView). length f.targets) is)

-- places stand where fans are put behind the others
pub places_wider : (fans others : List FanView) (places : List Place) (pulls : List Pull) → ArePlaces fans places pulls → ArePlaces (fans ++ others) places pulls
places_wider fans others places pulls are = record {
  count = are.count;
  each = λ k there.
      let is = are.each k there in
      let at : fan_at (fans ++ others) (get_or places k no_place).fan ≡ fan_at fans (get_or places k no_place).fan = get_or-append fans others no_fan (get_or places k no_place).fan is.fan in
      record {
        fan = omega (arith, is.fan, length-append fans others);
        index = omega (arith, is.index, ap (λ (f : FanView). length f.targets) at);
        is = ap (λ (f : FanView). pull_of_fan f (get_or places k no_place).index) at ∙ is.is;
      };
}

-- what is held stays as it is where fans are put behind the others
holds_wider : (system : SystemView) (fans others : List FanView) (process values : ℕ) (held : AskRows) → HoldsAsks system fans process values held → HoldsAsks system (fans ++ others) process values held
holds_wider system fans others process values (Own rows) is = is
holds_wider system fans others process values (OfFan number) is =
    let P : FanView → Type 0 = λ fan. HasProcessRows fan (length system.lens) values in
    let Q : FanView → Type 0 = λ fan. (rows : List ℕ) → AreFanRows fan (length system.lens) values rows → AreAskRows system process values rows in
    let same : fan_at fans number ≡ fan_at (fans ++ others) number = sym (get_or-append fans others no_fan number is.there) in
    record { there = omega (arith, is.there, length-append fans others); has = subst P same is.has; rows = subst Q same is.rows }

all_wider : (system : SystemView) (fans others : List FanView) (asks : List AskRows) → AreAllAsks system fans asks → AreAllAsks system (fans ++ others) asks
all_wider system fans others asks all = record {
  count = all.count;
  each = λ process there. holds_wider system fans others process (get_or system.lens process 0 + 2) (get_or asks process no_rows) (all.each process there);
}

-- what was known of fans is known of them where others stand behind
pub known_before : (lens : List ℕ) (own others fans : List FanView) (places : List Place) (by_source : List (List ℕ)) (asks : List AskRows) → fans ≡ own ++ others → ArePlaces own places (pulls_of_fans own) → AreBySource record { lens = lens; pulls = pulls_of_fans own } by_source
    → AreAllAsks record { lens = lens; pulls = pulls_of_fans own } own asks → IsKnown lens fans (length own) places by_source asks
known_before lens own others fans places by_source asks is places_are numbers rows =
    subst (λ (fs : List FanView). IsKnown lens fs (length own) places by_source asks) (sym is) record {
      there = omega (arith, length-append own others);
      places_are = subst (ArePlaces (own ++ others) places) (ap pulls_of_fans own_is) (places_wider own others places (pulls_of_fans own) places_are);
      numbers = subst (λ (fs : List FanView). AreBySource record { lens = lens; pulls = pulls_of_fans fs } by_source) own_is numbers;
      rows = subst (λ (fs : List FanView). AreAllAsks record { lens = lens; pulls = pulls_of_fans fs } (own ++ others) asks) own_is (all_wider record { lens = lens; pulls = pulls_of_fans own } own others asks rows);
    }
  where
    own_is : own ≡ take (length own) (own ++ others)
    own_is = sym (take-append_seam own others)

-- the fans that stay and those put behind them are a system
pub joined_is : (lens : List ℕ) (own others fans : List FanView) → fans ≡ own ++ others → IsSystem record { lens = lens; pulls = pulls_of_fans own } → All (IsPull lens) (pulls_of_fans others) → length (pulls_of_fans own) + length (pulls_of_fans others) < 2 ^ 32
    → IsSystem record { lens = lens; pulls = pulls_of_fans fans }
joined_is lens own others fans is system fit count =
    let all : pulls_of_fans fans ≡ pulls_of_fans own ++ pulls_of_fans others = ap pulls_of_fans is ∙ flat_map-append pulls_of_fan own others in
    record {
      shape = system.shape;
      pulls = subst (All (IsPull lens)) (sym all) (All-append (IsPull lens) (pulls_of_fans own) (pulls_of_fans others) system.pulls fit);
      count = omega (arith, count, ap length all, length-append (pulls_of_fans own) (pulls_of_fans others));
    }

-- what is known of all fans
pub record AllKnown (lens : List ℕ) (fans : List FanView) (places : List Place) (by_source : List (List ℕ)) (asks : List AskRows) : Type 0 where
  pub places_are : ArePlaces fans places (pulls_of_fans fans)
  pub numbers : AreBySource record { lens = lens; pulls = pulls_of_fans fans } by_source
  pub rows : AreAllAsks record { lens = lens; pulls = pulls_of_fans fans } fans asks

pub known_all : (lens : List ℕ) (fans : List FanView) (places : List Place) (by_source : List (List ℕ)) (asks : List AskRows) → IsKnown lens fans (length fans) places by_source asks → AllKnown lens fans places by_source asks
known_all lens fans places by_source asks known = record {
  places_are = subst (λ (fs : List FanView). ArePlaces fans places (pulls_of_fans fs)) whole known.places_are;
  numbers = subst (λ (fs : List FanView). AreBySource record { lens = lens; pulls = pulls_of_fans fs } by_source) whole known.numbers;
  rows = subst (λ (fs : List FanView). AreAllAsks record { lens = lens; pulls = pulls_of_fans fs } fans asks) whole known.rows;
}
  where
    whole : take (length fans) fans ≡ fans
    whole = take_all (length fans) fans (omega arith)
