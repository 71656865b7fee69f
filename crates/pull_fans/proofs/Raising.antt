-- Rows that are raised to what one value after another, one run of targets after another and one fan after another asks.
use Rattle.std.proofs.Common.{◌≡◌, ℕ, zero, suc, ◌+◌, ◌-◌, ◌*◌, ◌<◌, ◌≤◌, ◌⊎◌, inl, inr, List, [], ◌++◌, length, get_or, max, take, drop, replicate, refl, arith, sym, ap, ◌∙◌, subst, length-append}
use Rattle.std.specs.Prelude.{slice_index}
use Rattle.std.proofs.lemmas.List.{length-take, length-drop, get_or-append-add, get_or-append_right, get_or-take, get_or-drop}
use Rattle.std.proofs.lemmas.List.FromFn.{get_or-map-range_with_len, length-map-range_with_len}
use Rattle.std.proofs.lemmas.Nat.{mul-add-lt, same_from_place}
use borrow.Rule.Slice.PartMut.{put_mid, same_len_mid}
use Rattle.std.proofs.Math.ListN.{get_or-append}
use Rattle.std.proofs.Math.Seq.{take-append_seam}
use Rattle.pull_system.specs.declared.pull.Pull.{Pull}
use Rattle.pull_system.specs.System.{no_pull}
use Rattle.pull_fans.specs.Fans.{FanView, pull_of_fan, pulls_of_fan}
use Rattle.pull_fans.specs.inside.Fans.{entry_of}
use Rattle.pull_fans.specs.Asks.{IsAskedBy}
use Rattle.pull_fans.specs.inside.Asks.{AreAskRows, AreInTurn, IsAskedIn, AreRaisedIn, AreRaised, stretch_of}
use Rattle.pull_system.specs.Vector.{IsMaximum}

within_one : (i n : ℕ) → i < n + 1 → (i < n) ⊎ (i ≡ n)
within_one i n h = grind arith

lt_or_le : (i n : ℕ) → (i < n) ⊎ (n ≤ i)
lt_or_le i n = grind arith

max_case : (a b : ℕ) → (max a b ≡ a) ⊎ (max a b ≡ b)
max_case a b = grind arith

-- ---- a run at one value

-- the targets of a run are below the number of processes, so its piece stays within its row
pub run_fits : (targets : List ℕ) (first end procs x values room : ℕ) → AreInTurn targets first end → ((i : ℕ) → i < length targets → get_or targets i 0 < procs) → x < values → values * procs ≤ room
    → x * procs + get_or targets first 0 + (end - first) ≤ room
run_fits targets first end procs x values room run few below fits =
    let last : first + (end - 1 - first) < end = omega (arith, run.some) in
    let there : get_or targets (first + (end - 1 - first)) 0 < procs = few (first + (end - 1 - first)) (omega (arith, last, run.within)) in
    omega (arith, run.some, run.each (end - 1 - first) last, mul-add-lt x procs (get_or targets (first + (end - 1 - first)) 0) values below there, fits)

-- a piece of the row that begins there is raised to what is asked of it
pub record PieceRaised (begin : ℕ) (asked now new : List ℕ) : Type 0 where
  pub size : length new ≡ length now
  pub inside : (i : ℕ) → i < length asked → get_or new (begin + i) 0 ≡ max (get_or now (begin + i) 0) (get_or asked i 0)
  pub outside : (place : ℕ) → (place < begin) ⊎ (begin + length asked ≤ place) → get_or new place 0 ≡ get_or now place 0

-- the piece was lent, raised and put back
pub piece_raised : (begin count : ℕ) (asked now raised : List ℕ) → count ≡ length asked → begin + length asked ≤ length now → IsMaximum (take count (drop begin now)) asked raised → PieceRaised begin asked now (put_mid begin count now raised)
piece_raised begin count asked now raised same room is = record { size = same_len_mid begin count now raised is.size; inside = inside; outside = outside }
  where
    front : length (take begin now) ≡ begin
    front = omega (arith, length-take begin now)

    whole : length raised ≡ count
    whole = omega (arith, is.size, length-take count (drop begin now), length-drop begin now)

    inside : (i : ℕ) → i < length asked → get_or (take begin now ++ (raised ++ drop count (drop begin now))) (begin + i) 0 ≡ max (get_or now (begin + i) 0) (get_or asked i 0)
    inside i there =
        get_or-append_right (take begin now) (raised ++ drop count (drop begin now)) begin (begin + i) 0 front (omega arith)
        ∙ ap (λ (j : ℕ). get_or (raised ++ drop count (drop begin now)) j 0) (let back : begin + i - begin ≡ i = omega arith in back)
        ∙ get_or-append raised (drop count (drop begin now)) 0 i (omega (arith, there, whole, same))
        ∙ is.each i
        ∙ ap (λ (n : ℕ). max n (get_or asked i 0)) (get_or-take count (drop begin now) i 0 (omega (arith, there, same)) ∙ get_or-drop begin now i 0)

    outside : (place : ℕ) → (place < begin) ⊎ (begin + length asked ≤ place) → get_or (take begin now ++ (raised ++ drop count (drop begin now))) place 0 ≡ get_or now place 0
    outside place (inl less) = get_or-append (take begin now) (raised ++ drop count (drop begin now)) 0 place (omega (arith, less, front)) ∙ get_or-take begin now place 0 less
    outside place (inr past) =
        get_or-append_right (take begin now) (raised ++ drop count (drop begin now)) begin place 0 front (omega (arith, past))
        ∙ get_or-append_right raised (drop count (drop begin now)) count (place - begin) 0 whole (omega (arith, past, same))
        ∙ get_or-drop count (drop begin now) (place - begin - count) 0
        ∙ get_or-drop begin now (count + (place - begin - count)) 0
        ∙ ap (λ (p : ℕ). get_or now p 0) (let back : begin + (count + (place - begin - count)) ≡ place = omega (arith, past, same) in back)

in_or_out : (begin n place : ℕ) → ((place < begin) ⊎ (begin + n ≤ place)) ⊎ ((place - begin < n) × (begin + (place - begin) ≡ place))
in_or_out begin n place = grind arith

piece_grows : (begin : ℕ) (asked now new : List ℕ) → PieceRaised begin asked now new → (place : ℕ) → get_or now place 0 ≤ get_or new place 0
piece_grows begin asked now new piece place = elim (in_or_out begin (length asked) place) [
  | inl out ↦ omega (arith, piece.outside place out)
  | inr at ↦ let P : ℕ → Type 0 = λ p. get_or now p 0 ≤ get_or new p 0 in subst P at.1 (omega (arith, piece.inside (place - begin) at.0))
]

asked_later : (fan : FanView) (procs first end x place m n : ℕ) → n ≡ m → IsAskedIn fan procs (stretch_of first end) x place m → IsAskedIn fan procs (stretch_of first end) (x + 1) place n
asked_later fan procs first end x place m n same by = record { x = by.x; index = by.index; value = omega (arith, by.value); from = by.from; below = by.below; at = by.at; asks = by.asks ∙ sym same }

pub raised_in_next : (fan : FanView) (procs first end x begin : ℕ) (asked before now new : List ℕ) → AreInTurn fan.targets first end → AreRaisedIn fan procs (stretch_of first end) x before now → PieceRaised begin asked now new
    → begin ≡ x * procs + get_or fan.targets first 0 → first + length asked ≡ end → ((i : ℕ) → i < length asked → get_or asked i 0 ≡ entry_of fan (first + i) x) → AreRaisedIn fan procs (stretch_of first end) (x + 1) before new
raised_in_next fan procs first end x begin asked before now new run so_far piece starts size is = record {
  size = piece.size ∙ so_far.size;
  keeps = λ place. omega (arith, so_far.keeps place, grows place);
  covers = λ y index below from until. elim (within_one y x below) [
    | inl less ↦ omega (arith, so_far.covers y index less from until, grows (y * procs + get_or fan.targets index 0))
    | inr last ↦
        let P : ℕ → Type 0 = λ z. entry_of fan index z ≤ get_or new (z * procs + get_or fan.targets index 0) 0 in
        let Q : ℕ → Type 0 = λ j. entry_of fan j x ≤ get_or new (x * procs + get_or fan.targets j 0) 0 in
        subst P (sym last) (let same : first + (index - first) ≡ index = omega arith in subst Q same (covered (index - first) (omega (arith, size, from, until))))
  ];
  asked = λ place. elim (in_or_out begin (length asked) place) [
    | inl out ↦ along place (piece.outside place out)
    | inr at ↦
        let P : ℕ → Type 0 = λ p. (get_or new p 0 ≡ get_or before p 0) ⊎ IsAskedIn fan procs (stretch_of first end) (x + 1) p (get_or new p 0) in
        subst P at.1 (raised_at (place - begin) at.0 (max_case (get_or now (begin + (place - begin)) 0) (get_or asked (place - begin) 0)))
  ];
}
  where
    grows : (place : ℕ) → get_or now place 0 ≤ get_or new place 0
    grows place = piece_grows begin asked now new piece place

    -- where the run asks at this value
    there : (i : ℕ) → i < length asked → x * procs + get_or fan.targets (first + i) 0 ≡ begin + i
    there i inside = omega (arith, starts, run.each i (omega (arith, size, inside)))

    covered : (i : ℕ) → i < length asked → entry_of fan (first + i) x ≤ get_or new (x * procs + get_or fan.targets (first + i) 0) 0
    covered i inside =
        let P : ℕ → Type 0 = λ p. entry_of fan (first + i) x ≤ get_or new p 0 in
        subst P (sym (there i inside)) (omega (arith, is i inside, piece.inside i inside))

    along : (place : ℕ) → get_or new place 0 ≡ get_or now place 0 → (get_or new place 0 ≡ get_or before place 0) ⊎ IsAskedIn fan procs (stretch_of first end) (x + 1) place (get_or new place 0)
    along place same = elim (so_far.asked place) [ inl was ↦ inl (same ∙ was) | inr by ↦ inr (asked_later fan procs first end x place _ _ same by) ]

    raised_at : (i : ℕ) → i < length asked → (max (get_or now (begin + i) 0) (get_or asked i 0) ≡ get_or now (begin + i) 0) ⊎ (max (get_or now (begin + i) 0) (get_or asked i 0) ≡ get_or asked i 0)
        → (get_or new (begin + i) 0 ≡ get_or before (begin + i) 0) ⊎ IsAskedIn fan procs (stretch_of first end) (x + 1) (begin + i) (get_or new (begin + i) 0)
    raised_at i inside (inl as_before) = along (begin + i) (piece.inside i inside ∙ as_before)
    raised_at i inside (inr by_this) = inr record {
      x = x;
      index = first + i;
      value = omega arith;
      from = omega arith;
      below = omega (arith, size, inside);
      at = there i inside;
      asks = sym (is i inside) ∙ sym (piece.inside i inside ∙ by_this);
    }

-- ---- one fan after another

pub zeros : (n i : ℕ) → slice_index (replicate n 0) i ≡ 0
zeros zero i = refl
zeros (suc n) zero = refl
zeros (suc n) (suc i) = zeros n i

-- a number of the joined pulls is one of the first or one of the fan's
pub data JoinedAt (pulls : List Pull) (fan : FanView) (k : ℕ) : Type 0 where
  Before : k < length pulls → get_or (pulls ++ pulls_of_fan fan) k no_pull ≡ get_or pulls k no_pull → JoinedAt pulls fan k
  Of : (i : ℕ) → i < length fan.targets → get_or (pulls ++ pulls_of_fan fan) k no_pull ≡ pull_of_fan fan i → JoinedAt pulls fan k

pub length-pulls_of_fan : (fan : FanView) → length (pulls_of_fan fan) ≡ length fan.targets
length-pulls_of_fan fan = length-map-range_with_len (pull_of_fan fan) 0 (length fan.targets)

pub pulls_of_fan-at : (fan : FanView) (i : ℕ) → i < length fan.targets → get_or (pulls_of_fan fan) i no_pull ≡ pull_of_fan fan i
pulls_of_fan-at fan i there = get_or-map-range_with_len (pull_of_fan fan) 0 (length fan.targets) i i no_pull there (omega arith)

pub fan_pull_at : (pulls : List Pull) (fan : FanView) (i : ℕ) → i < length fan.targets → get_or (pulls ++ pulls_of_fan fan) (length pulls + i) no_pull ≡ pull_of_fan fan i
fan_pull_at pulls fan i there = get_or-append-add pulls (pulls_of_fan fan) i no_pull ∙ pulls_of_fan-at fan i there

joined : (pulls : List Pull) (fan : FanView) (k : ℕ) → k < length (pulls ++ pulls_of_fan fan) → JoinedAt pulls fan k
joined pulls fan k there = elim (lt_or_le k (length pulls)) [
  | inl less ↦ Before less (get_or-append pulls (pulls_of_fan fan) no_pull k less)
  | inr past ↦
      let i : ℕ = k - length pulls in
      let inside : i < length fan.targets = omega (arith, there, past, length-append pulls (pulls_of_fan fan), length-pulls_of_fan fan) in
      let place : k ≡ length pulls + i = omega (arith, past) in
      Of i inside (ap (λ (n : ℕ). get_or (pulls ++ pulls_of_fan fan) n no_pull) place ∙ fan_pull_at pulls fan i inside)
]

asked_before : (lens : List ℕ) (pulls : List Pull) (fan : FanView) (process x target m n : ℕ) → n ≡ m → IsAskedBy record { lens = lens; pulls = pulls } process x target m
    → IsAskedBy record { lens = lens; pulls = pulls ++ pulls_of_fan fan } process x target n
asked_before lens pulls fan process x target m n same by =
    let at = get_or-append pulls (pulls_of_fan fan) no_pull by.k by.there in
    record {
      k = by.k;
      there = omega (arith, by.there, length-append pulls (pulls_of_fan fan));
      from = ap (λ (p : Pull). p.src) at ∙ by.from;
      to = ap (λ (p : Pull). p.dst) at ∙ by.to;
      asks = ap (λ (p : Pull). get_or p.table x 0) at ∙ by.asks ∙ sym same;
    }

-- the rows are raised to what a fan from the process asks
pub ask_rows_more : (lens : List ℕ) (pulls : List Pull) (fan : FanView) (process values : ℕ) (rows now : List ℕ) → AreAskRows record { lens = lens; pulls = pulls } process values rows → AreRaised fan (length lens) values rows now
    → fan.src ≡ process → ((i : ℕ) → i < length fan.targets → get_or fan.targets i 0 < length lens) → AreAskRows record { lens = lens; pulls = pulls ++ pulls_of_fan fan } process values now
ask_rows_more lens pulls fan process values rows now before raised from few = record {
  size = raised.size ∙ before.size;
  covers = λ x k inside there source.
      let P : Pull → Type 0 = λ p. get_or p.table x 0 ≤ get_or now (x * length lens + p.dst) 0 in
      elim (joined pulls fan k there) [
        | Before less at ↦ subst P (sym at) (omega (arith, before.covers x k inside less (ap (λ (p : Pull). p.src) (sym at) ∙ source), raised.keeps (x * length lens + (get_or pulls k no_pull).dst)))
        | Of i target at ↦ subst P (sym at) (raised.covers x i inside target)
      ];
  asked = λ x target inside there. elim (raised.asked (x * length lens + target)) [
    | inl same ↦ elim (before.asked x target inside there) [ inl none ↦ inl (same ∙ none) | inr by ↦ inr (asked_before lens pulls fan process x target _ _ same by) ]
    | inr by ↦
        let at = same_from_place by.x (get_or fan.targets by.index 0) x target (length lens) (few by.index by.target) there by.at in
        let is = fan_pull_at pulls fan by.index by.target in
        inr record {
          k = length pulls + by.index;
          there = omega (arith, length-append pulls (pulls_of_fan fan), length-pulls_of_fan fan, by.target);
          from = ap (λ (p : Pull). p.src) is ∙ from;
          to = ap (λ (p : Pull). p.dst) is ∙ at.1;
          asks = ap (λ (p : Pull). get_or p.table x 0) is ∙ ap (λ (y : ℕ). entry_of fan by.index y) (sym at.0) ∙ by.asks;
        }
  ];
}

-- a fan from another process asks for nothing in these rows
pub ask_rows_other : (lens : List ℕ) (pulls : List Pull) (fan : FanView) (process values : ℕ) (rows : List ℕ) → AreAskRows record { lens = lens; pulls = pulls } process values rows → (fan.src ≡ process → ⊥)
    → AreAskRows record { lens = lens; pulls = pulls ++ pulls_of_fan fan } process values rows
ask_rows_other lens pulls fan process values rows before other = record {
  size = before.size;
  covers = λ x k inside there source.
      let P : Pull → Type 0 = λ p. get_or p.table x 0 ≤ get_or rows (x * length lens + p.dst) 0 in
      elim (joined pulls fan k there) [
        | Before less at ↦ subst P (sym at) (before.covers x k inside less (ap (λ (p : Pull). p.src) (sym at) ∙ source))
        | Of i target at ↦ absurd (other (ap (λ (p : Pull). p.src) (sym at) ∙ source))
      ];
  asked = λ x target inside there. elim (before.asked x target inside there) [ inl none ↦ inl none | inr by ↦ inr (asked_before lens pulls fan process x target _ _ refl by) ];
}

-- the rows as they stand once they were written in place
pub written_back : (len : ℕ) (now before : List ℕ) → len ≡ length before → length now ≡ length before → take len (now ++ drop (length now) before) ≡ now
written_back len now before whole same =
    ap (λ (n : ℕ). take n (now ++ drop (length now) before)) (whole ∙ sym same) ∙ take-append_seam now (drop (length now) before)
