-- One conjunction is settled.
use Rattle.std.proofs.Common.{◌≡◌, ℕ, ◌+◌, ◌-◌, ◌*◌, ◌<◌, ◌≤◌, inl, inr, Bool, true, false, List, [], ◌∷◌, length, sum, take, drop, Option, Some, None, get_or, suc, refl, sym, ◌∙◌, ap, subst, arith}
use Rattle.std.specs.Prelude.{IfSome}
use Rattle.std.proofs.Math.Nat.{mul-le-mul_left}
use Rattle.std.proofs.lemmas.Bool.{cases_lt}
use Rattle.std.proofs.lemmas.List.{get_or-take, get_or-drop, get_or_past, length-take}
use Rattle.std.proofs.lemmas.List.Sums.{sum_by-cons, sum_by-take-drop}
use Rattle.pull_system.specs.declared.pull.Pull.{Pull}
use Rattle.pull_system.specs.System.{SystemView}
use Rattle.pull_system.specs.Rows.{RowsView, start_of, starts, row_at}
use Rattle.pull_system.proofs.Starts.{starts-place, start_of-bottom}
use Rattle.raise_machine.specs.Bounds.{AreBounds}
use Rattle.raise_machine.proofs.Raising.{starts_bounds}
use Rattle.conjunctions.specs.Counting.{floor_words, steps_for}
use Rattle.bound_table.specs.Views.{SeatView}
use Rattle.slice_workers.specs.Spent.{spent_of}
use Rattle.slice_workers.specs.Reaching.{rows_left}
use Rattle.slice_workers.specs.Calls.{TakesBehind}
use Rattle.slice_workers.proofs.Passes.{sum-left}
use Rattle.conjunctions.specs.inside.Beginning.{GatheredView, MayBeginFrom, FloorFits, FindsBottom}
use Rattle.conjunctions.specs.inside.Beginning.{BeginsAtoms, BeginsOthers, AtomsBegin, OthersBegin}
use Rattle.conjunctions.specs.inside.Settling.{CanBegin}
use Rattle.conjunctions.proofs.Beginning.{within_bounds}

-- the rows of before, and those that may begin under the pulls, lie within the bounds
atoms_bounds : (lens : List ℕ) (pulls : List Pull) (before : Option RowsView) (words : List ℕ) → CanBegin (record { lens = lens; pulls = pulls }) true before
    → BeginsAtoms lens pulls before words → AreBounds (record { lens = lens; pulls = pulls }) words
atoms_bounds lens pulls None words can begins = within_bounds (record { lens = lens; pulls = pulls }) words begins
atoms_bounds lens pulls (Some rows) words can begins = subst (AreBounds (record { lens = lens; pulls = pulls })) (sym begins) (can.floor rows refl refl)

-- and those that were gathered
others_bounds : (lens : List ℕ) (pulls : List Pull) (floor : Option RowsView) (words : List ℕ) → IfSome floor (MayBeginFrom lens pulls) → BeginsOthers lens floor words
    → AreBounds (record { lens = lens; pulls = pulls }) words
others_bounds lens pulls None words fits begins = subst (AreBounds (record { lens = lens; pulls = pulls })) (sym begins) (starts_bounds (record { lens = lens; pulls = pulls }))
others_bounds lens pulls (Some rows) words fits begins =
    subst (AreBounds (record { lens = lens; pulls = pulls })) (sym begins) (within_bounds (record { lens = lens; pulls = pulls }) rows.words fits.within)

-- the rows from which a conjunction begins lie within the bounds
pub floor_bounds : (lens : List ℕ) (gathered : GatheredView) (keeps : Bool) (before : Option RowsView) (words finals : List ℕ) → CanBegin (record { lens = lens; pulls = gathered.pulls }) keeps before
    → FloorFits lens gathered → (keeps ≡ true → AtomsBegin lens gathered.pulls before words finals)
    → (keeps ≡ false → OthersBegin lens gathered.floor words finals) → AreBounds (record { lens = lens; pulls = gathered.pulls }) words
floor_bounds lens gathered true before words finals can fits atoms others = atoms_bounds lens gathered.pulls before words can (atoms refl).rows
floor_bounds lens gathered false before words finals can fits atoms others = others_bounds lens gathered.pulls gathered.floor words fits.begins (others refl).rows

-- the two bounds of one worker are the steps that a conjunction may take
pub steps_within : (pulls s t : ℕ) (keeps : Bool) (lens floor : List ℕ) (before : Option RowsView) (rows : RowsView)
    → (keeps ≡ true → sum (floor_words lens before) ≤ sum floor) → sum floor ≤ sum rows.words
    → t + pulls * sum floor ≤ s + pulls * ((sum lens + 1) + sum rows.words)
    → (keeps ≡ false → t ≤ s + pulls * ((length lens + 1) * (sum lens + length lens))) → t ≤ s + steps_for pulls keeps lens before rows
steps_within pulls s t false lens floor before rows above rises rise lent = lent refl
steps_within pulls s t true lens floor before rows above rises rise lent =
    let least : ℕ = sum (floor_words lens before) in
    let more : least ≤ sum floor = above refl in
    let total : (sum lens + 1) + sum rows.words ≡ ((sum lens + 1) + (sum rows.words - least)) + least = omega arith in
    let product : pulls * ((sum lens + 1) + sum rows.words) ≡ pulls * ((sum lens + 1) + (sum rows.words - least)) + pulls * least =
    ap (λ n. pulls * n) total ∙ distributed pulls ((sum lens + 1) + (sum rows.words - least)) least in
    let less : pulls * least ≤ pulls * sum floor = mul-le-mul_left pulls more in
    omega (arith, product)
  where
    distributed : (a b c : ℕ) → a * (b + c) ≡ a * b + a * c
    distributed a b c = omega arith

-- numbers that did not fall do not sum to less
pub sum_rises : (v w : List ℕ) → ((i : ℕ) → get_or v i 0 ≤ get_or w i 0) → sum v ≤ sum w
sum_rises [] w h = omega arith
sum_rises (x ∷ v) [] h = omega (arith, sum_by-cons (λ (n : ℕ). n) x v, h 0, sum_rises v [] (λ i. h (suc i)))
sum_rises (x ∷ v) (y ∷ w) h =
    omega (arith, sum_by-cons (λ (n : ℕ). n) x v, sum_by-cons (λ (n : ℕ). n) y w, h 0, sum_rises v w (λ i. h (suc i)))

-- a conjunction of atoms begins no lower than at its rows of before, and where there are none than at the starts
pub floor_above : (lens : List ℕ) (pulls : List Pull) (keeps : Bool) (before : Option RowsView) (words finals : List ℕ) → AreBounds (record { lens = lens; pulls = pulls }) words
    → (keeps ≡ true → AtomsBegin lens pulls before words finals) → keeps ≡ true → sum (floor_words lens before) ≤ sum words
floor_above lens pulls keeps None words finals bounds begins is = sum_rises (starts lens) words bounds.above.each
floor_above lens pulls keeps (Some rows) words finals bounds begins is = omega (arith, ap sum (begins is).rows)

-- ---- the bottom's row

zero_start : (lens : List ℕ) (i : ℕ) → i < length lens → get_or (starts lens) i 0 ≡ 0
zero_start lens i there =
    let place : get_or (starts lens) (0 * length lens + i) 0 ≡ get_or (start_of lens 0) i 0 = starts-place lens 0 i (omega arith) there in
    ap (λ (k : ℕ). get_or (starts lens) k 0) (let e : i ≡ 0 * length lens + i = omega arith in e) ∙ place ∙ start_of-bottom lens i

first_zeros : (lens : List ℕ) → sum (take (length lens) (starts lens)) ≤ 0
first_zeros lens = sum_rises (take (length lens) (starts lens)) [] (λ i. elim (cases_lt i (length lens)) [
  | inl less ↦ omega (arith, get_or-take (length lens) (starts lens) i 0 less, zero_start lens i less)
  | inr past ↦ omega (arith, get_or_past (take (length lens) (starts lens)) i 0 (omega (arith, length-take (length lens) (starts lens))))
])

rest_rises : (n : ℕ) (v w : List ℕ) → ((i : ℕ) → get_or v i 0 ≤ get_or w i 0) → sum (drop n v) ≤ sum (drop n w)
rest_rises n v w h = sum_rises (drop n v) (drop n w) (λ i. omega (arith, get_or-drop n v i 0, get_or-drop n w i 0, h (n + i)))

-- the starts leave room for what the bottom's row has
pub starts_below : (lens words : List ℕ) → ((i : ℕ) → get_or (starts lens) i 0 ≤ get_or words i 0) → sum (starts lens) + sum (row_at lens words 0) ≤ sum words
starts_below lens words above =
    let n : ℕ = length lens in
    let row : row_at lens words 0 ≡ take n words =
    ap (λ (k : ℕ). take k (drop (0 * n + 0) words)) (let e : (0 + 1) * n + 0 - (0 * n + 0) ≡ n = omega arith in e) ∙ ap (λ (k : ℕ). take n (drop k words)) (let e : 0 * n + 0 ≡ 0 = omega arith in e) in
    omega (
      arith,
      ap sum row,
      sum_by-take-drop (λ (k : ℕ). k) words n,
      sum_by-take-drop (λ (k : ℕ). k) (starts lens) n,
      first_zeros lens,
      rest_rises n (starts lens) words above,
    )

-- what finding the bottom's row and settling the others took, as if each row had risen from its start
pub anew_steps : (pulls s mid t starts bottom floor left lens rows : ℕ) → mid ≤ s + pulls * (1 + bottom) → t + pulls * floor ≤ mid + pulls * (left + rows) → left ≤ lens → starts + bottom ≤ floor
    → t + pulls * starts ≤ s + pulls * ((lens + 1) + rows)
anew_steps pulls s mid t starts bottom floor left lens rows found took few below =
    let more : pulls * (starts + bottom) ≤ pulls * floor = mul-le-mul_left pulls below in
    let fewer : pulls * left ≤ pulls * lens = mul-le-mul_left pulls few in
    omega (arith, found, took, more, fewer)

-- the rows that are left are no more than there are events
pub all_steps : (pulls s mid t floor left lens rows : ℕ) → mid ≡ s → t + pulls * floor ≤ mid + pulls * ((left + 1) + rows) → left ≤ lens → t + pulls * floor ≤ s + pulls * ((lens + 1) + rows)
all_steps pulls s mid t floor left lens rows none took few = omega (arith, none, took, mul-le-mul_left pulls few)

-- the look-ups of one conjunction are within the steps that it may take
pub steps_of : (system : SystemView) (keeps : Bool) (before : Option RowsView) (words finals : List ℕ) (bottom : Bool) (seat new : SeatView) (rows : RowsView) (s mid t : ℕ) → AreBounds system words
    → (keeps ≡ true → sum (floor_words system.lens before) ≤ sum words) → sum words ≤ sum rows.words → seat.floor ≡ words → rows.words ≡ new.floor → FindsBottom system keeps before bottom words (spent_of s mid)
    → TakesBehind system (record { firsts = take (length system.lens) finals; bottom = bottom }) seat new mid t → t ≤ s + steps_for (length system.pulls) keeps system.lens before rows
steps_of system keeps before words finals true seat new rows s mid t bounds above rises floor_is new_is found takes =
    let pulls : ℕ = length system.pulls in
    let left : List ℕ = rows_left system.lens (take (length system.lens) finals) in
    let floor : ℕ = sum (starts system.lens) in
    let b : ℕ = sum (row_at system.lens words 0) in
    let old : sum seat.floor ≡ sum words = ap sum floor_is in
    let now : sum rows.words ≡ sum new.floor = ap sum new_is in
    let took : t + pulls * sum words ≤ mid + pulls * (sum left + sum rows.words) = same_sums pulls t mid (sum seat.floor) (sum words) (sum left) (sum new.floor) (sum rows.words) old now (takes.others refl).rises_paid in
    let less : sum (starts system.lens) + b ≤ sum words = starts_below system.lens words bounds.above.each in
    let paid : t + pulls * floor ≤ s + pulls * ((sum system.lens + 1) + sum rows.words) =
    anew_steps pulls s mid t floor b (sum words) (sum left) (sum system.lens) (sum rows.words) (found.looks refl) took (sum-left system.lens (take (length system.lens) finals)) less in
    subst (λ (k : Bool). t ≤ s + steps_for pulls k system.lens before rows) (sym (found.atoms refl))
    (subst (λ (found : Option RowsView). t ≤ s + steps_for pulls true system.lens found rows) (sym (found.anew refl))
    (steps_within pulls s t true system.lens (starts system.lens) None rows (λ _. omega arith) (omega (arith, less, rises)) paid (λ no. absurd (cc))))
  where
    same_sums : (pulls t mid old words left new rows : ℕ) → old ≡ words → rows ≡ new → t + pulls * old ≤ mid + pulls * (left + new) → t + pulls * words ≤ mid + pulls * (left + rows)
    same_sums pulls t mid old words left new rows old_is now_is took = omega (arith, took, ap (λ (n : ℕ). pulls * n) old_is, ap (λ (n : ℕ). pulls * n) now_is)
steps_of system keeps before words finals false seat new rows s mid t bounds above rises floor_is new_is found takes =
    let pulls : ℕ = length system.pulls in
    let left : List ℕ = rows_left system.lens (take (length system.lens) finals) in
    let all = takes.all refl in
    let old : sum seat.floor ≡ sum words = ap sum floor_is in
    let now : sum rows.words ≡ sum new.floor = ap sum new_is in
    let took : t + pulls * sum words ≤ mid + pulls * ((sum left + 1) + sum rows.words) = same_sums pulls t mid (sum seat.floor) (sum words) (sum left) (sum new.floor) (sum rows.words) old now all.rises_paid in
    steps_within pulls s t keeps system.lens words before rows above rises
    (all_steps pulls s mid t (sum words) (sum left) (sum system.lens) (sum rows.words) (found.none refl) took (sum-left system.lens (take (length system.lens) finals)))
    (λ _. omega (arith, all.looks, found.none refl))
  where
    same_sums : (pulls t mid old words left new rows : ℕ) → old ≡ words → rows ≡ new → t + pulls * old ≤ mid + pulls * ((left + 1) + new) → t + pulls * words ≤ mid + pulls * ((left + 1) + rows)
    same_sums pulls t mid old words left new rows old_is now_is took = omega (arith, took, ap (λ (n : ℕ). pulls * n) old_is, ap (λ (n : ℕ). pulls * n) now_is)
