-- The rows of a slice are its pulls' own, and a table of them has nothing left to settle.
use Rattle.std.proofs.Common.{◌≡◌, ℕ, zero, suc, ◌+◌, ◌*◌, ◌-◌, ◌<◌, ◌≤◌, Bool, true, false, List, [], ◌∷◌, All, length, get_or, sum, Option, refl, sym, ◌∙◌, ap, subst, arith}
use Rattle.std.proofs.lemmas.List.Elements.{All-nil, All-cons, All-get_or}
use Rattle.std.proofs.lemmas.List.Sums.{sum_by-cons}
use Rattle.run_model.specs.Cut.{count}
use Rattle.pull_system.specs.Vector.{IsAtMost}
use Rattle.pull_system.specs.declared.pull.Pull.{Pull}
use Rattle.pull_system.specs.System.{SystemView, IsSystem, no_pull}
use Rattle.pull_system.specs.Rows.{RowsView, AreLeastRows, row_at}
use Rattle.pull_system.proofs.Starts.{get_or-row_at}
use Rattle.raise_machine.specs.Bounds.{AreBounds, word_at}
use Rattle.bound_table.specs.Firm.{AreOwnRows, FirmView, row_before}
use Rattle.bound_table.specs.inside.Rule.{word_count}
use Rattle.bound_table.specs.Views.{SeatView, TableView}
use Rattle.bound_table.proofs.Own.{own_same, sum_old}
use Rattle.slice_graph.specs.Views.{SliceView, no_row}
use Rattle.slice_graph.specs.Words.{filled, row_words}
use Rattle.slice_graph.specs.PullLists.{slice_entry, slice_table, slice_pull, pulls_of_slice}
use Rattle.slice_graph.proofs.OrderPulls.{entry_at}
use Rattle.slice_graph.proofs.Pairs.{all_pairs}
use Rattle.slice_graph.proofs.SlicePulls.{entry_within}
use Rattle.slice_workers.specs.Spent.{spent_of}
use Rattle.slice_workers.specs.Reaching.{rows_left}
use Rattle.slice_workers.specs.Calls.{TakesBehind}
use Rattle.conjunctions.specs.inside.Beginning.{BeginsTable, own_rows}

-- what the pull asks, up to its source's length, is what the rows have
abbrev AsksRows : List ℕ → List ℕ → Pull → Type 0
AsksRows lens words pull = (x : ℕ) → x ≤ get_or lens pull.src 0 → get_or pull.table x 0 ≡ word_at lens words (row_before lens pull.src x) pull.dst

before_there : (lens : List ℕ) (i x : ℕ) → i < length lens → x ≤ get_or lens i 0 → row_before lens i x ≤ sum lens
before_there lens i zero there less = omega arith
before_there lens i (suc x) there less = sum_old lens i (suc x) less there

words_before : (v : SliceView) (i x : ℕ) → row_words v i x ≡ filled v.lens (get_or v.rows (row_before v.lens i x) no_row)
words_before v i zero = refl
words_before v i (suc x) = refl

all_ask : (v : SliceView) (words : List ℕ) → ((row : ℕ) → row ≤ sum v.lens → row_at v.lens words row ≡ filled v.lens (get_or v.rows row no_row)) → All (AsksRows v.lens words) (pulls_of_slice v)
all_ask v words rows = all_pairs (AsksRows v.lens words) (slice_pull v) (length v.lens) (λ i j there less.
    All-cons (AsksRows v.lens words) (record { src = i; dst = j; table = slice_table v i j }) [] (λ x within.
    entry_at (slice_entry v i j) (count v.lens i + 2) x (omega (arith, within))
    ∙ entry_within v i j x within
    ∙ ap (λ (r : List ℕ). get_or r j 0) (words_before v i x)
    ∙ ap (λ (r : List ℕ). get_or r j 0) (sym (rows (row_before v.lens i x) (before_there v.lens i x there within)))
    ∙ get_or-row_at v.lens words (row_before v.lens i x) j less) (All-nil (AsksRows v.lens words)))

-- the rows of a slice are its pulls' own
pub slice_own : (v : SliceView) (words : List ℕ) → AreLeastRows (record { lens = v.lens; pulls = pulls_of_slice v }) words
    → ((row : ℕ) → row ≤ sum v.lens → row_at v.lens words row ≡ filled v.lens (get_or v.rows row no_row)) → AreOwnRows (record { lens = v.lens; pulls = pulls_of_slice v }) words
slice_own v words least rows = record {
  least = least;
  own = λ k x there within. All-get_or (AsksRows v.lens words) (pulls_of_slice v) k no_pull there (all_ask v words rows) x within;
}

-- ---- a table of own rows

none_left : (lens : List ℕ) → sum (rows_left lens lens) ≤ 0
none_left [] = omega arith
none_left (len ∷ lens) = omega (arith, sum_by-cons (λ (n : ℕ). n) (len - len) (rows_left lens lens), none_left lens)

-- settling a table of own rows takes no look-up
pub own_looks : (system : SystemView) → IsSystem system → (words : List ℕ) → AreOwnRows system words → length words ≡ word_count system.lens → (seat new : SeatView) (s t : ℕ) → seat.floor ≡ words
    → AreBounds system new.floor → IsAtMost seat.floor new.floor → TakesBehind system (record { firsts = system.lens; bottom = true }) seat new s t → t ≤ s
own_looks system is words own size seat new s t floor_is bounds rises takes =
    let within : IsAtMost words new.floor = subst (λ (w : List ℕ). IsAtMost w new.floor) floor_is rises in
    let same : new.floor ≡ words = own_same system is.shape.some words new.floor own.least size bounds within in
    let sums : sum new.floor ≡ sum seat.floor = ap sum (same ∙ sym floor_is) in
    let pulls : ℕ = length system.pulls in
    let none : sum (rows_left system.lens system.lens) ≡ 0 = omega (arith, none_left system.lens) in
    omega (arith, (takes.others refl).rises_paid, ap (λ (n : ℕ). pulls * n) sums, ap (λ (n : ℕ). pulls * n) none)

-- and it is one from which a conjunction may begin
pub own_begins : (system : SystemView) → IsSystem system → (keeps : Bool) → keeps ≡ false → (before : Option RowsView) (table : TableView) (seat : SeatView) (words : List ℕ) (s : ℕ) → AreOwnRows system words → length words ≡ word_count system.lens
    → table.system ≡ system → table.firm ≡ record { firsts = system.lens; bottom = true } → seat.table ≡ table → seat.floor ≡ words → BeginsTable system keeps before table seat (spent_of s s)
own_begins system is keeps others before table seat words s own size system_is firm_is seat_is floor_is = record {
  is = is;
  system_is = system_is;
  seat_is = seat_is;
  firm = record { atoms = λ atoms. absurd (let e : false ≡ true = sym others ∙ atoms in cc); others = λ _. own_rows (subst (AreOwnRows system) (sym floor_is) own) };
  looks = λ rows new last new_is rises bounds takes.
      let took : last ≤ s = own_looks system is words own size seat new s last floor_is bounds rises (subst (λ (f : FirmView). TakesBehind system f seat new s last) firm_is takes) in
      omega (arith, took);
}
