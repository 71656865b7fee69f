-- Rows that are appended one after the other, each once it is settled.
use Rattle.std.proofs.Common.{◌≡◌, ℕ, zero, suc, Bool, true, false, refl, ◌+◌, ◌-◌, ◌*◌, ◌/◌, ◌%◌, ◌<◌, ◌≤◌, ◌⊎◌, inl, inr, List, [], ◌∷◌, ◌++◌, length, get_or, take, drop, sum, arith, sym, ap, ◌∙◌, subst, length-append}
use Rattle.std.proofs.lemmas.List.{ext_get_or, get_or-append-add, length-take, length-drop}
use Rattle.std.proofs.lemmas.List.Sums.{sum_by-cons}
use Rattle.std.proofs.lemmas.Nat.{div-add-mod'}
use Rattle.std.proofs.Math.ListN.{get_or-append}
use Rattle.std.proofs.Math.Nat.{mul-le-mul_left, mod-lt}
use Rattle.pull_system.specs.Vector.{IsAtMost, IsVector}
use Rattle.pull_system.specs.System.{SystemView}
use Rattle.pull_system.specs.Rows.{AreLeastRows, row_at, start_of, place_of}
use Rattle.pull_system.proofs.Existence.{least_unique}
use Rattle.pull_system.proofs.Climbing.{lt_or_le}
use Rattle.pull_system.proofs.Starts.{get_or-row_at}
use Rattle.pull_system.proofs.Sums.{sum-within, sum-is_vector}
use Rattle.raise_machine.specs.Bounds.{AreBounds}
use Rattle.raise_machine.proofs.Raising.{word_below}
use Rattle.bound_table.specs.Kept.{Follows, rows_from}
use Rattle.bound_table.specs.Views.{SeatView, KeepsClaims}
use Rattle.bound_table.proofs.Floors.{within_trans}
use Rattle.bound_table.proofs.Reading.{length-slice_range, get_or-slice_range}
use Rattle.slice_workers.specs.Spent.{spent_of}
use Rattle.slice_workers.specs.Calls.{IsPaid, HasRisen, TakesLooks, TakesOthers, TakesBehind, process_looks}
use Rattle.slice_workers.specs.Reaching.{rows_left}
use Rattle.bound_table.specs.Firm.{FirmView, Reaches, ReachesFirst}
use Rattle.slice_workers.specs.inside.Reaching.{IsReached}
use Rattle.slice_workers.specs.inside.Keeping.{AreKept, KeepsUpTo, TakesBottom, TakesRows, last_row_of}
use Rattle.slice_workers.specs.inside.Settling.{HasOnlyRisen}
use Rattle.slice_workers.proofs.Reached.{reached_more, floor_reached, before_is, within_refl, final_seen, reached_least}
use Rattle.bound_table.proofs.Own.{reaches_more}
use Rattle.slice_workers.proofs.Rises.{row_paid}
use Rattle.slice_workers.proofs.Passes.{length-left, get_or-left, total}

row_size : (lens words : List ℕ) (row count : ℕ) → row < count → count * length lens ≤ length words → length (row_at lens words row) ≡ length lens
row_size lens words row count below enough =
    omega (arith, length-take ((row + 1) * length lens + 0 - (row * length lens + 0)) (drop (row * length lens + 0) words), length-drop (row * length lens + 0) words, mul-le-mul_left (length lens) (let h : row + 1 ≤ count = omega arith in h))

place_less : (row count w i : ℕ) → row < count → i < w → row * w + i < count * w
place_less row count w i below there = omega (arith, mul-le-mul_left w (let h : row + 1 ≤ count = omega arith in h))

-- an earlier row stays, and the one that is appended is the next
row_front : (lens words v : List ℕ) (row count : ℕ) → row < count → length words ≡ count * length lens → row_at lens (words ++ v) row ≡ row_at lens words row
row_front lens words v row count below size =
    let front = row_size lens words row count below (omega arith) in
    let whole = row_size lens (words ++ v) row count below (omega (arith, length-append words v)) in
    ext_get_or 0 _ _ (whole ∙ sym front) (λ i less.
    let there : i < length lens = omega arith in
    let place = place_less row count (length lens) i below there in
    get_or-row_at lens (words ++ v) row i there ∙ get_or-append words v 0 (row * length lens + i) (omega arith) ∙ sym (get_or-row_at lens words row i there))

row_back : (lens words v : List ℕ) (count : ℕ) → length words ≡ count * length lens → length v ≡ length lens → row_at lens (words ++ v) count ≡ v
row_back lens words v count size width =
    let whole = row_size lens (words ++ v) count (count + 1) (omega arith) (omega (arith, length-append words v)) in
    ext_get_or 0 _ _ (whole ∙ sym width) (λ i less.
    let there : i < length lens = omega arith in
    get_or-row_at lens (words ++ v) count i there ∙ ap (λ k. get_or (words ++ v) k 0) (let e : count * length lens + i ≡ length words + i = omega arith in e) ∙ get_or-append-add words v i 0)

pub kept_none : (system : SystemView) (floor words : List ℕ) → words ≡ [] → AreKept system floor 0 words
kept_none system floor words none = record { size = omega (arith, ap length none); each = λ row below. absurd (omega arith) }

upto_last : (row count : ℕ) → row < count + 1 → (row < count) ⊎ (row ≡ count)
upto_last row count h = grind arith

pub kept_push : (system : SystemView) (floor : List ℕ) (count : ℕ) (words v now : List ℕ) → AreKept system floor count words → IsReached system count floor v → now ≡ words ++ v → AreKept system floor (count + 1) now
kept_push system floor count words v now kept reached same =
    let width : length v ≡ length system.lens = reached.least.closed.vector.size in
    let P : List ℕ → Type 0 = AreKept system floor (count + 1) in
    subst P (sym same) (record {
      size = omega (arith, length-append words v, kept.size, width);
      each = λ row below. elim (upto_last row count below) [
        | inl less ↦ let Q : List ℕ → Type 0 = IsReached system row floor in subst Q (sym (row_front system.lens words v row count less kept.size)) (kept.each row less)
        | inr last ↦
            let Q : List ℕ → Type 0 = IsReached system count floor in
            let R : ℕ → Type 0 = λ r. IsReached system r floor (row_at system.lens (words ++ v) r) in
            subst R (sym last) (subst Q (sym (row_back system.lens words v count kept.size width)) reached)
      ];
    })

pub kept_more : (system : SystemView) (floor now : List ℕ) (count : ℕ) (words : List ℕ) → IsAtMost floor now → AreKept system floor count words → AreKept system now count words
kept_more system floor now count words within kept = record { size = kept.size; each = λ row below. reached_more system row floor now _ within (kept.each row below) }

-- a row of a floor that is appended with others
row_within : (lens words floor : List ℕ) (first count row : ℕ) → length words ≡ first * length lens → length floor ≡ (sum lens + 1) * length lens → first + count ≤ sum lens + 1 → first ≤ row → row < first + count
    → row_at lens (words ++ rows_from lens floor first count) row ≡ row_at lens floor row
row_within lens words floor first count row size whole fits from below =
    let w : ℕ = length lens in
    let start : ℕ = place_of lens first 0 in
    let end : ℕ = place_of lens (first + count) 0 in
    let rows : List ℕ = rows_from lens floor first count in
    let there : end ≤ length floor = omega (arith, whole, mul-le-mul_left w fits) in
    let span : length rows ≡ end - start = length-slice_range floor start end there in
    let all : length (words ++ rows) ≡ (first + count) * w = omega (arith, length-append words rows, span, size) in
    let less : row < sum lens + 1 = omega arith in
    let one = row_size lens (words ++ rows) row (first + count) below (omega (arith, all)) in
    ext_get_or 0 _ _ (one ∙ sym (row_size lens floor row (sum lens + 1) less (omega (arith, whole)))) (λ i short.
    let i_there : i < w = omega arith in
    let k : ℕ = row * w + i - start in
    let before : start ≤ row * w + i = omega (arith, mul-le-mul_left w from) in
    let after : row * w + i < end = omega (arith, place_less row (first + count) w i below i_there) in
    get_or-row_at lens (words ++ rows) row i i_there
    ∙ ap (λ n. get_or (words ++ rows) n 0) (let e : row * w + i ≡ length words + k = omega (arith, before, size) in e)
    ∙ get_or-append-add words rows k 0
    ∙ get_or-slice_range floor start end k (omega (arith, before, after))
    ∙ ap (λ n. get_or floor n 0) (let e : start + k ≡ row * w + i = omega (arith, before) in e)
    ∙ sym (get_or-row_at lens floor row i i_there))

-- rows that the floor has reached, appended as the floor has them
pub kept_rows : (system : SystemView) (floor : List ℕ) (first count : ℕ) (words now : List ℕ) → AreBounds system floor → first + count ≤ sum system.lens + 1 → AreKept system floor first words → ((row : ℕ) → first ≤ row → row < first + count → Reaches system row floor)
    → now ≡ words ++ rows_from system.lens floor first count → AreKept system floor (first + count) now
kept_rows system floor first count words now bounds fits kept reaches same =
    let rows : List ℕ = rows_from system.lens floor first count in
    let start : ℕ = place_of system.lens first 0 in
    let end : ℕ = place_of system.lens (first + count) 0 in
    let there : end ≤ length floor = omega (arith, bounds.size, mul-le-mul_left (length system.lens) fits) in
    let P : List ℕ → Type 0 = AreKept system floor (first + count) in
    subst P (sym same) (record {
      size = omega (arith, length-append words rows, length-slice_range floor start end there, kept.size);
      each = λ row below. let Q : List ℕ → Type 0 = IsReached system row floor in elim (lt_or_le row first) [
        | inl less ↦ subst Q (sym (row_front system.lens words rows row first less kept.size)) (kept.each row less)
        | inr from ↦ subst Q (sym (row_within system.lens words floor first count row kept.size bounds.size fits from below)) (floor_reached system floor row bounds (omega arith) (reaches row from below))
      ];
    })

-- the first rows of a process are appended
pub kept_firsts : (system : SystemView) (process row count : ℕ) (floor now : List ℕ) (words words_now : List ℕ) → row ≡ sum (take process system.lens) + 1 → AreBounds system now → row + count ≤ sum system.lens + 1 → IsAtMost floor now
    → ReachesFirst system process count floor → AreKept system floor (sum (take process system.lens) + (0 + 1)) words → words_now ≡ words ++ rows_from system.lens now row count → AreKept system now (sum (take process system.lens) + (count + 1)) words_now
kept_firsts system process row count floor now words words_now is bounds fits within first kept same =
    let start : ℕ = sum (take process system.lens) in
    let Q : ℕ → Type 0 = λ n. AreKept system floor n words in
    let P : ℕ → Type 0 = λ n. AreKept system now n words_now in
    let before : AreKept system floor row words = subst Q (let e : start + (0 + 1) ≡ row = omega (arith, is) in e) kept in
    let reaches : (r : ℕ) → row ≤ r → r < row + count → Reaches system r now = λ r from below.
    let R : ℕ → Type 0 = λ n. Reaches system n now in
    subst R (let e : start + (r - start) ≡ r = omega (arith, is, from) in e) (reaches_more system _ floor now within (first.each (r - start) (omega (arith, is, from)) (omega (arith, is, below)))) in
    subst P (let e : row + count ≡ start + (count + 1) = omega (arith, is) in e) (kept_rows system now row count words words_now bounds fits (kept_more system floor now row words within before) reaches same)

pub kept_least : (system : SystemView) (floor words : List ℕ) → AreKept system floor (sum system.lens + 1) words → AreLeastRows system words
kept_least system floor words kept = record { each = λ row there. (kept.each row (omega arith)).least }

-- rows that a floor has reached, and that it is within, are the floor
pub kept_floor : (system : SystemView) (floor words : List ℕ) → 1 ≤ length system.lens → AreBounds system floor → AreKept system floor (sum system.lens + 1) words → words ≡ floor
kept_floor system floor words some bounds kept =
    ext_get_or 0 words floor (kept.size ∙ sym bounds.size) (λ i below.
    let w : ℕ = length system.lens in
    let row : ℕ = i / w in
    let process : ℕ = i % w in
    let there : process < w = mod-lt i (omega arith) in
    let back : row * w + process ≡ i = div-add-mod' i w in
    elim (lt_or_le row (sum system.lens + 1)) [
      | inl less ↦
          let is = kept.each row less in
          omega (
            arith,
            is.lent process there,
            word_below system floor bounds row process there (row_at system.lens words row) is.least.closed,
            get_or-row_at system.lens words row process there,
            ap (λ k. get_or words k 0) back,
            ap (λ k. get_or floor k 0) back,
          )
      | inr past ↦ absurd (omega (arith, mul-le-mul_left w past, back, below, kept.size))
    ])

-- one row more of a process
pub up_to_next : (system : SystemView) (process done row : ℕ) (floor v words now : List ℕ) → row ≡ sum (take process system.lens) + (done + 1) → row ≤ sum system.lens → AreKept system floor (sum (take process system.lens) + (done + 1)) words
    → IsReached system row floor v → now ≡ words ++ v → KeepsUpTo system process (done + 1) floor (last_row_of row v) now
up_to_next system process done row floor v words now is there kept reached same =
    let count : ℕ = sum (take process system.lens) + (done + 1) in
    let P : ℕ → Type 0 = λ r. IsReached system r floor v in
    let Q : ℕ → Type 0 = λ n. AreKept system floor n now in record {
      row = before_is system.lens process (done + 1) row (omega arith) is;
      there = there;
      reached = reached;
      kept = subst Q (let e : count + 1 ≡ sum (take process system.lens) + (done + 1 + 1) = omega arith in e) (kept_push system floor count words v now kept (subst P is reached) same);
    }

-- the first processes have so many events with one process more
pub sum_next : (lens : List ℕ) (process : ℕ) → process < length lens → sum (take (process + 1) lens) ≡ sum (take process lens) + get_or lens process 0
sum_next lens process there = ap (λ n. sum (take n lens)) (let e : process + 1 ≡ suc process = omega arith in e) ∙ one_more lens process there
  where
    one_more : (xs : List ℕ) (p : ℕ) → p < length xs → sum (take (suc p) xs) ≡ sum (take p xs) + get_or xs p 0
    one_more [] p less = absurd (omega arith)
    one_more (x ∷ xs) zero less = omega (arith, sum_by-cons (λ (n : ℕ). n) x [])
    one_more (x ∷ xs) (suc p) less = omega (arith, one_more xs p (omega arith), sum_by-cons (λ (n : ℕ). n) x (take (suc p) xs), sum_by-cons (λ (n : ℕ). n) x (take p xs))

pub sum_first : (xs : List ℕ) (n : ℕ) → sum (take n xs) ≤ sum xs
sum_first xs zero = omega arith
sum_first [] (suc n) = omega arith
sum_first (x ∷ xs) (suc n) = omega (arith, sum_first xs n, sum_by-cons (λ (n : ℕ). n) x xs, sum_by-cons (λ (n : ℕ). n) x (take n xs))

-- a floor that rose before pays as well
pub paid_before : (system : SystemView) (rows : ℕ) (a b c : SeatView) (steps steps_now : ℕ) → AreBounds system a.floor → AreBounds system b.floor → IsAtMost a.floor b.floor → IsPaid system rows b c steps steps_now → IsPaid system rows a c steps steps_now
paid_before system rows a b c steps steps_now old mid rises paid = omega (arith, paid, mul-le-mul_left (length system.pulls) (sum-within _ _ (old.size ∙ sym mid.size) rises.each))

pub paid_none : (system : SystemView) (rows : ℕ) (a b : SeatView) (steps : ℕ) → AreBounds system a.floor → AreBounds system b.floor → IsAtMost a.floor b.floor → IsPaid system rows a b steps steps
paid_none system rows a b steps old now rises =
    let more : sum a.floor ≤ rows + sum b.floor = omega (arith, sum-within _ _ (old.size ∙ sym now.size) rises.each) in omega (arith, mul-le-mul_left (length system.pulls) more)

pub paid_more : (system : SystemView) (rows more : ℕ) (a b : SeatView) (steps steps_now : ℕ) → rows ≤ more → IsPaid system rows a b steps steps_now → IsPaid system more a b steps steps_now
paid_more system rows more a b steps steps_now less paid = omega (arith, paid, mul-le-mul_left (length system.pulls) (let h : rows + sum b.floor ≤ more + sum b.floor = omega arith in h))

-- fewer look-ups are left behind a vector that is above the bottom's
pub fewer_left : (system : SystemView) (bottom v : List ℕ) (steps steps_now : ℕ) → sum bottom ≤ sum v → steps_now ≤ steps + process_looks system v → steps_now ≤ steps + process_looks system bottom
fewer_left system bottom v steps steps_now above looks =
    let top : ℕ = sum system.lens + length system.lens in
    omega (arith, looks, mul-le-mul_left (length system.pulls) (let h : top - sum v ≤ top - sum bottom = omega arith in h))

-- one process more
pub looks_next : (looks : ℕ) (start steps steps_now first process : ℕ) → steps_now ≤ steps + looks → steps ≤ start + first + looks * process → steps_now ≤ start + first + looks * (process + 1)
looks_next looks start steps steps_now first process more before = omega arith

pub paid_next : (pulls start steps steps_now old mid new done rows : ℕ) → steps_now + pulls * mid ≤ steps + pulls * (rows + new) → steps + pulls * old ≤ start + pulls * (done + mid) → steps_now + pulls * old ≤ start + pulls * (done + rows + new)
paid_next pulls start steps steps_now old mid new done rows more before = omega arith

-- how many look-ups the bottom's row takes beyond its rise, and how many rows it counts as
abbrev pub bottom_looks : SystemView → Bool → List ℕ → ℕ
bottom_looks system true bottom = 0
bottom_looks system false bottom = length system.pulls * (1 + sum bottom)

abbrev pub bottom_rows : Bool → ℕ
bottom_rows true = 0
bottom_rows false = 1

-- the rows of the first processes are settled: what became of the seat, and the look-ups so far
pub record CountsUpTo (system : SystemView) (is_final : Bool) (finals bottom : List ℕ) (old seat : SeatView) (process steps steps_now : ℕ) : Type 0 where
  pub table : seat.table ≡ old.table
  pub rises : IsAtMost old.floor seat.floor
  pub bounds : AreBounds system seat.floor
  pub same : is_final ≡ true → bottom ≡ row_at system.lens old.floor 0
  pub looks : steps_now ≤ steps + bottom_looks system is_final bottom + process_looks system bottom * process
  pub paid : IsPaid system (bottom_rows is_final + sum (take process (rows_left system.lens finals))) old seat steps steps_now

pub counts_next : (system : SystemView) (is_final : Bool) (finals bottom : List ℕ) (old a b c : SeatView) (process steps mid steps_now : ℕ) → process < length system.lens → CountsUpTo system is_final finals bottom old a process steps mid → b.table ≡ a.table → b.floor ≡ a.floor
    → HasOnlyRisen system b c → TakesRows system bottom (get_or system.lens process 0 - get_or finals process 0) b c (spent_of mid steps_now) → CountsUpTo system is_final finals bottom old c (process + 1) steps steps_now
counts_next system is_final finals bottom old a b c process steps mid steps_now there up table floor risen takes =
    let left : List ℕ = rows_left system.lens finals in
    let pulls : ℕ = length system.pulls in
    let P : List ℕ → Type 0 = λ f. IsAtMost f c.floor in
    let more = subst P floor risen.rises in
    let same : sum b.floor ≡ sum a.floor = ap (λ (f : List ℕ). sum f) floor in
    let times : pulls * sum b.floor ≡ pulls * sum a.floor = ap (λ (n : ℕ). pulls * n) same in
    let rows : bottom_rows is_final + sum (take process left) + (get_or system.lens process 0 - get_or finals process 0) ≡ bottom_rows is_final + sum (take (process + 1) left) =
    omega (arith, sum_next left process (omega (arith, length-left system.lens finals, there)), get_or-left system.lens finals process) in
    let Q : ℕ → Type 0 = λ n. IsPaid system n old c steps steps_now in record {
      table = risen.keeps.table ∙ table ∙ up.table;
      rises = within_trans _ _ _ up.rises more;
      bounds = risen.bounds;
      same = up.same;
      looks = looks_next (process_looks system bottom) steps mid steps_now (bottom_looks system is_final bottom) process takes.looks up.looks;
      paid = subst Q rows (paid_next pulls steps mid steps_now (sum old.floor) (sum a.floor) (sum c.floor) (bottom_rows is_final + sum (take process left)) _ (omega (arith, takes.rises_paid, times)) up.paid);
    }

pub counts_risen : (system : SystemView) (is_final : Bool) (finals bottom : List ℕ) (old seat : SeatView) (process steps steps_now : ℕ) → CountsUpTo system is_final finals bottom old seat process steps steps_now → HasRisen old seat
counts_risen system is_final finals bottom old seat process steps steps_now up = record { table = up.table; rises = up.rises }

takes_all : (system : SystemView) (finals bottom : List ℕ) (old seat : SeatView) (process steps steps_now : ℕ) → 1 ≤ length system.lens → process ≤ length system.lens → IsVector system.lens bottom
    → CountsUpTo system false finals bottom old seat process steps steps_now → TakesLooks system (rows_left system.lens finals) old seat steps steps_now
takes_all system finals bottom old seat process steps steps_now some few vector up =
    let left : List ℕ = rows_left system.lens finals in record {
      looks = total (length system.pulls) (length system.lens) (sum system.lens + length system.lens) (sum bottom) process steps steps_now some (omega arith) (sum-is_vector system.lens bottom vector) few up.looks;
      rises_paid = paid_more system (1 + sum (take process left)) (sum left + 1) old seat steps steps_now (omega (arith, sum_first left process)) up.paid;
    }

-- and where the bottom's row is final
takes_others : (system : SystemView) (finals bottom : List ℕ) (old seat : SeatView) (process steps steps_now : ℕ) → process ≤ length system.lens
    → CountsUpTo system true finals bottom old seat process steps steps_now → TakesOthers system (rows_left system.lens finals) old seat steps steps_now
takes_others system finals bottom old seat process steps steps_now few up =
    let left : List ℕ = rows_left system.lens finals in
    let P : List ℕ → Type 0 = λ v. steps_now ≤ steps + length system.lens * process_looks system v in record {
      looks = subst P (up.same refl) (looks_whole (process_looks system bottom) steps steps_now process (length system.lens) few up.looks);
      rises_paid = paid_more system (0 + sum (take process left)) (sum left) old seat steps steps_now (omega (arith, sum_first left process)) up.paid;
    }
  where
    looks_whole : (looks steps steps_now process procs : ℕ) → process ≤ procs → steps_now ≤ steps + 0 + looks * process → steps_now ≤ steps + procs * looks
    looks_whole looks steps steps_now process procs few took = omega (arith, took, mul-le-mul_left looks few)

pub counts_takes : (system : SystemView) (finals : FirmView) (firsts bottom : List ℕ) (old seat : SeatView) (process steps steps_now : ℕ) → firsts ≡ finals.firsts → 1 ≤ length system.lens → process ≤ length system.lens → IsVector system.lens bottom
    → CountsUpTo system finals.bottom firsts bottom old seat process steps steps_now → TakesBehind system finals old seat steps steps_now
counts_takes system finals firsts bottom old seat process steps steps_now same some few vector up =
    let P : Bool → Type 0 = λ b. CountsUpTo system b firsts bottom old seat process steps steps_now in
    let Q : List ℕ → Type 0 = λ f. TakesLooks system (rows_left system.lens f) old seat steps steps_now in
    let R : List ℕ → Type 0 = λ f. TakesOthers system (rows_left system.lens f) old seat steps steps_now in record {
      all = λ none. subst Q same (takes_all system firsts bottom old seat process steps steps_now some few vector (subst P none up));
      others = λ final. subst R same (takes_others system firsts bottom old seat process steps steps_now few (subst P final up));
    }

-- the bottom's row
pub counts_none : (system : SystemView) (is_final : Bool) (finals bottom : List ℕ) (old seat : SeatView) (steps steps_now : ℕ) → AreBounds system old.floor → KeepsClaims old seat → Follows system 0 old.floor seat.floor bottom
    → TakesBottom system is_final old.floor bottom steps steps_now → CountsUpTo system is_final finals bottom old seat 0 steps steps_now
counts_none system true finals bottom old seat steps steps_now bounds keeps follows takes = record {
  table = keeps.table;
  rises = follows.rises;
  bounds = follows.bounds;
  same = takes.same;
  looks = omega (arith, takes.none refl);
  paid =
      let P : ℕ → Type 0 = λ n. IsPaid system (0 + sum (take 0 (rows_left system.lens finals))) old seat steps n in
      subst P (sym (takes.none refl)) (paid_none system (0 + sum (take 0 (rows_left system.lens finals))) old seat steps bounds follows.bounds follows.rises);
}
counts_none system false finals bottom old seat steps steps_now bounds keeps follows takes = record {
  table = keeps.table;
  rises = follows.rises;
  bounds = follows.bounds;
  same = λ is. absurd (cc);
  looks = omega (arith, takes.settled refl);
  paid = row_paid system 0 old.floor old.floor seat.floor bottom steps steps_now (omega arith) bounds.size follows (within_refl _) bounds (takes.settled refl) refl;
}

-- a final row of the bottom, looked at, is as it was
pub bottom_same : (system : SystemView) (old new v : List ℕ) → AreBounds system old → Reaches system 0 old → Follows system 0 old new v → v ≡ row_at system.lens old 0
bottom_same system old new v bounds reaches follows =
    least_unique system (start_of system.lens 0) v (row_at system.lens old 0) (final_seen system 0 old new v (omega arith) follows reaches) (reached_least system old 0 bounds (omega arith) reaches)
