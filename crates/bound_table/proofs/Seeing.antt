-- Which pulls hold by the values at which they were looked up last, while a row rises.
use Rattle.std.proofs.Common.{◌≡◌, ℕ, zero, suc, ◌+◌, ◌*◌, ◌/◌, ◌%◌, ◌^◌, ◌<◌, ◌≤◌, ◌⊎◌, inl, inr, List, [], ◌∷◌, length, get_or, set, sum, refl, arith, sym, ap, ◌∙◌, subst, get_or-set_same}
use Rattle.std.proofs.lemmas.List.{length-set, get_or_past, ext_get_or}
use Rattle.std.proofs.Math.Nat.{mul-le-mul_left, mod-lt}
use Rattle.std.proofs.lemmas.Nat.{div-add-mod'}
use Rattle.pull_system.specs.Vector.{IsAtMost, IsVector}
use Rattle.pull_system.specs.declared.pull.Pull.{Pull}
use Rattle.pull_system.specs.System.{SystemView, IsSystem, IsPull, IsClosed, HoldsPull, source_of, target_of, ask, pull_at}
use Rattle.pull_fans.specs.Sources.{numbers_from}
use Rattle.pull_fans.proofs.Asking.{pulls_from_first}
use Rattle.pull_system.specs.Rows.{place_of, start_of, IsLeast}
use Rattle.pull_fans.specs.Asks.{IsAskedBy, AreAsks}
use Rattle.pull_system.proofs.Climbing.{set_case, lt_or_le, settled_least}
use Rattle.pull_system.proofs.Pulls.{pull-of}
use Rattle.pull_system.proofs.Sums.{component_le, sum-within, sum-set, sum-is_vector}
use Rattle.raise_machine.specs.Bounds.{AreBounds, word_at}
use Rattle.raise_machine.proofs.Raising.{word_in_range}
use Rattle.bound_table.specs.Kept.{Follows}
use Rattle.bound_table.specs.Views.{TableView, SeatView, KeepsClaims}
use Rattle.bound_table.specs.inside.Asking.{IsSettling, HoldSeen, IsAsking, SeesMore, IsPullStep, cell_of}
use Rattle.bound_table.specs.inside.Asking.{IsRaised}
use Rattle.bound_table.specs.Lending.{AreLeast}
use Rattle.bound_table.proofs.Claiming.{keeps_trans}
use Rattle.bound_table.proofs.Settling.{settling_trans, settling_again, settling_rises, settling_below}
use Rattle.bound_table.proofs.Allowed.{pull_allowed}
use Rattle.bound_table.proofs.Lends.{set_within}
use Rattle.bound_table.proofs.Floors.{place_there, within_one, within_trans, follows_set}

-- a word is small enough for 16 bits
pub word_small : (system : SystemView) → IsSystem system → (floor : List ℕ) → AreBounds system floor → (row process : ℕ) → process < length system.lens → word_at system.lens floor row process < 2 ^ 16
word_small system is floor bounds row process there = omega (arith, word_in_range system is floor bounds row process there, component_le system.lens process, is.shape.events)

-- so is the word at each place
pub place_small : (system : SystemView) → IsSystem system → (floor : List ℕ) → AreBounds system floor → (place : ℕ) → get_or floor place 0 < 2 ^ 16
place_small system is floor bounds place =
    let n : ℕ = length system.lens in
    omega (arith, word_small system is floor bounds (place / n) (place % n) (mod-lt place (omega (arith, is.shape.some))), ap (λ k. get_or floor k 0) (div-add-mod' place n))

-- what was read at a place is small
pub read_small : (system : SystemView) → IsSystem system → (old new : List ℕ) (place x : ℕ) → AreBounds system new → new ≡ set old place x → place < length old → x < 2 ^ 16
read_small system is old new place x bounds same there =
    omega (arith, place_small system is new bounds place, ap (λ xs. get_or xs place 0) same, get_or-set_same old place x 0 there)

-- what a word became is the floor for it
pub raised_at : (system : SystemView) (old new : List ℕ) (row process number became : ℕ) → row ≤ sum system.lens → process < length system.lens → IsRaised system old new (cell_of row process) number became → word_at system.lens new row process ≡ became
raised_at system old new row process number became row_there there raised =
    let place : ℕ = place_of system.lens row process in
    ap (λ words. word_at system.lens words row process) raised.floor
    ∙ get_or-set_same old place became 0 (omega (arith, raised.bounds.size, ap length raised.floor, length-set old place became, place_there system.lens row process row_there there))

pub raised_small : (system : SystemView) → IsSystem system → (old new : List ℕ) (row process number became : ℕ) → row ≤ sum system.lens → process < length system.lens → IsRaised system old new (cell_of row process) number became → became < 2 ^ 16
raised_small system is old new row process number became row_there there raised =
    omega (arith, word_small system is new raised.bounds row process there, raised_at system old new row process number became row_there there raised)

-- a word that was read
pub read_raised : (system : SystemView) (old new : List ℕ) (row process word number became : ℕ) → word ≡ place_of system.lens row process → new ≡ set old word became → get_or old word 0 ≤ became → number ≤ became → AreBounds system new
    → IsRaised system old new (cell_of row process) number became
read_raised system old new row process word number became at same rises reaches bounds = record {
  floor = same ∙ ap (λ place. set old place became) at;
  rises = omega (arith, rises, ap (λ place. get_or old place 0) at);
  reaches = reaches;
  bounds = bounds;
}

set_twice : (xs : List ℕ) (i m n : ℕ) → set (set xs i m) i n ≡ set xs i n
set_twice [] i m n = refl
set_twice (x ∷ xs) zero m n = refl
set_twice (x ∷ xs) (suc i) m n = ap (λ ys. x ∷ ys) (set_twice xs i m n)

-- a word that was read, and then raised
pub raised_twice : (system : SystemView) (old mid new : List ℕ) (row process m a n b : ℕ) → row ≤ sum system.lens → process < length system.lens → IsRaised system old mid (cell_of row process) m a → IsRaised system mid new (cell_of row process) n b
    → IsRaised system old new (cell_of row process) n b
raised_twice system old mid new row process m a n b row_there there first second =
    let place : ℕ = place_of system.lens row process in record {
      floor = second.floor ∙ ap (λ words. set words place b) first.floor ∙ set_twice old place a b;
      rises = omega (arith, first.rises, second.rises, raised_at system old mid row process m a row_there there first);
      reaches = second.reaches;
      bounds = second.bounds;
    }

-- the word that rose, in the vector that follows the row
pub follows_raised : (system : SystemView) (row process number became : ℕ) (old floor floor_now v v_now : List ℕ) → row ≤ sum system.lens → Follows system row old floor v → process < length system.lens
    → IsRaised system floor floor_now (cell_of row process) number became → v_now ≡ set v process became → Follows system row old floor_now v_now
follows_raised system row process number became old floor floor_now v v_now row_there follows there raised same =
    follows_set system row (length system.lens) (length system.lens) process became old floor floor_now v v_now row_there follows there follows.bounds raised.floor same raised.rises raised.bounds (λ p below. inr below) (omega arith)

pub settling_raised : (table : TableView) (row process number became : ℕ) (a b c : SeatView) (v v_now : List ℕ) → IsSettling table row a b v → process < length table.system.lens
    → KeepsClaims b c → IsRaised table.system b.floor c.floor (cell_of row process) number became → v_now ≡ set v process became → IsSettling table row a c v_now
settling_raised table row process number became a b c v v_now settling there keeps raised same = record {
  system = settling.system;
  fits = settling.fits;
  there = settling.there;
  keeps = keeps_trans a b c settling.keeps keeps;
  follows = follows_raised table.system row process number became a.floor b.floor c.floor v v_now settling.there settling.follows there raised same;
}

pub raised_within_floor : (system : SystemView) (old new : List ℕ) (row process number became : ℕ) → IsRaised system old new (cell_of row process) number became → IsAtMost old new
raised_within_floor system old new row process number became raised = set_within old new (place_of system.lens row process) became raised.floor raised.rises

-- a pull that asks this of the row, where its source has reached the value, is a step of the machine
pub asked_step : (system : SystemView) → IsSystem system → (row process x target asked : ℕ) (floor : List ℕ) → row ≤ sum system.lens → x ≤ word_at system.lens floor row process → IsAskedBy system process x target asked
    → IsPullStep system floor row target asked
asked_step system is row process x target asked floor row_there less by = record {
  k = by.k;
  x = x;
  allowed = pull_allowed system floor row by.k x row_there by.there (omega (arith, less, ap (λ i. word_at system.lens floor row i) by.from));
  to = by.to;
  asks = by.asks;
}

-- the pulls from one process were looked up at x
pub hold_put : (system : SystemView) (count count_now process x : ℕ) (seen seen_now v w : List ℕ) → HoldSeen system count seen v → IsAtMost v w → process < length seen → seen_now ≡ set seen process x
    → ((k : ℕ) → k < length system.pulls → source_of system k ≡ process → ask system k x ≤ get_or w (target_of system k) 0) → ((p : ℕ) → p < count_now → (p ≡ process) ⊎ (p < count)) → HoldSeen system count_now seen_now w
hold_put system count count_now process x seen seen_now v w held within there same holds cover = record {
  each = λ k k_there from. elim (set_case seen process x (source_of system k) 0) [
    | inl kept ↦
        elim (cover (source_of system k) from) [
          | inl here ↦ at_process k k_there here
          | inr before ↦ omega (arith, held.each k k_there before, within.each (target_of system k), ap (λ n. ask system k n) (ap (λ s. get_or s (source_of system k) 0) same ∙ kept))
        ]
    | inr here ↦ at_process k k_there here.0
  ];
}
  where
    at_process : (k : ℕ) → k < length system.pulls → source_of system k ≡ process → ask system k (get_or seen_now (source_of system k) 0) ≤ get_or w (target_of system k) 0
    at_process k k_there here =
        let read : get_or seen_now (source_of system k) 0 ≡ x = ap (λ i. get_or seen_now i 0) here ∙ ap (λ s. get_or s process 0) same ∙ get_or-set_same seen process x 0 there in
        omega (arith, holds k k_there here, ap (λ n. ask system k n) read)

-- a closed vector within another: each pull holds at what the first has of its source
pub hold_lent : (system : SystemView) (count : ℕ) (seen v : List ℕ) → IsClosed system seen → IsAtMost seen v → HoldSeen system count seen v
hold_lent system count seen v closed within = record { each = λ k there from. omega (arith, closed.each k there, within.each (target_of system k)) }

-- where nothing has risen since, each pull holds
pub hold_all : (system : SystemView) → IsSystem system → (seen v : List ℕ) → HoldSeen system (length system.lens) seen v → IsAtMost seen v → IsAtMost v seen → (k : ℕ) → k < length system.pulls → HoldsPull system v k
hold_all system is seen v held within back k there =
    let p : IsPull system.lens (pull_at system k) = pull-of system is k there in
    let same : get_or seen (source_of system k) 0 ≡ get_or v (source_of system k) 0 = omega (arith, within.each (source_of system k), back.each (source_of system k)) in
    omega (arith, held.each k there p.source, ap (λ n. ask system k n) same)

-- what was seen equals the vector
pub asking_same : (table : TableView) (row : ℕ) (old new : SeatView) (v seen : List ℕ) → IsAsking table row old new v seen → IsAtMost v seen → seen ≡ v
asking_same table row old new v seen asking back =
    ext_get_or 0 seen v (omega (arith, asking.size, asking.settling.follows.size)) (λ i _. omega (arith, asking.within.each i, back.each i))

pub put_within : (seen v w : List ℕ) (process x : ℕ) → IsAtMost seen v → IsAtMost v w → x ≤ get_or v process 0 → IsAtMost (set seen process x) w
put_within seen v w process x within more less = record {
  each = λ i. elim (set_case seen process x i 0) [ inl e ↦ omega (arith, e, within.each i, more.each i) | inr e ↦ omega (arith, e.1, less, more.each i, ap (λ j. get_or v j 0) e.0) ];
}

pub within_put : (seen : List ℕ) (process x : ℕ) → get_or seen process 0 ≤ x → IsAtMost seen (set seen process x)
within_put seen process x less = record { each = λ i. elim (set_case seen process x i 0) [ inl e ↦ omega (arith, e) | inr e ↦ omega (arith, e.1, less, ap (λ j. get_or seen j 0) e.0) ] }

pub within_refl : (v : List ℕ) → IsAtMost v v
within_refl v = record { each = λ i. omega arith }

-- the pulls from one process were looked up at what the vector has of it
pub asking_put : (table : TableView) (row process x : ℕ) (a b c : SeatView) (v w seen seen_now : List ℕ) → IsAsking table row a b v seen → IsSettling table row b c w → process < length table.system.lens
    → x ≤ get_or v process 0 → seen_now ≡ set seen process x → ((k : ℕ) → k < length table.system.pulls → source_of table.system k ≡ process → ask table.system k x ≤ get_or w (target_of table.system k) 0) → IsAsking table row a c w seen_now
asking_put table row process x a b c v w seen seen_now asking settling there less same holds =
    let more : IsAtMost v w = settling_rises table row a b c v w asking.settling settling in
    let P : List ℕ → Type 0 = λ s. IsAtMost s w in record {
      settling = settling_trans table row a b c v w asking.settling settling;
      size = ap length same ∙ length-set seen process x ∙ asking.size;
      within = subst P (sym same) (put_within seen v w process x asking.within more less);
      held = hold_put table.system (length table.system.lens) (length table.system.lens) process x seen seen_now v w asking.held more (omega (arith, asking.size)) same holds (λ p below. inr below);
    }

pub asking_trans : (table : TableView) (row : ℕ) (a b c : SeatView) (v w seen seen_now : List ℕ) → IsAsking table row a b v seen → IsAsking table row b c w seen_now → IsAsking table row a c w seen_now
asking_trans table row a b c v w seen seen_now first second = record { settling = settling_trans table row a b c v w first.settling second.settling; size = second.size; within = second.within; held = second.held }

pub asking_again : (table : TableView) (row : ℕ) (a b : SeatView) (v seen : List ℕ) → IsAsking table row a b v seen → IsAsking table row b b v seen
asking_again table row a b v seen asking = record { settling = settling_again table row a b v asking.settling; size = asking.size; within = asking.within; held = asking.held }

-- the numbers are at most these, and the pulls hold there
pub asks_hold : (system : SystemView) (process x k : ℕ) (asks v : List ℕ) → AreAsks system process x asks → IsAtMost asks v → k < length system.pulls → source_of system k ≡ process → ask system k x ≤ get_or v (target_of system k) 0
asks_hold system process x k asks v are within there from = omega (arith, are.covers k there from, within.each (target_of system k))

pub list_same : (xs ys : List ℕ) (count : ℕ) → length xs ≡ length ys → length ys ≤ count → ((i : ℕ) → i < count → get_or xs i 0 ≡ get_or ys i 0) → xs ≡ ys
list_same xs ys count size all same = ext_get_or 0 xs ys size (λ i below. same i (omega arith))

-- a look that raised a number is paid for
pub look_pays : (pulls looks steps steps_now seen seen_now : ℕ) → looks ≤ pulls → steps_now ≡ steps + looks → seen + 1 ≤ seen_now → steps_now + pulls * seen ≤ steps + pulls * seen_now
look_pays pulls looks steps steps_now seen seen_now few took more = omega (arith, mul-le-mul_left pulls more)

-- a number more is put in a list, and each so far is as it is to be
pub put_next : (R : ℕ → ℕ → Type 0) (xs now : List ℕ) (p x : ℕ) → p < length xs → now ≡ set xs p x → ((i : ℕ) → i < p → R i (get_or xs i 0)) → R p x → (i : ℕ) → i < p + 1 → R i (get_or now i 0)
put_next R xs now p x there same before here i below =
    let At : List ℕ → Type 0 = λ ys. R i (get_or ys i 0) in
    subst At (sym same) (elim (within_one i p below) [
      | inl last ↦ let Q : ℕ → Type 0 = λ j. R j (get_or (set xs p x) j 0) in let P : ℕ → Type 0 = R p in subst Q (sym last) (subst P (sym (get_or-set_same xs p x 0 there)) here)
      | inr less ↦
          elim (set_case xs p x i 0) [
            | inl e ↦ let P : ℕ → Type 0 = R i in subst P (sym e) (before i less)
            | inr e ↦ absurd (omega (arith, e.0, less))
          ]
    ])

pub within_first : (xs ys : List ℕ) (count : ℕ) → length xs ≤ count → ((i : ℕ) → i < count → get_or xs i 0 ≤ get_or ys i 0) → IsAtMost xs ys
within_first xs ys count size all = record { each = λ i. elim (lt_or_le i count) [ inl below ↦ all i below | inr past ↦ omega (arith, get_or_past xs i 0 (omega arith)) ] }

pub follows_along : (system : SystemView) (row : ℕ) (old new v w : List ℕ) → v ≡ w → Follows system row old new v → Follows system row old new w
follows_along system row old new v w same follows = let P : List ℕ → Type 0 = Follows system row old new in subst P same follows

pub least_along : (system : SystemView) (row : ℕ) (v w : List ℕ) → v ≡ w → IsLeast system row v → IsLeast system row w
least_along system row v w same least = let P : List ℕ → Type 0 = IsLeast system row in subst P same least

pub within_sum : (xs ys : List ℕ) → length xs ≡ length ys → IsAtMost xs ys → sum xs ≤ sum ys
within_sum xs ys size within = sum-within xs ys size within.each

-- the first looks, and then what rises
pub settle_looks : (pulls steps first last before seen sum_now : ℕ) → first ≤ steps + pulls → last + pulls * seen ≤ first + pulls * sum_now → before ≤ seen → last + pulls * before ≤ steps + pulls * (1 + sum_now)
settle_looks pulls steps first last before seen sum_now took pays less = omega (arith, mul-le-mul_left pulls less)

pub fewer_looks : (pulls steps last before seen sum_now : ℕ) → last + pulls * seen ≤ steps + pulls * (1 + sum_now) → before ≤ seen → last + pulls * before ≤ steps + pulls * (1 + sum_now)
fewer_looks pulls steps last before seen sum_now looks less = omega (arith, mul-le-mul_left pulls less)

-- one pass more
pub pays_more : (pulls start steps steps_now seen seen_now first : ℕ) → steps_now + pulls * seen ≤ steps + pulls * seen_now → steps + pulls * first ≤ start + pulls * seen → steps_now + pulls * first ≤ start + pulls * seen_now
pays_more pulls start steps steps_now seen seen_now first pays before = omega arith

-- what is asked above a number is asked by a pull
pub asked_by : (system : SystemView) (process x target asked has : ℕ) → has < asked → (asked ≡ 0) ⊎ IsAskedBy system process x target asked → IsAskedBy system process x target asked
asked_by system process x target asked has more (inl none) = absurd (omega arith)
asked_by system process x target asked has more (inr by) = by

-- a row whose component has reached the value
pub reached_word : (table : TableView) (row process x : ℕ) (a b : SeatView) (v : List ℕ) → IsSettling table row a b v → process < length table.system.lens → x ≤ get_or v process 0 → x ≤ word_at table.system.lens b.floor row process
reached_word table row process x a b v settling there less = omega (arith, less, settling.follows.each process there)

-- the pulls from one process more
pub first_more : (pulls : List Pull) (count process : ℕ) → pulls_from_first pulls count (process + 1) ≡ pulls_from_first pulls count process + length (numbers_from pulls process count)
first_more pulls count process = ap (λ n. pulls_from_first pulls count n) (let e : process + 1 ≡ suc process = omega arith in e)

pub upto_next : (P : ℕ → Type 0) (n : ℕ) → ((i : ℕ) → i < n → P i) → P n → (i : ℕ) → i < n + 1 → P i
upto_next P n before here i below = elim (within_one i n below) [ inl last ↦ subst P (sym last) here | inr less ↦ before i less ]

pub hold_none : (system : SystemView) (seen v : List ℕ) → HoldSeen system 0 seen v
hold_none system seen v = record { each = λ k there from. absurd (omega arith) }

pub hold_upto : (system : SystemView) (count fewer : ℕ) (seen v : List ℕ) → fewer ≤ count → HoldSeen system count seen v → HoldSeen system fewer seen v
hold_upto system count fewer seen v less held = record { each = λ k there from. held.each k there (omega arith) }

-- what was seen is within the vector, which has a bound
pub asking_room : (table : TableView) (row : ℕ) (old new : SeatView) (v seen : List ℕ) → IsAsking table row old new v seen → sum seen ≤ sum table.system.lens + length table.system.lens
asking_room table row old new v seen asking =
    omega (arith, within_sum seen v (omega (arith, asking.size, asking.settling.follows.size)) asking.within, sum-is_vector table.system.lens v (settling_below table row old new v asking.settling).vector)

-- the first pass looks at each pull at most once
pub first_looks : (pulls steps steps_now before seen : ℕ) → steps_now ≤ steps + pulls → before ≤ seen → steps_now + pulls * before ≤ steps + pulls * (1 + seen)
first_looks pulls steps steps_now before seen took less = omega (arith, mul-le-mul_left pulls less)

pub looks_more : (pulls start steps steps_now seen seen_now first : ℕ) → steps_now + pulls * seen ≤ steps + pulls * seen_now → steps + pulls * first ≤ start + pulls * (1 + seen) → steps_now + pulls * first ≤ start + pulls * (1 + seen_now)
looks_more pulls start steps steps_now seen seen_now first pays before = omega arith

-- a closed vector was lent to the row
pub lent_asking : (table : TableView) (row : ℕ) (old new : SeatView) (lent v : List ℕ) → IsVector table.system.lens lent → IsClosed table.system lent → IsSettling table row old new v → IsAtMost lent v → IsAsking table row new new v lent
lent_asking table row old new lent v vector closed settling within = record {
  settling = settling_again table row old new v settling;
  size = vector.size;
  within = within;
  held = hold_lent table.system (length table.system.lens) lent v closed within;
}

-- nothing more was seen
pub sees_none : (pulls steps : ℕ) (seen : List ℕ) → SeesMore pulls 0 steps steps seen seen
sees_none pulls steps seen = record { kept = within_refl seen; rises = omega arith; pays = omega arith }

-- one number more was seen, and the pulls from it were looked up
pub sees_put : (pulls looks steps steps_now : ℕ) (seen : List ℕ) (process x : ℕ) → process < length seen → get_or seen process 0 < x → looks ≤ pulls → steps_now ≡ steps + looks → SeesMore pulls 1 steps steps_now seen (set seen process x)
sees_put pulls looks steps steps_now seen process x there less few took =
    let more : sum seen + 1 ≤ sum (set seen process x) = omega (arith, sum-set seen process x there) in
    record { kept = within_put seen process x (omega arith); rises = more; pays = look_pays pulls looks steps steps_now _ _ few took more }

pub sees_trans : (pulls m n a b c : ℕ) (seen mid now : List ℕ) → SeesMore pulls m a b seen mid → SeesMore pulls n b c mid now → SeesMore pulls (m + n) a c seen now
sees_trans pulls m n a b c seen mid now first second = record {
  kept = within_trans seen mid now first.kept second.kept;
  rises = omega (arith, first.rises, second.rises);
  pays = pays_more pulls a b c (sum mid) (sum now) (sum seen) second.pays first.pays;
}

-- the two vectors are the least of the row, in the other order
pub least_swap : (system : SystemView) (row : ℕ) (v w : List ℕ) → AreLeast system row v w → AreLeast system row w v
least_swap system row v w are = record { least = least_along system row v w (sym are.same) are.least; same = sym are.same }

-- where nothing has risen since, both vectors are the least of the row
pub asking_done : (table : TableView) (row : ℕ) (old new : SeatView) (v seen : List ℕ) → IsAsking table row old new v seen → IsAtMost v seen → AreLeast table.system row v seen
asking_done table row old new v seen asking back =
    let settling = asking.settling in record {
      least = settled_least table.system (start_of table.system.lens row) v (settling_below table row old new v settling) (hold_all table.system settling.system seen v asking.held asking.within back);
      same = asking_same table row old new v seen asking back;
    }
