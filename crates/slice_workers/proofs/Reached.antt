-- Rows that a floor has reached stay reached while it rises, and together they are all rows.
use Rattle.std.proofs.Common.{◌≡◌, ℕ, zero, suc, ◌+◌, ◌-◌, ◌<◌, ◌≤◌, ◌⊎◌, inl, inr, Bool, true, false, List, [], ◌∷◌, length, get_or, set, sum, take, arith, sym, ap, ◌∙◌, subst}
use Rattle.std.proofs.lemmas.List.{ext_get_or}
use Rattle.std.proofs.lemmas.List.Sums.{sum_by-cons}
use Rattle.pull_system.specs.Vector.{IsAtMost, IsMaximum}
use Rattle.pull_system.specs.System.{SystemView}
use Rattle.pull_system.specs.Rows.{IsLeast, AreLeastRows, row_at, place_of}
use Rattle.pull_system.proofs.Climbing.{set_case, lt_or_le}
use Rattle.pull_system.proofs.Starts.{get_or-row_at, length-row_at}
use Rattle.std.proofs.lemmas.Bool.{le-leb}
use Rattle.pota_base.specs.declared.shape.EventId.{EventId}
use Rattle.raise_machine.specs.Bounds.{AreBounds, word_at, has_start}
use Rattle.raise_machine.proofs.Raising.{word_below, has_start-bottom, has_start-event}
use Rattle.bound_table.proofs.Lends.{has_start_next}
use Rattle.bound_table.specs.Kept.{Follows}
use Rattle.bound_table.specs.Firm.{Reaches, ReachesFirst, AreFinal}
use Rattle.slice_workers.specs.inside.Reaching.{IsReached, ReachesAll, AreHanded, HasReachedRows}
use Rattle.bound_table.specs.Firm.{row_before}
use Rattle.bound_table.proofs.Own.{reaches_more, first_more, final_more}
use Rattle.pull_system.proofs.Sums.{sum-within}
use Rattle.pull_system.proofs.Starts.{start_of-bottom}

pub handed_more : (system : SystemView) (floor now : List ℕ) (handed : List Bool) → IsAtMost floor now → AreHanded system floor handed → AreHanded system now handed
handed_more system floor now handed within are = record { each = λ process is. first_more system process _ floor now within (are.each process is) }

within_one : (i n : ℕ) → i ≤ n + 1 → (i ≤ n) ⊎ (i ≡ n + 1)
within_one i n h = grind arith

pub first_next : (system : SystemView) (process count row : ℕ) (floor : List ℕ) → row ≡ sum (take process system.lens) + (count + 1) → ReachesFirst system process count floor → Reaches system row floor → ReachesFirst system process (count + 1) floor
first_next system process count row floor same first reaches = record {
  each = λ position one less. elim (within_one position count less) [
    | inl before ↦ first.each position one before
    | inr last ↦ let P : ℕ → Type 0 = λ r. Reaches system r floor in subst P (same ∙ ap (λ n. sum (take process system.lens) + n) (sym last)) reaches
  ];
}

pub none_are_handed : (system : SystemView) (floor : List ℕ) (handed : List Bool) → ((p : ℕ) → get_or handed p false ≡ false) → AreHanded system floor handed
none_are_handed system floor handed none = record { each = λ p is. let e : true ≡ false = sym is ∙ none p in absurd (cc) }

-- one process more is handed
pub handed_set : (system : SystemView) (floor : List ℕ) (handed : List Bool) (process : ℕ) → AreHanded system floor handed → ReachesFirst system process (get_or system.lens process 0) floor → AreHanded system floor (set handed process true)
handed_set system floor handed process are first = record {
  each = λ p is. elim (set_case handed process true p false) [
    | inl e ↦ are.each p (sym e ∙ is)
    | inr e ↦ let P : ℕ → Type 0 = λ q. ReachesFirst system q (get_or system.lens q 0) floor in subst P (sym e.0) first
  ];
}

-- what two seats have reached is reached where they met
pub met_left : (v w m : List ℕ) → IsMaximum v w m → IsAtMost v m
met_left v w m maximum = record { each = λ i. omega (arith, maximum.each i) }

pub met_right : (v w m : List ℕ) → IsMaximum v w m → IsAtMost w m
met_right v w m maximum = record { each = λ i. omega (arith, maximum.each i) }

pub handed_met : (system : SystemView) (v w m : List ℕ) (handed more now : List Bool) → IsMaximum v w m → AreHanded system v handed → AreHanded system w more
    → ((p : ℕ) → get_or now p false ≡ true → (get_or handed p false ≡ true) ⊎ (get_or more p false ≡ true)) → AreHanded system m now
handed_met system v w m handed more now maximum left right from = record {
  each = λ p is. elim (from p is) [
    | inl l ↦ first_more system p _ v m (met_left v w m maximum) (left.each p l)
    | inr r ↦ first_more system p _ w m (met_right v w m maximum) (right.each p r)
  ];
}

-- a row is the bottom's, or that of an event
pub record IsEventRow (lens : List ℕ) (row : ℕ) : Type 0 where
  pub process : ℕ
  pub position : ℕ
  pub there : process < length lens
  pub first : 1 ≤ position
  pub last : position ≤ get_or lens process 0
  pub is : row ≡ sum (take process lens) + position

in_first : (len : ℕ) (lens : List ℕ) (row : ℕ) → 1 ≤ row → row ≤ len → IsEventRow (len ∷ lens) row
in_first len lens row one less = record { process = 0; position = row; there = omega arith; first = one; last = less; is = omega arith }

event_row : (lens : List ℕ) (row : ℕ) → 1 ≤ row → row ≤ sum lens → IsEventRow lens row
event_row [] row one there = absurd (omega arith)
event_row (len ∷ lens) row one there =
    elim (lt_or_le len row) [
      | inl past ↦
          let rest : IsEventRow lens (row - len) = event_row lens (row - len) (omega arith) (omega (arith, sum_by-cons (λ (n : ℕ). n) len lens)) in record {
            process = suc rest.process;
            position = rest.position;
            there = omega (arith, rest.there);
            first = rest.first;
            last = rest.last;
            is = omega (arith, rest.is, sum_by-cons (λ (n : ℕ). n) len (take rest.process lens));
          }
      | inr within ↦ in_first len lens row one within
    ]

zero_or_more : (n : ℕ) → (n ≡ 0) ⊎ (1 ≤ n)
zero_or_more n = grind arith

-- with the bottom's row and those of each process reached, all rows are
pub all_reached : (system : SystemView) (floor : List ℕ) (handed : List Bool) → Reaches system 0 floor → AreHanded system floor handed → ((p : ℕ) → p < length system.lens → get_or handed p false ≡ true) → ReachesAll system floor
all_reached system floor handed bottom are all = record {
  each = λ row there. elim (zero_or_more row) [
    | inl none ↦ let P : ℕ → Type 0 = λ r. Reaches system r floor in subst P (sym none) bottom
    | inr one ↦
        let e = event_row system.lens row one there in
        let P : ℕ → Type 0 = λ r. Reaches system r floor in
        subst P (sym e.is) ((are.each e.process (all e.process e.there)).each e.position e.first e.last)
  ];
}

-- a floor that has reached the least closed vector of a row, and is within it, is that
pub reached_least : (system : SystemView) (floor : List ℕ) (row : ℕ) → AreBounds system floor → row ≤ sum system.lens → Reaches system row floor → IsLeast system row (row_at system.lens floor row)
reached_least system floor row bounds there reaches =
    let v : List ℕ = reaches.vector in
    let size : length v ≡ length system.lens = reaches.is.closed.vector.size in
    let length_row = length-row_at system.lens floor row there bounds.size in
    let same : v ≡ row_at system.lens floor row =
    ext_get_or 0 v (row_at system.lens floor row) (size ∙ sym length_row) (λ i below.
    let i_there : i < length system.lens = omega arith in
    omega (arith, reaches.below i i_there, get_or-row_at system.lens floor row i i_there, word_below system floor bounds row i i_there v reaches.is.closed)) in
    let P : List ℕ → Type 0 = IsLeast system row in subst P same reaches.is

pub all_least : (system : SystemView) (floor : List ℕ) → AreBounds system floor → ReachesAll system floor → AreLeastRows system floor
all_least system floor bounds all = record { each = λ row there. reached_least system floor row bounds there (all.each row there) }

-- and it is the row's vector
pub floor_reached : (system : SystemView) (floor : List ℕ) (row : ℕ) → AreBounds system floor → row ≤ sum system.lens → Reaches system row floor → IsReached system row floor (row_at system.lens floor row)
floor_reached system floor row bounds there reaches = record { least = reached_least system floor row bounds there reaches; lent = λ i below. omega (arith, get_or-row_at system.lens floor row i below) }

pub reaches_row : (system : SystemView) (row : ℕ) (floor v : List ℕ) → IsReached system row floor v → Reaches system row floor
reaches_row system row floor v is = record { vector = v; is = is.least; below = is.lent }

pub reached_more : (system : SystemView) (row : ℕ) (floor now v : List ℕ) → IsAtMost floor now → IsReached system row floor v → IsReached system row now v
reached_more system row floor now v within is = record { least = is.least; lent = λ i there. omega (arith, is.lent i there, within.each (place_of system.lens row i)) }

-- a row, once settled
pub settled_row : (system : SystemView) (row : ℕ) (old new v : List ℕ) → Follows system row old new v → IsLeast system row v → IsReached system row new v
settled_row system row old new v follows least = record { least = least; lent = λ i there. omega (arith, follows.each i there) }

pub within_refl : (v : List ℕ) → IsAtMost v v
within_refl v = record { each = λ i. omega arith }

-- the row before on the process, or the bottom's before the first
pub data IsBefore (lens : List ℕ) (process done before : ℕ) : Type 0 where
  AtBottom : before ≡ 0 → IsBefore lens process done before
  After : 1 ≤ done → before ≡ sum (take process lens) + done → IsBefore lens process done before

-- it may lend to the next row
pub may_start : (system : SystemView) (floor : List ℕ) → AreBounds system floor → (process done before row : ℕ) → process < length system.lens → done + 1 ≤ get_or system.lens process 0 → row ≡ sum (take process system.lens) + (done + 1)
    → IsBefore system.lens process done before → has_start system.lens floor row before ≡ true
may_start system floor bounds process done before row there last same (AtBottom bottom) = has_start-bottom system.lens floor row before bottom
may_start system floor bounds process done before row there last same (After first is) =
    let P : ℕ → Type 0 = λ r. has_start system.lens floor r before ≡ true in
    let Q : ℕ → Type 0 = λ b. has_start system.lens floor (sum (take process system.lens) + (done + 1)) b ≡ true in
    subst P (sym same) (subst Q (sym is) (has_start_next system floor bounds process done there first last))

-- the row of an event that the floor has may lend to it
pub event_lends : (lens floor : List ℕ) (row from_row process position count : ℕ) → process < length lens → 1 ≤ position → position ≤ get_or lens process 0 → position ≤ count → count ≤ word_at lens floor row process
    → from_row ≡ sum (take process lens) + position → has_start lens floor row from_row ≡ true
event_lends lens floor row from_row process position count there first last few reached same =
    let event : EventId = record { process = process; position = position } in
    has_start-event lens floor row from_row event record { process = omega arith; first = first; last = last } (sym same) ∙ le-leb position (word_at lens floor row process) (omega arith)

pub all_more : (system : SystemView) (floor now : List ℕ) → IsAtMost floor now → ReachesAll system floor → ReachesAll system now
all_more system floor now within all = record { each = λ row there. reaches_more system row floor now within (all.each row there) }

pub is_before : (lens : List ℕ) (process done before : ℕ) → before ≡ row_before lens process done → IsBefore lens process done before
is_before lens process zero before is = AtBottom is
is_before lens process (suc done) before is = After (omega arith) is

-- the row of a final event, looked at
pub final_seen : (system : SystemView) (row : ℕ) (old new v : List ℕ) → row ≤ sum system.lens → Follows system row old new v → Reaches system row old → IsLeast system row v
final_seen system row old new v there follows reaches =
    let now = reaches_more system row old new follows.rises reaches in
    let length_row = length-row_at system.lens new row there follows.bounds.size in
    let same : row_at system.lens new row ≡ v =
    ext_get_or 0 _ _ (length_row ∙ sym follows.size) (λ i below.
    let i_there : i < length system.lens = omega arith in
    get_or-row_at system.lens new row i i_there ∙ sym (follows.each i i_there)) in
    let P : List ℕ → Type 0 = IsLeast system row in subst P same (reached_least system new row follows.bounds there now)

-- no row's least closed vector adds up to less than the bottom's
pub bottom_sum : (system : SystemView) (row : ℕ) (bottom v : List ℕ) → IsLeast system 0 bottom → IsLeast system row v → sum bottom ≤ sum v
bottom_sum system row bottom v least other =
    sum-within bottom v (least.closed.vector.size ∙ sym other.closed.vector.size)
    (least.least v record { vector = other.closed.vector; above = record { each = λ i. omega (arith, start_of-bottom system.lens i) }; closed = other.closed.closed }).each

-- the bottom's row is settled, and what the floor had reached stays reached
pub bottom_reaches : (system : SystemView) (old new v finals : List ℕ) (handed : List Bool) → Follows system 0 old new v → IsLeast system 0 v → AreFinal system old finals → AreHanded system old handed → HasReachedRows system new finals v handed
bottom_reaches system old new v finals handed follows least final are = record {
  finals = final_more system old new finals follows.rises final;
  bottom = settled_row system 0 old new v follows least;
  handed = handed_more system old new handed follows.rises are;
}

pub before_is : (lens : List ℕ) (process done row : ℕ) → 1 ≤ done → row ≡ sum (take process lens) + done → row ≡ row_before lens process done
before_is lens process zero row some is = absurd (omega arith)
before_is lens process (suc done) row some is = is
