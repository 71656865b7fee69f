-- What stands of rows that are begun and raised.
use Rattle.std.proofs.Common.{◌≡◌, ◌↔◌, ℕ, zero, suc, ◌+◌, ◌-◌, ◌^◌, ◌<◌, ◌≤◌, inl, inr, List, [], length, get_or, sum, max, subst, Option, None, Some, refl, arith, sym, ap, ◌∙◌}
use Rattle.std.proofs.lemmas.Nat.{same_from_place}
use Rattle.pull_system.specs.System.{SystemView, IsSystem, IsPull, IsClosed, HoldsPull, source_of, target_of, pull_at, ask}
use Rattle.pull_system.specs.Rows.{AreLeastRows, IsLeast, start_of, place_of, row_at}
use Rattle.pull_system.proofs.Climbing.{lt_or_le, set_case}
use Rattle.pull_system.proofs.Pulls.{pull-of}
use Rattle.pull_system.proofs.Starts.{get_or-row_at, length-row_at}
use Rattle.pull_system.proofs.Sums.{component_le}
use Rattle.raise_machine.specs.Bounds.{AreBounds, word_at, raised}
use Rattle.raise_machine.proofs.Raising.{bounds_raised, starts_bounds, pull_bound, lend_bound, word_above, word_in_range}
use Rattle.raise_machine.proofs.Running.{seen_least}
use Rattle.certificate_table.specs.Begun.{BegunView, AreCertified, IsWhole, LastIsClosed, MayBegin, MayFollow, MayRaise, fresh_rows, lent, lent_from, present, with_raise, with_row}
use Rattle.certificate_table.proofs.Following.{followed_within}

-- ---- rows that stay

-- a raise of one row leaves the others
pub other_stays : (lens words : List ℕ) (row process number other at : ℕ) → process < length lens → at < length lens → (other ≡ row → ⊥)
    → word_at lens (raised words (place_of lens row process) number) other at ≡ word_at lens words other at
other_stays lens words row process number other at there at_there apart =
    elim (set_case words (place_of lens row process) (max (get_or words (place_of lens row process) 0) number) (place_of lens other at) 0) [
      | inl e ↦ e
      | inr e ↦ absurd (apart (same_from_place other at row process (length lens) at_there there e.0).0)
    ]

-- so does a row that is lent to
pub lent_stays : (lens words : List ℕ) (row other n third at : ℕ) → n ≤ length lens → at < length lens → (third ≡ row → ⊥) → word_at lens (lent lens words row other n) third at ≡ word_at lens words third at
lent_stays lens words row other zero third at few at_there apart = refl
lent_stays lens words row other (suc n) third at few at_there apart =
    other_stays lens (lent lens words row other n) row n (word_at lens words other n) third at (omega (arith, few)) at_there apart ∙ lent_stays lens words row other n third at (omega (arith, few)) at_there apart

-- a row with the same words is closed as well
same_closed : (system : SystemView) → IsSystem system → (before after : List ℕ) (row : ℕ) → ((at : ℕ) → at < length system.lens → word_at system.lens after row at ≡ word_at system.lens before row at)
    → IsClosed system (row_at system.lens before row) → IsClosed system (row_at system.lens after row)
same_closed system is before after row same closed = record {
  each = λ k there.
      let p : IsPull system.lens (pull_at system k) = pull-of system is k there in
      let one : (at : ℕ) → at < length system.lens → get_or (row_at system.lens after row) at 0 ≡ get_or (row_at system.lens before row) at 0 =
      λ at at_there. get_or-row_at system.lens after row at at_there ∙ same at at_there ∙ sym (get_or-row_at system.lens before row at at_there) in
      omega (arith, closed.each k there, ap (λ x. ask system k x) (one (source_of system k) p.source), one (target_of system k) p.target);
}

pub holds_at : (system : SystemView) → IsSystem system → (words : List ℕ) (row k : ℕ) → k < length system.pulls
    → (ask system k (word_at system.lens words row (source_of system k)) ≤ word_at system.lens words row (target_of system k)) ↔ HoldsPull system (row_at system.lens words row) k
holds_at system is words row k there =
    let p : IsPull system.lens (pull_at system k) = pull-of system is k there in
    let source = get_or-row_at system.lens words row (source_of system k) p.source in
    let target = get_or-row_at system.lens words row (target_of system k) p.target in
    (λ h. omega (arith, h, ap (λ x. ask system k x) source, target), λ h. omega (arith, h, ap (λ x. ask system k x) source, target))

-- ---- words that are read and written

-- an entry of a table that a word of its source reaches
pub entry_there : (v : BegunView) → AreCertified v → (row k x : ℕ) → k < length v.system.pulls → x ≤ word_at v.system.lens v.words row (source_of v.system k) → x < length (pull_at v.system k).table
entry_there v is row k x there reached =
    let p : IsPull v.system.lens (pull_at v.system k) = pull-of v.system is.system k there in
    omega (arith, reached, p.size, word_in_range v.system is.system v.words is.bounds row (source_of v.system k) p.source)

pub word_small : (v : BegunView) → AreCertified v → (row process : ℕ) → process < length v.system.lens → word_at v.system.lens v.words row process < 2 ^ 16
word_small v is row process there = omega (arith, word_in_range v.system is.system v.words is.bounds row process there, component_le v.system.lens process, is.system.shape.events)

-- ---- the rows at their starts, one begun and one raised

pub fresh_certified : (system : SystemView) → IsSystem system → AreCertified (fresh_rows system)
fresh_certified system is = record { system = is; few = omega arith; bounds = starts_bounds system; closed = λ row before. absurd (omega (arith, before)) }

-- each row that was begun is closed, once the last is
closed_row : (v : BegunView) → AreCertified v → LastIsClosed v → (row : ℕ) → row < v.begun → IsClosed v.system (row_at v.system.lens v.words row)
closed_row v is last row before = elim (lt_or_le (row + 1) v.begun) [
  | inl earlier ↦ is.closed row earlier
  | inr latest ↦
      let same : v.begun - 1 ≡ row = omega (arith, before, latest) in
      subst (λ (r : ℕ). IsClosed v.system (row_at v.system.lens v.words r)) same (last (omega (arith, before)))
]

lent_bounds : (system : SystemView) (words : List ℕ) (row other n : ℕ) → AreBounds system words → row ≤ sum system.lens → n ≤ length system.lens → other < row
    → ((i : ℕ) → get_or (start_of system.lens other) i 0 ≤ get_or (start_of system.lens row) i 0) → AreBounds system (lent system.lens words row other n)
lent_bounds system words row other zero bounds there few less within = bounds
lent_bounds system words row other (suc n) bounds there few less within =
    let before = lent_bounds system words row other n bounds there (omega (arith, few)) less within in
    let same = lent_stays system.lens words row other n other n (omega (arith, few)) (omega (arith, few)) (λ e. omega (arith, e, less)) in
    bounds_raised system (lent system.lens words row other n) (place_of system.lens row n) (word_at system.lens words other n) before
    (lend_bound system (lent system.lens words row other n) before row other n (word_at system.lens words other n) (omega (arith, few)) (omega (arith, same))
    (λ i i_there. omega (arith, within i, word_above system (lent system.lens words row other n) before row i there i_there)))

lent_from_bounds : (system : SystemView) (words : List ℕ) (row : ℕ) (after : Option ℕ) → AreBounds system words → row ≤ sum system.lens → MayFollow system.lens row after → AreBounds system (lent_from system.lens words row after)
lent_from_bounds system words row None bounds there follows = bounds
lent_from_bounds system words row (Some other) bounds there follows =
    lent_bounds system words row other (length system.lens) bounds there (omega arith) follows.0 (followed_within system.lens row other follows)

lent_from_stays : (lens words : List ℕ) (row : ℕ) (after : Option ℕ) (third at : ℕ) → at < length lens → (third ≡ row → ⊥) → word_at lens (lent_from lens words row after) third at ≡ word_at lens words third at
lent_from_stays lens words row None third at there apart = refl
lent_from_stays lens words row (Some other) third at there apart = lent_stays lens words row other (length lens) third at (omega arith) there apart

pub row_keeps : (v : BegunView) → AreCertified v → (row : ℕ) (after : Option ℕ) → MayBegin v row after → AreCertified (with_row v row after)
row_keeps v is row after may = record {
  system = is.system;
  few = omega (arith, may.next, may.there);
  bounds = lent_from_bounds v.system v.words row after is.bounds may.there may.follows;
  closed = λ r before.
      same_closed v.system is.system v.words (lent_from v.system.lens v.words row after) r
      (λ at there. lent_from_stays v.system.lens v.words row after r at there (λ e. omega (arith, e, may.next, before)))
      (closed_row v is may.settled r (omega (arith, before)));
}

pub raise_keeps : (v : BegunView) → AreCertified v → (k x : ℕ) → MayRaise v k x → AreCertified (with_raise v k x)
raise_keeps v is k x may =
    let p : IsPull v.system.lens (pull_at v.system k) = pull-of v.system is.system k may.pull in
    record {
      system = is.system;
      few = is.few;
      bounds = bounds_raised v.system v.words (place_of v.system.lens (present v) (target_of v.system k)) (ask v.system k x) is.bounds
          (pull_bound v.system is.system v.words is.bounds (present v) k x may.pull may.reached);
      closed = λ r before.
          same_closed v.system is.system v.words (raised v.words (place_of v.system.lens (present v) (target_of v.system k)) (ask v.system k x)) r
          (λ at there. other_stays v.system.lens v.words (present v) (target_of v.system k) (ask v.system k x) r at p.target there (λ e. omega (arith, e, before, may.begun)))
          (is.closed r before);
    }

-- ---- the rows as a whole

pub whole_least : (v : BegunView) → AreCertified v → IsWhole v → AreLeastRows v.system v.words
whole_least v is whole = record { each = λ row there. least_row row there }
  where
    least_row : (row : ℕ) → row ≤ sum v.system.lens → IsLeast v.system row (row_at v.system.lens v.words row)
    least_row row there =
        seen_least v.system v.words [] row (λ process. 0) (row_at v.system.lens v.words row) there is.system is.bounds
        record { size = length-row_at v.system.lens v.words row there is.bounds.size; each = λ process process_there. get_or-row_at v.system.lens v.words row process process_there }
        (closed_row v is whole.settled row (omega (arith, there, whole.all)))
