-- Rows with a cut are final.
use Rattle.std.proofs.Common.{◌≡◌, ℕ, ◌≤◌, true, List, sum, Some, arith, ap, ◌∙◌, subst}
use Rattle.trace_growth.specs.Growing.{IsTrace}
use Rattle.pull_system.specs.Vector.{IsAtMost}
use Rattle.pull_system.specs.Rows.{RowsView, IsLeast, row_at, start_of}
use Rattle.pull_system.specs.Growth.{old_row, grown_words}
use Rattle.pull_system.proofs.Existence.{least_unique}
use Rattle.pull_system.proofs.Final.{final_row, final_vector}
use Rattle.rctl_parts.specs.Pieces.{Piece}
use Rattle.rctl_parts.specs.MadeFor.{EachFits}
use Rattle.part_pulls.specs.declared.observed.Observed.{Observed}
use Rattle.part_pulls.specs.Observing.{lens_seen, scope_seen, AreFull}
use Rattle.conjunctions.specs.Numbering.{all_atoms}
use Rattle.part_pulls.specs.Counters.{AllRise, counters_of_parts}
use Rattle.part_pulls.specs.Systems.{system_of}
use Rattle.conjunctions.specs.Settling.{IsSettled}
use Rattle.part_pulls.specs.Later.{IsLater}
use Rattle.conjunctions.proofs.Later.{order_grows, system_grows}
use Rattle.conjunctions.proofs.Staying.{orders_stay, system_stays}

pub final_floor : (before after : Observed) (ps : List Piece) (old : RowsView) → IsTrace before.trace.states → IsTrace after.trace.states → AreFull before → IsLater before after
    → EachFits (scope_seen before) ps → AllRise after (counters_of_parts ps) → all_atoms ps ≡ true → IsSettled before ps old
    → (row kept : ℕ) → row ≤ sum (lens_seen after) → old_row old.lens (lens_seen after) row ≡ Some kept → IsAtMost (row_at old.lens old.words kept) old.lens
    → IsLeast (system_of after ps) row (row_at (lens_seen after) (grown_words (lens_seen after) old) row)
final_floor before after ps old is_old is_new full later fits rise atoms settled row kept there found within =
    final_row (system_of before ps) (system_of after ps) (settled.system atoms)
    (system_grows before after (order_grows before after is_old is_new full later) ps fits rise)
    (system_stays before after (orders_stay before after is_old is_new full later) ps fits) old settled.lens (settled.least atoms) row kept there found within

pub final_same : (before after : Observed) (ps : List Piece) (old new : RowsView) → IsTrace before.trace.states → IsTrace after.trace.states → AreFull before → IsLater before after
    → EachFits (scope_seen before) ps → AllRise after (counters_of_parts ps) → all_atoms ps ≡ true → IsSettled before ps old → IsSettled after ps new
    → (row kept : ℕ) → row ≤ sum new.lens → old_row old.lens new.lens row ≡ Some kept → IsAtMost (row_at old.lens old.words kept) old.lens
    → row_at new.lens new.words row ≡ row_at old.lens old.words kept
final_same before after ps old new is_old is_new full later fits rise atoms settled now row kept there found within =
    let here : row ≤ sum (lens_seen after) = omega (arith, ap sum now.lens) in
    let F : List ℕ → Type 0 = λ l. old_row old.lens l row ≡ Some kept in
    let found_now : old_row old.lens (lens_seen after) row ≡ Some kept = subst F now.lens found in
    let least = final_vector (system_of before ps) (system_of after ps) (settled.system atoms)
    (system_grows before after (order_grows before after is_old is_new full later) ps fits rise)
    (system_stays before after (orders_stay before after is_old is_new full later) ps fits) old settled.lens (settled.least atoms) row kept found_now within in
    ap (λ (l : List ℕ). row_at l new.words row) now.lens
    ∙ least_unique (system_of after ps) (start_of (lens_seen after) row) (row_at (lens_seen after) new.words row) (row_at old.lens old.words kept) ((now.least atoms).each row here) least
