use Rattle.std.proofs.Common.{rules, arith, ap, sym, ◌≡◌, ◌+◌, ◌*◌, ◌≤◌, ◌∙◌, ℕ, List, length, sum, subst}
use Rattle.std.proofs.lemmas.Result.{IfOk-weaker}
use Rattle.pull_system.specs.System.{SystemView}
use Rattle.pull_system.specs.Rows.{RowsView, AreLeastRows}
use Rattle.bound_table.proofs.Allowed.{bounds_along}
use Rattle.slice_workers.proofs.Appended.{kept_least, kept_floor}
use Rattle.slice_workers.proofs.alone.settle_alone.Goals as goal

pub from_words-requires : goal.from_words-requires
from_words-requires g c =
    let system : SystemView = c.args.table.now.system in
    let lens : c.shape-shape.result.now ≡ system.lens = c.shape-shape.ensures.shape ∙ ap (λ s. s.lens) c.system.ensures in
    c.in_ok-done.ensures.kept.size ∙ ap (λ (xs : List ℕ). (sum xs + 1) * length xs) (sym lens)

pub returns-clause-settled : goal.returns-clause-settled
returns-clause-settled g c =
    let system : SystemView = c.args.table.now.system in
    let lens : c.shape-shape.result.now ≡ system.lens = c.shape-shape.ensures.shape ∙ ap (λ s. s.lens) c.system.ensures in
    let some : 1 ≤ length system.lens = omega (arith, c.procs-procs.ensures.shape.some, ap length lens) in
    let kept = c.in_ok-done.ensures.kept in
    let bounds = bounds_along _ system _ c.settle_in_order-done.new.seat.floor (search rules) (search rules) c.bounds.ensures in
    let words = c.settle_in_order-done.new.words.items in
    let P : List ℕ → Type 0 = AreLeastRows system in
    IfOk-weaker c.from_words.result _ _ (λ rows is. record {
      lens = ap (λ (r : RowsView). r.lens) is ∙ lens;
      least = subst P (sym (ap (λ (r : RowsView). r.words) is)) (kept_least system _ words kept);
      floor = ap (λ (r : RowsView). r.words) is ∙ kept_floor system _ words some bounds kept;
    }) c.from_words.ensures
