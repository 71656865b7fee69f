use Rattle.std.proofs.Common.{rules, arith, ap, ◌≡◌, ◌+◌, ◌≤◌, ◌∙◌, sum, take}
use Rattle.std.proofs.lemmas.Result.{on_ok_weaker}
use Rattle.pull_system.specs.System.{SystemView}
use Rattle.bound_table.proofs.Allowed.{bounds_along}
use Rattle.bound_table.proofs.Claiming.{keeps_refl}
use Rattle.bound_table.proofs.Own.{sum_old}
use Rattle.slice_workers.proofs.Reached.{within_refl}
use Rattle.slice_workers.proofs.Appended.{kept_firsts}
use Rattle.slice_workers.proofs.alone.push_firsts.Goals as goal

pub returns-then-first-eq0-clause-risen : goal.returns-then-first-eq0-clause-risen
returns-then-first-eq0-clause-risen c =
    let system : SystemView = c.args.table.now.system in
    record { keeps = keeps_refl _; rises = within_refl _; bounds = bounds_along _ system _ c.args.seat.now.floor (search rules) (search rules) c.bounds.ensures }

pub push_rows-requires-clause-rows : goal.push_rows-requires-clause-rows
push_rows-requires-clause-rows c =
    let system : SystemView = c.args.table.now.system in
    let lens : c.shape.result.now ≡ system.lens = c.shape.ensures.shape ∙ ap (λ s. s.lens) c.system.ensures in
    let row : c.row_of-row.result ≡ sum (take c.args.process system.lens) + 1 = c.row_of-row.ensures.row ∙ ap (λ xs. sum (take c.args.process xs) + 1) lens in
    omega (arith, row, sum_old system.lens c.args.process c.args.first c.requires.few c.requires.process)

pub returns-clause-kept : goal.returns-clause-kept
returns-clause-kept c =
    let system : SystemView = c.args.table.now.system in
    let lens : c.shape.result.now ≡ system.lens = c.shape.ensures.shape ∙ ap (λ s. s.lens) c.system.ensures in
    let row : c.row_of-row.result ≡ sum (take c.args.process system.lens) + 1 = c.row_of-row.ensures.row ∙ ap (λ xs. sum (take c.args.process xs) + 1) lens in
    let fits : c.row_of-row.result + c.args.first ≤ sum system.lens + 1 = omega (arith, row, sum_old system.lens c.args.process c.args.first c.requires.few c.requires.process) in
    let push = c.push_rows.ensures in
    on_ok_weaker c.push_rows.result (kept_firsts system c.args.process c.row_of-row.result c.args.first _ _ _ _ row push.bounds fits push.rises c.requires.reached c.requires.kept) push.words
