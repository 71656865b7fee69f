use Rattle.std.proofs.Common.{◌≡◌, ◌+◌, ◌-◌, ℕ, subst, arith}
use Rattle.std.proofs.lemmas.Result.{on_ok_weaker}
use Rattle.slice_graph.specs.inside.Pushing.{PushesRows, so_far}
use Rattle.slice_graph.proofs.Pushing.{rising_fewer, first_within, none_behind, pushes_nones, pushes_both}
use Rattle.slice_graph.proofs.kept_rows.push_rising.Goals as goal

pub push_cuts-requires-clause-rise : goal.push_cuts-requires-clause-rise
push_cuts-requires-clause-rise c = rising_fewer c.args.rows.now c.args.first c.args.count c.rows_with_cuts-kept.result c.rows_with_cuts-kept.ensures.few c.requires.rise

pub push_cuts-requires-clause-cuts : goal.push_cuts-requires-clause-cuts
push_cuts-requires-clause-cuts c = first_within c.args.rows.now c.args.first c.args.count c.rows_with_cuts-kept.result c.requires.rise c.rows_with_cuts-kept.ensures.few c.rows_with_cuts-kept.ensures.cut

pub returns-clause-pushed : goal.returns-clause-pushed
returns-clause-pushed c =
    let kept : ℕ = c.rows_with_cuts-kept.result in
    let left : ℕ = c.args.count - kept in
    let all : kept + left ≡ c.args.count = omega (arith, c.rows_with_cuts-kept.ensures.few) in
    on_ok_weaker c.push_nones.result (λ more. subst (λ (n : ℕ). PushesRows c.args.rows.now c.args.first n (so_far c.args.table.now c.args.top.now) (so_far c.push_nones.new.self c.push_cuts.new.top)) all
    (pushes_both c.args.rows.now c.args.first kept left c.args.table.now c.push_cuts.new.table c.push_nones.new.self c.args.top.now c.push_cuts.new.top c.push_cuts.new.top
    c.in_ok-push_cuts.ensures.pushed
    (pushes_nones c.args.rows.now (c.args.first + kept) left c.push_cuts.new.table c.push_nones.new.self c.push_cuts.new.top
    (none_behind c.args.rows.now c.args.first c.args.count kept c.requires.rise c.rows_with_cuts-kept.ensures.past) more))) c.push_nones.ensures
