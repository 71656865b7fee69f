use Rattle.std.proofs.Common.{rules, ◌≡◌, Some, None, refl}
use Rattle.std.proofs.lemmas.Result.{on_ok_weaker}
use Rattle.run_model.specs.Cut.{IsWithin}
use Rattle.pull_system.specs.Rows.{row_at}
use Rattle.slice_graph.proofs.Pushing.{pushes_one}
use Rattle.slice_graph.proofs.kept_rows.push_kept.Goals as goal

pub returns-then-keep-clause-pushed : goal.returns-then-keep-clause-pushed
returns-then-keep-clause-pushed c =
    let cut : c.keep.new.cut ≡ row_at c.args.rows.now.lens c.args.rows.now.words c.args.row = search rules in
    let within : IsWithin (row_at c.args.rows.now.lens c.args.rows.now.words c.args.row) c.args.rows.now.lens = search rules in
    on_ok_weaker c.push_cut.result (λ more. pushes_one c.args.rows.now c.args.row c.args.table.now c.push_cut.new.self c.args.top.now c.join_words.new.into (Some c.keep.new.cut) (cut, within) more c.join_words.ensures) c.push_cut.ensures.ok

pub returns-else-keep-clause-pushed : goal.returns-else-keep-clause-pushed
returns-else-keep-clause-pushed c =
    let past : IsWithin (row_at c.args.rows.now.lens c.args.rows.now.words c.args.row) c.args.rows.now.lens → ⊥ = search rules in
    on_ok_weaker c.push_none.result (λ more. pushes_one c.args.rows.now c.args.row c.args.table.now c.push_none.new.self c.args.top.now c.args.top.now None past more refl) c.push_none.ensures.ok
