use Rattle.std.proofs.Common.{length, subst, sym, ap, ◌∙◌, arith}
use Rattle.std.specs.Option.{option_copied}
use Rattle.run_model.proofs.Counts.{length-min}
use Rattle.slice_graph.specs.Views.{IsCut, IsRow}
use Rattle.graft.proofs.Joining.{min_cut_cut}
use Rattle.graft.proofs.join.push_minimum.Goals as goal

pub set_minimum-requires-clause-few : goal.set_minimum-requires-clause-few
set_minimum-requires-clause-few c =
    let l : IsCut c.args.table.now.lens c.in-Some-Some.left.now = subst (λ k. IsRow c.args.table.now.lens (option_copied k)) c.in-Some-Some.is-0 c.requires.left in
    let r : IsCut c.args.table.now.lens c.in-Some-Some.right.now = subst (λ k. IsRow c.args.table.now.lens (option_copied k)) c.in-Some-Some.is-1 c.requires.right in
    omega (arith, l.size, c.shape-shape.ensures.cuts.shape.few)

pub push_cut-requires : goal.push_cut-requires
push_cut-requires c =
    let l : IsCut c.args.table.now.lens c.in-Some-Some.left.now = subst (λ k. IsRow c.args.table.now.lens (option_copied k)) c.in-Some-Some.is-0 c.requires.left in
    let r : IsCut c.args.table.now.lens c.in-Some-Some.right.now = subst (λ k. IsRow c.args.table.now.lens (option_copied k)) c.in-Some-Some.is-1 c.requires.right in
    subst (IsCut c.args.table.now.lens) (sym (c.as_slice.ensures ∙ c.set_minimum.ensures)) (min_cut_cut c.args.table.now.lens c.in-Some-Some.left.now c.in-Some-Some.right.now l r)

pub returns-in-Some-Some-clause-width : goal.returns-in-Some-Some-clause-width
returns-in-Some-Some-clause-width c =
    let l : IsCut c.args.table.now.lens c.in-Some-Some.left.now = subst (λ k. IsRow c.args.table.now.lens (option_copied k)) c.in-Some-Some.is-0 c.requires.left in
    let r : IsCut c.args.table.now.lens c.in-Some-Some.right.now = subst (λ k. IsRow c.args.table.now.lens (option_copied k)) c.in-Some-Some.is-1 c.requires.right in
    omega (arith, ap length c.set_minimum.ensures, length-min c.in-Some-Some.left.now c.in-Some-Some.right.now, l.size, r.size, c.requires.width)
