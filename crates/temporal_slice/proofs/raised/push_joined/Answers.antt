use Rattle.std.proofs.Common.{length, sym, subst, ap, ◌∙◌, arith}
use Rattle.std.specs.Option.{option_copied}
use Rattle.run_model.specs.Cut.{max_cut}
use Rattle.run_model.proofs.Counts.{length-max}
use Rattle.slice_graph.specs.Views.{IsCut, IsRow}
use Rattle.temporal_slice.proofs.Rows.{max_cut_cut}
use Rattle.temporal_slice.proofs.raised.push_joined.Goals as goal

pub push_cut-requires : goal.push_cut-requires
push_cut-requires c =
    let row : IsCut c.args.table.now.lens c.in-Some.words.now = subst (λ k. IsRow c.args.table.now.lens (option_copied k)) c.in-Some.is c.requires.row in
    subst (IsCut c.args.table.now.lens) (sym (c.join_words.ensures ∙ ap (max_cut c.args.bottom.now) c.copy_from_slice.ensures.after))
    (max_cut_cut c.args.table.now.lens c.args.bottom.now c.in-Some.words.now c.requires.bottom row)

pub returns-in-Some-clause-width : goal.returns-in-Some-clause-width
returns-in-Some-clause-width c =
    let row : IsCut c.args.table.now.lens c.in-Some.words.now = subst (λ k. IsRow c.args.table.now.lens (option_copied k)) c.in-Some.is c.requires.row in
    omega (arith, ap length c.join_words.ensures, length-max c.args.bottom.now c.copy_from_slice.new.self, ap length c.copy_from_slice.ensures.after, row.size, c.requires.bottom.size, c.requires.width)
