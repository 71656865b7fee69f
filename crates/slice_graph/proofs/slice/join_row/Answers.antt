use Rattle.std.proofs.Common.{length, ap, arith}
use Rattle.run_model.proofs.Counts.{length-max}
use Rattle.slice_graph.proofs.Words.{row_cut}
use Rattle.slice_graph.proofs.slice.join_row.Goals as goal

pub join_words-requires : goal.join_words-requires
join_words-requires c =
    let cut = row_cut c.args.table.now c.in-Some.ensures.cuts c.args.row _ c.in-Some.ensures.cut in
    omega (arith, cut.size, c.requires.width)

pub returns-in-Some-clause-width : goal.returns-in-Some-clause-width
returns-in-Some-clause-width c =
    let cut = row_cut c.args.table.now c.in-Some.ensures.cuts c.args.row _ c.in-Some.ensures.cut in
    omega (arith, ap length c.join_words.ensures, length-max c.in-Some.cut.now c.args.into.now, cut.size, c.requires.width)
