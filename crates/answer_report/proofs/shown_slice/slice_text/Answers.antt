use Rattle.answer_report.proofs.Spelled.{slice_fits}
use Rattle.answer_report.proofs.shown_slice.slice_text.Goals as goal

pub returns-clause-fits : goal.returns-clause-fits
returns-clause-fits c =
    slice_fits c.args.order.now c.args.slice.now c.requires c.in_ok-bounds.bounds c.in_ok-edges.edges c.in_ok-bounds.ensures c.in_ok-edges.ensures.none c.in_ok-edges.ensures.printed
