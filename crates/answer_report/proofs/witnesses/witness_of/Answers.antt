use Rattle.std.proofs.lemmas.Result.{IfOk-weaker}
use Rattle.run_model.specs.Witness.{ForEf, ForAg, ForEg, ExistsNext}
use Rattle.slice_graph.specs.Views.{slice_of}
use Rattle.answer_report.proofs.Spelled.{canonical_fits}
use Rattle.answer_report.proofs.witnesses.witness_of.Goals as goal

pub returns-in-Ef-clause-fits : goal.returns-in-Ef-clause-fits
returns-in-Ef-clause-fits c = IfOk-weaker c.explain.result _ _ (canonical_fits c.args.order.now (slice_of c.in-Some-Some.operand) ForEf) c.explain.ensures.canonical

pub returns-in-Ag-clause-fits : goal.returns-in-Ag-clause-fits
returns-in-Ag-clause-fits c = IfOk-weaker c.explain-in-Ag.result _ _ (canonical_fits c.args.order.now (slice_of c.in-Some-Some.operand) ForAg) c.explain-in-Ag.ensures.canonical

pub returns-in-Eg-clause-fits : goal.returns-in-Eg-clause-fits
returns-in-Eg-clause-fits c = IfOk-weaker c.explain-in-Eg.result _ _ (canonical_fits c.args.order.now (slice_of c.in-Some-Some.operand) ForEg) c.explain-in-Eg.ensures.canonical

pub returns-in-Ex-clause-fits : goal.returns-in-Ex-clause-fits
returns-in-Ex-clause-fits c =
    IfOk-weaker c.explain-in-Ex.result _ _ (canonical_fits c.args.order.now (slice_of c.in-Some-Some.operand) (ExistsNext c.in-Ex.process)) c.explain-in-Ex.ensures.canonical
