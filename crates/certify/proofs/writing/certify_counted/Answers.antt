use Rattle.std.proofs.Common.{◌∙◌, subst, sym}
use Rattle.certificate_next_line.specs.PassedOn.{NodesView, AreNodes}
use Rattle.certify.proofs.Fronts.{nothing_written, on_err}
use Rattle.certify.proofs.Certified.{certified_of, memory_of, nothing_of}
use Rattle.certify.proofs.writing.certify_counted.Goals as goal

pub nodes_for-requires-clause-ready : goal.nodes_for-requires-clause-ready
nodes_for-requires-clause-ready g c = c.requires.can.ready

pub nodes_for-requires-clause-fits : goal.nodes_for-requires-clause-fits
nodes_for-requires-clause-fits g c = c.requires.can.fits

pub nodes_for-requires-clause-counters : goal.nodes_for-requires-clause-counters
nodes_for-requires-clause-counters g c = c.requires.can.counters

pub nodes_for-requires-clause-count : goal.nodes_for-requires-clause-count
nodes_for-requires-clause-count g c = c.requires.can.count

pub returns-in_err-nodes-clause-memory : goal.returns-in_err-nodes-clause-memory
returns-in_err-nodes-clause-memory g c = on_err _ (nothing_of _ _ _ _ (nothing_written _ _ _))

pub returns-clause-certified : goal.returns-clause-certified
returns-clause-certified g c =
    certified_of _ _ _ _ _ _ _ _ _ (c.new-lines.ensures ∙ c.in_ok-nodes.ensures.fresh) (subst AreNodes (sym c.new-lines.ensures) c.in_ok-nodes.ensures.nodes) c.write_lines.ensures.written

pub returns-clause-memory : goal.returns-clause-memory
returns-clause-memory g c = memory_of _ _ _ _ _ _ _ (c.new-lines.ensures ∙ c.in_ok-nodes.ensures.fresh) c.write_lines.ensures.memory
