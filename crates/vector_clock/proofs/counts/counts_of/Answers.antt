use Rattle.std.proofs.Common.{ℕ, subst, sym, length, arith}
use Rattle.std.proofs.lemmas.Result.{IfOk-weaker}
use Rattle.greatest_reach.specs.Graph.{StartsIn}
use Rattle.vector_clock.proofs.CountLaws.{starts_there, counts_found}
use Rattle.vector_clock.proofs.Readers.{readers_are_nodes}
use Rattle.vector_clock.proofs.counts.counts_of.Goals as goal

pub greatest-requires-clause-graph : goal.greatest-requires-clause-graph
greatest-requires-clause-graph c = readers_are_nodes c.args.batch.now c.args.nodes.now (length c.args.batch.now) c.args.readers.now (omega arith) c.requires.readers

pub greatest-requires-clause-there : goal.greatest-requires-clause-there
greatest-requires-clause-there c =
    subst (λ (n : ℕ). StartsIn n c.in_ok-starts.starts.items) (sym c.requires.readers.nodes_are)
    (starts_there c.args.order.now c.args.process c.args.batch.now c.args.nodes.now c.in_ok-starts.starts.items c.in_ok-starts.ensures)

pub returns : goal.returns
returns c = IfOk-weaker c.greatest.result _ _ (λ values is. counts_found c.args.order.now c.args.process c.args.batch.now c.args.nodes.now c.args.readers.now c.in_ok-starts.starts.items values.items c.requires.readers.nodes_are c.in_ok-starts.ensures is) c.greatest.ensures
