use Rattle.std.proofs.Common.{◌∙◌, ap, sym, subst, length}
use Rattle.vector_clock.specs.declared.places.Met.{Met}
use Rattle.vector_clock.specs.inside.Nodes.{IsTarget}
use Rattle.vector_clock.specs.Messages.{sends}
use Rattle.vector_clock.proofs.Looks.{index_target}
use Rattle.vector_clock.proofs.nodes.send_of.Goals as goal

pub returns-in-None-clause-there : goal.returns-in-None-clause-there
returns-in-None-clause-there c = λ batch are.
    subst (IsTarget c.args.lens.now (length batch)) (sym c.in_batch.ensures)
    (index_target c.args.lens.now (sends c.new-message.result) batch c.met.result.sent (ap (λ (x : Met). x.sent) c.met.ensures ∙ are c.new-message.result))
