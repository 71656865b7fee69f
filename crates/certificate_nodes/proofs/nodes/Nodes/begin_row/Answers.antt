use Rattle.std.proofs.Common.{Option, inl, inr, sym, subst}
use Rattle.std.proofs.lemmas.Bool.{cases_Bool}
use Rattle.certificate_table.specs.Begun.{BegunView}
use Rattle.certificate_nodes.specs.Nodes.{AreNodes, NodesView}
use Rattle.certificate_nodes.proofs.Keeping.{begun_keeps}
use Rattle.certificate_nodes.proofs.nodes.Nodes.begin_row.Goals as goal

pub invariant_of-self : goal.invariant_of-self
invariant_of-self g c =
    let v : NodesView = record { order = c.self.inside.run; plan = c.self.inside.plan; slices = c.self.inside.slices; present = c.self.inside.present } in
    let with_rows : Option BegunView → NodesView = λ rows. record { order = v.order; plan = v.plan; slices = v.slices; present = rows } in
    elim (cases_Bool c.begin.result) [
      | inl may ↦ subst (λ (rows : Option BegunView). AreNodes (with_rows rows)) (sym (c.begin.ensures.begun may)) (begun_keeps v c.args.row c.args.after c.self.invariant (c.begin.ensures.allowed.0 may))
      | inr no_step ↦ subst (λ (rows : Option BegunView). AreNodes (with_rows rows)) (sym (c.begin.ensures.same no_step)) c.self.invariant
    ]
