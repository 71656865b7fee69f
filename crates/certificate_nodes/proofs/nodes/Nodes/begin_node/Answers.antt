use Rattle.std.proofs.Common.{◌≡◌, ◌<◌, Some, length, rules, sym, subst}
use Rattle.certificate_table.specs.Begun.{BegunView, fresh_rows}
use Rattle.certificate_nodes.specs.Plans.{system_at}
use Rattle.certificate_nodes.specs.Nodes.{IsPresent, MayBeginNode, NodesView}
use Rattle.certificate_nodes.proofs.Keeping.{fresh_present, next_there}
use Rattle.certificate_nodes.proofs.nodes.Nodes.begin_node.Goals as goal

pub invariant_of-self : goal.invariant_of-self
invariant_of-self g c =
    let v : NodesView = record { order = c.self.inside.run; plan = c.self.inside.plan; slices = c.self.inside.slices; present = c.self.inside.present } in
    let may : MayBeginNode c.args.self.now c.args.number = search rules in
    let less : length v.slices < length v.plan.nodes = subst (λ (u : NodesView). length u.slices < length u.plan.nodes) (sym c.self.view_is) (next_there c.args.self.now c.give_slice.new.self c.args.number may c.in_ok-give_slice.ensures) in
    let is : c.in_ok-next_rows.field-0 ≡ fresh_rows (system_at v.order v.plan v.slices (length v.slices)) =
    subst (λ (u : NodesView). c.in_ok-next_rows.field-0 ≡ fresh_rows (system_at u.order u.plan u.slices (length u.slices))) (sym c.self.view_is) c.in_ok-next_rows.ensures in
    record {
      order = c.self.invariant.order;
      shape = c.self.invariant.shape;
      plan = c.self.invariant.plan;
      given = c.self.invariant.given;
      present = subst (λ (rows : BegunView). IsPresent v.order v.plan v.slices (Some rows)) (sym is) (fresh_present v c.self.invariant less);
    }
