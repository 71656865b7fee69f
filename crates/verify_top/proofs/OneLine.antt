-- What a line of a certificate leaves of its nodes is one thing.
use Rattle.std.proofs.Common.{◌≡◌, Option, Some, List, length, sym, ap, ◌∙◌}
use Rattle.run_model.specs.Cut.{Clocks}
use Rattle.slice_graph.specs.Views.{SliceView}
use Rattle.certificate_lines.specs.declared.line.Line.TheVariants as line
use Rattle.certificate_text.specs.Bytes.{OneFollows}
use Rattle.certificate_table.specs.Begun.{BegunView, fresh_rows}
use Rattle.certificate_nodes.specs.declared.plan.Plan.{Plan}
use Rattle.certificate_nodes.specs.Plans.{system_at}
use Rattle.certificate_nodes.specs.Nodes.{NodesView}
use Rattle.certificate.specs.Following.{Follows}
use Rattle.certificate.proofs.OneSlice.{gives_one}

abbrev made : Clocks → Plan → List SliceView → Option BegunView → NodesView
made o plan slices present = record { order = o; plan = plan; slices = slices; present = present }

same_nodes : (a b : NodesView) → a.order ≡ b.order → a.plan ≡ b.plan → a.slices ≡ b.slices → a.present ≡ b.present → a ≡ b
same_nodes a b order plan slices present =
    ap (λ (o : Clocks). made o a.plan a.slices a.present) order
    ∙ ap (λ (p : Plan). made b.order p a.slices a.present) plan
    ∙ ap (λ (ss : List SliceView). made b.order b.plan ss a.present) slices
    ∙ ap (made b.order b.plan b.slices) present

pub one_follows : OneFollows Follows
one_follows v (line.Node number) a b first second =
    let slices : a.slices ≡ b.slices = gives_one v.order v.plan v.slices v.present a.slices b.slices first.1.gives second.1.gives in
    same_nodes a b (first.1.order ∙ sym second.1.order) (first.1.plan ∙ sym second.1.plan) slices
    (first.1.present ∙ ap (λ (ss : List SliceView). Some (fresh_rows (system_at v.order v.plan ss (length ss)))) slices ∙ sym second.1.present)
one_follows v (line.Row row other) a b first second = first.1 ∙ sym second.1
one_follows v (line.Raise pull value) a b first second = first.1 ∙ sym second.1
one_follows v (line.Verdict told) a b first second =
    same_nodes a b (first.1.order ∙ sym second.1.order) (first.1.plan ∙ sym second.1.plan)
    (gives_one v.order v.plan v.slices v.present a.slices b.slices first.1.gives second.1.gives) (first.1.present ∙ sym second.1.present)
