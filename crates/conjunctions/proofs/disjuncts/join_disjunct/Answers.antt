use Rattle.std.proofs.Common.{◌≡◌, Option, sym, subst}
use Rattle.slice_graph.specs.Views.{SliceView}
use Rattle.graft.specs.Joined.{joined_views}
use Rattle.conjunctions.specs.inside.Joining.{so_far}
use Rattle.conjunctions.proofs.Answered.{first_alone}
use Rattle.conjunctions.proofs.disjuncts.join_disjunct.Goals as goal

pub returns-in-None : goal.returns-in-None
returns-in-None c =
    let one = c.args.one in
    subst (λ (before : Option SliceView). one ≡ joined_views (so_far one.lens before) one) (sym c.in-None.is) (first_alone one c.shape-shape.ensures.rows.count)
