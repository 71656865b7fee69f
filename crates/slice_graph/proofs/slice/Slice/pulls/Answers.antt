use Rattle.std.proofs.Common.{◌↔◌, List, ap, sym, subst, ◌∙◌}
use Rattle.std.proofs.lemmas.Result.{IfOk-weaker}
use Rattle.run_model.specs.Slice.{Cuts}
use Rattle.pull_system.specs.declared.pull.Pull.{Pull}
use Rattle.pull_system.specs.Pulls.{ClosedUnder}
use Rattle.pull_fans.specs.Fans.{pulls_of_fans}
use Rattle.slice_graph.specs.Views.{slice_of}
use Rattle.slice_graph.proofs.slice.Slice.pulls.Goals as goal

pub returns-clause-closed : goal.returns-clause-closed
returns-clause-closed c = λ o fits cut here. IfOk-weaker c.pulls_of.result _ _ (λ pulls is. subst (λ (ps : List Pull). ClosedUnder ps cut ↔ Cuts o (slice_of c.args.self.now) cut) (sym (is ∙ ap pulls_of_fans c.as_slice.ensures))
    (c.in_ok-fans.ensures.closed o fits cut here)) c.pulls_of.ensures
