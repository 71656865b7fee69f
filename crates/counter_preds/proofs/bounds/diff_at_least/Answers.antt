use Rattle.std.proofs.Common.{rules, ◌≡◌, ◌↔◌, pos, ◌-ℤ◌, ◌≤ℤ◌, List, [], ◌∷◌, length, map}
use Rattle.std.specs.Prelude.{All}
use Rattle.std.proofs.lemmas.Result.{IfOk-weaker}
use Rattle.pull_system.specs.declared.pull.Pull.{Pull}
use Rattle.pull_system.specs.System.{IsPull}
use Rattle.pull_system.specs.Pulls.{ClosedUnder}
use Rattle.counter_preds.specs.Counters.{value_within, at_least_pull}
use Rattle.counter_preds.proofs.Tables.{pull_fits, at_least_closes}
use Rattle.counter_preds.proofs.bounds.diff_at_least.Goals as goal

pub returns-clause-pulls : goal.returns-clause-pulls
returns-clause-pulls c = search rules

pub returns-clause-fit : goal.returns-clause-fit
returns-clause-fit c =
    IfOk-weaker c.only.result (λ (ps : List Pull). ps ≡ at_least_pull c.args.states.now c.args.left c.args.right c.args.k ∷ []) (λ (ps : List Pull). All (IsPull (map length c.args.states.now.events)) ps)
    (λ ps is. pull_fits c.args.states.now c.args.right c.args.left c.args.k (pos 0) c.requires.counters.right c.requires.counters.left c.requires.counters.right_rises ps is) (returns-clause-pulls c)

pub returns-clause-closed : goal.returns-clause-closed
returns-clause-closed c = λ v within.
    IfOk-weaker c.only.result (λ (ps : List Pull). ps ≡ at_least_pull c.args.states.now c.args.left c.args.right c.args.k ∷ [])
    (λ (ps : List Pull). ClosedUnder ps v ↔ (c.args.k ≤ℤ (value_within c.args.states.now c.args.left v -ℤ value_within c.args.states.now c.args.right v)))
    (λ ps is. at_least_closes c.args.states.now c.args.left c.args.right c.args.k c.requires.counters.left_rises c.requires.counters.right_rises ps is v within) (returns-clause-pulls c)
