use Rattle.std.proofs.Common.{◌≡◌, ◌↔◌, ◌+◌, ◌≤◌, List, [], ◌∷◌, subst, rules}
use Rattle.std.specs.Prelude.{All}
use Rattle.std.proofs.lemmas.Result.{IfOk-weaker}
use Rattle.pull_system.specs.declared.pull.Pull.{Pull}
use Rattle.pull_system.specs.System.{IsPull}
use Rattle.pull_system.specs.Pulls.{ClosedUnder}
use Rattle.channel_preds.specs.Channels.{sent_at, received_at, at_least_pull}
use Rattle.channel_preds.specs.inside.Channels.{IsChannel}
use Rattle.channel_preds.proofs.Tables.{at_least_fits, at_least_closes}
use Rattle.channel_preds.proofs.channel.at_least.Goals as goal

pub returns-clause-pulls : goal.returns-clause-pulls
returns-clause-pulls c = search rules

pub returns-clause-fit : goal.returns-clause-fit
returns-clause-fit c = λ lens fits.
    let are = subst IsChannel c.channel.view_is c.channel.invariant in
    IfOk-weaker c.only.result (λ (ps : List Pull). ps ≡ at_least_pull c.args.channel.now c.args.k ∷ []) (λ (ps : List Pull). All (IsPull lens) ps)
    (λ ps is. at_least_fits c.args.channel.now are c.args.k ps is lens fits) (returns-clause-pulls c)

pub returns-clause-closed : goal.returns-clause-closed
returns-clause-closed c = λ v within.
    let are = subst IsChannel c.channel.view_is c.channel.invariant in
    IfOk-weaker c.only.result (λ (ps : List Pull). ps ≡ at_least_pull c.args.channel.now c.args.k ∷ [])
    (λ (ps : List Pull). ClosedUnder ps v ↔ (received_at c.args.channel.now v + c.args.k ≤ sent_at c.args.channel.now v))
    (λ ps is. at_least_closes c.args.channel.now are c.args.k ps is v within) (returns-clause-pulls c)
