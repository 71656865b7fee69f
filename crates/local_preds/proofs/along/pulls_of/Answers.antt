use Rattle.std.proofs.Common.{◌≡◌, ◌↔◌, ℕ, ◌+◌, List, [], ◌∷◌, length, get_or, subst, arith, rules}
use Rattle.std.specs.Prelude.{All, true, false, replicate}
use Rattle.std.proofs.lemmas.Result.{IfOk-weaker}
use Rattle.pull_system.specs.declared.pull.Pull.{Pull}
use Rattle.pull_system.specs.System.{IsPull}
use Rattle.pull_system.specs.Pulls.{ClosedUnder}
use Rattle.local_preds.specs.LocalPulls.{local_pull}
use Rattle.local_preds.proofs.Truths.{ToldFrom, told_none, told_more, all_told, staying, told_pulls, pulls_fit, pulls_close}
use Rattle.local_preds.proofs.along.pulls_of.Goals as goal
use Rattle.local_preds.proofs.along.pulls_of.Goals.{then-row-position, else-row-position}

pub loop-position-init : goal.loop-position-init
loop-position-init c =
    let filled : c.in_ok-table.table.items ≡ replicate (length c.args.row.now + 1) (c.len_of-none.result + 1) = search rules in
    told_none c.args.row.now _ _ (omega (arith, c.len_of-none.ensures.len, c.requires.row)) filled

pub loop-position-preserved : goal.loop-position-preserved
loop-position-preserved c = elim c.if-row-position.branch [
  | then-row-position w ↦
      told_more c.args.row.now c.loop-position.position true c.loop-position.next _ _ (omega arith) (omega arith) w.if-row-position.true c.loop-position.invariant w.next-is
  | else-row-position w ↦
      told_more c.args.row.now c.loop-position.position false c.loop-position.next _ _ (omega arith) (omega arith) w.if-row-position.false c.loop-position.invariant w.next-is
]

pub returns-clause-pulls : goal.returns-clause-pulls
returns-clause-pulls c =
    let end : c.loop-position.position ≡ 0 = omega arith in
    let all = subst (λ (n : ℕ). ToldFrom c.args.row.now n c.loop-position.next c.loop-position.table.items) end c.loop-position.invariant in
    IfOk-weaker c.stay.result (λ (ps : List Pull). ps ≡ staying c.args.process c.loop-position.table.items) (λ (ps : List Pull). ps ≡ local_pull c.args.process c.args.row.now ∷ [])
    (λ ps is. told_pulls ps c.args.process _ _ (all_told c.args.row.now c.loop-position.next _ all) is) c.stay.ensures

pub returns-clause-fit : goal.returns-clause-fit
returns-clause-fit c =
    IfOk-weaker c.stay.result (λ (ps : List Pull). ps ≡ local_pull c.args.process c.args.row.now ∷ []) (λ (ps : List Pull). All (IsPull c.args.shape.now) ps)
    (λ ps is. pulls_fit c.args.shape.now c.args.process c.args.row.now ps is c.requires.process c.requires.row) (returns-clause-pulls c)

pub returns-clause-closed : goal.returns-clause-closed
returns-clause-closed c = λ v within.
    IfOk-weaker c.stay.result (λ (ps : List Pull). ps ≡ local_pull c.args.process c.args.row.now ∷ [])
    (λ (ps : List Pull). ClosedUnder ps v ↔ (get_or c.args.row.now (get_or v c.args.process 0) false ≡ true))
    (λ ps is. pulls_close c.args.process c.args.row.now ps is v (omega (arith, c.requires.row))) (returns-clause-pulls c)
