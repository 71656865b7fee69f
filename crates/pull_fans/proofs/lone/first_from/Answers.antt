use Rattle.std.proofs.Common.{rules, ◌≡◌, List, All, length, ap, refl, sym, subst, ◌∙◌}
use Rattle.pull_system.specs.declared.pull.Pull.{Pull}
use Rattle.pull_fans.specs.inside.First.{IsFromOther}
use Rattle.pull_fans.specs.Fans.{FanView}
use Rattle.pull_fans.proofs.FirstFans.{others_more, others_all, with_no_target}
use Rattle.pull_fans.proofs.Placing.{item_is}
use Rattle.pull_fans.proofs.lone.first_from.Goals as goal
use Rattle.pull_fans.proofs.lone.first_from.Goals.{then-source-process-via-then-source-process, then-source-process-via-else-source-process+then-is_empty}

pub returns-in-loop-number-clause-some : goal.returns-in-loop-number-clause-some
returns-in-loop-number-clause-some c =
    let is = item_is c.args.fans.now c.args.fans.now c.loop-number.number c.index-fans-number.result refl c.loop-number-test.true c.index-fans-number.is in
    let from : c.index-fans-number.result.src ≡ c.args.process = search rules in
    record { there = c.loop-number-test.true; from = ap (λ (fan : FanView). fan.src) is ∙ from; before = c.loop-number.invariant }

pub returns-clause-none : goal.returns-clause-none
returns-clause-none c = λ none. others_all c.args.fans.now c.loop-number.number c.args.process c.loop-number-test.false c.loop-number.invariant

pub loop-number-preserved : goal.loop-number-preserved
loop-number-preserved c =
    let fans = c.args.fans.now in
    let number = c.loop-number.number in
    let fan = c.index-fans-number.result in
    let there = c.loop-number-test.true in
    elim c.then-source-process.branch [
      | then-source-process-via-then-source-process w ↦ others_more fans number c.args.process fan there c.index-fans-number.is (λ same. w.if-source-process.true (c.source.ensures ∙ same)) c.loop-number.invariant
      | then-source-process-via-else-source-process+then-is_empty w ↦
          let none : length fan.targets ≡ 0 = search rules in
          subst (λ (list : List Pull). All (IsFromOther c.args.process) list) (sym (with_no_target fans number fan there c.index-fans-number.is none)) c.loop-number.invariant
    ]
