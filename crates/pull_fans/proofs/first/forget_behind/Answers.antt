use Rattle.std.proofs.Common.{rules, arith, ℕ, ◌+◌, ◌<◌, List, [], All, length, get_or, sym, ap, subst, ◌∙◌}
use Rattle.std.specs.Prelude.{IsTrue}
use Rattle.std.proofs.lemmas.Option.{get_or_from_slice_get}
use Rattle.pull_system.specs.System.{IsSystem}
use Rattle.pull_fans.specs.Fans.{FanView, pulls_of_fans}
use Rattle.pull_fans.specs.Sources.{numbers_from}
use Rattle.pull_fans.specs.inside.Asks.{HoldsAsks, StaysWith, no_rows}
use Rattle.pull_fans.specs.declared.asks.AskRows.{AskRows}
use Rattle.pull_fans.specs.inside.First.{IsFromOther}
use Rattle.pull_fans.proofs.FirstFans.{IsPutAt, put_once, forgets, forgets_nothing, first_is, none_forgotten}
use Rattle.pull_fans.proofs.first.forget_behind.Goals as goal

pub loop-process-preserved-then-keeps_asks : goal.loop-process-preserved-then-keeps_asks
loop-process-preserved-then-keeps_asks c =
    let process = c.loop-process.process in
    let asks = c.loop-process.asks in
    let stay = c.args.stay in
    let keeps : IsTrue c.keeps_asks.result = search rules in
    let there : process < length c.args.shape.now = omega (arith, c.loop-process-test.true, c.procs-process-end.ensures.count) in
    let others = subst (λ (fs : List FanView). All (IsFromOther process) (pulls_of_fans fs)) c.split_at.ensures.back (c.keeps_asks.ensures.from keeps) in
    let stays : StaysWith stay (get_or asks process no_rows) = subst (StaysWith stay) (sym (get_or_from_slice_get asks process c.get.result.now no_rows c.get.ensures.item)) (c.keeps_asks.ensures.held keeps) in
    forgets_nothing c.args.shape.now c.args.fans.now stay process c.loop-process.by_source asks c.loop-process.invariant there c.requires.stay others stays

pub held_asks-requires-clause-system : goal.held_asks-requires-clause-system
held_asks-requires-clause-system c =
    subst (λ (fs : List FanView). IsSystem record { lens = c.args.shape.now; pulls = pulls_of_fans fs }) (sym c.split_at.ensures.front) (first_is c.args.shape.now c.args.fans.now c.args.stay c.requires.system)

pub loop-process-preserved : goal.loop-process-preserved
loop-process-preserved c =
    let lens = c.args.shape.now in
    let fans = c.args.fans.now in
    let process = c.loop-process.process in
    let numbers = c.in_ok-numbers.numbers in
    let rows = c.in_ok-rows.rows in
    let so_far = c.loop-process.invariant in
    let there : process < length lens = omega (arith, c.loop-process-test.true, c.procs-process-end.ensures.count) in
    let by : IsPutAt [] c.loop-process.by_source c.replace.new.self process numbers =
    subst (λ (list : List (List ℕ)). IsPutAt [] c.loop-process.by_source list process numbers) (sym c.replace.ensures.list) (put_once [] c.loop-process.by_source process numbers (omega (arith, there, so_far.numbers))) in
    let put : IsPutAt no_rows c.loop-process.asks c.replace-in-loop-process.new.self process rows =
    subst (λ (list : List AskRows). IsPutAt no_rows c.loop-process.asks list process rows) (sym c.replace-in-loop-process.ensures.list) (put_once no_rows c.loop-process.asks process rows (omega (arith, there, so_far.count))) in
    let made = c.in_ok-numbers.ensures ∙ ap (λ (fs : List FanView). numbers_from (pulls_of_fans fs) process (length (pulls_of_fans fs))) c.split_at.ensures.front in
    let asked = subst (λ (fs : List FanView). HoldsAsks record { lens = lens; pulls = pulls_of_fans fs } fs process (get_or lens process 0 + 2) rows) c.split_at.ensures.front c.in_ok-rows.ensures in
    forgets lens fans c.args.stay process c.loop-process.by_source c.replace.new.self c.loop-process.asks c.replace-in-loop-process.new.self numbers rows so_far by put made asked

pub loop-process-init : goal.loop-process-init
loop-process-init c = none_forgotten c.args.shape.now c.args.fans.now c.args.stay c.args.by_source.now c.args.asks.now c.requires.numbers c.requires.asks
