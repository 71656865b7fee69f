use Rattle.std.proofs.Common.{rules, arith, ◌≡◌, ℕ, ◌+◌, ◌<◌, List, length, get_or, take, sym, subst, ◌∙◌}
use Rattle.pull_system.specs.declared.pull.Pull.{Pull}
use Rattle.pull_fans.specs.Fans.{pulls_of_fans}
use Rattle.pull_fans.specs.inside.Asks.{AreAskRows, AreRaised}
use Rattle.pull_fans.proofs.Raising.{ask_rows_more, ask_rows_other, written_back}
use Rattle.pull_fans.proofs.Placing.{item_is, pulls_more, fan_fits}
use Rattle.pull_fans.proofs.asks.ask_rows.Goals as goal

pub loop-fan-preserved-then-source-process : goal.loop-fan-preserved-then-source-process
loop-fan-preserved-then-source-process c =
    let there : c.loop-fan.fan-index < length c.args.fans.now = search rules in
    let is = item_is c.args.fans.now c.args.fans.now c.loop-fan.fan-index c.fan-item.result (search rules) (search rules) c.fan-item.is in
    let values : ℕ = get_or c.args.shape.now c.args.process 0 + 2 in
    let P : List Pull → Type 0 = λ pulls. AreAskRows record { lens = c.args.shape.now; pulls = pulls } c.args.process values c.loop-fan.rows.items in
    subst P (sym (pulls_more c.args.fans.now c.loop-fan.fan-index c.fan-item.result there is))
    (ask_rows_other c.args.shape.now (pulls_of_fans (take c.loop-fan.fan-index c.args.fans.now)) c.fan-item.result c.args.process values c.loop-fan.rows.items c.loop-fan.invariant (λ same. c.if-source-process.true (c.source.ensures ∙ same)))

pub raise-requires-clause-values : goal.raise-requires-clause-values
raise-requires-clause-values c =
    let there : c.loop-fan.fan-index < length c.args.fans.now = search rules in
    let is = item_is c.args.fans.now c.args.fans.now c.loop-fan.fan-index c.fan-item.result (search rules) (search rules) c.fan-item.is in
    let fits = fan_fits c.args.shape.now c.args.fans.now c.loop-fan.fan-index c.args.process c.fan-item.result c.requires.system.pulls there is (search rules) in λ i inside. omega (arith, fits.sizes i inside, c.len_of.ensures.len)

pub raise-requires-clause-targets : goal.raise-requires-clause-targets
raise-requires-clause-targets c =
    let there : c.loop-fan.fan-index < length c.args.fans.now = search rules in
    let is = item_is c.args.fans.now c.args.fans.now c.loop-fan.fan-index c.fan-item.result (search rules) (search rules) c.fan-item.is in
    let fits = fan_fits c.args.shape.now c.args.fans.now c.loop-fan.fan-index c.args.process c.fan-item.result c.requires.system.pulls there is (search rules) in λ i inside. omega (arith, fits.targets i inside, c.procs-procs.ensures.count)

pub loop-fan-preserved : goal.loop-fan-preserved
loop-fan-preserved c =
    let there : c.loop-fan.fan-index < length c.args.fans.now = search rules in
    let is = item_is c.args.fans.now c.args.fans.now c.loop-fan.fan-index c.fan-item.result (search rules) (search rules) c.fan-item.is in
    let from : c.fan-item.result.src ≡ c.args.process = search rules in
    let fits = fan_fits c.args.shape.now c.args.fans.now c.loop-fan.fan-index c.args.process c.fan-item.result c.requires.system.pulls there is from in
    let values : ℕ = get_or c.args.shape.now c.args.process 0 + 2 in
    let pulls : List Pull = pulls_of_fans (take c.loop-fan.fan-index c.args.fans.now) in
    let read : c.deref_mut.result.now ≡ c.loop-fan.rows.items = search rules in
    let P : List ℕ → Type 0 = λ rows. AreRaised c.fan-item.result c.procs-procs.result (c.len_of.result + 2) rows c.raise.new.rows in
    let Q : ℕ → Type 0 = λ n. AreRaised c.fan-item.result n (c.len_of.result + 2) c.loop-fan.rows.items c.raise.new.rows in
    let R : ℕ → Type 0 = λ n. AreRaised c.fan-item.result (length c.args.shape.now) (n + 2) c.loop-fan.rows.items c.raise.new.rows in
    let raised : AreRaised c.fan-item.result (length c.args.shape.now) values c.loop-fan.rows.items c.raise.new.rows = subst R c.len_of.ensures.len (subst Q c.procs-procs.ensures.count (subst P read c.raise.ensures)) in
    let back = written_back c.loop-fan.rows.len c.raise.new.rows c.loop-fan.rows.items (search rules) raised.size in
    let S : List Pull → Type 0 = λ ps. AreAskRows record { lens = c.args.shape.now; pulls = ps } c.args.process values c.raise.new.rows in
    let T : List ℕ → Type 0 = λ rows. AreAskRows record { lens = c.args.shape.now; pulls = pulls_of_fans (take (c.loop-fan.fan-index + 1) c.args.fans.now) } c.args.process values rows in
    subst T (sym back)
    (subst S (sym (pulls_more c.args.fans.now c.loop-fan.fan-index c.fan-item.result there is))
    (ask_rows_more c.args.shape.now pulls c.fan-item.result c.args.process values c.loop-fan.rows.items c.raise.new.rows c.loop-fan.invariant raised from fits.targets))
