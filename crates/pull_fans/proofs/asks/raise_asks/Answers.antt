use Rattle.std.proofs.Common.{rules, arith, ◌≡◌, ℕ, ◌+◌, ◌*◌, ◌<◌, List, length, get_or, take, refl, sym, ap, subst, ◌∙◌}
use Rattle.std.proofs.Math.ListN.{length-set}
use Rattle.pull_system.specs.declared.pull.Pull.{Pull}
use Rattle.pull_system.specs.System.{IsSystem}
use Rattle.pull_fans.specs.Fans.{FanView, pulls_of_fans}
use Rattle.pull_fans.specs.declared.asks.AskRows.TheVariants.{Own, OfFan}
use Rattle.pull_fans.specs.inside.Asks.{AreAskRows, AreAllAsks, AreRaised, no_rows}
use Rattle.pull_fans.proofs.FirstFans.{IsPutAt, put_twice, fan_there, first_is, own_held, all_raised}
use Rattle.pull_fans.proofs.Raising.{ask_rows_more, written_back}
use Rattle.pull_fans.proofs.asks.raise_asks.Goals as goal

pub replace-held-requires : goal.replace-held-requires
replace-held-requires c =
    let there = fan_there c.args.shape.now c.args.fans.now c.args.number c.index-fans-number.result c.requires.system.pulls c.requires.number c.index-fans-number.is (search rules) in
    omega (arith, there.source, c.source-process.ensures, c.requires.asks.count)

pub own_rows-requires-clause-system : goal.own_rows-requires-clause-system
own_rows-requires-clause-system c =
    subst (λ (fs : List FanView). IsSystem record { lens = c.args.shape.now; pulls = pulls_of_fans fs }) (sym c.split_at.ensures.front) (first_is c.args.shape.now c.args.fans.now c.args.number c.requires.system)

pub own_rows-requires-clause-process : goal.own_rows-requires-clause-process
own_rows-requires-clause-process c =
    let there = fan_there c.args.shape.now c.args.fans.now c.args.number c.index-fans-number.result c.requires.system.pulls c.requires.number c.index-fans-number.is (search rules) in
    omega (arith, there.source, c.source-process.ensures)

pub own_rows-requires-clause-held : goal.own_rows-requires-clause-held
own_rows-requires-clause-held c =
    let there = fan_there c.args.shape.now c.args.fans.now c.args.number c.index-fans-number.result c.requires.system.pulls c.requires.number c.index-fans-number.is (search rules) in
    let below : c.source-process.result < length c.args.shape.now = omega (arith, there.source, c.source-process.ensures) in
    own_held c.args.shape.now c.args.fans.now _ c.args.number c.source-process.result c.args.asks.now c.replace-held.result c.requires.asks c.split_at.ensures.front below c.replace-held.ensures.item

pub len_of-requires : goal.len_of-requires
len_of-requires c =
    let there = fan_there c.args.shape.now c.args.fans.now c.args.number c.index-fans-number.result c.requires.system.pulls c.requires.number c.index-fans-number.is (search rules) in
    omega (arith, there.source, c.source-process.ensures)

pub raise-requires-clause-values : goal.raise-requires-clause-values
raise-requires-clause-values c =
    let there = fan_there c.args.shape.now c.args.fans.now c.args.number c.index-fans-number.result c.requires.system.pulls c.requires.number c.index-fans-number.is (search rules) in
    λ i inside. omega (arith, there.fits.sizes i inside, c.len_of.ensures.len, ap (λ (n : ℕ). get_or c.args.shape.now n 0) c.source-process.ensures)

pub raise-requires-clause-targets : goal.raise-requires-clause-targets
raise-requires-clause-targets c =
    let there = fan_there c.args.shape.now c.args.fans.now c.args.number c.index-fans-number.result c.requires.system.pulls c.requires.number c.index-fans-number.is (search rules) in
    λ i inside. omega (arith, there.fits.targets i inside, c.procs.ensures.count)

pub raise-requires-clause-room : goal.raise-requires-clause-room
raise-requires-clause-room c =
    let lens = c.args.shape.now in
    let process = c.source-process.result in
    let read : c.deref_mut.result.now ≡ c.into_vec-rows.result.items = search rules in
    let all : (c.len_of.result + 2) * c.procs.result ≡ (get_or lens process 0 + 2) * length lens = ap (λ (n : ℕ). (n + 2) * c.procs.result) c.len_of.ensures.len ∙ ap (λ (n : ℕ). (get_or lens process 0 + 2) * n) c.procs.ensures.count in
    omega (arith, all, c.in_ok-own_rows.ensures.size, ap length c.into_vec-rows.ensures, ap length read)

pub replace-requires : goal.replace-requires
replace-requires c =
    let there = fan_there c.args.shape.now c.args.fans.now c.args.number c.index-fans-number.result c.requires.system.pulls c.requires.number c.index-fans-number.is (search rules) in
    omega (arith, there.source, c.source-process.ensures, c.requires.asks.count, ap length c.replace-held.ensures.list, length-set c.args.asks.now c.source-process.result (OfFan c.args.number))

pub returns : goal.returns
returns c =
    let there = fan_there c.args.shape.now c.args.fans.now c.args.number c.index-fans-number.result c.requires.system.pulls c.requires.number c.index-fans-number.is (search rules) in
    let lens = c.args.shape.now in
    let fan = c.index-fans-number.result in
    let src = fan.src in
    let process = c.source-process.result in
    let pulls = pulls_of_fans (take c.args.number c.args.fans.now) in
    let old = c.args.asks.now in
    let new = c.replace.new.self in
    let rows = c.into_vec-rows.result.items in
    let values : ℕ = get_or lens src 0 + 2 in
    let first : AreAskRows record { lens = lens; pulls = pulls } process (get_or lens process 0 + 2) c.in_ok-own_rows.field-0 =
    subst (λ (fs : List FanView). AreAskRows record { lens = lens; pulls = pulls_of_fans fs } process (get_or lens process 0 + 2) c.in_ok-own_rows.field-0) c.split_at.ensures.front c.in_ok-own_rows.ensures in
    let P : ℕ → Type 0 = λ n. AreAskRows record { lens = lens; pulls = pulls } n (get_or lens n 0 + 2) c.in_ok-own_rows.field-0 in
    let before : AreAskRows record { lens = lens; pulls = pulls } src values rows =
    subst (λ (r : List ℕ). AreAskRows record { lens = lens; pulls = pulls } src values r) (sym c.into_vec-rows.ensures) (subst P c.source-process.ensures first) in
    let read : c.deref_mut.result.now ≡ rows = search rules in
    let len_is : c.len_of.result ≡ get_or lens src 0 = c.len_of.ensures.len ∙ ap (λ (n : ℕ). get_or lens n 0) c.source-process.ensures in
    let Q : List ℕ → Type 0 = λ r. AreRaised fan c.procs.result (c.len_of.result + 2) r c.raise.new.rows in
    let R : ℕ → Type 0 = λ n. AreRaised fan n (c.len_of.result + 2) rows c.raise.new.rows in
    let S : ℕ → Type 0 = λ n. AreRaised fan (length lens) (n + 2) rows c.raise.new.rows in
    let raised : AreRaised fan (length lens) values rows c.raise.new.rows = subst S len_is (subst R c.procs.ensures.count (subst Q read c.raise.ensures)) in
    let back = written_back c.into_vec-rows.result.len c.raise.new.rows rows (search rules) raised.size in
    let item : c.from_vec.result ≡ c.raise.new.rows = c.from_vec.ensures ∙ back in
    let below : process < length old = omega (arith, there.source, c.source-process.ensures, c.requires.asks.count) in
    let put = put_twice no_rows old c.replace-held.new.self new process _ (Own c.from_vec.result) below c.replace-held.ensures.list c.replace.ensures.list in
    let put_is : IsPutAt no_rows old new src (Own c.raise.new.rows) = subst (λ (n : ℕ). IsPutAt no_rows old new n (Own c.raise.new.rows)) c.source-process.ensures (subst (λ (r : List ℕ). IsPutAt no_rows old new process (Own r)) item put) in
    let more = ask_rows_more lens pulls fan src values rows c.raise.new.rows before raised refl there.fits.targets in
    subst (λ (list : List Pull). AreAllAsks record { lens = lens; pulls = list } c.args.fans.now new) (sym there.more) (all_raised lens pulls fan c.args.fans.now old new c.raise.new.rows c.requires.asks put_is more)
