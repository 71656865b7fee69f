use Rattle.std.proofs.Common.{rules, arith, ◌≡◌, ℕ, ◌<◌, List, [], ◌++◌, length, get_or, take, sym, ap, subst, ◌∙◌}
use Rattle.std.specs.List.{range_with_len}
use Rattle.std.proofs.Math.ListN.{length-set}
use Rattle.std.proofs.lemmas.Option.{get_or_from_slice_get}
use Rattle.pull_system.specs.declared.pull.Pull.{Pull}
use Rattle.pull_fans.specs.Fans.{pulls_of_fans}
use Rattle.pull_fans.specs.inside.Sources.{AreBySource}
use Rattle.pull_fans.proofs.FirstFans.{IsPutAt, put_twice, fan_there, few_numbers, numbers_pushed}
use Rattle.pull_fans.proofs.places.push_numbers.Goals as goal

pub replace-numbers-requires : goal.replace-numbers-requires
replace-numbers-requires c =
    let there = fan_there c.args.shape.now c.args.fans.now c.args.number c.index-fans-number.result c.requires.system.pulls c.requires.number c.index-fans-number.is (search rules) in
    omega (arith, there.source, c.source-process.ensures, c.requires.numbers.count)

pub push_range-requires : goal.push_range-requires
push_range-requires c = omega (arith, few_numbers c.args.fans.now c.args.number c.index-fans-number.result c.requires.number c.index-fans-number.is, c.requires.fans.are, c.requires.system.count, ap length c.targets-2.ensures)

pub replace-requires : goal.replace-requires
replace-requires c =
    let there = fan_there c.args.shape.now c.args.fans.now c.args.number c.index-fans-number.result c.requires.system.pulls c.requires.number c.index-fans-number.is (search rules) in
    omega (arith, there.source, c.source-process.ensures, c.requires.numbers.count, ap length c.replace-numbers.ensures.list, length-set c.args.by_source.now c.source-process.result c.new.result)

pub returns : goal.returns
returns c =
    let there = fan_there c.args.shape.now c.args.fans.now c.args.number c.index-fans-number.result c.requires.system.pulls c.requires.number c.index-fans-number.is (search rules) in
    let fan = c.index-fans-number.result in
    let src = fan.src in
    let pulls = pulls_of_fans (take c.args.number c.args.fans.now) in
    let old = c.args.by_source.now in
    let new = c.replace.new.self in
    let place = c.source-process.result in
    let at : c.replace-numbers.result ≡ get_or old src [] = sym (get_or_from_slice_get old place c.replace-numbers.result [] c.replace-numbers.ensures.item) ∙ ap (λ (n : ℕ). get_or old n []) c.source-process.ensures in
    let below : place < length old = omega (arith, there.source, c.source-process.ensures, c.requires.numbers.count) in
    let put = put_twice [] old c.replace-numbers.new.self new place c.new.result c.push_range.new.numbers below c.replace-numbers.ensures.list c.replace.ensures.list in
    let item : c.push_range.new.numbers ≡ get_or old src [] ++ range_with_len (length pulls) (length fan.targets) =
    c.in_ok-push_range.ensures
    ∙ ap (λ (ns : List ℕ). ns ++ range_with_len c.args.first (length c.targets-2.result.now)) at
    ∙ ap (λ (n : ℕ). get_or old src [] ++ range_with_len n (length c.targets-2.result.now)) (sym c.requires.fans.are)
    ∙ ap (λ (ts : List ℕ). get_or old src [] ++ range_with_len (length pulls) (length ts)) c.targets-2.ensures in
    let put_is = subst (λ (n : ℕ). IsPutAt [] old new n (get_or old src [] ++ range_with_len (length pulls) (length fan.targets))) c.source-process.ensures (subst (λ (r : List ℕ). IsPutAt [] old new place r) item put) in
    subst (λ (list : List Pull). AreBySource record { lens = c.args.shape.now; pulls = list } new) (sym there.more) (numbers_pushed c.args.shape.now pulls fan old new there.source c.requires.numbers put_is)
