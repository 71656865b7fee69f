use Rattle.std.proofs.Common.{rules, ◌≡◌, ◌/◌, ◌<◌, ℕ, List, length, get_or, map, ap, ◌∙◌}
use Rattle.pull_fans.proofs.LongerFans.{cut_row, longer_all, longer_next, longer_none, number_at, numbers_small}
use Rattle.pull_fans.proofs.growing.longer_fan.Goals as goal

pub loop-x-init : goal.loop-x-init
loop-x-init c = longer_none c.args.fan c.keep.new.self c.args.stay c.args.procs c.args.more.now c.keep.ensures

pub push_row-requires-clause-entries : goal.push_row-requires-clause-entries
push_row-requires-clause-entries c =
    let more = c.args.more.now in
    let x = c.loop-x.x in
    let below : x < length more / c.args.procs = search rules in
    let numbers : c.deref.result.now ≡ map (λ place. get_or (cut_row more c.args.procs x) place 0) c.args.fan.targets =
    c.deref.ensures.value ∙ c.in_ok-gather.ensures ∙ ap (λ (ts : List ℕ). map (λ place. get_or (cut_row more c.args.procs x) place 0) ts) (c.targets.ensures ∙ c.loop-x.invariant.targets) in
    numbers_small c.args.fan more c.deref.result.now c.args.procs x c.requires.rows below numbers

pub loop-x-preserved : goal.loop-x-preserved
loop-x-preserved c =
    let more = c.args.more.now in
    let x = c.loop-x.x in
    let numbers : c.deref.result.now ≡ map (λ place. get_or (cut_row more c.args.procs x) place 0) c.args.fan.targets =
    c.deref.ensures.value ∙ c.in_ok-gather.ensures ∙ ap (λ (ts : List ℕ). map (λ place. get_or (cut_row more c.args.procs x) place 0) ts) (c.targets.ensures ∙ c.loop-x.invariant.targets) in
    longer_next c.args.fan c.loop-x.fan c.push_row.new.self c.args.stay c.args.procs x more c.deref.result.now c.loop-x.invariant c.push_row.ensures.source c.push_row.ensures.targets c.in_ok-push_row.ensures.row
    (λ i there. number_at more c.args.fan.targets c.deref.result.now c.args.procs x i numbers there (c.requires.rows.targets i there))

pub returns : goal.returns
returns c =
    let all : c.loop-x.x ≡ length c.args.more.now / c.args.procs = search rules in
    longer_all c.args.fan c.loop-x.fan c.args.stay c.args.procs c.loop-x.x c.args.more.now c.loop-x.invariant all
