use Rattle.std.proofs.Common.{◌≡◌, ◌<◌, take, drop, get_or, length, arith, refl, ap, subst, ◌∙◌}
use Rattle.std.specs.Fmt.{decimal}
use Rattle.log_lines.specs.inside.Frames.{clock_front}
use Rattle.log_lines.proofs.FrameLaws.{split_at, front_more}
use Rattle.log_lines.proofs.frames.split_text.Goals as goal

pub overflow_add-start : goal.overflow_add-start
overflow_add-start c =
    let there : c.loop-k.k < length c.args.counts.now = omega (arith, c.loop-k-test.true, c.requires.there) in
    let split = split_at c.args.counts.now c.args.text.now c.loop-k.k c.loop-k.start c.width_of.result there c.requires.spelled c.loop-k.invariant c.width_of.ensures in
    omega (arith, split.whole)

pub overflow_add-start-in-loop-k : goal.overflow_add-start-in-loop-k
overflow_add-start-in-loop-k c =
    let there : c.loop-k.k < length c.args.counts.now = omega (arith, c.loop-k-test.true, c.requires.there) in
    let split = split_at c.args.counts.now c.args.text.now c.loop-k.k c.loop-k.start c.width_of.result there c.requires.spelled c.loop-k.invariant c.width_of.ensures in
    omega (arith, split.whole)

pub loop-k-preserved : goal.loop-k-preserved
loop-k-preserved c =
    let there : c.loop-k.k < length c.args.counts.now = omega (arith, c.loop-k-test.true, c.requires.there) in
    let more = front_more c.args.counts.now c.loop-k.k there in
    omega (arith, more, c.loop-k.invariant, c.width_of.ensures)

pub split_at-requires : goal.split_at-requires
split_at-requires c =
    let end : c.loop-k.k ≡ c.args.place = omega (arith, c.loop-k-test.false, c.loop-k.auto.k-end) in
    let start = subst (λ p. c.loop-k.start ≡ length (clock_front (take p c.args.counts.now))) end c.loop-k.invariant in
    (split_at c.args.counts.now c.args.text.now c.args.place c.loop-k.start (length (decimal (get_or c.args.counts.now c.args.place 0))) c.requires.there c.requires.spelled start refl).first

pub split_at-requires-2 : goal.split_at-requires-2
split_at-requires-2 c =
    let end : c.loop-k.k ≡ c.args.place = omega (arith, c.loop-k-test.false, c.loop-k.auto.k-end) in
    let start = subst (λ p. c.loop-k.start ≡ length (clock_front (take p c.args.counts.now))) end c.loop-k.invariant in
    let split = split_at c.args.counts.now c.args.text.now c.args.place c.loop-k.start c.width_of-2.result c.requires.there c.requires.spelled start c.width_of-2.ensures in
    omega (arith, split.second, ap length c.split_at.ensures.back)

pub returns-clause-before : goal.returns-clause-before
returns-clause-before c =
    let end : c.loop-k.k ≡ c.args.place = omega (arith, c.loop-k-test.false, c.loop-k.auto.k-end) in
    let start = subst (λ p. c.loop-k.start ≡ length (clock_front (take p c.args.counts.now))) end c.loop-k.invariant in
    let split = split_at c.args.counts.now c.args.text.now c.args.place c.loop-k.start c.width_of-2.result c.requires.there c.requires.spelled start c.width_of-2.ensures in
    c.split_at.ensures.front ∙ split.before

pub returns-clause-behind : goal.returns-clause-behind
returns-clause-behind c =
    let end : c.loop-k.k ≡ c.args.place = omega (arith, c.loop-k-test.false, c.loop-k.auto.k-end) in
    let start = subst (λ p. c.loop-k.start ≡ length (clock_front (take p c.args.counts.now))) end c.loop-k.invariant in
    let split = split_at c.args.counts.now c.args.text.now c.args.place c.loop-k.start c.width_of-2.result c.requires.there c.requires.spelled start c.width_of-2.ensures in
    c.split_at-2.ensures.back ∙ ap (drop c.width_of-2.result) c.split_at.ensures.back ∙ split.behind
