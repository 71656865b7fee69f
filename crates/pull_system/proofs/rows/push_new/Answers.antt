use Rattle.std.proofs.Common.{◌≡◌, ◌+◌, ◌-◌, ◌++◌, ◌∙◌, ℕ, List, sum, take, ap, arith}
use Rattle.pull_system.specs.Rows.{start_of, row_block}
use Rattle.pull_system.proofs.GrownBlocks.{rows_more}
use Rattle.pull_system.proofs.rows.push_new.Goals as goal

pub loop-before-preserved : goal.loop-before-preserved
loop-before-preserved c =
    let lens : List ℕ = c.args.shape.now in
    let first : ℕ = sum (take c.args.process lens) + 1 + c.args.events in
    let done : ℕ = c.loop-before.before - c.args.events in
    let row : c.row_of-row.result ≡ first + done = omega (arith, c.row_of-row.ensures.row) in
    let next : done + 1 ≡ c.loop-before.before + 1 - c.args.events = omega arith in
    rows_more (start_of lens) c.args.words.now.items c.loop-before.words.items c.push_start.new.words.items first done c.loop-before.invariant
    (c.in_ok-push_start.ensures
    ∙ ap (λ (ls : List ℕ). c.loop-before.words.items ++ start_of ls c.row_of-row.result) c.lens.ensures.lens
    ∙ ap (λ (r : ℕ). c.loop-before.words.items ++ start_of lens r) row)
    ∙ ap (λ (n : ℕ). c.args.words.now.items ++ row_block (start_of lens) first n) next
