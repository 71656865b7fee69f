use Rattle.std.proofs.Common.{rules, ◌∙◌, ◌≡◌, ◌+◌, ◌-◌, ◌++◌, ℕ, List, sum, take, get_or, ap}
use Rattle.pull_system.specs.Rows.{start_of, row_block}
use Rattle.pull_system.proofs.GrownBlocks.{grown_bottom, grown_process}
use Rattle.pull_system.proofs.rows.grow_words.Goals as goal

pub loop-process-init : goal.loop-process-init
loop-process-init c =
    c.in_ok-extend_from_slice.ensures.items
    ∙ ap (λ (xs : List ℕ). xs ++ c.row.result.now) c.in_ok-words.ensures.items
    ∙ c.row.ensures.words
    ∙ grown_bottom c.args.shape.now c.args.old.now c.procs.ensures.shape.some c.requires.count

pub loop-process-preserved : goal.loop-process-preserved
loop-process-preserved c =
    let lens : List ℕ = c.args.shape.now in
    let process : ℕ = c.loop-process.process in
    let events : c.len_of.result ≡ get_or c.args.old.now.lens process 0 = c.len_of.ensures.len ∙ ap (λ (ls : List ℕ). get_or ls process 0) c.shape.ensures.shape in
    grown_process lens c.args.old.now process c.requires (search rules) c.loop-process.words.items c.push_kept.new.words.items c.push_new.new.words.items
    c.loop-process.invariant c.in_ok-push_kept.ensures
    (c.in_ok-push_new.ensures
    ∙ ap (λ (n : ℕ). c.push_kept.new.words.items ++ row_block (start_of lens) (sum (take process lens) + 1 + n) (get_or lens process 0 - n)) events)
