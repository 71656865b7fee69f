use Rattle.std.proofs.Common.{rules, ◌≡◌, ◌+◌, ◌++◌, ◌∙◌, ℕ, List, length, set, ap, refl, subst}
use Rattle.pota_base.specs.Limits.{most_processes}
use Rattle.pull_system.proofs.Starts.{IsPast, past_none, past_more, start_put, past_whole, zeros_of}
use Rattle.pull_system.proofs.rows.push_start.Goals as goal

pub loop-process-init : goal.loop-process-init
loop-process-init c = record {
  past = past_none _ _;
  zeros = c.in_ok-extend_from_slice.ensures.items ∙ ap (λ (xs : List ℕ). c.args.words.now.items ++ xs) (zeros_of most_processes (length c.args.lens.now) c.requires.few);
}

pub returns-then-left-len : goal.returns-then-left-len
returns-then-left-len c =
    let begin : c.len-begin.result ≡ length c.args.words.now.items = search rules in
    ap (λ (i : ℕ). set c.loop-process.words.items (i + c.loop-process.process) c.loop-process.left) begin
    ∙ ap (λ (xs : List ℕ). set xs (length c.args.words.now.items + c.loop-process.process) c.loop-process.left) c.loop-process.invariant.zeros
    ∙ start_put c.args.words.now.items c.args.lens.now _ c.args.row c.loop-process.process c.loop-process.left c.loop-process.invariant.past (search rules) (search rules) refl

pub loop-process-preserved : goal.loop-process-preserved
loop-process-preserved c = record {
  past = past_more c.args.lens.now c.args.row c.loop-process.process c.loop-process.left c.loop-process.invariant.past (search rules) (search rules);
  zeros = c.loop-process.invariant.zeros;
}

pub returns : goal.returns
returns c =
    let whole : c.loop-process.process ≡ length c.args.lens.now = search rules in
    let P : ℕ → Type 0 = λ n. IsPast c.args.lens.now c.args.row n c.loop-process.left in
    c.loop-process.invariant.zeros ∙ ap (λ (xs : List ℕ). c.args.words.now.items ++ xs) (past_whole c.args.lens.now c.args.row c.loop-process.left (subst P whole c.loop-process.invariant.past) _ refl)
