use Rattle.std.proofs.Common.{ℕ, ◌+◌, List, [], ◌∷◌, ◌++◌, ap, sym, ◌∙◌, append_assoc}
use Rattle.std.specs.List.{range_with_len}
use Rattle.pull_fans.proofs.FirstFans.{range_next}
use Rattle.pull_fans.proofs.places.push_range.Goals as goal

pub loop-k-preserved : goal.loop-k-preserved
loop-k-preserved c =
    let first = c.args.first in
    let k = c.loop-k.k in
    c.in_ok-push.ensures.ok
    ∙ ap (λ (ns : List ℕ). ns ++ (first + k) ∷ []) c.loop-k.invariant
    ∙ append_assoc c.args.numbers.now (range_with_len first k) ((first + k) ∷ [])
    ∙ ap (λ (ns : List ℕ). c.args.numbers.now ++ ns) (sym (range_next first k))
