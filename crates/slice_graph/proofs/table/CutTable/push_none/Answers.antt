use Rattle.std.proofs.Common.{List, ℕ, ◌++◌, ap, ◌∙◌}
use Rattle.slice_graph.proofs.Words.{none_pushed}
use Rattle.slice_graph.proofs.table.CutTable.push_none.Goals as goal

pub invariant_of-self-2 : goal.invariant_of-self-2
invariant_of-self-2 c = (none_pushed c.self.inside.shape c.self.inside.absent.items c.self.inside.len c.self.inside.words.items _ c.args.self.now
    c.self.view_is c.self.invariant (c.in_ok-extend_from_slice.ensures.items ∙ ap (λ (w : List ℕ). c.self.inside.words.items ++ w) c.as_slice.ensures.value)).0

pub returns-clause-ok : goal.returns-clause-ok
returns-clause-ok c = (none_pushed c.self.inside.shape c.self.inside.absent.items c.self.inside.len c.self.inside.words.items _ c.args.self.now
    c.self.view_is c.self.invariant (c.in_ok-extend_from_slice.ensures.items ∙ ap (λ (w : List ℕ). c.self.inside.words.items ++ w) c.as_slice.ensures.value)).1
