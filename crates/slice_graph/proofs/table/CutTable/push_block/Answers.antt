use Rattle.std.proofs.Common.{◌≡◌, ℕ, ◌++◌, List, sym, ap, ◌∙◌}
use Rattle.slice_graph.specs.Views.{SliceView}
use Rattle.slice_graph.specs.Words.{past_ends}
use Rattle.slice_graph.specs.inside.Words.{times}
use Rattle.slice_graph.proofs.Words.{view_of, nones_pushed}
use Rattle.slice_graph.proofs.table.CutTable.push_block.Goals as goal

-- the words with the block, by the words of a row that the table has
block_is : (lens absent block words new : List ℕ) (n : ℕ) (v : SliceView) → view_of lens n words ≡ v → absent ≡ past_ends lens → block ≡ times 16 (past_ends v.lens) → new ≡ words ++ block → new ≡ words ++ times 16 absent
block_is lens absent block words new n v view past is more =
    more ∙ ap (λ (b : List ℕ). words ++ b) (is ∙ ap (λ (x : SliceView). times 16 (past_ends x.lens)) (sym view) ∙ ap (times 16) (sym past))

pub invariant_of-self-2 : goal.invariant_of-self-2
invariant_of-self-2 c =
    let t = c.self.inside in
    (nones_pushed t.shape t.absent.items t.len 16 t.words.items _ c.args.self.now c.self.view_is c.self.invariant
    (block_is t.shape t.absent.items c.args.block.now t.words.items _ t.len c.args.self.now c.self.view_is c.self.invariant.past c.requires c.in_ok-extend_from_slice.ensures.items)).0

pub returns : goal.returns
returns c =
    let t = c.self.inside in
    (nones_pushed t.shape t.absent.items t.len 16 t.words.items _ c.args.self.now c.self.view_is c.self.invariant
    (block_is t.shape t.absent.items c.args.block.now t.words.items _ t.len c.args.self.now c.self.view_is c.self.invariant.past c.requires c.in_ok-extend_from_slice.ensures.items)).1
