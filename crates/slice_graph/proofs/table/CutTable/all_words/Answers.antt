use Rattle.std.proofs.Common.{subst, sym}
use Rattle.slice_graph.specs.inside.Words.{AreAllWords}
use Rattle.slice_graph.proofs.Words.{all_words_are}
use Rattle.slice_graph.proofs.table.CutTable.all_words.Goals as goal

pub returns : goal.returns
returns c = subst (AreAllWords c.args.self.now) (sym c.as_slice.ensures.value) (all_words_are _ _ _ _ _ c.self.view_is c.self.invariant)
