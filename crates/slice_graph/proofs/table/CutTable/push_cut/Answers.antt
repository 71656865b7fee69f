use Rattle.slice_graph.proofs.Words.{cut_pushed}
use Rattle.slice_graph.proofs.table.CutTable.push_cut.Goals as goal

pub invariant_of-self-2 : goal.invariant_of-self-2
invariant_of-self-2 c = (cut_pushed c.self.inside.shape c.self.inside.absent.items c.self.inside.len c.self.inside.words.items _ c.args.self.now c.args.cut.now
    c.self.view_is c.self.invariant c.requires c.in_ok-extend_from_slice.ensures.items).0

pub returns-clause-ok : goal.returns-clause-ok
returns-clause-ok c = (cut_pushed c.self.inside.shape c.self.inside.absent.items c.self.inside.len c.self.inside.words.items _ c.args.self.now c.args.cut.now
    c.self.view_is c.self.invariant c.requires c.in_ok-extend_from_slice.ensures.items).1
