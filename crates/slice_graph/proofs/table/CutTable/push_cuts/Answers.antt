use Rattle.slice_graph.proofs.Words.{cuts_pushed}
use Rattle.slice_graph.proofs.table.CutTable.push_cuts.Goals as goal

pub invariant_of-self-2 : goal.invariant_of-self-2
invariant_of-self-2 c = (cuts_pushed c.self.inside.shape c.self.inside.absent.items c.self.inside.len c.args.count c.self.inside.words.items c.args.words.now _ c.args.self.now
    c.self.view_is c.self.invariant c.requires.size c.requires.cuts c.in_ok-push_wide.ensures.ok).0

pub returns : goal.returns
returns c = (cuts_pushed c.self.inside.shape c.self.inside.absent.items c.self.inside.len c.args.count c.self.inside.words.items c.args.words.now _ c.args.self.now
    c.self.view_is c.self.invariant c.requires.size c.requires.cuts c.in_ok-push_wide.ensures.ok).1
