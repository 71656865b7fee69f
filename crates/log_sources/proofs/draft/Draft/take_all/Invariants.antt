use Rattle.std.proofs.Common.{◌≡◌}
use Rattle.log_sources.specs.Drafts.{with_items}
use Rattle.log_sources.proofs.draft.Draft.take_all.Given as goal

abbrev pub invariant-loop-item : goal.invariant-loop-item
invariant-loop-item l = l.self ≡ with_items l.fn.self l.yielded
