use Rattle.verify_top.proofs.Judging.{unwatched}
use Rattle.verify_top.proofs.input.unwatched_check.Goals as goal

pub returns : goal.returns
returns g c =
    unwatched (λ h. (goal.Watch-dyn g (h.watch.vtable, h.watch.value)).answers h.watch.value) c.requires.0 c.args.stated c.new-watches.result.items c.new.result c.requires.1 c.new-watches.ensures.items c.new.ensures
