use Rattle.view_top.proofs.Outcomes.{done_by, faulty, full}
use Rattle.view_top.proofs.viewing.stopped_by.Goals as goal

pub returns-in-Some : goal.returns-in-Some
returns-in-Some c bytes done = faulty c.args.input.now c.in-Some.fault bytes (done_by c.args.input.now _ bytes c.in-Some.is done)

pub returns-in-None : goal.returns-in-None
returns-in-None c bytes done = full c.args.input.now bytes (done_by c.args.input.now _ bytes c.in-None.is done)
