use Rattle.event_log.proofs.ReadNames.{texts_all}
use Rattle.report.proofs.draft.named.Goals as goal

pub names_of-requires : goal.names_of-requires
names_of-requires c = rw c.deref.ensures.value (texts_all c.in-Ok.names.items c.in-Ok.ensures.found.0.each)
