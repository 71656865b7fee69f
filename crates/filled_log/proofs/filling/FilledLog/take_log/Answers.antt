use Rattle.filled_log.proofs.Whole.{only, may_close, closed, not_closed}
use Rattle.filled_log.proofs.filling.FilledLog.take_log.Goals as goal

pub close-requires : goal.close-requires
close-requires c =
    let is = only c.args.log.batches c.into_vec-batches.result.items c.pop.new.self.items c.in-Some.batch c.requires.batch c.into_vec-batches.ensures c.in-Some.ensures.items in
    may_close c.args.log c.in-Some.batch c.open.new.self is c.requires.fit c.in-Ok.ensures

pub returns-clause-ok : goal.returns-clause-ok
returns-clause-ok c =
    let is = only c.args.log.batches c.into_vec-batches.result.items c.pop.new.self.items c.in-Some.batch c.requires.batch c.into_vec-batches.ensures c.in-Some.ensures.items in
    closed c.args.log c.in-Some.batch c.open.new.self is c.requires.fit c.in-Ok.ensures c.close.new.self c.close.result c.close.ensures.ok

pub returns-clause-fault : goal.returns-clause-fault
returns-clause-fault c =
    let is = only c.args.log.batches c.into_vec-batches.result.items c.pop.new.self.items c.in-Some.batch c.requires.batch c.into_vec-batches.ensures c.in-Some.ensures.items in
    not_closed c.args.log c.in-Some.batch c.open.new.self is c.requires.fit c.in-Ok.ensures c.close.result c.close.ensures.fault
