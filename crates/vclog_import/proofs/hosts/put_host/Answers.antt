use Rattle.std.proofs.Common.{◌<◌, length, sym, ap, arith}
use Rattle.vclog_import.proofs.Inserting.{puts_in, stays_there, is_there, goes_past, puts_last}
use Rattle.vclog_import.proofs.hosts.put_host.Goals as goal

pub returns-in-Less-clause-hosts : goal.returns-in-Less-clause-hosts
returns-in-Less-clause-hosts c =
    let items = c.loop-i.hosts.items in
    let lt : c.loop-i.i < length items = omega (arith, c.loop-i-test.true, c.len-i-end.ensures, ap length c.loop-i.invariant.0, c.args.hosts.now.ok.0) in
    puts_in c.args.host items c.args.hosts.now.items c.insert.new.self.items c.loop-i.i c.index.result.now c.loop-i.invariant.0 c.loop-i.invariant.1 lt c.index.ensures (sym c.in-Less.ensures) c.in_ok-insert-in-Less.ensures.items

pub returns-in-Equal-clause-hosts : goal.returns-in-Equal-clause-hosts
returns-in-Equal-clause-hosts c =
    let items = c.loop-i.hosts.items in
    let lt : c.loop-i.i < length items = omega (arith, c.loop-i-test.true, c.len-i-end.ensures, ap length c.loop-i.invariant.0, c.args.hosts.now.ok.0) in
    stays_there c.args.host items c.args.hosts.now.items c.loop-i.i c.index.result.now c.loop-i.invariant.0 c.loop-i.invariant.1 lt c.index.ensures (sym c.in-Equal.ensures)

pub returns-in-Equal-clause-known : goal.returns-in-Equal-clause-known
returns-in-Equal-clause-known c none =
    let items = c.loop-i.hosts.items in
    let lt : c.loop-i.i < length items = omega (arith, c.loop-i-test.true, c.len-i-end.ensures, ap length c.loop-i.invariant.0, c.args.hosts.now.ok.0) in
    is_there c.args.host items c.args.hosts.now.items c.loop-i.i c.index.result.now c.loop-i.invariant.0 lt c.index.ensures (sym c.in-Equal.ensures)

pub loop-i-preserved : goal.loop-i-preserved
loop-i-preserved c =
    let items = c.loop-i.hosts.items in
    let lt : c.loop-i.i < length items = omega (arith, c.loop-i-test.true, c.len-i-end.ensures, ap length c.loop-i.invariant.0, c.args.hosts.now.ok.0) in
    (c.loop-i.invariant.0, goes_past c.args.host items c.loop-i.i c.index.result.now c.loop-i.invariant.1 lt c.index.ensures (sym c.in-Greater.ensures))

pub returns-clause-hosts : goal.returns-clause-hosts
returns-clause-hosts c =
    let items = c.loop-i.hosts.items in
    puts_last c.args.host items c.args.hosts.now.items c.push.new.self.items c.loop-i.i c.loop-i.invariant.0 c.loop-i.invariant.1 (omega (arith, c.loop-i-test.false, c.len-i-end.ensures, ap length c.loop-i.invariant.0, c.args.hosts.now.ok.0)) c.in_ok-push.ensures.items
