use Rattle.std.proofs.Common.{rules, arith, sym, ◌∙◌, ◌<◌, ℕ, length}
use Rattle.pull_system.specs.System.{SystemView}
use Rattle.pull_system.specs.Vector.{IsAtMost}
use Rattle.pull_system.specs.Rows.{place_of}
use Rattle.bound_table.specs.inside.Asking.{IsRaised, cell_of}
use Rattle.bound_table.proofs.Allowed.{lend_allowed}
use Rattle.bound_table.proofs.Floors.{within_trans}
use Rattle.bound_table.proofs.Moves.{few_words}
use Rattle.bound_table.proofs.Lends.{has_start_more, LendsAt, lends_within, lends_others, lends_next}
use Rattle.bound_table.proofs.Seeing.{read_raised, raised_at, raised_twice, raised_within_floor}
use Rattle.bound_table.proofs.Claiming.{keeps_trans}
use Rattle.bound_table.proofs.table.BoundTable.lend.Goals as goal

pub overflow_add-word : goal.overflow_add-word
overflow_add-word c =
    let system : SystemView = c.args.self.now.system in
    let there : c.loop-process.process < length system.lens = search rules in
    omega (arith, there, c.begin-to.ensures.there, few_words system.lens c.begin-to.ensures.system.shape)

pub load-found-requires-clause-word : goal.load-found-requires-clause-word
load-found-requires-clause-word c =
    let there : c.loop-process.process < length c.args.self.now.system.lens = search rules in
    omega (arith, there, c.begin-to.ensures.there)

pub raise_by_lend-raised-requires-clause-word : goal.raise_by_lend-raised-requires-clause-word
raise_by_lend-raised-requires-clause-word c =
    omega (arith, c.begin-to.ensures.place)

pub raise_by_lend-raised-requires-clause-found : goal.raise_by_lend-raised-requires-clause-found
raise_by_lend-raised-requires-clause-found c =
    let system : SystemView = c.args.self.now.system in
    let process : ℕ = c.loop-process.process in
    let there : process < length system.lens = search rules in
    let found : IsRaised system c.load-y.new.seat.floor c.load-found.new.seat.floor (cell_of c.args.to_row process) 0 c.load-found.result = read_raised system _ _ c.args.to_row process _ 0 _ (omega (arith, c.begin-to.ensures.place)) c.load-found.ensures.floor c.load-found.ensures.rises (omega arith) c.load-found.ensures.bounds in
    sym (raised_at system _ _ c.args.to_row process _ _ c.requires.rows.second there found)

pub raise_by_lend-raised-requires-clause-step : goal.raise_by_lend-raised-requires-clause-step
raise_by_lend-raised-requires-clause-step c =
    let system : SystemView = c.args.self.now.system in
    let inv = c.loop-process.invariant in
    let process : ℕ = c.loop-process.process in
    let there : process < length system.lens = search rules in
    let read : IsRaised system c.loop-process.seat.floor c.load-y.new.seat.floor (cell_of c.args.from_row process) 0 c.load-y.result = read_raised system _ _ c.args.from_row process _ 0 _ (omega (arith, c.begin-from.ensures.place)) c.load-y.ensures.floor c.load-y.ensures.rises (omega arith) c.load-y.ensures.bounds in
    let found : IsRaised system c.load-y.new.seat.floor c.load-found.new.seat.floor (cell_of c.args.to_row process) 0 c.load-found.result = read_raised system _ _ c.args.to_row process _ 0 _ (omega (arith, c.begin-to.ensures.place)) c.load-found.ensures.floor c.load-found.ensures.rises (omega arith) c.load-found.ensures.bounds in
    let within : IsAtMost c.load-y.new.seat.floor c.load-found.new.seat.floor = raised_within_floor system _ _ c.args.to_row process _ _ found in
    lend_allowed system c.load-found.new.seat.floor c.args.to_row c.args.from_row process c.load-y.result c.requires.rows.second c.requires.rows.first there
    (omega (arith, raised_at system _ _ c.args.from_row process _ _ c.requires.rows.first there read, within.each (place_of system.lens c.args.from_row process)))
    (has_start_more system.lens _ _ c.args.to_row c.args.from_row (within_trans _ _ _ (raised_within_floor system _ _ c.args.from_row process _ _ read) within) inv.event)

pub loop-process-preserved : goal.loop-process-preserved
loop-process-preserved c =
    let system : SystemView = c.args.self.now.system in
    let inv = c.loop-process.invariant in
    let process : ℕ = c.loop-process.process in
    let there : process < length system.lens = search rules in
    let read : IsRaised system c.loop-process.seat.floor c.load-y.new.seat.floor (cell_of c.args.from_row process) 0 c.load-y.result = read_raised system _ _ c.args.from_row process _ 0 _ (omega (arith, c.begin-from.ensures.place)) c.load-y.ensures.floor c.load-y.ensures.rises (omega arith) c.load-y.ensures.bounds in
    let found : IsRaised system c.load-y.new.seat.floor c.load-found.new.seat.floor (cell_of c.args.to_row process) 0 c.load-found.result = read_raised system _ _ c.args.to_row process _ 0 _ (omega (arith, c.begin-to.ensures.place)) c.load-found.ensures.floor c.load-found.ensures.rises (omega arith) c.load-found.ensures.bounds in
    let lent = raised_twice system _ _ _ c.args.to_row process _ _ _ _ c.requires.rows.second there found c.raise_by_lend-raised.ensures.raised in
    let at : LendsAt system.lens c.loop-process.seat.floor c.load-y.new.seat.floor c.raise_by_lend-raised.new.seat.floor c.args.from_row c.args.to_row process c.load-y.result c.raise_by_lend-raised.result = record {
      from_there = c.requires.rows.first;
      to_there = c.requires.rows.second;
      there = there;
      size = inv.bounds.size;
      size_read = read.bounds.size;
      read_is = read.floor;
      read_more = read.rises;
      lent_is = lent.floor;
      lent_more = lent.rises;
      reaches = lent.reaches;
    } in
    let within = lends_within _ _ _ _ _ _ _ _ _ at in
    record {
      keeps = keeps_trans _ _ _ (keeps_trans _ _ _ (keeps_trans _ _ _ inv.keeps c.load-y.ensures.keeps) c.load-found.ensures.keeps) c.raise_by_lend-raised.ensures.keeps;
      event = has_start_more system.lens c.loop-process.seat.floor c.raise_by_lend-raised.new.seat.floor c.args.to_row c.args.from_row within inv.event;
      lent = lends_next _ _ _ _ _ _ _ _ _ at inv.lent;
      others = λ row p not_from not_to p_there. lends_others _ _ _ _ _ _ _ _ _ at row p not_from not_to p_there ∙ inv.others row p not_from not_to p_there;
      rises = within_trans _ _ _ inv.rises within;
      bounds = lent.bounds;
    }
