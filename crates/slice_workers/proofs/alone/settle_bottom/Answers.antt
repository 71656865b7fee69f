use Rattle.std.proofs.Common.{rules, arith, refl}
use Rattle.pull_system.specs.System.{SystemView}
use Rattle.bound_table.proofs.Allowed.{bounds_along}
use Rattle.slice_workers.proofs.Reached.{final_seen}
use Rattle.slice_workers.proofs.Appended.{bottom_same}
use Rattle.slice_workers.proofs.alone.settle_bottom.Goals as goal

pub returns-then-is_firm-clause-least : goal.returns-then-is_firm-clause-least
returns-then-is_firm-clause-least g c =
    let system : SystemView = c.args.table.now.system in
    final_seen system 0 _ _ _ (omega arith) c.look_narrow.ensures.follows (c.requires.reached c.if-is_firm.true)

pub returns-then-is_firm-clause-takes : goal.returns-then-is_firm-clause-takes
returns-then-is_firm-clause-takes g c =
    let system : SystemView = c.args.table.now.system in
    let old = bounds_along _ system _ c.args.seat.now.floor (search rules) (search rules) c.bounds.ensures in record {
      settled = λ none. absurd (cc (none, c.if-is_firm.true));
      none = λ final. refl;
      same = λ final. bottom_same system _ _ _ old (c.requires.reached final) c.look_narrow.ensures.follows;
    }

pub returns-clause-takes : goal.returns-clause-takes
returns-clause-takes g c = record {
  settled = λ none. c.settle_narrow.ensures.looks;
  none = λ final. absurd (cc (final, c.if-is_firm.false));
  same = λ final. absurd (cc (final, c.if-is_firm.false));
}
