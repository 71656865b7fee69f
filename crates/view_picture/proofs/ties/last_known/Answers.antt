use Rattle.std.proofs.Common.{arith}
use Rattle.run_model.proofs.Counts.{length-lengths}
use Rattle.view_picture.proofs.Shown.{last_is_shown}
use Rattle.view_picture.proofs.ties.last_known.Goals as goal

pub last_shown-requires : goal.last_shown-requires
last_shown-requires c = omega (arith, c.known.ensures.within, c.requires.fit.widths c.args.process c.requires.process)

pub returns-clause-there : goal.returns-clause-there
returns-clause-there c some =
    let last = last_is_shown c.args.columns.now c.args.process c.known.result in
    record {
      process = omega (arith, c.requires.process, length-lengths c.args.order.now);
      first = omega (arith, some);
      last = omega (arith, last.within, c.last_shown.ensures, c.known.ensures.within);
    }
