use Rattle.std.proofs.Common.{arith, sym, ap, subst, ℕ, List}
use Rattle.pull_system.specs.System.{SystemView}
use Rattle.pull_system.specs.Rows.{AreLeastRows}
use Rattle.slice_workers.proofs.Reached.{all_least, all_more}
use Rattle.bound_table.specs.Firm.{FirmView}
use Rattle.slice_workers.specs.Calls.{TakesBehind}
use Rattle.slice_workers.proofs.Passes.{takes_all}
use Rattle.slice_workers.proofs.settled.settle_all.Goals as goal

pub returns-then-workers-eq1-clause-takes : goal.returns-then-workers-eq1-clause-takes
returns-then-workers-eq1-clause-takes g c = λ one.
    let P : FirmView → Type 0 = λ firm. TakesBehind c.args.table.now.system firm c.args.seat.now c.settle_alone.new.seat c.args.steps.now c.settle_alone.new.steps in
    takes_all c.args.table.now.system c.args.table.now.firm c.args.seat.now c.settle_alone.new.seat c.args.steps.now c.settle_alone.new.steps (subst P c.firm_rows-firm.ensures.firm c.in_ok-kept.ensures.takes)

pub returns-in_err-kept-clause-takes : goal.returns-in_err-kept-clause-takes
returns-in_err-kept-clause-takes g c = λ one.
    let P : FirmView → Type 0 = λ firm. TakesBehind c.args.table.now.system firm c.args.seat.now c.settle_alone.new.seat c.args.steps.now c.settle_alone.new.steps in
    takes_all c.args.table.now.system c.args.table.now.firm c.args.seat.now c.settle_alone.new.seat c.args.steps.now c.settle_alone.new.steps (subst P c.firm_rows-firm.ensures.firm c.in_err-kept.ensures.takes)

pub returns-in_err-settle_rows-clause-takes : goal.returns-in_err-settle_rows-clause-takes
returns-in_err-settle_rows-clause-takes g c = λ one. absurd (omega (arith, one, c.if-workers-eq1.false))

pub returns-in_err-settle_rows-clause-behind : goal.returns-in_err-settle_rows-clause-behind
returns-in_err-settle_rows-clause-behind g c = λ one. absurd (omega (arith, one, c.if-workers-eq1.false))

pub returns-in_err-rows-clause-takes : goal.returns-in_err-rows-clause-takes
returns-in_err-rows-clause-takes g c = λ one. absurd (omega (arith, one, c.if-workers-eq1.false))

pub returns-in_err-rows-clause-behind : goal.returns-in_err-rows-clause-behind
returns-in_err-rows-clause-behind g c = λ one. absurd (omega (arith, one, c.if-workers-eq1.false))

pub returns-clause-takes : goal.returns-clause-takes
returns-clause-takes g c = λ one. absurd (omega (arith, one, c.if-workers-eq1.false))

pub returns-clause-behind : goal.returns-clause-behind
returns-clause-behind g c = λ one. absurd (omega (arith, one, c.if-workers-eq1.false))

pub returns-clause-settled : goal.returns-clause-settled
returns-clause-settled g c =
    let system : SystemView = c.args.table.now.system in
    let least = all_least system _ c.floors.ensures.bounds (all_more system _ _ c.floors.ensures.rises c.in_ok-settle_rows.ensures.reaches) in
    let P : List ℕ → Type 0 = AreLeastRows system in record {
      lens = ap (λ r. r.lens) c.in_ok-rows.ensures.rows;
      least = subst P (sym (ap (λ r. r.words) c.in_ok-rows.ensures.rows)) least;
      floor = ap (λ r. r.words) c.in_ok-rows.ensures.rows;
    }
