use Rattle.std.proofs.Common.{rules, arith, ap, length, get_or}
use Rattle.bound_table.proofs.Allowed.{bounds_along}
use Rattle.bound_table.proofs.Lends.{has_start_next}
use Rattle.system_tests.proofs.bounds.settle_and_lend.Goals as goal

pub lend-requires-clause-event : goal.lend-requires-clause-event
lend-requires-clause-event g c =
    let lens = c.requires.lens in
    has_start_next c.args.table.now.system c.settle-3.new.seat.floor (bounds_along _ _ _ _ (search rules) (search rules) c.bounds.ensures) 0 1 (omega (arith, ap (λ xs. length xs) lens)) (omega arith) (omega (arith, ap (λ xs. get_or xs 0 0) lens))
