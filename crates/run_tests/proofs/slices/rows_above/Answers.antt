use Rattle.std.proofs.Common.{ℕ, zero, suc, ◌+◌, ◌≤◌, [], ◌∷◌, length, get_or, arith, ap}
use Rattle.run_tests.proofs.slices.rows_above.Goals as goal

-- neither number is more than one above a length
small : (i n : ℕ) → get_or (0 ∷ 1 ∷ []) i 0 ≤ n + 1
small zero n = omega arith
small (suc zero) n = omega arith
small (suc (suc i)) n = omega arith

pub order_rows_above-requires : goal.order_rows_above-requires
order_rows_above-requires c = record {
  size = omega (arith, c.if-procs-ne2.false, c.procs.ensures.count, ap length c.shape.ensures.lens);
  within = λ i. small i _;
}
