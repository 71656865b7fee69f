-- What callers see of a caller's hold on claims.
use Rattle.std.specs.Prelude.{ℕ, List}
use Rattle.atomic_table.specs.Seated.{TableId}

-- which claims they are, the processes that the caller claims, and those that it saw taken
pub record ClaimerView : Type 0 where
  pub table : TableId
  pub claims : List ℕ
  pub marks : List ℕ
