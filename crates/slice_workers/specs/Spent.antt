-- What is spent on rows.
use Rattle.std.specs.Prelude.{ℕ}

-- the look-ups that were counted, before and after
pub record Spent : Type 0 where
  pub before : ℕ
  pub after : ℕ

abbrev pub spent_of : (before after : ℕ) → Spent
spent_of before after = record { before = before; after = after }
