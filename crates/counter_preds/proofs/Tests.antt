-- What the tests of integers say.
use Rattle.std.proofs.Common.{◌≡◌, true, false, ℤ, ◌≤ℤ◌, ◌<ℤ◌, int_le, int_lt, arith}
use Rattle.std.proofs.lemmas.Int.{ints}

pub le_holds : (a b : ℤ) → a ≤ℤ b → int_le a b ≡ true
le_holds a b h = grind (arith, ints)

pub holds_le : (a b : ℤ) → int_le a b ≡ true → a ≤ℤ b
holds_le a b h = grind (arith, ints)

pub lt_fails : (a b : ℤ) → b <ℤ a → int_le a b ≡ false
lt_fails a b h = grind (arith, ints)

pub fails_lt : (a b : ℤ) → int_le a b ≡ false → b <ℤ a
fails_lt a b h = grind (arith, ints)

pub not_lower : (a b : ℤ) → int_lt b a ≡ false → a ≤ℤ b
not_lower a b h = grind (arith, ints)
