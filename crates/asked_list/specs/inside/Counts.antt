-- Counts of 32 bits, and refusals.
use Rattle.std.specs.Prelude.{ℕ, ◌-◌, ◌^◌, min, Bool, nat_le, ◌&&◌}
use Rattle.pota_base.specs.declared.fault.Refused.{Refused}
use Rattle.pota_base.specs.declared.fault.Refused.TheVariants as refused
use Rattle.pota_base.specs.Limits.{most_disjuncts, most_parts}
use Rattle.asked_list.specs.declared.list.TooMany.{TooMany}

-- a count, as far as 32 bits go
abbrev pub capped : ℕ → ℕ
capped count = min count (2 ^ 32 - 1)

-- so many disjuncts, and so many parts, may be observed together
abbrev pub are_few : ℕ → ℕ → Bool
are_few disjuncts parts = nat_le disjuncts most_disjuncts && nat_le parts most_parts

-- a refusal is such; nothing is said where memory runs out
abbrev pub Refuses : Refused TooMany → Type 0 → Type 0
Refuses (refused.Fault f) Is = Is
Refuses refused.NoMemory Is = Unit {0}
