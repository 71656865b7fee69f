-- The first event of a process that has a property.
use Rattle.std.specs.Prelude.{◌≡◌, ℕ, ◌<◌, ◌≤◌}
use Rattle.run_model.specs.Witness.{Place}
use Rattle.pota_base.specs.declared.shape.EventId.{EventId}
use Rattle.witness.specs.Views.{place_of}

-- among so many events of the process
pub record IsFirstOf (P : Place → Type 0) (process len : ℕ) (e : EventId) : Type 0 where
  pub of : e.process ≡ process
  pub some : 0 < e.position
  pub last : e.position ≤ len
  pub has : P (place_of e)
  pub first : (a : ℕ) → 0 < a → a < e.position → P (record { process = process; position = a }) → ⊥
