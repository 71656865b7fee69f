-- One pair of processes more.
use Rattle.std.specs.Prelude.{◌≡◌, ℕ, ◌<◌, ◌⊎◌, List, [], ◌∷◌, ◌++◌, IfSome}
use Rattle.asked_instances.specs.declared.asking.Pair.{Pair}
use Rattle.asked_instances.specs.declared.asking.Instance.{Instance}
use Rattle.asked_instances.specs.Instances.{Source, IsInstance, HasNone}

-- the processes are among so many
pub record CanName (procs : ℕ) (pair : Pair) : Type 0 where
  pub first : pair.first < procs
  pub second : IfSome pair.second (λ second. second < procs)

-- the text for them is put behind those before, where each name of it is known
abbrev pub AddsFor : Source → Pair → (before after : List Instance) → Type 0
AddsFor s pair before after =
    ((i : Instance) × IsInstance s pair i × (after ≡ before ++ i ∷ []))
    ⊎ (HasNone s pair × (after ≡ before))
