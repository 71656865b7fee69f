-- What is kept of answered instances.
use Rattle.std.specs.Prelude.{◌≡◌, Bool, true, false, not, List, [], ◌∷◌, ◌++◌, length, slice_get}
use Rattle.std.specs.List.{filter}
use Rattle.question_outcome.specs.declared.outcome.PartPlace.{PartPlace}
use Rattle.instance_outcomes.specs.declared.tallied.Answered.{Answered}
use Rattle.instance_outcomes.specs.declared.tallied.Tally.{Tally}

-- the instance's question does not hold
abbrev pub fails : Answered → Bool
fails a = not a.outcome.holds

abbrev pub is_some_place : List PartPlace → Bool
is_some_place [] = false
is_some_place (p ∷ ps) = true

-- some part of it holds nowhere, where its answer alone says nothing
abbrev pub has_nowhere : Answered → Bool
has_nowhere a = is_some_place a.outcome.nowhere

-- how many answered instances there are, how many fail, in how many some part holds nowhere, and
-- the first one that fails, or else the first one
pub record IsTallyOf (answers : List Answered) (t : Tally) : Type 0 where
  pub asked : t.asked ≡ length answers
  pub failing : t.fails ≡ length (filter fails answers)
  pub nowhere : t.nowhere ≡ length (filter has_nowhere answers)
  pub shown : t.shown ≡ slice_get (filter fails answers ++ answers) 0
