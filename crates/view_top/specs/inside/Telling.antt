-- What the writing of a fault's line does.
use Rattle.std.specs.Prelude.{ℕ, List, Option, Result, OnOk, OnErr}
use Rattle.std.specs.Io.KnownBytes.{Appends}
use Rattle.pota_base.specs.Outside.{HasCause, AppendsPrefix}

-- the text was written, or a front of it where a write failed
pub record Puts {T E : Type 0} (old new : Option (List ℕ)) (before now : ℕ) (text : List ℕ)
    (result : Result T E) : Type 0 where
  pub whole : OnOk result (Appends old new text)
  pub part : OnErr result (AppendsPrefix old new text)
  pub cause : HasCause before now result
