-- What a question asks of a run. Of a formula, `can` and `surely` are possibly and definitely
-- (Cooper and Marzullo), over consistent cuts and the paths through them.
use Rattle.std.specs.Prelude.{◌⊎◌, List, [], ◌∷◌}
use Rattle.run_model.specs.Cut.{Cut, lengths, initial}
use Rattle.run_model.specs.Run.{Run}
use Rattle.run_model.specs.Consistent.{IsConsistent, IsPath}
use Rattle.run_model.specs.Formula.{Formula}
use Rattle.run_model.specs.Meaning.{Sat}

pub data Question : Type 0 where
  Never : (f : Formula) → Question
  Can : (f : Formula) → Question
  Always : (f : Formula) → Question
  Surely : (f : Formula) → Question
  AtEnd : (f : Formula) → Question
  Plain : (f : Formula) → Question

-- some cut of a path is in the set: the first cut, or one of those behind it
abbrev pub Meets : (Cut → Type 0) → Cut → List Cut → Type 0
Meets A c [] = A c
Meets A c (d ∷ ds) = A c ⊎ Meets A d ds

-- each path from the initial cut to the final one meets the set
abbrev pub EachPathMeets : Run → (Cut → Type 0) → Type 0
EachPathMeets r A =
    (es : List Cut) → IsPath r.clocks (initial r.clocks) es (lengths r.clocks)
    → Meets A (initial r.clocks) es

-- the question holds of the run
abbrev pub Holds : Run → Question → Type 0
Holds r (Never f) = (c : Cut) → IsConsistent r.clocks c → Sat r f c → ⊥
Holds r (Can f) = (c : Cut) × IsConsistent r.clocks c × Sat r f c
Holds r (Always f) = (c : Cut) → IsConsistent r.clocks c → Sat r f c
Holds r (Surely f) = EachPathMeets r (Sat r f)
Holds r (AtEnd f) = Sat r f (lengths r.clocks)
Holds r (Plain f) = Sat r f (initial r.clocks)
