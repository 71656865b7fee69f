-- What a question over processes comes to, on what was observed of a log.
use Rattle.std.specs.Prelude.{ℕ, ◌≤◌, List, [], length}
use Rattle.part_pulls.specs.declared.observed.Observed.{Observed}
use Rattle.pota_base.specs.declared.fault.Refused.{Refused}
use Rattle.pota_base.specs.declared.fault.Refused.TheVariants as refused
use Rattle.question_instances.specs.declared.over.Over.{Over}
use Rattle.asked_instances.specs.Instances.{AreInstances, IsFaultFor, Source, pairs_asked}
use Rattle.asked_instances.specs.declared.asking.Instance.{Instance}
use Rattle.instance_outcomes.specs.Answers.{IsFirstStop, IsTally, header_of}
use Rattle.instance_outcomes.specs.declared.over.OverStop.{OverStop}
use Rattle.instance_outcomes.specs.declared.over.OverStop.TheVariants as stop
use Rattle.instance_outcomes.specs.declared.tallied.Tally.{Tally}

-- the question with the names of the log that was observed, and no watch
abbrev pub source_in : Observed → List ℕ → Over → Source
source_in seen text over =
    record { text = text; over = over; header = header_of seen; watches = [] }

-- these are the instances of the question
abbrev pub AreInstancesOf : Observed → List ℕ → Over → List Instance → Type 0
AreInstancesOf seen text over is =
    AreInstances (source_in seen text over) (pairs_asked (source_in seen text over)) is

-- the tally of its instances, of which there are some
pub record IsTallyFor (seen : Observed) (text : List ℕ) (over : Over) (t : Tally) : Type 0 where
  pub instances : List Instance
  pub are : AreInstancesOf seen text over instances
  pub some : 1 ≤ length instances
  pub tally : IsTally seen instances t

-- why there is none: the first of the texts that is no question, the first instance that can't be
-- asked, or that there is no instance
abbrev pub IsOverStop : Observed → List ℕ → Over → OverStop → Type 0
IsOverStop seen text over (stop.Text f) = IsFaultFor (source_in seen text over) f
IsOverStop seen text over (stop.Instance f) =
    (is : List Instance) × AreInstancesOf seen text over is × IsFirstStop is f
IsOverStop seen text over stop.NoInstance = AreInstancesOf seen text over []

-- a fault is such; nothing is said where memory runs out
abbrev pub RefusesOver : Refused OverStop → (OverStop → Type 0) → Type 0
RefusesOver (refused.Fault f) Is = Is f
RefusesOver refused.NoMemory Is = Unit {0}
