-- A log that is taken for a formula: what is known of it behind its items so far.
use Rattle.std.specs.Prelude.{◌≡◌, ℕ, ◌≤◌, Bool, true, List, length, map, Option, None, Some}
use Rattle.run_model.specs.Class.{disjuncts}
use Rattle.run_model.specs.Formula.{Formula}
use Rattle.event_log.specs.declared.log.Header.{Header}
use Rattle.rctl_parts.specs.Pieces as piece
use Rattle.rctl_parts.specs.Pieces.{Piece}
use Rattle.rctl_parts.specs.Spelled.{part_formulas}
use Rattle.rctl_class.specs.Classed.{EachAlike}
use Rattle.rctl_class.specs.Counters.{Counter, counters_of, HaveSameMembers}
use Rattle.rctl_class.specs.Nodes.{formula_of}
use Rattle.rctl_names.specs.Resolving.{numbered_disjuncts}
use Rattle.rctl_names.specs.Seen as names
use Rattle.part_pulls.specs.Counters as parts
use Rattle.stated_formula.specs.Stating.{IsStated}
use Rattle.fault_kinds.specs.declared.refusal.Refusal.{Refusal}
use Rattle.log_rules.specs.Counters.{variable_in}
use Rattle.log_rules.specs.Judgement.{Prefix, Judgement, waiting, growing}
use Rattle.log_rules.specs.Judgement.{finished, refused}
use Rattle.log_rules.specs.Due.{closed_of, batches_of}
use Rattle.log_intake.specs.PassedOn.{Observation}
use Rattle.log_intake.specs.PassedOn.{AnswersAs}
use Rattle.log_intake.specs.Taking.{IsIntakeOf, IsObserved, Closes}
pub use Rattle.log_intake.specs.Taking.{MayFollow, HasClosed}
use Rattle.log_check.specs.declared.check.LogCheck.{LogCheck}
use Rattle.log_check.specs.Aims.{Says, Aim, aim_of, reading_of, terms_of}

-- the counters of the parts, by their numbers, are those of the formula, each as often as it likes
pub record HaveCounters (h : Header) (f : Formula) (ds : List (List Piece)) : Type 0 where
  pub named : List Counter
  pub numbered : parts.counters_of ds ≡ map (variable_in h) named
  pub same : HaveSameMembers named (counters_of f)

-- what is observed is observed for parts that mean what the formula does
pub record Means {X : Type 0} {P : X → Type 0} (aim : Aim) (h : Header) (o : Observation X P)
    : Type 0 where
  pub meaning : EachAlike (part_formulas (names.names_of h aim.names)
      (piece.disjuncts_of o.growing.disjuncts)) (disjuncts true (formula_of aim.node))
  pub counters : HaveCounters h (formula_of aim.node) (piece.disjuncts_of o.growing.disjuncts)
  -- they are the disjuncts of the formula, in the order of its text
  pub split : piece.disjuncts_of o.growing.disjuncts
      ≡ numbered_disjuncts h aim.names aim.node
  pub paired : length o.growing.seen.watch_process ≡ length aim.names

-- there is an observation, and it is for such parts
abbrev pub MeansIn : {X : Type 0} {P : X → Type 0} → Aim → Header → Option (Observation X P)
    → Type 0
MeansIn aim h None = ⊥
MeansIn aim h (Some o) = Means aim h o

-- the log was observed, for such parts
pub record IsObservedFor {X : Type 0} {P : X → Type 0} (says : Says X P) (aim : Aim) (log : Prefix)
    (o : Observation X P) : Type 0 where
  pub is : IsObserved says (terms_of aim) log o
  pub means : Means aim log.header o

-- no fault so far
abbrev pub IsFree : Judgement → Type 0
IsFree waiting = Unit {0}
IsFree (growing log since) = Unit {0}
IsFree (finished log last) = Unit {0}
IsFree (refused log why) = ⊥

-- the watches wait for the header, and behind it the parts mean what the formula does
abbrev pub Suits : {X : Type 0} {P : X → Type 0} → Says X P → Aim → LogCheck X P → Judgement
    → Type 0
Suits says aim check waiting =
    AnswersAs says check.watches.items (reading_of aim)
    × (length check.watches.items ≡ length aim.names)
Suits says aim check (growing log since) = MeansIn aim log.header check.intake.observation
Suits says aim check (finished log last) = MeansIn aim log.header check.intake.observation
Suits says aim check (refused log why) = Unit {0}

-- what was handed in is kept, and the items so far are judged so
pub record IsCheckOf {X : Type 0} {P : X → Type 0} (says : Says X P) (aim : Aim)
    (check : LogCheck X P) (j : Judgement) : Type 0 where
  pub text : List ℕ
  pub stated : IsStated text check.stated
  pub aim_is : aim ≡ aim_of check.stated aim.names aim.watches
  pub names : check.names ≡ aim.names
  pub few : length aim.names ≤ 8
  pub free : IsFree j
  pub intake : IsIntakeOf says (terms_of aim) check.intake j
  pub suits : Suits says aim check j

-- an item more led from one judgement to the next
pub record GoesOn {X : Type 0} {P : X → Type 0} (says : Says X P) (aim : Aim)
    (check : LogCheck X P) (before after : Judgement) (closed : Bool) : Type 0 where
  pub is : IsCheckOf says aim check after
  pub closes : Closes closed before after

-- the judgement is this refusal, and the batches before it are counted
pub record IsRefusedAs (before after : Judgement) (batches : ℕ) (why : Refusal) : Type 0 where
  pub log : Option Prefix
  pub is : after ≡ refused log why
  pub none : closed_of after ≡ closed_of before
  pub number : batches ≡ batches_of after
