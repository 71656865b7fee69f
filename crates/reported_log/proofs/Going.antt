-- What the answers leave goes on with the log.
use Rattle.std.proofs.Common.{◌≡◌, Option, Some, None, sym, subst}
use Rattle.std.proofs.lemmas.Option.{none-some, same_Some}
use Rattle.answering.specs.PassedOn.{Kept}
use Rattle.part_pulls.specs.Later.{IsLater}
use Rattle.log_check.specs.PassedOn.{Observation}
use Rattle.log_check.specs.PassedOn.{GrowingView}
use Rattle.answering.specs.Going as answering
use Rattle.log_check.specs.PassedOn.{GrowsFrom}
use Rattle.reported_log.specs.Checking.{MayAnswer}

-- the law that what is kept goes on with all that is observed later
abbrev pub GoesOnLater : Type 0
GoesOnLater = (kept : Kept) (before after : GrowingView) → after.disjuncts ≡ before.disjuncts → IsLater before.seen after.seen → answering.GoesOn kept before → answering.GoesOn kept after

module _ {X : Type 0} {P : X → Type 0} where
  -- nothing is kept
  pub may_first : (kept : Kept) (there : Option (Observation X P)) → ((growing : GrowingView) → answering.GoesOn kept growing) → MayAnswer kept there
  may_first kept None goes = goes
  may_first kept (Some o) goes = goes o.growing

  -- more was observed
  pub may_still : GoesOnLater → (kept : Kept) (before after : Option (Observation X P)) → GrowsFrom before after → MayAnswer kept before → MayAnswer kept after
  may_still law kept None None grows may = may
  may_still law kept None (Some after) grows may = may after.growing
  may_still law kept (Some before) None grows may = absurd grows
  may_still law kept (Some before) (Some after) grows may = law kept before.growing after.growing grows.0 grows.1 may

  -- at what was observed
  pub may_now : (kept : Kept) (there : Option (Observation X P)) (o : Observation X P) → there ≡ Some o → MayAnswer kept there → answering.GoesOn kept o.growing
  may_now kept None o some may = absurd (none-some o some)
  may_now kept (Some there) o some may = subst (λ (x : Observation X P). answering.GoesOn kept x.growing) (same_Some there o some) may

  pub may_then : (kept : Kept) (there : Option (Observation X P)) (o : Observation X P) → there ≡ Some o → answering.GoesOn kept o.growing → MayAnswer kept there
  may_then kept None o some goes = absurd (none-some o some)
  may_then kept (Some there) o some goes = subst (λ (x : Observation X P). answering.GoesOn kept x.growing) (sym (same_Some there o some)) goes
