-- The items of a log, one after the other.
use Rattle.std.specs.Prelude.{Err}
use Rattle.std.proofs.Common.{◌≡◌, List, [], ◌∷◌, refl, sym, ap, subst, ◌∙◌}
use Rattle.event_log.specs.declared.item.Item.{Item}
use Rattle.event_log.specs.declared.item.LogFault.{LogFault}
use Rattle.event_log.specs.FittingItems.{FitFirst}
use Rattle.pota_base.specs.declared.fault.Refused.{Refused}
use Rattle.pota_base.specs.declared.fault.Refused.TheVariants as refused
use Rattle.vector_clock.specs.Admitted.{IfFault}
use Rattle.fault_kinds.specs.declared.refusal.Refusal.TheVariants as refusal
use Rattle.log_rules.specs.Judgement.{Judgement, waiting, judge, judged}
use Rattle.log_rules.proofs.Items.{refused-stays}
use Rattle.filled_log.specs.declared.filling.FilledLog.{FilledLog}
use Rattle.log_trace.specs.Judging.{without_formula, IsRefused, MayFollow}
use Rattle.filled_log.specs.Filling.{Keeps}
use Rattle.log_trace.proofs.Following.{follows_one, follows_first}

judged-none : (j : Judgement) → judged without_formula j [] ≡ j
unfolding judged
judged-none j = refl

judged-one : (j : Judgement) (i : Item) (rest : List Item) → judged without_formula j (i ∷ rest) ≡ judged without_formula (judge without_formula j i) rest
unfolding judged
judged-one j i rest = refl

-- what the items so far lead to, with these to come
pub record Going (kept : FilledLog) (items rest : List Item) : Type 0 where
  pub judgement : Judgement
  pub same : judged without_formula waiting items ≡ judged without_formula judgement rest
  pub keeps : Keeps kept judgement
  pub follows : MayFollow judgement rest

pub begins : (kept : FilledLog) (items rest : List Item) → Keeps kept waiting → FitFirst items → rest ≡ items → Going kept items rest
begins kept items rest new fit same =
    subst (Going kept items) (sym same) (record { judgement = waiting; same = refl; keeps = new; follows = fit })

module _ (kept : FilledLog) (items here : List Item) (i : Item) (rest : List Item) (is : here ≡ i ∷ rest) (going : Going kept items here) where
  abbrev j : Judgement
  j = going.judgement

  follows : MayFollow j (i ∷ rest)
  follows = subst (MayFollow j) is going.follows

  first : MayFollow j (i ∷ [])
  first = follows_first j i rest follows

  step : judged without_formula waiting items ≡ judged without_formula (judge without_formula j i) rest
  step = going.same ∙ ap (judged without_formula j) is ∙ judged-one j i rest

  pub may_take : (k : Judgement) × Keeps kept k × MayFollow k (i ∷ [])
  may_take = (j, going.keeps, first)

  pub goes_on : (now : FilledLog) → ((k : Judgement) → Keeps kept k → MayFollow k (i ∷ []) → Keeps now (judge without_formula k i)) → Going now items rest
  goes_on now taken = record {
    judgement = judge without_formula j i;
    same = step;
    keeps = taken j going.keeps first;
    follows = follows_one j i rest follows;
  }

  refused_so : (f : LogFault) → ((k : Judgement) → Keeps kept k → MayFollow k (i ∷ []) → IsRefused (judge without_formula k i) f) → IsRefused (judged without_formula waiting items) f
  refused_so f refused_is =
      let r = refused_is j going.keeps first in
      (r.0, step ∙ ap (λ (x : Judgement). judged without_formula x rest) r.1 ∙ refused-stays without_formula r.0 (refusal.Log f) rest)

  pub stops : (r : Refused LogFault)
      → IfFault {T = Unit {0}} (Err r) (λ f. (k : Judgement) → Keeps kept k → MayFollow k (i ∷ []) → IsRefused (judge without_formula k i) f)
      → IfFault {T = Unit {0}} (Err r) (IsRefused (judged without_formula waiting items))
  stops (refused.Fault f) told = refused_so f told
  stops refused.NoMemory told = tt

pub all_done : (kept : FilledLog) (items rest : List Item) → rest ≡ [] → Going kept items rest → Keeps kept (judged without_formula waiting items)
all_done kept items rest none going =
    subst (Keeps kept) (sym (going.same ∙ ap (judged without_formula going.judgement) none ∙ judged-none going.judgement)) going.keeps
