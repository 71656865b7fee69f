-- The items of a log, one after the other.
use Rattle.std.specs.Prelude.{Err}
use Rattle.std.proofs.Common.{◌≡◌, List, [], ◌∷◌, refl, sym, ap, subst, ◌∙◌}
use Rattle.event_log.specs.declared.item.Item.{Item}
use Rattle.event_log.specs.declared.item.LogFault.{LogFault}
use Rattle.pota_base.specs.declared.fault.Refused.{Refused}
use Rattle.pota_base.specs.declared.fault.Refused.TheVariants as refused
use Rattle.vector_clock.specs.Admitted.{IfFault}
use Rattle.fault_kinds.specs.declared.refusal.Refusal.TheVariants as refusal
use Rattle.log_rules.specs.Judgement.{Judgement, judge, judged}
use Rattle.log_rules.proofs.Items.{refused-stays}
use Rattle.log_trace.specs.declared.trace.LogTrace.{LogTrace}
use Rattle.log_trace.specs.Judging.{without_formula, IsRefused, Keeps, MayFollow}
use Rattle.log_trace.proofs.Following.{follows_one, follows_first}

judged-none : (j : Judgement) → judged without_formula j [] ≡ j
unfolding judged
judged-none j = refl

judged-one : (j : Judgement) (i : Item) (rest : List Item) → judged without_formula j (i ∷ rest) ≡ judged without_formula (judge without_formula j i) rest
unfolding judged
judged-one j i rest = refl

-- what the items so far lead to, with these to come
pub record Going (first : Judgement) (kept : LogTrace) (items rest : List Item) : Type 0 where
  pub judgement : Judgement
  pub same : judged without_formula first items ≡ judged without_formula judgement rest
  pub keeps : Keeps kept judgement
  pub follows : MayFollow judgement rest

-- whatever was kept before them
abbrev pub GoingOn : LogTrace → LogTrace → List Item → List Item → Type 0
GoingOn old kept items rest = (j : Judgement) → Keeps old j → MayFollow j items → Going j kept items rest

module _ (old : LogTrace) (items : List Item) where
  pub begins : (rest : List Item) → rest ≡ items → GoingOn old old items rest
  begins rest same j is fit = subst (Going j old items) (sym same) (record { judgement = j; same = refl; keeps = is; follows = fit })

  module _ (kept : LogTrace) (here : List Item) (i : Item) (rest : List Item) (is : here ≡ i ∷ rest) (going : GoingOn old kept items here) where
    module _ (j : Judgement) (keeps : Keeps old j) (fit : MayFollow j items) where
      abbrev g : Going j kept items here
      g = going j keeps fit

      follows : MayFollow g.judgement (i ∷ rest)
      follows = subst (MayFollow g.judgement) is g.follows

      first : MayFollow g.judgement (i ∷ [])
      first = follows_first g.judgement i rest follows

      step : judged without_formula j items ≡ judged without_formula (judge without_formula g.judgement i) rest
      step = g.same ∙ ap (judged without_formula g.judgement) is ∙ judged-one g.judgement i rest

      may_take_by : (k : Judgement) × Keeps kept k × MayFollow k (i ∷ [])
      may_take_by = (g.judgement, g.keeps, first)

      goes_on_by : (now : LogTrace) → ((k : Judgement) → Keeps kept k → MayFollow k (i ∷ []) → Keeps now (judge without_formula k i)) → Going j now items rest
      goes_on_by now taken = record {
        judgement = judge without_formula g.judgement i;
        same = step;
        keeps = taken g.judgement g.keeps first;
        follows = follows_one g.judgement i rest follows;
      }

      refused_so : (f : LogFault) → ((k : Judgement) → Keeps kept k → MayFollow k (i ∷ []) → IsRefused (judge without_formula k i) f) → IsRefused (judged without_formula j items) f
      refused_so f refused_is =
          let r = refused_is g.judgement g.keeps first in
          (r.0, step ∙ ap (λ (x : Judgement). judged without_formula x rest) r.1 ∙ refused-stays without_formula r.0 (refusal.Log f) rest)

    pub may_take : (j : Judgement) × Keeps old j × MayFollow j items → (k : Judgement) × Keeps kept k × MayFollow k (i ∷ [])
    may_take known = may_take_by known.0 known.1 known.2

    pub goes_on : (now : LogTrace) → ((k : Judgement) → Keeps kept k → MayFollow k (i ∷ []) → Keeps now (judge without_formula k i)) → GoingOn old now items rest
    goes_on now taken j keeps fit = goes_on_by j keeps fit now taken

    pub stops : (r : Refused LogFault)
        → IfFault {T = Unit {0}} (Err r) (λ f. (k : Judgement) → Keeps kept k → MayFollow k (i ∷ []) → IsRefused (judge without_formula k i) f)
        → IfFault {T = Unit {0}} (Err r) (λ f. (j : Judgement) → Keeps old j → MayFollow j items → IsRefused (judged without_formula j items) f)
    stops (refused.Fault f) told = λ j keeps fit. refused_so j keeps fit f told
    stops refused.NoMemory told = tt

  pub all_done : (kept : LogTrace) (rest : List Item) → rest ≡ [] → GoingOn old kept items rest
      → (j : Judgement) → Keeps old j → MayFollow j items → Keeps kept (judged without_formula j items)
  all_done kept rest none going j keeps fit =
      let g = going j keeps fit in
      subst (Keeps kept) (sym (g.same ∙ ap (judged without_formula g.judgement) none ∙ judged-none g.judgement)) g.keeps
