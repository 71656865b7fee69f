-- A log of one batch, which is taken whole.
use Rattle.std.proofs.Common.{◌≡◌, ℕ, ◌+◌, Option, Some, None, List, [], ◌∷◌, ◌++◌, length, refl, sym, ap, subst, ◌∙◌, arith}
use Rattle.std.proofs.lemmas.List.{length_push, nil_from_length}
use Rattle.log_lines.specs.Reading.{choose}
use Rattle.rctl_grammar.specs.declared.fault.FormulaFault.{FormulaFault}
use Rattle.event_log.specs.declared.item.Item.{Item}
use Rattle.event_log.specs.declared.item.Item.TheVariants as item
use Rattle.event_log.specs.declared.log.Event.{Event}
use Rattle.event_log.specs.declared.log.Header.{Header}
use Rattle.event_log.specs.declared.log.Log.{Log}
use Rattle.event_log.specs.FittingItems.{FitFrom, FitFirst}
use Rattle.event_log.specs.LogText.{event_items, batch_items, log_items}
use Rattle.fault_kinds.specs.declared.refusal.Refusal.{Refusal}
use Rattle.fault_kinds.specs.declared.refusal.Refusal.TheVariants as refusal
use Rattle.log_rules.specs.Judgement.{Prefix, Rules, Judgement, waiting, growing, refused, opened, judge, judged}
use Rattle.log_rules.specs.Due.{closed_of, after_each}
use Rattle.log_rules.proofs.Items.{refused-stays}
use Rattle.log_rules.proofs.Logs.{judged-batch}
use Rattle.log_intake.specs.PassedOn.{Observation}
use Rattle.log_intake.specs.Taking.{alone, MayFollow, GrowsFrom}
use Rattle.log_check.specs.declared.check.LogCheck.{LogCheck}
use Rattle.log_check.specs.Aims.{Says, Aim, rules_of}
use Rattle.log_check.specs.Checking.{IsFree, IsCheckOf, IsRefusedAs}

-- ---- its one batch

-- the one that was taken out is all
pub only : (all given rest : List (List Event)) (b : List Event) → length all ≡ 1 → given ≡ all → given ≡ rest ++ b ∷ [] → all ≡ b ∷ []
only all given rest b one is split =
    let long : length rest + 1 ≡ 1 = sym (length_push rest b) ∙ ap length (sym split ∙ is) ∙ one in
    sym is ∙ split ∙ ap (λ (xs : List (List Event)). xs ++ b ∷ []) (nil_from_length rest (omega (arith, long)))

front_fits : (h : Header) (n : ℕ) (b : List Event) (rest : List Item) → FitFrom h n (event_items b ++ rest) → FitFrom h n (event_items b)
front_fits h n [] rest fit = tt
front_fits h n (e ∷ es) rest fit = (fit.0, fit.1, front_fits h (n + 1) es rest fit.2)

-- its events may come
pub events_follow : (log : Prefix) (b : List Event) → MayFollow (growing log []) (batch_items (b ∷ [])) → MayFollow (growing log []) (event_items b)
events_follow log b fit = front_fits log.header _ b (item.End ∷ []) fit

-- ---- what its parts lead to

pub last_judged : (rules : Rules) (log : Prefix) (b : List Event) → judged rules (growing log []) (batch_items (b ∷ [])) ≡ judge rules (growing log b) item.End
unfolding judged
last_judged rules log b = judged-batch rules log b []

log_judged : (rules : Rules) (log : Log) → judged rules waiting (log_items log) ≡ judged rules (opened rules log.header) (batch_items log.batches)
unfolding judged
log_judged rules log = refl

closed_first : (h : Header) → closed_of (growing (alone h) []) ≡ []
unfolding after_each
closed_first h = refl

-- a refusal of the last batch
pub last_refused : (rules : Rules) (log : Prefix) (b : List Event) (batches : ℕ) (why : Refusal) → IsRefusedAs (growing log b) (judge rules (growing log b) item.End) batches why
    → IsRefusedAs (growing log []) (judged rules (growing log []) (batch_items (b ∷ []))) batches why
last_refused rules log b batches why is =
    subst (λ (j : Judgement). IsRefusedAs (growing log []) j batches why) (sym (last_judged rules log b)) (record { log = is.log; is = is.is; none = is.none; number = is.number })

-- a refusal of the header
pub header_refused : (rules : Rules) (log : Log) (batches : ℕ) (why : Refusal) → IsRefusedAs waiting (opened rules log.header) batches why → IsRefusedAs waiting (judged rules waiting (log_items log)) batches why
header_refused rules log batches why is =
    let stays : judged rules waiting (log_items log) ≡ opened rules log.header =
    log_judged rules log ∙ ap (λ (j : Judgement). judged rules j (batch_items log.batches)) is.is ∙ refused-stays rules is.log why (batch_items log.batches) ∙ sym is.is in
    subst (λ (j : Judgement). IsRefusedAs waiting j batches why) (sym stays) is

module _ {X : Type 0} {P : X → Type 0} (says : Says X P) where
  -- nothing was observed before the header
  pub grows_first : (aim : Aim) (check : LogCheck X P) (after : Option (Observation X P)) → IsCheckOf says aim check waiting → GrowsFrom check.intake.observation after
  grows_first aim check after is = subst (λ (before : Option (Observation X P)). GrowsFrom before after) (sym is.intake.keeps.none) tt

  -- behind a header without a refusal
  opened_grows : (aim : Aim) (h : Header) (now : LogCheck X P) → IsCheckOf says aim now (opened (rules_of aim) h) → opened (rules_of aim) h ≡ growing (alone h) []
  opened_grows aim h now is = go ((rules_of aim).names h) is.free
    where
      go : (o : Option FormulaFault) → IsFree (choose o (λ f. refused None (refusal.Formula f)) (growing (alone h) [])) → choose o (λ f. refused None (refusal.Formula f)) (growing (alone h) []) ≡ growing (alone h) []
      go None free = refl
      go (Some f) free = absurd free

  pub opened_check : (aim : Aim) (h : Header) (now : LogCheck X P) → IsCheckOf says aim now (opened (rules_of aim) h) → IsCheckOf says aim now (growing (alone h) [])
  opened_check aim h now is = subst (IsCheckOf says aim now) (opened_grows aim h now is) is

  module _ (aim : Aim) (log : Log) (b : List Event) (is_one : log.batches ≡ b ∷ []) where
    -- its batch may follow
    pub batch_follows : FitFirst (log_items log) → MayFollow (growing (alone log.header) []) (batch_items (b ∷ []))
    batch_follows fit = subst (λ (bs : List (List Event)). FitFrom log.header 0 (batch_items bs)) is_one fit.1

    module _ (opened_log : LogCheck X P) (began : IsCheckOf says aim opened_log (opened (rules_of aim) log.header)) where
      whole_judged : judged (rules_of aim) waiting (log_items log) ≡ judged (rules_of aim) (growing (alone log.header) []) (batch_items (b ∷ []))
      whole_judged =
          log_judged (rules_of aim) log
          ∙ ap (λ (j : Judgement). judged (rules_of aim) j (batch_items log.batches)) (opened_grows aim log.header opened_log began)
          ∙ ap (λ (bs : List (List Event)). judged (rules_of aim) (growing (alone log.header) []) (batch_items bs)) is_one

      pub whole_taken : (now : LogCheck X P) → IsCheckOf says aim now (judged (rules_of aim) (growing (alone log.header) []) (batch_items (b ∷ []))) → IsCheckOf says aim now (judged (rules_of aim) waiting (log_items log))
      whole_taken now is = subst (IsCheckOf says aim now) (sym whole_judged) is

      pub whole_refused : (batches : ℕ) (why : Refusal) → IsRefusedAs (growing (alone log.header) []) (judged (rules_of aim) (growing (alone log.header) []) (batch_items (b ∷ []))) batches why
          → IsRefusedAs waiting (judged (rules_of aim) waiting (log_items log)) batches why
      whole_refused batches why is =
          subst (λ (j : Judgement). IsRefusedAs waiting j batches why) (sym whole_judged)
          (record { log = is.log; is = is.is; none = is.none ∙ closed_first log.header; number = is.number })
