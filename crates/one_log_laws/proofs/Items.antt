-- What is known of the log of items that fit, whatever they were read from.
use Rattle.std.proofs.Common.{◌≡◌, ℕ, ◌≤◌, Bool, true, false, Option, Some, None, List, [], ◌∷◌, ◌++◌, length, refl, sym, ap, subst, ◌∙◌, arith, inl}
use Rattle.std.specs.List.{AllByRecursion}
use Rattle.std.proofs.lemmas.Option.{none-some, same_Some}
use Rattle.event_log.specs.declared.item.Item.{Item}
use Rattle.event_log.specs.declared.item.LogCode.TheVariants as code
use Rattle.event_log.specs.FittingItems.{FitFirst}
use Rattle.fault_kinds.specs.declared.refusal.Refusal.{Refusal}
use Rattle.fault_kinds.specs.declared.refusal.Refusal.TheVariants as refusal
use Rattle.torn_runs.proofs.Greatest.{greatest_one}
use Rattle.torn_log.specs.Needs.{needs}
use Rattle.torn_log.proofs.Keeping.{first_kept}
use Rattle.torn_text.specs.Mending.{mended}
use Rattle.form_readings.proofs.Imports.{clocks_are_read}
use Rattle.form_readings.proofs.Merging.{sources_are_read}
use Rattle.log_rules.specs.Judgement.{Prefix, judged, waiting}
use Rattle.log_rules.specs.Due.{due, whole_of, at_end}
use Rattle.log_rules.specs.Readings.{Reading, IsReading}
use Rattle.log_rules.specs.Reported.{listed}
use Rattle.log_rules.proofs.Readings.{log_is_read}
use Rattle.log_rules.proofs.Sound.{all_sound}
use Rattle.log_trace.specs.Judging.{without_formula}
use Rattle.log_input.specs.declared.form.Form.{Form}
use Rattle.log_input.specs.declared.form.Form.TheVariants as form
use Rattle.log_input.specs.Readings.{reading_of}
use Rattle.one_log.specs.Logging.{HasLogBy, HasTornLog, events_of, items_of, torn_due, upto}
use Rattle.one_log_laws.proofs.Few.{IsSmall, whole_small}
use Rattle.one_log_laws.proofs.Fine.{IsFine, fine_first, fine_next}

-- the log of items that fit
pub record IsOfItems (log : Prefix) : Type 0 where
  pub items : List Item
  pub fit : FitFirst items
  pub whole : whole_of (judged without_formula waiting items) ≡ Some log

-- ---- by which form it was read

whole_there : (fault : Option Refusal) (o : Option Prefix) (log : Prefix) → at_end true fault o ≡ Some log → o ≡ Some log
whole_there None o log there = there
whole_there (Some f) o log there = absurd (none-some log there)

of_due : (reading : Reading) (bytes : List ℕ) (log : Prefix) → FitFirst (reading.items true bytes) → (due reading without_formula true bytes).whole ≡ Some log → IsOfItems log
of_due reading bytes log fit whole = record {
  items = reading.items true bytes;
  fit = fit;
  whole = whole_there (reading.fault true bytes) (whole_of (judged without_formula waiting (reading.items true bytes))) log whole;
}

fit_so : (f : Form) (bytes : List ℕ) → FitFirst (items_of f bytes)
fit_so form.OneLog bytes = log_is_read.fit true bytes
fit_so form.Merged bytes = sources_are_read.fit true bytes
fit_so form.Clocks bytes = clocks_are_read.fit true bytes

pub of_items : (torn : Bool) (f : Form) (input : List ℕ) (log : Prefix) → HasLogBy torn f input log → IsOfItems log
of_items false f input log has = of_due (reading_of f) input log (fit_so f input) has.whole
of_items true f input log has =
    of_due (upto has.cut (reading_of f)) (mended input) log (first_kept has.cut (items_of f (mended input)) (fit_so f (mended input))) has.whole

-- it is one alone
torn_one : (f : Form) (text : List ℕ) (p q : Prefix) → HasTornLog f text p → HasTornLog f text q → p ≡ q
torn_one f text p q h k =
    let same = greatest_one (needs (events_of f text)) h.cut k.cut h.greatest k.greatest in
    same_Some p q (sym h.whole ∙ ap (λ c. (torn_due f c text).whole) same ∙ k.whole)

pub one_alone : (torn : Bool) (f : Form) (input : List ℕ) (p q : Prefix) → HasLogBy torn f input p → HasLogBy torn f input q → p ≡ q
one_alone false f input p q h k = same_Some p q (sym h.whole ∙ k.whole)
one_alone true f input p q h k = torn_one f (mended input) p q h k

-- ---- a reading that gives the items at once, where no byte is there

abbrev at_once : List Item → (ended : Bool) → List ℕ → List Item
at_once items false bytes = []
at_once items true [] = items
at_once items true (b ∷ bytes) = []

abbrev any_fault : List ℕ → Option Refusal
any_fault [] = None
any_fault (b ∷ bytes) = Some (refusal.Log (record { code = code.Truncated; line = 0 }))

abbrev once : List Item → Reading
once items = record {
  items = λ ended bytes. at_once items ended bytes;
  fault = λ ended bytes. any_fault bytes;
  place = λ ended bytes f. refusal.Log f;
}

module _ (items : List Item) (fit : FitFirst items) where
  stop : (ended : Bool) (bytes more : List ℕ) (f : Refusal) → any_fault bytes ≡ Some f → at_once items ended (bytes ++ more) ≡ []
  stop ended [] more f is = absurd (none-some f is)
  stop false (b ∷ bytes) more f is = refl
  stop true (b ∷ bytes) more f is = refl

  stay : (bytes more : List ℕ) (f : Refusal) → any_fault bytes ≡ Some f → any_fault (bytes ++ more) ≡ Some f
  stay [] more f is = absurd (none-some f is)
  stay (b ∷ bytes) more f is = is

  few : (bytes : List ℕ) → any_fault bytes ≡ None → length bytes ≤ 0
  few [] none = omega arith
  few (b ∷ bytes) none = absurd (none-some (refusal.Log (record { code = code.Truncated; line = 0 })) (sym none))

  fits : (ended : Bool) (bytes : List ℕ) → FitFirst (at_once items ended bytes)
  fits false bytes = tt
  fits true [] = fit
  fits true (b ∷ bytes) = tt

  once_is : IsReading 0 (once items)
  once_is = record {
    no_items = refl;
    no_fault = refl;
    items_stay = λ ended bytes more. (at_once items ended (bytes ++ more), refl);
    fault_stops = stop;
    fault_stays = λ ended. stay;
    place_stays = λ bytes. inl refl;
    bounded = few;
    fit = fits;
  }

-- ---- what is known of it

pub fine_so : (log : Prefix) → IsOfItems log → IsFine log
fine_so log of =
    (subst (λ (o : Option Prefix). AllByRecursion IsFine (listed o)) of.whole
    (all_sound without_formula IsFine fine_first fine_next 0 (once of.items) (once_is of.items of.fit) true [] false)).0

pub small_so : (log : Prefix) → IsOfItems log → IsSmall log
small_so log of = whole_small of.items log of.fit of.whole
