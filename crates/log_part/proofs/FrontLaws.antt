-- The log at the front of bytes, and what is due of it.
use Rattle.std.proofs.Common.{◌≡◌, ℕ, true, false, Option, Some, None, List, [], ◌∷◌, ◌++◌, refl, sym, ap, ◌∙◌, inl, inr, append-nil}
use Rattle.std.specs.Option.{option_map}
use Rattle.std.proofs.lemmas.Bool.{cases_Bool}
use Rattle.std.proofs.lemmas.Option.{none-some, same_Some}
use Rattle.event_log.specs.declared.item.LogFault.{LogFault}
use Rattle.event_log.specs.declared.item.LogCode.TheVariants as code
use Rattle.event_log.specs.Faults.{placed as text_placed}
use Rattle.event_log.specs.LogText.{onto}
use Rattle.event_log.specs.LogEnd.{is_whole, log_upto, behind_log}
use Rattle.event_log.specs.Faults.{first_fault, items, end_fault}
use Rattle.event_log.proofs.LogEnds.{behind_more, whole_behind}
use Rattle.rctl_class.specs.Nodes.{formula_of}
use Rattle.vector_clock.specs.Filled.{filled_log}
use Rattle.fault_kinds.specs.declared.refusal.Refusal.{Refusal}
use Rattle.fault_kinds.specs.declared.refusal.Refusal.TheVariants as refusal
use Rattle.log_rules.specs.Judgement.{Prefix, followed_by, Judgement, waiting, growing, finished, refused, judged}
use Rattle.log_rules.specs.Counters.{counters_in}
use Rattle.log_rules.specs.Due.{Due, whole_of, placed, fault_in, at_end, told}
use Rattle.log_rules.specs.WholeLogs.{all_of}
use Rattle.log_rules.proofs.Logs.{log_due, due_log}
use Rattle.log_check.specs.Aims.{Aim, rules_of, unknown_name}
use Rattle.log_check.specs.Checking.{IsFree, HasClosed}
use Rattle.log_part.specs.Fronts.{log_front, due_of_front}
use Rattle.log_part.specs.Reading.{judged_front}

-- ---- the bytes of the log

pub onto-front : (bytes past : List ℕ) → onto (log_front past bytes) past ≡ log_upto past bytes
unfolding log_front log_upto
onto-front [] past = refl
onto-front (b ∷ bytes) past = elim (cases_Bool (is_whole past)) [
  | inl whole ↦ rw whole refl
  | inr open_ ↦ rw open_ (onto-front bytes (b ∷ past))
]

pub front-behind : (bytes past : List ℕ) → bytes ≡ log_front past bytes ++ behind_log past bytes
unfolding log_front behind_log
front-behind [] past = refl
front-behind (b ∷ bytes) past = elim (cases_Bool (is_whole past)) [
  | inl whole ↦ rw whole refl
  | inr open_ ↦ rw open_ (ap (λ (xs : List ℕ). b ∷ xs) (front-behind bytes (b ∷ past)))
]

whole_front : (past bytes : List ℕ) → is_whole past ≡ true → log_front past bytes ≡ []
unfolding log_front
whole_front past [] whole = refl
whole_front past (b ∷ bytes) whole = rw whole refl

pub front-more : (bytes more past : List ℕ) → log_front past (bytes ++ more) ≡ log_front past bytes ++ log_front (log_upto past bytes) more
unfolding log_front log_upto
front-more [] more past = refl
front-more (b ∷ bytes) more past = elim (cases_Bool (is_whole past)) [
  | inl whole ↦ rw whole (sym (whole_front past more whole))
  | inr open_ ↦ rw open_ (ap (λ (xs : List ℕ). b ∷ xs) (front-more bytes more (b ∷ past)))
]

-- nothing behind a whole log is of it
pub front_stays : (bytes more : List ℕ) → is_whole (log_upto [] bytes) ≡ true → log_front [] (bytes ++ more) ≡ log_front [] bytes
front_stays bytes more whole =
    front-more bytes more [] ∙ ap (λ (xs : List ℕ). log_front [] bytes ++ xs) (whole_front (log_upto [] bytes) more whole) ∙ append-nil (log_front [] bytes)

pub behind_stays : (bytes more : List ℕ) → is_whole (log_upto [] bytes) ≡ true → behind_log [] (bytes ++ more) ≡ behind_log [] bytes ++ more
behind_stays bytes more whole =
    behind_more bytes more [] ∙ ap (λ (xs : List ℕ). behind_log [] bytes ++ xs) (whole_behind (log_upto [] bytes) more whole)

-- ---- what is due

-- a fault of a log's text is told at its own line
abbrev as_is : LogFault → Refusal
as_is f = refusal.Log f

placed_as_is : (why : Refusal) → placed as_is why ≡ why
placed_as_is (refusal.Formula f) = refl
placed_as_is (refusal.Log f) = refl
placed_as_is (refusal.Import f) = refl
placed_as_is (refusal.Merge f) = refl

-- a judgement without a fault has that of the bytes, or none
free_told : (j : Judgement) (fault : Option Refusal) → IsFree j → fault_in as_is j fault ≡ fault
free_told waiting fault free = refl
free_told (growing log since) fault free = refl
free_told (finished log last) fault free = refl
free_told (refused log why) fault free = absurd free

whole_closed : (j : Judgement) (log : Prefix) → whole_of j ≡ Some log → HasClosed j log
whole_closed waiting log h = absurd (none-some log h)
whole_closed (growing so_far since) log h = absurd (none-some log h)
whole_closed (finished so_far last) log h = sym (same_Some (followed_by so_far last) log h)
whole_closed (refused so_far why) log h = absurd (none-some log h)

-- an input that ends within a log has a fault
abbrev placed_at : List ℕ → LogFault
placed_at past = text_placed past code.Truncated

pub cut_somewhere : (past : List ℕ) → is_whole past ≡ false → (f : LogFault) × (end_fault past ≡ Some f)
cut_somewhere past within = go (first_fault past) refl
  where
    go : (o : Option LogFault) → first_fault past ≡ o → (f : LogFault) × (end_fault past ≡ Some f)
    go None e = (placed_at past, rw (e, within) refl)
    go (Some f) e = (f, rw e refl)

module _ (aim : Aim) (bytes : List ℕ) where
  abbrev past : List ℕ
  past = log_upto [] bytes

  -- what is told of a past, where the input goes on and where it has ended
  abbrev told_open : List ℕ → Due
  told_open p = told false as_is (judged (rules_of aim) waiting (items p)) (option_map as_is (first_fault p))

  abbrev told_ended : List ℕ → Due
  told_ended p = told true as_is (judged (rules_of aim) waiting (items p)) (option_map as_is (end_fault p))

  due_open : due_of_front aim false bytes ≡ told_open past
  due_open = ap told_open (onto-front bytes [])

  due_ended : due_of_front aim true bytes ≡ told_ended past
  due_ended = ap told_ended (onto-front bytes [])

  -- the fault of an item
  pub refused_due : (log : Option Prefix) (why : Refusal) → judged_front aim bytes ≡ refused log why → (due_of_front aim false bytes).fault ≡ Some why
  refused_due log why is =
      ap (λ (d : Due). d.fault) due_open ∙ ap (λ (j : Judgement). fault_in as_is j (option_map as_is (first_fault past))) is ∙ ap (λ (r : Refusal). Some r) (placed_as_is why)

  -- the fault of the bytes themselves, or none, where no item has one
  pub free_due : (fault : Option LogFault) → IsFree (judged_front aim bytes) → first_fault past ≡ fault → (due_of_front aim false bytes).fault ≡ option_map as_is fault
  free_due fault free is = ap (λ (d : Due). d.fault) due_open ∙ free_told (judged_front aim bytes) (option_map as_is (first_fault past)) free ∙ ap (option_map as_is) is

  pub end_due : (fault : Option LogFault) → IsFree (judged_front aim bytes) → end_fault past ≡ fault → (due_of_front aim true bytes).fault ≡ option_map as_is fault
  end_due fault free is = ap (λ (d : Due). d.fault) due_ended ∙ free_told (judged_front aim bytes) (option_map as_is (end_fault past)) free ∙ ap (option_map as_is) is

  -- a log that is due as a whole has its `end` line
  pub whole_over : (log : Prefix) → (due_of_front aim true bytes).whole ≡ Some log → is_whole past ≡ true
  whole_over log is = elim (cases_Bool (is_whole past)) [
    | inl whole ↦ whole
    | inr within ↦
        let cut = cut_somewhere past within in
        absurd (none-some log (sym (ap (λ (o : Option LogFault). at_end true (option_map as_is o) (whole_of (judged_front aim bytes))) cut.1) ∙ sym (ap (λ (d : Due). d.whole) due_ended) ∙ is))
  ]

  -- a log without a fault is whole, and its last batch is closed
  pub record StandsWhole : Type 0 where
    pub log : Prefix
    pub whole : (due_of_front aim true bytes).whole ≡ Some log
    pub closed : HasClosed (judged_front aim bytes) log

  pub stands_whole : IsFree (judged_front aim bytes) → end_fault past ≡ None → StandsWhole
  stands_whole free none =
      let names = unknown_name aim.node aim.names in
      let counters = counters_in (formula_of aim.node) in
      let found = due_log names counters (log_front [] bytes) (end_due None free none) in
      let due_is = log_due names counters (log_front [] bytes) found.0 found.1 in
      let log : Prefix = all_of (filled_log found.0) in
      let last : whole_of (judged_front aim bytes) ≡ Some log =
      sym (ap (λ (o : Option LogFault). at_end true (option_map as_is o) (whole_of (judged_front aim bytes))) none)
      ∙ sym (ap (λ (d : Due). d.whole) due_ended) ∙ due_is.whole in
      record { log = log; whole = due_is.whole; closed = whole_closed (judged_front aim bytes) log last }
