-- Items of a log, judged one after another.
use Rattle.std.proofs.Common.{◌≡◌, ℕ, Bool, Result, Ok, Err, Option, Some, None, List, [], ◌∷◌, ◌++◌, refl, sym, ap, subst, ◌∙◌, append_assoc, append-nil}
use Rattle.event_log.specs.declared.item.Item.{Item}
use Rattle.fault_kinds.specs.declared.refusal.Refusal.{Refusal}
use Rattle.std.specs.Prelude.{IfOk}
use Rattle.vector_clock.specs.Admitted.{IfFault}
use Rattle.pota_base.specs.declared.fault.Refused.{Refused}
use Rattle.pota_base.specs.declared.fault.Refused.TheVariants as refused
use Rattle.log_rules.specs.Judgement.{Rules, Judgement, judge, judged}
use Rattle.log_rules.proofs.Items.{judged-append, refused-stays}
use Rattle.log_check.specs.declared.check.LogCheck.{LogCheck}
use Rattle.log_check.specs.Aims.{Says, Aim, rules_of}
use Rattle.log_check.specs.Checking.{IsCheckOf, GoesOn, IsRefusedAs, MayFollow}
use Rattle.log_check.proofs.Following.{follows_first, follows_all}
use Rattle.log_part.specs.inside.Reading.{IsRefusalIn, JudgesTo}

judged-one : (rules : Rules) (j : Judgement) (i : Item) → judged rules j (i ∷ []) ≡ judge rules j i
unfolding judged
judged-one rules j i = refl

judged-none : (rules : Rules) (j : Judgement) → judged rules j [] ≡ j
unfolding judged
judged-none rules j = refl

-- what holds of the fault holds of the refusal that is told
pub refused_so : (T : Type 0) {E : Type 0} (result : Result (Option Refusal) E) (r : Refused Refusal) (Told : Option Refusal → Type 0) (Q : Refusal → Type 0) → IfOk result (IsRefusalIn r) → IfFault {T = T} (Err r) Q
    → ((why : Refusal) → Q why → Told (Some why)) → IfOk result Told
refused_so T (Ok why) (refused.Fault f) Told Q is told leads = subst Told (sym is) (leads f told)
refused_so T (Ok why) refused.NoMemory Told Q is told leads = absurd is
refused_so T (Err e) r Told Q is told leads = tt

module _ {X : Type 0} {P : X → Type 0} (says : Says X P) where
  -- these items were taken, and the check is of what they lead to
  pub record Taken (aim : Aim) (check : LogCheck X P) (j : Judgement) (items rest : List Item) : Type 0 where
    pub done : List Item
    pub split : items ≡ done ++ rest
    pub is : IsCheckOf says aim check (judged (rules_of aim) j done)

  -- for whatever the check is of
  abbrev pub TakenSoFar : LogCheck X P → LogCheck X P → List Item → List Item → Type 0
  TakenSoFar first check items rest = (aim : Aim) (j : Judgement) → IsCheckOf says aim first j → MayFollow j items → Taken aim check j items rest

  module _ (first : LogCheck X P) (items : List Item) where
    pub begins : (rest : List Item) → rest ≡ items → TakenSoFar first first items rest
    begins rest same aim j is follows = record { done = []; split = sym same; is = subst (IsCheckOf says aim first) (sym (judged-none (rules_of aim) j)) is }

    module _ (check : LogCheck X P) (i : Item) (rest here : List Item) (next_is : here ≡ i ∷ rest) (taken : TakenSoFar first check items here) where
      so_far : (aim : Aim) (j : Judgement) → IsCheckOf says aim first j → MayFollow j items → Taken aim check j items (i ∷ rest)
      so_far aim j is follows = subst (Taken aim check j items) next_is (taken aim j is follows)

      next_follows : (aim : Aim) (j : Judgement) → MayFollow j items → (t : Taken aim check j items (i ∷ rest)) → MayFollow (judged (rules_of aim) j t.done) (i ∷ [])
      next_follows aim j follows t =
          follows_first (judged (rules_of aim) j t.done) i rest (follows_all (rules_of aim) j t.done (i ∷ rest) (subst (MayFollow j) t.split follows))

      pub may_take : (aim : Aim) × (j : Judgement) × IsCheckOf says aim first j × MayFollow j items → (aim : Aim) × (j : Judgement) × IsCheckOf says aim check j × MayFollow j (i ∷ [])
      may_take known =
          let t = so_far known.0 known.1 known.2 known.3 in
          (known.0, judged (rules_of known.0) known.1 t.done, t.is, next_follows known.0 known.1 known.3 t)

      split_now : (done : List Item) → items ≡ done ++ (i ∷ rest) → items ≡ (done ++ i ∷ []) ++ rest
      split_now done split = split ∙ sym (append_assoc done (i ∷ []) rest)

      one_more : (aim : Aim) (j : Judgement) (done : List Item) → judged (rules_of aim) j (done ++ i ∷ []) ≡ judge (rules_of aim) (judged (rules_of aim) j done) i
      one_more aim j done = judged-append (rules_of aim) j done (i ∷ []) ∙ judged-one (rules_of aim) (judged (rules_of aim) j done) i

      pub goes_on : (next : LogCheck X P) (closed : Bool) → ((aim : Aim) (j : Judgement) → IsCheckOf says aim check j → MayFollow j (i ∷ []) → GoesOn says aim next j (judge (rules_of aim) j i) closed)
          → TakenSoFar first next items rest
      goes_on next closed takes aim j is follows =
          let t = so_far aim j is follows in
          let on = takes aim (judged (rules_of aim) j t.done) t.is (next_follows aim j follows t) in
          record {
            done = t.done ++ i ∷ [];
            split = split_now t.done t.split;
            is = subst (IsCheckOf says aim next) (sym (one_more aim j t.done)) on.is;
          }

      pub stops : (next : LogCheck X P) (batches : ℕ) (why : Refusal) → ((aim : Aim) (j : Judgement) → IsCheckOf says aim check j → MayFollow j (i ∷ []) → IsRefusedAs j (judge (rules_of aim) j i) batches why)
          → (aim : Aim) (j : Judgement) → IsCheckOf says aim first j → MayFollow j items → JudgesTo says aim next (judged (rules_of aim) j items) (Some why)
      stops next batches why takes aim j is follows =
          let t = so_far aim j is follows in
          let refusal = takes aim (judged (rules_of aim) j t.done) t.is (next_follows aim j follows t) in (
            refusal.log,
            ap (judged (rules_of aim) j) (split_now t.done t.split) ∙ judged-append (rules_of aim) j (t.done ++ i ∷ []) rest
                ∙ ap (λ (k : Judgement). judged (rules_of aim) k rest) (one_more aim j t.done ∙ refusal.is) ∙ refused-stays (rules_of aim) refusal.log why rest,
          )

    pub all_done : (check : LogCheck X P) (rest : List Item) → rest ≡ [] → TakenSoFar first check items rest → (aim : Aim) (j : Judgement) → IsCheckOf says aim first j → MayFollow j items
        → JudgesTo says aim check (judged (rules_of aim) j items) None
    all_done check rest none taken aim j is follows =
        let t = taken aim j is follows in
        let same : t.done ≡ items = sym (append-nil t.done) ∙ ap (λ (xs : List Item). t.done ++ xs) (sym none) ∙ sym t.split in
        subst (λ (xs : List Item). IsCheckOf says aim check (judged (rules_of aim) j xs)) same t.is
