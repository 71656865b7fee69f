-- A piece more of a log.
use Rattle.std.proofs.Common.{◌≡◌, ℕ, ◌-◌, ◌<◌, true, false, Option, Some, None, List, [], ◌++◌, length, length-append, refl, sym, ap, subst, ◌∙◌, arith, inl, inr}
use Rattle.std.proofs.lemmas.Bool.{cases_Bool}
use Rattle.std.proofs.lemmas.Option.{none-some}
use Rattle.pota_base.specs.Limits.{longest_kept}
use Rattle.event_log.specs.declared.item.Fed.{Fed}
use Rattle.event_log.specs.declared.item.LogFault.{LogFault}
use Rattle.event_log.specs.declared.reader.Reader.{Reader}
use Rattle.event_log.specs.Before.{is_ended}
use Rattle.event_log.specs.Moments.{lines}
use Rattle.event_log.specs.LogEnd.{is_whole, log_upto, behind_log}
use Rattle.event_log.specs.Faults.{first_fault, items, end_fault}
use Rattle.event_log.specs.FittingItems.{FitFirst}
use Rattle.event_log.specs.Reader.{HasRead, ReadsLog}
use Rattle.event_log.proofs.FaultLaws.{free_small}
use Rattle.event_log.proofs.FittingItems.{items_fit}
use Rattle.event_log.proofs.Lists.{length-onto}
use Rattle.event_log.proofs.LogEnds.{upto_more, behind_more, behind_open, parted}
use Rattle.fault_kinds.specs.declared.refusal.Refusal.{Refusal}
use Rattle.fault_kinds.specs.declared.refusal.Refusal.TheVariants as refusal
use Rattle.log_rules.specs.Judgement.{waiting, judged}
use Rattle.log_rules.proofs.Items.{judged-append}
use Rattle.log_check.specs.declared.check.LogCheck.{LogCheck}
use Rattle.log_check.specs.Aims.{Says, Aim, rules_of}
use Rattle.log_check.specs.Checking.{IsCheckOf, MayFollow}
use Rattle.log_check.proofs.Following.{follows_all}
use Rattle.input_reading.specs.Intakes.{Takes}
use Rattle.input_reading.specs.declared.intake.Turn.{Turn}
use Rattle.input_reading.specs.declared.intake.Turn.TheVariants as turn
use Rattle.log_part.specs.declared.part.LogPart.{LogPart}
use Rattle.log_part.specs.Fronts.{due_of_front}
use Rattle.log_part.specs.Reading.{judged_front, IsOpen, IsDone, IsWholeLog, EndsLog, IsCutShort}
use Rattle.log_part.specs.inside.Reading.{JudgesTo}
use Rattle.log_part.proofs.FrontLaws.{cut_somewhere, refused_due, free_due, end_due, stands_whole}

-- ---- where a log ends

-- without a fault the input may not end within the log
open_end : (past : List ℕ) → first_fault past ≡ None → is_whole past ≡ false → end_fault past ≡ None → ⊥
open_end past free within none = let cut = cut_somewhere past within in none-some cut.0 (sym none ∙ cut.1)

whole_end : (past : List ℕ) → first_fault past ≡ None → end_fault past ≡ None → is_whole past ≡ true
whole_end past free none = elim (cases_Bool (is_whole past)) [
  | inl whole ↦ whole
  | inr within ↦ absurd (open_end past free within none)
]

within_end : (past : List ℕ) (f : LogFault) → first_fault past ≡ None → end_fault past ≡ Some f → is_whole past ≡ false
within_end past f free some = elim (cases_Bool (is_whole past)) [
  | inr within ↦ within
  | inl whole ↦ let over : end_fault past ≡ None = rw (free, whole) refl in absurd (none-some f (sym over ∙ some))
]

module _ {X : Type 0} {P : X → Type 0} (says : Says X P) (aim : Aim) where
  -- ---- nothing read

  none_upto : log_upto [] [] ≡ []
  unfolding log_upto
  none_upto = refl

  none_faulty : first_fault [] ≡ None
  unfolding first_fault
  none_faulty = refl

  none_whole : is_whole [] ≡ false
  unfolding lines is_ended
  none_whole = refl

  none_judged : judged (rules_of aim) waiting (items []) ≡ waiting
  unfolding judged items
  none_judged = refl

  pub opens : (part : LogPart X P) → HasRead part.reader [] → IsCheckOf says aim part.check waiting → part.rest ≡ [] → part.refusal ≡ None → IsOpen says aim part []
  opens part read check rest unrefused =
      let at : [] ≡ log_upto [] [] = sym none_upto in
      record {
        read = subst (HasRead part.reader) at read;
        free = subst (λ (p : List ℕ). first_fault p ≡ None) at none_faulty;
        within = subst (λ (p : List ℕ). is_whole p ≡ false) at none_whole;
        check = subst (λ (p : List ℕ). IsCheckOf says aim part.check (judged (rules_of aim) waiting (items p))) at (subst (IsCheckOf says aim part.check) (sym none_judged) check);
        rest = rest;
        unrefused = unrefused;
      }

  -- ---- one piece

  module _ (part : LogPart X P) (bytes piece behind : List ℕ) (reader : Reader) (fed : Fed) (known : IsOpen says aim part bytes)
      (reads : (past : List ℕ) → HasRead part.reader past → ReadsLog reader piece fed behind past) where
    abbrev before : List ℕ
    before = log_upto [] bytes

    r : ReadsLog reader piece fed behind before
    r = reads before known.read

    now_is : log_upto [] (bytes ++ piece) ≡ log_upto before piece
    now_is = upto_more bytes piece []

    items_now : items (log_upto [] (bytes ++ piece)) ≡ items before ++ fed.items
    items_now = ap items now_is ∙ r.fed_is.items_are

    fault_now : first_fault (log_upto [] (bytes ++ piece)) ≡ fed.fault
    fault_now = ap first_fault now_is ∙ sym r.fed_is.fault_is

    read_now : HasRead reader (log_upto [] (bytes ++ piece))
    read_now = subst (HasRead reader) (sym now_is) r.reads

    judged_now : judged_front aim (bytes ++ piece) ≡ judged (rules_of aim) (judged_front aim bytes) fed.items
    judged_now = ap (judged (rules_of aim) waiting) items_now ∙ judged-append (rules_of aim) waiting (items before) fed.items

    pub items_follow : MayFollow (judged_front aim bytes) fed.items
    items_follow = follows_all (rules_of aim) waiting (items before) fed.items (subst FitFirst items_now (items_fit (log_upto [] (bytes ++ piece))))

    abbrev Judged : LogCheck X P → Option Refusal → Type 0
    Judged check why = JudgesTo says aim check (judged (rules_of aim) (judged_front aim bytes) fed.items) why

    -- an item is refused
    pub item_refused : (check : LogCheck X P) (why : Refusal) (o : Option Refusal) → o ≡ Some why → Judged check o → (due_of_front aim false (bytes ++ piece)).fault ≡ Some why
    item_refused check why o some to =
        let is = subst (Judged check) some to in
        refused_due aim (bytes ++ piece) is.0 why (judged_now ∙ is.1)

    checked : (check : LogCheck X P) (o : Option Refusal) → o ≡ None → Judged check o → IsCheckOf says aim check (judged_front aim (bytes ++ piece))
    checked check o none to = subst (IsCheckOf says aim check) (sym judged_now) (subst (Judged check) none to)

    -- no item is, and the bytes have a fault
    pub bytes_refused : (check : LogCheck X P) (f : LogFault) (o : Option Refusal) → o ≡ None → Judged check o → fed.fault ≡ Some f → (due_of_front aim false (bytes ++ piece)).fault ≡ Some (refusal.Log f)
    bytes_refused check f o none to some = free_due aim (bytes ++ piece) (Some f) (checked check o none to).free (fault_now ∙ some)

    module _ (check : LogCheck X P) (o : Option Refusal) (none : o ≡ None) (to : Judged check o) (free : fed.fault ≡ None) (end_ : Option LogFault)
        (ends : (past : List ℕ) → HasRead reader past → end_ ≡ end_fault past) where
      free_now : first_fault (log_upto [] (bytes ++ piece)) ≡ None
      free_now = fault_now ∙ free

      end_now : end_fault (log_upto [] (bytes ++ piece)) ≡ end_
      end_now = sym (ends (log_upto [] (bytes ++ piece)) read_now)

      -- the log goes on
      pub stays_open : (new : LogPart X P) (f : LogFault) → end_ ≡ Some f → new.reader ≡ reader → new.check ≡ check → new.rest ≡ part.rest → new.refusal ≡ part.refusal → IsOpen says aim new (bytes ++ piece)
      stays_open new f some reader_is check_is rest_is refusal_is = record {
        read = subst (λ (x : Reader). HasRead x (log_upto [] (bytes ++ piece))) (sym reader_is) read_now;
        free = free_now;
        within = within_end (log_upto [] (bytes ++ piece)) f free_now (end_now ∙ some);
        check = subst (λ (x : LogCheck X P). IsCheckOf says aim x (judged_front aim (bytes ++ piece))) (sym check_is) (checked check o none to);
        rest = rest_is ∙ known.rest;
        unrefused = refusal_is ∙ known.unrefused;
      }

      -- and has less room
      less_in : (f : LogFault) → end_ ≡ Some f → 0 < length piece → longest_kept - reader.feeder.total < longest_kept - part.reader.feeder.total
      less_in f some there =
          let past = log_upto [] (bytes ++ piece) in
          let within = within_end past f free_now (end_now ∙ some) in
          let old = known.read.feeds (known.read.fault_is ∙ known.free) in
          let new = read_now.feeds (read_now.fault_is ∙ free_now) in
          let p = parted piece before in
          let rest : behind_log before piece ≡ [] = behind_open piece before (ap is_whole (sym now_is) ∙ within) in
          omega (
            arith,
            old.counts.total_is,
            new.counts.total_is,
            free_small past free_now,
            ap length now_is,
            ap length p.upto_is,
            length-onto p.front before,
            ap length p.bytes_are,
            length-append p.front (behind_log before piece),
            ap length rest,
            there,
          )

      pub less_room : (last : Reader) (f : LogFault) → last ≡ reader → end_ ≡ Some f → 0 < length piece → longest_kept - last.feeder.total < longest_kept - part.reader.feeder.total
      less_room last f same some there = subst (λ (x : Reader). longest_kept - x.feeder.total < longest_kept - part.reader.feeder.total) (sym same) (less_in f some there)

      -- the log is whole
      stands : (new : LogPart X P) (rest : List ℕ) → end_ ≡ None → new.check ≡ check → rest ≡ part.rest ++ behind → IsWholeLog says aim new.check rest (bytes ++ piece)
      stands new rest over check_is rest_is =
          let is = subst (λ (x : LogCheck X P). IsCheckOf says aim x (judged_front aim (bytes ++ piece))) (sym check_is) (checked check o none to) in
          let ended = end_now ∙ over in
          let whole = stands_whole aim (bytes ++ piece) is.free ended in
          record {
            judgement = judged_front aim (bytes ++ piece);
            check_is = is;
            log = whole.log;
            closed = whole.closed;
            whole = whole.whole;
            free = end_due aim (bytes ++ piece) None is.free ended;
            over = whole_end (log_upto [] (bytes ++ piece)) free_now ended;
            rest_is = rest_is ∙ ap (λ (xs : List ℕ). xs ++ behind) known.rest ∙ r.rest_is free ∙ sym (behind_more bytes piece [] ∙ ap (λ (xs : List ℕ). xs ++ behind_log before piece) (behind_open bytes [] known.within));
          }

      pub stands_done : (new : LogPart X P) → end_ ≡ None → new.check ≡ check → new.rest ≡ part.rest ++ behind → new.refusal ≡ part.refusal → IsDone says aim new (bytes ++ piece)
      stands_done new over check_is rest_is refusal_is =
          subst (λ (o : Option Refusal). EndsLog says aim new o (bytes ++ piece)) (sym (refusal_is ∙ known.unrefused)) (stands new new.rest over check_is rest_is)

  -- ---- a fault is kept

  pub refuses : (new : LogPart X P) (bytes : List ℕ) (room room' : ℕ) (why : Refusal) (t : Turn) → t ≡ turn.Done → new.refusal ≡ Some why → (due_of_front aim false bytes).fault ≡ Some why
      → Takes (IsOpen says aim new) (IsDone says aim new) room room' bytes t
  refuses new bytes room room' why t done kept is =
      subst (λ (x : Turn). Takes (IsOpen says aim new) (IsDone says aim new) room room' bytes x) (sym done)
      (subst (λ (o : Option Refusal). EndsLog says aim new o bytes) (sym kept) is)

  -- ---- the input ends, or a read fails, within the log

  pub cut_short : (part : LogPart X P) (bytes : List ℕ) → IsOpen says aim part bytes → IsCutShort aim bytes
  cut_short part bytes known = record { free = free_due aim bytes None known.check.free known.free; within = known.within }

  pub cut_off_due : (part : LogPart X P) (bytes : List ℕ) (o : Option LogFault) (f : LogFault) → IsOpen says aim part bytes → ((past : List ℕ) → HasRead part.reader past → o ≡ end_fault past) → o ≡ Some f
      → (due_of_front aim true bytes).fault ≡ Some (refusal.Log f)
  cut_off_due part bytes o f known ends some = end_due aim bytes (Some f) known.check.free (sym (ends (log_upto [] bytes) known.read) ∙ some)

  pub not_over : (part : LogPart X P) (bytes : List ℕ) (o : Option LogFault) → IsOpen says aim part bytes → ((past : List ℕ) → HasRead part.reader past → o ≡ end_fault past) → o ≡ None → ⊥
  not_over part bytes o known ends none = open_end (log_upto [] bytes) known.free known.within (sym (ends (log_upto [] bytes) known.read) ∙ none)
