-- The log of an input, piece by piece.
use Rattle.std.proofs.Common.{◌≡◌, ℕ, ◌+◌, ◌-◌, ◌<◌, ◌≤◌, Option, Some, None, List, [], ◌++◌, length, length-append, refl, sym, ap, subst, ◌∙◌, arith, inl, inr}
use Rattle.event_log.specs.declared.item.Fed.{Fed}
use Rattle.event_log.specs.declared.item.LogFault.{LogFault}
use Rattle.event_log.specs.declared.reader.Reader.{Reader}
use Rattle.event_log.specs.Faults.{fault_of, first_fault, items, items_in}
use Rattle.event_log.specs.FittingItems.{FitFirst}
use Rattle.event_log.specs.LogEnd.{log_upto, behind_log}
use Rattle.event_log.specs.LogText.{onto}
use Rattle.event_log.specs.Reader.{HasRead, ReadsLog}
use Rattle.event_log.proofs.FittingItems.{items_fit}
use Rattle.event_log.proofs.LogEnds.{upto_more, behind_more}
use Rattle.input_reading.specs.Intakes.{Takes}
use Rattle.input_reading.specs.declared.intake.Turn.TheVariants as turn
use Rattle.log_rules.specs.Judgement.{Judgement, waiting, judged}
use Rattle.log_rules.specs.Readings.{text_fault}
use Rattle.log_rules.proofs.Items.{judged-append}
use Rattle.log_trace.specs.declared.trace.LogTrace.{LogTrace}
use Rattle.log_trace.specs.Judging.{without_formula, IsRefused, Keeps, MayFollow}
use Rattle.log_trace.proofs.Following.{follows_all}
use Rattle.view_top.specs.declared.input.Input.{Input}
use Rattle.view_top.specs.Viewing.{most_bytes, report_in, log_in}
use Rattle.view_top.specs.inside.Inputs.{HasReadLog, IsDueInLog, JudgesTo, IsOpen, IsDone, EndsBy}
use Rattle.view_top.proofs.Whole.{log_past, of_text, kept_told, refused_told, text_fault_is}

-- what the log's items in these bytes lead to
abbrev judged_in : List ℕ → Judgement
judged_in bytes = judged without_formula waiting (items_in (log_in bytes))

-- ---- no byte

none_behind : report_in [] ≡ []
unfolding behind_log
none_behind = refl

none_of_log : onto (log_in []) [] ≡ []
unfolding behind_log
none_of_log = refl

none_faulty : first_fault [] ≡ None
unfolding first_fault
none_faulty = refl

none_judged : judged without_formula waiting (items []) ≡ waiting
unfolding judged items
none_judged = refl

pub opens : (input : Input) → HasRead input.reader [] → Keeps input.log waiting → input.behind ≡ [] → input.fault ≡ None → input.count ≡ 0 → IsOpen input []
opens input read keeps behind none count =
    let at : [] ≡ onto (log_in []) [] = sym none_of_log in
    record {
      log = record {
        rest_is = behind ∙ sym none_behind;
        read = subst (HasRead input.reader) at read;
        free = subst (λ (past : List ℕ). first_fault past ≡ None) at none_faulty;
        keeps = subst (λ (past : List ℕ). Keeps input.log (judged without_formula waiting (items past))) at (subst (Keeps input.log) (sym none_judged) keeps);
      };
      none = none;
      count = count;
      few = omega arith;
    }

-- ---- one piece

module _ (old : Input) (bytes piece behind : List ℕ) (reader : Reader) (fed : Fed) (known : IsOpen old bytes)
    (reads : (past : List ℕ) → HasRead old.reader past → ReadsLog reader piece fed behind past) where
  abbrev now : List ℕ
  now = bytes ++ piece

  abbrev past : List ℕ
  past = log_upto [] bytes

  r : ReadsLog reader piece fed behind past
  r = reads past (subst (HasRead old.reader) (log_past bytes) known.log.read)

  past_now : onto (log_in now) [] ≡ log_upto past piece
  past_now = log_past now ∙ upto_more bytes piece []

  items_now : items_in (log_in now) ≡ items_in (log_in bytes) ++ fed.items
  items_now = ap items past_now ∙ r.fed_is.items_are ∙ ap (λ (p : List ℕ). items p ++ fed.items) (sym (log_past bytes))

  fault_now : fault_of (log_in now) ≡ fed.fault
  fault_now = ap first_fault past_now ∙ sym r.fed_is.fault_is

  judged_now : judged_in now ≡ judged without_formula (judged_in bytes) fed.items
  judged_now = ap (judged without_formula waiting) items_now ∙ judged-append without_formula waiting (items_in (log_in bytes)) fed.items

  pub items_follow : MayFollow (judged_in bytes) fed.items
  items_follow = follows_all waiting (items_in (log_in bytes)) fed.items (subst FitFirst items_now (items_fit (onto (log_in now) [])))

  pub may_judge : (j : Judgement) × Keeps old.log j × MayFollow j fed.items
  may_judge = (judged_in bytes, known.log.keeps, items_follow)

  module _ (kept : LogTrace) (told : Option LogFault)
      (judges : (j : Judgement) → Keeps old.log j → MayFollow j fed.items → JudgesTo kept (judged without_formula j fed.items) fed.fault told) where
    to : JudgesTo kept (judged without_formula (judged_in bytes) fed.items) fed.fault told
    to = judges (judged_in bytes) known.log.keeps items_follow

    item_due : (f : LogFault) → IsRefused (judged without_formula (judged_in bytes) fed.items) f → IsDueInLog now f
    item_due f is ended = refused_told (judged_in now) (of_text (text_fault ended (log_in now))) f (is.0, judged_now ∙ is.1)

    keeps_now : Keeps kept (judged without_formula (judged_in bytes) fed.items) → Keeps kept (judged_in now)
    keeps_now keeps = subst (Keeps kept) (sym judged_now) keeps

    byte_due : (f : LogFault) → Keeps kept (judged without_formula (judged_in bytes) fed.items) → fed.fault ≡ Some f → IsDueInLog now f
    byte_due f keeps there ended =
        kept_told kept (judged_in now) (of_text (text_fault ended (log_in now))) (keeps_now keeps) ∙ ap of_text (text_fault_is (log_in now) f (fault_now ∙ there) ended)

    -- a fault is due of the log
    pub ends_faulty : (new : Input) → (f : LogFault) → told ≡ Some f → new.fault ≡ told → IsDone new now
    ends_faulty new f some same = subst (λ (o : Option LogFault). EndsBy new o now) (sym (same ∙ some)) (due (subst (JudgesTo kept _ fed.fault) some to))
      where
        due : JudgesTo kept (judged without_formula (judged_in bytes) fed.items) fed.fault (Some f) → IsDueInLog now f
        due (inl is) = item_due f is
        due (inr is) = byte_due f is.0 is.1

    -- none is
    module _ (new : Input) (none : told ≡ None) (same : new.fault ≡ told) (reader_is : new.reader ≡ reader) (log_is : new.log ≡ kept)
        (behind_is : new.behind ≡ old.behind ++ behind) (count_is : new.count ≡ old.count + length piece) where
      free : Keeps kept (judged without_formula (judged_in bytes) fed.items) × (fed.fault ≡ None)
      free = subst (JudgesTo kept (judged without_formula (judged_in bytes) fed.items) fed.fault) none to

      count_now : new.count ≡ length now
      count_now = omega (arith, count_is, known.count, length-append bytes piece)

      read_now : HasReadLog new.reader new.log now new.behind
      read_now = record {
        rest_is = behind_is ∙ ap (λ (xs : List ℕ). xs ++ behind) known.log.rest_is ∙ ap (λ (xs : List ℕ). report_in bytes ++ xs) (r.rest_is free.1) ∙ sym (behind_more bytes piece []);
        read = subst (λ (x : Reader). HasRead x (onto (log_in now) [])) (sym reader_is) (subst (HasRead reader) (sym past_now) r.reads);
        free = fault_now ∙ free.1;
        keeps = subst (λ (x : LogTrace). Keeps x (judged_in now)) (sym log_is) (keeps_now free.0);
      }

      pub goes_on : new.count < most_bytes → 0 < length piece → Takes (IsOpen new) (IsDone new) (most_bytes - old.count) (most_bytes - new.count) now turn.More
      goes_on few some = (
        record { log = read_now; none = same ∙ none; count = count_now; few = omega (arith, count_now, few) },
        omega (arith, count_is, few, some),
      )

      pub ends_full : most_bytes ≤ new.count → IsDone new now
      ends_full many = subst (λ (o : Option LogFault). EndsBy new o now) (sym (same ∙ none)) (read_now, omega (arith, count_now, many))
