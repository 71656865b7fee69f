-- The certificate that is written of a log is accepted behind it.
use Rattle.std.proofs.Common.{◌≡◌, ℕ, true, Some, None, List, [], ◌++◌, refl, sym, ap, subst, ◌∙◌}
use Rattle.log_lines.specs.Names.{Name}
use Rattle.event_log.specs.LogEnd.{is_whole, log_upto}
use Rattle.rctl_grammar.specs.declared.tree.Tree.{Tree}
use Rattle.log_rules.specs.Due.{Due, due, judgement_of}
use Rattle.log_rules.specs.Readings.{log_reading}
use Rattle.log_check.specs.Aims.{rules_of}
use Rattle.log_check.specs.Checked.{observed_alone}
use Rattle.log_part.specs.Fronts.{due_of_front}
use Rattle.log_part.proofs.FrontLaws.{front_stays, behind_stays, whole_over}
use Rattle.certificate_text.specs.Taking.{fresh}
use Rattle.certificate_text.specs.Bytes.{Judged}
use Rattle.certificate.specs.Following.{Follows}
use Rattle.certify.specs.Certifying.{nodes_of}
use Rattle.call_promise.specs.Asking.{certifying, due_of, reading_of}
use Rattle.call_promise.specs.Certificates.{disjuncts_on, line_of}
use Rattle.verify_top.specs.PassedOn.{AsksAbout}
use Rattle.verify_top.specs.Asking.{aim_for, start_of}
use Rattle.verify_top.specs.Verifying.{certificate_of}
use Rattle.certificate_round_trip.specs.Behind.{IsAcceptedIn, IsWrittenOf}
use Rattle.certificate_round_trip.proofs.Alone.{nothing_behind, all_of_log}

-- what is due for a certificate is due of the bytes as one log
due_alone : (watches : List Name) (t : Tree) (bytes : List ℕ) → due_of watches t certifying true bytes ≡ due log_reading (rules_of (aim_for t)) true bytes
unfolding due_of reading_of
due_alone watches t bytes = refl

module _ (watches : List Name) (t : Tree) (bytes text : List ℕ) (w : IsWrittenOf watches t bytes text) where
  abbrev alone : Due
  alone = due log_reading (rules_of (aim_for t)) true bytes

  free : alone.fault ≡ None
  free = ap (λ (d : Due). d.fault) (sym (due_alone watches t bytes)) ∙ w.free

  behind : certificate_of bytes ≡ []
  behind = nothing_behind (judgement_of log_reading (rules_of (aim_for t)) true bytes) bytes free

  front_due : due_of_front (aim_for t) true bytes ≡ due_of watches t certifying true bytes
  front_due =
      ap (λ (xs : List ℕ). due log_reading (rules_of (aim_for t)) true xs) (all_of_log (judgement_of log_reading (rules_of (aim_for t)) true bytes) bytes free)
      ∙ sym (due_alone watches t bytes)

  whole_front : (due_of_front (aim_for t) true bytes).whole ≡ Some w.log
  whole_front = ap (λ (d : Due). d.whole) front_due ∙ w.whole

  over : is_whole (log_upto [] bytes) ≡ true
  over = whole_over (aim_for t) bytes w.log whole_front

  more_due : due_of_front (aim_for t) true (bytes ++ text) ≡ due_of watches t certifying true bytes
  more_due = ap (λ (xs : List ℕ). due log_reading (rules_of (aim_for t)) true xs) (front_stays bytes text over) ∙ front_due

  text_behind : certificate_of (bytes ++ text) ≡ text
  text_behind = behind_stays bytes text over ∙ ap (λ (xs : List ℕ). xs ++ text) behind

  started : start_of t w.log ≡ fresh (line_of t) (nodes_of (observed_alone w.log) (disjuncts_on w.log t))
  unfolding start_of
  started = refl

  pub accepted_behind : (words : List (List ℕ)) → AsksAbout words t
      → Judged Follows text (fresh (line_of t) (nodes_of (observed_alone w.log) (disjuncts_on w.log t))) [] w.certificate.told
      → IsAcceptedIn words (bytes ++ text) w.certificate.told
  accepted_behind words asks judged = record {
    of = record {
      tree = t;
      asks = asks;
      log = w.log;
      whole = ap (λ (d : Due). d.whole) more_due ∙ w.whole;
      free = ap (λ (d : Due). d.fault) more_due ∙ w.free;
    };
    judged = subst (λ (xs : List ℕ). Judged Follows xs (start_of t w.log) [] w.certificate.told) (sym text_behind)
        (subst (λ v. Judged Follows text v [] w.certificate.told) (sym started) judged);
  }
