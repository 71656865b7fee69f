-- The bytes of one source, read at once, and byte by byte.
use Rattle.std.proofs.Common.{◌≡◌, ℕ, ◌+◌, ◌-◌, ◌<◌, ◌≤◌, true, false, Option, Some, None, List, [], ◌∷◌, length, refl, sym, ap, ◌∙◌, arith, inl, inr}
use Rattle.std.proofs.lemmas.Bool.{cases_Bool}
use Rattle.std.proofs.lemmas.List.{length-append}
use Rattle.std.proofs.lemmas.Option.{none-some}
use Rattle.pota_base.specs.Limits.{longest_log}
use Rattle.event_log.specs.declared.item.LogFault.{LogFault}
use Rattle.event_log.specs.LogEnd.{is_whole, log_upto, behind_log}
use Rattle.event_log.specs.Faults.{first_fault}
use Rattle.event_log.proofs.FaultLaws.{stuck}
use Rattle.event_log.proofs.LogEnds.{upto_byte, parted, whole_upto, whole_behind}
use Rattle.fault_kinds.specs.declared.merge.MergeFault.{MergeFault}
use Rattle.log_sources.specs.Sources.{Sources, of_source, fault_behind, judged, after}
use Rattle.log_sources.proofs.Stepping.{IsOpen, after_next, stays, behind_own, behind_open, byte_taken, same_sources}

-- nothing of a log mends a fault
pub upto_stuck : (past bytes : List ℕ) (f : LogFault) → first_fault past ≡ Some f → first_fault (log_upto past bytes) ≡ Some f
upto_stuck past bytes f some =
    let p = parted bytes past in
    ap first_fault p.upto_is ∙ (stuck p.front past f some).0

pub behind_le : (past bytes : List ℕ) → length (behind_log past bytes) ≤ length bytes
behind_le past bytes =
    let p = parted bytes past in
    omega (arith, ap length p.bytes_are, length-append p.front (behind_log past bytes))

upto_none : (past : List ℕ) → log_upto past [] ≡ past
unfolding log_upto
upto_none past = refl

behind_none : (past : List ℕ) → behind_log past [] ≡ []
unfolding behind_log
behind_none past = refl

-- The bytes up to the end of the source give its fault, or where it has none so far they are read,
-- and reading goes on behind the source.
pub record ReadsSource (s : Sources) (bytes : List ℕ) : Type 0 where
  pub faulty : (f : LogFault) → first_fault (log_upto s.now bytes) ≡ Some f → (after s bytes).fault ≡ Some (of_source s.before f)
  pub fine : (n : ℕ) → first_fault (log_upto s.now bytes) ≡ None → n + length (behind_log s.now bytes) ≡ length bytes
      → after s bytes ≡ after (judged s.before (log_upto s.now bytes) (s.total + n)) (behind_log s.now bytes)

no_bytes : (s : Sources) → IsOpen s → ReadsSource s []
no_bytes s is = record {
  faulty = λ f some. absurd (none-some f (sym is.own ∙ ap first_fault (sym (upto_none s.now)) ∙ some));
  fine = λ n none all.
      let zero_ : s.total + n ≡ s.total = omega (arith, all, ap length (behind_none s.now)) in
      let same : s ≡ judged s.before s.now (s.total + n) = same_sources s (s.total + n) (fault_behind s.before s.now) zero_ (behind_open s.before s.now is.own is.open_ ∙ sym is.faultless) in
      ap (λ (t : Sources). after t []) same ∙ ap (after (judged s.before s.now (s.total + n))) (sym (behind_none s.now)) ∙ ap (λ (p : List ℕ). after (judged s.before p (s.total + n)) (behind_log s.now [])) (sym (upto_none s.now));
}

module _ (s : Sources) (is : IsOpen s) (b : ℕ) (bytes : List ℕ) (small : s.total < longest_log) where
  abbrev next : Sources
  next = judged s.before (b ∷ s.now) (s.total + 1)

  goes_on : after s (b ∷ bytes) ≡ after next bytes
  goes_on = after_next s b bytes ∙ ap (λ (t : Sources). after t bytes) (byte_taken s b is small)

  upto_is : log_upto s.now (b ∷ bytes) ≡ log_upto (b ∷ s.now) bytes
  upto_is = (upto_byte s.now b bytes is.open_).upto_is

  behind_is : behind_log s.now (b ∷ bytes) ≡ behind_log (b ∷ s.now) bytes
  behind_is = (upto_byte s.now b bytes is.open_).behind_is

  -- this byte is its fault
  byte_faulty : (f : LogFault) → first_fault (b ∷ s.now) ≡ Some f → ReadsSource s (b ∷ bytes)
  byte_faulty f some =
      let stuck_is : first_fault (log_upto s.now (b ∷ bytes)) ≡ Some f = ap first_fault upto_is ∙ upto_stuck (b ∷ s.now) bytes f some in
      let fault : next.fault ≡ Some (of_source s.before f) = behind_own s.before (b ∷ s.now) f some in
      record {
        faulty = λ g other. ap (λ (t : Sources). t.fault) (goes_on ∙ stays next (of_source s.before f) bytes fault) ∙ fault ∙ ap (λ (o : Option LogFault). own o) (sym stuck_is ∙ other);
        fine = λ n none all. absurd (none-some f (sym none ∙ stuck_is));
      }
    where
      own : Option LogFault → Option MergeFault
      own None = None
      own (Some g) = Some (of_source s.before g)

  -- it ends the source
  byte_ends : first_fault (b ∷ s.now) ≡ None → is_whole (b ∷ s.now) ≡ true → ReadsSource s (b ∷ bytes)
  byte_ends own whole =
      let upto : log_upto s.now (b ∷ bytes) ≡ b ∷ s.now = upto_is ∙ whole_upto (b ∷ s.now) bytes whole in
      let behind : behind_log s.now (b ∷ bytes) ≡ bytes = behind_is ∙ whole_behind (b ∷ s.now) bytes whole in
      record {
        faulty = λ f some. absurd (none-some f (sym own ∙ ap first_fault (sym upto) ∙ some));
        fine = λ n none all.
            let one : n ≡ 1 = omega (arith, all, ap length behind) in
            goes_on ∙ ap (λ (k : ℕ). after (judged s.before (b ∷ s.now) (s.total + k)) bytes) (sym one) ∙ ap (λ (p : List ℕ). after (judged s.before p (s.total + n)) bytes) (sym upto) ∙ ap (after (judged s.before (log_upto s.now (b ∷ bytes)) (s.total + n))) (sym behind);
      }

  next_open : first_fault (b ∷ s.now) ≡ None → is_whole (b ∷ s.now) ≡ false → IsOpen next
  next_open own open_ = record { faultless = behind_open s.before (b ∷ s.now) own open_; own = own; open_ = open_; few = is.few }

  -- it is one of many
  byte_more : ReadsSource next bytes → ReadsSource s (b ∷ bytes)
  byte_more more = record {
    faulty = λ f some. ap (λ (t : Sources). t.fault) goes_on ∙ more.faulty f (ap first_fault (sym upto_is) ∙ some);
    fine = λ n none all.
        let shorter : n - 1 + length (behind_log (b ∷ s.now) bytes) ≡ length bytes = omega (arith, all, ap length behind_is, behind_le (b ∷ s.now) bytes) in
        let total : s.total + 1 + (n - 1) ≡ s.total + n = omega (arith, all, ap length behind_is, behind_le (b ∷ s.now) bytes) in
        goes_on ∙ more.fine (n - 1) (ap first_fault (sym upto_is) ∙ none) shorter ∙ ap (λ (k : ℕ). after (judged s.before (log_upto (b ∷ s.now) bytes) k) (behind_log (b ∷ s.now) bytes)) total
        ∙ ap (λ (p : List ℕ). after (judged s.before p (s.total + n)) (behind_log (b ∷ s.now) bytes)) (sym upto_is) ∙ ap (after (judged s.before (log_upto s.now (b ∷ bytes)) (s.total + n))) (sym behind_is);
  }

pub reads_source : (s : Sources) (bytes : List ℕ) → IsOpen s → s.total + length bytes ≤ longest_log → ReadsSource s bytes
reads_source s [] is small = no_bytes s is
reads_source s (b ∷ bytes) is small = by_fault (first_fault (b ∷ s.now)) refl (λ own open_. reads_source (next s is b bytes (omega arith)) bytes (next_open s is b bytes (omega arith) own open_) (omega arith))
  where
    by_fault : (o : Option LogFault) → first_fault (b ∷ s.now) ≡ o → (first_fault (b ∷ s.now) ≡ None → is_whole (b ∷ s.now) ≡ false → ReadsSource (next s is b bytes (omega arith)) bytes) → ReadsSource s (b ∷ bytes)
    by_fault (Some f) e more = byte_faulty s is b bytes (omega arith) f e
    by_fault None e more = elim (cases_Bool (is_whole (b ∷ s.now))) [
      | inl whole ↦ byte_ends s is b bytes (omega arith) e whole
      | inr open_ ↦ byte_more s is b bytes (omega arith) (more e open_)
    ]
