-- Bytes that come behind those before, and what is told of all.
use Rattle.std.proofs.Common.{◌≡◌, ℕ, ◌<◌, Option, None, Some, List, [], ◌++◌, length, refl, sym, ap, subst, append-nil, arith, inl}
use Rattle.std.specs.Io.KnownBytes.{IsAtEnd}
use Rattle.pota_base.specs.Changes.{change_of, left_of}
use Rattle.input_reading.specs.Intakes.{ReadsAll}
use Rattle.input_reading.specs.declared.reading.End.{End}
use Rattle.input_reading.specs.declared.reading.End.TheVariants as end
use Rattle.certificate_lines.specs.declared.line.Line.{Line}
use Rattle.certificate_text.specs.Taking.{VerifierView}
use Rattle.certificate_text.specs.Bytes.{Judged, RefusedAt}
use Rattle.certificate_input.specs.declared.told.Told.{Told}
use Rattle.certificate_input.specs.declared.told.Told.TheVariants as told
use Rattle.certificate_input.specs.inside.Pieces.{accepted_at, InputView, IsReady, IsTaken}
use Rattle.certificate_input.specs.Telling.{IsFresh, IsTold, TellsBehind}
use Rattle.certificate_input.specs.inside.Telling.{IsEnd, LeadsTo, IsRefused, bytes_left}
use Rattle.certificate_input.proofs.PieceLaws.{reach_reach, reach_within, reach_refused, reach_judged, reach_further}

pub fresh_ready : {N : Type 0} (v : VerifierView N) → IsFresh v → IsReady (record { text = v; line = []; lines = 0; accepted = None })
fresh_ready v fresh = record { short = omega arith; lines = sym fresh.none; counted = omega arith; accepted = ap accepted_at (sym fresh.due) }

module _ {N : Type 0} (follows : N → Line → N → Type 0) (first : VerifierView N) where
  -- ---- a piece behind the bytes before

  pub leads_on : (bytes piece : List ℕ) (v after : InputView N) (o : Option ℕ) → LeadsTo follows first bytes v → o ≡ None → IsTaken follows v piece o after → LeadsTo follows first (bytes ++ piece) after
  leads_on bytes piece v after o so none taken =
      let to = subst (λ (x : Option ℕ). IsTaken follows v piece x after) none taken in
      (reach_reach follows bytes piece first [] v.text v.line after.text after.line so.0 to.0, to.1)

  pub nearer : (bytes piece : List ℕ) (v after : InputView N) (o : Option ℕ) → LeadsTo follows first bytes v → 0 < length piece → o ≡ None → IsTaken follows v piece o after → bytes_left after < bytes_left v
  nearer bytes piece v after o so some none taken =
      let to = subst (λ (x : Option ℕ). IsTaken follows v piece x after) none taken in
      omega (arith, some, to.1.counted, so.1.lines, to.1.lines, to.1.short, reach_further follows piece v.text v.line after.text after.line so.1.short to.0)

  pub refused_on : (bytes piece : List ℕ) (v after : InputView N) (o : Option ℕ) (n : ℕ) → LeadsTo follows first bytes v → o ≡ Some n → IsTaken follows v piece o after → IsRefused follows first (bytes ++ piece) o
  refused_on bytes piece v after o n so some taken =
      let to = subst (λ (x : Option ℕ). IsTaken follows v piece x after) some taken in
      subst (IsRefused follows first (bytes ++ piece)) (sym some) (reach_within follows bytes piece first [] v.text v.line n so.0 to)

  -- ---- the first bytes

  -- before them nothing was taken
  none_taken : (v : InputView N) → v ≡ record { text = first; line = []; lines = 0; accepted = None } → IsFresh first → LeadsTo follows first [] v
  none_taken v same fresh = subst (LeadsTo follows first []) (sym same) ((refl, refl), fresh_ready first fresh)

  pub front_leads : (v after : InputView N) (front : List ℕ) (o : Option ℕ) → v ≡ record { text = first; line = []; lines = 0; accepted = None } → IsFresh first → o ≡ None → IsTaken follows v front o after
      → LeadsTo follows first front after
  front_leads v after front o same fresh none taken = leads_on [] front v after o (none_taken v same fresh) none taken

  -- ---- what is told

  -- at the end of the input
  told_end : (t : Told) (left : Option (List ℕ)) (faults faults' : ℕ) (bytes : List ℕ) (v : InputView N) → IsAtEnd left → LeadsTo follows first bytes v → IsEnd follows v t
      → IsTold follows (left_of left faults faults') first [] bytes t
  told_end (told.Accepted truth) left faults faults' bytes v ended so is =
      (ended, subst (λ (x : List ℕ). Judged follows x first [] truth) (append-nil bytes) (reach_judged follows bytes [] first [] v.text v.line truth (omega arith) so.0 is))
  told_end (told.Refused n) left faults faults' bytes v ended so is =
      inl (ended, subst (λ (x : List ℕ). RefusedAt follows x first [] n) (append-nil bytes) (reach_refused follows bytes [] first [] v.text v.line n so.0 is))
  told_end told.Failed left faults faults' bytes v ended so is = absurd is

  -- by why no more is read, with what is kept of the bytes and the line that is refused within them
  module _ (left left' : Option (List ℕ)) (faults faults' : ℕ) (front : List ℕ) (v : InputView N) (o : Option ℕ) where
    abbrev pub Reads : End → Type 0
    Reads e = ReadsAll (change_of left left' faults faults') (λ bytes. LeadsTo follows first bytes v × (o ≡ None)) (λ bytes. IsRefused follows first bytes o) front e

    abbrev pub Told_ : Told → Type 0
    Told_ t = TellsBehind follows (change_of left left' faults faults') first [] front t

    pub tells_end : (e : End) (t : Told) → e ≡ end.Ended → Reads e → IsEnd follows v t → Told_ t
    tells_end e t is all told_ =
        let ended = subst Reads is all in
        record { read = ended.read; consumed = ended.consumed; later = ended.later; is = told_end t left' faults faults' (front ++ ended.read) v ended.to.0 ended.to.1.0 told_ }

    pub tells_failed : (e : End) → e ≡ end.Failed → Reads e → Told_ told.Failed
    tells_failed e is all =
        let failed = subst Reads is all in
        record { read = failed.read; consumed = failed.consumed; later = failed.later; is = (failed.to.0, (v.text, v.line, failed.to.1.0.0)) }
