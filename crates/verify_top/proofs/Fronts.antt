-- What was read at the front of an input.
use Rattle.std.proofs.Common.{◌≡◌, ℕ, Option, List, [], subst}
use Rattle.std.specs.Io.KnownBytes.{IsAtEnd}
use Rattle.pota_base.specs.Changes.{change_of, left_of}
use Rattle.input_reading.specs.declared.reading.End.{End}
use Rattle.input_reading.specs.declared.reading.End.TheVariants as end
use Rattle.input_reading.specs.Intakes.{ReadsAll}
use Rattle.log_check.specs.declared.check.LogCheck.{LogCheck}
use Rattle.log_check.specs.Aims.{Says, Aim}
use Rattle.log_part.specs.declared.front.Front.{Front}
use Rattle.log_part.specs.declared.front.Front.TheVariants as front
use Rattle.log_part.specs.declared.part.LogPart.{LogPart}
use Rattle.log_part.specs.Reading.{HasReadFront, IsDone, IsFront, IsOpen, IsWholeLog}
use Rattle.log_part.proofs.PieceSteps.{cut_short}

module _ {X : Type 0} {P : X → Type 0} (says : Says X P) (aim : Aim) (left left' : Option (List ℕ)) (lf lf' : ℕ) where
  module _ (part : LogPart X P) where
    reads_to : (e why : End) → e ≡ why → ReadsAll (change_of left left' lf lf') (IsOpen says aim part) (IsDone says aim part) [] e → ReadsAll (change_of left left' lf lf') (IsOpen says aim part) (IsDone says aim part) [] why
    reads_to e why is h = subst (ReadsAll (change_of left left' lf lf') (IsOpen says aim part) (IsDone says aim part) []) is h

    pub front_done : (e : End) (at : Front X P) → e ≡ end.Done → ReadsAll (change_of left left' lf lf') (IsOpen says aim part) (IsDone says aim part) [] e
        → ((bytes : List ℕ) → IsDone says aim part bytes → (l : Option (List ℕ)) (faults now : ℕ) → IsFront says aim (left_of l faults now) bytes at)
        → HasReadFront says aim (change_of left left' lf lf') at
    front_done e at is reads told =
        let h = reads_to e end.Done is reads in
        record { read = h.read; consumed = h.consumed; later = h.later; is = told h.read h.to left' lf lf' }

    pub still_open : (e : End) → e ≡ end.Ended → ReadsAll (change_of left left' lf lf') (IsOpen says aim part) (IsDone says aim part) [] e → (bytes : List ℕ) × IsOpen says aim part bytes
    still_open e is reads = let h = reads_to e end.Ended is reads in (h.read, h.to.1)

    pub front_ended : (e : End) (at : Front X P) → e ≡ end.Ended → ReadsAll (change_of left left' lf lf') (IsOpen says aim part) (IsDone says aim part) [] e
        → ((bytes : List ℕ) → IsOpen says aim part bytes → (l : Option (List ℕ)) (faults now : ℕ) → IsAtEnd l → IsFront says aim (left_of l faults now) bytes at)
        → HasReadFront says aim (change_of left left' lf lf') at
    front_ended e at is reads told =
        let h = reads_to e end.Ended is reads in
        record { read = h.read; consumed = h.consumed; later = h.later; is = told h.read h.to.1 left' lf lf' h.to.0 }

    pub front_failed : (e : End) → e ≡ end.Failed → ReadsAll (change_of left left' lf lf') (IsOpen says aim part) (IsDone says aim part) [] e → HasReadFront says aim (change_of left left' lf lf') front.Failed
    front_failed e is reads =
        let h = reads_to e end.Failed is reads in
        record { read = h.read; consumed = h.consumed; later = h.later; is = (h.to.0, cut_short says aim part h.read h.to.1) }

  -- the log is whole
  pub whole_there : (at : Front X P) (check : LogCheck X P) (rest : List ℕ) → at ≡ front.Whole check rest → (h : HasReadFront says aim (change_of left left' lf lf') at) → IsWholeLog says aim check rest h.read
  whole_there at check rest is h = subst (IsFront says aim (left_of left' lf lf') h.read) is h.is
