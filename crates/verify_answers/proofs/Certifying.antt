-- What is told of a certificate.
use Rattle.std.proofs.Common.{◌≡◌, ℕ, Option, List, [], ◌++◌, sym, subst}
use Rattle.pota_base.specs.Changes.{change_of, left_of}
use Rattle.input_reading.specs.Intakes.{ReadsShort}
use Rattle.certificate_text.specs.Taking.{VerifierView}
use Rattle.certificate_input.specs.declared.told.Told.{Told}
use Rattle.certificate_input.specs.declared.told.Told.TheVariants as tells
use Rattle.certificate_input.specs.Telling.{IsTold, Tells}
use Rattle.certificate_nodes.specs.Nodes.{NodesView}
use Rattle.certificate.specs.Following.{Follows}
use Rattle.fault_line.specs.declared.fault.Fault.TheVariants as fault
use Rattle.verify_answers.specs.declared.answer.Answer.{Answer}
use Rattle.verify_answers.specs.declared.answer.Answer.TheVariants.{Faulty}
use Rattle.verify_answers.specs.Judging.{IsJudged, HasJudged}
use Rattle.verify_answers.specs.inside.Judging.{answer_of}

told_so : (left : Option (List ℕ)) (lf lf' : ℕ) (v : VerifierView NodesView) (bytes : List ℕ) (t : Told) → IsTold Follows (left_of left lf lf') v [] bytes t → IsJudged left lf lf' v bytes (answer_of t)
told_so left lf lf' v bytes (tells.Accepted truth) h = h
told_so left lf lf' v bytes (tells.Refused n) h = h
told_so left lf lf' v bytes tells.Failed h = h

module _ (left left' : Option (List ℕ)) (lf lf' : ℕ) (v : VerifierView NodesView) (front : List ℕ) where
  pub judged_as : (t : Told) (answer : Answer) → answer ≡ answer_of t → Tells Follows (change_of left left' lf lf') v front t → HasJudged (change_of left left' lf lf') v front answer
  judged_as t answer is h =
      subst (HasJudged (change_of left left' lf lf') v front) (sym is) (record { read = h.read; consumed = h.consumed; later = h.later; is = told_so left' lf lf' v (front ++ h.read) t h.is })

  pub judged_short : ReadsShort (change_of left left' lf lf') → HasJudged (change_of left left' lf lf') v front (Faulty fault.Memory)
  judged_short h = record { read = h.read; consumed = h.consumed; later = h.later; is = tt }
