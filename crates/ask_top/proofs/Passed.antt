-- What is said where no log is read, and of the answer that is told.
use Rattle.std.proofs.Common.{◌≡◌, ℕ, true, inl, inr, Option, Some, List, [], drop, refl, sym, subst}
use Rattle.std.proofs.lemmas.Bool.{false≢true}
use Rattle.std.proofs.KnownBytes.{Appends-nil, Consumes-nil}
use Rattle.pota_base.specs.Changes.{change_of}
use Rattle.part_pulls.specs.Observing.{Reading}
use Rattle.ask_questions.specs.Entries.{IsFirstFault}
use Rattle.ask_questions.specs.declared.reading.NumberedFault.{NumberedFault}
use Rattle.ask_words.specs.Asking.{asked_by}
use Rattle.ask_words.specs.declared.asking.Asked.{Asked}
use Rattle.ask_faults.specs.Faults.{is_long}
use Rattle.ask_faults.specs.Telling.{IsToldAs}
use Rattle.ask_faults.specs.declared.fault.Fault.{Fault}
use Rattle.ask_faults.specs.declared.fault.Fault.TheVariants as fault
use Rattle.ask_top.specs.declared.answer.Answer.{Answer}
use Rattle.ask_top.specs.declared.answer.Answer.TheVariants as answer
use Rattle.ask_top.specs.Asking.{HasAnswered}
use Rattle.ask_top.specs.Calm.{IsCalm}
use Rattle.ask_top.specs.inside.Telling.{IsAnswerTold}

-- a question has a fault, and nothing is read
pub faulty : (watches : Reading) (words : List (List ℕ)) (asked : Asked) → asked_by words ≡ Some asked → (texts : List (List ℕ)) → texts ≡ drop asked.questions_from words → (f : NumberedFault) → IsFirstFault texts f
    → (left held : Option (List ℕ)) (lf of : ℕ) → HasAnswered watches (change_of left left lf lf) (change_of held held of of) words (answer.Without (fault.Question f))
faulty watches words asked asks texts texts_are f is left held lf of = record {
  read = [];
  written = [];
  consumed = Consumes-nil left;
  wrote = Appends-nil held;
  says = (refl, refl, asked, asks, subst (λ (ts : List (List ℕ)). IsFirstFault ts f) texts_are is);
}

module _ (watches : Reading) (left left' held held' : Option (List ℕ)) (lf lf' of of' : ℕ) (words : List (List ℕ)) where
  abbrev Answered : Answer → Type 0
  Answered a = HasAnswered watches (change_of left left' lf lf') (change_of held held' of of') words a

  as_memory : (f : Fault) → is_long f ≡ true → Answered (answer.Without f) → Answered (answer.Without fault.Memory)
  as_memory fault.Usage long h = absurd (false≢true long)
  as_memory (fault.Question f) long h = record { read = h.read; written = h.written; consumed = h.consumed; wrote = h.wrote; says = h.says.0 }
  as_memory (fault.Unknown u) long h = record { read = h.read; written = h.written; consumed = h.consumed; wrote = h.wrote; says = h.says.0 }
  as_memory (fault.Over f) long h = record { read = h.read; written = h.written; consumed = h.consumed; wrote = h.wrote; says = h.says.0 }
  as_memory (fault.Refused r line) long h = record { read = h.read; written = h.written; consumed = h.consumed; wrote = h.wrote; says = h.says.0 }
  as_memory fault.Read long h = absurd (false≢true long)
  as_memory fault.Write long h = absurd (false≢true long)
  as_memory fault.Memory long h = absurd (false≢true long)

  told_fault : (f g : Fault) → IsToldAs f g → Answered (answer.Without f) → Answered (answer.Without g)
  told_fault f g (inl same) h = subst (λ (x : Fault). Answered (answer.Without x)) (sym same) h
  told_fault f g (inr (long, memory)) h = subst (λ (x : Fault). Answered (answer.Without x)) (sym memory) (as_memory f long h)

  pub told_answered : (a told : Answer) → IsAnswerTold a told → Answered a → Answered told
  told_answered answer.Holds told is h = subst (λ (x : Answer). Answered x) (sym is) h
  told_answered answer.Fails told is h = subst (λ (x : Answer). Answered x) (sym is) h
  told_answered (answer.Without f) told (g, is, so) h = subst (λ (x : Answer). Answered x) (sym is) (told_fault f g so h)

calm_fault : (lf lf' : ℕ) (f g : Fault) → IsToldAs f g → IsCalm lf lf' (answer.Without f) → IsCalm lf lf' (answer.Without g)
calm_fault lf lf' f g (inl same) calm = subst (λ (x : Fault). IsCalm lf lf' (answer.Without x)) (sym same) calm
calm_fault lf lf' f g (inr (long, memory)) calm = subst (λ (x : Fault). IsCalm lf lf' (answer.Without x)) (sym memory) tt

pub told_calm : (lf lf' : ℕ) (a told : Answer) → IsAnswerTold a told → IsCalm lf lf' a → IsCalm lf lf' told
told_calm lf lf' answer.Holds told is calm = subst (λ (x : Answer). IsCalm lf lf' x) (sym is) calm
told_calm lf lf' answer.Fails told is calm = subst (λ (x : Answer). IsCalm lf lf' x) (sym is) calm
told_calm lf lf' (answer.Without f) told (g, is, so) calm = subst (λ (x : Answer). IsCalm lf lf' x) (sym is) (calm_fault lf lf' f g so calm)
