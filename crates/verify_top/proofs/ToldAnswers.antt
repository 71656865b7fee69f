-- What is told of an answer, and what a status says.
use Rattle.std.proofs.Common.{◌≡◌, ℕ, ◌≤◌, Option, List, [], refl, sym, ap, subst, ◌∙◌, arith, inl, inr}
use Rattle.std.proofs.KnownBytes.{Consumes-nil}
use Rattle.pota_base.specs.Outside.{Rose}
use Rattle.pota_base.specs.Status.{code_of}
use Rattle.pota_base.specs.Changes.{change_of, left_of}
use Rattle.fault_line.specs.declared.fault.Fault.{Fault}
use Rattle.fault_line.specs.declared.fault.Fault.TheVariants as fault
use Rattle.fault_line.specs.Faults.{status_of}
use Rattle.verify_answers.specs.declared.answer.Answer.{Answer}
use Rattle.verify_answers.specs.declared.answer.Answer.TheVariants.{Accepted, Refused, Faulty}
use Rattle.verify_answers.specs.declared.answer.Verified.{Verified}
use Rattle.verify_answers.specs.Asking.{IsMisasked}
use Rattle.verify_answers.specs.Telling.{verified_as, IsTold}
use Rattle.verify_top.specs.Verifying.{IsFaulty, Says, Answers, HasVerified, HasToldTruth}

-- ---- the words are refused

misasked_says : (left : Option (List ℕ)) (lf : ℕ) (words : List (List ℕ)) (f : Fault) → IsMisasked words f → IsFaulty (left_of left lf lf) words [] f
misasked_says left lf words fault.Usage h = (h, refl)
misasked_says left lf words (fault.Formula f) h = inl (h, refl)
misasked_says left lf words (fault.Log f) h = absurd h
misasked_says left lf words (fault.Import f) h = absurd h
misasked_says left lf words (fault.Merge f) h = absurd h
misasked_says left lf words fault.Read h = absurd h
misasked_says left lf words fault.Write h = absurd h
misasked_says left lf words fault.Memory h = tt

pub misasked : (left : Option (List ℕ)) (lf : ℕ) (words : List (List ℕ)) (f : Fault) → IsMisasked words f → Answers (change_of left left lf lf) words (Faulty f)
misasked left lf words f h = record { read = []; consumed = Consumes-nil left; later = omega arith; says = misasked_says left lf words f h }

-- ---- a whole run

pub verified_so : (left left' held held' : Option (List ℕ)) (lf lf' of of' : ℕ) (words : List (List ℕ)) (v : Verified) (answer : Answer) → Answers (change_of left left' lf lf') words answer → of ≤ of' → IsTold (change_of held held' of of') answer v
    → HasVerified (change_of left left' lf lf') (change_of held held' of of') words v
verified_so left left' held held' lf lf' of of' words v answer answers later told = record { answer = answer; answers = answers; later = later; told = told }

-- ---- statuses

faulty_status : (f : Fault) → code_of (status_of f) ≡ 0 → ⊥
faulty_status fault.Usage e = absurd (omega (arith, e))
faulty_status (fault.Formula f) e = absurd (omega (arith, e))
faulty_status (fault.Log f) e = absurd (omega (arith, e))
faulty_status (fault.Import f) e = absurd (omega (arith, e))
faulty_status (fault.Merge f) e = absurd (omega (arith, e))
faulty_status fault.Read e = absurd (omega (arith, e))
faulty_status fault.Write e = absurd (omega (arith, e))
faulty_status fault.Memory e = absurd (omega (arith, e))

module _ (left left' held held' : Option (List ℕ)) (lf lf' of of' : ℕ) (words : List (List ℕ)) (v : Verified) (h : HasVerified (change_of left left' lf lf') (change_of held held' of of') words v) where
  -- the status of this verdict
  coded : (w : Verified) (n : ℕ) → v ≡ w → v.status ≡ n → w.status ≡ n
  coded w n is e = ap (λ (x : Verified). x.status) (sym is) ∙ e

  truth_by : v.status ≡ 0 → (answer : Answer) → Says (left_of left' lf lf') words h.answers.read answer → IsTold (change_of held held' of of') answer v → HasToldTruth left left' held held' words
  truth_by e (Accepted truth) s (inl x) = record { read = h.answers.read; consumed = h.answers.consumed; told = truth; accepted = s; wrote = x.1 }
  truth_by e (Accepted truth) s (inr x) = absurd (faulty_status fault.Write (coded (verified_as (Faulty fault.Write)) 0 x.0 e))
  truth_by e (Refused n) s (inl x) = let no : 1 ≡ 0 = coded (verified_as (Refused n)) 0 x.0 e in absurd (omega (arith, no))
  truth_by e (Refused n) s (inr x) = absurd (faulty_status fault.Write (coded (verified_as (Faulty fault.Write)) 0 x.0 e))
  truth_by e (Faulty f) s x = absurd (faulty_status f (coded (verified_as (Faulty f)) 0 x.0 e))

  pub truth_told : v.status ≡ 0 → HasToldTruth left left' held held' words
  truth_told e = truth_by e h.answer h.answers.says h.told

  read_faulty : (f : Fault) → IsFaulty (left_of left' lf lf') words h.answers.read f → code_of (status_of f) ≡ 5 → Rose lf lf'
  read_faulty fault.Usage s e = absurd (omega (arith, e))
  read_faulty (fault.Formula f) s e = absurd (omega (arith, e))
  read_faulty (fault.Log f) s e = absurd (omega (arith, e))
  read_faulty (fault.Import f) s e = absurd (omega (arith, e))
  read_faulty (fault.Merge f) s e = absurd (omega (arith, e))
  read_faulty fault.Read s e = s.0
  read_faulty fault.Write s e = absurd s
  read_faulty fault.Memory s e = absurd (omega (arith, e))

  read_by : v.status ≡ 5 → (answer : Answer) → Says (left_of left' lf lf') words h.answers.read answer → IsTold (change_of held held' of of') answer v → Rose lf lf'
  read_by e (Accepted truth) s (inl x) = let no : 0 ≡ 5 = coded (verified_as (Accepted truth)) 5 x.0 e in absurd (omega (arith, no))
  read_by e (Accepted truth) s (inr x) = let no : 6 ≡ 5 = coded (verified_as (Faulty fault.Write)) 5 x.0 e in absurd (omega (arith, no))
  read_by e (Refused n) s (inl x) = let no : 1 ≡ 5 = coded (verified_as (Refused n)) 5 x.0 e in absurd (omega (arith, no))
  read_by e (Refused n) s (inr x) = let no : 6 ≡ 5 = coded (verified_as (Faulty fault.Write)) 5 x.0 e in absurd (omega (arith, no))
  read_by e (Faulty f) s x = read_faulty f s (coded (verified_as (Faulty f)) 5 x.0 e)

  pub read_cause : v.status ≡ 5 → Rose lf lf'
  read_cause e = read_by e h.answer h.answers.says h.told

  write_faulty : (f : Fault) → IsFaulty (left_of left' lf lf') words h.answers.read f → code_of (status_of f) ≡ 6 → Rose of of'
  write_faulty fault.Usage s e = absurd (omega (arith, e))
  write_faulty (fault.Formula f) s e = absurd (omega (arith, e))
  write_faulty (fault.Log f) s e = absurd (omega (arith, e))
  write_faulty (fault.Import f) s e = absurd (omega (arith, e))
  write_faulty (fault.Merge f) s e = absurd (omega (arith, e))
  write_faulty fault.Read s e = absurd (omega (arith, e))
  write_faulty fault.Write s e = absurd s
  write_faulty fault.Memory s e = absurd (omega (arith, e))

  write_by : v.status ≡ 6 → (answer : Answer) → Says (left_of left' lf lf') words h.answers.read answer → IsTold (change_of held held' of of') answer v → Rose of of'
  write_by e (Accepted truth) s (inl x) = let no : 0 ≡ 6 = coded (verified_as (Accepted truth)) 6 x.0 e in absurd (omega (arith, no))
  write_by e (Accepted truth) s (inr x) = x.1
  write_by e (Refused n) s (inl x) = let no : 1 ≡ 6 = coded (verified_as (Refused n)) 6 x.0 e in absurd (omega (arith, no))
  write_by e (Refused n) s (inr x) = x.1
  write_by e (Faulty f) s x = write_faulty f s (coded (verified_as (Faulty f)) 6 x.0 e)

  pub write_cause : v.status ≡ 6 → Rose of of'
  write_cause e = write_by e h.answer h.answers.says h.told

-- a read fault is told by its status
pub told_read : (held held' : Option (List ℕ)) (of of' : ℕ) (answer : Answer) (v : Verified) → answer ≡ Faulty fault.Read → IsTold (change_of held held' of of') answer v → v.status ≡ 5
told_read held held' of of' answer v is told = told_as (subst (λ (a : Answer). IsTold (change_of held held' of of') a v) is told)
  where
    told_as : IsTold (change_of held held' of of') (Faulty fault.Read) v → v.status ≡ 5
    told_as t = ap (λ (x : Verified). x.status) t.0
