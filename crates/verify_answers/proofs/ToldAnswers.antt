-- What is told of an answer.
use Rattle.std.proofs.Common.{◌≡◌, ℕ, Option, Some, Result, Ok, Err, List, [], refl, sym, subst, inl, inr, append-nil}
use Rattle.std.specs.Prelude.{IsOk, OnOk, OnErr, codes}
use Rattle.std.specs.Io.KnownBytes.{Appends}
use Rattle.pota_base.specs.Outside.{Rose, AppendsPrefix, HasCause}
use Rattle.pota_base.specs.Changes.{change_of}
use Rattle.fault_line.specs.declared.fault.Fault.{Fault}
use Rattle.fault_line.specs.declared.fault.Fault.TheVariants as fault
use Rattle.fault_line.specs.Lines.{Told, line_by}
use Rattle.verify_answers.specs.declared.answer.Answer.{Answer}
use Rattle.verify_answers.specs.declared.answer.Answer.TheVariants.{Accepted, Refused, Faulty}
use Rattle.verify_answers.specs.declared.answer.Verified.{Verified}
use Rattle.verify_answers.specs.Telling.{line_of, verified_as, IsTold, fault_line_of}
use Rattle.verify_answers.specs.inside.Telling.{HasNoLine}

pub told_whole : (held held' : Option (List ℕ)) (of of' : ℕ) (answer : Answer) (v : Verified) → v ≡ verified_as answer → Appends held held' (line_of answer) → IsTold (change_of held held' of of') answer v
told_whole held held' of of' (Accepted truth) v is wrote = inl (is, wrote)
told_whole held held' of of' (Refused n) v is wrote = inl (is, wrote)
told_whole held held' of of' (Faulty f) v is wrote = (is, wrote)

pub told_part : (held held' : Option (List ℕ)) (of of' : ℕ) (answer : Answer) (v : Verified) → (HasNoLine answer → ⊥) → v ≡ verified_as (Faulty fault.Write) → Rose of of' → AppendsPrefix held held' (line_of answer)
    → IsTold (change_of held held' of of') answer v
told_part held held' of of' (Accepted truth) v some is rose part = inr (is, rose, part)
told_part held held' of of' (Refused n) v some is rose part = inr (is, rose, part)
told_part held held' of of' (Faulty f) v some is rose part = absurd (some tt)

-- a line that could not be written is there
pub has_line : {T E : Type 0} (answer : Answer) (result : Result T E) (e : E) → result ≡ Err e → (HasNoLine answer → IsOk result) → HasNoLine answer → ⊥
has_line {T} {E} answer result e is ok none = let h : IsOk {T = T} {E = E} (Err e) = subst IsOk is (ok none) in cc

-- ---- the line of a fault

whole_prefix : (old new : Option (List ℕ)) (text : List ℕ) → Appends old new text → AppendsPrefix old new text
whole_prefix old new text h = (text, ([], sym (append-nil text)), h)

-- one text was written, or a front of it
pub told_text : {T E : Type 0} (r : Result T E) (old new : Option (List ℕ)) (before now : ℕ) (text : List ℕ)
    → OnOk r (Appends old new text) → OnErr r (AppendsPrefix old new text) → HasCause before now r → Told (change_of old new before now) text
told_text (Ok x) old new before now text ok err cause = record { whole = λ calm. ok; part = whole_prefix old new text ok }
told_text (Err e) old new before now text ok err cause = record { whole = λ calm. absurd (calm cause.failed); part = err }

-- other faults than those of the words have the line that each program has
pub other_line : (f : Fault) → (f ≡ fault.Usage → ⊥) → line_by (codes "pota_verify") (Some f) ≡ fault_line_of (Some f)
other_line fault.Usage other = absurd (other refl)
other_line (fault.Formula f) other = refl
other_line (fault.Log f) other = refl
other_line (fault.Import f) other = refl
other_line (fault.Merge f) other = refl
other_line fault.Read other = refl
other_line fault.Write other = refl
other_line fault.Memory other = refl
