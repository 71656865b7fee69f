-- What a sink holds after one text was written to it.
use Rattle.std.proofs.Common.{◌≡◌, ℕ, List, [], ◌∷◌, ◌++◌, Option, Some, sym, ap, ◌∙◌, subst, append-nil, append_assoc}
use Rattle.std.specs.Prelude.{Result, Ok, Err, OnOk, OnErr, codes}
use Rattle.std.specs.Io.KnownBytes.{Appends}
use Rattle.pota_base.specs.Outside.{HasCause, AppendsPrefix}
use Rattle.pota_base.specs.Changes.{change_of}
use Rattle.fault_line.specs.Lines.{Told, cause_of, line_by}
use Rattle.fault_line.specs.declared.fault.Fault.{Fault}

whole_prefix : (old new : Option (List ℕ)) (text : List ℕ) → Appends old new text → AppendsPrefix old new text
whole_prefix old new text h = (text, ([], sym (append-nil text)), h)

told_text : {T E : Type 0} (r : Result T E) (old new : Option (List ℕ)) (before now : ℕ) (text : List ℕ)
    → OnOk r (Appends old new text) → OnErr r (AppendsPrefix old new text) → HasCause before now r → Told (change_of old new before now) text
told_text (Ok x) old new before now text ok err cause = record { whole = λ calm. ok; part = whole_prefix old new text ok }
told_text (Err e) old new before now text ok err cause = record { whole = λ calm. absurd (calm cause.failed); part = err }

-- four texts, one behind the other
pub four_texts : (a b c d e x y z w : List ℕ) → b ≡ a ++ x → c ≡ b ++ y → d ≡ c ++ z → e ≡ d ++ w → e ≡ a ++ (x ++ (y ++ (z ++ w)))
four_texts a b c d e x y z w p q r s =
    s ∙ ap (λ (t : List ℕ). t ++ w) (r ∙ ap (λ (t : List ℕ). t ++ z) (q ∙ ap (λ (t : List ℕ). t ++ y) p))
    ∙ append_assoc ((a ++ x) ++ y) z w ∙ append_assoc (a ++ x) y (z ++ w) ∙ append_assoc a x (y ++ (z ++ w))

-- six texts
pub six_texts : (a b c d e f g u v w x y z : List ℕ) → b ≡ a ++ u → c ≡ b ++ v → d ≡ c ++ w → e ≡ d ++ x → f ≡ e ++ y → g ≡ f ++ z
    → g ≡ a ++ (u ++ (v ++ (w ++ (x ++ (y ++ z)))))
six_texts a b c d e f g u v w x y z p q r s t last =
    let rest = w ++ (x ++ (y ++ z)) in
    four_texts c d e f g w x y z r s t last ∙ ap (λ (k : List ℕ). k ++ rest) (q ∙ ap (λ (k : List ℕ). k ++ v) p)
    ∙ append_assoc (a ++ u) v rest ∙ append_assoc a u (v ++ rest)

pub told_line : {T E : Type 0} (r : Result T E) (old new : Option (List ℕ)) (before now : ℕ) (fault : Fault) (program a b c d text : List ℕ)
    → a ≡ [] ++ program → b ≡ a ++ codes ": " → c ≡ b ++ cause_of fault → d ≡ c ++ 10 ∷ [] → text ≡ d
    → OnOk r (Appends old new text) → OnErr r (AppendsPrefix old new text) → HasCause before now r → Told (change_of old new before now) (line_by program (Some fault))
told_line r old new before now fault program a b c d text p q s t u ok err cause =
    let line : text ≡ line_by program (Some fault) = u ∙ four_texts [] a b c d program (codes ": ") (cause_of fault) (10 ∷ []) p q s t in
    subst (Told (change_of old new before now)) line (told_text r old new before now text ok err cause)
