-- What a sink holds after the line of a fault.
use Rattle.std.proofs.Common.{◌≡◌, ℕ, List, [], ◌∷◌, ◌++◌, Option, refl, sym, ap, ◌∙◌, subst, arith, append-nil, append_assoc}
use Rattle.std.specs.Prelude.{Result, Ok, Err, OnOk, OnErr, codes}
use Rattle.std.specs.Fmt.{decimal}
use Rattle.std.specs.Io.KnownBytes.{Appends}
use Rattle.std.proofs.KnownBytes.{Appends-trans, Appends-nil}
use Rattle.pota_base.specs.Outside.{HasCause, Rose, AppendsPrefix}
use Rattle.pota_base.specs.Changes.{change_of}
use Rattle.fault_line.specs.Lines.{Told}
use Rattle.view_top.specs.inside.Faults.{report_line}
use Rattle.view_top.specs.inside.Telling.{Puts}

-- a whole text, or a front of it where a write failed
pub told_text : {T E : Type 0} (r : Result T E) (old new : Option (List ℕ)) (before now : ℕ) (text : List ℕ)
    → OnOk r (Appends old new text) → OnErr r (AppendsPrefix old new text) → HasCause before now r → Told (change_of old new before now) text
told_text (Ok x) old new before now text ok err cause = record { whole = λ calm. ok; part = (text, ([], sym (append-nil text)), ok) }
told_text (Err e) old new before now text ok err cause = record { whole = λ calm. absurd (calm cause.failed); part = err }

-- a front of what stands behind a text that was written
behind : (a b c : Option (List ℕ)) (x y : List ℕ) → Appends a b x → AppendsPrefix b c y → AppendsPrefix a c (x ++ y)
behind a b c x y wrote part = (
  x ++ part.0,
  (part.1.0, ap (λ (t : List ℕ). x ++ t) part.1.1 ∙ sym (append_assoc x part.0 part.1.0)),
  Appends-trans a b c x part.0 wrote part.2,
)

-- a front of a text is one of what goes on
longer : (a b : Option (List ℕ)) (x y : List ℕ) → AppendsPrefix a b x → AppendsPrefix a b (x ++ y)
longer a b x y part = (
  part.0,
  (part.1.0 ++ y, ap (λ (t : List ℕ). t ++ y) part.1.1 ∙ append_assoc part.0 part.1.0 y),
  part.2,
)

-- ---- three texts, one behind the other

pub first_fails : {T E F : Type 0} (a b : Option (List ℕ)) (f g : ℕ) (x y : List ℕ) (e : E) (d : F)
    → AppendsPrefix a b x → HasCause {T = T} f g (Err e) → Puts {T = T} a b f g (x ++ y) (Err d)
first_fails a b f g x y e d part cause =
    record { whole = tt; part = longer a b x y part; cause = record { later = cause.later; failed = cause.failed } }

pub second_fails : {T E F : Type 0} (a b c : Option (List ℕ)) (f g h : ℕ) (x y z : List ℕ) (e : E) (d : F)
    → Appends a b x → g ≡ f → AppendsPrefix b c y → HasCause {T = T} g h (Err e) → Puts {T = T} a c f h (x ++ (y ++ z)) (Err d)
second_fails a b c f g h x y z e d wrote calm part cause =
    record {
      whole = tt;
      part = behind a b c x (y ++ z) wrote (longer b c y z part);
      cause = record { later = omega (arith, calm, cause.later); failed = subst (λ (n : ℕ). Rose n h) calm cause.failed };
    }

pub third_put : {T E : Type 0} (a b c d : Option (List ℕ)) (f g h i : ℕ) (x y z : List ℕ) (r : Result T E)
    → Appends a b x → g ≡ f → Appends b c y → h ≡ g → OnOk r (Appends c d z) → OnErr r (AppendsPrefix c d z) → HasCause h i r
    → Puts a d f i (x ++ (y ++ z)) r
third_put a b c d f g h i x y z (Ok v) first calm second still whole part cause = record {
  whole = Appends-trans a b d x (y ++ z) first (Appends-trans b c d y z second whole);
  part = tt;
  cause = record { later = omega (arith, calm, still, cause.later); failed = tt };
}
third_put a b c d f g h i x y z (Err e) first calm second still whole part cause = record {
  whole = tt;
  part = behind a b d x (y ++ z) first (behind b c d y z second part);
  cause = record { later = omega (arith, calm, still, cause.later); failed = subst (λ (n : ℕ). Rose n i) (still ∙ calm) cause.failed };
}

-- the line of a fault of the report, in the pieces in which it is written
pub report_line_is : (line : ℕ) → codes "pota_view: report line " ++ (decimal line ++ (codes ": bad line" ++ 10 ∷ [])) ≡ report_line line
report_line_is line = ap (λ (t : List ℕ). codes "pota_view: report line " ++ t) (sym (append_assoc (decimal line) (codes ": bad line") (10 ∷ [])))

-- ---- no text

-- nothing was written, and nothing was to be
pub untold : (old : Option (List ℕ)) (count : ℕ) → Told (change_of old old count count) []
untold old count = record { whole = λ calm. Appends-nil old; part = ([], ([], refl), Appends-nil old) }
