-- A line of several pieces.
use Rattle.std.proofs.Common.{◌≡◌, ℕ, zero, suc, Option, List, [], ◌∷◌, ◌++◌, map, refl, sym, ap, subst, ◌∙◌, append_assoc}
use Rattle.std.specs.Prelude.{codes, slice_get, Result, Ok, Err, OnErr}
use Rattle.std.specs.Option.{option_map}
use Rattle.std.specs.Io.KnownBytes.{Appends}
use Rattle.std.proofs.KnownBytes.{Appends-trans}
use Rattle.pota_base.specs.Outside.{AppendsPrefix}
use Rattle.pota_base.specs.Changes.{change_of}
use Rattle.fault_line.specs.Lines.{Told}
use Rattle.one_log.specs.Faults.{program, unknown_text}

-- ---- a word

get-map : {S : Type 0} (f : S → List ℕ) (xs : List S) (i : ℕ) → slice_get (map f xs) i ≡ option_map f (slice_get xs i)
get-map f [] i = refl
get-map f (x ∷ xs) zero = refl
get-map f (x ∷ xs) (suc i) = get-map f xs i

-- ---- pieces

pub on_err : {T E : Type 0} (r : Result T E) (A : Type 0) → A → OnErr r A
on_err (Ok x) A a = tt
on_err (Err e) A a = a

pub on_err-of : {T E : Type 0} (r : Result T E) (A B : Type 0) → (A → B) → OnErr r A → OnErr r B
on_err-of (Ok x) A B f a = tt
on_err-of (Err e) A B f a = f a

pub longer : (a b : Option (List ℕ)) (text rest : List ℕ) → AppendsPrefix a b text → AppendsPrefix a b (text ++ rest)
longer a b text rest part =
    (part.0, (part.1.0 ++ rest, ap (λ (xs : List ℕ). xs ++ rest) part.1.1 ∙ append_assoc part.0 part.1.0 rest), part.2)

pub behind : (a b c : Option (List ℕ)) (first text : List ℕ) → Appends a b first → AppendsPrefix b c text → AppendsPrefix a c (first ++ text)
behind a b c first text one part =
    (first ++ part.0, (part.1.0, ap (λ (xs : List ℕ). first ++ xs) part.1.1 ∙ sym (append_assoc first part.0 part.1.0)), Appends-trans a b c first part.0 one part.2)

-- ---- the line of an unknown name

line_is : (word : List ℕ) → codes "pota_log: --keep " ++ (word ++ codes ": not in the log\n") ≡ program ++ (codes ": " ++ (unknown_text word ++ 10 ∷ []))
line_is word = ap (λ (xs : List ℕ). codes "pota_log: --keep " ++ xs) (sym (append_assoc word (codes ": not in the log") (10 ∷ [])))

pub line_told : (old new : Option (List ℕ)) (before now : ℕ) (word : List ℕ) → Told (change_of old new before now) (codes "pota_log: --keep " ++ (word ++ codes ": not in the log\n"))
    → Told (change_of old new before now) (program ++ (codes ": " ++ (unknown_text word ++ 10 ∷ [])))
line_told old new before now word = subst (Told (change_of old new before now)) (line_is word)
