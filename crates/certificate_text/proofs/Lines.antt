-- A line is taken byte by byte.
use Rattle.std.proofs.Common.{◌≡◌, ℕ, ◌+◌, ◌<◌, ◌≤◌, Bool, true, false, List, [], ◌∷◌, ◌++◌, length, refl, sym, subst, append_assoc, append-nil, length-append, arith, ap, ◌∙◌, inl, inr}
use Rattle.std.proofs.lemmas.Bool.{cases_Bool}
use Rattle.std.proofs.lemmas.Bool.Decides.{nat_tests}
use Rattle.std.specs.Prelude.{◌==◌, ◌^◌, ◌%◌, codes, None, Some}
use Rattle.std.specs.Fmt.{decimal}
use Rattle.std.proofs.lemmas.Fmt.{decimal_by_steps, length-decimal-le}
use Rattle.pota_base.specs.Limits.{longest_certificate_line}
use Rattle.certificate_lines.specs.declared.line.Line.{Line}
use Rattle.certificate_lines.specs.declared.line.Line.TheVariants.{Node, Row, Raise, Verdict}
use Rattle.certificate_lines.specs.Spelling.{LineFits, line_text, lines_text}
use Rattle.certificate_text.specs.Taking.{VerifierView, Justifies, AreAccepted}
use Rattle.certificate_text.specs.Bytes.{Judged, HasNoFeed, IsLine, AreLines}
use Rattle.certificate_text.proofs.Picks.{pick_other, picked_first, picked_other}

-- ---- lines and bytes

pub free-more : (line : List ℕ) (b : ℕ) → HasNoFeed line → b == 10 ≡ false → HasNoFeed (line ++ b ∷ [])
free-more [] b h e = (e, tt)
free-more (x ∷ xs) b h e = (h.0, free-more xs b h.1 e)

pub eq-ten : (b : ℕ) → b == 10 ≡ true → b ≡ 10
eq-ten b e = grind (arith, nat_tests)

module _ {N : Type 0} (follows : N → Line → N → Type 0) where
  -- the bytes of a line that is justified, and then those behind it
  along : (rest : List ℕ) (v after : VerifierView N) (told : Bool) (line done : List ℕ) → HasNoFeed line → length done + length line ≤ longest_certificate_line
      → Justifies follows v (done ++ line) after → Judged follows rest after [] told → Judged follows (line ++ 10 ∷ rest) v done told
  along rest v after told [] done h few just behind = (after, subst (λ (x : List ℕ). Justifies follows v x after) (append-nil done) just, behind)
  along rest v after told (b ∷ bs) done h few just behind =
      pick_other (b == 10) _ _ h.0 (
        omega (arith, few),
        along rest v after told bs (done ++ b ∷ []) h.1 (simp length-append (omega (arith, few))) (subst (λ (x : List ℕ). Justifies follows v x after) (sym (append_assoc done (b ∷ []) bs)) just) behind,
      )

  pub accepted_bytes : (v : VerifierView N) (lines : List (List ℕ)) (told : Bool) → AreLines lines → AreAccepted follows v lines told → Judged follows (lines_text lines) v [] told
  accepted_bytes v [] told are h = (h, refl)
  accepted_bytes v (line ∷ lines) told are h =
      along (lines_text lines) v h.0 told line [] are.0.one (omega (arith, are.0.short)) h.1 (accepted_bytes h.0 lines told are.1 h.2)

  abbrev HasLines : List ℕ → VerifierView N → Bool → Type 0
  HasLines bytes v told = (lines : List (List ℕ)) × (bytes ≡ lines_text lines) × AreLines lines × AreAccepted follows v lines told

  lines-of : (bytes : List ℕ) (v : VerifierView N) (done : List ℕ) (told : Bool) → Judged follows bytes v done told → HasNoFeed done → length done ≤ longest_certificate_line → HasLines (done ++ bytes) v told
  lines-of [] v done told h free few = ([], append-nil done ∙ h.1, tt, h.0)
  lines-of (b ∷ bytes) v done told h free few = elim (cases_Bool (b == 10)) [
    | inl feed ↦
        let found = picked_first (b == 10) _ _ feed h in
        let rest = lines-of bytes found.0 [] told found.2 tt (omega arith) in
        (done ∷ rest.0, ap (λ (x : List ℕ). done ++ x) (cc (eq-ten b feed, rest.1)), (record { one = free; short = few }, rest.2), (found.0, found.1, rest.3))
    | inr more ↦
        let found = picked_other (b == 10) _ _ more h in
        let rest = lines-of bytes v (done ++ b ∷ []) told found.1 (free-more done b free more) (simp length-append (omega (arith, found.0))) in
        (rest.0, sym (append_assoc done (b ∷ []) bytes) ∙ rest.1, rest.2, rest.3)
  ]

  pub has_lines : (v : VerifierView N) (bytes : List ℕ) (told : Bool) → Judged follows bytes v [] told → HasLines bytes v told
  has_lines v bytes told h = lines-of bytes v [] told h tt (omega arith)

-- ---- spellings

free-both : (xs ys : List ℕ) → HasNoFeed xs → HasNoFeed ys → HasNoFeed (xs ++ ys)
free-both [] ys h k = k
free-both (x ∷ xs) ys h k = (h.0, free-both xs ys h.1 k)

not-ten : (d : ℕ) → (48 + d) == 10 ≡ false
not-ten d = grind (arith, nat_tests)

free-number : (n : ℕ) → n < 2 ^ 32 → HasNoFeed (decimal n)
free-number n fits = decimal_by_steps (λ m ds. HasNoFeed ds) (λ m low. (not-ten m, tt))
    (λ m ds big ih. free-both ds ((48 + m % 10) ∷ []) ih (not-ten (m % 10), tt)) n (omega (arith, fits))

short-number : (n : ℕ) → n < 2 ^ 32 → length (decimal n) ≤ 10
short-number n fits = length-decimal-le 10 n (omega arith) (omega arith) (omega (arith, fits))

free-node : HasNoFeed (codes "node ")
free-node = (refl, (refl, (refl, (refl, (refl, tt)))))

free-row : HasNoFeed (codes "row ")
free-row = (refl, (refl, (refl, (refl, tt))))

free-after : HasNoFeed (codes " after ")
free-after = (refl, (refl, (refl, (refl, (refl, (refl, (refl, tt)))))))

free-raise : HasNoFeed (codes "raise ")
free-raise = (refl, (refl, (refl, (refl, (refl, (refl, tt))))))

free-line : (l : Line) → LineFits l → HasNoFeed (line_text l)
free-line (Node number) h = free-both (codes "node ") (decimal number) free-node (free-number number h)
free-line (Row row None) h = free-both (codes "row ") (decimal row) free-row (free-number row h)
free-line (Row row (Some other)) h =
    free-both (codes "row ") _ free-row (free-both (decimal row) _ (free-number row h.0) (free-both (codes " after ") (decimal other) free-after (free-number other h.1)))
free-line (Raise pull value) h =
    free-both (codes "raise ") _ free-raise (free-both (decimal pull) _ (free-number pull h.0) (free-both (codes " ") (decimal value) (refl, tt) (free-number value h.1)))
free-line (Verdict true) h = (refl, (refl, (refl, (refl, (refl, (refl, (refl, (refl, (refl, (refl, (refl, (refl, tt))))))))))))
free-line (Verdict false) h = (refl, (refl, (refl, (refl, (refl, (refl, (refl, (refl, (refl, (refl, (refl, (refl, (refl, tt)))))))))))))

short-line : (l : Line) → LineFits l → length (line_text l) ≤ longest_certificate_line
short-line (Node number) h = simp length-append (omega (arith, short-number number h))
short-line (Row row None) h = simp length-append (omega (arith, short-number row h))
short-line (Row row (Some other)) h = simp length-append (omega (arith, short-number row h.0, short-number other h.1))
short-line (Raise pull value) h = simp length-append (omega (arith, short-number pull h.0, short-number value h.1))
short-line (Verdict true) h = omega arith
short-line (Verdict false) h = omega arith

pub line_is : (l : Line) → LineFits l → IsLine (line_text l)
line_is l h = record { one = free-line l h; short = short-line l h }
