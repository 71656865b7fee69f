-- Bytes that lead on, and those of which one is refused.
use Rattle.std.proofs.Common.{◌≡◌, ℕ, ◌+◌, ◌*◌, ◌^◌, ◌<◌, ◌≤◌, Bool, true, false, Option, None, Some, List, [], ◌∷◌, ◌++◌, length, refl, sym, ap, subst, ◌∙◌, append_assoc, append-nil, length-append, arith, inl, inr}
use Rattle.std.specs.Prelude.{◌==◌, ◌-◌, not, nat_lt}
use Rattle.std.specs.Bool.{OnTrue, OnFalse}
use Rattle.std.proofs.lemmas.Bool.{cases_Bool, OnTrue_from, OnFalse_from, ltb-true, ltb-false}
use Rattle.std.proofs.lemmas.Bool.Decides.{nat_tests}
use Rattle.pota_base.specs.Limits.{longest_certificate_line}
use Rattle.certificate_lines.specs.declared.line.Line.{Line}
use Rattle.certificate_text.specs.declared.said.Stage.{Stage}
use Rattle.certificate_text.specs.declared.said.Stage.TheVariants as stage
use Rattle.certificate_text.specs.Taking.{VerifierView, Justifies, JustifiesAt, IsUnjustified}
use Rattle.certificate_text.specs.Bytes.{pick, Judged, RefusedAt, IsAccepted, IsFull, HasNoFeed, OneFollows}
use Rattle.certificate_text.proofs.OneAnswer.{one_after}
use Rattle.verifier.specs.declared.verifier.Checked.{Checked}
use Rattle.verifier.specs.declared.verifier.Checked.TheVariants as checked
use Rattle.verifier.specs.Checking.{checked_as, IsChecked}
use Rattle.certificate_input.specs.Pieces.{Reaches, RefusedWithin}
use Rattle.certificate_input.specs.inside.Pieces.{accepted_at, InputView, IsReady, IsTaken, StaysInLine, IsOver}

-- ---- what is picked by a test

pick_first : (b : Bool) (A B : Type 0) → b ≡ true → A → pick b A B
pick_first true A B e h = h
pick_first false A B e h = absurd cc

pick_other : (b : Bool) (A B : Type 0) → b ≡ false → B → pick b A B
pick_other true A B e h = absurd cc
pick_other false A B e h = h

picked_first : (b : Bool) (A B : Type 0) → b ≡ true → pick b A B → A
picked_first true A B e h = h
picked_first false A B e h = absurd cc

picked_other : (b : Bool) (A B : Type 0) → b ≡ false → pick b A B → B
picked_other true A B e h = absurd cc
picked_other false A B e h = h

-- ---- stages

-- the text is accepted exactly where there is a truth
accepted_some : (s : Stage) (o : Option Bool) (told : Bool) → o ≡ accepted_at s → o ≡ Some told → s ≡ stage.Accepted told
accepted_some stage.Title o told e f = absurd cc
accepted_some stage.Formula o told e f = absurd cc
accepted_some stage.Body o told e f = absurd cc
accepted_some (stage.Ending truth) o told e f = absurd cc
accepted_some (stage.Accepted truth) o told e f = cc
accepted_some (stage.Refused line) o told e f = absurd cc
accepted_some stage.Spent o told e f = absurd cc

accepted_none : (s : Stage) (o : Option Bool) → o ≡ accepted_at s → o ≡ None → IsAccepted s → ⊥
accepted_none s o e f accepted =
    let some : accepted_at s ≡ Some accepted.0 = ap accepted_at accepted.1 in
    absurd cc

-- what was told of the line is the truth, where it is accepted
more_truth : (s : Stage) → checked.More ≡ checked_as s → None ≡ accepted_at s
more_truth stage.Title e = refl
more_truth stage.Formula e = refl
more_truth stage.Body e = refl
more_truth (stage.Ending told) e = refl
more_truth (stage.Accepted told) e = absurd cc
more_truth (stage.Refused line) e = refl
more_truth stage.Spent e = refl

accepted_truth : (s : Stage) (told : Bool) → checked.Accepted told ≡ checked_as s → Some told ≡ accepted_at s
accepted_truth stage.Title told e = absurd cc
accepted_truth stage.Formula told e = absurd cc
accepted_truth stage.Body told e = absurd cc
accepted_truth (stage.Ending truth) told e = absurd cc
accepted_truth (stage.Accepted truth) told e = cc
accepted_truth (stage.Refused line) told e = absurd cc
accepted_truth stage.Spent told e = absurd cc

-- ---- one line

module _ {N : Type 0} (follows : N → Line → N → Type 0) where
  more_at : (s : Stage) (v after : VerifierView N) (line : List ℕ) → JustifiesAt follows s v line after → after.lines ≡ v.lines + 1
  more_at stage.Title v after line h = ap (λ (x : VerifierView N). x.lines) h.leaves
  more_at stage.Formula v after line h = ap (λ (x : VerifierView N). x.lines) h.leaves
  more_at stage.Body v after line h = ap (λ (x : VerifierView N). x.lines) h.leaves
  more_at (stage.Ending told) v after line h = ap (λ (x : VerifierView N). x.lines) h.leaves
  more_at (stage.Accepted told) v after line h = absurd h
  more_at (stage.Refused number) v after line h = absurd h
  more_at stage.Spent v after line h = absurd h

  -- a line more was taken
  pub one_more : (v after : VerifierView N) (line : List ℕ) → Justifies follows v line after → after.lines ≡ v.lines + 1
  one_more v after line h = more_at v.stage v after line h

  -- ---- bytes that lead on

  room_left : (v : VerifierView N) (line : List ℕ) → length line ≤ longest_certificate_line → (IsFull v line → ⊥) → length line < longest_certificate_line
  room_left v line few open_ =
      let other : length line ≡ longest_certificate_line → ⊥ = λ e. open_ (inr e) in
      omega (arith, few, other)

  one_longer : (v : VerifierView N) (line : List ℕ) (b : ℕ) → length line ≤ longest_certificate_line → (IsFull v line → ⊥) → length (line ++ b ∷ []) ≤ longest_certificate_line
  one_longer v line b few open_ = simp length-append (omega (arith, room_left v line few open_))

  pub reach_reach : (bytes more : List ℕ) (v : VerifierView N) (line : List ℕ) (mid : VerifierView N) (part : List ℕ) (after : VerifierView N) (rest : List ℕ)
      → Reaches follows bytes v line mid part → Reaches follows more mid part after rest → Reaches follows (bytes ++ more) v line after rest
  reach_reach [] more v line mid part after rest h g =
      subst (λ (s : VerifierView N). Reaches follows more s line after rest) h.0 (subst (λ (x : List ℕ). Reaches follows more mid x after rest) h.1 g)
  reach_reach (b ∷ bytes) more v line mid part after rest h g = elim (cases_Bool (b == 10)) [
    | inl feed ↦
        let x = picked_first (b == 10) _ _ feed h in
        pick_first (b == 10) _ _ feed (x.0, x.1, reach_reach bytes more x.0 [] mid part after rest x.2 g)
    | inr plain ↦
        let x = picked_other (b == 10) _ _ plain h in
        pick_other (b == 10) _ _ plain (x.0, reach_reach bytes more v (line ++ b ∷ []) mid part after rest x.1 g)
  ]

  pub reach_within : (bytes more : List ℕ) (v : VerifierView N) (line : List ℕ) (mid : VerifierView N) (part : List ℕ) (n : ℕ)
      → Reaches follows bytes v line mid part → RefusedWithin follows more mid part n → RefusedWithin follows (bytes ++ more) v line n
  reach_within [] more v line mid part n h g =
      subst (λ (s : VerifierView N). RefusedWithin follows more s line n) h.0 (subst (λ (x : List ℕ). RefusedWithin follows more mid x n) h.1 g)
  reach_within (b ∷ bytes) more v line mid part n h g = elim (cases_Bool (b == 10)) [
    | inl feed ↦
        let x = picked_first (b == 10) _ _ feed h in
        pick_first (b == 10) _ _ feed (inr (x.0, x.1, reach_within bytes more x.0 [] mid part n x.2 g))
    | inr plain ↦
        let x = picked_other (b == 10) _ _ plain h in
        pick_other (b == 10) _ _ plain (inr (x.0, reach_within bytes more v (line ++ b ∷ []) mid part n x.1 g))
  ]

  pub reach_refused : (bytes more : List ℕ) (v : VerifierView N) (line : List ℕ) (mid : VerifierView N) (part : List ℕ) (n : ℕ)
      → Reaches follows bytes v line mid part → RefusedAt follows more mid part n → RefusedAt follows (bytes ++ more) v line n
  reach_refused [] more v line mid part n h g =
      subst (λ (s : VerifierView N). RefusedAt follows more s line n) h.0 (subst (λ (x : List ℕ). RefusedAt follows more mid x n) h.1 g)
  reach_refused (b ∷ bytes) more v line mid part n h g = elim (cases_Bool (b == 10)) [
    | inl feed ↦
        let x = picked_first (b == 10) _ _ feed h in
        pick_first (b == 10) _ _ feed (inr (x.0, x.1, reach_refused bytes more x.0 [] mid part n x.2 g))
    | inr plain ↦
        let x = picked_other (b == 10) _ _ plain h in
        pick_other (b == 10) _ _ plain (inr (x.0, reach_refused bytes more v (line ++ b ∷ []) mid part n x.1 g))
  ]

  pub reach_judged : (bytes more : List ℕ) (v : VerifierView N) (line : List ℕ) (mid : VerifierView N) (part : List ℕ) (told : Bool) → length line ≤ longest_certificate_line
      → Reaches follows bytes v line mid part → Judged follows more mid part told → Judged follows (bytes ++ more) v line told
  reach_judged [] more v line mid part told few h g =
      subst (λ (s : VerifierView N). Judged follows more s line told) h.0 (subst (λ (x : List ℕ). Judged follows more mid x told) h.1 g)
  reach_judged (b ∷ bytes) more v line mid part told few h g = elim (cases_Bool (b == 10)) [
    | inl feed ↦
        let x = picked_first (b == 10) _ _ feed h in
        pick_first (b == 10) _ _ feed (x.0, x.1, reach_judged bytes more x.0 [] mid part told (omega arith) x.2 g)
    | inr plain ↦
        let x = picked_other (b == 10) _ _ plain h in
        pick_other (b == 10) _ _ plain (room_left v line few x.0, reach_judged bytes more v (line ++ b ∷ []) mid part told (one_longer v line b few x.0) x.1 g)
  ]

  -- each byte leads further, and a line is not too long
  pub reach_further : (bytes : List ℕ) (v : VerifierView N) (line : List ℕ) (after : VerifierView N) (rest : List ℕ) → length line ≤ longest_certificate_line → Reaches follows bytes v line after rest
      → v.lines * (longest_certificate_line + 1) + length line + length bytes ≤ after.lines * (longest_certificate_line + 1) + length rest
  reach_further [] v line after rest few h = let same = ap (λ (x : VerifierView N). x.lines) h.0 in omega (arith, same, ap length h.1)
  reach_further (b ∷ bytes) v line after rest few h = elim (cases_Bool (b == 10)) [
    | inl feed ↦
        let x = picked_first (b == 10) _ _ feed h in
        omega (arith, one_more v x.0 line x.1, reach_further bytes x.0 [] after rest (omega arith) x.2)
    | inr plain ↦
        let x = picked_other (b == 10) _ _ plain h in
        omega (arith, length-append line (b ∷ []), reach_further bytes v (line ++ b ∷ []) after rest (one_longer v line b few x.0) x.1)
  ]

  -- ---- refusals

  pub within_at : (bytes more : List ℕ) (v : VerifierView N) (line : List ℕ) (n : ℕ) → RefusedWithin follows bytes v line n → RefusedAt follows (bytes ++ more) v line n
  within_at [] more v line n h = absurd h
  within_at (b ∷ bytes) more v line n h = elim (cases_Bool (b == 10)) [
    | inl feed ↦ elim (picked_first (b == 10) _ _ feed h) [
      | inl x ↦ pick_first (b == 10) _ _ feed (inl x)
      | inr x ↦ pick_first (b == 10) _ _ feed (inr (x.0, x.1, within_at bytes more x.0 [] n x.2))
    ]
    | inr plain ↦ elim (picked_other (b == 10) _ _ plain h) [
      | inl x ↦ pick_other (b == 10) _ _ plain (inl x)
      | inr x ↦ pick_other (b == 10) _ _ plain (inr (x.0, within_at bytes more v (line ++ b ∷ []) n x.1))
    ]
  ]

  pub within_stays : (bytes more : List ℕ) (v : VerifierView N) (line : List ℕ) (n : ℕ) → RefusedWithin follows bytes v line n → RefusedWithin follows (bytes ++ more) v line n
  within_stays [] more v line n h = absurd h
  within_stays (b ∷ bytes) more v line n h = elim (cases_Bool (b == 10)) [
    | inl feed ↦ elim (picked_first (b == 10) _ _ feed h) [
      | inl x ↦ pick_first (b == 10) _ _ feed (inl x)
      | inr x ↦ pick_first (b == 10) _ _ feed (inr (x.0, x.1, within_stays bytes more x.0 [] n x.2))
    ]
    | inr plain ↦ elim (picked_other (b == 10) _ _ plain h) [
      | inl x ↦ pick_other (b == 10) _ _ plain (inl x)
      | inr x ↦ pick_other (b == 10) _ _ plain (inr (x.0, within_stays bytes more v (line ++ b ∷ []) n x.1))
    ]
  ]

  pub reach_apart : OneFollows follows → (bytes : List ℕ) (v : VerifierView N) (line : List ℕ) (after : VerifierView N) (rest : List ℕ) (n : ℕ)
      → Reaches follows bytes v line after rest → RefusedWithin follows bytes v line n → ⊥
  reach_apart one [] v line after rest n h g = g
  reach_apart one (b ∷ bytes) v line after rest n h g = elim (cases_Bool (b == 10)) [
    | inl feed ↦
        let x = picked_first (b == 10) _ _ feed h in
        elim (picked_first (b == 10) _ _ feed g) [
          | inl y ↦ y.1 x.0 x.1
          | inr y ↦
              let same = one_after follows one v line x.0 y.0 x.1 y.1 in
              reach_apart one bytes y.0 [] after rest n (subst (λ (s : VerifierView N). Reaches follows bytes s [] after rest) same x.2) y.2
        ]
    | inr plain ↦
        let x = picked_other (b == 10) _ _ plain h in
        elim (picked_other (b == 10) _ _ plain g) [
          | inl y ↦ x.0 y.1
          | inr y ↦ reach_apart one bytes v (line ++ b ∷ []) after rest n x.1 y.1
        ]
  ]

  -- ---- bytes of a line

  full_not : (v : VerifierView N) (line : List ℕ) → (IsAccepted v.stage → ⊥) → length line < longest_certificate_line → IsFull v line → ⊥
  full_not v line open_ few (inl accepted) = open_ accepted
  full_not v line open_ few (inr full) = omega (arith, few, full)

  pub bytes_reach : (bytes : List ℕ) (v : VerifierView N) (line : List ℕ) → HasNoFeed bytes → (IsAccepted v.stage → ⊥) → length line + length bytes ≤ longest_certificate_line
      → Reaches follows bytes v line v (line ++ bytes)
  bytes_reach [] v line plain open_ few = (refl, append-nil line)
  bytes_reach (b ∷ bytes) v line plain open_ few =
      pick_other (b == 10) _ _ plain.0 (
        full_not v line open_ (omega (arith, few)),
        subst (λ (x : List ℕ). Reaches follows bytes v (line ++ b ∷ []) v x) (append_assoc line (b ∷ []) bytes)
            (bytes_reach bytes v (line ++ b ∷ []) plain.1 open_ (simp length-append (omega (arith, few)))),
      )

  pub bytes_over : (bytes more : List ℕ) (v : VerifierView N) (line : List ℕ) → HasNoFeed bytes → (IsAccepted v.stage → ⊥) → length line ≤ longest_certificate_line
      → longest_certificate_line < length line + length bytes → RefusedWithin follows (bytes ++ more) v line (v.lines + 1)
  bytes_over [] more v line plain open_ few over = absurd (omega (arith, few, over))
  bytes_over (b ∷ bytes) more v line plain open_ few over = elim (cases_Bool (length line == longest_certificate_line)) [
    | inl full ↦ pick_other (b == 10) _ _ plain.0 (inl (refl, inr (grind (arith, nat_tests))))
    | inr short ↦
        let room : length line < longest_certificate_line = grind (arith, nat_tests) in
        pick_other (b == 10) _ _ plain.0 (inr (
          full_not v line open_ room,
          bytes_over bytes more v (line ++ b ∷ []) plain.1 open_ (simp length-append (omega (arith, room))) (simp length-append (omega (arith, over))),
        ))
  ]

  pub byte_behind : (bytes more : List ℕ) (v : VerifierView N) (line : List ℕ) → HasNoFeed bytes → 0 < length bytes → IsAccepted v.stage
      → RefusedWithin follows (bytes ++ more) v line (v.lines + 1)
  byte_behind [] more v line plain some accepted = absurd (omega (arith, some))
  byte_behind (b ∷ bytes) more v line plain some accepted = pick_other (b == 10) _ _ plain.0 (inl (refl, inl accepted))

  pub behind_is_over : (v : InputView N) (bytes : List ℕ) (told empty : Bool) → IsReady v → HasNoFeed bytes → v.accepted ≡ Some told → empty ≡ (length bytes == 0)
      → OnTrue (not empty) (IsOver follows v bytes)
  behind_is_over v bytes told true ready plain truth is = tt
  behind_is_over v bytes told false ready plain truth is =
      let some : 0 < length bytes = grind (arith, nat_tests) in
      λ more. byte_behind bytes more v.text v.line plain some (told, accepted_some v.text.stage v.accepted told ready.accepted truth)

  pub long_is_over : (v : InputView N) (bytes : List ℕ) (count : ℕ) → IsReady v → HasNoFeed bytes → v.accepted ≡ None → count ≡ length v.line
      → OnTrue (nat_lt (longest_certificate_line - count) (length bytes)) (IsOver follows v bytes)
  long_is_over v bytes count ready plain open_ is =
      OnTrue_from (nat_lt (longest_certificate_line - count) (length bytes)) (IsOver follows v bytes) (λ test.
      let over : longest_certificate_line < length v.line + length bytes = omega (arith, ltb-true (longest_certificate_line - count) (length bytes) test, is, ready.short) in
      λ more. bytes_over bytes more v.text v.line plain (accepted_none v.text.stage v.accepted ready.accepted open_) ready.short over)

  pub short_is_within : (v : InputView N) (bytes : List ℕ) (count : ℕ) → IsReady v → HasNoFeed bytes → v.accepted ≡ None → count ≡ length v.line
      → OnFalse (nat_lt (longest_certificate_line - count) (length bytes)) (StaysInLine follows v bytes)
  short_is_within v bytes count ready plain open_ is =
      OnFalse_from (nat_lt (longest_certificate_line - count) (length bytes)) (StaysInLine follows v bytes) (λ test.
      let few : length v.line + length bytes ≤ longest_certificate_line = omega (arith, ltb-false (longest_certificate_line - count) (length bytes) test, is, ready.short) in
      (bytes_reach bytes v.text v.line plain (accepted_none v.text.stage v.accepted ready.accepted open_) few, few))

  pub bytes_refused : (v : InputView N) (bytes : List ℕ) (n : ℕ) → IsReady v → n ≡ v.lines + 1 → IsOver follows v bytes → RefusedWithin follows bytes v.text v.line n
  bytes_refused v bytes n ready number over =
      let same : v.text.lines + 1 ≡ n = omega (arith, ready.lines, number) in
      subst (RefusedWithin follows bytes v.text v.line) same (subst (λ (x : List ℕ). RefusedWithin follows x v.text v.line (v.text.lines + 1)) (append-nil bytes) (over []))

  -- ---- whole lines

  feed_reach : (v : VerifierView N) (line : List ℕ) (after : VerifierView N) → Justifies follows v line after → Reaches follows (10 ∷ []) v line after []
  feed_reach v line after h = (after, h, (refl, refl))

  feed_refused : (v : VerifierView N) (line : List ℕ) → IsUnjustified follows v line → RefusedWithin follows (10 ∷ []) v line (v.lines + 1)
  feed_refused v line h = inl (refl, h)

  line_refused : (v : InputView N) (end : List ℕ) (n : ℕ) → IsReady v → n ≡ v.lines + 1 → StaysInLine follows v end → IsUnjustified follows v.text (v.line ++ end)
      → RefusedWithin follows (end ++ 10 ∷ []) v.text v.line n
  line_refused v end n ready number within h =
      let same : v.text.lines + 1 ≡ n = omega (arith, ready.lines, number) in
      subst (RefusedWithin follows (end ++ 10 ∷ []) v.text v.line) same
      (reach_within end (10 ∷ []) v.text v.line v.text (v.line ++ end) (v.text.lines + 1) within.0 (feed_refused v.text (v.line ++ end) h))

  line_taken : (v : InputView N) (end : List ℕ) (after : InputView N) → IsReady v → after.lines ≡ v.lines + 1 → after.lines < 2 ^ 64 → StaysInLine follows v end
      → Justifies follows v.text (v.line ++ end) after.text → after.accepted ≡ accepted_at after.text.stage → after.line ≡ []
      → IsTaken follows v (end ++ 10 ∷ []) None after
  line_taken v end after ready number counted within h truth none =
      let feed = subst (λ (x : List ℕ). Reaches follows (10 ∷ []) v.text (v.line ++ end) after.text x) (sym none) (feed_reach v.text (v.line ++ end) after.text h) in (
        reach_reach end (10 ∷ []) v.text v.line v.text (v.line ++ end) after.text after.line within.0 feed,
        record { short = omega (arith, ap length none); counted = counted; lines = omega (arith, number, ready.lines, one_more v.text after.text (v.line ++ end) h); accepted = truth },
      )

  -- by what is told of the line
  pub told_refused : (v : InputView N) (end : List ℕ) (n m : ℕ) (t : Checked) (after : VerifierView N) → IsReady v → n ≡ v.lines + 1 → StaysInLine follows v end
      → t ≡ checked.Refused m → IsChecked follows v.text (v.line ++ end) t after → RefusedWithin follows (end ++ 10 ∷ []) v.text v.line n
  told_refused v end n m t after ready number within is told =
      line_refused v end n ready number within (subst (λ (x : Checked). IsChecked follows v.text (v.line ++ end) x after) is told).unjustified

  pub told_more : (v : InputView N) (end : List ℕ) (n : ℕ) (t : Checked) (text : VerifierView N) (after : InputView N) → IsReady v → n ≡ v.lines + 1 → n < 2 ^ 64 → StaysInLine follows v end
      → t ≡ checked.More → IsChecked follows v.text (v.line ++ end) t text → after ≡ record { text = text; line = []; lines = n; accepted = None }
      → IsTaken follows v (end ++ 10 ∷ []) None after
  told_more v end n t text after ready number counted within is told same =
      let to = subst (λ (x : Checked). IsChecked follows v.text (v.line ++ end) x text) is told in
      subst (IsTaken follows v (end ++ 10 ∷ []) None) (sym same)
      (line_taken v end (record { text = text; line = []; lines = n; accepted = None }) ready number counted within to.0 (more_truth text.stage to.1) refl)

  pub told_accepted : (v : InputView N) (end : List ℕ) (n : ℕ) (truth : Bool) (t : Checked) (text : VerifierView N) (after : InputView N) → IsReady v → n ≡ v.lines + 1 → n < 2 ^ 64
      → StaysInLine follows v end → t ≡ checked.Accepted truth → IsChecked follows v.text (v.line ++ end) t text
      → after ≡ record { text = text; line = []; lines = n; accepted = Some truth } → IsTaken follows v (end ++ 10 ∷ []) None after
  told_accepted v end n truth t text after ready number counted within is told same =
      let to = subst (λ (x : Checked). IsChecked follows v.text (v.line ++ end) x text) is told in
      subst (IsTaken follows v (end ++ 10 ∷ []) None) (sym same)
      (line_taken v end (record { text = text; line = []; lines = n; accepted = Some truth }) ready number counted within to.0 (accepted_truth text.stage truth to.1) refl)

-- ---- pieces

-- these bytes of a piece were taken, and others of it are left
pub record HasTaken {N : Type 0} (follows : N → Line → N → Type 0) (v now : InputView N) (piece rest : List ℕ) : Type 0 where
  pub front : List ℕ
  pub parted : piece ≡ front ++ rest
  pub reaches : Reaches follows front v.text v.line now.text now.line
  pub ready : IsReady now

module _ {N : Type 0} (follows : N → Line → N → Type 0) (v : InputView N) (piece : List ℕ) where
  pub none_taken : IsReady v → HasTaken follows v v piece piece
  none_taken ready = record { front = []; parted = refl; reaches = (refl, refl); ready = ready }

  module _ (now after : InputView N) (rest : List ℕ) (so : HasTaken follows v now piece rest) where
    -- the bytes up to the next line feed, and it
    with_line : (end behind : List ℕ) → rest ≡ end ++ 10 ∷ behind → piece ≡ (so.front ++ (end ++ 10 ∷ [])) ++ behind
    with_line end behind split =
        so.parted ∙ ap (λ (x : List ℕ). so.front ++ x) (split ∙ sym (append_assoc end (10 ∷ []) behind)) ∙ sym (append_assoc so.front (end ++ 10 ∷ []) behind)

    pub line_goes_on : (end behind : List ℕ) (t : Option ℕ) → rest ≡ end ++ 10 ∷ behind → t ≡ None → IsTaken follows now (end ++ 10 ∷ []) t after → HasTaken follows v after piece behind
    line_goes_on end behind t split none taken =
        let to = subst (λ (o : Option ℕ). IsTaken follows now (end ++ 10 ∷ []) o after) none taken in
        record {
          front = so.front ++ (end ++ 10 ∷ []);
          parted = with_line end behind split;
          reaches = reach_reach follows so.front (end ++ 10 ∷ []) v.text v.line now.text now.line after.text after.line so.reaches to.0;
          ready = to.1;
        }

    pub line_ends : (end behind : List ℕ) (n : ℕ) (t : Option ℕ) → rest ≡ end ++ 10 ∷ behind → t ≡ Some n → IsTaken follows now (end ++ 10 ∷ []) t after
        → RefusedWithin follows piece v.text v.line n
    line_ends end behind n t split some taken =
        let to = subst (λ (o : Option ℕ). IsTaken follows now (end ++ 10 ∷ []) o after) some taken in
        let first = reach_within follows so.front (end ++ 10 ∷ []) v.text v.line now.text now.line n so.reaches to in
        subst (λ (x : List ℕ). RefusedWithin follows x v.text v.line n) (sym (with_line end behind split))
        (within_stays follows (so.front ++ (end ++ 10 ∷ [])) behind v.text v.line n first)

    pub bytes_end : (t : Option ℕ) → IsTaken follows now rest t after → IsTaken follows v piece t after
    bytes_end None to = (
      subst (λ (x : List ℕ). Reaches follows x v.text v.line after.text after.line) (sym so.parted)
          (reach_reach follows so.front rest v.text v.line now.text now.line after.text after.line so.reaches to.0),
      to.1,
    )
    bytes_end (Some n) to =
        subst (λ (x : List ℕ). RefusedWithin follows x v.text v.line n) (sym so.parted)
        (reach_within follows so.front rest v.text v.line now.text now.line n so.reaches to)
