-- Refused bytes are justified lines and a wrong one, and such bytes are refused.
use Rattle.std.proofs.Common.{◌≡◌, ℕ, ◌+◌, ◌<◌, ◌≤◌, Bool, true, false, List, [], ◌∷◌, ◌++◌, length, refl, sym, subst, append_assoc, append-nil, length-append, arith, ap, ◌∙◌, inl, inr}
use Rattle.std.specs.Prelude.{◌==◌, ◌⊎◌}
use Rattle.std.proofs.lemmas.Bool.{cases_Bool}
use Rattle.pota_base.specs.Limits.{longest_certificate_line}
use Rattle.certificate_lines.specs.declared.line.Line.{Line}
use Rattle.certificate_lines.specs.Spelling.{lines_text}
use Rattle.certificate_text.specs.declared.said.Stage.{Stage}
use Rattle.certificate_text.specs.declared.said.Stage.TheVariants as stage
use Rattle.certificate_text.specs.Taking.{VerifierView, Justifies, JustifiesAt, IsUnjustified}
use Rattle.certificate_text.specs.Bytes.{RefusedAt, HasNoFeed, IsLine, AreLines, IsAccepted, IsFull, LeadTo, HasWrongLine, HasLongLine, GoesOn, IsCutOff, IsWrong, IsRefusedBehind}
use Rattle.certificate_text.proofs.Picks.{pick_first, pick_other, picked_first, picked_other}
use Rattle.certificate_text.proofs.Lines.{free-more, eq-ten}

-- ---- stages

not-title : (told : Bool) → stage.Title ≡ stage.Accepted told → ⊥
not-title told e = absurd cc

not-formula : (told : Bool) → stage.Formula ≡ stage.Accepted told → ⊥
not-formula told e = absurd cc

not-body : (told : Bool) → stage.Body ≡ stage.Accepted told → ⊥
not-body told e = absurd cc

not-ending : (truth told : Bool) → stage.Ending truth ≡ stage.Accepted told → ⊥
not-ending truth told e = absurd cc

not-refused : (line : ℕ) (told : Bool) → stage.Refused line ≡ stage.Accepted told → ⊥
not-refused line told e = absurd cc

not-spent : (told : Bool) → stage.Spent ≡ stage.Accepted told → ⊥
not-spent told e = absurd cc

-- a text is accepted, or it isn't
or-open : (s : Stage) → IsAccepted s ⊎ (IsAccepted s → ⊥)
or-open stage.Title = inr (λ a. not-title a.0 a.1)
or-open stage.Formula = inr (λ a. not-formula a.0 a.1)
or-open stage.Body = inr (λ a. not-body a.0 a.1)
or-open (stage.Ending truth) = inr (λ a. not-ending truth a.0 a.1)
or-open (stage.Accepted truth) = inl (truth, refl)
or-open (stage.Refused line) = inr (λ a. not-refused line a.0 a.1)
or-open stage.Spent = inr (λ a. not-spent a.0 a.1)

not-empty : (line : List ℕ) (b : ℕ) (bytes : List ℕ) → line ++ b ∷ bytes ≡ [] → ⊥
not-empty [] b bytes e = absurd cc
not-empty (x ∷ xs) b bytes e = absurd cc

module _ {N : Type 0} (follows : N → Line → N → Type 0) where
  more-at : (s : Stage) (v after : VerifierView N) (line : List ℕ) → JustifiesAt follows s v line after → after.lines ≡ v.lines + 1
  more-at stage.Title v after line h = ap (λ (x : VerifierView N). x.lines) h.leaves
  more-at stage.Formula v after line h = ap (λ (x : VerifierView N). x.lines) h.leaves
  more-at stage.Body v after line h = ap (λ (x : VerifierView N). x.lines) h.leaves
  more-at (stage.Ending told) v after line h = ap (λ (x : VerifierView N). x.lines) h.leaves
  more-at (stage.Accepted told) v after line h = absurd h
  more-at (stage.Refused number) v after line h = absurd h
  more-at stage.Spent v after line h = absurd h

  one-more : (v after : VerifierView N) (line : List ℕ) → Justifies follows v line after → after.lines ≡ v.lines + 1
  one-more v after line h = more-at v.stage v after line h

  -- behind an accepted text no line is justified
  none-behind : (s : Stage) (v after : VerifierView N) (line : List ℕ) → IsAccepted s → JustifiesAt follows s v line after → ⊥
  none-behind s v after line a h = subst (λ (x : Stage). JustifiesAt follows x v line after) a.1 h

  few-left : (v : VerifierView N) (line : List ℕ) → length line ≤ longest_certificate_line → (IsFull v line → ⊥) → length line < longest_certificate_line
  few-left v line few open_ =
      let other : length line ≡ longest_certificate_line → ⊥ = λ e. open_ (inr e) in
      omega (arith, few, other)

  -- ---- refused bytes are lines

  here : (v : VerifierView N) (bytes : List ℕ) (n : ℕ) → n ≡ v.lines + 1 → IsWrong follows v bytes → IsRefusedBehind follows v bytes n
  here v bytes n number wrong = record {
    lines = [];
    rest = bytes;
    after = v;
    parts = refl;
    are = tt;
    lead = refl;
    number = omega (arith, number);
    wrong = wrong;
  }

  cut-here : (v : VerifierView N) (line : List ℕ) (n : ℕ) → n ≡ v.lines + 1 → (IsAccepted v.stage → line ≡ [] → ⊥) → HasNoFeed line → length line ≤ longest_certificate_line → IsRefusedBehind follows v line n
  cut-here v line n number open_ free few = elim (or-open v.stage) [
    | inl accepted ↦ here v line n number (inr (inr (inl (record { accepted = accepted; some = open_ accepted }))))
    | inr due ↦ here v line n number (inr (inr (inr (record { due = due; part = record { one = free; short = few } }))))
  ]

  full-here : (v : VerifierView N) (line : List ℕ) (b : ℕ) (bytes : List ℕ) (n : ℕ) → n ≡ v.lines + 1 → b == 10 ≡ false → HasNoFeed line → IsFull v line → IsRefusedBehind follows v (line ++ b ∷ bytes) n
  full-here v line b bytes n number plain free (inl accepted) =
      here v (line ++ b ∷ bytes) n number (inr (inr (inl (record { accepted = accepted; some = not-empty line b bytes }))))
  full-here v line b bytes n number plain free (inr full) =
      here v (line ++ b ∷ bytes) n number (inr (inl (record {
        line = line ++ b ∷ [];
        more = bytes;
        parts = sym (append_assoc line (b ∷ []) bytes);
        one = free-more line b free plain;
        long = length-append line (b ∷ []) ∙ omega (arith, full);
      })))

  line-more : (v after : VerifierView N) (line : List ℕ) (b : ℕ) (bytes : List ℕ) (n : ℕ) → b == 10 ≡ true → IsLine line → Justifies follows v line after → IsRefusedBehind follows after bytes n
      → IsRefusedBehind follows v (line ++ b ∷ bytes) n
  line-more v after line b bytes n feed is just h = record {
    lines = line ∷ h.lines;
    rest = h.rest;
    after = h.after;
    parts = ap (λ (x : ℕ). line ++ x ∷ bytes) (eq-ten b feed) ∙ ap (λ (x : List ℕ). line ++ 10 ∷ x) h.parts ∙ sym (append_assoc line (10 ∷ lines_text h.lines) h.rest);
    are = (is, h.are);
    lead = (after, just, h.lead);
    number = omega (arith, h.number, one-more v after line just);
    wrong = h.wrong;
  }

  pub refused_lines : (bytes : List ℕ) (v : VerifierView N) (line : List ℕ) (n : ℕ) → RefusedAt follows bytes v line n → HasNoFeed line → length line ≤ longest_certificate_line → IsRefusedBehind follows v (line ++ bytes) n
  refused_lines [] v line n h free few = subst (λ (x : List ℕ). IsRefusedBehind follows v x n) (sym (append-nil line)) (cut-here v line n h.0 h.1 free few)
  refused_lines (b ∷ bytes) v line n h free few = elim (cases_Bool (b == 10)) [
    | inl feed ↦ elim (picked_first (b == 10) _ _ feed h) [
      | inl x ↦ here v (line ++ b ∷ bytes) n x.0 (inl (record {
        line = line;
        more = bytes;
        parts = ap (λ (y : ℕ). line ++ y ∷ bytes) (eq-ten b feed);
        is_line = record { one = free; short = few };
        wrong = x.1;
      }))
      | inr x ↦ line-more v x.0 line b bytes n feed (record { one = free; short = few }) x.1 (refused_lines bytes x.0 [] n x.2 tt (omega arith))
    ]
    | inr plain ↦ elim (picked_other (b == 10) _ _ plain h) [
      | inl x ↦ full-here v line b bytes n x.0 plain free x.1
      | inr x ↦
          let less = few-left v line few x.0 in
          subst (λ (y : List ℕ). IsRefusedBehind follows v y n) (append_assoc line (b ∷ []) bytes)
          (refused_lines bytes v (line ++ b ∷ []) n x.1 (free-more line b free plain) (simp length-append (omega (arith, less))))
    ]
  ]

  -- ---- such bytes are refused

  -- a byte of a line, where it isn't one too many, and a refusal behind it
  onward : (v : VerifierView N) (b : ℕ) (bytes done : List ℕ) (n : ℕ) → n ≡ v.lines + 1 → b == 10 ≡ false → length done < longest_certificate_line → RefusedAt follows bytes v (done ++ b ∷ []) n → RefusedAt follows (b ∷ bytes) v done n
  onward v b bytes done n number plain few h = elim (or-open v.stage) [
    | inl accepted ↦ pick_other (b == 10) _ _ plain (inl (number, inl accepted))
    | inr due ↦
        let open_ : IsFull v done → ⊥ = λ full. elim full [
          | inl a ↦ due a
          | inr e ↦ omega (arith, few, e)
        ] in
        pick_other (b == 10) _ _ plain (inr (open_, h))
  ]

  wrong-line : (more : List ℕ) (v : VerifierView N) (n : ℕ) (line done : List ℕ) → n ≡ v.lines + 1 → HasNoFeed line → length done + length line ≤ longest_certificate_line → IsUnjustified follows v (done ++ line)
      → RefusedAt follows (line ++ 10 ∷ more) v done n
  wrong-line more v n [] done number free few wrong = inl (number, subst (λ (x : List ℕ). IsUnjustified follows v x) (append-nil done) wrong)
  wrong-line more v n (b ∷ bs) done number free few wrong =
      onward v b (bs ++ 10 ∷ more) done n number free.0 (omega (arith, few))
      (wrong-line more v n bs (done ++ b ∷ []) number free.1 (simp length-append (omega (arith, few))) (subst (λ (x : List ℕ). IsUnjustified follows v x) (sym (append_assoc done (b ∷ []) bs)) wrong))

  long-line : (more : List ℕ) (v : VerifierView N) (n : ℕ) (line done : List ℕ) → n ≡ v.lines + 1 → HasNoFeed line → length done + length line ≡ longest_certificate_line + 1 → length done ≤ longest_certificate_line → RefusedAt follows (line ++ more) v done n
  long-line more v n [] done number free long few = absurd (omega (arith, long, few))
  long-line more v n (b ∷ []) done number free long few = pick_other (b == 10) _ _ free.0 (inl (number, inr (omega (arith, long))))
  long-line more v n (b ∷ c ∷ bs) done number free long few =
      onward v b (c ∷ bs ++ more) done n number free.0 (omega (arith, long))
      (long-line more v n (c ∷ bs) (done ++ b ∷ []) number free.1 (simp length-append (omega (arith, long))) (simp length-append (omega (arith, long))))

  cut-line : (v : VerifierView N) (n : ℕ) (line done : List ℕ) → n ≡ v.lines + 1 → (IsAccepted v.stage → ⊥) → HasNoFeed line → length done + length line ≤ longest_certificate_line → RefusedAt follows line v done n
  cut-line v n [] done number due free few = (number, λ a e. due a)
  cut-line v n (b ∷ bs) done number due free few =
      onward v b bs done n number free.0 (omega (arith, few)) (cut-line v n bs (done ++ b ∷ []) number due free.1 (simp length-append (omega (arith, few))))

  goes-on : (v : VerifierView N) (n : ℕ) (bytes : List ℕ) → n ≡ v.lines + 1 → IsAccepted v.stage → (bytes ≡ [] → ⊥) → RefusedAt follows bytes v [] n
  goes-on v n [] number accepted some = absurd (some refl)
  goes-on v n (b ∷ bytes) number accepted some = elim (cases_Bool (b == 10)) [
    | inl feed ↦ pick_first (b == 10) _ _ feed (inl (number, λ after h. none-behind v.stage v after [] accepted h))
    | inr plain ↦ pick_other (b == 10) _ _ plain (inl (number, inl accepted))
  ]

  wrong-here : (v : VerifierView N) (n : ℕ) (bytes : List ℕ) → n ≡ v.lines + 1 → IsWrong follows v bytes → RefusedAt follows bytes v [] n
  wrong-here v n bytes number (inl x) =
      subst (λ (y : List ℕ). RefusedAt follows y v [] n) (sym x.parts) (wrong-line x.more v n x.line [] number x.is_line.one (omega (arith, x.is_line.short)) x.wrong)
  wrong-here v n bytes number (inr (inl x)) =
      subst (λ (y : List ℕ). RefusedAt follows y v [] n) (sym x.parts) (long-line x.more v n x.line [] number x.one (omega (arith, x.long)) (omega arith))
  wrong-here v n bytes number (inr (inr (inl x))) = goes-on v n bytes number x.accepted x.some
  wrong-here v n bytes number (inr (inr (inr x))) = cut-line v n bytes [] number x.due x.part.one (omega (arith, x.part.short))

  -- a justified line, and a refusal behind it
  along : (rest : List ℕ) (v after : VerifierView N) (n : ℕ) (line done : List ℕ) → HasNoFeed line → length done + length line ≤ longest_certificate_line → (IsAccepted v.stage → ⊥) → Justifies follows v (done ++ line) after
      → RefusedAt follows rest after [] n → RefusedAt follows (line ++ 10 ∷ rest) v done n
  along rest v after n [] done free few due just h = inr (after, subst (λ (x : List ℕ). Justifies follows v x after) (append-nil done) just, h)
  along rest v after n (b ∷ bs) done free few due just h =
      let open_ : IsFull v done → ⊥ = λ full. elim full [
        | inl a ↦ due a
        | inr e ↦ omega (arith, few, e)
      ] in
      pick_other (b == 10) _ _ free.0 (inr (open_, along rest v after n bs (done ++ b ∷ []) free.1 (simp length-append (omega (arith, few))) due (subst (λ (x : List ℕ). Justifies follows v x after) (sym (append_assoc done (b ∷ []) bs)) just) h))

  behind-lines : (rest : List ℕ) (n : ℕ) (lines : List (List ℕ)) (v after : VerifierView N) → AreLines lines → LeadTo follows v lines after → n ≡ v.lines + length lines + 1 → IsWrong follows after rest
      → RefusedAt follows (lines_text lines ++ rest) v [] n
  behind-lines rest n [] v after are lead number wrong = wrong-here v n rest (omega (arith, number)) (subst (λ (x : VerifierView N). IsWrong follows x rest) lead wrong)
  behind-lines rest n (line ∷ lines) v after are lead number wrong =
      let due : IsAccepted v.stage → ⊥ = λ a. none-behind v.stage v lead.0 line a lead.1 in
      subst (λ (x : List ℕ). RefusedAt follows x v [] n) (sym (append_assoc line (10 ∷ lines_text lines) rest))
      (along (lines_text lines ++ rest) v lead.0 n line [] are.0.one (omega (arith, are.0.short)) due lead.1
      (behind-lines rest n lines lead.0 after are.1 lead.2 (omega (arith, number, one-more v lead.0 line lead.1)) wrong))

  pub lines_refused : (v : VerifierView N) (bytes : List ℕ) (n : ℕ) → IsRefusedBehind follows v bytes n → RefusedAt follows bytes v [] n
  lines_refused v bytes n h = subst (λ (x : List ℕ). RefusedAt follows x v [] n) (sym h.parts) (behind-lines h.rest n h.lines v h.after h.are h.lead h.number h.wrong)
