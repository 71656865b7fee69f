-- Bytes have one answer.
use Rattle.std.proofs.Common.{◌≡◌, ℕ, ◌<◌, Bool, List, [], ◌∷◌, ◌++◌, length, sym, ap, subst, ◌∙◌, arith, inl, inr}
use Rattle.std.specs.Prelude.{◌==◌}
use Rattle.std.proofs.lemmas.Bool.{cases_Bool}
use Rattle.std.proofs.lemmas.Option.{same_Some}
use Rattle.pota_base.specs.Limits.{longest_certificate_line}
use Rattle.certificate_lines.specs.declared.line.Line.{Line}
use Rattle.certificate_lines.proofs.LineLaws.{line_again}
use Rattle.certificate_lines.specs.Spelling.{Spells}
use Rattle.certificate_text.specs.declared.said.Stage.{Stage}
use Rattle.certificate_text.specs.declared.said.Stage.TheVariants as stage
use Rattle.certificate_text.specs.Taking.{VerifierView, taken, stage_after, TakesLine, JustifiesAt, Justifies}
use Rattle.certificate_text.specs.Bytes.{Judged, RefusedAt, IsFull, OneFollows}
use Rattle.certificate_text.proofs.Picks.{picked_first, picked_other}

same-truth : (s : Stage) (b told : Bool) → s ≡ stage.Accepted b → s ≡ stage.Accepted told → b ≡ told
same-truth s b told e f = cc (e, f)

one-line : (bytes : List ℕ) (l m : Line) → Spells bytes l → Spells bytes m → l ≡ m
one-line bytes l m h g = same_Some _ _ (sym (line_again bytes l h) ∙ line_again bytes m g)

not-empty : (line : List ℕ) (x : ℕ) → line ++ x ∷ [] ≡ [] → ⊥
not-empty [] x e = absurd cc
not-empty (b ∷ bs) x e = absurd cc

module _ {N : Type 0} (follows : N → Line → N → Type 0) where
  one-takes : OneFollows follows → (v : VerifierView N) (bytes : List ℕ) (a b : VerifierView N) → TakesLine follows v bytes a → TakesLine follows v bytes b → a ≡ b
  one-takes one v bytes a b h g =
      let same = one-line bytes h.said g.said h.spells g.spells in
      let nodes : h.nodes ≡ g.nodes = one v.nodes h.said h.nodes g.nodes h.justified (subst (λ (l : Line). follows v.nodes l g.nodes) (sym same) g.justified) in
      h.leaves ∙ ap (λ (n : N). taken v n (stage_after h.said)) nodes ∙ ap (λ (l : Line). taken v g.nodes (stage_after l)) same ∙ sym g.leaves

  one-at : OneFollows follows → (s : Stage) (v : VerifierView N) (bytes : List ℕ) (a b : VerifierView N) → JustifiesAt follows s v bytes a → JustifiesAt follows s v bytes b → a ≡ b
  one-at one stage.Title v bytes a b h g = h.leaves ∙ sym g.leaves
  one-at one stage.Formula v bytes a b h g = h.leaves ∙ sym g.leaves
  one-at one stage.Body v bytes a b h g = one-takes one v bytes a b h g
  one-at one (stage.Ending told) v bytes a b h g = h.leaves ∙ sym g.leaves
  one-at one (stage.Accepted told) v bytes a b h g = absurd h
  one-at one (stage.Refused line) v bytes a b h g = absurd h
  one-at one stage.Spent v bytes a b h g = absurd h

  -- a line is justified in one way
  pub one_after : OneFollows follows → (v : VerifierView N) (bytes : List ℕ) (a b : VerifierView N) → Justifies follows v bytes a → Justifies follows v bytes b → a ≡ b
  one_after one v bytes a b h g = one-at one v.stage v bytes a b h g

  pub one_truth : OneFollows follows → (bytes : List ℕ) (v : VerifierView N) (line : List ℕ) (told truth : Bool) → Judged follows bytes v line told → Judged follows bytes v line truth → told ≡ truth
  one_truth one [] v line told truth h g = same-truth v.stage told truth h.0 g.0
  one_truth one (b ∷ bytes) v line told truth h g = elim (cases_Bool (b == 10)) [
    | inl feed ↦
        let x = picked_first (b == 10) _ _ feed h in
        let y = picked_first (b == 10) _ _ feed g in
        let same = one_after one v line x.0 y.0 x.1 y.1 in
        one_truth one bytes y.0 [] told truth (subst (λ (s : VerifierView N). Judged follows bytes s [] told) same x.2) y.2
    | inr more ↦
        one_truth one bytes v (line ++ b ∷ []) told truth (picked_other (b == 10) _ _ more h).1 (picked_other (b == 10) _ _ more g).1
  ]

  pub one_refusal : OneFollows follows → (bytes : List ℕ) (v : VerifierView N) (line : List ℕ) (n m : ℕ) → RefusedAt follows bytes v line n → RefusedAt follows bytes v line m → n ≡ m
  one_refusal one [] v line n m h g = h.0 ∙ sym g.0
  one_refusal one (b ∷ bytes) v line n m h g = elim (cases_Bool (b == 10)) [
    | inl feed ↦ elim (picked_first (b == 10) _ _ feed h) [
      | inl x ↦ elim (picked_first (b == 10) _ _ feed g) [
        | inl y ↦ x.0 ∙ sym y.0
        | inr y ↦ absurd (x.1 y.0 y.1)
      ]
      | inr x ↦ elim (picked_first (b == 10) _ _ feed g) [
        | inl y ↦ absurd (y.1 x.0 x.1)
        | inr y ↦
            let same = one_after one v line x.0 y.0 x.1 y.1 in
            one_refusal one bytes y.0 [] n m (subst (λ (s : VerifierView N). RefusedAt follows bytes s [] n) same x.2) y.2
      ]
    ]
    | inr more ↦ elim (picked_other (b == 10) _ _ more h) [
      | inl x ↦ elim (picked_other (b == 10) _ _ more g) [
        | inl y ↦ x.0 ∙ sym y.0
        | inr y ↦ absurd (y.0 x.1)
      ]
      | inr x ↦ elim (picked_other (b == 10) _ _ more g) [
        | inl y ↦ absurd (x.0 y.1)
        | inr y ↦ one_refusal one bytes v (line ++ b ∷ []) n m x.1 y.1
      ]
    ]
  ]

  -- no byte behind the last line is accepted
  none-behind : (bytes : List ℕ) (v : VerifierView N) (line : List ℕ) (x : ℕ) (truth told : Bool) → v.stage ≡ stage.Accepted truth → Judged follows bytes v (line ++ x ∷ []) told → ⊥
  none-behind [] v line x truth told e h = not-empty line x h.1
  none-behind (b ∷ bytes) v line x truth told e h = elim (cases_Bool (b == 10)) [
    | inl feed ↦
        let y = picked_first (b == 10) _ _ feed h in
        subst (λ (s : Stage). JustifiesAt follows s v (line ++ x ∷ []) y.0) e y.1
    | inr more ↦ none-behind bytes v (line ++ x ∷ []) b truth told e (picked_other (b == 10) _ _ more h).1
  ]

  full-apart : (bytes : List ℕ) (v : VerifierView N) (line : List ℕ) (b : ℕ) (told : Bool) → length line < longest_certificate_line → Judged follows bytes v (line ++ b ∷ []) told → IsFull v line → ⊥
  full-apart bytes v line b told few h (inl accepted) = none-behind bytes v line b accepted.0 told accepted.1 h
  full-apart bytes v line b told few h (inr full) = omega (arith, few, full)

  pub apart : OneFollows follows → (bytes : List ℕ) (v : VerifierView N) (line : List ℕ) (told : Bool) (n : ℕ) → Judged follows bytes v line told → RefusedAt follows bytes v line n → ⊥
  apart one [] v line told n h g = g.1 (told, h.0) h.1
  apart one (b ∷ bytes) v line told n h g = elim (cases_Bool (b == 10)) [
    | inl feed ↦
        let x = picked_first (b == 10) _ _ feed h in
        elim (picked_first (b == 10) _ _ feed g) [
          | inl y ↦ y.1 x.0 x.1
          | inr y ↦
              let same = one_after one v line x.0 y.0 x.1 y.1 in
              apart one bytes y.0 [] told n (subst (λ (s : VerifierView N). Judged follows bytes s [] told) same x.2) y.2
        ]
    | inr more ↦
        let x = picked_other (b == 10) _ _ more h in
        elim (picked_other (b == 10) _ _ more g) [
          | inl y ↦ full-apart bytes v line b told x.0 x.1 y.1
          | inr y ↦ apart one bytes v (line ++ b ∷ []) told n x.1 y.1
        ]
  ]
