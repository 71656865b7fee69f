-- Bytes that pass a test which a line feed fails, and parts of a text.
use Rattle.std.proofs.Common.{◌≡◌, ℕ, zero, suc, ◌+◌, Bool, true, false, List, [], ◌∷◌, take, drop, sym, ap, subst, ◌∙◌, arith, inl, inr, add-one, zero-add}
use Rattle.std.specs.Prelude.{◌==◌, if◌then◌else◌}
use Rattle.std.proofs.lemmas.Bool.{cases_Bool, eqb-true, true≢false}
use Rattle.question_text.specs.Bytes.{run_of}
use Rattle.question_lines.specs.Lines.{IsOneLine}

pub passed : (test : ℕ → Bool) → test 10 ≡ false → (b : ℕ) → test b ≡ true → b == 10 ≡ false
passed test fails b h = elim (cases_Bool (b == 10)) [
  | inl ten ↦ absurd (true≢false (sym h ∙ ap test (eqb-true b 10 ten) ∙ fails))
  | inr other ↦ other
]

pub run-free : (test : ℕ → Bool) → test 10 ≡ false → (bs : List ℕ) → IsOneLine (take (run_of test bs) bs)
run-free test fails [] = tt
run-free test fails (b ∷ bs) = elim (cases_Bool (test b)) [
  | inl h ↦
      let is : run_of test (b ∷ bs) ≡ suc (run_of test bs) = ap (λ c. if c then run_of test bs + 1 else 0) h ∙ add-one (run_of test bs) in
      subst (λ n. IsOneLine (take n (b ∷ bs))) (sym is) (passed test fails b h, run-free test fails bs)
  | inr h ↦
      let is : run_of test (b ∷ bs) ≡ 0 = ap (λ c. if c then run_of test bs + 1 else 0) h in
      subst (λ n. IsOneLine (take n (b ∷ bs))) (sym is) tt
]

-- the first so many bytes, and then so many
pub take_both : (a b : ℕ) (text : List ℕ) → IsOneLine (take a text) → IsOneLine (take b (drop a text)) → IsOneLine (take (a + b) text)
take_both zero b text h k = subst (λ n. IsOneLine (take n text)) (sym (zero-add b)) k
take_both (suc a) b [] h k = let is : suc a + b ≡ suc (a + b) = omega arith in subst (λ n. IsOneLine (take n [])) (sym is) tt
take_both (suc a) b (x ∷ text) h k =
    let is : suc a + b ≡ suc (a + b) = omega arith in subst (λ n. IsOneLine (take n (x ∷ text))) (sym is) (h.0, take_both a b text h.1 k)

-- the first so many bytes, and all behind them
pub split : (a : ℕ) (text : List ℕ) → IsOneLine (take a text) → IsOneLine (drop a text) → IsOneLine text
split zero text h k = k
split (suc a) [] h k = tt
split (suc a) (x ∷ text) h k = (h.0, split a text h.1 k)
