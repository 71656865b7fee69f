-- What is told of disjuncts that are EF over atoms, one after the other.
use Rattle.std.proofs.Common.{◌≡◌, ℕ, ◌+◌, ◌⊎◌, true, false, List, [], ◌∷◌, ◌++◌, map, length, Option, Some, None, refl, sym, subst, arith, inl, inr}
use Rattle.std.proofs.lemmas.Bool.{false≢true}
use Rattle.std.proofs.lemmas.List.{map-append, length-map}
use Rattle.run_model.specs.Cut.{Cut, initial}
use Rattle.run_model.specs.Run.{Run}
use Rattle.run_model.specs.Consistent.{IsOrder}
use Rattle.run_model.specs.Formula.{Formula, Temporal, Ef}
use Rattle.run_model.specs.Meaning.{Sat}
use Rattle.run_model.specs.Class.{SatParts, SatDisjuncts}
use Rattle.run_model.specs.Slice.{Slice}
use Rattle.run_model.specs.Witness.{ForEf, IsCanonical}
use Rattle.question_meaning.proofs.Operators.{reach, reached}
use Rattle.rctl_grammar.specs.declared.tree.Operator.TheVariants as operator
use Rattle.rctl_parts.specs.Pieces.{Piece}
use Rattle.rctl_parts.specs.Spelled.{Names, formula_of, part_formulas, conjunction_of}
use Rattle.rctl_parts.proofs.Spelling.{disjuncts_spelled, spelled_disjuncts}
use Rattle.asked_parts.specs.Asked.{over}
use Rattle.part_pulls.specs.declared.observed.Observed.{Observed}
use Rattle.part_pulls.specs.Observing.{Reading, AreAnswers, clocks_seen, run_seen, names_seen}
use Rattle.least_holding.specs.Least.{IsBottomHolding, IsLeastHolding}
use Rattle.witness_kinds.specs.Views.{witness_of}
use Rattle.report_lines.specs.declared.kinds.WitnessText.{WitnessText}
use Rattle.run_report.specs.Witnesses.{IsTextFor, ArePartTexts, AreTextsOfTrue, IsTextOfFalse, AreTextsOfFalse}
use Rattle.question_outcomes.specs.declared.told.Reached.TheVariants.{Somewhere, Nowhere}
use Rattle.question_outcomes.specs.inside.Telling.{IsReached, IsTold, ReachesAtoms}

-- ---- one disjunct

-- the witness of the one part of the disjunct
pub record IsGiven (seen : Observed) (least : Option Cut) (n : ℕ) (text : WitnessText) : Type 0 where
  pub disjunct : text.disjunct ≡ n
  pub part : text.part ≡ 1
  pub canonical : (s : Slice) → s.bottom ≡ least → IsCanonical (clocks_seen seen) s ForEf (witness_of text.witness)

text_for : (seen : Observed) (ps : List Piece) (least : Option Cut) → IsBottomHolding seen ps least → (n : ℕ) (text : WitnessText) → IsGiven seen least n text
    → (reading : Reading) → AreAnswers seen reading → IsTextFor (run_seen seen reading) n 1 (Temporal Ef (conjunction_of (names_seen seen reading) ps)) text
text_for seen ps least bottom n text given reading are =
    let b = bottom reading are in
    record { disjunct = given.disjunct; part = given.part; witness = (b.0, b.1, given.canonical b.0 b.2) }

somewhere : (seen : Observed) → IsOrder (clocks_seen seen) → (ps : List Piece) (c : Cut) → IsLeastHolding seen ps (Some c) → IsBottomHolding seen ps (Some c)
    → (n : ℕ) (text : WitnessText) → IsGiven seen (Some c) n text → IsReached seen n (over operator.Ef ps ∷ []) (Somewhere text)
somewhere seen order ps c least bottom n text given reading are =
    let r = run_seen seen reading in
    let f = conjunction_of (names_seen seen reading) ps in
    let member = (least reading are).member in
    ((reach (clocks_seen seen) order (Sat r f) c member.0 member.1, tt), (text_for seen ps (Some c) bottom n text given reading are, tt))

nowhere : (seen : Observed) (ps : List Piece) → IsLeastHolding seen ps None → IsBottomHolding seen ps None
    → (n : ℕ) (text : WitnessText) → IsGiven seen None n text → IsReached seen n (over operator.Ef ps ∷ []) (Nowhere text)
nowhere seen ps least bottom n text given reading are =
    let r = run_seen seen reading in
    let f = conjunction_of (names_seen seen reading) ps in
    let lacks : Sat r (Temporal Ef f) (initial (clocks_seen seen)) → ⊥ = λ h. let w = reached (clocks_seen seen) (Sat r f) h in least reading are w.0 (w.1, w.2) in
    (λ h. lacks h.0, inl (lacks, text_for seen ps None bottom n text given reading are))

pub reached_somewhere : (seen : Observed) → IsOrder (clocks_seen seen) → (d ps : List Piece) → ReachesAtoms d ps → (c : Cut) → IsLeastHolding seen ps (Some c) → IsBottomHolding seen ps (Some c)
    → (n : ℕ) (text : WitnessText) → IsGiven seen (Some c) n text → IsReached seen n d (Somewhere text)
reached_somewhere seen order d ps reaches c least bottom n text given =
    let P : List Piece → Type 0 = λ e. IsReached seen n e (Somewhere text) in
    subst P (sym reaches.is) (somewhere seen order ps c least bottom n text given)

pub reached_nowhere : (seen : Observed) (d ps : List Piece) → ReachesAtoms d ps → IsLeastHolding seen ps None → IsBottomHolding seen ps None
    → (n : ℕ) (text : WitnessText) → IsGiven seen None n text → IsReached seen n d (Nowhere text)
reached_nowhere seen d ps reaches least bottom n text given =
    let P : List Piece → Type 0 = λ e. IsReached seen n e (Nowhere text) in
    subst P (sym reaches.is) (nowhere seen ps least bottom n text given)

-- ---- one disjunct more

sat_last : (r : Run) (fs : List (List Formula)) (f : List Formula) (c : Cut) → SatDisjuncts r (fs ++ f ∷ []) c → SatDisjuncts r fs c ⊎ SatParts r f c
sat_last r [] f c (inl h) = inr h
sat_last r [] f c (inr h) = absurd h
sat_last r (g ∷ fs) f c (inl h) = inl (inl h)
sat_last r (g ∷ fs) f c (inr h) = elim (sat_last r fs f c h) [ inl s ↦ inl (inr s) | inr s ↦ inr s ]

sat_at : (r : Run) (fs : List (List Formula)) (f : List Formula) (later : List (List Formula)) (c : Cut) → SatParts r f c → SatDisjuncts r (fs ++ f ∷ later) c
sat_at r [] f later c h = inl h
sat_at r (g ∷ fs) f later c h = inr (sat_at r fs f later c h)

false_last : (r : Run) (i : ℕ) (fs : List (List Formula)) (f : List Formula) (ws : List WitnessText) (w : WitnessText) → AreTextsOfFalse r i fs ws → IsTextOfFalse r (i + length fs) 1 f w
    → AreTextsOfFalse r i (fs ++ f ∷ []) (ws ++ w ∷ [])
false_last r i [] f [] w h k = (subst (λ (n : ℕ). IsTextOfFalse r n 1 f w) (omega arith) k, tt)
false_last r i [] f (v ∷ ws) w h k = absurd h
false_last r i (g ∷ fs) f [] w h k = absurd h
false_last r i (g ∷ fs) f (v ∷ ws) w h k =
    let same : i + (length fs + 1) ≡ (i + 1) + length fs = omega arith in
    let there : i + length (g ∷ fs) ≡ (i + 1) + length fs = omega arith in
    (h.0, false_last r (i + 1) fs f ws w h.1 (subst (λ (n : ℕ). IsTextOfFalse r n 1 f w) there k))

true_at : (r : Run) (i : ℕ) (fs : List (List Formula)) (f : List Formula) (later : List (List Formula)) (ws : List WitnessText) → (SatDisjuncts r fs (initial r.clocks) → ⊥)
    → SatParts r f (initial r.clocks) → ArePartTexts r (i + length fs) 1 f ws → AreTextsOfTrue r i (fs ++ f ∷ later) ws
true_at r i [] f later ws unsat sat texts = inl (sat, subst (λ (n : ℕ). ArePartTexts r n 1 f ws) (omega arith) texts)
true_at r i (g ∷ fs) f later ws unsat sat texts =
    let there : i + length (g ∷ fs) ≡ (i + 1) + length fs = omega arith in
    inr (λ h. unsat (inl h), true_at r (i + 1) fs f later ws (λ h. unsat (inr h)) sat (subst (λ (n : ℕ). ArePartTexts r n 1 f ws) there texts))

formulas_joined : (names : Names) (ds es : List (List Piece)) → part_formulas names (ds ++ es) ≡ part_formulas names ds ++ part_formulas names es
formulas_joined names ds es = map-append (map (formula_of names)) ds es

count_formulas : (names : Names) (ds : List (List Piece)) → length (part_formulas names ds) ≡ length ds
count_formulas names ds = length-map ds (map (formula_of names))

-- each disjunct so far is false, and has its witness
pub record AreFalse (seen : Observed) (ds : List (List Piece)) (ws : List WitnessText) : Type 0 where
  pub unsat : (reading : Reading) → AreAnswers seen reading → SatDisjuncts (run_seen seen reading) (part_formulas (names_seen seen reading) ds) (initial (clocks_seen seen)) → ⊥
  pub texts : (reading : Reading) → AreAnswers seen reading → AreTextsOfFalse (run_seen seen reading) 1 (part_formulas (names_seen seen reading) ds) ws

pub false_more : (seen : Observed) (ds : List (List Piece)) (d : List Piece) (ws : List WitnessText) (w : WitnessText) → AreFalse seen ds ws → IsReached seen (length ds + 1) d (Nowhere w)
    → AreFalse seen (ds ++ d ∷ []) (ws ++ w ∷ [])
false_more seen ds d ws w before is = record { unsat = unsat; texts = texts }
  where
    unsat : (reading : Reading) → AreAnswers seen reading → SatDisjuncts (run_seen seen reading) (part_formulas (names_seen seen reading) (ds ++ d ∷ [])) (initial (clocks_seen seen)) → ⊥
    unsat reading are h =
        let r = run_seen seen reading in
        let names = names_seen seen reading in
        let c = initial (clocks_seen seen) in
        elim (sat_last r (part_formulas names ds) (map (formula_of names) d) c (subst (λ (fs : List (List Formula)). SatDisjuncts r fs c) (formulas_joined names ds (d ∷ [])) h)) [
          | inl s ↦ before.unsat reading are s
          | inr s ↦ (is reading are).0 s
        ]

    texts : (reading : Reading) → AreAnswers seen reading → AreTextsOfFalse (run_seen seen reading) 1 (part_formulas (names_seen seen reading) (ds ++ d ∷ [])) (ws ++ w ∷ [])
    texts reading are =
        let r = run_seen seen reading in
        let names = names_seen seen reading in
        let number : length ds + 1 ≡ 1 + length (part_formulas names ds) = omega (arith, count_formulas names ds) in
        let last = subst (λ (n : ℕ). IsTextOfFalse r n 1 (map (formula_of names) d) w) number ((is reading are).1) in
        subst (λ (fs : List (List Formula)). AreTextsOfFalse r 1 fs (ws ++ w ∷ [])) (sym (formulas_joined names ds (d ∷ [])))
        (false_last r 1 (part_formulas names ds) (map (formula_of names) d) ws w (before.texts reading are) last)

-- ---- what is told of all

pub told_false : (seen : Observed) (ds : List (List Piece)) (ws : List WitnessText) → AreFalse seen ds ws → IsTold seen ds false ws
told_false seen ds ws all = record {
  truth_is = λ reading are. (
    λ h. absurd (false≢true h),
    λ sat. absurd (all.unsat reading are (spelled_disjuncts (run_seen seen reading) (names_seen seen reading) ds (initial (clocks_seen seen)) sat)),
  );
  witnesses = λ reading are. all.texts reading are;
}

pub told_at : (seen : Observed) (ds : List (List Piece)) (d : List Piece) (later : List (List Piece)) (ws : List WitnessText) (w : WitnessText) → AreFalse seen ds ws
    → IsReached seen (length ds + 1) d (Somewhere w) → IsTold seen (ds ++ d ∷ later) true (w ∷ [])
told_at seen ds d later ws w before is = record {
  truth_is = λ reading are.
      let r = run_seen seen reading in
      let names = names_seen seen reading in
      let c = initial (clocks_seen seen) in
      let sat = sat_at r (part_formulas names ds) (map (formula_of names) d) (part_formulas names later) c (is reading are).0 in
      let all = subst (λ (fs : List (List Formula)). SatDisjuncts r fs c) (sym (formulas_joined names ds (d ∷ later))) sat in
      (λ h. disjuncts_spelled r names (ds ++ d ∷ later) c all, λ h. refl);
  witnesses = λ reading are.
      let r = run_seen seen reading in
      let names = names_seen seen reading in
      let number : length ds + 1 ≡ 1 + length (part_formulas names ds) = omega (arith, count_formulas names ds) in
      let texts = subst (λ (n : ℕ). ArePartTexts r n 1 (map (formula_of names) d) (w ∷ [])) number ((is reading are).1) in
      subst (λ (fs : List (List Formula)). AreTextsOfTrue r 1 fs (w ∷ [])) (sym (formulas_joined names ds (d ∷ later)))
      (true_at r 1 (part_formulas names ds) (map (formula_of names) d) (part_formulas names later) (w ∷ []) (before.unsat reading are) ((is reading are).0) texts);
}
