-- The witnesses of the parts that are chosen are those that go with the verdict.
use Rattle.std.proofs.Common.{◌≡◌, ℕ, ◌+◌, ◌<◌, Bool, true, false, List, [], ◌∷◌, ◌++◌, map, refl, sym, ◌∙◌, ap, subst, arith, inl, inr}
use Rattle.std.specs.Prelude.{◌&&◌}
use Rattle.std.proofs.lemmas.Bool.{cases_Bool, and_parts, false≢true}
use Rattle.run_model.specs.Cut.{Cut, Clocks, initial}
use Rattle.run_model.specs.Run.{Run}
use Rattle.run_model.specs.Formula.{Formula}
use Rattle.run_model.specs.Meaning.{Sat}
use Rattle.run_model.specs.Class.{SatParts, SatDisjuncts}
use Rattle.rctl_parts.specs.Pieces.{Piece}
use Rattle.rctl_parts.specs.Spelled.{formula_of, part_formulas}
use Rattle.rctl_class.specs.Classed.{Alike, PartsAlike, EachAlike}
use Rattle.part_pulls.specs.declared.observed.Observed.{Observed}
use Rattle.conjunctions.specs.declared.answer.PartAnswer.{PartAnswer}
use Rattle.part_pulls.specs.Observing.{Reading, clocks_seen, run_seen, names_seen}
use Rattle.conjunctions.specs.Answering.{place, places_from, all_places, IsPartAnswer}
use Rattle.conjunctions.specs.Answering.{ArePartAnswers}
use Rattle.witness_kinds.specs.Views.{witness_of}
use Rattle.report_lines.specs.declared.kinds.WitnessText.{WitnessText}
use Rattle.run_report.specs.Witnesses.{IsTextFor, ArePartTexts, AreTextsOfTrue, IsTextOfFalse, AreTextsOfFalse}
use Rattle.answer_report.specs.inside.Choosing.{of_disjunct, first_true, first_false}
use Rattle.answer_report.specs.inside.Showing.{Tells, TellAll}
use Rattle.answer_report.proofs.Choices.{AreOf, all_true, true_stays, later_stays, false_moves, first_true_from, just_mine, just_later, true_left, false_taken, mine_left}
use Rattle.answer_report.proofs.Parts.{IsReadIn, part_answers, are_of, are_from, given_is, true_part, false_part}

-- the initial cut
abbrev first_cut : Observed → Cut
first_cut seen = initial (clocks_seen seen)

-- ---- one disjunct

text_for : (seen : Observed) (reading : Reading) → IsReadIn seen reading → (n k : ℕ) (p : Piece) (a : PartAnswer) → IsPartAnswer seen (place n k p) a
    → (f : Formula) → Alike (formula_of (names_seen seen reading) p) f → (w : WitnessText) → Tells (clocks_seen seen) a w → IsTextFor (run_seen seen reading) n k f w
text_for seen reading known n k p a is f alike w tells = record {
  disjunct = tells.disjunct ∙ is.of_disjunct;
  part = tells.number ∙ is.of_part;
  witness = given_is seen reading known p a.operator a.operand is.operand f alike (witness_of w.witness) tells.witness;
}

texts_for : (seen : Observed) (reading : Reading) → IsReadIn seen reading → (n k : ℕ) (ps : List Piece) (parts : List PartAnswer) → ArePartAnswers seen (places_from n k ps) parts
    → (fs : List Formula) → PartsAlike (map (formula_of (names_seen seen reading)) ps) fs → (ws : List WitnessText) → TellAll (clocks_seen seen) parts ws → ArePartTexts (run_seen seen reading) n k fs ws
texts_for seen reading known n k [] [] is [] alike [] tells = tt
texts_for seen reading known n k [] [] is [] alike (w ∷ ws) tells = absurd tells
texts_for seen reading known n k [] (a ∷ parts) is fs alike ws tells = absurd is
texts_for seen reading known n k [] [] is (f ∷ fs) alike ws tells = absurd alike
texts_for seen reading known n k (p ∷ ps) [] is fs alike ws tells = absurd is
texts_for seen reading known n k (p ∷ ps) (a ∷ parts) is [] alike ws tells = absurd alike
texts_for seen reading known n k (p ∷ ps) (a ∷ parts) is (f ∷ fs) alike [] tells = absurd tells
texts_for seen reading known n k (p ∷ ps) (a ∷ parts) is (f ∷ fs) alike (w ∷ ws) tells =
    (text_for seen reading known n k p a is.0 f alike.0 w tells.0, texts_for seen reading known n (k + 1) ps parts is.1 fs alike.1 ws tells.1)

true_parts : (seen : Observed) (reading : Reading) → IsReadIn seen reading → (n k : ℕ) (ps : List Piece) (parts : List PartAnswer) → ArePartAnswers seen (places_from n k ps) parts
    → (fs : List Formula) → PartsAlike (map (formula_of (names_seen seen reading)) ps) fs → all_true parts ≡ true → SatParts (run_seen seen reading) fs (first_cut seen)
true_parts seen reading known n k [] parts is [] alike t = tt
true_parts seen reading known n k [] parts is (f ∷ fs) alike t = absurd alike
true_parts seen reading known n k (p ∷ ps) [] is fs alike t = absurd is
true_parts seen reading known n k (p ∷ ps) (a ∷ parts) is [] alike t = absurd alike
true_parts seen reading known n k (p ∷ ps) (a ∷ parts) is (f ∷ fs) alike t =
    let both = and_parts a.truth (all_true parts) t in
    (true_part seen reading known.order known.are (place n k p) a is.0 f alike.0 both.0, true_parts seen reading known n (k + 1) ps parts is.1 fs alike.1 both.1)

false_parts : (seen : Observed) (reading : Reading) → IsReadIn seen reading → (n k : ℕ) (ps : List Piece) (parts : List PartAnswer) → ArePartAnswers seen (places_from n k ps) parts
    → (fs : List Formula) → PartsAlike (map (formula_of (names_seen seen reading)) ps) fs → all_true parts ≡ false → SatParts (run_seen seen reading) fs (first_cut seen) → ⊥
false_parts seen reading known n k [] [] is fs alike t sat = absurd (false≢true (sym t))
false_parts seen reading known n k [] (a ∷ parts) is fs alike t sat = absurd is
false_parts seen reading known n k (p ∷ ps) [] is fs alike t sat = absurd is
false_parts seen reading known n k (p ∷ ps) (a ∷ parts) is [] alike t sat = absurd alike
false_parts seen reading known n k (p ∷ ps) (a ∷ parts) is (f ∷ fs) alike t sat = elim (cases_Bool a.truth) [
  | inl holds ↦ false_parts seen reading known n (k + 1) ps parts is.1 fs alike.1 (sym (ap (λ (b : Bool). b && all_true parts) holds) ∙ t) sat.1
  | inr fails ↦ false_part seen reading known.order known.are (place n k p) a is.0 f alike.0 fails sat.0
]

-- ---- the first true disjunct

-- of a disjunct whose parts are all true, all witnesses are told
told_here : (seen : Observed) (reading : Reading) → IsReadIn seen reading → (n : ℕ) (d : List Piece) (ds : List (List Piece)) (mine later : List PartAnswer)
    → ArePartAnswers seen (places_from n 1 d) mine → ArePartAnswers seen (all_places (n + 1) ds) later → (f : List Formula) → PartsAlike (map (formula_of (names_seen seen reading)) d) f
    → (ws : List WitnessText) → TellAll (clocks_seen seen) (of_disjunct (first_true n (mine ++ later)) (mine ++ later)) ws → all_true mine ≡ true
    → SatParts (run_seen seen reading) f (first_cut seen) × ArePartTexts (run_seen seen reading) n 1 f ws
told_here seen reading known n d ds mine later is next f alike ws told holds =
    let from = are_from seen (n + 1) ds later next in
    let number = true_stays n mine later holds ∙ later_stays n later from in
    let chosen = ap (λ k. of_disjunct k (mine ++ later)) number ∙ just_mine n mine later (are_of seen n 1 d mine is) from in (
      true_parts seen reading known n 1 d mine is f alike holds,
      texts_for seen reading known n 1 d mine is f alike ws (subst (λ (ps : List PartAnswer). TellAll (clocks_seen seen) ps ws) chosen told),
    )

-- a disjunct with a false part is passed
told_later : (o : Clocks) (n : ℕ) (mine later : List PartAnswer) → AreOf n mine → (ws : List WitnessText) → TellAll o (of_disjunct (first_true n (mine ++ later)) (mine ++ later)) ws
    → all_true mine ≡ false → TellAll o (of_disjunct (first_true (n + 1) later) later) ws
told_later o n mine later are ws told fails =
    let number = false_moves n mine later are fails in
    let behind : n < first_true (n + 1) later = omega (arith, first_true_from (n + 1) later) in
    let chosen = ap (λ k. of_disjunct k (mine ++ later)) number ∙ just_later (first_true (n + 1) later) n mine later are behind in
    subst (λ (ps : List PartAnswer). TellAll o ps ws) chosen told

others_hold : (r : Run) (f : List Formula) (fs : List (List Formula)) (c : Cut) → SatDisjuncts r (f ∷ fs) c → (SatParts r f c → ⊥) → SatDisjuncts r fs c
others_hold r f fs c (inl h) unsat = absurd (unsat h)
others_hold r f fs c (inr h) unsat = h

pub texts_of_true : (seen : Observed) (reading : Reading) → IsReadIn seen reading → (n : ℕ) (ds : List (List Piece)) (parts : List PartAnswer) → ArePartAnswers seen (all_places n ds) parts
    → (fs : List (List Formula)) → EachAlike (part_formulas (names_seen seen reading) ds) fs → SatDisjuncts (run_seen seen reading) fs (first_cut seen)
    → (ws : List WitnessText) → TellAll (clocks_seen seen) (of_disjunct (first_true n parts) parts) ws → AreTextsOfTrue (run_seen seen reading) n fs ws
texts_of_true seen reading known n [] parts is [] alike sat ws tells = absurd sat
texts_of_true seen reading known n [] parts is (f ∷ fs) alike sat ws tells = absurd alike
texts_of_true seen reading known n (d ∷ ds) parts is [] alike sat ws tells = absurd alike
texts_of_true seen reading known n (d ∷ ds) parts is (f ∷ fs) alike sat ws tells =
    let split = part_answers seen (places_from n 1 d) (all_places (n + 1) ds) parts is in
    let told = subst (λ (ps : List PartAnswer). TellAll (clocks_seen seen) (of_disjunct (first_true n ps) ps) ws) split.is tells in
    let unsat = false_parts seen reading known n 1 d split.mine split.of_first f alike.0 in
    elim (cases_Bool (all_true split.mine)) [
      | inl holds ↦ inl (told_here seen reading known n d ds split.mine split.later split.of_first split.of_rest f alike.0 ws told holds)
      | inr fails ↦ inr (
        unsat fails,
        texts_of_true seen reading known (n + 1) ds split.later split.of_rest fs alike.1 (others_hold (run_seen seen reading) f fs (first_cut seen) sat (unsat fails)) ws
            (told_later (clocks_seen seen) n split.mine split.later (are_of seen n 1 d split.mine split.of_first) ws told fails),
      )
    ]

-- ---- the first false part of each disjunct

-- the first text is that of the first false part, and the others are of the later disjuncts
record IsFirstOf (seen : Observed) (reading : Reading) (n k : ℕ) (fs : List Formula) (later : List PartAnswer) (ws : List WitnessText) : Type 0 where
  text : WitnessText
  others : List WitnessText
  is : ws ≡ text ∷ others
  of : IsTextOfFalse (run_seen seen reading) n k fs text
  rest : TellAll (clocks_seen seen) (first_false n later) others

-- the first part is true, so it is that of the others
behind_true : (seen : Observed) (reading : Reading) (n k : ℕ) (f : Formula) (fs : List Formula) (later : List PartAnswer) (ws : List WitnessText)
    → Sat (run_seen seen reading) f (first_cut seen) → IsFirstOf seen reading n (k + 1) fs later ws → IsFirstOf seen reading n k (f ∷ fs) later ws
behind_true seen reading n k f fs later ws sat next = record { text = next.text; others = next.others; is = next.is; of = inr (sat, next.of); rest = next.rest }

-- the first part is false
at_false : (seen : Observed) (reading : Reading) → IsReadIn seen reading → (n k : ℕ) (p : Piece) (a : PartAnswer) → IsPartAnswer seen (place n k p) a
    → (f : Formula) (fs : List Formula) → Alike (formula_of (names_seen seen reading) p) f → (later : List PartAnswer) → a.truth ≡ false
    → (ws : List WitnessText) → TellAll (clocks_seen seen) (a ∷ first_false n later) ws → IsFirstOf seen reading n k (f ∷ fs) later ws
at_false seen reading known n k p a is f fs alike later fails [] told = absurd told
at_false seen reading known n k p a is f fs alike later fails (w ∷ ws) told = record {
  text = w;
  others = ws;
  is = refl;
  of = inl (false_part seen reading known.order known.are (place n k p) a is f alike fails, text_for seen reading known n k p a is f alike w told.0);
  rest = told.1;
}

false_first : (m n : ℕ) → m < n → (a : PartAnswer) (mine later : List PartAnswer) → a.disjunct ≡ n → AreOf n mine → a.truth ≡ false → first_false m (a ∷ (mine ++ later)) ≡ a ∷ first_false n later
false_first m n h a mine later is are fails =
    false_taken m a (mine ++ later) fails (λ e. omega (arith, e, is, h)) ∙ ap (λ i. a ∷ first_false i (mine ++ later)) is ∙ ap (λ (ps : List PartAnswer). a ∷ ps) (mine_left n mine later are)

first_of_false : (seen : Observed) (reading : Reading) → IsReadIn seen reading → (m n k : ℕ) → m < n → (ps : List Piece) (mine later : List PartAnswer) → ArePartAnswers seen (places_from n k ps) mine
    → (fs : List Formula) → PartsAlike (map (formula_of (names_seen seen reading)) ps) fs → (SatParts (run_seen seen reading) fs (first_cut seen) → ⊥)
    → (ws : List WitnessText) → TellAll (clocks_seen seen) (first_false m (mine ++ later)) ws → IsFirstOf seen reading n k fs later ws
first_of_false seen reading known m n k h [] mine later is [] alike unsat ws tells = absurd (unsat tt)
first_of_false seen reading known m n k h [] mine later is (f ∷ fs) alike unsat ws tells = absurd alike
first_of_false seen reading known m n k h (p ∷ ps) [] later is fs alike unsat ws tells = absurd is
first_of_false seen reading known m n k h (p ∷ ps) (a ∷ mine) later is [] alike unsat ws tells = absurd alike
first_of_false seen reading known m n k h (p ∷ ps) (a ∷ mine) later is (f ∷ fs) alike unsat ws tells =
    let sat = true_part seen reading known.order known.are (place n k p) a is.0 f alike.0 in
    elim (cases_Bool a.truth) [
      | inl holds ↦ behind_true seen reading n k f fs later ws (sat holds) (first_of_false seen reading known m n (k + 1) h ps mine later is.1 fs alike.1 (λ more. unsat (sat holds, more)) ws
          (subst (λ (qs : List PartAnswer). TellAll (clocks_seen seen) qs ws) (true_left m a (mine ++ later) holds) tells))
      | inr fails ↦ at_false seen reading known n k p a is.0 f fs alike.0 later fails ws (subst (λ (qs : List PartAnswer). TellAll (clocks_seen seen) qs ws)
          (false_first m n h a mine later is.0.of_disjunct (are_of seen n (k + 1) ps mine is.1) fails) tells)
    ]

pub texts_of_false : (seen : Observed) (reading : Reading) → IsReadIn seen reading → (m n : ℕ) → m < n → (ds : List (List Piece)) (parts : List PartAnswer) → ArePartAnswers seen (all_places n ds) parts
    → (fs : List (List Formula)) → EachAlike (part_formulas (names_seen seen reading) ds) fs → (SatDisjuncts (run_seen seen reading) fs (first_cut seen) → ⊥)
    → (ws : List WitnessText) → TellAll (clocks_seen seen) (first_false m parts) ws → AreTextsOfFalse (run_seen seen reading) n fs ws
texts_of_false seen reading known m n h [] [] is [] alike unsat [] tells = tt
texts_of_false seen reading known m n h [] [] is [] alike unsat (w ∷ ws) tells = absurd tells
texts_of_false seen reading known m n h [] (a ∷ parts) is fs alike unsat ws tells = absurd is
texts_of_false seen reading known m n h [] [] is (f ∷ fs) alike unsat ws tells = absurd alike
texts_of_false seen reading known m n h (d ∷ ds) parts is [] alike unsat ws tells = absurd alike
texts_of_false seen reading known m n h (d ∷ ds) parts is (f ∷ fs) alike unsat ws tells =
    let split = part_answers seen (places_from n 1 d) (all_places (n + 1) ds) parts is in
    let first = first_of_false seen reading known m n 1 h d split.mine split.later split.of_first f alike.0 (λ sat. unsat (inl sat)) ws
    (subst (λ (qs : List PartAnswer). TellAll (clocks_seen seen) (first_false m qs) ws) split.is tells) in
    let rest = texts_of_false seen reading known n (n + 1) (omega arith) ds split.later split.of_rest fs alike.1 (λ sat. unsat (inr sat)) first.others first.rest in
    subst (AreTextsOfFalse (run_seen seen reading) n (f ∷ fs)) (sym first.is) (first.of, rest)
