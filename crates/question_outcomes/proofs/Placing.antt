-- The places of parts that hold nowhere, one after the other.
use Rattle.std.proofs.Common.{◌≡◌, ℕ, ◌+◌, true, false, List, [], ◌∷◌, ◌++◌, map, length, refl, sym, ◌∙◌, ap, subst, arith, inl, inr, append_assoc, append-nil}
use Rattle.std.proofs.lemmas.List.{map-append, length-map}
use Rattle.run_model.specs.Run.{Run}
use Rattle.question_meaning.specs.Question.{Holds, Can}
use Rattle.rctl_parts.specs.Pieces.{Piece, atom, temporal}
use Rattle.rctl_parts.specs.Spelled.{Names, atom_formula}
use Rattle.part_pulls.specs.declared.observed.Observed.{Observed}
use Rattle.part_pulls.specs.Observing.{Reading, AreAnswers, run_seen, names_seen}
use Rattle.question_outcome.specs.Outcomes.{PlacedPart, placed_parts, placed, AreNowhere}
use Rattle.question_outcome.specs.declared.outcome.PartPlace.{PartPlace}
use Rattle.question_outcomes.specs.inside.Nowhere.{operand_of, TellsNowhere, AddsNowhere, AreNowhereIn}

-- ---- one part

-- ---- lists of places

nowhere_joined : (r : Run) (fs gs : List PlacedPart) (ps qs : List PartPlace) → AreNowhere r fs ps → AreNowhere r gs qs → AreNowhere r (fs ++ gs) (ps ++ qs)
nowhere_joined r [] gs [] qs h k = k
nowhere_joined r [] gs (p ∷ ps) qs h k = absurd h
nowhere_joined r (f ∷ fs) gs [] qs h k = passed r f (fs ++ gs) qs h.0 (nowhere_joined r fs gs [] qs h.1 k)
  where
    passed : (r : Run) (f : PlacedPart) (fs : List PlacedPart) (qs : List PartPlace) → Holds r (Can f.formula) → AreNowhere r fs qs → AreNowhere r (f ∷ fs) qs
    passed r f fs [] can rest = (can, rest)
    passed r f fs (q ∷ qs) can rest = inr (can, rest)
nowhere_joined r (f ∷ fs) gs (p ∷ ps) qs (inl h) k = inl (h.0, h.1, nowhere_joined r fs gs ps qs h.2 k)
nowhere_joined r (f ∷ fs) gs (p ∷ ps) qs (inr h) k = inr (h.0, nowhere_joined r fs gs (p ∷ ps) qs h.1 k)

parts_joined : (names : Names) (n k : ℕ) (ps qs : List Piece) → placed_parts names n k (ps ++ qs) ≡ placed_parts names n k ps ++ placed_parts names n (k + length ps) qs
parts_joined names n k [] qs = ap (λ (m : ℕ). placed_parts names n m qs) (omega arith)
parts_joined names n k (atom a ∷ ps) qs =
    let there : (k + 1) + length ps ≡ k + length (atom a ∷ ps) = omega arith in
    ap (λ (rest : List PlacedPart). record { place = record { disjunct = n; part = k }; formula = atom_formula names a } ∷ rest)
    (parts_joined names n (k + 1) ps qs ∙ ap (λ (m : ℕ). placed_parts names n (k + 1) ps ++ placed_parts names n m qs) there)
parts_joined names n k (temporal o os ∷ ps) qs =
    let there : (k + 1) + length ps ≡ k + length (temporal o os ∷ ps) = omega arith in
    parts_joined names n (k + 1) ps qs ∙ ap (λ (m : ℕ). placed_parts names n (k + 1) ps ++ placed_parts names n m qs) there

placed_last : (names : Names) (n : ℕ) (ds : List (List Piece)) (d : List Piece) → placed names n (ds ++ d ∷ []) ≡ placed names n ds ++ placed_parts names (n + length ds) 1 d
placed_last names n [] d = append-nil (placed_parts names n 1 d) ∙ ap (λ (m : ℕ). placed_parts names m 1 d) (omega arith)
placed_last names n (e ∷ ds) d =
    let there : (n + 1) + length ds ≡ n + length (e ∷ ds) = omega arith in
    ap (λ (rest : List PlacedPart). placed_parts names n 1 e ++ rest) (placed_last names (n + 1) ds d ∙ ap (λ (m : ℕ). placed names (n + 1) ds ++ placed_parts names m 1 d) there)
    ∙ sym (append_assoc (placed_parts names n 1 e) (placed names (n + 1) ds) (placed_parts names (n + length (e ∷ ds)) 1 d))

-- ---- one part more

pub adds_none : (seen : Observed) (n k : ℕ) (places : List PartPlace) → AddsNowhere seen n k [] places places
adds_none seen n k places = record { added = []; is = sym (append-nil places); nowhere = λ reading are. tt }

adds_part : (seen : Observed) (n k : ℕ) (ps : List Piece) (p : Piece) (old new : List PartPlace) (more : List PartPlace) → AddsNowhere seen n k ps old new
    → ((reading : Reading) → AreAnswers seen reading → AreNowhere (run_seen seen reading) (placed_parts (names_seen seen reading) n (k + length ps) (p ∷ [])) more)
    → AddsNowhere seen n k (ps ++ p ∷ []) old (new ++ more)
adds_part seen n k ps p old new more before last = record {
  added = before.added ++ more;
  is = ap (λ (places : List PartPlace). places ++ more) before.is ∙ append_assoc old before.added more;
  nowhere = λ reading are.
      let r = run_seen seen reading in
      let names = names_seen seen reading in
      subst (λ (fs : List PlacedPart). AreNowhere r fs (before.added ++ more)) (sym (parts_joined names n k ps (p ∷ [])))
      (nowhere_joined r (placed_parts names n k ps) (placed_parts names n (k + length ps) (p ∷ [])) before.added more (before.nowhere reading are) (last reading are));
}

at_place : (seen : Observed) (n k : ℕ) (p : Piece) → TellsNowhere seen (p ∷ []) true → (reading : Reading) → AreAnswers seen reading
    → AreNowhere (run_seen seen reading) (placed_parts (names_seen seen reading) n k (p ∷ [])) (record { disjunct = n; part = k } ∷ [])
at_place seen n k (atom a) tells reading are = inl (tells reading are, refl, tt)
at_place seen n k (temporal o qs) tells reading are = absurd tells

no_place : (seen : Observed) (n k : ℕ) (p : Piece) → TellsNowhere seen (p ∷ []) false → (reading : Reading) → AreAnswers seen reading
    → AreNowhere (run_seen seen reading) (placed_parts (names_seen seen reading) n k (p ∷ [])) []
no_place seen n k (atom a) tells reading are = (tells reading are, tt)
no_place seen n k (temporal o qs) tells reading are = tt

pub adds_told : (seen : Observed) (n : ℕ) (ps : List Piece) (p : Piece) (old new : List PartPlace) (place : PartPlace) → AddsNowhere seen n 1 ps old new → TellsNowhere seen (p ∷ []) true
    → place ≡ record { disjunct = n; part = length ps + 1 } → AddsNowhere seen n 1 (ps ++ p ∷ []) old (new ++ place ∷ [])
adds_told seen n ps p old new place before tells is =
    let number : 1 + length ps ≡ length ps + 1 = omega arith in
    let here : place ≡ record { disjunct = n; part = 1 + length ps } = is ∙ ap (λ (k : ℕ). record { disjunct = n; part = k }) (sym number) in
    subst (λ (q : PartPlace). AddsNowhere seen n 1 (ps ++ p ∷ []) old (new ++ q ∷ [])) (sym here)
    (adds_part seen n 1 ps p old new (record { disjunct = n; part = 1 + length ps } ∷ []) before (at_place seen n (1 + length ps) p tells))

pub adds_untold : (seen : Observed) (n : ℕ) (ps : List Piece) (p : Piece) (old new : List PartPlace) → AddsNowhere seen n 1 ps old new → TellsNowhere seen (p ∷ []) false
    → AddsNowhere seen n 1 (ps ++ p ∷ []) old new
adds_untold seen n ps p old new before tells =
    subst (λ (places : List PartPlace). AddsNowhere seen n 1 (ps ++ p ∷ []) old places) (append-nil new) (adds_part seen n 1 ps p old new [] before (no_place seen n (1 + length ps) p tells))

-- ---- one disjunct more

pub nowhere_more : (seen : Observed) (ds : List (List Piece)) (d : List Piece) (before after : List PartPlace) → AreNowhereIn seen ds before → AddsNowhere seen (length ds + 1) 1 (operand_of d) before after
    → AreNowhereIn seen (ds ++ d ∷ []) after
nowhere_more seen ds d before after so_far adds = λ reading are.
    let r = run_seen seen reading in
    let names = names_seen seen reading in
    let number : length ds + 1 ≡ 1 + length (map operand_of ds) = omega (arith, length-map ds operand_of) in
    let last = subst (λ (n : ℕ). AreNowhere r (placed_parts names n 1 (operand_of d)) adds.added) number (adds.nowhere reading are) in
    let both = nowhere_joined r (placed names 1 (map operand_of ds)) (placed_parts names (1 + length (map operand_of ds)) 1 (operand_of d)) before adds.added (so_far reading are) last in
    let all : placed names 1 (map operand_of (ds ++ d ∷ [])) ≡ placed names 1 (map operand_of ds) ++ placed_parts names (1 + length (map operand_of ds)) 1 (operand_of d) =
    ap (placed names 1) (map-append operand_of ds (d ∷ [])) ∙ placed_last names 1 (map operand_of ds) (operand_of d) in
    subst (AreNowhere r (placed names 1 (map operand_of (ds ++ d ∷ [])))) (sym adds.is) (subst (λ (fs : List PlacedPart). AreNowhere r fs (before ++ adds.added)) (sym all) both)

pub nowhere_under : (seen : Observed) (ds : List (List Piece)) (d ps : List Piece) (before after : List PartPlace) (n : ℕ) → AreNowhereIn seen ds before → n ≡ length ds + 1 → operand_of d ≡ ps
    → AddsNowhere seen n 1 ps before after → AreNowhereIn seen (ds ++ d ∷ []) after
nowhere_under seen ds d ps before after n so_far number operand adds =
    nowhere_more seen ds d before after so_far (subst (λ (qs : List Piece). AddsNowhere seen (length ds + 1) 1 qs before after) (sym operand) (subst (λ (m : ℕ). AddsNowhere seen m 1 ps before after) number adds))

pub nowhere_as_before : (seen : Observed) (ds : List (List Piece)) (d : List Piece) (places : List PartPlace) → AreNowhereIn seen ds places → operand_of d ≡ [] → AreNowhereIn seen (ds ++ d ∷ []) places
nowhere_as_before seen ds d places so_far operand = nowhere_under seen ds d [] places places (length ds + 1) so_far refl operand (adds_none seen (length ds + 1) 1 places)
