-- Pulls and answers of parts that are put behind those of others.
use Rattle.std.proofs.Common.{◌≡◌, ℕ, ◌+◌, Bool, true, false, List, [], ◌∷◌, ◌++◌, length, refl, sym, ◌∙◌, ap, arith, append_assoc, append-nil, length-append}
use Rattle.std.specs.Prelude.{◌↔◌, ◌&&◌}
use Rattle.std.proofs.lemmas.List.Elements.{All-append}
use Rattle.std.proofs.lemmas.Grind.{flat_map-append}
use Rattle.run_model.proofs.EdgeLemmas.{all_left, all_right}
use Rattle.run_model.specs.Cut.{Cut, IsWithin}
use Rattle.run_model.specs.Run.{Run}
use Rattle.run_model.specs.Consistent.{IsConsistent}
use Rattle.run_model.specs.Meaning.{SatAll}
use Rattle.pull_system.specs.declared.pull.Pull.{Pull}
use Rattle.pull_system.specs.System.{IsPull}
use Rattle.pull_system.specs.Pulls.{HoldsAt, ClosedUnder}
use Rattle.rctl_parts.specs.Pieces.{Piece, pieces}
use Rattle.rctl_parts.specs.Spelled.{Names, formulas_of}
use Rattle.part_pulls.specs.declared.observed.Observed.{Observed}
use Rattle.conjunctions.specs.declared.answer.PartAnswer.{PartAnswer}
use Rattle.part_pulls.specs.Observing.{clocks_seen, lens_seen, run_seen, names_seen}
use Rattle.part_pulls.specs.Systems.{is_atom, pulls_of_part, pulls_of_parts}
use Rattle.conjunctions.specs.Numbering.{all_atoms}
use Rattle.conjunctions.specs.inside.Numbering.{gives_order}
use Rattle.conjunctions.specs.Counting.{rooms_of}
use Rattle.conjunctions.specs.inside.Gathering.{AddsPulls}
use Rattle.conjunctions.specs.Answering.{Place, places_from, ArePartAnswers}
use Rattle.conjunctions.specs.inside.Answering.{AddsAnswers}
use Rattle.conjunctions.proofs.Ordering.{gives_right}

-- ---- lists of parts

-- all of two lists of parts are true where those of both are
pub sat_joined : (r : Run) (names : Names) (ps qs : List Piece) (c : Cut)
    → SatAll r (formulas_of names (pieces (ps ++ qs))) c ↔ (SatAll r (formulas_of names (pieces ps)) c × SatAll r (formulas_of names (pieces qs)) c)
sat_joined r names [] qs c = (λ h. (tt, h), λ h. h.1)
sat_joined r names (p ∷ ps) qs c =
    let others = sat_joined r names ps qs c in
    (λ h. let both = others.0 h.1 in ((h.0, both.0), both.1), λ h. (h.0.0, others.1 (h.0.1, h.1)))

rooms_joined : (n : ℕ) (ps qs : List Piece) → rooms_of n (ps ++ qs) ≡ rooms_of n ps + rooms_of n qs
rooms_joined n [] qs = omega arith
rooms_joined n (p ∷ ps) qs = omega (arith, rooms_joined n ps qs)

and_left : (a b : Bool) → (a && b) ≡ true → a ≡ true
and_left true b h = refl
and_left false b h = h

and_right : (a b : Bool) → (a && b) ≡ true → b ≡ true
and_right true b h = h
and_right false b h = absurd (cc)

pub atoms_left : (ps qs : List Piece) → all_atoms (ps ++ qs) ≡ true → all_atoms ps ≡ true
atoms_left [] qs h = refl
atoms_left (p ∷ ps) qs h =
    let first = and_left (is_atom p) (all_atoms (ps ++ qs)) h in
    let others = atoms_left ps qs (and_right (is_atom p) (all_atoms (ps ++ qs)) h) in
    ap (λ b. b && all_atoms ps) first ∙ others

pub atoms_right : (ps qs : List Piece) → all_atoms (ps ++ qs) ≡ true → all_atoms qs ≡ true
atoms_right [] qs h = h
atoms_right (p ∷ ps) qs h = atoms_right ps qs (and_right (is_atom p) (all_atoms (ps ++ qs)) h)

-- ---- pulls

pub closed_none : (c : Cut) → ClosedUnder [] c
closed_none c k d there = absurd (omega arith)

pub adds_none : (seen : Observed) (pulls : List Pull) → AddsPulls seen pulls pulls []
adds_none seen pulls = record {
  added = [];
  is = sym (append-nil pulls);
  fit = λ k d there. absurd (omega arith);
  few = omega arith;
  meaning = λ reading are c consistent. (λ h. tt, λ h. closed_none c);
  orders = λ gives. absurd (cc);
  own = λ atoms. refl;
}

pub adds_more : (seen : Observed) (a b c : List Pull) (ps qs : List Piece) → AddsPulls seen a b ps → AddsPulls seen b c qs → AddsPulls seen a c (ps ++ qs)
adds_more seen a b c ps qs first second = record {
  added = first.added ++ second.added;
  is = second.is ∙ ap (λ pulls. pulls ++ second.added) first.is ∙ append_assoc a first.added second.added;
  fit = All-append (IsPull (lens_seen seen)) first.added second.added first.fit second.fit;
  few = let early = first.few in let late = second.few in omega (arith, length-append first.added second.added, rooms_joined (length (lens_seen seen)) ps qs);
  meaning = λ reading are cut consistent.
      let early = first.meaning reading are cut consistent in
      let late = second.meaning reading are cut consistent in
      let joined = sat_joined (run_seen seen reading) (names_seen seen reading) ps qs cut in (
        λ h. joined.1 (early.0 (all_left (HoldsAt cut) first.added second.added h), late.0 (all_right (HoldsAt cut) first.added second.added h)),
        λ h. All-append (HoldsAt cut) first.added second.added (early.1 (joined.0 h).0) (late.1 (joined.0 h).1),
      );
  orders = λ gives cut shaped within closed. ordered (gives_order ps) refl gives cut shaped within closed;
  own = λ atoms.
      let early = first.own (atoms_left ps qs atoms) in
      let late = second.own (atoms_right ps qs atoms) in
      ap (λ pulls. pulls ++ second.added) early ∙ ap (λ pulls. pulls_of_parts seen ps ++ pulls) late ∙ sym (flat_map-append (pulls_of_part seen) ps qs);
}
  where
    ordered : (gives : Bool) → gives_order ps ≡ gives → gives_order (ps ++ qs) ≡ true → (cut : Cut) → length cut ≡ length (clocks_seen seen) → IsWithin cut (lens_seen seen)
        → ClosedUnder (first.added ++ second.added) cut → IsConsistent (clocks_seen seen) cut
    ordered true is gives cut shaped within closed = first.orders is cut shaped within (all_left (HoldsAt cut) first.added second.added closed)
    ordered false is gives cut shaped within closed = second.orders (gives_right ps qs is gives) cut shaped within (all_right (HoldsAt cut) first.added second.added closed)

-- ---- answers

answers_joined : (seen : Observed) (xs ys : List Place) (one two : List PartAnswer) → ArePartAnswers seen xs one → ArePartAnswers seen ys two → ArePartAnswers seen (xs ++ ys) (one ++ two)
answers_joined seen [] ys [] two left right = right
answers_joined seen [] ys (a ∷ one) two left right = absurd left
answers_joined seen (x ∷ xs) ys [] two left right = absurd left
answers_joined seen (x ∷ xs) ys (a ∷ one) two left right = (left.0, answers_joined seen xs ys one two left.1 right)

pub answers_none : (seen : Observed) (answers : List PartAnswer) → AddsAnswers seen answers answers []
answers_none seen answers = record { added = []; is = sym (append-nil answers); answers = tt }

pub answers_more : (seen : Observed) (a b c : List PartAnswer) (xs ys : List Place) → AddsAnswers seen a b xs → AddsAnswers seen b c ys → AddsAnswers seen a c (xs ++ ys)
answers_more seen a b c xs ys first second = record {
  added = first.added ++ second.added;
  is = second.is ∙ ap (λ answers. answers ++ second.added) first.is ∙ append_assoc a first.added second.added;
  answers = answers_joined seen xs ys first.added second.added first.answers second.answers;
}

-- the numbers go on behind those of the parts before
pub places_joined : (d k : ℕ) (ps qs : List Piece) → places_from d k (ps ++ qs) ≡ places_from d k ps ++ places_from d (k + length ps) qs
places_joined d k [] qs = ap (λ j. places_from d j qs) (omega arith)
places_joined d k (p ∷ ps) qs =
    let place : Place = record { disjunct = d; part = k; piece = p } in
    ap (λ places. place ∷ places) (places_joined d (k + 1) ps qs ∙ ap (λ j. places_from d (k + 1) ps ++ places_from d j qs) (omega arith))
