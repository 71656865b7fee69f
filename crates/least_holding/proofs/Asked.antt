-- Pulls of parts that are put behind those of others.
use Rattle.std.proofs.Common.{◌≡◌, Bool, true, false, List, [], ◌∷◌, ◌++◌, refl, ◌∙◌, ap, arith, append_assoc, length-append}
use Rattle.std.specs.Prelude.{◌↔◌, ◌&&◌}
use Rattle.std.proofs.lemmas.List.Elements.{All-append}
use Rattle.run_model.proofs.EdgeLemmas.{all_left, all_right}
use Rattle.run_model.specs.Cut.{Cut}
use Rattle.run_model.specs.Run.{Run}
use Rattle.run_model.specs.Meaning.{SatAll}
use Rattle.pull_system.specs.declared.pull.Pull.{Pull}
use Rattle.pull_system.specs.System.{IsPull}
use Rattle.pull_system.specs.Pulls.{HoldsAt}
use Rattle.rctl_parts.specs.Pieces.{Atom, Piece, atom, pieces}
use Rattle.rctl_parts.specs.Spelled.{Names, formulas_of}
use Rattle.part_pulls.specs.declared.observed.Observed.{Observed}
use Rattle.part_pulls.specs.Observing.{lens_seen, run_seen, names_seen}
use Rattle.part_pulls.specs.Systems.{is_atom, IsAtomOf}
use Rattle.least_holding.specs.Least.{are_atoms}
use Rattle.least_holding.specs.inside.Asking.{AsksMore}

-- all of two lists of parts are true where those of both are
sat_joined : (r : Run) (names : Names) (ps qs : List Piece) (c : Cut)
    → SatAll r (formulas_of names (pieces (ps ++ qs))) c ↔ (SatAll r (formulas_of names (pieces ps)) c × SatAll r (formulas_of names (pieces qs)) c)
sat_joined r names [] qs c = (λ h. (tt, h), λ h. h.1)
sat_joined r names (p ∷ ps) qs c =
    let others = sat_joined r names ps qs c in
    (λ h. let both = others.0 h.1 in ((h.0, both.0), both.1), λ h. (h.0.0, others.1 (h.0.1, h.1)))

pub asks_more : (seen : Observed) (a b c : List Pull) (ps qs : List Piece) → AsksMore seen a b ps → AsksMore seen b c qs → AsksMore seen a c (ps ++ qs)
asks_more seen a b c ps qs first second = record {
  added = first.added ++ second.added;
  is = second.is ∙ ap (λ pulls. pulls ++ second.added) first.is ∙ append_assoc a first.added second.added;
  fit = All-append (IsPull (lens_seen seen)) first.added second.added first.fit second.fit;
  few = let early = first.few in let late = second.few in omega (arith, length-append first.added second.added, length-append ps qs);
  meaning = λ reading are cut consistent.
      let early = first.meaning reading are cut consistent in
      let late = second.meaning reading are cut consistent in
      let joined = sat_joined (run_seen seen reading) (names_seen seen reading) ps qs cut in (
        λ h. joined.1 (early.0 (all_left (HoldsAt cut) first.added second.added h), late.0 (all_right (HoldsAt cut) first.added second.added h)),
        λ h. All-append (HoldsAt cut) first.added second.added (early.1 (joined.0 h).0) (late.1 (joined.0 h).1),
      );
}

-- the pulls of one atom
pub atom_asks : (seen : Observed) (old new added : List Pull) (truth : Bool) (a : Atom) → new ≡ old ++ added → IsAtomOf seen a added truth → AsksMore seen old new (atom a ∷ [])
atom_asks seen old new added truth a is atom_is = record {
  added = added;
  is = is;
  fit = atom_is.fit;
  few = atom_is.few;
  meaning = λ reading are c consistent. let part = atom_is.meaning reading are c consistent in (λ h. (part.0 h, tt), λ h. part.1 h.0);
}

-- ---- parts without operators

and_left : (a b : Bool) → (a && b) ≡ true → a ≡ true
and_left true b h = refl
and_left false b h = h

and_right : (a b : Bool) → (a && b) ≡ true → b ≡ true
and_right true b h = h
and_right false b h = absurd (cc)

pub atom_at : (ps : List Piece) (p : Piece) (later : List Piece) → are_atoms (ps ++ p ∷ later) ≡ true → is_atom p ≡ true
atom_at [] p later h = and_left (is_atom p) (are_atoms later) h
atom_at (q ∷ ps) p later h = atom_at ps p later (and_right (is_atom q) (are_atoms (ps ++ p ∷ later)) h)

and_false : (b : Bool) → (b && false) ≡ false
and_false true = refl
and_false false = refl

pub some_temporal : (ps : List Piece) (p : Piece) (later : List Piece) → is_atom p ≡ false → are_atoms (ps ++ p ∷ later) ≡ false
some_temporal [] p later h = ap (λ b. b && are_atoms later) h
some_temporal (q ∷ ps) p later h = ap (λ b. is_atom q && b) (some_temporal ps p later h) ∙ and_false (is_atom q)

pub all_and_one : (ps : List Piece) (p : Piece) → are_atoms ps ≡ true → is_atom p ≡ true → are_atoms (ps ++ p ∷ []) ≡ true
all_and_one [] p all one = ap (λ b. b && true) one
all_and_one (q ∷ ps) p all one = both (is_atom q) (are_atoms ps) (are_atoms (ps ++ p ∷ [])) all (λ h. all_and_one ps p h one)
  where
    both : (a b c : Bool) → (a && b) ≡ true → (b ≡ true → c ≡ true) → (a && c) ≡ true
    both true b c h more = more h
    both false b c h more = h
