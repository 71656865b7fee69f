-- The parts of a conjunction, one after the other.
use Rattle.std.proofs.Common.{◌≡◌, ℕ, ◌+◌, List, [], ◌∷◌, ◌++◌, length, drop, flat_map, sym, ◌∙◌, ap, subst, arith, append_assoc, append-nil}
use Rattle.std.proofs.lemmas.Grind.{flat_map-append}
use Rattle.std.proofs.lemmas.List.Concat.{flat_map-cons}
use Rattle.pull_system.specs.declared.pull.Pull.{Pull}
use Rattle.slice_workers.specs.Spent.{spent_of}
use Rattle.slice_workers.specs.Views.{SettledView}
use Rattle.rctl_parts.specs.Pieces.{Piece}
use Rattle.part_pulls.specs.declared.observed.Observed.{Observed}
use Rattle.conjunctions.specs.declared.answer.PartAnswer.{PartAnswer}
use Rattle.part_pulls.specs.Observing.{clocks_seen}
use Rattle.conjunctions.specs.Numbering.{within, conjunctions_in}
use Rattle.conjunctions.specs.inside.Beginning.{GatheredView, GatheredFits}
use Rattle.conjunctions.specs.Rounds.{RoundView, HasOrderSystem}
use Rattle.conjunctions.specs.inside.Gathering.{AddsPulls}
use Rattle.conjunctions.specs.Settling.{AreFloors, Settles}
use Rattle.conjunctions.specs.Answering.{places_from, place, IsPartAnswer}
use Rattle.conjunctions.specs.inside.Answering.{AddsAnswers}
use Rattle.conjunctions.proofs.InTurn.{settles_none, settles_on, floors_left, floors_right}
use Rattle.conjunctions.proofs.Adding.{adds_none, adds_more, answers_none, answers_more, places_joined}

-- what stands once these parts were added: their pulls behind the first ones, rows to begin from, the rows within them, and their answers
pub record PartsAdded (seen : Observed) (workers disjunct : ℕ) (round now : RoundView) (steps steps_now : ℕ) (answers answers_now : List PartAnswer) (begun : List Pull) (gathered : GatheredView) (ps : List Piece) : Type 0 where
  pub adds : AddsPulls seen begun gathered.pulls ps
  pub order : gathered.order ≡ clocks_seen seen
  pub floor : GatheredFits (clocks_seen seen) gathered
  pub settles : Settles seen workers round now (spent_of steps steps_now) (flat_map within ps)
  pub told : AddsAnswers seen answers answers_now (places_from disjunct 1 ps)

pub added_none : (seen : Observed) (workers disjunct : ℕ) (round : RoundView) (steps : ℕ) (answers : List PartAnswer) (begun : List Pull) (gathered : GatheredView) → gathered.pulls ≡ begun
    → gathered.order ≡ clocks_seen seen → GatheredFits (clocks_seen seen) gathered → HasOrderSystem (clocks_seen seen) round → PartsAdded seen workers disjunct round round steps steps answers answers begun gathered []
added_none seen workers disjunct round steps answers begun gathered is order floor shared = record {
  adds = subst (λ (list : List Pull). AddsPulls seen begun list []) (sym is) (adds_none seen begun);
  order = order;
  floor = floor;
  settles = settles_none seen workers round steps shared;
  told = answers_none seen answers;
}

pub added_more : (seen : Observed) (workers disjunct : ℕ) (round now next : RoundView) (s t u : ℕ) (a b c : List PartAnswer) (begun : List Pull) (gathered more : GatheredView) (ps : List Piece) (p : Piece) (answer : PartAnswer)
    → PartsAdded seen workers disjunct round now s t a b begun gathered ps → AddsPulls seen gathered.pulls more.pulls (p ∷ []) → more.order ≡ gathered.order → GatheredFits (clocks_seen seen) more → Settles seen workers now next (spent_of t u) (within p)
    → IsPartAnswer seen (place disjunct (length ps + 1) p) answer → c ≡ b ++ answer ∷ [] → PartsAdded seen workers disjunct round next s u a c begun more (ps ++ p ∷ [])
added_more seen workers disjunct round now next s t u a b c begun gathered more ps p answer added adds order floor settles is c_is = record {
  adds = adds_more seen begun gathered.pulls more.pulls ps (p ∷ []) added.adds adds;
  order = order ∙ added.order;
  floor = floor;
  settles = subst (Settles seen workers round next (spent_of s u)) (sym parts) (settles_on seen workers round now next s t u (flat_map within ps) (within p) added.settles settles);
  told = subst (AddsAnswers seen a c) (sym places) (answers_more seen a b c (places_from disjunct 1 ps) (places_from disjunct (1 + length ps) (p ∷ [])) added.told one);
}
  where
    parts : flat_map within (ps ++ p ∷ []) ≡ flat_map within ps ++ within p
    parts = flat_map-append within ps (p ∷ []) ∙ ap (λ cs. flat_map within ps ++ cs) (flat_map-cons within p [] ∙ append-nil (within p))

    places : places_from disjunct 1 (ps ++ p ∷ []) ≡ places_from disjunct 1 ps ++ places_from disjunct (1 + length ps) (p ∷ [])
    places = places_joined disjunct 1 ps (p ∷ [])

    one : AddsAnswers seen b c (places_from disjunct (1 + length ps) (p ∷ []))
    one = record { added = answer ∷ []; is = c_is; answers = (subst (λ (k : ℕ). IsPartAnswer seen (place disjunct k p) answer) (omega arith) is, tt) }

-- the rows of before that the conjunctions within the next part may begin from
pub floors_at : (seen : Observed) (workers : ℕ) (round now : RoundView) (s t : ℕ) (ps : List Piece) (p : Piece) (later : List Piece)
    → AreFloors seen round.before (conjunctions_in (ps ++ p ∷ later)) → Settles seen workers round now (spent_of s t) (flat_map within ps) → AreFloors seen now.before (within p)
floors_at seen workers round now s t ps p later floors settles =
    let P : List (List Piece) → Type 0 = λ cs. AreFloors seen round.before cs in
    let behind : AreFloors seen (drop (length (flat_map within ps)) round.before) (within p ++ (flat_map within later ++ (ps ++ p ∷ later) ∷ [])) =
    floors_right seen round.before (flat_map within ps) (within p ++ (flat_map within later ++ (ps ++ p ∷ later) ∷ [])) (subst P split floors) in
    subst (λ (before : List SettledView). AreFloors seen before (within p)) (sym settles.before)
    (floors_left seen (drop (length (flat_map within ps)) round.before) (within p) (flat_map within later ++ (ps ++ p ∷ later) ∷ []) behind)
  where
    split : conjunctions_in (ps ++ p ∷ later) ≡ flat_map within ps ++ (within p ++ (flat_map within later ++ (ps ++ p ∷ later) ∷ []))
    split = ap (λ cs. cs ++ (ps ++ p ∷ later) ∷ []) (flat_map-append within ps (p ∷ later) ∙ ap (λ cs. flat_map within ps ++ cs) (flat_map-cons within p later))
        ∙ append_assoc (flat_map within ps) (within p ++ flat_map within later) ((ps ++ p ∷ later) ∷ [])
        ∙ ap (λ cs. flat_map within ps ++ cs) (append_assoc (within p) (flat_map within later) ((ps ++ p ∷ later) ∷ []))

-- and those of the conjunction itself, once all of its parts were added
pub floors_last : (seen : Observed) (workers : ℕ) (round now : RoundView) (s t : ℕ) (ps : List Piece)
    → AreFloors seen round.before (conjunctions_in ps) → Settles seen workers round now (spent_of s t) (flat_map within ps) → AreFloors seen now.before (ps ∷ [])
floors_last seen workers round now s t ps floors settles =
    subst (λ (before : List SettledView). AreFloors seen before (ps ∷ [])) (sym settles.before) (floors_right seen round.before (flat_map within ps) (ps ∷ []) floors)
