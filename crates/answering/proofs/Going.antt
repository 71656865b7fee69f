-- What an answer leaves to the next one.
use Rattle.std.proofs.Common.{◌≡◌, ℕ, zero, suc, List, [], ◌∷◌, length, Some, None, slice_get, slice_index_or, refl, sym, ◌∙◌, ap, subst, arith}
use Rattle.std.proofs.lemmas.Option.{none-some, same_Some, slice_get_past}
use Rattle.slice_workers.specs.Views.{SettledView}
use Rattle.rctl_parts.specs.declared.part.Part.{Part}
use Rattle.rctl_parts.specs.Pieces.{Piece, disjuncts_of}
use Rattle.part_pulls.specs.declared.observed.Observed.{Observed}
use Rattle.part_pulls.specs.Observing.{clocks_seen}
use Rattle.part_pulls.specs.Counters.{CountersRise}
use Rattle.part_pulls.specs.Later.{IsLater}
use Rattle.conjunctions.specs.declared.round.Kept.{Kept}
use Rattle.conjunctions.specs.Numbering.{all_conjunctions}
use Rattle.conjunctions.specs.Settling.{IsSettled, AreSettled, AreFloors}
use Rattle.observation.specs.Growing.{GrowingView}
use Rattle.observation.proofs.Later.{later_on}
use Rattle.answering.specs.Going.{GoesOn}
use Rattle.answering.proofs.Earlier.{system_on, no_system}

-- nothing is kept
pub goes_on_anew : (kept : Kept) (growing : GrowingView) → kept.settled ≡ [] → kept.system ≡ None → GoesOn kept growing
goes_on_anew kept growing rows system = record {
  rows = record { floors = λ later is more rise. subst (λ (rs : List SettledView). AreFloors later rs (all_conjunctions (disjuncts_of growing.disjuncts))) (sym rows) tt };
  system = no_system (clocks_seen growing.seen) kept.system system;
}

-- once more was observed
pub goes_on_later : (kept : Kept) (before after : GrowingView) → after.disjuncts ≡ before.disjuncts → IsLater before.seen after.seen → GoesOn kept before → GoesOn kept after
goes_on_later kept before after same later goes = record {
  rows = record {
    floors = λ then is more rise.
        subst (λ (ds : List (List Part)). AreFloors then kept.settled (all_conjunctions (disjuncts_of ds))) (sym same)
        (goes.rows.floors then is (later_on before.seen after.seen then later more) (subst (λ (ds : List (List Part)). CountersRise then (disjuncts_of ds)) same rise));
  };
  system = system_on before.seen after.seen kept.system later goes.system;
}

pub settled_count : (seen : Observed) (cs : List (List Piece)) (rows : List SettledView) → AreSettled seen cs rows → length rows ≡ length cs
settled_count seen [] [] h = refl
settled_count seen [] (r ∷ rows) h = absurd h
settled_count seen (c ∷ cs) [] h = absurd h
settled_count seen (c ∷ cs) (r ∷ rows) h = ap suc (settled_count seen cs rows h.1)

pub settled_at : (seen : Observed) (cs : List (List Piece)) (rows : List SettledView) (k : ℕ) (r : SettledView) → AreSettled seen cs rows → slice_get rows k ≡ Some r → IsSettled seen (slice_index_or cs k []) r.rows
settled_at seen [] [] k r h is = absurd (none-some r (sym (slice_get_past [] k (omega arith)) ∙ is))
settled_at seen [] (x ∷ rows) k r h is = absurd h
settled_at seen (c ∷ cs) [] k r h is = absurd h
settled_at seen (c ∷ cs) (x ∷ rows) zero r h is = subst (λ (one : SettledView). IsSettled seen c one.rows) (same_Some x r is) h.0
settled_at seen (c ∷ cs) (x ∷ rows) (suc k) r h is = settled_at seen cs rows k r h.1 is
