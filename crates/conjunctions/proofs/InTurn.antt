-- Conjunctions that are settled one after the other.
use Rattle.std.proofs.Common.{◌≡◌, ℕ, suc, zero, ◌+◌, List, [], ◌∷◌, ◌++◌, length, drop, refl, sym, ◌∙◌, ap, subst, arith, append_assoc, append-nil, length-append}
use Rattle.std.proofs.lemmas.List.{drop-drop}
use Rattle.slice_workers.specs.Spent.{spent_of}
use Rattle.slice_workers.specs.Views.{SettledView}
use Rattle.rctl_parts.specs.Pieces.{Piece}
use Rattle.part_pulls.specs.declared.observed.Observed.{Observed}
use Rattle.part_pulls.specs.Observing.{clocks_seen, lens_seen}
use Rattle.conjunctions.specs.Counting.{bounds}
use Rattle.conjunctions.specs.Rounds.{RoundView, HasOrderSystem}
use Rattle.conjunctions.specs.Settling.{AreSettled, AreFloors, AreSettledBySteps, Settles}

pub are_settled_joined : (seen : Observed) (cs ds : List (List Piece)) (rs qs : List SettledView) → AreSettled seen cs rs → AreSettled seen ds qs → AreSettled seen (cs ++ ds) (rs ++ qs)
are_settled_joined seen [] ds [] qs left right = right
are_settled_joined seen [] ds (r ∷ rs) qs left right = absurd left
are_settled_joined seen (c ∷ cs) ds [] qs left right = absurd left
are_settled_joined seen (c ∷ cs) ds (r ∷ rs) qs left right = (left.0, are_settled_joined seen cs ds rs qs left.1 right)

pub length-settled : (seen : Observed) (cs : List (List Piece)) (rs : List SettledView) → AreSettled seen cs rs → length rs ≡ length cs
length-settled seen [] [] h = refl
length-settled seen [] (r ∷ rs) h = absurd h
length-settled seen (c ∷ cs) [] h = absurd h
length-settled seen (c ∷ cs) (r ∷ rs) h = ap suc (length-settled seen cs rs h.1)

-- what is left of the rows of before, one more taken
drop_next : (before : List SettledView) (n : ℕ) → drop n (drop 1 before) ≡ drop (suc n) before
drop_next [] zero = refl
drop_next [] (suc n) = refl
drop_next (r ∷ before) n = refl

bounds_joined : (seen : Observed) (lens : List ℕ) (before : List SettledView) (cs ds : List (List Piece)) (rs qs : List SettledView) → AreSettled seen cs rs
    → bounds lens before (cs ++ ds) (rs ++ qs) ≡ bounds lens before cs rs + bounds lens (drop (length cs) before) ds qs
bounds_joined seen lens before [] ds [] qs h = omega arith
bounds_joined seen lens before [] ds (r ∷ rs) qs h = absurd h
bounds_joined seen lens before (c ∷ cs) ds [] qs h = absurd h
bounds_joined seen lens before (c ∷ cs) ds (r ∷ rs) qs h =
    let later = bounds_joined seen lens (drop 1 before) cs ds rs qs h.1 in
    let left = ap (λ left. bounds lens left ds qs) (drop_next before (length cs)) in
    omega (arith, later, left)

by_steps_joined : (seen : Observed) (before : List SettledView) (cs ds : List (List Piece)) (rs qs : List SettledView) → AreSettled seen cs rs
    → AreSettledBySteps before cs rs → AreSettledBySteps (drop (length cs) before) ds qs → AreSettledBySteps before (cs ++ ds) (rs ++ qs)
by_steps_joined seen before [] ds [] qs h left right = right
by_steps_joined seen before [] ds (r ∷ rs) qs h left right = absurd h
by_steps_joined seen before (c ∷ cs) ds [] qs h left right = absurd h
by_steps_joined seen before (c ∷ cs) ds (r ∷ rs) qs h left right =
    (left.0, by_steps_joined seen (drop 1 before) cs ds rs qs h.1 left.1 (subst (λ (rest : List SettledView). AreSettledBySteps rest ds qs) (sym (drop_next before (length cs))) right))

pub settles_none : (seen : Observed) (workers : ℕ) (round : RoundView) (steps : ℕ) → HasOrderSystem (clocks_seen seen) round → Settles seen workers round round (spent_of steps steps) []
settles_none seen workers round steps order =
    record { before = refl; added = []; settled = sym (append-nil round.settled); rows = tt; by_steps = tt; looks = λ one. omega arith; order = order }

pub settles_on : (seen : Observed) (workers : ℕ) (a b c : RoundView) (s t u : ℕ) (cs ds : List (List Piece))
    → Settles seen workers a b (spent_of s t) cs → Settles seen workers b c (spent_of t u) ds → Settles seen workers a c (spent_of s u) (cs ++ ds)
settles_on seen workers a b c s t u cs ds first second = record {
  before = second.before ∙ ap (drop (length ds)) first.before ∙ drop_both a.before (length cs) (length ds) ∙ ap (λ n. drop n a.before) (sym (length-append cs ds));
  added = first.added ++ second.added;
  settled = second.settled ∙ ap (λ rows. rows ++ second.added) first.settled ∙ append_assoc a.settled first.added second.added;
  rows = are_settled_joined seen cs ds first.added second.added first.rows second.rows;
  by_steps = by_steps_joined seen a.before cs ds first.added second.added first.rows first.by_steps
      (subst (λ (left : List SettledView). AreSettledBySteps left ds second.added) first.before second.by_steps);
  looks = λ one.
      let early = first.looks one in
      let late = second.looks one in
      let left = ap (λ left. bounds (lens_seen seen) left ds second.added) first.before in
      let both = bounds_joined seen (lens_seen seen) a.before cs ds first.added second.added first.rows in
      omega (arith, left, both);
  order = second.order;
}
  where
    drop_both : (rows : List SettledView) (m n : ℕ) → drop n (drop m rows) ≡ drop (m + n) rows
    drop_both rows m n = drop-drop n m rows

pub floors_left : (seen : Observed) (before : List SettledView) (cs ds : List (List Piece)) → AreFloors seen before (cs ++ ds) → AreFloors seen before cs
floors_left seen [] cs ds h = tt
floors_left seen (r ∷ before) [] ds h = tt
floors_left seen (r ∷ before) (c ∷ cs) ds h = (h.0, floors_left seen before cs ds h.1)

pub floors_right : (seen : Observed) (before : List SettledView) (cs ds : List (List Piece)) → AreFloors seen before (cs ++ ds) → AreFloors seen (drop (length cs) before) ds
floors_right seen [] [] ds h = h
floors_right seen [] (c ∷ cs) ds h = h
floors_right seen (r ∷ before) [] ds h = h
floors_right seen (r ∷ before) (c ∷ cs) ds h = floors_right seen before cs ds h.1
