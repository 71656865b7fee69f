-- The disjuncts of a range: what may be told of all of them may be told of these.
use Rattle.std.proofs.Common.{◌≡◌, ℕ, zero, suc, ◌+◌, ◌-◌, ◌<◌, ◌≤◌, List, [], ◌∷◌, ◌++◌, length, take, drop, min, get_or, refl, sym, ◌∙◌, ap, subst, arith, add-one, inl, inr}
use Rattle.std.proofs.lemmas.Bool.{cases_lt}
use Rattle.std.proofs.lemmas.List.Concat.{flat_map-cons}
use Rattle.std.proofs.lemmas.List.Elements.{All-append}
use Rattle.std.proofs.lemmas.List.{take-map, drop-map, length-map}
use Rattle.rctl_parts.specs.declared.part.Part.{Part}
use Rattle.rctl_parts.specs.Pieces.{Piece, pieces_of, disjuncts_of}
use Rattle.rctl_parts.specs.MadeFor.{Scope, AllFit, AreMadeFor, disjuncts_count}
use Rattle.asked_list.specs.Lists.{range_of}
use Rattle.asked_list.specs.declared.list.AskedRange.{AskedRange}
use Rattle.asked_list.specs.declared.list.Listed.{Listed}
use Rattle.part_pulls.specs.declared.observed.Observed.{Observed}
use Rattle.part_pulls.specs.Observing.{scope_seen}
use Rattle.part_pulls.specs.Counters.{AllRise, CountersRise, counters_of, counters_of_parts}
use Rattle.counter_preds.specs.Counters.{IsCounter}
use Rattle.part_pulls.proofs.Rising.{first_disjunct_rises, other_disjuncts_rise}
use Rattle.conjunctions.specs.Settling.{CanAnswer}
use Rattle.question_outcome.specs.declared.outcome.Outcome.{Outcome}
use Rattle.question_outcomes.specs.Telling.{IsOutcomeIn, IsOutcomeOf, AreOutcomes}

-- ---- lists of disjuncts

fit_take : (scope : Scope) (n : ℕ) (ds : List (List Piece)) → AllFit scope ds → AllFit scope (take n ds)
fit_take scope zero ds h = tt
fit_take scope (suc n) [] h = tt
fit_take scope (suc n) (d ∷ ds) h = (h.0, fit_take scope n ds h.1)

fit_drop : (scope : Scope) (n : ℕ) (ds : List (List Piece)) → AllFit scope ds → AllFit scope (drop n ds)
fit_drop scope zero ds h = h
fit_drop scope (suc n) [] h = tt
fit_drop scope (suc n) (d ∷ ds) h = fit_drop scope n ds h.1

count_take : (n : ℕ) (ds : List (List Piece)) → disjuncts_count (take n ds) ≤ disjuncts_count ds
count_take zero ds = omega arith
count_take (suc n) [] = omega arith
count_take (suc n) (d ∷ ds) = let rest = count_take n ds in omega arith

count_drop : (n : ℕ) (ds : List (List Piece)) → disjuncts_count (drop n ds) ≤ disjuncts_count ds
count_drop zero ds = omega arith
count_drop (suc n) [] = omega arith
count_drop (suc n) (d ∷ ds) = let rest = count_drop n ds in omega arith

length_take : (n : ℕ) (ds : List (List Piece)) → length (take n ds) ≤ length ds
length_take zero ds = omega arith
length_take (suc n) [] = omega arith
length_take (suc n) (d ∷ ds) = let rest = length_take n ds in omega arith

length_drop : (n : ℕ) (ds : List (List Piece)) → length (drop n ds) ≤ length ds
length_drop zero ds = omega arith
length_drop (suc n) [] = omega arith
length_drop (suc n) (d ∷ ds) = let rest = length_drop n ds in omega arith

none_rise : (seen : Observed) → CountersRise seen []
none_rise seen = λ k d there. absurd (omega arith)

both_rise : (seen : Observed) (d : List Piece) (ds : List (List Piece)) → AllRise seen (counters_of_parts d) → CountersRise seen ds → CountersRise seen (d ∷ ds)
both_rise seen d ds h k =
    subst (AllRise seen) (sym (flat_map-cons counters_of_parts d ds)) (All-append (IsCounter seen.trace.states) (counters_of_parts d) (counters_of ds) h k)

rise_take : (seen : Observed) (n : ℕ) (ds : List (List Piece)) → CountersRise seen ds → CountersRise seen (take n ds)
rise_take seen zero ds h = none_rise seen
rise_take seen (suc n) [] h = none_rise seen
rise_take seen (suc n) (d ∷ ds) h = both_rise seen d (take n ds) (first_disjunct_rises seen d ds h) (rise_take seen n ds (other_disjuncts_rise seen d ds h))

rise_drop : (seen : Observed) (n : ℕ) (ds : List (List Piece)) → CountersRise seen ds → CountersRise seen (drop n ds)
rise_drop seen zero ds h = h
rise_drop seen (suc n) [] h = none_rise seen
rise_drop seen (suc n) (d ∷ ds) h = rise_drop seen n ds (other_disjuncts_rise seen d ds h)

-- ---- a range

pub range_answers : (seen : Observed) (ds : List (List Piece)) → AreMadeFor (scope_seen seen) ds → (from to : ℕ) → CanAnswer seen (range_of from to ds)
range_answers seen ds made from to =
    let few = made.few in
    let parts = made.parts in
    record {
      fit = fit_take (scope_seen seen) (to - from) (drop from ds) (fit_drop (scope_seen seen) from ds made.fit);
      few = omega (arith, length_take (to - from) (drop from ds), length_drop from ds);
      parts = omega (arith, count_take (to - from) (drop from ds), count_drop from ds);
    }

pub range_rises : (seen : Observed) (ds : List (List Piece)) → CountersRise seen ds → (from to : ℕ) → CountersRise seen (range_of from to ds)
range_rises seen ds rise from to = rise_take seen (to - from) (drop from ds) (rise_drop seen from ds rise)

pub range_pieces : (disjuncts : List (List Part)) (from to : ℕ) → disjuncts_of (range_of from to disjuncts) ≡ range_of from to (disjuncts_of disjuncts)
range_pieces disjuncts from to = sym (take-map pieces_of (to - from) (drop from disjuncts)) ∙ ap (take (to - from)) (sym (drop-map pieces_of from disjuncts))

-- the range as far as it is there is the range, where that lies within
clamped : {A : Type 0} (xs : List A) (from to : ℕ) → to ≤ length xs → range_of (min from (min to (length xs))) (min to (length xs)) xs ≡ range_of from to xs
clamped xs from to within = elim (cases_lt to from) [
  | inl past ↦
      let none : to - from ≡ 0 = omega (arith, past) in
      let nothing : min to (length xs) - min from (min to (length xs)) ≡ 0 = omega (arith, past) in
      ap (λ (n : ℕ). take n (drop (min from (min to (length xs))) xs)) nothing ∙ sym (ap (λ (n : ℕ). take n (drop from xs)) none)
  | inr up ↦
      let last : min to (length xs) ≡ to = omega (arith, within) in
      let first : min from (min to (length xs)) ≡ from = omega (arith, within, up) in
      ap (λ (n : ℕ). range_of n (min to (length xs)) xs) first ∙ ap (λ (n : ℕ). range_of from n xs) last
]

pub outcome_in : (seen : Observed) (all : List (List Part)) (range : AskedRange) (o : Outcome) (asked : List (List Part))
    → asked ≡ range_of (min range.from (min range.to (length all))) (min range.to (length all)) all → IsOutcomeOf seen (disjuncts_of asked) range.form o → IsOutcomeIn seen (disjuncts_of all) range o
outcome_in seen all range o asked part is = λ reading are own asks.
    let within : range.to ≤ length all = omega (arith, asks.within, length-map all pieces_of) in
    is reading are own (ap disjuncts_of (part ∙ clamped all range.from range.to within) ∙ range_pieces all range.from range.to ∙ asks.asked)

-- ---- one question more

pub outcomes_more : (seen : Observed) (ds : List (List Piece)) (qs : List Listed) (os : List Outcome) (q : Listed) (o : Outcome) → AreOutcomes seen ds qs os → IsOutcomeIn seen ds q.range o
    → AreOutcomes seen ds (qs ++ q ∷ []) (os ++ o ∷ [])
outcomes_more seen ds [] [] q o h is = (is, tt)
outcomes_more seen ds [] (p ∷ os) q o h is = absurd h
outcomes_more seen ds (r ∷ qs) [] q o h is = absurd h
outcomes_more seen ds (r ∷ qs) (p ∷ os) q o h is = (h.0, outcomes_more seen ds qs os q o h.1 is)

pub questions_taken : (qs : List Listed) (i : ℕ) (d : Listed) → i < length qs → take (i + 1) qs ≡ take i qs ++ get_or qs i d ∷ []
questions_taken qs i d there = ap (λ (n : ℕ). take n qs) (add-one i) ∙ taken qs i d there
  where
    taken : (qs : List Listed) (i : ℕ) (d : Listed) → i < length qs → take (suc i) qs ≡ take i qs ++ get_or qs i d ∷ []
    taken [] i d there = absurd (omega arith)
    taken (p ∷ qs) zero d there = refl
    taken (p ∷ qs) (suc i) d there = ap (λ (ls : List Listed). p ∷ ls) (taken qs i d (omega arith))
