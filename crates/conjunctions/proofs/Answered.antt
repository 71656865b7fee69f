-- The disjuncts of a formula, one after the other.
use Rattle.std.proofs.Common.{◌≡◌, ◌⊎◌, ℕ, suc, zero, ◌+◌, ◌≤◌, Bool, true, false, List, [], ◌∷◌, ◌++◌, length, take, drop, get_or, sum, replicate, Option, Some, None, refl, sym, ◌∙◌, ap, subst, arith, append_assoc, append-nil, inl, inr, rules}
use Rattle.std.specs.Prelude.{◌↔◌, ◌||◌, IsTrue}
use Rattle.std.proofs.lemmas.Grind.{flat_map-append}
use Rattle.std.proofs.lemmas.List.Concat.{flat_map-cons}
use Rattle.std.proofs.lemmas.List.{length-replicate}
use Rattle.run_model.specs.Cut.{Cut, Clocks, initial, lengths}
use Rattle.run_model.specs.Consistent.{IsOrder}
use Rattle.run_model.specs.Sublattice.{Smallest, Either}
use Rattle.run_model.specs.Slice.{StandsFor, Cuts, IsLeastOf, HasWithin}
use Rattle.run_model.specs.Meaning.{Sat, Family}
use Rattle.run_model.proofs.Orders.{initial_consistent}
use Rattle.meaning_laws.proofs.JoinLemmas.{smallest_in}
use Rattle.slice_workers.specs.Spent.{spent_of}
use Rattle.slice_workers.specs.Views.{SettledView}
use Rattle.slice_graph.specs.Views.{SliceView, slice_of, no_row}
use Rattle.slice_graph.specs.Fitting.{FitsOrder}
use Rattle.rctl_parts.specs.Pieces.{Piece}
use Rattle.rctl_parts.specs.Spelled.{disjunction_of}
use Rattle.part_pulls.specs.declared.observed.Observed.{Observed}
use Rattle.conjunctions.specs.declared.answer.PartAnswer.{PartAnswer}
use Rattle.conjunctions.specs.declared.answer.Answer.{Answer}
use Rattle.part_pulls.specs.Observing.{Reading, AreAnswers, clocks_seen, lens_seen, run_seen, names_seen}
use Rattle.conjunctions.specs.Numbering.{conjunctions_in, all_conjunctions}
use Rattle.conjunctions.specs.Rounds.{RoundView, HasOrderSystem}
use Rattle.conjunctions.specs.Settling.{AreFloors, Settles}
use Rattle.conjunctions.specs.Answering.{IsSliceOf, IsAnswer, places_from, all_places}
use Rattle.conjunctions.specs.Answering.{ArePartAnswers}
use Rattle.conjunctions.specs.inside.Answering.{AddsAnswers}
use Rattle.conjunctions.proofs.InTurn.{settles_none, settles_on, floors_left, floors_right}
use Rattle.conjunctions.proofs.Adding.{answers_none, answers_more}
use Rattle.graft.specs.Joined.{min_rows, joined_views}
use Rattle.graft.proofs.Joining.{joined_fits, joined_stands_for}
use Rattle.std.specs.Prelude.{IfSome}
use Rattle.conjunctions.specs.inside.Joining.{so_far}
use Rattle.conjunctions.proofs.Joining.{some_joined, joined_more}

-- what stands once these disjuncts were settled
pub record Answered (seen : Observed) (workers : ℕ) (round now : RoundView) (steps steps_now : ℕ) (parts : List PartAnswer) (holds : Bool) (slice : SliceView) (ds : List (List Piece)) : Type 0 where
  pub settles : Settles seen workers round now (spent_of steps steps_now) (all_conjunctions ds)
  pub told : AddsAnswers seen [] parts (all_places 1 ds)
  pub truth : (reading : Reading) → AreAnswers seen reading → IsTrue holds ↔ Sat (run_seen seen reading) (disjunction_of (names_seen seen reading) ds) (initial (clocks_seen seen))
  pub fits : FitsOrder (clocks_seen seen) slice
  pub stands : (reading : Reading) → AreAnswers seen reading
      → StandsFor (clocks_seen seen) (slice_of slice) (Smallest (Family (run_seen seen reading) (disjunction_of (names_seen seen reading) ds)))

-- ---- no disjunct

none_at : (n r : ℕ) → get_or (replicate n no_row) r no_row ≡ no_row
none_at zero r = refl
none_at (suc n) zero = refl
none_at (suc n) (suc r) = none_at n r

-- a slice without rows stands for a set without members
stands_empty : (o : Clocks) (lens : List ℕ) (n : ℕ) (A : Cut → Type 0) → ((c : Cut) → A c → ⊥) → StandsFor o (slice_of (record { lens = lens; rows = replicate n no_row })) A
stands_empty o lens n A none = record {
  bottom = subst (IsLeastOf A) (sym (none_at n 0)) none;
  rows = λ i a there. subst (IsLeastOf (λ c. A c × (a ≤ get_or c i 0))) (sym (none_at n (sum (take i lens) + a))) (λ c h. none c h.0);
}

empty_fits : (o : Clocks) (slice : SliceView) → slice ≡ record { lens = lengths o; rows = replicate (sum (lengths o) + 1) no_row } → FitsOrder o slice
empty_fits o slice is = subst (FitsOrder o) (sym is) (record {
  shape = refl;
  count = length-replicate {A = Option Cut} (sum (lengths o) + 1) no_row;
  stands = stands_empty o (lengths o) (sum (lengths o) + 1) _ (λ c h. subst (λ (row : Option Cut). HasWithin row c) (none_at (sum (lengths o) + 1) 0) h.from_bottom);
})

pub answered_none : (seen : Observed) (workers : ℕ) (round : RoundView) (steps : ℕ) (slice : SliceView) → slice ≡ record { lens = lens_seen seen; rows = replicate (sum (lens_seen seen) + 1) no_row }
    → HasOrderSystem (clocks_seen seen) round → Answered seen workers round round steps steps [] false slice []
answered_none seen workers round steps slice is order = record {
  settles = settles_none seen workers round steps order;
  told = answers_none seen [];
  truth = λ reading are. (λ h. absurd (cc), λ h. absurd h);
  fits = empty_fits (clocks_seen seen) slice is;
  stands = λ reading are.
      subst (λ (s : SliceView). StandsFor (clocks_seen seen) (slice_of s) (Smallest (Family (run_seen seen reading) (disjunction_of (names_seen seen reading) [])))) (sym is)
      (stands_empty (clocks_seen seen) (lens_seen seen) (sum (lens_seen seen) + 1) (Smallest (Family (run_seen seen reading) (disjunction_of (names_seen seen reading) [])))
      (smallest_in (Family (run_seen seen reading) (disjunction_of (names_seen seen reading) [])) (λ c. ⊥) (λ c h. h.1) (λ c d h k. h) (λ c d h k. h)));
}

-- ---- one disjunct more

conjunctions_more : (ds : List (List Piece)) (d : List Piece) → all_conjunctions (ds ++ d ∷ []) ≡ all_conjunctions ds ++ conjunctions_in d
conjunctions_more ds d = flat_map-append conjunctions_in ds (d ∷ []) ∙ ap (λ cs. all_conjunctions ds ++ cs) (flat_map-cons conjunctions_in d [] ∙ append-nil (conjunctions_in d))

places_more : (k : ℕ) (ds : List (List Piece)) (d : List Piece) → all_places k (ds ++ d ∷ []) ≡ all_places k ds ++ places_from (k + length ds) 1 d
places_more k [] d = append-nil (places_from k 1 d) ∙ ap (λ j. places_from j 1 d) (omega arith)
places_more k (e ∷ ds) d =
    ap (λ places. places_from k 1 e ++ places) (places_more (k + 1) ds d) ∙ sym (append_assoc (places_from k 1 e) (all_places (k + 1) ds) (places_from (k + 1 + length ds) 1 d))
    ∙ ap (λ j. (places_from k 1 e ++ all_places (k + 1) ds) ++ places_from j 1 d) (omega arith)

either_true : (a b : Bool) → IsTrue (a || b) ↔ (IsTrue a ⊎ IsTrue b)
either_true true b = (λ h. inl refl, λ h. refl)
either_true false b = (inr, λ h. elim h [ inl left ↦ absurd (cc) | inr right ↦ right ])

-- a disjunct's own slice has the initial cut exactly where all of its parts are true there
first_holds : (seen : Observed) (one : SliceView) (d : List Piece) (holds : Bool) → IsSliceOf seen one d → IsTrue holds ↔ Cuts (clocks_seen seen) (slice_of one) (initial (clocks_seen seen))
    → (reading : Reading) → AreAnswers seen reading → IsTrue holds ↔ Sat (run_seen seen reading) (disjunction_of (names_seen seen reading) (d ∷ [])) (initial (clocks_seen seen))
first_holds seen one d holds is has reading are =
    let cuts = is.cuts reading are (initial (clocks_seen seen)) in
    (λ h. inl (cuts.0 (has.0 h)).1, λ h. elim h [ inl here ↦ has.1 (cuts.1 (initial_consistent (clocks_seen seen), here)) | inr nothing ↦ absurd nothing ])

pub answered_more : (seen : Observed) → IsOrder (clocks_seen seen) → (workers : ℕ) (round now next : RoundView) (s t u : ℕ) (parts more : List PartAnswer) (truth holds : Bool) (slice one joined : SliceView)
    (ds : List (List Piece)) (d : List Piece) → Answered seen workers round now s t parts truth slice ds → Settles seen workers now next (spent_of t u) (conjunctions_in d)
    → AddsAnswers seen parts more (places_from (1 + length ds) 1 d) → IsSliceOf seen one d → IsTrue holds ↔ Cuts (clocks_seen seen) (slice_of one) (initial (clocks_seen seen))
    → FitsOrder (clocks_seen seen) joined → StandsFor (clocks_seen seen) (slice_of joined) (Smallest (Either (Cuts (clocks_seen seen) (slice_of slice)) (Cuts (clocks_seen seen) (slice_of one))))
    → Answered seen workers round next s u more (truth || holds) joined (ds ++ d ∷ [])
answered_more seen order workers round now next s t u parts more truth holds slice one joined ds d before settles told is has fits stands = record {
  settles = subst (Settles seen workers round next (spent_of s u)) (sym (conjunctions_more ds d)) (settles_on seen workers round now next s t u (all_conjunctions ds) (conjunctions_in d) before.settles settles);
  told = subst (AddsAnswers seen [] more) (sym (places_more 1 ds d)) (answers_more seen [] parts more (all_places 1 ds) (places_from (1 + length ds) 1 d) before.told told);
  truth = λ reading are.
      let either = either_true truth holds in
      let some = some_joined (run_seen seen reading) (names_seen seen reading) ds (d ∷ []) (initial (clocks_seen seen)) in
      let first = before.truth reading are in
      let last = first_holds seen one d holds is has reading are in (
        λ h. some.1 (elim (either.0 h) [ inl left ↦ inl (first.0 left) | inr right ↦ inr (last.0 right) ]),
        λ h. either.1 (elim (some.0 h) [ inl left ↦ inl (first.1 left) | inr right ↦ inr (last.1 right) ]),
      );
  fits = fits;
  stands = λ reading are.
      joined_more (run_seen seen reading) (names_seen seen reading) order ds d (slice_of slice) (slice_of one) (slice_of joined) (before.stands reading are) (is.cuts reading are) stands;
}

-- ---- the slice so far

-- rows without cuts change no row
min_none : (ks : List (Option Cut)) (n : ℕ) → length ks ≡ n → min_rows (replicate n no_row) ks ≡ ks
min_none [] zero h = refl
min_none [] (suc n) h = absurd (omega (arith, h))
min_none (k ∷ ks) zero h = absurd (omega (arith, h))
min_none (k ∷ ks) (suc n) h = ap (λ (rows : List (Option Cut)). k ∷ rows) (min_none ks n (omega (arith, h)))

-- the slice of the first disjunct is joined to nothing
pub first_alone : (one : SliceView) → length one.rows ≡ sum one.lens + 1 → one ≡ joined_views (so_far one.lens None) one
first_alone one size = ap (λ (rows : List (Option Cut)). record { lens = one.lens; rows = rows }) (sym (min_none one.rows (sum one.lens + 1) size))

pub record Joins (o : Clocks) (slice one joined : SliceView) : Type 0 where
  pub fits : FitsOrder o joined
  pub stands : StandsFor o (slice_of joined) (Smallest (Either (Cuts o (slice_of slice)) (Cuts o (slice_of one))))

-- the slice of one disjunct more, as the code joins it
pub joins : (o : Clocks) → IsOrder o → (before : Option SliceView) (one joined : SliceView) → FitsOrder o (so_far (lengths o) before) → FitsOrder o one
    → joined ≡ joined_views (so_far one.lens before) one → Joins o (so_far (lengths o) before) one joined
joins o order before one joined f g is =
    let slice : SliceView = so_far (lengths o) before in
    let at : joined ≡ joined_views slice one = is ∙ ap (λ (lens : List ℕ). joined_views (so_far lens before) one) g.shape in
    let same : slice.lens ≡ one.lens = f.shape ∙ sym g.shape in
    record {
      fits = subst (FitsOrder o) (sym at) (joined_fits o order slice one same f g);
      stands = subst (λ (s : SliceView). StandsFor o (slice_of s) (Smallest (Either (Cuts o (slice_of slice)) (Cuts o (slice_of one))))) (sym at) (joined_stands_for o slice one same f g);
    }

-- what was joined has the lengths of the next slice
pub same_lens : (o : Clocks) (before : Option SliceView) (one : SliceView) → FitsOrder o (so_far (lengths o) before) → FitsOrder o one → IfSome before (λ slice. slice.lens ≡ one.lens)
same_lens o None one f g = search rules
same_lens o (Some slice) one f g = f.shape ∙ sym g.shape

pub answered_all : (seen : Observed) (workers : ℕ) (round now : RoundView) (s t : ℕ) (answer : Answer) (ds : List (List Piece)) → answer.batch ≡ seen.trace.batches
    → Answered seen workers round now s t answer.parts answer.truth answer.slice ds → IsAnswer seen ds answer
answered_all seen workers round now s t answer ds batch is = record {
  of_batch = batch;
  truth = is.truth;
  fits = is.fits;
  stands = is.stands;
  parts = subst (ArePartAnswers seen (all_places 1 ds)) (sym is.told.is) is.told.answers;
}

-- ---- the rows that the next disjunct may begin from

pub disjunct_floors : (seen : Observed) (workers : ℕ) (round now : RoundView) (s t : ℕ) (ds : List (List Piece)) (d : List Piece) (later : List (List Piece))
    → AreFloors seen round.before (all_conjunctions (ds ++ d ∷ later)) → Settles seen workers round now (spent_of s t) (all_conjunctions ds) → AreFloors seen now.before (conjunctions_in d)
disjunct_floors seen workers round now s t ds d later floors settles =
    let behind = floors_right seen round.before (all_conjunctions ds) (conjunctions_in d ++ all_conjunctions later) (subst (AreFloors seen round.before) split floors) in
    subst (λ (before : List SettledView). AreFloors seen before (conjunctions_in d)) (sym settles.before)
    (floors_left seen (drop (length (all_conjunctions ds)) round.before) (conjunctions_in d) (all_conjunctions later) behind)
  where
    split : all_conjunctions (ds ++ d ∷ later) ≡ all_conjunctions ds ++ (conjunctions_in d ++ all_conjunctions later)
    split = flat_map-append conjunctions_in ds (d ∷ later) ∙ ap (λ cs. all_conjunctions ds ++ cs) (flat_map-cons conjunctions_in d later)
