-- Feeding a watch state by state.
use Rattle.std.proofs.Common.{◌≡◌, ℕ, ◌+◌, ◌<◌, ◌≤◌, ℤ, Bool, List, [], ◌∷◌, ◌++◌, length, take, drop, set, get_or, refl, ap, sym, ◌∙◌, arith}
use Rattle.std.proofs.lemmas.List.{length-map, length-set, take-set-le, take_more_set, take_all, drop_more, append_assoc}
use Rattle.std.proofs.Math.Seq.{drop-length}
use Rattle.run_model.proofs.TraceLemmas.{length-states_from}
use Rattle.run_model.specs.Run as run
use Rattle.event_log.specs.States.{StatesView, AreWhole, event_of, trace_of}
use Rattle.event_log.proofs.Keeping.{process_is}
use Rattle.local_preds.specs.Rows.{len_at}
use Rattle.watch_feeding.specs.Fed.{states_at, IsFed}

-- what a watch would answer to states
abbrev pub Answering : Type 0
Answering = List (List ℤ) → List Bool

-- a process has one state more than events
pub length-states_at : (states : StatesView) (p : ℕ) → AreWhole states → p < length states.events → length (states_at states p) ≡ len_at states p + 1
length-states_at states p whole there =
    let h = states.header in
    let is = process_is h.procs h.vars states.events p (omega (arith, whole.events)) (omega (arith, whole.events, whole.header.vars)) there in
    length-states_from (run.opening_state (run.process_at (trace_of states) p)) (run.process_at (trace_of states) p).events
    ∙ ap (λ (q : run.Process). length q.events + 1) is ∙ ap (λ (n : ℕ). n + 1) (length-map (get_or states.events p []) event_of)

-- the states from one number up to another were fed, and the answers stand in the row
pub record FedSoFar (states : List (List ℤ)) (from position : ℕ) (old_row : List Bool) (before : Answering) (row : List Bool) (now : Answering) : Type 0 where
  pub since : from ≤ position
  pub until : position ≤ length states
  pub len : length row ≡ length old_row
  pub kept : take from row ≡ take from old_row
  pub fed : (rest : List (List ℤ)) → take from old_row ++ before (drop from states ++ rest) ≡ take position row ++ now (drop position states ++ rest)

pub fed_none : (states : List (List ℤ)) (from : ℕ) (row : List Bool) (before : Answering) → from ≤ length states → FedSoFar states from from row before row before
fed_none states from row before within = record { since = omega arith; until = within; len = refl; kept = refl; fed = λ rest. refl }

pub fed_more : (states : List (List ℤ)) (from position : ℕ) (old_row : List Bool) (before : Answering) (row : List Bool) (now : Answering) (state : List ℤ) (answer : Bool) (next_row : List Bool) (next : Answering)
    → FedSoFar states from position old_row before row now → position < length states → position < length row
    → state ≡ get_or states position [] → next_row ≡ set row position answer → ((rest : List (List ℤ)) → now (state ∷ rest) ≡ answer ∷ next rest)
    → FedSoFar states from (position + 1) old_row before next_row next
fed_more states from position old_row before row now state answer next_row next so_far here place is put feeds = record {
  since = let h = so_far.since in omega arith;
  until = omega arith;
  len = ap (λ (r : List Bool). length r) put ∙ length-set row position answer ∙ so_far.len;
  kept = ap (take from) put ∙ take-set-le from row position answer so_far.since ∙ so_far.kept;
  fed = λ rest.
      so_far.fed rest ∙ ap (λ (ss : List (List ℤ)). take position row ++ now (ss ++ rest)) (drop_more states position [] here)
      ∙ ap (λ (s : List ℤ). take position row ++ now (s ∷ (drop (position + 1) states ++ rest))) (sym is)
      ∙ ap (λ (bs : List Bool). take position row ++ bs) (feeds (drop (position + 1) states ++ rest))
      ∙ sym (append_assoc (take position row) (answer ∷ []) (next (drop (position + 1) states ++ rest)))
      ∙ ap (λ (bs : List Bool). bs ++ next (drop (position + 1) states ++ rest)) (sym (ap (take (position + 1)) put ∙ take_more_set row position answer place));
}

pub fed_all : (states : List (List ℤ)) (from position : ℕ) (old_row : List Bool) (before : Answering) (row : List Bool) (now : Answering)
    → FedSoFar states from position old_row before row now → position ≡ length states → length old_row ≡ length states
    → IsFed (take from old_row) (drop from states) before row now
fed_all states from position old_row before row now so_far end full rest =
    so_far.fed rest
    ∙ ap (λ (ss : List (List ℤ)). take position row ++ now (ss ++ rest)) (ap (λ (n : ℕ). drop n states) end ∙ drop-length states)
    ∙ ap (λ (bs : List Bool). bs ++ now rest) (take_all position row (let l = so_far.len in omega arith))

-- the same, when the first truths of the row are all that it had
pub fed_behind : (states : List (List ℤ)) (from : ℕ) (first old_row : List Bool) (before : Answering) (row : List Bool) (now : Answering) → first ≡ old_row → from ≡ length old_row
    → IsFed first (drop from states) before row now → IsFed old_row (drop (length old_row) states) before row now
fed_behind states from first old_row before row now are size fed rest =
    ap (λ (r : List Bool). r ++ before (drop (length old_row) states ++ rest)) (sym are) ∙ ap (λ (n : ℕ). first ++ before (drop n states ++ rest)) (sym size) ∙ fed rest
