-- How many events of a batch each process has.
use Rattle.std.proofs.Common.{◌≡◌, ℕ, zero, suc, ◌+◌, ◌<◌, ◌≤◌, List, [], ◌∷◌, ◌++◌, length, map, take, get_or, set, sum, replicate, refl, sym, ap, ◌∙◌, subst, arith, length-append}
use Rattle.std.specs.List.{AllByRecursion}
use Rattle.std.proofs.lemmas.List.{take_more, length-take}
use Rattle.pota_base.specs.Limits.{most_processes}
use Rattle.event_log.specs.declared.log.Event.{Event}
use Rattle.event_log.specs.States.{HistoryView, with_batch}
use Rattle.event_log.specs.inside.States.{HasRoom}
use Rattle.event_log.proofs.Growing.{with_batch-push}
use Rattle.event_log.proofs.Keeping.{item_le_sum, sum_batch}

-- how many events each of 32 processes has in a batch
abbrev pub counts_of : List Event → List ℕ
counts_of batch = map length (with_batch (replicate most_processes []) batch)

pub counts_none : (batch : List Event) → replicate most_processes 0 ≡ counts_of (take 0 batch)
unfolding with_batch
counts_none batch = refl

lens_one : (ess : List (List Event)) (p : ℕ) (e : Event) → map length (set ess p (get_or ess p [] ++ e ∷ [])) ≡ set (map length ess) p (get_or (map length ess) p 0 + 1)
lens_one [] p e = refl
lens_one (es ∷ ess) zero e = ap (λ (n : ℕ). n ∷ map length ess) (length-append es (e ∷ []))
lens_one (es ∷ ess) (suc p) e = ap (λ (lens : List ℕ). length es ∷ lens) (lens_one ess p e)

pub counts_more : (batch : List Event) (i : ℕ) (e : Event) (counts : List ℕ) → counts ≡ counts_of (take i batch) → i < length batch → e ≡ get_or batch i e
    → set counts e.process (get_or counts e.process 0 + 1) ≡ counts_of (take (i + 1) batch)
counts_more batch i e counts h lt at =
    ap (λ (cs : List ℕ). set cs e.process (get_or cs e.process 0 + 1)) h
    ∙ sym (ap counts_of (take_more batch i e lt ∙ ap (λ (x : Event). take i batch ++ x ∷ []) (sym at))
    ∙ ap (map length) (with_batch-push (replicate most_processes []) (take i batch) e) ∙ lens_one (with_batch (replicate most_processes []) (take i batch)) e.process e)

-- a count so far is below all events
pub count_few : (batch : List Event) (i p : ℕ) (counts : List ℕ) → counts ≡ counts_of (take i batch) → get_or counts p 0 ≤ length batch
count_few batch i p counts h =
    let all : get_or (counts_of (take i batch)) p 0 ≤ sum (counts_of (take i batch)) = item_le_sum (counts_of (take i batch)) p in
    let none : sum (map (length {A = Event}) (replicate most_processes [])) ≡ 0 = refl in
    omega (arith, ap (λ (cs : List ℕ). get_or cs p 0) h, all, sum_batch (replicate most_processes []) (take i batch), none, length-take i batch)

pub process_within : (procs : ℕ) (batch : List Event) (i : ℕ) (e : Event) → AllByRecursion (λ (x : Event). x.process < procs) batch → i < length batch → e ≡ get_or batch i e → e.process < procs
process_within procs [] i e all lt at = absurd (omega arith)
process_within procs (x ∷ batch) zero e all lt at = subst (λ (y : Event). y.process < procs) (sym at) all.0
process_within procs (x ∷ batch) (suc i) e all lt at = process_within procs batch i e all.1 (omega arith) at

pub room_within : (hs : List HistoryView) (batch : List Event) → length hs ≤ most_processes → AllByRecursion (HasRoom hs) batch → AllByRecursion (λ (e : Event). e.process < most_processes) batch
room_within hs [] few all = tt
room_within hs (e ∷ batch) few all = (omega (arith, all.0.process), room_within hs batch few all.1)
