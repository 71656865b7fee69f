-- The first fault, source by source.
use Rattle.std.proofs.Common.{◌≡◌, ℕ, zero, suc, ◌+◌, ◌-◌, ◌<◌, ◌≤◌, Bool, cond, Option, Some, None, List, [], ◌∷◌, ◌++◌, length, take, drop, get_or, replicate, refl, sym, ap, ◌∙◌, subst, arith, append_assoc, inl, inr}
use Rattle.std.specs.Prelude.{◌==◌, slice_get}
use Rattle.std.specs.List.{AllByRecursion}
use Rattle.std.specs.Option.{option_map, option_or}
use Rattle.std.proofs.lemmas.Bool.{cases_Bool, eq-eqb}
use Rattle.std.proofs.lemmas.List.{append-nil, length-append, take-append-drop, take_all, get_or-replicate}
use Rattle.std.proofs.Math.ListN.{length-set}
use Rattle.std.proofs.lemmas.List.Elements.{All-from_recursion}
use Rattle.std.proofs.lemmas.List.Sums.{sum_by-cons, sum_by-append}
use Rattle.std.proofs.lemmas.Option.{none-some}
use Rattle.pota_base.specs.Limits.{most_events, most_processes, most_sources}
use Rattle.log_lines.specs.Reading.{choose}
use Rattle.event_log.specs.declared.log.Binding.{Binding}
use Rattle.event_log.specs.declared.log.Event.{Event}
use Rattle.event_log.specs.declared.log.Header.{Header}
use Rattle.event_log.specs.declared.log.Log.{Log}
use Rattle.event_log.specs.Before.{lines_from}
use Rattle.event_log.specs.LogText.{EventFits}
use Rattle.event_log.proofs.Lists.{all_append}
use Rattle.log_merge.specs.declared.fault.Found.{Found}
use Rattle.fault_kinds.specs.declared.merge.MergeCode.TheVariants as code
use Rattle.log_merge.specs.declared.seen.Seen.{Seen}
use Rattle.log_merge.specs.declared.seen.Seen.TheVariants.{Nothing, One, Two}
use Rattle.log_merge.specs.Sources.{IsSource, OwnLine, own_vars_lines, own_event_lines, all_events}
use Rattle.log_merge.specs.Sources.{events_of, own_lines, another, seen_of, line_at, events_in}
use Rattle.log_merge.specs.Faults.{differs, not_alone, one_too_many, source_fault, placed, fault_from, merge_fault, found}
use Rattle.fault_kinds.specs.declared.merge.MergeFault.{MergeFault}
use Rattle.log_merge.specs.declared.judging.Joined.{Joined}
use Rattle.log_merge.specs.Owners.{IsOwner, AreOwners, IsJudged, HasJoined}
use Rattle.log_merge.specs.inside.Owners.{IsOfAProcess, with_owner}
use Rattle.log_merge.proofs.Lists.{item_at, item_taken}
use Rattle.log_merge.proofs.Owned.{owners_more, no_owners}

pub all_at : {A : Type 0} (P : A → Type 0) (xs : List A) (i : ℕ) (x : A) → AllByRecursion P xs → i < length xs → x ≡ get_or xs i x → P x
all_at P xs i x all lt is = subst P (sym is) (All-from_recursion P xs all i x lt)

-- ---- a source's lines are of its processes

abbrev IsLow : OwnLine → Type 0
IsLow l = l.process < most_processes

vars_low : (p : ℕ) (lines : List ℕ) → p + length lines ≤ most_processes → AllByRecursion IsLow (own_vars_lines p lines)
vars_low p [] few = tt
vars_low p (line ∷ lines) few = elim (cases_Bool (line == 0)) [
  | inl none ↦ rw none (vars_low (p + 1) lines (omega arith))
  | inr some ↦ rw some (omega arith, vars_low (p + 1) lines (omega arith))
]

events_low : (h : Header) (es : List Event) → length h.procs ≤ most_processes → AllByRecursion (EventFits h) es → AllByRecursion IsLow (own_event_lines es)
events_low h [] few fit = tt
events_low h (e ∷ es) few fit = (omega (arith, few, fit.0.process), events_low h es few fit.1)

length-lines_from : (n : ℕ) (vars : List (List Binding)) → length (lines_from n vars) ≡ length vars
length-lines_from n [] = refl
length-lines_from n ([] ∷ vars) = ap suc (length-lines_from n vars)
length-lines_from n ((b ∷ bs) ∷ vars) = ap suc (length-lines_from (n + 1) vars)

pub few_lines : (s : Log) → IsSource s → length s.header.var_lines ≤ most_processes
few_lines s source = omega (arith, ap length source.lines, length-lines_from 3 s.header.vars, source.header.all, source.header.procs.few)

low_seen : (ls : List OwnLine) → AllByRecursion IsLow ls → IsOfAProcess (seen_of ls)
low_seen [] all = tt
low_seen (l ∷ ls) all = go (another l.process ls)
  where
    go : (o : Option OwnLine) → IsOfAProcess (choose o (λ (k : OwnLine). Two k.line) (One l.process l.line))
    go None = all.0
    go (Some k) = tt

pub seen_within : (s : Log) (seen : Seen) → IsSource s → seen ≡ seen_of (own_lines s) → IsOfAProcess seen
seen_within s seen source is =
    subst IsOfAProcess (sym is) (low_seen (own_lines s) (all_append IsLow (own_vars_lines 0 s.header.var_lines) (own_event_lines (events_of s)) (vars_low 0 s.header.var_lines (omega (arith, few_lines s source))) (events_low s.header (events_of s) source.header.procs.few source.events)))

-- ---- a source without a fault

pub or_nothing : {A : Type 0} (a b : Option A) → option_or a b ≡ None → (a ≡ None) × (b ≡ None)
or_nothing None b e = (refl, e)
or_nothing (Some x) b e = absurd (none-some x (sym e))

pub map_nothing : {A B : Type 0} (f : A → B) (o : Option A) → option_map f o ≡ None → o ≡ None
map_nothing f None e = refl
map_nothing f (Some x) e = absurd (none-some (f x) (sym e))

get_nothing : {A : Type 0} (xs : List A) (i : ℕ) → slice_get xs i ≡ None → length xs ≤ i
get_nothing [] i e = omega arith
get_nothing (x ∷ xs) zero e = absurd (none-some x (sym e))
get_nothing (x ∷ xs) (suc i) e = omega (arith, get_nothing xs i e)

not_last : (before : List Log) → one_too_many before ≡ None → length before ≡ most_sources → ⊥
not_last before e is = none-some _ (sym (sym (ap (λ (b : Bool). cond b (found code.TooManySources 1) None) (eq-eqb (length before) most_sources is)) ∙ e))

pub record IsFine (before : List Log) (s : Log) : Type 0 where
  pub same : differs before s ≡ None
  pub alone : not_alone before (seen_of (own_lines s)) ≡ None
  pub few : length before ≡ most_sources → ⊥
  pub small : length (events_of s) ≤ most_events - events_in before

pub fine : (before : List Log) (s : Log) → source_fault before s ≡ None → IsFine before s
fine before s e =
    let last = or_nothing _ _ e in
    let third = or_nothing _ _ last.0 in
    let second = or_nothing _ _ third.0 in
    let line = map_nothing _ (line_at (most_events - events_in before) (events_of s)) last.1 in
    record {
      same = second.0;
      alone = second.1;
      few = not_last before third.1;
      small = get_nothing (events_of s) (most_events - events_in before) (map_nothing _ (slice_get (events_of s) (most_events - events_in before)) line);
    }

-- ---- one source more

fault_next : (before rest : List Log) (s : Log) → source_fault before s ≡ None → fault_from before (s ∷ rest) ≡ fault_from (before ++ s ∷ []) rest
unfolding fault_from
fault_next before rest s e = rw e refl

fault_here : (before rest : List Log) (s : Log) (f : Found) → source_fault before s ≡ Some f → fault_from before (s ∷ rest) ≡ Some (placed (length before + 1) f)
unfolding fault_from
fault_here before rest s f e = rw e refl

fault_done : (before : List Log) → fault_from before [] ≡ None
unfolding fault_from
fault_done before = refl

-- the faults of sources behind those that have none
fault_behind : (before xs ys : List Log) → fault_from before xs ≡ None → fault_from before (xs ++ ys) ≡ fault_from (before ++ xs) ys
fault_behind before [] ys none = ap (λ (b : List Log). fault_from b ys) (sym (append-nil before))
fault_behind before (x ∷ xs) ys none = go (source_fault before x) refl (λ free. fault_behind (before ++ x ∷ []) xs ys free)
  where
    go : (o : Option Found) → source_fault before x ≡ o → (fault_from (before ++ x ∷ []) xs ≡ None → fault_from (before ++ x ∷ []) (xs ++ ys) ≡ fault_from ((before ++ x ∷ []) ++ xs) ys) → fault_from before ((x ∷ xs) ++ ys) ≡ fault_from (before ++ x ∷ xs) ys
    go (Some f) e rest = absurd (none-some _ (sym none ∙ fault_here before xs x f e))
    go None e rest = fault_next before (xs ++ ys) x e ∙ rest (sym (fault_next before xs x e) ∙ none) ∙ ap (λ (b : List Log). fault_from b ys) (append_assoc before (x ∷ []) xs)

-- one source more without a fault
pub none_more : (before : List Log) (s : Log) → merge_fault before ≡ None → source_fault before s ≡ None → merge_fault (before ++ s ∷ []) ≡ None
none_more before s none more = fault_behind [] before (s ∷ []) none ∙ fault_next before [] s more ∙ fault_done (before ++ s ∷ [])

pub events_in-push : (before : List Log) (s : Log) → events_in (before ++ s ∷ []) ≡ events_in before + length (events_of s)
events_in-push before s =
    let size : Log → ℕ = λ (x : Log). length (events_of x) in
    omega (arith, sum_by-append size before (s ∷ []), sum_by-cons size s [])

pub none_joined : (owners : List (Option ℕ)) → length owners ≡ most_processes → owners ≡ replicate most_processes None → HasJoined (record { owners = owners; count = 0 }) []
none_joined owners long is = record {
  judged = record { none = fault_done []; owners_are = λ p lt. subst (IsOwner [] p) (sym (ap (λ (os : List (Option ℕ)). get_or os p None) is ∙ get_or-replicate {A = Option ℕ} most_processes p None None lt)) (no_owners p); few = omega arith };
  count_is = refl;
  few = omega arith;
  long = long;
}

length-with_owner : (owners : List (Option ℕ)) (seen : Seen) (k : ℕ) → length (with_owner owners seen k) ≡ length owners
length-with_owner owners Nothing k = refl
length-with_owner owners (One process line) k = length-set owners process (Some k)
length-with_owner owners (Two line) k = refl

pub one_joined : (before : List Log) (s : Log) (old new : Joined) (n : ℕ) (seen : Seen) → IsSource s → HasJoined old before → seen ≡ seen_of (own_lines s) → source_fault before s ≡ None → new.owners ≡ with_owner old.owners seen (length before + 1) → n ≡ length (events_of s) → new.count ≡ old.count + n
    → HasJoined new (before ++ s ∷ [])
one_joined before s old new n seen source has seen_is none made size count =
    let ok = fine before s none in
    let few : length before + 1 ≤ most_sources = omega (arith, has.few, λ (e : length before ≡ most_sources). ok.few e) in
    let events = events_in-push before s in
    record {
      judged = record {
        none = none_more before s has.judged.none none;
        owners_are = subst (AreOwners (before ++ s ∷ [])) (sym made) (owners_more before s old.owners seen (length before + 1) source seen_is (seen_within s seen source seen_is) refl has.long ok.alone has.judged.owners_are);
        few = omega (arith, events, ok.small, has.judged.few);
      };
      count_is = omega (arith, events, has.count_is, count, size);
      few = omega (arith, length-append before (s ∷ []), few);
      long = ap length made ∙ length-with_owner old.owners seen (length before + 1) ∙ has.long;
    }

-- ---- all sources

pub judged_fault : (sources : List Log) (i : ℕ) (s : Log) (joined : Joined) (f : MergeFault) → i < length sources → s ≡ get_or sources i s → HasJoined joined (take i sources)
    → option_map (placed (length (take i sources) + 1)) (source_fault (take i sources) s) ≡ Some f → merge_fault sources ≡ Some f
judged_fault sources i s joined f lt is has some = go (source_fault before s) refl
  where
    before : List Log
    before = take i sources

    go : (o : Option Found) → source_fault before s ≡ o → merge_fault sources ≡ Some f
    go None e = absurd (none-some f (sym (ap (option_map (placed (length before + 1))) e) ∙ some))
    go (Some x) e =
        ap (fault_from []) (sym (take-append-drop i sources)) ∙ fault_behind [] before (drop i sources) has.judged.none ∙ ap (fault_from before) (item_at sources i s lt is) ∙ fault_here before (drop (i + 1) sources) s x e
        ∙ sym (ap (option_map (placed (length before + 1))) e) ∙ some

pub joined_next : (sources : List Log) (i : ℕ) (s : Log) (joined : Joined) → i < length sources → s ≡ get_or sources i s → HasJoined joined (take i sources ++ s ∷ []) → HasJoined joined (take (i + 1) sources)
joined_next sources i s joined lt is has = subst (HasJoined joined) (sym (item_taken sources i s lt is)) has

pub all_joined : (sources : List Log) (i : ℕ) (joined : Joined) → length sources ≤ i → HasJoined joined (take i sources) → IsJudged sources joined.owners
all_joined sources i joined le has = subst (λ (xs : List Log). IsJudged xs joined.owners) (take_all i sources le) has.judged
