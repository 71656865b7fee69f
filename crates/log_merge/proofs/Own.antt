-- The lines of a source, one after the other.
use Rattle.std.proofs.Common.{◌≡◌, ℕ, ◌+◌, ◌-◌, ◌<◌, ◌≤◌, Bool, true, false, cond, Option, Some, List, [], ◌∷◌, ◌++◌, length, drop, refl, sym, ap, ◌∙◌, arith}
use Rattle.std.specs.Prelude.{◌==◌, slice_get}
use Rattle.std.proofs.Common.{get_or}
use Rattle.std.proofs.Math.ListN.{drop_of_length-le}
use Rattle.std.proofs.lemmas.Option.{slice_get_within}
use Rattle.log_merge.proofs.Lists.{item_at, get_front, get_back}
use Rattle.std.specs.Option.{option_map}
use Rattle.log_lines.specs.Reading.{choose}
use Rattle.event_log.specs.declared.log.Event.{Event}
use Rattle.event_log.specs.declared.log.Log.{Log}
use Rattle.log_merge.specs.declared.seen.Seen.{Seen}
use Rattle.log_merge.specs.declared.seen.Seen.TheVariants.{Nothing, One, Two}
use Rattle.log_merge.specs.Sources.{OwnLine, own_vars_lines, own_event_lines, all_events, events_of}
use Rattle.log_merge.specs.Sources.{own_lines, another, seen_of, line_at}
use Rattle.log_merge.specs.inside.Sources.{seen_one, seen_after}

pub seen_after-append : (s : Seen) (xs ys : List OwnLine) → seen_after s (xs ++ ys) ≡ seen_after (seen_after s xs) ys
seen_after-append s [] ys = refl
seen_after-append s (x ∷ xs) ys = seen_after-append (seen_one s x) xs ys

after_two : (line : ℕ) (ls : List OwnLine) → seen_after (Two line) ls ≡ Two line
after_two line [] = refl
after_two line (l ∷ ls) = after_two line ls

after_one : (process line : ℕ) (ls : List OwnLine) → seen_after (One process line) ls ≡ choose (another process ls) (λ (k : OwnLine). Two k.line) (One process line)
after_one process line [] = refl
after_one process line (l ∷ ls) = by (after_one process line ls) (process == l.process)
  where
    by : seen_after (One process line) ls ≡ choose (another process ls) (λ (k : OwnLine). Two k.line) (One process line)
        → (b : Bool) → seen_after (cond b (One process line) (Two l.line)) ls ≡ choose (cond b (another process ls) (Some l)) (λ (k : OwnLine). Two k.line) (One process line)
    by h true = h
    by h false = after_two l.line ls

pub seen_all : (ls : List OwnLine) → seen_after Nothing ls ≡ seen_of ls
seen_all [] = refl
seen_all (l ∷ ls) = after_one l.process l.line ls

pub own_event_lines-append : (xs ys : List Event) → own_event_lines (xs ++ ys) ≡ own_event_lines xs ++ own_event_lines ys
own_event_lines-append [] ys = refl
own_event_lines-append (x ∷ xs) ys = ap (λ (ls : List OwnLine). record { process = x.process; line = x.line } ∷ ls) (own_event_lines-append xs ys)

pub seen_events-append : (s : Seen) (xs ys : List Event) → seen_after s (own_event_lines (xs ++ ys)) ≡ seen_after (seen_after s (own_event_lines xs)) (own_event_lines ys)
seen_events-append s xs ys = ap (seen_after s) (own_event_lines-append xs ys) ∙ seen_after-append s (own_event_lines xs) (own_event_lines ys)

module _ (batches : List (List Event)) (i : ℕ) (batch : List Event) (lt : i < length batches) (is : batch ≡ get_or batches i batch) where
  abbrev rest : List Event
  rest = all_events (drop (i + 1) batches)

  events_at : all_events (drop i batches) ≡ batch ++ all_events (drop (i + 1) batches)
  events_at = ap all_events (item_at batches i batch lt is)

  pub seen_batch : (s : Seen) (all : Seen) → seen_after s (own_event_lines (all_events (drop i batches))) ≡ all → seen_after (seen_after s (own_event_lines batch)) (own_event_lines (all_events (drop (i + 1) batches))) ≡ all
  seen_batch s all h = sym (seen_events-append s batch rest) ∙ ap (λ (es : List Event). seen_after s (own_event_lines es)) (sym events_at) ∙ h

  -- the event is in this batch
  pub line_here : (left : ℕ) (e : Event) (all : Option ℕ) → slice_get batch left ≡ Some e → line_at left (all_events (drop i batches)) ≡ all → Some e.line ≡ all
  line_here left e all found h =
      let here : slice_get (batch ++ rest) left ≡ Some e = get_front batch rest left (slice_get_within batch left e found) ∙ found in
      sym (ap (λ (o : Option Event). option_map (λ (x : Event). x.line) o) (ap (λ (es : List Event). slice_get es left) events_at ∙ here)) ∙ h

  -- or behind it
  pub line_later : (left : ℕ) (all : Option ℕ) → length batch ≤ left → line_at left (all_events (drop i batches)) ≡ all → line_at (left - length batch) (all_events (drop (i + 1) batches)) ≡ all
  line_later left all le h = sym (ap (λ (o : Option Event). option_map (λ (x : Event). x.line) o) (ap (λ (es : List Event). slice_get es left) events_at ∙ get_back batch rest left le)) ∙ h

pub seen_step : (batches slice : List (List Event)) (i : ℕ) (batch part : List Event) (s t all : Seen) → slice ≡ batches → i < length slice → batch ≡ get_or slice i batch → part ≡ batch → t ≡ seen_after s (own_event_lines part)
    → seen_after s (own_event_lines (all_events (drop i batches))) ≡ all → seen_after t (own_event_lines (all_events (drop (i + 1) batches))) ≡ all
seen_step batches slice i batch part s t all same lt is part_is made h =
    let there : i < length batches = omega (arith, ap length same) in
    let here : batch ≡ get_or batches i batch = is ∙ ap (λ (bs : List (List Event)). get_or bs i batch) same in
    ap (λ (x : Seen). seen_after x (own_event_lines (all_events (drop (i + 1) batches)))) (made ∙ ap (λ (es : List Event). seen_after s (own_event_lines es)) part_is) ∙ seen_batch batches i batch there here s all h

pub seen_end : (source : Log) (slice : List (List Event)) (lines : List ℕ) (i : ℕ) (s r : Seen) → slice ≡ source.batches → length slice ≤ i → r ≡ seen_after Nothing (own_vars_lines 0 lines) → lines ≡ source.header.var_lines
    → seen_after s (own_event_lines (all_events (drop i source.batches))) ≡ seen_after r (own_event_lines (all_events source.batches)) → s ≡ seen_of (own_lines source)
seen_end source slice lines i s r same le made lines_are h =
    let done : drop i source.batches ≡ [] = drop_of_length-le source.batches {i = i} (omega (arith, ap length same)) in
    sym (ap (λ (bs : List (List Event)). seen_after s (own_event_lines (all_events bs))) done) ∙ h
    ∙ ap (λ (x : Seen). seen_after x (own_event_lines (events_of source))) (made ∙ ap (λ (ls : List ℕ). seen_after Nothing (own_vars_lines 0 ls)) lines_are)
    ∙ sym (seen_after-append Nothing (own_vars_lines 0 source.header.var_lines) (own_event_lines (events_of source))) ∙ seen_all (own_lines source)
