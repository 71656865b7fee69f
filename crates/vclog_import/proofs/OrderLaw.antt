-- The order of the events of an imported log.
use Rattle.std.proofs.Common.{◌≡◌, ◌↔◌, ℕ, zero, suc, ◌+◌, ◌<◌, ◌≤◌, List, [], ◌∷◌, ◌++◌, length, map, get_or, replicate, refl, sym, ap, subst, ◌∙◌, arith, length-append}
use Rattle.std.specs.List.{AllByRecursion}
use Rattle.std.proofs.lemmas.List.{length-map, length-set, length-replicate, get_or-map}
use Rattle.run_model.specs.Cut.{Cut, Clocks, count, lengths}
use Rattle.run_model.specs.Consistent.{clock, IsEvent, HappenedBefore}
use Rattle.run_model.specs.Run as run
use Rattle.event_log.specs.declared.log.Binding.{Binding}
use Rattle.event_log.specs.declared.log.Event.{Event}
use Rattle.event_log.specs.States.{event_of as run_event, with_event, with_batch, processes_of}
use Rattle.event_log.proofs.NameLaws.{place_some}
use Rattle.vclog_import.specs.Lines.{Record}
use Rattle.vclog_import.specs.Hosts.{name_of, hosts_of}
use Rattle.vclog_import.specs.Clock.{clock_of, count_of}
use Rattle.vclog_import.specs.Faults.{judged}
use Rattle.vclog_import.specs.Imported.{counting, event_of, events_from}
use Rattle.vclog_import.specs.Laws.{IsRecord, IsCounted, CountersAreTheOrder}
use Rattle.vclog_import.proofs.HostLaws.{hosts_are_distinct}
use Rattle.vclog_import.proofs.Placed.{IsPlaced, placed_all, own, own_batch, processes_are, IsAmong, is_among}

-- the clocks of events
abbrev rows : List Event → List Cut
rows es = map (λ (e : Event). e.clock) es

-- the clocks of a run are those of its events
run_clocks : (names : List (List ℕ)) (vars : List (List Binding)) (events : List (List Event)) → length names ≡ length events → length vars ≡ length events
    → run.clocks_of (processes_of names vars events) ≡ map rows events
run_clocks [] vars [] h k = refl
run_clocks [] vars (es ∷ events) h k = absurd (omega arith)
run_clocks (n ∷ names) [] [] h k = absurd (omega arith)
run_clocks (n ∷ names) [] (es ∷ events) h k = absurd (omega arith)
run_clocks (n ∷ names) (v ∷ vars) [] h k = absurd (omega arith)
run_clocks (n ∷ names) (v ∷ vars) (es ∷ events) h k =
    ap (λ (cs : List Cut). cs ∷ run.clocks_of (processes_of names vars events)) (same es) ∙ ap (λ (o : Clocks). rows es ∷ o) (run_clocks names vars events (omega arith) (omega arith))
  where
    same : (xs : List Event) → map (λ (e : run.Event). e.clock) (map run_event xs) ≡ rows xs
    same [] = refl
    same (x ∷ xs) = ap (λ (cs : List Cut). x.clock ∷ cs) (same xs)

length-with_batch : (events : List (List Event)) (es : List Event) → length (with_batch events es) ≡ length events
unfolding with_batch
length-with_batch events [] = refl
length-with_batch events (e ∷ es) = length-with_batch (with_event events e) es ∙ length-set events e.process (get_or events e.process [] ++ e ∷ [])

-- what stands in the middle of a list
middle : (front rest : List Event) (e : Event) → get_or (rows (front ++ e ∷ rest)) (length front) [] ≡ e.clock
middle [] rest e = refl
middle (x ∷ front) rest e = middle front rest e

row_at : (events : List (List Event)) (p : ℕ) → get_or (map rows events) p [] ≡ rows (get_or events p [])
row_at [] p = refl
row_at (es ∷ events) zero = refl
row_at (es ∷ events) (suc p) = row_at events p

length_at : (o : Clocks) (p : ℕ) → count (lengths o) p ≡ length (get_or o p [])
unfolding lengths
length_at [] p = refl
length_at (x ∷ o) zero = refl
length_at (x ∷ o) (suc p) = length_at o p

-- the clock and the number of an event among those of its process
module _ (o : Clocks) (p a : ℕ) (front rest : List Event) (e : Event) (row : get_or o p [] ≡ rows (front ++ e ∷ rest)) (at : a ≡ length front + 1) where
  pub clock_is : clock o p a ≡ e.clock
  unfolding clock
  clock_is =
      let next : a ≡ suc (length front) = omega (arith, at) in
      ap (clock o p) next ∙ ap (λ (cs : List Cut). get_or cs (length front) []) row ∙ middle front rest e

  pub is_event : IsEvent (lengths o) p a
  is_event = (omega (arith, at), omega (arith, at, length_at o p, ap length row, length-map (front ++ e ∷ rest) (λ (x : Event). x.clock), length-append front (e ∷ rest)))

module _ (rs : List Record) where
  row_is : (p : ℕ) → get_or (run.clocks_of (processes_of (map name_of (hosts_of rs)) (replicate (length (hosts_of rs)) (counting ∷ [])) (with_batch (replicate (length (map name_of (hosts_of rs))) []) (events_from (hosts_of rs) [] rs)))) p [] ≡ rows (own p (events_from (hosts_of rs) [] rs))
  row_is p =
      let hs = hosts_of rs in
      let empty : List (List Event) = replicate (length (map name_of hs)) [] in
      let batch = events_from hs [] rs in
      let long : length empty ≡ length (map name_of hs) = length-replicate (length (map name_of hs)) [] in
      let count : length (map name_of hs) ≡ length hs = length-map hs name_of in
      let whole : length (with_batch empty batch) ≡ length hs = length-with_batch empty batch ∙ long ∙ count in
      ap (λ (x : Clocks). get_or x p []) (run_clocks (map name_of hs) (replicate (length hs) (counting ∷ [])) (with_batch empty batch) (count ∙ sym whole) (length-replicate (length hs) (counting ∷ []) ∙ sym whole))
      ∙ row_at (with_batch empty batch) p
      ∙ ap rows (own_batch empty batch p (subst (λ (n : ℕ). AllByRecursion (λ (e : Event). e.process < n) batch) (sym (long ∙ count)) (processes_are hs (hosts_are_distinct rs) [] rs (placed_all [] rs))) ∙ ap (λ (xs : List Event). xs ++ own p batch) (nothing (length (map name_of hs)) p))
    where
      nothing : (n q : ℕ) → get_or (replicate n (let e : List Event = [] in e)) q [] ≡ []
      nothing zero q = refl
      nothing (suc n) zero = refl
      nothing (suc n) (suc q) = nothing n q

  among : (r : Record) (p a : ℕ) (is : IsRecord rs r p a) → IsAmong (hosts_of rs) (hosts_are_distinct rs) p (events_from (hosts_of rs) [] rs) a (event_of (hosts_of rs) is.before r)
  among r p a is =
      let all = placed_all [] rs in
      subst (λ (xs : List Record). IsAmong (hosts_of rs) (hosts_are_distinct rs) p (events_from (hosts_of rs) [] xs) a (event_of (hosts_of rs) is.before r)) (sym is.stands)
      (is_among (hosts_of rs) (hosts_are_distinct rs) is.before r is.behind p a (front_of is.before (subst (λ (xs : List Record). AllByRecursion (IsPlaced (hosts_of rs)) xs) is.stands all)) is.process is.position)
    where
      front_of : (xs : List Record) → AllByRecursion (IsPlaced (hosts_of rs)) (xs ++ r ∷ is.behind) → AllByRecursion (IsPlaced (hosts_of rs)) xs
      front_of [] all = tt
      front_of (x ∷ xs) all = (all.0, front_of xs all.1)

  pub record_order : (g h : Record) (i a j b : ℕ) → IsRecord rs g i a → IsRecord rs h j b
      → HappenedBefore (run.clocks_of (processes_of (map name_of (hosts_of rs)) (replicate (length (hosts_of rs)) (counting ∷ [])) (with_batch (replicate (length (map name_of (hosts_of rs))) []) (events_from (hosts_of rs) [] rs)))) i a j b ↔ IsCounted g h i a j b
  record_order g h i a j b is_g is_h =
      let x = among g i a is_g in
      let y = among h j b is_h in
      let row_g = row_is i ∙ ap rows x.split in
      let row_h = row_is j ∙ ap rows y.split in
      let host = place_some (hosts_of rs) g.host i is_g.process in
      let clock_h = clock_is _ j b y.front y.rest (event_of (hosts_of rs) is_h.before h) row_h y.place_is in
      let counted : count (clock _ j b) i ≡ count_of (clock_of h) g.host = ap (λ (c : Cut). count c i) clock_h ∙ get_or-map (count_of (clock_of h)) (hosts_of rs) i [] 0 host.0 ∙ ap (count_of (clock_of h)) host.1 in
      let first = is_event _ i a x.front x.rest (event_of (hosts_of rs) is_g.before g) row_g x.place_is in
      let second = is_event _ j b y.front y.rest (event_of (hosts_of rs) is_h.before h) row_h y.place_is in (
        λ before. record { counted = subst (λ (n : ℕ). a ≤ n) counted before.in_past.1; differs = before.differs },
        λ counts. record { first = first; second = second; in_past = (first.0, subst (λ (n : ℕ). a ≤ n) (sym counted) counts.counted); differs = counts.differs },
      )

pub counters_are_the_order : CountersAreTheOrder
counters_are_the_order text g h i a j b is_g is_h = record_order (judged text) g h i a j b is_g is_h
