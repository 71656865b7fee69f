-- A batch is filled with the clocks of the definition.
use Rattle.std.proofs.Common.{◌≡◌, ◌⊎◌, ℕ, zero, suc, ◌+◌, ◌-◌, ◌<◌, Bool, true, false, List, [], ◌∷◌, ◌++◌, length, map, take, get_or, set, refl, sym, ap, ◌∙◌, subst, arith, inl, inr, length-append}
use Rattle.std.specs.Prelude.{Option, None, Some, ◌==◌, if◌then◌else◌}
use Rattle.std.specs.List.{AllByRecursion, Contains}
use Rattle.std.proofs.Math.ListN.{get_or-map}
use Rattle.std.proofs.lemmas.Bool.{cond-true, cond-false, eqb-true, eq-eqb, ne_eqb}
use Rattle.std.proofs.lemmas.List.{ext_get_or, length-map, map-set}
use Rattle.std.proofs.lemmas.List.Elements.{Contains-append_left, Contains-append_right, Contains-append_cases, Contains-push, Contains-push_cases}
use Rattle.pota_base.specs.declared.shape.EventId.{EventId}
use Rattle.pota_base.specs.Shape.{HasEvent}
use Rattle.run_model.specs.Cut.{Cut, Clocks, count, lengths}
use Rattle.run_model.specs.Consistent.{clock, IsOrder}
use Rattle.causal_order.proofs.Growing.{count-lengths}
use Rattle.event_log.specs.declared.log.Event.{Event}
use Rattle.event_log.specs.States.{with_event, with_batch}
use Rattle.greatest_reach.specs.declared.reach.Start.{Start}
use Rattle.greatest_reach.specs.Back.{Back, itself, further}
use Rattle.greatest_reach.specs.Graph.{Reads, Starts}
use Rattle.greatest_reach.proofs.Nodes.{IsTurned, item_greatest}
use Rattle.vector_clock.specs.declared.nodes.Target.{Target}
use Rattle.vector_clock.specs.declared.nodes.Target.TheVariants.{Admitted, InBatch}
use Rattle.vector_clock.specs.declared.nodes.Node.{Node}
use Rattle.vector_clock.specs.Events.{Events, EventStands, own_events, clocks_of, place}
use Rattle.vector_clock.specs.Fill.{Place, IsThere, event_at, IsLeftOut, IsWritten, IsBefore, IsSendOf, Links, Gives, no_event}
use Rattle.vector_clock.specs.Filled.{is_left_out, clock_of, filled_event, fill_from, filled_batch}
use Rattle.vector_clock.specs.inside.Nodes.{event_in, node_place, target_place, IsTarget, Finds}
use Rattle.vector_clock.specs.inside.Nodes.{admitted_start, starts_of, node_at, AreNodes}
use Rattle.vector_clock.specs.inside.Nodes.{HaveTargets, AreReaders, StartsAt, HaveCounts}
use Rattle.vector_clock.specs.inside.Nodes.{AreFilled, with_clock}
use Rattle.vector_clock.proofs.Growth.{own_clocks, lengths_of, own_count, clock_behind, length-clocks_of}
use Rattle.vector_clock.proofs.CountLaws.{nothing}
use Rattle.vector_clock.proofs.ClockOf.{has_clock}
use Rattle.vector_clock.proofs.OneClock.{one_clock}
use Rattle.vector_clock.proofs.FilledBatches.{length-fill_from}
use Rattle.vector_clock.proofs.Looks.{own_len}
use Rattle.vector_clock.proofs.Turned.{old_event, node_event, send_finds, length-all}

no_bool : true ≡ false → ⊥
no_bool h = cc

-- ---- the numbers that start at one node

in_one : (s t : Start) → Contains (s ∷ []) t → s ≡ t
in_one s t h = elim (Contains-push_cases [] s t h) [ inl none ↦ absurd (omega (arith, none.1)) | inr is ↦ is ]

in_none : (t : Start) → Contains [] t → ⊥
in_none t h = omega (arith, h.1)

-- the node looks back on this admitted event
abbrev LooksOld : Node → EventId → Type 0
LooksOld node id = (node.before ≡ Some (Admitted id)) ⊎ (node.sent ≡ Some (Admitted id))

abbrev IsStart : Clocks → ℕ → Event → Node → ℕ → Type 0
IsStart o j e node n =
    ((is_left_out e ≡ false) × (n ≡ count e.clock j))
    ⊎ ((is_left_out e ≡ true) × (((e.process ≡ j) × (n ≡ node.position)) ⊎ ((id : EventId) × LooksOld node id × (n ≡ count (clock o id.process id.position) j))))

admitted_case : (o : Clocks) (j x : ℕ) (t : Option Target) (s : Start) → Contains (admitted_start o j x t) s → (id : EventId) × (t ≡ Some (Admitted id)) × (s.value ≡ count (clock o id.process id.position) j)
admitted_case o j x None s h = absurd (in_none s h)
admitted_case o j x (Some (InBatch k)) s h = absurd (in_none s h)
admitted_case o j x (Some (Admitted id)) s h = (id, refl, ap (λ (y : Start). y.value) (sym (in_one _ s h)))

start_cases : (o : Clocks) (j x : ℕ) (e : Event) (node : Node) (n : ℕ) → Starts (starts_of o j x e node) x n → IsStart o j e node n
start_cases o j x e node n h = go (is_left_out e) refl (e.process == j) refl h
  where
    s : Start
    s = record { value = n; node = x }

    old : Contains (admitted_start o j x node.before ++ admitted_start o j x node.sent) s → (id : EventId) × LooksOld node id × (n ≡ count (clock o id.process id.position) j)
    old there = elim (Contains-append_cases (admitted_start o j x node.before) (admitted_start o j x node.sent) s there) [
      | inl b ↦
          let k = admitted_case o j x node.before s b in
          (k.0, inl k.1, k.2)
      | inr c ↦
          let k = admitted_case o j x node.sent s c in
          (k.0, inr k.1, k.2)
    ]

    go : (out : Bool) → is_left_out e ≡ out → (own : Bool) → (e.process == j) ≡ own
        → Contains (if out then (if own then record { value = node.position; node = x } ∷ [] else []) ++ (admitted_start o j x node.before ++ admitted_start o j x node.sent) else record { value = count e.clock j; node = x } ∷ []) s → IsStart o j e node n
    go false is own at there = inl (is, ap (λ (y : Start). y.value) (sym (in_one _ s there)))
    go true is false at there = inr (is, inr (old there))
    go true is true at there = elim (Contains-append_cases (record { value = node.position; node = x } ∷ []) (admitted_start o j x node.before ++ admitted_start o j x node.sent) s there) [
      | inl one ↦ inr (is, inl (eqb-true e.process j at, ap (λ (y : Start). y.value) (sym (in_one _ s one))))
      | inr more ↦ inr (is, inr (old more))
    ]

one_in : (s t : Start) → s ≡ t → Contains (s ∷ []) t
one_in s t is = subst (Contains (s ∷ [])) is (Contains-push [] s)

starts_written : (o : Clocks) (j x : ℕ) (e : Event) (node : Node) (n : ℕ) → is_left_out e ≡ false → n ≡ count e.clock j → Starts (starts_of o j x e node) x n
starts_written o j x e node n out is =
    subst (λ (ss : List Start). Starts ss x n) (sym (cond-false (is_left_out e) _ _ out))
    (one_in (record { value = count e.clock j; node = x }) (record { value = n; node = x }) (ap (λ (k : ℕ). let y : Start = record { value = k; node = x } in y) (sym is)))

starts_own : (o : Clocks) (j x : ℕ) (e : Event) (node : Node) (n : ℕ) → is_left_out e ≡ true → e.process ≡ j → n ≡ node.position → Starts (starts_of o j x e node) x n
starts_own o j x e node n out own is =
    let s : Start = record { value = n; node = x } in
    let rest = admitted_start o j x node.before ++ admitted_start o j x node.sent in
    subst (λ (ss : List Start). Contains ss s) (sym (cond-true (is_left_out e) _ _ out))
    (subst (λ (ss : List Start). Contains (ss ++ rest) s) (sym (cond-true (e.process == j) _ _ (eq-eqb e.process j own)))
    (Contains-append_left (record { value = node.position; node = x } ∷ []) rest s (one_in (record { value = node.position; node = x }) s (ap (λ (k : ℕ). let y : Start = record { value = k; node = x } in y) (sym is)))))

admitted_in : (o : Clocks) (j x : ℕ) (t : Option Target) (id : EventId) (n : ℕ) → t ≡ Some (Admitted id) → n ≡ count (clock o id.process id.position) j → Contains (admitted_start o j x t) (record { value = n; node = x })
admitted_in o j x t id n is at =
    subst (λ (y : Option Target). Contains (admitted_start o j x y) (record { value = n; node = x })) (sym is)
    (one_in (record { value = count (clock o id.process id.position) j; node = x }) (record { value = n; node = x }) (ap (λ (k : ℕ). let y : Start = record { value = k; node = x } in y) (sym at)))

starts_old : (o : Clocks) (j x : ℕ) (e : Event) (node : Node) (n : ℕ) (id : EventId) → is_left_out e ≡ true → LooksOld node id → n ≡ count (clock o id.process id.position) j → Starts (starts_of o j x e node) x n
starts_old o j x e node n id out looks at =
    let s : Start = record { value = n; node = x } in
    let first = (if e.process == j then record { value = node.position; node = x } ∷ [] else []) in
    subst (λ (ss : List Start). Contains ss s) (sym (cond-true (is_left_out e) _ _ out))
    (Contains-append_right first (admitted_start o j x node.before ++ admitted_start o j x node.sent) s (elim looks [
      | inl b ↦ Contains-append_left (admitted_start o j x node.before) (admitted_start o j x node.sent) s (admitted_in o j x node.before id n b at)
      | inr c ↦ Contains-append_right (admitted_start o j x node.before) (admitted_start o j x node.sent) s (admitted_in o j x node.sent id n c at)
    ]))

-- ---- what is known of a batch behind events that were admitted

pub record IsKnownBatch (o : Clocks) (events : Events) (batch : List Event) (nodes : List Node) (readers : List (List ℕ)) : Type 0 where
  pub clocks : o ≡ clocks_of events
  pub order : IsOrder o
  pub some : 0 < length events
  pub stands : AllByRecursion (EventStands (length events)) batch
  pub nodes_are : AreNodes events batch (length batch) nodes
  pub targets : HaveTargets (lengths o) (length batch) nodes
  pub readers_are : AreReaders batch nodes (length batch) readers

module _ (o : Clocks) (events : Events) (batch : List Event) (nodes : List Node) (readers : List (List ℕ)) (b : IsKnownBatch o events batch nodes readers) where
  abbrev all : Events
  all = with_batch events batch

  abbrev item : ℕ → Place
  item = node_place events batch

  -- ---- events that were admitted

  old_clock : (y : Place) → IsThere events y → clock o y.process y.position ≡ (event_at events y).clock
  old_clock y t =
      let next : y.position ≡ y.position - 1 + 1 = omega (arith, t.first) in
      let back : y.position - 1 + 1 - 1 ≡ y.position - 1 = omega arith in
      ap (λ (n : ℕ). clock o y.process n) next ∙ clock_behind o y.process (y.position - 1)
      ∙ ap (λ (x : Clocks). get_or (get_or x y.process []) (y.position - 1 + 1 - 1) []) b.clocks ∙ ap (λ (rs : List Cut). get_or rs (y.position - 1 + 1 - 1) []) (own_clocks events y.process)
      ∙ ap (λ (n : ℕ). get_or (map (λ (e : Event). e.clock) (own_events events y.process)) n []) back
      ∙ get_or-map (λ (e : Event). e.clock) (own_events events y.process) (y.position - 1) no_event

  old_width : (y : Place) → IsThere events y → length (event_at events y).clock ≡ length events
  old_width y t =
      ap length (sym (old_clock y t))
      ∙ b.order.shaped y.process y.position (t.first, omega (arith, t.last, count-lengths o y.process, ap (λ (x : Clocks). length (get_or x y.process [])) b.clocks, own_count events y.process))
      ∙ ap length b.clocks ∙ length-clocks_of events

  old_written : (y : Place) → IsThere events y → IsWritten (with_batch events batch) y
  old_written y t =
      let k = old_event events batch y b.stands t in
      (k.0, λ none. omega (arith, b.some, old_width y t, ap (λ (e : Event). length e.clock) k.1, ap length none))

  old_there : (id : EventId) → HasEvent (lengths o) id → IsThere events (record { process = id.process; position = id.position })
  old_there id h =
      let len : length (lengths o) ≡ length events = ap (λ (x : Clocks). length (lengths x)) b.clocks ∙ ap length (lengths_of events) ∙ length-map events (length {A = Event}) in
      record {
        process = omega (arith, h.process, len);
        first = h.first;
        last = omega (arith, h.last, ap (λ (x : Clocks). get_or (lengths x) id.process 0) b.clocks, ap (λ (xs : List ℕ). get_or xs id.process 0) (lengths_of events), own_len events id.process);
      }

  old_gives : (j : ℕ) (y : Place) → IsThere events y → (n : ℕ) → Gives (with_batch events batch) j y n → n ≡ count (clock o y.process y.position) j
  old_gives j y t n (inl w) = w.1 ∙ ap (λ (e : Event). count e.clock j) (old_event events batch y b.stands t).1 ∙ ap (λ (c : Cut). count c j) (sym (old_clock y t))
  old_gives j y t n (inr l) = absurd ((old_written y t).1 l.0.1)

  -- ---- events of the batch

  abbrev event_is : (k : ℕ) → k < length batch → event_at (with_batch events batch) (item k) ≡ event_in batch k
  event_is k lt = (node_event events batch k b.stands lt).1

  out_there : (k : ℕ) → k < length batch → is_left_out (event_in batch k) ≡ true → IsLeftOut (with_batch events batch) (item k)
  out_there k lt out = (
    (node_event events batch k b.stands lt).0,
    ap (λ (e : Event). e.clock) (event_is k lt) ∙ nothing (event_in batch k).clock (eqb-true (length (event_in batch k).clock) 0 out),
  )

  is_out : (k : ℕ) → k < length batch → (event_at (with_batch events batch) (item k)).clock ≡ [] → is_left_out (event_in batch k) ≡ true
  is_out k lt none = eq-eqb (length (event_in batch k).clock) 0 (ap (λ (e : Event). length e.clock) (sym (event_is k lt)) ∙ ap length none)

  before_finds : (k : ℕ) → k < length batch → Finds events batch (IsBefore (item k)) (node_at nodes k).before
  before_finds k lt = (b.nodes_are k lt).before

  sent_finds : (k : ℕ) → k < length batch → Finds events batch (IsSendOf (with_batch events batch) (with_batch events batch) (item k)) (node_at nodes k).sent
  sent_finds k lt =
      subst (Finds events batch (IsSendOf (with_batch events batch) (with_batch events batch) (item k))) (sym (b.nodes_are k lt).sent) (send_finds events batch k b.stands lt)

  -- a target is what the event links to
  found_link : (k : ℕ) (t : Target) → k < length batch → is_left_out (event_in batch k) ≡ true → ((node_at nodes k).before ≡ Some t) ⊎ ((node_at nodes k).sent ≡ Some t)
      → Links (with_batch events batch) (λ y. with_batch events batch) (item k) (target_place events batch t)
  found_link k t lt out (inl is) = record { left_out = out_there k lt out; to = inl (subst (Finds events batch (IsBefore (item k))) is (before_finds k lt)).0 }
  found_link k t lt out (inr is) = record { left_out = out_there k lt out; to = inr (subst (Finds events batch (IsSendOf (with_batch events batch) (with_batch events batch) (item k))) is (sent_finds k lt)).0 }

  -- and what it links to is one
  link_found : (k : ℕ) (y : Place) → k < length batch → Links (with_batch events batch) (λ z. with_batch events batch) (item k) y
      → (t : Target) × (((node_at nodes k).before ≡ Some t) ⊎ ((node_at nodes k).sent ≡ Some t)) × (y ≡ target_place events batch t)
  link_found k y lt l = elim l.to [
    | inl p ↦ one (node_at nodes k).before refl (before_finds k lt) p
    | inr p ↦ two (node_at nodes k).sent refl (sent_finds k lt) p
  ]
    where
      one : (t : Option Target) → (node_at nodes k).before ≡ t → Finds events batch (IsBefore (item k)) t → IsBefore (item k) y
          → (t : Target) × (((node_at nodes k).before ≡ Some t) ⊎ ((node_at nodes k).sent ≡ Some t)) × (y ≡ target_place events batch t)
      one None is f p = absurd (f y p)
      one (Some t) is f p = (t, inl is, f.1 y p)

      two : (t : Option Target) → (node_at nodes k).sent ≡ t → Finds events batch (IsSendOf (with_batch events batch) (with_batch events batch) (item k)) t → IsSendOf (with_batch events batch) (with_batch events batch) (item k) y
          → (t : Target) × (((node_at nodes k).before ≡ Some t) ⊎ ((node_at nodes k).sent ≡ Some t)) × (y ≡ target_place events batch t)
      two None is f p = absurd (f y p)
      two (Some t) is f p = (t, inr is, f.1 y p)

  target_there : (k : ℕ) (t : Target) → ((node_at nodes k).before ≡ Some t) ⊎ ((node_at nodes k).sent ≡ Some t) → IsTarget (lengths o) (length batch) (Some t)
  target_there k t (inl is) = subst (IsTarget (lengths o) (length batch)) is (b.targets.before k)
  target_there k t (inr is) = subst (IsTarget (lengths o) (length batch)) is (b.targets.sent k)

  -- ---- the graph, for one process

  pub is_turned : (j : ℕ) → IsTurned (Links (with_batch events batch) (λ y. with_batch events batch)) (Gives (with_batch events batch) j) readers (StartsAt o batch nodes j) item (IsThere events)
  is_turned j = record {
    reads = λ x y r.
        let s = b.readers_are.sound x y r in
        found_link x (InBatch y) s.0 s.1.left_out s.1.target;
    starts_at = λ x n s. start_at x n s.0 (start_cases o j x (event_in batch x) (node_at nodes x) n s.1);
    links = λ x lt y l. links x (omega (arith, lt, b.readers_are.nodes_are)) y l;
    gives = λ x lt n g. inr (gives x (omega (arith, lt, b.readers_are.nodes_are)) n g);
    ends = λ x y t l. (old_written x t).1 l.left_out.1;
  }
    where
      start_at : (x n : ℕ) → x < length batch → IsStart o j (event_in batch x) (node_at nodes x) n
          → (y : Place) × Back (Links (with_batch events batch) (λ z. with_batch events batch)) (item x) y × Gives (with_batch events batch) j y n
      start_at x n lt (inl w) = (item x, itself, inl (((node_event events batch x b.stands lt).0, λ none. no_bool (sym (is_out x lt none) ∙ w.0)), w.1 ∙ ap (λ (e : Event). count e.clock j) (sym (event_is x lt))))
      start_at x n lt (inr (out, inl own)) = (item x, itself, inr (out_there x lt out, own.0, own.1 ∙ (b.nodes_are x lt).position))
      start_at x n lt (inr (out, inr old)) =
          let id = old.0 in
          let y : Place = record { process = id.process; position = id.position } in
          let t = old_there id (target_there x (Admitted id) old.1) in
          let e = old_event events batch y b.stands t in
          (y, further itself (found_link x (Admitted id) lt out old.1), inl (old_written y t, old.2 ∙ ap (λ (c : Cut). count c j) (old_clock y t) ∙ ap (λ (e : Event). count e.clock j) (sym e.1)))

      links : (x : ℕ) → x < length batch → (y : Place) → Links (with_batch events batch) (λ z. with_batch events batch) (item x) y
          → ((k : ℕ) × (k < length readers) × (y ≡ item k) × Reads readers x k) ⊎ (IsThere events y × ((n : ℕ) → Gives (with_batch events batch) j y n → (n ≡ 0) ⊎ StartsAt o batch nodes j x n))
      links x lt y l = go (link_found x y lt l)
        where
          out : is_left_out (event_in batch x) ≡ true
          out = is_out x lt l.left_out.1

          go : (t : Target) × (((node_at nodes x).before ≡ Some t) ⊎ ((node_at nodes x).sent ≡ Some t)) × (y ≡ target_place events batch t)
              → ((k : ℕ) × (k < length readers) × (y ≡ item k) × Reads readers x k) ⊎ (IsThere events y × ((n : ℕ) → Gives (with_batch events batch) j y n → (n ≡ 0) ⊎ StartsAt o batch nodes j x n))
          go (InBatch k, is, at) = inl (k, omega (arith, target_there x (InBatch k) is, b.readers_are.nodes_are), at, b.readers_are.all x k lt (record { left_out = out; target = is }))
          go (Admitted id, is, at) =
              let z : Place = record { process = id.process; position = id.position } in
              let t = old_there id (target_there x (Admitted id) is) in
              inr (subst (IsThere events) (sym at) t, λ n g. inr (lt, starts_old o j x (event_in batch x) (node_at nodes x) n id out is (old_gives j z t n (subst (λ (p : Place). Gives (with_batch events batch) j p n) at g))))

      gives : (x : ℕ) → x < length batch → (n : ℕ) → Gives (with_batch events batch) j (item x) n → StartsAt o batch nodes j x n
      gives x lt n (inl w) =
          let written : is_left_out (event_in batch x) ≡ false =
          ne_eqb (length (event_in batch x).clock) 0 (λ none. w.0.1 (ap (λ (e : Event). e.clock) (event_is x lt) ∙ nothing (event_in batch x).clock none)) in
          (lt, starts_written o j x (event_in batch x) (node_at nodes x) n written (w.1 ∙ ap (λ (e : Event). count e.clock j) (event_is x lt)))
      gives x lt n (inr l) = (lt, starts_own o j x (event_in batch x) (node_at nodes x) n (is_out x lt l.0.1) l.1 (l.2 ∙ sym (b.nodes_are x lt).position))

  -- ---- the clock of one event

  pub node_clock : (clocks : List Cut) (k : ℕ) → HaveCounts o batch nodes readers (length o) clocks → k < length batch → get_or clocks k [] ≡ clock_of (with_batch events batch) (item k)
  node_clock clocks k have lt =
      one_clock (with_batch events batch) (λ y. with_batch events batch) (item k) (get_or clocks k []) (clock_of (with_batch events batch) (item k)) (record {
        width = have.width k lt ∙ size;
        counts = λ j low.
            item_greatest (Links (with_batch events batch) (λ y. with_batch events batch)) (Gives (with_batch events batch) j) readers (StartsAt o batch nodes j) item (IsThere events) (is_turned j) k (count (get_or clocks k []) j)
            (omega (arith, lt, b.readers_are.nodes_are)) (have.counts k j lt (omega (arith, low, size)));
      }) (has_clock (with_batch events batch) (item k))
    where
      size : length o ≡ length (with_batch events batch)
      size = ap length b.clocks ∙ length-clocks_of events ∙ sym (length-all events batch)

-- ---- the whole batch

same_place : (one other : Events) (e : Event) → map length one ≡ map length other → place one e ≡ place other e
same_place one other e is = omega (arith, own_len one e.process, own_len other e.process, ap (λ (xs : List ℕ). get_or xs e.process 0) is)

lens_with : (before : Events) (e f : Event) → e.process ≡ f.process → map length (with_event before e) ≡ map length (with_event before f)
lens_with before e f same =
    map-set (length {A = Event}) before e.process _ ∙ ap (λ (n : ℕ). set (map length before) e.process n) (length-append (own_events before e.process) (e ∷ []) ∙ sym (length-append (own_events before e.process) (f ∷ [])))
    ∙ ap (λ (p : ℕ). set (map length before) p (length (own_events before p ++ f ∷ []))) same ∙ sym (map-set (length {A = Event}) before f.process _)

filled_process : (all before : Events) (e : Event) → (filled_event all before e).process ≡ e.process
filled_process all before e = go (is_left_out e)
  where
    go : (out : Bool) → (if out then record e { clock = clock_of all (record { process = e.process; position = place before e }) } else e).process ≡ e.process
    go true = refl
    go false = refl

filled_same : (all one other : Events) (e : Event) → map length one ≡ map length other → filled_event all one e ≡ filled_event all other e
filled_same all one other e is = ap (λ (n : ℕ). if is_left_out e then record e { clock = clock_of all (record { process = e.process; position = n }) } else e) (same_place one other e is)

fill_at : (all before filled : Events) (batch : List Event) (k : ℕ) → map length filled ≡ map length before → k < length batch → event_in (fill_from all filled batch) k ≡ filled_event all (with_batch before (take k batch)) (event_in batch k)
unfolding fill_from with_batch
fill_at all before filled [] k same lt = absurd (omega (arith, lt))
fill_at all before filled (e ∷ es) zero same lt = filled_same all filled before e same
fill_at all before filled (e ∷ es) (suc k) same lt =
    fill_at all (with_event before e) (with_event filled (filled_event all filled e)) es k
    (lens_with filled (filled_event all filled e) e (filled_process all filled e) ∙ lens_one filled before e same) (omega (arith, lt))
  where
    lens_one : (one other : Events) (x : Event) → map length one ≡ map length other → map length (with_event one x) ≡ map length (with_event other x)
    lens_one one other x is = go one ∙ ap (λ (xs : List ℕ). set xs x.process (get_or xs x.process 0 + 1)) is ∙ sym (go other)
      where
        go : (y : Events) → map length (with_event y x) ≡ set (map length y) x.process (get_or (map length y) x.process 0 + 1)
        go y = map-set (length {A = Event}) y x.process _ ∙ ap (set (map length y) x.process) (length-append (own_events y x.process) (x ∷ []) ∙ ap (λ (n : ℕ). n + 1) (sym (own_len y x.process)))

pub batch_is_filled : (o : Clocks) (events : Events) (batch : List Event) (nodes : List Node) (readers : List (List ℕ)) (clocks : List Cut) (filled : List Event) → IsKnownBatch o events batch nodes readers → HaveCounts o batch nodes readers (length o) clocks → AreFilled batch clocks filled
    → filled ≡ filled_batch events batch
batch_is_filled o events batch nodes readers clocks filled b have are =
    ext_get_or no_event filled (filled_batch events batch) (are.size ∙ sym (length-fill_from (with_batch events batch) events batch))
    (λ k lt.
    let low : k < length batch = omega (arith, lt, are.size) in
    are.each k low ∙ ap (with_clock (event_in batch k)) (node_clock o events batch nodes readers b clocks k have low)
    ∙ sym (fill_at (with_batch events batch) events events batch k refl low))
