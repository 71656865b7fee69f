-- What the events of a batch look back on, found one after the other.
use Rattle.std.proofs.Common.{◌≡◌, ℕ, zero, suc, ◌+◌, ◌<◌, ◌≤◌, Bool, true, false, List, [], ◌∷◌, ◌++◌, length, map, take, get_or, set, refl, sym, ap, ◌∙◌, subst, arith, inl, inr, length-append}
use Rattle.std.specs.Prelude.{Option, None, Some, ◌&&◌, nat_lt, nat_le, if◌then◌else◌}
use Rattle.std.specs.Option.{option_map, option_or}
use Rattle.std.specs.List.{AllByRecursion}
use Rattle.std.proofs.lemmas.Option.{same_Some}
use Rattle.std.proofs.lemmas.Bool.{cases_Bool, cases_eq, cases_lt, cond-true, cond-false, and_parts, and_from, ltb-true, lt-ltb, le-leb}
use Rattle.std.proofs.lemmas.List.{length-take, take_more, take_all, get_or-set_same, get_or-set_other, get_or_append_left, get_or-append-add, get_or_default}
use Rattle.event_log.specs.PassedOn.{choose}
use Rattle.event_log.specs.declared.log.Event.{Event}
use Rattle.event_log.specs.States.{with_event, with_batch}
use Rattle.vector_clock.specs.declared.message.Message.{Message}
use Rattle.vector_clock.specs.declared.places.Met.{Met}
use Rattle.vector_clock.specs.declared.places.Places.{Places}
use Rattle.vector_clock.specs.declared.nodes.Target.{Target}
use Rattle.vector_clock.specs.declared.nodes.Target.TheVariants.{Admitted, InBatch}
use Rattle.vector_clock.specs.declared.nodes.Node.{Node}
use Rattle.vector_clock.specs.Events.{Events, EventStands, own_events, place}
use Rattle.vector_clock.specs.inside.Events.{raised}
use Rattle.vector_clock.specs.Messages.{is_same, message_sent, sends}
use Rattle.vector_clock.specs.Met.{met_at}
use Rattle.vector_clock.specs.inside.Met.{IsNoted}
use Rattle.vector_clock.specs.Fill.{Place, IsBefore, no_event}
use Rattle.vector_clock.specs.inside.Nodes.{event_in, node_place, target_place, IsTarget}
use Rattle.vector_clock.specs.inside.Nodes.{Finds, first_index, AreSends}
use Rattle.vector_clock.specs.inside.Nodes.{admitted_at, send_of, node_at, IsNode, HaveTargets}
use Rattle.vector_clock.proofs.FirstPlaces.{same_message, own_same, own_other}
use Rattle.vector_clock.proofs.Counting.{batch_next, no_batch, is_next}
use Rattle.vector_clock.proofs.Growth.{length-with_batch}

-- ---- lists that grow

pub pushed_each : {A : Type 0} (P : ℕ → A → Type 0) (d : A) (xs : List A) (x : A) (i : ℕ) → length xs ≡ i → ((k : ℕ) → k < i → P k (get_or xs k d)) → P i x
    → (k : ℕ) → k < i + 1 → P k (get_or (xs ++ x ∷ []) k d)
pushed_each P d xs x i len each one k lt = elim (cases_lt k i) [
  | inl before ↦ subst (P k) (sym (get_or_append_left xs (x ∷ []) d k (omega (arith, before, len)))) (each k before)
  | inr not ↦
      let is : k ≡ length xs + 0 = omega (arith, lt, not, len) in
      let at : k ≡ i = omega (arith, lt, not) in
      subst (P k) (sym (ap (λ (n : ℕ). get_or (xs ++ x ∷ []) n d) is ∙ get_or-append-add xs (x ∷ []) 0 d)) (subst (λ (n : ℕ). P n x) (sym at) one)
]

pub event_is : (batch : List Event) (i : ℕ) (e : Event) → i < length batch → e ≡ get_or batch i e → event_in batch i ≡ e
event_is batch i e lt at = get_or_default batch i no_event e lt ∙ sym at

pub one_stands : (procs : ℕ) (batch : List Event) (i : ℕ) (e : Event) → AllByRecursion (EventStands procs) batch → i < length batch → e ≡ get_or batch i e → EventStands procs e
one_stands procs [] i e stands lt at = absurd (omega (arith, lt))
one_stands procs (x ∷ batch) zero e stands lt at = subst (EventStands procs) (sym at) stands.0
one_stands procs (x ∷ batch) (suc i) e stands lt at = one_stands procs batch i e stands.1 (omega (arith, lt)) at

-- ---- where messages are sent first

index_step : (b t : Bool) (first pushed : Option ℕ) (n : ℕ) → pushed ≡ option_or first (if t then Some n else None)
    → (if b then Some 0 else option_map (λ k. k + 1) pushed) ≡ option_or (if b then Some 0 else option_map (λ k. k + 1) first) (if t then Some (suc n) else None)
index_step true t first pushed n h = refl
index_step false t (Some a) pushed n h = ap (λ (o : Option ℕ). option_map (λ k. k + 1) o) h
index_step false true None pushed n h = ap (λ (o : Option ℕ). option_map (λ k. k + 1) o) h ∙ ap (λ (k : ℕ). Some k) (omega arith)
index_step false false None pushed n h = ap (λ (o : Option ℕ). option_map (λ k. k + 1) o) h

index_push : (test : Event → Bool) (es : List Event) (e : Event) → first_index test (es ++ e ∷ []) ≡ option_or (first_index test es) (if test e then Some (length es) else None)
unfolding first_index
index_push test [] e = refl
index_push test (x ∷ es) e = index_step (test x) (test e) (first_index test es) (first_index test (es ++ e ∷ [])) (length es) (index_push test es e)

index_next : (test : Event → Bool) (batch : List Event) (i : ℕ) (e : Event) → i < length batch → e ≡ get_or batch i e → first_index test (take (i + 1) batch) ≡ option_or (first_index test (take i batch)) (if test e then Some i else None)
index_next test batch i e lt at =
    ap (first_index test) (take_more batch i e lt ∙ ap (λ (x : Event). take i batch ++ x ∷ []) (sym at)) ∙ index_push test (take i batch) e
    ∙ ap (λ (n : ℕ). option_or (first_index test (take i batch)) (if test e then Some n else None)) (omega (arith, length-take i batch, lt))

none_some : (a : ℕ) → ◌≡◌ {A = Option ℕ} None (Some a) → ⊥
none_some a h = cc

there_step : (b : Bool) (o : Option ℕ) (k n : ℕ) → ((m : ℕ) → o ≡ Some m → m < n) → (if b then Some 0 else option_map (λ m. m + 1) o) ≡ Some k → k < suc n
there_step true o k n low at = omega (arith, same_Some 0 k at)
there_step false None k n low at = absurd (none_some k at)
there_step false (Some m) k n low at = omega (arith, same_Some (m + 1) k at, low m refl)

pub index_there : (test : Event → Bool) (es : List Event) (k : ℕ) → first_index test es ≡ Some k → k < length es
unfolding first_index
index_there test [] k h = absurd (none_some k h)
index_there test (x ∷ es) k h = there_step (test x) (first_index test es) k (length es) (λ n is. index_there test es n is) h

or_none : (o : Option ℕ) → option_or o None ≡ o
or_none None = refl
or_none (Some a) = refl

pub no_sends : (places : Places) (batch : List Event) → ((m : Message) → (met_at places m).sent ≡ None) → AreSends places (take 0 batch)
unfolding first_index
no_sends places batch none m = none m

-- an event that sends nothing
pub sends_kept : (places : Places) (batch : List Event) (i : ℕ) (e : Event) → i < length batch → e ≡ get_or batch i e → message_sent e.process e.kind ≡ None → AreSends places (take i batch) → AreSends places (take (i + 1) batch)
sends_kept places batch i e lt at none are m =
    are m ∙ sym (index_next (sends m) batch i e lt at ∙ ap (option_or (first_index (sends m) (take i batch))) (cond-false (sends m e) (Some i) None (ap (λ (o : Option Message). choose o (λ n. is_same n m) false) none))
    ∙ or_none (first_index (sends m) (take i batch)))

pub sends_noted : (old new : Places) (batch : List Event) (i : ℕ) (e : Event) (n : Message) (met : Met) → i < length batch → e ≡ get_or batch i e → message_sent e.process e.kind ≡ Some n → met.sent ≡ Some i
    → IsNoted (met_at old) (met_at new) n met → AreSends old (take i batch) → AreSends new (take (i + 1) batch)
sends_noted old new batch i e n met lt at is here noted are m =
    let test : sends m e ≡ is_same n m = ap (λ (o : Option Message). choose o (λ k. is_same k m) false) is in
    let next = index_next (sends m) batch i e lt at in
    elim (cases_Bool (is_same n m)) [
      | inl same ↦
          noted.sent m ∙ cond-true (is_same n m) _ _ same ∙ ap (option_or (met_at old n).sent) here ∙ ap (λ (o : Option ℕ). option_or o (Some i)) (ap (λ (k : Message). (met_at old k).sent) (same_message n m same) ∙ are m)
          ∙ sym (next ∙ ap (option_or (first_index (sends m) (take i batch))) (cond-true (sends m e) (Some i) None (test ∙ same)))
      | inr other ↦
          noted.sent m ∙ cond-false (is_same n m) _ _ other ∙ are m
          ∙ sym (next ∙ ap (option_or (first_index (sends m) (take i batch))) (cond-false (sends m e) (Some i) None (test ∙ other)) ∙ or_none (first_index (sends m) (take i batch)))
    ]

pub all_sends : (places : Places) (batch : List Event) (i : ℕ) → length batch ≤ i → AreSends places (take i batch) → AreSends places batch
all_sends places batch i le are = subst (AreSends places) (take_all i batch le) are

-- ---- targets that are there

pub more_target : (lens : List ℕ) (a b : ℕ) → a ≤ b → (o : Option Target) → IsTarget lens a o → IsTarget lens b o
more_target lens a b le None h = tt
more_target lens a b le (Some (Admitted id)) h = h
more_target lens a b le (Some (InBatch k)) h = omega (arith, h, le)

pub index_target : (lens : List ℕ) (test : Event → Bool) (batch : List Event) (o : Option ℕ) → o ≡ first_index test batch → IsTarget lens (length batch) (option_map (λ k. InBatch k) o)
index_target lens test batch None h = tt
index_target lens test batch (Some k) h = index_there test batch k (sym h)

pub no_targets : (lens : List ℕ) (n : ℕ) → HaveTargets lens n []
no_targets lens n = record { before = λ k. tt; sent = λ k. tt }

targets_cons : (lens : List ℕ) (n : ℕ) (x : Node) (nodes : List Node) → IsTarget lens n x.before → IsTarget lens n x.sent → HaveTargets lens n nodes → HaveTargets lens n (x ∷ nodes)
targets_cons lens n x nodes before sent rest = record { before = one; sent = other }
  where
    one : (k : ℕ) → IsTarget lens n (node_at (x ∷ nodes) k).before
    one zero = before
    one (suc k) = rest.before k

    other : (k : ℕ) → IsTarget lens n (node_at (x ∷ nodes) k).sent
    other zero = sent
    other (suc k) = rest.sent k

-- one node more
pub targets_more : (lens : List ℕ) (n : ℕ) (nodes : List Node) (node : Node) → HaveTargets lens n nodes → IsTarget lens n node.before → IsTarget lens n node.sent → HaveTargets lens n (nodes ++ node ∷ [])
targets_more lens n [] node have before sent = record { before = one; sent = other }
  where
    one : (k : ℕ) → IsTarget lens n (node_at (node ∷ []) k).before
    one zero = before
    one (suc k) = tt

    other : (k : ℕ) → IsTarget lens n (node_at (node ∷ []) k).sent
    other zero = sent
    other (suc k) = tt
targets_more lens n (x ∷ nodes) node have before sent =
    targets_cons lens n x (nodes ++ node ∷ []) (have.before 0) (have.sent 0)
    (targets_more lens n nodes node (record { before = λ k. have.before (suc k); sent = λ k. have.sent (suc k) }) before sent)

-- ---- the last event of each process

-- the last of the first i events, and of those that were admitted
abbrev pub IsLast : Events → List Event → ℕ → ℕ → Option Target → Type 0
IsLast events batch i p None = length (own_events (with_batch events (take i batch)) p) ≡ 0
IsLast events batch i p (Some t) =
    (target_place events batch t ≡ record { process = p; position = length (own_events (with_batch events (take i batch)) p) })
    × (0 < length (own_events (with_batch events (take i batch)) p))

pub own_len : (events : Events) (p : ℕ) → get_or (map length events) p 0 ≡ length (own_events events p)
own_len [] p = refl
own_len (es ∷ events) zero = refl
own_len (es ∷ events) (suc p) = own_len events p

-- what was admitted is there
pub admitted_last : (events : Events) (batch : List Event) (lens : List ℕ) (p : ℕ) → lens ≡ map length events → IsLast events batch 0 p (admitted_at lens p (get_or lens p 0))
admitted_last events batch lens p is = go (get_or lens p 0) refl
  where
    len : get_or lens p 0 ≡ length (own_events (with_batch events (take 0 batch)) p)
    len = ap (λ (xs : List ℕ). get_or xs p 0) is ∙ own_len events p ∙ ap (λ (x : Events). length (own_events x p)) (sym (no_batch events batch))

    at : (a : ℕ) → get_or lens p 0 ≡ suc a → admitted_at lens p (suc a) ≡ Some (Admitted (record { process = p; position = suc a }))
    at a h = cond-true (nat_lt 0 (suc a) && nat_le (suc a) (get_or lens p 0)) _ _ (and_from (nat_lt 0 (suc a)) _ (lt-ltb 0 (suc a) (omega arith)) (le-leb (suc a) (get_or lens p 0) (omega (arith, h))))

    none_at : (a : ℕ) → a ≡ 0 → IsLast events batch 0 p (admitted_at lens p a) → IsLast events batch 0 p (admitted_at lens p a)
    none_at a h k = k

    go : (a : ℕ) → get_or lens p 0 ≡ a → IsLast events batch 0 p (admitted_at lens p a)
    go zero h = sym len ∙ h
    go (suc a) h =
        subst (IsLast events batch 0 p) (sym (at a h))
        (ap (λ (n : ℕ). let x : Place = record { process = p; position = n } in x) (sym h ∙ len), omega (arith, h, len))

-- one event more
pub last_next : (events : Events) (batch : List Event) (i : ℕ) (e : Event) (lasts : List (Option Target)) → i < length batch → e ≡ get_or batch i e → e.process < length events → length lasts ≡ length events
    → ((p : ℕ) → p < length events → IsLast events batch i p (get_or lasts p None)) → (p : ℕ) → p < length events → IsLast events batch (i + 1) p (get_or (set lasts e.process (Some (InBatch i))) p None)
last_next events batch i e lasts lt at there count each p here = elim (cases_eq p e.process) [
  | inl same ↦ subst (λ (q : ℕ). IsLast events batch (i + 1) q (get_or (set lasts e.process (Some (InBatch i))) q None)) (sym same) own
  | inr other ↦
      let kept = ap (λ (x : Events). length (own_events x p)) next ∙ ap length (own_other (with_batch events (take i batch)) e p other) in
      subst (IsLast events batch (i + 1) p) (sym (get_or-set_other lasts e.process p (Some (InBatch i)) None other)) (moved (get_or lasts p None) kept (each p here))
]
  where
    next : with_batch events (take (i + 1) batch) ≡ with_event (with_batch events (take i batch)) e
    next = batch_next events batch i e lt at

    moved : (o : Option Target) → length (own_events (with_batch events (take (i + 1) batch)) p) ≡ length (own_events (with_batch events (take i batch)) p) → IsLast events batch i p o → IsLast events batch (i + 1) p o
    moved None kept h = kept ∙ h
    moved (Some t) kept h = (h.0 ∙ ap (λ (n : ℕ). let x : Place = record { process = p; position = n } in x) (sym kept), omega (arith, kept, h.1))

    len : length (own_events (with_batch events (take (i + 1) batch)) e.process) ≡ length (own_events (with_batch events (take i batch)) e.process) + 1
    len =
        ap (λ (x : Events). length (own_events x e.process)) next ∙ ap length (own_same (with_batch events (take i batch)) e (omega (arith, there, length-with_batch events (take i batch))))
        ∙ length-append (own_events (with_batch events (take i batch)) e.process) (e ∷ [])

    own : IsLast events batch (i + 1) e.process (get_or (set lasts e.process (Some (InBatch i))) e.process None)
    own = subst (IsLast events batch (i + 1) e.process) (sym (get_or-set_same lasts e.process (Some (InBatch i)) None (omega (arith, there, count))))
        (ap (node_of) (event_is batch i e lt at) ∙ ap (λ (n : ℕ). let x : Place = record { process = e.process; position = n } in x) (sym len), omega (arith, len))
      where
        node_of : Event → Place
        node_of x = record { process = x.process; position = place (with_batch events (take i batch)) x }

pub lasts_there : (lens : List ℕ) (lasts : List (Option Target)) (i p : ℕ) → ((q : ℕ) → IsTarget lens i (get_or lasts q None)) → (q : ℕ) → IsTarget lens (i + 1) (get_or (set lasts p (Some (InBatch i))) q None)
lasts_there lens [] i p each q = tt
lasts_there lens (x ∷ lasts) i zero each zero = omega arith
lasts_there lens (x ∷ lasts) i zero each (suc q) = more_target lens i (i + 1) (omega arith) (get_or lasts q None) (each (suc q))
lasts_there lens (x ∷ lasts) i (suc p) each zero = more_target lens i (i + 1) (omega arith) x (each 0)
lasts_there lens (x ∷ lasts) i (suc p) each (suc q) = lasts_there lens lasts i p (λ k. each (suc k)) q

-- the event before
pub last_is_before : (events : Events) (batch : List Event) (i : ℕ) (o : Option Target) → IsLast events batch i (event_in batch i).process o → Finds events batch (IsBefore (node_place events batch i)) o
last_is_before events batch i None h = λ y b. omega (arith, h, b.position, b.there)
last_is_before events batch i (Some t) h = (
  subst (IsBefore (node_place events batch i)) (sym h.0) (record { process = refl; position = refl; there = h.1 }),
  λ y b. same y b ∙ sym h.0,
)
  where
    same : (y : Place) → IsBefore (node_place events batch i) y → y ≡ record { process = (event_in batch i).process; position = length (own_events (with_batch events (take i batch)) (event_in batch i).process) }
    same y b =
        let position : y.position ≡ length (own_events (with_batch events (take i batch)) (event_in batch i).process) = omega (arith, b.position) in
        λ k. record { process = b.process k; position = position k }

-- ---- one node more

pub first_targets : (lens : List ℕ) (lasts : List (Option Target)) → length lasts ≡ length lens → ((p : ℕ) → p < length lens → get_or lasts p None ≡ admitted_at lens p (get_or lens p 0)) → (p : ℕ) → IsTarget lens 0 (get_or lasts p None)
first_targets lens lasts count each p = elim (cases_lt p (length lens)) [
  | inl lt ↦ subst (IsTarget lens 0) (sym (each p lt)) (admitted_there (nat_lt 0 (get_or lens p 0) && nat_le (get_or lens p 0) (get_or lens p 0)) refl)
  | inr not ↦ subst (IsTarget lens 0) (sym (past lasts p (omega (arith, not, count)))) tt
]
  where
    past : (xs : List (Option Target)) (k : ℕ) → length xs ≤ k → get_or xs k None ≡ None
    past [] k le = refl
    past (x ∷ xs) zero le = absurd (omega (arith, le))
    past (x ∷ xs) (suc k) le = past xs k (omega (arith, le))

    admitted_there : (b : Bool) → (nat_lt 0 (get_or lens p 0) && nat_le (get_or lens p 0) (get_or lens p 0)) ≡ b
        → IsTarget lens 0 (if b then Some (Admitted (record { process = p; position = get_or lens p 0 })) else None)
    admitted_there false h = tt
    admitted_there true h =
        let parts = and_parts (nat_lt 0 (get_or lens p 0)) (nat_le (get_or lens p 0) (get_or lens p 0)) h in
        let some = ltb-true 0 (get_or lens p 0) parts.0 in
        record { process = omega (arith, lt_of some); first = omega (arith, some); last = omega arith }
      where
        lt_of : 0 < get_or lens p 0 → p < length lens
        lt_of some = go lens p some
          where
            go : (xs : List ℕ) (k : ℕ) → 0 < get_or xs k 0 → k < length xs
            go [] k s = absurd (omega (arith, s))
            go (x ∷ xs) zero s = omega arith
            go (x ∷ xs) (suc k) s = omega (arith, go xs k s)

pub next_node : (events : Events) (batch : List Event) (lens taken : List ℕ) (i : ℕ) (e : Event) (a : ℕ) (before sent : Option Target) (lasts : List (Option Target)) → i < length batch → e ≡ get_or batch i e → e.process < length taken → e.process < length events → e.process < length lasts
    → taken ≡ raised lens (take i batch) → lens ≡ map length events → a ≡ get_or taken e.process a → before ≡ get_or lasts e.process before
    → IsLast events batch i e.process (get_or lasts e.process None) → sent ≡ send_of lens events batch e
    → IsNode events batch i (record { position = a + 1; before = before; sent = sent })
next_node events batch lens taken i e a before sent lasts lt at there here wide counts is read last_read last sends_is = record {
  position = (is_next events batch lens taken i e a lt at there counts is read).place_is ∙ ap (place (with_batch events (take i batch))) (sym (event_is batch i e lt at));
  before = last_is_before events batch i before (subst (λ (x : Event). IsLast events batch i x.process before) (sym (event_is batch i e lt at))
      (subst (IsLast events batch i e.process) (sym (last_read ∙ get_or_default lasts e.process before None wide)) last));
  sent = sends_is ∙ ap (λ (xs : List ℕ). send_of xs events batch e) is ∙ ap (send_of (map length events) events batch) (sym (event_is batch i e lt at));
}
