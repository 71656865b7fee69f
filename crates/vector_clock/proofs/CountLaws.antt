-- The counts of clocks that are left out, one process after the other.
use Rattle.std.proofs.Common.{◌≡◌, ℕ, ◌+◌, ◌<◌, ◌≤◌, Bool, true, false, List, [], ◌∷◌, ◌++◌, length, get_or, refl, sym, ap, ◌∙◌, subst, arith, inl, inr, length-append}
use Rattle.std.specs.Prelude.{Option, None, Some, ◌==◌, if◌then◌else◌}
use Rattle.std.specs.List.{All}
use Rattle.std.proofs.lemmas.Bool.{cases_eq, cases_lt, eq-eqb, ne_eqb}
use Rattle.std.proofs.lemmas.List.{get_or_append_left, get_or-append-add, get_or_default}
use Rattle.std.proofs.lemmas.List.Elements.{All-nil, All-cons, All-append, All-contains, Contains-append_left, Contains-append_right, Contains-append_cases, Contains-get_or}
use Rattle.event_log.specs.declared.log.Event.{Event}
use Rattle.event_log.specs.declared.log.Kind.{Kind}
use Rattle.event_log.specs.declared.log.Kind.TheVariants as kind
use Rattle.run_model.specs.Cut.{Cut, Clocks, count}
use Rattle.greatest_reach.specs.declared.reach.Start.{Start}
use Rattle.greatest_reach.specs.Back.{IsGreatest}
use Rattle.greatest_reach.specs.Graph.{Reads, Starts, StartsIn, AreGreatest}
use Rattle.vector_clock.specs.declared.nodes.Target.{Target}
use Rattle.vector_clock.specs.declared.nodes.Target.TheVariants.{Admitted, InBatch}
use Rattle.vector_clock.specs.declared.nodes.Node.{Node}
use Rattle.vector_clock.specs.Messages.{message_sent}
use Rattle.vector_clock.specs.Fill.{no_event}
use Rattle.vector_clock.specs.Filled.{is_left_out}
use Rattle.vector_clock.specs.inside.Nodes.{event_in, node_at, admitted_start, starts_of, AreStarts}
use Rattle.vector_clock.specs.inside.Nodes.{StartsAt, AreCounts, HaveCounts, HaveMore}

pub no_send : (p : ℕ) (k : Kind) → ((to id : ℕ) → k ≡ kind.Send to id → ⊥) → message_sent p k ≡ None
no_send p kind.Internal h = refl
no_send p (kind.Send to id) h = absurd (h to id refl)
no_send p (kind.Receive sender id) h = refl

pub left_out_at : (batch : List Event) (i : ℕ) (d : Event) → i < length batch → (get_or batch i d).clock ≡ [] → is_left_out (event_in batch i) ≡ true
left_out_at batch i d lt none =
    eq-eqb (length (event_in batch i).clock) 0 (ap (λ (e : Event). length e.clock) (get_or_default batch i no_event d lt) ∙ ap length none)

pub nothing : (xs : List ℕ) → length xs ≡ 0 → xs ≡ []
nothing [] h = refl
nothing (x ∷ xs) h = absurd (omega (arith, h))

pub written_at : (batch : List Event) (i : ℕ) (d : Event) (b : Bool) → i < length batch → ((get_or batch i d).clock ≡ [] → b ≡ true) → b ≡ false → is_left_out (event_in batch i) ≡ false
written_at batch i d b lt tells not_empty =
    ne_eqb (length (event_in batch i).clock) 0 (λ none. no_bool (sym (tells (ap (λ (e : Event). e.clock) (get_or_default batch i d no_event lt) ∙ nothing (event_in batch i).clock none)) ∙ not_empty))
  where
    no_bool : true ≡ false → ⊥
    no_bool h = cc

-- ---- the numbers that start

admitted_at_node : (o : Clocks) (j x : ℕ) (t : Option Target) → All (λ (s : Start). s.node ≡ x) (admitted_start o j x t)
admitted_at_node o j x None = All-nil _
admitted_at_node o j x (Some (InBatch k)) = All-nil _
admitted_at_node o j x (Some (Admitted id)) = All-cons (λ (s : Start). s.node ≡ x) _ [] refl (All-nil _)

at_node : (o : Clocks) (j x : ℕ) (e : Event) (node : Node) → All (λ (s : Start). s.node ≡ x) (starts_of o j x e node)
at_node o j x e node = go (is_left_out e) (e.process == j)
  where
    both : All (λ (s : Start). s.node ≡ x) (admitted_start o j x node.before ++ admitted_start o j x node.sent)
    both = All-append (λ (s : Start). s.node ≡ x) (admitted_start o j x node.before) (admitted_start o j x node.sent) (admitted_at_node o j x node.before) (admitted_at_node o j x node.sent)

    go : (out own : Bool) → All (λ (s : Start). s.node ≡ x) (if out then (if own then record { value = node.position; node = x } ∷ [] else []) ++ (admitted_start o j x node.before ++ admitted_start o j x node.sent) else record { value = count e.clock j; node = x } ∷ [])
    go false own = All-cons (λ (s : Start). s.node ≡ x) _ [] refl (All-nil _)
    go true true = All-cons (λ (s : Start). s.node ≡ x) _ _ refl both
    go true false = both

pub starts_more : (o : Clocks) (j : ℕ) (batch : List Event) (nodes : List Node) (i : ℕ) (starts more : List Start) → more ≡ starts ++ starts_of o j i (event_in batch i) (node_at nodes i) → AreStarts o j batch nodes i starts
    → AreStarts o j batch nodes (i + 1) more
starts_more o j batch nodes i starts more is are = subst (AreStarts o j batch nodes (i + 1)) (sym is) (record { sound = sound; all = all })
  where
    own : List Start
    own = starts_of o j i (event_in batch i) (node_at nodes i)

    sound : (x n : ℕ) → Starts (starts ++ own) x n → (x < i + 1) × Starts (starts_of o j x (event_in batch x) (node_at nodes x)) x n
    sound x n h = elim (Contains-append_cases starts own (record { value = n; node = x }) h) [
      | inl old ↦
          let k = are.sound x n old in
          (omega (arith, k.0), k.1)
      | inr new_ ↦
          let same : x ≡ i = All-contains (λ (s : Start). s.node ≡ i) own (record { value = n; node = x }) (at_node o j i (event_in batch i) (node_at nodes i)) new_ in
          (omega (arith, same), subst (λ (y : ℕ). Starts (starts_of o j y (event_in batch y) (node_at nodes y)) x n) (sym same) new_)
    ]

    all : (x n : ℕ) → x < i + 1 → Starts (starts_of o j x (event_in batch x) (node_at nodes x)) x n → Starts (starts ++ own) x n
    all x n lt h = elim (cases_eq x i) [
      | inr other ↦ Contains-append_left starts own (record { value = n; node = x }) (are.all x n (omega (arith, lt, other)) h)
      | inl same ↦ Contains-append_right starts own (record { value = n; node = x }) (subst (λ (y : ℕ). Starts (starts_of o j y (event_in batch y) (node_at nodes y)) x n) same h)
    ]

pub starts_there : (o : Clocks) (j : ℕ) (batch : List Event) (nodes : List Node) (starts : List Start) → AreStarts o j batch nodes (length batch) starts → StartsIn (length batch) starts
starts_there o j batch nodes starts are = λ k d lt. (are.sound (get_or starts k d).node (get_or starts k d).value (Contains-get_or starts k d lt)).0

-- ---- the counts of one process

pub counts_found : (o : Clocks) (j : ℕ) (batch : List Event) (nodes : List Node) (readers : List (List ℕ)) (starts : List Start) (values : List ℕ) → length readers ≡ length batch → AreStarts o j batch nodes (length batch) starts → AreGreatest readers starts values
    → AreCounts o batch nodes readers j values
counts_found o j batch nodes readers starts values size are found = record {
  width = found.width ∙ size;
  each = λ k lt.
      let is = found.each k (omega (arith, lt, size)) in
      record {
        above = λ x b n h. is.above x b n (are.all x n h.0 h.1);
        reached = elim is.reached [
          | inl none ↦ inl none
          | inr there ↦ inr (there.0, there.1, are.sound there.0 _ there.2)
        ];
      };
}

-- ---- one count more in each clock

pub record HaveMoreUpto (i : ℕ) (old new : List Cut) (values : List ℕ) : Type 0 where
  pub size : length new ≡ length old
  pub done : (k : ℕ) → k < i → get_or new k [] ≡ get_or old k [] ++ get_or values k 0 ∷ []
  pub rest : (k : ℕ) → i ≤ k → get_or new k [] ≡ get_or old k []

pub counts_more : (o : Clocks) (batch : List Event) (nodes : List Node) (readers : List (List ℕ)) (j : ℕ) (old new : List Cut) (values : List ℕ) → HaveCounts o batch nodes readers j old → AreCounts o batch nodes readers j values → HaveMore old new values
    → HaveCounts o batch nodes readers (j + 1) new
counts_more o batch nodes readers j old new values have are more = record {
  nodes_are = more.nodes_are ∙ have.nodes_are;
  width = λ k lt.
      ap length (more.each k (omega (arith, lt, have.nodes_are))) ∙ length-append (get_or old k []) (get_or values k 0 ∷ []) ∙ ap (λ (n : ℕ). n + 1) (have.width k lt);
  counts = λ k q lt low.
      let row = more.each k (omega (arith, lt, have.nodes_are)) in
      elim (cases_lt q j) [
        | inl before ↦
            subst (IsGreatest (Reads readers) (StartsAt o batch nodes q) k)
            (sym (ap (λ (c : Cut). count c q) row ∙ get_or_append_left (get_or old k []) (get_or values k 0 ∷ []) 0 q (omega (arith, before, have.width k lt)))) (have.counts k q lt before)
        | inr not ↦
            let is : q ≡ j = omega (arith, low, not) in
            let at : j ≡ length (get_or old k []) + 0 = omega (arith, have.width k lt) in
            subst (λ (p : ℕ). IsGreatest (Reads readers) (StartsAt o batch nodes p) k (count (get_or new k []) p)) (sym is)
            (subst (IsGreatest (Reads readers) (StartsAt o batch nodes j) k)
            (sym (ap (λ (c : Cut). count c j) row ∙ ap (λ (n : ℕ). get_or (get_or old k [] ++ get_or values k 0 ∷ []) n 0) at ∙ get_or-append-add (get_or old k []) (get_or values k 0 ∷ []) 0 0)) (are.each k lt))
      ];
}
