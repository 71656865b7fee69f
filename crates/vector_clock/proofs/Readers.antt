-- The nodes that look back on each node.
use Rattle.std.proofs.Common.{◌≡◌, ◌⊎◌, ℕ, zero, suc, ◌+◌, ◌<◌, ◌≤◌, true, false, List, [], ◌∷◌, ◌++◌, length, get_or, set, replicate, refl, sym, ap, ◌∙◌, subst, arith, inl, inr}
use Rattle.std.specs.Prelude.{Option, None, Some}
use Rattle.std.specs.List.{Contains}
use Rattle.std.proofs.lemmas.Option.{same_Some}
use Rattle.std.proofs.lemmas.Bool.{cases_eq}
use Rattle.std.proofs.lemmas.List.{length-set, get_or-set_same, get_or-set_other, get_or_default}
use Rattle.std.proofs.lemmas.List.Elements.{Contains-append_left, Contains-push, Contains-push_cases, Contains-get_or}
use Rattle.pota_base.specs.declared.shape.EventId.{EventId}
use Rattle.event_log.specs.declared.log.Event.{Event}
use Rattle.greatest_reach.specs.Graph.{IsGraph, Reads}
use Rattle.vector_clock.specs.declared.nodes.Target.{Target}
use Rattle.vector_clock.specs.declared.nodes.Target.TheVariants.{Admitted, InBatch}
use Rattle.vector_clock.specs.declared.nodes.Node.{Node}
use Rattle.vector_clock.specs.Filled.{is_left_out}
use Rattle.vector_clock.specs.inside.Nodes.{event_in, IsBeforeInBatch, node_at, LooksTo, AreReaders}
use Rattle.vector_clock.specs.inside.Nodes.{with_reader}

-- ---- one reader more

in_batch : (y z : ℕ) → InBatch y ≡ InBatch z → y ≡ z
in_batch y z h = ap of h
  where
    of : Target → ℕ
    of (InBatch k) = k
    of (Admitted id) = 0

not_admitted : (id : EventId) (y : ℕ) → Admitted id ≡ InBatch y → ⊥
not_admitted id y h = cc

pub length-with_reader : (readers : List (List ℕ)) (x : ℕ) (t : Option Target) → length (with_reader readers x t) ≡ length readers
length-with_reader readers x None = refl
length-with_reader readers x (Some (Admitted id)) = refl
length-with_reader readers x (Some (InBatch k)) = length-set readers k _

-- what is read then was read before, or it is the new one
reads_with : (readers : List (List ℕ)) (x : ℕ) (t : Option Target) (a b : ℕ) → IsBeforeInBatch (length readers) t → Reads (with_reader readers x t) a b → Reads readers a b ⊎ ((a ≡ x) × (t ≡ Some (InBatch b)))
reads_with readers x None a b within h = inl h
reads_with readers x (Some (Admitted id)) a b within h = inl h
reads_with readers x (Some (InBatch k)) a b within h = elim (cases_eq b k) [
  | inr other ↦ inl (subst (λ (xs : List ℕ). Contains xs a) (get_or-set_other readers k b _ [] other) h)
  | inl same ↦
      let at : get_or (set readers k (get_or readers k [] ++ x ∷ [])) b [] ≡ get_or readers k [] ++ x ∷ [] =
      ap (λ (n : ℕ). get_or (set readers k (get_or readers k [] ++ x ∷ [])) n []) same ∙ get_or-set_same readers k (get_or readers k [] ++ x ∷ []) [] within in
      elim (Contains-push_cases (get_or readers k []) x a (subst (λ (xs : List ℕ). Contains xs a) at h)) [
        | inl old ↦ inl (subst (λ (n : ℕ). Contains (get_or readers n []) a) (sym same) old)
        | inr is ↦ inr (sym is, ap (λ (n : ℕ). let o : Option Target = Some (InBatch n) in o) (sym same))
      ]
]

with_reads : (readers : List (List ℕ)) (x : ℕ) (t : Option Target) (a b : ℕ) → IsBeforeInBatch (length readers) t → Reads readers a b → Reads (with_reader readers x t) a b
with_reads readers x None a b within h = h
with_reads readers x (Some (Admitted id)) a b within h = h
with_reads readers x (Some (InBatch k)) a b within h = elim (cases_eq b k) [
  | inr other ↦ subst (λ (xs : List ℕ). Contains xs a) (sym (get_or-set_other readers k b (get_or readers k [] ++ x ∷ []) [] other)) h
  | inl same ↦
      let at : get_or (set readers k (get_or readers k [] ++ x ∷ [])) b [] ≡ get_or readers k [] ++ x ∷ [] =
      ap (λ (n : ℕ). get_or (set readers k (get_or readers k [] ++ x ∷ [])) n []) same ∙ get_or-set_same readers k (get_or readers k [] ++ x ∷ []) [] within in
      subst (λ (xs : List ℕ). Contains xs a) (sym at) (Contains-append_left (get_or readers k []) (x ∷ []) a (subst (λ (n : ℕ). Contains (get_or readers n []) a) same h))
]

new_reads : (readers : List (List ℕ)) (x : ℕ) (t : Option Target) (b : ℕ) → IsBeforeInBatch (length readers) t → t ≡ Some (InBatch b) → Reads (with_reader readers x t) x b
new_reads readers x None b within h = absurd (none h)
  where
    none : ◌≡◌ {A = Option Target} None (Some (InBatch b)) → ⊥
    none k = cc
new_reads readers x (Some (Admitted id)) b within h = absurd (not_admitted id b (same_Some (Admitted id) (InBatch b) h))
new_reads readers x (Some (InBatch k)) b within h =
    let is = in_batch k b (same_Some (InBatch k) (InBatch b) h) in
    subst (λ (n : ℕ). Contains (get_or (set readers k (get_or readers k [] ++ x ∷ [])) n []) x) is
    (subst (λ (xs : List ℕ). Contains xs x) (sym (get_or-set_same readers k (get_or readers k [] ++ x ∷ []) [] within)) (Contains-push (get_or readers k []) x))

-- ---- one node after the other

nothing_read : (n a b : ℕ) → Reads (replicate n []) a b → ⊥
nothing_read zero a b h = omega (arith, h.1)
nothing_read (suc n) a zero h = omega (arith, h.1)
nothing_read (suc n) a (suc b) h = nothing_read n a b h

-- an event with a written clock looks back on nothing
pub written_reader : (batch : List Event) (nodes : List Node) (i : ℕ) (readers : List (List ℕ)) → is_left_out (event_in batch i) ≡ false → AreReaders batch nodes i readers → AreReaders batch nodes (i + 1) readers
written_reader batch nodes i readers written are = record {
  nodes_are = are.nodes_are;
  sound = λ x y r.
      let k = are.sound x y r in
      (omega (arith, k.0), k.1);
  all = λ x y lt l. elim (cases_eq x i) [
    | inl same ↦ absurd (no_bool (sym (subst (λ (n : ℕ). is_left_out (event_in batch n) ≡ true) same l.left_out) ∙ written))
    | inr other ↦ are.all x y (omega (arith, lt, other)) l
  ];
}
  where
    no_bool : true ≡ false → ⊥
    no_bool h = cc

pub reader_more : (batch : List Event) (nodes : List Node) (i : ℕ) (node : Node) (readers : List (List ℕ)) → is_left_out (event_in batch i) ≡ true → node ≡ node_at nodes i
    → IsBeforeInBatch (length batch) node.before → IsBeforeInBatch (length batch) node.sent → AreReaders batch nodes i readers → AreReaders batch nodes (i + 1) (with_reader (with_reader readers i node.before) i node.sent)
reader_more batch nodes i node readers out at before sent are = record {
  nodes_are = length-with_reader (with_reader readers i node.before) i node.sent ∙ length-with_reader readers i node.before ∙ are.nodes_are;
  sound = sound;
  all = all;
}
  where
    one : IsBeforeInBatch (length readers) node.before
    one = subst (λ (n : ℕ). IsBeforeInBatch n node.before) (sym are.nodes_are) before

    two : IsBeforeInBatch (length (with_reader readers i node.before)) node.sent
    two = subst (λ (n : ℕ). IsBeforeInBatch n node.sent) (sym (length-with_reader readers i node.before ∙ are.nodes_are)) sent

    looks : (x y : ℕ) → x ≡ i → ((node.before ≡ Some (InBatch y)) ⊎ (node.sent ≡ Some (InBatch y))) → LooksTo batch nodes x y
    looks x y same to = subst (λ (n : ℕ). LooksTo batch nodes n y) (sym same) (record {
      left_out = out;
      target = elim to [ inl b ↦ inl (ap (λ (n : Node). n.before) (sym at) ∙ b) | inr s ↦ inr (ap (λ (n : Node). n.sent) (sym at) ∙ s) ];
    })

    sound : (x y : ℕ) → Reads (with_reader (with_reader readers i node.before) i node.sent) x y → (x < i + 1) × LooksTo batch nodes x y
    sound x y r = elim (reads_with (with_reader readers i node.before) i node.sent x y two r) [
      | inr new_ ↦ (omega (arith, new_.0), looks x y new_.0 (inr new_.1))
      | inl mid ↦ elim (reads_with readers i node.before x y one mid) [
        | inr new_ ↦ (omega (arith, new_.0), looks x y new_.0 (inl new_.1))
        | inl old ↦
            let k = are.sound x y old in
            (omega (arith, k.0), k.1)
      ]
    ]

    all : (x y : ℕ) → x < i + 1 → LooksTo batch nodes x y → Reads (with_reader (with_reader readers i node.before) i node.sent) x y
    all x y lt l = elim (cases_eq x i) [
      | inr other ↦ with_reads (with_reader readers i node.before) i node.sent x y two (with_reads readers i node.before x y one (are.all x y (omega (arith, lt, other)) l))
      | inl same ↦
          subst (λ (n : ℕ). Reads (with_reader (with_reader readers i node.before) i node.sent) n y) (sym same)
          (elim (subst (λ (n : ℕ). ((node_at nodes n).before ≡ Some (InBatch y)) ⊎ ((node_at nodes n).sent ≡ Some (InBatch y))) same l.target) [
            | inl b ↦ with_reads (with_reader readers i node.before) i node.sent i y two (new_reads readers i node.before y one (ap (λ (n : Node). n.before) at ∙ b))
            | inr s ↦ new_reads (with_reader readers i node.before) i node.sent y two (ap (λ (n : Node). n.sent) at ∙ s)
          ])
    ]

pub readers_are_nodes : (batch : List Event) (nodes : List Node) (i : ℕ) (readers : List (List ℕ)) → i ≤ length batch → AreReaders batch nodes i readers → IsGraph readers
readers_are_nodes batch nodes i readers le are = λ y d lt k e here.
    let is = get_or_default readers y d [] lt in
    let low : k < length (get_or readers y []) = omega (arith, here, ap length is) in
    let there = are.sound (get_or (get_or readers y []) k e) y (Contains-get_or (get_or readers y []) k e low) in
    omega (arith, there.0, le, are.nodes_are, ap (λ (xs : List ℕ). get_or xs k e) is)
