-- What is told has a spelling: the events are there, and the cuts are within the lengths.
use Rattle.std.proofs.Common.{◌≡◌, ℕ, ◌≤◌, ltb, ◌&&◌, List, [], ◌∷◌, length, map, flat_map, All, Option, Some, None, refl, sym, ◌∙◌, ap, subst, arith}
use Rattle.std.specs.Prelude.{option_map, ⊤}
use Rattle.std.specs.List.{AllByRecursion, range_with_len}
use Rattle.std.proofs.lemmas.Bool.{cond_both, ltb-true, and_parts}
use Rattle.std.proofs.lemmas.List.Elements.{All-nil, All-cons, All-head, All-tail}
use Rattle.run_model.specs.Cut.{Cut, Clocks, count, IsWithin, with_next, lengths, initial}
use Rattle.run_model.specs.Consistent.{IsConsistent, IsEvent, clock}
use Rattle.run_model.specs.Sublattice.{Having}
use Rattle.run_model.specs.Slice as model
use Rattle.run_model.specs.Slice.{Slice, Cuts, StandsFor, IsLeastOf, IsPrintedAs, cut_of, previous, edge_into, edges_of}
use Rattle.run_model.specs.Witness as W
use Rattle.run_model.specs.Witness.{WitnessOperator, Place, PathTo, IsPlace, FirstSteps, IsCanonical}
use Rattle.run_model.proofs.Counts.{length-lengths, length-initial, with_next_same}
use Rattle.run_model.proofs.EdgeLemmas.{all_flat}
use Rattle.run_model.proofs.Orders.{initial_consistent}
use Rattle.pota_base.specs.declared.shape.EventId.{EventId}
use Rattle.pota_base.specs.Shape.{HasEvent}
use Rattle.slice_graph.specs.declared.edges.Edge.{Edge}
use Rattle.slice_graph.specs.Edges.{edge_of}
use Rattle.slice_graph.specs.Views.{SliceView, slice_of, joined_rows}
use Rattle.slice_graph.specs.Fitting.{FitsOrder}
use Rattle.witness_kinds.specs.declared.Path.{Path}
use Rattle.witness_kinds.specs.declared.Witness.{Witness}
use Rattle.witness_kinds.specs.declared.Witness.TheVariants as witness
use Rattle.witness_kinds.specs.Views.{places_of, path_of, witness_of}
use Rattle.witness.proofs.CaseSteps.{place_event}
use Rattle.report_lines.specs.Spelling.{CutFits, EdgeFits, PathFits, WitnessFits}
use Rattle.report.specs.Spelling.{SliceFits}

cut_fits : (o : Clocks) (c : Cut) → IsConsistent o c → CutFits (lengths o) c
cut_fits o c k = record { width = k.shaped ∙ sym (length-lengths o); within = k.within }

-- ---- edges

-- both events of the edge are there
abbrev EdgeThere : Clocks → model.Edge → Type 0
EdgeThere o e = IsEvent (lengths o) e.cause e.cause_position × IsEvent (lengths o) e.effect e.effect_position

-- the row of an event that is there is within the lengths
row_within : (o : Clocks) (A : Cut → Type 0) → ((c : Cut) → A c → IsConsistent o c) → (s : Slice) → StandsFor o s A → (p a q : ℕ) → IsEvent (lengths o) p a
    → count (cut_of (s.row p a)) q ≤ count (lengths o) q
row_within o A members s stands p a q there = by (s.row p a) (stands.rows p a there)
  where
    by : (k : Option Cut) → IsLeastOf (Having A p a) k → count (cut_of k) q ≤ count (lengths o) q
    by None least = omega arith
    by (Some j) least = (members j least.member.0).within q

edge_there : (o : Clocks) (A : Cut → Type 0) → ((c : Cut) → A c → IsConsistent o c) → (s : Slice) → StandsFor o s A → (p a q : ℕ) → IsEvent (lengths o) p a
    → All (EdgeThere o) (edge_into o s p a q)
edge_there o A members s stands p a q there = cond_both (ltb before here && ltb past here) (edge ∷ []) [] (All (EdgeThere o))
    (λ t. let more = ltb-true before here (and_parts (ltb before here) (ltb past here) t).0 in
    All-cons (EdgeThere o) edge [] ((omega (arith, more), row_within o A members s stands p a q there), there) (All-nil (EdgeThere o)))
    (λ f. All-nil (EdgeThere o))
  where
    here : ℕ
    here = count (cut_of (s.row p a)) q

    before : ℕ
    before = count (cut_of (previous s p a)) q

    past : ℕ
    past = count (clock o p a) q

    edge : model.Edge
    edge = record { cause = q; cause_position = count (cut_of (s.row p a)) q; effect = p; effect_position = a }

edges_there : (o : Clocks) (A : Cut → Type 0) → ((c : Cut) → A c → IsConsistent o c) → (s : Slice) → StandsFor o s A → (high : Cut) → IsWithin high (lengths o)
    → All (EdgeThere o) (edges_of o s high)
unfolding edges_of
edges_there o A members s stands high within = all_flat (EdgeThere o) (λ p. flat_map (λ a. flat_map (edge_into o s p a) (range_with_len 0 (length (cut_of (s.row p a))))) (range_with_len 1 (count high p))) 0 (length high) (λ p l m.
    all_flat (EdgeThere o) (λ a. flat_map (edge_into o s p a) (range_with_len 0 (length (cut_of (s.row p a))))) 1 (count high p) (λ a first last.
    all_flat (EdgeThere o) (edge_into o s p a) 0 (length (cut_of (s.row p a))) (λ q k n.
    edge_there o A members s stands p a q (omega (arith, first), omega (arith, last, within p)))))

edges_fit : (o : Clocks) (edges : List Edge) → All (EdgeThere o) (map edge_of edges) → AllByRecursion (EdgeFits (lengths o)) edges
edges_fit o [] h = tt
edges_fit o (e ∷ edges) h =
    let first = All-head (EdgeThere o) (edge_of e) (map edge_of edges) h in
    (record { cause = place_event o e.cause first.0; effect = place_event o e.effect first.1 }, edges_fit o edges (All-tail (EdgeThere o) (edge_of e) (map edge_of edges) h))

pub slice_fits : (o : Clocks) (s : SliceView) → FitsOrder o s → (bounds : Option (Cut × Cut)) (edges : List Edge)
    → bounds ≡ option_map (λ low. (low, joined_rows s)) (slice_of s).bottom → ((slice_of s).bottom ≡ None → edges ≡ [])
    → ((low : Cut) → (slice_of s).bottom ≡ Some low → IsPrintedAs o (Cuts o (slice_of s)) low (joined_rows s) (map edge_of edges))
    → SliceFits (lengths o) (record { bounds = bounds; edges = edges })
slice_fits o s fits bounds edges are none printed = by (slice_of s).bottom refl
  where
    P : Option (Cut × Cut) → Type 0
    P b = SliceFits (lengths o) (record { bounds = b; edges = edges })

    by : (bottom : Option Cut) → (slice_of s).bottom ≡ bottom → P bounds
    by None e =
        let without : AllByRecursion (EdgeFits (lengths o)) edges = subst (AllByRecursion (EdgeFits (lengths o))) (sym (none e)) tt in
        subst P (sym (are ∙ ap (option_map (λ low. (low, joined_rows s))) e)) (record { bounds = tt; edges = without; empty = λ _. none e })
    by (Some low) e =
        let text = printed low e in
        let there = edges_there o (Cuts o (slice_of s)) (λ c h. h.consistent) text.slice text.stands (joined_rows s) text.greatest.member.consistent.within in
        subst P (sym (are ∙ ap (option_map (λ low. (low, joined_rows s))) e)) (record {
          bounds = (cut_fits o low text.least.member.consistent, cut_fits o (joined_rows s) text.greatest.member.consistent);
          edges = edges_fit o edges (subst (All (EdgeThere o)) (sym text.listed) there);
          empty = λ absent. absurd (cc);
        })

-- ---- witnesses

abbrev PlacesThere : Clocks → List Place → Type 0
PlacesThere o [] = ⊤
PlacesThere o (e ∷ es) = IsPlace o e × PlacesThere o es

abbrev PathThere : Clocks → PathTo → Type 0
PathThere o path = IsConsistent o path.goal × PlacesThere o path.steps

abbrev WitnessThere : Clocks → W.Witness → Type 0
WitnessThere o W.Nothing = ⊤
WitnessThere o (W.Reach path) = PathThere o path
WitnessThere o (W.Against path) = PathThere o path
WitnessThere o (W.Always path) = PathThere o path
WitnessThere o W.StuckStart = ⊤
WitnessThere o W.StuckFinish = ⊤
WitnessThere o (W.StuckPair first other) = IsPlace o first × IsPlace o other

first_member : (A : Cut → Type 0) (c : Cut) (es : List Place) (d : Cut) → FirstSteps A c es d → A c
first_member A c [] d h = h.0
first_member A c (e ∷ es) d h = h.0

path_there : (o : Clocks) (A : Cut → Type 0) → ((c : Cut) → A c → IsConsistent o c) → (c : Cut) (es : List Place) (d : Cut) → FirstSteps A c es d → IsConsistent o d × PlacesThere o es
path_there o A members c [] d h = (subst (IsConsistent o) h.1 (members c h.0), tt)
path_there o A members c (e ∷ es) d h =
    let next = members (with_next c e.process) (first_member A (with_next c e.process) es d h.4) in
    let rest = path_there o A members (with_next c e.process) es d h.4 in
    let last : e.position ≤ count (lengths o) e.process = omega (arith, h.2, with_next_same c e.process h.1, next.within e.process) in
    (rest.0, ((omega (arith, h.2), last), rest.1))

canonical_there : (o : Clocks) (s : Slice) (op : WitnessOperator) (w : W.Witness) → IsCanonical o s op w → WitnessThere o w
canonical_there o s _ _ (W.IsCanonical.reaches {path = p} bottom steps) = path_there o (λ c. IsConsistent o c × IsWithin c p.goal) (λ c h. h.0) (initial o) p.steps p.goal steps
canonical_there o s _ _ (W.IsCanonical.never bottom) = tt
canonical_there o s _ _ (W.IsCanonical.refuted_at_start start) = (initial_consistent o, tt)
canonical_there o s _ _ (W.IsCanonical.refuted {path = p} {e = e} start first goal steps) = path_there o (λ c. IsConsistent o c × IsWithin c p.goal) (λ c h. h.0) (initial o) p.steps p.goal steps
canonical_there o s _ _ (W.IsCanonical.each_time start rows) = tt
canonical_there o s _ _ (W.IsCanonical.stays {path = p} goal steps) = path_there o (Cuts o s) (λ c h. h.consistent) (initial o) p.steps p.goal steps
canonical_there o s _ _ (W.IsCanonical.false_at_start start) = tt
canonical_there o s _ _ (W.IsCanonical.false_at_finish start finish) = tt
canonical_there o s _ _ (W.IsCanonical.come_together {first = e} {other = f} start finish first other) = (first.there, other.there)
canonical_there o s _ _ (W.IsCanonical.reaches_next {process = i} first) =
    let event : 1 ≤ count (lengths o) i = omega (arith, first.1.consistent.within i, with_next_same (initial o) i (omega (arith, first.0, length-initial o))) in
    (first.1.consistent, ((omega arith, event), tt))
canonical_there o s _ _ (W.IsCanonical.never_next none) = tt

steps_fit : (o : Clocks) (es : List EventId) → PlacesThere o (places_of es) → AllByRecursion (HasEvent (lengths o)) es
steps_fit o [] h = tt
steps_fit o (e ∷ es) h = (place_event o e h.0, steps_fit o es h.1)

path_fits : (o : Clocks) (path : Path) → PathThere o (path_of path) → PathFits (lengths o) path
path_fits o path h = record { goal = cut_fits o path.goal h.0; steps = steps_fit o path.steps h.1 }

witness_fits : (o : Clocks) (w : Witness) → WitnessThere o (witness_of w) → WitnessFits (lengths o) w
witness_fits o witness.Nothing h = tt
witness_fits o (witness.Reach path) h = path_fits o path h
witness_fits o (witness.Against path) h = path_fits o path h
witness_fits o (witness.Always path) h = path_fits o path h
witness_fits o witness.StuckStart h = tt
witness_fits o witness.StuckFinish h = tt
witness_fits o (witness.StuckPair first other) h = (place_event o first h.0, place_event o other h.1)

pub canonical_fits : (o : Clocks) (s : Slice) (op : WitnessOperator) (w : Witness) → IsCanonical o s op (witness_of w) → WitnessFits (lengths o) w
canonical_fits o s op w h = witness_fits o w (canonical_there o s op (witness_of w) h)
