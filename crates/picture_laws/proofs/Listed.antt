-- The slice of a set of cuts lists each edge once.
use Rattle.std.proofs.Common.{◌≡◌, ℕ, zero, suc, ◌+◌, ◌≤◌, Bool, true, false, ◌&&◌, List, [], ◌∷◌, ◌++◌, length, map, take, refl, ap, ◌∙◌, arith, inl, inr}
use Rattle.std.specs.Prelude.{◌==◌, nat_lt, Option, None, Some, MatchOption, if◌then◌else◌}
use Rattle.std.specs.List.{AllByRecursion, flat_map, range_with_len}
use Rattle.std.proofs.lemmas.Bool.{cases_Bool, cases_eq, and_from, ne_eqb}
use Rattle.run_model.specs.Cut.{Cut, Clocks, count}
use Rattle.run_model.specs.Consistent.{clock}
use Rattle.run_model.specs.Run.{Run}
use Rattle.run_model.specs.Formula.{Formula}
use Rattle.run_model.specs.Class.{Shown}
use Rattle.run_model.specs.Slice.{Slice, Edge as EdgeOfRun, cut_of, previous, edge_into, edges_of, IsPrintedAs}
use Rattle.slice_graph.specs.declared.edges.Edge.{Edge}
use Rattle.slice_graph.specs.Edges.{edge_of}
use Rattle.report.specs.declared.report.SliceText.{SliceText}
use Rattle.run_report.specs.Reports.{IsSliceShown}
use Rattle.view_picture.specs.Told.{most_edges, edges_of as edges_in}
use Rattle.view_picture.specs.Choice.{is_place}
use Rattle.picture_laws.specs.Lines.{times_drawn, edge_line, edge_lines, first_edges, is_edge, times_listed}
use Rattle.picture_laws.specs.Laws.{EachFirstEdgeHasOneLine}
use Rattle.picture_laws.proofs.Places.{place_itself, second_false}
use Rattle.picture_laws.proofs.Dashes.{HasMarks, first_marked, first_edges_have_their_lines}

-- ---- how often an edge stands among edges as the model of runs has them

abbrev is_seen : Edge → EdgeOfRun → Bool
is_seen e g = (g.cause == e.cause.process && g.cause_position == e.cause.position) && (g.effect == e.effect.process && g.effect_position == e.effect.position)

abbrev times_seen : Edge → List EdgeOfRun → ℕ
times_seen e [] = 0
times_seen e (g ∷ gs) = if is_seen e g then times_seen e gs + 1 else times_seen e gs

seen_as_listed : (e : Edge) (gs : List Edge) → times_listed e gs ≡ times_seen e (map edge_of gs)
seen_as_listed e [] = refl
seen_as_listed e (g ∷ gs) = ap (λ (n : ℕ). if is_edge e g then n + 1 else n) (seen_as_listed e gs)

seen-append : (e : Edge) (xs ys : List EdgeOfRun) → times_seen e (xs ++ ys) ≡ times_seen e xs + times_seen e ys
seen-append e [] ys = omega arith
seen-append e (x ∷ xs) ys = elim (cases_Bool (is_seen e x)) [
  | inl here ↦ rw here (let more = seen-append e xs ys in omega arith)
  | inr other ↦ rw other (seen-append e xs ys)
]

one_at_most : (e : Edge) (b : Bool) (g : EdgeOfRun) → times_seen e (if b then g ∷ [] else []) ≤ 1
one_at_most e false g = omega arith
one_at_most e true g = elim (cases_Bool (is_seen e g)) [
  | inl here ↦ rw here (omega arith)
  | inr other ↦ rw other (omega arith)
]

none_of_another : (e : Edge) (b : Bool) (g : EdgeOfRun) → is_seen e g ≡ false → times_seen e (if b then g ∷ [] else []) ≡ 0
none_of_another e false g other = refl
none_of_another e true g other = rw other refl

-- ---- lists over ranges

none_in : (e : Edge) (made : ℕ → List EdgeOfRun) (a n : ℕ) → ((k : ℕ) → a ≤ k → times_seen e (made k) ≡ 0) → times_seen e (flat_map made (range_with_len a n)) ≡ 0
none_in e made a zero none = refl
none_in e made a (suc n) none =
    let split = seen-append e (made a) (flat_map made (range_with_len (a + 1) n)) in
    omega (arith, split, none a (omega arith), none_in e made (a + 1) n (λ k le. none k (omega (arith, le))))

-- at most one of which each has one at most, and all but one have none
one_in : (e : Edge) (made : ℕ → List EdgeOfRun) (key a n : ℕ) → ((k : ℕ) → times_seen e (made k) ≤ 1) → ((k : ℕ) → (k ≡ key → ⊥) → times_seen e (made k) ≡ 0)
    → times_seen e (flat_map made (range_with_len a n)) ≤ 1
one_in e made key a zero one none = omega arith
one_in e made key a (suc n) one none =
    let split = seen-append e (made a) (flat_map made (range_with_len (a + 1) n)) in
    elim (cases_eq a key) [
      | inl here ↦ omega (arith, split, one a, none_in e made (a + 1) n (λ k le. none k (λ is. absurd (omega (arith, le, is, here)))))
      | inr other ↦ omega (arith, split, none a other, one_in e made key (a + 1) n one none)
    ]

-- ---- the edges of a slice

abbrev into_event : Clocks → Slice → ℕ → ℕ → List EdgeOfRun
into_event o s p a = flat_map (edge_into o s p a) (range_with_len 0 (length (cut_of (s.row p a))))

abbrev into_process : Clocks → Slice → Cut → ℕ → List EdgeOfRun
into_process o s high p = flat_map (into_event o s p) (range_with_len 1 (count high p))

abbrev edge_at : Slice → ℕ → ℕ → ℕ → EdgeOfRun
edge_at s p a q = record { cause = q; cause_position = count (cut_of (s.row p a)) q; effect = p; effect_position = a }

abbrev is_there : Clocks → Slice → ℕ → ℕ → ℕ → Bool
is_there o s p a q = nat_lt (count (cut_of (previous s p a)) q) (count (cut_of (s.row p a)) q) && nat_lt (count (clock o p a) q) (count (cut_of (s.row p a)) q)

first_false : (a b : Bool) → a ≡ false → (a && b) ≡ false
first_false true b h = cc
first_false false b h = refl

other_cause : (e : Edge) (s : Slice) (p a q : ℕ) → (q ≡ e.cause.process → ⊥) → is_seen e (edge_at s p a q) ≡ false
other_cause e s p a q ne = first_false _ _ (first_false (q == e.cause.process) _ (ne_eqb q e.cause.process ne))

other_effect : (e : Edge) (s : Slice) (p a q : ℕ) → (p ≡ e.effect.process → ⊥) → is_seen e (edge_at s p a q) ≡ false
other_effect e s p a q ne = second_false _ _ (first_false (p == e.effect.process) _ (ne_eqb p e.effect.process ne))

other_position : (e : Edge) (s : Slice) (p a q : ℕ) → (a ≡ e.effect.position → ⊥) → is_seen e (edge_at s p a q) ≡ false
other_position e s p a q ne = second_false _ _ (second_false _ (a == e.effect.position) (ne_eqb a e.effect.position ne))

into_event_once : (o : Clocks) (s : Slice) (e : Edge) (p a : ℕ) → times_seen e (into_event o s p a) ≤ 1
into_event_once o s e p a =
    one_in e (edge_into o s p a) e.cause.process 0 (length (cut_of (s.row p a))) (λ q. one_at_most e (is_there o s p a q) (edge_at s p a q))
    (λ q ne. none_of_another e (is_there o s p a q) (edge_at s p a q) (other_cause e s p a q ne))

into_process_once : (o : Clocks) (s : Slice) (high : Cut) (e : Edge) (p : ℕ) → times_seen e (into_process o s high p) ≤ 1
into_process_once o s high e p =
    one_in e (into_event o s p) e.effect.position 1 (count high p) (into_event_once o s e p)
    (λ a ne. none_in e (edge_into o s p a) 0 (length (cut_of (s.row p a))) (λ q _. none_of_another e (is_there o s p a q) (edge_at s p a q) (other_position e s p a q ne)))

edges_once : (o : Clocks) (s : Slice) (high : Cut) (e : Edge) → times_seen e (edges_of o s high) ≤ 1
unfolding edges_of
edges_once o s high e =
    one_in e (into_process o s high) e.effect.process 0 (length high) (into_process_once o s high e)
    (λ p ne. none_in e (into_event o s p) 1 (count high p)
    (λ a _. none_in e (edge_into o s p a) 0 (length (cut_of (s.row p a))) (λ q _. none_of_another e (is_there o s p a q) (edge_at s p a q) (other_effect e s p a q ne))))

by_bounds : (o : Clocks) (cuts : Cut → Type 0) (edges : List EdgeOfRun) (bounds : Option (Cut × Cut))
    → MatchOption bounds ((edges ≡ []) × ((c : Cut) → cuts c → ⊥)) (λ b. IsPrintedAs o cuts b.0 b.1 edges) → (e : Edge) → times_seen e edges ≤ 1
by_bounds o cuts edges None empty e = omega (arith, ap (times_seen e) empty.0)
by_bounds o cuts edges (Some b) printed e = omega (arith, ap (times_seen e) printed.listed, edges_once o printed.slice b.1 e)

-- an edge that a report tells of stands there once at most
listed_once : (asked : Bool) (run : Run) (formula : Formula) (slice : Option SliceText) → IsSliceShown asked run formula slice → (e : Edge) → times_listed e (edges_in slice) ≤ 1
listed_once false run formula slice is e = omega (arith, ap (λ (o : Option SliceText). times_listed e (edges_in o)) is)
listed_once true run formula None is e = omega arith
listed_once true run formula (Some text) is e = omega (arith, seen_as_listed e text.edges, by_bounds run.clocks (Shown run formula) (map edge_of text.edges) text.bounds is e)

-- ---- the first of them

fewer : (e : Edge) (n : ℕ) (gs : List Edge) → times_listed e (take n gs) ≤ times_listed e gs
fewer e zero gs = omega arith
fewer e (suc n) [] = omega arith
fewer e (suc n) (g ∷ gs) = let more = fewer e n gs in elim (cases_Bool (is_edge e g)) [
  | inl here ↦ rw here (omega arith)
  | inr other ↦ rw other more
]

itself : (e : Edge) (gs : List Edge) → 1 ≤ times_listed e (e ∷ gs)
itself e gs =
    let here : is_edge e e ≡ true = and_from (is_place e.cause e.cause) (is_place e.effect e.effect) (place_itself e.cause) (place_itself e.effect) in
    rw here (omega arith)

still : (e g : Edge) (gs : List Edge) → 1 ≤ times_listed e gs → 1 ≤ times_listed e (g ∷ gs)
still e g gs h = elim (cases_Bool (is_edge e g)) [
  | inl here ↦ rw here (omega arith)
  | inr other ↦ rw other h
]

each_of : {A : Type 0} (P Q : A → Type 0) → ((x : A) → P x → Q x) → (xs : List A) → AllByRecursion P xs → AllByRecursion Q xs
each_of P Q step [] all = tt
each_of P Q step (x ∷ xs) all = (step x all.0, each_of P Q step xs all.1)

each_listed : (gs : List Edge) → AllByRecursion (λ e. 1 ≤ times_listed e gs) gs
each_listed [] = tt
each_listed (g ∷ gs) = (itself g gs, each_of (λ e. 1 ≤ times_listed e gs) (λ e. 1 ≤ times_listed e (g ∷ gs)) (λ e h. still e g gs h) gs (each_listed gs))

paired : {A : Type 0} (P Q R : A → Type 0) → ((x : A) → P x → Q x → R x) → (xs : List A) → AllByRecursion P xs → AllByRecursion Q xs → AllByRecursion R xs
paired P Q R step [] all more = tt
paired P Q R step (x ∷ xs) all more = (step x all.0 more.0, paired P Q R step xs all.1 more.1)

pub each_first_edge_has_one_line : EachFirstEdgeHasOneLine
each_first_edge_has_one_line s f x r rows drawable formed report_of asked run formula is =
    paired (HasMarks s rows) (λ e. 1 ≤ times_listed e (first_edges r)) (λ e. times_drawn (edge_line f rows e) (edge_lines f rows r) ≡ 1)
    (λ e marked some. first_edges_have_their_lines s f x r rows drawable formed report_of e marked.0 marked.1 ∙ once e some)
    (first_edges r) (first_marked s x r rows drawable formed report_of) (each_listed (first_edges r))
  where
    once : (e : Edge) → 1 ≤ times_listed e (first_edges r) → times_listed e (first_edges r) ≡ 1
    once e some = omega (arith, some, fewer e most_edges (edges_in r.slice), listed_once asked run formula r.slice is e)
