-- Edges by the words of rows.
use Rattle.std.proofs.Common.{◌≡◌, ℕ, zero, suc, ◌-◌, ◌≤◌, ◌↔◌, List, length, flat_map, Option, Some, None, option_map, refl, sym, ap, ◌∙◌, subst, arith}
use Rattle.std.specs.List.{range_with_len}
use Rattle.std.proofs.lemmas.Option.{same_Some}
use Rattle.run_model.specs.Cut.{Cut, Clocks, count}
use Rattle.run_model.specs.Consistent.{IsOrder, clock}
use Rattle.run_model.specs.Sublattice.{IsLeast, IsGreatest}
use Rattle.run_model.specs.Slice.{Slice, HasWithin, IsLeastOf, Cuts, Denoted, IsPrintedAs, Edge, cut_of, previous, edge_into, edges_of}
use Rattle.run_model.proofs.EdgeLemmas.{denoted_is_cuts}
use Rattle.slice_graph.specs.Views.{SliceView, slice_of, last_row}
use Rattle.slice_graph.specs.Words.{filled, row_words}
use Rattle.slice_graph.specs.Fitting.{FitsOrder}
use Rattle.slice_graph.specs.inside.Edges.{edge_by}
use Rattle.slice_graph.proofs.Lasts.{cut_last}

-- the words of a row that is there are its counts
filled_there : (lens : List ℕ) (k : Option Cut) (c : Cut) → HasWithin k c → filled lens k ≡ cut_of k
filled_there lens None c h = absurd h
filled_there lens (Some j) c h = refl

last_before : (s : Slice) (p a : ℕ) → last_row s p a ≡ previous s p (suc a)
last_before s p zero = refl
last_before s p (suc a) = refl

-- the edges into an event of a cut of the slice
pub edges_same : (o : Clocks) (v : SliceView) (top : Cut) (p a : ℕ) (row before past : List ℕ) → Cuts o (slice_of v) top → 1 ≤ a → a ≤ count top p
    → row ≡ row_words v p a → before ≡ row_words v p (a - 1) → past ≡ clock o p a
    → flat_map (edge_by row before past p a) (range_with_len 0 (length row))
    ≡ flat_map (edge_into o (slice_of v) p a) (range_with_len 0 (length (cut_of ((slice_of v).row p a))))
edges_same o v top p zero row before past cut some le r b c = absurd (omega arith)
edges_same o v top p (suc a) row before past cut some le r b c =
    let row_is : row ≡ cut_of ((slice_of v).row p (suc a)) = r ∙ filled_there v.lens ((slice_of v).row p (suc a)) top (cut_last o (slice_of v) top cut p (suc a) le) in
    let one : suc a - 1 ≡ a = omega arith in
    let before_is : before ≡ cut_of (previous (slice_of v) p (suc a)) =
    b ∙ ap (row_words v p) one ∙ filled_there v.lens (last_row (slice_of v) p a) top (cut_last o (slice_of v) top cut p a (omega arith)) ∙ ap cut_of (last_before (slice_of v) p a) in
    ap (λ (x : Cut). flat_map (edge_by x before past p (suc a)) (range_with_len 0 (length x))) row_is
    ∙ ap (λ (x : Cut). flat_map (edge_by (cut_of ((slice_of v).row p (suc a))) x past p (suc a)) (range_with_len 0 (length (cut_of ((slice_of v).row p (suc a)))))) before_is
    ∙ ap (λ (x : Cut). flat_map (edge_by (cut_of ((slice_of v).row p (suc a))) (cut_of (previous (slice_of v) p (suc a))) x p (suc a)) (range_with_len 0 (length (cut_of ((slice_of v).row p (suc a)))))) c

-- ---- all edges

least_bottom : (o : Clocks) (v : SliceView) → FitsOrder o v → (low : Cut) → (slice_of v).bottom ≡ Some low → IsLeast (Cuts o (slice_of v)) low
least_bottom o v fits low is = subst (IsLeastOf (Cuts o (slice_of v))) is fits.stands.bottom

-- the greatest cut, as it is told
pub told_top : (k : Option Cut) (t x low : Cut) → Some t ≡ option_map (λ _. x) k → k ≡ Some low → t ≡ x
told_top k t x low told is = same_Some t x (told ∙ ap (option_map (λ _. x)) is)

pub edges_listed : (o : Clocks) (v : SliceView) (t x : Cut) (edges : List Edge) → edges ≡ edges_of o (slice_of v) t → t ≡ x → edges ≡ edges_of o (slice_of v) x
edges_listed o v t x edges listed is = listed ∙ ap (edges_of o (slice_of v)) is

pub edges_denote : (o : Clocks) → IsOrder o → (v : SliceView) → FitsOrder o v → (low x : Cut) (edges : List Edge) → (slice_of v).bottom ≡ Some low → IsGreatest (Cuts o (slice_of v)) x
    → edges ≡ edges_of o (slice_of v) x → (c : Cut) → Cuts o (slice_of v) c ↔ Denoted o low x edges c
edges_denote o order v fits low x edges is greatest listed c =
    subst (λ (es : List Edge). Cuts o (slice_of v) c ↔ Denoted o low x es c) (sym listed)
    (denoted_is_cuts o order (slice_of v) low x (least_bottom o v fits low is) greatest c)

pub edges_printed : (o : Clocks) (v : SliceView) → FitsOrder o v → (low x : Cut) (edges : List Edge) → (slice_of v).bottom ≡ Some low → IsGreatest (Cuts o (slice_of v)) x
    → edges ≡ edges_of o (slice_of v) x → IsPrintedAs o (Cuts o (slice_of v)) low x edges
edges_printed o v fits low x edges is greatest listed = record {
  slice = slice_of v;
  stands = fits.stands;
  least = least_bottom o v fits low is;
  greatest = greatest;
  listed = listed;
}
