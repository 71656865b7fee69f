-- The dashed lines of the picture are those of the edges.
use Rattle.std.proofs.Common.{◌≡◌, ℕ, ◌+◌, Bool, true, false, ◌&&◌, ◌||◌, List, [], ◌∷◌, ◌++◌, length, map, get_or, refl, sym, ap, ◌∙◌, subst}
use Rattle.std.specs.Prelude.{Option, None, Some, IfSome, if◌then◌else◌}
use Rattle.std.specs.List.{AllByRecursion, flat_map, list_any}
use Rattle.std.proofs.lemmas.List.Folds.{list_any-append}
use Rattle.run_model.specs.Cut.{lengths}
use Rattle.pota_base.specs.declared.shape.EventId.{EventId}
use Rattle.pota_base.specs.Shape.{HasEvent}
use Rattle.vector_clock.specs.Events.{clocks_of}
use Rattle.vector_clock.proofs.Receipts.{faultless_order}
use Rattle.report.specs.declared.report.Report.{Report}
use Rattle.view_parts.specs.Parts.{IsReportOf}
use Rattle.view_parts.specs.declared.extent.Extent.{Extent}
use Rattle.event_log.specs.States.{StatesView}
use Rattle.slice_graph.specs.declared.edges.Edge.{Edge}
use Rattle.report_lines.specs.Spelling.{EdgeFits}
use Rattle.report.specs.declared.report.SliceText.{SliceText}
use Rattle.report.specs.Spelling.{SliceFits, IsWellFormed}
use Rattle.view_picture.specs.declared.frame.Frame.{Frame}
use Rattle.view_picture.specs.Columns.{Rows}
use Rattle.view_picture.specs.Frame.{at}
use Rattle.view_picture.specs.Drawing.{edge_drawn}
use Rattle.view_picture.specs.Told.{most_edges, edges_of, first_drawn, pair_of, ends_of, named_in}
use Rattle.view_picture.specs.Choice.{is_place, keeps, formula_tokens, choice_of, is_within, no_span, is_wanted}
use Rattle.view_picture.proofs.Shown.{chosen_are_shown}
use Rattle.picture_laws.specs.Lines.{between, is_point, has_ends, times_drawn, edge_line, first_edges, dashed_along, is_edge, times_listed}
use Rattle.picture_laws.specs.Laws.{IsDrawable, IsMarked, EdgeLinesAreDrawn, FirstEdgesHaveTheirLines}
use Rattle.picture_laws.proofs.Places.{all_take, lengths_are, mark_is, place_itself}

all_along : (f : Frame) (rows : Rows) (es : List Edge) → flat_map (edge_drawn f rows) es ≡ flat_map dashed_along (map (edge_line f rows) es)
all_along f rows [] = refl
all_along f rows (e ∷ es) = ap (λ (l : List ℕ). edge_drawn f rows e ++ l) (all_along f rows es)

pub edge_lines_are_drawn : EdgeLinesAreDrawn
edge_lines_are_drawn f rows r = all_along f rows (first_edges r)

both : (a b c d : Bool) → a ≡ b → c ≡ d → (a && c) ≡ (b && d)
both a b c d h k = ap (λ (x : Bool). x && c) h ∙ ap (λ (x : Bool). b && x) k

same_step : (b c : Bool) (x y : ℕ) → b ≡ c → x ≡ y → (if b then x + 1 else x) ≡ (if c then y + 1 else y)
same_step b c x y h k = ap (λ (t : Bool). if t then x + 1 else x) h ∙ ap (λ (n : ℕ). if c then n + 1 else n) k

-- both ends of the edge are shown
abbrev pub HasMarks : StatesView → Rows → Edge → Type 0
HasMarks s rows e = IsMarked s rows e.cause × IsMarked s rows e.effect

lines_counted : (s : StatesView) (f : Frame) (x : Extent) (r : Report) (rows : Rows) → IsDrawable s x r rows → (e : Edge) → HasMarks s rows e → (gs : List Edge) → AllByRecursion (HasMarks s rows) gs
    → times_drawn (between f rows e.cause e.effect) (map (edge_line f rows) gs) ≡ times_listed e gs
lines_counted s f x r rows drawable e marked [] all = refl
lines_counted s f x r rows drawable e marked (g ∷ gs) all =
    same_step (has_ends (between f rows e.cause e.effect) (edge_line f rows g)) (is_edge e g) (times_drawn (between f rows e.cause e.effect) (map (edge_line f rows) gs)) (times_listed e gs)
    (both (is_point (at f rows e.cause) (at f rows g.cause)) (is_place e.cause g.cause) (is_point (at f rows e.effect) (at f rows g.effect)) (is_place e.effect g.effect)
    (mark_is s f x r rows drawable e.cause g.cause marked.0 all.0.0) (mark_is s f x r rows drawable e.effect g.effect marked.1 all.0.1))
    (lines_counted s f x r rows drawable e marked gs all.1)

-- ---- the ends of the first edges are shown

right : (a b : Bool) → b ≡ true → (a || b) ≡ true
right true b h = refl
right false b h = h

left : (a b : Bool) → a ≡ true → (a || b) ≡ true
left true b h = refl
left false b h = cc

-- the report names both ends of the edge
abbrev AreNamed : List EventId → Edge → Type 0
AreNamed named e = (list_any (is_place e.cause) named ≡ true) × (list_any (is_place e.effect) named ≡ true)

ends_named : (named : List EventId) (es : List Edge) → ((y : EventId) → list_any (is_place y) (flat_map ends_of es) ≡ true → list_any (is_place y) named ≡ true) → AllByRecursion (AreNamed named) es
ends_named named [] each = tt
ends_named named (e ∷ es) each = (
  (
    each e.cause (left (is_place e.cause e.cause) (is_place e.cause e.effect || list_any (is_place e.cause) (flat_map ends_of es)) (place_itself e.cause)),
    each e.effect (right (is_place e.effect e.cause) (is_place e.effect e.effect || list_any (is_place e.effect) (flat_map ends_of es)) (left (is_place e.effect e.effect) (list_any (is_place e.effect) (flat_map ends_of es)) (place_itself e.effect))),
  ),
  ends_named named es (λ y h. each y (right (is_place y e.cause) (is_place y e.effect || list_any (is_place y) (flat_map ends_of es)) (right (is_place y e.effect) (list_any (is_place y) (flat_map ends_of es)) h))),
)

first_named : (r : Report) → AllByRecursion (AreNamed (named_in r)) (first_edges r)
first_named r =
    let pair = pair_of (first_drawn r.witnesses) in
    ends_named (named_in r) (first_edges r) (λ y h. list_any-append (is_place y) pair (flat_map ends_of (first_edges r)) ∙ right (list_any (is_place y) pair) (list_any (is_place y) (flat_map ends_of (first_edges r))) h)

named_marked : (s : StatesView) (x : Extent) (r : Report) (rows : Rows) → IsDrawable s x r rows → (e : EventId) → HasEvent (map length s.events) e → list_any (is_place e) (named_in r) ≡ true → IsMarked s rows e
named_marked s x r rows drawable e there named = record {
  there = there;
  shown = chosen_are_shown (clocks_of s.events) (is_wanted s x r) rows (faultless_order (length s.header.procs) s.events drawable.faultless) drawable.columns e (subst (λ (l : List ℕ). HasEvent l e) (sym (lengths_are s.events)) there)
      ∙ right (keeps s (formula_tokens r) (choice_of s (formula_tokens r) x r).all e && is_within (get_or (choice_of s (formula_tokens r) x r).spans e.process no_span) e.position) (list_any (is_place e) (named_in r)) named;
}

edges_marked : (s : StatesView) (x : Extent) (r : Report) (rows : Rows) → IsDrawable s x r rows → (es : List Edge) → AllByRecursion (EdgeFits (map length s.events)) es → AllByRecursion (AreNamed (named_in r)) es → AllByRecursion (HasMarks s rows) es
edges_marked s x r rows drawable [] fits named = tt
edges_marked s x r rows drawable (e ∷ es) fits named = (
  (named_marked s x r rows drawable e.cause fits.0.cause named.0.0, named_marked s x r rows drawable e.effect fits.0.effect named.0.1),
  edges_marked s x r rows drawable es fits.1 named.1,
)

pub edges_fit : (lengths : List ℕ) (o : Option SliceText) → IfSome o (SliceFits lengths) → AllByRecursion (EdgeFits lengths) (edges_of o)
edges_fit lengths None fits = tt
edges_fit lengths (Some slice) fits = fits.edges

pub first_marked : (s : StatesView) (x : Extent) (r : Report) (rows : Rows) → IsDrawable s x r rows → IsWellFormed r → IsReportOf s r → AllByRecursion (HasMarks s rows) (first_edges r)
first_marked s x r rows drawable formed report_of =
    edges_marked s x r rows drawable (first_edges r)
    (subst (λ (l : List ℕ). AllByRecursion (EdgeFits l) (first_edges r)) report_of.lengths (all_take (EdgeFits r.lengths) most_edges (edges_of r.slice) (edges_fit r.lengths r.slice formed.slice)))
    (first_named r)

pub first_edges_have_their_lines : FirstEdgesHaveTheirLines
first_edges_have_their_lines s f x r rows drawable formed report_of e cause effect =
    lines_counted s f x r rows drawable e (cause, effect) (first_edges r) (first_marked s x r rows drawable formed report_of)
