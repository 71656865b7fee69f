-- A view of a run as one SVG image.
use Rattle.std.specs.Prelude.{◌≡◌, ℕ, ◌+◌, ◌-◌, ◌*◌, Bool, true, false, ◌==◌, ◌&&◌, List, [], ◌∷◌}
use Rattle.std.specs.Prelude.{◌++◌}
use Rattle.std.specs.Prelude.{length, map, take, codes, Option, None, Some, if◌then◌else◌}
use Rattle.std.specs.List.{flat_map, count_by}
use Rattle.std.specs.Fmt.{decimal}
use Rattle.run_model.specs.Cut.{Cut}
use Rattle.event_log.specs.States.{StatesView}
use Rattle.vector_clock.specs.Events.{clocks_of}
use Rattle.witness_kinds.specs.declared.Witness.{Witness}
use Rattle.witness_kinds.specs.declared.Witness.TheVariants as witness
use Rattle.report_lines.specs.declared.kinds.WitnessText.{WitnessText}
use Rattle.report_lines.specs.Spelling.{truth_text}
use Rattle.report.specs.declared.report.SliceText.{SliceText}
use Rattle.report.specs.declared.report.Report.{Report}
use Rattle.view_parts.specs.Each.{each_below, places}
use Rattle.view_parts.specs.declared.extent.Extent.{Extent}
use Rattle.view_picture.specs.declared.frame.Frame.{Frame}
use Rattle.view_picture.specs.Told.{top_of, edges_of, most_edges, first_drawn}
use Rattle.view_picture.specs.Choice.{is_wanted}
use Rattle.view_picture.specs.Columns.{Rows, AreColumns}
use Rattle.view_picture.specs.Shown.{shown_events, has_shown}
use Rattle.view_picture.specs.Ties.{ties_of}
use Rattle.view_picture.specs.declared.svg.Point.{Point}
use Rattle.view_picture.specs.Svg.{attribute, line, circle, text, escaped}
use Rattle.view_picture.specs.Frame.{frame_of}
use Rattle.view_picture.specs.Drawing.{point, lane_drawn, tie_look, tie_drawn, arrow_to}
use Rattle.view_picture.specs.Drawing.{numbers_drawn, left_out_drawn, lost_look}
use Rattle.view_picture.specs.Drawing.{lost_from, edge_drawn, mark_look, mark, cut_drawn}
use Rattle.view_picture.specs.Drawing.{least_look, greatest_look, goal_look, least_shift}
use Rattle.view_picture.specs.Drawing.{greatest_shift, witness_drawn}

-- ---- the heading

abbrev pub size : Frame → List ℕ
size f = attribute (codes "width") f.width ++ attribute (codes "height") f.height

abbrev pub box_text : Frame → List ℕ
box_text f =
    codes " viewBox='0 0 " ++ decimal f.width ++ 32 ∷ [] ++ decimal f.height ++ 39 ∷ []

-- what holds for all that is drawn: texts and marks have their rims behind them
abbrev pub root_look : List ℕ
root_look =
    codes " font-family='sans-serif' font-size='12' paint-order='stroke' stroke-linejoin='round'"

-- the tag that opens the image, and the white behind it
abbrev pub opening : Frame → List ℕ
opening f =
    codes "<svg xmlns='http://www.w3.org/2000/svg' version='1.1'" ++ size f ++ box_text f
    ++ root_look ++ (codes ">" ++ 10 ∷ codes "<rect") ++ size f
    ++ (codes " fill='#ffffff'/>" ++ 10 ∷ [])

-- the head of an arrow of this name and color, whose tip is at the white ring of a mark
abbrev pub arrow_head : List ℕ → List ℕ → List ℕ
arrow_head name color =
    codes "<marker id='" ++ name
    ++ codes "' viewBox='0 0 20 8' refX='23' refY='4' markerWidth='20' markerHeight='8'"
    ++ codes " markerUnits='userSpaceOnUse' orient='auto'><path d='M0 0 L8 4 L0 8 z' fill='"
    ++ color ++ (codes "'/></marker>" ++ 10 ∷ [])

-- an open head and a cross
abbrev pub lost_head : List ℕ
lost_head =
    codes "<marker id='lost' viewBox='0 0 18 10' refX='13' refY='5' markerWidth='18'"
    ++ codes " markerHeight='10' markerUnits='userSpaceOnUse' orient='auto'>"
    ++ codes "<path d='M0 1 L6 5 L0 9 M9 1 L17 9 M9 9 L17 1' fill='none' stroke='#555555'"
    ++ (codes " stroke-width='1.5'/></marker>" ++ 10 ∷ [])

abbrev pub arrow_heads : List ℕ
arrow_heads =
    (codes "<defs>" ++ 10 ∷ []) ++ arrow_head (codes "message") (codes "#555555") ++ lost_head
    ++ arrow_head (codes "edge") (codes "#7a3db8") ++ (codes "</defs>" ++ 10 ∷ [])

abbrev pub verdict_drawn : Bool → List ℕ
verdict_drawn verdict = text (point 20 34) (codes " font-size='20'") (truth_text verdict)

-- the text of the formula has no markup in it
abbrev pub formula_drawn : List ℕ → List ℕ
formula_drawn formula =
    text (point 20 60) (codes " font-size='14' font-family='monospace'") (escaped formula)

-- the size of the picture, the verdict and the formula
abbrev pub heading : Frame → Report → List ℕ
heading f r =
    opening f ++ arrow_heads ++ verdict_drawn r.verdict ++ formula_drawn r.formula

-- ---- what each color and dash means, below the lanes

-- a row below the lanes, so far from the left
abbrev pub row_at : Frame → ℕ → ℕ → Point
row_at f x row = point x (f.height - 126 + 20 * row)

-- what stands so far right of the beginning of a row
abbrev pub told : Point → ℕ → List ℕ → List ℕ
told p right meaning = text (point (p.x + right) (p.y + 4)) (codes " font-size='12'") meaning

-- a line with its look, and what it means
abbrev pub sample : Point → List ℕ → List ℕ → List ℕ
sample p look meaning = line p (point (p.x + 50) p.y) look ++ told p 60 meaning

-- a disc with its look, and what it means
abbrev pub sample_disc : Point → List ℕ → List ℕ → List ℕ
sample_disc p look meaning = circle (point (p.x + 25) p.y) 7 look ++ told p 60 meaning

abbrev pub message_look : List ℕ
message_look = codes " stroke='#555555' stroke-width='1.5'"

-- what each picture has: three shapes beside the marks and arrows of the run
abbrev pub legend : Frame → List ℕ
legend f =
    sample_disc (row_at f 20 0) (mark_look false) (codes "event")
    ++ sample (row_at f 20 1) message_look (codes "message")
    ++ sample (row_at f 20 2) lost_look (codes "message that is not received")

-- what lines and marks say of a slice: three shapes more
abbrev pub slice_legend : Frame → List ℕ
slice_legend f =
    sample (row_at f 300 0) least_look (codes "least cut of the slice")
    ++ sample (row_at f 300 1) greatest_look (codes "greatest cut of the slice")
    ++ sample_disc (row_at f 300 2) (mark_look true) (codes "event beyond the greatest cut")

-- the bounds of a slice, or that it is empty
abbrev pub bounds_drawn : Frame → Rows → Option (Cut × Cut) → List ℕ
bounds_drawn f rows None = told (row_at f 300 0) 0 (codes "slice empty")
bounds_drawn f rows (Some bounds) =
    cut_drawn f rows bounds.0 least_shift least_look
    ++ cut_drawn f rows bounds.1 greatest_shift greatest_look
    ++ slice_legend f

abbrev pub slice_drawn : Frame → Rows → Option SliceText → List ℕ
slice_drawn f rows None = []
slice_drawn f rows (Some slice) = bounds_drawn f rows slice.bounds

-- how many edges are not drawn
abbrev pub edges_note : Frame → ℕ → List ℕ
edges_note f left_out =
    if left_out == 0 then []
    else told (row_at f 300 4) 0 (codes "edges that are not drawn: " ++ decimal left_out)

abbrev pub edge_sample_look : List ℕ
edge_sample_look = codes " stroke='#7a3db8' stroke-dasharray='5 4'"

-- what the dashed lines of so many edges mean
abbrev pub edges_told : Frame → ℕ → List ℕ
edges_told f edges =
    sample (row_at f 20 4) edge_sample_look (codes "edge of the slice")
    ++ edges_note f (edges - most_edges)

-- the same, if there are edges
abbrev pub edges_legend : Frame → ℕ → List ℕ
edges_legend f edges = if edges == 0 then [] else edges_told f edges

-- what a thin line means, if there are such
abbrev pub ties_legend : Frame → ℕ → List ℕ
ties_legend f ties =
    if ties == 0 then []
    else sample (row_at f 20 5) tie_look (codes "happened before, and no arrow shows it")

-- how many of the events are shown, and how many processes have none of these
abbrev pub note_text : ℕ → ℕ → ℕ → List ℕ
note_text shown events without =
    codes "shown: " ++ decimal shown ++ codes " of " ++ decimal events
    ++ codes " events; .. N .. are N others; processes without a shown event: "
    ++ decimal without

abbrev pub are_all : ℕ → ℕ → ℕ → Bool
are_all shown events without = shown == events && without == 0

-- nothing where all are shown
abbrev pub note_drawn : ℕ → ℕ → ℕ → List ℕ
note_drawn shown events without =
    if are_all shown events without then []
    else text (point 20 84) (codes " font-size='12' fill='#555555'")
    (note_text shown events without)

abbrev pub note_of : StatesView → Rows → List ℕ
note_of s rows =
    note_drawn (length (shown_events (map length s.events) rows))
    (length (places (map length s.events))) (length rows - count_by has_shown rows)

-- ---- the witness that is drawn

-- what is drawn of a witness, in words
abbrev pub meaning_of : Witness → List ℕ
meaning_of witness.Nothing = codes "there is nothing to show"
meaning_of (witness.Reach path) = codes "goal of the numbered steps: the operand holds there"
meaning_of (witness.Against path) =
    codes "goal of the numbered steps: the operand does not hold there"
meaning_of (witness.Always path) =
    codes "goal of the numbered steps: the operand holds at each cut on the way"
meaning_of witness.StuckStart = codes "the operand does not hold where nothing has happened yet"
meaning_of witness.StuckFinish = codes "the operand does not hold at the end"
meaning_of (witness.StuckPair first other) =
    codes "rings: a cut where the operand holds has both events or neither"

-- `witness I.J, MEANING`
abbrev pub witness_meaning : WitnessText → List ℕ
witness_meaning w =
    codes "witness " ++ decimal w.disjunct ++ codes "." ++ decimal w.part ++ codes ", "
    ++ meaning_of w.witness

abbrev pub one_drawn : Frame → Rows → Option WitnessText → List ℕ
one_drawn f rows None = []
one_drawn f rows (Some w) =
    witness_drawn f rows w.witness ++ sample (row_at f 20 3) goal_look (witness_meaning w)

-- ---- the whole

-- the lanes and what runs between them
abbrev pub run_drawn : StatesView → Frame → Rows → List ℕ
run_drawn s f rows =
    each_below (length s.header.procs) (lane_drawn s f rows)
    ++ flat_map (tie_drawn f rows) (ties_of s rows)
    ++ flat_map (arrow_to s f rows) (shown_events (map length s.events) rows)
    ++ flat_map (lost_from s f rows) (shown_events (map length s.events) rows)
    ++ numbers_drawn s f rows
    ++ left_out_drawn s f rows

-- what a report says of the run, and the marks above that
abbrev pub report_drawn : StatesView → Frame → Rows → Report → List ℕ
report_drawn s f rows r =
    flat_map (edge_drawn f rows) (take most_edges (edges_of r.slice))
    ++ slice_drawn f rows r.slice
    ++ one_drawn f rows (first_drawn r.witnesses)
    ++ flat_map (mark s f rows (top_of r.slice)) (shown_events (map length s.events) rows)

-- what all that means, and how much is shown
abbrev pub meaning_drawn : StatesView → Frame → Rows → ℕ → ℕ → List ℕ
meaning_drawn s f rows edges ties =
    legend f ++ edges_legend f edges ++ ties_legend f ties ++ note_of s rows

abbrev pub body : StatesView → Frame → Rows → Report → List ℕ
body s f rows r =
    run_drawn s f rows ++ report_drawn s f rows r
    ++ meaning_drawn s f rows (length (edges_of r.slice)) (length (ties_of s rows))

-- the picture of a run by a report of it, where these are the columns of its shown events
abbrev pub picture : StatesView → Rows → Report → List ℕ
picture s rows r =
    heading (frame_of s rows r) r ++ body s (frame_of s rows r) rows r
    ++ (codes "</svg>" ++ 10 ∷ [])

-- the bytes are the picture of as much of the run as is asked for
pub record IsPictureOf (s : StatesView) (x : Extent) (r : Report) (bytes : List ℕ)
    : Type 0 where
  pub rows : Rows
  pub columns : AreColumns (clocks_of s.events) (is_wanted s x r) rows
  pub text_is : bytes ≡ picture s rows r
