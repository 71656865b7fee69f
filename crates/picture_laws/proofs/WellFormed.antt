-- The whole picture is a document.
use Rattle.std.proofs.Common.{◌≡◌, ℕ, ◌-◌, Bool, true, false, List, [], ◌∷◌, ◌++◌, length, map, take, refl, subst, append_assoc}
use Rattle.std.specs.Prelude.{codes}
use Rattle.std.specs.List.{list_all, flat_map, count_by}
use Rattle.std.specs.Fmt.{decimal}
use Rattle.event_log.specs.States.{StatesView}
use Rattle.report.specs.declared.report.Report.{Report}
use Rattle.view_parts.specs.Each.{each_below, places}
use Rattle.view_picture.specs.declared.frame.Frame.{Frame}
use Rattle.view_picture.specs.Columns.{Rows}
use Rattle.view_picture.specs.Svg.{attribute, escaped}
use Rattle.view_picture.specs.Frame.{frame_of}
use Rattle.view_picture.specs.Told.{top_of, edges_of, most_edges, first_drawn}
use Rattle.view_picture.specs.Shown.{shown_events, has_shown}
use Rattle.view_picture.specs.Ties.{ties_of}
use Rattle.view_picture.specs.Drawing.{point, lane_drawn, tie_drawn, arrow_to, lost_from, numbers_drawn, left_out_drawn, edge_drawn, mark}
use Rattle.view_picture.specs.Picture.{size, box_text, lost_head, arrow_heads, verdict_drawn, formula_drawn, slice_drawn, legend, edges_legend, ties_legend, note_of, one_drawn, run_drawn, report_drawn, meaning_drawn, body}
use Rattle.report_lines.specs.Spelling.{truth_text}
use Rattle.picture_laws.specs.Xml.{Attribute, is_printed, is_in_value, names_of, IsContent, byte}
use Rattle.picture_laws.specs.WellFormed.{HasNames, PicturesAreWellFormed}
use Rattle.picture_laws.proofs.Plain.{IsPlain, both, number_value}
use Rattle.picture_laws.proofs.Grammar.{nothing_behind, plain_content, one_more, each_content, all_content, feed, escaped_content, Look, look_of, attr, valued, number, looks, leaf, box, root_element}
use Rattle.picture_laws.proofs.Elements.{text_content, edge_content}
use Rattle.picture_laws.proofs.Parts.{mark_content, lane_content, arrow_content, lost_content, numbers_content, left_out_content, tie_content, slice_content, legend_content, edges_legend_content, ties_legend_content, note_content, one_content}

-- ---- the heads of arrows, which are the same in each picture

abbrev head_attributes : List ℕ → List Attribute
head_attributes name =
    attr (codes "id") name ∷ attr (codes "viewBox") (codes "0 0 20 8") ∷ attr (codes "refX") (codes "23") ∷ attr (codes "refY") (codes "4") ∷ attr (codes "markerWidth") (codes "20") ∷ attr (codes "markerHeight") (codes "8")
    ∷ attr (codes "markerUnits") (codes "userSpaceOnUse") ∷ attr (codes "orient") (codes "auto") ∷ []

abbrev tip_attributes : List ℕ → List Attribute
tip_attributes color = attr (codes "d") (codes "M0 0 L8 4 L0 8 z") ∷ attr (codes "fill") color ∷ []

abbrev tip_text : List ℕ → List ℕ
tip_text color = codes "<path d='M0 0 L8 4 L0 8 z' fill='" ++ color ++ codes "'/>"

message_tip : IsContent (tip_text (codes "#555555"))
message_tip = leaf (codes "path") (codes "d" ∷ codes "fill" ∷ []) (codes " d='M0 0 L8 4 L0 8 z' fill='#555555'") [] refl (look_of (tip_attributes (codes "#555555")) refl) refl nothing_behind

edge_tip : IsContent (tip_text (codes "#7a3db8"))
edge_tip = leaf (codes "path") (codes "d" ∷ codes "fill" ∷ []) (codes " d='M0 0 L8 4 L0 8 z' fill='#7a3db8'") [] refl (look_of (tip_attributes (codes "#7a3db8")) refl) refl nothing_behind

abbrev head_look : List ℕ → List ℕ
head_look name = codes " id='" ++ name ++ codes "' viewBox='0 0 20 8' refX='23' refY='4' markerWidth='20' markerHeight='8' markerUnits='userSpaceOnUse' orient='auto'"

abbrev head_text : List ℕ → List ℕ → List ℕ
head_text name color = codes "<marker" ++ head_look name ++ codes ">" ++ tip_text color ++ (codes "</marker>" ++ 10 ∷ [])

message_head : IsContent (head_text (codes "message") (codes "#555555"))
message_head =
    box (codes "marker") (names_of (head_attributes (codes "message"))) (head_look (codes "message")) (tip_text (codes "#555555")) (10 ∷ []) refl (look_of (head_attributes (codes "message")) refl) refl message_tip feed

edge_head : IsContent (head_text (codes "edge") (codes "#7a3db8"))
edge_head = box (codes "marker") (names_of (head_attributes (codes "edge"))) (head_look (codes "edge")) (tip_text (codes "#7a3db8")) (10 ∷ []) refl (look_of (head_attributes (codes "edge")) refl) refl edge_tip feed

abbrev lost_attributes : List Attribute
lost_attributes =
    attr (codes "id") (codes "lost") ∷ attr (codes "viewBox") (codes "0 0 18 10") ∷ attr (codes "refX") (codes "13") ∷ attr (codes "refY") (codes "5") ∷ attr (codes "markerWidth") (codes "18") ∷ attr (codes "markerHeight") (codes "10")
    ∷ attr (codes "markerUnits") (codes "userSpaceOnUse") ∷ attr (codes "orient") (codes "auto") ∷ []

abbrev lost_text : List ℕ
lost_text = codes " id='lost' viewBox='0 0 18 10' refX='13' refY='5' markerWidth='18' markerHeight='10' markerUnits='userSpaceOnUse' orient='auto'"

abbrev cross_attributes : List Attribute
cross_attributes = attr (codes "d") (codes "M0 1 L6 5 L0 9 M9 1 L17 9 M9 9 L17 1") ∷ attr (codes "fill") (codes "none") ∷ attr (codes "stroke") (codes "#555555") ∷ attr (codes "stroke-width") (codes "1.5") ∷ []

abbrev cross_look : List ℕ
cross_look = codes " d='M0 1 L6 5 L0 9 M9 1 L17 9 M9 9 L17 1' fill='none' stroke='#555555' stroke-width='1.5'"

abbrev cross_text : List ℕ
cross_text = codes "<path" ++ cross_look ++ codes "/>"

cross : IsContent cross_text
cross = leaf (codes "path") (names_of cross_attributes) cross_look [] refl (look_of cross_attributes refl) refl nothing_behind

lost_head_content : IsContent lost_head
lost_head_content = box (codes "marker") (names_of lost_attributes) lost_text cross_text (10 ∷ []) refl (look_of lost_attributes refl) refl cross feed

abbrev three_heads : List ℕ
three_heads = head_text (codes "message") (codes "#555555") ++ (lost_head ++ head_text (codes "edge") (codes "#7a3db8"))

three_content : IsContent three_heads
three_content =
    one_more (head_text (codes "message") (codes "#555555")) (lost_head ++ head_text (codes "edge") (codes "#7a3db8")) message_head (one_more lost_head (head_text (codes "edge") (codes "#7a3db8")) lost_head_content edge_head)

heads_content : IsContent arrow_heads
heads_content = box (codes "defs") [] [] (10 ∷ three_heads) (10 ∷ []) refl (look_of [] refl) refl (byte 10 three_heads refl three_content) feed

-- ---- verdict and formula

abbrev verdict_attributes : List Attribute
verdict_attributes = attr (codes "font-size") (codes "20") ∷ []

abbrev formula_attributes : List Attribute
formula_attributes = attr (codes "font-size") (codes "14") ∷ attr (codes "font-family") (codes "monospace") ∷ []

truth_plain : (b : Bool) → IsPlain (truth_text b)
truth_plain true = refl
truth_plain false = refl

verdict_content : (b : Bool) → IsContent (verdict_drawn b)
verdict_content b = text_content (point 20 34) (names_of verdict_attributes) (codes " font-size='20'") (truth_text b) (look_of verdict_attributes refl) refl (plain_content (truth_text b) (truth_plain b))

formula_content : (formula : List ℕ) → list_all is_printed formula ≡ true → IsContent (formula_drawn formula)
formula_content formula h =
    text_content (point 20 60) (names_of formula_attributes) (codes " font-size='14' font-family='monospace'") (escaped formula) (look_of formula_attributes refl) refl (escaped_content formula h)

-- ---- what stands behind the heading

run_content : (s : StatesView) → HasNames s.header → (f : Frame) (rows : Rows) → IsContent (run_drawn s f rows)
run_content s named f rows =
    let shown = shown_events (map length s.events) rows in
    let lanes = each_below (length s.header.procs) (lane_drawn s f rows) in
    let ties = flat_map (tie_drawn f rows) (ties_of s rows) in
    let arrows = flat_map (arrow_to s f rows) shown in
    let lost = flat_map (lost_from s f rows) shown in
    one_more (lanes ++ ties ++ arrows ++ lost ++ numbers_drawn s f rows) (left_out_drawn s f rows)
    (one_more (lanes ++ ties ++ arrows ++ lost) (numbers_drawn s f rows)
    (one_more (lanes ++ ties ++ arrows) lost
    (one_more (lanes ++ ties) arrows
    (one_more lanes ties (each_content (lane_drawn s f rows) (length s.header.procs) (lane_content s named f rows)) (all_content (tie_drawn f rows) (ties_of s rows) (tie_content f rows)))
    (all_content (arrow_to s f rows) shown (arrow_content s f rows)))
    (all_content (lost_from s f rows) shown (lost_content s f rows)))
    (numbers_content s f rows))
    (left_out_content s f rows)

report_content : (s : StatesView) → HasNames s.header → (f : Frame) (rows : Rows) (r : Report) → IsContent (report_drawn s f rows r)
report_content s named f rows r =
    let shown = shown_events (map length s.events) rows in
    let edges = flat_map (edge_drawn f rows) (take most_edges (edges_of r.slice)) in
    let slice = slice_drawn f rows r.slice in
    let one = one_drawn f rows (first_drawn r.witnesses) in
    let marks = flat_map (mark s f rows (top_of r.slice)) shown in
    one_more (edges ++ slice ++ one) marks
    (one_more (edges ++ slice) one (one_more edges slice (all_content (edge_drawn f rows) (take most_edges (edges_of r.slice)) (edge_content f rows)) (slice_content f rows r.slice)) (one_content f rows (first_drawn r.witnesses)))
    (all_content (mark s f rows (top_of r.slice)) shown (mark_content s named f rows (top_of r.slice)))

meaning_content : (s : StatesView) (f : Frame) (rows : Rows) (edges ties : ℕ) → IsContent (meaning_drawn s f rows edges ties)
meaning_content s f rows edges ties =
    one_more (legend f ++ edges_legend f edges ++ ties_legend f ties) (note_of s rows)
    (one_more (legend f ++ edges_legend f edges) (ties_legend f ties) (one_more (legend f) (edges_legend f edges) (legend_content f) (edges_legend_content f edges)) (ties_legend_content f ties))
    (note_content (length (shown_events (map length s.events) rows)) (length (places (map length s.events))) (length rows - count_by has_shown rows))

body_content : (s : StatesView) → HasNames s.header → (f : Frame) (rows : Rows) (r : Report) → IsContent (body s f rows r)
body_content s named f rows r =
    let edges = length (edges_of r.slice) in
    let ties = length (ties_of s rows) in
    one_more (run_drawn s f rows ++ report_drawn s f rows r) (meaning_drawn s f rows edges ties)
    (one_more (run_drawn s f rows) (report_drawn s f rows r) (run_content s named f rows) (report_content s named f rows r)) (meaning_content s f rows edges ties)

-- ---- the root

size_look : (f : Frame) → Look (codes "width" ∷ codes "height" ∷ []) (size f)
size_look f =
    looks (codes "width" ∷ []) (codes "height" ∷ []) (attribute (codes "width") f.width) (attribute (codes "height") f.height) (number (codes "width") f.width refl) (number (codes "height") f.height refl)

box_is : (head a space b quote : List ℕ) → head ++ ((a ++ (space ++ b)) ++ quote) ≡ head ++ a ++ space ++ b ++ quote
box_is head a space b quote = simp append_assoc

box_look : (f : Frame) → Look (codes "viewBox" ∷ []) (box_text f)
box_look f =
    let value = codes "0 0 " ++ (decimal f.width ++ (32 ∷ [] ++ decimal f.height)) in
    subst (Look (codes "viewBox" ∷ [])) (box_is (codes " viewBox='0 0 ") (decimal f.width) (32 ∷ []) (decimal f.height) (39 ∷ []))
    (valued (codes "viewBox") value refl (both is_in_value (decimal f.width) (32 ∷ decimal f.height) (number_value f.width) (number_value f.height)))

abbrev root_attributes : List Attribute
root_attributes = attr (codes "xmlns") (codes "http://www.w3.org/2000/svg") ∷ attr (codes "version") (codes "1.1") ∷ []

abbrev root_text : List ℕ
root_text = codes " xmlns='http://www.w3.org/2000/svg' version='1.1'"

abbrev font_attributes : List Attribute
font_attributes = attr (codes "font-family") (codes "sans-serif") ∷ attr (codes "font-size") (codes "12") ∷ attr (codes "paint-order") (codes "stroke") ∷ attr (codes "stroke-linejoin") (codes "round") ∷ []

abbrev font_text : List ℕ
font_text = codes " font-family='sans-serif' font-size='12' paint-order='stroke' stroke-linejoin='round'"

abbrev root_look : Frame → List ℕ
root_look f = root_text ++ (size f ++ (box_text f ++ font_text))

abbrev root_names : List (List ℕ)
root_names = codes "xmlns" ∷ codes "version" ∷ codes "width" ∷ codes "height" ∷ codes "viewBox" ∷ names_of font_attributes

root_is_look : (f : Frame) → Look root_names (root_look f)
root_is_look f =
    looks (names_of root_attributes) (codes "width" ∷ codes "height" ∷ codes "viewBox" ∷ names_of font_attributes) root_text (size f ++ (box_text f ++ font_text)) (look_of root_attributes refl)
    (looks (codes "width" ∷ codes "height" ∷ []) (codes "viewBox" ∷ names_of font_attributes) (size f) (box_text f ++ font_text) (size_look f)
    (looks (codes "viewBox" ∷ []) (names_of font_attributes) (box_text f) font_text (box_look f) (look_of font_attributes refl)))

abbrev white : List ℕ
white = codes " fill='#ffffff'"

-- the white behind everything
abbrev paper : Frame → List ℕ
paper f = codes "<rect" ++ ((size f ++ white) ++ (codes "/>" ++ 10 ∷ []))

paper_content : (f : Frame) → IsContent (paper f)
paper_content f =
    leaf (codes "rect") (codes "width" ∷ codes "height" ∷ codes "fill" ∷ []) (size f ++ white) (10 ∷ []) refl
    (looks (codes "width" ∷ codes "height" ∷ []) (codes "fill" ∷ []) (size f) white (size_look f) (look_of (attr (codes "fill") (codes "#ffffff") ∷ []) refl)) refl feed

abbrev inner : Frame → Report → List ℕ → List ℕ
inner f r below = 10 ∷ (paper f ++ (arrow_heads ++ (verdict_drawn r.verdict ++ (formula_drawn r.formula ++ below))))

inner_content : (f : Frame) (r : Report) (below : List ℕ) → list_all is_printed r.formula ≡ true → IsContent below → IsContent (inner f r below)
inner_content f r below h content =
    byte 10 (paper f ++ (arrow_heads ++ (verdict_drawn r.verdict ++ (formula_drawn r.formula ++ below)))) refl
    (one_more (paper f) (arrow_heads ++ (verdict_drawn r.verdict ++ (formula_drawn r.formula ++ below))) (paper_content f)
    (one_more arrow_heads (verdict_drawn r.verdict ++ (formula_drawn r.formula ++ below)) heads_content
    (one_more (verdict_drawn r.verdict) (formula_drawn r.formula ++ below) (verdict_content r.verdict) (one_more (formula_drawn r.formula) below (formula_content r.formula h) content))))

root_is : (head size box font close white paper heads verdict formula below last feed : List ℕ)
    → head ++ size ++ box ++ font ++ close ++ size ++ (white ++ paper) ++ heads ++ verdict ++ formula ++ below ++ (last ++ feed)
    ≡ (head ++ ((size ++ (box ++ font)) ++ (close ++ (((size ++ white) ++ paper) ++ (heads ++ (verdict ++ (formula ++ below))) ++ last)))) ++ feed
root_is head size box font close white paper heads verdict formula below last feed = simp append_assoc

pub pictures_are_well_formed : PicturesAreWellFormed
pictures_are_well_formed s rows r named printed =
    let f = frame_of s rows r in
    let below = body s f rows r in
    let shown = inner f r below in
    record {
      root = codes "<svg" ++ (root_look f ++ 62 ∷ (shown ++ codes "</svg>"));
      is_element = root_element (codes "svg") root_names (root_look f) shown refl (root_is_look f) refl (inner_content f r below printed (body_content s named f rows r));
      text_is = root_is (codes "<svg xmlns='http://www.w3.org/2000/svg' version='1.1'") (size f) (box_text f) font_text (codes ">" ++ 10 ∷ codes "<rect") white (codes "/>" ++ 10 ∷ []) arrow_heads (verdict_drawn r.verdict) (formula_drawn r.formula) below
          (codes "</svg>") (10 ∷ []);
    }
