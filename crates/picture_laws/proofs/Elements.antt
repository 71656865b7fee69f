-- Lines, circles, texts and cuts are elements.
use Rattle.std.proofs.Common.{◌≡◌, ℕ, zero, suc, ◌+◌, ◌-◌, Bool, true, false, List, [], ◌∷◌, ◌++◌, length, get_or, refl, subst, append_assoc}
use Rattle.std.specs.Prelude.{codes, if◌then◌else◌}
use Rattle.std.specs.Fmt.{decimal}
use Rattle.log_lines.specs.Names.{are_distinct}
use Rattle.run_model.specs.Cut.{Cut}
use Rattle.view_parts.specs.Each.{each_below}
use Rattle.slice_graph.specs.declared.edges.Edge.{Edge}
use Rattle.view_picture.specs.declared.svg.Point.{Point}
use Rattle.view_picture.specs.declared.frame.Frame.{Frame}
use Rattle.view_picture.specs.Columns.{Rows}
use Rattle.view_picture.specs.Svg.{attribute, line, circle, text}
use Rattle.view_picture.specs.Frame.{at, lane}
use Rattle.view_picture.specs.Drawing.{spot, bow, edge_drawn, crossing, corner, corners, shown_corners, cut_drawn}
use Rattle.view_picture.specs.Shown.{has_shown}
use Rattle.picture_laws.specs.Xml.{Attribute, is_in_value, attribute_text, names_of, IsContent}
use Rattle.picture_laws.proofs.Plain.{IsValue, both, number_value}
use Rattle.picture_laws.proofs.Grammar.{feed, Look, look_of, attr, valued, number, looks, leaf, box}

-- ---- with numbers

four_before : (head a b c d look rest : List ℕ) → head ++ ((a ++ (b ++ (c ++ (d ++ look)))) ++ rest) ≡ head ++ a ++ b ++ c ++ d ++ look ++ rest
four_before head a b c d look rest = simp append_assoc

pub line_content : (from to : Point) (names : List (List ℕ)) (look : List ℕ) → Look names look → are_distinct (codes "x1" ∷ codes "y1" ∷ codes "x2" ∷ codes "y2" ∷ names) ≡ true → IsContent (line from to look)
line_content from to names look l distinct =
    let x1 = attribute (codes "x1") from.x in
    let y1 = attribute (codes "y1") from.y in
    let x2 = attribute (codes "x2") to.x in
    let y2 = attribute (codes "y2") to.y in
    subst IsContent (four_before (codes "<line") x1 y1 x2 y2 look (codes "/>" ++ 10 ∷ []))
    (leaf (codes "line") (codes "x1" ∷ codes "y1" ∷ codes "x2" ∷ codes "y2" ∷ names) (x1 ++ (y1 ++ (x2 ++ (y2 ++ look)))) (10 ∷ []) refl
    (looks (codes "x1" ∷ []) (codes "y1" ∷ codes "x2" ∷ codes "y2" ∷ names) x1 (y1 ++ (x2 ++ (y2 ++ look))) (number (codes "x1") from.x refl)
    (looks (codes "y1" ∷ []) (codes "x2" ∷ codes "y2" ∷ names) y1 (x2 ++ (y2 ++ look)) (number (codes "y1") from.y refl)
    (looks (codes "x2" ∷ []) (codes "y2" ∷ names) x2 (y2 ++ look) (number (codes "x2") to.x refl) (looks (codes "y2" ∷ []) names y2 look (number (codes "y2") to.y refl) l))))
    distinct feed)

three_before : (head a b c look rest : List ℕ) → head ++ ((a ++ (b ++ (c ++ look))) ++ rest) ≡ head ++ a ++ b ++ c ++ look ++ rest
three_before head a b c look rest = simp append_assoc

pub circle_content : (place : Point) (radius : ℕ) (names : List (List ℕ)) (look : List ℕ) → Look names look → are_distinct (codes "cx" ∷ codes "cy" ∷ codes "r" ∷ names) ≡ true → IsContent (circle place radius look)
circle_content place radius names look l distinct =
    let cx = attribute (codes "cx") place.x in
    let cy = attribute (codes "cy") place.y in
    let r = attribute (codes "r") radius in
    subst IsContent (three_before (codes "<circle") cx cy r look (codes "/>" ++ 10 ∷ []))
    (leaf (codes "circle") (codes "cx" ∷ codes "cy" ∷ codes "r" ∷ names) (cx ++ (cy ++ (r ++ look))) (10 ∷ []) refl
    (looks (codes "cx" ∷ []) (codes "cy" ∷ codes "r" ∷ names) cx (cy ++ (r ++ look)) (number (codes "cx") place.x refl)
    (looks (codes "cy" ∷ []) (codes "r" ∷ names) cy (r ++ look) (number (codes "cy") place.y refl) (looks (codes "r" ∷ []) names r look (number (codes "r") radius refl) l)))
    distinct feed)

two_before : (head a b look close shown rest : List ℕ) → head ++ ((a ++ (b ++ look)) ++ (close ++ (shown ++ rest))) ≡ head ++ a ++ b ++ look ++ close ++ shown ++ rest
two_before head a b look close shown rest = simp append_assoc

pub text_content : (place : Point) (names : List (List ℕ)) (look shown : List ℕ) → Look names look → are_distinct (codes "x" ∷ codes "y" ∷ names) ≡ true → IsContent shown → IsContent (text place look shown)
text_content place names look shown l distinct content =
    let x = attribute (codes "x") place.x in
    let y = attribute (codes "y") place.y in
    subst IsContent (two_before (codes "<text") x y look (codes ">") shown (codes "</text>" ++ 10 ∷ []))
    (box (codes "text") (codes "x" ∷ codes "y" ∷ names) (x ++ (y ++ look)) shown (10 ∷ []) refl
    (looks (codes "x" ∷ []) (codes "y" ∷ names) x (y ++ look) (number (codes "x") place.x refl) (looks (codes "y" ∷ []) names y look (number (codes "y") place.y refl) l))
    distinct content feed)

-- ---- cuts

spot_value : (p : Point) → IsValue (spot p)
spot_value p = both is_in_value (decimal p.x) (32 ∷ decimal p.y) (number_value p.x) (number_value p.y)

corner_value : (x y : ℕ) → IsValue (corner x y)
corner_value x y = both is_in_value (decimal x) (44 ∷ decimal y) (number_value x) (number_value y)

corners_value : (f : Frame) (rows : Rows) (cut : Cut) (shift process : ℕ) → IsValue (corners f rows cut shift process)
corners_value f rows cut shift process =
    let x = crossing f rows cut shift process in
    both is_in_value (corner x (lane rows process - 32)) (corner x (lane rows process + 32)) (corner_value x (lane rows process - 32)) (corner_value x (lane rows process + 32))

shown_corners_value : (f : Frame) (rows : Rows) (cut : Cut) (shift process : ℕ) → IsValue (shown_corners f rows cut shift process)
shown_corners_value f rows cut shift process = either (has_shown (get_or rows process []))
  where
    either : (b : Bool) → IsValue (if b then corners f rows cut shift process else [])
    either true = corners_value f rows cut shift process
    either false = refl

each_value : (made : ℕ → List ℕ) (n : ℕ) → ((k : ℕ) → IsValue (made k)) → IsValue (each_below n made)
each_value made zero each = refl
each_value made (suc n) each = both is_in_value (each_below n made) (made n) (each_value made n each) (each n)

value_first : (head value quote fill look rest : List ℕ) → head ++ (((value ++ quote) ++ (fill ++ look)) ++ rest) ≡ head ++ value ++ (quote ++ fill) ++ look ++ rest
value_first head value quote fill look rest = simp append_assoc

abbrev pub no_fill : List Attribute
no_fill = attr (codes "fill") (codes "none") ∷ []

pub cut_content : (f : Frame) (rows : Rows) (cut : Cut) (shift : ℕ) (names : List (List ℕ)) (look : List ℕ) → Look names look → are_distinct (codes "points" ∷ codes "fill" ∷ names) ≡ true
    → IsContent (cut_drawn f rows cut shift look)
cut_content f rows cut shift names look l distinct =
    let points = each_below (length cut) (shown_corners f rows cut shift) in
    let fill = codes " fill='none'" in
    subst IsContent (value_first (codes "<polyline points='") points (39 ∷ []) fill look (codes "/>" ++ 10 ∷ []))
    (leaf (codes "polyline") (codes "points" ∷ codes "fill" ∷ names) (attribute_text (attr (codes "points") points) ++ (fill ++ look)) (10 ∷ []) refl
    (looks (codes "points" ∷ []) (codes "fill" ∷ names) (attribute_text (attr (codes "points") points)) (fill ++ look)
    (valued (codes "points") points refl (each_value (shown_corners f rows cut shift) (length cut) (shown_corners_value f rows cut shift)))
    (looks (codes "fill" ∷ []) names fill look (look_of no_fill refl) l))
    distinct feed)

-- ---- edges

abbrev edge_look : List Attribute
edge_look = attr (codes "fill") (codes "none") ∷ attr (codes "stroke") (codes "#7a3db8") ∷ attr (codes "stroke-dasharray") (codes "5 4") ∷ attr (codes "marker-end") (codes "url(#edge)") ∷ []

abbrev edge_look_text : List ℕ
edge_look_text = codes " fill='none' stroke='#7a3db8' stroke-dasharray='5 4' marker-end='url(#edge)'"

bow_first : (head a b c d quote look rest : List ℕ) → head ++ ((((a ++ (b ++ (c ++ d))) ++ quote) ++ look) ++ rest) ≡ head ++ a ++ b ++ c ++ d ++ ((quote ++ look) ++ rest)
bow_first head a b c d quote look rest = simp append_assoc

pub edge_content : (f : Frame) (rows : Rows) (e : Edge) → IsContent (edge_drawn f rows e)
edge_content f rows e =
    let from = at f rows e.cause in
    let to = at f rows e.effect in
    let drawn = codes "M" ++ (spot from ++ (codes " Q" ++ (spot (bow from to) ++ spot to))) in
    subst IsContent (bow_first (codes "<path d='M") (spot from) (codes " Q") (spot (bow from to)) (spot to) (39 ∷ []) edge_look_text (codes "/>" ++ 10 ∷ []))
    (leaf (codes "path") (codes "d" ∷ names_of edge_look) (attribute_text (attr (codes "d") drawn) ++ edge_look_text) (10 ∷ []) refl
    (looks (codes "d" ∷ []) (names_of edge_look) (attribute_text (attr (codes "d") drawn)) edge_look_text
    (valued (codes "d") drawn refl
    (both is_in_value (spot from) (codes " Q" ++ (spot (bow from to) ++ spot to)) (spot_value from)
    (both is_in_value (spot (bow from to)) (spot to) (spot_value (bow from to)) (spot_value to))))
    (look_of edge_look refl))
    refl feed)
