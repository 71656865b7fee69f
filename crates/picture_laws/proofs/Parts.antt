-- What is drawn of events, messages, cuts, witnesses and slices is content.
use Rattle.std.proofs.Common.{◌≡◌, ℕ, zero, suc, ◌+◌, ◌-◌, ◌*◌, Bool, true, false, List, [], ◌∷◌, ◌++◌, length, map, take, get_or, refl, subst, append_assoc}
use Rattle.std.specs.Prelude.{codes, min, nat_lt, nat_le, ◌==◌, Option, None, Some, if◌then◌else◌}
use Rattle.std.specs.List.{AllByRecursion, count_by, flat_map}
use Rattle.std.specs.Fmt.{decimal, signed_decimal}
use Rattle.run_model.specs.Cut.{Cut}
use Rattle.log_lines.specs.Names.{is_name, are_distinct}
use Rattle.log_lines.specs.Spelling.{values_text, clock_rest, clock_text}
use Rattle.pota_base.specs.declared.shape.EventId.{EventId}
use Rattle.event_log.specs.declared.log.Kind.{Kind}
use Rattle.event_log.specs.declared.log.Kind.TheVariants as kind
use Rattle.event_log.specs.declared.log.Assign.{Assign}
use Rattle.event_log.specs.declared.log.Binding.{Binding}
use Rattle.event_log.specs.Numbers.{binding_names, variables_at}
use Rattle.event_log.specs.LogText.{name_at, action_of, named_values}
use Rattle.event_log.specs.States.{StatesView}
use Rattle.log_lines.specs.Spelling.{action_text}
use Rattle.view_parts.specs.Parts.{event_at, variable_name, place_text, line_text, kind_text, assigns_text}
use Rattle.witness_kinds.specs.declared.Witness.{Witness}
use Rattle.witness_kinds.specs.declared.Witness.TheVariants as witness
use Rattle.report_lines.specs.declared.kinds.WitnessText.{WitnessText}
use Rattle.report.specs.declared.report.SliceText.{SliceText}
use Rattle.view_picture.specs.declared.svg.Point.{Point}
use Rattle.view_picture.specs.declared.frame.Frame.{Frame}
use Rattle.view_picture.specs.Columns.{Rows}
use Rattle.view_parts.specs.Each.{each_below}
use Rattle.view_picture.specs.Svg.{line, circle, text}
use Rattle.view_picture.specs.Frame.{lane, behind, at}
use Rattle.slice_graph.specs.declared.edges.Edge.{Edge}
use Rattle.view_picture.specs.Told.{most_edges}
use Rattle.view_picture.specs.Shown.{is_shown, shown_events, has_shown, left_out}
use Rattle.view_picture.specs.Ties.{shown_send}
use Rattle.view_picture.specs.Drawing.{left_out_look, left_out_text, halfway, left_out_before, right_of, left_out_behind, left_out_drawn, tie_look, tie_drawn}
use Rattle.view_picture.specs.Drawing.{point, lane_drawn, arrow_from, arrow_to, title}
use Rattle.view_picture.specs.Drawing.{lost_of, short_of, lost_look, lost_to, lost_from}
use Rattle.view_picture.specs.Drawing.{receives, number_of, lanes_apart, on_arrow, most_numbers}
use Rattle.view_picture.specs.Drawing.{message_number_look, number_from, number_to, numbers_drawn}
use Rattle.view_picture.specs.Drawing.{least_shift, goal_shift, greatest_shift}
use Rattle.view_picture.specs.Drawing.{is_beyond, cut_drawn, mark_look, number_look, disc}
use Rattle.view_picture.specs.Drawing.{name_within, value_text, room_for, no_assign, assign_text}
use Rattle.view_picture.specs.Drawing.{under_look, under, more_under, assigns_under}
use Rattle.view_picture.specs.Drawing.{mark, least_look, greatest_look, goal_look}
use Rattle.view_picture.specs.Drawing.{step_look, numbered, no_place, step_drawn, steps_drawn, ring, path_drawn}
use Rattle.view_picture.specs.Drawing.{witness_drawn}
use Rattle.view_picture.specs.Picture.{row_at, told, sample, sample_disc, message_look, legend}
use Rattle.view_picture.specs.Picture.{slice_legend, bounds_drawn, slice_drawn}
use Rattle.view_picture.specs.Picture.{edges_note, edge_sample_look, edges_told, edges_legend, meaning_of}
use Rattle.view_picture.specs.Picture.{witness_meaning, one_drawn, ties_legend, note_text, are_all, note_drawn}
use Rattle.picture_laws.specs.Xml.{Attribute, is_plain, names_of, IsContent, nothing}
use Rattle.picture_laws.specs.WellFormed.{HasNames}
use Rattle.picture_laws.proofs.Plain.{IsPlain, both, first_of, number_plain, signed_plain, names_plain}
use Rattle.picture_laws.proofs.Grammar.{plain_content, one_more, each_content, all_content, feed, Look, look_of, attr, box}
use Rattle.picture_laws.proofs.Elements.{line_content, circle_content, text_content, cut_content}

either_content : (b : Bool) (xs ys : List ℕ) → IsContent xs → IsContent ys → IsContent (if b then xs else ys)
either_content true xs ys h k = h
either_content false xs ys h k = k

-- ---- plain texts of an event

process_plain : (s : StatesView) → HasNames s.header → (p : ℕ) → IsPlain (name_at s.header.procs p)
process_plain s named p = names_plain s.header.procs p named.procs

own_names : (bindings : List Binding) → AllByRecursion (λ (b : Binding). is_name b.name ≡ true) bindings → AllByRecursion (λ n. is_name n ≡ true) (binding_names bindings)
own_names [] all = tt
own_names (b ∷ bindings) all = (all.0, own_names bindings all.1)

all_names : (vars : List (List Binding)) (p : ℕ) → AllByRecursion (AllByRecursion (λ (b : Binding). is_name b.name ≡ true)) vars → AllByRecursion (λ n. is_name n ≡ true) (binding_names (variables_at vars p))
all_names [] p all = tt
all_names (v ∷ vars) zero all = own_names v all.0
all_names (v ∷ vars) (suc p) all = all_names vars p all.1

variable_plain : (s : StatesView) → HasNames s.header → (p v : ℕ) → IsPlain (variable_name s p v)
variable_plain s named p v = names_plain (binding_names (variables_at s.header.vars p)) v (all_names s.header.vars p named.variables)

peer_plain : (word name : List ℕ) (id : ℕ) → IsPlain word → IsPlain name → IsPlain (word ++ (name ++ 32 ∷ decimal id))
peer_plain word name id h k = both is_plain word (name ++ 32 ∷ decimal id) h (both is_plain name (32 ∷ decimal id) k (number_plain id))

kind_plain : (s : StatesView) → HasNames s.header → (k : Kind) → IsPlain (action_text (action_of s.header.procs k))
kind_plain s named kind.Internal = refl
kind_plain s named (kind.Send to id) = peer_plain (codes "send ") (name_at s.header.procs to) id refl (process_plain s named to)
kind_plain s named (kind.Receive sender id) = peer_plain (codes "recv ") (name_at s.header.procs sender) id refl (process_plain s named sender)

values_plain : (s : StatesView) → HasNames s.header → (p : ℕ) (assigns : List Assign) → IsPlain (values_text (named_values (variables_at s.header.vars p) assigns))
values_plain s named p [] = refl
values_plain s named p (a ∷ assigns) =
    let rest = values_text (named_values (variables_at s.header.vars p) assigns) in
    both is_plain (variable_name s p a.variable) (61 ∷ (signed_decimal a.value ++ rest)) (variable_plain s named p a.variable) (both is_plain (signed_decimal a.value) rest (signed_plain a.value) (values_plain s named p assigns))

clock_rest_plain : (ns : List ℕ) → IsPlain (clock_rest ns)
clock_rest_plain [] = refl
clock_rest_plain (n ∷ ns) = both is_plain (decimal n) (clock_rest ns) (number_plain n) (clock_rest_plain ns)

clock_plain : (ns : List ℕ) → IsPlain (clock_text ns)
clock_plain [] = refl
clock_plain (n ∷ ns) = both is_plain (decimal n) (clock_rest ns) (number_plain n) (clock_rest_plain ns)

within_plain : (most : ℕ) (name : List ℕ) → IsPlain name → IsPlain (name_within most name)
within_plain most name h = by_length (nat_le (length name) most)
  where
    by_length : (b : Bool) → IsPlain (if b then name else take (most - 2) name ++ codes "..")
    by_length true = h
    by_length false = both is_plain (take (most - 2) name) (codes "..") (first_of is_plain (most - 2) name h) refl

assign_plain : (s : StatesView) → HasNames s.header → (wide : Bool) (e : EventId) (k : ℕ) → IsPlain (assign_text s wide e k)
assign_plain s named wide e k =
    let a = get_or (event_at s e).assigns k no_assign in
    let name = variable_name s e.process a.variable in
    let most = room_for wide - length (value_text a) in
    both is_plain (name_within most name) (value_text a) (within_plain most name (variable_plain s named e.process a.variable)) (signed_plain a.value)

-- ---- marks

title_is : (head a b c d e f g h rest : List ℕ) → head ++ ((a ++ (b ++ (c ++ (d ++ (e ++ (f ++ (g ++ h))))))) ++ rest) ≡ head ++ a ++ b ++ c ++ d ++ e ++ f ++ g ++ h ++ rest
title_is head a b c d e f g h rest = simp append_assoc

title_content : (s : StatesView) → HasNames s.header → (e : EventId) → IsContent (title s e)
title_content s named e =
    let line = line_text s e in
    let place = place_text s.header.procs e in
    let kind = kind_text s e in
    let assigns = assigns_text s e in
    let clock = clock_text (event_at s e).clock in
    let inner = line ++ (codes ": " ++ (place ++ (codes " " ++ (kind ++ (assigns ++ (codes " clock " ++ clock)))))) in
    let plain : IsPlain inner =
    both is_plain line (codes ": " ++ (place ++ (codes " " ++ (kind ++ (assigns ++ (codes " clock " ++ clock)))))) (number_plain (event_at s e).line)
    (both is_plain place (codes " " ++ (kind ++ (assigns ++ (codes " clock " ++ clock))))
    (both is_plain (name_at s.header.procs e.process) (32 ∷ decimal e.position) (process_plain s named e.process) (number_plain e.position))
    (both is_plain kind (assigns ++ (codes " clock " ++ clock)) (kind_plain s named (event_at s e).kind) (both is_plain assigns (codes " clock " ++ clock) (values_plain s named e.process (event_at s e).assigns) (clock_plain (event_at s e).clock)))) in
    subst IsContent (title_is (codes "<title>") line (codes ": ") place (codes " ") kind assigns (codes " clock ") clock (codes "</title>" ++ 10 ∷ []))
    (box (codes "title") [] [] inner (10 ∷ []) refl (look_of [] refl) refl (plain_content inner plain) feed)

abbrev ringed : List ℕ → List Attribute
ringed fill = attr (codes "fill") fill ∷ attr (codes "stroke") (codes "#ffffff") ∷ attr (codes "stroke-width") (codes "6") ∷ []

abbrev ringed_names : List (List ℕ)
ringed_names = codes "fill" ∷ codes "stroke" ∷ codes "stroke-width" ∷ []

mark_look_is : (beyond : Bool) → Look ringed_names (mark_look beyond)
mark_look_is true = look_of (ringed (codes "#c9c9c9")) refl
mark_look_is false = look_of (ringed (codes "#2b6cb0")) refl

abbrev middle : List ℕ → List ℕ → List Attribute
middle size fill = attr (codes "font-size") size ∷ attr (codes "text-anchor") (codes "middle") ∷ attr (codes "fill") fill ∷ []

number_look_is : (beyond small : Bool) → Look (codes "font-size" ∷ codes "text-anchor" ∷ codes "fill" ∷ []) (number_look beyond small)
number_look_is true true = look_of (middle (codes "11") (codes "#333333")) refl
number_look_is true false = look_of (middle (codes "8") (codes "#333333")) refl
number_look_is false true = look_of (middle (codes "11") (codes "#ffffff")) refl
number_look_is false false = look_of (middle (codes "8") (codes "#ffffff")) refl

disc_content : (p : Point) (beyond : Bool) (number : ℕ) → IsContent (disc p beyond number)
disc_content p beyond number =
    let small = nat_lt number 1000 in
    one_more (circle p 11 (mark_look beyond)) (text (point p.x (p.y + 4)) (number_look beyond small) (decimal number))
    (circle_content p 11 ringed_names (mark_look beyond) (mark_look_is beyond) refl)
    (text_content (point p.x (p.y + 4)) (codes "font-size" ∷ codes "text-anchor" ∷ codes "fill" ∷ []) (number_look beyond small) (decimal number) (number_look_is beyond small) refl (plain_content (decimal number) (number_plain number)))

abbrev rimmed : List ℕ → List ℕ → List ℕ → List Attribute
rimmed anchor fill width = attr (codes "text-anchor") anchor ∷ attr (codes "fill") fill ∷ attr (codes "stroke") (codes "#ffffff") ∷ attr (codes "stroke-width") width ∷ []

abbrev wide_label : List Attribute
wide_label = rimmed (codes "middle") (codes "#333333") (codes "3")

abbrev narrow_label : List Attribute
narrow_label = attr (codes "font-size") (codes "9") ∷ wide_label

under_content : (wide : Bool) (p : Point) (row : ℕ) (shown : List ℕ) → IsPlain shown → IsContent (under wide p row shown)
under_content true p row shown h = text_content (point p.x (p.y + 33 + 12 * row)) (names_of wide_label) (under_look true) shown (look_of wide_label refl) refl (plain_content shown h)
under_content false p row shown h = text_content (point p.x (p.y + 33 + 12 * row)) (names_of narrow_label) (under_look false) shown (look_of narrow_label refl) refl (plain_content shown h)

assigns_content : (s : StatesView) → HasNames s.header → (wide : Bool) (p : Point) (e : EventId) → IsContent (assigns_under s wide p e)
assigns_content s named wide p e =
    let count = length (event_at s e).assigns in
    let row : ℕ → List ℕ = λ k. under wide p k (assign_text s wide e k) in
    one_more (each_below (min count 3) row) (more_under wide p count) (each_content row (min count 3) (λ k. under_content wide p k (assign_text s wide e k) (assign_plain s named wide e k)))
    (either_content (nat_lt 3 count) (under wide p 3 (codes "..")) [] (under_content wide p 3 (codes "..") refl) nothing)

mark_is : (head a b c rest : List ℕ) → head ++ ((a ++ (b ++ c)) ++ rest) ≡ head ++ a ++ b ++ c ++ rest
mark_is head a b c rest = simp append_assoc

pub mark_content : (s : StatesView) → HasNames s.header → (f : Frame) (rows : Rows) (top : Option Cut) (e : EventId) → IsContent (mark s f rows top e)
mark_content s named f rows top e =
    let p = at f rows e in
    let beyond = is_beyond top e in
    subst IsContent (mark_is (codes "<g>") (title s e) (disc p beyond e.position) (assigns_under s f.wide p e) (codes "</g>" ++ 10 ∷ []))
    (box (codes "g") [] [] (title s e ++ (disc p beyond e.position ++ assigns_under s f.wide p e)) (10 ∷ []) refl (look_of [] refl) refl
    (one_more (title s e) (disc p beyond e.position ++ assigns_under s f.wide p e) (title_content s named e)
    (one_more (disc p beyond e.position) (assigns_under s f.wide p e) (disc_content p beyond e.position) (assigns_content s named f.wide p e)))
    feed)

-- ---- lanes and messages

abbrev lane_attributes : List Attribute
lane_attributes = attr (codes "stroke") (codes "#bbbbbb") ∷ attr (codes "stroke-width") (codes "2") ∷ []

abbrev name_attributes : List Attribute
name_attributes = attr (codes "font-size") (codes "15") ∷ attr (codes "font-weight") (codes "bold") ∷ []

pub lane_content : (s : StatesView) → HasNames s.header → (f : Frame) (rows : Rows) (process : ℕ) → IsContent (lane_drawn s f rows process)
lane_content s named f rows process =
    let name = name_at s.header.procs process in
    let y = lane rows process in
    let from = point f.left y in
    let to = point (f.width - 20) y in
    let look = codes " stroke='#bbbbbb' stroke-width='2'" in
    let bold = codes " font-size='15' font-weight='bold'" in
    either_content (has_shown (get_or rows process [])) (line from to look ++ text (point 20 (y + 5)) bold name) []
    (one_more (line from to look) (text (point 20 (y + 5)) bold name) (line_content from to (names_of lane_attributes) look (look_of lane_attributes refl) refl)
    (text_content (point 20 (y + 5)) (names_of name_attributes) bold name (look_of name_attributes refl) refl (plain_content name (process_plain s named process))))
    nothing

-- ---- what is left out, and ties

abbrev left_out_attributes : List Attribute
left_out_attributes = attr (codes "font-size") (codes "10") ∷ rimmed (codes "middle") (codes "#777777") (codes "3")

left_out_text_content : (p : Point) (n : ℕ) → IsContent (left_out_text p n)
left_out_text_content p n =
    let shown = codes ".. " ++ decimal n ++ codes " .." in
    either_content (n == 0) [] (text (point p.x (p.y - 15)) left_out_look shown) nothing
    (text_content (point p.x (p.y - 15)) (names_of left_out_attributes) left_out_look shown (look_of left_out_attributes refl) refl
    (plain_content shown (both is_plain (codes ".. " ++ decimal n) (codes " ..") (both is_plain (codes ".. ") (decimal n) refl (number_plain n)) refl)))

before_content : (f : Frame) (rows : Rows) (e : EventId) → IsContent (left_out_before f rows e)
before_content f rows e = left_out_text_content (halfway (behind f rows e.process (e.position - 1)) (at f rows e)) (left_out rows e.process (e.position - 1))

behind_content : (f : Frame) (rows : Rows) (process events : ℕ) → IsContent (left_out_behind f rows process events)
behind_content f rows process events =
    let shown = left_out_text (right_of (behind f rows process events)) (left_out rows process events) in
    either_content (has_shown (get_or rows process [])) shown [] (left_out_text_content (right_of (behind f rows process events)) (left_out rows process events)) nothing

pub left_out_content : (s : StatesView) (f : Frame) (rows : Rows) → IsContent (left_out_drawn s f rows)
left_out_content s f rows =
    let events = shown_events (map length s.events) rows in
    let last : ℕ → List ℕ = λ p. left_out_behind f rows p (get_or (map length s.events) p 0) in
    one_more (flat_map (left_out_before f rows) events) (each_below (length s.events) last) (all_content (left_out_before f rows) events (before_content f rows))
    (each_content last (length s.events) (λ p. behind_content f rows p (get_or (map length s.events) p 0)))

abbrev tie_attributes : List Attribute
tie_attributes = attr (codes "stroke") (codes "#999999") ∷ attr (codes "stroke-width") (codes "1") ∷ []

pub tie_content : (f : Frame) (rows : Rows) (tie : Edge) → IsContent (tie_drawn f rows tie)
tie_content f rows tie = line_content (at f rows tie.cause) (at f rows tie.effect) (names_of tie_attributes) tie_look (look_of tie_attributes refl) refl

-- ---- messages

abbrev arrow_attributes : List Attribute
arrow_attributes = attr (codes "stroke") (codes "#555555") ∷ attr (codes "stroke-width") (codes "1.5") ∷ attr (codes "marker-end") (codes "url(#message)") ∷ []

pub arrow_content : (s : StatesView) (f : Frame) (rows : Rows) (e : EventId) → IsContent (arrow_to s f rows e)
arrow_content s f rows e = by_send (shown_send s rows e)
  where
    by_send : (o : Option EventId) → IsContent (arrow_from f rows e o)
    by_send None = nothing
    by_send (Some send) =
        line_content (at f rows send) (at f rows e) (names_of arrow_attributes) (codes " stroke='#555555' stroke-width='1.5' marker-end='url(#message)'") (look_of arrow_attributes refl) refl

abbrev lost_attributes : List Attribute
lost_attributes = attr (codes "stroke") (codes "#555555") ∷ attr (codes "stroke-width") (codes "1.5") ∷ attr (codes "marker-end") (codes "url(#lost)") ∷ []

pub lost_content : (s : StatesView) (f : Frame) (rows : Rows) (e : EventId) → IsContent (lost_from s f rows e)
lost_content s f rows e = by_receiver (lost_of s e)
  where
    by_receiver : (o : Option ℕ) → IsContent (lost_to (at f rows e) e.process o)
    by_receiver None = nothing
    by_receiver (Some receiver) =
        let down = nat_lt e.process receiver in
        line_content (at f rows e) (short_of (at f rows e) down) (names_of lost_attributes) lost_look (look_of lost_attributes refl) refl

abbrev number_attributes : List Attribute
number_attributes = attr (codes "font-size") (codes "10") ∷ rimmed (codes "middle") (codes "#555555") (codes "3")

number_content : (s : StatesView) (f : Frame) (rows : Rows) (e : EventId) → IsContent (number_to s f rows e)
number_content s f rows e = by_send (shown_send s rows e)
  where
    by_send : (o : Option EventId) → IsContent (number_from f rows e (number_of (event_at s e).kind) o)
    by_send None = nothing
    by_send (Some send) =
        let number = number_of (event_at s e).kind in
        text_content (on_arrow (at f rows send) (at f rows e) (lanes_apart send.process e.process)) (names_of number_attributes) message_number_look (decimal number) (look_of number_attributes refl) refl (plain_content (decimal number) (number_plain number))

pub numbers_content : (s : StatesView) (f : Frame) (rows : Rows) → IsContent (numbers_drawn s f rows)
numbers_content s f rows =
    let events = shown_events (map length s.events) rows in
    either_content (nat_le (count_by (receives s) events) most_numbers) (flat_map (number_to s f rows) events) [] (all_content (number_to s f rows) events (number_content s f rows)) nothing

-- ---- cuts and witnesses

abbrev cut_attributes : List ℕ → List Attribute
cut_attributes dashes = attr (codes "stroke") (codes "#7a3db8") ∷ attr (codes "stroke-width") (codes "2") ∷ attr (codes "stroke-dasharray") dashes ∷ []

abbrev goal_attributes : List Attribute
goal_attributes = attr (codes "stroke") (codes "#b35900") ∷ attr (codes "stroke-width") (codes "2.5") ∷ []

abbrev least_attributes : List Attribute
least_attributes = cut_attributes (codes "8 4")

abbrev greatest_attributes : List Attribute
greatest_attributes = cut_attributes (codes "2 3")

abbrev step_attributes : List Attribute
step_attributes = attr (codes "font-weight") (codes "bold") ∷ rimmed (codes "end") (codes "#b35900") (codes "4")

numbered_content : (p : Point) (number : ℕ) → IsContent (numbered p number)
numbered_content p number =
    text_content (point (p.x - 14) (p.y + 4)) (names_of step_attributes) step_look (decimal number) (look_of step_attributes refl) refl (plain_content (decimal number) (number_plain number))

step_content : (f : Frame) (rows : Rows) (e : EventId) (number : ℕ) → IsContent (step_drawn f rows e number)
step_content f rows e number = either_content (is_shown rows e) (numbered (at f rows e) number) [] (numbered_content (at f rows e) number) nothing

path_content : (f : Frame) (rows : Rows) (steps : List EventId) (goal : Cut) → IsContent (path_drawn f rows steps goal)
path_content f rows steps goal =
    one_more (steps_drawn f rows steps) (cut_drawn f rows goal goal_shift goal_look)
    (each_content (λ k. step_drawn f rows (get_or steps k no_place) (k + 1)) (length steps) (λ k. step_content f rows (get_or steps k no_place) (k + 1)))
    (cut_content f rows goal goal_shift (names_of goal_attributes) goal_look (look_of goal_attributes refl) refl)

ring_content : (f : Frame) (rows : Rows) (e : EventId) → IsContent (ring f rows e)
ring_content f rows e =
    let attributes = attr (codes "fill") (codes "none") ∷ goal_attributes in
    circle_content (at f rows e) 16 (names_of attributes) (codes " fill='none' stroke='#b35900' stroke-width='2.5'") (look_of attributes refl) refl

witness_content : (f : Frame) (rows : Rows) (w : Witness) → IsContent (witness_drawn f rows w)
witness_content f rows witness.Nothing = nothing
witness_content f rows (witness.Reach path) = path_content f rows path.steps path.goal
witness_content f rows (witness.Against path) = path_content f rows path.steps path.goal
witness_content f rows (witness.Always path) = path_content f rows path.steps path.goal
witness_content f rows witness.StuckStart = nothing
witness_content f rows witness.StuckFinish = nothing
witness_content f rows (witness.StuckPair first other) = one_more (ring f rows first) (ring f rows other) (ring_content f rows first) (ring_content f rows other)

-- ---- what is told below the lanes

abbrev note_attributes : List Attribute
note_attributes = attr (codes "font-size") (codes "12") ∷ []

told_content : (p : Point) (right : ℕ) (meaning : List ℕ) → IsPlain meaning → IsContent (told p right meaning)
told_content p right meaning h =
    text_content (point (p.x + right) (p.y + 4)) (names_of note_attributes) (codes " font-size='12'") meaning (look_of note_attributes refl) refl (plain_content meaning h)

sample_content : (p : Point) (names : List (List ℕ)) (look meaning : List ℕ) → Look names look → are_distinct (codes "x1" ∷ codes "y1" ∷ codes "x2" ∷ codes "y2" ∷ names) ≡ true → IsPlain meaning → IsContent (sample p look meaning)
sample_content p names look meaning l distinct h =
    one_more (line p (point (p.x + 50) p.y) look) (told p 60 meaning) (line_content p (point (p.x + 50) p.y) names look l distinct) (told_content p 60 meaning h)

disc_sample_content : (p : Point) (beyond : Bool) (meaning : List ℕ) → IsPlain meaning → IsContent (sample_disc p (mark_look beyond) meaning)
disc_sample_content p beyond meaning h =
    one_more (circle (point (p.x + 25) p.y) 7 (mark_look beyond)) (told p 60 meaning) (circle_content (point (p.x + 25) p.y) 7 ringed_names (mark_look beyond) (mark_look_is beyond) refl) (told_content p 60 meaning h)

abbrev message_attributes : List Attribute
message_attributes = attr (codes "stroke") (codes "#555555") ∷ attr (codes "stroke-width") (codes "1.5") ∷ []

pub legend_content : (f : Frame) → IsContent (legend f)
legend_content f =
    let event = sample_disc (row_at f 20 0) (mark_look false) (codes "event") in
    let message = sample (row_at f 20 1) message_look (codes "message") in
    let lost = sample (row_at f 20 2) lost_look (codes "message that is not received") in
    one_more (event ++ message) lost
    (one_more event message (disc_sample_content (row_at f 20 0) false (codes "event") refl)
    (sample_content (row_at f 20 1) (names_of message_attributes) message_look (codes "message") (look_of message_attributes refl) refl refl))
    (sample_content (row_at f 20 2) (names_of lost_attributes) lost_look (codes "message that is not received") (look_of lost_attributes refl) refl refl)

slice_legend_content : (f : Frame) → IsContent (slice_legend f)
slice_legend_content f =
    let least = sample (row_at f 300 0) least_look (codes "least cut of the slice") in
    let greatest = sample (row_at f 300 1) greatest_look (codes "greatest cut of the slice") in
    let beyond = sample_disc (row_at f 300 2) (mark_look true) (codes "event beyond the greatest cut") in
    one_more (least ++ greatest) beyond
    (one_more least greatest (sample_content (row_at f 300 0) (names_of least_attributes) least_look (codes "least cut of the slice") (look_of least_attributes refl) refl refl)
    (sample_content (row_at f 300 1) (names_of greatest_attributes) greatest_look (codes "greatest cut of the slice") (look_of greatest_attributes refl) refl refl))
    (disc_sample_content (row_at f 300 2) true (codes "event beyond the greatest cut") refl)

bounds_content : (f : Frame) (rows : Rows) (bounds : Option (Cut × Cut)) → IsContent (bounds_drawn f rows bounds)
bounds_content f rows None = told_content (row_at f 300 0) 0 (codes "slice empty") refl
bounds_content f rows (Some bounds) =
    let least = cut_drawn f rows bounds.0 least_shift least_look in
    let greatest = cut_drawn f rows bounds.1 greatest_shift greatest_look in
    one_more (least ++ greatest) (slice_legend f)
    (one_more least greatest (cut_content f rows bounds.0 least_shift (names_of least_attributes) least_look (look_of least_attributes refl) refl)
    (cut_content f rows bounds.1 greatest_shift (names_of greatest_attributes) greatest_look (look_of greatest_attributes refl) refl))
    (slice_legend_content f)

pub slice_content : (f : Frame) (rows : Rows) (o : Option SliceText) → IsContent (slice_drawn f rows o)
slice_content f rows None = nothing
slice_content f rows (Some slice) = bounds_content f rows slice.bounds

edges_note_content : (f : Frame) (left_out : ℕ) → IsContent (edges_note f left_out)
edges_note_content f left_out =
    let meaning = codes "edges that are not drawn: " ++ decimal left_out in
    either_content (left_out == 0) [] (told (row_at f 300 4) 0 meaning) nothing (told_content (row_at f 300 4) 0 meaning (both is_plain (codes "edges that are not drawn: ") (decimal left_out) refl (number_plain left_out)))

abbrev dashed_attributes : List Attribute
dashed_attributes = attr (codes "stroke") (codes "#7a3db8") ∷ attr (codes "stroke-dasharray") (codes "5 4") ∷ []

pub edges_legend_content : (f : Frame) (edges : ℕ) → IsContent (edges_legend f edges)
edges_legend_content f edges =
    let dashed = sample (row_at f 20 4) edge_sample_look (codes "edge of the slice") in
    let left_out = edges_note f (edges - most_edges) in
    either_content (edges == 0) [] (edges_told f edges) nothing
    (one_more dashed left_out (sample_content (row_at f 20 4) (names_of dashed_attributes) edge_sample_look (codes "edge of the slice") (look_of dashed_attributes refl) refl refl) (edges_note_content f (edges - most_edges)))

pub ties_legend_content : (f : Frame) (ties : ℕ) → IsContent (ties_legend f ties)
ties_legend_content f ties =
    let meaning = codes "happened before, and no arrow shows it" in
    either_content (ties == 0) [] (sample (row_at f 20 5) tie_look meaning) nothing (sample_content (row_at f 20 5) (names_of tie_attributes) tie_look meaning (look_of tie_attributes refl) refl refl)

abbrev grey_attributes : List Attribute
grey_attributes = attr (codes "font-size") (codes "12") ∷ attr (codes "fill") (codes "#555555") ∷ []

note_plain : (shown events without : ℕ) → IsPlain (note_text shown events without)
note_plain shown events without =
    let first = codes "shown: " ++ decimal shown in
    let second = first ++ codes " of " ++ decimal events in
    let told = codes " events; .. N .. are N others; processes without a shown event: " in
    both is_plain (second ++ told) (decimal without)
    (both is_plain second told (both is_plain (first ++ codes " of ") (decimal events) (both is_plain first (codes " of ") (both is_plain (codes "shown: ") (decimal shown) refl (number_plain shown)) refl) (number_plain events)) refl)
    (number_plain without)

pub note_content : (shown events without : ℕ) → IsContent (note_drawn shown events without)
note_content shown events without =
    let told = note_text shown events without in
    either_content (are_all shown events without) [] (text (point 20 84) (codes " font-size='12' fill='#555555'") told) nothing
    (text_content (point 20 84) (names_of grey_attributes) (codes " font-size='12' fill='#555555'") told (look_of grey_attributes refl) refl (plain_content told (note_plain shown events without)))

meaning_plain : (w : Witness) → IsPlain (meaning_of w)
meaning_plain witness.Nothing = refl
meaning_plain (witness.Reach path) = refl
meaning_plain (witness.Against path) = refl
meaning_plain (witness.Always path) = refl
meaning_plain witness.StuckStart = refl
meaning_plain witness.StuckFinish = refl
meaning_plain (witness.StuckPair first other) = refl

witness_plain : (w : WitnessText) → IsPlain (witness_meaning w)
witness_plain w =
    let disjunct = codes "witness " ++ decimal w.disjunct in
    let part = disjunct ++ codes "." ++ decimal w.part in
    both is_plain (part ++ codes ", ") (meaning_of w.witness)
    (both is_plain part (codes ", ") (both is_plain (disjunct ++ codes ".") (decimal w.part) (both is_plain disjunct (codes ".") (both is_plain (codes "witness ") (decimal w.disjunct) refl (number_plain w.disjunct)) refl) (number_plain w.part)) refl)
    (meaning_plain w.witness)

pub one_content : (f : Frame) (rows : Rows) (o : Option WitnessText) → IsContent (one_drawn f rows o)
one_content f rows None = nothing
one_content f rows (Some w) =
    let p = row_at f 20 3 in
    one_more (witness_drawn f rows w.witness) (sample p goal_look (witness_meaning w)) (witness_content f rows w.witness)
    (sample_content p (names_of goal_attributes) goal_look (witness_meaning w) (look_of goal_attributes refl) refl (witness_plain w))
