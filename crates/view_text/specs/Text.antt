-- A view of a run as text: what a report says of the run, with the lines of its log.
use Rattle.std.specs.Prelude.{ℕ, ◌+◌, ◌-◌, min, ◌==◌, Bool, true, false, List, [], ◌∷◌, ◌++◌}
use Rattle.std.specs.Prelude.{length, take}
use Rattle.std.specs.Prelude.{get_or, replicate, codes, Option, None, Some}
use Rattle.std.specs.Prelude.{if◌then◌else◌}
use Rattle.std.specs.List.{flat_map}
use Rattle.std.specs.Fmt.{decimal, signed_decimal}
use Rattle.run_model.specs.Cut.{Cut, count}
use Rattle.run_model.specs.Run.{value_of, process_at}
use Rattle.pota_base.specs.declared.shape.EventId.{EventId}
use Rattle.pota_base.specs.Limits.{most_variables}
use Rattle.log_lines.specs.Spelling.{clock_text}
use Rattle.event_log.specs.LogText.{name_at}
use Rattle.event_log.specs.States.{StatesView, trace_of}
use Rattle.rctl_grammar.specs.declared.token.Token.{Token}
use Rattle.rctl_lexer.specs.Lexing.{lex}
use Rattle.witness_kinds.specs.declared.Path.{Path}
use Rattle.witness_kinds.specs.declared.Witness.{Witness}
use Rattle.witness_kinds.specs.declared.Witness.TheVariants as witness
use Rattle.slice_graph.specs.declared.edges.Edge.{Edge}
use Rattle.report_lines.specs.declared.kinds.WitnessText.{WitnessText}
use Rattle.report.specs.declared.report.SliceText.{SliceText}
use Rattle.report.specs.declared.report.Report.{Report}
use Rattle.view_parts.specs.Each.{each_below}
use Rattle.view_parts.specs.Parts.{place, variable_name, place_text, line_text, kind_text}
use Rattle.view_parts.specs.Parts.{assigns_text}
use Rattle.view_text.specs.Folding.{folded}
use Rattle.view_parts.specs.Naming.{begin_with_variable, begin_with_channel, names}
use Rattle.view_parts.specs.declared.extent.Extent.{Extent}
use Rattle.view_text.specs.Shown.{bounds_of, is_whole, is_shown}
use Rattle.view_text.specs.Latest.{last_setting, next_setting}
use Rattle.view_text.specs.Ties.{untied}
use Rattle.view_text.specs.Transit.{in_transit}
use Rattle.view_text.specs.Claims.{claims}
use Rattle.view_text.specs.Alternatives.{told_alternatives}

-- ---- columns

abbrev pub spaces : ℕ → List ℕ
spaces n = replicate n 32

-- the text, with spaces behind it up to this width, and two more
abbrev pub cell : ℕ → List ℕ → List ℕ
cell width text = text ++ spaces (width - length text) ++ spaces 2

-- the text, with spaces before it up to this width
abbrev pub to_the_right : ℕ → List ℕ → List ℕ
to_the_right width text = spaces (width - length text) ++ text

-- ---- events

-- what an event does; its assignments, if it has any, stand in a column of their own
abbrev pub with_assigns : List ℕ → List ℕ → List ℕ
with_assigns kind [] = kind
with_assigns kind (b ∷ assigns) = cell 14 kind ++ b ∷ assigns

-- `line N  NAME POSITION  KIND  NAME=INT..`
abbrev pub event_row : StatesView → EventId → List ℕ
event_row s e =
    cell 10 (line_text s e) ++ cell 14 (place_text s.header.procs e)
    ++ with_assigns (kind_text s e) (assigns_text s e) ++ 10 ∷ []

-- a step of a path by its number, from 1
abbrev pub step_row : StatesView → ℕ → EventId → List ℕ
step_row s number e = to_the_right 5 (decimal number) ++ spaces 2 ++ event_row s e

-- how many steps are not shown, where some are not
abbrev pub left_out_row : ℕ → List ℕ
left_out_row n =
    if n == 0 then []
    else spaces 7 ++ decimal n ++ (if n == 1 then codes " event" else codes " events") ++ 10 ∷ []

-- the steps that are shown with their numbers, the first of them has this one; in place of others
-- how many they are, and as many stand before the first
unfoldable pub folded_steps : StatesView → (EventId → Bool) → ℕ → ℕ → List EventId → List ℕ
folded_steps s shown number left_out [] = left_out_row left_out
folded_steps s shown number left_out (e ∷ es) =
    if shown e
    then left_out_row left_out ++ step_row s number e ++ folded_steps s shown (number + 1) 0 es
    else folded_steps s shown (number + 1) (left_out + 1) es

-- the steps of a path
abbrev pub step_rows : StatesView → List Token → Extent → Path → List ℕ
step_rows s tokens e path =
    folded_steps s
    (is_shown s tokens (is_whole e (length path.steps)) (bounds_of s tokens e path)) 1 0 path.steps

-- `NAME POSITION (line N)`
abbrev pub lined : StatesView → EventId → List ℕ
lined s e = place_text s.header.procs e ++ codes " (" ++ line_text s e ++ codes ")"

-- ---- values at a cut

-- the event that sets a value, or what is said where none does
abbrev pub set_by : StatesView → ℕ → List ℕ → Option ℕ → List ℕ
set_by s process otherwise None = otherwise
set_by s process otherwise (Some position) = lined s (place process position)

-- `PROCESS.VARIABLE = `
abbrev pub owned : StatesView → ℕ → ℕ → List ℕ
owned s process variable =
    name_at s.header.procs process ++ codes "." ++ variable_name s process variable ++ codes " = "

-- the value of a variable after so many events of its process
abbrev pub value_text : StatesView → ℕ → ℕ → ℕ → List ℕ
value_text s process variable events =
    signed_decimal (value_of (process_at (trace_of s) process) events variable)

-- an event that doesn't count the one that ends a value, where there is one
abbrev pub untied_text : StatesView → Option EventId → List ℕ
untied_text s None = []
untied_text s (Some e) = codes ", which " ++ place_text s.header.procs e ++ codes " doesn't count"

-- the same of the event at this position of a process, where there is one
abbrev pub tie_text : StatesView → List Token → Cut → ℕ → Option ℕ → List ℕ
tie_text s tokens cut process None = []
tie_text s tokens cut process (Some position) =
    untied_text s (untied s tokens cut (place process position))

-- the value of a variable at the cut, and the event that last set it
abbrev pub value_since : StatesView → Cut → ℕ → ℕ → List ℕ
value_since s cut process variable =
    codes "       there  " ++ owned s process variable
    ++ value_text s process variable (count cut process) ++ codes ", since "
    ++ set_by s process (codes "the start")
    (last_setting (get_or s.events process []) variable (count cut process))

-- the event at this position that ends a value, where there is one, and an event at the cut that
-- doesn't wait for it
abbrev pub ending : StatesView → List Token → Cut → ℕ → Option ℕ → List ℕ
ending s tokens cut process setting =
    codes ", until " ++ set_by s process (codes "the end") setting
    ++ tie_text s tokens cut process setting ++ 10 ∷ []

-- the value, the event that last set it, and the first one behind the cut that sets it
abbrev pub value_row : StatesView → List Token → Cut → ℕ → ℕ → List ℕ
value_row s tokens cut process variable =
    value_since s cut process variable
    ++ ending s tokens cut process
    (next_setting (get_or s.events process []) variable (count cut process))

-- nothing is told of a variable that the formula doesn't name
abbrev pub named_row : StatesView → List Token → Cut → ℕ → ℕ → List ℕ
named_row s tokens cut process variable =
    if names (begin_with_variable (name_at s.header.procs process)
    (variable_name s process variable)) tokens
    then value_row s tokens cut process variable else []

-- a process has at most 16 variables
abbrev pub process_rows : StatesView → List Token → Cut → ℕ → List ℕ
process_rows s tokens cut process =
    each_below (min (length (get_or s.header.vars process [])) most_variables)
    (named_row s tokens cut process)

-- the messages in transit at the cut
abbrev pub channel_row : StatesView → Cut → ℕ → ℕ → List ℕ
channel_row s cut sender receiver =
    codes "       there  intransit(" ++ name_at s.header.procs sender ++ codes ","
    ++ name_at s.header.procs receiver ++ codes ") = "
    ++ decimal (in_transit s cut sender receiver) ++ 10 ∷ []

-- nothing is told of a channel that the formula doesn't name
abbrev pub named_channel : StatesView → List Token → Cut → ℕ → ℕ → List ℕ
named_channel s tokens cut sender receiver =
    if names (begin_with_channel (name_at s.header.procs sender)
    (name_at s.header.procs receiver)) tokens
    then channel_row s cut sender receiver else []

abbrev pub channels_from : StatesView → List Token → Cut → ℕ → List ℕ
channels_from s tokens cut sender =
    each_below (length s.header.procs) (named_channel s tokens cut sender)

-- the messages in transit at a cut on all channels that the formula names
abbrev pub channel_rows : StatesView → List Token → Cut → List ℕ
channel_rows s tokens cut = each_below (length s.header.procs) (channels_from s tokens cut)

-- the values of all variables that the formula names after the events of a cut, and its channels
abbrev pub value_rows : StatesView → List Token → Cut → List ℕ
value_rows s tokens cut =
    each_below (length s.header.procs) (process_rows s tokens cut) ++ channel_rows s tokens cut

-- ---- witnesses

-- what holds at the goal of a path, and how many steps lead there
abbrev pub goal_row : List ℕ → Path → List ℕ
goal_row shown path =
    shown ++ clock_text path.goal ++ codes "; steps: " ++ decimal (length path.steps) ++ 10 ∷ []

-- what is shown of a path: what holds at its goal, its steps, and the values at its goal
abbrev pub path_rows : StatesView → List Token → Extent → List ℕ → Path → List ℕ
path_rows s tokens e shown path =
    goal_row shown path ++ step_rows s tokens e path ++ value_rows s tokens path.goal

abbrev pub pair_rows : StatesView → EventId → EventId → List ℕ
pair_rows s first other =
    codes "a cut where the operand holds has both of these or neither, and a step takes one"
    ++ 10 ∷ [] ++ spaces 7 ++ event_row s first ++ spaces 7 ++ event_row s other

abbrev pub witness_told : StatesView → List Token → Extent → Witness → List ℕ
witness_told s tokens e witness.Nothing = codes "there is nothing to show" ++ 10 ∷ []
witness_told s tokens e (witness.Reach path) =
    path_rows s tokens e (codes "the operand holds at ") path
witness_told s tokens e (witness.Against path) =
    path_rows s tokens e (codes "the operand does not hold at ") path
witness_told s tokens e (witness.Always path) =
    path_rows s tokens e (codes "the operand holds at each cut on the way to ") path
witness_told s tokens e witness.StuckStart =
    codes "the operand does not hold where nothing has happened yet" ++ 10 ∷ []
witness_told s tokens e witness.StuckFinish =
    codes "the operand does not hold at the end" ++ 10 ∷ []
witness_told s tokens e (witness.StuckPair first other) = pair_rows s first other

-- the text of an alternative behind ` of `, and nothing where none is told of
abbrev pub of_alternative : List ℕ → List ℕ
of_alternative [] = []
of_alternative (b ∷ text) = codes " of " ++ b ∷ text

-- an empty line, the numbers of a witness, and its alternative, where the formula has several
abbrev pub witness_head : List (List ℕ) → WitnessText → List ℕ
witness_head alternatives w =
    10 ∷ codes "witness " ++ decimal w.disjunct ++ codes "." ++ decimal w.part
    ++ of_alternative (get_or alternatives (w.disjunct - 1) []) ++ codes ": "

abbrev pub witness_rows : StatesView → List Token → Extent → List (List ℕ) → WitnessText → List ℕ
witness_rows s tokens e alternatives w =
    witness_head alternatives w ++ witness_told s tokens e w.witness

-- ---- the slice

-- a number, and what it counts
abbrev pub counted : ℕ → List ℕ → List ℕ
counted n what = decimal n ++ what

-- how many events of a process each cut of the slice has, how many some have, and how many none has
abbrev pub share_row : StatesView → Cut → Cut → ℕ → List ℕ
share_row s low high process =
    spaces 2 ++ name_at s.header.procs process ++ codes ": "
    ++ counted (count low process) (codes " below, ")
    ++ counted (count high process - count low process) (codes " between, ")
    ++ counted (length (get_or s.events process []) - count high process)
    (codes " beyond" ++ 10 ∷ [])

abbrev pub bounds_row : Cut → Cut → List ℕ
bounds_row low high =
    codes "slice: from " ++ clock_text low ++ codes " to " ++ clock_text high ++ 10 ∷ []

abbrev pub bounds_rows : StatesView → Option (Cut × Cut) → List ℕ
bounds_rows s None = codes "slice: no cut" ++ 10 ∷ []
bounds_rows s (Some bounds) =
    bounds_row bounds.0 bounds.1
    ++ each_below (length s.header.procs) (share_row s bounds.0 bounds.1)

abbrev pub edge_row : StatesView → Edge → List ℕ
edge_row s e =
    codes "  a cut with " ++ lined s e.effect ++ codes " has " ++ lined s e.cause ++ 10 ∷ []

-- how many edges are told of
abbrev pub most_edges : ℕ
most_edges = 40

abbrev pub more_edges : ℕ → List ℕ
more_edges n =
    if n == 0 then [] else codes "  and " ++ decimal n ++ codes " edges more" ++ 10 ∷ []

abbrev pub edge_rows : StatesView → List Edge → List ℕ
edge_rows s edges =
    flat_map (edge_row s) (take most_edges edges) ++ more_edges (length edges - most_edges)

-- an empty line, and what the slice says, where one was asked for
abbrev pub slice_rows : StatesView → Option SliceText → List ℕ
slice_rows s None = []
slice_rows s (Some slice) = 10 ∷ bounds_rows s slice.bounds ++ edge_rows s slice.edges

-- ---- the whole

abbrev pub verdict_word : Bool → List ℕ
verdict_word true = codes "true: "
verdict_word false = codes "false: it is not so that "

-- the formula, and what the verdict says of it
abbrev pub head_rows : Report → List Token → List ℕ
head_rows r tokens =
    r.formula ++ 10 ∷ [] ++ verdict_word r.verdict ++ claims tokens ++ codes "." ++ 10 ∷ []

abbrev pub formula_tokens : Report → List Token
formula_tokens r = (lex r.formula).tokens

-- before long lines are broken
abbrev pub plain_text : StatesView → Extent → Report → List ℕ
plain_text s e r =
    head_rows r (formula_tokens r)
    ++ flat_map (witness_rows s (formula_tokens r) e
    (told_alternatives r.formula (formula_tokens r))) r.witnesses
    ++ slice_rows s r.slice

-- the view of a run by a report of it
abbrev pub view_text : StatesView → Extent → Report → List ℕ
view_text s e r = folded 0 (plain_text s e r)
