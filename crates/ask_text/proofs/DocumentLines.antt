-- Which lines of a document begin with no space.
use Rattle.std.proofs.Common.{◌≡◌, ℕ, ◌+◌, ◌<◌, ◌≤◌, ◌^◌, Bool, true, false, List, [], ◌∷◌, ◌++◌, length, refl, sym, ap, ◌∙◌, arith, inl, inr, append_assoc}
use Rattle.std.specs.Prelude.{Option, None, Some, codes, ◌==◌, if◌then◌else◌}
use Rattle.std.specs.List.{AllByRecursion}
use Rattle.std.specs.Fmt.{decimal}
use Rattle.question_meaning.specs.declared.form.Form.{Form}
use Rattle.pota_base.specs.Limits.{most_questions}
use Rattle.event_log.specs.States.{StatesView}
use Rattle.rctl_grammar.specs.declared.token.Token.{Token}
use Rattle.rctl_class.specs.NamedParts.{NamedPiece}
use Rattle.part_text.specs.Texts.{part_text}
use Rattle.witness_kinds.specs.declared.Path.{Path}
use Rattle.witness_kinds.specs.declared.Witness.{Witness}
use Rattle.report_lines.specs.declared.kinds.WitnessText.{WitnessText}
use Rattle.question_outcome.specs.declared.outcome.PartPlace.{PartPlace}
use Rattle.view_parts.specs.declared.extent.Extent.{Extent}
use Rattle.view_parts.specs.declared.extent.Extent.TheVariants.{Last}
use Rattle.view_text.specs.Folding.{folded}
use Rattle.question_lines.specs.Lines.{IsOneLine}
use Rattle.ask_text.specs.Indented.{indented}
use Rattle.ask_text.specs.Lines.{outer_lines_from, outer_lines}
use Rattle.ask_text.specs.Text.{QuestionView, formula_tokens, result_word, result_line, path_of, found_rows, last_head, last_rows, block, block_end, block_front, block_or, evidence, part_at, nowhere_line, nowhere_lines, below, head_lines}
use Rattle.ask_text.specs.OverText.{OverView, asked_line, kinds_text, over_below, over_block, over_front, over_line, over_nowhere}
use Rattle.ask_text.specs.Documents.{EntryView, one, over, document, all_rows, entry_line, result_lines, entry_rows, text_of}
use Rattle.ask_text.proofs.OuterLines.{both, free, number-free, line_kept, IsWhole, whole_both, indented_left_out}

-- ---- what stands below a question is of whole lines

block_whole : (front : List ℕ) (s : StatesView) (tokens : List Token) (e : Extent) (form : Form) (w : Witness) (path : Path) → IsWhole (block front s tokens e form w path)
block_whole front s tokens e form w path =
    let text = front ++ folded 0 (found_rows s form w path ++ codes "\nlast: |\n" ++ indented (last_head ++ last_rows s tokens e path)) in
    inr (text ++ codes "...", sym (append_assoc text (codes "...") (10 ∷ [])))

block_or_whole : (front : List ℕ) (s : StatesView) (tokens : List Token) (e : Extent) (form : Form) (w : Witness) (otherwise : List ℕ) (p : Option Path) → IsWhole otherwise → IsWhole (block_or front s tokens e form w otherwise p)
block_or_whole front s tokens e form w otherwise None h = h
block_or_whole front s tokens e form w otherwise (Some path) h = block_whole front s tokens e form w path

evidence_whole : (front none : List ℕ) (s : StatesView) (tokens : List Token) (e : Extent) (form : Form) (ws : List WitnessText) → IsWhole none → IsWhole (evidence front none s tokens e form ws)
unfolding evidence
evidence_whole front none s tokens e form [] h = h
evidence_whole front none s tokens e form (w ∷ ws) h =
    block_or_whole front s tokens e form w.witness (evidence front none s tokens e form ws) (path_of w.witness) (evidence_whole front none s tokens e form ws h)

nowhere_line_whole : (part : Option NamedPiece) → IsWhole (nowhere_line part)
nowhere_line_whole None = inl refl
nowhere_line_whole (Some part) =
    let text = codes "# " ++ part_text part in
    inr (text ++ codes " holds at no state of this log", sym (append_assoc text (codes " holds at no state of this log") (10 ∷ [])))

nowhere_lines_whole : (disjuncts : List (List NamedPiece)) (places : List PartPlace) → IsWhole (nowhere_lines disjuncts places)
nowhere_lines_whole disjuncts [] = inl refl
nowhere_lines_whole disjuncts (p ∷ ps) =
    whole_both (nowhere_line (part_at disjuncts p)) (nowhere_lines disjuncts ps) (nowhere_line_whole (part_at disjuncts p)) (nowhere_lines_whole disjuncts ps)

below_whole : (s : StatesView) (steps : ℕ) (q : QuestionView) → IsWhole (below s steps q)
below_whole s steps q =
    whole_both (evidence block_front [] s (formula_tokens q) (Last steps) q.form q.outcome.witnesses) (nowhere_lines q.disjuncts q.outcome.nowhere)
    (evidence_whole block_front [] s (formula_tokens q) (Last steps) q.form q.outcome.witnesses (inl refl)) (nowhere_lines_whole q.disjuncts q.outcome.nowhere)

-- ---- the lines that are kept

abbrev told : Bool → ℕ → List ℕ
told holds number = result_word holds ++ decimal number ++ codes " - "

told-free : (holds : Bool) (number : ℕ) → number < 2 ^ 64 → IsOneLine (told holds number)
told-free true number fits =
    both (result_word true ++ decimal number) (codes " - ") (both (result_word true) (decimal number) (free (result_word true) refl) (number-free number fits)) (free (codes " - ") refl)
told-free false number fits =
    both (result_word false ++ decimal number) (codes " - ") (both (result_word false) (decimal number) (free (result_word false) refl) (number-free number fits)) (free (codes " - ") refl)

result_kept : (holds : Bool) (number : ℕ) (text rest : List ℕ) → number < 2 ^ 64 → IsOneLine text → outer_lines ((told holds number ++ text ++ 10 ∷ []) ++ rest) ≡ (told holds number ++ text ++ 10 ∷ []) ++ outer_lines rest
result_kept true number text rest fits h =
    line_kept 111 (107 ∷ 32 ∷ [] ++ decimal number ++ codes " - " ++ text) rest refl (both (told true number) text (told-free true number fits) h)
result_kept false number text rest fits h =
    line_kept 110 (codes "ot ok " ++ decimal number ++ codes " - " ++ text) rest refl (both (told false number) text (told-free false number fits) h)

head_kept : (n : ℕ) (rest : List ℕ) → n < 2 ^ 64 → outer_lines (head_lines n ++ rest) ≡ head_lines n ++ outer_lines rest
head_kept n rest fits =
    let plan = codes "1.." ++ decimal n ++ 10 ∷ [] in
    line_kept 84 (codes "AP version 14") (plan ++ rest) refl (free (codes "TAP version 14") refl)
    ∙ ap (λ x. codes "TAP version 14\n" ++ x) (line_kept 49 (codes ".." ++ decimal n) rest refl (both (codes "1..") (decimal n) (free (codes "1..") refl) (number-free n fits)))

nothing_kept : outer_lines [] ≡ []
unfolding outer_lines_from
nothing_kept = refl

-- ---- questions over processes

alone_whole : (text : List ℕ) → IsWhole (text ++ block_end)
alone_whole text = inr (text ++ codes "...", sym (append_assoc text (codes "...") (10 ∷ [])))

asked_whole : (o : OverView) → IsWhole (asked_line o)
asked_whole o = inr (codes "# asked of " ++ decimal o.asked ++ kinds_text o.second o.asked, refl)

over_nowhere_whole : (o : OverView) → IsWhole (over_nowhere o)
over_nowhere_whole o = by (o.nowhere == o.asked)
  where
    by : (all : Bool) → IsWhole (if all then nowhere_lines o.shown.disjuncts o.shown.outcome.nowhere else [])
    by true = nowhere_lines_whole o.shown.disjuncts o.shown.outcome.nowhere
    by false = inl refl

over_below_whole : (s : StatesView) (steps : ℕ) (o : OverView) → IsWhole (over_below s steps o)
over_below_whole s steps o =
    whole_both (if o.fails == 0 then asked_line o else over_block s steps o) (over_nowhere o) (by (o.fails == 0)) (over_nowhere_whole o)
  where
    by : (none : Bool) → IsWhole (if none then asked_line o else over_block s steps o)
    by true = asked_whole o
    by false =
        evidence_whole (over_front o) (over_front o ++ block_end) s (formula_tokens o.shown) (Last steps) o.shown.form o.shown.outcome.witnesses (alone_whole (over_front o))

entry_kept : (s : StatesView) (steps number : ℕ) (e : EntryView) (rest : List ℕ) → number < 2 ^ 64 → IsOneLine (text_of e)
    → outer_lines (entry_rows s steps number e ++ rest) ≡ entry_line number e ++ outer_lines rest
entry_kept s steps number (one q) rest fits h =
    let line = result_line number q in
    let inside = indented (below s steps q) in
    ap outer_lines (append_assoc line inside rest) ∙ result_kept q.outcome.holds number q.text (inside ++ rest) fits h
    ∙ ap (λ x. line ++ x) (indented_left_out (below s steps q) rest (below_whole s steps q))
entry_kept s steps number (over o) rest fits h =
    let line = over_line number o in
    let inside = indented (over_below s steps o) in
    ap outer_lines (append_assoc line inside rest) ∙ result_kept (o.fails == 0) number o.text (inside ++ rest) fits h
    ∙ ap (λ x. line ++ x) (indented_left_out (over_below s steps o) rest (over_below_whole s steps o))

all_kept : (s : StatesView) (steps number : ℕ) (es : List EntryView) → number + length es < 2 ^ 64 → AllByRecursion (λ (e : EntryView). IsOneLine (text_of e)) es
    → outer_lines (all_rows s steps number es) ≡ result_lines number es
all_kept s steps number [] fits h = nothing_kept
all_kept s steps number (e ∷ es) fits h =
    let first : number < 2 ^ 64 = omega arith in
    let more : (number + 1) + length es < 2 ^ 64 = omega arith in
    entry_kept s steps number e (all_rows s steps (number + 1) es) first h.0 ∙ ap (λ x. entry_line number e ++ x) (all_kept s steps (number + 1) es more h.1)

pub lines_of_document : (s : StatesView) (steps : ℕ) (es : List EntryView) → length es ≤ most_questions → AllByRecursion (λ (e : EntryView). IsOneLine (text_of e)) es
    → outer_lines (document s steps es) ≡ head_lines (length es) ++ result_lines 1 es
lines_of_document s steps es few h =
    let fits : length es < 2 ^ 64 = omega arith in
    let all : 1 + length es < 2 ^ 64 = omega arith in
    head_kept (length es) (all_rows s steps 1 es) fits ∙ ap (λ x. head_lines (length es) ++ x) (all_kept s steps 1 es all h)
