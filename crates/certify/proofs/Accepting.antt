-- A canonical certificate is accepted byte for byte, and there is one.
use Rattle.std.proofs.Common.{◌≡◌, ℕ, ◌+◌, ◌≤◌, List, [], ◌∷◌, ◌++◌, Bool, length, map, refl, sym, ap, subst, ◌∙◌, length-append, arith}
use Rattle.std.specs.Prelude.{All, codes, ◌==◌, false}
use Rattle.std.proofs.lemmas.List.Elements.{All-head, All-tail, All-append, All-cons, All-nil}
use Rattle.rctl_grammar.specs.declared.tree.Tree.{Tree}
use Rattle.rctl_grammar.specs.Shape.{shape_of}
use Rattle.rctl_parse.specs.Parsing.{IsReadAs}
use Rattle.rctl_print.specs.Canonical.{canonical}
use Rattle.rctl_parts.specs.Pieces.{Piece}
use Rattle.part_pulls.specs.declared.observed.Observed.{Observed}
use Rattle.certificate_lines.specs.declared.line.Line.{Line}
use Rattle.certificate_lines.specs.Spelling.{LineFits, line_text, lines_text, title, end_line, formula_line}
use Rattle.certificate_text.specs.Taking.{fresh}
use Rattle.certificate_text.specs.Running.{certificate_lines}
use Rattle.certificate_text.specs.Bytes.{HasNoFeed, IsLine, AreLines, Judged}
use Rattle.certificate_text.proofs.Lines.{accepted_bytes, line_is}
use Rattle.certificate_next_line.specs.PassedOn.{Follows}
use Rattle.certificate_next_line.proofs.PassedOn.{whole_accepted, whole_fits}
use Rattle.certificate_next_line.proofs.PassedOn.{one_whole, one_verdict}
use Rattle.certify.specs.Certifying.{nodes_of, IsCertificateOf}

-- ---- lines that are short enough

title_is : IsLine title
title_is = record { one = (refl, (refl, (refl, (refl, (refl, (refl, (refl, (refl, (refl, (refl, (refl, tt))))))))))); short = omega arith }

end_is : IsLine end_line
end_is = record { one = (refl, (refl, (refl, tt))); short = omega arith }

lines_are : (lines : List Line) → All LineFits lines → AreLines (map line_text lines ++ end_line ∷ [])
lines_are [] fit = (end_is, tt)
lines_are (l ∷ ls) fit = (line_is l (All-head LineFits l ls fit), lines_are ls (All-tail LineFits l ls fit))

pub certificate_accepted : (seen : Observed) (ds : List (List Piece)) (formula text : List ℕ) (told : Bool) → IsLine formula → IsCertificateOf seen ds formula text told
    → Judged Follows text (fresh formula (nodes_of seen ds)) [] told
certificate_accepted seen ds formula text told line is =
    let v = nodes_of seen ds in
    let are : AreLines (certificate_lines formula is.lines) = (title_is, (line, lines_are is.lines (whole_fits v is.lines told is.nodes is.whole))) in
    subst (λ (t : List ℕ). Judged Follows t (fresh formula v) [] told) (sym is.text_is)
    (accepted_bytes Follows (fresh formula v) (certificate_lines formula is.lines) told are (whole_accepted formula v is.lines told is.nodes is.whole))

-- ---- one text

pub one_text : (seen : Observed) (ds : List (List Piece)) (formula text other : List ℕ) (told truth : Bool) → IsCertificateOf seen ds formula text told → IsCertificateOf seen ds formula other truth → text ≡ other
one_text seen ds formula text other told truth a b =
    a.text_is ∙ ap (λ (ls : List Line). lines_text (certificate_lines formula ls)) (one_whole (nodes_of seen ds) a.lines b.lines told truth a.nodes a.whole b.whole) ∙ sym b.text_is

pub one_told : (seen : Observed) (ds : List (List Piece)) (formula text other : List ℕ) (told truth : Bool) → IsCertificateOf seen ds formula text told → IsCertificateOf seen ds formula other truth → told ≡ truth
one_told seen ds formula text other told truth a b = one_verdict (nodes_of seen ds) a.lines b.lines told truth a.nodes a.whole b.whole
