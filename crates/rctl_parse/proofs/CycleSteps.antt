-- The functions of the parser that call each other: their answers from the answers of those that they call.
use Rattle.std.specs.Prelude.{ℕ, Bool, List, ◌∷◌, None, Some, Result, Ok, Err, MatchResult}
use Rattle.std.proofs.Common.{◌≡◌, refl, sym, ◌∙◌, ap, subst, inl, inr, arith}
use Rattle.pota_base.specs.declared.fault.Refused.{Refused}
use Rattle.run_model.specs.Run.{Name}
use Rattle.run_model.specs.Formula as model
use Rattle.rctl_grammar.specs.declared.token.Kind.TheVariants as kind
use Rattle.rctl_grammar.specs.declared.token.Word.{Word}
use Rattle.rctl_grammar.specs.declared.token.Token.{Token}
use Rattle.rctl_grammar.specs.declared.fault.FormulaFault.{FormulaFault}
use Rattle.rctl_grammar.specs.declared.tree.Operator.{Operator}
use Rattle.rctl_grammar.specs.declared.tree.Operator.TheVariants as operator
use Rattle.rctl_grammar.specs.declared.tree.Tree.{Tree}
use Rattle.rctl_grammar.specs.declared.tree.Tree.TheVariants as tree
use Rattle.rctl_grammar.specs.Grammar.{tok, spelled, operator_of, word_of, path_word}
use Rattle.rctl_grammar.specs.FirstFault.{level_opens, node_stands, either}
use Rattle.rctl_parse.specs.declared.around.Around.{Around}
use Rattle.rctl_parse.specs.declared.parser.Part.{Part}
use Rattle.rctl_parse.specs.declared.parser.Prefix.{Prefix}
use Rattle.rctl_parse.specs.declared.parser.Prefix.TheVariants as prefix
use Rattle.rctl_parse.specs.declared.symbol.Symbol.{Symbol}
use Rattle.rctl_parse.specs.declared.symbol.Symbol.TheVariants as symbol
use Rattle.rctl_parse.specs.inside.Limits.{Opened, Entered}
use Rattle.rctl_parse.specs.inside.Prefixes.{IsPrefix, prefix_tree}
use Rattle.rctl_parse.specs.Reading.{Faults}
use Rattle.rctl_parse.specs.inside.Reading.{found, symbol_in, here}
use Rattle.rctl_parse.specs.inside.Parts.{NoUnary, IsWordOf, UnaryFault, UnaryRead, PathRead, FormulaFails, FormulaRead, EnclosedRead, Unclosed, EnclosedFault, place_by}
use Rattle.rctl_parse.proofs.LeafSteps.{for_fault, found_shorter}
use Rattle.rctl_parse.proofs.PartSteps.{negation_read, negation_bound, negation_fault, temporal_read, temporal_bound, temporal_fault, group_read, group_fault, group_unclosed, LeftRead, left_read, left_fault, left_unclosed, until_read, right_fault, right_unclosed, inside_end}

-- ---- unaries

abbrev pub Unaries : Result Part (Refused FormulaFault) → List Token → Around → Type 0
Unaries answer ts around = MatchResult answer (λ part. UnaryRead ts part.rest.now around part.nodes part.tree) (λ stop. Faults stop (λ f. UnaryFault ts around f))

pub at_tokens : (answer : Result Part (Refused FormulaFault)) (around : Around) (ts us : List Token) → ts ≡ us → Unaries answer us around → Unaries answer ts around
at_tokens answer around ts us is h = subst (λ (x : List Token). Unaries answer x around) (sym is) h

pub at_word : (answer : Result Part (Refused FormulaFault)) (around : Around) (ts rest : List Token) (w v : Word) (name : Name) (at : ℕ) → ts ≡ spelled w name at ∷ rest → w ≡ v
    → Unaries answer (spelled v name at ∷ rest) around → Unaries answer ts around
at_word answer around ts rest w v name at is same h = at_tokens answer around ts (spelled v name at ∷ rest) (is ∙ ap (λ x. spelled x name at ∷ rest) same) h

pub nothing_opens : (around : Around) (ts : List Token) → NoUnary ts → UnaryFault ts around (here ts around.end)
nothing_opens around ts none o d m = none o around.end

-- ---- prefixes

-- a word's operator is one of the formulas'
pub word_of_operator : (operator : Operator) (w : Word) → IsWordOf operator w → (op : model.Operator) × (operator ≡ operator_of op) × (w ≡ word_of op)
word_of_operator operator.Ef w is = (model.Ef, refl, is)
word_of_operator operator.Ag w is = (model.Ag, refl, is)
word_of_operator operator.Eg w is = (model.Eg, refl, is)
word_of_operator (operator.Ex process) w is = absurd is
word_of_operator operator.Af w is = (model.Af, refl, is)
word_of_operator operator.Ax w is = (model.Ax, refl, is)

pub prefixed_read : (around inside : Around) (p : Prefix) (first : Token) (at : ℕ) (ts rest : List Token) (nodes : ℕ) (t : Tree) → IsPrefix p first at ts → Entered around inside
    → UnaryRead ts rest inside nodes t → UnaryRead (first ∷ ts) rest around nodes (prefix_tree p t at)
prefixed_read around inside prefix.Negation first at ts rest nodes t is enters read =
    subst (λ (x : Token). UnaryRead (x ∷ ts) rest around nodes (tree.Not t at)) (sym is) (negation_read around inside at ts rest nodes t enters read)
prefixed_read around inside (prefix.Operator operator) first at ts rest nodes t (op, same, name, is, other) enters read =
    subst (λ (x : Operator). UnaryRead (first ∷ ts) rest around nodes (tree.Temporal x t at)) (sym same)
    (subst (λ (x : Token). UnaryRead (x ∷ ts) rest around nodes (tree.Temporal (operator_of op) t at)) (sym is) (temporal_read around inside op name at ts rest nodes t other enters read))

pub prefixed_whole : (around inside : Around) (p : Prefix) (first : Token) (at : ℕ) (ts rest : List Token) (nodes : ℕ) (t whole : Tree) → IsPrefix p first at ts → Entered around inside
    → UnaryRead ts rest inside nodes t → whole ≡ prefix_tree p t at → UnaryRead (first ∷ ts) rest around nodes whole
prefixed_whole around inside p first at ts rest nodes t whole is enters read same =
    subst (λ (x : Tree). UnaryRead (first ∷ ts) rest around nodes x) (sym same) (prefixed_read around inside p first at ts rest nodes t is enters read)

pub prefixed_bound : (around : Around) (p : Prefix) (first : Token) (at : ℕ) (ts : List Token) (f : FormulaFault) → IsPrefix p first at ts
    → either (level_opens around.level at) (node_stands around.nodes at) ≡ Some f → UnaryFault (first ∷ ts) around f
prefixed_bound around prefix.Negation first at ts f is bound = subst (λ (x : Token). UnaryFault (x ∷ ts) around f) (sym is) (negation_bound around at ts f bound)
prefixed_bound around (prefix.Operator operator) first at ts f (op, same, name, is, other) bound = subst (λ (x : Token). UnaryFault (x ∷ ts) around f) (sym is) (temporal_bound around op name at ts f other bound)

pub prefixed_fault : (around inside : Around) (p : Prefix) (first : Token) (at : ℕ) (ts : List Token) (f : FormulaFault) → IsPrefix p first at ts → Entered around inside
    → UnaryFault ts inside f → UnaryFault (first ∷ ts) around f
prefixed_fault around inside prefix.Negation first at ts f is enters bad = subst (λ (x : Token). UnaryFault (x ∷ ts) around f) (sym is) (negation_fault around inside at ts f enters bad)
prefixed_fault around inside (prefix.Operator operator) first at ts f (op, same, name, is, other) enters bad =
    subst (λ (x : Token). UnaryFault (x ∷ ts) around f) (sym is) (temporal_fault around inside op name at ts f other enters bad)

-- ---- formulas that a symbol ends

pub enclosed_read : (s : Symbol) (inside : Around) (ts behind rest : List Token) (nodes at : ℕ) (t : Tree) → FormulaRead ts behind inside nodes t → found (symbol_in s) behind ≡ Some (at, rest)
    → EnclosedRead s ts rest inside nodes t
enclosed_read s inside ts behind rest nodes at t read closing =
    record { behind = behind; at = at; read = read; closing = closing; shorter = omega (arith, read.shorter, found_shorter (symbol_in s) behind rest at closing) }

pub unclosed_read : (s : Symbol) (inside : Around) (ts behind : List Token) (nodes : ℕ) (t : Tree) (f : FormulaFault) → FormulaRead ts behind inside nodes t
    → (found (symbol_in s) behind ≡ None) × (f ≡ here behind inside.end) → EnclosedFault s ts inside f
unclosed_read s inside ts behind nodes t f read (missing, is) =
    let u : Unclosed s ts inside f = record { behind = behind; nodes = nodes; t = t; read = read; missing = missing; is = is } in inr u

-- ---- groups

group_stops : (around inside : Around) (at : ℕ) (ts : List Token) (f : FormulaFault) → Opened around inside → EnclosedFault symbol.CloseRound ts inside f → UnaryFault (tok kind.OpenRound at ∷ ts) around f
group_stops around inside at ts f opens (inl bad) = group_fault around inside at ts f opens bad
group_stops around inside at ts f opens (inr u) =
    group_unclosed around inside at ts u.behind u.nodes u.t f opens u.read (u.missing, u.is ∙ ap (λ (a : Around). here u.behind a.end) opens.1)

pub group_answer : (answer : Result Part (Refused FormulaFault)) (around inside : Around) (at : ℕ) (ts : List Token) → Opened around inside
    → MatchResult answer (λ part. EnclosedRead symbol.CloseRound ts part.rest.now inside part.nodes part.tree) (λ stop. Faults stop (λ f. EnclosedFault symbol.CloseRound ts inside f))
    → Unaries answer (tok kind.OpenRound at ∷ ts) around
group_answer (Ok part) around inside at ts opens e = group_read around inside at ts e.behind part.rest.now part.nodes e.at part.tree opens e.read e.closing
group_answer (Err stop) around inside at ts opens bad = for_fault stop (λ f h. group_stops around inside at ts f opens h) bad

-- ---- untils

pub left_side : (around inside : Around) (all : Bool) (name : Name) (at : ℕ) (ts middle rest : List Token) (nodes : ℕ) (t : Tree) → PathRead all (place_by name at) ts middle around inside
    → EnclosedRead symbol.Until middle rest inside nodes t → LeftRead all name at ts rest around inside nodes t
left_side around inside all name at ts middle rest nodes t p e = left_read around inside all name at ts middle e.behind rest nodes e.at t p e.read e.closing

pub left_stops : (around inside : Around) (all : Bool) (name : Name) (at : ℕ) (ts middle : List Token) (f : FormulaFault) → PathRead all (place_by name at) ts middle around inside
    → EnclosedFault symbol.Until middle inside f → UnaryFault (spelled (path_word all) name at ∷ ts) around f
left_stops around inside all name at ts middle f p (inl bad) = left_fault around inside all name at ts middle f p bad
left_stops around inside all name at ts middle f p (inr u) =
    left_unclosed around inside all name at ts middle u.behind u.nodes u.t f p u.read (u.missing, u.is ∙ ap (here u.behind) (inside_end around inside p.enters))

pub until_whole : (around : Around) (all : Bool) (name : Name) (at : ℕ) (ts rest : List Token) (nodes : ℕ) (left right boxed_left boxed_right : Tree) → boxed_left ≡ left → boxed_right ≡ right
    → UnaryRead (spelled (path_word all) name at ∷ ts) rest around nodes (tree.Until all left right at)
    → UnaryRead (spelled (path_word all) name at ∷ ts) rest around nodes (tree.Until all boxed_left boxed_right at)
until_whole around all name at ts rest nodes left right boxed_left boxed_right a b h = rw (a, b) h

pub both_sides : (around inside further : Around) (all : Bool) (name : Name) (at : ℕ) (ts more rest : List Token) (left_nodes nodes : ℕ) (left right : Tree)
    → LeftRead all name at ts more around inside left_nodes left → further ≡ record inside { nodes = left_nodes } → EnclosedRead symbol.CloseSquare more rest further nodes right
    → UnaryRead (spelled (path_word all) name at ∷ ts) rest around nodes (tree.Until all left right at)
both_sides around inside further all name at ts more rest left_nodes nodes left right l is e =
    until_read around inside all name at ts more e.behind rest left_nodes nodes e.at left right l (subst (λ (a : Around). FormulaRead more e.behind a nodes right) is e.read) e.closing

pub right_stops : (around inside further : Around) (all : Bool) (name : Name) (at : ℕ) (ts more : List Token) (left_nodes : ℕ) (left : Tree) (f : FormulaFault)
    → LeftRead all name at ts more around inside left_nodes left → further ≡ record inside { nodes = left_nodes } → EnclosedFault symbol.CloseSquare more further f
    → UnaryFault (spelled (path_word all) name at ∷ ts) around f
right_stops around inside further all name at ts more left_nodes left f l is (inl bad) =
    right_fault around inside all name at ts more left_nodes left f l (subst (λ (a : Around). FormulaFails more a f) is bad)
right_stops around inside further all name at ts more left_nodes left f l is (inr u) =
    right_unclosed around inside all name at ts more u.behind left_nodes u.nodes left u.t f l (subst (λ (a : Around). FormulaRead more u.behind a u.nodes u.t) is u.read)
    (u.missing, u.is ∙ ap (λ (a : Around). here u.behind a.end) is ∙ ap (here u.behind) (inside_end around inside l.enters))
