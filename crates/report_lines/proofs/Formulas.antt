-- The test of canonical texts.
use Rattle.std.proofs.Common.{◌≡◌, ℕ, ◌<◌, ◌≤◌, Bool, true, false, List, length, Option, Some, None, refl, sym, ap, subst, ◌∙◌, arith, inl, inr}
use Rattle.std.specs.Prelude.{is_none, codes}
use Rattle.std.specs.Str.{bytes_eq}
use Rattle.std.proofs.lemmas.Bool.{cases_Bool, and_parts, true≢false}
use Rattle.std.proofs.lemmas.Slice.Eq.{bytes_eq-Decides}
use Rattle.pota_base.specs.Limits.{longest_canonical, longest_lexed}
use Rattle.rctl_grammar.specs.declared.tree.Tree.{Tree}
use Rattle.rctl_grammar.specs.declared.fault.FormulaFault.{FormulaFault}
use Rattle.rctl_grammar.specs.FirstFault.{first_fault}
use Rattle.rctl_grammar.specs.Grammar.{tree_disjunction}
use Rattle.rctl_grammar.specs.Machine.{read}
use Rattle.rctl_grammar.specs.Shape.{shape_of, shape_disjunction}
use Rattle.rctl_grammar.proofs.Shapes.{tree-disjunction}
use Rattle.rctl_lexer.specs.Lexing.{lex, lex_from}
use Rattle.rctl_lexer.specs.Front.{front, word_front, number_front, sign_of, with_equals, sign_front}
use Rattle.rctl_lexer.specs.Words.{word_of}
use Rattle.rctl_laws.proofs.Free.{no_fault}
use Rattle.rctl_laws.proofs.Reading.{one_reading}
use Rattle.rctl_laws.proofs.Within.{within_is_read}
use Rattle.rctl_round_trip.specs.PassedOn.{IsReadAs, long_fault}
use Rattle.rctl_print.specs.Canonical.{canonical}
use Rattle.rctl_round_trip.proofs.RoundTrips.{printed_shortly}
use Rattle.report_lines.specs.Formula.{IsCanonical, is_canonical, prints_as}

pub fault_is_not : (text : List ℕ) (f : FormulaFault) → long_fault text ≡ Some f → is_canonical text ≡ false
unfolding is_canonical
fault_is_not text f h = rw h refl

-- a text that is read is canonical exactly where it is printed again
pub read_is : (text : List ℕ) (t : Tree) → IsReadAs text t → is_canonical text ≡ bytes_eq (canonical (shape_of t)) text
unfolding is_canonical
read_is text t r =
    let free : long_fault text ≡ None = ap (first_fault (lex text).tokens) r.ends ∙ within_is_read (lex text).tokens r.d r.len r.text r.limits in
    let one : read (lex text).tokens ≡ Some r.d = one_reading (lex text).tokens r.d r.text in
    let shape : shape_of t ≡ shape_disjunction r.d = ap shape_of (sym r.tree) ∙ tree-disjunction r.d in
    rw (free, one, shape) refl

pub canonical_is : (text : List ℕ) → is_canonical text ≡ true → IsCanonical text
unfolding is_canonical
canonical_is text h =
    let p = and_parts (is_none (long_fault text)) (prints_as (read (lex text).tokens) text) h in
    let f = no_fault (lex text).tokens (lex text).end (none (long_fault text) p.0) in
    let one : read (lex text).tokens ≡ Some f.d = one_reading (lex text).tokens f.d f.text in
    let printed : bytes_eq (canonical (shape_disjunction f.d)) text ≡ true = rw one at p.1 in
    record {
      tree = tree_disjunction f.d;
      read = record { d = f.d; text = f.text; limits = f.limits; len = f.len; ends = f.ends; tree = refl };
      printed = ap canonical (tree-disjunction f.d) ∙ (bytes_eq-Decides (canonical (shape_disjunction f.d)) text).0 printed;
    }
  where
    none : (o : Option FormulaFault) → is_none o ≡ true → o ≡ None
    none None h = refl
    none (Some f) h = absurd (true≢false (sym h))

pub canonical_again : (text : List ℕ) → IsCanonical text → is_canonical text ≡ true
canonical_again text c = read_is text c.tree c.read ∙ (bytes_eq-Decides (canonical (shape_of c.tree)) text).1 c.printed

-- a canonical text is short
pub canonical_short : (text : List ℕ) → IsCanonical text → length text < longest_lexed
canonical_short text c = subst (λ (t : List ℕ). length t < longest_lexed) c.printed (printed_shortly text c.tree c.read)

pub long_is_not : (text : List ℕ) → longest_canonical < length text → is_canonical text ≡ false
long_is_not text long = elim (cases_Bool (is_canonical text)) [
  | inl h ↦ absurd (omega (arith, canonical_short text (canonical_is text h)))
  | inr h ↦ h
]

-- there is a canonical text
pub some_canonical : IsCanonical (codes "true")
unfolding is_canonical lex_from front word_front word_of number_front sign_front sign_of with_equals
some_canonical = canonical_is (codes "true") refl
