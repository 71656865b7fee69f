-- What is printed is read, and is short.
use Rattle.std.proofs.Common.{◌≡◌, ℕ, ◌<◌, ◌≤◌, List, [], ◌∷◌, length, map, refl, sym, ap, subst, ◌∙◌, arith, append-nil}
use Rattle.rctl_grammar.specs.declared.token.Token.{Token}
use Rattle.rctl_grammar.specs.declared.tree.Tree.{Tree}
use Rattle.rctl_grammar.specs.Grammar.{text_disjunction, tree_disjunction}
use Rattle.rctl_grammar.specs.Shape.{Shape, shape_of, shape_disjunction}
use Rattle.rctl_grammar.proofs.Shapes.{tree-disjunction}
use Rattle.rctl_lexer.specs.Lexing.{lex}
use Rattle.std.proofs.lemmas.Option.{same_Some}
use Rattle.pota_base.specs.Limits.{longest_lexed, most_nodes}
use Rattle.rctl_parse.proofs.PassedOn.{one_reading}
use Rattle.rctl_parse.proofs.PassedOn.{within_is_read}
use Rattle.rctl_grammar.specs.FirstFault.{first_fault}
use Rattle.rctl_parse.specs.Parsing.{IsReadAs}
use Rattle.rctl_print.specs.Canonical.{canonical}
use Rattle.rctl_round_trip.specs.RoundTrip.{PrintedHasNoFault, PrintedIsItself, PrintedIsRead, PrintedIsShort}
use Rattle.rctl_round_trip.proofs.Pieces.{kind_of, ReadAs, nothing}
use Rattle.rctl_round_trip.proofs.Spelling.{text_then, kinds_of, text-is}
use Rattle.rctl_round_trip.proofs.Texts.{IsSpellable, text-adds}
use Rattle.rctl_round_trip.proofs.Measures.{nodes}
use Rattle.rctl_round_trip.proofs.Derived.{derived}
use Rattle.rctl_round_trip.proofs.Origin.{levels-disjunction, nodes-disjunction}
use Rattle.rctl_round_trip.proofs.Sound.{AreSound, lex-sound, disjunction-spelled}
use Rattle.rctl_round_trip.proofs.Short.{printed-short}

-- what was read can be spelled
spelled : (text : List ℕ) (t : Tree) (r : IsReadAs text t) → IsSpellable (shape_disjunction r.d)
spelled text t r = (disjunction-spelled r.d [] (subst AreSound (sym r.text) (lex-sound text))).0

shape-is : (text : List ℕ) (t : Tree) (r : IsReadAs text t) → shape_of t ≡ shape_disjunction r.d
shape-is text t r = ap shape_of (sym r.tree) ∙ tree-disjunction r.d

-- its canonical text has tokens of its kinds
printed-reads : (s : Shape) → IsSpellable s → ReadAs (lex (canonical s)) (kinds_of s [])
printed-reads s h =
    let text : text_then s [] ≡ canonical s = text-is s [] ∙ append-nil (canonical s) in
    subst (λ (x : List ℕ). ReadAs (lex x) (kinds_of s [])) text (text-adds s h [] [] refl nothing 0)

none-left : (ts : List Token) → map kind_of ts ≡ [] → ts ≡ []
none-left [] h = refl
none-left (t ∷ ts) h = absurd cc

pub printed_again : PrintedIsRead
printed_again text t r =
    let s = shape_disjunction r.d in
    let x = printed-reads s (spelled text t r) in
    let y = derived s (lex (canonical s)).tokens x.kinds in
    let alone = y.text ∙ ap (text_disjunction y.d) (none-left y.rest y.kinds) in
    let read : IsReadAs (canonical s) (tree_disjunction y.d) = record {
      d = y.d;
      text = sym alone;
      limits = record {
        levels = omega (arith, y.deep, levels-disjunction r.d, r.limits.levels);
        nodes = omega (arith, y.many, nodes-disjunction r.d, r.limits.nodes);
        numbers = y.in_range;
      };
      len = x.stop;
      ends = x.ends;
      tree = refl;
    } in
    let is = shape-is text t r in
    (tree_disjunction y.d, subst (λ (x : Shape). IsReadAs (canonical x) (tree_disjunction y.d)) (sym is) read, tree-disjunction y.d ∙ y.shape ∙ sym is)

pub printed_without_fault : PrintedHasNoFault
printed_without_fault text t r =
    let printed = canonical (shape_of t) in
    let again = (printed_again text t r).1 in
    ap (first_fault (lex printed).tokens) again.ends ∙ within_is_read (lex printed).tokens again.d again.len again.text again.limits

-- one text has one tree
same_tree : (text : List ℕ) (t u : Tree) → IsReadAs text t → IsReadAs text u → t ≡ u
same_tree text t u r q =
    let same = same_Some _ _ (sym (one_reading (lex text).tokens r.d r.text) ∙ one_reading (lex text).tokens q.d q.text) in
    sym r.tree ∙ ap tree_disjunction same ∙ q.tree

pub printed_itself : PrintedIsItself
printed_itself text t again r q =
    let p = printed_again text t r in
    ap shape_of (same_tree (canonical (shape_of t)) again p.0 q p.1) ∙ p.2

pub printed_shortly : PrintedIsShort
printed_shortly text t r =
    let few : nodes (shape_disjunction r.d) ≤ most_nodes = omega (arith, nodes-disjunction r.d, r.limits.nodes) in
    subst (λ (s : Shape). length (canonical s) < longest_lexed) (sym (shape-is text t r)) (printed-short (shape_disjunction r.d) (spelled text t r) few)
