-- Words ask about one formula, or have one fault.
use Rattle.std.proofs.Common.{◌≡◌, ℕ, true, false, Option, Some, None, List, [], ◌∷◌, length, sym, ap, subst, ◌∙◌, arith, inl, inr}
use Rattle.std.specs.Prelude.{nat_lt}
use Rattle.std.proofs.lemmas.Bool.Decides.{nat_tests}
use Rattle.pota_base.specs.Limits.{longest_formula}
use Rattle.rctl_grammar.specs.declared.fault.FormulaFault.{FormulaFault}
use Rattle.rctl_grammar.specs.declared.tree.Tree.{Tree}
use Rattle.rctl_grammar.specs.Grammar.{tree_disjunction}
use Rattle.rctl_grammar.specs.FirstFault.{first_fault as first_text_fault}
use Rattle.rctl_lexer.specs.Lexing.{lex}
use Rattle.rctl_laws.proofs.Reading.{one_reading}
use Rattle.rctl_laws.proofs.Within.{within_is_read}
use Rattle.rctl_parse.specs.Parsing.{fault_of_text, long_fault, IsReadAs}
use Rattle.rctl_class.specs.Faults.{first_fault}
use Rattle.rctl_class.specs.Nodes.{node_of}
use Rattle.stated_formula.specs.Stating.{IsShortText, IsFormulaFault}
use Rattle.verify_answers.specs.Asking.{AsksAbout, HasFormulaFault}

pub some_one : {A : Type 0} (o : Option A) (x y : A) → o ≡ Some x → o ≡ Some y → x ≡ y
some_one o x y h k = let e : Some x ≡ Some y = sym h ∙ k in cc

pub not_both : {A : Type 0} (o : Option A) (x : A) → o ≡ None → o ≡ Some x → ⊥
not_both o x h k = let e : None ≡ Some x = sym h ∙ k in cc

-- ---- one text

one_tree : (text : List ℕ) (t u : Tree) → IsReadAs text t → IsReadAs text u → t ≡ u
one_tree text t u h k =
    let same = some_one _ h.d k.d (one_reading (lex text).tokens h.d h.text) (one_reading (lex text).tokens k.d k.text) in
    sym h.tree ∙ ap tree_disjunction same ∙ k.tree

short_free : (text : List ℕ) (t : Tree) → IsShortText text t → fault_of_text text ≡ None
short_free text t h =
    let short : nat_lt longest_formula (length text) ≡ false = grind (arith, nat_tests, h.short) in
    let free : long_fault text ≡ None = ap (first_text_fault (lex text).tokens) h.read.ends ∙ within_is_read (lex text).tokens h.read.d h.read.len h.read.text h.read.limits in
    rw short free

class_free : (text : List ℕ) (t : Tree) → IsShortText text t → first_fault false true (node_of t) ≡ None → (f : FormulaFault) → IsFormulaFault text f → ⊥
class_free text t h free f (inl x) = not_both (fault_of_text text) f (short_free text t h) x
class_free text t h free f (inr x) =
    let same = one_tree text x.0 t x.1.read h.read in
    not_both (first_fault false true (node_of t)) f free (ap (λ (u : Tree). first_fault false true (node_of u)) (sym same) ∙ x.2)

one_fault : (text : List ℕ) (f g : FormulaFault) → IsFormulaFault text f → IsFormulaFault text g → f ≡ g
one_fault text f g (inl x) (inl y) = some_one (fault_of_text text) f g x y
one_fault text f g (inl x) (inr y) = absurd (not_both (fault_of_text text) f (short_free text y.0 y.1) x)
one_fault text f g (inr x) (inl y) = absurd (not_both (fault_of_text text) g (short_free text x.0 x.1) y)
one_fault text f g (inr x) (inr y) =
    let same = one_tree text x.0 y.0 x.1.read y.1.read in
    some_one (first_fault false true (node_of y.0)) f g (ap (λ (u : Tree). first_fault false true (node_of u)) (sym same) ∙ x.2) y.2

-- ---- the words

same_text : (words : List (List ℕ)) (a b : List ℕ) → words ≡ a ∷ [] → words ≡ b ∷ [] → a ≡ b
same_text words a b h k = let e : a ∷ [] ≡ b ∷ [] = sym h ∙ k in cc

pub about_one : (words : List (List ℕ)) (t u : Tree) → AsksAbout words t → AsksAbout words u → t ≡ u
about_one words t u h k =
    one_tree k.text t u (subst (λ (x : List ℕ). IsReadAs x t) (same_text words h.text k.text h.one k.one) h.is_read.read) k.is_read.read

pub about_free : (words : List (List ℕ)) (t : Tree) (f : FormulaFault) → AsksAbout words t → HasFormulaFault words f → ⊥
about_free words t f h k =
    class_free h.text t h.is_read h.free f (subst (λ (x : List ℕ). IsFormulaFault x f) (same_text words k.text h.text k.one h.one) k.fault)

pub fault_one : (words : List (List ℕ)) (f g : FormulaFault) → HasFormulaFault words f → HasFormulaFault words g → f ≡ g
fault_one words f g h k =
    one_fault k.text f g (subst (λ (x : List ℕ). IsFormulaFault x f) (same_text words h.text k.text h.one k.one) h.fault) k.fault
