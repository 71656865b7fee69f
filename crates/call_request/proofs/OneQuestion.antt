-- Words ask one thing.
use Rattle.std.proofs.Common.{◌≡◌, ℕ, ◌<◌, ◌≤◌, ◌⊎◌, Bool, true, false, List, length, Option, Some, None, refl, sym, ap, ◌∙◌, subst, inl, inr, arith}
use Rattle.std.specs.Prelude.{nat_lt}
use Rattle.std.proofs.lemmas.Bool.{cases_Bool}
use Rattle.std.proofs.lemmas.Bool.Decides.{nat_tests}
use Rattle.pota_base.specs.Limits.{longest_formula}
use Rattle.rctl_grammar.specs.declared.fault.FormulaFault.{FormulaFault}
use Rattle.rctl_grammar.specs.declared.token.End.{End}
use Rattle.rctl_grammar.specs.declared.tree.Tree.{Tree}
use Rattle.rctl_grammar.specs.Grammar.{Disjunction, tree_disjunction}
use Rattle.rctl_grammar.specs.FirstFault.{first_fault as first_text_fault}
use Rattle.rctl_lexer.specs.Lexing.{lex}
use Rattle.rctl_laws.proofs.Reading.{one_reading}
use Rattle.rctl_laws.proofs.Within.{within_is_read}
use Rattle.rctl_parse.specs.Parsing.{fault_of_text, long_fault, IsReadAs}
use Rattle.rctl_class.specs.Faults.{first_fault}
use Rattle.rctl_class.specs.Nodes.{node_of}
use Rattle.command_words.specs.declared.request.Task.{Task}
use Rattle.command_words.specs.Request.{Wanted, request_of}
use Rattle.call_request.specs.declared.question.Question.{Question}
use Rattle.call_request.specs.declared.question.QuestionFault.{QuestionFault}
use Rattle.call_request.specs.declared.question.QuestionFault.TheVariants as fault
use Rattle.call_request.specs.Questions.{IsQuestion, IsQuestionFault, AsksFor}
use Rattle.stated_formula.specs.Stating.{IsShortText, IsFormulaFault}

some_one : {A : Type 0} (o : Option A) (x y : A) → o ≡ Some x → o ≡ Some y → x ≡ y
some_one o x y h k = let e : Some x ≡ Some y = sym h ∙ k in cc

not_both : {A : Type 0} (o : Option A) (x : A) → o ≡ None → o ≡ Some x → ⊥
not_both o x h k = let e : None ≡ Some x = sym h ∙ k in cc

-- ---- one text

one_tree : (text : List ℕ) (t u : Tree) → IsReadAs text t → IsReadAs text u → t ≡ u
one_tree text t u h k =
    let same = some_one _ h.d k.d (one_reading (lex text).tokens h.d h.text) (one_reading (lex text).tokens k.d k.text) in
    sym h.tree ∙ ap tree_disjunction same ∙ k.tree

read_free : (text : List ℕ) (t : Tree) → IsReadAs text t → long_fault text ≡ None
read_free text t h =
    ap (first_text_fault (lex text).tokens) h.ends
    ∙ within_is_read (lex text).tokens h.d h.len h.text h.limits

short_free : (text : List ℕ) (t : Tree) → IsShortText text t → fault_of_text text ≡ None
short_free text t h =
    let short : nat_lt longest_formula (length text) ≡ false = grind (arith, nat_tests, h.short) in
    rw short (read_free text t h.read)

class_free : (text : List ℕ) (t : Tree) → IsShortText text t → first_fault false true (node_of t) ≡ None
    → (f : FormulaFault) → IsFormulaFault text f → ⊥
class_free text t h free f (inl x) = not_both (fault_of_text text) f (short_free text t h) x
class_free text t h free f (inr x) =
    let same = one_tree text x.0 t x.1.read h.read in
    not_both (first_fault false true (node_of t)) f free (ap (λ (u : Tree). first_fault false true (node_of u)) (sym same) ∙ x.2)

one_fault : (text : List ℕ) (f g : FormulaFault) → IsFormulaFault text f → IsFormulaFault text g → f ≡ g
one_fault text f g (inl x) (inl y) = some_one (fault_of_text text) f g x y
one_fault text f g (inl x) (inr y) = absurd (not_both (fault_of_text text) f (short_free text y.0 y.1) x)
one_fault text f g (inr x) (inl y) = absurd (not_both (fault_of_text text) g (short_free text x.0 x.1) y)
one_fault text f g (inr x) (inr y) =
    let same = one_tree text x.0 y.0 x.1.read y.1.read in
    some_one (first_fault false true (node_of y.0)) f g (ap (λ (u : Tree). first_fault false true (node_of u)) (sym same) ∙ x.2) y.2

-- ---- all words

pub question_asks : (words : List (List ℕ)) (q : Question) → IsQuestion words q
    → AsksFor words q.task q.stated.formula.tree
question_asks words q h = record {
  wanted = h.wanted;
  asks = h.asks;
  task_is = sym h.task;
  is_read = h.stated.is_read;
  free = h.stated.classed.free;
}

pub asks_one : (words : List (List ℕ)) (a b : Task) (t u : Tree) → AsksFor words a t → AsksFor words b u
    → (a ≡ b) × (t ≡ u)
asks_one words a b t u h k =
    let same = some_one (request_of words) h.wanted k.wanted h.asks k.asks in
    let read = subst (λ (w : Wanted). IsReadAs w.formula t) same h.is_read.read in
    (sym h.task_is ∙ ap (λ (w : Wanted). w.task) same ∙ k.task_is, one_tree k.wanted.formula t u read k.is_read.read)

pub asks_free : (words : List (List ℕ)) (a : Task) (t : Tree) → AsksFor words a t
    → (f : QuestionFault) → IsQuestionFault words f → ⊥
asks_free words a t h fault.Usage k = not_both (request_of words) h.wanted k h.asks
asks_free words a t h (fault.Formula f) k =
    let same = some_one (request_of words) k.0 h.wanted k.1 h.asks in
    class_free h.wanted.formula t h.is_read h.free f (subst (λ (w : Wanted). IsFormulaFault w.formula f) same k.2)

pub faults_one : (words : List (List ℕ)) (f g : QuestionFault) → IsQuestionFault words f → IsQuestionFault words g → f ≡ g
faults_one words fault.Usage fault.Usage h k = refl
faults_one words fault.Usage (fault.Formula g) h k = absurd (not_both (request_of words) k.0 h k.1)
faults_one words (fault.Formula f) fault.Usage h k = absurd (not_both (request_of words) h.0 k h.1)
faults_one words (fault.Formula f) (fault.Formula g) h k =
    let same = some_one (request_of words) h.0 k.0 h.1 k.1 in
    ap fault.Formula (one_fault k.0.formula f g (subst (λ (w : Wanted). IsFormulaFault w.formula f) same h.2) k.2)
