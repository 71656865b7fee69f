-- Words ask one thing or have a fault.
use Rattle.std.proofs.Common.{◌≡◌, ℕ, ◌<◌, ◌≤◌, ◌⊎◌, Bool, true, false, List, length, Option, Some, None, refl, sym, ap, ◌∙◌, subst, inl, inr, arith}
use Rattle.std.specs.Prelude.{nat_lt}
use Rattle.std.proofs.lemmas.Bool.Decides.{nat_tests}
use Rattle.pota_base.specs.Limits.{longest_formula}
use Rattle.rctl_grammar.specs.declared.fault.FormulaFault.{FormulaFault}
use Rattle.rctl_grammar.specs.declared.fault.FormulaCode.TheVariants as code
use Rattle.rctl_grammar.specs.declared.tree.Tree.{Tree}
use Rattle.rctl_grammar.specs.Grammar.{tree_disjunction}
use Rattle.rctl_lexer.specs.Lexing.{lex}
use Rattle.rctl_laws.proofs.Free.{no_fault}
use Rattle.rctl_parse.specs.Parsing.{fault_of_text, long_fault, IsReadAs}
use Rattle.rctl_class.specs.Faults.{first_fault}
use Rattle.rctl_class.specs.Nodes.{node_of}
use Rattle.command_words.specs.declared.request.Task.{Task}
use Rattle.command_words.specs.Request.{Wanted, request_of}
use Rattle.call_request.specs.declared.question.QuestionFault.{QuestionFault}
use Rattle.call_request.specs.declared.question.QuestionFault.TheVariants as fault
use Rattle.call_request.specs.Questions.{IsQuestionFault, AsksFor}
use Rattle.stated_formula.specs.Stating.{IsShortText, IsFormulaFault}

-- a text without a fault is short and is read
read_there : (text : List ℕ) → long_fault text ≡ None → (t : Tree) × IsReadAs text t
read_there text free =
    let is = no_fault (lex text).tokens (lex text).end free in
    (tree_disjunction is.d, record { d = is.d; text = is.text; limits = is.limits; len = is.len; ends = is.ends; tree = refl })

some_not : {A : Type 0} (x : A) → Some x ≡ None → ⊥
some_not x e = cc

short_there : (text : List ℕ) → fault_of_text text ≡ None → (t : Tree) × IsShortText text t
short_there text free = go (nat_lt longest_formula (length text)) refl
  where
    go : (b : Bool) → nat_lt longest_formula (length text) ≡ b → (t : Tree) × IsShortText text t
    go true e =
        let long : fault_of_text text ≡ Some (record { code = code.TooLong; place = longest_formula }) = rw e refl in
        absurd (some_not _ (sym long ∙ free))
    go false e =
        let plain : fault_of_text text ≡ long_fault text = rw e refl in
        let t = read_there text (sym plain ∙ free) in
        (t.0, record { short = grind (arith, nat_tests, e); read = t.1 })

abbrev Asked : List (List ℕ) → Type 0
Asked words = ((task : Task) × (t : Tree) × AsksFor words task t) ⊎ ((f : QuestionFault) × IsQuestionFault words f)

classed : (words : List (List ℕ)) (w : Wanted) → request_of words ≡ Some w → (t : Tree) → IsShortText w.formula t → Asked words
classed words w is t read = go (first_fault false true (node_of t)) refl
  where
    go : (o : Option FormulaFault) → first_fault false true (node_of t) ≡ o → Asked words
    go None e = inl (w.task, t, record { wanted = w; asks = is; task_is = refl; is_read = read; free = e })
    go (Some f) e = inr (fault.Formula f, (w, is, inr (t, read, e)))

stated : (words : List (List ℕ)) (w : Wanted) → request_of words ≡ Some w → Asked words
stated words w is = go (fault_of_text w.formula) refl
  where
    go : (o : Option FormulaFault) → fault_of_text w.formula ≡ o → Asked words
    go None e = let t = short_there w.formula e in classed words w is t.0 t.1
    go (Some f) e = inr (fault.Formula f, (w, is, inl e))

pub ask_or_fault : (words : List (List ℕ)) → Asked words
ask_or_fault words = go (request_of words) refl
  where
    go : (o : Option Wanted) → request_of words ≡ o → Asked words
    go None e = inr (fault.Usage, e)
    go (Some w) e = stated words w e
