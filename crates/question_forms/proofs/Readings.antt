-- Each text is read or has a fault.
use Rattle.std.proofs.Common.{◌≡◌, ◌⊎◌, ℕ, nat_lt, List, length, drop, Option, None, Some, Result, Ok, Err, sym, ap, subst, refl, ◌∙◌, inl, inr, arith}
use Rattle.std.proofs.lemmas.Bool.{cases_Bool, ltb-true, ltb-false}
use Rattle.pota_base.specs.Limits.{longest_formula}
use Rattle.rctl_grammar.specs.declared.fault.FormulaCode.TheVariants as code
use Rattle.rctl_grammar.specs.declared.fault.FormulaFault.{FormulaFault}
use Rattle.rctl_grammar.specs.declared.token.End.{End}
use Rattle.rctl_grammar.specs.declared.token.Token.{Token}
use Rattle.rctl_grammar.specs.declared.tree.Tree.{Tree}
use Rattle.rctl_grammar.specs.Grammar.{tree_disjunction}
use Rattle.rctl_grammar.specs.FirstFault.{first_fault}
use Rattle.rctl_grammar.specs.Machine.{read}
use Rattle.rctl_laws.proofs.Free.{no_fault}
use Rattle.rctl_laws.proofs.Reading.{one_reading}
use Rattle.rctl_laws.proofs.Within.{within_is_read}
use Rattle.rctl_parse.specs.Parsing.{IsTreeOf, long_fault, fault_of_text}
use Rattle.rctl_laws.specs.PassedOn.{lex}
use Rattle.rctl_class.specs.Nodes.{node_of}
use Rattle.question_text.specs.Heads.{head_of}
use Rattle.question_text.specs.declared.head.Head.{Head}
use Rattle.question_text.specs.declared.head.HeadFault.{HeadFault}
use Rattle.question_forms.specs.Questions.{IsFormulaText, IsAsking, IsFormulaFault, IsQuestionFault}
use Rattle.question_forms.specs.Taking.{form_fault}
use Rattle.question_forms.specs.declared.question.QuestionFault.{QuestionFault}
use Rattle.question_forms.specs.declared.question.QuestionFault.TheVariants as fault

-- ---- of one formula's text

cases_Option : (o : Option FormulaFault) → (o ≡ None) ⊎ ((f : FormulaFault) × (o ≡ Some f))
cases_Option None = inl refl
cases_Option (Some f) = inr (f, refl)

tree_free : (tokens : List Token) (ending : End) (t : Tree) → IsTreeOf tokens ending t → first_fault tokens ending ≡ None
tree_free tokens ending t is = ap (first_fault tokens) is.ends ∙ within_is_read tokens is.d is.len is.text is.limits

pub text_free : (text : List ℕ) (t : Tree) → IsFormulaText text t → fault_of_text text ≡ None
text_free text t is = elim (cases_Bool (nat_lt longest_formula (length text))) [
  | inl long ↦ absurd (omega (arith, ltb-true longest_formula (length text) long, is.short))
  | inr short ↦ rw short (tree_free (lex text).tokens (lex text).end t is.read)
]

free_tree : (tokens : List Token) (ending : End) → first_fault tokens ending ≡ None → (t : Tree) × IsTreeOf tokens ending t
free_tree tokens ending h =
    let is = no_fault tokens ending h in
    (tree_disjunction is.d, record { d = is.d; text = is.text; limits = is.limits; len = is.len; ends = is.ends; tree = refl })

pub text_read : (text : List ℕ) → ((t : Tree) × IsFormulaText text t) ⊎ ((f : FormulaFault) × (fault_of_text text ≡ Some f))
text_read text = elim (cases_Bool (nat_lt longest_formula (length text))) [
  | inl long ↦ inr (record { code = code.TooLong; place = longest_formula }, rw long refl)
  | inr short ↦ elim (cases_Option (long_fault text)) [
    | inl none ↦ let is = free_tree (lex text).tokens (lex text).end none in inl (is.0, record { short = ltb-false longest_formula (length text) short; read = is.1 })
    | inr some ↦ inr (some.0, rw short some.1)
  ]
]

some_same : {A : Type 0} {x y : A} → Some x ≡ Some y → x ≡ y
some_same h = cc

pub one_tree : (text : List ℕ) (t u : Tree) → IsFormulaText text t → IsFormulaText text u → t ≡ u
one_tree text t u a b =
    let same : a.read.d ≡ b.read.d = some_same (sym (one_reading (lex text).tokens a.read.d a.read.text) ∙ one_reading (lex text).tokens b.read.d b.read.text) in
    sym a.read.tree ∙ ap tree_disjunction same ∙ b.read.tree

-- ---- of a formula behind a head

formula_read : (text : List ℕ) (head : Head) → head_of text ≡ Ok head → ((t : Tree) × IsAsking text head t) ⊎ ((f : FormulaFault) × IsFormulaFault text head f)
formula_read text head is = elim (text_read (drop head.formula text)) [
  | inl read ↦ elim (cases_Option (form_fault head.asking (node_of read.0))) [
    | inl none ↦ inl (read.0, record { of_text = is; formula = read.1; free = none })
    | inr some ↦ inr (some.0, inr (read.0, read.1, some.1))
  ]
  | inr bad ↦ inr (bad.0, inl bad.1)
]

formula_not_both : (text : List ℕ) (head : Head) (t : Tree) (f : FormulaFault) → IsAsking text head t → IsFormulaFault text head f → ⊥
formula_not_both text head t f is (inl bad) = let free = text_free (drop head.formula text) t is.formula in absurd (cc)
formula_not_both text head t f is (inr bad) =
    let same = one_tree (drop head.formula text) t bad.0 is.formula bad.1 in
    let free = is.free in
    let there : form_fault head.asking (node_of t) ≡ Some f = ap (λ u. form_fault head.asking (node_of u)) same ∙ bad.2 in
    absurd (cc)

formula_one_fault : (text : List ℕ) (head : Head) (f g : FormulaFault) → IsFormulaFault text head f → IsFormulaFault text head g → f ≡ g
formula_one_fault text head f g (inl a) (inl b) = some_same (sym a ∙ b)
formula_one_fault text head f g (inl a) (inr b) = let free = text_free (drop head.formula text) b.0 b.1 in absurd (cc)
formula_one_fault text head f g (inr a) (inl b) = let free = text_free (drop head.formula text) a.0 a.1 in absurd (cc)
formula_one_fault text head f g (inr a) (inr b) =
    let same = one_tree (drop head.formula text) a.0 b.0 a.1 b.1 in
    some_same (sym a.2 ∙ ap (λ u. form_fault head.asking (node_of u)) same ∙ b.2)

-- ---- of a question

cases_Result : (r : Result Head HeadFault) → ((h : Head) × (r ≡ Ok h)) ⊎ ((f : HeadFault) × (r ≡ Err f))
cases_Result (Ok h) = inl (h, refl)
cases_Result (Err f) = inr (f, refl)

pub some : (text : List ℕ) → ((head : Head) × (t : Tree) × IsAsking text head t) ⊎ ((f : QuestionFault) × IsQuestionFault text f)
some text = elim (cases_Result (head_of text)) [
  | inl ok ↦ elim (formula_read text ok.0 ok.1) [
    | inl read ↦ inl (ok.0, read.0, read.1)
    | inr bad ↦ inr (fault.Formula (ok.0).formula bad.0, (ok.0, ok.1, refl, bad.1))
  ]
  | inr err ↦ inr (fault.Head err.0, err.1)
]

ok_same : {x y : Head} {r : Result Head HeadFault} → r ≡ Ok x → r ≡ Ok y → x ≡ y
ok_same a b = cc

not_ok : {x : Head} {f : HeadFault} {r : Result Head HeadFault} → r ≡ Ok x → r ≡ Err f → ⊥
not_ok a b = absurd (cc)

pub not_both : (text : List ℕ) (head : Head) (t : Tree) (f : QuestionFault) → IsAsking text head t → IsQuestionFault text f → ⊥
not_both text head t (fault.Head f) is h = not_ok is.of_text h
not_both text head t (fault.Formula from f) is h =
    let same : h.0 ≡ head = ok_same h.1 is.of_text in
    formula_not_both text head t f is (subst (λ k. IsFormulaFault text k f) same h.3)

pub one_asking : (text : List ℕ) (head other : Head) (t u : Tree) → IsAsking text head t → IsAsking text other u → (head ≡ other) × (t ≡ u)
one_asking text head other t u a b =
    let same : head ≡ other = ok_same a.of_text b.of_text in
    (same, one_tree (drop head.formula text) t u a.formula (subst (λ k. IsFormulaText (drop k.formula text) u) (sym same) b.formula))

pub one_fault : (text : List ℕ) (f g : QuestionFault) → IsQuestionFault text f → IsQuestionFault text g → f ≡ g
one_fault text (fault.Head f) (fault.Head g) a b = cc
one_fault text (fault.Head f) (fault.Formula from g) a b = absurd (not_ok b.1 a)
one_fault text (fault.Formula from f) (fault.Head g) a b = absurd (not_ok a.1 b)
one_fault text (fault.Formula from f) (fault.Formula start g) a b =
    let same : b.0 ≡ a.0 = ok_same b.1 a.1 in
    let faults : f ≡ g = formula_one_fault text a.0 f g a.3 (subst (λ k. IsFormulaFault text k g) same b.3) in
    let places : from ≡ start = a.2 ∙ sym (ap (λ (k : Head). k.formula) same) ∙ sym b.2 in
    rw (faults, places) refl
