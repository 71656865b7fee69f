-- A text asks one thing.
use Rattle.std.proofs.Common.{◌≡◌, ℕ, List, drop, Some, Result, Ok, sym, ap, subst, ◌∙◌}
use Rattle.rctl_grammar.specs.declared.tree.Tree.{Tree}
use Rattle.rctl_grammar.specs.Grammar.{tree_disjunction}
use Rattle.rctl_laws.specs.PassedOn.{lex}
use Rattle.rctl_laws.proofs.Reading.{one_reading}
use Rattle.question_text.specs.declared.head.Head.{Head}
use Rattle.question_text.specs.declared.head.HeadFault.{HeadFault}
use Rattle.question_forms.specs.Questions.{IsAsking, IsFormulaText}

some_same : {A : Type 0} {x y : A} → Some x ≡ Some y → x ≡ y
some_same h = cc

ok_same : {x y : Head} {r : Result Head HeadFault} → r ≡ Ok x → r ≡ Ok y → x ≡ y
ok_same a b = cc

one_tree : (text : List ℕ) (t u : Tree) → IsFormulaText text t → IsFormulaText text u → t ≡ u
one_tree text t u a b =
    let same : a.read.d ≡ b.read.d = some_same (sym (one_reading (lex text).tokens a.read.d a.read.text) ∙ one_reading (lex text).tokens b.read.d b.read.text) in
    sym a.read.tree ∙ ap tree_disjunction same ∙ b.read.tree

pub one_asking : (text : List ℕ) (head other : Head) (t u : Tree) → IsAsking text head t → IsAsking text other u → (head ≡ other) × (t ≡ u)
one_asking text head other t u a b =
    let same : head ≡ other = ok_same a.of_text b.of_text in
    (same, one_tree (drop head.formula text) t u a.formula (subst (λ (k : Head). IsFormulaText (drop k.formula text) u) (sym same) b.formula))
