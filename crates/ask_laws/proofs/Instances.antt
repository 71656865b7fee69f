-- The instances of a question over processes, and where their tally has none that fails.
use Rattle.std.proofs.Common.{◌≡◌, ◌↔◌, ℕ, ◌≤◌, Bool, true, false, not, IsTrue, List, [], ◌∷◌, length, cond, Option, Some, None, Ok, refl, sym, ap, subst, ◌∙◌, arith, inl, inr}
use Rattle.std.specs.List.{AllByRecursion, AllZip, filter}
use Rattle.run_model.specs.Run.{Run}
use Rattle.question_meaning.specs.Asking.{question}
use Rattle.question_meaning.specs.Question.{Holds}
use Rattle.question_meaning.specs.declared.form.Form.{Form}
use Rattle.rctl_grammar.specs.declared.fault.FormulaFault.{FormulaFault}
use Rattle.rctl_grammar.specs.declared.tree.Tree.{Tree}
use Rattle.rctl_grammar.specs.Shape.{meaning}
use Rattle.rctl_class.specs.NamedParts.{NamedPiece, disjuncts_of, disjuncts_uses}
use Rattle.rctl_class.specs.Nodes.{node_of}
use Rattle.rctl_class.specs.Uses.{first_unknown}
use Rattle.rctl_class.specs.Walk.{disjuncts_from}
use Rattle.rctl_names.specs.Numbers.{known_in}
use Rattle.rctl_names.specs.Seen.{names_of}
use Rattle.question_text.specs.declared.head.Head.{Head}
use Rattle.question_forms.specs.Questions.{IsQuestion}
use Rattle.question_forms.specs.Taking.{asked_node, form_of}
use Rattle.question_forms.specs.declared.question.Question.{Question}
use Rattle.question_instances.specs.Over.{over_of}
use Rattle.question_lines.specs.Lines.{IsOneLine}
use Rattle.question_lines.proofs.QuestionLines.{question-free}
use Rattle.asked_instances.specs.Instances.{AreInstances, HasNone, IsInstance, IsKnownAs, IsReadAs, LacksName, Source, text_for, unknown_in}
use Rattle.asked_instances.specs.declared.asking.Instance.{Instance}
use Rattle.asked_instances.specs.declared.asking.Pair.{Pair}
use Rattle.ask_laws.specs.Instances.{HoldsWhereKnown, question_by}
use Rattle.ask_laws.proofs.Asked.{question_is}
use Rattle.ask_laws.proofs.OverLines.{line_of_instance}
use Rattle.ask_laws.proofs.Read.{one_asking}

-- ---- none fails

-- of those that are told of others, none fails exactly where what they say holds of each
module _ {A B : Type 0} (T : A → B → Type 0) (holds : B → Bool) (H : A → Type 0) (by : (a : A) (b : B) → T a b → IsTrue (holds b) ↔ H a) where
  abbrev fails : B → Bool
  fails b = not (holds b)

  holds_each : (a : A) (xs : List A) (b : B) (failing : List B) (c : Bool) → holds b ≡ c → (IsTrue (holds b) → H a) → (length failing ≡ 0 → AllByRecursion H xs)
      → length (cond (not c) (b ∷ failing) failing) ≡ 0 → AllByRecursion H (a ∷ xs)
  holds_each a xs b failing true so here rest none = (here so, rest none)
  holds_each a xs b failing false so here rest none = absurd (omega (arith, none))

  none_fail : (xs : List A) (ys : List B) → AllZip T xs ys → length (filter fails ys) ≡ 0 → AllByRecursion H xs
  none_fail [] ys each none = tt
  none_fail (a ∷ xs) [] each none = absurd each
  none_fail (a ∷ xs) (b ∷ ys) each none = holds_each a xs b (filter fails ys) (holds b) refl (by a b each.0).0 (none_fail xs ys each.1) none

  none_more : (b : B) (failing : List B) (c : Bool) → IsTrue c → length failing ≡ 0 → length (cond (not c) (b ∷ failing) failing) ≡ 0
  none_more b failing true so rest = rest
  none_more b failing false so rest = absurd cc

  each_holds : (xs : List A) (ys : List B) → AllZip T xs ys → AllByRecursion H xs → length (filter fails ys) ≡ 0
  each_holds [] [] each all = refl
  each_holds [] (b ∷ ys) each all = absurd each
  each_holds (a ∷ xs) [] each all = absurd each
  each_holds (a ∷ xs) (b ∷ ys) each all = none_more b (filter fails ys) (holds b) ((by a b each.0).1 all.0) (each_holds xs ys each.1 all.1)

pub none_fails : {A B : Type 0} {T : A → B → Type 0} (xs : List A) (ys : List B) → AllZip T xs ys → (holds : B → Bool) (H : A → Type 0) → ((a : A) (b : B) → T a b → IsTrue (holds b) ↔ H a)
    → (length (filter (λ (b : B). not (holds b)) ys) ≡ 0) ↔ AllByRecursion H xs
none_fails {A} {B} {T} xs ys each holds H by = (λ none. none_fail T holds H by xs ys each none, λ all. each_holds T holds H by xs ys each all)

-- ---- an instance is one line

one_of_them : (s : Source) (ps : List Pair) (is : List Instance) → AreInstances s ps is → 1 ≤ length is → (p : Pair) × (q : Question) × IsReadAs (text_for s p) q
one_of_them s [] [] are some = absurd (omega (arith, some))
one_of_them s [] (i ∷ is) are some = absurd are
one_of_them s (p ∷ ps) [] are some = absurd (omega (arith, some))
one_of_them s (p ∷ ps) (i ∷ is) (inl both) some = (p, i.question, both.0.known.read)
one_of_them s (p ∷ ps) (i ∷ is) (inr both) some = one_of_them s ps (i ∷ is) both.1 some

-- so the question over processes is
pub over_line : (s : Source) (ps : List Pair) (is : List Instance) → over_of s.text ≡ Ok (Some s.over) → AreInstances s ps is → 1 ≤ length is → IsOneLine s.text
over_line s ps is names are some =
    let one = one_of_them s ps is are some in
    let read = one.2 in
    line_of_instance s.text s.over _ names (question-free (text_for s one.0) read.0 read.1 one.1 read.2)

-- ---- where an instance holds

-- a text is one question at most
one_form : (text : List ℕ) (head other : Head) (t u : Tree) (q r : Question) → IsQuestion text head t q → IsQuestion text other u r → disjuncts_of q.classed.disjuncts ≡ disjuncts_of r.classed.disjuncts
one_form text head other t u q r a b =
    let same = one_asking text head other t u a.asking b.asking in
    let form : q.form ≡ r.form = a.form ∙ ap (λ (h : Head). form_of h.asking (node_of t)) same.0 ∙ ap (λ (x : Tree). form_of other.asking (node_of x)) same.1 ∙ sym b.form in
    a.classed.split ∙ ap (λ (f : Form). disjuncts_from true (asked_node f (node_of t))) form ∙ ap (λ (x : Tree). disjuncts_from true (asked_node r.form (node_of x))) same.1 ∙ sym b.classed.split

none_lacks : (f : FormulaFault) (o p : Option FormulaFault) → p ≡ o → o ≡ None → p ≡ Some f → ⊥
none_lacks f o p same none some = absurd cc

lacks_none : (s : Source) (text : List ℕ) (q other : Question) → IsKnownAs s.header s.watches text q → IsReadAs text other → LacksName s.header s.watches other → ⊥
lacks_none s text q other known read lacks =
    let same = one_form text read.0 known.read.0 read.1 known.read.1 other q read.2 known.read.2 in
    let named : List (List NamedPiece) → Option FormulaFault = λ ds. first_unknown (known_in (names_of s.header s.watches)) [] (disjuncts_uses ds) in
    none_lacks lacks.0 (unknown_in s.header s.watches q) (unknown_in s.header s.watches other) (ap named same) known.known lacks.1

known_has_all : (s : Source) (p : Pair) (q : Question) → IsKnownAs s.header s.watches (text_for s p) q → HasNone s p → ⊥
known_has_all s p q known none = lacks_none s (text_for s p) q none.0 known none.1 none.2

module _ (r : Run) (s : Source) where
  -- the question of an instance holds
  abbrev pub HoldsIn : Instance → Type 0
  HoldsIn i = (head : Head) (t : Tree) → IsQuestion i.text head t i.question → Holds r (question i.question.form (meaning t))

  -- what it asks is what its words ask
  asks : (head : Head) (t : Tree) (i : Instance) → i.question.form ≡ form_of head.asking (node_of t) → question i.question.form (meaning t) ≡ question_by head.asking (meaning t)
  asks head t i form = ap (λ (f : Form). question f (meaning t)) form ∙ question_is head.asking (node_of t) (meaning t)

  holds_known : (p : Pair) (i : Instance) → IsInstance s p i → HoldsIn i → HoldsWhereKnown r s p
  holds_known p i is so q known head t asking =
      let read = is.known.read in
      let same = one_asking (text_for s p) head read.0 t read.1 asking read.2.asking in
      let here = so read.0 read.1 (subst (λ (text : List ℕ). IsQuestion text read.0 read.1 i.question) (sym is.text) read.2) in
      let there = subst (Holds r) (asks read.0 read.1 i read.2.form) here in
      subst (λ (h : Head). Holds r (question_by h.asking (meaning t))) (sym same.0) (subst (λ (x : Tree). Holds r (question_by read.0.asking (meaning x))) (sym same.1) there)

  known_holds : (p : Pair) (i : Instance) → IsInstance s p i → HoldsWhereKnown r s p → HoldsIn i
  known_holds p i is so head t read =
      let at = subst (λ (text : List ℕ). IsQuestion text head t i.question) is.text read in
      subst (Holds r) (sym (asks head t i at.form)) (so i.question is.known head t at.asking)

  -- of those that have none nothing is said
  pub where_known : (ps : List Pair) (is : List Instance) → AreInstances s ps is → AllByRecursion HoldsIn is → AllByRecursion (HoldsWhereKnown r s) ps
  where_known [] is are all = tt
  where_known (p ∷ ps) [] are all = (λ q known. absurd (known_has_all s p q known are.0), where_known ps [] are.1 tt)
  where_known (p ∷ ps) (i ∷ is) (inl both) all = (holds_known p i both.0 all.0, where_known ps is both.1 all.1)
  where_known (p ∷ ps) (i ∷ is) (inr both) all = (λ q known. absurd (known_has_all s p q known both.0), where_known ps (i ∷ is) both.1 all)

  pub where_held : (ps : List Pair) (is : List Instance) → AreInstances s ps is → AllByRecursion (HoldsWhereKnown r s) ps → AllByRecursion HoldsIn is
  where_held [] [] are all = tt
  where_held [] (i ∷ is) are all = absurd are
  where_held (p ∷ ps) [] are all = tt
  where_held (p ∷ ps) (i ∷ is) (inl both) all = (known_holds p i both.0 all.0, where_held ps is both.1 all.1)
  where_held (p ∷ ps) (i ∷ is) (inr both) all = where_held ps (i ∷ is) both.1 all.1
