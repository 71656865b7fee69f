-- A list that a log can be observed for.
use Rattle.std.proofs.Common.{◌≡◌, ℕ, zero, suc, ◌≤◌, ◌-◌, List, [], ◌∷◌, length, take, drop, Option, None, Some, inl, inr, refl, sym, ap, subst, ◌∙◌, arith}
use Rattle.std.proofs.lemmas.List.{length-map}
use Rattle.asked_list.specs.Lists.{IsAskedList, disjuncts_in, each_count, range_of}
use Rattle.asked_list.specs.declared.list.AskedList.{AskedList}
use Rattle.asked_list.specs.declared.list.Listed.{Listed}
use Rattle.question_instances.specs.declared.over.Over.{Over}
use Rattle.question_meaning.specs.declared.form.Form.{Form}
use Rattle.rctl_class.specs.NamedParts.{AllFit, NamedPiece, disjuncts_of, pieces_of}
use Rattle.ask_questions.specs.Entries.{AreAsked, AreEach, CanBeObserved, IsListedOne, IsOfTrue}

-- ---- the literal `true`

true_fits : (list : AskedList) → IsOfTrue list → IsAskedList list
true_fits list is =
    let many = ap length is.disjuncts ∙ refl in
    let own = length-map list.classed.disjuncts pieces_of in
    let forms = ap length is.forms in
    record {
      fit = subst AllFit (sym is.disjuncts) ((refl, tt), tt);
      few = omega (arith, many, own);
      counted = is.parts ∙ sym (ap (λ (fs : List Form). each_count fs (disjuncts_in list)) is.forms ∙ ap (each_count (_ ∷ [])) is.disjuncts);
      parts = omega (arith, is.parts);
      paired = omega (arith, forms, many, own);
    }

-- texts of which none is asked of the log are those of any list
elsewhere : (list other : AskedList) (texts : List (List ℕ)) (os : List (Option Over)) → AreEach list texts os [] → AreEach other texts os []
elsewhere list other [] [] are = tt
elsewhere list other [] (o ∷ os) are = absurd are
elsewhere list other (text ∷ texts) [] are = absurd are
elsewhere list other (text ∷ texts) (None ∷ os) are = absurd are
elsewhere list other (text ∷ texts) (Some over ∷ os) are = (are.0, elsewhere list other texts os are.1)

-- ---- a list with a question has a disjunct

none_dropped : {A : Type 0} (k : ℕ) → drop {A = A} k [] ≡ []
none_dropped zero = refl
none_dropped (suc k) = refl

none_taken : {A : Type 0} (k : ℕ) → take {A = A} k [] ≡ []
none_taken zero = refl
none_taken (suc k) = refl

some_of : (ds own : List (List NamedPiece)) (from to : ℕ) → range_of from to ds ≡ own → 1 ≤ length own → 1 ≤ length ds
some_of [] own from to is some =
    let none : own ≡ [] = sym is ∙ ap (take (to - from)) (none_dropped from) ∙ none_taken (to - from) in
    let many = ap length none in
    absurd (omega (arith, some, many))
some_of (d ∷ ds) own from to is some = omega arith

some_one : (list : AskedList) (text : List ℕ) (one : Listed) → IsListedOne list text one → 1 ≤ length list.classed.disjuncts
some_one list text one is =
    let q = is.listed.0 in
    let few = some_of (disjuncts_in list) (disjuncts_of q.classed.disjuncts) one.range.from one.range.to is.listed.2.has.items is.listed.1.2.classed.sized.some in
    omega (arith, few, length-map list.classed.disjuncts pieces_of)

some_in : (list : AskedList) (texts : List (List ℕ)) (os : List (Option Over)) (one : Listed) (ones : List Listed) → AreEach list texts os (one ∷ ones) → 1 ≤ length list.classed.disjuncts
some_in list [] [] one ones are = absurd are
some_in list [] (o ∷ os) one ones are = absurd are
some_in list (text ∷ texts) [] one ones are = absurd are
some_in list (text ∷ texts) (None ∷ os) one ones are = some_one list text one are.0
some_in list (text ∷ texts) (Some over ∷ os) one ones are = some_in list texts os one ones are.1

-- ---- what was made of a list

observable_so : (texts : List (List ℕ)) (list made : AskedList) (os : List (Option Over)) → AreAsked texts (record { list = list; overs = os }) → (listed : List Listed) → list.listed ≡ listed
    → (1 ≤ length list.listed → made ≡ list) → (list.listed ≡ [] → IsOfTrue made) → CanBeObserved texts (record { list = made; overs = os })
observable_so texts list made os are [] is same filled =
    let of : IsOfTrue made = filled is in
    let here : AreEach list texts os [] = subst (AreEach list texts os) is are.each in
    let one = ap length of.disjuncts in
    record {
      fit = true_fits made of;
      each = subst (AreEach made texts os) (sym of.none) (elsewhere list made texts os here);
      some = omega (arith, one, length-map made.classed.disjuncts pieces_of);
      whole = inr of;
    }
observable_so texts list made os are (one ∷ ones) is same filled =
    let many = ap length is in
    let is_list : made ≡ list = same (omega (arith, many)) in
    subst (λ (l : AskedList). CanBeObserved texts (record { list = l; overs = os })) (sym is_list) (record {
      fit = are.fit;
      each = are.each;
      some = some_in list texts os one ones (subst (AreEach list texts os) is are.each);
      whole = inl are.whole;
    })

pub observed_where : (texts : List (List ℕ)) (list made : AskedList) (os : List (Option Over)) → AreAsked texts (record { list = list; overs = os })
    → (1 ≤ length list.listed → made ≡ list) → (list.listed ≡ [] → IsOfTrue made) → CanBeObserved texts (record { list = made; overs = os })
observed_where texts list made os are same filled = observable_so texts list made os are list.listed refl same filled
