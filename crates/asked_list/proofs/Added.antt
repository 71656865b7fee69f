-- A list with one question more.
use Rattle.std.proofs.Common.{◌≡◌, ℕ, ◌+◌, ◌≤◌, nat_le, true, List, [], ◌∷◌, ◌++◌, length, replicate, sym, ap, subst, ◌∙◌, arith, length-append}
use Rattle.std.proofs.lemmas.List.{length-map, map-append}
use Rattle.std.proofs.lemmas.Bool.{and_parts, leb-true}
use Rattle.asked_list.specs.inside.Counts.{are_few}
use Rattle.question_forms.specs.declared.question.Question.{Question}
use Rattle.rctl_class.specs.NamedParts.{NamedPiece, AllFit, AreDisjuncts, disjuncts_count, pieces_of, disjuncts_of}
use Rattle.question_meaning.specs.declared.form.Form.{Form}
use Rattle.pota_base.specs.Limits.{most_disjuncts, most_parts}
use Rattle.asked_list.specs.declared.list.AskedList.{AskedList}
use Rattle.asked_list.specs.Lists.{IsAskedList, Adds, disjuncts_in, asked_count, each_count}
use Rattle.asked_list.proofs.Counts.{each_joined, each_of_one}
use Rattle.asked_list.proofs.Ranges.{length_replicate}

all_fit_joined : (ds es : List (List NamedPiece)) → AllFit ds → AllFit es → AllFit (ds ++ es)
all_fit_joined [] es a b = b
all_fit_joined (d ∷ ds) es a b = (a.0, all_fit_joined ds es a.1 b)

pub with_one : (before after : AskedList) (q : Question) → IsAskedList before → AreDisjuncts (disjuncts_of q.classed.disjuncts) → Adds before q after
    → length before.classed.disjuncts + length q.classed.disjuncts ≤ most_disjuncts → after.parts ≡ before.parts + asked_count q.form (disjuncts_of q.classed.disjuncts) → after.parts ≤ most_parts
    → IsAskedList after
with_one before after q is are adds few parts within =
    let own = disjuncts_of q.classed.disjuncts in
    let number = length-map q.classed.disjuncts pieces_of in
    let all : disjuncts_in after ≡ disjuncts_in before ++ own = ap disjuncts_of adds.disjuncts ∙ map-append pieces_of before.classed.disjuncts q.classed.disjuncts in
    let many = length-map before.classed.disjuncts pieces_of in
    let longer = ap length adds.disjuncts ∙ length-append before.classed.disjuncts q.classed.disjuncts in
    let forms = ap length adds.forms ∙ length-append before.forms (replicate (length q.classed.disjuncts) q.form) in
    let several = length_replicate (length q.classed.disjuncts) q.form in
    let here : each_count (replicate (length q.classed.disjuncts) q.form) own ≡ asked_count q.form own = ap (λ k. each_count (replicate k q.form) own) (sym number) ∙ each_of_one q.form own in
    let count : each_count after.forms (disjuncts_in after) ≡ each_count before.forms (disjuncts_in before) + asked_count q.form own =
    ap (λ fs. each_count fs (disjuncts_in after)) adds.forms ∙ ap (each_count (before.forms ++ replicate (length q.classed.disjuncts) q.form)) all
    ∙ each_joined before.forms (replicate (length q.classed.disjuncts) q.form) (disjuncts_in before) own (is.paired ∙ sym many) ∙ ap (λ k. each_count before.forms (disjuncts_in before) + k) here in
    record {
      fit = subst AllFit (sym all) (all_fit_joined (disjuncts_in before) own is.fit are.fit);
      few = omega (arith, longer, few);
      counted = omega (arith, parts, count, is.counted);
      parts = within;
      paired = omega (arith, forms, several, longer, is.paired);
    }

-- the parts of a list are no more than what is asked
few_parts : (fs : List Form) (ds : List (List NamedPiece)) → disjuncts_count ds ≤ each_count fs ds
few_parts fs [] = omega arith
few_parts [] (d ∷ ds) = omega (arith, few_parts [] ds)
few_parts (f ∷ fs) (d ∷ ds) = omega (arith, few_parts fs ds)

pub some : (list : AskedList) → IsAskedList list → 1 ≤ length (disjuncts_in list) → AreDisjuncts (disjuncts_in list)
some list is one = record {
  fit = is.fit;
  some = one;
  few = omega (arith, length-map list.classed.disjuncts pieces_of, is.few);
  parts = omega (arith, few_parts list.forms (disjuncts_in list), is.counted, is.parts);
}

-- few enough for both
pub both_few : (disjuncts parts : ℕ) → are_few disjuncts parts ≡ true → (disjuncts ≤ most_disjuncts) × (parts ≤ most_parts)
both_few disjuncts parts h =
    let both = and_parts (nat_le disjuncts most_disjuncts) (nat_le parts most_parts) h in
    (leb-true disjuncts most_disjuncts both.0, leb-true parts most_parts both.1)
