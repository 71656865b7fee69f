-- A list of one question.
use Rattle.std.proofs.Common.{◌≡◌, ℕ, suc, ◌+◌, ◌*◌, ◌≤◌, List, [], ◌∷◌, ◌++◌, length, replicate, None, sym, ap, ◌∙◌, arith}
use Rattle.std.proofs.lemmas.List.{length-map}
use Rattle.question_meaning.specs.declared.form.Form.{Form}
use Rattle.question_forms.specs.declared.question.Question.{Question}
use Rattle.over_questions.specs.Barred.{barred_disjuncts}
use Rattle.rctl_class.specs.NamedParts.{NamedPiece, disjuncts_of, pieces_of}
use Rattle.asked_list.specs.Lists.{Adds, IsAskedList, asked_count, each_count, disjuncts_in}
use Rattle.asked_list.specs.declared.list.AskedList.{AskedList}
use Rattle.asked_parts.specs.Asked.{parts_added}
use Rattle.question_meaning.specs.declared.form.Form.TheVariants as form
use Rattle.instance_outcomes.specs.inside.Lists.{IsListOf}

-- ---- how many parts a form asks

-- what one disjunct more adds
times_more : (own : Form) (k : ℕ) → parts_added own * suc k ≡ parts_added own * k + parts_added own
times_more form.Never k = omega arith
times_more form.Can k = omega arith
times_more form.Always k = omega arith
times_more form.AlwaysByNegation k = omega arith
times_more form.Surely k = omega arith
times_more form.AtEnd k = omega arith
times_more form.Plain k = omega arith

times_none : (own : Form) → parts_added own * 0 ≡ 0
times_none form.Never = omega arith
times_none form.Can = omega arith
times_none form.Always = omega arith
times_none form.AlwaysByNegation = omega arith
times_none form.Surely = omega arith
times_none form.AtEnd = omega arith
times_none form.Plain = omega arith

-- one form for all of some disjuncts
each_of_one : (own : Form) (ds : List (List NamedPiece)) → each_count (replicate (length ds) own) ds ≡ asked_count own ds
each_of_one own [] = omega (arith, times_none own)
each_of_one own (d ∷ ds) = omega (arith, each_of_one own ds, times_more own (length ds))

-- ---- a list without questions, and with one

-- the list with the question behind no other
pub listed_alone : (before after : AskedList) (q : Question) → before.classed.disjuncts ≡ [] → before.forms ≡ [] → IsAskedList after → Adds before q after
    → barred_disjuncts (disjuncts_of q.classed.disjuncts) ≡ None → IsListOf q after
listed_alone before after q empty none is adds free =
    let items : after.classed.disjuncts ≡ q.classed.disjuncts = adds.disjuncts ∙ ap (λ ds. ds ++ q.classed.disjuncts) empty in
    let own : after.forms ≡ replicate (length q.classed.disjuncts) q.form = adds.forms ∙ ap (λ fs. fs ++ replicate (length q.classed.disjuncts) q.form) none in
    let ds = disjuncts_of q.classed.disjuncts in
    let count : after.parts ≡ asked_count q.form ds =
    is.counted ∙ ap (λ fs. each_count fs (disjuncts_in after)) own ∙ ap (λ es. each_count (replicate (length q.classed.disjuncts) q.form) (disjuncts_of es)) items
    ∙ ap (λ k. each_count (replicate k q.form) ds) (sym (length-map q.classed.disjuncts pieces_of)) ∙ each_of_one q.form ds in
    record {
      can = record { free = free; parts = omega (arith, count, is.parts) };
      list_is = is;
      disjuncts = items;
      forms = own;
    }
