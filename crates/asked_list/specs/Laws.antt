-- What the laws of this crate say.
use Rattle.asked_list.specs.Lists.{Adds, HasRange, IsAskedList, disjuncts_in}
use Rattle.asked_list.specs.declared.list.AskedList.{AskedList as ListIs}
use Rattle.question_forms.specs.declared.question.Question.{Question as QuestionIs}
use Rattle.rctl_class.specs.NamedParts.{disjuncts_of}
use Rattle.std.specs.Prelude.{◌+◌, length}

-- a question that is added has the range behind all before
abbrev pub AddedQuestionsHaveRanges : Type 0
AddedQuestionsHaveRanges = (before after : ListIs) (q : QuestionIs) → IsAskedList before
    → Adds before q after
    → HasRange
    (record {
      form = q.form;
      from = length before.classed.disjuncts;
      to = length before.classed.disjuncts + length q.classed.disjuncts;
    })
    after.forms (disjuncts_in after) (disjuncts_of q.classed.disjuncts)
