use Rattle.verify_top.proofs.ToldAnswers.{verified_so, truth_told, read_cause, write_cause, told_read}
use Rattle.verify_top.proofs.Exact.{decided, refused_as_due, refused_as_asked}
use Rattle.verify_top.proofs.top.verify.Goals as goal

pub returns-clause-verified : goal.returns-clause-verified
returns-clause-verified g c = verified_so _ _ _ _ _ _ _ _ _ _ c.answer_words-answer.result c.answer_words-answer.ensures.answers c.tell_answer-verified.ensures.later c.tell_answer-verified.ensures.told

pub returns-clause-truth : goal.returns-clause-truth
returns-clause-truth g c e =
    truth_told _ _ _ _ _ _ _ _ _ _ (verified_so _ _ _ _ _ _ _ _ _ _ c.answer_words-answer.result c.answer_words-answer.ensures.answers c.tell_answer-verified.ensures.later c.tell_answer-verified.ensures.told) e

pub returns-clause-read : goal.returns-clause-read
returns-clause-read g c e =
    read_cause _ _ _ _ _ _ _ _ _ _ (verified_so _ _ _ _ _ _ _ _ _ _ c.answer_words-answer.result c.answer_words-answer.ensures.answers c.tell_answer-verified.ensures.later c.tell_answer-verified.ensures.told) e

pub returns-clause-write : goal.returns-clause-write
returns-clause-write g c e =
    write_cause _ _ _ _ _ _ _ _ _ _ (verified_so _ _ _ _ _ _ _ _ _ _ c.answer_words-answer.result c.answer_words-answer.ensures.answers c.tell_answer-verified.ensures.later c.tell_answer-verified.ensures.told) e

pub returns-clause-decided : goal.returns-clause-decided
returns-clause-decided g c calm =
    decided _ _ _ _ _ _ _ _ _ _ (verified_so _ _ _ _ _ _ _ _ _ _ c.answer_words-answer.result c.answer_words-answer.ensures.answers c.tell_answer-verified.ensures.later c.tell_answer-verified.ensures.told) calm

pub returns-clause-refused : goal.returns-clause-refused
returns-clause-refused g c calm =
    refused_as_due _ _ _ _ _ _ _ _ _ _ (verified_so _ _ _ _ _ _ _ _ _ _ c.answer_words-answer.result c.answer_words-answer.ensures.answers c.tell_answer-verified.ensures.later c.tell_answer-verified.ensures.told) calm

pub returns-clause-misasked : goal.returns-clause-misasked
returns-clause-misasked g c calm =
    refused_as_asked _ _ _ _ _ _ _ _ _ _ (verified_so _ _ _ _ _ _ _ _ _ _ c.answer_words-answer.result c.answer_words-answer.ensures.answers c.tell_answer-verified.ensures.later c.tell_answer-verified.ensures.told) calm

pub returns-clause-calm : goal.returns-clause-calm
returns-clause-calm g c other = c.answer_words-answer.ensures.calm (λ is. other (told_read _ _ _ _ _ _ is c.tell_answer-verified.ensures.told))
