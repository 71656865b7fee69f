use Rattle.log_answers.proofs.Calm.{calm_so}
use Rattle.std.proofs.Common.{refl, subst}
use Rattle.command_words.specs.declared.request.Task.{Task}
use Rattle.call_request.specs.Questions.{AsksFor}
use Rattle.call_request.proofs.OneQuestion.{question_asks}
use Rattle.pota_top.proofs.Words.{question_workers, question_sizes}
use Rattle.pota_top.proofs.top.answer_question.Goals as goal

pub returns-in-Read-clause-ran : goal.returns-in-Read-clause-ran
returns-in-Read-clause-ran g c words is =
    c.answer_inquiry.ensures.ran words is.wanted.formula is.stated
    (subst (λ (t : Task). AsksFor words t c.args.question.stated.formula.tree) c.in-Read.is
    (question_asks words c.args.question is))

pub returns-in-Bench-clause-ran : goal.returns-in-Bench-clause-ran
returns-in-Bench-clause-ran g c words is =
    c.answer_bench.ensures words is.wanted.formula is.stated
    (subst (λ (t : Task). AsksFor words t c.args.question.stated.formula.tree) c.in-Bench.is
    (question_asks words c.args.question is))
    (g.S.Source.left c.args.log.now) (g.S.Source.faults c.args.log.now)

pub answer_bench-requires-clause-sizes : goal.answer_bench-requires-clause-sizes
answer_bench-requires-clause-sizes g c κs within = question_sizes c.requires.asks.0 c.args.question c.requires.asks.1 c.in-Bench.sizes c.in-Bench.is

pub returns-in-Read-clause-calm : goal.returns-in-Read-clause-calm
returns-in-Read-clause-calm g c = c.answer_inquiry.ensures.calm

pub returns-in-Bench-clause-calm : goal.returns-in-Bench-clause-calm
returns-in-Bench-clause-calm g c = calm_so (g.S.Source.faults c.args.log.now) (g.S.Source.faults c.args.log.now) c.answer_bench.result refl

pub invariant_of-means : goal.invariant_of-means
invariant_of-means g c =
    let within = question_workers c.requires.asks.0 c.args.question c.requires.asks.1 in
    record { some = within.0; few = within.1 }

pub invariant_of-means-in-Bench : goal.invariant_of-means-in-Bench
invariant_of-means-in-Bench g c =
    let within = question_workers c.requires.asks.0 c.args.question c.requires.asks.1 in
    record { some = within.0; few = within.1 }
