use Rattle.bench_answers.proofs.bench.answer_bench.Given as goal

abbrev pub ghosts-bench_log : goal.ghosts-bench_log
ghosts-bench_log g a = record { name = a.blank.name; parts = a.blank.parts }
