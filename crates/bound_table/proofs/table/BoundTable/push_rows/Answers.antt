use Rattle.std.proofs.Common.{rules, arith, ap, ◌≡◌, ◌+◌, ◌*◌, ◌≤◌, ◌∙◌, ◌++◌, ℕ, List, length, sum, slice_range}
use Rattle.std.proofs.lemmas.Result.{on_ok_weaker}
use Rattle.std.proofs.Math.Nat.{mul-le-mul_left}
use Rattle.pull_system.specs.Rows.{place_of}
use Rattle.bound_table.proofs.table.BoundTable.push_rows.Goals as goal

pub overflow_add-end : goal.overflow_add-end
overflow_add-end c =
    let lens : c.shape.result.now ≡ c.args.self.now.system.lens = search rules in
    omega (arith, c.requires.rows, c.procs-procs.ensures.shape.events, ap sum lens)

pub push_words-requires-clause-first : goal.push_words-requires-clause-first
push_words-requires-clause-first c =
    let less : c.args.first ≤ c.args.first + c.args.count = omega arith in
    omega (arith, mul-le-mul_left c.procs-procs.result less)

pub push_words-requires-clause-end : goal.push_words-requires-clause-end
push_words-requires-clause-end c =
    let lens : List ℕ = c.args.self.now.system.lens in
    let procs : c.procs-procs.result ≡ length lens = search rules in
    omega (arith, mul-le-mul_left (length lens) c.requires.rows, ap (λ n. (c.args.first + c.args.count) * n) procs)

pub returns-clause-words : goal.returns-clause-words
returns-clause-words c =
    let lens : List ℕ = c.args.self.now.system.lens in
    let procs : c.procs-procs.result ≡ length lens = search rules in
    let last : ℕ = c.args.first + c.args.count in
    let start : c.args.first * c.procs-procs.result ≡ place_of lens c.args.first 0 = omega (arith, ap (λ n. c.args.first * n) procs) in
    let end : last * c.procs-procs.result ≡ place_of lens last 0 = omega (arith, ap (λ n. last * n) procs) in
    let floor : List ℕ = c.push_words.new.seat.floor in
    on_ok_weaker c.push_words.result (λ read. read ∙ ap (λ n. c.args.words.now.items ++ slice_range floor n (last * c.procs-procs.result)) start ∙ ap (λ n. c.args.words.now.items ++ slice_range floor (place_of lens c.args.first 0) n) end) c.push_words.ensures.words
