use Rattle.std.proofs.Common.{◌≡◌, ℕ, ◌+◌, ◌*◌, ◌<◌, ◌≤◌, max, List, length, get_or, take, drop, set, ◌++◌, sum, sym, ap, ◌∙◌, subst, arith}
use Rattle.std.proofs.lemmas.List.{take_at, get_or_read}
use Rattle.pull_system.specs.Vector.{IsVector}
use Rattle.pull_system.specs.System.{IsLeastFrom}
use Rattle.pull_system.specs.Rows.{start_of, row_at}
use Rattle.pull_system.proofs.Starts.{start_of-vector}
use Rattle.pull_system.proofs.Sums.{component_le}
use Rattle.layer_rows.proofs.Settling.{row_ends, raised_more, start_below, raised_least, raised_others}
use Rattle.layer_rows.proofs.slice_making.settle_row.Goals as goal

pub least-requires : goal.least-requires
least-requires g c =
    let lens : List ℕ = c.args.system.now.lens in
    let start : c.deref_mut.result.now ≡ start_of lens c.args.row = c.deref_mut.ensures.value ∙ c.in_ok-vector.ensures.items ∙ c.row.ensures.words
    ∙ ap (λ (ls : List ℕ). row_at ls c.args.rows.now.words c.args.row) c.requires.lens ∙ c.requires.start in
    subst (IsVector lens) (sym start) (start_of-vector lens c.args.row)

pub raise-requires-clause-value : goal.raise-requires-clause-value
raise-requires-clause-value g c =
    let lens : List ℕ = c.args.system.now.lens in
    let start : c.deref_mut.result.now ≡ start_of lens c.args.row = c.deref_mut.ensures.value ∙ c.in_ok-vector.ensures.items ∙ c.row.ensures.words
    ∙ ap (λ (ls : List ℕ). row_at ls c.args.rows.now.words c.args.row) c.requires.lens ∙ c.requires.start in
    let least : IsLeastFrom c.args.system.now (start_of lens c.args.row) c.least.new.vector = subst (λ (s : List ℕ). IsLeastFrom c.args.system.now s c.least.new.vector) start c.least.ensures.least in
    let all : take c.in_ok-vector.vector.len (c.least.new.vector ++ drop (length c.least.new.vector) c.in_ok-vector.vector.items) ≡ c.least.new.vector =
    take_at c.least.new.vector (drop (length c.least.new.vector) c.in_ok-vector.vector.items) c.in_ok-vector.vector.len
    (omega (arith, least.closed.vector.size, c.row.ensures.size, ap length c.requires.lens, c.in_ok-vector.ensures.len)) in
    let lt : c.loop-process.process < length lens = omega (arith, c.loop-process-test.true, c.procs-process-end.ensures.count, ap length c.shape.ensures.shape) in
    let read = get_or_read _ c.loop-process.process c.index.result.now (omega (arith, ap length all, least.closed.vector.size, lt)) c.index.ensures 0 in
    omega (arith, read, ap (λ (v : List ℕ). get_or v c.loop-process.process 0) all, least.closed.vector.within c.loop-process.process, component_le lens c.loop-process.process, c.procs-process-end.ensures.shape.events, ap sum c.shape.ensures.shape)

pub loop-process-preserved : goal.loop-process-preserved
loop-process-preserved g c =
    let lens : List ℕ = c.args.system.now.lens in
    let start : c.deref_mut.result.now ≡ start_of lens c.args.row = c.deref_mut.ensures.value ∙ c.in_ok-vector.ensures.items ∙ c.row.ensures.words
    ∙ ap (λ (ls : List ℕ). row_at ls c.args.rows.now.words c.args.row) c.requires.lens ∙ c.requires.start in
    let least : IsLeastFrom c.args.system.now (start_of lens c.args.row) c.least.new.vector = subst (λ (s : List ℕ). IsLeastFrom c.args.system.now s c.least.new.vector) start c.least.ensures.least in
    let all : take c.in_ok-vector.vector.len (c.least.new.vector ++ drop (length c.least.new.vector) c.in_ok-vector.vector.items) ≡ c.least.new.vector =
    take_at c.least.new.vector (drop (length c.least.new.vector) c.in_ok-vector.vector.items) c.in_ok-vector.vector.len
    (omega (arith, least.closed.vector.size, c.row.ensures.size, ap length c.requires.lens, c.in_ok-vector.ensures.len)) in
    let lt : c.loop-process.process < length lens = omega (arith, c.loop-process-test.true, c.procs-process-end.ensures.count, ap length c.shape.ensures.shape) in
    let read = get_or_read _ c.loop-process.process c.index.result.now (omega (arith, ap length all, least.closed.vector.size, lt)) c.index.ensures 0 in
    let ends = row_ends (length lens) (sum lens + 1) c.args.row (omega (arith, c.requires.row)) in
    let size : length c.args.rows.now.words ≡ (sum lens + 1) * length lens =
    subst (λ (ls : List ℕ). length c.args.rows.now.words ≡ (sum ls + 1) * length ls) c.requires.lens c.shape-shape.ensures.rows.size in
    record {
      lens = c.raise.ensures.lens ∙ c.loop-process.invariant.lens;
      raised = raised_more (length lens) c.args.row c.args.rows.now.words _ c.loop-process.rows.words c.raise.new.self.words c.loop-process.process c.index.result.now
          c.loop-process.invariant.raised (omega (arith, ends, size, lt, c.loop-process.invariant.raised.size)) read
          (omega (arith, start_below c.args.system.now c.args.row c.args.rows.now.words c.least.new.vector c.loop-process.process c.requires.start least lt, read, ap (λ (v : List ℕ). get_or v c.loop-process.process 0) all))
          (c.raise.ensures.words ∙ ap (λ (ls : List ℕ). set c.loop-process.rows.words (c.args.row * length ls + c.loop-process.process)
          (max (get_or c.loop-process.rows.words (c.args.row * length ls + c.loop-process.process) 0) c.index.result.now)) c.loop-process.invariant.lens);
    }

pub returns-clause-least : goal.returns-clause-least
returns-clause-least g c =
    let lens : List ℕ = c.args.system.now.lens in
    let start : c.deref_mut.result.now ≡ start_of lens c.args.row = c.deref_mut.ensures.value ∙ c.in_ok-vector.ensures.items ∙ c.row.ensures.words
    ∙ ap (λ (ls : List ℕ). row_at ls c.args.rows.now.words c.args.row) c.requires.lens ∙ c.requires.start in
    let least : IsLeastFrom c.args.system.now (start_of lens c.args.row) c.least.new.vector = subst (λ (s : List ℕ). IsLeastFrom c.args.system.now s c.least.new.vector) start c.least.ensures.least in
    let all : take c.in_ok-vector.vector.len (c.least.new.vector ++ drop (length c.least.new.vector) c.in_ok-vector.vector.items) ≡ c.least.new.vector =
    take_at c.least.new.vector (drop (length c.least.new.vector) c.in_ok-vector.vector.items) c.in_ok-vector.vector.len
    (omega (arith, least.closed.vector.size, c.row.ensures.size, ap length c.requires.lens, c.in_ok-vector.ensures.len)) in
    let size : length c.args.rows.now.words ≡ (sum lens + 1) * length lens =
    subst (λ (ls : List ℕ). length c.args.rows.now.words ≡ (sum ls + 1) * length ls) c.requires.lens c.shape-shape.ensures.rows.size in
    raised_least c.args.system.now c.args.row c.args.rows.now.words _ c.loop-process.rows.words c.loop-process.process c.loop-process.invariant.raised size c.requires.row
    (omega (arith, c.loop-process-test.false, c.procs-process-end.ensures.count, ap length c.shape.ensures.shape))
    (subst (IsLeastFrom c.args.system.now (start_of lens c.args.row)) (sym all) least)

pub returns-clause-others : goal.returns-clause-others
returns-clause-others g c =
    let lens : List ℕ = c.args.system.now.lens in
    let size : length c.args.rows.now.words ≡ (sum lens + 1) * length lens =
    subst (λ (ls : List ℕ). length c.args.rows.now.words ≡ (sum ls + 1) * length ls) c.requires.lens c.shape-shape.ensures.rows.size in
    λ other le ne. raised_others lens c.args.row other c.args.rows.now.words _ c.loop-process.rows.words c.loop-process.process c.loop-process.invariant.raised size
    (omega (arith, c.loop-process.auto.process-end, c.procs-process-end.ensures.count, ap length c.shape.ensures.shape)) le ne
