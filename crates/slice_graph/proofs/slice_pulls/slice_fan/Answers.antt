use Rattle.std.proofs.Common.{◌≡◌, ◌+◌, ◌*◌, ◌<◌, ◌∙◌, ℕ, List, [], length, get_or, map, replicate, arith, refl, ap, sym, subst}
use Rattle.std.specs.List.{range_with_len}
use Rattle.std.proofs.lemmas.List.{map-id}
use Rattle.std.proofs.lemmas.List.FromFn.{length-map-range_with_len, get_or-map-range_with_len}
use Rattle.run_model.specs.Cut.{count}
use Rattle.pull_fans.specs.Fans.{FanView, AreTables}
use Rattle.slice_graph.specs.PullLists.{slice_entry, slice_table}
use Rattle.slice_graph.proofs.Words.{count-past_ends, length-past_ends}
use Rattle.slice_graph.proofs.RowByRow.{tables_none, tables_more, tables_block}
use Rattle.slice_graph.proofs.SlicePulls.{entry_within, entry_past}
use Rattle.slice_graph.proofs.EventWords.{block_small}
use Rattle.slice_graph.proofs.Fans.{fan_pulls, flat_ones, slice_row_small, past_row_small}
use Rattle.slice_graph.proofs.slice_pulls.slice_fan.Goals as goal

pub push_row-requires-clause-width : goal.push_row-requires-clause-width
push_row-requires-clause-width c =
    let v = c.args.slice.now in
    let n : ℕ = length v.lens in
    let procs : c.procs.result ≡ n = omega (arith, c.procs.ensures.count, ap length c.shape-shape.ensures.lens) in
    let made : c.in_ok-targets.targets ≡ map (λ k. k) (range_with_len 0 n) = c.in_ok-targets.ensures ∙ ap (λ (m : ℕ). range_with_len 0 m) procs ∙ sym (map-id (range_with_len 0 n)) in
    let first : c.in_ok-fan.fan.targets ≡ map (λ k. k) (range_with_len 0 n) = ap (λ (fan : FanView). fan.targets) c.in_ok-fan.ensures ∙ made in
    c.words.ensures.width ∙ sym (ap length first ∙ length-map-range_with_len (λ k. k) 0 n)

pub push_row-requires-clause-entries : goal.push_row-requires-clause-entries
push_row-requires-clause-entries c = slice_row_small c.args.slice.now c.shape-shape.ensures.rows c.args.source 0 c.words.result.now c.words.ensures.words

pub push_rows-requires-clause-all : goal.push_rows-requires-clause-all
push_rows-requires-clause-all c =
    let v = c.args.slice.now in
    let n : ℕ = length v.lens in
    let procs : c.procs.result ≡ n = omega (arith, c.procs.ensures.count, ap length c.shape-shape.ensures.lens) in
    let made : c.in_ok-targets.targets ≡ map (λ k. k) (range_with_len 0 n) = c.in_ok-targets.ensures ∙ ap (λ (m : ℕ). range_with_len 0 m) procs ∙ sym (map-id (range_with_len 0 n)) in
    let first : c.in_ok-fan.fan.targets ≡ map (λ k. k) (range_with_len 0 n) = ap (λ (fan : FanView). fan.targets) c.in_ok-fan.ensures ∙ made in
    let second : c.push_row.new.self.targets ≡ map (λ k. k) (range_with_len 0 n) = c.push_row.ensures.targets ∙ first in
    let size : length c.push_row.new.self.targets ≡ n = ap length second ∙ length-map-range_with_len (λ k. k) 0 n in
    record {
      count = refl;
      each = λ i there. ap (λ (ts : List ℕ). get_or ts i 0) second ∙ get_or-map-range_with_len (λ k. k) 0 n i i 0 (omega (arith, there, size)) (omega arith);
    }

pub push_rows-requires-clause-process : goal.push_rows-requires-clause-process
push_rows-requires-clause-process c =
    let v = c.args.slice.now in
    let n : ℕ = length v.lens in
    let procs : c.procs.result ≡ n = omega (arith, c.procs.ensures.count, ap length c.shape-shape.ensures.lens) in
    let made : c.in_ok-targets.targets ≡ map (λ k. k) (range_with_len 0 n) = c.in_ok-targets.ensures ∙ ap (λ (m : ℕ). range_with_len 0 m) procs ∙ sym (map-id (range_with_len 0 n)) in
    let first : c.in_ok-fan.fan.targets ≡ map (λ k. k) (range_with_len 0 n) = ap (λ (fan : FanView). fan.targets) c.in_ok-fan.ensures ∙ made in
    let second : c.push_row.new.self.targets ≡ map (λ k. k) (range_with_len 0 n) = c.push_row.ensures.targets ∙ first in
    let size : length c.push_row.new.self.targets ≡ n = ap length second ∙ length-map-range_with_len (λ k. k) 0 n in
    omega (arith, size, c.push_row.ensures.source, ap (λ (fan : FanView). fan.src) c.in_ok-fan.ensures, c.requires)

pub push_rows-requires-clause-size : goal.push_rows-requires-clause-size
push_rows-requires-clause-size c =
    let v = c.args.slice.now in
    let n : ℕ = length v.lens in
    let procs : c.procs.result ≡ n = omega (arith, c.procs.ensures.count, ap length c.shape-shape.ensures.lens) in
    let made : c.in_ok-targets.targets ≡ map (λ k. k) (range_with_len 0 n) = c.in_ok-targets.ensures ∙ ap (λ (m : ℕ). range_with_len 0 m) procs ∙ sym (map-id (range_with_len 0 n)) in
    let first : c.in_ok-fan.fan.targets ≡ map (λ k. k) (range_with_len 0 n) = ap (λ (fan : FanView). fan.targets) c.in_ok-fan.ensures ∙ made in
    let second : c.push_row.new.self.targets ≡ map (λ k. k) (range_with_len 0 n) = c.push_row.ensures.targets ∙ first in
    let size : length c.push_row.new.self.targets ≡ n = ap length second ∙ length-map-range_with_len (λ k. k) 0 n in
    let len : c.len_of-len.result ≡ count v.lens c.args.source = c.len_of-len.ensures.len ∙ ap (λ (lens : List ℕ). get_or lens c.args.source 0) c.shape-shape.ensures.lens in
    c.words_of_events.ensures.size ∙ ap (λ (k : ℕ). k * n) (sym len) ∙ ap (λ (k : ℕ). c.len_of-len.result * k) (sym size)

pub push_rows-requires-clause-entries : goal.push_rows-requires-clause-entries
push_rows-requires-clause-entries c =
    let v = c.args.slice.now in
    block_small v c.shape-shape.ensures.rows c.args.source c.words_of_events.result.now (omega (arith, c.shape-shape.ensures.rows.cuts.shape.some)) c.words_of_events.ensures

pub push_row-requires-2-clause-width : goal.push_row-requires-2-clause-width
push_row-requires-2-clause-width c =
    let v = c.args.slice.now in
    let n : ℕ = length v.lens in
    let procs : c.procs.result ≡ n = omega (arith, c.procs.ensures.count, ap length c.shape-shape.ensures.lens) in
    let made : c.in_ok-targets.targets ≡ map (λ k. k) (range_with_len 0 n) = c.in_ok-targets.ensures ∙ ap (λ (m : ℕ). range_with_len 0 m) procs ∙ sym (map-id (range_with_len 0 n)) in
    let first : c.in_ok-fan.fan.targets ≡ map (λ k. k) (range_with_len 0 n) = ap (λ (fan : FanView). fan.targets) c.in_ok-fan.ensures ∙ made in
    let second : c.push_row.new.self.targets ≡ map (λ k. k) (range_with_len 0 n) = c.push_row.ensures.targets ∙ first in
    let size : length c.push_row.new.self.targets ≡ n = ap length second ∙ length-map-range_with_len (λ k. k) 0 n in
    ap length c.absent.ensures ∙ length-past_ends v.lens ∙ sym (ap length c.push_rows.ensures.targets ∙ size)

pub push_row-requires-2-clause-entries : goal.push_row-requires-2-clause-entries
push_row-requires-2-clause-entries c = past_row_small c.args.slice.now.lens c.shape-shape.ensures.rows.cuts.shape.events c.absent.result.now c.absent.ensures

pub returns : goal.returns
returns c =
    let v = c.args.slice.now in
    let n : ℕ = length v.lens in
    let procs : c.procs.result ≡ n = omega (arith, c.procs.ensures.count, ap length c.shape-shape.ensures.lens) in
    let made : c.in_ok-targets.targets ≡ map (λ k. k) (range_with_len 0 n) = c.in_ok-targets.ensures ∙ ap (λ (m : ℕ). range_with_len 0 m) procs ∙ sym (map-id (range_with_len 0 n)) in
    let first : c.in_ok-fan.fan.targets ≡ map (λ k. k) (range_with_len 0 n) = ap (λ (fan : FanView). fan.targets) c.in_ok-fan.ensures ∙ made in
    let i : ℕ = c.args.source in
    let f = slice_entry v i in
    let len : c.len_of-len.result ≡ count v.lens i = c.len_of-len.ensures.len ∙ ap (λ (lens : List ℕ). get_or lens i 0) c.shape-shape.ensures.lens in
    let none : AreTables f n 0 c.in_ok-fan.fan.tables = tables_none n c.in_ok-fan.fan.tables
    (ap (λ (fan : FanView). fan.tables) c.in_ok-fan.ensures ∙ ap (λ (m : ℕ). replicate m []) (ap length made ∙ length-map-range_with_len (λ k. k) 0 n)) f in
    let one : AreTables f n 1 c.push_row.new.self.tables = tables_more f n 0 c.words.result.now _ _ none c.in_ok-push_row.ensures.row
    (λ j there. ap (λ (xs : List ℕ). get_or xs j 0) c.words.ensures.words ∙ sym (entry_within v i j 0 (omega arith))) in
    let all : AreTables f n (1 + c.len_of-len.result) c.push_rows.new.self.tables = tables_block f n 1 c.len_of-len.result c.words_of_events.result.now _ _ one c.in_ok-push_rows.ensures.rows
    (λ x j less there.
    let within : x < count v.lens i = omega (arith, less, len) in
    let next : x + 1 ≡ 1 + x = omega arith in
    c.words_of_events.ensures.each x j within there ∙ sym (entry_within v i j (x + 1) (omega (arith, within))) ∙ ap (f j) next) in
    let past : count v.lens i < 1 + c.len_of-len.result = omega (arith, len) in
    let last : AreTables f n (1 + c.len_of-len.result + 1) c.push_row-2.new.self.tables = tables_more f n (1 + c.len_of-len.result) c.absent.result.now _ _ all c.in_ok-push_row-2.ensures.row
    (λ j there. ap (λ (xs : List ℕ). get_or xs j 0) c.absent.ensures ∙ count-past_ends v.lens j there ∙ sym (entry_past v i j (1 + c.len_of-len.result) past)) in
    let end : 1 + c.len_of-len.result + 1 ≡ count v.lens i + 2 = omega (arith, len) in
    let P : ℕ → Type 0 = λ m. AreTables f n m c.push_row-2.new.self.tables in
    fan_pulls c.push_row-2.new.self i n (count v.lens i + 2) (λ k. k) f
    (c.push_row-2.ensures.source ∙ c.push_rows.ensures.source ∙ c.push_row.ensures.source ∙ ap (λ (fan : FanView). fan.src) c.in_ok-fan.ensures)
    (c.push_row-2.ensures.targets ∙ c.push_rows.ensures.targets ∙ c.push_row.ensures.targets ∙ first) (subst P end last)
    ∙ sym (flat_ones (λ j. record { src = i; dst = j; table = slice_table v i j }) 0 n)
