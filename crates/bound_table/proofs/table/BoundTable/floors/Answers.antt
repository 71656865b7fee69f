use Rattle.std.proofs.Common.{rules, arith, ap, subst, ◌≡◌, ◌+◌, ◌*◌, ◌∙◌, ◌++◌, ℕ, List, IfOk, length, sum}
use Rattle.pull_system.specs.Rows.{RowsView, place_of}
use Rattle.pull_system.specs.System.{SystemView}
use Rattle.bound_table.specs.Kept.{rows_from}
use Rattle.bound_table.proofs.Reading.{range_all}
use Rattle.bound_table.proofs.table.BoundTable.floors.Goals as goal

abbrev rows_view : List ℕ → List ℕ → RowsView
rows_view lens words = record { lens = lens; words = words }

same_rows : (a b v w : List ℕ) → a ≡ b → v ≡ w → rows_view a v ≡ rows_view b w
same_rows a b v w lens words = ap (λ l. rows_view l v) lens ∙ ap (λ x. rows_view b x) words

pub returns-clause-rows : goal.returns-clause-rows
returns-clause-rows c =
    let system : SystemView = c.args.self.now.system in
    let lens : c.shape-shape.result.now ≡ system.lens = search rules in
    let count : c.events-count.result + 1 ≡ sum system.lens + 1 = omega (arith, c.events-count.ensures.count, ap sum lens) in
    let end : (sum system.lens + 1) * length system.lens ≡ place_of system.lens (0 + (c.events-count.result + 1)) 0 = omega (arith, ap (λ n. n * length system.lens) count) in
    let whole =
    c.in_ok-push_rows.ensures.words
    ∙ ap (λ xs. xs ++ rows_from system.lens c.push_rows.new.seat.floor 0 (c.events-count.result + 1)) c.in_ok-words.ensures.items
    ∙ range_all c.push_rows.new.seat.floor (place_of system.lens 0 0) _ (omega arith) (omega (arith, c.push_rows.ensures.bounds.size, end)) in
    let Q : RowsView → Type 0 = λ v. IfOk c.from_words.result (λ rows. rows ≡ v) in
    subst Q (same_rows _ _ _ _ lens whole) c.from_words.ensures
