use Rattle.std.proofs.Common.{rules, arith, ◌≡◌, ◌∙◌, ◌<◌, ℕ, List, Some, true, length, sym, ap, subst}
use Rattle.pull_system.specs.System.{SystemView}
use Rattle.pull_system.specs.Rows.{RowsView}
use Rattle.bound_table.specs.Firm.{FirmView, AreOwnRows, HasReachedFirm}
use Rattle.bound_table.specs.declared.seat.Key.{Key}
use Rattle.bound_table.specs.declared.seat.Begins.{Begins}
use Rattle.bound_table.specs.declared.seat.Begins.TheVariants.{Own}
use Rattle.bound_table.specs.inside.Rule.{HasWords, KeepsOwn, begun_words, word_count}
use Rattle.bound_table.proofs.Own.{own_firm}
use Rattle.bound_table.proofs.table.BoundTable.firm.Goals as goal

pub invariant_of-table : goal.invariant_of-table
invariant_of-table c =
    let system : SystemView = c.args.system in
    let rows : RowsView = c.args.rows in
    let begins : Begins = c.in_ok-table.table.shared.key.begins in
    let begins_is : begins ≡ Own c.of-3.result = ap (λ (k : Key). k.begins) c.in_ok-table.ensures.5 in
    let value : rows ≡ c.of-3.result.value = search rules in
    let own : AreOwnRows system rows.words = c.requires.own in
    let size : length rows.words ≡ word_count system.lens = c.requires.bounds.size in
    let all : c.all-firm.result ≡ record { firsts = system.lens; bottom = true } = c.all-firm.ensures ∙ ap (λ (lens : List ℕ). let f : FirmView = record { firsts = lens; bottom = true } in f) c.shape.ensures.shape in
    let reached : HasReachedFirm system rows.words c.all-firm.result = subst (HasReachedFirm system rows.words) (sym all) (own_firm system rows.words own.least) in
    let begun : rows.words ≡ begun_words begins = ap (λ (r : RowsView). r.words) value ∙ ap begun_words (sym begins_is) in
    let some : 0 < c.in_ok-table.table.shared.table_id.words = omega (arith, c.in_ok-table.ensures.0) in
    let kept : KeepsOwn system (Own c.of-3.result) (Some rows) = (value, own, size) in (
      search rules,
      subst (λ (b : Begins). HasWords b system.lens c.in_ok-table.table.shared.table_id.words) (sym begins_is) some,
      c.shape.ensures.system.shape,
      search rules,
      subst (λ (words : List ℕ). HasReachedFirm system words c.all-firm.result) begun reached,
      subst (λ (b : Begins). KeepsOwn system b (Some rows)) (sym begins_is) kept,
    )
