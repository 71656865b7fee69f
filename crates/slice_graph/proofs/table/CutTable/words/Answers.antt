use Rattle.std.proofs.Common.{◌≡◌, ℕ, ◌+◌, ◌-◌, ◌*◌, length, take, drop, get_or, sym, subst, arith, rules}
use Rattle.slice_graph.specs.Views.{no_row}
use Rattle.slice_graph.specs.Words.{filled}
use Rattle.slice_graph.proofs.Words.{rows_are, words_fit, words_are}
use Rattle.slice_graph.proofs.table.CutTable.words.Goals as goal

pub overflow_mul-start : goal.overflow_mul-start
overflow_mul-start c =
    let len = rows_are c.self.inside.shape c.self.inside.len c.self.inside.words.items c.args.self.now c.self.view_is in
    let within = words_fit c.self.inside.shape c.self.inside.absent.items c.self.inside.len c.self.inside.words.items c.args.row c.self.invariant (omega (arith, len, c.requires)) in
    grind (arith, within, c.self.inside.words.small)

pub overflow_add-result : goal.overflow_add-result
overflow_add-result c =
    let len = rows_are c.self.inside.shape c.self.inside.len c.self.inside.words.items c.args.self.now c.self.view_is in
    let within = words_fit c.self.inside.shape c.self.inside.absent.items c.self.inside.len c.self.inside.words.items c.args.row c.self.invariant (omega (arith, len, c.requires)) in
    grind (arith, within, c.self.inside.words.small)

pub offset_bounds-deref-start : goal.offset_bounds-deref-start
offset_bounds-deref-start c =
    let len = rows_are c.self.inside.shape c.self.inside.len c.self.inside.words.items c.args.self.now c.self.view_is in
    let within = words_fit c.self.inside.shape c.self.inside.absent.items c.self.inside.len c.self.inside.words.items c.args.row c.self.invariant (omega (arith, len, c.requires)) in
    grind (arith, within, c.self.inside.words.small)

pub slice_bounds-result-end : goal.slice_bounds-result-end
slice_bounds-result-end c =
    let len = rows_are c.self.inside.shape c.self.inside.len c.self.inside.words.items c.args.self.now c.self.view_is in
    let within = words_fit c.self.inside.shape c.self.inside.absent.items c.self.inside.len c.self.inside.words.items c.args.row c.self.invariant (omega (arith, len, c.requires)) in
    search rules

pub returns-clause-words : goal.returns-clause-words
returns-clause-words c =
    let len = rows_are c.self.inside.shape c.self.inside.len c.self.inside.words.items c.args.self.now c.self.view_is in
    let w : c.len-width.result ≡ length c.self.inside.absent.items = search rules in
    rw c.deref.ensures.value (subst (λ (k : ℕ). take (c.args.row * k + k - c.args.row * k) (drop (c.args.row * k) c.self.inside.words.items) ≡ filled c.args.self.now.lens (get_or c.args.self.now.rows c.args.row no_row))
    (sym w) (words_are c.self.inside.shape c.self.inside.absent.items c.self.inside.len c.self.inside.words.items c.args.self.now c.args.row c.self.view_is c.self.invariant (omega (arith, len, c.requires))))
