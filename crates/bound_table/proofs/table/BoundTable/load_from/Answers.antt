use Rattle.std.proofs.Common.{rules, arith, refl, ◌∙◌, ◌+◌, ◌^◌, ◌<◌, ℕ, List, subst}
use Rattle.pota_base.specs.Shape.{IsShape}
use Rattle.pull_system.specs.System.{SystemView, IsSystem}
use Rattle.bound_table.specs.inside.Rule.{word_count}
use Rattle.bound_table.proofs.Claiming.{keeps_trans}
use Rattle.bound_table.proofs.Floors.{within_trans}
use Rattle.bound_table.proofs.Lends.{set_within}
use Rattle.bound_table.proofs.Moves.{few_words}
use Rattle.bound_table.proofs.Reading.{piece_next, word_kept}
use Rattle.bound_table.proofs.Seeing.{read_small}
use Rattle.bound_table.proofs.table.BoundTable.load_from.Goals as goal

pub overflow_add-first : goal.overflow_add-first
overflow_add-first c =
    let system : SystemView = c.args.self.now.system in
    let P : List ℕ → Type 0 = IsShape in
    omega (arith, c.requires.words, few_words system.lens (subst P (search rules) c.self.invariant.2))

pub overflow_cast-into : goal.overflow_cast-into
overflow_cast-into c =
    let system : SystemView = c.args.self.now.system in
    let there : c.args.first + c.loop-i.i < word_count system.lens = omega (arith, c.requires.words) in
    let P : SystemView → Type 0 = IsSystem in
    let small : c.load.result < 2 ^ 16 = read_small system (subst P (search rules) c.shape-shape.ensures.system) c.loop-i.seat.floor _ (c.args.first + c.loop-i.i) c.load.result c.load.ensures.bounds c.load.ensures.floor (omega (arith, there, c.loop-i.invariant.bounds.size)) in
    omega (arith, small)

pub loop-i-preserved : goal.loop-i-preserved
loop-i-preserved c =
    let system : SystemView = c.args.self.now.system in
    let inv = c.loop-i.invariant in
    let load = c.load.ensures in
    let there : c.args.first + c.loop-i.i < word_count system.lens = omega (arith, c.requires.words) in record {
      keeps = keeps_trans _ _ _ inv.keeps load.keeps;
      read = piece_next c.args.first c.loop-i.i c.load.result _ _ c.loop-i.into _ (omega (arith, there, inv.bounds.size)) (omega arith) load.floor refl inv.read;
      before = λ word below. word_kept (c.args.first + c.loop-i.i) c.load.result _ _ load.floor word (λ e. omega (arith, e, below)) ∙ inv.before word below;
      rises = within_trans _ _ _ inv.rises (set_within _ _ (c.args.first + c.loop-i.i) c.load.result load.floor load.rises);
      bounds = load.bounds;
    }
