use Rattle.std.proofs.Common.{rules, arith, refl, ap, ◌≡◌, ◌∙◌, ◌++◌, ℕ, List, length, slice_range, sym, subst}
use Rattle.pota_base.specs.Shape.{IsShape}
use Rattle.pull_system.specs.System.{SystemView}
use Rattle.bound_table.specs.inside.Rule.{KeepsOwn}
use Rattle.bound_table.proofs.Own.{own_floor}
use Rattle.std.proofs.lemmas.List.{length-take-le}
use Rattle.bound_table.proofs.Allowed.{bounds_along}
use Rattle.bound_table.proofs.Claiming.{keeps_refl, keeps_trans}
use Rattle.bound_table.proofs.Floors.{within_trans}
use Rattle.bound_table.proofs.Reading.{read_more, range_none}
use Rattle.bound_table.proofs.table.BoundTable.push_words.Goals as goal

pub loop-next-init : goal.loop-next-init
loop-next-init c = record {
  keeps = keeps_refl _;
  read = range_none c.args.seat.now.floor c.args.words.now.items c.args.first c.args.first refl;
  from_first = omega arith;
  few = c.requires.first;
  rises = record { each = λ i. omega arith };
  bounds = bounds_along _ _ _ _ (search rules) (search rules) c.bounds.ensures;
}

pub loop-next-preserved : goal.loop-next-preserved
loop-next-preserved c =
    let inv = c.loop-next.invariant in
    let from = c.load_from.ensures in
    let next : ℕ = c.loop-next.next in
    let size : ℕ = c.min-size.result in
    let width : length c.load_from.new.into ≡ size = omega (arith, c.load_from.auto.into, length-take-le size c.loop-next.piece (omega (arith, c.min-size.array_long))) in record {
      keeps = keeps_trans _ _ _ inv.keeps from.keeps;
      read = read_more c.args.first next size _ _ c.args.words.now.items c.loop-next.words.items c.load_from.new.into _ inv.read inv.from_first (omega (arith, c.requires.end, from.bounds.size)) (omega (arith, from.bounds.size, inv.bounds.size)) from.before width from.read c.in_ok-extend_from_slice-2.ensures.items;
      from_first = omega (arith, inv.from_first);
      few = omega arith;
      rises = within_trans _ _ _ inv.rises from.rises;
      bounds = from.bounds;
    }

pub returns-clause-words : goal.returns-clause-words
returns-clause-words c =
    let inv = c.loop-next.invariant in
    let last : c.loop-next.next ≡ c.args.end = omega arith in
    inv.read ∙ ap (λ n. c.args.words.now.items ++ slice_range c.loop-next.seat.floor c.args.first n) last

pub returns-in-Some-clause-words : goal.returns-in-Some-clause-words
returns-in-Some-clause-words c =
    let system : SystemView = c.args.self.now.system in
    let begins = c.self.inside.table.shared.key.begins in
    let kept : KeepsOwn system begins c.self.inside.own = let P : SystemView → Type 0 = λ s. KeepsOwn s begins c.self.inside.own in subst P (search rules) c.self.invariant.5 in
    let shape : IsShape system.lens = let P : List ℕ → Type 0 = IsShape in subst P (search rules) c.self.invariant.2 in
    let same : c.args.seat.now.floor ≡ c.in-Some.rows.words = own_floor system begins c.self.inside.own c.in-Some.rows c.args.self.now.begun c.args.seat.now.floor c.in-Some.is kept (search rules) shape c.reached.ensures.bounds c.reached.ensures.begun in
    c.in_ok-extend_from_slice.ensures.items ∙ ap (λ (words : List ℕ). c.args.words.now.items ++ slice_range words c.args.first c.args.end) (c.as_words.ensures.words ∙ sym same)
