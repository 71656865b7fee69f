use Rattle.std.proofs.Common.{◌≡◌, ◌+◌, ◌-◌, ◌≤◌, ◌<◌, ◌∙◌, sym, subst, ap, length, get_or, set, arith}
use Rattle.std.specs.Prelude.{List, ℕ}
use Rattle.std.proofs.lemmas.Grind.{get_or_default_zero}
use Rattle.pota_base.specs.Shape.{IsShape}
use Rattle.pota_base.proofs.Lengths.{starts_raised}
use Rattle.pota_base.proofs.shape.Shape.raise.Goals as goal

pub invariant_of-self : goal.invariant_of-self
invariant_of-self c =
    let lens = c.self.inside.lens.items in
    let p = c.args.process in
    let there : p < length lens = omega (arith, c.requires.process, ap length c.self.view_is) in
    let read : c.index.result.now ≡ get_or lens p 0 = c.index.ensures ∙ get_or_default_zero lens p c.index.result.now there in
    let le : get_or lens p 0 ≤ c.args.len = omega (arith, c.requires.more, ap (λ (xs : List ℕ). get_or xs p 0) c.self.view_is) in (
      subst (λ (xs : List ℕ). IsShape (set xs p c.args.len)) (sym c.self.view_is) c.requires.shape,
      starts_raised lens c.self.inside.starts.items c.raise_from.new.starts.items p c.args.len c.self.invariant.1 there le c.raise_from.ensures.count c.raise_from.ensures.below
          (λ k f. λ b. c.raise_from.ensures.above k f b ∙ ap (λ (n : ℕ). get_or c.self.inside.starts.items k 0 + (c.args.len - n)) read),
    )
