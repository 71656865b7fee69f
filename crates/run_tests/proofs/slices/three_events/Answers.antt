use Rattle.std.proofs.Common.{◌≡◌, ℕ, ◌+◌, ◌∙◌, true, [], ◌∷◌, length, sum, refl, sym, ap, subst, arith}
use Rattle.run_model.specs.Cut.{Cut, Clocks, lengths}
use Rattle.run_model.specs.Consistent.{IsOrder, clock}
use Rattle.meaning_laws.proofs.ListedSlices.{ordered, ordered_is}
use Rattle.event_log.specs.declared.log.Event.{Event}
use Rattle.causal_order.specs.Growth.{MayExtend, with_row, with_clocks}
use Rattle.causal_order.proofs.Growing.{length-with_clocks}
use Rattle.run_tests.proofs.slices.three_events.Goals as goal

abbrev no_events : Clocks
no_events = [] ∷ [] ∷ []

abbrev the_order : Clocks
the_order = ((1 ∷ 0 ∷ []) ∷ (2 ∷ 0 ∷ []) ∷ []) ∷ ((1 ∷ 1 ∷ []) ∷ []) ∷ []

is_ordered : ordered the_order ≡ true
unfolding lengths clock
is_ordered = refl

few_events : sum (lengths no_events) + 3 ≡ 3
unfolding lengths
few_events = refl

row_same : (o o' : Clocks) (p p' : ℕ) (c c' : Cut) → o ≡ o' → p ≡ p' → c ≡ c' → with_row o p c ≡ with_row o' p' c'
row_same o o' p p' c c' orders processes clocks = ap (λ (x : Clocks). with_row x p c) orders ∙ ap (λ (x : ℕ). with_row o' x c) processes ∙ ap (λ (x : Cut). with_row o' p' x) clocks

-- the event is of this process and has this clock
record IsEventWith (process : ℕ) (counts : Cut) (e : Event) : Type 0 where
  here : e.process ≡ process
  past : e.clock ≡ counts

clocks_are : (first second other : Event) → IsEventWith 0 (1 ∷ 0 ∷ []) first → IsEventWith 0 (2 ∷ 0 ∷ []) second → IsEventWith 1 (1 ∷ 1 ∷ []) other
    → with_clocks no_events (first ∷ second ∷ other ∷ []) ≡ the_order
unfolding with_clocks
clocks_are first second other a b d =
    row_same _ (with_row (with_row no_events 0 (1 ∷ 0 ∷ [])) 0 (2 ∷ 0 ∷ [])) _ 1 _ (1 ∷ 1 ∷ []) (row_same _ (with_row no_events 0 (1 ∷ 0 ∷ [])) _ 0 _ (2 ∷ 0 ∷ []) (row_same _ no_events _ 0 _ (1 ∷ 0 ∷ []) refl a.here a.past) b.here b.past) d.here d.past

may_extend : (o : Clocks) (first second other : Event) → o ≡ no_events → IsEventWith 0 (1 ∷ 0 ∷ []) first → IsEventWith 0 (2 ∷ 0 ∷ []) second → IsEventWith 1 (1 ∷ 1 ∷ []) other
    → MayExtend o (first ∷ second ∷ other ∷ [])
may_extend o first second other none a b d = subst (λ (x : Clocks). MayExtend x (first ∷ second ∷ other ∷ [])) (sym none) (record {
  each = (
    record { process = omega (arith, a.here); width = ap length a.past },
    (record { process = omega (arith, b.here); width = ap length b.past }, (record { process = omega (arith, d.here); width = ap length d.past }, tt)),
  );
  few = omega (arith, few_events);
  order = subst IsOrder (sym (clocks_are first second other a b d)) (ordered_is the_order is_ordered);
})

pub extend-requires : goal.extend-requires
extend-requires c = may_extend c.in_ok-order.order c.in_ok-first.first c.in_ok-second.second c.in_ok-other.other c.in_ok-order.ensures
    (record { here = c.in_ok-first.ensures.0; past = c.in_ok-first.ensures.1 })
    (record { here = c.in_ok-second.ensures.0; past = c.in_ok-second.ensures.1 })
    (record { here = c.in_ok-other.ensures.0; past = c.in_ok-other.ensures.1 })

pub returns : goal.returns
returns c = ap length c.in_ok-extend.ensures.ok ∙ length-with_clocks _ _ ∙ ap length c.in_ok-order.ensures
