use Rattle.std.proofs.Common.{◌≡◌, ◌∙◌, ◌-◌, ◌<◌, length, get_or, ap, sym, arith, subst}
use Rattle.std.specs.Prelude.{ℕ}
use Rattle.event_log.specs.declared.log.Event.{Event}
use Rattle.vector_clock.proofs.Placing.{procs_are, own_len, read_place, clock_at, clock_width, rows_among, clock_among_is, width_among}
use Rattle.vector_clock.proofs.batch_clocks.BatchClocks.clock.Goals as goal

pub bounds-self-inside-place : goal.bounds-self-inside-place
bounds-self-inside-place c =
    let placed = c.self.invariant.placed (grind (arith, c.is_empty.ensures, c.if-is_empty.false)) in
    let places = c.self.inside.places.items in
    let len = own_len c.self.inside.procs c.self.inside.batch.now places c.args.self.now c.args.process placed c.self.view_is in
    let there : c.args.process < length places = omega (arith, c.requires.process, placed.count, procs_are _ _ _ c.self.view_is) in
    let read = read_place places c.args.process c.index.result.now (c.args.position - 1) c.get-place.result.now there c.index.ensures (omega (arith, len, c.requires.first, c.requires.last)) c.get-place.ensures.indexed in
    omega (arith, read, placed.within c.args.process (c.args.position - 1) (omega (arith, len, c.requires.first, c.requires.last)))

pub returns-clause-clock : goal.returns-clause-clock
returns-clause-clock c =
    let placed = c.self.invariant.placed (grind (arith, c.is_empty.ensures, c.if-is_empty.false)) in
    let batch = c.self.inside.batch.now in
    let places = c.self.inside.places.items in
    let len = own_len c.self.inside.procs batch places c.args.self.now c.args.process placed c.self.view_is in
    let there : c.args.process < length places = omega (arith, c.requires.process, placed.count, procs_are _ _ _ c.self.view_is) in
    let read = read_place places c.args.process c.index.result.now (c.args.position - 1) c.get-place.result.now there c.index.ensures (omega (arith, len, c.requires.first, c.requires.last)) c.get-place.ensures.indexed in
    c.as_slice.ensures ∙ ap (λ (x : Event). x.clock) (sym c.index-self-place.is) ∙ clock_at c.self.inside.procs batch places c.args.self.now c.args.process c.args.position c.index-self-place.result placed c.self.view_is c.requires.first c.requires.last
    (subst (λ (n : ℕ). c.index-self-place.result ≡ get_or batch n c.index-self-place.result) read c.index-self-place.is)

pub returns-clause-width : goal.returns-clause-width
returns-clause-width c =
    let placed = c.self.invariant.placed (grind (arith, c.is_empty.ensures, c.if-is_empty.false)) in
    let batch = c.self.inside.batch.now in
    let places = c.self.inside.places.items in
    let len = own_len c.self.inside.procs batch places c.args.self.now c.args.process placed c.self.view_is in
    let there : c.args.process < length places = omega (arith, c.requires.process, placed.count, procs_are _ _ _ c.self.view_is) in
    let read = read_place places c.args.process c.index.result.now (c.args.position - 1) c.get-place.result.now there c.index.ensures (omega (arith, len, c.requires.first, c.requires.last)) c.get-place.ensures.indexed in
    ap length c.as_slice.ensures ∙ ap (λ (x : Event). length x.clock) (sym c.index-self-place.is) ∙ clock_width c.self.inside.procs batch places c.args.self.now c.args.process (c.args.position - 1) c.index-self-place.result placed c.self.invariant.each c.self.view_is (omega (arith, len, c.requires.first, c.requires.last))
    (subst (λ (n : ℕ). c.index-self-place.result ≡ get_or batch n c.index-self-place.result) read c.index-self-place.is)

pub clock_among-requires-clause-last : goal.clock_among-requires-clause-last
clock_among-requires-clause-last c = omega (arith, c.requires.last, ap length (rows_among c.self.inside.procs c.self.inside.batch.now c.args.self.now c.args.process c.self.invariant.each c.self.view_is))

pub returns-then-is_empty-clause-clock : goal.returns-then-is_empty-clause-clock
returns-then-is_empty-clause-clock c = c.clock_among.ensures ∙ clock_among_is c.self.inside.procs c.self.inside.batch.now c.args.self.now c.args.process c.args.position c.self.invariant.each c.self.view_is c.requires.first

pub returns-then-is_empty-clause-width : goal.returns-then-is_empty-clause-width
returns-then-is_empty-clause-width c =
    ap length c.clock_among.ensures ∙ width_among c.self.inside.procs c.self.inside.batch.now c.args.self.now c.args.process c.args.position c.self.invariant.each c.self.view_is c.requires.first c.requires.last
