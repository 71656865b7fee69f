use Rattle.std.proofs.Common.{◌≡◌, ◌∙◌, ap, sym, subst, length}
use Rattle.std.specs.Prelude.{ℕ, List, Some, map}
use Rattle.std.specs.List.{AllByRecursion}
use Rattle.event_log.specs.States.{with_batch}
use Rattle.causal_order.proofs.Growing.{length-lengths}
use Rattle.vector_clock.specs.Events.{Events, EventFits, clocks_of}
use Rattle.vector_clock.specs.inside.Events.{raised}
use Rattle.vector_clock.specs.Faults.{batch_fault}
use Rattle.vector_clock.specs.declared.messages.Messages.{Messages}
use Rattle.vector_clock.specs.Admitted.{HasAdmitted, HasMessages}
use Rattle.vector_clock.proofs.Counting.{length-raised, lens_raised}
use Rattle.vector_clock.proofs.Admitting.{on_err, taken_is, nothing_admitted, none_in, other_fault}
use Rattle.vector_clock.proofs.clocks.Clocks.admit.Goals as goal

pub returns-then-is_empty-clause-ok : goal.returns-then-is_empty-clause-ok
returns-then-is_empty-clause-ok c = λ events has. nothing_admitted events c.args.batch.now c.args.self.now (none_in c.args.batch.now (sym c.is_empty.ensures ∙ c.if-is_empty.true)) has

pub note_all-requires-clause-each : goal.note_all-requires-clause-each
note_all-requires-clause-each c =
    let count : length c.set_counts.new.counts.items ≡ length c.args.self.now.order = ap length (c.in_ok-set_counts.ensures ∙ c.lens.ensures.lens ∙ c.shape.ensures.lens) ∙ length-lengths c.args.self.now.order in
    subst (λ (n : ℕ). AllByRecursion (EventFits n) c.args.batch.now) (sym count) c.requires.each

pub returns-in_err-note_all-clause-same : goal.returns-in_err-note_all-clause-same
returns-in_err-note_all-clause-same c =
    let same : (events : Events) → HasAdmitted c.args.self.now events → HasAdmitted (record { order = c.args.self.now.order; messages = c.note_all.new.self; taken = c.note_all.new.taken; judged = c.args.self.now.judged; alloc = c.args.self.now.alloc }) events = λ events has. record {
      order = has.order;
      messages = c.in_err-note_all.ensures.err events has.messages (taken_is events c.args.self.now.order _ has.order (c.in_ok-set_counts.ensures ∙ c.lens.ensures.lens ∙ c.shape.ensures.lens));
    } in
    on_err _ same

pub judge-requires-clause-taken : goal.judge-requires-clause-taken
judge-requires-clause-taken c = c.in_ok-note_all.ensures.counts ∙ ap (λ (xs : List ℕ). raised xs c.args.batch.now) (c.in_ok-set_counts.ensures ∙ c.lens.ensures.lens ∙ c.shape.ensures.lens)

pub forget_all-requires : goal.forget_all-requires
forget_all-requires c =
    let count : length c.judge.new.self.taken.items ≡ length c.args.self.now.order =
    ap length (c.in-Err.ensures.taken ∙ c.in_ok-note_all.ensures.counts) ∙ length-raised c.set_counts.new.counts.items c.args.batch.now ∙ ap length (c.in_ok-set_counts.ensures ∙ c.lens.ensures.lens ∙ c.shape.ensures.lens) ∙ length-lengths c.args.self.now.order in
    subst (λ (n : ℕ). AllByRecursion (EventFits n) c.args.batch.now) (sym count) c.requires.each

pub returns-in-Ok-clause-ok : goal.returns-in-Ok-clause-ok
returns-in-Ok-clause-ok c = λ events has.
    let lens = taken_is events c.args.self.now.order _ has.order (c.in_ok-set_counts.ensures ∙ c.lens.ensures.lens ∙ c.shape.ensures.lens) in
    let noted = c.in_ok-note_all.ensures.ok events has.messages lens in
    let judged = c.in-Ok.ensures.ok events has.order noted in
    (judged.0, record { order = judged.1; messages = subst (λ (m : Messages). HasMessages m (with_batch events c.args.batch.now)) (sym c.in-Ok.ensures.messages) noted })

pub returns-in-Err-clause-fault : goal.returns-in-Err-clause-fault
returns-in-Err-clause-fault c =
    other_fault (Unit {0}) (Unit {0})
    (λ f. (events : Events) → c.args.self.now.order ≡ clocks_of events → HasMessages c.note_all.new.self (with_batch events c.args.batch.now) → batch_fault events c.args.batch.now ≡ Some f)
    (λ f. (events : Events) → HasAdmitted c.args.self.now events → batch_fault events c.args.batch.now ≡ Some f) c.in-Err.refused
    (λ f h events has. h events has.order (c.in_ok-note_all.ensures.ok events has.messages (taken_is events c.args.self.now.order _ has.order (c.in_ok-set_counts.ensures ∙ c.lens.ensures.lens ∙ c.shape.ensures.lens))))
    c.in-Err.ensures.fault

pub returns-in-Err-clause-same : goal.returns-in-Err-clause-same
returns-in-Err-clause-same c = λ events has.
    let lens = taken_is events c.args.self.now.order _ has.order (c.in_ok-set_counts.ensures ∙ c.lens.ensures.lens ∙ c.shape.ensures.lens) in
    let noted = c.in_ok-note_all.ensures.ok events has.messages lens in
    let counts : c.judge.new.self.taken.items ≡ map length (with_batch events c.args.batch.now) =
    c.in-Err.ensures.taken ∙ c.in_ok-note_all.ensures.counts ∙ ap (λ (xs : List ℕ). raised xs c.args.batch.now) lens ∙ sym (lens_raised events c.args.batch.now) in
    record {
      order = c.in-Err.ensures.same ∙ has.order;
      messages = c.forget_all.ensures events (subst (λ (m : Messages). HasMessages m (with_batch events c.args.batch.now)) (sym c.in-Err.ensures.messages) noted) counts;
    }
