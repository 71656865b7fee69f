use Rattle.std.specs.Prelude.{map, string_bytes, drop}
use Rattle.std.proofs.Common.{sym, subst}
use Rattle.asked_log.specs.Watches.{handed_watches, names_of}
use Rattle.pota_base.specs.Changes.{of_source}
use Rattle.log_rules.specs.WholeLogs.{all_of}
use Rattle.ask_top.specs.Documents.{IsDocument}
use Rattle.ask_top.specs.inside.Observing.{StopsAs}
use Rattle.ask_top.proofs.Answered.{drop-map, rest_is, put_so, stopped_so, refused, unread, wanting, calm_put, calm_stopped}
use Rattle.ask_top.proofs.top.answer_questions.Goals as goal

pub returns-in-Ok-clause-answered : goal.returns-in-Ok-clause-answered
returns-in-Ok-clause-answered g c =
    put_so _ (map string_bytes c.args.words.now) c.args.asked c.requires.asks c.args.questions
    (map string_bytes (drop c.args.asked.questions_from c.args.words.now)) (sym (drop-map string_bytes c.args.asked.questions_from c.args.words.now)) c.requires.read
    (of_source g.S.Source c.args.input.now c.read_input.new.source) (g.O.Sink.held c.args.out.now) (g.O.Sink.faults c.args.out.now) c.in-Ok-Whole.log c.in-Ok-Whole.places (rw c.in-Ok-Whole.field-0-is at c.in-Ok-Whole.ensures.reads)
    c.in-Ok.made.holds c.in-Ok.made.text (g.O.Sink.held c.put_document.new.out) (g.O.Sink.faults c.put_document.new.out) c.put_document.result
    (subst (λ ts. IsDocument (handed_watches (λ h. (goal.Watch-dyn g (h.watch.vtable, h.watch.value)).answers h.watch.value) c.args.watches.items) c.args.asked.steps (map string_bytes ts) (all_of c.in-Ok-Whole.log) c.in-Ok.made.holds c.in-Ok.made.text) (rest_is c.args.asked.questions_from c.args.words.now) c.in-Ok.ensures.told) c.put_document.ensures

pub returns-in-Ok-clause-calm : goal.returns-in-Ok-clause-calm
returns-in-Ok-clause-calm g c =
    calm_put (handed_watches (λ h. (goal.Watch-dyn g (h.watch.vtable, h.watch.value)).answers h.watch.value) c.args.watches.items) (map string_bytes c.args.words.now) c.args.asked c.requires.asks c.args.questions
    (map string_bytes (drop c.args.asked.questions_from c.args.words.now)) (sym (drop-map string_bytes c.args.asked.questions_from c.args.words.now)) c.requires.read
    (of_source g.S.Source c.args.input.now c.read_input.new.source) (g.O.Sink.held c.args.out.now) (g.O.Sink.faults c.args.out.now) c.in-Ok-Whole.log c.in-Ok-Whole.places (rw c.in-Ok-Whole.field-0-is at c.in-Ok-Whole.ensures.reads)
    c.in-Ok.made.holds c.in-Ok.made.text (g.O.Sink.held c.put_document.new.out) (g.O.Sink.faults c.put_document.new.out) c.put_document.result c.put_document.ensures

pub returns-in-Err-answer_log-clause-answered : goal.returns-in-Err-answer_log-clause-answered
returns-in-Err-answer_log-clause-answered g c =
    stopped_so (handed_watches (λ h. (goal.Watch-dyn g (h.watch.vtable, h.watch.value)).answers h.watch.value) c.args.watches.items) (map string_bytes c.args.words.now) c.args.asked c.requires.asks c.args.questions
    (map string_bytes (drop c.args.asked.questions_from c.args.words.now)) (sym (drop-map string_bytes c.args.asked.questions_from c.args.words.now)) c.requires.read
    (of_source g.S.Source c.args.input.now c.read_input.new.source) (g.O.Sink.held c.args.out.now) (g.O.Sink.faults c.args.out.now) c.in-Ok-Whole.log c.in-Ok-Whole.places (rw c.in-Ok-Whole.field-0-is at c.in-Ok-Whole.ensures.reads)
    c.in-Err-answer_log.fault
    (subst (λ ts. StopsAs (names_of c.args.watches.items) (map string_bytes ts) c.args.questions c.in-Ok-Whole.log c.in-Ok-Whole.places c.in-Err-answer_log.fault) (rest_is c.args.asked.questions_from c.args.words.now) c.in-Err-answer_log.ensures.stopped)

pub returns-in-Err-answer_log-clause-calm : goal.returns-in-Err-answer_log-clause-calm
returns-in-Err-answer_log-clause-calm g c =
    calm_stopped (handed_watches (λ h. (goal.Watch-dyn g (h.watch.vtable, h.watch.value)).answers h.watch.value) c.args.watches.items) (map string_bytes c.args.words.now) c.args.asked c.requires.asks c.args.questions
    (map string_bytes (drop c.args.asked.questions_from c.args.words.now)) (sym (drop-map string_bytes c.args.asked.questions_from c.args.words.now)) c.requires.read
    (of_source g.S.Source c.args.input.now c.read_input.new.source) (g.O.Sink.held c.args.out.now) (g.O.Sink.faults c.args.out.now) c.in-Ok-Whole.log c.in-Ok-Whole.places (rw c.in-Ok-Whole.field-0-is at c.in-Ok-Whole.ensures.reads)
    c.in-Err-answer_log.fault
    (subst (λ ts. StopsAs (names_of c.args.watches.items) (map string_bytes ts) c.args.questions c.in-Ok-Whole.log c.in-Ok-Whole.places c.in-Err-answer_log.fault) (rest_is c.args.asked.questions_from c.args.words.now) c.in-Err-answer_log.ensures.stopped)

pub returns-in-Ok-Faulty-clause-answered : goal.returns-in-Ok-Faulty-clause-answered
returns-in-Ok-Faulty-clause-answered g c =
    refused (handed_watches (λ h. (goal.Watch-dyn g (h.watch.vtable, h.watch.value)).answers h.watch.value) c.args.watches.items) (map string_bytes c.args.words.now) c.args.asked c.requires.asks c.args.questions
    (map string_bytes (drop c.args.asked.questions_from c.args.words.now)) (sym (drop-map string_bytes c.args.asked.questions_from c.args.words.now)) c.requires.read
    (of_source g.S.Source c.args.input.now c.read_input.new.source) (g.O.Sink.held c.args.out.now) (g.O.Sink.faults c.args.out.now) c.in-Ok-Faulty.refusal c.in-Ok-Faulty.line (rw c.in-Ok-Faulty.field-0-is at c.in-Ok-Faulty.ensures.reads)

pub returns-in-Ok-Failed-clause-answered : goal.returns-in-Ok-Failed-clause-answered
returns-in-Ok-Failed-clause-answered g c =
    unread (handed_watches (λ h. (goal.Watch-dyn g (h.watch.vtable, h.watch.value)).answers h.watch.value) c.args.watches.items) (map string_bytes c.args.words.now) c.args.asked c.requires.asks c.args.questions
    (map string_bytes (drop c.args.asked.questions_from c.args.words.now)) (sym (drop-map string_bytes c.args.asked.questions_from c.args.words.now)) c.requires.read
    (of_source g.S.Source c.args.input.now c.read_input.new.source) (g.O.Sink.held c.args.out.now) (g.O.Sink.faults c.args.out.now) (rw c.in-Ok-Failed.field-0-is at c.in-Ok-Failed.ensures.reads)

pub returns-in-Err-clause-answered : goal.returns-in-Err-clause-answered
returns-in-Err-clause-answered g c =
    wanting (handed_watches (λ h. (goal.Watch-dyn g (h.watch.vtable, h.watch.value)).answers h.watch.value) c.args.watches.items) (map string_bytes c.args.words.now) c.args.asked c.requires.asks c.args.questions
    (map string_bytes (drop c.args.asked.questions_from c.args.words.now)) (sym (drop-map string_bytes c.args.asked.questions_from c.args.words.now)) c.requires.read
    (of_source g.S.Source c.args.input.now c.read_input.new.source) (g.O.Sink.held c.args.out.now) (g.O.Sink.faults c.args.out.now) c.in-Err.ensures.short
