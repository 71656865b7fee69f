use Rattle.std.proofs.Common.{refl}
use Rattle.command_words.specs.declared.request.Form.TheVariants as form
use Rattle.command_words.specs.declared.request.Product.TheVariants as product
use Rattle.call_promise.specs.Asking.{reading_of}
use Rattle.pota_top.proofs.Running.{asked_so, ran_checked}
use Rattle.pota_top.proofs.inquiring.answer_reports.Goals as goal

pub check_text-requires-clause-check : goal.check_text-requires-clause-check
check_text-requires-clause-check g c κs lives = (_, c.in-Ok.ensures)

pub check_records-requires-clause-check : goal.check_records-requires-clause-check
check_records-requires-clause-check g c κs lives = (_, c.in-Ok.ensures)

pub check_logs-requires-clause-check : goal.check_logs-requires-clause-check
check_logs-requires-clause-check g c κs lives = (_, c.in-Ok.ensures)

pub returns-in-Text-clause-ran : goal.returns-in-Text-clause-ran
unfolding reading_of
returns-in-Text-clause-ran g c words text is asks =
    ran_checked (λ h. (goal.Watch-dyn g (h.watch.vtable, h.watch.value)).answers h.watch.value) c.args.stated form.Text c.args.reporting c.args.watches.items words text is
    (asked_so words c.args.stated.formula.tree (record { form = c.args.form; product = product.Reports c.args.reporting }) form.Text (product.Reports c.args.reporting) c.in-Text.is refl asks) _ _ _ _ _ _ _ _ c.check_text.result
    (c.check_text.ensures.checks _ c.in-Ok.ensures)

pub returns-in-Clocks-clause-ran : goal.returns-in-Clocks-clause-ran
unfolding reading_of
returns-in-Clocks-clause-ran g c words text is asks =
    ran_checked (λ h. (goal.Watch-dyn g (h.watch.vtable, h.watch.value)).answers h.watch.value) c.args.stated form.Clocks c.args.reporting c.args.watches.items words text is
    (asked_so words c.args.stated.formula.tree (record { form = c.args.form; product = product.Reports c.args.reporting }) form.Clocks (product.Reports c.args.reporting) c.in-Clocks.is refl asks) _ _ _ _ _ _ _ _ c.check_records.result
    (c.check_records.ensures.checks _ c.in-Ok.ensures c.args.reporting.each_batch)

pub returns-in-Merged-clause-ran : goal.returns-in-Merged-clause-ran
unfolding reading_of
returns-in-Merged-clause-ran g c words text is asks =
    ran_checked (λ h. (goal.Watch-dyn g (h.watch.vtable, h.watch.value)).answers h.watch.value) c.args.stated form.Merged c.args.reporting c.args.watches.items words text is
    (asked_so words c.args.stated.formula.tree (record { form = c.args.form; product = product.Reports c.args.reporting }) form.Merged (product.Reports c.args.reporting) c.in-Merged.is refl asks) _ _ _ _ _ _ _ _ c.check_logs.result
    (c.check_logs.ensures.checks _ c.in-Ok.ensures c.args.reporting.each_batch)

pub returns-in-Text-clause-calm : goal.returns-in-Text-clause-calm
returns-in-Text-clause-calm g c = c.check_text.ensures.calm

pub returns-in-Clocks-clause-calm : goal.returns-in-Clocks-clause-calm
returns-in-Clocks-clause-calm g c = c.check_records.ensures.calm

pub returns-in-Merged-clause-calm : goal.returns-in-Merged-clause-calm
returns-in-Merged-clause-calm g c = c.check_logs.ensures.calm
