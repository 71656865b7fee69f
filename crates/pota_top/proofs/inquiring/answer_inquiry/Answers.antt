use Rattle.std.proofs.Common.{refl}
use Rattle.command_words.specs.declared.request.Form.TheVariants as form
use Rattle.command_words.specs.declared.request.Product.TheVariants as product
use Rattle.call_promise.specs.Asking.{handing_of}
use Rattle.pota_top.proofs.Running.{asked_so}
use Rattle.pota_top.proofs.Words.{asks_text}
use Rattle.pota_top.proofs.inquiring.answer_inquiry.Goals as goal

pub returns-in-Reports-clause-ran : goal.returns-in-Reports-clause-ran
returns-in-Reports-clause-ran g c words text is asks =
    c.answer_reports.ensures.ran words text is
    (asked_so words c.args.stated.formula.tree c.args.inquiry c.args.inquiry.form (product.Reports c.in-Reports.reporting) refl c.in-Reports.is asks)

pub returns-in-Certificate-clause-ran : goal.returns-in-Certificate-clause-ran
returns-in-Certificate-clause-ran g c words text is asks =
    c.answer_certificate.ensures.ran words text is
    (asked_so words c.args.stated.formula.tree c.args.inquiry form.Text product.Certificate
    (asks_text words c.args.inquiry c.args.stated.formula.tree asks c.in-Certificate.is) c.in-Certificate.is asks)
    (handing_of (λ h. (goal.Watch-dyn g (h.watch.vtable, h.watch.value)).answers h.watch.value) c.args.watches.items)

pub returns-in-Reports-clause-calm : goal.returns-in-Reports-clause-calm
returns-in-Reports-clause-calm g c = c.answer_reports.ensures.calm

pub returns-in-Certificate-clause-calm : goal.returns-in-Certificate-clause-calm
returns-in-Certificate-clause-calm g c = c.answer_certificate.ensures.calm
