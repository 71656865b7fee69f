-- What is asked of an input: a formula, how the input is read, what is written of it, and the
-- watches that it may name; and what is due of the input's bytes then.
use Rattle.std.specs.Prelude.{◌≡◌, ℕ, Bool, false, List, []}
use Rattle.pota_base.specs.Outside.{IsPrefix}
use Rattle.run_model.specs.Run.{Name, Watches}
use Rattle.rctl_grammar.specs.Shape.{shape_of}
use Rattle.rctl_grammar.specs.declared.tree.Tree.{Tree}
use Rattle.rctl_print.specs.Canonical.{canonical}
use Rattle.rctl_class.specs.Nodes.{node_of, formula_of}
use Rattle.command_words.specs.declared.request.Form.{Form}
use Rattle.command_words.specs.declared.request.Form.TheVariants as form
use Rattle.command_words.specs.declared.request.Product.{Product}
use Rattle.command_words.specs.declared.request.Product.TheVariants as product
use Rattle.command_words.specs.declared.request.Inquiry.{Inquiry}
use Rattle.command_words.specs.declared.request.Reporting.{Reporting}
use Rattle.run_report.specs.Reports.{Asked}
use Rattle.watch.specs.declared.predicate.Handed.{Handed}
use Rattle.log_rules.specs.Judgement.{Prefix, Rules, with_rules}
use Rattle.log_rules.specs.Counters.{counters_in}
use Rattle.log_rules.specs.Readings.{Reading, log_reading}
use Rattle.log_rules.specs.Due.{Due, due}
use Rattle.log_judgement.specs.Texts.{AreTexts, IsReportText}
use Rattle.log_rules.specs.Reported.{reported}
use Rattle.form_readings.specs.Clocks.{clocks_reading}
use Rattle.form_readings.specs.Sources.{merged_reading}
use Rattle.log_check.specs.Aims.{Says, names_of, watches_of, unknown_name}
use Rattle.call_promise.specs.Certificates.{no_watches, IsCertificateText, IsCertificateFront}

-- the names of the watches that were handed in, and what the watch of each name says of states
pub record Handing : Type 0 where
  pub names : List Name
  pub watches : Watches

abbrev pub handing_of : {X : Type 0} {P : X → Type 0} → Says X P → List (Handed X P) → Handing
handing_of says handed =
    record { names = names_of handed; watches = watches_of says handed }

-- the formula that was read as this tree, with its canonical text
abbrev pub asked : Tree → Bool → Bool → Asked
asked t slice witness = record {
  formula = formula_of (node_of t);
  text = canonical (shape_of t);
  slice = slice;
  witness = witness;
}

-- what the words ask of its reports
abbrev pub asked_by : Tree → Reporting → Asked
asked_by t reporting = asked t reporting.shown.slice reporting.shown.witness

-- ---- how an input is read

-- as the text of one log, as records of two lines, or as the texts of several logs
unfoldable pub reading_of : Form → Reading
reading_of form.Text = log_reading
reading_of form.Clocks = clocks_reading
reading_of form.Merged = merged_reading

-- the first name that a header lacks comes before all faults of batches, and no variable of the
-- formula's differences may fall
abbrev pub rules_for : List Name → Tree → Rules
rules_for watches t =
    with_rules (unknown_name (node_of t) watches) (counters_in (formula_of (node_of t)))

-- ---- what is written of it

-- the watches that the formula may name, and what they say: a certificate's names none
abbrev pub watch_names : Product → List Name → List Name
watch_names (product.Reports reporting) names = names
watch_names product.Certificate names = []

abbrev pub watches_for : Product → Watches → Watches
watches_for (product.Reports reporting) watches = watches
watches_for product.Certificate watches = no_watches

-- whether each batch has a text of its own, and not the whole log alone
abbrev pub each_of : Product → Bool
each_of (product.Reports reporting) = reporting.each_batch
each_of product.Certificate = false

-- this is written of a log
abbrev pub Writes : Watches → Tree → Product → Prefix → List ℕ → Type 0
Writes watches t (product.Reports reporting) log text =
    IsReportText (asked_by t reporting) watches log text
Writes watches t product.Certificate log text = IsCertificateText t log text

-- this is the front of what is written of a log
abbrev pub WritesFront : Watches → Tree → Product → Prefix → List ℕ → Type 0
WritesFront watches t (product.Reports reporting) log part =
    (whole : List ℕ) × IsReportText (asked_by t reporting) watches log whole × IsPrefix part whole
WritesFront watches t product.Certificate log part = IsCertificateFront t log part

-- what `certify` asks of an input: the certificate of the text of one log
abbrev pub certifying : Inquiry
certifying = record { form = form.Text; product = product.Certificate }

-- ---- what is due

-- of these bytes
unfoldable pub due_of : List Name → Tree → Inquiry → (ended : Bool) → List ℕ → Due
due_of watches t i ended bytes =
    due (reading_of i.form) (rules_for (watch_names i.product watches) t) ended bytes

-- the text that is due
abbrev pub IsDueText : Watches → Tree → Inquiry → Due → List ℕ → Type 0
IsDueText watches t i d text =
    AreTexts (Writes watches t i.product) (reported (each_of i.product) d) text
