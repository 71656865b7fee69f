-- The log of an input in one of its forms.
use Rattle.std.specs.Prelude.{◌≡◌, ℕ, Bool, true, List, None, Some}
use Rattle.log_rules.specs.Due.{Due, due}
use Rattle.log_rules.specs.Judgement.{Prefix}
use Rattle.log_rules.specs.Readings.{Reading, log_reading}
use Rattle.log_trace.specs.Judging.{without_formula}
use Rattle.form_readings.specs.Clocks.{clocks_reading}
use Rattle.form_readings.specs.Sources.{merged_reading}
use Rattle.log_input.specs.declared.form.Form.{Form}
use Rattle.log_input.specs.declared.form.Form.TheVariants as form

abbrev pub reading_of : Form → Reading
reading_of form.OneLog = log_reading
reading_of form.Merged = merged_reading
reading_of form.Clocks = clocks_reading

-- what is due of the bytes without a formula
abbrev pub log_due : Form → (ended : Bool) → List ℕ → Due
log_due form ended bytes = due (reading_of form) without_formula ended bytes

-- no fault is due of the input, and this is its log with all clocks filled in
pub record HasLog (form : Form) (input : List ℕ) (log : Prefix) : Type 0 where
  pub free : (log_due form true input).fault ≡ None
  pub whole : (log_due form true input).whole ≡ Some log
