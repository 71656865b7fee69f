use Rattle.std.proofs.Common.{List, [], ℕ, subst, sym}
use Rattle.std.specs.List.{AllByRecursion}
use Rattle.event_log.specs.LogText.{lines_of}
use Rattle.event_log.proofs.Lists.{all_onto}
use Rattle.event_log.proofs.Texts.{lines-text}
use Rattle.event_log.proofs.Plain.{log_plain}
use Rattle.event_log.proofs.Narrow.{IsNarrow, log_narrow}
use Rattle.event_log.proofs.WellFormed.{log_fault_free}
use Rattle.event_log.proofs.laws.a_log_reads_back.Goals as goal

pub returns : goal.returns
returns c = λ log is. log_fault_free log is (subst (λ (ls : List (List ℕ)). AllByRecursion IsNarrow ls) (sym (lines-text log (log_plain log is.fits))) (all_onto IsNarrow (lines_of log) [] (log_narrow log is.fits) tt))
