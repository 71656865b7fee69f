use Rattle.log_judgement.specs.Texts.{IsReportText}
use Rattle.log_judgement.proofs.Texts.{texts_join}
use Rattle.log_judgement.proofs.text_laws.texts_of_reports_join.Goals as goal

pub returns : goal.returns
returns c = λ q watches. texts_join (IsReportText q watches)
