-- What a request stands for.
use Rattle.command_words.specs.declared.request.Request.{Request}
use Rattle.command_words.specs.Request.{Wanted}

abbrev pub request_seen : Request → Wanted
request_seen r = record { formula = r.formula.now; workers = r.workers; task = r.task }
