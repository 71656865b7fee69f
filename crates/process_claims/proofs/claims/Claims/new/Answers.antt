use Rattle.process_claims.proofs.Keeps.{free_kept}
use Rattle.process_claims.proofs.claims.Claims.new.Goals as goal

pub of_words-requires : goal.of_words-requires
of_words-requires c = free_kept c.args.processes c.requires.few
