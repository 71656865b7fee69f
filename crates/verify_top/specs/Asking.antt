-- What a log and a certificate are read for, where a verifier is asked one formula. It names no
-- watches.
use Rattle.std.specs.Prelude.{[]}
use Rattle.run_model.specs.Run.{Watches}
use Rattle.rctl_grammar.specs.Shape.{shape_of}
use Rattle.rctl_grammar.specs.declared.tree.Tree.{Tree}
use Rattle.rctl_print.specs.Canonical.{canonical}
use Rattle.rctl_class.specs.Nodes.{node_of}
use Rattle.part_pulls.specs.Observing.{clocks_seen}
use Rattle.rctl_names.specs.Resolving.{numbered_disjuncts}
use Rattle.log_rules.specs.Judgement.{Prefix}
use Rattle.log_check.specs.Aims.{Aim}
use Rattle.log_check.specs.Checked.{observed_alone}
use Rattle.certificate_lines.specs.Spelling.{formula_line}
use Rattle.certificate_text.specs.Taking.{VerifierView, fresh}
use Rattle.certificate_nodes.specs.Nodes.{NodesView, fresh_nodes}
use Rattle.certificate.specs.Numbering.{plan_of}

-- ---- the log

abbrev pub no_watches : Watches
no_watches name states = []

-- what a log is checked for
abbrev pub aim_for : Tree → Aim
aim_for t = record {
  node = node_of t;
  text = canonical (shape_of t);
  names = [];
  watches = no_watches;
}

-- ---- the certificate

-- the formula's certificate on the log, before its first line: no node of the formula was begun
unfoldable pub start_of : Tree → Prefix → VerifierView NodesView
start_of t log =
    fresh (formula_line (canonical (shape_of t)))
    (fresh_nodes (clocks_seen (observed_alone log))
    (plan_of (observed_alone log) (numbered_disjuncts log.header [] (node_of t))))
