-- The certificate of a formula on a log, which may name no watch, and what of it was written.
use Rattle.std.specs.Prelude.{◌≡◌, ℕ, ◌↔◌, Bool, true, List, []}
use Rattle.run_model.specs.Cut.{initial}
use Rattle.run_model.specs.Meaning.{Sat}
use Rattle.run_model.specs.Run.{Watches, run_of, clocks_of}
use Rattle.rctl_grammar.specs.Shape.{shape_of}
use Rattle.rctl_grammar.specs.declared.tree.Tree.{Tree}
use Rattle.rctl_print.specs.Canonical.{canonical}
use Rattle.rctl_class.specs.Nodes.{node_of, formula_of}
use Rattle.rctl_names.specs.Resolving.{numbered_disjuncts}
use Rattle.rctl_parts.specs.Pieces.{Piece}
use Rattle.log_rules.specs.SoFar.{trace_so_far}
use Rattle.log_rules.specs.Judgement.{Prefix}
use Rattle.log_check.specs.Checked.{observed_alone}
use Rattle.certificate_lines.specs.Spelling.{formula_line}
use Rattle.certify.specs.Certifying.{IsCertificateOf, IsFrontOfCertificate}

-- the formula is true at the initial cut of the run of this log
abbrev pub IsTrueAtStart : Watches → Tree → Prefix → Type 0
IsTrueAtStart watches t log =
    Sat (run_of (trace_so_far log.header log.batches) watches) (formula_of (node_of t))
    (initial (clocks_of (trace_so_far log.header log.batches)))

-- nothing is a watch
abbrev pub no_watches : Watches
no_watches name states = []

-- the disjuncts of the formula, by the numbers of the log's header
abbrev pub disjuncts_on : Prefix → Tree → List (List Piece)
disjuncts_on log t = numbered_disjuncts log.header [] (node_of t)

-- the line of the formula
abbrev pub line_of : Tree → List ℕ
line_of t = formula_line (canonical (shape_of t))

-- the text is the canonical certificate of the formula on the log, and tells the truth
pub record IsCertificateText (t : Tree) (log : Prefix) (text : List ℕ) : Type 0 where
  pub told : Bool
  pub is : IsCertificateOf (observed_alone log) (disjuncts_on log t) (line_of t) text told
  pub truth : (told ≡ true) ↔ IsTrueAtStart no_watches t log

-- the bytes are the front of the canonical certificate
pub record IsCertificateFront (t : Tree) (log : Prefix) (part : List ℕ) : Type 0 where
  pub front : IsFrontOfCertificate (observed_alone log) (disjuncts_on log t) (line_of t) part
