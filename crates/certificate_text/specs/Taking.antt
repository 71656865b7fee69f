-- How the lines of a certificate are taken, one after the other. What its lines say of is of any
-- kind; `follows` says which line is justified there, and what it leaves.
use Rattle.std.specs.Prelude.{◌≡◌, ℕ, ◌+◌, Bool, List, [], ◌∷◌}
use Rattle.certificate_lines.specs.declared.line.Line.{Line}
use Rattle.certificate_lines.specs.declared.line.Line.TheVariants.{Node, Row, Raise, Verdict}
use Rattle.certificate_lines.specs.Spelling.{Spells, title, end_line}
use Rattle.certificate_text.specs.declared.said.Stage.{Stage}
use Rattle.certificate_text.specs.declared.said.Stage.TheVariants as stage

-- the formula's line, what the lines so far left, which line is due, and how many were taken
pub record VerifierView (N : Type 0) : Type 0 where
  pub formula : List ℕ
  pub nodes : N
  pub stage : Stage
  pub lines : ℕ

-- no line was taken
abbrev pub fresh : {N : Type 0} → List ℕ → N → VerifierView N
fresh formula nodes =
    record { formula = formula; nodes = nodes; stage = stage.Title; lines = 0 }

-- one line more was taken, and left these nodes
abbrev pub taken : {N : Type 0} → VerifierView N → N → Stage → VerifierView N
taken v nodes next =
    record { formula = v.formula; nodes = nodes; stage = next; lines = v.lines + 1 }

-- the line is this text, and leaves the nodes as they are
pub record TakesText {N : Type 0} (v : VerifierView N) (bytes text : List ℕ) (next : Stage)
    (after : VerifierView N) : Type 0 where
  pub is : bytes ≡ text
  pub leaves : after ≡ taken v v.nodes next

-- what is due behind a line that says something of the nodes
abbrev pub stage_after : Line → Stage
stage_after (Node number) = stage.Body
stage_after (Row row other) = stage.Body
stage_after (Raise pull value) = stage.Body
stage_after (Verdict told) = stage.Ending told

-- the line says something of the nodes, which follows there
pub record TakesLine {N : Type 0} (follows : N → Line → N → Type 0) (v : VerifierView N)
    (bytes : List ℕ) (after : VerifierView N) : Type 0 where
  pub said : Line
  pub spells : Spells bytes said
  pub nodes : N
  pub justified : follows v.nodes said nodes
  pub leaves : after ≡ taken v nodes (stage_after said)

-- the line is justified where this one is due. Behind `end` and behind a refused line none is due
abbrev pub JustifiesAt : {N : Type 0} → (N → Line → N → Type 0) → Stage → VerifierView N
    → List ℕ → VerifierView N → Type 0
JustifiesAt follows stage.Title v bytes after = TakesText v bytes title stage.Formula after
JustifiesAt follows stage.Formula v bytes after = TakesText v bytes v.formula stage.Body after
JustifiesAt follows stage.Body v bytes after = TakesLine follows v bytes after
JustifiesAt follows (stage.Ending told) v bytes after =
    TakesText v bytes end_line (stage.Accepted told) after
JustifiesAt follows (stage.Accepted told) v bytes after = ⊥
JustifiesAt follows (stage.Refused line) v bytes after = ⊥
JustifiesAt follows stage.Spent v bytes after = ⊥

-- the line is justified, and leaves this
abbrev pub Justifies : {N : Type 0} → (N → Line → N → Type 0) → VerifierView N → List ℕ
    → VerifierView N → Type 0
Justifies follows v bytes after = JustifiesAt follows v.stage v bytes after

-- nothing justifies the line
abbrev pub IsUnjustified : {N : Type 0} → (N → Line → N → Type 0) → VerifierView N → List ℕ
    → Type 0
IsUnjustified follows v line = (after : VerifierView _) → Justifies follows v line after → ⊥

-- each line is justified, and behind the last the text is accepted with this truth
abbrev pub AreAccepted : {N : Type 0} → (N → Line → N → Type 0) → VerifierView N
    → List (List ℕ) → Bool → Type 0
AreAccepted follows v [] told = v.stage ≡ stage.Accepted told
AreAccepted follows v (bytes ∷ rest) told =
    (after : VerifierView _) × Justifies follows v bytes after × AreAccepted follows after rest told

-- nothing follows by the line
abbrev pub NoneFollows : {N : Type 0} → (N → Line → N → Type 0) → N → Line → Type 0
NoneFollows follows v said = (after : _) → follows v said after → ⊥
