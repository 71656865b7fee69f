-- A canonical text as a line, beside the text that was read.
use Rattle.std.specs.Prelude.{◌≡◌, ℕ, ◌+◌, ◌≤◌, ◌==◌, false, List, length}
use Rattle.std.specs.List.{AllByRecursion}
use Rattle.rctl_grammar.specs.declared.tree.Tree.{Tree}
use Rattle.rctl_grammar.specs.Shape.{shape_of}
use Rattle.rctl_parse.specs.Parsing.{IsReadAs}
use Rattle.rctl_print.specs.Canonical.{canonical}

-- at most 50 bytes more a node, of which there are 64, less 5
abbrev pub PrintedIsLittleLonger : Type 0
PrintedIsLittleLonger =
    (text : List ℕ) (t : Tree) → IsReadAs text t
    → length (canonical (shape_of t)) ≤ length text + 3195

-- no byte is a line feed
abbrev pub HasNoFeed : List ℕ → Type 0
HasNoFeed bytes = AllByRecursion (λ b. b == 10 ≡ false) bytes

abbrev pub PrintedIsOneLine : Type 0
PrintedIsOneLine =
    (text : List ℕ) (t : Tree) → IsReadAs text t → HasNoFeed (canonical (shape_of t))
