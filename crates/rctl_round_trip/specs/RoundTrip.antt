-- What is printed of a formula that was read is read again, as the same formula but for its places.
use Rattle.std.specs.Prelude.{◌≡◌, ℕ, ◌<◌, List, length, None}
use Rattle.pota_base.specs.Limits.{longest_lexed}
use Rattle.rctl_grammar.specs.declared.tree.Tree.{Tree}
use Rattle.rctl_grammar.specs.Shape.{shape_of}
use Rattle.rctl_parse.specs.Parsing.{IsReadAs, long_fault}
use Rattle.rctl_print.specs.Canonical.{canonical}

-- the canonical text of a tree that was read is read as a tree that differs in places alone
abbrev pub PrintedIsRead : Type 0
PrintedIsRead =
    (text : List ℕ) (t : Tree) → IsReadAs text t → (again : Tree)
    × IsReadAs (canonical (shape_of t)) again × (shape_of again ≡ shape_of t)

-- without a fault
abbrev pub PrintedHasNoFault : Type 0
PrintedHasNoFault =
    (text : List ℕ) (t : Tree) → IsReadAs text t → long_fault (canonical (shape_of t)) ≡ None

-- and as nothing else
abbrev pub PrintedIsItself : Type 0
PrintedIsItself =
    (text : List ℕ) (t again : Tree) → IsReadAs text t → IsReadAs (canonical (shape_of t)) again
    → shape_of again ≡ shape_of t

-- and it is short
abbrev pub PrintedIsShort : Type 0
PrintedIsShort =
    (text : List ℕ) (t : Tree) → IsReadAs text t → length (canonical (shape_of t)) < longest_lexed

-- some text was read as the tree
abbrev pub WasRead : Tree → Type 0
WasRead t = (text : List ℕ) × IsReadAs text t
