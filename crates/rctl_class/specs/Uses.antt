-- The names that a formula uses, in the order of its text, and the first one that is unknown or
-- stands where it may not.
use Rattle.std.specs.Prelude.{◌≡◌, ℕ, Bool, false, not, ◌&&◌, ◌||◌, List, [], ◌∷◌, ◌++◌, Option}
use Rattle.std.specs.Prelude.{None, Some, if◌then◌else◌, bytes_eq}
use Rattle.run_model.specs.Run.{Name}
use Rattle.rctl_grammar.specs.declared.fault.FormulaCode.TheVariants as code
use Rattle.rctl_grammar.specs.declared.fault.FormulaCode.{FormulaCode}
use Rattle.rctl_grammar.specs.declared.fault.FormulaFault.{FormulaFault}
use Rattle.rctl_grammar.specs.declared.tree.Place.{Place}
use Rattle.rctl_grammar.specs.declared.tree.Side.{Side}
use Rattle.rctl_grammar.specs.declared.tree.Side.TheVariants as side
use Rattle.rctl_grammar.specs.declared.tree.Atom.{Atom}
use Rattle.rctl_grammar.specs.declared.tree.Atom.TheVariants as atom
use Rattle.rctl_class.specs.Nodes.{Node, Nodes, leaf, negation, conjunction, disjunction, under}
use Rattle.rctl_class.specs.Nodes.{stepping, until_of, none, more}

-- a name in the text: of a process, of a variable of a process, or of a watch on a process
pub data Use : Type 0 where
  process : (place : Place) → Use
  variable : (of : Name) (place : Place) → Use
  watch : (on : Name) (place : Place) → Use

-- the names on the right of a comparison
abbrev pub side_uses : Side → List Use
side_uses (side.Number value) = []
side_uses (side.Variable p v) = process p ∷ variable p.name v ∷ []

-- the names of a leaf
abbrev pub atom_uses : Atom → List Use
atom_uses (atom.Truth value) = []
atom_uses (atom.Local p v compare right) = process p ∷ variable p.name v ∷ side_uses right
atom_uses (atom.Watch p w) = process p ∷ watch p.name w ∷ []
atom_uses (atom.InTransit p q compare k) = process p ∷ process q ∷ []
atom_uses (atom.Empty p q) = process p ∷ process q ∷ []
atom_uses (atom.Difference p x q y compare k) =
    process p ∷ variable p.name x ∷ process q ∷ variable q.name y ∷ []

abbrev mutual
  -- the names of a formula, from left to right
  pub uses_of : Node → List Use
  uses_of (leaf a at) = atom_uses a
  uses_of (negation n at) = uses_of n
  uses_of (conjunction ns at) = all_uses ns
  uses_of (disjunction ns at) = all_uses ns
  uses_of (under operator n at) = uses_of n
  uses_of (stepping p n at) = process p ∷ uses_of n
  uses_of (until_of all left right at) = uses_of left ++ uses_of right

  -- those of members
  pub all_uses : Nodes → List Use
  all_uses none = []
  all_uses (more n ns) = uses_of n ++ all_uses ns

-- ---- faults

-- which names are known: the processes of a run, the variables of each, and the watches
pub record KnownNames : Type 0 where
  pub is_process : Name → Bool
  pub is_variable : Name → Name → Bool
  pub is_watch : Name → Bool

-- a watch and the process that it stands on
pub record Watching : Type 0 where
  pub watch : Name
  pub process : Name

-- the watch stands on another process too
abbrev pub is_elsewhere : List Watching → Name → Name → Bool
is_elsewhere [] p w = false
is_elsewhere (s ∷ seen) p w =
    (bytes_eq s.watch w && not (bytes_eq s.process p)) || is_elsewhere seen p w

-- the fault of this code at this place
abbrev pub fault_at : FormulaCode → ℕ → Option FormulaFault
fault_at code at = Some (record { code = code; place = at })

-- what is wrong with a name, behind the watches that stand before it
abbrev pub use_fault : KnownNames → List Watching → Use → Option FormulaFault
use_fault known seen (process p) =
    if known.is_process p.name then None else fault_at code.UnknownProcess p.at
use_fault known seen (variable p v) =
    if known.is_variable p v.name then None else fault_at code.UnknownVariable v.at
use_fault known seen (watch p w) =
    if not (known.is_watch w.name) then fault_at code.UnknownWatch w.at
    else if is_elsewhere seen p w.name then fault_at code.WatchTwice w.at
    else None

-- the watches that stand before a name, and this one
abbrev pub seen_with : List Watching → Use → List Watching
seen_with seen (process p) = seen
seen_with seen (variable p v) = seen
seen_with seen (watch p w) = record { watch = w.name; process = p } ∷ seen

-- the earlier of two faults
abbrev pub earlier : Option FormulaFault → Option FormulaFault → Option FormulaFault
earlier None later = later
earlier (Some f) later = Some f

-- the first fault of names, each judged behind those before it
unfoldable pub first_unknown : KnownNames → List Watching → List Use → Option FormulaFault
first_unknown known seen [] = None
first_unknown known seen (u ∷ us) =
    earlier (use_fault known seen u) (first_unknown known (seen_with seen u) us)

-- the watches that stand before and among these names
unfoldable pub seen_after : List Watching → List Use → List Watching
seen_after seen [] = seen
seen_after seen (u ∷ us) = seen_after (seen_with seen u) us

-- two lists of names have one first fault, whatever is known and stands before
pub record Agree (us vs : List Use) : Type 0 where
  pub fault : (known : KnownNames) (seen : List Watching)
      → first_unknown known seen us ≡ first_unknown known seen vs
  pub seen : (before : List Watching) → seen_after before us ≡ seen_after before vs
