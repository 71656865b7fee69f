-- What `clap` finds where the words are done: the row of each use, and the defaults of arguments that were not used.
use Rattle.std.proofs.Common.{◌≡◌, ◌∙◌, Bool, true, false, not, ◌||◌, cond, List, [], ◌∷◌, ◌++◌, Option, None, Some, option_map, refl, sym, ap, subst}
use Rattle.std.specs.Prelude.{option_and_then, slice_get}
use Rattle.std.specs.List.{find, fold, list_all}
use Rattle.std.specs.Option.{option_map_or}
use Rattle.std.specs.Str.{bytes_eq}
use Rattle.std.proofs.lemmas.Bool.{and_parts}
use Rattle.clap.specs.Facts.{Entry, explicit_source}
use Rattle.clap.specs.Matches.{matched_of}
use Rattle.clap.specs.Walk.{Row, Rule, row_of, rows_of, first_of, has_row, more_values, with_default, default_rows, reading_by}
use Rattle.clap.specs.Takes.{is_given}
use Rattle.clap.specs.declared.builder.value_parser.Reading.{Reading}
use Rattle.clap.specs.declared.parser.matches.Found.{Found}
use Rattle.clap.specs.declared.parser.matches.MatchedArg.{MatchedArg}
use Rattle.clap.specs.declared.parser.matches.ValueSource.TheVariants.{DefaultValue}
use Rattle.clap.proofs.WalkLemmas.{find_row}
use Rattle.command_words.specs.Rule.{Text, Use, is_used, value_of}
use Rattle.command_words.specs.ByClap.{from_words, stands_in}
use Rattle.command_words.proofs.Walking.{row_at_end}
use Rattle.command_words.proofs.Taking.{row_for, rows_for}

-- where a value came from, by the row
pub source_row : (f : Found) (name : Text) → from_words (option_and_then (λ (a : MatchedArg). a.source) (matched_of f name)) ≡ stands_in name (rows_of f)
source_row f name = go (find (λ (e : Entry). bytes_eq e.0.now name) f.entries.items)
    ∙ ap (λ (o : Option Row). option_map_or (λ (r : Row). from_words r.source) o false) (sym (find_row f.entries.items name))
  where
    go : (o : Option Entry) → from_words (option_and_then (λ (a : MatchedArg). a.source) (option_map (λ (e : Entry). e.1) o))
        ≡ option_map_or (λ (r : Row). from_words r.source) (option_map row_of o) false
    go None = refl
    go (Some e) = refl

abbrev pub row_named : Text → List Row → Option Row
row_named name rows = find (λ (r : Row). bytes_eq r.id name) rows

-- ---- defaults

-- the row of a default
abbrev default_row : Text → Reading → List Text → Row
default_row id how values = record { id = id; values = values; count = None; source = Some DefaultValue; reading = how }

-- a default puts at most one row at the end
default_at_end : (P : List Row → Type 0) (rows : List Row) (a : Rule) → P rows
    → ((v : Text) (vs : List Text) → a.defaults ≡ v ∷ vs → P (rows ++ default_row a.id (reading_by a) (v ∷ vs) ∷ [])) → P (with_default rows a)
default_at_end P rows a same more = go (has_row a.id rows) refl a.defaults refl
  where
    go : (b : Bool) → has_row a.id rows ≡ b → (values : List Text) → a.defaults ≡ values → P (cond b rows (default_rows a.id (reading_by a) values rows))
    go true e values d = same
    go false e [] d = same
    go false e (v ∷ vs) d = subst P (sym (row_at_end a.id (more_values DefaultValue (v ∷ vs)) (default_row a.id (reading_by a) (v ∷ vs) ∷ []) rows e)) (more v vs d)

-- a row of another name at the end changes nothing for this name
other_row : (name : Text) (rows : List Row) (r : Row) → bytes_eq r.id name ≡ false → row_named name (rows ++ r ∷ []) ≡ row_named name rows
other_row name [] r h = ap (λ b. cond b (Some r) None) h
other_row name (first ∷ rows) r h = ap (λ (o : Option Row). cond (bytes_eq first.id name) (Some first) o) (other_row name rows r h)

abbrev pub is_none : List Text → Bool
is_none [] = true
is_none (v ∷ vs) = false

-- the argument has no default, or another name
abbrev pub spares : Text → Rule → Bool
spares name a = is_none a.defaults || not (bytes_eq a.id name)

default_spares : (name : Text) (rows : List Row) (a : Rule) → spares name a ≡ true → row_named name (with_default rows a) ≡ row_named name rows
default_spares name rows a h = default_at_end (λ (now : List Row). row_named name now ≡ row_named name rows) rows a refl
    (λ v vs d. other_row name rows (default_row a.id (reading_by a) (v ∷ vs)) (differs v vs d))
  where
    differs : (v : Text) (vs : List Text) → a.defaults ≡ v ∷ vs → bytes_eq a.id name ≡ false
    differs v vs d = not_true (bytes_eq a.id name) (sym (ap (λ (ds : List Text). is_none ds || not (bytes_eq a.id name)) d) ∙ h)
      where
        not_true : (b : Bool) → not b ≡ true → b ≡ false
        not_true true e = sym e
        not_true false e = refl

-- the values of options and positionals are those of the words
pub defaults_spare : (name : Text) (rules : List Rule) (rows : List Row) → list_all (spares name) rules ≡ true
    → row_named name (fold with_default rows rules) ≡ row_named name rows
defaults_spare name [] rows h = refl
defaults_spare name (a ∷ rules) rows h =
    let parts = and_parts _ _ h in
    defaults_spare name rules (with_default rows a) parts.1 ∙ default_spares name rows a parts.0

pub value_in : (name : Text) (uses : List Use) → first_of name (rows_for uses) ≡ value_of name uses
value_in name [] = refl
value_in name (u ∷ uses) = go (bytes_eq u.name name) (value_in name uses)
  where
    go : (b : Bool) → first_of name (rows_for uses) ≡ value_of name uses
        → option_and_then (λ (r : Row). slice_get r.values 0) (cond b (Some (row_for u)) (row_named name (rows_for uses)))
        ≡ option_map (λ (v : Use). v.value) (cond b (Some u) (find (λ (v : Use). bytes_eq v.name name) uses))
    go true e = refl
    go false e = e

-- ---- a test of the row of a name which each use passes, and no default

module _ (test : Row → Bool) (by_use : (u : Use) → test (row_for u) ≡ true) (by_default : (id : Text) (how : Reading) (values : List Text) → test (default_row id how values) ≡ false) where
  abbrev pub passes : Option Row → Bool
  passes o = option_map_or test o false

  failing_row : (name : Text) (rows : List Row) (r : Row) → test r ≡ false → passes (row_named name (rows ++ r ∷ [])) ≡ passes (row_named name rows)
  failing_row name [] r h = go (bytes_eq r.id name)
    where
      go : (b : Bool) → passes (cond b (Some r) None) ≡ false
      go true = h
      go false = refl
  failing_row name (first ∷ rows) r h = go (bytes_eq first.id name) (failing_row name rows r h)
    where
      go : (b : Bool) → passes (row_named name (rows ++ r ∷ [])) ≡ passes (row_named name rows)
          → passes (cond b (Some first) (row_named name (rows ++ r ∷ []))) ≡ passes (cond b (Some first) (row_named name rows))
      go true e = refl
      go false e = e

  pub defaults_fail : (name : Text) (rules : List Rule) (rows : List Row) → passes (row_named name (fold with_default rows rules)) ≡ passes (row_named name rows)
  defaults_fail name [] rows = refl
  defaults_fail name (a ∷ rules) rows = defaults_fail name rules (with_default rows a)
      ∙ default_at_end (λ (now : List Row). passes (row_named name now) ≡ passes (row_named name rows)) rows a refl
      (λ v vs d. failing_row name rows (default_row a.id (reading_by a) (v ∷ vs)) (by_default a.id (reading_by a) (v ∷ vs)))

  pub uses_pass : (name : Text) (uses : List Use) → passes (row_named name (rows_for uses)) ≡ is_used name uses
  uses_pass name [] = refl
  uses_pass name (u ∷ uses) = go (bytes_eq u.name name) (uses_pass name uses)
    where
      go : (b : Bool) → passes (row_named name (rows_for uses)) ≡ is_used name uses
          → passes (cond b (Some (row_for u)) (row_named name (rows_for uses))) ≡ (b || is_used name uses)
      go true e = by_use u
      go false e = e

-- a flag stands where the words use it, whatever the defaults are
pub flag_stands : (name : Text) (rules : List Rule) (uses : List Use) → stands_in name (fold with_default (rows_for uses) rules) ≡ is_used name uses
flag_stands name rules uses =
    let test : Row → Bool = λ r. from_words r.source in
    defaults_fail test (λ u. refl) (λ id how values. refl) name rules (rows_for uses) ∙ uses_pass test (λ u. refl) (λ id how values. refl) name uses

-- so is a positional given
pub place_given : (name : Text) (rules : List Rule) (uses : List Use) → is_given name (fold with_default (rows_for uses) rules) ≡ is_used name uses
place_given name rules uses =
    let test : Row → Bool = λ r. explicit_source r.source in
    defaults_fail test (λ u. refl) (λ id how values. refl) name rules (rows_for uses) ∙ uses_pass test (λ u. refl) (λ id how values. refl) name uses
