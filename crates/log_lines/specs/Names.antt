-- Lists of names.
use Rattle.std.specs.Prelude.{ℕ, ◌+◌, Bool, true, not, ◌&&◌, List, [], ◌∷◌, Option, None, Some}
use Rattle.std.specs.Prelude.{is_some, if◌then◌else◌}
use Rattle.std.specs.Str.{bytes_eq}
pub use Rattle.pota_names.specs.Names.{is_name, is_name_start, is_name_byte}

abbrev pub Name : Type 0
Name = List ℕ

-- the place of the first of the names, counted from `start`, that is this one
abbrev pub place_from : ℕ → List Name → Name → Option ℕ
place_from start [] name = None
place_from start (n ∷ ns) name =
    if bytes_eq n name then Some start else place_from (start + 1) ns name

abbrev pub place_of : List Name → Name → Option ℕ
place_of names name = place_from 0 names name

-- no name stands twice
abbrev pub are_distinct : List Name → Bool
are_distinct [] = true
are_distinct (n ∷ ns) = not (is_some (place_of ns n)) && are_distinct ns
