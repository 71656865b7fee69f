-- Which view the words ask for.
use Rattle.std.specs.Prelude.{ℕ, List, [], ◌∷◌, codes, Option, None, Some, if◌then◌else◌}
use Rattle.std.specs.Str.{bytes_eq}
use Rattle.pota_base.specs.Number.{number_at, whole}
use Rattle.view_parts.specs.declared.extent.Extent.{Extent}
use Rattle.view_parts.specs.declared.extent.Extent.TheVariants as extent
use Rattle.view_top.specs.declared.asking.View.{View}
use Rattle.view_top.specs.declared.asking.View.TheVariants as view

abbrev pub last : Option ℕ → Option Extent
last None = None
last (Some limit) = Some (extent.Last limit)

-- the last so many of each process, by a number of 32 bits
abbrev pub limit_named : List ℕ → Option Extent
limit_named word = last (whole (number_at 4294967295 word))

-- how much the words behind the name of a view ask for
abbrev pub extent_asked : List (List ℕ) → Option Extent
extent_asked [] = Some extent.Folded
extent_asked (word ∷ []) = if bytes_eq word (codes "--all") then Some extent.Whole else None
extent_asked (word ∷ limit ∷ []) =
    if bytes_eq word (codes "--last") then limit_named limit else None
extent_asked (word ∷ limit ∷ other ∷ words) = None

abbrev pub text_of : Option Extent → Option View
text_of None = None
text_of (Some e) = Some (view.Text e)

abbrev pub svg_of : Option Extent → Option View
svg_of None = None
svg_of (Some e) = Some (view.Svg e)

-- the view for which the words ask: its name, and how much is shown
abbrev pub view_asked : List (List ℕ) → Option View
view_asked [] = None
view_asked (word ∷ words) =
    if bytes_eq word (codes "svg") then svg_of (extent_asked words)
    else if bytes_eq word (codes "text") then text_of (extent_asked words) else None
