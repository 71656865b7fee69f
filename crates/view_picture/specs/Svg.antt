-- Elements of an SVG image. Values of attributes stand in single quotes.
use Rattle.std.specs.Prelude.{ℕ, List, [], ◌∷◌, ◌++◌, codes, ◌==◌, if◌then◌else◌}
use Rattle.std.specs.List.{flat_map}
use Rattle.std.specs.Fmt.{decimal}
use Rattle.view_picture.specs.declared.svg.Point.{Point}

-- ` NAME='VALUE'`
abbrev pub attribute : List ℕ → ℕ → List ℕ
attribute name value = 32 ∷ (name ++ (61 ∷ 39 ∷ (decimal value ++ 39 ∷ [])))

-- a straight line
abbrev pub line : Point → Point → List ℕ → List ℕ
line from to look =
    codes "<line" ++ attribute (codes "x1") from.x ++ attribute (codes "y1") from.y
    ++ attribute (codes "x2") to.x ++ attribute (codes "y2") to.y ++ look
    ++ (codes "/>" ++ 10 ∷ [])

abbrev pub circle : Point → ℕ → List ℕ → List ℕ
circle at radius look =
    codes "<circle" ++ attribute (codes "cx") at.x ++ attribute (codes "cy") at.y
    ++ attribute (codes "r") radius ++ look ++ (codes "/>" ++ 10 ∷ [])

abbrev pub text : Point → List ℕ → List ℕ → List ℕ
text at look shown =
    codes "<text" ++ attribute (codes "x") at.x ++ attribute (codes "y") at.y ++ look
    ++ codes ">" ++ shown ++ (codes "</text>" ++ 10 ∷ [])

-- ---- texts that are no markup

-- what stands for a byte: `&`, `<` and `>` have names
abbrev pub escape : ℕ → List ℕ
escape b =
    if b == 38 then codes "&amp;" else if b == 60 then codes "&lt;"
    else if b == 62 then codes "&gt;" else b ∷ []

abbrev pub escaped : List ℕ → List ℕ
escaped bytes = flat_map escape bytes
