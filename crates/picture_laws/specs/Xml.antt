-- The part of XML that pictures are written in: elements with attributes in single quotes, elements
-- and printed ASCII in them. It has no comments, no declarations and no sections.
use Rattle.std.specs.Prelude.{◌≡◌, ◌⊎◌, ℕ, Bool, true, false, not, ◌&&◌, ◌||◌, ◌==◌, nat_le}
use Rattle.std.specs.Prelude.{List, [], ◌∷◌, ◌++◌, codes, map}
use Rattle.std.specs.Prelude.{◌+◌, if◌then◌else◌}
use Rattle.std.specs.List.{list_all, flat_map}
use Rattle.pota_names.specs.Names.{is_name_start, is_name_byte}
use Rattle.log_lines.specs.Names.{are_distinct}

-- ---- bytes

-- a line feed, or a byte that ASCII prints
abbrev pub is_printed : ℕ → Bool
is_printed b = b == 10 || (nat_le 32 b && nat_le b 126)

-- none of `&`, `<` and `>`
abbrev pub is_plain : ℕ → Bool
is_plain b = is_printed b && not (b == 38 || (b == 60 || b == 62))

-- and no single quote
abbrev pub is_in_value : ℕ → Bool
is_in_value b = is_plain b && not (b == 39)

-- a letter or `_`, then letters, digits, `_` or `-`
abbrev pub is_xml_name : List ℕ → Bool
is_xml_name [] = false
is_xml_name (b ∷ rest) = is_name_start b && list_all (λ c. is_name_byte c || c == 45) rest

-- ---- attributes

pub record Attribute : Type 0 where
  pub name : List ℕ
  pub value : List ℕ

abbrev pub is_attribute : Attribute → Bool
is_attribute a = is_xml_name a.name && list_all is_in_value a.value

abbrev pub names_of : List Attribute → List (List ℕ)
names_of attributes = map (λ (a : Attribute). a.name) attributes

-- ` NAME='VALUE'`
abbrev pub attribute_text : Attribute → List ℕ
attribute_text a = 32 ∷ (a.name ++ (61 ∷ 39 ∷ (a.value ++ 39 ∷ [])))

abbrev pub attributes_text : List Attribute → List ℕ
attributes_text attributes = flat_map attribute_text attributes

-- ---- tags

-- the name of an element and its attributes, of which no two have one name
pub record IsTag (name : List ℕ) (attributes : List Attribute) : Type 0 where
  pub named : is_xml_name name ≡ true
  pub each : list_all is_attribute attributes ≡ true
  pub distinct : are_distinct (names_of attributes) ≡ true

-- `<NAME ATTRIBUTES>`
abbrev pub start_tag : List ℕ → List Attribute → List ℕ
start_tag name attributes = 60 ∷ (name ++ (attributes_text attributes ++ 62 ∷ []))

-- `</NAME>`
abbrev pub end_tag : List ℕ → List ℕ
end_tag name = 60 ∷ 47 ∷ (name ++ 62 ∷ [])

-- `<NAME ATTRIBUTES/>`
abbrev pub empty_tag : List ℕ → List Attribute → List ℕ
empty_tag name attributes = 60 ∷ (name ++ (attributes_text attributes ++ 47 ∷ 62 ∷ []))

-- ---- elements

-- what stands for `&`, `<` or `>`
abbrev pub IsReference : List ℕ → Type 0
IsReference text = (text ≡ codes "&amp;") ⊎ ((text ≡ codes "&lt;") ⊎ (text ≡ codes "&gt;"))

mutual
  -- `<NAME ATTRIBUTES/>`, or `<NAME ATTRIBUTES>`, what is in it, and `</NAME>`
  pub data IsElement : List ℕ → Type 0 where
    empty : (name : List ℕ) (attributes : List Attribute) → IsTag name attributes
        → IsElement (empty_tag name attributes)
    whole : (name : List ℕ) (attributes : List Attribute) (inner : List ℕ)
        → IsTag name attributes → IsContent inner
        → IsElement (start_tag name attributes ++ (inner ++ end_tag name))

  -- plain bytes, references and elements, one behind the other
  pub data IsContent : List ℕ → Type 0 where
    nothing : IsContent []
    byte : (b : ℕ) (rest : List ℕ) → is_plain b ≡ true → IsContent rest → IsContent (b ∷ rest)
    reference : (text rest : List ℕ) → IsReference text → IsContent rest
        → IsContent (text ++ rest)
    element : (text rest : List ℕ) → IsElement text → IsContent rest → IsContent (text ++ rest)

-- one element, and a line feed behind it
pub record IsDocument (text : List ℕ) : Type 0 where
  pub root : List ℕ
  pub is_element : IsElement root
  pub text_is : text ≡ root ++ 10 ∷ []

-- ---- what follows for the bytes of a document

abbrev pub times_of : ℕ → List ℕ → ℕ
times_of b [] = 0
times_of b (x ∷ xs) = if x == b then times_of b xs + 1 else times_of b xs

-- there are as many `>` as `<`
abbrev pub TagsAreClosed : Type 0
TagsAreClosed = (text : List ℕ) → IsDocument text → times_of 60 text ≡ times_of 62 text

abbrev pub DocumentsArePrinted : Type 0
DocumentsArePrinted = (text : List ℕ) → IsDocument text → list_all is_printed text ≡ true
