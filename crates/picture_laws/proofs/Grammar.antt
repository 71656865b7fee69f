-- How elements and contents are put together.
use Rattle.std.proofs.Common.{◌≡◌, ℕ, zero, suc, true, false, not, ◌||◌, List, [], ◌∷◌, ◌++◌, refl, sym, ap, ◌∙◌, subst, inl, inr, append_assoc, append-nil}
use Rattle.std.specs.Prelude.{◌==◌, codes}
use Rattle.std.specs.List.{list_all, flat_map}
use Rattle.std.specs.Fmt.{decimal}
use Rattle.std.proofs.lemmas.Bool.{cases_Bool, and_parts, and_from}
use Rattle.std.proofs.lemmas.List.{map-append}
use Rattle.std.proofs.lemmas.List.Folds.{list_all-append}
use Rattle.log_lines.specs.Names.{are_distinct}
use Rattle.view_parts.specs.Each.{each_below}
use Rattle.view_parts.proofs.Each.{flat_map-append}
use Rattle.view_picture.specs.Svg.{attribute, escape, escaped}
use Rattle.picture_laws.specs.Xml.{is_printed, is_plain, is_in_value, is_xml_name, Attribute, is_attribute, names_of, attribute_text, attributes_text, IsTag, start_tag, end_tag, empty_tag, IsElement, empty, whole, IsContent, nothing, byte, reference, element}
use Rattle.picture_laws.proofs.Plain.{IsPlain, IsValue, number_value}

-- ---- contents

pub plain_content : (xs : List ℕ) → IsPlain xs → IsContent xs
plain_content [] h = nothing
plain_content (b ∷ xs) h = let parts = and_parts (is_plain b) (list_all is_plain xs) h in byte b xs parts.0 (plain_content xs parts.1)

pub one_more : (xs ys : List ℕ) → IsContent xs → IsContent ys → IsContent (xs ++ ys)
one_more xs ys nothing k = k
one_more xs ys (byte b rest h more) k = byte b (rest ++ ys) h (one_more rest ys more k)
one_more xs ys (reference text rest h more) k = subst IsContent (sym (append_assoc text rest ys)) (reference text (rest ++ ys) h (one_more rest ys more k))
one_more xs ys (element text rest h more) k = subst IsContent (sym (append_assoc text rest ys)) (element text (rest ++ ys) h (one_more rest ys more k))

pub each_content : (made : ℕ → List ℕ) (n : ℕ) → ((k : ℕ) → IsContent (made k)) → IsContent (each_below n made)
each_content made zero each = nothing
each_content made (suc n) each = one_more (each_below n made) (made n) (each_content made n each) (each n)

pub all_content : {A : Type 0} (made : A → List ℕ) (xs : List A) → ((x : A) → IsContent (made x)) → IsContent (flat_map made xs)
all_content made [] each = nothing
all_content made (x ∷ xs) each = one_more (made x) (flat_map made xs) (each x) (all_content made xs each)

pub nothing_behind : IsContent []
nothing_behind = nothing

pub feed : IsContent (10 ∷ [])
feed = byte 10 [] refl nothing

-- ---- a text of which the markup is escaped

plain_byte : (b : ℕ) → is_printed b ≡ true → (b == 38) ≡ false → (b == 60) ≡ false → (b == 62) ≡ false → is_plain b ≡ true
plain_byte b h no_amp no_less no_more = and_from (is_printed b) (not (b == 38 || (b == 60 || b == 62))) h (rw (no_amp, no_less, no_more) refl)

escape_content : (b : ℕ) (rest : List ℕ) → is_printed b ≡ true → IsContent rest → IsContent (escape b ++ rest)
escape_content b rest h more = elim (cases_Bool (b == 38)) [
  | inl amp ↦ rw amp (reference (codes "&amp;") rest (inl refl) more)
  | inr no_amp ↦ elim (cases_Bool (b == 60)) [
    | inl less ↦ rw (no_amp, less) (reference (codes "&lt;") rest (inr (inl refl)) more)
    | inr no_less ↦ elim (cases_Bool (b == 62)) [
      | inl greater ↦ rw (no_amp, no_less, greater) (reference (codes "&gt;") rest (inr (inr refl)) more)
      | inr no_greater ↦ rw (no_amp, no_less, no_greater) (byte b rest (plain_byte b h no_amp no_less no_greater) more)
    ]
  ]
]

pub escaped_content : (bytes : List ℕ) → list_all is_printed bytes ≡ true → IsContent (escaped bytes)
escaped_content [] h = nothing
escaped_content (b ∷ bytes) h = let parts = and_parts (is_printed b) (list_all is_printed bytes) h in escape_content b (escaped bytes) parts.0 (escaped_content bytes parts.1)

-- ---- attributes

-- the text is that of attributes with these names
pub record Look (names : List (List ℕ)) (text : List ℕ) : Type 0 where
  pub attributes : List Attribute
  pub names_are : names_of attributes ≡ names
  pub text_is : text ≡ attributes_text attributes
  pub each : list_all is_attribute attributes ≡ true

pub look_of : (attributes : List Attribute) → list_all is_attribute attributes ≡ true → Look (names_of attributes) (attributes_text attributes)
look_of attributes h = record { attributes = attributes; names_are = refl; text_is = refl; each = h }

abbrev pub attr : List ℕ → List ℕ → Attribute
attr name value = record { name = name; value = value }

one_text : (text : List ℕ) → text ≡ text ++ []
one_text text = sym (append-nil text)

-- with any value
pub valued : (name value : List ℕ) → is_xml_name name ≡ true → IsValue value → Look (name ∷ []) (attribute_text (attr name value))
valued name value h k = record {
  attributes = attr name value ∷ [];
  names_are = refl;
  text_is = one_text (attribute_text (attr name value));
  each = and_from (is_attribute (attr name value)) true (and_from (is_xml_name name) (list_all is_in_value value) h k) refl;
}

pub number : (name : List ℕ) (n : ℕ) → is_xml_name name ≡ true → Look (name ∷ []) (attribute name n)
number name n h = valued name (decimal n) h (number_value n)

pub looks : (names more : List (List ℕ)) (a b : List ℕ) → Look names a → Look more b → Look (names ++ more) (a ++ b)
looks names more a b first second = record {
  attributes = first.attributes ++ second.attributes;
  names_are = map-append (λ (x : Attribute). x.name) first.attributes second.attributes
      ∙ ap (λ (l : List (List ℕ)). l ++ names_of second.attributes) first.names_are ∙ ap (λ (l : List (List ℕ)). names ++ l) second.names_are;
  text_is = ap (λ (l : List ℕ). l ++ b) first.text_is ∙ ap (λ (l : List ℕ). attributes_text first.attributes ++ l) second.text_is ∙ sym (flat_map-append attribute_text first.attributes second.attributes);
  each = list_all-append is_attribute first.attributes second.attributes ∙ and_from (list_all is_attribute first.attributes) (list_all is_attribute second.attributes) first.each second.each;
}

-- ---- elements

tag_of : (name : List ℕ) (names : List (List ℕ)) (look : List ℕ) → is_xml_name name ≡ true → (l : Look names look) → are_distinct names ≡ true → IsTag name l.attributes
tag_of name names look h l distinct = record { named = h; each = l.each; distinct = ap are_distinct l.names_are ∙ distinct }

empty_is : (name look rest : List ℕ) → (60 ∷ (name ++ (look ++ 47 ∷ 62 ∷ []))) ++ rest ≡ 60 ∷ (name ++ (look ++ 47 ∷ 62 ∷ rest))
empty_is name look rest = simp append_assoc

-- an element with nothing in it, and what stands behind it
pub leaf : (name : List ℕ) (names : List (List ℕ)) (look rest : List ℕ) → is_xml_name name ≡ true → Look names look → are_distinct names ≡ true → IsContent rest
    → IsContent (60 ∷ (name ++ (look ++ 47 ∷ 62 ∷ rest)))
leaf name names look rest h l distinct more =
    subst IsContent (ap (λ (t : List ℕ). (60 ∷ (name ++ (t ++ 47 ∷ 62 ∷ []))) ++ rest) (sym l.text_is) ∙ empty_is name look rest)
    (element (empty_tag name l.attributes) rest (empty name l.attributes (tag_of name names look h l distinct)) more)

whole_is : (name look inner rest : List ℕ)
    → ((60 ∷ (name ++ (look ++ 62 ∷ []))) ++ (inner ++ (60 ∷ 47 ∷ (name ++ 62 ∷ [])))) ++ rest ≡ 60 ∷ (name ++ (look ++ 62 ∷ (inner ++ 60 ∷ 47 ∷ (name ++ 62 ∷ rest))))
whole_is name look inner rest = simp append_assoc

-- an element with something in it, and what stands behind it
pub box : (name : List ℕ) (names : List (List ℕ)) (look inner rest : List ℕ) → is_xml_name name ≡ true → Look names look → are_distinct names ≡ true → IsContent inner → IsContent rest
    → IsContent (60 ∷ (name ++ (look ++ 62 ∷ (inner ++ 60 ∷ 47 ∷ (name ++ 62 ∷ rest)))))
box name names look inner rest h l distinct content more =
    subst IsContent (ap (λ (t : List ℕ). ((60 ∷ (name ++ (t ++ 62 ∷ []))) ++ (inner ++ (60 ∷ 47 ∷ (name ++ 62 ∷ [])))) ++ rest) (sym l.text_is) ∙ whole_is name look inner rest)
    (element (start_tag name l.attributes ++ (inner ++ end_tag name)) rest (whole name l.attributes inner (tag_of name names look h l distinct) content) more)

root_text : (name look inner : List ℕ)
    → (60 ∷ (name ++ (look ++ 62 ∷ []))) ++ (inner ++ (60 ∷ 47 ∷ (name ++ 62 ∷ []))) ≡ 60 ∷ (name ++ (look ++ 62 ∷ (inner ++ 60 ∷ 47 ∷ (name ++ 62 ∷ []))))
root_text name look inner = simp append_assoc

-- an element with something in it
pub root_element : (name : List ℕ) (names : List (List ℕ)) (look inner : List ℕ) → is_xml_name name ≡ true → Look names look → are_distinct names ≡ true → IsContent inner
    → IsElement (60 ∷ (name ++ (look ++ 62 ∷ (inner ++ 60 ∷ 47 ∷ (name ++ 62 ∷ [])))))
root_element name names look inner h l distinct content =
    subst IsElement (ap (λ (t : List ℕ). (60 ∷ (name ++ (t ++ 62 ∷ []))) ++ (inner ++ (60 ∷ 47 ∷ (name ++ 62 ∷ [])))) (sym l.text_is) ∙ root_text name look inner)
    (whole name l.attributes inner (tag_of name names look h l distinct) content)
