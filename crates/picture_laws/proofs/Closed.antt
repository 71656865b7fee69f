-- Documents have as many `>` as `<`, and printed bytes alone.
use Rattle.std.proofs.Common.{◌≡◌, ℕ, ◌+◌, Bool, true, false, ◌||◌, List, [], ◌∷◌, ◌++◌, refl, sym, ap, ◌∙◌, subst, arith, inl, inr, append_assoc}
use Rattle.std.specs.Prelude.{◌==◌}
use Rattle.std.specs.List.{list_all}
use Rattle.std.proofs.lemmas.Bool.{cases_Bool, and_parts, and_from, eqb-true}
use Rattle.pota_names.specs.Names.{is_name_start, is_name_byte}
use Rattle.picture_laws.specs.Xml.{is_printed, is_plain, is_in_value, is_xml_name, Attribute, is_attribute, attribute_text, attributes_text, IsTag, start_tag, end_tag, empty_tag, IsReference, IsElement, empty, whole, IsContent, nothing, byte, reference, element, times_of, TagsAreClosed, DocumentsArePrinted}
use Rattle.picture_laws.proofs.Plain.{IsPlain, both, wider, plain_is_printed, value_is_plain, name_byte_plain}

-- ---- the texts of tags

or_from : (a b : Bool) → a ≡ true → (a || b) ≡ true
or_from true b h = refl
or_from false b h = cc

start_plain : (b : ℕ) → is_name_start b ≡ true → is_plain b ≡ true
start_plain b h = name_byte_plain b (or_from (is_name_start b) _ h)

dash_plain : (b : ℕ) → (is_name_byte b || b == 45) ≡ true → is_plain b ≡ true
dash_plain b h = elim (cases_Bool (is_name_byte b)) [
  | inl name ↦ name_byte_plain b name
  | inr other ↦ by_dash (is_name_byte b) other h
]
  where
    by_dash : (a : Bool) → a ≡ false → (a || b == 45) ≡ true → is_plain b ≡ true
    by_dash true other either = cc
    by_dash false other either = ap is_plain (eqb-true b 45 either)

xml_name_plain : (n : List ℕ) → is_xml_name n ≡ true → IsPlain n
xml_name_plain [] h = refl
xml_name_plain (b ∷ rest) h =
    let parts = and_parts (is_name_start b) (list_all (λ c. is_name_byte c || c == 45) rest) h in
    and_from (is_plain b) (list_all is_plain rest) (start_plain b parts.0) (wider (λ c. is_name_byte c || c == 45) is_plain dash_plain rest parts.1)

attribute_plain : (a : Attribute) → is_attribute a ≡ true → IsPlain (attribute_text a)
attribute_plain a h =
    let parts = and_parts (is_xml_name a.name) (list_all is_in_value a.value) h in
    both is_plain a.name (61 ∷ 39 ∷ (a.value ++ 39 ∷ [])) (xml_name_plain a.name parts.0) (both is_plain a.value (39 ∷ []) (value_is_plain a.value parts.1) refl)

attributes_plain : (attributes : List Attribute) → list_all is_attribute attributes ≡ true → IsPlain (attributes_text attributes)
attributes_plain [] h = refl
attributes_plain (a ∷ attributes) h =
    let parts = and_parts (is_attribute a) (list_all is_attribute attributes) h in
    both is_plain (attribute_text a) (attributes_text attributes) (attribute_plain a parts.0) (attributes_plain attributes parts.1)

-- ---- counting

times-append : (b : ℕ) (xs ys : List ℕ) → times_of b (xs ++ ys) ≡ times_of b xs + times_of b ys
times-append b [] ys = omega arith
times-append b (x ∷ xs) ys = elim (cases_Bool (x == b)) [
  | inl here ↦ rw here (let more = times-append b xs ys in omega arith)
  | inr other ↦ rw other (times-append b xs ys)
]

-- a byte that isn't plain isn't there
never_plain : (b : ℕ) → is_plain b ≡ false → (xs : List ℕ) → IsPlain xs → times_of b xs ≡ 0
never_plain b markup [] h = refl
never_plain b markup (x ∷ xs) h =
    let parts = and_parts (is_plain x) (list_all is_plain xs) h in
    elim (cases_Bool (x == b)) [
      | inl here ↦ let same : is_plain x ≡ is_plain b = ap is_plain (eqb-true x b here) in absurd (differ (is_plain x) (is_plain b) same parts.0 markup)
      | inr other ↦ rw other (never_plain b markup xs parts.1)
    ]
  where
    differ : (p q : Bool) → p ≡ q → p ≡ true → q ≡ false → ⊥
    differ p q same first second = cc

-- as many of both, and printed bytes alone
record IsClosed (text : List ℕ) : Type 0 where
  tags : times_of 60 text ≡ times_of 62 text
  printed : list_all is_printed text ≡ true

plain_closed : (xs : List ℕ) → IsPlain xs → IsClosed xs
plain_closed xs h = record { tags = never_plain 60 refl xs h ∙ sym (never_plain 62 refl xs h); printed = plain_is_printed xs h }

closed_both : (xs ys : List ℕ) → IsClosed xs → IsClosed ys → IsClosed (xs ++ ys)
closed_both xs ys first second = record {
  tags = omega (arith, times-append 60 xs ys, times-append 62 xs ys, first.tags, second.tags);
  printed = both is_printed xs ys first.printed second.printed;
}

-- a tag
tag_closed : (xs : List ℕ) → IsPlain xs → IsClosed (60 ∷ (xs ++ 62 ∷ []))
tag_closed xs h = record {
  tags = omega (arith, times-append 60 xs (62 ∷ []), times-append 62 xs (62 ∷ []), never_plain 60 refl xs h, never_plain 62 refl xs h);
  printed = both is_printed xs (62 ∷ []) (plain_is_printed xs h) refl;
}

start_is : (name look close : List ℕ) → 60 ∷ ((name ++ look) ++ close) ≡ 60 ∷ (name ++ (look ++ close))
start_is name look close = simp append_assoc

start_closed : (name : List ℕ) (attributes : List Attribute) → IsTag name attributes → IsClosed (start_tag name attributes)
start_closed name attributes tag =
    subst IsClosed (start_is name (attributes_text attributes) (62 ∷ []))
    (tag_closed (name ++ attributes_text attributes) (both is_plain name (attributes_text attributes) (xml_name_plain name tag.named) (attributes_plain attributes tag.each)))

empty_is : (name look slash close : List ℕ) → 60 ∷ ((name ++ (look ++ slash)) ++ close) ≡ 60 ∷ (name ++ (look ++ (slash ++ close)))
empty_is name look slash close = simp append_assoc

empty_closed : (name : List ℕ) (attributes : List Attribute) → IsTag name attributes → IsClosed (empty_tag name attributes)
empty_closed name attributes tag =
    subst IsClosed (empty_is name (attributes_text attributes) (47 ∷ []) (62 ∷ []))
    (tag_closed (name ++ (attributes_text attributes ++ 47 ∷ []))
    (both is_plain name (attributes_text attributes ++ 47 ∷ []) (xml_name_plain name tag.named) (both is_plain (attributes_text attributes) (47 ∷ []) (attributes_plain attributes tag.each) refl)))

end_closed : (name : List ℕ) (attributes : List Attribute) → IsTag name attributes → IsClosed (end_tag name)
end_closed name attributes tag = tag_closed (47 ∷ name) (xml_name_plain name tag.named)

reference_closed : (text : List ℕ) → IsReference text → IsClosed text
reference_closed text (inl amp) = subst IsClosed (sym amp) (record { tags = refl; printed = refl })
reference_closed text (inr (inl less)) = subst IsClosed (sym less) (record { tags = refl; printed = refl })
reference_closed text (inr (inr more)) = subst IsClosed (sym more) (record { tags = refl; printed = refl })

mutual
  element_closed : (text : List ℕ) → IsElement text → IsClosed text
  element_closed text (empty name attributes tag) = empty_closed name attributes tag
  element_closed text (whole name attributes inner tag content) =
      closed_both (start_tag name attributes) (inner ++ end_tag name) (start_closed name attributes tag) (closed_both inner (end_tag name) (content_closed inner content) (end_closed name attributes tag))

  content_closed : (text : List ℕ) → IsContent text → IsClosed text
  content_closed text nothing = record { tags = refl; printed = refl }
  content_closed text (byte b rest h more) = closed_both (b ∷ []) rest (plain_closed (b ∷ []) (and_from (is_plain b) true h refl)) (content_closed rest more)
  content_closed text (reference name rest h more) = closed_both name rest (reference_closed name h) (content_closed rest more)
  content_closed text (element inner rest h more) = closed_both inner rest (element_closed inner h) (content_closed rest more)

document_closed : (root text : List ℕ) → IsElement root → text ≡ root ++ 10 ∷ [] → IsClosed text
document_closed root text is text_is = subst IsClosed (sym text_is) (closed_both root (10 ∷ []) (element_closed root is) (record { tags = refl; printed = refl }))

pub tags_are_closed : TagsAreClosed
tags_are_closed text is = (document_closed is.root text is.is_element is.text_is).tags

pub documents_are_printed : DocumentsArePrinted
documents_are_printed text is = (document_closed is.root text is.is_element is.text_is).printed
