-- The forms of XML that an NZB text is made of: white, comments, references, values, texts, attributes and elements.
use Rattle.std.specs.Prelude.{◌≡◌, ◌≢◌, ℕ, ◌-◌, Bool, true, not, ◌||◌, ◌&&◌, nat_lt, nat_le, ◌==◌, if◌then◌else◌, List, [], ◌∷◌, ◌++◌, length, take, drop, ◌⊎◌, Option, Some, None, find, is_some, codes, bytes_eq, encode_utf8, IsTrue, IsFalse}
use Rattle.std.specs.List.{concat, flat_map, AllByRecursion, list_all, list_any, prefix_len, suffix_len}
use Rattle.std.specs.Option.{option_map}
use Rattle.std.specs.Char.{is_ascii_digit, is_ascii_hexdigit}
use Rattle.std.specs.Str.Parse.{digits_value}
use Rattle.numbers.specs.Numbers.{decimal_of, or_zero}

-- ---- characters and small forms

abbrev pub is_white : ℕ → Bool
is_white b = b == 9 || b == 10 || b == 13 || b == 32

abbrev pub is_control : ℕ → Bool
is_control b = nat_lt b 32 && not (is_white b)

abbrev pub is_name_byte : ℕ → Bool
is_name_byte b = nat_le 48 b && nat_le b 58 || nat_le 65 b && nat_le b 90 || nat_le 97 b && nat_le b 122 || b == 95 || b == 45 || b == 46 || nat_lt 127 b

abbrev pub is_id_byte : ℕ → Bool
is_id_byte b = nat_le 33 b && nat_le b 126 && not (b == 62)

abbrev pub is_message_id : List ℕ → Bool
is_message_id id = nat_le 1 (length id) && nat_le (length id) 248 && list_all is_id_byte id

abbrev pub IsWhite : List ℕ → Type 0
IsWhite text = IsTrue (list_all is_white text)

abbrev pub IsMarkupName : List ℕ → Type 0
IsMarkupName name = (name ≢ []) × IsTrue (list_all is_name_byte name)

-- bytes that may stand in a text, a value, a comment and a declaration
abbrev pub IsTextBytes : List ℕ → Type 0
IsTextBytes text = IsFalse (list_any is_control text)

-- the text ends with the word, which stands nowhere before in it
abbrev pub EndsAtFirst : List ℕ → List ℕ → Type 0
EndsAtFirst text word = ((inside : List ℕ) × (text ≡ inside ++ word) × IsTextBytes inside) × ((a b : List ℕ) → text ≡ a ++ word ++ b → b ≡ [])

abbrev pub IsMarkupComment : List ℕ → Type 0
IsMarkupComment text = (rest : List ℕ) × (text ≡ codes "<!--" ++ rest) × EndsAtFirst rest (codes "-->")

-- white and comments
abbrev pub IsBetween : List ℕ → Type 0
IsBetween text = (pieces : List (List ℕ)) × (text ≡ concat pieces) × AllByRecursion (λ p. IsWhite p ⊎ IsMarkupComment p) pieces

-- without the white at both ends
abbrev pub trimmed : List ℕ → List ℕ
trimmed text = let front = drop (prefix_len is_white text) text in take (length front - suffix_len is_white front) front

-- ---- references, values and texts

-- a character that XML has
abbrev pub is_character : ℕ → Bool
is_character c = c == 9 || c == 10 || c == 13 || nat_le 32 c && nat_le c 0xD7FF || nat_le 0xE000 c && nat_le c 0xFFFD || nat_le 0x10000 c && nat_le c 0x10FFFF

abbrev pub IsNumericReference : List ℕ → ℕ → Type 0
IsNumericReference text c =
    ((ds : List ℕ) × (text ≡ codes "&#" ++ ds ++ codes ";") × (ds ≢ []) × IsTrue (list_all is_ascii_digit ds) × (c ≡ digits_value 10 ds))
    ⊎ ((ds : List ℕ) × (text ≡ codes "&#x" ++ ds ++ codes ";") × (ds ≢ []) × IsTrue (list_all is_ascii_hexdigit ds) × (c ≡ digits_value 16 ds))

abbrev pub IsNamedReference : List ℕ → ℕ → Type 0
IsNamedReference text c =
    ((text ≡ codes "&amp;") × (c ≡ 38)) ⊎ ((text ≡ codes "&lt;") × (c ≡ 60)) ⊎ ((text ≡ codes "&gt;") × (c ≡ 62))
    ⊎ ((text ≡ codes "&quot;") × (c ≡ 34)) ⊎ ((text ≡ codes "&apos;") × (c ≡ 39))

-- a reference and the bytes that it stands for
abbrev pub IsReference : List ℕ → List ℕ → Type 0
IsReference text bytes = (c : ℕ) × (IsNamedReference text c ⊎ IsNumericReference text c) × IsTrue (is_character c) × (bytes ≡ encode_utf8 c)

-- a byte that stands for itself
abbrev pub IsPlainText : List ℕ → List ℕ → Type 0
IsPlainText text bytes = (b : ℕ) × (b ≢ 38) × (b ≢ 60) × IsFalse (is_control b) × (text ≡ b ∷ []) × (bytes ≡ b ∷ [])

-- what a text of such pieces stands for
abbrev pub Denotes : (List ℕ → List ℕ → Type 0) → List ℕ → List ℕ → Type 0
Denotes IsPiece text bytes = (pieces : List (List ℕ × List ℕ)) × AllByRecursion (λ p. IsPiece p.0 p.1) pieces × (text ≡ flat_map (λ p. p.0) pieces) × (bytes ≡ flat_map (λ p. p.1) pieces)

-- the text with each line end and each TAB as one space
abbrev pub spaced : List ℕ → List ℕ
spaced [] = []
spaced (x ∷ []) = (if x == 13 || x == 10 || x == 9 then 32 else x) ∷ []
spaced (x ∷ y ∷ more) =
    if x == 13 && y == 10 then spaced (y ∷ more)
    else (if x == 13 || x == 10 || x == 9 then 32 else x) ∷ spaced (y ∷ more)

abbrev pub IsValue : List ℕ → List ℕ → Type 0
IsValue text bytes = Denotes (λ t p. IsPlainText t p ⊎ IsReference t p) (spaced text) bytes

-- an element's text: comments are skipped, and white at both ends is cut
abbrev pub IsElementText : List ℕ → List ℕ → Type 0
IsElementText text bytes = (whole : List ℕ) × Denotes (λ t p. IsPlainText t p ⊎ IsReference t p ⊎ (IsMarkupComment t × (p ≡ []))) text whole × (bytes ≡ trimmed whole)

-- ---- tags and elements

pub record Attribute : Type 0 where
  pub name : List ℕ
  pub value : List ℕ

pub record IsAttribute (text : List ℕ) (a : Attribute) : Type 0 where
  pub before : List ℕ
  pub behind_name : List ℕ
  pub behind_equals : List ℕ
  pub quote : ℕ
  pub value : List ℕ
  pub text_is : text ≡ before ++ a.name ++ behind_name ++ codes "=" ++ behind_equals ++ quote ∷ value ++ quote ∷ []
  pub apart : before ≢ []
  pub white : IsWhite before × IsWhite behind_name × IsWhite behind_equals
  pub is_name : IsMarkupName a.name
  pub is_quote : (quote ≡ 34) ⊎ (quote ≡ 39)
  pub within_quotes : IsFalse (list_any (λ b. b == quote || b == 60) value)
  pub is_value : IsValue value a.value

-- what the tag gives for an attribute's name
abbrev pub attribute : List ℕ → List Attribute → Option (List ℕ)
attribute name attributes = option_map (λ a. a.value) (find (λ a. bytes_eq a.name name) attributes)

abbrev pub has_attribute : List ℕ → List Attribute → Bool
has_attribute name attributes = is_some (find (λ a. bytes_eq a.name name) attributes)

abbrev pub or_nothing : Option (List ℕ) → List ℕ
or_nothing None = []
or_nothing (Some text) = text

-- an attribute that is a number, or 0 where it is missing
abbrev pub number_of : List ℕ → List Attribute → ℕ
number_of name attributes = or_zero (decimal_of (or_nothing (attribute name attributes)))

-- which values an element's attributes may have, by their names
abbrev pub AttributeChecks : Type 0
AttributeChecks = List ℕ → List ℕ → Bool

abbrev pub unchecked : AttributeChecks
unchecked name value = true

-- attributes behind these earlier ones of their tag: no name stands twice, and each value is one that the element allows
abbrev pub AreAttributes : AttributeChecks → List Attribute → List ℕ → List Attribute → Type 0
AreAttributes checks earlier text [] = text ≡ []
AreAttributes checks earlier text (a ∷ more) = (first rest : List ℕ) × (text ≡ first ++ rest) × IsAttribute first a × IsFalse (has_attribute a.name earlier)
    × IsTrue (checks a.name a.value) × AreAttributes checks (earlier ++ a ∷ []) rest more

-- an element of this name, with its attributes and what stands between its tags
pub record IsElement (checks : AttributeChecks) (name text : List ℕ) (attributes : List Attribute) (inside : List ℕ) : Type 0 where
  pub attribute_text : List ℕ
  pub white : List ℕ
  pub are_attributes : AreAttributes checks [] attribute_text attributes
  pub is_white : IsWhite white
  pub text_is : ((text ≡ codes "<" ++ name ++ attribute_text ++ white ++ codes "/>") × (inside ≡ []))
      ⊎ ((last : List ℕ) × IsWhite last × (text ≡ codes "<" ++ name ++ attribute_text ++ white ++ codes ">" ++ inside ++ codes "</" ++ name ++ last ++ codes ">"))

-- elements with white and comments between, and the value of each
abbrev pub AreElements : {A : Type 0} → (List ℕ → A → Type 0) → List ℕ → List A → Type 0
AreElements IsOne text [] = IsBetween text
AreElements IsOne text (x ∷ xs) = (before one rest : List ℕ) × (text ≡ before ++ one ++ rest) × IsBetween before × IsOne one x × AreElements IsOne rest xs
