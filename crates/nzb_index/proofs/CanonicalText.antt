-- The canonical text of a valid index is in the grammar, and reads back.
use Rattle.std.proofs.Common.{◌≡◌, ◌≢◌, ℕ, zero, suc, ◌-◌, ◌^◌, ◌≤◌, ◌<◌, Bool, true, false, eqb, leb, ◌||◌, ◌&&◌, List, [], ◌∷◌, ◌++◌, length, take, get_or, Option, Some, None, Ok, refl, sym, ap, subst, ◌∙◌, append_assoc, arith, inl, inr}
use Rattle.std.specs.Prelude.{codes, decimal, encode_utf8, is_some}
use Rattle.std.specs.List.{list_all, list_any, prefix_len, suffix_len, flat_map, AllByRecursion}
use Rattle.std.specs.Char.{is_ascii_digit}
use Rattle.std.proofs.lemmas.Bool.{eqb-false, ne_eqb, cases_Bool, cases_eq, and_parts, or_parts, or_from, le-leb}
use Rattle.std.proofs.lemmas.Bool.Decides.{nat_tests}
use Rattle.std.proofs.lemmas.List.{append-nil}
use Rattle.std.proofs.lemmas.List.Sums.{suffix_len_is}
use Rattle.numbers.specs.Numbers.{decimal_of, within}
use Rattle.nzb_writer.specs.declared.index.Meta.{Meta}
use Rattle.nzb_writer.specs.declared.index.Segment.{Segment}
use Rattle.nzb_writer.specs.declared.index.FileEntry.{FileEntry}
use Rattle.nzb_writer.specs.declared.index.Index.{Index}
use Rattle.nzb_writer.specs.Markup.{IsTextBytes, Attribute, AttributeChecks, unchecked, is_white, is_control, is_id_byte, is_message_id, IsMarkupName, spaced, IsValue, IsElementText, trimmed, IsAttribute, AreAttributes, has_attribute, IsElement, AreElements, EndsAtFirst}
use Rattle.nzb_writer.specs.Nzb.{segment_checks, file_checks, IsMeta, IsGroup, IsSegment, Listed, groups, segments, Lists, IsFile, Entry, head, file, IsEntry, metas_in, files_in, IsNzb}
use Rattle.nzb_writer.specs.Canonical.{escaped_byte, escaped, meta_text, group_text, segment_text, file_text, head_text, nzb_text, IsValidFile, IsValidIndex}
use Rattle.nzb_index.specs.MarkupReading.{up_to}
use Rattle.nzb_index.specs.NzbReading.{nzb_of}
use Rattle.nzb_index.proofs.WrittenNumbers.{decimal_read}
use Rattle.nzb_index.proofs.Words.{up_to_found}
use Rattle.nzb_index.proofs.IndexRead.{nzb_back}
use Rattle.nzb_index.proofs.TextsFound.{encoded, shown, spaced-one, closes, Piece}
use Rattle.nzb_index.proofs.ElementsFound.{TextPiece}
use Rattle.limits.specs.declared.TheConstants.{LAST_MOMENT, MOST_OCTETS, MOST_TEXT_BYTES}

-- ---- what is escaped

abbrev breaks : ℕ → Bool
breaks x = eqb x 13 || eqb x 10 || eqb x 9

record EscapedByte (b : ℕ) : Type 0 where
  pub piece : Piece (escaped_byte b) (b ∷ [])
  pub no_break : list_any breaks (escaped_byte b) ≡ false
  pub no_quote : list_any (closes 34) (escaped_byte b) ≡ false

white_encoded : (encode_utf8 9 ≡ 9 ∷ []) × (encode_utf8 10 ≡ 10 ∷ []) × (encode_utf8 13 ≡ 13 ∷ [])
unfolding lib.Utf8.encode
white_encoded = (refl, refl, refl)

plain_byte : (b : ℕ) → is_control b ≡ false → b ≢ 38 → b ≢ 60 → b ≢ 34 → b ≢ 9 → b ≢ 10 → b ≢ 13 → escaped_byte b ≡ b ∷ [] → EscapedByte b
plain_byte b clean amp less double tab lf cr e = record {
  piece = inl (b, amp, less, clean, e, refl);
  no_break = rw e (or_from (breaks b) false (or_from (eqb b 13 || eqb b 10) (eqb b 9) (or_from (eqb b 13) (eqb b 10) (ne_eqb b 13 cr) (ne_eqb b 10 lf)) (ne_eqb b 9 tab)) refl);
  no_quote = rw e (or_from (closes 34 b) false (or_from (eqb b 34) (eqb b 60) (ne_eqb b 34 double) (ne_eqb b 60 less)) refl);
}

escaped_one : (b : ℕ) → is_control b ≡ false → EscapedByte b
escaped_one b clean = elim (cases_eq b 38) [
  | inl e ↦ rw e (record { piece = inr (38, inl (inl (refl, refl)), refl, sym encoded.0); no_break = refl; no_quote = refl })
  | inr n38 ↦ elim (cases_eq b 60) [
    | inl e ↦ rw e (record { piece = inr (60, inl (inr (inl (refl, refl))), refl, sym encoded.1); no_break = refl; no_quote = refl })
    | inr n60 ↦ elim (cases_eq b 62) [
      | inl e ↦ rw e (record { piece = inr (62, inl (inr (inr (inl (refl, refl)))), refl, sym encoded.2); no_break = refl; no_quote = refl })
      | inr n62 ↦ elim (cases_eq b 34) [
        | inl e ↦ rw e (record { piece = inr (34, inl (inr (inr (inr (inl (refl, refl))))), refl, sym encoded.3); no_break = refl; no_quote = refl })
        | inr n34 ↦ elim (cases_eq b 39) [
          | inl e ↦ rw e (record { piece = inr (39, inl (inr (inr (inr (inr (refl, refl))))), refl, sym encoded.4); no_break = refl; no_quote = refl })
          | inr n39 ↦ elim (cases_eq b 9) [
            | inl e ↦ rw e (record { piece = inr (9, inr (inl (codes "9", refl, (λ f. cc), refl, refl)), refl, sym white_encoded.0); no_break = refl; no_quote = refl })
            | inr n9 ↦ elim (cases_eq b 10) [
              | inl e ↦ rw e (record { piece = inr (10, inr (inl (codes "10", refl, (λ f. cc), refl, refl)), refl, sym white_encoded.1); no_break = refl; no_quote = refl })
              | inr n10 ↦ elim (cases_eq b 13) [
                | inl e ↦ rw e (record { piece = inr (13, inr (inl (codes "13", refl, (λ f. cc), refl, refl)), refl, sym white_encoded.2); no_break = refl; no_quote = refl })
                | inr n13 ↦ plain_byte b clean n38 n60 n34 n9 n10 n13 (rw (ne_eqb b 38 n38, ne_eqb b 60 n60, ne_eqb b 62 n62, ne_eqb b 34 n34, ne_eqb b 39 n39, ne_eqb b 9 n9, ne_eqb b 10 n10, ne_eqb b 13 n13) refl)
              ]
            ]
          ]
        ]
      ]
    ]
  ]
]

none-append : (p : ℕ → Bool) (a b : List ℕ) → list_any p a ≡ false → list_any p b ≡ false → list_any p (a ++ b) ≡ false
none-append p [] b h k = k
none-append p (x ∷ a) b h k = let r = or_parts (p x) (list_any p a) h in or_from (p x) _ r.0 (none-append p a b r.1 k)

escaped_none : (p : ℕ → Bool) → ((b : ℕ) → is_control b ≡ false → list_any p (escaped_byte b) ≡ false) → (t : List ℕ) → IsTextBytes t → list_any p (escaped t) ≡ false
escaped_none p h [] clean = refl
escaped_none p h (b ∷ t) clean = let r = or_parts (is_control b) (list_any is_control t) clean in none-append p (escaped_byte b) (escaped t) (h b r.0) (escaped_none p h t r.1)

spaced_none : (t : List ℕ) → list_any breaks t ≡ false → spaced t ≡ t
spaced_none [] h = refl
spaced_none (x ∷ t) h =
    let r = or_parts (breaks x) (list_any breaks t) h in
    let a = or_parts (eqb x 13 || eqb x 10) (eqb x 9) r.0 in
    let b = or_parts (eqb x 13) (eqb x 10) a.0 in
    spaced-one x t (λ m e f. eqb-false x 13 b.0 e) ∙ (let plain : shown x ≡ x = rw r.0 refl in rw (plain, spaced_none t r.1) refl)

abbrev pieces_of : List ℕ → List (List ℕ × List ℕ)
pieces_of [] = []
pieces_of (b ∷ t) = (escaped_byte b, b ∷ []) ∷ pieces_of t

raw_pieces : (t : List ℕ) → escaped t ≡ flat_map (λ (p : List ℕ × List ℕ). p.0) (pieces_of t)
raw_pieces [] = refl
raw_pieces (b ∷ t) = ap (λ (x : List ℕ). escaped_byte b ++ x) (raw_pieces t)

byte_pieces : (t : List ℕ) → t ≡ flat_map (λ (p : List ℕ × List ℕ). p.1) (pieces_of t)
byte_pieces [] = refl
byte_pieces (b ∷ t) = ap (λ (x : List ℕ). b ∷ x) (byte_pieces t)

value_pieces : (t : List ℕ) → IsTextBytes t → AllByRecursion (λ (p : List ℕ × List ℕ). Piece p.0 p.1) (pieces_of t)
value_pieces [] clean = tt
value_pieces (b ∷ t) clean = let r = or_parts (is_control b) (list_any is_control t) clean in ((escaped_one b r.0).piece, value_pieces t r.1)

text_pieces : (t : List ℕ) → IsTextBytes t → AllByRecursion (λ (p : List ℕ × List ℕ). TextPiece p.0 p.1) (pieces_of t)
text_pieces [] clean = tt
text_pieces (b ∷ t) clean = let r = or_parts (is_control b) (list_any is_control t) clean in (as_text (escaped_one b r.0).piece, text_pieces t r.1)
  where
    as_text : Piece (escaped_byte b) (b ∷ []) → TextPiece (escaped_byte b) (b ∷ [])
    as_text (inl p) = inl p
    as_text (inr r) = inr (inl r)

is_escaped_value : (t : List ℕ) → IsTextBytes t → IsValue (escaped t) t
is_escaped_value t clean = (pieces_of t, value_pieces t clean, spaced_none (escaped t) (escaped_none breaks (λ b h. (escaped_one b h).no_break) t clean) ∙ raw_pieces t, byte_pieces t)

is_escaped_text : (t : List ℕ) → IsTextBytes t → trimmed t ≡ t → IsElementText (escaped t) t
is_escaped_text t clean e = (t, (pieces_of t, text_pieces t clean, raw_pieces t, byte_pieces t), sym e)

-- ---- numbers and identifiers

digits_all : (text : List ℕ) (n : ℕ) → decimal_of text ≡ Some n → list_all is_ascii_digit text ≡ true
digits_all [] n e = refl
digits_all (d ∷ ds) n e = elim (cases_Bool (list_all is_ascii_digit (d ∷ ds))) [
  | inl t ↦ t
  | inr f ↦ absurd (let none : nothing ≡ Some n = rw f at e in cc)
]
  where
    nothing : Option ℕ
    nothing = None

digit_escaped : (d : ℕ) → is_ascii_digit d ≡ true → (escaped_byte d ≡ d ∷ []) × (is_control d ≡ false)
digit_escaped d e = (rw (not_at 38 (digit_38 d e), not_at 60 (digit_60 d e), not_at 62 (digit_62 d e), not_at 34 (digit_34 d e), not_at 39 (digit_39 d e), not_at 9 (digit_9 d e), not_at 10 (digit_10 d e), not_at 13 (digit_13 d e)) refl, no_control d e)
  where
    not_at : (k : ℕ) → d ≢ k → eqb d k ≡ false
    not_at k n = ne_eqb d k n

    digit_38 : (x : ℕ) → is_ascii_digit x ≡ true → x ≢ 38
    digit_38 x e f = grind (arith, nat_tests)

    digit_60 : (x : ℕ) → is_ascii_digit x ≡ true → x ≢ 60
    digit_60 x e f = grind (arith, nat_tests)

    digit_62 : (x : ℕ) → is_ascii_digit x ≡ true → x ≢ 62
    digit_62 x e f = grind (arith, nat_tests)

    digit_34 : (x : ℕ) → is_ascii_digit x ≡ true → x ≢ 34
    digit_34 x e f = grind (arith, nat_tests)

    digit_39 : (x : ℕ) → is_ascii_digit x ≡ true → x ≢ 39
    digit_39 x e f = grind (arith, nat_tests)

    digit_9 : (x : ℕ) → is_ascii_digit x ≡ true → x ≢ 9
    digit_9 x e f = grind (arith, nat_tests)

    digit_10 : (x : ℕ) → is_ascii_digit x ≡ true → x ≢ 10
    digit_10 x e f = grind (arith, nat_tests)

    digit_13 : (x : ℕ) → is_ascii_digit x ≡ true → x ≢ 13
    digit_13 x e f = grind (arith, nat_tests)

    no_control : (x : ℕ) → is_ascii_digit x ≡ true → is_control x ≡ false
    no_control x e = grind (arith, nat_tests)

digits_escaped : (ds : List ℕ) → list_all is_ascii_digit ds ≡ true → (escaped ds ≡ ds) × IsTextBytes ds
digits_escaped [] h = (refl, refl)
digits_escaped (d ∷ ds) h =
    let r = and_parts (is_ascii_digit d) (list_all is_ascii_digit ds) h in
    let one = digit_escaped d r.0 in
    let more = digits_escaped ds r.1 in
    (rw (one.0, more.0) refl, or_from (is_control d) _ one.1 more.1)

id_no_white : (x : ℕ) → is_id_byte x ≡ true → (is_white x ≡ false) × (is_control x ≡ false)
id_no_white x e = (no_white x e, no_control x e)
  where
    no_white : (x : ℕ) → is_id_byte x ≡ true → is_white x ≡ false
    no_white x e = grind (arith, nat_tests)

    no_control : (x : ℕ) → is_id_byte x ≡ true → is_control x ≡ false
    no_control x e = grind (arith, nat_tests)

ids_clean : (id : List ℕ) → list_all is_id_byte id ≡ true → (list_any is_white id ≡ false) × IsTextBytes id
ids_clean [] h = (refl, refl)
ids_clean (x ∷ id) h =
    let r = and_parts (is_id_byte x) (list_all is_id_byte id) h in
    let one = id_no_white x r.0 in
    let more = ids_clean id r.1 in
    (or_from (is_white x) _ one.0 more.0, or_from (is_control x) _ one.1 more.1)

none_at : (p : ℕ → Bool) (t : List ℕ) (k : ℕ) → list_any p t ≡ false → k < length t → p (get_or t k 0) ≡ false
none_at p [] k h l = absurd (omega arith)
none_at p (x ∷ t) zero h l = (or_parts (p x) (list_any p t) h).0
none_at p (x ∷ t) (suc k) h l = none_at p t k (or_parts (p x) (list_any p t) h).1 (omega arith)

no_front : (t : List ℕ) → list_any is_white t ≡ false → prefix_len is_white t ≡ 0
no_front [] h = refl
no_front (x ∷ t) h = rw (or_parts (is_white x) (list_any is_white t) h).0 refl

take_whole : (t : List ℕ) → take (length t) t ≡ t
take_whole [] = refl
take_whole (x ∷ t) = ap (λ (u : List ℕ). x ∷ u) (take_whole t)

trimmed_none : (t : List ℕ) → list_any is_white t ≡ false → trimmed t ≡ t
trimmed_none t h =
    let behind : suffix_len is_white t ≡ 0 = suffix_len_is is_white t (length t) 0 (omega arith) (λ k a b. absurd (omega (arith, a, b))) (λ l. none_at is_white t (length t - 1) h (omega (arith, l))) ∙ omega arith in
    let all : length t - 0 ≡ length t = omega arith in
    rw (no_front t h) (rw behind (rw all (take_whole t)))

-- ---- attributes and elements

attribute_text : List ℕ → List ℕ → List ℕ
attribute_text name value = 32 ∷ (name ++ codes "=\"" ++ escaped value ++ codes "\"")

written : List ℕ → List ℕ → Attribute
written name value = record { name = name; value = value }

is_written : (name value : List ℕ) → IsMarkupName name → IsTextBytes value → IsAttribute (attribute_text name value) (written name value)
unfolding attribute_text written
is_written name value n clean = record {
  before = codes " ";
  behind_name = [];
  behind_equals = [];
  quote = 34;
  value = escaped value;
  text_is = simp append_assoc;
  apart = λ e. cc;
  white = (refl, refl, refl);
  is_name = n;
  is_quote = inl refl;
  within_quotes = escaped_none (closes 34) (λ b h. (escaped_one b h).no_quote) value clean;
  is_value = is_escaped_value value clean;
}

-- elements on lines of their own
lines_are : {A : Type 0} (IsOne : List ℕ → A → Type 0) (line : A → List ℕ) (P : A → Type 0) → ((x : A) → P x → (one : List ℕ) × (line x ≡ one ++ 10 ∷ []) × IsOne one x) →
    (xs : List A) → AllByRecursion P xs → AreElements IsOne (10 ∷ flat_map line xs) xs
lines_are {A} IsOne line P each [] h = ((10 ∷ []) ∷ [], refl, (inl refl, tt))
lines_are {A} IsOne line P each (x ∷ xs) h =
    let one = each x h.0 in
    (10 ∷ [], one.0, 10 ∷ flat_map line xs, ap (λ (t : List ℕ). 10 ∷ t) (ap (λ (t : List ℕ). t ++ flat_map line xs) one.1 ∙ append_assoc one.0 (10 ∷ []) (flat_map line xs)), ((10 ∷ []) ∷ [], refl, (inl refl, tt)), one.2, lines_are IsOne line P each xs h.1)

-- an element with a start tag and an end tag
element_text : List ℕ → List ℕ → List ℕ → List ℕ
element_text name attributes inside = (codes "<" ++ name) ++ attributes ++ codes ">" ++ inside ++ (codes "</" ++ name ++ codes ">")

is_element_text : (checks : AttributeChecks) (name text inside : List ℕ) (attributes : List Attribute) → AreAttributes checks [] text attributes → IsElement checks name (element_text name text inside) attributes inside
unfolding element_text
is_element_text checks name text inside attributes are = record { attribute_text = text; white = []; are_attributes = are; is_white = refl; text_is = inr ([], refl, joined (codes "<") name text (codes ">") inside (codes "</")) }
  where
    joined : (l n a g i e : List ℕ) → (l ++ n) ++ a ++ g ++ i ++ (e ++ n ++ g) ≡ l ++ n ++ a ++ [] ++ g ++ i ++ e ++ n ++ [] ++ g
    joined l n a g i e = simp append_assoc

one_attribute : (checks : AttributeChecks) (name value : List ℕ) → IsMarkupName name → IsTextBytes value → checks name value ≡ true → (earlier : List Attribute) → has_attribute name earlier ≡ false → (rest : List ℕ) (more : List Attribute) →
    AreAttributes checks (earlier ++ written name value ∷ []) rest more → AreAttributes checks earlier (attribute_text name value ++ rest) (written name value ∷ more)
unfolding written
one_attribute checks name value n clean fits earlier new rest more are = (attribute_text name value, rest, refl, is_written name value n clean, new, fits, are)

abbrev IsGoodMeta : Meta → Type 0
IsGoodMeta m = IsTextBytes m.kind × IsTextBytes m.text × (trimmed m.text ≡ m.text)

is_type : IsMarkupName (codes "type")
is_type = (λ e. cc, refl)

meta_line : (m : Meta) → IsGoodMeta m → (one : List ℕ) × (meta_text m ≡ one ++ 10 ∷ []) × IsMeta one m
unfolding attribute_text written element_text
meta_line m h = (
  element_text (codes "meta") (attribute_text (codes "type") m.kind ++ []) (escaped m.text),
  joined (codes "<meta") (codes " type=\"") (escaped m.kind) (codes "\"") (codes ">") (escaped m.text) (codes "</meta>") (codes "\n"),
  (
    written (codes "type") m.kind ∷ [],
    escaped m.text,
    is_element_text unchecked (codes "meta") (attribute_text (codes "type") m.kind ++ []) (escaped m.text) (written (codes "type") m.kind ∷ [])
        (one_attribute unchecked (codes "type") m.kind is_type h.0 refl [] refl [] [] refl),
    refl,
    is_escaped_text m.text h.1 h.2,
  ),
)
  where
    joined : (l a k q g t e z : List ℕ) → (l ++ a) ++ k ++ (q ++ g) ++ t ++ (e ++ z) ≡ (l ++ ((a ++ k ++ q) ++ []) ++ g ++ t ++ e) ++ z
    joined l a k q g t e z = simp append_assoc

abbrev IsGoodGroup : List ℕ → Type 0
IsGoodGroup g = IsTextBytes g × (trimmed g ≡ g)

group_line : (g : List ℕ) → IsGoodGroup g → (one : List ℕ) × (group_text g ≡ one ++ 10 ∷ []) × IsGroup one g
unfolding element_text
group_line g h = (element_text (codes "group") [] (escaped g), joined (codes "<group>") (escaped g) (codes "</group>") (codes "\n"), ([], escaped g, is_element_text unchecked (codes "group") [] (escaped g) [] refl, is_escaped_text g h.0 h.1))
  where
    joined : (l t e z : List ℕ) → l ++ t ++ (e ++ z) ≡ (l ++ t ++ e) ++ z
    joined l t e z = simp append_assoc

abbrev IsGoodSegment : Segment → Type 0
IsGoodSegment s = (1 ≤ s.number) × (s.number ≤ 4294967295) × (s.bytes ≤ MOST_OCTETS) × (is_message_id s.id ≡ true)

is_bytes : IsMarkupName (codes "bytes")
is_bytes = (λ e. cc, refl)

is_number : IsMarkupName (codes "number")
is_number = (λ e. cc, refl)

within_some : (low high n : ℕ) → low ≤ n → n ≤ high → high < 2 ^ 64 → is_some (within low high (decimal_of (decimal n))) ≡ true
within_some low high n l h k = rw (decimal_read n (omega arith)) (rw (le-leb low n l, le-leb n high h) refl)

decimal_escaped : (n : ℕ) → n < 2 ^ 64 → (escaped (decimal n) ≡ decimal n) × IsTextBytes (decimal n)
decimal_escaped n h = digits_escaped (decimal n) (digits_all (decimal n) n (decimal_read n h))

id_clean : (id : List ℕ) → is_message_id id ≡ true → (list_any is_white id ≡ false) × IsTextBytes id
id_clean id h = ids_clean id (and_parts (leb 1 (length id) && leb (length id) 248) (list_all is_id_byte id) h).1

segment_line : (s : Segment) → IsGoodSegment s → (one : List ℕ) × (segment_text s ≡ one ++ 10 ∷ []) × IsSegment one s
unfolding attribute_text written element_text
segment_line s (low, high, most, good) =
    let fits : s.number < 2 ^ 64 = omega arith in
    let fits_bytes : s.bytes < 2 ^ 64 = omega arith in
    let attributes : List ℕ = attribute_text (codes "bytes") (decimal s.bytes) ++ (attribute_text (codes "number") (decimal s.number) ++ []) in (
      element_text (codes "segment") attributes (escaped s.id),
      joined (decimal s.bytes) (escaped (decimal s.bytes)) (decimal s.number) (escaped (decimal s.number)) (codes "<segment") (codes " bytes=\"") (codes "\"") (codes " number=\"") (codes ">") (escaped s.id) (codes "</segment>") (codes "\n") (decimal_escaped s.bytes fits_bytes).0 (decimal_escaped s.number fits).0,
      (
        written (codes "bytes") (decimal s.bytes) ∷ written (codes "number") (decimal s.number) ∷ [],
        escaped s.id,
        is_element_text segment_checks (codes "segment") attributes (escaped s.id) (written (codes "bytes") (decimal s.bytes) ∷ written (codes "number") (decimal s.number) ∷ [])
            (one_attribute segment_checks (codes "bytes") (decimal s.bytes) is_bytes (decimal_escaped s.bytes fits_bytes).1 (within_some 0 MOST_OCTETS s.bytes (omega arith) most (omega arith)) [] refl (attribute_text (codes "number") (decimal s.number) ++ []) (written (codes "number") (decimal s.number) ∷ [])
            (one_attribute segment_checks (codes "number") (decimal s.number) is_number (decimal_escaped s.number fits).1 (within_some 1 4294967295 s.number low high (omega arith)) (written (codes "bytes") (decimal s.bytes) ∷ []) refl [] [] refl)),
        refl,
        sym (rw (decimal_read s.number fits) refl),
        sym (rw (decimal_read s.bytes fits_bytes) refl),
        is_escaped_text s.id (id_clean s.id good).1 (trimmed_none s.id (id_clean s.id good).0),
        good,
      ),
    )
  where
    joined : (b eb n en l a q m g i e z : List ℕ) → eb ≡ b → en ≡ n → (l ++ a) ++ b ++ (q ++ m) ++ n ++ (q ++ g) ++ i ++ (e ++ z) ≡ (l ++ ((a ++ eb ++ q) ++ ((m ++ en ++ q) ++ [])) ++ g ++ i ++ e) ++ z
    joined b eb n en l a q m g i e z e1 e2 = rw (e1, e2) (simp append_assoc)

-- ---- files

listed_line : Listed → List ℕ
listed_line (groups gs) = codes "<groups>\n" ++ flat_map group_text gs ++ codes "</groups>\n"
listed_line (segments ss) = codes "<segments>\n" ++ flat_map segment_text ss ++ codes "</segments>\n"

abbrev IsGoodListed : Listed → Type 0
IsGoodListed (groups gs) = AllByRecursion IsGoodGroup gs
IsGoodListed (segments ss) = AllByRecursion IsGoodSegment ss

-- an element of lines
lined : (l z t e : List ℕ) → (l ++ z) ++ t ++ (e ++ z) ≡ (l ++ (z ++ t) ++ e) ++ z
lined l z t e = simp append_assoc

listed_line_is : (x : Listed) → IsGoodListed x → (one : List ℕ) × (listed_line x ≡ one ++ 10 ∷ []) × Lists one x
unfolding element_text listed_line
listed_line_is (groups gs) h = (
  element_text (codes "groups") [] (10 ∷ flat_map group_text gs),
  lined (codes "<groups>") (codes "\n") (flat_map group_text gs) (codes "</groups>"),
  ([], 10 ∷ flat_map group_text gs, is_element_text unchecked (codes "groups") [] (10 ∷ flat_map group_text gs) [] refl, lines_are IsGroup group_text IsGoodGroup group_line gs h),
)
listed_line_is (segments ss) h = (
  element_text (codes "segments") [] (10 ∷ flat_map segment_text ss),
  lined (codes "<segments>") (codes "\n") (flat_map segment_text ss) (codes "</segments>"),
  ([], 10 ∷ flat_map segment_text ss, is_element_text unchecked (codes "segments") [] (10 ∷ flat_map segment_text ss) [] refl, lines_are IsSegment segment_text IsGoodSegment segment_line ss h),
)

is_poster : IsMarkupName (codes "poster")
is_poster = (λ e. cc, refl)

is_date : IsMarkupName (codes "date")
is_date = (λ e. cc, refl)

is_subject : IsMarkupName (codes "subject")
is_subject = (λ e. cc, refl)

file_line : (f : FileEntry) → IsValidFile f → (one : List ℕ) × (file_text f ≡ one ++ 10 ∷ []) × IsFile one f
unfolding attribute_text written element_text listed_line
file_line f h =
    let date_fits : f.date < 2 ^ 64 = let most = h.date in omega arith in
    let parts : List Listed = groups f.groups ∷ segments f.segments ∷ [] in
    let poster : List ℕ = attribute_text (codes "poster") f.poster in
    let date : List ℕ = attribute_text (codes "date") (decimal f.date) in
    let subject : List ℕ = attribute_text (codes "subject") f.subject in
    let a : Attribute = written (codes "poster") f.poster in
    let b : Attribute = written (codes "date") (decimal f.date) in
    let c : Attribute = written (codes "subject") f.subject in
    let inside : List ℕ = 10 ∷ flat_map listed_line parts in (
      element_text (codes "file") (poster ++ (date ++ (subject ++ []))) inside,
      joined (decimal f.date) (escaped (decimal f.date)) (codes "<file") (codes " poster=\"") (escaped f.poster) (codes "\"") (codes " date=\"") (codes " subject=\"") (escaped f.subject) (codes ">") (codes "\n") (codes "<groups>\n") (flat_map group_text f.groups)
          (codes "</groups>\n") (codes "<segments>\n") (flat_map segment_text f.segments) (codes "</segments>\n") (codes "</file>") (decimal_escaped f.date date_fits).0,
      (
        a ∷ b ∷ c ∷ [],
        inside,
        parts,
        is_element_text file_checks (codes "file") (poster ++ (date ++ (subject ++ []))) inside (a ∷ b ∷ c ∷ [])
            (one_attribute file_checks (codes "poster") f.poster is_poster h.poster refl [] refl (date ++ (subject ++ [])) (b ∷ c ∷ [])
            (one_attribute file_checks (codes "date") (decimal f.date) is_date (decimal_escaped f.date date_fits).1 (within_some 0 LAST_MOMENT f.date (omega arith) h.date (omega arith)) (a ∷ []) refl (subject ++ []) (c ∷ [])
            (one_attribute file_checks (codes "subject") f.subject is_subject h.subject refl (a ∷ b ∷ []) refl [] [] refl))),
        lines_are Lists listed_line IsGoodListed listed_line_is parts (h.groups, (h.segments, tt)),
        refl,
        refl,
        sym (rw (decimal_read f.date date_fits) refl),
        sym (append-nil f.groups),
        sym (append-nil f.segments),
      ),
    )
  where
    joined : (dd ed l a p q d s u g z go gs gc so ss sc e : List ℕ) → ed ≡ dd →
        ((l ++ a) ++ p ++ (q ++ d) ++ dd ++ (q ++ s) ++ u ++ (q ++ g ++ z)) ++ go ++ gs ++ (gc ++ so) ++ ss ++ (sc ++ e ++ z)
        ≡ (l ++ ((a ++ p ++ q) ++ ((d ++ ed ++ q) ++ ((s ++ u ++ q) ++ []))) ++ g ++ (z ++ ((go ++ gs ++ gc) ++ ((so ++ ss ++ sc) ++ []))) ++ e) ++ z
    joined dd ed l a p q d s u g z go gs gc so ss sc e same = rw same (simp append_assoc)

-- ---- the root

entry_line : Entry → List ℕ
entry_line (head metas) = codes "<head>\n" ++ flat_map meta_text metas ++ codes "</head>\n"
entry_line (file f) = file_text f

abbrev IsGoodEntry : Entry → Type 0
IsGoodEntry (head metas) = AllByRecursion IsGoodMeta metas
IsGoodEntry (file f) = IsValidFile f

entry_line_is : (x : Entry) → IsGoodEntry x → (one : List ℕ) × (entry_line x ≡ one ++ 10 ∷ []) × IsEntry one x
unfolding element_text entry_line
entry_line_is (head metas) h = (
  element_text (codes "head") [] (10 ∷ flat_map meta_text metas),
  lined (codes "<head>") (codes "\n") (flat_map meta_text metas) (codes "</head>"),
  ([], 10 ∷ flat_map meta_text metas, is_element_text unchecked (codes "head") [] (10 ∷ flat_map meta_text metas) [] refl, lines_are IsMeta meta_text IsGoodMeta meta_line metas h),
)
entry_line_is (file f) h = file_line f h

files_as : List FileEntry → List Entry
files_as [] = []
files_as (f ∷ files) = file f ∷ files_as files

entries_of : List Meta → List FileEntry → List Entry
entries_of [] files = files_as files
entries_of (m ∷ metas) files = head (m ∷ metas) ∷ files_as files

file_lines : (files : List FileEntry) → flat_map file_text files ≡ flat_map entry_line (files_as files)
unfolding entry_line files_as
file_lines [] = refl
file_lines (f ∷ files) = ap (λ (t : List ℕ). file_text f ++ t) (file_lines files)

entry_lines : (metas : List Meta) (files : List FileEntry) → head_text metas ++ flat_map file_text files ≡ flat_map entry_line (entries_of metas files)
unfolding entry_line entries_of
entry_lines [] files = file_lines files
entry_lines (m ∷ metas) files = ap (λ (t : List ℕ). head_text (m ∷ metas) ++ t) (file_lines files)

files_metas : (files : List FileEntry) → flat_map metas_in (files_as files) ≡ []
unfolding files_as
files_metas [] = refl
files_metas (f ∷ files) = files_metas files

files_files : (files : List FileEntry) → flat_map files_in (files_as files) ≡ files
unfolding files_as
files_files [] = refl
files_files (f ∷ files) = ap (λ (t : List FileEntry). f ∷ t) (files_files files)

entries_metas : (metas : List Meta) (files : List FileEntry) → metas ≡ flat_map metas_in (entries_of metas files)
unfolding entries_of
entries_metas [] files = sym (files_metas files)
entries_metas (m ∷ metas) files = sym (ap (λ (t : List Meta). (m ∷ metas) ++ t) (files_metas files) ∙ append-nil (m ∷ metas))

entries_files : (metas : List Meta) (files : List FileEntry) → files ≡ flat_map files_in (entries_of metas files)
unfolding entries_of
entries_files [] files = sym (files_files files)
entries_files (m ∷ metas) files = sym (files_files files)

files_good : (files : List FileEntry) → AllByRecursion IsValidFile files → AllByRecursion IsGoodEntry (files_as files)
unfolding files_as
files_good [] h = tt
files_good (f ∷ files) h = (h.0, files_good files h.1)

entries_good : (metas : List Meta) (files : List FileEntry) → AllByRecursion IsGoodMeta metas → AllByRecursion IsValidFile files → AllByRecursion IsGoodEntry (entries_of metas files)
unfolding entries_of
entries_good [] files h k = files_good files k
entries_good (m ∷ metas) files h k = (h, files_good files k)

-- ---- the whole text

-- a word that a text ends with at first, as reading finds it
ends_first : (c : ℕ) (w text : List ℕ) → up_to (c ∷ w) text ≡ Ok [] → EndsAtFirst text (c ∷ w)
ends_first c w text e = let f = up_to_found c w text [] e in subst (λ (t : List ℕ). EndsAtFirst t (c ∷ w)) (sym (f.1 ∙ append-nil f.0)) f.2

is_xmlns : IsMarkupName (codes "xmlns")
is_xmlns = (λ e. cc, refl)

pub canonical_is_nzb : (i : Index) → IsValidIndex i → length (nzb_text i) ≤ MOST_TEXT_BYTES → IsNzb (nzb_text i) i
unfolding nzb_text element_text attribute_text written
canonical_is_nzb i h short =
    let entries = entries_of i.metas i.files in
    let inside : List ℕ = 10 ∷ flat_map entry_line entries in
    let space : List ℕ = codes "http://www.newzbin.com/DTD/2003/nzb" in
    record {
      mark = [];
      declaration = codes "<?xml version=\"1.0\" encoding=\"UTF-8\"?>";
      between = codes "\n";
      document_type = codes "<!DOCTYPE nzb PUBLIC \"-//newzBin//DTD NZB 1.1//EN\" \"http://www.newzbin.com/DTD/nzb/nzb-1.1.dtd\">\n";
      root = element_text (codes "nzb") (attribute_text (codes "xmlns") space ++ []) inside;
      behind = codes "\n";
      text_is = joined (codes "<?xml version=\"1.0\" encoding=\"UTF-8\"?>") (codes "\n") (codes "<!DOCTYPE nzb PUBLIC \"-//newzBin//DTD NZB 1.1//EN\" \"http://www.newzbin.com/DTD/nzb/nzb-1.1.dtd\">\n")
          (codes "<nzb") (attribute_text (codes "xmlns") space) (codes ">") (head_text i.metas) (flat_map file_text i.files) (codes "</nzb>") (flat_map entry_line entries) (entry_lines i.metas i.files);
      is_mark = inl refl;
      is_declaration = inr (32, codes "version=\"1.0\" encoding=\"UTF-8\"?>", refl, refl, ends_first 63 (codes ">") (codes "version=\"1.0\" encoding=\"UTF-8\"?>") refl);
      is_between = (codes "\n" ∷ [], refl, (inl refl, tt));
      is_document_type = inr (32, codes "nzb PUBLIC \"-//newzBin//DTD NZB 1.1//EN\" \"http://www.newzbin.com/DTD/nzb/nzb-1.1.dtd\"", codes "\n", refl, refl, (codes "\n" ∷ [], refl, (inl refl, tt)), refl);
      is_root = (
        written (codes "xmlns") space ∷ [],
        inside,
        entries,
        is_element_text unchecked (codes "nzb") (attribute_text (codes "xmlns") space ++ []) inside (written (codes "xmlns") space ∷ []) (one_attribute unchecked (codes "xmlns") space is_xmlns refl refl [] refl [] [] refl),
        lines_are IsEntry entry_line IsGoodEntry entry_line_is entries (entries_good i.metas i.files h.metas h.files),
        entries_metas i.metas i.files,
        entries_files i.metas i.files,
      );
      is_behind = (codes "\n" ∷ [], refl, (inl refl, tt));
      short = short;
      few_files = h.few_files;
      few_segments = h.few_segments;
    }
  where
    joined : (d z y l x g m f e t : List ℕ) → m ++ f ≡ t → (d ++ z ++ y ++ l ++ x ++ g ++ z) ++ m ++ f ++ (e ++ z) ≡ [] ++ d ++ z ++ y ++ (l ++ (x ++ []) ++ g ++ (z ++ t) ++ e) ++ z
    joined d z y l x g m f e t same = rw (← same) (simp append_assoc)

-- the canonical text reads back
pub nzb_reads_back : (i : Index) → IsValidIndex i → length (nzb_text i) ≤ MOST_TEXT_BYTES → nzb_of (nzb_text i) ≡ Ok i
nzb_reads_back i h short = nzb_back (nzb_text i) i (canonical_is_nzb i h short)
