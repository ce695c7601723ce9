-- ValueRead the forms of XML from left to right, on lists: the plain program beside the grammar. A reader takes a front of
-- the text away. What is known at a byte is judged before anything that a later byte gives.
use Rattle.std.specs.Prelude.{ℕ, zero, suc, ◌+◌, Bool, true, false, not, ◌||◌, ◌&&◌, nat_eq, ◌==◌, if◌then◌else◌, List, [], ◌∷◌, ◌++◌, length, take, drop, Option, Some, None, Result, Ok, Err, find, codes, bytes_eq, encode_utf8}
use Rattle.std.specs.List.{list_any, prefix_len, starts_with}
use Rattle.std.specs.Char.{is_ascii_digit, is_ascii_hexdigit}
use Rattle.std.specs.Str.Parse.{digits_value}
use Rattle.nzb_index.specs.declared.error.NzbReason.TheVariants.{Ended, Unexpected, BadReference, WrongTag, DoubleAttribute, BadNumber}
use Rattle.nzb_writer.specs.Markup.{is_white, is_control, is_name_byte, trimmed, is_character, Attribute, has_attribute, AttributeChecks}
use Rattle.nzb_index.specs.declared.error.NzbReason.{NzbReason}
use Rattle.nzb_index.specs.declared.error.NzbLimit.{NzbLimit}

-- why no index is read: a reason, at the place with so many bytes left from it on, or a limit
pub data Stop : Type 0 where
  refused : ℕ → NzbReason → Stop
  limit : NzbLimit → Stop

-- a value, and the text that is left
abbrev pub ValueRead : Type 0 → Type 0
ValueRead A = Result (A × List ℕ) Stop

infixl 10 ◌>>=◌
abbrev pub ◌>>=◌ : {A B : Type 0} → Result A Stop → (A → Result B Stop) → Result B Stop
(Ok x) >>= f = f x
(Err e) >>= f = Err e

abbrev pub stop_at : {A : Type 0} → List ℕ → NzbReason → Result A Stop
stop_at rest reason = Err (refused (length rest) reason)

-- the first byte that cannot stand here, or the text's end
abbrev pub unexpected : {A : Type 0} → List ℕ → Result A Stop
unexpected [] = stop_at [] Ended
unexpected (x ∷ rest) = stop_at (x ∷ rest) Unexpected

abbrev pub or_stop : Option Stop → Result Bool Stop
or_stop None = Ok true
or_stop (Some s) = Err s

-- ---- small forms

-- this word, byte by byte
abbrev pub word : List ℕ → List ℕ → Result (List ℕ) Stop
word [] rest = Ok rest
word (w ∷ ws) [] = unexpected []
word (w ∷ ws) (x ∷ rest) = if w == x then word ws rest else unexpected (x ∷ rest)

abbrev pub behind_white : List ℕ → List ℕ
behind_white rest = drop (prefix_len is_white rest) rest

-- everything up to and with the first of this word, in which no control byte can stand
abbrev pub up_to : List ℕ → List ℕ → Result (List ℕ) Stop
up_to end [] = unexpected []
up_to end (x ∷ rest) =
    if is_control x then unexpected (x ∷ rest)
    else if starts_with nat_eq (x ∷ rest) end then Ok (drop (length end) (x ∷ rest)) else up_to end rest

-- a name, which has ended once another byte follows
abbrev pub name_at : List ℕ → ValueRead (List ℕ)
name_at rest =
    let n = prefix_len is_name_byte rest in
    if n == length rest then stop_at [] Ended else if n == 0 then unexpected rest else Ok (take n rest, drop n rest)

-- behind one white byte
abbrev pub one_white : List ℕ → Result (List ℕ) Stop
one_white [] = unexpected []
one_white (x ∷ rest) = if is_white x then Ok rest else unexpected (x ∷ rest)

-- White and comments, up to another byte or the text's end. After `<!` a byte that begins no comment is left to `otherwise`.
abbrev pub between_or : (List ℕ → Result (List ℕ) Stop) → ℕ → List ℕ → Result (List ℕ) Stop
between_or otherwise zero rest = unexpected []
between_or otherwise (suc fuel) rest =
    let here = behind_white rest in
    if starts_with nat_eq here (codes "<!")
    then (if starts_with nat_eq here (codes "<!-")
    then (word (codes "<!--") here >>= λ inside. up_to (codes "-->") inside >>= λ behind. between_or otherwise fuel behind)
    else otherwise (drop 2 here))
    else Ok here

abbrev pub between : List ℕ → Result (List ℕ) Stop
between rest = between_or unexpected (suc (length rest)) rest

-- ---- references, values and texts

abbrev pub references : List (List ℕ × ℕ)
references = (codes "amp;", 38) ∷ (codes "lt;", 60) ∷ (codes "gt;", 62) ∷ (codes "quot;", 34) ∷ (codes "apos;", 39) ∷ []

-- the digits of a numeric reference behind `&#` or `&#x`, up to their `;`
abbrev pub digits_at : (ℕ → Bool) → ℕ → List ℕ → List ℕ → ValueRead (List ℕ)
digits_at is_digit radix from rest =
    let n = prefix_len is_digit rest in
    if n == length rest then stop_at [] Ended
    else if not (n == 0) && starts_with nat_eq (drop n rest) (codes ";") && is_character (digits_value radix (take n rest))
    then Ok (encode_utf8 (digits_value radix (take n rest)), drop (n + 1) rest)
    else stop_at from BadReference

abbrev pub named : List ℕ → List ℕ → Option (List ℕ × ℕ) → ValueRead (List ℕ)
named from rest (Some r) = Ok (r.1 ∷ [], drop (length r.0) rest)
named from rest None = if list_any (λ r. starts_with nat_eq r.0 rest) references then stop_at [] Ended else stop_at from BadReference

-- the reference at `from`, whose `&` is taken away in `rest`
abbrev pub reference_at : List ℕ → List ℕ → ValueRead (List ℕ)
reference_at from rest =
    if starts_with nat_eq rest (codes "#x") then digits_at is_ascii_hexdigit 16 from (drop 2 rest)
    else if bytes_eq rest (codes "#") then stop_at [] Ended
    else if starts_with nat_eq rest (codes "#") then digits_at is_ascii_digit 10 from (drop 1 rest)
    else named from rest (find (λ r. starts_with nat_eq rest r.0) references)

abbrev pub with_front : List ℕ → ValueRead (List ℕ) → ValueRead (List ℕ)
with_front front found = found >>= λ x. Ok (front ++ x.0, x.1)

-- a value up to its closing quote
abbrev pub value_at : ℕ → ℕ → List ℕ → ValueRead (List ℕ)
value_at quote zero rest = unexpected []
value_at quote (suc fuel) [] = unexpected []
value_at quote (suc fuel) (x ∷ rest) =
    if x == quote then Ok ([], rest)
    else if x == 60 || is_control x then unexpected (x ∷ rest)
    else if x == 38 then (reference_at (x ∷ rest) rest >>= λ r. with_front r.0 (value_at quote fuel r.1))
    else if x == 13 && starts_with nat_eq rest (codes "\n") then value_at quote fuel rest
    else with_front ((if is_white x then 32 else x) ∷ []) (value_at quote fuel rest)

-- a tag or a comment inside a text: a comment is skipped, an end tag ends the text, and any other tag is wrong there
abbrev pub text_at : ℕ → List ℕ → ValueRead (List ℕ)
text_at zero rest = unexpected []
text_at (suc fuel) [] = unexpected []
text_at (suc fuel) (x ∷ rest) =
    if x == 38 then (reference_at (x ∷ rest) rest >>= λ r. with_front r.0 (text_at fuel r.1))
    else if not (x == 60) then (if is_control x then unexpected (x ∷ rest) else with_front (x ∷ []) (text_at fuel rest))
    else if starts_with nat_eq rest (codes "/") then Ok ([], x ∷ rest)
    else if starts_with nat_eq rest (codes "!") then (word (codes "!--") rest >>= λ inside. up_to (codes "-->") inside >>= λ behind. text_at fuel behind)
    else name_at rest >>= λ n. stop_at (x ∷ rest) WrongTag

-- ---- tags

-- a start tag's attributes, and whether it is the end tag too
pub record Tag : Type 0 where
  pub attributes : List Attribute
  pub closed : Bool

-- a value in its quotes
abbrev pub quoted_at : List ℕ → ValueRead (List ℕ)
quoted_at [] = unexpected []
quoted_at (q ∷ rest) = if q == 34 || q == 39 then value_at q (length rest) rest else unexpected (q ∷ rest)

-- an attribute from its name on, behind the earlier ones of its tag
abbrev pub attribute_at : AttributeChecks → List Attribute → List ℕ → ValueRead Attribute
attribute_at checks earlier here = do
  name ← name_at here
  new ← if has_attribute name.0 earlier then stop_at here DoubleAttribute else Ok true
  behind ← word (codes "=") (behind_white name.1)
  value ← quoted_at (behind_white behind)
  fits ← if checks name.0 value.0 then Ok true else stop_at here BadNumber
  Ok (record { name = name.0; value = value.0 }, value.1)

abbrev pub tag_rest : AttributeChecks → ℕ → List Attribute → List ℕ → ValueRead Tag
tag_rest checks zero earlier rest = unexpected []
tag_rest checks (suc fuel) earlier rest =
    let here = behind_white rest in
    if starts_with nat_eq here (codes ">") then Ok (record { attributes = earlier; closed = false }, drop 1 here)
    else if starts_with nat_eq here (codes "/") then (word (codes "/>") here >>= λ behind. Ok (record { attributes = earlier; closed = true }, behind))
    else if length here == length rest then unexpected here
    else attribute_at checks earlier here >>= λ a. tag_rest checks fuel (earlier ++ a.0 ∷ []) a.1

abbrev pub tag_at : AttributeChecks → List ℕ → ValueRead Tag
tag_at checks rest = tag_rest checks (length rest) [] rest

-- the end tag of this name, at its `<`; what its name's end shows is judged before what follows
abbrev pub end_tag : List ℕ → Option Stop → List ℕ → Result (List ℕ) Stop
end_tag name known rest = do
  inside ← word (codes "</") rest
  n ← name_at inside
  same ← if bytes_eq n.0 name then Ok true else stop_at rest WrongTag
  fine ← or_stop known
  word (codes ">") (behind_white n.1)

-- ---- elements

-- An element's content: what `item` reads of each element, told its name, the text from its `<` on, and that behind its name.
abbrev pub children : {S : Type 0} → (S → List ℕ → List ℕ → List ℕ → ValueRead S) → List ℕ → ℕ → S → List ℕ → ValueRead S
children item name zero state rest = unexpected []
children item name (suc fuel) state rest =
    between rest >>= λ here.
    if starts_with nat_eq here (codes "</") then (end_tag name None here >>= λ behind. Ok (state, behind))
    else word (codes "<") here >>= λ inside. name_at inside >>= λ n. item state n.0 here n.1 >>= λ s. children item name fuel s.0 s.1

-- an element with elements in it
abbrev pub parent : {S : Type 0} → (S → List ℕ → List ℕ → List ℕ → ValueRead S) → List ℕ → Tag → S → List ℕ → ValueRead S
parent item name tag state rest = if tag.closed then Ok (state, rest) else children item name (length rest) state rest

-- an element with a text in it, of which `known` says what its end shows
abbrev pub leaf : List ℕ → (List ℕ → Option Stop) → Tag → List ℕ → ValueRead (List ℕ)
leaf name known tag rest =
    if tag.closed then (or_stop (known []) >>= λ fine. Ok ([], rest))
    else text_at (length rest) rest >>= λ t. end_tag name (known (trimmed t.0)) t.1 >>= λ behind. Ok (trimmed t.0, behind)

abbrev pub only : List ℕ → List ℕ → List ℕ → Result Bool Stop
only wanted name from = if bytes_eq name wanted then Ok true else stop_at from WrongTag

abbrev pub no_fault : List ℕ → Option Stop
no_fault text = None
