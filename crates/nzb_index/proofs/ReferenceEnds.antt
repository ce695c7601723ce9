-- References over a slice.
use Rattle.std.proofs.Common.{◌≡◌, ◌≢◌, ℕ, suc, ◌+◌, ◌-◌, ◌*◌, ◌<◌, ◌≤◌, Bool, true, false, not, cond, eqb, ◌&&◌, List, [], ◌∷◌, length, get_or, take, drop, Option, Result, Ok, Err, refl, sym, ap, ◌∙◌, arith, inl, inr, ◌⊎◌}
use Rattle.std.specs.Prelude.{codes, nat_eq, find, encode_utf8, bytes_eq}
use Rattle.std.specs.List.{prefix_len, starts_with, list_any}
use Rattle.std.specs.Char.{digit_value}
use Rattle.std.specs.Str.Parse.{digits_value, digits_value_after}
use Rattle.std.proofs.lemmas.Bool.{cases_Bool, cases_lt, eq-eqb, ne_eqb, and_left, and_right}
use Rattle.std.proofs.lemmas.Bool.Decides.{nat_tests}
use Rattle.std.proofs.lemmas.Slice.Eq.{bytes_eq-Decides}
use Rattle.std.proofs.lemmas.List.{length-append, length-drop, drop-drop}
use Rattle.nzb_index.specs.declared.error.NzbError.{NzbError}
use Rattle.nzb_index.specs.declared.error.NzbError.TheVariants.{Refused}
use Rattle.nzb_index.specs.declared.error.NzbReason.TheVariants.{Ended, BadReference}
use Rattle.nzb_writer.specs.Markup.{is_character}
use Rattle.nzb_index.specs.MarkupReading.{Stop, stop_at, digits_at, named, reference_at, references}
use Rattle.nzb_index.specs.Readers.{Fails, ReadsReference, is_digit_of, capped}
use Rattle.nzb_index.proofs.Words.{starts_front}
use Rattle.nzb_index.proofs.Places.{here, over}
use Rattle.nzb_index.proofs.Betweens.{fails_as}

-- ---- refusals

pub ended_fails : {A : Type 0} (text : List ℕ) (read : Result A Stop) → read ≡ stop_at [] Ended → Fails text (Refused (length text) Ended) read
ended_fails {A} text read e = let none : length text - length text ≡ 0 = omega arith in (omega arith, e ∙ rw none refl)

pub bad_fails : {A : Type 0} (text : List ℕ) (from : ℕ) (read : Result A Stop) → from ≤ length text → read ≡ stop_at (drop from text) BadReference → Fails text (Refused from BadReference) read
bad_fails {A} text from read l e = (l, e ∙ rw (length-drop from text) refl)

-- ---- names

pub name_reads : (text : List ℕ) (from : ℕ) (name : List ℕ) (c : ℕ) (read : Result (List ℕ × List ℕ) Stop) → from < length text → starts_with nat_eq (drop (from + 1) text) name ≡ true → is_character c ≡ true → encode_utf8 c ≡ c ∷ [] →
    read ≡ Ok (c ∷ [], drop (length name) (drop (from + 1) text)) → ReadsReference text from (Ok (c, from + 1 + length name)) read
name_reads text from name c read l s ch enc e =
    let front = starts_front (drop (from + 1) text) name s in (
      omega arith,
      omega (arith, ap length front, length-append name (drop (length name) (drop (from + 1) text)), length-drop (from + 1) text, l),
      ch,
      e ∙ rw (enc, drop-drop (length name) (from + 1) text) refl,
    )

abbrev begins : List ℕ → List ℕ → Bool
begins rest name = starts_with nat_eq rest name

abbrev found : List ℕ → Option (List ℕ × ℕ)
found rest = find (λ r. starts_with nat_eq rest r.0) references

pub named_amp : (from rest : List ℕ) → begins rest (codes "amp;") ≡ true → named from rest (found rest) ≡ Ok (38 ∷ [], drop 4 rest)
named_amp from rest a = rw a refl

pub named_lt : (from rest : List ℕ) → begins rest (codes "amp;") ≡ false → begins rest (codes "lt;") ≡ true → named from rest (found rest) ≡ Ok (60 ∷ [], drop 3 rest)
named_lt from rest a b = rw (a, b) refl

pub named_gt : (from rest : List ℕ) → begins rest (codes "amp;") ≡ false → begins rest (codes "lt;") ≡ false → begins rest (codes "gt;") ≡ true → named from rest (found rest) ≡ Ok (62 ∷ [], drop 3 rest)
named_gt from rest a b d = rw (a, b, d) refl

pub named_quot : (from rest : List ℕ) → begins rest (codes "amp;") ≡ false → begins rest (codes "lt;") ≡ false → begins rest (codes "gt;") ≡ false → begins rest (codes "quot;") ≡ true → named from rest (found rest) ≡ Ok (34 ∷ [], drop 5 rest)
named_quot from rest a b d e = rw (a, b, d, e) refl

pub named_apos : (from rest : List ℕ) → begins rest (codes "amp;") ≡ false → begins rest (codes "lt;") ≡ false → begins rest (codes "gt;") ≡ false → begins rest (codes "quot;") ≡ false → begins rest (codes "apos;") ≡ true → named from rest (found rest) ≡ Ok (39 ∷ [], drop 5 rest)
named_apos from rest a b d e f = rw (a, b, d, e, f) refl

pub named_none : (from rest : List ℕ) (any : Bool) → begins rest (codes "amp;") ≡ false → begins rest (codes "lt;") ≡ false → begins rest (codes "gt;") ≡ false → begins rest (codes "quot;") ≡ false → begins rest (codes "apos;") ≡ false →
    list_any (λ r. starts_with nat_eq r.0 rest) references ≡ any → named from rest (found rest) ≡ cond any (stop_at [] Ended) (stop_at from BadReference)
named_none from rest any a b d e f g = rw (a, b, d, e, f) (ap (λ (x : Bool). cond x (stop_at [] Ended) (stop_at from BadReference)) g)

-- ---- numbers

value_grows : (radix n : ℕ) (ds : List ℕ) → (radix ≡ 10) ⊎ (radix ≡ 16) → n ≤ digits_value_after radix n ds
value_grows radix n [] r = omega arith
value_grows radix n (d ∷ ds) r = let more = value_grows radix (n * radix + digit_value d) ds r in omega (arith, more, grown r)
  where
    grown : (radix ≡ 10) ⊎ (radix ≡ 16) → n ≤ n * radix
    grown (inl e) = rw e (omega arith)
    grown (inr e) = rw e (omega arith)

capped_after : (radix n : ℕ) (ds : List ℕ) → (radix ≡ 10) ⊎ (radix ≡ 16) → capped (digits_value_after radix (capped n) ds) ≡ capped (digits_value_after radix n ds)
capped_after radix n ds r = elim (cases_lt n 0x110001) [
  | inl small ↦ let same : capped n ≡ n = omega (arith, small) in rw same refl
  | inr great ↦
      let most : capped n ≡ 0x110000 = omega (arith, great) in
      let a = value_grows radix n ds r in
      let b = value_grows radix 0x110000 ds r in
      rw most (omega (arith, a, b, great))
]

-- the digits up to a place are read, and those from there on are not
pub record StillDigits (text : List ℕ) (at end radix value : ℕ) : Type 0 where
  pub behind : at ≤ end
  pub within : end ≤ length text
  pub prefix : prefix_len (is_digit_of radix) (drop at text) ≡ end - at + prefix_len (is_digit_of radix) (drop end text)
  pub small : value ≤ 0x110000
  pub value_is : capped (digits_value radix (take (prefix_len (is_digit_of radix) (drop at text)) (drop at text))) ≡ capped (digits_value_after radix value (take (prefix_len (is_digit_of radix) (drop end text)) (drop end text)))

pub digits_start : (text : List ℕ) (at radix : ℕ) → at ≤ length text → StillDigits text at at radix 0
digits_start text at radix l = record { behind = omega arith; within = l; prefix = omega arith; small = omega arith; value_is = refl }

pub digits_next : (text : List ℕ) (at end radix value more : ℕ) → (radix ≡ 10) ⊎ (radix ≡ 16) → StillDigits text at end radix value → end < length text → is_digit_of radix (get_or text end 0) ≡ true →
    more ≡ capped (value * radix + digit_value (get_or text end 0)) → StillDigits text at (end + 1) radix more
digits_next text at end radix value more r s l d e =
    let behind = s.behind in
    let prefix = s.prefix in
    let x : ℕ = get_or text end 0 in
    let rest : List ℕ = drop (end + 1) text in
    let one : prefix_len (is_digit_of radix) (drop end text) ≡ suc (prefix_len (is_digit_of radix) rest) = rw (here text end l) (counted x rest d) in
    record {
      behind = omega (arith, behind);
      within = omega (arith, l);
      prefix = omega (arith, prefix, one, behind);
      small = omega (arith, e);
      value_is = s.value_is ∙ ap (λ (k : ℕ). capped (digits_value_after radix value (take k (drop end text)))) one ∙ ap (λ (t : List ℕ). capped (digits_value_after radix value (take (suc (prefix_len (is_digit_of radix) rest)) t))) (here text end l)
          ∙ sym (capped_after radix (value * radix + digit_value x) (take (prefix_len (is_digit_of radix) rest) rest) r) ∙ ap (λ (k : ℕ). capped (digits_value_after radix k (take (prefix_len (is_digit_of radix) rest) rest))) (sym e);
    }
  where
    counted : (y : ℕ) (t : List ℕ) → is_digit_of radix y ≡ true → prefix_len (is_digit_of radix) (y ∷ t) ≡ suc (prefix_len (is_digit_of radix) t)
    counted y t h = rw h (omega arith)

pub digits_over : (text from : List ℕ) (at end radix value : ℕ) → StillDigits text at end radix value → end ≡ length text → digits_at (is_digit_of radix) radix from (drop at text) ≡ stop_at [] Ended
digits_over text from at end radix value s e =
    let behind = s.behind in
    let none : prefix_len (is_digit_of radix) (drop end text) ≡ 0 = rw (over text end (omega (arith, e))) refl in
    let prefix = s.prefix in
    let whole : prefix_len (is_digit_of radix) (drop at text) ≡ length (drop at text) = omega (arith, prefix, none, length-drop at text, e) in
    rw (eq-eqb (prefix_len (is_digit_of radix) (drop at text)) (length (drop at text)) whole) refl

-- where the digits end
record Ends (text : List ℕ) (at end radix value : ℕ) : Type 0 where
  len : prefix_len (is_digit_of radix) (drop at text) ≡ end - at
  part : eqb (end - at) (length (drop at text)) ≡ false
  rest : drop (end - at) (drop at text) ≡ get_or text end 0 ∷ drop (end + 1) text
  is_value : value ≡ capped (digits_value radix (take (end - at) (drop at text)))

ends : (text : List ℕ) (at end radix value : ℕ) → StillDigits text at end radix value → end < length text → is_digit_of radix (get_or text end 0) ≡ false → Ends text at end radix value
ends text at end radix value s l d =
    let behind = s.behind in
    let prefix = s.prefix in
    let small = s.small in
    let none : prefix_len (is_digit_of radix) (drop end text) ≡ 0 = rw (here text end l) (counted (get_or text end 0) (drop (end + 1) text) d) in
    let len : prefix_len (is_digit_of radix) (drop at text) ≡ end - at = omega (arith, prefix, none) in
    record {
      len = len;
      part = ne_eqb (end - at) (length (drop at text)) (λ e. absurd (omega (arith, e, length-drop at text, l, behind)));
      rest = drop-drop (end - at) at text ∙ ap (λ (k : ℕ). drop k text) (omega (arith, behind)) ∙ here text end l;
      is_value = sym (ap (λ (k : ℕ). capped (digits_value radix (take k (drop at text)))) (sym len) ∙ s.value_is ∙ ap (λ (k : ℕ). capped (digits_value_after radix value (take k (drop end text)))) none ∙ omega (arith, small));
    }
  where
    counted : (y : ℕ) (t : List ℕ) → is_digit_of radix y ≡ false → prefix_len (is_digit_of radix) (y ∷ t) ≡ 0
    counted y t h = rw h refl

great_is_none : (n : ℕ) → 0x110000 ≤ n → is_character n ≡ false
great_is_none n h = grind (arith, nat_tests)

-- a capped number is a character exactly where the number is
capped_character : (n : ℕ) → (is_character (capped n) ≡ is_character n) × (is_character (capped n) ≡ true → capped n ≡ n)
capped_character n = elim (cases_lt n 0x110000) [
  | inl small ↦ let same : capped n ≡ n = omega (arith, small) in (ap (λ (k : ℕ). is_character k) same, λ h. same)
  | inr great ↦
      let most : capped n ≡ 0x110000 = omega (arith, great) in
      let none : is_character (capped n) ≡ false = rw most refl in
      (none ∙ sym (great_is_none n great), λ h. absurd (let f : false ≡ true = sym none ∙ h in cc))
]

digits_judged : (text from : List ℕ) (at end radix value : ℕ) → Ends text at end radix value → digits_at (is_digit_of radix) radix from (drop at text) ≡
    cond (not (eqb (end - at) 0) && starts_with nat_eq (get_or text end 0 ∷ drop (end + 1) text) (codes ";") && is_character (digits_value radix (take (end - at) (drop at text)))) (Ok (encode_utf8 (digits_value radix (take (end - at) (drop at text))), drop (end - at + 1) (drop at text))) (stop_at from BadReference)
digits_judged text from at end radix value e = rw e.len (rw (e.part, e.rest) refl)

pub digits_bad : (text from : List ℕ) (at end radix value : ℕ) → StillDigits text at end radix value → end < length text → is_digit_of radix (get_or text end 0) ≡ false →
    (end ≡ at) ⊎ (get_or text end 0 ≢ 59) ⊎ (is_character value ≡ false) → digits_at (is_digit_of radix) radix from (drop at text) ≡ stop_at from BadReference
digits_bad text from at end radix value s l d why =
    let e = ends text at end radix value s l d in
    digits_judged text from at end radix value e ∙ rw (judged e why) refl
  where
    judged : Ends text at end radix value → (end ≡ at) ⊎ (get_or text end 0 ≢ 59) ⊎ (is_character value ≡ false) →
        (not (eqb (end - at) 0) && starts_with nat_eq (get_or text end 0 ∷ drop (end + 1) text) (codes ";") && is_character (digits_value radix (take (end - at) (drop at text)))) ≡ false
    judged e (inl same) = let none : end - at ≡ 0 = omega (arith, same) in rw none refl
    judged e (inr (inl other)) = and_left _ (is_character (digits_value radix (take (end - at) (drop at text)))) (and_right (not (eqb (end - at) 0)) _ (rw (ne_eqb 59 (get_or text end 0) (λ f. other (sym f))) refl))
    judged e (inr (inr none)) = and_right _ (is_character (digits_value radix (take (end - at) (drop at text)))) (sym (capped_character (digits_value radix (take (end - at) (drop at text)))).0 ∙ ap (λ (k : ℕ). is_character k) (sym e.is_value) ∙ none)

pub digits_reads : (text : List ℕ) (from at end radix value : ℕ) → from < at → StillDigits text at end radix value → end < length text → is_digit_of radix (get_or text end 0) ≡ false → end ≢ at → get_or text end 0 ≡ 59 → is_character value ≡ true →
    ReadsReference text from (Ok (value, end + 1)) (digits_at (is_digit_of radix) radix (drop from text) (drop at text))
digits_reads text from at end radix value b s l d some semi ch = (omega (arith, b, behind), omega (arith, l), ch, digits_judged text (drop from text) at end radix value e ∙ rw (not_none, starts, number) (rw ch (rw rest refl)))
  where
    behind : at ≤ end
    behind = s.behind

    e : Ends text at end radix value
    e = ends text at end radix value s l d

    not_none : eqb (end - at) 0 ≡ false
    not_none = ne_eqb (end - at) 0 (λ f. some (let b = behind in omega (arith, f, b)))

    starts : starts_with nat_eq (get_or text end 0 ∷ drop (end + 1) text) (codes ";") ≡ true
    starts = rw semi refl

    number : digits_value radix (take (end - at) (drop at text)) ≡ value
    number = let c = capped_character (digits_value radix (take (end - at) (drop at text))) in sym (sym (sym e.is_value) ∙ c.1 (ap (λ (k : ℕ). is_character k) (sym e.is_value) ∙ ch))

    rest : drop (end - at + 1) (drop at text) ≡ drop (end + 1) text
    rest = let b = behind in drop-drop (end - at + 1) at text ∙ ap (λ (k : ℕ). drop k text) (omega (arith, b))

-- ---- which of them

pub reads_as : (text : List ℕ) (from : ℕ) (r : Result (ℕ × ℕ) NzbError) (read other : Result (List ℕ × List ℕ) Stop) → other ≡ read → ReadsReference text from r read → ReadsReference text from r other
reads_as text from (Ok (c, end)) read other e h = (h.0, h.1, h.2, e ∙ h.3)
reads_as text from (Err d) read other e h = fails_as text d read other e h

pub hex_here : (text : List ℕ) (from : ℕ) → from < length text → starts_with nat_eq (drop (from + 1) text) (codes "#x") ≡ true →
    (from + 1 + 2 ≤ length text) × (reference_at (drop from text) (drop (from + 1) text) ≡ digits_at (is_digit_of 16) 16 (drop from text) (drop (from + 1 + 2) text))
hex_here text from l s =
    let front = starts_front (drop (from + 1) text) (codes "#x") s in
    (omega (arith, ap length front, length-drop (from + 1) text, l), rw s (ap (λ (t : List ℕ). digits_at (is_digit_of 16) 16 (drop from text) t) (drop-drop 2 (from + 1) text)))

pub decimal_here : (text : List ℕ) (from : ℕ) → from < length text → starts_with nat_eq (drop (from + 1) text) (codes "#x") ≡ false → starts_with nat_eq (drop (from + 1) text) (codes "#") ≡ true →
    (from + 1 + 1 ≤ length text) × (reference_at (drop from text) (drop (from + 1) text) ≡ digits_at (is_digit_of 10) 10 (drop from text) (drop (from + 1 + 1) text))
decimal_here text from l n s =
    let front = starts_front (drop (from + 1) text) (codes "#") s in (
      omega (arith, ap length front, length-drop (from + 1) text, l),
      rw n (elim (cases_Bool (bytes_eq (drop (from + 1) text) (codes "#"))) [
        | inr more ↦ rw more (rw s further)
        | inl all ↦ rw all (let same = (bytes_eq-Decides (drop (from + 1) text) (codes "#")).0 all in nothing (ap (λ (t : List ℕ). drop 1 t) same) ∙ further)
      ]),
    )
  where
    further : digits_at (is_digit_of 10) 10 (drop from text) (drop 1 (drop (from + 1) text)) ≡ digits_at (is_digit_of 10) 10 (drop from text) (drop (from + 1 + 1) text)
    further = ap (λ (t : List ℕ). digits_at (is_digit_of 10) 10 (drop from text) t) (drop-drop 1 (from + 1) text)

    nothing : drop 1 (drop (from + 1) text) ≡ [] → stop_at [] Ended ≡ digits_at (is_digit_of 10) 10 (drop from text) (drop 1 (drop (from + 1) text))
    nothing e = rw e refl

pub named_here : (text : List ℕ) (from : ℕ) → starts_with nat_eq (drop (from + 1) text) (codes "#x") ≡ false → starts_with nat_eq (drop (from + 1) text) (codes "#") ≡ false →
    reference_at (drop from text) (drop (from + 1) text) ≡ named (drop from text) (drop (from + 1) text) (found (drop (from + 1) text))
named_here text from n m = rw n (elim (cases_Bool (bytes_eq (drop (from + 1) text) (codes "#"))) [
  | inr more ↦ rw more (rw m refl)
  | inl all ↦ absurd (let same = (bytes_eq-Decides (drop (from + 1) text) (codes "#")).0 all in let f : false ≡ true = sym m ∙ rw same refl in cc)
])
