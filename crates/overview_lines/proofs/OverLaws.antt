-- The reading of a line of an overview agrees with what such a line is, and with what is wrong with it.
use Rattle.std.proofs.Common.{◌≡◌, ◌≤◌, ◌<◌, ℕ, Bool, true, false, List, [], ◌∷◌, length, Option, Some, None, Result, Ok, Err, MatchResult, refl, sym, ◌∙◌, ap, subst, arith}
use Rattle.std.specs.Prelude.{IfErr, IfOk, IsSome, IsTrue, nat_le, if◌then◌else◌}
use Rattle.std.proofs.lemmas.Bool.{le-leb, leb-false, leb-true, lt-leb}
use Rattle.std.specs.List.{slice_split}
use Rattle.numbers.specs.Numbers.{decimal_of}
use Rattle.overview_lines.specs.declared.over.OverFault.{OverFault}
use Rattle.overview_lines.specs.declared.over.OverFault.TheVariants.{TooLong, TooFewFields, BadNumber, BadText}
use Rattle.overview_lines.specs.declared.over.OverLine.{OverLine}
use Rattle.overview_lines.specs.OverLine.{Fields, HasFields, HasOverFault, too_long, too_few_fields, bad_number, bad_subject, bad_from, bad_date, bad_id, bad_bytes, IsIdField, IsReadLine, IsOverLine, Over, bytes_of, is_plain, is_tab, number_of, over_in}
use Rattle.overview_lines.specs.OverReading.{fields_of, id_of, over_of, over_said, with_bytes, with_fields, with_id, with_number}
use Rattle.overview_lines.proofs.Digits.{within_parts}
use Rattle.overview_lines.proofs.IdField.{found_is_read, id_is_read, read_is_id}
use Rattle.overview_lines.proofs.OverFields.{few_are_unread, fields_are_read, fields_are_short, read_are_fields, split_are_fields, unread_are_few}
use Rattle.limits.specs.declared.TheConstants.{MOST_ARTICLE, MOST_OCTETS}

none_number : {a : ℕ} → None ≡ Some a → ⊥
none_number e = cc

some_number : {a b : ℕ} → Some a ≡ Some b → a ≡ b
some_number e = cc

-- ---- lines within the limit

pub long_line : (line : List ℕ) → 4096 < length line → over_of line ≡ Err TooLong
unfolding over_of
long_line line long = rw (lt-leb (length line) 4096 long) refl

pub short_enough : (line : List ℕ) → length line ≤ 4096 → over_of line ≡ with_fields (fields_of line)
unfolding over_of
short_enough line short = rw (le-leb (length line) 4096 short) refl

pub has_fields : (line : List ℕ) (f : Fields) → length line ≤ 4096 → HasFields line f → over_of line ≡ over_said f
has_fields line f short has = short_enough line short ∙ ap with_fields (fields_are_read line f has)

-- ---- what is read of the fields

none_id : {a : List ℕ} → None ≡ Some a → ⊥
none_id e = cc

said_none : (f : Fields) → number_of f.number ≡ None → over_said f ≡ Err (BadNumber 1)
unfolding over_said
said_none f none = ap (with_number f) none

-- a number that is read
said_number : (f : Fields) (number : ℕ) → number_of f.number ≡ Some number → over_said f ≡ with_number f (Some number)
unfolding over_said
said_number f number is = ap (with_number f) is

some_is : (found : Option ℕ) → IsSome found → (number : ℕ) × (found ≡ Some number)
some_is (Some number) some = (number, refl)
some_is None some = absurd (let wrong : false ≡ true = some in cc)

-- three texts that are plain
said_texts : (f : Fields) (number : ℕ) → number_of f.number ≡ Some number → IsTrue (is_plain f.subject) → IsTrue (is_plain f.from) → IsTrue (is_plain f.date) →
    over_said f ≡ with_id f number (id_of f.id)
said_texts f number is subject from date = said_number f number is ∙ rw (subject, from, date) refl

said_id : (f : Fields) (number : ℕ) (id : List ℕ) → number_of f.number ≡ Some number → IsTrue (is_plain f.subject) → IsTrue (is_plain f.from) → IsTrue (is_plain f.date) → IsIdField f.id id →
    over_said f ≡ with_bytes f number id (bytes_of f.bytes)
said_id f number id is subject from date is_id = said_texts f number is subject from date ∙ ap (with_id f number) (id_is_read f.id id is_id)

-- a line that says something is read so
pub over_is_read : (line : List ℕ) (over : Over) → IsOverLine line over → over_of line ≡ Ok over
over_is_read line over h =
    has_fields line h.fields h.short h.has
    ∙ said_id h.fields over.number over.id h.number (rw h.subject h.plain_subject) (rw h.from h.plain_from) (rw h.date h.plain_date) h.id
    ∙ ap (with_bytes h.fields over.number over.id) h.bytes
    ∙ rw (h.subject, h.from, h.date) refl

unread_id : (f : Fields) → ((id : List ℕ) → ¬ IsIdField f.id id) → id_of f.id ≡ None
unread_id f never = sym (found_is_read f.id None never)

-- what is wrong with a line first is told
pub fault_is_told : (line : List ℕ) (fault : OverFault) → HasOverFault line fault → over_of line ≡ Err fault
fault_is_told line fault (too_long long) = long_line line long
fault_is_told line fault (too_few_fields fields short are few) = short_enough line short ∙ ap with_fields (few_are_unread line fields are few)
fault_is_told line fault (bad_number f short has none) = has_fields line f short has ∙ said_none f none
fault_is_told line fault (bad_subject f short has some wrong) =
    let number = some_is (number_of f.number) some in
    has_fields line f short has ∙ said_number f number.0 number.1 ∙ rw wrong refl
fault_is_told line fault (bad_from f short has some subject wrong) =
    let number = some_is (number_of f.number) some in
    has_fields line f short has ∙ said_number f number.0 number.1 ∙ rw (subject, wrong) refl
fault_is_told line fault (bad_date f short has some subject from wrong) =
    let number = some_is (number_of f.number) some in
    has_fields line f short has ∙ said_number f number.0 number.1 ∙ rw (subject, from, wrong) refl
fault_is_told line fault (bad_id f short has some subject from date never) =
    let number = some_is (number_of f.number) some in
    has_fields line f short has ∙ said_texts f number.0 number.1 subject from date ∙ ap (with_id f number.0) (unread_id f never)
fault_is_told line fault (bad_bytes f id short has some subject from date is_id none) =
    let number = some_is (number_of f.number) some in
    has_fields line f short has ∙ said_id f number.0 id number.1 subject from date is_id ∙ ap (with_bytes f number.0 id) none

-- ---- each line says something, or something is wrong with it

-- so do fields
module _ (line : List ℕ) (f : Fields) (short : length line ≤ 4096) (has : HasFields line f) where
  by_bytes : (number : ℕ) (id : List ℕ) → number_of f.number ≡ Some number → is_plain f.subject ≡ true → is_plain f.from ≡ true → is_plain f.date ≡ true → IsIdField f.id id →
      (bytes : Option ℕ) → bytes_of f.bytes ≡ bytes → MatchResult (with_bytes f number id bytes) (IsOverLine line) (HasOverFault line)
  by_bytes number id is subject from date is_id None e = bad_bytes f id short has (rw is refl) subject from date is_id e
  by_bytes number id is subject from date is_id (Some bytes) e = record {
    fields = f;
    short = short;
    has = has;
    number = is;
    subject = refl;
    from = refl;
    date = refl;
    plain_subject = subject;
    plain_from = from;
    plain_date = date;
    id = is_id;
    bytes = e;
  }

  by_id : (number : ℕ) → number_of f.number ≡ Some number → is_plain f.subject ≡ true → is_plain f.from ≡ true → is_plain f.date ≡ true →
      (id : Option (List ℕ)) → id_of f.id ≡ id → MatchResult (with_id f number id) (IsOverLine line) (HasOverFault line)
  by_id number is subject from date None e = bad_id f short has (rw is refl) subject from date (λ id is_id. none_id (sym e ∙ id_is_read f.id id is_id))
  by_id number is subject from date (Some id) e = by_bytes number id is subject from date (read_is_id f.id id e) (bytes_of f.bytes) refl

  by_date : (number : ℕ) → number_of f.number ≡ Some number → is_plain f.subject ≡ true → is_plain f.from ≡ true → (test : Bool) → is_plain f.date ≡ test →
      MatchResult (if test then with_id f number (id_of f.id) else Err (BadText 4)) (IsOverLine line) (HasOverFault line)
  by_date number is subject from true e = by_id number is subject from e (id_of f.id) refl
  by_date number is subject from false e = bad_date f short has (rw is refl) subject from e

  by_from : (number : ℕ) → number_of f.number ≡ Some number → is_plain f.subject ≡ true → (test : Bool) → is_plain f.from ≡ test →
      MatchResult (if test then (if is_plain f.date then with_id f number (id_of f.id) else Err (BadText 4)) else Err (BadText 3)) (IsOverLine line) (HasOverFault line)
  by_from number is subject true e = by_date number is subject e (is_plain f.date) refl
  by_from number is subject false e = bad_from f short has (rw is refl) subject e

  by_subject : (number : ℕ) → number_of f.number ≡ Some number → (test : Bool) → is_plain f.subject ≡ test →
      MatchResult (if test then (if is_plain f.from then (if is_plain f.date then with_id f number (id_of f.id) else Err (BadText 4)) else Err (BadText 3)) else Err (BadText 2))
      (IsOverLine line) (HasOverFault line)
  by_subject number is true e = by_from number is e (is_plain f.from) refl
  by_subject number is false e = bad_subject f short has (rw is refl) e

  by_number : (number : Option ℕ) → number_of f.number ≡ number → MatchResult (with_number f number) (IsOverLine line) (HasOverFault line)
  by_number None e = bad_number f short has e
  by_number (Some number) e = by_subject number e (is_plain f.subject) refl

  said_or_fault : MatchResult (over_said f) (IsOverLine line) (HasOverFault line)
  unfolding over_said
  said_or_fault = by_number (number_of f.number) refl

pub over_or_fault : (line : List ℕ) → MatchResult (over_of line) (IsOverLine line) (HasOverFault line)
unfolding over_of
over_or_fault line = by_length (nat_le (length line) 4096) refl
  where
    by_fields : length line ≤ 4096 → (fields : Option Fields) → fields_of line ≡ fields → MatchResult (with_fields fields) (IsOverLine line) (HasOverFault line)
    by_fields short None e = too_few_fields (slice_split is_tab line) short (split_are_fields line) (unread_are_few line e)
    by_fields short (Some f) e = said_or_fault line f short (read_are_fields line f e)

    by_length : (test : Bool) → nat_le (length line) 4096 ≡ test → MatchResult (if test then with_fields (fields_of line) else Err TooLong) (IsOverLine line) (HasOverFault line)
    by_length true e = by_fields (leb-true (length line) 4096 e) (fields_of line) refl
    by_length false e = too_long (leb-false (length line) 4096 e)

-- ---- what is answered

bytes_most : (field : List ℕ) (n : ℕ) → bytes_of field ≡ Some n → n ≤ MOST_OCTETS
bytes_most [] n is = let zero_is : 0 ≡ n = some_number is in omega (arith, zero_is)
bytes_most (d ∷ ds) n is = (within_parts 0 MOST_OCTETS (decimal_of (d ∷ ds)) n is).2

-- a line that says something keeps to the limits
pub line_is_over : (line : List ℕ) (over : Over) → IsOverLine line over → IsReadLine over
line_is_over line over h =
    let number = within_parts 1 MOST_ARTICLE (decimal_of h.fields.number) over.number h.number in
    let short = fields_are_short line h.fields h.has in
    record {
      number_least = number.1;
      number_most = number.2;
      subject = record { plain = h.plain_subject; short = omega (arith, h.short, short.0, ap (λ (t : List ℕ). length t) h.subject) };
      from = record { plain = h.plain_from; short = omega (arith, h.short, short.1, ap (λ (t : List ℕ). length t) h.from) };
      date = record { plain = h.plain_date; short = omega (arith, h.short, short.2, ap (λ (t : List ℕ). length t) h.date) };
      id = h.id.rule;
      bytes = bytes_most h.fields.bytes over.bytes h.bytes;
    }

-- the reading of a line
abbrev pub IsRead : List ℕ → Result OverLine OverFault → Type 0
IsRead line result = MatchResult result (λ over. over_of line ≡ Ok (over_in over)) (λ fault. over_of line ≡ Err fault)

-- a line's fields, and what is read of them
pub fields_said : (line : List ℕ) (f : Fields) (result : Result OverLine OverFault) → length line ≤ 4096 → fields_of line ≡ Some f →
    MatchResult result (λ over. over_said f ≡ Ok (over_in over)) (λ fault. over_said f ≡ Err fault) → IsRead line result
fields_said line f (Ok over) short is said = short_enough line short ∙ ap with_fields is ∙ said
fields_said line f (Err fault) short is said = short_enough line short ∙ ap with_fields is ∙ said

pub no_fields : (line : List ℕ) → length line ≤ 4096 → fields_of line ≡ None → over_of line ≡ Err TooFewFields
no_fields line short none = short_enough line short ∙ ap with_fields none

pub read_is_line : (line : List ℕ) (result : Result OverLine OverFault) → IsRead line result → IfOk result (λ over. IsOverLine line (over_in over))
read_is_line line (Ok over) is = subst (λ (r : Result Over OverFault). MatchResult r (IsOverLine line) (HasOverFault line)) is (over_or_fault line)
read_is_line line (Err fault) is = tt

pub read_is_over : (line : List ℕ) (result : Result OverLine OverFault) → IsRead line result → IfOk result (λ over. IsReadLine (over_in over))
read_is_over line (Ok over) is = line_is_over line (over_in over) (read_is_line line (Ok over) is)
read_is_over line (Err fault) is = tt

pub told_is_fault : (line : List ℕ) (result : Result OverLine OverFault) → IsRead line result → IfErr result (HasOverFault line)
told_is_fault line (Ok over) is = tt
told_is_fault line (Err fault) is = subst (λ (r : Result Over OverFault). MatchResult r (IsOverLine line) (HasOverFault line)) is (over_or_fault line)
