-- What the readers of part lines and of trailer lines answer.
use Rattle.std.proofs.Common.{◌≡◌, ℕ, List, Option, Some, None, Ok, Err, refl, ap, ◌∙◌, get_or, unwrap_or}
use Rattle.numbers.specs.Numbers.{or_zero}
use Rattle.yenc_lines.specs.declared.key.Key.{Key}
use Rattle.yenc_lines.specs.declared.key.Key.TheVariants as key
use Rattle.yenc_lines.specs.declared.key.KeyFault.{KeyFault}
use Rattle.yenc_lines.specs.Keywords.{ypart, yend, key_fault_of, items_of, number_in, part_of, end_of}
use Rattle.yenc_lines.specs.Gathered.{given, place}

pub part_fails : (line : List ℕ) (f : KeyFault) → key_fault_of ypart line ≡ Some f → Err f ≡ part_of line
unfolding part_of
part_fails line f is = rw is refl

pub part_is : (line : List ℕ) (numbers : List (Option ℕ)) → key_fault_of ypart line ≡ None → ((k : Key) → given numbers k ≡ number_in (items_of ypart line) k) →
    Ok (record { begin = or_zero (given numbers key.Begin); end = or_zero (given numbers key.End) }) ≡ part_of line
unfolding part_of
part_is line numbers is are = rw (is, are key.Begin, are key.End) refl

pub end_fails : (line : List ℕ) (f : KeyFault) → key_fault_of yend line ≡ Some f → Err f ≡ end_of line
unfolding end_of
end_fails line f is = rw is refl

pub end_is : (line : List ℕ) (numbers : List (Option ℕ)) → key_fault_of yend line ≡ None → ((k : Key) → given numbers k ≡ number_in (items_of yend line) k) →
    Ok (record { size = or_zero (given numbers key.Size); part = given numbers key.Part; pcrc32 = given numbers key.Pcrc32; crc32 = given numbers key.Crc32 }) ≡ end_of line
unfolding end_of
end_is line numbers is are = rw (is, are key.Size, are key.Part, are key.Pcrc32, are key.Crc32) refl

zero_is : (o : Option ℕ) → unwrap_or o 0 ≡ or_zero o
zero_is None = refl
zero_is (Some n) = refl

-- a number read at its place, or 0
pub number_is : (numbers : List (Option ℕ)) (at result : ℕ) (k : Key) → result ≡ unwrap_or (get_or numbers at None) 0 → at ≡ place k → result ≡ or_zero (given numbers k)
number_is numbers at result k is at_is = is ∙ ap (λ i. unwrap_or (get_or numbers i None) 0) at_is ∙ zero_is (given numbers k)
