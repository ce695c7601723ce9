-- The lines of a text of bytes are lines of bytes.
use Rattle.std.proofs.Common.{◌≡◌, ◌<◌, ℕ, zero, suc, ◌-◌, ◌==◌, if◌then◌else◌, Bool, true, false, List, [], ◌∷◌, length, take, get_or, subst, sym, refl}
use Rattle.std.specs.List.{onto_first, slice_split}
use Rattle.std.specs.Str.Lines.{lines_of_parts, strip_carriage_return}
use Rattle.std.proofs.lemmas.List.Splits.{slice_split-cons_no, slice_split-cons_yes}
use Rattle.lists.specs.Text.{text_lines}
use Rattle.yenc_body.proofs.BodyLaws.{AreLinesOfBytes}
use Rattle.yenc_body.proofs.DataLaws.{AreBytes}

onto_bytes : (x : ℕ) (parts : List (List ℕ)) → x < 256 → AreLinesOfBytes parts → AreLinesOfBytes (onto_first x parts)
onto_bytes x [] small each = ((small, tt), tt)
onto_bytes x (part ∷ parts) small each = ((small, each.0), each.1)

cut_bytes : (x : ℕ) (text : List ℕ) (ends : Bool) → x < 256 → AreLinesOfBytes (slice_split (λ b. b == 10) text) → (x == 10) ≡ ends → AreLinesOfBytes (slice_split (λ b. b == 10) (x ∷ text))
cut_bytes x text true small each e = subst AreLinesOfBytes (sym (slice_split-cons_yes (λ b. b == 10) x text e)) (tt, each)
cut_bytes x text false small each e = subst AreLinesOfBytes (sym (slice_split-cons_no (λ b. b == 10) x text e)) (onto_bytes x (slice_split (λ b. b == 10) text) small each)

parts_of_bytes : (text : List ℕ) → AreBytes text → AreLinesOfBytes (slice_split (λ b. b == 10) text)
parts_of_bytes [] small = (tt, tt)
parts_of_bytes (x ∷ text) small = cut_bytes x text (x == 10) small.0 (parts_of_bytes text small.1) refl

front_of_bytes : (n : ℕ) (line : List ℕ) → AreBytes line → AreBytes (take n line)
front_of_bytes zero line small = tt
front_of_bytes (suc n) [] small = tt
front_of_bytes (suc n) (x ∷ line) small = (small.0, front_of_bytes n line small.1)

stripped_of_bytes : (line : List ℕ) → AreBytes line → AreBytes (strip_carriage_return line)
stripped_of_bytes line small = go (get_or line (length line - 1) 0 == 13)
  where
    go : (ends : Bool) → AreBytes (if ends then take (length line - 1) line else line)
    go true = front_of_bytes (length line - 1) line small
    go false = small

last_of_bytes : (line : List ℕ) → AreBytes line → AreLinesOfBytes (lines_of_parts (line ∷ []))
last_of_bytes line small = go (length line == 0)
  where
    go : (none : Bool) → AreLinesOfBytes (if none then [] else line ∷ [])
    go true = tt
    go false = (small, tt)

lines_of_bytes : (parts : List (List ℕ)) → AreLinesOfBytes parts → AreLinesOfBytes (lines_of_parts parts)
lines_of_bytes [] each = tt
lines_of_bytes (x ∷ []) each = last_of_bytes x each.0
lines_of_bytes (x ∷ y ∷ more) each = (stripped_of_bytes x each.0, lines_of_bytes (y ∷ more) each.1)

-- from the elements of the text
bytes_each : (text : List ℕ) → ((i : ℕ) → get_or text i 0 < 256) → AreBytes text
bytes_each [] h = tt
bytes_each (x ∷ text) h = (h 0, bytes_each text (λ i. h (suc i)))

pub text_of_bytes : (text : List ℕ) → ((i : ℕ) → get_or text i 0 < 256) → AreLinesOfBytes (text_lines text)
text_of_bytes text h = lines_of_bytes (slice_split (λ b. b == 10) text) (parts_of_bytes text (bytes_each text h))
