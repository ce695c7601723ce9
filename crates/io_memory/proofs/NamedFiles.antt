-- The first file with a name, by its place.
use Rattle.std.proofs.Common.{◌≡◌, ◌<◌, ◌-◌, ℕ, zero, suc, List, [], ◌∷◌, true, Option, Some, IfSome, IsSomeAnd, length, get_or, drop, min, slice_get, refl, sym, ◌∙◌, ap, subst, arith}
use Rattle.std.proofs.lemmas.Option.{slice_get_read}
use Rattle.std.specs.Option.{option_map}
use Rattle.std.specs.Str.{bytes_eq}
use Rattle.io_traits.specs.Input.{file_of, GivesAt}
use Rattle.io_memory.specs.InMemory.{content_at}

pub found_at : (name : List ℕ) (files : List (List ℕ × List ℕ)) (i : ℕ) (x : List ℕ × List ℕ) → i < length files → x ≡ get_or files i x → bytes_eq x.0 name ≡ true → option_map (λ file. file.1) (slice_get files i) ≡ file_of name (drop i files)
found_at name [] i x lt is eq = absurd (omega arith)
found_at name (f ∷ files) zero x lt is eq = rw (subst (λ (y : List ℕ × List ℕ). bytes_eq y.0 name ≡ true) is eq) refl
found_at name (f ∷ files) (suc i) x lt is eq = found_at name files i x (omega arith) is eq

-- a place whose file has a byte somewhere is a place in the list
place_inside : (files : List (List ℕ × List ℕ)) (place pos : ℕ) → IsSomeAnd (option_map length (option_map (λ (f : List ℕ × List ℕ). f.1) (slice_get files place))) (λ len. pos < len) → place < length files
place_inside [] place pos has = absurd has
place_inside (f ∷ files) zero pos has = omega arith
place_inside (f ∷ files) (suc place) pos has = omega (arith, place_inside files place pos has)

-- what a file at the current place holds is the content
pub content_is : (files : List (List ℕ × List ℕ)) (current : Option ℕ) (place pos : ℕ) (file : List ℕ × List ℕ) (bytes : List ℕ) → current ≡ Some place → IsSomeAnd (option_map length (content_at files current)) (λ len. pos < len) → file ≡ get_or files place file → bytes ≡ file.1 → content_at files current ≡ Some bytes
content_is files current place pos file bytes is has at bytes_are =
    let has_place = subst (λ (o : Option ℕ). IsSomeAnd (option_map length (content_at files o)) (λ len. pos < len)) is has in
    let found = slice_get_read files (length files) place file refl (place_inside files place pos has_place) at in
    ap (content_at files) is ∙ ap (option_map (λ (f : List ℕ × List ℕ). f.1)) found ∙ ap (λ b. Some b) (sym bytes_are)

-- a read of the content's bytes, and how many they are
pub gives_content : (content : Option (List ℕ)) (bytes buf : List ℕ) (pos n : ℕ) → content ≡ Some bytes → GivesAt (Some bytes) pos buf n → GivesAt content pos buf n
gives_content content bytes buf pos n is gives = subst (λ (o : Option (List ℕ)). GivesAt o pos buf n) (sym is) gives

pub counts_content : (content : Option (List ℕ)) (bytes : List ℕ) (pos room n : ℕ) → content ≡ Some bytes → n ≡ min room (length bytes - pos) → IfSome content (λ held. n ≡ min room (length held - pos))
counts_content content bytes pos room n is count = subst (λ (o : Option (List ℕ)). IfSome o (λ held. n ≡ min room (length held - pos))) (sym is) count
