-- Keys, and their texts.
use Rattle.std.proofs.Common.{◌≡◌, ℕ, Bool, true, ◌&&◌, ◌==◌, List, [], ◌∷◌, ◌++◌, Decides, bytes_eq, refl, sym, ap, ◌∙◌, arith}
use Rattle.std.specs.Prelude.{nat_le}
use Rattle.std.specs.List.{list_any}
use Rattle.std.proofs.lemmas.Bool.{and_parts, leb-true}
use Rattle.std.proofs.lemmas.Bool.Decides.{Decides-and, Decides-like, same_from_decides}
use Rattle.std.proofs.lemmas.Slice.Eq.{bytes_eq-Decides}
use Rattle.overview_lines.specs.OverLine.{is_plain}
use Rattle.overview_index.specs.Group.{Counted, Key, has_key, key_of, number_of, same_key, same_part}
use Rattle.overview_index.specs.Grouper.{spelled}

pub same_key-Decides : (k l : Key) → Decides (same_key k l) (k ≡ l)
same_key-Decides k l =
    Decides-like (same_key k l) (λ h i. (h.0 i, h.1 i)) (λ h. (ap (λ (key : Key). key.0) h, ap (λ (key : Key). key.1) h))
    (Decides-and (bytes_eq k.0 l.0) (bytes_eq k.1 l.1) (bytes_eq-Decides k.0 l.0) (bytes_eq-Decides k.1 l.1))

pub same_key-sym : (k l : Key) → same_key k l ≡ same_key l k
same_key-sym k l = same_from_decides (same_key k l) (same_key l k) (same_key-Decides k l) (Decides-like (same_key l k) (λ h. sym h) (λ h. sym h) (same_key-Decides l k))

-- the zero byte parts a text that holds none from what stands behind it
parted : (a b x y : List ℕ) → is_plain a ≡ true → is_plain b ≡ true → a ++ 0 ∷ x ≡ b ++ 0 ∷ y → (a ≡ b) × (x ≡ y)
parted [] [] x y p q e = (refl, cc)
parted [] (d ∷ b) x y p q e =
    let zero_there : 0 ≡ d = cc in
    absurd (omega (arith, leb-true 32 d ((and_parts (nat_le 32 d) (is_plain b) q).0)))
parted (c ∷ a) [] x y p q e =
    let zero_there : c ≡ 0 = cc in
    absurd (omega (arith, leb-true 32 c ((and_parts (nat_le 32 c) (is_plain a) p).0)))
parted (c ∷ a) (d ∷ b) x y p q e =
    let first : c ≡ d = cc in
    let behind : a ++ 0 ∷ x ≡ b ++ 0 ∷ y = cc in
    let rest = parted a b x y ((and_parts (nat_le 32 c) (is_plain a) p).1) ((and_parts (nat_le 32 d) (is_plain b) q).1) behind in
    (λ i. first i ∷ rest.0 i, rest.1)

-- two keys of texts without bytes below 32 have two texts
pub spelled_once : (k l : Key) → is_plain k.0 ≡ true → is_plain l.0 ≡ true → spelled k ≡ spelled l → k ≡ l
spelled_once k l p q e = let parts = parted k.0 l.0 k.1 l.1 p q e in λ i. (parts.0 i, parts.1 i)

-- to compare the texts is to compare the keys
pub bytes_eq-spelled : (k l : Key) (text : List ℕ) → is_plain k.0 ≡ true → is_plain l.0 ≡ true → text ≡ spelled l → bytes_eq (spelled k) text ≡ same_key l k
bytes_eq-spelled k l text p q is =
    same_from_decides (bytes_eq (spelled k) text) (same_key l k)
    (Decides-like (bytes_eq (spelled k) text) (λ h. sym (spelled_once k l p q (h ∙ is))) (λ h. ap spelled (sym h) ∙ sym is) (bytes_eq-Decides (spelled k) text))
    (same_key-Decides l k)

-- a test that agrees with another at each member
pub list_any_agree : {A : Type 0} (p q : A → Bool) → ((x : A) → p x ≡ q x) → (xs : List A) → list_any p xs ≡ list_any q xs
list_any_agree p q same xs = λ i. list_any (λ x. same x i) xs

pub same_part-sym : (a b : Counted) → same_part a b ≡ (has_key (key_of b) a && (number_of a == number_of b))
same_part-sym a b = ap (λ s. s && (number_of a == number_of b)) (same_key-sym (key_of a) (key_of b))
