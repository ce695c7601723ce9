-- One write after another.
use Rattle.std.proofs.Common.{◌≡◌, ℕ, ◌+◌, ◌-◌, List, ◌++◌, length, take, drop, Option, Some, None, sym, ◌∙◌, ap, arith, append_assoc, length-drop, subst, min, refl}
use Rattle.std.proofs.lemmas.List.{take_all, take-append-le, take_min}
use Rattle.std.proofs.Math.Seq.{take-add, take-append-add}
use Rattle.io_traits.specs.Causes.{Rose}
use Rattle.io_traits.specs.Sink.{told_and}

-- what is told goes on by one text and then another
pub told_and-append : (told : Option (List ℕ)) (xs ys : List ℕ) → told_and (told_and told xs) ys ≡ told_and told (xs ++ ys)
told_and-append None xs ys = refl
told_and-append (Some bytes) xs ys = ap (λ l. Some l) (append_assoc bytes xs ys)

-- a piece that is taken of what is left
pub one_piece : (bytes : List ℕ) (at n : ℕ) → take (at + n) bytes ≡ take at bytes ++ take n (take (length bytes - at) (drop at bytes))
one_piece bytes at n =
    take-add at n bytes ∙ ap (λ l. take at bytes ++ take n l) (sym (take_all (length bytes - at) (drop at bytes) (omega (arith, length-drop at bytes))))

-- one more piece of a text
pub told_piece : (told before now : Option (List ℕ)) (bytes : List ℕ) (at n : ℕ) → before ≡ told_and told (take at bytes) → now ≡ told_and before (take n (take (length bytes - at) (drop at bytes))) → now ≡ told_and told (take (at + n) bytes)
told_piece told before now bytes at n is is_now =
    is_now ∙ ap (λ t. told_and t (take n (take (length bytes - at) (drop at bytes)))) is ∙ told_and-append told (take at bytes) (take n (take (length bytes - at) (drop at bytes)))
    ∙ ap (told_and told) (sym (one_piece bytes at n))

-- a front of a text is a front of a longer one
pub front_of_longer : (told now : Option (List ℕ)) (xs ys zs : List ℕ) → (k : ℕ) × (now ≡ told_and told (take k xs)) → zs ≡ xs ++ ys → (k : ℕ) × (now ≡ told_and told (take k zs))
front_of_longer told now xs ys zs (k, is) e = (
  min k (length xs),
  is ∙ ap (told_and told) (sym (ap (λ (l : List ℕ). take (min k (length xs)) l) e ∙ take-append-le (min k (length xs)) xs ys (omega arith) ∙ take_min k xs)),
)

-- a text, and then a front of another
pub front_of_second : (told middle now : Option (List ℕ)) (xs ys zs : List ℕ) → middle ≡ told_and told xs → (k : ℕ) × (now ≡ told_and middle (take k ys)) → zs ≡ xs ++ ys → (k : ℕ) × (now ≡ told_and told (take k zs))
front_of_second told middle now xs ys zs whole (k, is) e = (
  length xs + k,
  is ∙ ap (λ t. told_and t (take k ys)) whole ∙ told_and-append told xs (take k ys)
      ∙ ap (told_and told) (sym (ap (λ (l : List ℕ). take (length xs + k) l) e ∙ take-append-add xs ys k)),
)

-- a count that rose from a later moment rose from an earlier one at which it was the same
pub rose_from : (first middle last : ℕ) → middle ≡ first → Rose middle last → Rose first last
rose_from first middle last same rose = subst (λ n. Rose n last) same rose
