-- The laws of NZB texts: each has one answer, and each refusal is known first at one front.
use Rattle.std.proofs.Common.{◌≡◌, ℕ, ◌<◌, true, List, ◌++◌, length, take, Result, Ok, Err, refl, sym, ap, ◌∙◌, arith, inl, inr, ◌⊎◌}
use Rattle.std.proofs.lemmas.List.{length-take}
use Rattle.nzb_index.specs.declared.error.NzbReason.TheVariants.{Ended, Unexpected, BadReference, WrongTag, DoubleAttribute, NoNumber, BadNumber, BadId, Subset}
use Rattle.nzb_writer.specs.declared.index.Index.{Index}
use Rattle.nzb_writer.specs.Nzb.{IsNzb}
use Rattle.nzb_index.specs.NzbReading.{Refusal, refused_at, past, nzb_of}
use Rattle.nzb_index.specs.Refusal.{IsCutShort, IsKnownFirst, HasOneIndex, HasOneRefusal, OneAnswer, KnownFirst}
use Rattle.nzb_index.proofs.IndexFound.{nzb_found}
use Rattle.nzb_index.proofs.IndexRead.{nzb_back}
use Rattle.nzb_index.proofs.KnownFirst.{IsFirstFront, is_early, nzb_ended, nzb_first, one_front}

abbrev read : Index → Result Index Refusal
read i = Ok i

abbrev refuses : Refusal → Result Index Refusal
refuses e = Err e

one_index : (text : List ℕ) (i j : Index) → nzb_of text ≡ Ok i → nzb_of text ≡ Ok j → j ≡ i
one_index text i j a b = let e : read j ≡ read i = sym b ∙ a in cc

one_refusal : (text : List ℕ) (d e : Refusal) → nzb_of text ≡ Err d → nzb_of text ≡ Err e → e ≡ d
one_refusal text d e a b = let f : refuses e ≡ refuses d = sym b ∙ a in cc

not_both : (text : List ℕ) (i : Index) (e : Refusal) → nzb_of text ≡ Ok i → nzb_of text ≡ Err e → ⊥
not_both text i e a b = let f : read i ≡ refuses e = sym a ∙ b in cc

pub one_answer_of : OneAnswer
one_answer_of text = go (nzb_of text) refl
  where
    go : (r : Result Index Refusal) → nzb_of text ≡ r → ((index : Index) × HasOneIndex text index) ⊎ ((refusal : Refusal) × HasOneRefusal text refusal)
    go (Ok i) e = inl (
      i,
      record {
        is_nzb = nzb_found text i e;
        no_other = λ j n. one_index text i j e (nzb_back text j n);
        no_refusal = λ d r. not_both text i d e r;
      },
    )
    go (Err d) e = inr (
      d,
      record {
        is_refused = e;
        no_other = λ f r. one_refusal text d f e r;
        no_index = λ j n. not_both text j d (nzb_back text j n) e;
      },
    )

-- ---- where a refusal is known

known_from : (text : List ℕ) (e : Refusal) (k : ℕ) → IsFirstFront text e k → IsKnownFirst text e k
known_from text e k first = record {
  is_front = first.is_front;
  dead = λ more i n. not_both (take k text ++ more) i e (nzb_back (take k text ++ more) i n) (first.known more n.short);
  known = first.known;
  not_before = λ j less. before j less (first.not_before j less);
}
  where
    before : (j : ℕ) → j < k → (nzb_of (take j text) ≡ Err (refused_at j Ended)) ⊎ ((i : Index) × (nzb_of (take j text) ≡ Ok i)) → IsCutShort (take j text) ⊎ ((i : Index) × IsNzb (take j text) i)
    before j less (inr (i, f)) = inr (i, nzb_found (take j text) i f)
    before j less (inl f) =
        let inside = first.is_front in
        let long : length (take j text) ≡ j = let t = length-take j text in omega (arith, t, inside, less) in
        inl (f ∙ ap (λ (p : ℕ). refuses (refused_at p Ended)) (sym long))

front_from : (text : List ℕ) (e : Refusal) (k : ℕ) → IsKnownFirst text e k → IsFirstFront text e k
front_from text e k first = record {
  is_front = first.is_front;
  known = first.known;
  not_before = λ j less. before j less (first.not_before j less);
}
  where
    before : (j : ℕ) → j < k → IsCutShort (take j text) ⊎ ((i : Index) × IsNzb (take j text) i) → (nzb_of (take j text) ≡ Err (refused_at j Ended)) ⊎ ((i : Index) × (nzb_of (take j text) ≡ Ok i))
    before j less (inr (i, n)) = inr (i, nzb_back (take j text) i n)
    before j less (inl f) =
        let inside = first.is_front in
        let long : length (take j text) ≡ j = let t = length-take j text in omega (arith, t, inside, less) in
        inl (f ∙ ap (λ (p : ℕ). refuses (refused_at p Ended)) long)

pub known_first_of : KnownFirst
known_first_of text e short h = go e h
  where
    early : (d : Refusal) → nzb_of text ≡ Err d → is_early d ≡ true → IsCutShort text ⊎ ((k : ℕ) × IsKnownFirst text d k × ((j : ℕ) → IsKnownFirst text d j → j ≡ k))
    early d f is_one =
        let first = nzb_first text d short f is_one in
        inr (first.0, known_from text d first.0 first.1, λ j other. one_front text d j first.0 short is_one (front_from text d j other) first.1)

    go : (d : Refusal) → nzb_of text ≡ Err d → IsCutShort text ⊎ ((k : ℕ) × IsKnownFirst text d k × ((j : ℕ) → IsKnownFirst text d j → j ≡ k))
    go (refused_at place Ended) f = inl (f ∙ ap (λ (p : ℕ). refuses (refused_at p Ended)) (nzb_ended text place f))
    go (refused_at place Unexpected) f = early (refused_at place Unexpected) f refl
    go (refused_at place BadReference) f = early (refused_at place BadReference) f refl
    go (refused_at place WrongTag) f = early (refused_at place WrongTag) f refl
    go (refused_at place DoubleAttribute) f = early (refused_at place DoubleAttribute) f refl
    go (refused_at place NoNumber) f = early (refused_at place NoNumber) f refl
    go (refused_at place BadNumber) f = early (refused_at place BadNumber) f refl
    go (refused_at place BadId) f = early (refused_at place BadId) f refl
    go (refused_at place Subset) f = early (refused_at place Subset) f refl
    go (past l) f = early (past l) f refl
