-- A text of the grammar is read: elements, and the whole text.
use Rattle.std.proofs.Common.{◌≡◌, ℕ, zero, suc, ◌≤◌, List, [], ◌∷◌, ◌++◌, length, Option, None, Ok, refl, sym, ap, ◌∙◌, append_assoc, arith}
use Rattle.std.specs.Prelude.{codes, fold}
use Rattle.std.specs.List.{concat}
use Rattle.std.proofs.lemmas.List.{length-append}
use Rattle.nzb_writer.specs.Markup.{IsWhite, IsMarkupName, IsElementText, IsBetween, AreElements, trimmed}
use Rattle.nzb_index.specs.MarkupReading.{Stop, ValueRead, Tag, unexpected, leaf, between, children, parent}
use Rattle.nzb_index.proofs.ElementsFound.{Content, none, some}
use Rattle.nzb_index.proofs.WordsRead.{NoName, name_back, between_back, Stops, stops_back}
use Rattle.nzb_index.proofs.TextsRead.{gave, text_back, text_long, raw_of, bytes_of}
use Rattle.nzb_index.proofs.TagsRead.{end_tag_back, name_other}

-- ---- elements with a text

no_text : (text : List ℕ) → IsElementText [] text → text ≡ []
no_text text (whole, ([], all, e, f), g) = g ∙ ap (λ (t : List ℕ). trimmed t) f
no_text text (whole, (p ∷ pieces, all, e, f), g) = absurd (omega (arith, text_long p.0 p.1 all.0, ap length e, length-append p.0 (raw_of pieces)))

pub leaf_back : (name : List ℕ) (known : List ℕ → Option Stop) (tag : Tag) (mid inside behind text : List ℕ) → IsMarkupName name → Content name tag.closed mid inside behind → IsElementText inside text → known text ≡ None → leaf name known tag mid ≡ gave text behind
leaf_back name known tag mid inside behind text n (none c i m) t k =
    let nothing : text ≡ [] = no_text text (rw i at t) in
    let unknown : known [] ≡ None = rw nothing at k in
    rw c (rw unknown (rw (m, nothing) refl))
leaf_back name known tag mid inside behind text n (some last c w m) (whole, (pieces, all, e, f), g) k =
    let end : List ℕ = name ++ (last ++ 62 ∷ behind) in
    let mid_is : mid ≡ raw_of pieces ++ (60 ∷ 47 ∷ end) = joined mid inside name last (raw_of pieces) m e in
    let texted : trimmed (bytes_of pieces) ≡ text = sym (g ∙ ap (λ (t : List ℕ). trimmed t) f) in
    rw c (rw mid_is (rw (text_back (length (raw_of pieces ++ (60 ∷ 47 ∷ end))) end pieces all (omega arith)) (rw (texted, k) (rw (end_tag_back name last behind n w) refl))))
  where
    joined : (m i n l r : List ℕ) → m ≡ i ++ codes "</" ++ n ++ l ++ codes ">" ++ behind → i ≡ r → m ≡ r ++ (60 ∷ 47 ∷ (n ++ (l ++ 62 ∷ behind)))
    joined m i n l r e f = rw (e, f) (simp append_assoc)

-- ---- elements in an element

-- one element is read again, and added
pub record ReadOne {S A : Type 0} (item : S → List ℕ → List ℕ → List ℕ → ValueRead S) (add : S → A → S) (before : S) (value : A) (one rest : List ℕ) : Type 0 where
  pub name : List ℕ
  pub left : List ℕ
  pub text_is : one ++ rest ≡ 60 ∷ (name ++ left)
  pub is_name : IsMarkupName name
  pub ends : NoName left
  pub read : item before name (60 ∷ (name ++ left)) left ≡ Ok (add before value, rest)

abbrev pub ReadsBack : {S A : Type 0} → (S → List ℕ → List ℕ → List ℕ → ValueRead S) → (List ℕ → A → Type 0) → (S → A → S) → (S → Type 0) → Type 0
ReadsBack {S} {A} item IsOne add Fits = (s : S) (x : A) (one rest : List ℕ) → IsOne one x → Fits (add s x) → ReadOne item add s x one rest

fits_first : {S A : Type 0} (add : S → A → S) (Fits : S → Type 0) → ((s : S) (x : A) → Fits (add s x) → Fits s) → (xs : List A) (s : S) → Fits (fold add s xs) → Fits s
fits_first {S} {A} add Fits down [] s h = h
fits_first {S} {A} add Fits down (x ∷ xs) s h = down s x (fits_first add Fits down xs (add s x) h)

pub tag_stops : (name left : List ℕ) → IsMarkupName name → Stops (60 ∷ (name ++ left))
tag_stops name left n = record { no_white = refl; no_comment = name_other 33 name left refl n }

pub between_stops : (front rest : List ℕ) → IsBetween front → Stops rest → between (front ++ rest) ≡ Ok rest
between_stops front rest (pieces, e, all) s = rw e (between_back unexpected rest (Ok rest) (stops_back unexpected rest s) pieces (length (concat pieces ++ rest)) all (omega (arith, length-append (concat pieces) rest)))

one_long : {S A : Type 0} (item : S → List ℕ → List ℕ → List ℕ → ValueRead S) (add : S → A → S) (s : S) (x : A) (one : List ℕ) → ReadOne item add s x one [] → 1 ≤ length one
one_long item add s x one r = omega (arith, ap length r.text_is, length-append one [])

pub children_back : {S A : Type 0} (item : S → List ℕ → List ℕ → List ℕ → ValueRead S) (IsOne : List ℕ → A → Type 0) (add : S → A → S) (Fits : S → Type 0) (name : List ℕ) → ReadsBack item IsOne add Fits →
    ((s : S) (x : A) → Fits (add s x) → Fits s) → IsMarkupName name → (last behind : List ℕ) → IsWhite last → (xs : List A) (fuel : ℕ) (s : S) (inside : List ℕ) → AreElements IsOne inside xs → Fits (fold add s xs) →
    length (inside ++ (60 ∷ 47 ∷ (name ++ (last ++ 62 ∷ behind)))) ≤ fuel → children item name fuel s (inside ++ (60 ∷ 47 ∷ (name ++ (last ++ 62 ∷ behind)))) ≡ Ok (fold add s xs, behind)
children_back {S} {A} item IsOne add Fits name reads down n last behind w xs zero s inside are fits l = absurd (omega (arith, length-append inside (60 ∷ 47 ∷ (name ++ (last ++ 62 ∷ behind)))))
children_back {S} {A} item IsOne add Fits name reads down n last behind w [] (suc fuel) s inside are fits l =
    let end : List ℕ = name ++ (last ++ 62 ∷ behind) in
    rw (between_stops inside (60 ∷ 47 ∷ end) are (record { no_white = refl; no_comment = refl })) (rw (end_tag_back name last behind n w) refl)
children_back {S} {A} item IsOne add Fits name reads down n last behind w (x ∷ xs) (suc fuel) s inside (before, one, rest, e, b, is, are) fits l =
    let end : List ℕ = 60 ∷ 47 ∷ (name ++ (last ++ 62 ∷ behind)) in
    let r = reads s x one (rest ++ end) is (fits_first add Fits down xs (add s x) fits) in
    let long = one_long item add s x one (reads s x one [] is (fits_first add Fits down xs (add s x) fits)) in
    let whole : inside ++ end ≡ before ++ (60 ∷ (r.name ++ r.left)) = joined inside before one rest end (60 ∷ (r.name ++ r.left)) e r.text_is in
    rw whole (rw (between_stops before (60 ∷ (r.name ++ r.left)) b (tag_stops r.name r.left r.is_name)) (rw (name_other 47 r.name r.left refl r.is_name)
    (rw (name_back r.name r.left r.is_name r.ends) (rw r.read (children_back item IsOne add Fits name reads down n last behind w xs fuel (add s x) rest are fits (shorter inside before one rest end e long l))))))
  where
    joined : (i b o r t h : List ℕ) → i ≡ b ++ o ++ r → o ++ (r ++ t) ≡ h → i ++ t ≡ b ++ h
    joined i b o r t h e f = rw (e, ← f) (simp append_assoc)

    shorter : (i b o r t : List ℕ) → i ≡ b ++ o ++ r → 1 ≤ length o → length (i ++ t) ≤ suc fuel → length (r ++ t) ≤ fuel
    shorter i b o r t e h l = omega (arith, ap length e, length-append i t, length-append (b ++ o) r, length-append b o, length-append r t)

no_elements : {S A : Type 0} (item : S → List ℕ → List ℕ → List ℕ → ValueRead S) (IsOne : List ℕ → A → Type 0) (add : S → A → S) (Fits : S → Type 0) → ReadsBack item IsOne add Fits →
    ((s : S) (x : A) → Fits (add s x) → Fits s) → (s : S) (xs : List A) → AreElements IsOne [] xs → Fits (fold add s xs) → fold add s xs ≡ s
no_elements {S} {A} item IsOne add Fits reads down s [] are fits = refl
no_elements {S} {A} item IsOne add Fits reads down s (x ∷ xs) (before, one, rest, e, b, is, are) fits =
    let long = one_long item add s x one (reads s x one [] is (fits_first add Fits down xs (add s x) fits)) in
    absurd (omega (arith, ap length e, length-append (before ++ one) rest, length-append before one, long))

pub parent_back : {S A : Type 0} (item : S → List ℕ → List ℕ → List ℕ → ValueRead S) (IsOne : List ℕ → A → Type 0) (add : S → A → S) (Fits : S → Type 0) (name : List ℕ) → ReadsBack item IsOne add Fits →
    ((s : S) (x : A) → Fits (add s x) → Fits s) → IsMarkupName name → (tag : Tag) (s : S) (mid inside behind : List ℕ) (xs : List A) → Content name tag.closed mid inside behind → AreElements IsOne inside xs → Fits (fold add s xs) →
    parent item name tag s mid ≡ Ok (fold add s xs, behind)
parent_back {S} {A} item IsOne add Fits name reads down n tag s mid inside behind xs (none c i m) are fits =
    let same = no_elements item IsOne add Fits reads down s xs (rw i at are) fits in
    rw c (rw (m, same) refl)
parent_back {S} {A} item IsOne add Fits name reads down n tag s mid inside behind xs (some last c w m) are fits =
    let end : List ℕ = inside ++ (60 ∷ 47 ∷ (name ++ (last ++ 62 ∷ behind))) in
    let mid_is : mid ≡ end = joined mid inside name last m in
    rw c (rw mid_is (children_back item IsOne add Fits name reads down n last behind w xs (length end) s inside are fits (omega arith)))
  where
    joined : (m i n l : List ℕ) → m ≡ i ++ codes "</" ++ n ++ l ++ codes ">" ++ behind → m ≡ i ++ (60 ∷ 47 ∷ (n ++ (l ++ 62 ∷ behind)))
    joined m i n l e = rw e (simp append_assoc)
