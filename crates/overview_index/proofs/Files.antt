-- The table of files, while articles are added.
use Rattle.std.proofs.Common.{◌≡◌, ℕ, suc, Bool, true, false, cond, ◌||◌, List, [], ◌∷◌, ◌++◌, length, Some, Vec, is_some, refl, sym, ap, subst, ◌∙◌}
use Rattle.std.specs.List.{AllByRecursion, AllZip, IsDistinct, list_any}
use Rattle.std.specs.Map.{lookup, set_value}
use Rattle.std.proofs.lemmas.Bool.{or_parts}
use Rattle.std.proofs.lemmas.Map.Keys.{IsDistinct-head, IsDistinct-tail}
use Rattle.overview_lines.specs.OverLine.{is_plain}
use Rattle.overview_index.specs.Draft.{IsDraftOf}
use Rattle.overview_index.specs.Group.{Counted, Key, key_of, same_key}
use Rattle.overview_index.specs.Grouper.{IsEntryOf, is_spelled, spelled}
use Rattle.overview_index.specs.declared.draft.Draft.{Draft}
use Rattle.overview_index.proofs.Drafts.{draft_kept}
use Rattle.overview_index.proofs.Keys.{bytes_eq-spelled, same_key-Decides, same_key-sym}

pub AllZip-push : {A B : Type 0} (R : A → B → Type 0) (xs : List A) (ys : List B) (x : A) (y : B) → AllZip R xs ys → R x y → AllZip R (xs ++ x ∷ []) (ys ++ y ∷ [])
AllZip-push R [] [] x y h r = (r, tt)
AllZip-push R [] (z ∷ ys) x y h r = absurd h
AllZip-push R (w ∷ xs) [] x y h r = absurd h
AllZip-push R (w ∷ xs) (z ∷ ys) x y h r = (h.0, AllZip-push R xs ys x y h.1 r)

pub length_zip : {A B : Type 0} (R : A → B → Type 0) (xs : List A) (ys : List B) → AllZip R xs ys → length xs ≡ length ys
length_zip R [] [] h = refl
length_zip R [] (z ∷ ys) h = absurd h
length_zip R (w ∷ xs) [] h = absurd h
length_zip R (w ∷ xs) (z ∷ ys) h = ap suc (length_zip R xs ys h.1)

all_apart : (k : Key) (ks : List Key) → AllByRecursion (λ y. same_key k y ≡ false) ks → list_any (λ y. same_key y k) ks ≡ false
all_apart k [] h = refl
all_apart k (y ∷ ks) h = ap (λ b. b || list_any (λ z. same_key z k) ks) (same_key-sym y k ∙ h.0) ∙ all_apart k ks h.1

module _ {Z : Type 0} (k : Key) (plain : is_plain k.0 ≡ true) where
  found_as : (articles : List Counted) (x : Key) (e : Vec ℕ Z × Draft) → IsEntryOf articles x e → is_spelled (spelled k) e.0 ≡ same_key x k
  found_as articles x e is = bytes_eq-spelled k x e.0.items plain is.plain is.text

  -- the table has the text of a key where the key is there
  pub lookup-any : (articles : List Counted) (ks : List Key) (es : List (Vec ℕ Z × Draft)) → AllZip (IsEntryOf articles) ks es → is_some (lookup (is_spelled (spelled k)) es) ≡ list_any (λ x. same_key x k) ks
  lookup-any articles [] [] h = refl
  lookup-any articles [] (e ∷ es) h = absurd h
  lookup-any articles (x ∷ ks) [] h = absurd h
  lookup-any articles (x ∷ ks) (e ∷ es) h =
      ap (λ b. is_some (cond b (Some e.1) (lookup (is_spelled (spelled k)) es))) (found_as articles x e h.0)
      ∙ by (same_key x k) (lookup-any articles ks es h.1)
    where
      by : (b : Bool) → is_some (lookup (is_spelled (spelled k)) es) ≡ list_any (λ y. same_key y k) ks
          → is_some (cond b (Some e.1) (lookup (is_spelled (spelled k)) es)) ≡ (b || list_any (λ y. same_key y k) ks)
      by true rest = refl
      by false rest = rest

  -- and what it has there is the file of that key
  pub lookup-draft : (articles : List Counted) (ks : List Key) (es : List (Vec ℕ Z × Draft)) (draft : Draft) → AllZip (IsEntryOf articles) ks es → lookup (is_spelled (spelled k)) es ≡ Some draft → IsDraftOf articles k draft
  lookup-draft articles [] [] draft h is = cc
  lookup-draft articles [] (e ∷ es) draft h is = absurd h
  lookup-draft articles (x ∷ ks) [] draft h is = absurd h
  lookup-draft articles (x ∷ ks) (e ∷ es) draft h is = by (is_spelled (spelled k) e.0) refl (lookup-draft articles ks es draft h.1) is
    where
      by : (b : Bool) → is_spelled (spelled k) e.0 ≡ b → (lookup (is_spelled (spelled k)) es ≡ Some draft → IsDraftOf articles k draft)
          → cond b (Some e.1) (lookup (is_spelled (spelled k)) es) ≡ Some draft → IsDraftOf articles k draft
      by true here rest there =
          let same : x ≡ k = (same_key-Decides x k).0 (sym (found_as articles x e h.0) ∙ here) in
          let this : e.1 ≡ draft = cc in
          subst (IsDraftOf articles k) this (subst (λ key. IsDraftOf articles key e.1) same h.0.draft)
      by false here rest there = rest there

  module _ (old new : List Counted) (keeps : (x : Key) (e : Vec ℕ Z × Draft) → same_key x k ≡ false → IsEntryOf old x e → IsEntryOf new x e) where
    pub files_kept : (ks : List Key) (es : List (Vec ℕ Z × Draft)) → list_any (λ x. same_key x k) ks ≡ false → AllZip (IsEntryOf old) ks es → AllZip (IsEntryOf new) ks es
    files_kept [] [] apart h = tt
    files_kept [] (e ∷ es) apart h = absurd h
    files_kept (x ∷ ks) [] apart h = absurd h
    files_kept (x ∷ ks) (e ∷ es) apart h =
        let parts = or_parts (same_key x k) (list_any (λ y. same_key y k) ks) apart in
        (keeps x e parts.0 h.0, files_kept ks es parts.1 h.1)

    -- the file of the key is another
    pub files_set : (draft : Draft) → IsDraftOf new k draft → (ks : List Key) (es : List (Vec ℕ Z × Draft)) → IsDistinct same_key ks → AllZip (IsEntryOf old) ks es
        → AllZip (IsEntryOf new) ks (set_value (is_spelled (spelled k)) es draft)
    files_set draft is [] [] apart h = tt
    files_set draft is [] (e ∷ es) apart h = absurd h
    files_set draft is (x ∷ ks) [] apart h = absurd h
    files_set draft is (x ∷ ks) (e ∷ es) apart h =
        by (is_spelled (spelled k) e.0) refl (files_set draft is ks es (IsDistinct-tail same_key x ks apart) h.1)
      where
        by : (b : Bool) → is_spelled (spelled k) e.0 ≡ b → AllZip (IsEntryOf new) ks (set_value (is_spelled (spelled k)) es draft)
            → AllZip (IsEntryOf new) (x ∷ ks) (cond b ((e.0, draft) ∷ es) (e ∷ set_value (is_spelled (spelled k)) es draft))
        by true here rest =
            let same : x ≡ k = (same_key-Decides x k).0 (sym (found_as old x e h.0) ∙ here) in
            let others = all_apart k ks (subst (λ key. AllByRecursion (λ y. same_key key y ≡ false) ks) same (IsDistinct-head same_key x ks apart)) in (
              record { plain = h.0.plain; text = h.0.text; draft = subst (λ key. IsDraftOf new key draft) (sym same) is },
              files_kept ks es others h.1,
            )
        by false here rest = (keeps x e (sym (found_as old x e h.0) ∙ here) h.0, rest)

-- an article of another file
pub entry_kept : {Z : Type 0} (a : Counted) (articles : List Counted) (x : Key) (e : Vec ℕ Z × Draft) → same_key x (key_of a) ≡ false → IsEntryOf articles x e → IsEntryOf (articles ++ a ∷ []) x e
entry_kept a articles x e apart is = record { plain = is.plain; text = is.text; draft = draft_kept x a articles e.1 apart is.draft }
