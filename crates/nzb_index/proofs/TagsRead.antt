-- A text of the grammar is read: attributes, tags, and elements in an element.
use Rattle.std.proofs.Common.{◌≡◌, ◌≢◌, ℕ, zero, suc, ◌≤◌, Bool, true, false, eqb, ◌||◌, List, [], ◌∷◌, ◌++◌, length, None, Result, Ok, refl, sym, ap, ◌∙◌, append_assoc, arith, inl, inr, ◌⊎◌}
use Rattle.std.specs.Prelude.{codes, nat_eq}
use Rattle.std.specs.List.{starts_with, list_all, list_any}
use Rattle.std.proofs.lemmas.Bool.{ne_eqb, and_parts, and_left}
use Rattle.std.proofs.lemmas.List.{length-append, append-nil}
use Rattle.std.proofs.lemmas.Slice.Eq.{bytes_eq-Decides}
use Rattle.nzb_writer.specs.Markup.{Attribute, AttributeChecks, IsAttribute, AreAttributes, has_attribute, is_white, is_name_byte, IsWhite, IsMarkupName, IsValue, IsElement}
use Rattle.nzb_index.specs.MarkupReading.{Stop, Tag, behind_white, name_at, quoted_at, attribute_at, tag_rest, tag_at, end_tag}
use Rattle.nzb_index.proofs.TagsFound.{tag_end}
use Rattle.nzb_index.proofs.ElementsFound.{Content, none, some}
use Rattle.nzb_index.proofs.WordsRead.{then, white_more, white_none, behind_all_white, NoName, name_no_white, white_no_name, no_name_white, name_back}
use Rattle.nzb_index.proofs.TextsRead.{gave, value_back}

-- ---- attributes

pub record AttributeBack (checks : AttributeChecks) (earlier : List Attribute) (text : List ℕ) (a : Attribute) (rest : List ℕ) : Type 0 where
  pub here : List ℕ
  pub white : behind_white text ≡ here
  pub shorter : eqb (length here) (length text) ≡ false
  pub no_end : starts_with nat_eq here (codes ">") ≡ false
  pub no_slash : starts_with nat_eq here (codes "/") ≡ false
  pub read : attribute_at checks earlier here ≡ Ok (a, rest)
  pub ends : NoName text

pub quote_white : (q : ℕ) → (q ≡ 34) ⊎ (q ≡ 39) → is_white q ≡ false
quote_white q (inl e) = rw e refl
quote_white q (inr e) = rw e refl

pub quote_is : (q : ℕ) → (q ≡ 34) ⊎ (q ≡ 39) → (eqb q 34 || eqb q 39) ≡ true
quote_is q (inl e) = rw e refl
quote_is q (inr e) = rw e refl

pub name_white : (name t : List ℕ) → IsMarkupName name → behind_white (name ++ t) ≡ name ++ t
name_white [] t (nonempty, all) = absurd (nonempty refl)
name_white (x ∷ name) t (nonempty, all) = white_none x (name ++ t) (name_no_white x (and_parts (is_name_byte x) (list_all is_name_byte name) all).0)

pub name_other : (y : ℕ) (name t : List ℕ) → is_name_byte y ≡ false → IsMarkupName name → starts_with nat_eq (name ++ t) (y ∷ []) ≡ false
name_other y [] t n (nonempty, all) = absurd (nonempty refl)
name_other y (x ∷ name) t n (nonempty, all) = and_left (eqb y x) _ (ne_eqb y x (λ e. other e (and_parts (is_name_byte x) (list_all is_name_byte name) all).0))
  where
    other : y ≡ x → is_name_byte x ≡ true → ⊥
    other e h = let t : is_name_byte y ≡ true = rw e h in absurd cc

pub white_ends : (w t : List ℕ) → IsWhite w → w ≢ [] → NoName (w ++ t)
white_ends [] t h s = absurd (s refl)
white_ends (x ∷ w) t h s = record { byte = x; more = w ++ t; text_is = refl; is_none = white_no_name x (and_parts (is_white x) (list_all is_white w) h).0 }

pub quoted_back : (quote : ℕ) → (quote ≡ 34) ⊎ (quote ≡ 39) → (value bytes rest : List ℕ) → list_any (λ b. eqb b quote || eqb b 60) value ≡ false → IsValue value bytes → quoted_at (quote ∷ (value ++ quote ∷ rest)) ≡ gave bytes rest
quoted_back quote k value bytes rest i (pieces, all, e, f) = rw (quote_is quote k) (value_back quote k (length (value ++ quote ∷ rest)) value rest pieces all e i (omega arith) ∙ ap (λ (b : List ℕ). gave b rest) (sym f))

pub attribute_back : (checks : AttributeChecks) (earlier : List Attribute) (first rest : List ℕ) (a : Attribute) → IsAttribute first a → has_attribute a.name earlier ≡ false → checks a.name a.value ≡ true → AttributeBack checks earlier (first ++ rest) a rest
attribute_back checks earlier first rest a is new fits =
    let value : List ℕ = is.behind_equals ++ is.quote ∷ (is.value ++ is.quote ∷ rest) in
    let tail : List ℕ = is.behind_name ++ 61 ∷ value in
    let whole : first ++ rest ≡ is.before ++ (a.name ++ tail) = joined first is.before a.name is.behind_name is.behind_equals is.value is.quote is.text_is in
    record {
      here = a.name ++ tail;
      white = rw whole (white_more is.before (a.name ++ tail) is.white.0 ∙ name_white a.name tail is.is_name);
      shorter = ne_eqb (length (a.name ++ tail)) (length (first ++ rest)) (λ e. absurd (longer is.before (a.name ++ tail) is.apart (e ∙ ap length whole)));
      no_end = name_other 62 a.name tail refl is.is_name;
      no_slash = name_other 47 a.name tail refl is.is_name;
      read = then (name_at (a.name ++ tail)) _ (a.name, tail) _ (name_back a.name tail is.is_name (no_name_white is.behind_name (61 ∷ value) is.white.1 (record { byte = 61; more = value; text_is = refl; is_none = refl })))
          (rw (new, behind_all_white is.behind_name 61 value is.white.1 refl)
          (rw (behind_all_white is.behind_equals is.quote (is.value ++ is.quote ∷ rest) is.white.2 (quote_white is.quote is.is_quote))
          (rw (quoted_back is.quote is.is_quote is.value a.value rest is.within_quotes is.is_value) (rw fits refl))));
      ends = rw whole (white_ends is.before (a.name ++ tail) is.white.0 is.apart);
    }
  where
    joined : (f b n m w v : List ℕ) (q : ℕ) → f ≡ b ++ n ++ m ++ codes "=" ++ w ++ q ∷ v ++ q ∷ [] → f ++ rest ≡ b ++ (n ++ (m ++ 61 ∷ (w ++ q ∷ (v ++ q ∷ rest))))
    joined f b n m w v q e = rw e (simp append_assoc)

    longer : (b h : List ℕ) → b ≢ [] → length h ≡ length (b ++ h) → ⊥
    longer [] h s e = s refl
    longer (x ∷ b) h s e = absurd (omega (arith, length-append b h, e))

pub attribute_long : (first : List ℕ) (a : Attribute) → IsAttribute first a → 1 ≤ length first
attribute_long first a is = go first is.before _ is.apart (simp append_assoc at is.text_is)
  where
    go : (f b t : List ℕ) → b ≢ [] → f ≡ b ++ t → 1 ≤ length f
    go f [] t s e = absurd (s refl)
    go f (x ∷ b) t s e = omega (arith, ap length e)

-- ---- tags

tag_white : (w : List ℕ) (c : Bool) (behind : List ℕ) → IsWhite w → behind_white (w ++ (tag_end c ++ behind)) ≡ tag_end c ++ behind
tag_white w true behind h = behind_all_white w 47 (62 ∷ behind) h refl
tag_white w false behind h = behind_all_white w 62 behind h refl

pub tag_back : (checks : AttributeChecks) (attributes earlier : List Attribute) (text white : List ℕ) (closed : Bool) (behind : List ℕ) (fuel : ℕ) → AreAttributes checks earlier text attributes → IsWhite white →
    length (text ++ (white ++ (tag_end closed ++ behind))) ≤ fuel → tag_rest checks fuel earlier (text ++ (white ++ (tag_end closed ++ behind))) ≡ Ok (record { attributes = earlier ++ attributes; closed = closed }, behind)
tag_back checks attributes earlier text white closed behind zero are w l = absurd (omega (arith, length-append text (white ++ (tag_end closed ++ behind)), length-append white (tag_end closed ++ behind), end_long closed))
  where
    end_long : (c : Bool) → 1 ≤ length (tag_end c ++ behind)
    end_long true = omega arith
    end_long false = omega arith
tag_back checks [] earlier text white true behind (suc fuel) are w l = rw are (rw (behind_all_white white 47 (62 ∷ behind) w refl, append-nil earlier) refl)
tag_back checks [] earlier text white false behind (suc fuel) are w l = rw are (rw (behind_all_white white 62 behind w refl, append-nil earlier) refl)
tag_back checks (a ∷ more) earlier text white closed behind (suc fuel) (first, rest, e, is, new, fits, are) w l =
    let end : List ℕ = white ++ (tag_end closed ++ behind) in
    let one = attribute_back checks earlier first (rest ++ end) a is new fits in
    rw (e, append_assoc first rest end) (rw (one.white, one.no_end, one.no_slash, one.shorter) (rw one.read
    (tag_back checks more (earlier ++ a ∷ []) rest white closed behind fuel are w (omega (arith, attribute_long first a is, l, ap length e, length-append first rest, length-append text end, length-append rest end)) ∙ ap (λ (t : List Attribute). made t) (append_assoc earlier (a ∷ []) more))))
  where
    made : List Attribute → Result (Tag × List ℕ) Stop
    made t = Ok (record { attributes = t; closed = closed }, behind)

pub end_tag_back : (name last behind : List ℕ) → IsMarkupName name → IsWhite last → end_tag name None (60 ∷ 47 ∷ (name ++ (last ++ 62 ∷ behind))) ≡ Ok behind
end_tag_back name last behind n w =
    then (name_at (name ++ (last ++ 62 ∷ behind))) _ (name, last ++ 62 ∷ behind) _ (name_back name (last ++ 62 ∷ behind) n (no_name_white last (62 ∷ behind) w (record { byte = 62; more = behind; text_is = refl; is_none = refl })))
    (rw ((bytes_eq-Decides name name).1 refl, behind_all_white last 62 behind w refl) refl)

-- an element of the grammar, as its tag is read
pub record Opened (checks : AttributeChecks) (name text : List ℕ) (attributes : List Attribute) (inside rest : List ℕ) : Type 0 where
  pub left : List ℕ
  pub mid : List ℕ
  pub closed : Bool
  pub text_is : text ++ rest ≡ 60 ∷ (name ++ left)
  pub ends : NoName left
  pub tag : tag_at checks left ≡ Ok (record { attributes = attributes; closed = closed }, mid)
  pub content : Content name closed mid inside rest

pub tag_ends : (checks : AttributeChecks) (earlier attributes : List Attribute) (text white : List ℕ) (closed : Bool) (behind : List ℕ) → AreAttributes checks earlier text attributes → IsWhite white → NoName (text ++ (white ++ (tag_end closed ++ behind)))
tag_ends checks earlier [] text white true behind are w = rw are (no_name_white white (47 ∷ 62 ∷ behind) w (record { byte = 47; more = 62 ∷ behind; text_is = refl; is_none = refl }))
tag_ends checks earlier [] text white false behind are w = rw are (no_name_white white (62 ∷ behind) w (record { byte = 62; more = behind; text_is = refl; is_none = refl }))
tag_ends checks earlier (a ∷ more) text white closed behind (first, rest, e, is, new, fits, are) w =
    let end : List ℕ = white ++ (tag_end closed ++ behind) in
    rw (e, append_assoc first rest end) (attribute_back checks earlier first (rest ++ end) a is new fits).ends

pub open_back : (checks : AttributeChecks) (name text : List ℕ) (attributes : List Attribute) (inside rest : List ℕ) → IsElement checks name text attributes inside → Opened checks name text attributes inside rest
open_back checks name text attributes inside rest is = go is.text_is
  where
    go : ((text ≡ codes "<" ++ name ++ is.attribute_text ++ is.white ++ codes "/>") × (inside ≡ [])) ⊎ ((last : List ℕ) × IsWhite last × (text ≡ codes "<" ++ name ++ is.attribute_text ++ is.white ++ codes ">" ++ inside ++ codes "</" ++ name ++ last ++ codes ">")) →
        Opened checks name text attributes inside rest
    go (inl (e, i)) = record {
      left = is.attribute_text ++ (is.white ++ (tag_end true ++ rest));
      mid = rest;
      closed = true;
      text_is = joined text name is.attribute_text is.white e;
      ends = tag_ends checks [] attributes is.attribute_text is.white true rest is.are_attributes is.is_white;
      tag = tag_back checks attributes [] is.attribute_text is.white true rest (length (is.attribute_text ++ (is.white ++ (tag_end true ++ rest)))) is.are_attributes is.is_white (omega arith);
      content = none refl i refl;
    }
      where
        joined : (t n a w : List ℕ) → t ≡ codes "<" ++ n ++ a ++ w ++ codes "/>" → t ++ rest ≡ 60 ∷ (n ++ (a ++ (w ++ 47 ∷ 62 ∷ rest)))
        joined t n a w e = rw e (simp append_assoc)
    go (inr (last, w, e)) =
        let mid : List ℕ = inside ++ codes "</" ++ name ++ last ++ codes ">" ++ rest in
        record {
          left = is.attribute_text ++ (is.white ++ (tag_end false ++ mid));
          mid = mid;
          closed = false;
          text_is = joined text name is.attribute_text is.white inside last e;
          ends = tag_ends checks [] attributes is.attribute_text is.white false mid is.are_attributes is.is_white;
          tag = tag_back checks attributes [] is.attribute_text is.white false mid (length (is.attribute_text ++ (is.white ++ (tag_end false ++ mid)))) is.are_attributes is.is_white (omega arith);
          content = some last refl w refl;
        }
      where
        joined : (t n a w i l : List ℕ) → t ≡ codes "<" ++ n ++ a ++ w ++ codes ">" ++ i ++ codes "</" ++ n ++ l ++ codes ">" → t ++ rest ≡ 60 ∷ (n ++ (a ++ (w ++ 62 ∷ (i ++ codes "</" ++ n ++ l ++ codes ">" ++ rest))))
        joined t n a w i l e = rw e (simp append_assoc)
