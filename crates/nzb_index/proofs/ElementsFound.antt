-- Texts and elements that are read are those of the grammar.
use Rattle.std.proofs.Common.{◌≡◌, ℕ, suc, zero, Bool, true, false, not, cond, eqb, List, [], ◌∷◌, ◌++◌, length, Option, Some, None, Ok, refl, sym, ap, subst, ◌∙◌, append_assoc, inl, inr, ◌⊎◌}
use Rattle.std.specs.Prelude.{codes, nat_eq, fold, bytes_eq}
use Rattle.std.specs.List.{starts_with}
use Rattle.std.proofs.lemmas.Bool.{eqb-true, eqb-false, not-true, not-false}
use Rattle.std.proofs.lemmas.Slice.Eq.{bytes_eq-Decides}
use Rattle.nzb_writer.specs.Markup.{Attribute, AttributeChecks, AreAttributes, is_control, IsWhite, IsMarkupComment, IsPlainText, IsReference, IsElementText, Denotes, trimmed, IsElement, AreElements, IsBetween}
use Rattle.nzb_index.specs.MarkupReading.{Stop, ValueRead, Tag, word, name_at, up_to, reference_at, text_at, end_tag, or_stop, leaf, between, children, parent, behind_white}
use Rattle.nzb_index.proofs.TextsFound.{Reference, reference_found}
use Rattle.nzb_index.proofs.Gives.{Gives, gives_ok, gives_err, gives_bind, gives_if, gives_as, gives_test, gives_unexpected, word_gives, between_gives, up_to_gives, white_taken, name_gives}
use Rattle.nzb_index.proofs.TagsFound.{Tagged, tag_end}

-- ---- texts

abbrev pub TextPiece : List ℕ → List ℕ → Type 0
TextPiece t p = IsPlainText t p ⊎ IsReference t p ⊎ (IsMarkupComment t × (p ≡ []))

pub record Texted (rest bytes behind : List ℕ) : Type 0 where
  pub text : List ℕ
  pub rest_is : rest ≡ text ++ behind
  pub stands : Denotes TextPiece text bytes

pub with_text : (piece p rest bytes behind : List ℕ) → TextPiece piece p → Texted rest bytes behind → Texted (piece ++ rest) (p ++ bytes) behind
with_text piece p rest bytes behind h t = record {
  text = piece ++ t.text;
  rest_is = ap (λ (x : List ℕ). piece ++ x) t.rest_is ∙ sym (append_assoc piece t.text behind);
  stands = ((piece, p) ∷ t.stands.0, (h, t.stands.1), ap (λ (x : List ℕ). piece ++ x) t.stands.2, ap (λ (x : List ℕ). p ++ x) t.stands.3);
}

pub reference_gives : (from rest : List ℕ) → Gives (reference_at from rest) (λ r. Reference rest r.0 r.1)
reference_gives from rest = record { given = λ r e. reference_found from rest r.0 r.1 e }

pub reference_text : (x : ℕ) (rest bytes left more behind : List ℕ) → x ≡ 38 → Reference rest bytes left → Texted left more behind → Texted (x ∷ rest) (bytes ++ more) behind
unfolding Reference
reference_text x rest bytes left more behind e (t, f, is, q) v = rw (e, f) (with_text (38 ∷ t) bytes left more behind (inr (inl is)) v)

pub comment_text : (x : ℕ) (rest inside front left more behind : List ℕ) → x ≡ 60 → rest ≡ codes "!--" ++ inside → inside ≡ front ++ left → IsMarkupComment (codes "<!--" ++ front) → Texted left more behind → Texted (x ∷ rest) more behind
comment_text x rest inside front left more behind e f g c v = rw (e, f, g) (with_text (codes "<!--" ++ front) [] left more behind (inr (inr (c, refl))) v)

pub text_gives : (fuel : ℕ) (rest : List ℕ) → Gives (text_at fuel rest) (λ t. Texted rest t.0 t.1)
text_gives zero rest = gives_err _
text_gives (suc fuel) [] = gives_err _
text_gives (suc fuel) (x ∷ rest) =
    gives_if (eqb x 38) _ _
    (λ a. gives_bind (reference_at (x ∷ rest) rest) _ (reference_gives (x ∷ rest) rest) (λ r reference.
    gives_bind (text_at fuel r.1) _ (text_gives fuel r.1) (λ t more. gives_ok _ (reference_text x rest r.0 r.1 t.0 t.1 (eqb-true x 38 a) reference more)))) (λ a.
    gives_if (not (eqb x 60)) _ _
    (λ l. gives_if (is_control x) _ _ (λ k. gives_unexpected (x ∷ rest)) (λ k. gives_bind (text_at fuel rest) _ (text_gives fuel rest) (λ t more. gives_ok _ (with_text (x ∷ []) (x ∷ []) rest t.0 t.1 (inl (x, eqb-false x 38 a, eqb-false x 60 (not-true (eqb x 60) l), k, refl, refl)) more)))) (λ l.
    gives_if (starts_with nat_eq rest (codes "/")) _ _
    (λ s. gives_ok _ (record { text = []; rest_is = refl; stands = ([], tt, refl, refl) })) (λ s.
    gives_if (starts_with nat_eq rest (codes "!")) _ _
    (λ c. gives_bind (word (codes "!--") rest) _ (word_gives (codes "!--") rest) (λ inside opened.
    gives_bind (up_to (codes "-->") inside) _ (up_to_gives 45 (codes "->") inside) (λ left front.
    gives_as _ (text_gives fuel left) (λ t more. comment_text x rest inside front.0 left t.0 t.1 (eqb-true x 60 (not-false (eqb x 60) l)) opened front.1 (front.0, refl, front.2) more))))
    (λ c. gives_bind (name_at rest) _ (name_gives rest) (λ n named. gives_err _)))))

-- ---- how an element ends

-- what stands between the tags of an element, behind its start tag
pub data Content (name : List ℕ) (closed : Bool) (rest inside behind : List ℕ) : Type 0 where
  none : closed ≡ true → inside ≡ [] → rest ≡ behind → Content name closed rest inside behind
  some : (last : List ℕ) → closed ≡ false → IsWhite last → rest ≡ inside ++ codes "</" ++ name ++ last ++ codes ">" ++ behind → Content name closed rest inside behind

pub record EndTag (name : List ℕ) (known : Option Stop) (rest behind : List ℕ) : Type 0 where
  pub last : List ℕ
  pub is_white : IsWhite last
  pub rest_is : rest ≡ codes "</" ++ name ++ last ++ codes ">" ++ behind
  pub unknown : known ≡ None

pub end_tag_gives : (name : List ℕ) (known : Option Stop) (rest : List ℕ) → Gives (end_tag name known rest) (EndTag name known rest)
end_tag_gives name known rest =
    gives_bind (word (codes "</") rest) _ (word_gives (codes "</") rest) (λ inside opened.
    gives_bind (name_at inside) _ (name_gives inside) (λ n named.
    gives_test (bytes_eq n.0 name) _ _ (λ same.
    gives_bind (or_stop known) _ (fine known) (λ ok unknown.
    let w = white_taken n.1 in
    gives_as _ (word_gives (codes ">") (behind_white n.1)) (λ behind closed. record {
      last = w.front;
      is_white = w.is_white;
      rest_is = joined rest inside n.0 name n.1 w.front (behind_white n.1) behind opened named.text_is ((bytes_eq-Decides n.0 name).0 same) w.text_is closed;
      unknown = unknown;
    })))))
  where
    fine : (o : Option Stop) → Gives (or_stop o) (λ b. o ≡ None)
    fine None = gives_ok _ refl
    fine (Some s) = gives_err _

    joined : (r i m n l w b d : List ℕ) → r ≡ codes "</" ++ i → i ≡ m ++ l → m ≡ n → l ≡ w ++ b → b ≡ codes ">" ++ d → r ≡ codes "</" ++ n ++ w ++ codes ">" ++ d
    joined r i m n l w b d e1 e2 e3 e4 e5 = rw (e1, e2, e3, e4, e5) (simp append_assoc)

pub record Leaf (name : List ℕ) (known : List ℕ → Option Stop) (closed : Bool) (rest text behind : List ℕ) : Type 0 where
  pub inside : List ℕ
  pub content : Content name closed rest inside behind
  pub is_text : IsElementText inside text
  pub unknown : known text ≡ None

pub leaf_gives : (name : List ℕ) (known : List ℕ → Option Stop) (tag : Tag) (rest : List ℕ) → Gives (leaf name known tag rest) (λ t. Leaf name known tag.closed rest t.0 t.1)
leaf_gives name known tag rest = gives_if tag.closed _ _
    (λ e. gives_bind (or_stop (known [])) _ (fine (known [])) (λ ok unknown. gives_ok _ (record { inside = []; content = none e refl refl; is_text = ([], ([], tt, refl, refl), refl); unknown = unknown })))
    (λ e. gives_bind (text_at (length rest) rest) _ (text_gives (length rest) rest) (λ t texted.
    gives_bind (end_tag name (known (trimmed t.0)) t.1) _ (end_tag_gives name (known (trimmed t.0)) t.1) (λ behind end. gives_ok _
    (record { inside = texted.text; content = some end.last e end.is_white (joined rest texted.text t.1 name end.last behind texted.rest_is end.rest_is); is_text = (t.0, texted.stands, refl); unknown = end.unknown }))))
  where
    fine : (o : Option Stop) → Gives (or_stop o) (λ b. o ≡ None)
    fine None = gives_ok _ refl
    fine (Some s) = gives_err _

    joined : (r t m n l d : List ℕ) → r ≡ t ++ m → m ≡ codes "</" ++ n ++ l ++ codes ">" ++ d → r ≡ t ++ codes "</" ++ n ++ l ++ codes ">" ++ d
    joined r t m n l d e f = rw (e, f) (simp append_assoc)

-- ---- elements

pub record Element (checks : AttributeChecks) (name from behind : List ℕ) (attributes : List Attribute) (inside : List ℕ) : Type 0 where
  pub one : List ℕ
  pub from_is : from ≡ one ++ behind
  pub is_element : IsElement checks name one attributes inside

pub element : (checks : AttributeChecks) (name from rest : List ℕ) (tag : Tag) (mid inside behind : List ℕ) → from ≡ codes "<" ++ name ++ rest → Tagged checks [] rest tag mid →
    Content name tag.closed mid inside behind → Element checks name from behind tag.attributes inside
element checks name from rest tag mid inside behind e t (none c i m) = record {
  one = codes "<" ++ name ++ t.text ++ t.white ++ codes "/>";
  from_is = joined tag.closed from name rest t.text t.white mid behind e t.rest_is c m;
  is_element = record { attribute_text = t.text; white = t.white; are_attributes = subst (AreAttributes checks [] t.text) (sym t.all_are) t.are_attributes; is_white = t.is_white; text_is = inl (refl, i) };
}
  where
    joined : (c : Bool) (f n r t w m b : List ℕ) → f ≡ codes "<" ++ n ++ r → r ≡ t ++ w ++ tag_end c ++ m → c ≡ true → m ≡ b → f ≡ (codes "<" ++ n ++ t ++ w ++ codes "/>") ++ b
    joined c f n r t w m b e1 e2 e3 e4 = rw (e1, e2, e3, e4) (simp append_assoc)
element checks name from rest tag mid inside behind e t (some last c w m) = record {
  one = codes "<" ++ name ++ t.text ++ t.white ++ codes ">" ++ inside ++ codes "</" ++ name ++ last ++ codes ">";
  from_is = joined tag.closed from name rest t.text t.white mid inside last behind e t.rest_is c m;
  is_element = record { attribute_text = t.text; white = t.white; are_attributes = subst (AreAttributes checks [] t.text) (sym t.all_are) t.are_attributes; is_white = t.is_white; text_is = inr (last, w, refl) };
}
  where
    joined : (c : Bool) (f n r t w m i l b : List ℕ) → f ≡ codes "<" ++ n ++ r → r ≡ t ++ w ++ tag_end c ++ m → c ≡ false → m ≡ i ++ codes "</" ++ n ++ l ++ codes ">" ++ b →
        f ≡ (codes "<" ++ n ++ t ++ w ++ codes ">" ++ i ++ codes "</" ++ n ++ l ++ codes ">") ++ b
    joined c f n r t w m i l b e1 e2 e3 e4 = rw (e1, e2, e3, e4) (simp append_assoc)

-- ---- elements in an element

-- one element is read, and added to what was read before
pub record One {S A : Type 0} (IsOne : List ℕ → A → Type 0) (add : S → A → S) (Fits : S → Type 0) (before : S) (from : List ℕ) (after : S) (behind : List ℕ) : Type 0 where
  pub one : List ℕ
  pub value : A
  pub from_is : from ≡ one ++ behind
  pub is_one : IsOne one value
  pub after_is : after ≡ add before value
  pub fits : Fits after

-- an element with such elements is read, behind its start tag
pub record Many {S A : Type 0} (IsOne : List ℕ → A → Type 0) (add : S → A → S) (Fits : S → Type 0) (name : List ℕ) (closed : Bool) (before : S) (rest : List ℕ) (after : S) (behind : List ℕ) : Type 0 where
  pub inside : List ℕ
  pub values : List A
  pub content : Content name closed rest inside behind
  pub are_elements : AreElements IsOne inside values
  pub after_is : after ≡ fold add before values
  pub fits : Fits after

abbrev pub ReadsOne : {S A : Type 0} → (S → List ℕ → List ℕ → List ℕ → ValueRead S) → (List ℕ → A → Type 0) → (S → A → S) → (S → Type 0) → Type 0
ReadsOne {S} {A} item IsOne add Fits = (s : S) (name from rest : List ℕ) → from ≡ codes "<" ++ name ++ rest → Fits s → Gives (item s name from rest) (λ r. One IsOne add Fits s from r.0 r.1)

one_before : {S A : Type 0} (IsOne : List ℕ → A → Type 0) (add : S → A → S) (Fits : S → Type 0) (name : List ℕ) (before : S) (rest front here : List ℕ) (mid : S) (left : List ℕ) (after : S) (behind : List ℕ) →
    rest ≡ front ++ here → IsBetween front → One IsOne add Fits before here mid left → Many IsOne add Fits name false mid left after behind → Many IsOne add Fits name false before rest after behind
one_before {S} {A} IsOne add Fits name before rest front here mid left after behind e b one many = go many.content
  where
    joined : (r f h o l i n w d : List ℕ) → r ≡ f ++ h → h ≡ o ++ l → l ≡ i ++ codes "</" ++ n ++ w ++ codes ">" ++ d → r ≡ (f ++ o ++ i) ++ codes "</" ++ n ++ w ++ codes ">" ++ d
    joined r f h o l i n w d e1 e2 e3 = rw (e1, e2, e3) (simp append_assoc)

    go : Content name false left many.inside behind → Many IsOne add Fits name false before rest after behind
    go (none c i m) = absurd cc
    go (some last c w m) = record {
      inside = front ++ one.one ++ many.inside;
      values = one.value ∷ many.values;
      content = some last refl w (joined rest front here one.one left many.inside name last behind e one.from_is m);
      are_elements = (front, one.one, many.inside, refl, b, one.is_one, many.are_elements);
      after_is = many.after_is ∙ ap (λ (s : S). fold add s many.values) one.after_is;
      fits = many.fits;
    }

pub children_gives : {S A : Type 0} (item : S → List ℕ → List ℕ → List ℕ → ValueRead S) (IsOne : List ℕ → A → Type 0) (add : S → A → S) (Fits : S → Type 0) (name : List ℕ) → ReadsOne item IsOne add Fits →
    (fuel : ℕ) (s : S) (rest : List ℕ) → Fits s → Gives (children item name fuel s rest) (λ r. Many IsOne add Fits name false s rest r.0 r.1)
children_gives {S} {A} item IsOne add Fits name reads zero s rest fits = gives_err _
children_gives {S} {A} item IsOne add Fits name reads (suc fuel) s rest fits =
    gives_bind (between rest) _ (between_gives rest) (λ here front.
    gives_if (starts_with nat_eq here (codes "</")) _ _
    (λ e. gives_bind (end_tag name None here) _ (end_tag_gives name None here) (λ behind end. gives_ok _ (record {
      inside = front.0;
      values = [];
      content = some end.last refl end.is_white (joined rest front.0 here name end.last behind front.1 end.rest_is);
      are_elements = front.2;
      after_is = refl;
      fits = fits;
    })))
    (λ e. gives_bind (word (codes "<") here) _ (word_gives (codes "<") here) (λ inside opened.
    gives_bind (name_at inside) _ (name_gives inside) (λ n named.
    gives_bind (item s n.0 here n.1) _ (reads s n.0 here n.1 (opened ∙ ap (λ (t : List ℕ). codes "<" ++ t) named.text_is) fits) (λ r one.
    gives_as _ (children_gives item IsOne add Fits name reads fuel r.0 r.1 one.fits) (λ q many. one_before IsOne add Fits name s rest front.0 here r.0 r.1 q.0 q.1 front.1 front.2 one many))))))
  where
    joined : (r t m n l d : List ℕ) → r ≡ t ++ m → m ≡ codes "</" ++ n ++ l ++ codes ">" ++ d → r ≡ t ++ codes "</" ++ n ++ l ++ codes ">" ++ d
    joined r t m n l d e f = rw (e, f) (simp append_assoc)

pub parent_gives : {S A : Type 0} (item : S → List ℕ → List ℕ → List ℕ → ValueRead S) (IsOne : List ℕ → A → Type 0) (add : S → A → S) (Fits : S → Type 0) (name : List ℕ) → ReadsOne item IsOne add Fits →
    (tag : Tag) (s : S) (rest : List ℕ) → Fits s → Gives (parent item name tag s rest) (λ r. Many IsOne add Fits name tag.closed s rest r.0 r.1)
parent_gives {S} {A} item IsOne add Fits name reads tag s rest fits = go tag.closed
  where
    go : (c : Bool) → Gives (cond c (Ok (s, rest)) (children item name (length rest) s rest)) (λ r. Many IsOne add Fits name c s rest r.0 r.1)
    go true = gives_ok _ (record { inside = []; values = []; content = none refl refl refl; are_elements = ([], refl, tt); after_is = refl; fits = fits })
    go false = children_gives item IsOne add Fits name reads (length rest) s rest fits
