-- Start tags over a slice.
use Rattle.std.proofs.Common.{◌≡◌, ◌≢◌, ℕ, zero, suc, ◌+◌, ◌-◌, ◌<◌, ◌≤◌, Bool, true, false, cond, not, eqb, ◌||◌, List, [], ◌∷◌, ◌++◌, length, get_or, take, drop, Option, Some, None, Result, Ok, Err, refl, sym, ap, ◌∙◌, arith, inl, inr, ◌⊎◌}
use Rattle.std.specs.Prelude.{codes, nat_eq, bytes_eq, is_some, slice_get}
use Rattle.std.specs.Option.{option_map}
use Rattle.std.specs.List.{starts_with}
use Rattle.std.specs.Borrow.{Bor}
use Rattle.std.specs.BTreeSet.{BTreeSet, Updates}
use Rattle.std.specs.Cmp.Lexicographic.{slice_cmp}
use Rattle.std.specs.Ordering.{nat_cmp}
use Rattle.std.proofs.lemmas.Map.Text.{is_eq-slice_cmp}
use Rattle.std.proofs.lemmas.Bool.{cases_Bool, eqb-true, eqb-false, eq-eqb, ne_eqb, or_from, not-true}
use Rattle.std.proofs.lemmas.List.{length-append, length-drop, drop-drop}
use Rattle.nzb_index.specs.declared.error.NzbError.{NzbError}
use Rattle.nzb_index.specs.declared.error.NzbError.TheVariants.{Refused}
use Rattle.nzb_index.specs.declared.error.NzbReason.{NzbReason}
use Rattle.nzb_index.specs.declared.error.NzbReason.TheVariants.{DoubleAttribute, BadNumber}
use Rattle.nzb_writer.specs.Markup.{Attribute, AttributeChecks, attribute, has_attribute, or_nothing}
use Rattle.nzb_index.specs.MarkupReading.{Stop, stop_at, unexpected, word, behind_white, name_at, quoted_at, value_at, attribute_at, tag_rest, tag_at, ◌>>=◌}
use Rattle.nzb_index.specs.Readers.{Fails, ReadsName, ReadsValue, unexpected_at}
use Rattle.nzb_index.specs.declared.tags.TheConstants.{FEW_NAMES}
use Rattle.nzb_index.specs.Tags.{HasLater, attributes_of, place_of, ReadsAttribute, ReadsTag}
use Rattle.nzb_index.proofs.Words.{starts_front, word_found}
use Rattle.nzb_index.proofs.Places.{here, over, unexpected_fails}
use Rattle.nzb_index.proofs.Betweens.{fails_as, fails_then}

-- ---- names

-- the names before a place are others
pub place_on : (name : List ℕ) (names : List (List ℕ)) (i : ℕ) → Type 0
place_on name names i = place_of name names ≡ option_map (λ k. i + k) (place_of name (drop i names))

pub place_starts : (name : List ℕ) (names : List (List ℕ)) → place_on name names 0
unfolding place_on
place_starts name names = go (place_of name names)
  where
    go : (o : Option ℕ) → o ≡ option_map (λ k. 0 + k) o
    go None = refl
    go (Some k) = let e : 0 + k ≡ k = omega arith in rw e refl

line_here : (names : List (List ℕ)) (i : ℕ) (line : List ℕ) → slice_get names i ≡ Some line → drop i names ≡ line ∷ drop (i + 1) names
line_here [] i line e = absurd (nothing i e)
  where
    nothing : (k : ℕ) → slice_get [] k ≡ Some line → ⊥
    nothing zero f = cc
    nothing (suc k) f = cc
line_here (n ∷ names) zero line e = let same : n ≡ line = cc in ap (λ (x : List ℕ). x ∷ names) same
line_here (n ∷ names) (suc i) line e = let k : suc i + 1 ≡ suc (i + 1) = omega arith in rw k (line_here names i line e)

pub place_here : (name line : List ℕ) (names : List (List ℕ)) (i : ℕ) → place_on name names i → slice_get names i ≡ Some line → bytes_eq line name ≡ true → place_of name names ≡ Some i
unfolding place_on
place_here name line names i h e t = h ∙ ap (λ (l : List (List ℕ)). option_map (λ k. i + k) (place_of name l)) (line_here names i line e) ∙ rw t (let z : i + 0 ≡ i = omega arith in ap (λ (k : ℕ). Some k) z)

pub place_further : (name line : List ℕ) (names : List (List ℕ)) (i : ℕ) → place_on name names i → slice_get names i ≡ Some line → bytes_eq line name ≡ false → place_on name names (i + 1)
unfolding place_on
place_further name line names i h e f = h ∙ ap (λ (l : List (List ℕ)). option_map (λ k. i + k) (place_of name l)) (line_here names i line e) ∙ rw f (go (place_of name (drop (i + 1) names)))
  where
    go : (o : Option ℕ) → option_map (λ k. i + k) (option_map suc o) ≡ option_map (λ k. (i + 1) + k) o
    go None = refl
    go (Some k) = let s : i + suc k ≡ (i + 1) + k = omega arith in rw s refl

none_left : (names : List (List ℕ)) (k : ℕ) → length names ≤ k → drop k names ≡ []
none_left [] zero l = refl
none_left [] (suc k) l = refl
none_left (x ∷ names) zero l = absurd (omega (arith, l))
none_left (x ∷ names) (suc k) l = none_left names k (omega (arith, l))

pub place_nowhere : (name : List ℕ) (names : List (List ℕ)) (i : ℕ) → place_on name names i → length names ≤ i → place_of name names ≡ None
unfolding place_on
place_nowhere name names i h l = h ∙ ap (λ (t : List (List ℕ)). option_map (λ k. i + k) (place_of name t)) (none_left names i l)

still_some : (f : ℕ → ℕ) (o : Option ℕ) → is_some (option_map f o) ≡ is_some o
still_some f None = refl
still_some f (Some k) = refl

-- a name that is none of the first few
pub place_later : (name : List ℕ) (names : List (List ℕ)) (few i : ℕ) → place_on name names i → i ≤ few → (i < few → length names ≤ i) → is_some (place_of name names) ≡ is_some (place_of name (drop few names))
unfolding place_on
place_later name names few i h l over = elim (cases_Bool (eqb i few)) [
  | inl t ↦ rw (← eqb-true i few t) (ap (λ (o : Option ℕ). is_some o) h ∙ still_some (λ k. i + k) (place_of name (drop i names)))
  | inr f ↦
      let less : i < few = (let apart = eqb-false i few f in omega (arith, apart, l)) in
      let all = over less in
      ap (λ (o : Option ℕ). is_some o) (place_nowhere name names i h all) ∙ rw (none_left names few (omega (arith, all, l))) refl
]

-- one name more, where the first few are there
one_more : (q name : List ℕ) (names : List (List ℕ)) → is_some (place_of q (names ++ name ∷ [])) ≡ cond (bytes_eq name q) true (is_some (place_of q names))
one_more q name [] = elim (cases_Bool (bytes_eq name q)) [ inl t ↦ rw t refl | inr f ↦ rw f refl ]
one_more q name (n ∷ names) = elim (cases_Bool (bytes_eq n q)) [
  | inl t ↦ rw t (both (bytes_eq name q))
  | inr f ↦ rw f (still_some (λ k. suc k) (place_of q (names ++ name ∷ [])) ∙ one_more q name names ∙ ap (λ (b : Bool). cond (bytes_eq name q) true b) (sym (still_some (λ k. suc k) (place_of q names))))
]
  where
    both : (b : Bool) → true ≡ cond b true true
    both true = refl
    both false = refl

behind_few : (few : ℕ) (names : List (List ℕ)) (name : List ℕ) → few ≤ length names → drop few (names ++ name ∷ []) ≡ drop few names ++ name ∷ []
behind_few zero names name l = refl
behind_few (suc few) [] name l = absurd (omega (arith, l))
behind_few (suc few) (n ∷ names) name l = behind_few few names name (omega (arith, l))

pub later_more : (later new : BTreeSet (Bor (List ℕ))) (names : List (List ℕ)) (name : Bor (List ℕ)) → FEW_NAMES ≤ length names → HasLater later names → Updates (λ x y. slice_cmp nat_cmp x.now y.now) later new name true → HasLater new (names ++ name.now ∷ [])
later_more later new names name l h u q =
    u.0 (record { ref_ptr = (0, 0); now = q }) ∙ rw (is_eq-slice_cmp name.now q, h q, behind_few FEW_NAMES names name.now l) (sym (one_more q name.now (drop FEW_NAMES names)))

pub later_fewer : (later : BTreeSet (Bor (List ℕ))) (names : List (List ℕ)) (name : List ℕ) → length names < FEW_NAMES → HasLater later names → HasLater later (names ++ name ∷ [])
later_fewer later names name l h q = h q ∙ rw (none_left names FEW_NAMES (omega (arith, l)), none_left (names ++ name ∷ []) FEW_NAMES (omega (arith, l, length-append names (name ∷ [])))) refl

-- the attribute of a name is the one at its place
attribute_at_place : (name : List ℕ) (names values : List (List ℕ)) → length names ≡ length values → attribute name (attributes_of names values) ≡ option_map (λ i. get_or values i []) (place_of name names)
attribute_at_place name [] values l = refl
attribute_at_place name (n ∷ names) [] l = absurd (omega (arith, l))
attribute_at_place name (n ∷ names) (v ∷ values) l = elim (cases_Bool (bytes_eq n name)) [
  | inl t ↦ rw t refl
  | inr f ↦ rw f (attribute_at_place name names values (omega (arith, l)) ∙ go (place_of name names))
]
  where
    go : (o : Option ℕ) → option_map (λ i. get_or values i []) o ≡ option_map (λ i. get_or (v ∷ values) i []) (option_map suc o)
    go None = refl
    go (Some k) = refl

pub has_place : (name : List ℕ) (names values : List (List ℕ)) → length names ≡ length values → has_attribute name (attributes_of names values) ≡ is_some (place_of name names)
has_place name [] values l = refl
has_place name (n ∷ names) [] l = absurd (omega (arith, l))
has_place name (n ∷ names) (v ∷ values) l = elim (cases_Bool (bytes_eq n name)) [
  | inl t ↦ rw t refl
  | inr f ↦ rw f (has_place name names values (omega (arith, l)) ∙ go (place_of name names))
]
  where
    go : (o : Option ℕ) → is_some o ≡ is_some (option_map suc o)
    go None = refl
    go (Some k) = refl

pub place_within : (name : List ℕ) (names : List (List ℕ)) (i : ℕ) → place_of name names ≡ Some i → i < length names
place_within name [] i e = absurd cc
place_within name (n ∷ names) i e = elim (cases_Bool (bytes_eq n name)) [
  | inl t ↦ let f : Some 0 ≡ Some i = rw t at e in let same : 0 ≡ i = cc in omega (arith, same)
  | inr f ↦ go (place_of name names) refl (rw f at e) (λ k h. place_within name names k h)
]
  where
    go : (o : Option ℕ) → place_of name names ≡ o → option_map suc o ≡ Some i → ((k : ℕ) → place_of name names ≡ Some k → k < length names) → i < suc (length names)
    go None h e again = absurd cc
    go (Some k) h e again = let same : suc k ≡ i = cc in let less = again k h in omega (arith, same, less)

pub value_there : (name line : List ℕ) (names values : List (List ℕ)) (i : ℕ) → length names ≡ length values → place_of name names ≡ Some i → slice_get values i ≡ Some line → line ≡ or_nothing (attribute name (attributes_of names values))
value_there name line names values i l e s = got values i s ∙ sym (ap (λ (o : Option (List ℕ)). or_nothing o) (attribute_at_place name names values l ∙ ap (λ (o : Option ℕ). option_map (λ k. get_or values k []) o) e))
  where
    got : (vs : List (List ℕ)) (k : ℕ) → slice_get vs k ≡ Some line → line ≡ get_or vs k []
    got [] zero f = absurd cc
    got [] (suc k) f = absurd cc
    got (v ∷ vs) zero f = cc
    got (v ∷ vs) (suc k) f = got vs k f

pub value_missing : (name : List ℕ) (names values : List (List ℕ)) → length names ≡ length values → place_of name names ≡ None → [] ≡ or_nothing (attribute name (attributes_of names values))
value_missing name names values l e = sym (ap (λ (o : Option (List ℕ)). or_nothing o) (attribute_at_place name names values l ∙ ap (λ (o : Option ℕ). option_map (λ k. get_or values k []) o) e))

attributes-push : (names values : List (List ℕ)) (n v : List ℕ) → length names ≡ length values → attributes_of (names ++ n ∷ []) (values ++ v ∷ []) ≡ attributes_of names values ++ record { name = n; value = v } ∷ []
attributes-push [] [] n v l = refl
attributes-push [] (w ∷ values) n v l = absurd (omega (arith, l))
attributes-push (m ∷ names) [] n v l = absurd (omega (arith, l))
attributes-push (m ∷ names) (w ∷ values) n v l = ap (λ (t : List Attribute). record { name = m; value = w } ∷ t) (attributes-push names values n v (omega (arith, l)))

-- ---- a value in its quotes

pub quoted_over : (text : List ℕ) (at : ℕ) → at ≡ length text → quoted_at (drop at text) ≡ unexpected (drop at text)
quoted_over text at e = rw (over text at (omega (arith, e))) refl

pub quoted_wrong : (text : List ℕ) (at : ℕ) → at < length text → get_or text at 0 ≢ 34 → get_or text at 0 ≢ 39 → quoted_at (drop at text) ≡ unexpected (drop at text)
quoted_wrong text at l a b = rw (here text at l) (rw (or_from (eqb (get_or text at 0) 34) (eqb (get_or text at 0) 39) (ne_eqb (get_or text at 0) 34 a) (ne_eqb (get_or text at 0) 39 b)) refl)

pub quoted_here : (text out : List ℕ) (at : ℕ) (r : Result ℕ NzbError) → at < length text → (get_or text at 0 ≡ 34) ⊎ (get_or text at 0 ≡ 39) →
    ReadsValue text (at + 1) out r (value_at (get_or text at 0) (length (drop (at + 1) text)) (drop (at + 1) text)) → ReadsValue text at out r (quoted_at (drop at text))
quoted_here text out at r l q h = go r h
  where
    is_quote : (get_or text at 0 ≡ 34) ⊎ (get_or text at 0 ≡ 39) → (eqb (get_or text at 0) 34 || eqb (get_or text at 0) 39) ≡ true
    is_quote (inl e) = rw e refl
    is_quote (inr e) = rw e refl

    same : quoted_at (drop at text) ≡ value_at (get_or text at 0) (length (drop (at + 1) text)) (drop (at + 1) text)
    same = rw (here text at l) (rw (is_quote q) refl)

    go : (s : Result ℕ NzbError) → ReadsValue text (at + 1) out s (value_at (get_or text at 0) (length (drop (at + 1) text)) (drop (at + 1) text)) → ReadsValue text at out s (quoted_at (drop at text))
    go (Ok end) (a, b, c) = (omega (arith, a), b, same ∙ c)
    go (Err e) f = fails_as text e _ _ same f

-- ---- an attribute

abbrev judged : AttributeChecks → List ℕ → List ℕ → List ℕ → Result (Attribute × List ℕ) Stop
judged checks from name rest = quoted_at rest >>= λ value. (cond (checks name value.0) (Ok true) (stop_at from BadNumber)) >>= λ fits. Ok (record { name = name; value = value.0 }, value.1)

abbrev new_name : AttributeChecks → List Attribute → List ℕ → (List ℕ × List ℕ) → Result (Attribute × List ℕ) Stop
new_name checks earlier from name = (cond (has_attribute name.0 earlier) (stop_at from DoubleAttribute) (Ok true)) >>= λ new. word (codes "=") (behind_white name.1) >>= λ behind. judged checks from name.0 (behind_white behind)

pub attribute_name_fails : (checks : AttributeChecks) (earlier : List Attribute) (text : List ℕ) (at : ℕ) (e : NzbError) → Fails text e (name_at (drop at text)) → Fails text e (attribute_at checks earlier (drop at text))
attribute_name_fails checks earlier text at e h = fails_then text e (name_at (drop at text)) (new_name checks earlier (drop at text)) h

-- a name is read
pub record Named (text : List ℕ) (at name : ℕ) : Type 0 where
  pub behind : at < name
  pub within : name ≤ length text
  pub read : name_at (drop at text) ≡ Ok (take (name - at) (drop at text), drop name text)

stopped : {A : Type 0} (text : List ℕ) (at : ℕ) (reason : NzbReason) (read : Result A Stop) → at ≤ length text → read ≡ stop_at (drop at text) reason → Fails text (Refused at reason) read
stopped {A} text at reason read l e = (l, e ∙ rw (length-drop at text) refl)

pub attribute_double : (checks : AttributeChecks) (earlier : List Attribute) (text : List ℕ) (at name : ℕ) → Named text at name → has_attribute (take (name - at) (drop at text)) earlier ≡ true → Fails text (Refused at DoubleAttribute) (attribute_at checks earlier (drop at text))
attribute_double checks earlier text at name n h = stopped text at DoubleAttribute _ (let a = n.behind in let b = n.within in omega (arith, a, b)) (rw n.read (rw h refl))

attribute_new : (checks : AttributeChecks) (earlier : List Attribute) (text : List ℕ) (at name : ℕ) → Named text at name → has_attribute (take (name - at) (drop at text)) earlier ≡ false →
    attribute_at checks earlier (drop at text) ≡ (word (codes "=") (behind_white (drop name text)) >>= λ behind. judged checks (drop at text) (take (name - at) (drop at text)) (behind_white behind))
attribute_new checks earlier text at name n h = rw n.read (rw h refl)

pub attribute_equals_fails : (checks : AttributeChecks) (earlier : List Attribute) (text : List ℕ) (at name here : ℕ) (e : NzbError) → Named text at name → has_attribute (take (name - at) (drop at text)) earlier ≡ false → drop here text ≡ behind_white (drop name text) →
    Fails text e (word (codes "=") (drop here text)) → Fails text e (attribute_at checks earlier (drop at text))
attribute_equals_fails checks earlier text at name here e n h w f = fails_as text e _ _ (attribute_new checks earlier text at name n h ∙ ap (λ (t : List ℕ). word (codes "=") t >>= λ behind. judged checks (drop at text) (take (name - at) (drop at text)) (behind_white behind)) (sym w))
    (fails_then text e (word (codes "=") (drop here text)) (λ behind. judged checks (drop at text) (take (name - at) (drop at text)) (behind_white behind)) f)

attribute_valued : (checks : AttributeChecks) (earlier : List Attribute) (text : List ℕ) (at name here equals place : ℕ) → Named text at name → has_attribute (take (name - at) (drop at text)) earlier ≡ false → drop here text ≡ behind_white (drop name text) →
    word (codes "=") (drop here text) ≡ Ok (drop equals text) → drop place text ≡ behind_white (drop equals text) → attribute_at checks earlier (drop at text) ≡ judged checks (drop at text) (take (name - at) (drop at text)) (drop place text)
attribute_valued checks earlier text at name here equals place n h w f v = attribute_new checks earlier text at name n h ∙ ap (λ (t : List ℕ). word (codes "=") t >>= λ behind. judged checks (drop at text) (take (name - at) (drop at text)) (behind_white behind)) (sym w)
    ∙ rw f (ap (λ (t : List ℕ). judged checks (drop at text) (take (name - at) (drop at text)) t) (sym v))

-- behind its equals sign
pub record Valued (earlier : List Attribute) (text : List ℕ) (at name place : ℕ) : Type 0 where
  pub is_named : Named text at name
  pub is_new : has_attribute (take (name - at) (drop at text)) earlier ≡ false
  pub here : ℕ
  pub equals : ℕ
  pub no_white : drop here text ≡ behind_white (drop name text)
  pub read : word (codes "=") (drop here text) ≡ Ok (drop equals text)
  pub place_is : drop place text ≡ behind_white (drop equals text)

valued : (checks : AttributeChecks) (earlier : List Attribute) (text : List ℕ) (at name place : ℕ) → Valued earlier text at name place → attribute_at checks earlier (drop at text) ≡ judged checks (drop at text) (take (name - at) (drop at text)) (drop place text)
valued checks earlier text at name place v = attribute_valued checks earlier text at name v.here v.equals place v.is_named v.is_new v.no_white v.read v.place_is

pub attribute_value_fails : (checks : AttributeChecks) (earlier : List Attribute) (text : List ℕ) (at name place : ℕ) (e : NzbError) → Valued earlier text at name place → Fails text e (quoted_at (drop place text)) → Fails text e (attribute_at checks earlier (drop at text))
attribute_value_fails checks earlier text at name place e v f = fails_as text e _ _ (valued checks earlier text at name place v)
    (fails_then text e (quoted_at (drop place text)) (λ value. (cond (checks (take (name - at) (drop at text)) value.0) (Ok true) (stop_at (drop at text) BadNumber)) >>= λ fits. Ok (record { name = take (name - at) (drop at text); value = value.0 }, value.1)) f)

pub attribute_bad : (checks : AttributeChecks) (earlier : List Attribute) (text value : List ℕ) (at name place end : ℕ) → Valued earlier text at name place → quoted_at (drop place text) ≡ Ok (value, drop end text) → checks (take (name - at) (drop at text)) value ≡ false →
    Fails text (Refused at BadNumber) (attribute_at checks earlier (drop at text))
attribute_bad checks earlier text value at name place end v q h = stopped text at BadNumber _ (let n = v.is_named in let a = n.behind in let b = n.within in omega (arith, a, b)) (valued checks earlier text at name place v ∙ rw q (rw h refl))

pub attribute_reads : (checks : AttributeChecks) (names values new_names new_values : List (List ℕ)) (text value : List ℕ) (at name place end : ℕ) → Valued (attributes_of names values) text at name place → at < end → end ≤ length text → quoted_at (drop place text) ≡ Ok (value, drop end text) →
    checks (take (name - at) (drop at text)) value ≡ true → new_names ≡ names ++ take (name - at) (drop at text) ∷ [] → new_values ≡ values ++ value ∷ [] →
    ReadsAttribute text at names values new_names new_values (Ok end) (attribute_at checks (attributes_of names values) (drop at text))
attribute_reads checks names values new_names new_values text value at name place end v l w q h a b = (l, w, (record { name = take (name - at) (drop at text); value = value }, a, b, valued checks (attributes_of names values) text at name place v ∙ rw q (rw h refl)))

-- the same by what is answered on the way
pub valued_at : (names values : List (List ℕ)) (text : List ℕ) (at name here equals place : ℕ) (new : Bool) → length names ≡ length values → ReadsName text at (Ok name) (name_at (drop at text)) → new ≡ not (is_some (place_of (take (name - at) (drop at text)) names)) →
    new ≡ true → drop here text ≡ behind_white (drop name text) → word (codes "=") (drop here text) ≡ Ok (drop equals text) → drop place text ≡ behind_white (drop equals text) → Valued (attributes_of names values) text at name place
valued_at names values text at name here equals place new l n is fine w r p = record {
  is_named = record { behind = n.0; within = n.1; read = n.2 };
  is_new = has_place _ names values l ∙ not-true _ (sym is ∙ fine);
  here = here;
  equals = equals;
  no_white = w;
  read = r;
  place_is = p;
}

-- ---- a start tag

pub record TagOn (checks : AttributeChecks) (text : List ℕ) (at end : ℕ) (names values : List (List ℕ)) : Type 0 where
  pub left : ℕ
  pub fits : length (drop end text) ≤ left
  pub reads : tag_at checks (drop at text) ≡ tag_rest checks left (attributes_of names values) (drop end text)

-- the attributes up to a place are read
pub record StillTag (checks : AttributeChecks) (text : List ℕ) (at end : ℕ) (names values : List (List ℕ)) : Type 0 where
  pub behind : at ≤ end
  pub within : end ≤ length text
  pub pairs : length names ≡ length values
  pub goes_on : TagOn checks text at end names values

pub tag_starts : (checks : AttributeChecks) (text : List ℕ) (at : ℕ) (names values : List (List ℕ)) → at ≤ length text → names ≡ [] → values ≡ [] → StillTag checks text at at names values
tag_starts checks text at names values l a b = record {
  behind = omega arith;
  within = l;
  pairs = rw (a, b) refl;
  goes_on = record {
    left = length (drop at text);
    fits = omega arith;
    reads = ap (λ (l : List Attribute). tag_rest checks (length (drop at text)) l (drop at text)) (sym (no_attributes names values a));
  };
}
  where
    no_attributes : (ns vs : List (List ℕ)) → ns ≡ [] → attributes_of ns vs ≡ []
    no_attributes ns vs e = rw e refl

-- with a byte there, some fuel is there
tag_fuel : (checks : AttributeChecks) (text : List ℕ) (at end : ℕ) (names values : List (List ℕ)) → TagOn checks text at end names values → end < length text →
    (left : ℕ) × (length (drop end text) ≤ suc left) × (tag_at checks (drop at text) ≡ tag_rest checks (suc left) (attributes_of names values) (drop end text))
tag_fuel checks text at end names values t l = go t.left t.fits t.reads
  where
    go : (left : ℕ) → length (drop end text) ≤ left → tag_at checks (drop at text) ≡ tag_rest checks left (attributes_of names values) (drop end text) →
        (k : ℕ) × (length (drop end text) ≤ suc k) × (tag_at checks (drop at text) ≡ tag_rest checks (suc k) (attributes_of names values) (drop end text))
    go zero fits e = absurd (omega (arith, length-drop end text, l, fits))
    go (suc left) fits e = (left, fits, e)

pub tag_over : (checks : AttributeChecks) (text : List ℕ) (at end : ℕ) (names values : List (List ℕ)) → StillTag checks text at end names values → length text ≤ end → Fails text (unexpected_at text end) (tag_at checks (drop at text))
tag_over checks text at end names values s l = unexpected_fails text end (tag_at checks (drop at text)) s.within (go s.goes_on)
  where
    go : TagOn checks text at end names values → tag_at checks (drop at text) ≡ unexpected (drop end text)
    go t = t.reads ∙ rw (over text end l) (nothing t.left)
      where
        nothing : (left : ℕ) → tag_rest checks left (attributes_of names values) [] ≡ unexpected []
        nothing zero = refl
        nothing (suc left) = refl

pub tag_opens : (checks : AttributeChecks) (text : List ℕ) (at end mid : ℕ) (names values : List (List ℕ)) → StillTag checks text at end names values → end < length text → end ≤ mid → mid ≤ length text → drop mid text ≡ behind_white (drop end text) → starts_with nat_eq (drop mid text) (codes ">") ≡ true →
    ReadsTag text at names values (Ok (false, mid + 1)) (tag_at checks (drop at text))
tag_opens checks text at end mid names values s l a b w e =
    let front = starts_front (drop mid text) (codes ">") e in
    let f = tag_fuel checks text at end names values s.goes_on l in
    let behind = s.behind in
    (omega (arith, behind, a), omega (arith, ap length front, length-drop mid text, b), s.pairs, f.2 ∙ rw (← w) (rw e (rw (drop-drop 1 mid text) refl)))

tag_slash : (checks : AttributeChecks) (text : List ℕ) (at end mid : ℕ) (names values : List (List ℕ)) → StillTag checks text at end names values → end < length text → drop mid text ≡ behind_white (drop end text) → starts_with nat_eq (drop mid text) (codes ">") ≡ false →
    starts_with nat_eq (drop mid text) (codes "/") ≡ true → tag_at checks (drop at text) ≡ (word (codes "/>") (drop mid text) >>= λ behind. Ok (record { attributes = attributes_of names values; closed = true }, behind))
tag_slash checks text at end mid names values s l w e f = (tag_fuel checks text at end names values s.goes_on l).2 ∙ rw (← w) (rw e (rw f refl))

pub tag_closes : (checks : AttributeChecks) (text : List ℕ) (at end mid last : ℕ) (names values : List (List ℕ)) → StillTag checks text at end names values → end < length text → end ≤ mid → drop mid text ≡ behind_white (drop end text) → starts_with nat_eq (drop mid text) (codes ">") ≡ false →
    starts_with nat_eq (drop mid text) (codes "/") ≡ true → mid ≤ last → last ≤ length text → word (codes "/>") (drop mid text) ≡ Ok (drop last text) → ReadsTag text at names values (Ok (true, last)) (tag_at checks (drop at text))
tag_closes checks text at end mid last names values s l a w e f b c r =
    let behind = s.behind in
    let front = word_two r in
    (omega (arith, behind, a, front), c, s.pairs, tag_slash checks text at end mid names values s l w e f ∙ rw r refl)
  where
    word_two : word (codes "/>") (drop mid text) ≡ Ok (drop last text) → mid < last
    word_two g = let front = word_found (codes "/>") (drop mid text) (drop last text) g in omega (arith, ap length front, length-drop mid text, length-drop last text, c)

pub tag_slash_fails : (checks : AttributeChecks) (text : List ℕ) (at end mid : ℕ) (names values : List (List ℕ)) (e : NzbError) → StillTag checks text at end names values → end < length text → drop mid text ≡ behind_white (drop end text) → starts_with nat_eq (drop mid text) (codes ">") ≡ false →
    starts_with nat_eq (drop mid text) (codes "/") ≡ true → Fails text e (word (codes "/>") (drop mid text)) → Fails text e (tag_at checks (drop at text))
tag_slash_fails checks text at end mid names values e s l w f g h = fails_as text e _ _ (tag_slash checks text at end mid names values s l w f g) (fails_then text e (word (codes "/>") (drop mid text)) (λ behind. Ok (record { attributes = attributes_of names values; closed = true }, behind)) h)

pub tag_joined : (checks : AttributeChecks) (text : List ℕ) (at end : ℕ) (names values : List (List ℕ)) → StillTag checks text at end names values → end < length text → drop end text ≡ behind_white (drop end text) → starts_with nat_eq (drop end text) (codes ">") ≡ false →
    starts_with nat_eq (drop end text) (codes "/") ≡ false → Fails text (unexpected_at text end) (tag_at checks (drop at text))
tag_joined checks text at end names values s l w e f = unexpected_fails text end (tag_at checks (drop at text)) s.within
    ((tag_fuel checks text at end names values s.goes_on l).2 ∙ rw (← w) (rw e (rw f (rw (eq-eqb (length (drop end text)) (length (drop end text)) refl) refl))))

tag_attribute : (checks : AttributeChecks) (text : List ℕ) (at end mid : ℕ) (names values : List (List ℕ)) (s : StillTag checks text at end names values) → end < length text → end < mid → mid ≤ length text → drop mid text ≡ behind_white (drop end text) → starts_with nat_eq (drop mid text) (codes ">") ≡ false →
    starts_with nat_eq (drop mid text) (codes "/") ≡ false → (left : ℕ) × (length (drop end text) ≤ suc left) × (tag_at checks (drop at text) ≡ (attribute_at checks (attributes_of names values) (drop mid text) >>= λ a. tag_rest checks left (attributes_of names values ++ a.0 ∷ []) a.1))
tag_attribute checks text at end mid names values s l m n w e f =
    let t = tag_fuel checks text at end names values s.goes_on l in
    (t.0, t.1, t.2 ∙ rw (← w) (rw e (rw f (rw (ne_eqb (length (drop mid text)) (length (drop end text)) (λ same. absurd (omega (arith, same, length-drop mid text, length-drop end text, m, n)))) refl))))

pub tag_attribute_fails : (checks : AttributeChecks) (text : List ℕ) (at end mid : ℕ) (names values : List (List ℕ)) (e : NzbError) → StillTag checks text at end names values → end < length text → end < mid → mid ≤ length text → drop mid text ≡ behind_white (drop end text) → starts_with nat_eq (drop mid text) (codes ">") ≡ false →
    starts_with nat_eq (drop mid text) (codes "/") ≡ false → Fails text e (attribute_at checks (attributes_of names values) (drop mid text)) → Fails text e (tag_at checks (drop at text))
tag_attribute_fails checks text at end mid names values e s l m n w f g h =
    let t = tag_attribute checks text at end mid names values s l m n w f g in
    fails_as text e _ _ t.2 (fails_then text e (attribute_at checks (attributes_of names values) (drop mid text)) (λ a. tag_rest checks t.0 (attributes_of names values ++ a.0 ∷ []) a.1) h)

pub tag_next : (checks : AttributeChecks) (text : List ℕ) (at end mid last : ℕ) (names values new_names new_values : List (List ℕ)) → StillTag checks text at end names values → end < length text → end < mid → mid ≤ length text → drop mid text ≡ behind_white (drop end text) → starts_with nat_eq (drop mid text) (codes ">") ≡ false →
    starts_with nat_eq (drop mid text) (codes "/") ≡ false → ReadsAttribute text mid names values new_names new_values (Ok last) (attribute_at checks (attributes_of names values) (drop mid text)) → StillTag checks text at last new_names new_values
tag_next checks text at end mid last names values new_names new_values s l m n w f g (a, b, (x, p, q, r)) =
    let behind = s.behind in
    let t = tag_attribute checks text at end mid names values s l m n w f g in
    record {
      behind = omega (arith, behind, m, a);
      within = b;
      pairs = let pairs = s.pairs in omega (arith, ap length p, ap length q, length-append names (x.name ∷ []), length-append values (x.value ∷ []), pairs);
      goes_on = record {
        left = t.0;
        fits = let fits = t.1 in omega (arith, fits, length-drop end text, length-drop last text, m, a, b);
        reads = t.2 ∙ rw r (ap (λ (l : List Attribute). tag_rest checks t.0 l (drop last text)) (sym (rw (p, q) (attributes-push names values x.name x.value s.pairs))));
      };
    }
