-- A text that has a reason of the table is refused for it: end tags, texts in elements, and elements in elements.
use Rattle.std.proofs.Common.{◌≡◌, ◌≢◌, ℕ, zero, suc, ◌≤◌, Bool, true, false, eqb, ◌||◌, List, [], ◌∷◌, ◌++◌, length, Option, Some, None, Result, Ok, Err, refl, sym, ap, subst, ◌∙◌, append_assoc, arith, inl, inr, ◌⊎◌}
use Rattle.std.specs.Prelude.{codes, nat_eq, bytes_eq, fold}
use Rattle.std.specs.List.{starts_with}
use Rattle.std.proofs.lemmas.Bool.{cases_Bool, or_parts, and_left}
use Rattle.std.proofs.lemmas.List.{length-append, append_cancel_left}
use Rattle.std.proofs.lemmas.Slice.Eq.{bytes_eq-Decides}
use Rattle.nzb_index.specs.declared.error.NzbReason.{NzbReason}
use Rattle.nzb_index.specs.declared.error.NzbReason.TheVariants.{Unexpected, WrongTag}
use Rattle.nzb_index.specs.declared.error.NzbLimit.{NzbLimit}
use Rattle.nzb_writer.specs.Markup.{is_white, is_name_byte, trimmed, IsWhite, IsMarkupName, IsBetween, IsElementText, Attribute, AttributeChecks, AreAttributes, AreElements, unchecked}
use Rattle.nzb_index.specs.MarkupReading.{Stop, ValueRead, Tag, limit, stop_at, unexpected, word, name_at, between, behind_white, text_at, tag_at, end_tag, leaf, no_fault, children, parent, only, ◌>>=◌}
use Rattle.nzb_index.specs.Broken.{OtherByte, BrokenBetween, first_hyphen, comment_between, second_hyphen, in_comment, OpensWith, ClosesWith, NoEndName, OpenEnd}
use Rattle.nzb_index.specs.Reasons.{Fault, AttributeFault, second_of_a_name, fault_in_value, value_not_allowed, no_white, no_attribute, no_close, no_equals, no_quote, TagFault, ending, StartTag, TextFault, in_text, end_in_text, no_end_in_text, ContentFault, in_one, end_in_content, in_between, no_tag, no_name, no_end_name, open_end, LeafFault, leaf_name, leaf_tag, leaf_text, leaf_end, ParentFault, parent_tag, parent_content}
use Rattle.nzb_index.proofs.TagsFound.{tag_end}
use Rattle.nzb_index.proofs.ElementsFound.{Content, none as no_content, some as some_content}
use Rattle.nzb_index.proofs.WordsRead.{NoName, name_back, no_name_white, white_more, Stops as Stands}
use Rattle.nzb_index.proofs.TextsRead.{gave, text_to, text_back, raw_of, bytes_of}
use Rattle.nzb_index.proofs.TagsRead.{attribute_back, tag_back, tag_ends, white_ends, name_other}
use Rattle.nzb_index.proofs.ElementsRead.{ReadOne, between_stops, tag_stops}
use Rattle.nzb_index.proofs.FaultsRead.{Tells, told, past_limit, tells_bind, tells_as, tells_front, bind_stop, letter_told, name_missing, name_told, between_to, between_told, tag_told, text_told, white_stands, not_first}

-- ---- end tags

pub bytes_other : (a b : List ℕ) → a ≢ b → bytes_eq a b ≡ false
bytes_other a b n = elim (cases_Bool (bytes_eq a b)) [ inl t ↦ absurd (n ((bytes_eq-Decides a b).0 t)) | inr f ↦ f ]

pub same_bytes : (a : List ℕ) → bytes_eq a a ≡ true
same_bytes a = (bytes_eq-Decides a a).1 refl

end_name_told : (name : List ℕ) (known : Option Stop) (from here : List ℕ) → NoEndName from here → end_tag name known from ≡ stop_at here Unexpected
end_name_told name known from here b = go from b.from_is (name_missing is_name_byte here b.other b.other.is_other)
  where
    go : (f : List ℕ) → f ≡ codes "</" ++ here → name_at here ≡ stop_at here Unexpected → end_tag name known f ≡ stop_at here Unexpected
    go f e n = rw e (bind_stop (name_at here) _ _ n)

end_other_told : (name : List ℕ) (known : Option Stop) (here other : List ℕ) → ClosesWith here other → other ≢ name → end_tag name known here ≡ stop_at here WrongTag
end_other_told name known here other (inside, e, ends) differs =
    let n = name_told inside other (ends.byte ∷ ends.more) ends.text_is ends in
    rw e (rw n.0 (rw (bytes_other other name differs) refl))

pub end_known_told : (name : List ℕ) (s : Stop) (here : List ℕ) → ClosesWith here name → end_tag name (Some s) here ≡ Err s
end_known_told name s here (inside, e, ends) =
    let n = name_told inside name (ends.byte ∷ ends.more) ends.text_is ends in
    rw e (rw n.0 (rw (same_bytes name) refl))

end_open_told : (name from here : List ℕ) → OpenEnd name from here → end_tag name None from ≡ stop_at here Unexpected
end_open_told name from here b = go b.closes
  where
    go : ClosesWith from name → end_tag name None from ≡ stop_at here Unexpected
    go (inside, e, ends) =
        let same : inside ≡ name ++ (b.white ++ here) = append_cancel_left (codes "</") inside (name ++ (b.white ++ here)) (sym e ∙ b.from_is ∙ (simp append_assoc)) in
        let n = name_told inside name (b.white ++ here) same ends in
        let o = or_parts (is_white b.other.byte) (eqb 62 b.other.byte) b.other.is_other in
        let stands : behind_white (b.white ++ here) ≡ here = white_more b.white here b.white_is ∙ white_stands _ here b.other o.0 in
        let stop = letter_told 62 _ here b.other o.1 in
        rw e (rw n.0 (rw (same_bytes name, stands) stop))

-- ---- texts in elements

abbrev pub opened : List Attribute → Tag
opened attributes = record { attributes = attributes; closed = false }

-- the text is read up to the end tag
pub leaf_end_tells : (name : List ℕ) (known : List ℕ → Option Stop) (attributes : List Attribute) (rest inside bytes end i here : List ℕ) (reason : NzbReason) → rest ≡ inside ++ end → IsElementText inside bytes → end ≡ codes "</" ++ i →
    Tells (end_tag name (known bytes) end) here reason → Tells (leaf name known (opened attributes) rest) here reason
leaf_end_tells name known attributes rest inside bytes end i here reason e (whole, (pieces, all, f, g), h) begun t =
    let rest_is : rest ≡ raw_of pieces ++ (60 ∷ 47 ∷ i) = e ∙ ap (λ (u : List ℕ). u ++ end) f ∙ ap (λ (u : List ℕ). raw_of pieces ++ u) begun in
    let read = text_back (length (raw_of pieces ++ (60 ∷ 47 ∷ i))) i pieces all (omega arith) in
    let texted : trimmed (bytes_of pieces) ≡ bytes = sym (h ∙ ap (λ (u : List ℕ). trimmed u) g) in
    tells_as _ _ here reason (on rest_is read texted) (tells_bind (end_tag name (known bytes) end) (λ behind. Ok (bytes, behind)) here reason t)
  where
    on : rest ≡ raw_of pieces ++ (60 ∷ 47 ∷ i) → text_at (length (raw_of pieces ++ (60 ∷ 47 ∷ i))) (raw_of pieces ++ (60 ∷ 47 ∷ i)) ≡ gave (bytes_of pieces) (60 ∷ 47 ∷ i) → trimmed (bytes_of pieces) ≡ bytes →
        leaf name known (opened attributes) rest ≡ (end_tag name (known bytes) end >>= λ behind. Ok (bytes, behind))
    on a b c = rw (a, begun) (rw b (rw c refl))

pub closes_begins : (end name : List ℕ) → ClosesWith end name → (i : List ℕ) × (end ≡ codes "</" ++ i)
closes_begins end name (inside, e, ends) = (inside, e)

pub leaf_text_told : (name : List ℕ) (known : List ℕ → Option Stop) (attributes : List Attribute) (rest here : List ℕ) (reason : NzbReason) → TextFault name rest here reason → Tells (leaf name known (opened attributes) rest) here reason
leaf_text_told name known attributes rest here reason (in_text inside bytes from _ _ e (whole, (pieces, all, f, g), h) stop) =
    let t = text_told from here reason stop in
    let rest_is : rest ≡ raw_of pieces ++ from = e ∙ ap (λ (u : List ℕ). u ++ from) f in
    let read = text_to from t.result t.known (length (raw_of pieces ++ from)) pieces all (omega arith) in
    rw rest_is (tells_bind (text_at (length (raw_of pieces ++ from)) (raw_of pieces ++ from)) _ here reason (tells_as _ _ here reason read (tells_front (bytes_of pieces) t.result here reason t.tells)))
leaf_text_told name known attributes rest here _ (end_in_text inside bytes _ other e t closes differs) =
    let i = closes_begins here other closes in
    leaf_end_tells name known attributes rest inside bytes here i.0 here _ e t i.1 (told (end_other_told name (known bytes) here other closes differs))
leaf_text_told name known attributes rest here _ (no_end_in_text inside bytes from _ e t b) =
    leaf_end_tells name known attributes rest inside bytes from here here _ e t b.from_is (told (end_name_told name (known bytes) from here b))

pub leaf_open_told : (name : List ℕ) (known : List ℕ → Option Stop) (attributes : List Attribute) (rest inside bytes end here : List ℕ) → rest ≡ inside ++ end → IsElementText inside bytes → known bytes ≡ None → OpenEnd name end here →
    Tells (leaf name known (opened attributes) rest) here Unexpected
leaf_open_told name known attributes rest inside bytes end here e t none b =
    let i = closes_begins end name b.closes in
    leaf_end_tells name known attributes rest inside bytes end i.0 here _ e t i.1 (told (ap (λ (o : Option Stop). end_tag name o end) none ∙ end_open_told name end here b))

-- ---- start tags

-- a start tag is read
pub record Started (checks : AttributeChecks) (name from : List ℕ) (attributes : List Attribute) (closed : Bool) (rest : List ℕ) : Type 0 where
  pub left : List ℕ
  pub from_is : from ≡ 60 ∷ (name ++ left)
  pub ends : NoName left
  pub read : tag_at checks left ≡ Ok (record { attributes = attributes; closed = closed }, rest)

pub started : (checks : AttributeChecks) (name from : List ℕ) (attributes : List Attribute) (closed : Bool) (rest : List ℕ) → StartTag checks name from attributes closed rest → Started checks name from attributes closed rest
started checks name from attributes closed rest t = record {
  left = t.attribute_text ++ (t.white ++ (tag_end closed ++ rest));
  from_is = joined closed from name t.attribute_text t.white t.from_is;
  ends = tag_ends checks [] attributes t.attribute_text t.white closed rest t.are_attributes t.is_white;
  read = tag_back checks attributes [] t.attribute_text t.white closed rest (length (t.attribute_text ++ (t.white ++ (tag_end closed ++ rest)))) t.are_attributes t.is_white (omega arith);
}
  where
    joined : (c : Bool) (f n a w : List ℕ) → f ≡ codes "<" ++ n ++ a ++ w ++ ending c ++ rest → f ≡ 60 ∷ (n ++ (a ++ (w ++ (tag_end c ++ rest))))
    joined true f n a w e = rw e (simp append_assoc)
    joined false f n a w e = rw e (simp append_assoc)

other_no_name : (text : List ℕ) → OtherByte is_name_byte text → NoName text
other_no_name text o = record { byte = o.byte; more = o.more; text_is = o.here_is; is_none = o.is_other }

fault_no_name : (checks : AttributeChecks) (rest here : List ℕ) (reason : NzbReason) → AttributeFault checks [] rest here reason → NoName rest
fault_no_name checks rest here _ (second_of_a_name white _ name e w some ends has) = rw e (white_ends white here w some)
fault_no_name checks rest here reason (fault_in_value white name f g raw bytes _ quote _ e w some n new wf wg q i v fault) = rw e (white_ends white _ w some)
fault_no_name checks rest here _ (value_not_allowed white one behind tail a e w begins is new bad) = rw (e ∙ sym (append_assoc white one behind)) (attribute_ends (white ++ one) behind is.before _ is.white.0 is.apart (simp append_assoc at is.text_is))
  where
    attribute_ends : (f t b r : List ℕ) → IsWhite b → b ≢ [] → f ≡ b ++ r → NoName (f ++ t)
    attribute_ends f t b r w s e = rw (e, append_assoc b r t) (white_ends b (r ++ t) w s)
fault_no_name checks rest here _ (no_white _ e o named) = rw e (other_no_name here (named refl))
fault_no_name checks rest here _ (no_attribute white _ e w some o) = rw e (white_ends white here w some)
fault_no_name checks rest here _ (no_close white from inside _ e w f b) = rw e (no_name_white white from w (record { byte = 47; more = inside; text_is = f; is_none = refl }))
fault_no_name checks rest here _ (no_equals white from name behind _ e w some ends new f wb o) = rw e (white_ends white from w some)
fault_no_name checks rest here _ (no_quote white name f g _ e w some n new wf wg o) = rw e (white_ends white _ w some)

pub tag_no_name : (checks : AttributeChecks) (rest here : List ℕ) (reason : NzbReason) → TagFault checks rest here reason → NoName rest
tag_no_name checks rest here reason t = go t.attributes t.attribute_text t.rest_is t.are_attributes t.fault
  where
    go : (attributes : List Attribute) (text : List ℕ) → rest ≡ text ++ t.left → AreAttributes checks [] text attributes → AttributeFault checks attributes t.left here reason → NoName rest
    go [] text e are f = rw (e, are) (fault_no_name checks t.left here reason f)
    go (a ∷ more) text e (first, last, g, is, new, fits, are) f = rw (e, g, append_assoc first last t.left) (attribute_back checks [] first (last ++ t.left) a is new fits).ends

-- ---- an element that is refused

pub record OneTells {S : Type 0} (item : S → List ℕ → List ℕ → List ℕ → ValueRead S) (s : S) (from here : List ℕ) (reason : NzbReason) : Type 0 where
  pub name : List ℕ
  pub left : List ℕ
  pub from_is : from ≡ 60 ∷ (name ++ left)
  pub is_name : IsMarkupName name
  pub ends : NoName left
  pub tells : Tells (item s name from left) here reason

-- an element of another name
pub other_tells : {S : Type 0} (item : S → List ℕ → List ℕ → List ℕ → ValueRead S) (s : S) (from other : List ℕ) (reason : NzbReason) → OpensWith from other → ((left : List ℕ) → Tells (item s other from left) from reason) → OneTells item s from from reason
other_tells item s from other reason (inside, e, ends) t = record {
  name = other;
  left = ends.byte ∷ ends.more;
  from_is = e ∙ ap (λ (u : List ℕ). 60 ∷ u) ends.text_is;
  is_name = ends.is_name;
  ends = record { byte = ends.byte; more = ends.more; text_is = refl; is_none = ends.is_other };
  tells = t (ends.byte ∷ ends.more);
}

abbrev pub LeafItem : {B : Type 0} → List ℕ → (Tag × List ℕ → List ℕ × List ℕ → B) → List ℕ → List ℕ → List ℕ → Result B Stop
LeafItem wanted g name from rest = only wanted name from >>= λ ok. tag_at unchecked rest >>= λ tag. leaf wanted no_fault tag.0 tag.1 >>= λ t. Ok (g tag t)

pub leaf_fault_tells : {S : Type 0} (item : S → List ℕ → List ℕ → List ℕ → ValueRead S) (s : S) (wanted : List ℕ) → IsMarkupName wanted → (g : Tag × List ℕ → List ℕ × List ℕ → S × List ℕ) → ((name from left : List ℕ) → item s name from left ≡ LeafItem wanted g name from left) →
    (from here : List ℕ) (reason : NzbReason) → LeafFault wanted from here reason → OneTells item s from here reason
leaf_fault_tells item s wanted n g is from here _ (leaf_name other opens differs) = other_tells item s from other _ opens (λ left. tells_as _ _ from _ (is other from left) (told (rw (bytes_other other wanted differs) refl)))
leaf_fault_tells item s wanted n g is from here reason (leaf_tag rest _ _ e f) = record {
  name = wanted;
  left = rest;
  from_is = e;
  is_name = n;
  ends = tag_no_name unchecked rest here reason f;
  tells = tells_as _ _ here reason (is wanted from rest) (rw (same_bytes wanted) (tells_bind (tag_at unchecked rest) _ here reason (tag_told unchecked rest here reason f)));
}
leaf_fault_tells item s wanted n g is from here reason (leaf_text attributes rest _ _ start f) =
    let st = started unchecked wanted from attributes false rest start in
    record {
      name = wanted;
      left = st.left;
      from_is = st.from_is;
      is_name = n;
      ends = st.ends;
      tells = tells_as _ _ here reason (is wanted from st.left) (rw (same_bytes wanted) (rw st.read (tells_bind (leaf wanted no_fault (opened attributes) rest) _ here reason (leaf_text_told wanted no_fault attributes rest here reason f))));
    }
leaf_fault_tells item s wanted n g is from here _ (leaf_end attributes rest inside bytes end _ start e t b) =
    let st = started unchecked wanted from attributes false rest start in
    record {
      name = wanted;
      left = st.left;
      from_is = st.from_is;
      is_name = n;
      ends = st.ends;
      tells = tells_as _ _ here _ (is wanted from st.left) (rw (same_bytes wanted) (rw st.read (tells_bind (leaf wanted no_fault (opened attributes) rest) _ here _ (leaf_open_told wanted no_fault attributes rest inside bytes end here e t refl b))));
    }

-- ---- elements in an element

-- one element more passes a limit
pub record PassesLimit {S : Type 0} (item : S → List ℕ → List ℕ → List ℕ → ValueRead S) (s : S) (one rest : List ℕ) : Type 0 where
  pub name : List ℕ
  pub left : List ℕ
  pub text_is : one ++ rest ≡ 60 ∷ (name ++ left)
  pub is_name : IsMarkupName name
  pub ends : NoName left
  pub past : NzbLimit
  pub read : item s name (60 ∷ (name ++ left)) left ≡ Err (limit past)

-- an element of the grammar is read, or passes a limit
abbrev pub ReadsOrPasses : {S A : Type 0} → (S → List ℕ → List ℕ → List ℕ → ValueRead S) → (List ℕ → A → Type 0) → (S → A → S) → (S → Type 0) → Type 0
ReadsOrPasses {S} {A} item IsOne add Fits = (s : S) (x : A) (one rest : List ℕ) → IsOne one x → Fits s → (Fits (add s x) × ReadOne item add s x one rest) ⊎ PassesLimit item s one rest

child_read : {S : Type 0} (item : S → List ℕ → List ℕ → List ℕ → ValueRead S) (name : List ℕ) (fuel : ℕ) (s : S) (before n left : List ℕ) → IsBetween before → IsMarkupName n → NoName left →
    children item name (suc fuel) s (before ++ (60 ∷ (n ++ left))) ≡ (item s n (60 ∷ (n ++ left)) left >>= λ t. children item name fuel t.0 t.1)
child_read item name fuel s before n left b is ends =
    rw (between_stops before (60 ∷ (n ++ left)) b (tag_stops n left is)) (rw (name_other 47 n left refl is) (rw (name_back n left is ends) refl))

pub children_to : {S A : Type 0} (item : S → List ℕ → List ℕ → List ℕ → ValueRead S) (IsOne : List ℕ → A → Type 0) (add : S → A → S) (Fits : S → Type 0) (name : List ℕ) → ReadsOrPasses item IsOne add Fits → (end : List ℕ) (P : ValueRead S → Type 0) → ((l : NzbLimit) → P (Err (limit l))) →
    (xs : List A) (fuel : ℕ) (s : S) (inside : List ℕ) → AreElements IsOne inside xs → Fits s →
    ((front : List ℕ) (n : ℕ) (t : S) → IsBetween front → Fits t → t ≡ fold add s xs → length (front ++ end) ≤ n → P (children item name n t (front ++ end))) → length (inside ++ end) ≤ fuel → P (children item name fuel s (inside ++ end))
children_to item IsOne add Fits name reads end P passed [] fuel s inside are fits known l = known inside fuel s are fits refl l
children_to {S} {A} item IsOne add Fits name reads end P passed (x ∷ xs) fuel s inside (before, one, rest, e, b, is, are) fits known l =
    start fuel l (long (reads s x one [] is fits)) (λ n f short. children_to item IsOne add Fits name reads end P passed xs n (add s x) rest are f known short)
  where
    joined : (i b o r t h : List ℕ) → i ≡ b ++ o ++ r → o ++ (r ++ t) ≡ h → i ++ t ≡ b ++ h
    joined i b o r t h e f = rw (e, ← f) (simp append_assoc)

    long : (Fits (add s x) × ReadOne item add s x one []) ⊎ PassesLimit item s one [] → 1 ≤ length one
    long (inl (f, r)) = omega (arith, ap length r.text_is, length-append one [])
    long (inr p) = omega (arith, ap length p.text_is, length-append one [])

    start : (n : ℕ) → length (inside ++ end) ≤ n → 1 ≤ length one → ((n : ℕ) → Fits (add s x) → length (rest ++ end) ≤ n → P (children item name n (add s x) (rest ++ end))) → P (children item name n s (inside ++ end))
    start zero l o again = absurd (omega (arith, l, o, ap length e, length-append inside end, length-append (before ++ one) rest, length-append before one))
    start (suc n) l o again = go (reads s x one (rest ++ end) is fits)
      where
        short : length (rest ++ end) ≤ n
        short = omega (arith, l, o, ap length e, length-append inside end, length-append rest end, length-append (before ++ one) rest, length-append before one)

        go : (Fits (add s x) × ReadOne item add s x one (rest ++ end)) ⊎ PassesLimit item s one (rest ++ end) → P (children item name (suc n) s (inside ++ end))
        go (inl (f, r)) =
            let whole = joined inside before one rest end (60 ∷ (r.name ++ r.left)) e r.text_is in
            let read : children item name (suc n) s (inside ++ end) ≡ children item name n (add s x) (rest ++ end) = ap (λ (t : List ℕ). children item name (suc n) s t) whole ∙ child_read item name n s before r.name r.left b r.is_name r.ends ∙ rw r.read refl in
            subst P (sym read) (again n f short)
        go (inr p) =
            let whole = joined inside before one rest end (60 ∷ (p.name ++ p.left)) e p.text_is in
            let read : children item name (suc n) s (inside ++ end) ≡ Err (limit p.past) = ap (λ (t : List ℕ). children item name (suc n) s t) whole ∙ child_read item name n s before p.name p.left b p.is_name p.ends ∙ rw p.read refl in
            subst P (sym read) (passed p.past)

abbrev pub TellsOne : {S : Type 0} → (S → List ℕ → List ℕ → List ℕ → ValueRead S) → (List ℕ → Fault) → (S → Type 0) → Type 0
TellsOne {S} item OneFault Fits = (s : S) (from here : List ℕ) (reason : NzbReason) → Fits s → OneFault from here reason → OneTells item s from here reason

slash_stands : (end i : List ℕ) → end ≡ codes "</" ++ i → Stands end
slash_stands end i e = rw e (record { no_white = refl; no_comment = refl })

-- the fault behind the elements that are read
content_last : {S A : Type 0} (item : S → List ℕ → List ℕ → List ℕ → ValueRead S) (IsOne : List ℕ → A → Type 0) (add : S → A → S) (Fits : S → Type 0) (name : List ℕ) → ReadsOrPasses item IsOne add Fits → (s : S) (rest front from here : List ℕ) (reason : NzbReason) (xs : List A) →
    rest ≡ front ++ from → AreElements IsOne front xs → Fits s → 1 ≤ length from → ((before : List ℕ) (n : ℕ) (t : S) → IsBetween before → Fits t → length (before ++ from) ≤ suc n → Tells (children item name (suc n) t (before ++ from)) here reason) →
    Tells (children item name (length rest) s rest) here reason
content_last {S} item IsOne add Fits name reads s rest front from here reason xs e are fits long last =
    rw e (children_to item IsOne add Fits name reads from (λ (r : ValueRead S). Tells r here reason) (λ l. past_limit l refl) xs (length (front ++ from)) s front are fits over (omega arith))
  where
    over : (before : List ℕ) (n : ℕ) (t : S) → IsBetween before → Fits t → t ≡ fold add s xs → length (before ++ from) ≤ n → Tells (children item name n t (before ++ from)) here reason
    over before zero t b f same l = absurd (omega (arith, l, long, length-append before from))
    over before (suc n) t b f same l = last before n t b f l

end_tells : {S : Type 0} (item : S → List ℕ → List ℕ → List ℕ → ValueRead S) (name before end here : List ℕ) (n : ℕ) (t : S) (reason : NzbReason) (i : List ℕ) → IsBetween before → end ≡ codes "</" ++ i → Tells (end_tag name None end) here reason →
    Tells (children item name (suc n) t (before ++ end)) here reason
end_tells item name before end here n t reason i b e told_there =
    let begun : starts_with nat_eq end (codes "</") ≡ true = rw e refl in
    let read : children item name (suc n) t (before ++ end) ≡ (end_tag name None end >>= λ behind. Ok (t, behind)) = rw (between_stops before end b (slash_stands end i e)) (rw begun refl) in
    tells_as _ _ here reason read (tells_bind (end_tag name None end) (λ behind. Ok (t, behind)) here reason told_there)

pub broken_long : (from here : List ℕ) → BrokenBetween from here → 1 ≤ length from
broken_long from here (first_hyphen _ e o) = omega (arith, ap length e)
broken_long from here (comment_between _ (second_hyphen inside _ e b)) = omega (arith, ap length e)
broken_long from here (comment_between _ (in_comment inside _ e b)) = omega (arith, ap length e)

pub not_tag : (c : ℕ) (here : List ℕ) (x : ℕ) (m : List ℕ) → here ≡ x ∷ m → eqb 60 x ≡ false → starts_with nat_eq here (60 ∷ c ∷ []) ≡ false
not_tag c here x m e f = rw e (and_left (eqb 60 x) (starts_with nat_eq m (c ∷ [])) f)

no_tag_tells : {S : Type 0} (item : S → List ℕ → List ℕ → List ℕ → ValueRead S) (name before here : List ℕ) (n : ℕ) (t : S) → IsBetween before → behind_white here ≡ here → starts_with nat_eq here (codes "<!") ≡ false → starts_with nat_eq here (codes "</") ≡ false →
    word (codes "<") here ≡ stop_at here Unexpected → Tells (children item name (suc n) t (before ++ here)) here Unexpected
no_tag_tells item name before here n t b stands mark slash stop =
    rw (between_stops before here b (record { no_white = stands; no_comment = mark })) (rw slash (tells_bind (word (codes "<") here) _ here _ (told stop)))

no_name_tells : {S : Type 0} (item : S → List ℕ → List ℕ → List ℕ → ValueRead S) (name before here : List ℕ) (n : ℕ) (t : S) → IsBetween before → starts_with nat_eq here (codes "!") ≡ false → starts_with nat_eq here (codes "/") ≡ false → name_at here ≡ stop_at here Unexpected →
    Tells (children item name (suc n) t (before ++ (60 ∷ here))) here Unexpected
no_name_tells item name before here n t b mark slash stop =
    rw (between_stops before (60 ∷ here) b (record { no_white = refl; no_comment = mark })) (rw slash (tells_bind (name_at here) _ here _ (told stop)))

pub content_told : {S A : Type 0} (item : S → List ℕ → List ℕ → List ℕ → ValueRead S) (IsOne : List ℕ → A → Type 0) (add : S → A → S) (Fits : S → Type 0) (OneFault : List ℕ → Fault) (name : List ℕ) → ReadsOrPasses item IsOne add Fits → TellsOne item OneFault Fits →
    (s : S) (rest here : List ℕ) (reason : NzbReason) → Fits s → ContentFault IsOne OneFault name rest here reason → Tells (children item name (length rest) s rest) here reason
content_told {S} item IsOne add Fits OneFault name reads tells s rest here reason fits (in_one front from _ _ xs e are f) =
    content_last item IsOne add Fits name reads s rest front from here reason xs e are fits (let o = tells s from here reason fits f in omega (arith, ap length o.from_is))
    (λ before n t b g l. one before n t b (tells t from here reason g f))
  where
    one : (before : List ℕ) (n : ℕ) (t : S) → IsBetween before → OneTells item t from here reason → Tells (children item name (suc n) t (before ++ from)) here reason
    one before n t b o =
        let read : children item name (suc n) t (before ++ from) ≡ (item t o.name from o.left >>= λ u. children item name n u.0 u.1) =
        ap (λ (u : List ℕ). children item name (suc n) t (before ++ u)) o.from_is ∙ child_read item name n t before o.name o.left b o.is_name o.ends ∙ ap (λ (u : List ℕ). item t o.name u o.left >>= λ v. children item name n v.0 v.1) (sym o.from_is) in
        tells_as _ _ here reason read (tells_bind (item t o.name from o.left) _ here reason o.tells)
content_told {S} item IsOne add Fits OneFault name reads tells s rest here _ fits (end_in_content front _ other xs e are closes differs) =
    let i = closes_begins here other closes in
    content_last item IsOne add Fits name reads s rest front here here _ xs e are fits (omega (arith, ap length i.1))
    (λ before n t b g l. end_tells item name before here here n t WrongTag i.0 b i.1 (told (end_other_told name None here other closes differs)))
content_told {S} item IsOne add Fits OneFault name reads tells s rest here _ fits (no_end_name front from _ xs e are unnamed) =
    content_last item IsOne add Fits name reads s rest front from here _ xs e are fits (omega (arith, ap length unnamed.from_is))
    (λ before n t b g l. end_tells item name before from here n t Unexpected here b unnamed.from_is (told (end_name_told name None from here unnamed)))
content_told {S} item IsOne add Fits OneFault name reads tells s rest here _ fits (open_end front from _ xs e are unclosed) =
    let i = closes_begins from name unclosed.closes in
    content_last item IsOne add Fits name reads s rest front from here _ xs e are fits (omega (arith, ap length i.1))
    (λ before n t b g l. end_tells item name before from here n t Unexpected i.0 b i.1 (told (end_open_told name from here unclosed)))
content_told {S} item IsOne add Fits OneFault name reads tells s rest here _ fits (in_between front from _ xs e are broken) =
    content_last item IsOne add Fits name reads s rest front from here _ xs e are fits (broken_long from here broken)
    (λ before n t b g l. tells_bind (between (before ++ from)) _ here _ (told (between_to unexpected before from _ b (between_told from here broken) (length (before ++ from)) (omega arith))))
content_told {S} item IsOne add Fits OneFault name reads tells s rest here _ fits (no_tag front _ xs e are o) =
    let f = or_parts (is_white o.byte) (eqb 60 o.byte) o.is_other in
    content_last item IsOne add Fits name reads s rest front here here _ xs e are fits (omega (arith, ap length o.here_is))
    (λ before n t b g l. no_tag_tells item name before here n t b (white_stands _ here o f.0) (not_tag 33 here o.byte o.more o.here_is f.1) (not_tag 47 here o.byte o.more o.here_is f.1) (letter_told 60 _ here o f.1))
content_told {S} item IsOne add Fits OneFault name reads tells s rest here _ fits (no_name front _ xs e are o) =
    let f = or_parts (is_name_byte o.byte || eqb 47 o.byte) (eqb 33 o.byte) o.is_other in
    let g = or_parts (is_name_byte o.byte) (eqb 47 o.byte) f.0 in
    content_last item IsOne add Fits name reads s rest front (60 ∷ here) here _ xs e are fits (omega arith)
    (λ before n t b h l. no_name_tells item name before here n t b (not_first 33 here o.byte o.more o.here_is f.1) (not_first 47 here o.byte o.more o.here_is g.1) (name_missing _ here o g.0))

-- an element with elements in it, behind its `<` and name
pub parent_fault_tells : {S A B : Type 0} (checks : AttributeChecks) (item : S → List ℕ → List ℕ → List ℕ → ValueRead S) (IsOne : List ℕ → A → Type 0) (add : S → A → S) (Fits : S → Type 0) (OneFault : List ℕ → Fault) (name : List ℕ) → ReadsOrPasses item IsOne add Fits → TellsOne item OneFault Fits →
    (start : Tag → S) → ((tag : Tag) → Fits (start tag)) → (f : Tag → S × List ℕ → Result B Stop) → (from here : List ℕ) (reason : NzbReason) → ParentFault checks IsOne OneFault name from here reason →
    (left : List ℕ) × (from ≡ 60 ∷ (name ++ left)) × NoName left × Tells (tag_at checks left >>= λ tag. parent item name tag.0 (start tag.0) tag.1 >>= f tag.0) here reason
parent_fault_tells checks item IsOne add Fits OneFault name reads tells start fits f from here reason (parent_tag rest _ _ e fault) =
    (rest, e, tag_no_name checks rest here reason fault, tells_bind (tag_at checks rest) _ here reason (tag_told checks rest here reason fault))
parent_fault_tells checks item IsOne add Fits OneFault name reads tells start fits f from here reason (parent_content attributes rest _ _ begun fault) =
    let st = started checks name from attributes false rest begun in (
      st.left,
      st.from_is,
      st.ends,
      rw st.read (tells_bind (children item name (length rest) (start (opened attributes)) rest) (f (opened attributes)) here reason
          (content_told item IsOne add Fits OneFault name reads tells (start (opened attributes)) rest here reason (fits (opened attributes)) fault)),
    )

-- an element of the grammar fits, or passes a limit
pub parent_passes : {S A : Type 0} (item : S → List ℕ → List ℕ → List ℕ → ValueRead S) (IsOne : List ℕ → A → Type 0) (add : S → A → S) (Fits : S → Type 0) (name : List ℕ) → ReadsOrPasses item IsOne add Fits → (tag : Tag) (s : S) (mid inside behind : List ℕ) (xs : List A) →
    Content name tag.closed mid inside behind → AreElements IsOne inside xs → Fits s → Fits (fold add s xs) ⊎ ((l : NzbLimit) × (parent item name tag s mid ≡ Err (limit l)))
parent_passes {S} {A} item IsOne add Fits name reads tag s mid inside behind xs (no_content c i m) are fits = inl (nothing xs (rw i at are))
  where
    nothing : (ys : List A) → AreElements IsOne [] ys → Fits (fold add s ys)
    nothing [] h = fits
    nothing (y ∷ ys) (before, one, rest, e, b, is, h) = absurd (long (reads s y one [] is fits))
      where
        long : (Fits (add s y) × ReadOne item add s y one []) ⊎ PassesLimit item s one [] → ⊥
        long (inl (f, r)) = omega (arith, ap length r.text_is, length-append one [], ap length e, length-append (before ++ one) rest, length-append before one)
        long (inr p) = omega (arith, ap length p.text_is, length-append one [], ap length e, length-append (before ++ one) rest, length-append before one)
parent_passes {S} {A} item IsOne add Fits name reads tag s mid inside behind xs (some_content last c w m) are fits =
    let end : List ℕ = 60 ∷ 47 ∷ (name ++ (last ++ 62 ∷ behind)) in
    let mid_is : mid ≡ inside ++ end = joined mid inside name last m in
    let went : Passed (children item name (length (inside ++ end)) s (inside ++ end)) =
    children_to item IsOne add Fits name reads end Passed (λ l. inr (l, refl)) xs (length (inside ++ end)) s inside are fits (λ front n t b f same l. inl (subst Fits same f)) (omega arith) in
    rw c (rw mid_is went)
  where
    Passed : ValueRead S → Type 0
    Passed r = Fits (fold add s xs) ⊎ ((l : NzbLimit) × (r ≡ Err (limit l)))

    joined : (m i n l : List ℕ) → m ≡ i ++ codes "</" ++ n ++ l ++ codes ">" ++ behind → m ≡ i ++ (60 ∷ 47 ∷ (n ++ (l ++ 62 ∷ behind)))
    joined m i n l e = rw e (simp append_assoc)
