-- A text that has a reason of the table is refused for it: words, references, attributes and texts.
use Rattle.std.proofs.Common.{◌≡◌, ◌≢◌, ℕ, zero, suc, ◌≤◌, Bool, true, false, cond, eqb, ◌||◌, List, [], ◌∷◌, ◌++◌, length, Result, Ok, Err, refl, sym, ap, subst, ◌∙◌, append_assoc, arith, inl, inr, ◌⊎◌}
use Rattle.std.specs.Prelude.{codes, nat_eq}
use Rattle.std.specs.List.{starts_with, list_any}
use Rattle.std.proofs.lemmas.Bool.Decides.{nat_tests}
use Rattle.std.proofs.lemmas.Bool.{eqb-true, eq-eqb, ne_eqb, and_parts, or_parts, and_left, false_from_ne_true, not-false}
use Rattle.std.proofs.lemmas.List.{length-append, append-nil, append_cancel_left}
use Rattle.nzb_index.specs.declared.error.NzbReason.{NzbReason}
use Rattle.nzb_index.specs.declared.error.NzbReason.TheVariants.{Ended, Unexpected, BadReference, BadNumber, WrongTag}
use Rattle.nzb_index.specs.declared.error.NzbLimit.{NzbLimit}
use Rattle.nzb_writer.specs.Markup.{is_white, is_control, is_name_byte, IsWhite, IsMarkupName, IsBetween, Attribute, has_attribute, AttributeChecks, AreAttributes}
use Rattle.nzb_index.specs.MarkupReading.{Stop, ValueRead, Tag, text_at, refused, limit, stop_at, unexpected, word, up_to, name_at, between_or, behind_white, reference_at, value_at, quoted_at, attribute_at, tag_rest, tag_at, with_front, ◌>>=◌}
use Rattle.nzb_index.specs.Broken.{OtherByte, BrokenWord, BrokenInside, BrokenComment, second_hyphen, in_comment, BrokenBetween, first_hyphen, comment_between, NameEnds}
use Rattle.nzb_index.specs.Reasons.{NoReference, ValueFault, no_reference, no_value_byte, AttributeFault, second_of_a_name, fault_in_value, value_not_allowed, no_white, no_attribute, no_close, no_equals, no_quote, TagFault, TextStop, tag_in_text, no_reference_in_text, control_in_text, no_comment_in_text, comment_in_text, no_name_in_text}
use Rattle.nzb_index.proofs.WordsRead.{then, NoName, name_back, no_name_white, white_more, behind_all_white, between_back}
use Rattle.nzb_index.proofs.TextsFound.{Reference}
use Rattle.nzb_index.proofs.TextsRead.{value_to, bytes_of}
use Rattle.nzb_index.proofs.TagsRead.{quoted_back, attribute_back, attribute_long, name_white, name_other, quote_is}
use Rattle.nzb_index.proofs.ElementsFound.{reference_gives}
use Rattle.nzb_index.proofs.Stops.{reference_stop, AtReference}

-- The reading stops for this reason, at this place; or at a limit that is passed before. A reference that runs up to the
-- text's end is judged only later.
pub data Tells {A : Type 0} (r : Result A Stop) (here : List ℕ) (reason : NzbReason) : Type 0 where
  told : r ≡ Err (refused (length here) reason) → Tells r here reason
  past_limit : (l : NzbLimit) → r ≡ Err (limit l) → Tells r here reason
  not_judged : reason ≡ BadReference → r ≡ Err (refused 0 Ended) → Tells r here reason

pub tells_bind : {A B : Type 0} (r : Result A Stop) (f : A → Result B Stop) (here : List ℕ) (reason : NzbReason) → Tells r here reason → Tells (r >>= f) here reason
tells_bind r f here reason (told e) = told (rw e refl)
tells_bind r f here reason (past_limit l e) = past_limit l (rw e refl)
tells_bind r f here reason (not_judged b e) = not_judged b (rw e refl)

pub tells_as : {A : Type 0} (r s : Result A Stop) (here : List ℕ) (reason : NzbReason) → r ≡ s → Tells s here reason → Tells r here reason
tells_as r s here reason e t = subst (λ x. Tells x here reason) (sym e) t

pub tells_then : {A B : Type 0} (r : Result A Stop) (f : A → Result B Stop) (x : A) (here : List ℕ) (reason : NzbReason) → r ≡ Ok x → Tells (f x) here reason → Tells (r >>= f) here reason
tells_then r f x here reason e t = rw e t

pub tells_front : (a : List ℕ) (r : ValueRead (List ℕ)) (here : List ℕ) (reason : NzbReason) → Tells r here reason → Tells (with_front a r) here reason
tells_front a r here reason t = tells_bind r (λ x. Ok (a ++ x.0, x.1)) here reason t

pub bind_stop : {A B : Type 0} (r : Result A Stop) (f : A → Result B Stop) (s : Stop) → r ≡ Err s → (r >>= f) ≡ Err s
bind_stop r f s e = rw e refl

-- the stop that tells it
pub tells_err : {A B : Type 0} (r : Result A Stop) (here : List ℕ) (reason : NzbReason) → Tells r here reason → (s : Stop) × (r ≡ Err s) × Tells {A = B} (Err s) here reason
tells_err r here reason (told e) = (refused (length here) reason, e, told refl)
tells_err r here reason (past_limit l e) = (limit l, e, past_limit l refl)
tells_err r here reason (not_judged b e) = (refused 0 Ended, e, not_judged b refl)

-- ---- words

pub byte_stops : {A : Type 0} (allowed : ℕ → Bool) (here : List ℕ) → OtherByte allowed here → unexpected {A = A} here ≡ stop_at here Unexpected
byte_stops {A} allowed here o = go here o.byte o.more o.here_is
  where
    go : (h : List ℕ) (x : ℕ) (m : List ℕ) → h ≡ x ∷ m → unexpected {A = A} h ≡ stop_at h Unexpected
    go h x m e = rw e refl

word_breaks : (begun : List ℕ) (next : ℕ) (missing here : List ℕ) (byte : ℕ) (more : List ℕ) → here ≡ byte ∷ more → eqb next byte ≡ false → word (begun ++ next ∷ missing) (begun ++ here) ≡ stop_at here Unexpected
word_breaks [] next missing here byte more e f = rw e (rw f refl)
word_breaks (x ∷ begun) next missing here byte more e f = rw (eq-eqb x x refl) (word_breaks begun next missing here byte more e f)

pub word_told : (w rest here : List ℕ) → BrokenWord w rest here → word w rest ≡ stop_at here Unexpected
word_told w rest here b = rw (b.word_is, b.rest_is) (word_breaks b.begun b.next b.missing here b.other.byte b.other.more b.other.here_is b.other.is_other)

pub letter_told : (c : ℕ) (allowed : ℕ → Bool) (here : List ℕ) (o : OtherByte allowed here) → eqb c o.byte ≡ false → word (c ∷ []) here ≡ stop_at here Unexpected
letter_told c allowed here o e = word_breaks [] c [] here o.byte o.more o.here_is e

no_control_in : (a here w : List ℕ) (x : ℕ) (more : List ℕ) → here ≡ x ∷ more → is_control x ≡ true → list_any is_control w ≡ false → starts_with nat_eq (a ++ here) w ≡ true → (b : List ℕ) × (a ≡ w ++ b)
no_control_in a here [] x more e k clean s = (a, refl)
no_control_in [] here (c ∷ w) x more e k clean s =
    let both : starts_with nat_eq (x ∷ more) (c ∷ w) ≡ true = rw e at s in
    let same = eqb-true c x (and_parts (eqb c x) (starts_with nat_eq more w) both).0 in
    let r = or_parts (is_control c) (list_any is_control w) clean in
    absurd (let f : true ≡ false = sym k ∙ (rw same at r.0) in cc)
no_control_in (y ∷ a) here (c ∷ w) x more e k clean s =
    let p = and_parts (eqb c y) (starts_with nat_eq (a ++ here) w) s in
    let r = or_parts (is_control c) (list_any is_control w) clean in
    let same = eqb-true c y p.0 in
    let m = no_control_in a here w x more e k r.1 p.1 in
    (m.0, ap (λ (z : ℕ). z ∷ a) (sym same) ∙ ap (λ (t : List ℕ). c ∷ t) m.1)

inside_breaks : (c : ℕ) (w : List ℕ) → list_any is_control (c ∷ w) ≡ false → (inside here : List ℕ) (x : ℕ) (more : List ℕ) → here ≡ x ∷ more → is_control x ≡ true → list_any is_control inside ≡ false → ((a b : List ℕ) → inside ≡ a ++ (c ∷ w) ++ b → ⊥) →
    up_to (c ∷ w) (inside ++ here) ≡ stop_at here Unexpected
inside_breaks c w clean [] here x more e k i none = rw e (rw k refl)
inside_breaks c w clean (y ∷ inside) here x more e k i none =
    let r = or_parts (is_control y) (list_any is_control inside) i in
    let no_start : starts_with nat_eq ((y ∷ inside) ++ here) (c ∷ w) ≡ false = false_from_ne_true _ (λ s. let m = no_control_in (y ∷ inside) here (c ∷ w) x more e k clean s in none [] m.0 m.1) in
    rw (r.0, no_start) (inside_breaks c w clean inside here x more e k r.1 (λ a b f. none (y ∷ a) b (ap (λ (t : List ℕ). y ∷ t) f)))

pub inside_told : (c : ℕ) (w rest here : List ℕ) → list_any is_control (c ∷ w) ≡ false → BrokenInside (c ∷ w) rest here → up_to (c ∷ w) rest ≡ stop_at here Unexpected
inside_told c w rest here clean b = rw b.rest_is (inside_breaks c w clean b.inside here b.control.byte b.control.more b.control.here_is (not-false _ b.control.is_other) b.is_text b.not_ended)

-- ---- names

pub name_missing : (allowed : ℕ → Bool) (here : List ℕ) (o : OtherByte allowed here) → is_name_byte o.byte ≡ false → name_at here ≡ stop_at here Unexpected
name_missing allowed here o e = go here o.byte o.more o.here_is e
  where
    go : (h : List ℕ) (x : ℕ) (m : List ℕ) → h ≡ x ∷ m → is_name_byte x ≡ false → name_at h ≡ stop_at h Unexpected
    go h x m f n = rw f (rw n (let z : eqb 0 (length (x ∷ m)) ≡ false = ne_eqb 0 (length (x ∷ m)) (λ e. absurd (omega (arith, e))) in rw z refl))

pub name_told : (text name rest : List ℕ) → text ≡ name ++ rest → NameEnds text name → (name_at text ≡ Ok (name, rest)) × NoName rest
name_told text name rest e n =
    let same : rest ≡ n.byte ∷ n.more = append_cancel_left name rest (n.byte ∷ n.more) (sym e ∙ n.text_is) in
    let none : NoName rest = record { byte = n.byte; more = n.more; text_is = same; is_none = n.is_other } in
    (rw e (name_back name rest n.is_name none), none)

-- ---- white and comments

pub between_to : (otherwise : List ℕ → Result (List ℕ) Stop) (front from : List ℕ) (r : Result (List ℕ) Stop) → IsBetween front → ((k : ℕ) → between_or otherwise (suc k) from ≡ r) → (fuel : ℕ) → length (front ++ from) ≤ fuel → between_or otherwise (suc fuel) (front ++ from) ≡ r
between_to otherwise front from r (pieces, e, all) known fuel l = rw e (between_back otherwise from r known pieces fuel all (omega (arith, ap length e, length-append front from)))

pub comment_told : (otherwise : List ℕ → Result (List ℕ) Stop) (from here : List ℕ) → BrokenComment from here → (k : ℕ) → between_or otherwise (suc k) from ≡ stop_at here Unexpected
comment_told otherwise from here (second_hyphen inside _ e b) k = go from inside e (word_told (codes "<!--") from here b)
  where
    go : (f i : List ℕ) → f ≡ codes "<!-" ++ i → word (codes "<!--") f ≡ stop_at here Unexpected → between_or otherwise (suc k) f ≡ stop_at here Unexpected
    go f i e w = rw e (bind_stop (word (codes "<!--") (codes "<!-" ++ i)) _ (refused (length here) Unexpected) (rw e at w))
comment_told otherwise from here (in_comment inside _ e b) k = rw e (rw (inside_told 45 (codes "->") inside here refl b) refl)

pub between_told : (from here : List ℕ) → BrokenBetween from here → (k : ℕ) → between_or unexpected (suc k) from ≡ stop_at here Unexpected
between_told from here (first_hyphen _ e o) k = rw e (go here o.byte o.more o.here_is o.is_other)
  where
    go : (h : List ℕ) (x : ℕ) (m : List ℕ) → h ≡ x ∷ m → eqb 45 x ≡ false → between_or unexpected (suc k) (codes "<!" ++ h) ≡ stop_at h Unexpected
    go h x m f n = rw f (rw n refl)
between_told from here (comment_between _ c) k = comment_told unexpected from here c k

-- ---- references and values

-- a reference that never is one isn't read
pub reference_told : (here : List ℕ) → NoReference here → (rest : List ℕ) → here ≡ 38 ∷ rest → Tells (reference_at here rest) here BadReference
unfolding Reference
reference_told here none rest e = go (reference_at here rest) refl
  where
    go : (r : ValueRead (List ℕ)) → reference_at here rest ≡ r → Tells r here BadReference
    go (Ok x) f =
        let g = (reference_gives here rest).given x f in
        absurd (none.none [] (38 ∷ g.0) x.0 x.1 (append-nil here ∙ e ∙ ap (λ (t : List ℕ). 38 ∷ t) g.1) g.2)
    go (Err s) f = stopped s ((reference_stop here rest).stopped s f)
      where
        as_error : Stop → ValueRead (List ℕ)
        as_error t = Err t

        stopped : (t : Stop) → AtReference here t → Tells (as_error t) here BadReference
        stopped t (inl i) = not_judged refl (ap (λ (u : Stop). as_error u) i)
        stopped t (inr i) = told (ap (λ (u : Stop). as_error u) i)

-- a value stops there, whatever fuel is left
pub record ValueTold (quote : ℕ) (here : List ℕ) (reason : NzbReason) : Type 0 where
  pub result : ValueRead (List ℕ)
  pub known : (fuel : ℕ) → length here ≤ fuel → value_at quote fuel here ≡ result
  pub tells : Tells result here reason
  pub no_feed : starts_with nat_eq here (codes "\n") ≡ false

bad_byte : (x quote : ℕ) → (quote ≡ 34) ⊎ (quote ≡ 39) → (eqb x 60 || is_control x) ≡ true → eqb x quote ≡ false
bad_byte x quote (inl e) t = rw e (no_34 x t)
  where
    no_34 : (y : ℕ) → (eqb y 60 || is_control y) ≡ true → eqb y 34 ≡ false
    no_34 y t = grind (arith, nat_tests)
bad_byte x quote (inr e) t = rw e (no_39 x t)
  where
    no_39 : (y : ℕ) → (eqb y 60 || is_control y) ≡ true → eqb y 39 ≡ false
    no_39 y t = grind (arith, nat_tests)

bad_no_feed : (x : ℕ) → (eqb x 60 || is_control x) ≡ true → eqb 10 x ≡ false
bad_no_feed x t = grind (arith, nat_tests)

amp_no_quote : (quote : ℕ) → (quote ≡ 34) ⊎ (quote ≡ 39) → eqb 38 quote ≡ false
amp_no_quote quote (inl e) = rw e refl
amp_no_quote quote (inr e) = rw e refl

pub value_told : (quote : ℕ) → (quote ≡ 34) ⊎ (quote ≡ 39) → (here : List ℕ) (reason : NzbReason) → ValueFault here reason → ValueTold quote here reason
value_told quote k here _ (no_reference none) = subst (λ (t : List ℕ). ValueTold quote t BadReference) (sym none.here_is) (go none.rest (tells_err _ (38 ∷ none.rest) BadReference (reference_told (38 ∷ none.rest) (subst NoReference none.here_is none) none.rest refl)))
  where
    go : (rest : List ℕ) → (s : Stop) × (reference_at (38 ∷ rest) rest ≡ Err s) × Tells {A = List ℕ × List ℕ} (Err s) (38 ∷ rest) BadReference → ValueTold quote (38 ∷ rest) BadReference
    go rest (s, e, t) = record { result = Err s; known = over; tells = t; no_feed = refl }
      where
        over : (fuel : ℕ) → length (38 ∷ rest) ≤ fuel → value_at quote fuel (38 ∷ rest) ≡ Err s
        over zero l = absurd (omega arith)
        over (suc fuel) l = rw (amp_no_quote quote k) (rw e refl)
value_told quote k here _ (no_value_byte o) = go here o.byte o.more o.here_is (not-false _ o.is_other)
  where
    go : (h : List ℕ) (x : ℕ) (m : List ℕ) → h ≡ x ∷ m → (eqb x 60 || is_control x) ≡ true → ValueTold quote h Unexpected
    go h x m e t = rw e (record { result = Err (refused (length (x ∷ m)) Unexpected); known = over; tells = told refl; no_feed = and_left (eqb 10 x) true (bad_no_feed x t) })
      where
        over : (fuel : ℕ) → length (x ∷ m) ≤ fuel → value_at quote fuel (x ∷ m) ≡ Err (refused (length (x ∷ m)) Unexpected)
        over zero l = absurd (omega arith)
        over (suc fuel) l = rw (bad_byte x quote k t) (rw t refl)

-- ---- attributes

abbrev judged : AttributeChecks → List ℕ → List ℕ → List ℕ × List ℕ → ValueRead Attribute
judged checks from name value = (cond (checks name value.0) (Ok true) (stop_at from BadNumber)) >>= λ fits. Ok (record { name = name; value = value.0 }, value.1)

-- an attribute up to its value
attribute_on : (checks : AttributeChecks) (earlier : List Attribute) (name before after left : List ℕ) → IsMarkupName name → has_attribute name earlier ≡ false → IsWhite before → IsWhite after → behind_white left ≡ left →
    attribute_at checks earlier (name ++ (before ++ 61 ∷ (after ++ left))) ≡ (quoted_at left >>= judged checks (name ++ (before ++ 61 ∷ (after ++ left))) name)
attribute_on checks earlier name before after left n new w u stands =
    then (name_at (name ++ (before ++ 61 ∷ (after ++ left)))) _ (name, before ++ 61 ∷ (after ++ left)) _ (name_back name (before ++ 61 ∷ (after ++ left)) n (no_name_white before (61 ∷ (after ++ left)) w (record { byte = 61; more = after ++ left; text_is = refl; is_none = refl })))
    (rw (new, behind_all_white before 61 (after ++ left) w refl) (rw (white_more after left u ∙ stands) refl))

tag_on : (checks : AttributeChecks) (n : ℕ) (earlier : List Attribute) (white at : List ℕ) → IsWhite white → white ≢ [] → behind_white at ≡ at → starts_with nat_eq at (codes ">") ≡ false → starts_with nat_eq at (codes "/") ≡ false →
    tag_rest checks (suc n) earlier (white ++ at) ≡ (attribute_at checks earlier at >>= λ a. tag_rest checks n (earlier ++ a.0 ∷ []) a.1)
tag_on checks n earlier white at w some stands e s =
    let here : behind_white (white ++ at) ≡ at = white_more white at w ∙ stands in
    let shorter : eqb (length at) (length (white ++ at)) ≡ false = ne_eqb (length at) (length (white ++ at)) (longer white at some) in
    rw here (rw (e, s, shorter) refl)
  where
    longer : (b h : List ℕ) → b ≢ [] → length h ≡ length (b ++ h) → ⊥
    longer [] h s e = s refl
    longer (x ∷ b) h s e = absurd (omega (arith, length-append b h, e))

record Begins (at : List ℕ) : Type 0 where
  pub stands : behind_white at ≡ at
  pub no_end : starts_with nat_eq at (codes ">") ≡ false
  pub no_slash : starts_with nat_eq at (codes "/") ≡ false

name_begins : (name rest : List ℕ) → IsMarkupName name → Begins (name ++ rest)
name_begins name rest n = record { stands = name_white name rest n; no_end = name_other 62 name rest refl n; no_slash = name_other 47 name rest refl n }

byte_begins : (at : List ℕ) (x : ℕ) (m : List ℕ) → at ≡ x ∷ m → (is_white x || eqb 62 x || eqb 47 x) ≡ false → Begins at
byte_begins at x m e f =
    let b = or_parts (is_white x || eqb 62 x) (eqb 47 x) f in
    let c = or_parts (is_white x) (eqb 62 x) b.0 in
    rw e (record { stands = rw c.0 refl; no_end = and_left (eqb 62 x) true c.1; no_slash = and_left (eqb 47 x) true b.1 })

-- the attribute at this place tells it
attribute_tells : (checks : AttributeChecks) (n : ℕ) (earlier : List Attribute) (rest white at here : List ℕ) (reason : NzbReason) → rest ≡ white ++ at → IsWhite white → white ≢ [] → Begins at → Tells (attribute_at checks earlier at) here reason → Tells (tag_rest checks (suc n) earlier rest) here reason
attribute_tells checks n earlier rest white at here reason e w some b t =
    rw e (tells_as _ _ here reason (tag_on checks n earlier white at w some b.stands b.no_end b.no_slash) (tells_bind (attribute_at checks earlier at) _ here reason t))

pub white_stands : (allowed : ℕ → Bool) (here : List ℕ) (o : OtherByte allowed here) → is_white o.byte ≡ false → behind_white here ≡ here
white_stands allowed here o f = go here o.byte o.more o.here_is f
  where
    go : (h : List ℕ) (x : ℕ) (m : List ℕ) → h ≡ x ∷ m → is_white x ≡ false → behind_white h ≡ h
    go h x m e n = rw e (rw n refl)

quote_stands : (quote : ℕ) (rest : List ℕ) → (quote ≡ 34) ⊎ (quote ≡ 39) → behind_white (quote ∷ rest) ≡ quote ∷ rest
quote_stands quote rest (inl e) = rw e refl
quote_stands quote rest (inr e) = rw e refl

white_long : (w t : List ℕ) → w ≢ [] → 1 ≤ length (w ++ t)
white_long [] t s = absurd (s refl)
white_long (x ∷ w) t s = omega arith

byte_long : (t : List ℕ) (x : ℕ) (m : List ℕ) → t ≡ x ∷ m → 1 ≤ length t
byte_long t x m e = omega (arith, ap length e)

fault_long : (checks : AttributeChecks) (earlier : List Attribute) (rest here : List ℕ) (reason : NzbReason) → AttributeFault checks earlier rest here reason → 1 ≤ length rest
fault_long checks earlier rest here _ (second_of_a_name white _ name e w some ends has) = rw e (white_long white here some)
fault_long checks earlier rest here reason (fault_in_value white name f g raw bytes _ quote _ e w some n new wf wg q i v fault) = rw e (white_long white _ some)
fault_long checks earlier rest here _ (value_not_allowed white one behind tail a e w begins is new bad) =
    let long = attribute_long (white ++ one) a is in omega (arith, ap length e, length-append white (one ++ behind), length-append one behind, length-append white one, long)
fault_long checks earlier rest here _ (no_white _ e o named) = let long = byte_long here o.byte o.more o.here_is in omega (arith, ap length e, long)
fault_long checks earlier rest here _ (no_attribute white _ e w some o) = rw e (white_long white here some)
fault_long checks earlier rest here _ (no_close white from inside _ e w f b) = omega (arith, ap length e, length-append white from, ap length f)
fault_long checks earlier rest here _ (no_equals white from name behind _ e w some ends new f wb o) = rw e (white_long white from some)
fault_long checks earlier rest here _ (no_quote white name f g _ e w some n new wf wg o) = rw e (white_long white _ some)

quote_missing : (here : List ℕ) (x : ℕ) (m : List ℕ) → here ≡ x ∷ m → (eqb x 34 || eqb x 39) ≡ false → quoted_at here ≡ stop_at here Unexpected
quote_missing here x m e f = rw e (rw f refl)

nothing_apart : (checks : AttributeChecks) (k : ℕ) (earlier : List Attribute) (here : List ℕ) → Begins here → unexpected {A = Tag × List ℕ} here ≡ stop_at here Unexpected → tag_rest checks (suc k) earlier here ≡ stop_at here Unexpected
nothing_apart checks k earlier here b u = rw b.stands (rw (b.no_end, b.no_slash, eq-eqb (length here) (length here) refl) u)

fault_told : (checks : AttributeChecks) (k : ℕ) (earlier : List Attribute) (rest here : List ℕ) (reason : NzbReason) → AttributeFault checks earlier rest here reason → Tells (tag_rest checks (suc k) earlier rest) here reason
fault_told checks k earlier rest here _ (second_of_a_name white _ name e w some ends has) =
    let n = name_told here name (ends.byte ∷ ends.more) ends.text_is ends in
    attribute_tells checks k earlier rest white here here _ e w some (subst Begins (sym ends.text_is) (name_begins name (ends.byte ∷ ends.more) ends.is_name)) (told (rw n.0 (rw has refl)))
fault_told checks k earlier rest here reason (fault_in_value white name f g raw bytes _ quote _ e w some n new wf wg q i (pieces, all, spaced_is, bytes_are) fault) =
    let v = value_told quote q here reason fault in
    let left : List ℕ = quote ∷ (raw ++ here) in
    let at : List ℕ = name ++ (f ++ 61 ∷ (g ++ left)) in
    let whole : rest ≡ white ++ at = joined rest white name f g left e in
    let begun : quoted_at left ≡ value_at quote (length (raw ++ here)) (raw ++ here) = rw (quote_is quote q) refl in
    let read = value_to quote q here v.result v.no_feed v.known (length (raw ++ here)) raw pieces all spaced_is i (omega arith) in
    attribute_tells checks k earlier rest white at here reason whole w some (name_begins name _ n)
    (tells_as _ _ here reason (attribute_on checks earlier name f g left n new wf wg (quote_stands quote (raw ++ here) q)) (tells_bind (quoted_at left) (judged checks at name) here reason
    (tells_as _ _ here reason (begun ∙ read) (tells_front (bytes_of pieces) v.result here reason v.tells))))
  where
    joined : (r w n f g l : List ℕ) → r ≡ w ++ (n ++ (f ++ codes "=" ++ (g ++ l))) → r ≡ w ++ (n ++ (f ++ 61 ∷ (g ++ l)))
    joined r w n f g l e = rw e (simp append_assoc)
fault_told checks k earlier rest here _ (value_not_allowed white one behind tail a e w begins is new bad) =
    let left : List ℕ = is.quote ∷ (is.value ++ is.quote ∷ behind) in
    let at : List ℕ = a.name ++ (is.behind_name ++ 61 ∷ (is.behind_equals ++ left)) in
    let whole : rest ≡ is.before ++ at = e ∙ sym (append_assoc white one behind) ∙ joined (white ++ one) is.before a.name is.behind_name is.behind_equals is.value is.quote is.text_is in
    let named : behind_white (one ++ behind) ≡ one ++ behind = rw (begins, append_assoc a.name tail behind) (name_white a.name (tail ++ behind) is.is_name) in
    let same : one ++ behind ≡ at = sym (white_more white (one ++ behind) w ∙ named) ∙ ap (λ (t : List ℕ). behind_white t) (sym e ∙ whole) ∙ white_more is.before at is.white.0 ∙ name_white a.name _ is.is_name in
    let read = quoted_back is.quote is.is_quote is.value a.value behind is.within_quotes is.is_value in
    subst (λ (t : List ℕ). Tells (tag_rest checks (suc k) earlier rest) t BadNumber) (sym same)
    (attribute_tells checks k earlier rest is.before at at BadNumber whole is.white.0 is.apart (name_begins a.name _ is.is_name)
    (tells_as _ _ at BadNumber (attribute_on checks earlier a.name is.behind_name is.behind_equals left is.is_name new is.white.1 is.white.2 (quote_stands is.quote _ is.is_quote)) (told (rw read (rw bad refl)))))
  where
    joined : (f b n m w v : List ℕ) (q : ℕ) → f ≡ b ++ n ++ m ++ codes "=" ++ w ++ q ∷ v ++ q ∷ [] → f ++ behind ≡ b ++ (n ++ (m ++ 61 ∷ (w ++ q ∷ (v ++ q ∷ behind))))
    joined f b n m w v q e = rw e (simp append_assoc)
fault_told checks k earlier rest here _ (no_white _ e o named) =
    rw e (told (nothing_apart checks k earlier here (byte_begins here o.byte o.more o.here_is o.is_other) (byte_stops _ here o)))
fault_told checks k earlier rest here _ (no_attribute white _ e w some o) =
    let f = or_parts (is_white o.byte || eqb 62 o.byte || eqb 47 o.byte) (is_name_byte o.byte) o.is_other in
    attribute_tells checks k earlier rest white here here _ e w some (byte_begins here o.byte o.more o.here_is f.0) (tells_bind (name_at here) _ here _ (told (name_missing _ here o f.1)))
fault_told checks k earlier rest here _ (no_close white from inside _ e w f b) =
    let stop : word (codes "/>") (47 ∷ inside) ≡ stop_at here Unexpected = subst (λ (t : List ℕ). word (codes "/>") t ≡ stop_at here Unexpected) f (word_told (codes "/>") from here b) in
    let front : rest ≡ white ++ 47 ∷ inside = e ∙ ap (λ (t : List ℕ). white ++ t) f in
    rw front (rw (behind_all_white white 47 inside w refl) (tells_bind (word (codes "/>") (47 ∷ inside)) _ here _ (told stop)))
fault_told checks k earlier rest here _ (no_equals white from name behind _ e w some ends new f wb o) =
    let g = or_parts (is_white o.byte) (eqb 61 o.byte) o.is_other in
    let n = name_told from name (behind ++ here) f ends in
    let stands : behind_white (behind ++ here) ≡ here = white_more behind here wb ∙ white_stands _ here o g.0 in
    let read : attribute_at checks earlier from ≡ (word (codes "=") here >>= λ b. quoted_at (behind_white b) >>= judged checks from name) = rw n.0 (rw (new, stands) refl) in
    attribute_tells checks k earlier rest white from here _ e w some (subst Begins (sym ends.text_is) (name_begins name (ends.byte ∷ ends.more) ends.is_name))
    (tells_as _ _ here _ read (tells_bind (word (codes "=") here) _ here _ (told (letter_told 61 _ here o g.1))))
fault_told checks k earlier rest here _ (no_quote white name f g _ e w some n new wf wg o) =
    let b = or_parts (is_white o.byte) (eqb o.byte 34 || eqb o.byte 39) o.is_other in
    let at : List ℕ = name ++ (f ++ 61 ∷ (g ++ here)) in
    attribute_tells checks k earlier rest white at here _ (joined rest white name f g here e) w some (name_begins name _ n)
    (tells_as _ _ here _ (attribute_on checks earlier name f g here n new wf wg (white_stands _ here o b.0)) (tells_bind (quoted_at here) (judged checks at name) here _ (told (quote_missing here o.byte o.more o.here_is b.1))))
  where
    joined : (r w n f g l : List ℕ) → r ≡ w ++ (n ++ (f ++ codes "=" ++ (g ++ l))) → r ≡ w ++ (n ++ (f ++ 61 ∷ (g ++ l)))
    joined r w n f g l e = rw e (simp append_assoc)

-- attributes are read, and the tag goes on behind them
attributes_to : (checks : AttributeChecks) (attributes earlier : List Attribute) (text left : List ℕ) (fuel : ℕ) → AreAttributes checks earlier text attributes → length (text ++ left) ≤ fuel →
    (n : ℕ) × (length left ≤ n) × (tag_rest checks fuel earlier (text ++ left) ≡ tag_rest checks n (earlier ++ attributes) left)
attributes_to checks [] earlier text left fuel are l = (fuel, omega (arith, l, length-append text left), rw (are, append-nil earlier) refl)
attributes_to checks (a ∷ more) earlier text left zero (first, rest, e, is, new, fits, are) l = let long = attribute_long first a is in absurd (omega (arith, l, long, ap length e, length-append text left, length-append first rest))
attributes_to checks (a ∷ more) earlier text left (suc fuel) (first, rest, e, is, new, fits, are) l =
    let long = attribute_long first a is in
    let m = attributes_to checks more (earlier ++ a ∷ []) rest left fuel are (omega (arith, long, l, ap length e, length-append first rest, length-append text left, length-append rest left)) in
    (m.0, m.1, step text m.0 e m.2)
  where
    step : (t : List ℕ) (n : ℕ) → t ≡ first ++ rest → tag_rest checks fuel (earlier ++ a ∷ []) (rest ++ left) ≡ tag_rest checks n ((earlier ++ a ∷ []) ++ more) left → tag_rest checks (suc fuel) earlier (t ++ left) ≡ tag_rest checks n (earlier ++ a ∷ more) left
    step t n e h =
        let one = attribute_back checks earlier first (rest ++ left) a is new fits in
        rw (e, append_assoc first rest left) (rw (one.white, one.no_end, one.no_slash, one.shorter) (rw one.read (h ∙ ap (λ (u : List Attribute). tag_rest checks n u left) (append_assoc earlier (a ∷ []) more))))

pub tag_told : (checks : AttributeChecks) (rest here : List ℕ) (reason : NzbReason) → TagFault checks rest here reason → Tells (tag_at checks rest) here reason
tag_told checks rest here reason t =
    let m = attributes_to checks t.attributes [] t.attribute_text t.left (length (t.attribute_text ++ t.left)) t.are_attributes (omega arith) in
    let whole : tag_at checks rest ≡ tag_rest checks m.0 t.attributes t.left = rw t.rest_is m.2 in
    tells_as _ _ here reason whole (go m.0 m.1)
  where
    go : (n : ℕ) → length t.left ≤ n → Tells (tag_rest checks n t.attributes t.left) here reason
    go zero l = let long = fault_long checks t.attributes t.left here reason t.fault in absurd (omega (arith, long, l))
    go (suc n) l = fault_told checks n t.attributes t.left here reason t.fault

-- ---- texts

-- a text stops there, whatever fuel is left
pub record TextTold (from here : List ℕ) (reason : NzbReason) : Type 0 where
  pub result : ValueRead (List ℕ)
  pub known : (fuel : ℕ) → length from ≤ fuel → text_at fuel from ≡ result
  pub tells : Tells result here reason

at_once : (from here : List ℕ) (reason : NzbReason) (r : ValueRead (List ℕ)) → 1 ≤ length from → ((fuel : ℕ) → text_at (suc fuel) from ≡ r) → Tells r here reason → TextTold from here reason
at_once from here reason r l read t = record { result = r; known = over; tells = t }
  where
    over : (fuel : ℕ) → length from ≤ fuel → text_at fuel from ≡ r
    over zero m = absurd (omega (arith, l, m))
    over (suc fuel) m = read fuel

pub not_first : (c : ℕ) (here : List ℕ) (x : ℕ) (m : List ℕ) → here ≡ x ∷ m → eqb c x ≡ false → starts_with nat_eq here (c ∷ []) ≡ false
not_first c here x m e f = rw e (and_left (eqb c x) true f)

control_other : (x : ℕ) → is_control x ≡ true → (eqb x 38 ≡ false) × (eqb x 60 ≡ false)
control_other x k = (no_amp x k, no_less x k)
  where
    no_amp : (y : ℕ) → is_control y ≡ true → eqb y 38 ≡ false
    no_amp y t = grind (arith, nat_tests)

    no_less : (y : ℕ) → is_control y ≡ true → eqb y 60 ≡ false
    no_less y t = grind (arith, nat_tests)

pub text_told : (from here : List ℕ) (reason : NzbReason) → TextStop from here reason → TextTold from here reason
text_told from here _ (tag_in_text other (inside, e, ends)) =
    let n = name_told inside other (ends.byte ∷ ends.more) ends.text_is ends in
    let slash : starts_with nat_eq inside (codes "/") ≡ false = rw ends.text_is (name_other 47 other (ends.byte ∷ ends.more) refl ends.is_name) in
    let mark : starts_with nat_eq inside (codes "!") ≡ false = rw ends.text_is (name_other 33 other (ends.byte ∷ ends.more) refl ends.is_name) in
    rw e (at_once (60 ∷ inside) (60 ∷ inside) WrongTag (stop_at (60 ∷ inside) WrongTag) (omega arith) (λ fuel. rw (slash, mark) (rw n.0 refl)) (told refl))
text_told from here _ (no_reference_in_text none) = subst (λ (t : List ℕ). TextTold t t BadReference) (sym none.here_is) (go none.rest (tells_err _ (38 ∷ none.rest) BadReference (reference_told (38 ∷ none.rest) (subst NoReference none.here_is none) none.rest refl)))
  where
    go : (rest : List ℕ) → (s : Stop) × (reference_at (38 ∷ rest) rest ≡ Err s) × Tells {A = List ℕ × List ℕ} (Err s) (38 ∷ rest) BadReference → TextTold (38 ∷ rest) (38 ∷ rest) BadReference
    go rest (s, e, t) = at_once (38 ∷ rest) (38 ∷ rest) BadReference (Err s) (omega arith) (λ fuel. rw e refl) t
text_told from here _ (control_in_text o) = go from o.byte o.more o.here_is (not-false _ o.is_other)
  where
    go : (h : List ℕ) (x : ℕ) (m : List ℕ) → h ≡ x ∷ m → is_control x ≡ true → TextTold h h Unexpected
    go h x m e k = let c = control_other x k in rw e (at_once (x ∷ m) (x ∷ m) Unexpected (stop_at (x ∷ m) Unexpected) (omega arith) (λ fuel. rw (c.0, c.1, k) refl) (told refl))
text_told from here _ (no_comment_in_text inside rest _ e f b) =
    let stop : word (codes "!--") (33 ∷ inside) ≡ stop_at here Unexpected = subst (λ (t : List ℕ). word (codes "!--") t ≡ stop_at here Unexpected) f (word_told (codes "!--") rest here b) in
    let whole : from ≡ 60 ∷ 33 ∷ inside = e ∙ ap (λ (t : List ℕ). 60 ∷ t) f in
    rw whole (at_once (60 ∷ 33 ∷ inside) here Unexpected (stop_at here Unexpected) (omega arith) (λ fuel. bind_stop (word (codes "!--") (33 ∷ inside)) _ _ stop) (told refl))
text_told from here _ (comment_in_text inside _ e b) =
    rw e (at_once (codes "<!--" ++ inside) here Unexpected (stop_at here Unexpected) (omega arith) (λ fuel. bind_stop (up_to (codes "-->") inside) _ _ (inside_told 45 (codes "->") inside here refl b)) (told refl))
text_told from here _ (no_name_in_text _ e o) =
    let a = or_parts (is_name_byte o.byte || eqb 47 o.byte) (eqb 33 o.byte) o.is_other in
    let b = or_parts (is_name_byte o.byte) (eqb 47 o.byte) a.0 in
    let slash = not_first 47 here o.byte o.more o.here_is b.1 in
    let mark = not_first 33 here o.byte o.more o.here_is a.1 in
    rw e (at_once (60 ∷ here) here Unexpected (stop_at here Unexpected) (omega arith) (λ fuel. rw (slash, mark) (bind_stop (name_at here) _ _ (name_missing _ here o b.0))) (told refl))
