-- Tags, texts and elements that are refused for a reason of the table are rows of it.
use Rattle.std.proofs.Common.{◌≡◌, ◌≢◌, ℕ, suc, zero, ◌+◌, Bool, true, false, not, eqb, ◌||◌, List, [], ◌∷◌, ◌++◌, length, take, drop, Option, Some, None, Ok, refl, sym, ap, subst, ◌∙◌, append_assoc, arith, inl, inr}
use Rattle.std.specs.Prelude.{codes, nat_eq, bytes_eq}
use Rattle.std.specs.List.{starts_with, prefix_len}
use Rattle.std.proofs.lemmas.Bool.{or_from, eqb-true, eqb-false, ne_eqb, not-true, not-false, cases_Bool, both_ways}
use Rattle.std.proofs.lemmas.List.{append-nil, append_cancel_left, length-append}
use Rattle.std.proofs.lemmas.Slice.Eq.{bytes_eq-Decides}
use Rattle.nzb_index.specs.declared.error.NzbReason.{NzbReason}
use Rattle.nzb_index.specs.declared.error.NzbReason.TheVariants.{WrongTag, DoubleAttribute, BadReference, Unexpected}
use Rattle.nzb_writer.specs.Markup.{is_control, is_white, is_name_byte, trimmed, IsWhite, IsElementText, Attribute, AreAttributes, IsBetween, has_attribute, AttributeChecks, unchecked}
use Rattle.nzb_index.specs.MarkupReading.{Stop, ValueRead, Tag, word, up_to, name_at, behind_white, between, reference_at, text_at, quoted_at, attribute_at, tag_rest, tag_at, end_tag, or_stop, leaf, no_fault, children, parent, only, ◌>>=◌}
use Rattle.nzb_index.specs.Broken.{OtherByte, NameEnds, OpensWith, ClosesWith, NoEndName, OpenEnd}
use Rattle.nzb_index.specs.Reasons.{Fault, AttributeFault, second_of_a_name, fault_in_value, value_not_allowed, no_white, no_attribute, no_close, no_equals, no_quote, TagFault, ending, StartTag, TextStop, tag_in_text, no_reference_in_text, control_in_text, no_comment_in_text, comment_in_text, no_name_in_text, TextFault, in_text, end_in_text, no_end_in_text, ContentFault, in_one, end_in_content, in_between, no_tag, no_name, no_end_name, open_end, LeafFault, leaf_name, leaf_tag, leaf_text, leaf_end}
use Rattle.nzb_index.proofs.Words.{starts_front}
use Rattle.nzb_index.proofs.Gives.{Gives, gives_err, gives_ok, gives_bind, gives_if, gives_unexpected, word_gives, up_to_gives, between_gives, white_taken, name_gives, Named}
use Rattle.nzb_index.proofs.TagsFound.{formed, quoted_gives, attribute_gives, Attributed, Tagged, tag_gives, white_some, tag_end}
use Rattle.nzb_index.proofs.ElementsFound.{Texted, with_text, reference_gives, reference_text, comment_text, text_gives, One, ReadsOne}
use Rattle.nzb_index.proofs.Stops.{Stops, stops_ok, stops_err, stops_bind, stops_then, stops_if, stops_test, stops_not, stops_as, Told, told_as, told_here, ended, broken_as, unexpected_told, word_stops, word_there, letter_stops, up_to_stops, name_stops, white_ends, gives_both, between_stands, between_stops, front_stops, RefusedHere, reference_stops}
use Rattle.nzb_index.proofs.ValueStops.{QuotedStop, in_quotes, no_quotes, quoted_stops}

-- ---- names

name_ended : (text : List ℕ) → eqb (prefix_len is_name_byte text) (length text) ≡ false → (y : ℕ) × (more : List ℕ) × (drop (prefix_len is_name_byte text) text ≡ y ∷ more) × (is_name_byte y ≡ false)
name_ended [] e = absurd cc
name_ended (x ∷ text) e = elim (cases_Bool (is_name_byte x)) [
  | inl n ↦
      let one : 1 + prefix_len is_name_byte text ≡ suc (prefix_len is_name_byte text) = omega arith in
      let apart : eqb (prefix_len is_name_byte text) (length text) ≡ false = ne_eqb (prefix_len is_name_byte text) (length text) (λ same. eqb-false (1 + prefix_len is_name_byte text) (suc (length text)) (rw n at e) (omega (arith, same))) in
      rw n (rw one (name_ended text apart))
  | inr n ↦ rw n (x, text, refl, n)
]

-- a name that is read has ended
pub record Ended (text name rest : List ℕ) : Type 0 where
  pub named : Named text name rest
  pub ends : NameEnds text name

pub name_ends : (text : List ℕ) → Gives (name_at text) (λ n. Ended text n.0 n.1)
name_ends text =
    let n = prefix_len is_name_byte text in
    gives_if (eqb n (length text)) _ _ (λ e. gives_err _) (λ e. gives_if (eqb n 0) _ _ (λ z. gives_unexpected text) (λ z.
    let named : Named text (take n text) (drop n text) = (name_gives text).given (take n text, drop n text) (rw (e, z) refl) in
    let x = name_ended text e in
    gives_ok _ (record {
      named = named;
      ends = record { byte = x.0; more = x.1; text_is = named.text_is ∙ ap (λ (t : List ℕ). take n text ++ t) x.2; is_name = named.is_name; is_other = x.3 };
    })))

pub other_bytes : (a b : List ℕ) → bytes_eq a b ≡ false → a ≢ b
other_bytes a b f same = both_ways (bytes_eq a b) f ((bytes_eq-Decides a b).1 same)

-- ---- tags

-- whatever byte stands in front is none of these
abbrev pub NoneOf : (ℕ → Bool) → List ℕ → Type 0
NoneOf allowed text = (x : ℕ) (more : List ℕ) → text ≡ x ∷ more → allowed x ≡ false

-- the byte in front is none of these either
pub other_too : (first second : ℕ → Bool) (text : List ℕ) → NoneOf first text → OtherByte second text → OtherByte (λ b. first b || second b) text
other_too first second text none o = record { byte = o.byte; more = o.more; here_is = o.here_is; is_other = or_from (first o.byte) (second o.byte) (none o.byte o.more o.here_is) o.is_other }

abbrev ends_tag : ℕ → Bool
ends_tag b = is_white b || eqb 62 b || eqb 47 b

attribute_stops : (checks : AttributeChecks) (earlier : List Attribute) (rest white here : List ℕ) → rest ≡ white ++ here → IsWhite white → white ≢ [] → NoneOf ends_tag here → Stops (attribute_at checks earlier here) (Told (AttributeFault checks earlier rest))
attribute_stops checks earlier rest white here e w some begins =
    stops_bind (name_at here) _ (broken_as _ (name_stops here) (λ h b. subst (λ (t : List ℕ). AttributeFault checks earlier rest t Unexpected) (sym b.here_is) (no_attribute white here e w some (other_too ends_tag is_name_byte here begins b.other)))) (name_ends here) (λ n named.
    stops_not (has_attribute n.0 earlier) _ _ (λ has. told_here here DoubleAttribute (second_of_a_name white here n.0 e w some named.ends has)) (λ new.
    let w1 = white_taken n.1 in
    stops_bind (word (codes "=") (behind_white n.1)) _ (broken_as _ (letter_stops 61 (behind_white n.1)) (λ h b. subst (λ (t : List ℕ). AttributeFault checks earlier rest t Unexpected) (sym b.here_is)
    (no_equals white here n.0 w1.front (behind_white n.1) e w some named.ends new (named.named.text_is ∙ ap (λ (t : List ℕ). n.0 ++ t) w1.text_is) w1.is_white (other_too is_white (λ b. eqb 61 b) (behind_white n.1) (white_ends n.1) b.other))))
    (word_gives (codes "=") (behind_white n.1)) (λ b equals.
    let w2 = white_taken b in
    stops_bind (quoted_at (behind_white b)) _ (stops_as _ (quoted_stops (behind_white b)) (told_as (λ h r p. quoted n.0 n.1 b w1.front w2.front named.named new w1.is_white w2.is_white w1.text_is equals w2.text_is h r p))) (quoted_gives (behind_white b)) (λ v q.
    let f = formed here n b v named.named equals q in
    stops_test (checks n.0 v.0) _ _
    (λ bad. record { row = λ t. (f.text ++ v.1, ap length (sym f.here_is), value_not_allowed white f.text v.1 f.tail (record { name = n.0; value = v.0 }) (e ∙ ap (λ (x : List ℕ). white ++ x) f.here_is) w f.text_is (f.is_attribute white w some) new bad) })
    (λ fits. stops_ok _)))))
  where
    joined : (r w h n a f g b u v : List ℕ) (q : ℕ) (d raw l : List ℕ) → r ≡ w ++ h → h ≡ n ++ a → a ≡ f ++ g → g ≡ codes "=" ++ b → b ≡ u ++ v → v ≡ q ∷ d → d ≡ raw ++ l →
        r ≡ w ++ (n ++ (f ++ codes "=" ++ (u ++ q ∷ (raw ++ l))))
    joined r w h n a f g b u v q d raw l e1 e2 e3 e4 e5 e6 e7 = rw (e1, e2, e3, e4, e5, e6, e7) (simp append_assoc)

    opened : (r w h n a f g b u v : List ℕ) → r ≡ w ++ h → h ≡ n ++ a → a ≡ f ++ g → g ≡ codes "=" ++ b → b ≡ u ++ v → r ≡ w ++ (n ++ (f ++ codes "=" ++ (u ++ v)))
    opened r w h n a f g b u v e1 e2 e3 e4 e5 = rw (e1, e2, e3, e4, e5) (simp append_assoc)

    quoted : (name left b f u : List ℕ) → Named here name left → has_attribute name earlier ≡ false → IsWhite f → IsWhite u → left ≡ f ++ behind_white left → behind_white left ≡ codes "=" ++ b → b ≡ u ++ behind_white b →
        (h : List ℕ) (r : NzbReason) → QuotedStop (behind_white b) h r → AttributeFault checks earlier rest h r
    quoted name left b f u named new wf wu e1 e2 e3 h r (in_quotes p) =
        fault_in_value white name f u p.part.raw p.part.bytes h p.quote r
        (joined rest white here name left f (behind_white left) b u (behind_white b) p.quote (drop 1 (behind_white b)) p.part.raw h e named.text_is e1 e2 e3 p.text_is p.part.rest_is) w some
        named.is_name new wf wu p.is_quote p.part.inside p.part.is_value p.part.fault
    quoted name left b f u named new wf wu e1 e2 e3 h r (no_quotes p) = subst (AttributeFault checks earlier rest h) (sym p.reason_is) (subst (λ (t : List ℕ). AttributeFault checks earlier rest t Unexpected) (sym p.broken.here_is)
        (no_quote white name f u (behind_white b) (opened rest white here name left f (behind_white left) b u (behind_white b) e named.text_is e1 e2 e3) w some named.is_name new wf wu
        (other_too is_white (λ b. eqb b 34 || eqb b 39) (behind_white b) (white_ends b) p.broken.other)))

-- an attribute is refused behind others that follow these of its tag
record Behind (checks : AttributeChecks) (earlier : List Attribute) (rest here : List ℕ) (reason : NzbReason) : Type 0 where
  pub attribute_text : List ℕ
  pub attributes : List Attribute
  pub left : List ℕ
  pub rest_is : rest ≡ attribute_text ++ left
  pub are_attributes : AreAttributes checks earlier attribute_text attributes
  pub fault : AttributeFault checks (earlier ++ attributes) left here reason

first_behind : (checks : AttributeChecks) (earlier : List Attribute) (rest here : List ℕ) (reason : NzbReason) → AttributeFault checks earlier rest here reason → Behind checks earlier rest here reason
first_behind checks earlier rest here reason f = record {
  attribute_text = [];
  attributes = [];
  left = rest;
  rest_is = refl;
  are_attributes = refl;
  fault = subst (λ (all : List Attribute). AttributeFault checks all rest here reason) (sym (append-nil earlier)) f;
}

more_behind : (checks : AttributeChecks) (earlier : List Attribute) (rest : List ℕ) (a : Attribute) (more here : List ℕ) (reason : NzbReason) → eqb (length (behind_white rest)) (length rest) ≡ false →
    Attributed checks earlier (behind_white rest) a more → Behind checks (earlier ++ a ∷ []) more here reason → Behind checks earlier rest here reason
more_behind checks earlier rest a more here reason h one b =
    let w = white_taken rest in
    record {
      attribute_text = (w.front ++ one.is_formed.text) ++ b.attribute_text;
      attributes = a ∷ b.attributes;
      left = b.left;
      rest_is = joined rest w.front (behind_white rest) one.is_formed.text more b.attribute_text b.left w.text_is one.is_formed.here_is b.rest_is;
      are_attributes = (w.front ++ one.is_formed.text, b.attribute_text, refl, one.is_formed.is_attribute w.front w.is_white (white_some rest w.front h w.text_is), one.new, one.fits, b.are_attributes);
      fault = subst (λ (all : List Attribute). AttributeFault checks all b.left here reason) (append_assoc earlier (a ∷ []) b.attributes) b.fault;
    }
  where
    joined : (r f b o m t l : List ℕ) → r ≡ f ++ b → b ≡ o ++ m → m ≡ t ++ l → r ≡ ((f ++ o) ++ t) ++ l
    joined r f b o m t l e1 e2 e3 = rw (e1, e2, e3) (simp append_assoc)

pub starts_other : (c x : ℕ) (text more : List ℕ) → text ≡ x ∷ more → starts_with nat_eq text (c ∷ []) ≡ false → eqb c x ≡ false
starts_other c x text more e s = elim (cases_Bool (eqb c x)) [ inl t ↦ absurd (let f : true ≡ false = rw t at (rw e at s) in cc) | inr f ↦ f ]

begins : (rest : List ℕ) → starts_with nat_eq (behind_white rest) (codes ">") ≡ false → starts_with nat_eq (behind_white rest) (codes "/") ≡ false → NoneOf ends_tag (behind_white rest)
begins rest e f x more g = or_from (is_white x || eqb 62 x) (eqb 47 x) (or_from (is_white x) (eqb 62 x) (white_ends rest x more g) (starts_other 62 x (behind_white rest) more g e)) (starts_other 47 x (behind_white rest) more g f)

all_of : (rest front here : List ℕ) → rest ≡ front ++ here → eqb (length here) (length rest) ≡ true → rest ≡ here
all_of rest [] here e g = e
all_of rest (x ∷ front) here e g = absurd (let same = eqb-true (length here) (length rest) g in omega (arith, same, ap length e, length-append front here))

no_earlier : (earlier : List Attribute) (a : Attribute) → earlier ++ a ∷ [] ≡ [] → ⊥
no_earlier [] a e = cc
no_earlier (b ∷ earlier) a e = cc

tag_rest_stops : (checks : AttributeChecks) (fuel : ℕ) (earlier : List Attribute) (rest : List ℕ) → (earlier ≡ [] → OtherByte is_name_byte rest) → Stops (tag_rest checks fuel earlier rest) (Told (Behind checks earlier rest))
tag_rest_stops checks zero earlier rest named = ended
tag_rest_stops checks (suc fuel) earlier rest named =
    let w = white_taken rest in
    let here = behind_white rest in
    stops_if (starts_with nat_eq here (codes ">")) _ _ (λ e. stops_ok _) (λ e.
    stops_if (starts_with nat_eq here (codes "/")) _ _ (λ f. stops_then (word (codes "/>") here) _
    (broken_as _ (word_stops (codes "/>") here) (λ h b. first_behind checks earlier rest h Unexpected (no_close w.front here (drop 1 here) h w.text_is w.is_white (starts_front here (codes "/") f) b))) (λ b. stops_ok _)) (λ f.
    stops_if (eqb (length here) (length rest)) _ _
    (λ g. let all = all_of rest w.front here w.text_is g in
    unexpected_told here (λ x m i. first_behind checks earlier rest here Unexpected (no_white here all (record { byte = x; more = m; here_is = i; is_other = begins rest e f x m i }) (λ none. subst (OtherByte is_name_byte) all (named none))))) (λ g.
    stops_bind (attribute_at checks earlier here) _
    (stops_as _ (attribute_stops checks earlier rest w.front here w.text_is w.is_white (white_some rest w.front g w.text_is) (begins rest e f)) (told_as (λ h r x. first_behind checks earlier rest h r x)))
    (attribute_gives checks earlier here)
    (λ a one. stops_as _ (tag_rest_stops checks fuel (earlier ++ a.0 ∷ []) a.1 (λ none. absurd (no_earlier earlier a.0 none))) (told_as (λ h r x. more_behind checks earlier rest a.0 a.1 h r g one x))))))

pub tag_stops : (checks : AttributeChecks) (rest : List ℕ) → OtherByte is_name_byte rest → Stops (tag_at checks rest) (Told (TagFault checks rest))
tag_stops checks rest named = stops_as _ (tag_rest_stops checks (length rest) [] rest (λ none. named)) (told_as (λ h r x. record { attribute_text = x.attribute_text; attributes = x.attributes; left = x.left; rest_is = x.rest_is; are_attributes = x.are_attributes; fault = x.fault }))

-- behind a tag's name another byte stands
pub name_over : (name from rest : List ℕ) → from ≡ codes "<" ++ name ++ rest → OpensWith from name → OtherByte is_name_byte rest
name_over name from rest e (inside, f, n) =
    let same : name ++ rest ≡ name ++ n.byte ∷ n.more = append_cancel_left (codes "<") (name ++ rest) (name ++ n.byte ∷ n.more) (sym e ∙ f ∙ ap (λ (t : List ℕ). codes "<" ++ t) n.text_is) in
    record { byte = n.byte; more = n.more; here_is = append_cancel_left name rest (n.byte ∷ n.more) same; is_other = n.is_other }

pub start_tag : (checks : AttributeChecks) (name from rest : List ℕ) (tag : Tag) (mid : List ℕ) → from ≡ codes "<" ++ name ++ rest → Tagged checks [] rest tag mid → StartTag checks name from tag.attributes tag.closed mid
start_tag checks name from rest tag mid e t = record {
  attribute_text = t.text;
  white = t.white;
  from_is = joined tag.closed from name rest t.text t.white mid e t.rest_is;
  are_attributes = subst (AreAttributes checks [] t.text) (sym t.all_are) t.are_attributes;
  is_white = t.is_white;
}
  where
    joined : (c : Bool) (f n r t w m : List ℕ) → f ≡ codes "<" ++ n ++ r → r ≡ t ++ w ++ tag_end c ++ m → f ≡ codes "<" ++ n ++ t ++ w ++ ending c ++ m
    joined true f n r t w m e1 e2 = rw (e1, e2) (simp append_assoc)
    joined false f n r t w m e1 e2 = rw (e1, e2) (simp append_assoc)

-- ---- texts

-- behind pieces of the text
record Opened (rest here : List ℕ) (reason : NzbReason) : Type 0 where
  pub bytes : List ℕ
  pub from : List ℕ
  pub texted : Texted rest bytes from
  pub fault : TextStop from here reason

opened_here : (rest here : List ℕ) (reason : NzbReason) → TextStop rest here reason → Opened rest here reason
opened_here rest here reason f = record { bytes = []; from = rest; texted = record { text = []; rest_is = refl; stands = ([], tt, refl, refl) }; fault = f }

at_reference : (whole here : List ℕ) (reason : NzbReason) → RefusedHere whole here reason → Opened whole here reason
at_reference whole here reason z = subst (Opened whole here) (sym z.reason_is) (subst (λ (t : List ℕ). Opened whole t BadReference) (sym z.here_is) (opened_here whole whole BadReference (no_reference_in_text z.no_reference)))

no_tag_name : (rest : List ℕ) → starts_with nat_eq rest (codes "/") ≡ false → starts_with nat_eq rest (codes "!") ≡ false → OtherByte is_name_byte rest → OtherByte (λ b. is_name_byte b || eqb 47 b || eqb 33 b) rest
no_tag_name rest s c o = record {
  byte = o.byte;
  more = o.more;
  here_is = o.here_is;
  is_other = or_from (is_name_byte o.byte || eqb 47 o.byte) (eqb 33 o.byte) (or_from (is_name_byte o.byte) (eqb 47 o.byte) o.is_other (starts_other 47 o.byte rest o.more o.here_is s)) (starts_other 33 o.byte rest o.more o.here_is c);
}

text_stops : (fuel : ℕ) (rest : List ℕ) → Stops (text_at fuel rest) (Told (Opened rest))
text_stops zero rest = ended
text_stops (suc fuel) [] = ended
text_stops (suc fuel) (x ∷ rest) =
    stops_if (eqb x 38) _ _
    (λ a. stops_bind (reference_at (x ∷ rest) rest) _ (stops_as _ (reference_stops x rest (eqb-true x 38 a)) (told_as (λ h e z. at_reference (x ∷ rest) h e z))) (reference_gives (x ∷ rest) rest) (λ r reference.
    front_stops r.0 _ (stops_as _ (text_stops fuel r.1) (told_as (λ h e o. record { bytes = r.0 ++ o.bytes; from = o.from; texted = reference_text x rest r.0 r.1 o.bytes o.from (eqb-true x 38 a) reference o.texted; fault = o.fault }))))) (λ a.
    stops_if (not (eqb x 60)) _ _
    (λ l. stops_if (is_control x) _ _ (λ k. unexpected_told (x ∷ rest) (λ y m f. opened_here (x ∷ rest) (x ∷ rest) Unexpected (control_in_text (record { byte = x; more = rest; here_is = refl; is_other = rw k refl }))))
    (λ k. front_stops (x ∷ []) _ (stops_as _ (text_stops fuel rest) (told_as (λ h e o.
    record { bytes = (x ∷ []) ++ o.bytes; from = o.from; texted = with_text (x ∷ []) (x ∷ []) rest o.bytes o.from (inl (x, eqb-false x 38 a, eqb-false x 60 (not-true (eqb x 60) l), k, refl, refl)) o.texted; fault = o.fault }))))) (λ l.
    let less = eqb-true x 60 (not-false (eqb x 60) l) in
    let begun : x ∷ rest ≡ codes "<" ++ rest = ap (λ (y : ℕ). y ∷ rest) less in
    stops_if (starts_with nat_eq rest (codes "/")) _ _ (λ s. stops_ok _) (λ s.
    stops_if (starts_with nat_eq rest (codes "!")) _ _
    (λ c. stops_bind (word (codes "!--") rest) _ (broken_as _ (word_stops (codes "!--") rest) (λ h b. opened_here (x ∷ rest) h Unexpected (no_comment_in_text (drop 1 rest) rest h begun (starts_front rest (codes "!") c) b)))
    (word_gives (codes "!--") rest) (λ inside opened.
    stops_bind (up_to (codes "-->") inside) _ (broken_as _ (up_to_stops 45 (codes "->") inside) (λ h b. opened_here (x ∷ rest) h Unexpected (comment_in_text inside h (begun ∙ ap (λ (t : List ℕ). codes "<" ++ t) opened) b)))
    (up_to_gives 45 (codes "->") inside) (λ left front.
    stops_as _ (text_stops fuel left) (told_as (λ h e o.
    record { bytes = o.bytes; from = o.from; texted = comment_text x rest inside front.0 left o.bytes o.from less opened front.1 (front.0, refl, front.2) o.texted; fault = o.fault })))))
    (λ c. stops_bind (name_at rest) _ (broken_as _ (name_stops rest) (λ h b. subst (λ (t : List ℕ). Opened (x ∷ rest) t Unexpected) (sym b.here_is) (opened_here (x ∷ rest) rest Unexpected (no_name_in_text rest begun (no_tag_name rest s c b.other)))))
    (name_ends rest) (λ n named. stops_err _ (told_here (x ∷ rest) WrongTag (opened_here (x ∷ rest) (x ∷ rest) WrongTag (tag_in_text n.0 (rest, begun, named.ends)))))))))

slash_begins : (x : ℕ) (rest : List ℕ) → x ≡ 60 → starts_with nat_eq rest (codes "/") ≡ true → starts_with nat_eq (x ∷ rest) (codes "</") ≡ true
slash_begins x rest e s = rw e s

-- a text ends where an end tag begins
text_ends : (fuel : ℕ) (rest : List ℕ) → Gives (text_at fuel rest) (λ t. starts_with nat_eq t.1 (codes "</") ≡ true)
text_ends zero rest = gives_err _
text_ends (suc fuel) [] = gives_err _
text_ends (suc fuel) (x ∷ rest) =
    gives_if (eqb x 38) _ _
    (λ a. gives_bind (reference_at (x ∷ rest) rest) _ (reference_gives (x ∷ rest) rest) (λ r reference. gives_bind (text_at fuel r.1) _ (text_ends fuel r.1) (λ t e. gives_ok _ e))) (λ a.
    gives_if (not (eqb x 60)) _ _
    (λ l. gives_if (is_control x) _ _ (λ k. gives_unexpected (x ∷ rest)) (λ k. gives_bind (text_at fuel rest) _ (text_ends fuel rest) (λ t e. gives_ok _ e))) (λ l.
    gives_if (starts_with nat_eq rest (codes "/")) _ _ (λ s. gives_ok _ (slash_begins x rest (eqb-true x 60 (not-false (eqb x 60) l)) s)) (λ s.
    gives_if (starts_with nat_eq rest (codes "!")) _ _
    (λ c. gives_bind (word (codes "!--") rest) _ (word_gives (codes "!--") rest) (λ inside opened. gives_bind (up_to (codes "-->") inside) _ (up_to_gives 45 (codes "->") inside) (λ left front. text_ends fuel left)))
    (λ c. gives_bind (name_at rest) _ (name_gives rest) (λ n named. gives_err _)))))

end_tag_stops : {F : Fault} (name : List ℕ) (known : Option Stop) (rest : List ℕ) → starts_with nat_eq rest (codes "</") ≡ true → ((n : List ℕ) → ClosesWith rest n → n ≢ name → F rest WrongTag) → ((s : Stop) → known ≡ Some s → ClosesWith rest name → Told F s) →
    ((here : List ℕ) → NoEndName rest here → F here Unexpected) → ((here : List ℕ) → known ≡ None → OpenEnd name rest here → F here Unexpected) → Stops (end_tag name known rest) (Told F)
end_tag_stops {F} name known rest begun other is_known unnamed unclosed =
    stops_bind (word (codes "</") rest) _ (word_there (codes "</") rest begun) (word_gives (codes "</") rest) (λ inside opened.
    stops_bind (name_at inside) _ (broken_as _ (name_stops inside) (λ h b. subst (λ (t : List ℕ). F t Unexpected) (sym b.here_is) (unnamed inside (record { from_is = opened; other = b.other })))) (name_ends inside) (λ n named.
    stops_test (bytes_eq n.0 name) _ _ (λ b. told_here rest WrongTag (other n.0 (inside, opened, named.ends) (other_bytes n.0 name b))) (λ b.
    let same = (bytes_eq-Decides n.0 name).0 b in
    let closes : ClosesWith rest name = (inside, opened, subst (NameEnds inside) same named.ends) in
    let w = white_taken n.1 in
    stops_bind (or_stop known) _ (judged known (λ s k. is_known s k closes)) (unknown known) (λ fine none.
    broken_as _ (letter_stops 62 (behind_white n.1)) (λ h c. subst (λ (t : List ℕ). F t Unexpected) (sym c.here_is) (unclosed (behind_white n.1) none (record {
      white = w.front;
      closes = closes;
      from_is = joined rest inside n.0 name n.1 w.front (behind_white n.1) opened named.named.text_is same w.text_is;
      white_is = w.is_white;
      other = other_too is_white (λ b. eqb 62 b) (behind_white n.1) (white_ends n.1) c.other;
    })))))))
  where
    joined : (r i n m l w b : List ℕ) → r ≡ codes "</" ++ i → i ≡ n ++ l → n ≡ m → l ≡ w ++ b → r ≡ codes "</" ++ m ++ w ++ b
    joined r i n m l w b e1 e2 e3 e4 = rw (e1, e2, e3, e4) (simp append_assoc)

    judged : (o : Option Stop) → ((s : Stop) → o ≡ Some s → Told F s) → Stops (or_stop o) (Told F)
    judged None h = stops_ok true
    judged (Some s) h = stops_err s (h s refl)

    unknown : (o : Option Stop) → Gives (or_stop o) (λ b. o ≡ None)
    unknown None = gives_ok true refl
    unknown (Some s) = gives_err s

pub leaf_stops : {F : Fault} (name : List ℕ) (known : List ℕ → Option Stop) (tag : Tag) (rest : List ℕ) →
    (tag.closed ≡ false → (here : List ℕ) (reason : NzbReason) → TextFault name rest here reason → F here reason) →
    (tag.closed ≡ true → (s : Stop) → known [] ≡ Some s → Told F s) →
    (tag.closed ≡ false → (inside id end : List ℕ) → rest ≡ inside ++ end → IsElementText inside id → ClosesWith end name → (s : Stop) → known id ≡ Some s → Told F s) →
    (tag.closed ≡ false → (inside id end here : List ℕ) → rest ≡ inside ++ end → IsElementText inside id → known id ≡ None → OpenEnd name end here → F here Unexpected) → Stops (leaf name known tag rest) (Told F)
leaf_stops {F} name known tag rest fault empty over unclosed = stops_if tag.closed _ _
    (λ c. stops_then (or_stop (known [])) _ (judged (known []) (empty c)) (λ fine. stops_ok _))
    (λ c. stops_bind (text_at (length rest) rest) _ (stops_as _ (text_stops (length rest) rest) (told_as (λ h r o. fault c h r (in_text o.texted.text (trimmed o.bytes) o.from h r o.texted.rest_is (o.bytes, o.texted.stands, refl) o.fault)))) (gives_both _ (text_gives (length rest) rest) (text_ends (length rest) rest)) (λ t texted.
    let is_text : IsElementText texted.0.text (trimmed t.0) = (t.0, texted.0.stands, refl) in
    stops_then (end_tag name (known (trimmed t.0)) t.1) _ (end_tag_stops name (known (trimmed t.0)) t.1 texted.1
    (λ n closes differs. fault c t.1 WrongTag (end_in_text texted.0.text (trimmed t.0) t.1 n texted.0.rest_is is_text closes differs))
    (λ s k closes. over c texted.0.text (trimmed t.0) t.1 texted.0.rest_is is_text closes s k)
    (λ h b. fault c h Unexpected (no_end_in_text texted.0.text (trimmed t.0) t.1 h texted.0.rest_is is_text b))
    (λ h none b. unclosed c texted.0.text (trimmed t.0) t.1 h texted.0.rest_is is_text none b)) (λ b. stops_ok _)))
  where
    judged : (o : Option Stop) → ((s : Stop) → o ≡ Some s → Told F s) → Stops (or_stop o) (Told F)
    judged None h = stops_ok true
    judged (Some s) h = stops_err s (h s refl)

-- ---- elements in an element

abbrev pub StopsOne : {S : Type 0} → (S → List ℕ → List ℕ → List ℕ → ValueRead S) → (List ℕ → Fault) → (S → Type 0) → Type 0
StopsOne {S} item OneFault Fits = (s : S) (name from rest : List ℕ) → from ≡ codes "<" ++ name ++ rest → OpensWith from name → Fits s → Stops (item s name from rest) (Told (OneFault from))

fault_later : {S A : Type 0} (IsOne : List ℕ → A → Type 0) (add : S → A → S) (Fits : S → Type 0) (OneFault : List ℕ → Fault) (name : List ℕ) (before : S) (rest front here : List ℕ) (mid : S) (left at : List ℕ) (reason : NzbReason) →
    rest ≡ front ++ here → IsBetween front → One IsOne add Fits before here mid left → ContentFault IsOne OneFault name left at reason → ContentFault IsOne OneFault name rest at reason
fault_later {S} {A} IsOne add Fits OneFault name before rest front here mid left at reason e b one f = go at reason f
  where
    joined : (r f h o l i w : List ℕ) → r ≡ f ++ h → h ≡ o ++ l → l ≡ i ++ w → r ≡ (f ++ o ++ i) ++ w
    joined r f h o l i w e1 e2 e3 = rw (e1, e2, e3) (simp append_assoc)

    go : (h : List ℕ) (r : NzbReason) → ContentFault IsOne OneFault name left h r → ContentFault IsOne OneFault name rest h r
    go h r (in_one inside from _ _ xs l are o) = in_one (front ++ one.one ++ inside) from h r (one.value ∷ xs) (joined rest front here one.one left inside from e one.from_is l) (front, one.one, inside, refl, b, one.is_one, are) o
    go h r (end_in_content inside _ n xs l are closes differs) = end_in_content (front ++ one.one ++ inside) h n (one.value ∷ xs) (joined rest front here one.one left inside h e one.from_is l) (front, one.one, inside, refl, b, one.is_one, are) closes differs
    go h r (in_between inside from _ xs l are broken) = in_between (front ++ one.one ++ inside) from h (one.value ∷ xs) (joined rest front here one.one left inside from e one.from_is l) (front, one.one, inside, refl, b, one.is_one, are) broken
    go h r (no_tag inside _ xs l are other) = no_tag (front ++ one.one ++ inside) h (one.value ∷ xs) (joined rest front here one.one left inside h e one.from_is l) (front, one.one, inside, refl, b, one.is_one, are) other
    go h r (no_name inside _ xs l are other) = no_name (front ++ one.one ++ inside) h (one.value ∷ xs) (joined rest front here one.one left inside (codes "<" ++ h) e one.from_is l) (front, one.one, inside, refl, b, one.is_one, are) other
    go h r (no_end_name inside from _ xs l are unnamed) = no_end_name (front ++ one.one ++ inside) from h (one.value ∷ xs) (joined rest front here one.one left inside from e one.from_is l) (front, one.one, inside, refl, b, one.is_one, are) unnamed
    go h r (open_end inside from _ xs l are unclosed) = open_end (front ++ one.one ++ inside) from h (one.value ∷ xs) (joined rest front here one.one left inside from e one.from_is l) (front, one.one, inside, refl, b, one.is_one, are) unclosed

-- behind `<` neither a name nor what else begins a tag or a comment
no_other_tag : (here inside : List ℕ) → here ≡ codes "<" ++ inside → starts_with nat_eq here (codes "</") ≡ false → starts_with nat_eq here (codes "<!") ≡ false → OtherByte is_name_byte inside → OtherByte (λ b. is_name_byte b || eqb 47 b || eqb 33 b) inside
no_other_tag here inside e s c o = no_tag_name inside (subst (λ (t : List ℕ). starts_with nat_eq t (codes "</") ≡ false) e s) (subst (λ (t : List ℕ). starts_with nat_eq t (codes "<!") ≡ false) e c) o

children_stops : {S A : Type 0} (item : S → List ℕ → List ℕ → List ℕ → ValueRead S) (IsOne : List ℕ → A → Type 0) (add : S → A → S) (Fits : S → Type 0) (OneFault : List ℕ → Fault) (name : List ℕ) → ReadsOne item IsOne add Fits → StopsOne item OneFault Fits →
    (fuel : ℕ) (s : S) (rest : List ℕ) → Fits s → Stops (children item name fuel s rest) (Told (ContentFault IsOne OneFault name rest))
children_stops {S} {A} item IsOne add Fits OneFault name reads stops zero s rest fits = ended
children_stops {S} {A} item IsOne add Fits OneFault name reads stops (suc fuel) s rest fits =
    stops_bind (between rest) _ (broken_as _ (between_stops rest) (λ h b. in_between b.front b.from h [] b.text_is b.is_between b.fault)) (gives_both _ (between_gives rest) (between_stands rest)) (λ here both.
    let front = both.0 in
    stops_if (starts_with nat_eq here (codes "</")) _ _
    (λ e. stops_then (end_tag name None here) _ (end_tag_stops name None here e (λ n closes differs. end_in_content front.0 here n [] front.1 front.2 closes differs) (λ t k closes. absurd cc)
    (λ h unnamed. no_end_name front.0 here h [] front.1 front.2 unnamed) (λ h none unclosed. open_end front.0 here h [] front.1 front.2 unclosed)) (λ b. stops_ok _))
    (λ e. stops_bind (word (codes "<") here) _ (broken_as _ (letter_stops 60 here) (λ h b. subst (λ (t : List ℕ). ContentFault IsOne OneFault name rest t Unexpected) (sym b.here_is)
    (no_tag front.0 here [] front.1 front.2 (other_too is_white (λ x. eqb 60 x) here both.1.not_white b.other)))) (word_gives (codes "<") here) (λ inside opened.
    stops_bind (name_at inside) _ (broken_as _ (name_stops inside) (λ h b. subst (λ (t : List ℕ). ContentFault IsOne OneFault name rest t Unexpected) (sym b.here_is)
    (no_name front.0 inside [] (front.1 ∙ ap (λ (t : List ℕ). front.0 ++ t) opened) front.2 (no_other_tag here inside opened e both.1.no_mark b.other)))) (name_ends inside) (λ n named.
    let whole : here ≡ codes "<" ++ n.0 ++ n.1 = opened ∙ ap (λ (t : List ℕ). codes "<" ++ t) named.named.text_is in
    stops_bind (item s n.0 here n.1) _ (stops_as _ (stops s n.0 here n.1 whole (inside, opened, named.ends) fits) (told_as (λ h r f. in_one front.0 here h r [] front.1 front.2 f))) (reads s n.0 here n.1 whole fits) (λ q one.
    stops_as _ (children_stops item IsOne add Fits OneFault name reads stops fuel q.0 q.1 one.fits) (told_as (λ h r f. fault_later IsOne add Fits OneFault name s rest front.0 here q.0 q.1 h r front.1 front.2 one f)))))))

pub parent_stops : {S A : Type 0} {F : Fault} (item : S → List ℕ → List ℕ → List ℕ → ValueRead S) (IsOne : List ℕ → A → Type 0) (add : S → A → S) (Fits : S → Type 0) (OneFault : List ℕ → Fault) (name : List ℕ) → ReadsOne item IsOne add Fits → StopsOne item OneFault Fits →
    (tag : Tag) (s : S) (rest : List ℕ) → Fits s → (tag.closed ≡ false → (here : List ℕ) (reason : NzbReason) → ContentFault IsOne OneFault name rest here reason → F here reason) → Stops (parent item name tag s rest) (Told F)
parent_stops {S} {A} {F} item IsOne add Fits OneFault name reads stops tag s rest fits row = stops_if tag.closed _ _ (λ c. stops_ok _) (λ c. stops_as _ (children_stops item IsOne add Fits OneFault name reads stops (length rest) s rest fits) (told_as (row c)))

-- an element with a text in it
pub leaf_element_stops : {B : Type 0} (wanted name from rest : List ℕ) (g : Tag × List ℕ → List ℕ × List ℕ → B) → from ≡ codes "<" ++ name ++ rest → OpensWith from name →
    Stops (only wanted name from >>= λ ok. tag_at unchecked rest >>= λ tag. leaf wanted no_fault tag.0 tag.1 >>= λ t. Ok (g tag t)) (Told (LeafFault wanted from))
leaf_element_stops {B} wanted name from rest g e opens =
    stops_test (bytes_eq name wanted) _ _ (λ b. told_here from WrongTag (leaf_name name opens (other_bytes name wanted b))) (λ b.
    let whole : from ≡ codes "<" ++ wanted ++ rest = e ∙ ap (λ (n : List ℕ). codes "<" ++ n ++ rest) ((bytes_eq-Decides name wanted).0 b) in
    stops_bind (tag_at unchecked rest) _ (stops_as _ (tag_stops unchecked rest (name_over name from rest e opens)) (told_as (λ h r f. leaf_tag rest h r whole f))) (tag_gives unchecked rest) (λ tag tagged.
    let is = start_tag unchecked wanted from rest tag.0 tag.1 whole tagged in
    stops_then (leaf wanted no_fault tag.0 tag.1) _ (leaf_stops wanted no_fault tag.0 tag.1
    (λ c h r f. leaf_text tag.0.attributes tag.1 h r (subst (λ (closed : Bool). StartTag unchecked wanted from tag.0.attributes closed tag.1) c is) f) (λ c s k. absurd cc) (λ c i d l a t k s n. absurd cc)
    (λ c i d l h a t none unclosed. leaf_end tag.0.attributes tag.1 i d l h (subst (λ (closed : Bool). StartTag unchecked wanted from tag.0.attributes closed tag.1) c is) a t unclosed))
    (λ t. stops_ok _)))
