-- Why the reading of a value stops: at a reference that is none or a byte that cannot stand, behind a front that is a value.
use Rattle.std.proofs.Common.{◌≡◌, ℕ, suc, zero, true, false, cond, eqb, ◌||◌, ◌&&◌, List, [], ◌∷◌, ◌++◌, length, drop, refl, sym, ap, ◌∙◌, subst, append_assoc, arith, inl, inr, ◌⊎◌}
use Rattle.std.specs.Prelude.{codes, nat_eq}
use Rattle.std.specs.List.{starts_with, list_any}
use Rattle.std.proofs.lemmas.Bool.{eqb-true, eqb-false, or_parts, or_from, and_parts}
use Rattle.std.proofs.lemmas.List.{length-append}
use Rattle.nzb_index.specs.declared.error.NzbReason.{NzbReason}
use Rattle.nzb_writer.specs.Markup.{is_control, is_white, Denotes, spaced}
use Rattle.nzb_index.specs.MarkupReading.{reference_at, value_at, quoted_at}
use Rattle.nzb_index.specs.Reasons.{NoReference, ValueFault, no_reference, no_value_byte}
use Rattle.nzb_index.proofs.Words.{starts_front}
use Rattle.nzb_index.proofs.TagsFound.{quote_cases}
use Rattle.nzb_index.proofs.TextsFound.{Reference, Value, Piece, closes, value_reference, value_character, value_line_end, no_line_end}
use Rattle.nzb_index.proofs.ElementsFound.{reference_gives}
use Rattle.nzb_index.proofs.Stops.{Stops, stops_ok, stops_bind, stops_if, stops_as, Told, told_as, ended, AtByte, ByteAt, byte_at, unexpected_told, front_stops, RefusedHere, reference_stops}

-- a value so far, with a fault behind it
pub record Partial (quote : ℕ) (rest here : List ℕ) (reason : NzbReason) : Type 0 where
  pub raw : List ℕ
  pub bytes : List ℕ
  pub rest_is : rest ≡ raw ++ here
  pub inside : list_any (closes quote) raw ≡ false
  pub is_value : Denotes Piece (spaced raw) bytes
  pub fault : ValueFault here reason

-- it is a whole value where the quote follows
as_value : (quote : ℕ) (rest here : List ℕ) (reason : NzbReason) (p : Partial quote rest here reason) → Value quote (p.raw ++ quote ∷ []) p.bytes []
as_value quote rest here reason p = record { raw = p.raw; rest_is = refl; inside = p.inside; is_value = p.is_value }

same_front : (a b : List ℕ) (q : ℕ) → a ++ q ∷ [] ≡ b ++ q ∷ [] → a ≡ b
same_front [] [] q e = refl
same_front [] (y ∷ b) q e = absurd (omega (arith, ap length e, length-append b (q ∷ [])))
same_front (x ∷ a) [] q e = absurd (omega (arith, ap length e, length-append a (q ∷ [])))
same_front (x ∷ a) (y ∷ b) q e =
    let first : x ≡ y = cc in
    let more : a ++ q ∷ [] ≡ b ++ q ∷ [] = cc in
    rw first (ap (λ (t : List ℕ). y ∷ t) (same_front a b q more))

-- a longer front whose value is known
longer : (quote : ℕ) (front rest here bytes : List ℕ) (reason : NzbReason) → rest ≡ front ++ here → Value quote (front ++ quote ∷ []) bytes [] → ValueFault here reason → Partial quote rest here reason
longer quote front rest here bytes reason e v fault =
    let same : v.raw ≡ front = same_front v.raw front quote (sym v.rest_is) in
    record {
      raw = front;
      bytes = bytes;
      rest_is = e;
      inside = subst (λ (t : List ℕ). list_any (closes quote) t ≡ false) same v.inside;
      is_value = subst (λ (t : List ℕ). Denotes Piece (spaced t) bytes) same v.is_value;
      fault = fault;
    }

partial_here : (quote : ℕ) (whole here : List ℕ) (reason : NzbReason) → RefusedHere whole here reason → Partial quote whole here reason
partial_here quote whole here reason z = record { raw = []; bytes = []; rest_is = sym z.here_is; inside = refl; is_value = ([], tt, refl, refl); fault = subst (ValueFault here) (sym z.reason_is) (no_reference (subst NoReference (sym z.here_is) z.no_reference)) }

partial_reference : (quote x : ℕ) → (quote ≡ 34) ⊎ (quote ≡ 39) → (rest bytes left here : List ℕ) (reason : NzbReason) → x ≡ 38 → Reference rest bytes left → Partial quote left here reason → Partial quote (x ∷ rest) here reason
unfolding Reference
partial_reference quote x k rest bytes left here reason amp (t, e, is, q) p =
    let end : List ℕ = p.raw ++ quote ∷ [] in
    let v = value_reference quote k (t ++ end) bytes end p.bytes [] (t, refl, is, q) (as_value quote left here reason p) in
    longer quote (38 ∷ (t ++ p.raw)) (x ∷ rest) here (bytes ++ p.bytes) reason (joined amp e p.rest_is)
    (subst (λ (y : List ℕ). Value quote y (bytes ++ p.bytes) []) (ap (λ (y : List ℕ). 38 ∷ y) (sym (append_assoc t p.raw (quote ∷ [])))) v) p.fault
  where
    joined : x ≡ 38 → rest ≡ t ++ left → left ≡ p.raw ++ here → x ∷ rest ≡ (38 ∷ (t ++ p.raw)) ++ here
    joined e1 e2 e3 = rw (e1, e2, e3) (simp append_assoc)

no_line_feed : (quote : ℕ) → (quote ≡ 34) ⊎ (quote ≡ 39) → quote ≡ 10 → ⊥
no_line_feed quote (inl e) f = absurd (omega (arith, e, f))
no_line_feed quote (inr e) f = absurd (omega (arith, e, f))

partial_character : (quote x : ℕ) → (quote ≡ 34) ⊎ (quote ≡ 39) → (rest here : List ℕ) (reason : NzbReason) → closes quote x ≡ false → is_control x ≡ false → (x ≡ 38 → ⊥) → ((m : List ℕ) → x ≡ 13 → rest ≡ 10 ∷ m → ⊥) →
    Partial quote rest here reason → Partial quote (x ∷ rest) here reason
partial_character quote x k rest here reason c clean amp apart p =
    longer quote (x ∷ p.raw) (x ∷ rest) here _ reason (ap (λ (t : List ℕ). x ∷ t) p.rest_is) (value_character quote x (p.raw ++ quote ∷ []) p.bytes [] c clean amp k (alone p.raw p.rest_is) (as_value quote rest here reason p)) p.fault
  where
    alone : (raw : List ℕ) → rest ≡ raw ++ here → (m : List ℕ) → x ≡ 13 → raw ++ quote ∷ [] ≡ 10 ∷ m → ⊥
    alone [] e m f g = no_line_feed quote k (cc)
    alone (y ∷ raw) e m f g = let lf : y ≡ 10 = cc in apart (raw ++ here) f (e ∙ ap (λ (z : ℕ). z ∷ (raw ++ here)) lf)

-- no value stops at a line feed
no_line_feed_there : (here : List ℕ) (reason : NzbReason) → ValueFault here reason → (m : List ℕ) → here ≡ 10 ∷ m → ⊥
no_line_feed_there here _ (no_reference none) m e = let amp : 38 ∷ none.rest ≡ 10 ∷ m = sym none.here_is ∙ e in cc
no_line_feed_there here _ (no_value_byte other) m e =
    let both : other.byte ∷ other.more ≡ 10 ∷ m = sym other.here_is ∙ e in
    let same : other.byte ≡ 10 = cc in
    let f : true ≡ false = rw same at other.is_other in
    cc

partial_line_end : (quote x : ℕ) → (quote ≡ 34) ⊎ (quote ≡ 39) → (rest here : List ℕ) (reason : NzbReason) → x ≡ 13 → rest ≡ 10 ∷ drop 1 rest → Partial quote rest here reason → Partial quote (x ∷ rest) here reason
partial_line_end quote x k rest here reason cr lf p =
    longer quote (13 ∷ p.raw) (x ∷ rest) here p.bytes reason (rw cr (ap (λ (t : List ℕ). 13 ∷ t) p.rest_is)) (value_line_end quote (p.raw ++ quote ∷ []) p.bytes [] k (starts p.raw p.rest_is) (as_value quote rest here reason p)) p.fault
  where
    starts : (raw : List ℕ) → rest ≡ raw ++ here → starts_with nat_eq (raw ++ quote ∷ []) (codes "\n") ≡ true
    starts [] e = absurd (no_line_feed_there here reason p.fault (drop 1 rest) (sym e ∙ lf))
    starts (y ∷ raw) e = let first : y ∷ (raw ++ here) ≡ 10 ∷ drop 1 rest = sym e ∙ lf in let same : y ≡ 10 = cc in rw same refl

value_stops : (quote : ℕ) → (quote ≡ 34) ⊎ (quote ≡ 39) → (fuel : ℕ) (rest : List ℕ) → Stops (value_at quote fuel rest) (Told (Partial quote rest))
value_stops quote k zero rest = ended
value_stops quote k (suc fuel) [] = ended
value_stops quote k (suc fuel) (x ∷ rest) =
    stops_if (eqb x quote) _ _ (λ e. stops_ok _) (λ e.
    stops_if (eqb x 60 || is_control x) _ _ (λ f. unexpected_told (x ∷ rest) (λ y m e. record { raw = []; bytes = []; rest_is = refl; inside = refl; is_value = ([], tt, refl, refl); fault = no_value_byte (record { byte = x; more = rest; here_is = refl; is_other = rw f refl }) })) (λ f.
    let stands = or_parts (eqb x 60) (is_control x) f in
    stops_if (eqb x 38) _ _
    (λ g. stops_bind (reference_at (x ∷ rest) rest) _ (stops_as _ (reference_stops x rest (eqb-true x 38 g)) (told_as (λ h c z. partial_here quote (x ∷ rest) h c z))) (reference_gives (x ∷ rest) rest)
    (λ r reference. front_stops r.0 _ (stops_as _ (value_stops quote k fuel r.1) (told_as (λ h c p. partial_reference quote x k rest r.0 r.1 h c (eqb-true x 38 g) reference p))))) (λ g.
    stops_if (eqb x 13 && starts_with nat_eq rest (codes "\n")) _ _
    (λ s. let b = and_parts (eqb x 13) (starts_with nat_eq rest (codes "\n")) s in
    stops_as _ (value_stops quote k fuel rest) (told_as (λ h c p. partial_line_end quote x k rest h c (eqb-true x 13 b.0) (starts_front rest (codes "\n") b.1) p)))
    (λ s. front_stops (cond (is_white x) 32 x ∷ []) _ (stops_as _ (value_stops quote k fuel rest)
    (told_as (λ h c p. partial_character quote x k rest h c (or_from (eqb x quote) (eqb x 60) e stands.0) stands.1 (eqb-false x 38 g) (no_line_end x rest s) p)))))))

-- the same of a value in its quotes
pub record PartQuoted (text here : List ℕ) (reason : NzbReason) : Type 0 where
  pub quote : ℕ
  pub is_quote : (quote ≡ 34) ⊎ (quote ≡ 39)
  pub text_is : text ≡ quote ∷ drop 1 text
  pub part : Partial quote (drop 1 text) here reason

-- in the quotes, or in front of them
pub data QuotedStop (text here : List ℕ) (reason : NzbReason) : Type 0 where
  in_quotes : PartQuoted text here reason → QuotedStop text here reason
  no_quotes : AtByte (ByteAt (λ b. eqb b 34 || eqb b 39) text) here reason → QuotedStop text here reason

pub quoted_stops : (text : List ℕ) → Stops (quoted_at text) (Told (QuotedStop text))
quoted_stops [] = ended
quoted_stops (q ∷ rest) = stops_if (eqb q 34 || eqb q 39) _ _
    (λ e. stops_as _ (value_stops q (quote_cases q e) (length rest) rest) (told_as (λ h c p. in_quotes (record { quote = q; is_quote = quote_cases q e; text_is = refl; part = p }))))
    (λ e. stops_as _ (byte_at (λ b. eqb b 34 || eqb b 39) q rest e) (told_as (λ h c p. no_quotes p)))
