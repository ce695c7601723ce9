-- A block as it is heard: what more bytes make of it.
use Rattle.std.proofs.Common.{◌≡◌, ◌≢◌, ◌≤◌, ◌<◌, ℕ, zero, suc, ◌+◌, ◌-◌, List, [], ◌∷◌, ◌++◌, length, take, drop, get_or, refl, sym, ap, subst, ◌∙◌, append_assoc, arith, inl, inr, ◌⊎◌, length-append, length-drop}
use Rattle.std.proofs.lemmas.Bool.{cases_eq}
use Rattle.std.proofs.lemmas.List.{append-nil, take_more, take_all, take-append-drop}
use Rattle.dot_blocks.specs.Blocks.{HoldsNoLineEnd, BeginsWithDot, IsWireForm, AreWireLines, IsBlock}
use Rattle.dot_blocks.specs.Heard.{IsHeard, EndsWithReturn, IsAt, IsEnded, HasFramed}
use Rattle.dot_blocks.specs.declared.place.Place.{Place}
use Rattle.dot_blocks.specs.declared.place.Place.TheVariants.{Start, DotReturn, Return, Middle}
use Rattle.dot_blocks.proofs.LineEnds.{no_end_in_none, no_end_in_rest, joined}

pub heard_none : IsHeard [] [] []
heard_none = record { whole = []; are_lines = refl; goes_on = no_end_in_none; heard_is = refl }

pub stands_before : HasFramed Start [] [] []
stands_before = record { is_heard = heard_none; is_at = refl }

-- ---- more lines

pub line_more : (lines : List (List ℕ)) (whole line wire : List ℕ) → AreWireLines lines whole → IsWireForm line wire → AreWireLines (lines ++ line ∷ []) (whole ++ (wire ++ 13 ∷ 10 ∷ []))
line_more [] whole line wire h w = (wire, [], w, refl, ap (λ (t : List ℕ). t ++ (wire ++ 13 ∷ 10 ∷ [])) h)
line_more (l ∷ lines) whole line wire (first, rest, form, more, e) w =
    (first, rest ++ (wire ++ 13 ∷ 10 ∷ []), form, line_more lines rest line wire more w, ap (λ (t : List ℕ). t ++ (wire ++ 13 ∷ 10 ∷ [])) e ∙ append_assoc first (13 ∷ 10 ∷ rest) (wire ++ 13 ∷ 10 ∷ []))

-- the line of what stands on the wire, where that isn't a dot alone
pub undotted : (rest : List ℕ) → HoldsNoLineEnd (46 ∷ rest) → 46 ∷ rest ≢ 46 ∷ [] → IsWireForm rest (46 ∷ rest)
undotted rest h n = (no_end_in_rest 46 rest h, inr ((λ e. n (ap (λ (t : List ℕ). 46 ∷ t) e)), refl))

pub plain : (wire : List ℕ) → HoldsNoLineEnd wire → ¬ (BeginsWithDot wire) → IsWireForm wire wire
plain wire h n = (h, inl (n, refl))

line_of : (wire : List ℕ) → HoldsNoLineEnd wire → wire ≢ 46 ∷ [] → (line : List ℕ) × IsWireForm line wire
line_of [] h n = ([], plain [] h (λ d. absurd cc))
line_of (x ∷ wire) h n = elim (cases_eq x 46) [
  | inl is ↦ (wire, dotted is)
  | inr not ↦ (x ∷ wire, plain (x ∷ wire) h (λ d. let e = d.1 in not (cc)))
]
  where
    dotted : x ≡ 46 → IsWireForm wire (x ∷ wire)
    dotted is = subst (λ (y : ℕ). IsWireForm wire (y ∷ wire)) (sym is) (undotted wire (subst (λ (y : ℕ). HoldsNoLineEnd (y ∷ wire)) is h) (λ e. n (ap (λ (y : ℕ). y ∷ wire) is ∙ e)))

heard_then : (heard whole begun piece : List ℕ) → heard ≡ whole ++ begun → heard ++ piece ≡ whole ++ (begun ++ piece)
heard_then heard whole begun piece e = ap (λ (t : List ℕ). t ++ piece) e ∙ append_assoc whole begun piece

-- the line goes on
pub heard_more : (heard : List ℕ) (lines : List (List ℕ)) (begun piece : List ℕ) → IsHeard heard lines begun → HoldsNoLineEnd (begun ++ piece) → IsHeard (heard ++ piece) lines (begun ++ piece)
heard_more heard lines begun piece h none =
    record { whole = h.whole; are_lines = h.are_lines; goes_on = none; heard_is = heard_then heard h.whole begun piece h.heard_is }

-- the line ends
pub heard_line : (heard : List ℕ) (lines : List (List ℕ)) (begun piece line wire : List ℕ) → IsHeard heard lines begun → IsWireForm line wire → begun ++ piece ≡ wire ++ 13 ∷ 10 ∷ [] → IsHeard (heard ++ piece) (lines ++ line ∷ []) []
heard_line heard lines begun piece line wire h form e = record {
  whole = h.whole ++ (wire ++ 13 ∷ 10 ∷ []);
  are_lines = line_more lines h.whole line wire h.are_lines form;
  goes_on = no_end_in_none;
  heard_is = heard_then heard h.whole begun piece h.heard_is ∙ ap (λ (t : List ℕ). h.whole ++ t) e ∙ sym (append-nil (h.whole ++ (wire ++ 13 ∷ 10 ∷ [])));
}

-- the block ends
pub heard_block : (heard : List ℕ) (lines : List (List ℕ)) (begun piece : List ℕ) → IsHeard heard lines begun → begun ++ piece ≡ 46 ∷ 13 ∷ 10 ∷ [] → IsBlock lines (heard ++ piece)
heard_block heard lines begun piece h e = (h.whole, h.are_lines, heard_then heard h.whole begun piece h.heard_is ∙ ap (λ (t : List ℕ). h.whole ++ t) e)

-- a line that has ended, and isn't the dot alone
pub ended_line : (heard : List ℕ) (lines : List (List ℕ)) (begun piece : List ℕ) → IsHeard heard lines begun → IsEnded (begun ++ piece) → begun ++ piece ≢ 46 ∷ 13 ∷ 10 ∷ [] →
    (line wire : List ℕ) × IsWireForm line wire × (begun ++ piece ≡ wire ++ 13 ∷ 10 ∷ []) × HasFramed Start (heard ++ piece) (lines ++ line ∷ []) []
ended_line heard lines begun piece h (wire, none, e) n =
    let l = line_of wire none (λ d. n (e ∙ ap (λ (t : List ℕ). t ++ 13 ∷ 10 ∷ []) d)) in
    (l.0, wire, l.1, e, record { is_heard = heard_line heard lines begun piece l.0 wire h l.1 e; is_at = refl })

-- ---- where a line stands

last_of : (a b : List ℕ) (x y : ℕ) → a ++ x ∷ [] ≡ b ++ y ∷ [] → x ≡ y
last_of [] [] x y e = cc
last_of [] (c ∷ b) x y e = absurd (omega (arith, ap length e, length-append b (y ∷ [])))
last_of (c ∷ a) [] x y e = absurd (omega (arith, ap length e, length-append a (x ∷ [])))
last_of (c ∷ a) (d ∷ b) x y e = last_of a b x y (cc)

last_apart : (bytes : List ℕ) → 0 < length bytes → bytes ≡ take (length bytes - 1) bytes ++ get_or bytes (length bytes - 1) 0 ∷ []
last_apart bytes some =
    let one : length bytes - 1 + 1 ≡ length bytes = omega arith in
    sym (take_all (length bytes) bytes (omega arith)) ∙ ap (λ (n : ℕ). take n bytes) (sym one) ∙ take_more bytes (length bytes - 1) 0 (omega arith)

-- behind three bytes or more the last one tells
pub behind_return : (begun bytes : List ℕ) → 3 ≤ length bytes → get_or bytes (length bytes - 1) 0 ≡ 13 → IsAt Return (begun ++ bytes)
behind_return begun bytes long is =
    let front : List ℕ = take (length bytes - 1) bytes in (
      (begun ++ front, ap (λ (t : List ℕ). begun ++ t) (last_apart bytes (omega arith) ∙ ap (λ (x : ℕ). front ++ x ∷ []) is) ∙ sym (append_assoc begun front (13 ∷ []))),
      λ e. absurd (omega (arith, ap length e, length-append begun bytes)),
    )

pub behind_other : (begun bytes : List ℕ) → 3 ≤ length bytes → get_or bytes (length bytes - 1) 0 ≢ 13 → IsAt Middle (begun ++ bytes)
behind_other begun bytes long other = (
  λ r. other (last_of (begun ++ take (length bytes - 1) bytes) r.0 (get_or bytes (length bytes - 1) 0) 13
      (append_assoc begun (take (length bytes - 1) bytes) (get_or bytes (length bytes - 1) 0 ∷ []) ∙ ap (λ (t : List ℕ). begun ++ t) (sym (last_apart bytes (omega arith))) ∙ r.1)),
  λ e. absurd (omega (arith, ap length e, length-append begun bytes)),
  λ e. absurd (omega (arith, ap length e, length-append begun bytes)),
)

-- a line that is a dot and CR doesn't stand elsewhere
return_isnt_dot : (begun bytes : List ℕ) → IsAt Return begun → HoldsNoLineEnd begun → begun ++ bytes ≢ 46 ∷ 13 ∷ 10 ∷ []
return_isnt_dot [] bytes ((front, e), n) h f = absurd (omega (arith, ap length e, length-append front (13 ∷ [])))
return_isnt_dot (a ∷ []) bytes ((front, e), n) h f =
    let same : a ≡ 13 = last_of [] front a 13 e in absurd cc
return_isnt_dot (a ∷ b ∷ []) bytes (r, n) h f = n (cc)
return_isnt_dot (a ∷ b ∷ c ∷ begun) bytes (r, n) h f = h (a ∷ []) begun (cc)

middle_isnt_dot : (begun bytes : List ℕ) → IsAt Middle begun → HoldsNoLineEnd begun → begun ++ bytes ≢ 46 ∷ 13 ∷ 10 ∷ []
middle_isnt_dot [] bytes (r, n, d) h f = n refl
middle_isnt_dot (a ∷ []) bytes (r, n, d) h f = d (cc)
middle_isnt_dot (a ∷ b ∷ []) bytes (r, n, d) h f = r (a ∷ [], cc)
middle_isnt_dot (a ∷ b ∷ c ∷ begun) bytes (r, n, d) h f = h (a ∷ []) begun (cc)

pub isnt_dot : (place : Place) (begun bytes : List ℕ) → (place ≡ Return) ⊎ (place ≡ Middle) → IsAt place begun → HoldsNoLineEnd begun → begun ++ bytes ≢ 46 ∷ 13 ∷ 10 ∷ []
isnt_dot place begun bytes (inl e) at h = return_isnt_dot begun bytes (subst (λ (p : Place). IsAt p begun) e at) h
isnt_dot place begun bytes (inr e) at h = middle_isnt_dot begun bytes (subst (λ (p : Place). IsAt p begun) e at) h

-- ---- a piece with the first CRLF of its own

-- the piece doesn't begin with the LF of a CR before it
pub goes_apart : (begun bytes : List ℕ) (len : ℕ) → (EndsWithReturn begun → (w : List ℕ) → bytes ≢ 10 ∷ w) → HoldsNoLineEnd begun → HoldsNoLineEnd (take len bytes) → HoldsNoLineEnd (begun ++ take len bytes)
goes_apart begun bytes len apart h k = joined begun (take len bytes) h k (λ r w e. fed len bytes w e (apart r))
  where
    fed : (n : ℕ) (ys w : List ℕ) → take n ys ≡ 10 ∷ w → ((v : List ℕ) → ys ≢ 10 ∷ v) → ⊥
    fed zero ys w e n = absurd cc
    fed (suc m) [] w e n = absurd cc
    fed (suc m) (y ∷ ys) w e n = n ys (cc)

take_two_more : (len : ℕ) (bytes rest : List ℕ) → drop len bytes ≡ 13 ∷ 10 ∷ rest → take (len + 2) bytes ≡ take len bytes ++ 13 ∷ 10 ∷ []
take_two_more zero [] rest e = absurd cc
take_two_more zero (x ∷ []) rest e = absurd cc
take_two_more zero (x ∷ y ∷ bytes) rest e = cc
take_two_more (suc len) [] rest e = absurd cc
take_two_more (suc len) (x ∷ bytes) rest e =
    let k : suc len + 2 ≡ suc (len + 2) = omega arith in
    ap (λ (n : ℕ). take n (x ∷ bytes)) k ∙ ap (λ (t : List ℕ). x ∷ t) (take_two_more len bytes rest e)

pub ended_there : (begun bytes rest : List ℕ) (len : ℕ) → (EndsWithReturn begun → (w : List ℕ) → bytes ≢ 10 ∷ w) → HoldsNoLineEnd begun → HoldsNoLineEnd (take len bytes) → drop len bytes ≡ 13 ∷ 10 ∷ rest → IsEnded (begun ++ take (len + 2) bytes)
ended_there begun bytes rest len apart h k e = (
  begun ++ take len bytes,
  goes_apart begun bytes len apart h k,
  ap (λ (t : List ℕ). begun ++ t) (take_two_more len bytes rest e) ∙ sym (append_assoc begun (take len bytes) (13 ∷ 10 ∷ [])),
)

pub undotted_slice : (wire : List ℕ) → get_or wire 0 0 ≡ 46 → HoldsNoLineEnd wire → wire ≢ 46 ∷ [] → IsWireForm (take (length wire - 1) (drop 1 wire)) wire
undotted_slice [] e h n = absurd cc
undotted_slice (x ∷ wire) e h n =
    let all : take (length (x ∷ wire) - 1) wire ≡ wire = take_all (length (x ∷ wire) - 1) wire (omega arith) in
    subst (λ (line : List ℕ). IsWireForm line (x ∷ wire)) (sym all)
    (subst (λ (y : ℕ). IsWireForm wire (y ∷ wire)) (sym e) (undotted wire (subst (λ (y : ℕ). HoldsNoLineEnd (y ∷ wire)) e h) (λ f. n (ap (λ (y : ℕ). y ∷ wire) e ∙ f))))

pub returned : (place : Place) (begun : List ℕ) → (place ≡ DotReturn) ⊎ (place ≡ Return) → IsAt place begun → EndsWithReturn begun
returned place begun (inl e) at = let is : begun ≡ 46 ∷ 13 ∷ [] = subst (λ (p : Place). IsAt p begun) e at in (46 ∷ [], is)
returned place begun (inr e) at = let is : IsAt Return begun = subst (λ (p : Place). IsAt p begun) e at in is.0

-- ---- a whole block, line by line

take_none : (k : ℕ) (none : List ℕ) → none ≡ [] → take k none ≡ []
take_none zero none e = refl
take_none (suc k) [] e = refl
take_none (suc k) (x ∷ none) e = absurd cc

take_then : (at n : ℕ) (bytes : List ℕ) → take (at + n) bytes ≡ take at bytes ++ take n (drop at bytes)
take_then zero n bytes = let e : zero + n ≡ n = omega arith in ap (λ (k : ℕ). take k bytes) e
take_then (suc at) n [] = take_none (suc at + n) [] refl ∙ sym (take_none n [] refl)
take_then (suc at) n (x ∷ bytes) = let e : suc at + n ≡ suc (at + n) = omega arith in ap (λ (k : ℕ). take k (x ∷ bytes)) e ∙ ap (λ (t : List ℕ). x ∷ t) (take_then at n bytes)

-- the lines up to a place, and one more line with its CRLF
line_there : (block left wire rest : List ℕ) (at len : ℕ) → left ≡ drop at block → wire ≡ take len left → drop len left ≡ 13 ∷ 10 ∷ rest → take (at + (len + 2)) block ≡ take at block ++ (wire ++ 13 ∷ 10 ∷ [])
line_there block left wire rest at len left_is wire_is e =
    take_then at (len + 2) block ∙ ap (λ (t : List ℕ). take at block ++ take (len + 2) t) (sym left_is) ∙ ap (λ (t : List ℕ). take at block ++ t) (take_two_more len left rest e ∙ ap (λ (t : List ℕ). t ++ 13 ∷ 10 ∷ []) (sym wire_is))

pub split_more : (lines : List (List ℕ)) (block left wire line rest : List ℕ) (at len : ℕ) → AreWireLines lines (take at block) → left ≡ drop at block → wire ≡ take len left → drop len left ≡ 13 ∷ 10 ∷ rest → IsWireForm line wire → AreWireLines (lines ++ line ∷ []) (take (at + (len + 2)) block)
split_more lines block left wire line rest at len are left_is wire_is e form =
    subst (AreWireLines (lines ++ line ∷ [])) (sym (line_there block left wire rest at len left_is wire_is e)) (line_more lines (take at block) line wire are form)

pub split_ended : (lines : List (List ℕ)) (block left wire rest : List ℕ) (at len : ℕ) → AreWireLines lines (take at block) → left ≡ drop at block → wire ≡ take len left → drop len left ≡ 13 ∷ 10 ∷ rest → wire ≡ 46 ∷ [] → IsBlock lines (take (at + (len + 2)) block)
split_ended lines block left wire rest at len are left_is wire_is e dot =
    (take at block, are, line_there block left wire rest at len left_is wire_is e ∙ ap (λ (t : List ℕ). take at block ++ (t ++ 13 ∷ 10 ∷ [])) dot)

pub split_begun : (lines : List (List ℕ)) (block left : List ℕ) (at : ℕ) → AreWireLines lines (take at block) → left ≡ drop at block → HoldsNoLineEnd left → IsHeard block lines left
split_begun lines block left at are left_is none = record {
  whole = take at block;
  are_lines = are;
  goes_on = none;
  heard_is = sym (take-append-drop at block) ∙ ap (λ (t : List ℕ). take at block ++ t) (sym left_is);
}

pub left_whole : (block : List ℕ) (at : ℕ) → take (length block - at) (drop at block) ≡ drop at block
left_whole block at = take_all (length block - at) (drop at block) (omega (arith, length-drop at block))

pub wire_there : (block : List ℕ) (at len : ℕ) → take (at + len - at) (drop at block) ≡ take len (take (length block - at) (drop at block))
wire_there block at len =
    let same : at + len - at ≡ len = omega arith in
    ap (λ (k : ℕ). take k (drop at block)) same ∙ ap (λ (t : List ℕ). take len t) (sym (left_whole block at))

pub left_inside : (block : List ℕ) (at len : ℕ) → len + 2 ≤ length (take (length block - at) (drop at block)) → at + (len + 2) ≤ length block
left_inside block at len le = omega (arith, le, ap length (left_whole block at), length-drop at block)
