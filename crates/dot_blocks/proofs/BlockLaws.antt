-- No block begins another, a block has one list of lines, and bytes are heard in one way.
use Rattle.std.proofs.Common.{◌≡◌, ◌≢◌, ℕ, ◌+◌, ◌-◌, Ok, Err, List, [], ◌∷◌, ◌++◌, length, take, drop, refl, sym, ap, subst, ◌∙◌, append_assoc, inl, inr, arith, length-append, length-drop}
use Rattle.std.specs.List.{AllByRecursion}
use Rattle.std.proofs.lemmas.List.{append-nil, take-append-drop}
use Rattle.dot_blocks.specs.declared.split.BlockError.TheVariants.{Rest}
use Rattle.dot_blocks.specs.Blocks.{HoldsNoLineEnd, IsWireForm, AreWireLines, IsBlock, BeginsNoBlock, IsNoBlockFor, Splits}
use Rattle.dot_blocks.specs.Heard.{IsHeard}
use Rattle.dot_blocks.proofs.LineEnds.{no_end_in_none, no_end_behind_dot, first_end}

wire_holds_none : (v u : List ℕ) → IsWireForm v u → HoldsNoLineEnd u
wire_holds_none v u (h, inl (n, e)) = subst HoldsNoLineEnd (sym e) h
wire_holds_none v u (h, inr (n, e)) = subst HoldsNoLineEnd (sym e) (no_end_behind_dot v h)

wire_line_once : (v w u : List ℕ) → IsWireForm v u → IsWireForm w u → v ≡ w
wire_line_once v w u (h, inl (n, e)) (k, inl (m, f)) = cc
wire_line_once v w u (h, inl (n, e)) (k, inr (m, f)) = absurd (n (w, cc))
wire_line_once v w u (h, inr (n, e)) (k, inl (m, f)) = absurd (m (v, cc))
wire_line_once v w u (h, inr (n, e)) (k, inr (m, f)) = cc

-- the dot alone is no line's wire form
pub no_dot_alone : (v : List ℕ) → ¬ (IsWireForm v (46 ∷ []))
no_dot_alone v (h, inl (n, e)) = n ([], sym e)
no_dot_alone v (h, inr (n, e)) = n (cc)

-- no line on the wire stands at the front of the bytes
abbrev BeginsNoLine : List ℕ → Type 0
BeginsNoLine bytes = (line wire rest : List ℕ) → IsWireForm line wire → bytes ≢ wire ++ 13 ∷ 10 ∷ rest

begun_begins_none : (begun : List ℕ) → HoldsNoLineEnd begun → BeginsNoLine begun
begun_begins_none begun h line wire rest form e = h wire rest e

dot_begins_none : (more : List ℕ) → BeginsNoLine (46 ∷ 13 ∷ 10 ∷ more)
dot_begins_none more line wire rest form e =
    let r = first_end (46 ∷ []) wire more rest (no_end_behind_dot [] no_end_in_none) (wire_holds_none line wire form) e in
    no_dot_alone line (subst (IsWireForm line) (sym r.0) form)

-- two lists of lines at the front of the same bytes, each as far as it goes, are one
lines_once : (a b : List (List ℕ)) (u w r s : List ℕ) → AreWireLines a u → AreWireLines b w → BeginsNoLine r → BeginsNoLine s → u ++ r ≡ w ++ s → (a ≡ b) × (u ≡ w) × (r ≡ s)
lines_once [] [] u w r s p q g h e = (refl, cc, sym (ap (λ (t : List ℕ). t ++ r) p) ∙ e ∙ ap (λ (t : List ℕ). t ++ s) q)
lines_once [] (v ∷ b) u w r s p (w1, rest, form, more, f) g h e =
    absurd (g v w1 (rest ++ s) form (sym (ap (λ (t : List ℕ). t ++ r) p) ∙ e ∙ ap (λ (t : List ℕ). t ++ s) f ∙ append_assoc w1 (13 ∷ 10 ∷ rest) s))
lines_once (v ∷ a) [] u w r s (u1, rest, form, more, f) q g h e =
    absurd (h v u1 (rest ++ r) form (sym (ap (λ (t : List ℕ). t ++ s) q) ∙ sym e ∙ ap (λ (t : List ℕ). t ++ r) f ∙ append_assoc u1 (13 ∷ 10 ∷ rest) r))
lines_once (v1 ∷ a) (v2 ∷ b) u w r s (u1, r1, form1, more1, f1) (u2, r2, form2, more2, f2) g h e =
    let at : u1 ++ 13 ∷ 10 ∷ (r1 ++ r) ≡ u2 ++ 13 ∷ 10 ∷ (r2 ++ s) =
    sym (append_assoc u1 (13 ∷ 10 ∷ r1) r) ∙ ap (λ (t : List ℕ). t ++ r) (sym f1) ∙ e ∙ ap (λ (t : List ℕ). t ++ s) f2 ∙ append_assoc u2 (13 ∷ 10 ∷ r2) s in
    let k = first_end u1 u2 (r1 ++ r) (r2 ++ s) (wire_holds_none v1 u1 form1) (wire_holds_none v2 u2 form2) at in
    let t = lines_once a b r1 r2 r s more1 more2 g h k.1 in
    let same = wire_line_once v1 v2 u2 (subst (IsWireForm v1) k.0 form1) form2 in
    let lines : v1 ∷ a ≡ v2 ∷ b = let o = t.0 in cc in
    let bytes : u ≡ w = let o = k.0 in let i = t.1 in cc in
    (lines, bytes, t.2)

block_then : (whole block rest : List ℕ) → block ≡ whole ++ 46 ∷ 13 ∷ 10 ∷ [] → block ++ rest ≡ whole ++ 46 ∷ 13 ∷ 10 ∷ rest
block_then whole block rest e = ap (λ (t : List ℕ). t ++ rest) e ∙ append_assoc whole (46 ∷ 13 ∷ 10 ∷ []) rest

-- two blocks at the front of the same bytes are one block, of one list of lines
pub blocks_once : (a b : List (List ℕ)) (u w x y : List ℕ) → IsBlock a u → IsBlock b w → u ++ x ≡ w ++ y → (a ≡ b) × (x ≡ y)
blocks_once a b u w x y (whole, lines, e) (other, others, f) same =
    let k = lines_once a b whole other (46 ∷ 13 ∷ 10 ∷ x) (46 ∷ 13 ∷ 10 ∷ y) lines others (dot_begins_none x) (dot_begins_none y) (sym (block_then whole u x e) ∙ same ∙ block_then other w y f) in
    let rest : x ≡ y = let r = k.2 in cc in
    (k.0, rest)

-- bytes are heard in one way
pub heard_once : (bytes : List ℕ) (a b : List (List ℕ)) (x y : List ℕ) → IsHeard bytes a x → IsHeard bytes b y → (a ≡ b) × (x ≡ y)
heard_once bytes a b x y p q =
    let k = lines_once a b p.whole q.whole x y p.are_lines q.are_lines (begun_begins_none x p.goes_on) (begun_begins_none y q.goes_on) (sym p.heard_is ∙ q.heard_is) in
    (k.0, k.2)

-- what is heard begins with no block
pub heard_begins_no_block : (bytes : List ℕ) (lines : List (List ℕ)) (begun : List ℕ) → IsHeard bytes lines begun → BeginsNoBlock bytes
heard_begins_no_block bytes lines begun p others block rest (whole, are, e) f =
    let k = lines_once lines others p.whole whole begun (46 ∷ 13 ∷ 10 ∷ rest) p.are_lines are (begun_begins_none begun p.goes_on) (dot_begins_none rest) (sym p.heard_is ∙ f ∙ block_then whole block rest e) in
    p.goes_on (46 ∷ []) rest k.2

-- ---- what the answers of a split say of a block at the front

pub splits_whole : (bytes : List ℕ) (found lines : List (List ℕ)) (front rest : List ℕ) → IsBlock found bytes → IsBlock lines front → bytes ≡ front ++ rest → Splits lines front rest (Ok found)
splits_whole bytes found lines front rest is block e =
    let same = blocks_once found lines bytes front [] rest is block (append-nil bytes ∙ e) in (same.0, sym same.1)

pub splits_rest : (bytes : List ℕ) (used : ℕ) (lines : List (List ℕ)) (front rest : List ℕ) → IsNoBlockFor bytes (Rest used) → IsBlock lines front → bytes ≡ front ++ rest → Splits lines front rest (Err (Rest used))
splits_rest bytes used lines front rest (less, (found, is)) block e =
    let same = blocks_once found lines (take used bytes) front (drop used bytes) rest is block (take-append-drop used bytes ∙ e) in
    let long : length (drop used bytes) ≡ length bytes - used = length-drop used bytes in
    let all : length bytes ≡ length front + length rest = ap length e ∙ length-append front rest in (
      omega (arith, ap length same.1),
      λ none. absurd (omega (arith, ap length same.1, ap length none)),
    )

-- no line of a block holds a line's end
pub lines_hold_none : (lines : List (List ℕ)) (bytes : List ℕ) → AreWireLines lines bytes → AllByRecursion HoldsNoLineEnd lines
lines_hold_none [] bytes are = tt
lines_hold_none (line ∷ lines) bytes (wire, rest, form, are, e) = (form.0, lines_hold_none lines rest are)
