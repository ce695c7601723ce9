-- A reply has one status line and one body, or one fault.
use Rattle.std.proofs.Common.{◌≡◌, ℕ, ◌+◌, ◌<◌, List, [], ◌∷◌, ◌++◌, ◌-◌, length, take, drop, sym, ap, ◌∙◌, subst, arith, length-drop, take_all}
use Rattle.std.proofs.lemmas.List.{append-nil, take-append-drop}
use Rattle.dot_blocks.specs.declared.split.BlockError.{BlockError}
use Rattle.dot_blocks.specs.declared.split.BlockError.TheVariants as blocks
use Rattle.dot_blocks.specs.Blocks.{BeginsNoBlock, HoldsNoLineEnd, IsBlock, IsNoBlockFor}
use Rattle.dot_blocks.proofs.BlockLaws.{blocks_once}
use Rattle.dot_blocks.proofs.LineEnds.{first_end}
use Rattle.nntp_lines.specs.declared.status.StatusFault.{StatusFault}
use Rattle.nntp_lines.specs.StatusLine.{HasStatusFault, IsStatusLine}
use Rattle.nntp_lines.proofs.StatusLaws.{fault_is_told, line_is_read}
use Rattle.yenc_body.specs.declared.part.Part.{Part}
use Rattle.yenc_body.specs.declared.fault.Fault.{Fault}
use Rattle.yenc_body.specs.Body.{IsBody}
use Rattle.yenc_body.specs.FirstFault.{IsFirstFault}
use Rattle.yenc_body.proofs.BodyLaws.{body_read, fault_read}
use Rattle.command_words.specs.declared.keys.Form.{Form}
use Rattle.command_words.specs.declared.keys.Form.TheVariants.{File, Wire}
use Rattle.run_ends.specs.declared.end.ReplyFault.{ReplyFault}
use Rattle.run_ends.specs.declared.end.ReplyFault.TheVariants.{NoReply, Code, Unfinished, Rest}
use Rattle.usebin_cli.specs.Decode.{HasBody, HasNoBody, HasNoReply, IsSavedAs}
use Rattle.usebin_cli.specs.Reply.{BeginsWithStatus, HasReplyFault, IsBodyReply, body_follows}

same_code : (line : List ℕ) (a b : ℕ) → IsStatusLine line a → IsStatusLine line b → a ≡ b
same_code line a b p q = let x = line_is_read line a p in let y = line_is_read line b q in cc

-- a text begins with at most one status line
status_once : (text : List ℕ) (a b : ℕ) (x y : List ℕ) → BeginsWithStatus text a x → BeginsWithStatus text b y → (a ≡ b) × (x ≡ y)
status_once text a b x y p q =
    let same = first_end p.line q.line x y p.first q.first (sym p.text_is ∙ q.text_is) in
    (same_code q.line a b (subst (λ (l : List ℕ). IsStatusLine l a) same.0 p.status) q.status, same.1)

no_longer_block : (bytes : List ℕ) (used : ℕ) (a b : List (List ℕ)) → IsBlock a bytes → used < length bytes → IsBlock b (take used bytes) → ⊥
no_longer_block bytes used a b p less q =
    let same = blocks_once a b bytes (take used bytes) [] (drop used bytes) p q (append-nil bytes ∙ sym (take-append-drop used bytes)) in
    let none : length (drop used bytes) ≡ 0 = ap length (sym same.1) in
    omega (arith, none, length-drop used bytes, less)

-- a reply has the lines of one body
reply_once : (text : List ℕ) (a b : List (List ℕ)) → IsBodyReply text a → IsBodyReply text b → a ≡ b
reply_once text a b (x, p, u) (y, q, v) =
    let same = status_once text _ _ x y p q in
    (blocks_once a b x y [] [] u v (ap (λ (l : List ℕ). l ++ []) same.1)).0

-- and no fault
reply_or_fault : (text : List ℕ) (lines : List (List ℕ)) (f : ReplyFault) → IsBodyReply text lines → HasReplyFault text f → ⊥
reply_or_fault text lines NoReply (x, p, u) f = f _ x p
reply_or_fault text lines (Code code) (x, p, u) (y, q, other) = other (sym (status_once text _ _ x y p q).0)
reply_or_fault text lines Unfinished (x, p, u) (y, q, none) =
    let same = status_once text _ _ x y p q in
    none lines x [] u (sym same.1 ∙ sym (append-nil x))
reply_or_fault text lines Rest (x, p, u) (y, q, (used, less, (more, block))) =
    let same = status_once text _ _ x y p q in
    no_longer_block y used lines more (subst (IsBlock lines) same.1 u) less block

-- the same of a body however it was saved
saved_once : (form : Form) (text : List ℕ) (a b : List (List ℕ)) → IsSavedAs form text a → IsSavedAs form text b → a ≡ b
saved_once File text a b p q = p ∙ sym q
saved_once Wire text a b p q = reply_once text a b p q

body_and_fault : (lines : List (List ℕ)) (p : Part) (f : Fault) → IsBody lines p → IsFirstFault lines f → ⊥
body_and_fault lines p f b g = let x = body_read lines p b in let y = fault_read lines f g in cc

pub body_or_no_body : (form : Form) (text : List ℕ) (p : Part) (f : Fault) → HasBody form text p → HasNoBody form text f → ⊥
body_or_no_body form text p f (a, x, body) (b, y, fault) = body_and_fault b p f (subst (λ (l : List (List ℕ)). IsBody l p) (saved_once form text a b x y) body) fault

pub body_or_no_reply : (form : Form) (text : List ℕ) (p : Part) (f : ReplyFault) → HasBody form text p → HasNoReply form text f → ⊥
body_or_no_reply form text p f (a, x, body) (wire, fault) = reply_or_fault text a f (rw wire at x) fault

-- ---- the reading of the status line

-- what stands in front of the first CRLF is the only line that a status line could be
pub no_status : (text line rest : List ℕ) (f : StatusFault) → text ≡ line ++ 13 ∷ 10 ∷ rest → HoldsNoLineEnd line → HasStatusFault line f → HasReplyFault text NoReply
no_status text line rest f is first fault = λ code other b.
    let same = first_end b.line line other rest b.first first (sym b.text_is ∙ is) in
    let x = line_is_read line code (subst (λ (l : List ℕ). IsStatusLine l code) same.0 b.status) in
    let y = fault_is_told line f fault in
    absurd cc

pub no_line : (text : List ℕ) → HoldsNoLineEnd text → HasReplyFault text NoReply
no_line text none = λ code rest b. none b.line rest b.text_is

pub split_at : (text : List ℕ) (len : ℕ) → drop len text ≡ 13 ∷ 10 ∷ drop (len + 2) text → text ≡ take len text ++ 13 ∷ 10 ∷ drop (len + 2) text
split_at text len here = sym (take-append-drop len text) ∙ ap (λ (l : List ℕ). take len text ++ l) here

-- ---- the reading of the block

-- no block stands behind the status line
pub unfinished : (text : List ℕ) (code used : ℕ) (e : BlockError) → BeginsWithStatus text code (drop used text) → code ≡ body_follows → e ≡ blocks.Unfinished →
    IsNoBlockFor (take (length text - used) (drop used text)) e → HasReplyFault text Unfinished
unfinished text code used e begins is e_is none =
    let all : take (length text - used) (drop used text) ≡ drop used text = take_all (length text - used) (drop used text) (omega (arith, length-drop used text)) in
    (drop used text, subst (λ (n : ℕ). BeginsWithStatus text n (drop used text)) is begins, subst BeginsNoBlock all (subst (IsNoBlockFor (take (length text - used) (drop used text))) e_is none))
