-- What a step of the reader says, by whether a line is whole.
use Rattle.std.proofs.Common.{◌≡◌, ℕ, ◌<◌, ◌≤◌, true, false, List, [], ◌∷◌, Some, None, refl, ap, sym, ◌∙◌, arith, length, cond}
use Rattle.std.specs.Prelude.{nat_le}
use Rattle.std.proofs.lemmas.Bool.Decides.{nat_tests}
use Rattle.nntp_lines.specs.declared.why.Why.TheVariants.{NoReply}
use Rattle.link_dialog.specs.declared.awaited.Awaited.{Awaited}
use Rattle.link_dialog.specs.declared.reader.Reader.{Reader}
use Rattle.link_dialog.specs.declared.reader.Step.{Step}
use Rattle.link_dialog.specs.declared.reader.Step.TheVariants.{More, Line, Over}
use Rattle.link_dialog.specs.Judged.{IsJudgedBy}
use Rattle.link_dialog.specs.Reader.{IsLine, Says, held}
use Rattle.link_dialog.specs.Replies.{first_line, judged, has_block, whole_reply, reply_of, reply_judged, why_judged, why_of_rest, why_of_line, most}

-- a reply has room for what is heard of a line
pub few_within : (bytes : List ℕ) → length bytes ≤ 512 → nat_le (length bytes) most ≡ true
few_within bytes short = grind (arith, nat_tests)

pub whole_short : (kind : Awaited) (bytes : List ℕ) → length bytes ≤ 512 → whole_reply kind bytes ≡ reply_of kind (first_line bytes)
whole_short kind bytes short = ap (λ test. cond test (reply_of kind (first_line bytes)) None) (few_within bytes short)

-- the end of a line
pub line_judged : (kind : Awaited) (bytes front : List ℕ) (step : Step) (reader : Reader) → first_line bytes ≡ Some (front, []) → length bytes ≤ 512 → IsJudgedBy (judged kind front) step → held reader ≡ front → Says kind bytes step reader
line_judged kind bytes front More reader is short judgement same = absurd judgement
line_judged kind bytes front (Line code) reader is short judgement same =
    record { line = is ∙ ap (λ t. Some (t, [])) (sym same); code_is = ap (judged kind) same ∙ judgement; short = short }
line_judged kind bytes front (Over reason) reader is short judgement same = (
  whole_short kind bytes short ∙ ap (reply_of kind) is ∙ ap (reply_judged kind front []) judgement,
  ap (why_of_line kind bytes) is ∙ ap (why_judged bytes) judgement,
)

pub line_too_long : (kind : Awaited) (bytes : List ℕ) → first_line bytes ≡ None → length bytes ≡ 512 → (whole_reply kind bytes ≡ None) × (why_of_rest (kind ∷ []) bytes ≡ Some NoReply)
line_too_long kind bytes none long =
    let much : nat_le 512 (length bytes) ≡ true = rw long refl in
    (whole_short kind bytes (omega arith) ∙ ap (reply_of kind) none, ap (why_of_line kind bytes) none ∙ rw much refl)

pub line_goes_on : (kind : Awaited) (bytes : List ℕ) → first_line bytes ≡ None → length bytes < 512 → (whole_reply kind bytes ≡ None) × (why_of_rest (kind ∷ []) bytes ≡ None)
line_goes_on kind bytes none short =
    let few : nat_le 512 (length bytes) ≡ false = grind (arith, nat_tests) in
    (whole_short kind bytes (omega arith) ∙ ap (reply_of kind) none, ap (why_of_line kind bytes) none ∙ rw few refl)

-- a whole line is the reply, where no block follows it
pub line_is_reply : (kind : Awaited) (bytes : List ℕ) (code : ℕ) (reader : Reader) → IsLine kind bytes code reader → has_block kind code ≡ false → whole_reply kind bytes ≡ Some (record { code = code; line = held reader; lines = [] })
line_is_reply kind bytes code reader s none =
    whole_short kind bytes s.short ∙ ap (reply_of kind) s.line ∙ ap (reply_judged kind (held reader) []) s.code_is ∙ rw none refl
