-- The line of an end tells that end.
use Rattle.std.proofs.Common.{◌≡◌, ℕ, ◌<◌, ◌^◌, false, List, [], ◌∷◌, ◌++◌, Some, None, true≢false, refl, ap, sym, ◌∙◌, arith, append_assoc}
use Rattle.std.specs.Prelude.{codes, decimal, bytes_eq}
use Rattle.std.proofs.lemmas.Slice.Eq.{bytes_eq-Decides}
use Rattle.std.specs.Option.{option_map}
use Rattle.nntp_lines.specs.declared.why.Why.{Why}
use Rattle.nntp_lines.specs.declared.why.Why.TheVariants as why
use Rattle.nzb_index.specs.declared.error.NzbReason.{NzbReason}
use Rattle.nzb_index.specs.declared.error.NzbReason.TheVariants as nzb
use Rattle.yenc_lines.specs.Keywords.{key_name}
use Rattle.yenc_lines.specs.declared.key.Key.{Key}
use Rattle.yenc_lines.specs.declared.key.Key.TheVariants as key
use Rattle.yenc_lines.specs.declared.key.KeyFault.{KeyFault}
use Rattle.yenc_lines.specs.declared.key.KeyFault.TheVariants as key_fault
use Rattle.yenc_body.specs.declared.fault.Fault.{Fault}
use Rattle.yenc_body.specs.declared.fault.Reason.{Reason}
use Rattle.yenc_body.specs.declared.fault.Reason.TheVariants as reason
use Rattle.run_ends.specs.declared.end.End.{End}
use Rattle.run_ends.specs.declared.end.End.TheVariants as end
use Rattle.run_ends.specs.declared.end.Limit.{Limit}
use Rattle.run_ends.specs.declared.end.Limit.TheVariants as limit
use Rattle.run_ends.specs.declared.end.ReplyFault.{ReplyFault}
use Rattle.run_ends.specs.declared.end.ReplyFault.TheVariants as reply
use Rattle.run_ends.specs.Line.{line_of}
use Rattle.run_ends.specs.Printed.{key_fault_text, nzb_reason_text, reason_text, why_text}
use Rattle.run_ends.specs.Lined.{HasLine, IsReason, IsWhy}
use Rattle.run_ends.specs.Reading.{behind_word, end_told, fault_told, first_word, key_fault_told, key_told, lack_told, limit_told, line_told, nzb_reason_told, place_told, reason_told, reply_told, why_told}
use Rattle.run_ends.proofs.WordsBack.{behind_number, crcs_back, number_back, spaced, two_back}

-- ---- reasons

key_back : (k : Key) → key_told (key_name k ++ 10 ∷ []) ≡ Some k
unfolding key_told first_word
key_back key.Part = refl
key_back key.Total = refl
key_back key.Line = refl
key_back key.Size = refl
key_back key.Name = refl
key_back key.Begin = refl
key_back key.End = refl
key_back key.Pcrc32 = refl
key_back key.Crc32 = refl

key_fault_back : (f : KeyFault) → key_fault_told (key_fault_text f ++ 10 ∷ []) ≡ Some f
unfolding key_fault_told first_word behind_word
key_fault_back key_fault.NotIt = refl
key_fault_back (key_fault.NoItem k) = ap (option_map key_fault.NoItem) (key_back k)
key_fault_back (key_fault.BadNumber k) = ap (option_map key_fault.BadNumber) (key_back k)
key_fault_back (key_fault.Repeated k) = ap (option_map key_fault.Repeated) (key_back k)
key_fault_back key_fault.BadName = refl

reason_back : (r : Reason) → IsReason r → reason_told (reason_text r ++ 10 ∷ []) ≡ Some r
unfolding reason_told first_word behind_word
reason_back reason.NoBegin fits = refl
reason_back (reason.BadBegin f) fits = ap (option_map reason.BadBegin) (key_fault_back f)
reason_back reason.PartRange fits = refl
reason_back reason.NoPart fits = refl
reason_back (reason.BadPart f) fits = ap (option_map reason.BadPart) (key_fault_back f)
reason_back reason.Stray fits = refl
reason_back reason.LoneEscape fits = refl
reason_back reason.TooMany fits = refl
reason_back reason.Keyword fits = refl
reason_back reason.KeywordTooLong fits = refl
reason_back reason.NoEnd fits = refl
reason_back (reason.BadEnd f) fits = ap (option_map reason.BadEnd) (key_fault_back f)
reason_back (reason.EndPart there here) fits = let l = fits.0 in let r = fits.1 in two_back reason.EndPart 4294967295 there here (omega arith) (omega arith) (omega arith) (omega arith)
reason_back (reason.EndSize there here) fits = let l = fits.0 in let r = fits.1 in two_back reason.EndSize 18446744073709551615 there here (omega arith) l (omega arith) r
reason_back (reason.TooFew count wanted) fits = let l = fits.0 in let r = fits.1 in two_back reason.TooFew 18446744073709551615 count wanted (omega arith) l (omega arith) r
reason_back (reason.CrcDiffers said crc) fits = crcs_back reason.CrcDiffers said crc fits.0 fits.1

nzb_reason_back : (r : NzbReason) → nzb_reason_told (nzb_reason_text r ++ 10 ∷ []) ≡ Some r
unfolding nzb_reason_told first_word
nzb_reason_back nzb.Ended = refl
nzb_reason_back nzb.Unexpected = refl
nzb_reason_back nzb.BadReference = refl
nzb_reason_back nzb.WrongTag = refl
nzb_reason_back nzb.DoubleAttribute = refl
nzb_reason_back nzb.NoNumber = refl
nzb_reason_back nzb.BadNumber = refl
nzb_reason_back nzb.BadId = refl
nzb_reason_back nzb.Subset = refl

why_back : (w : Why) → IsWhy w → why_told (why_text w ++ 10 ∷ []) ≡ Some w
unfolding why_told first_word behind_word
why_back why.Ended fits = refl
why_back why.Quiet fits = refl
why_back (why.Greeting code) fits = ap (option_map why.Greeting) (number_back 65535 code 10 [] (omega arith) (omega arith) refl)
why_back (why.Login code) fits = ap (option_map why.Login) (number_back 65535 code 10 [] (omega arith) (omega arith) refl)
why_back (why.Odd code) fits = ap (option_map why.Odd) (number_back 65535 code 10 [] (omega arith) (omega arith) refl)
why_back why.NoReply fits = refl
why_back why.TooLong fits = refl
why_back why.Unasked fits = refl

-- ---- ends

limit_back : (l : Limit) → HasLine (end.Limit l) → line_told (line_of (end.Limit l)) ≡ Some (end.Limit l)
unfolding line_told end_told limit_told first_word behind_word
limit_back limit.File fits = refl
limit_back limit.Segments fits = refl
limit_back (limit.Part total) fits = ap (λ o. option_map end.Limit (option_map limit.Part o)) (number_back 4294967295 total 10 [] (omega arith) (omega arith) refl)
limit_back limit.Text fits = refl
limit_back limit.Files fits = refl
limit_back limit.Login fits = refl

reply_back : (f : ReplyFault) → HasLine (end.NoReply f) → line_told (line_of (end.NoReply f)) ≡ Some (end.NoReply f)
unfolding line_told end_told reply_told first_word behind_word
reply_back reply.NoReply fits = refl
reply_back (reply.Code code) fits = ap (λ o. option_map end.NoReply (option_map reply.Code o)) (number_back 65535 code 10 [] (omega arith) (omega arith) refl)
reply_back reply.Unfinished fits = refl
reply_back reply.Rest fits = refl

column_behind : (rest : List ℕ) → behind_word (codes "column " ++ rest) ≡ rest
unfolding behind_word
column_behind rest = refl

-- a fault behind its first word
fault_back : (line column : ℕ) (r : Reason) → line < 2 ^ 64 → column < 2 ^ 64 → IsReason r →
    fault_told (decimal line ++ 32 ∷ (codes "column " ++ (decimal column ++ 32 ∷ (reason_text r ++ 10 ∷ [])))) ≡ Some (record { line = line; column = column; reason = r })
unfolding fault_told
fault_back line column r low low' fits =
    let behind : behind_word (decimal line ++ 32 ∷ (codes "column " ++ (decimal column ++ 32 ∷ (reason_text r ++ 10 ∷ [])))) ≡ codes "column " ++ (decimal column ++ 32 ∷ (reason_text r ++ 10 ∷ [])) = behind_number line 32 _ low refl in
    rw (
      number_back 18446744073709551615 line 32 (codes "column " ++ (decimal column ++ 32 ∷ (reason_text r ++ 10 ∷ []))) (omega arith) low refl,
      behind,
      column_behind (decimal column ++ 32 ∷ (reason_text r ++ 10 ∷ [])),
      number_back 18446744073709551615 column 32 (reason_text r ++ 10 ∷ []) (omega arith) low' refl,
      behind_number column 32 (reason_text r ++ 10 ∷ []) low' refl,
      reason_back r fits,
    ) refl

fault_words : (l c r : List ℕ) → l ++ codes " " ++ (codes "column " ++ c) ++ codes " " ++ r ++ 10 ∷ [] ≡ l ++ 32 ∷ (codes "column " ++ (c ++ 32 ∷ (r ++ 10 ∷ [])))
fault_words l c r =
    spaced (l ++ codes " " ++ (codes "column " ++ c)) r
    ∙ append_assoc (l ++ 32 ∷ []) (codes "column " ++ c) (32 ∷ (r ++ 10 ∷ []))
    ∙ append_assoc l (32 ∷ []) (codes "column " ++ c ++ 32 ∷ (r ++ 10 ∷ []))

body_back : (f : Fault) → HasLine (end.NoBody f) → line_told (line_of (end.NoBody f)) ≡ Some (end.NoBody f)
unfolding line_told end_told first_word behind_word
body_back f fits =
    ap (λ (t : List ℕ). option_map end.NoBody (fault_told t)) (fault_words (decimal f.line) (decimal f.column) (reason_text f.reason))
    ∙ ap (option_map end.NoBody) (fault_back f.line f.column f.reason fits.0 fits.1 fits.2)

place_there : (place : ℕ) (r : NzbReason) → place < 2 ^ 64 → place_told (decimal place ++ codes " " ++ nzb_reason_text r ++ 10 ∷ []) ≡ Some (end.NoNzb place r)
unfolding place_told
place_there place r low =
    rw (
      spaced (decimal place) (nzb_reason_text r),
      number_back 18446744073709551615 place 32 (nzb_reason_text r ++ 10 ∷ []) (omega arith) low refl,
      behind_number place 32 (nzb_reason_text r ++ 10 ∷ []) low refl,
      nzb_reason_back r,
    ) refl

place_back : (place : ℕ) (r : NzbReason) → place < 2 ^ 64 → line_told (line_of (end.NoNzb place r)) ≡ Some (end.NoNzb place r)
unfolding line_told end_told first_word behind_word
place_back place r low = place_there place r low

pub line_back : (e : End) → HasLine e → line_told (line_of e) ≡ Some e
unfolding line_told end_told lack_told first_word behind_word
line_back end.Done fits = absurd fits
line_back end.NotAllPosted fits = absurd fits
line_back (end.WordsRefused number) fits = ap (option_map end.WordsRefused) (number_back 18446744073709551615 number 10 [] (omega arith) fits refl)
line_back end.InputFault fits = refl
line_back end.OutputFault fits = refl
line_back end.NoLink fits = refl
line_back (end.Short place) fits = ap (option_map end.Short) (number_back 18446744073709551615 place 10 [] (omega arith) fits refl)
line_back (end.Limit l) fits = limit_back l fits
line_back (end.NoBody f) fits = body_back f fits
line_back (end.NoReply f) fits = reply_back f fits
line_back (end.NoNzb place r) fits = place_back place r fits
line_back (end.LoginBroken number) fits = ap (option_map end.LoginBroken) (number_back 18446744073709551615 number 10 [] (omega arith) fits refl)
line_back end.NoMemory fits = refl
line_back (end.Refused code) fits = ap (option_map end.Refused) (number_back 65535 code 10 [] (omega arith) (omega arith) refl)
line_back (end.Over w) fits = ap (option_map end.Over) (why_back w fits)

-- ---- a line that was written again

-- the line of an end differs from no line that tells this end
pub differs_never : (line text : List ℕ) (told e : End) → line_told line ≡ Some told → text ≡ line_of told → bytes_eq line text ≡ false → HasLine e → line ≡ line_of e → None ≡ Some e
differs_never line text told e is written differs fits whole =
    let back : line_told line ≡ Some e = rw whole (line_back e fits) in
    let same : told ≡ e = some_same (sym is ∙ back) in
    let equal : line ≡ text = whole ∙ ap line_of (sym same) ∙ sym written in
    absurd (true≢false (sym ((bytes_eq-Decides line text).1 equal) ∙ differs))
  where
    some_same : {a b : End} → Some a ≡ Some b → a ≡ b
    some_same h = cc

-- no line tells nothing
pub empty_told : (line : List ℕ) → line ≡ [] → line_told line ≡ None
unfolding line_told first_word
empty_told line is = rw is refl
