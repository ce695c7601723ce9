-- A block that is heard in pieces, behind its status line.
use Rattle.std.proofs.Common.{◌≡◌, ◌≢◌, ◌<◌, ◌≤◌, ◌+◌, ◌-◌, ℕ, zero, suc, Bool, true, false, List, [], ◌∷◌, ◌++◌, Option, Some, None, refl, ap, sym, subst, ◌∙◌, append_assoc, append-nil, take, drop, length, arith, cond}
use Rattle.std.specs.Prelude.{nat_le, ◌==◌, ◌&&◌}
use Rattle.std.specs.Option.{option_map}
use Rattle.std.proofs.lemmas.Bool.Decides.{nat_tests}
use Rattle.std.proofs.lemmas.List.{take-append-drop, take-take}
use Rattle.std.proofs.Math.Seq.{take-add}
use Rattle.io_traits.specs.declared.links.LinkEvent.{LinkEvent}
use Rattle.dot_blocks.specs.declared.place.Place.{Place}
use Rattle.dot_blocks.specs.Blocks.{IsBlock}
use Rattle.dot_blocks.specs.BlockReading.{front_block, block_from}
use Rattle.dot_blocks.proofs.BlockLaws.{blocks_once, heard_begins_no_block}
use Rattle.dot_blocks.proofs.FrontBlock.{block_found, block_read}
use Rattle.nntp_lines.specs.declared.why.Why.TheVariants.{TooLong}
use Rattle.link_dialog.specs.declared.awaited.Awaited.{Awaited}
use Rattle.link_dialog.specs.declared.reader.Reader.{Reader}
use Rattle.link_dialog.specs.Replies.{Reply, first_line, with_byte, has_block, whole_reply, reply_of, reply_judged, reply_with_block, reply_at_end, why_of_rest, why_of_line, why_judged, most}
use Rattle.link_dialog.specs.Reader.{IsLine, held}
use Rattle.link_dialog.specs.Fed.{ListensAt}
use Rattle.link_dialog.specs.Block.{IsInBlock}
use Rattle.link_dialog.proofs.Readings.{by_cases}
use Rattle.link_dialog.proofs.MomentSteps.{Asked}
use Rattle.link_dialog.proofs.Feeding.{byte_goes_on}
use Rattle.link_dialog.proofs.Greatest.{first_line_stays}

-- ---- no block stands at the front

none_behind : (front back : List ℕ) → front ++ back ≡ [] → back ≡ []
none_behind [] back e = e
none_behind (c ∷ front) back e = cc

-- of what was heard of a block that goes on
pub goes_on_none : (place : Place) (front more : List ℕ) → IsInBlock place (front ++ more) → front_block front ≡ None
goes_on_none place front more s =
    by_cases (front_block front)
    (λ found is.
    let b = block_found front found.0 found.1 is in
    absurd (heard_begins_no_block (front ++ more) s.0 s.1 s.2.is_heard found.0 b.0 (found.1 ++ more) b.1 (ap (λ t. t ++ more) b.2 ∙ append_assoc b.0 found.1 more)))
    (λ none. none)

-- of a front of a block that isn't all of it
pub before_end_none : (lines : List (List ℕ)) (front more : List ℕ) → IsBlock lines (front ++ more) → more ≢ [] → front_block front ≡ None
before_end_none lines front more is some =
    by_cases (front_block front)
    (λ found here.
    let b = block_found front found.0 found.1 here in
    let rest : found.1 ++ more ≡ [] = (blocks_once found.0 lines b.0 (front ++ more) (found.1 ++ more) [] b.1 is
    (sym (append_assoc b.0 found.1 more) ∙ ap (λ t. t ++ more) (sym b.2) ∙ sym (append-nil (front ++ more)))).1 in
    absurd (some (none_behind found.1 more rest)))
    (λ none. none)

pub nothing_none : front_block [] ≡ None
unfolding block_from
nothing_none = refl

-- ---- a status line and what follows it

line_bytes_at : (test : Bool) (c d : ℕ) (tail : List ℕ) (rest : Option (List ℕ × List ℕ)) (line : List ℕ × List ℕ) → cond test (Some ([], tail)) (option_map (with_byte c) rest) ≡ Some line → (test ≡ true → length (c ∷ d ∷ tail) ≡ length tail + 2) → ((found : List ℕ × List ℕ) → rest ≡ Some found → length (d ∷ tail) ≡ length found.0 + 2 + length found.1) → length (c ∷ d ∷ tail) ≡ length line.0 + 2 + length line.1
line_bytes_at true c d tail rest line is here later =
    let same : ([], tail) ≡ line = cc in
    subst (λ (l : List ℕ × List ℕ). length (c ∷ d ∷ tail) ≡ length l.0 + 2 + length l.1) same (omega arith)
line_bytes_at false c d tail None line is here later = cc
line_bytes_at false c d tail (Some found) line is here later =
    let same : (c ∷ found.0, found.1) ≡ line = cc in
    let go = later found refl in
    subst (λ (l : List ℕ × List ℕ). length (c ∷ d ∷ tail) ≡ length l.0 + 2 + length l.1) same (omega (arith, go))

-- a line has two bytes more with its CRLF
pub line_bytes : (bytes : List ℕ) (line : List ℕ × List ℕ) → first_line bytes ≡ Some line → length bytes ≡ length line.0 + 2 + length line.1
line_bytes [] line is = cc
line_bytes (c ∷ []) line is = cc
line_bytes (c ∷ d ∷ bytes) line is =
    line_bytes_at ((c == 13) && (d == 10)) c d bytes (first_line (d ∷ bytes)) line is (λ t. omega arith) (λ found rest. line_bytes (d ∷ bytes) found rest)

line_before : (kind : Awaited) (status block : List ℕ) (code : ℕ) (reader : Reader) → IsLine kind status code reader → first_line (status ++ block) ≡ Some (held reader, block)
line_before kind status block code reader s = first_line_stays status block (held reader, []) s.line

block_of : (kind : Awaited) (status block : List ℕ) (code : ℕ) (reader : Reader) (found : Option (List (List ℕ) × List ℕ)) → IsLine kind status code reader → has_block kind code ≡ true → front_block block ≡ found → length (status ++ block) ≤ most → whole_reply kind (status ++ block) ≡ reply_with_block code (held reader) found
block_of kind status block code reader found s has is fits =
    let within : nat_le (length (status ++ block)) most ≡ true = grind (arith, nat_tests) in
    ap (λ test. cond test (reply_of kind (first_line (status ++ block))) None) within
    ∙ ap (reply_of kind) (line_before kind status block code reader s)
    ∙ ap (reply_judged kind (held reader) block) s.code_is
    ∙ ap (λ test. cond test (reply_with_block code (held reader) (front_block block)) (reply_at_end code (held reader) [] block)) has
    ∙ ap (reply_with_block code (held reader)) is

-- the block goes on
pub block_goes_on : (kind : Awaited) (status block : List ℕ) (code : ℕ) (reader : Reader) → IsLine kind status code reader → has_block kind code ≡ true → front_block block ≡ None → length (status ++ block) ≤ most → (whole_reply kind (status ++ block) ≡ None) × (why_of_rest (kind ∷ []) (status ++ block) ≡ None)
block_goes_on kind status block code reader s has none fits =
    let within : nat_le (length (status ++ block)) most ≡ true = grind (arith, nat_tests) in (
      block_of kind status block code reader None s has none fits,
      ap (why_of_line kind (status ++ block)) (line_before kind status block code reader s) ∙ ap (why_judged (status ++ block)) s.code_is ∙ rw within refl,
    )

-- the block has ended
pub block_ends : (kind : Awaited) (status block : List ℕ) (code : ℕ) (reader : Reader) (lines : List (List ℕ)) → IsLine kind status code reader → has_block kind code ≡ true → IsBlock lines block → length (status ++ block) ≤ most → whole_reply kind (status ++ block) ≡ Some (record { code = code; line = held reader; lines = lines })
block_ends kind status block code reader lines s has is fits =
    block_of kind status block code reader (Some (lines, [])) s has (ap front_block (sym (append-nil block)) ∙ block_read lines block [] is) fits

-- the reply has too many bytes
pub block_too_long : (kind : Awaited) (status block : List ℕ) (code : ℕ) (reader : Reader) → IsLine kind status code reader → most < length (status ++ block) → (whole_reply kind (status ++ block) ≡ None) × (why_of_rest (kind ∷ []) (status ++ block) ≡ Some TooLong)
block_too_long kind status block code reader s much =
    let past : nat_le (length (status ++ block)) most ≡ false = grind (arith, nat_tests) in (
      ap (λ test. cond test (reply_of kind (first_line (status ++ block))) None) past,
      ap (why_of_line kind (status ++ block)) (line_before kind status block code reader s) ∙ ap (why_judged (status ++ block)) s.code_is ∙ rw past refl,
    )

-- ---- byte by byte through a piece

-- nothing is whole, and no reason holds, after any front from one place to another
pub listens_through : (p link : ℕ) (asked : Asked) (m : List LinkEvent) (replies : List Reply) (kind : Awaited) (rest piece : List ℕ) (i more : ℕ) → 0 < p → i + more ≤ length piece → ListensAt p link asked m replies kind rest (take i piece)
    → ((j : ℕ) → i < j → j ≤ i + more → (whole_reply kind (rest ++ take j piece) ≡ None) × (why_of_rest (kind ∷ []) (rest ++ take j piece) ≡ None))
    → ListensAt p link asked m replies kind rest (take (i + more) piece)
listens_through p link asked m replies kind rest piece i zero some fits s nothing =
    let same : i ≡ i + 0 = omega arith in
    subst (λ (n : ℕ). ListensAt p link asked m replies kind rest (take n piece)) same s
listens_through p link asked m replies kind rest piece i (suc more) some fits s nothing =
    let here = nothing (i + 1) (omega arith) (omega arith) in
    let same : (i + 1) + more ≡ i + suc more = omega arith in
    subst (λ (n : ℕ). ListensAt p link asked m replies kind rest (take n piece)) same
    (listens_through p link asked m replies kind rest piece (i + 1) more some (omega arith)
    (byte_goes_on p link asked m replies kind rest piece i some (omega arith) s here.0 here.1)
    (λ j after before. nothing j (omega arith) (omega arith)))

-- a front of a piece from a place in it on
pub front_bytes : (rest piece status block : List ℕ) (u j : ℕ) → u ≤ j → rest ++ take u piece ≡ status ++ block → rest ++ take j piece ≡ status ++ (block ++ take (j - u) (drop u piece))
front_bytes rest piece status block u j after is =
    let back : u + (j - u) ≡ j = omega arith in
    ap (λ n. rest ++ take n piece) (sym back) ∙ ap (λ t. rest ++ t) (take-add u (j - u) piece)
    ∙ sym (append_assoc rest (take u piece) (take (j - u) (drop u piece))) ∙ ap (λ t. t ++ take (j - u) (drop u piece)) is
    ∙ append_assoc status block (take (j - u) (drop u piece))

-- a front, and what is left of a longer one
pub front_split : (block piece : List ℕ) (i n : ℕ) → i ≤ n → block ++ take n piece ≡ (block ++ take i piece) ++ drop i (take n piece)
front_split block piece i n fits =
    ap (λ t. block ++ t) (sym (take-append-drop i (take n piece)) ∙ ap (λ t. t ++ drop i (take n piece)) (take-take i n piece fits)) ∙ sym (append_assoc block (take i piece) (drop i (take n piece)))
