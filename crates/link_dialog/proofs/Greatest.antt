-- The reading is a split of the bytes, and the one with the greatest number of replies.
use Rattle.std.proofs.Common.{◌≡◌, ℕ, List, [], ◌∷◌, ◌++◌, Option, Some, None, refl, ap, sym, subst, ◌∙◌, append_assoc, append-nil, cond}
use Rattle.std.specs.Prelude.{Bool, true, false, ◌==◌, ◌&&◌, Result, Ok, Err, nat_le, length}
use Rattle.std.specs.Option.{option_map}
use Rattle.dot_blocks.specs.BlockReading.{front_block}
use Rattle.dot_blocks.proofs.BlockLaws.{blocks_once}
use Rattle.dot_blocks.proofs.FrontBlock.{block_found}
use Rattle.nntp_lines.specs.declared.why.Why.{Why}
use Rattle.link_dialog.specs.declared.awaited.Awaited.{Awaited}
use Rattle.link_dialog.specs.Reading.{shortest_from, RepliesRead, reading_of, IsSplit, IsPrefixFree}
use Rattle.link_dialog.specs.Replies.{Reply, first_line, with_byte, whole_reply, reply_of, reply_judged, reply_with_block, reply_at_end, has_block, judged, most}
use Rattle.link_dialog.proofs.Readings.{by_cases, found_at_once, found_later, read_some, read_none}

found_is_here : {R : Type 0} (whole : List ℕ → Option R) (before after : List ℕ) (found : R × List ℕ) (reply : R) → whole before ≡ Some reply → shortest_from whole before after ≡ Some found → (piece : List ℕ) × (after ≡ piece ++ found.1) × (whole (before ++ piece) ≡ Some found.0)
found_is_here whole before after found reply now is =
    let here : Some (reply, after) ≡ Some found = sym (found_at_once whole before after reply now) ∙ is in
    let same : (reply, after) ≡ found = cc in
    ([], ap (λ f. f.1) same, ap whole (append-nil before) ∙ now ∙ ap (λ f. Some f.0) same)

-- what was found is a whole reply
pub found_is : {R : Type 0} (whole : List ℕ → Option R) (before after : List ℕ) (found : R × List ℕ) → shortest_from whole before after ≡ Some found → (piece : List ℕ) × (after ≡ piece ++ found.1) × (whole (before ++ piece) ≡ Some found.0)
found_is whole before [] found is = by_cases (whole before) (λ reply now. found_is_here whole before [] found reply now is) (λ now. let none : None ≡ Some found = rw now at is in cc)
found_is {R = R} whole before (byte ∷ after) found is =
    by_cases (whole before) (λ reply now. found_is_here whole before (byte ∷ after) found reply now is)
    (λ now. let more = found_is whole (before ++ byte ∷ []) after found (sym (found_later whole before byte after now) ∙ is) in
    (byte ∷ more.0, ap (λ t. byte ∷ t) more.1, ap whole (sym (append_assoc before (byte ∷ []) more.0)) ∙ more.2))

-- a whole reply at the front is what is found, where no reply begins another
pub found_exactly : {R : Type 0} (whole : List ℕ → Option R) → ((front back : List ℕ) (one two : R) → whole front ≡ Some one → whole (front ++ back) ≡ Some two → back ≡ []) → (before piece after : List ℕ) (reply : R) → whole (before ++ piece) ≡ Some reply → shortest_from whole before (piece ++ after) ≡ Some (reply, after)
found_exactly whole free before [] after reply is = found_at_once whole before after reply (ap whole (sym (append-nil before)) ∙ is)
found_exactly whole free before (byte ∷ piece) after reply is =
    by_cases (whole before) (λ other now. let none : byte ∷ piece ≡ [] = free before (byte ∷ piece) other reply now is in cc)
    (λ now. found_later whole before byte (piece ++ after) now ∙ found_exactly whole free (before ++ byte ∷ []) piece after reply (ap whole (append_assoc before (byte ∷ []) piece) ∙ is))

pub reading_is_split : {K R : Type 0} (whole : K → List ℕ → Option R) (kinds : List K) (bytes : List ℕ) → IsSplit whole kinds bytes (reading_of whole kinds bytes).replies (reading_of whole kinds bytes).waiting (reading_of whole kinds bytes).rest
reading_is_split whole [] bytes = (refl, refl)
reading_is_split {K = K} {R = R} whole (kind ∷ kinds) bytes =
    let P : RepliesRead K R → Type 0 = λ m. IsSplit whole (kind ∷ kinds) bytes m.replies m.waiting m.rest in
    by_cases (shortest_from (whole kind) [] bytes)
    (λ found is. let piece = found_is (whole kind) [] bytes found is in
    subst P (sym (read_some whole kind kinds bytes found is)) (piece.0, found.1, piece.1, piece.2, reading_is_split whole kinds found.1))
    (λ none. subst P (sym (read_none whole kind kinds bytes none)) (refl, refl))

-- each split has a front of the replies that are read: so the reading has the greatest number of them, and they are the only ones
pub reading_is_greatest : {K R : Type 0} (whole : K → List ℕ → Option R) (kinds : List K) (bytes : List ℕ) (replies : List R) (waiting : List K) (rest : List ℕ) → IsPrefixFree whole → IsSplit whole kinds bytes replies waiting rest → (more : List R) × ((reading_of whole kinds bytes).replies ≡ replies ++ more)
reading_is_greatest whole kinds bytes [] waiting rest free split = ((reading_of whole kinds bytes).replies, refl)
reading_is_greatest whole [] bytes (reply ∷ replies) waiting rest free split = absurd split
reading_is_greatest {K = K} {R = R} whole (kind ∷ kinds) bytes (reply ∷ replies) waiting rest free split =
    let found : shortest_from (whole kind) [] bytes ≡ Some (reply, split.1) =
    ap (λ b. shortest_from (whole kind) [] b) split.2 ∙ found_exactly (whole kind) (free kind) [] split.0 split.1 reply split.3 in
    let more = reading_is_greatest whole kinds split.1 replies waiting rest free split.4 in
    (more.0, ap (λ (m : RepliesRead K R). m.replies) (read_some whole kind kinds bytes (reply, split.1) found) ∙ ap (λ rs. reply ∷ rs) more.1)

-- a line end that is there, or not, stays so
stays_at_test : (test : Bool) (c : ℕ) (tail more : List ℕ) (rest longer : Option (List ℕ × List ℕ)) (line : List ℕ × List ℕ) → cond test (Some ([], tail)) (option_map (with_byte c) rest) ≡ Some line → ((found : List ℕ × List ℕ) → rest ≡ Some found → longer ≡ Some (found.0, found.1 ++ more)) → cond test (Some ([], tail ++ more)) (option_map (with_byte c) longer) ≡ Some (line.0, line.1 ++ more)
stays_at_test true c tail more rest longer line is go =
    let same : ([], tail) ≡ line = cc in ap (λ (l : List ℕ × List ℕ). Some (l.0, l.1 ++ more)) same
stays_at_test false c tail more None longer line is go = cc
stays_at_test false c tail more (Some found) longer line is go =
    let same : (c ∷ found.0, found.1) ≡ line = cc in
    ap (λ o. option_map (with_byte c) o) (go found refl) ∙ ap (λ (l : List ℕ × List ℕ). Some (l.0, l.1 ++ more)) same

pub first_line_stays : (bytes more : List ℕ) (line : List ℕ × List ℕ) → first_line bytes ≡ Some line → first_line (bytes ++ more) ≡ Some (line.0, line.1 ++ more)
first_line_stays [] more line is = cc
first_line_stays (c ∷ []) more line is = cc
first_line_stays (c ∷ d ∷ bytes) more line is =
    stays_at_test ((c == 13) && (d == 10)) c bytes more (first_line (d ∷ bytes)) (first_line (d ∷ bytes ++ more)) line is (λ found rest. first_line_stays (d ∷ bytes) more found rest)

-- ---- replies

within_most : (test : Bool) (o : Option Reply) (reply : Reply) → cond test o None ≡ Some reply → o ≡ Some reply
within_most true o reply is = is
within_most false o reply is = cc

ends_at_end : (code : ℕ) (line : List ℕ) (lines : List (List ℕ)) (after : List ℕ) (reply : Reply) → reply_at_end code line lines after ≡ Some reply → after ≡ []
ends_at_end code line lines [] reply is = refl
ends_at_end code line lines (c ∷ cs) reply is = cc

no_more : (front back : List ℕ) → front ≡ [] → front ++ back ≡ [] → back ≡ []
no_more [] back none all = all
no_more (c ∷ front) back none all = cc

-- two blocks at the front of the same bytes are one
ends_at_block : (code : ℕ) (line after back : List ℕ) (one two : Reply) → reply_with_block code line (front_block after) ≡ Some one → reply_with_block code line (front_block (after ++ back)) ≡ Some two → back ≡ []
ends_at_block code line after back one two is longer =
    by_cases (front_block after)
    (λ found here.
    by_cases (front_block (after ++ back))
    (λ more there.
    let a : found.1 ≡ [] = ends_at_end code line found.0 found.1 one (sym (ap (reply_with_block code line) here) ∙ is) in
    let b : more.1 ≡ [] = ends_at_end code line more.0 more.1 two (sym (ap (reply_with_block code line) there) ∙ longer) in
    let short = block_found after found.0 found.1 here in
    let long = block_found (after ++ back) more.0 more.1 there in
    let rest : found.1 ++ back ≡ more.1 = (blocks_once found.0 more.0 short.0 long.0 (found.1 ++ back) more.1 short.1 long.1
    (sym (append_assoc short.0 found.1 back) ∙ ap (λ t. t ++ back) (sym short.2) ∙ long.2)).1 in
    no_more found.1 back a (rest ∙ b))
    (λ none. let no : None ≡ Some two = sym (ap (reply_with_block code line) none) ∙ longer in cc))
    (λ none. let no : None ≡ Some one = sym (ap (reply_with_block code line) none) ∙ is in cc)

ends_by_kind : (block : Bool) (code : ℕ) (line after back : List ℕ) (one two : Reply) → cond block (reply_with_block code line (front_block after)) (reply_at_end code line [] after) ≡ Some one → cond block (reply_with_block code line (front_block (after ++ back))) (reply_at_end code line [] (after ++ back)) ≡ Some two → back ≡ []
ends_by_kind true code line after back one two is longer = ends_at_block code line after back one two is longer
ends_by_kind false code line after back one two is longer =
    no_more after back (ends_at_end code line [] after one is) (ends_at_end code line [] (after ++ back) two longer)

ends_judged : (kind : Awaited) (line after back : List ℕ) (code : Result ℕ Why) (one two : Reply) → reply_judged kind line after code ≡ Some one → reply_judged kind line (after ++ back) code ≡ Some two → back ≡ []
ends_judged kind line after back (Err reason) one two is longer = cc
ends_judged kind line after back (Ok code) one two is longer = ends_by_kind (has_block kind code) code line after back one two is longer

-- no whole reply is the beginning of another of its kind
pub replies_prefix_free : IsPrefixFree whole_reply
replies_prefix_free kind front back one two is longer =
    let short : reply_of kind (first_line front) ≡ Some one = within_most (nat_le (length front) most) (reply_of kind (first_line front)) one is in
    let long : reply_of kind (first_line (front ++ back)) ≡ Some two = within_most (nat_le (length (front ++ back)) most) (reply_of kind (first_line (front ++ back))) two longer in
    by_cases (first_line front)
    (λ line found.
    ends_judged kind line.0 line.1 back (judged kind line.0) one two
    (sym (ap (reply_of kind) found) ∙ short)
    (sym (ap (reply_of kind) (first_line_stays front back line found)) ∙ long))
    (λ none. let no : None ≡ Some one = sym (ap (reply_of kind) none) ∙ short in cc)
