-- Hearing a reply with a block, piece by piece.
use Rattle.std.proofs.Common.{◌≡◌, ◌<◌, ◌≤◌, ◌+◌, ◌-◌, ◌*◌, ℕ, true, List, [], ◌∷◌, ◌++◌, Option, Some, None, ap, sym, subst, ◌∙◌, append_assoc, append-nil, take, drop, length, arith}
use Rattle.std.proofs.Math.Nat.{mul-le-mul_right}
use Rattle.std.proofs.lemmas.List.{length-append, length-take-le, length-drop, take_all, take-append-drop}
use Rattle.io_traits.specs.declared.links.LinkEvent.{LinkEvent}
use Rattle.io_traits.specs.declared.links.LinkEvent.TheVariants.{Heard as HeardBytes, Quiet}
use Rattle.io_traits.specs.Links.{tell}
use Rattle.dot_blocks.specs.Blocks.{IsBlock}
use Rattle.dot_blocks.specs.BlockReading.{front_block}
use Rattle.nntp_lines.specs.declared.why.Why.TheVariants as why
use Rattle.link_dialog.specs.declared.awaited.Awaited.{Awaited}
use Rattle.link_dialog.specs.declared.reader.Reader.{Reader}
use Rattle.link_dialog.specs.declared.block.BlockReader.{BlockReader}
use Rattle.link_dialog.specs.declared.block.BlockStep.TheVariants.{More}
use Rattle.link_dialog.specs.Events.{single_bytes}
use Rattle.link_dialog.specs.Replies.{Reply, has_block, whole_reply, why_of_rest, most}
use Rattle.link_dialog.specs.Reader.{IsLine, held}
use Rattle.link_dialog.specs.Moments.{IsListening, IsOver, state_of}
use Rattle.link_dialog.specs.Fed.{ListensAt}
use Rattle.link_dialog.specs.Hearing.{HeardSoFar, HeardTo, LineHeard}
use Rattle.link_dialog.specs.Block.{IsInBlock}
use Rattle.link_dialog.specs.BlockReader.{StandsIn, BlockSteps}
use Rattle.link_dialog.specs.BlockHearing.{BlockSoFar}
use Rattle.link_dialog.proofs.Feeding.{byte_goes_on, byte_ends_reply, byte_ends_link, unasked_in_piece, nothing_yet}
use Rattle.link_dialog.proofs.BlockSteps.{goes_on_none, before_end_none, nothing_none, block_goes_on, block_ends, block_too_long, line_bytes, listens_through, front_bytes, front_split}
use Rattle.link_dialog.proofs.Hearings.{piece_heard_to, quiet_heard_to, piece_to_end}
use Rattle.limits.specs.declared.TheConstants.{MOST_TEXT_BYTES}

-- ---- within a piece

-- a piece was received, and up to a place in it these bytes of the block
pub record InPiece (before after : Option (List LinkEvent)) (link patience : ℕ) (kind : Awaited) (code : ℕ) (piece : List ℕ) (u : ℕ) (block : List ℕ) : Type 0 where
  pub now : Option (List LinkEvent)
  pub quiet : ℕ
  pub so_far : HeardSoFar before now link patience kind quiet
  pub told : after ≡ tell now (HeardBytes link piece ∷ [])
  pub some : 0 < length piece
  pub inside : u ≤ length piece
  pub status : List ℕ
  pub line_reader : Reader
  pub line : IsLine kind status code line_reader
  pub bytes : so_far.bytes ++ take u piece ≡ status ++ block
  pub listens : (asked : List ℕ → List Awaited) (moment : List LinkEvent) (replies : List Reply) → IsListening patience asked moment (state_of replies (kind ∷ []) so_far.bytes) →
      ListensAt patience link asked moment replies kind so_far.bytes (take u piece)

-- behind the status line
pub behind_line : (before after : Option (List LinkEvent)) (link patience : ℕ) (kind : Awaited) (piece : List ℕ) (used code : ℕ) (reader : Reader) → 0 < patience → 0 < used → used ≤ length piece → has_block kind code ≡ true → LineHeard before after link patience kind piece used code reader → InPiece before after link patience kind code piece used []
behind_line before after link patience kind piece used code reader patient some fits has s = record {
  now = s.now;
  quiet = s.quiet;
  so_far = s.so_far;
  told = s.told;
  some = omega arith;
  inside = fits;
  status = s.so_far.bytes ++ take used piece;
  line_reader = reader;
  line = s.line;
  bytes = sym (append-nil (s.so_far.bytes ++ take used piece));
  listens = λ asked moment replies listening.
      let back : (used - 1) + 1 ≡ used = omega arith in
      let status = s.so_far.bytes ++ take used piece in
      let short = s.line.short in
      let nothing = block_goes_on kind status [] code reader s.line has nothing_none (let same : length (status ++ []) ≡ length status = ap length (append-nil status) in omega (arith, same, short)) in
      let same : s.so_far.bytes ++ take ((used - 1) + 1) piece ≡ status ++ [] = ap (λ n. s.so_far.bytes ++ take n piece) back ∙ sym (append-nil status) in
      subst (λ (n : ℕ). ListensAt patience link asked moment replies kind s.so_far.bytes (take n piece)) back
      (byte_goes_on patience link asked moment replies kind s.so_far.bytes piece (used - 1) patient (omega arith) (s.listens asked moment replies listening)
      (ap (whole_reply kind) same ∙ nothing.0) (ap (λ t. why_of_rest (kind ∷ []) t) same ∙ nothing.1));
}

-- a piece that was just received
pub new_piece : (before now after : Option (List LinkEvent)) (link patience : ℕ) (kind : Awaited) (code : ℕ) (reader : BlockReader) (kept : List ℕ) (quiet : ℕ) (piece : List ℕ) → (s : BlockSoFar before now link patience kind code reader kept quiet) → after ≡ tell now (HeardBytes link piece ∷ []) → 0 < length piece → InPiece before after link patience kind code piece 0 s.block
new_piece before now after link patience kind code reader kept quiet piece s told some = record {
  now = now;
  quiet = quiet;
  so_far = s.so_far;
  told = told;
  some = some;
  inside = omega arith;
  status = s.status;
  line_reader = s.line_reader;
  line = s.line;
  bytes = append-nil s.so_far.bytes ∙ s.bytes;
  listens = λ asked moment replies listening. nothing_yet patience link asked moment replies kind s.so_far.bytes listening;
}

-- ---- and how many bytes came before it

pub status_long : (kind : Awaited) (status : List ℕ) (code : ℕ) (reader : Reader) → IsLine kind status code reader → length status ≡ length (held reader) + 2
status_long kind status code reader s = let long = line_bytes status (held reader, []) s.line in omega (arith, long)

pub new_piece_at : (before now after : Option (List LinkEvent)) (link patience : ℕ) (kind : Awaited) (code : ℕ) (reader : BlockReader) (kept : List ℕ) (quiet : ℕ) (piece : List ℕ) → (s : BlockSoFar before now link patience kind code reader kept quiet) → after ≡ tell now (HeardBytes link piece ∷ []) → 0 < length piece → (p : InPiece before after link patience kind code piece 0 s.block) × (reader.heard ≡ length p.status + length s.block)
unfolding new_piece
new_piece_at before now after link patience kind code reader kept quiet piece s told some = (new_piece before now after link patience kind code reader kept quiet piece s told some, s.count)

pub behind_line_at : (before after : Option (List LinkEvent)) (link patience : ℕ) (kind : Awaited) (piece : List ℕ) (used code : ℕ) (reader : Reader) → 0 < patience → 0 < used → used ≤ length piece → has_block kind code ≡ true → LineHeard before after link patience kind piece used code reader → (p : InPiece before after link patience kind code piece used []) × (length p.status ≡ length (held reader) + 2)
unfolding behind_line
behind_line_at before after link patience kind piece used code reader patient some fits has s = (behind_line before after link patience kind piece used code reader patient some fits has s, status_long kind (s.so_far.bytes ++ take used piece) code reader s.line)

-- the link listens up to a later place, where the block goes on up to there
listens_to : (before after : Option (List LinkEvent)) (link patience : ℕ) (kind : Awaited) (code : ℕ) (piece : List ℕ) (u : ℕ) (block : List ℕ) (more : ℕ) → 0 < patience → has_block kind code ≡ true → (s : InPiece before after link patience kind code piece u block) → u + more ≤ length piece → length s.status + length block + more ≤ most
    → ((j : ℕ) → j ≤ more → front_block (block ++ take j (drop u piece)) ≡ None)
    → (asked : List ℕ → List Awaited) (moment : List LinkEvent) (replies : List Reply) → IsListening patience asked moment (state_of replies (kind ∷ []) s.so_far.bytes) → ListensAt patience link asked moment replies kind s.so_far.bytes (take (u + more) piece)
listens_to before after link patience kind code piece u block more patient has s fits short none asked moment replies listening =
    listens_through patience link asked moment replies kind s.so_far.bytes piece u more patient fits (s.listens asked moment replies listening)
    (λ j after_u before_end.
    let is = front_bytes s.so_far.bytes piece s.status block u j (omega arith) s.bytes in
    let front = take (j - u) (drop u piece) in
    let left : length (drop u piece) ≡ length piece - u = length-drop u piece in
    let long : length front ≡ j - u = length-take-le (j - u) (drop u piece) (omega (arith, left)) in
    let all : length (s.status ++ (block ++ front)) ≡ length s.status + (length block + length front) = length-append s.status (block ++ front) ∙ ap (λ n. length s.status + n) (length-append block front) in
    let nothing = block_goes_on kind s.status (block ++ front) code s.line_reader s.line has (none (j - u) (omega arith)) (omega (arith, all, long)) in
    (ap (whole_reply kind) is ∙ nothing.0, ap (λ t. why_of_rest (kind ∷ []) t) is ∙ nothing.1))

-- what is left of a piece
rest_long : (piece : List ℕ) (u : ℕ) → u ≤ length piece → u + length (drop u piece) ≡ length piece
rest_long piece u inside = omega (arith, length-drop u piece)

-- the block goes on behind the piece
pub piece_more : (before after : Option (List LinkEvent)) (link patience : ℕ) (kind : Awaited) (code : ℕ) (piece : List ℕ) (u : ℕ) (block : List ℕ) (old new : BlockReader) (kept_old kept_new : List ℕ) → 0 < patience → has_block kind code ≡ true → (s : InPiece before after link patience kind code piece u block) → StandsIn old kept_old block → old.heard ≡ length s.status + length block → BlockSteps old kept_old new kept_new block (drop u piece) More → BlockSoFar before after link patience kind code new kept_new 0
piece_more before after link patience kind code piece u block old new kept_old kept_new patient has s stands count steps =
    let left = rest_long piece u s.inside in
    let step = steps stands in
    let small : new.heard ≤ MOST_TEXT_BYTES = new.within in
    let grew : new.heard ≡ old.heard + length (drop u piece) = step.1 in
    let through : (asked : List ℕ → List Awaited) (moment : List LinkEvent) (replies : List Reply) → IsListening patience asked moment (state_of replies (kind ∷ []) s.so_far.bytes) → ListensAt patience link asked moment replies kind s.so_far.bytes piece =
    λ asked moment replies listening.
    subst (λ (t : List ℕ). ListensAt patience link asked moment replies kind s.so_far.bytes t) (take_all (u + length (drop u piece)) piece (omega (arith, left)))
    (listens_to before after link patience kind code piece u block (length (drop u piece)) patient has s (omega (arith, left)) (omega (arith, small, grew, count))
    (λ j inside. goes_on_none new.framer (block ++ take j (drop u piece)) (drop j (drop u piece))
    (subst (λ (t : List ℕ). IsInBlock new.framer t)
    (ap (λ t. block ++ t) (sym (take-append-drop j (drop u piece))) ∙ sym (append_assoc block (take j (drop u piece)) (drop j (drop u piece)))) step.0.place))
    asked moment replies listening) in
    let t = piece_heard_to before s.now after link patience kind s.quiet piece s.so_far s.told s.some through in
    record {
      so_far = t.0;
      status = s.status;
      block = block ++ drop u piece;
      line_reader = s.line_reader;
      line = s.line;
      bytes = t.1 ∙ ap (λ t. s.so_far.bytes ++ t) (sym (take-append-drop u piece)) ∙ sym (append_assoc s.so_far.bytes (take u piece) (drop u piece)) ∙ ap (λ t. t ++ drop u piece) s.bytes ∙ append_assoc s.status block (drop u piece);
      stands = step.0;
      count = omega (arith, grew, count, length-append block (drop u piece));
    }

-- the reply with its block
abbrev pub block_reply : ℕ → Reader → List (List ℕ) → Reply
block_reply code reader lines = record { code = code; line = held reader; lines = lines }

-- the block ended at a byte of the piece
ended_at : (before after : Option (List LinkEvent)) (link patience : ℕ) (kind : Awaited) (code : ℕ) (piece : List ℕ) (u : ℕ) (block : List ℕ) (used : ℕ) (lines : List (List ℕ)) → 0 < patience → has_block kind code ≡ true → (s : InPiece before after link patience kind code piece u block) → 0 < used → used ≤ length (drop u piece) → length s.status + length block + used ≤ most → IsBlock lines (block ++ take used (drop u piece))
    → (asked : List ℕ → List Awaited) (moment : List LinkEvent) (replies : List Reply) → IsListening patience asked moment (state_of replies (kind ∷ []) s.so_far.bytes)
    → IsListening patience asked (moment ++ single_bytes link (take (u + used) piece)) (state_of (replies ++ block_reply code s.line_reader lines ∷ []) [] [])
ended_at before after link patience kind code piece u block used lines patient has s some fits short is asked moment replies listening =
    let left = rest_long piece u s.inside in
    let reply = block_reply code s.line_reader lines in
    let back : (u + (used - 1)) + 1 ≡ u + used = omega arith in
    let from : (u + used) - u ≡ used = omega arith in
    let part = take used (drop u piece) in
    let long : length part ≡ used = length-take-le used (drop u piece) fits in
    let all : length (s.status ++ (block ++ part)) ≡ length s.status + (length block + length part) = length-append s.status (block ++ part) ∙ ap (λ n. length s.status + n) (length-append block part) in
    let listens = listens_to before after link patience kind code piece u block (used - 1) patient has s (omega (arith, left)) (omega arith)
    (λ j inside. before_end_none lines (block ++ take j (drop u piece)) (drop j part)
    (subst (λ (t : List ℕ). IsBlock lines t) (front_split block (drop u piece) j used (omega arith)) is)
    (λ none. let n : length (drop j part) ≡ 0 = ap length none in absurd (omega (arith, n, length-drop j part, long))))
    asked moment replies listening in
    let whole : whole_reply kind (s.so_far.bytes ++ take (u + used) piece) ≡ Some reply =
    ap (whole_reply kind) (front_bytes s.so_far.bytes piece s.status block u (u + used) (omega arith) s.bytes ∙ ap (λ n. s.status ++ (block ++ take n (drop u piece))) from)
    ∙ block_ends kind s.status (block ++ part) code s.line_reader lines s.line has is (omega (arith, all, long)) in
    subst (λ (n : ℕ). IsListening patience asked (moment ++ single_bytes link (take n piece)) (state_of (replies ++ reply ∷ []) [] [])) back
    (byte_ends_reply patience link asked moment replies kind s.so_far.bytes piece (u + (used - 1)) reply patient (omega (arith, left)) listens
    (ap (λ n. whole_reply kind (s.so_far.bytes ++ take n piece)) back ∙ whole))

-- it ended with the piece
pub piece_ends : (before after : Option (List LinkEvent)) (link patience : ℕ) (kind : Awaited) (code : ℕ) (piece : List ℕ) (u : ℕ) (block : List ℕ) (used : ℕ) (lines : List (List ℕ)) → 0 < patience → has_block kind code ≡ true → (s : InPiece before after link patience kind code piece u block) → 0 < used → u + used ≡ length piece → length s.status + length block + used ≤ most → IsBlock lines (block ++ take used (drop u piece)) → HeardTo before after link patience kind (block_reply code s.line_reader lines ∷ []) None
piece_ends before after link patience kind code piece u block used lines patient has s some all short is =
    piece_to_end before s.now after link patience kind s.quiet piece (block_reply code s.line_reader lines ∷ []) None s.so_far s.told
    (λ asked moment replies listening.
    let left = rest_long piece u s.inside in
    subst (λ (t : List ℕ). IsListening patience asked (moment ++ single_bytes link t) (state_of (replies ++ block_reply code s.line_reader lines ∷ []) [] [])) (take_all (u + used) piece (omega arith))
    (ended_at before after link patience kind code piece u block used lines patient has s some (omega (arith, left)) short is asked moment replies listening))

-- and with more bytes behind it
pub piece_ends_early : (before after : Option (List LinkEvent)) (link patience : ℕ) (kind : Awaited) (code : ℕ) (piece : List ℕ) (u : ℕ) (block : List ℕ) (used : ℕ) (lines : List (List ℕ)) → 0 < patience → has_block kind code ≡ true → (s : InPiece before after link patience kind code piece u block) → 0 < used → u + used < length piece → length s.status + length block + used ≤ most → IsBlock lines (block ++ take used (drop u piece)) → HeardTo before after link patience kind (block_reply code s.line_reader lines ∷ []) (Some why.Unasked)
piece_ends_early before after link patience kind code piece u block used lines patient has s some less short is =
    piece_to_end before s.now after link patience kind s.quiet piece (block_reply code s.line_reader lines ∷ []) (Some why.Unasked) s.so_far s.told
    (λ asked moment replies listening.
    let left = rest_long piece u s.inside in
    unasked_in_piece patience link asked moment (replies ++ block_reply code s.line_reader lines ∷ []) piece (u + used) patient less
    (ended_at before after link patience kind code piece u block used lines patient has s some (omega (arith, left)) short is asked moment replies listening))

-- the reply has one byte too many
pub piece_too_long : (before after : Option (List LinkEvent)) (link patience : ℕ) (kind : Awaited) (code : ℕ) (piece : List ℕ) (u : ℕ) (block : List ℕ) (n : ℕ) (reader : BlockReader) → 0 < patience → has_block kind code ≡ true → (s : InPiece before after link patience kind code piece u block) → n < length (drop u piece) → length s.status + length block + n ≡ most → IsInBlock reader.framer (block ++ take n (drop u piece)) → HeardTo before after link patience kind [] (Some why.TooLong)
piece_too_long before after link patience kind code piece u block n reader patient has s less full is =
    piece_to_end before s.now after link patience kind s.quiet piece [] (Some why.TooLong) s.so_far s.told
    (λ asked moment replies listening.
    let left = rest_long piece u s.inside in
    let next : (u + n) + 1 ≡ u + (n + 1) = omega arith in
    let from : ((u + n) + 1) - u ≡ n + 1 = omega arith in
    let part = take (n + 1) (drop u piece) in
    let long : length part ≡ n + 1 = length-take-le (n + 1) (drop u piece) (omega arith) in
    let all : length (s.status ++ (block ++ part)) ≡ length s.status + (length block + length part) = length-append s.status (block ++ part) ∙ ap (λ k. length s.status + k) (length-append block part) in
    let listens = listens_to before after link patience kind code piece u block n patient has s (omega (arith, left)) (omega (arith, full))
    (λ j inside. goes_on_none reader.framer (block ++ take j (drop u piece)) (drop j (take n (drop u piece)))
    (subst (λ (t : List ℕ). IsInBlock reader.framer t) (front_split block (drop u piece) j n inside) is))
    asked moment replies listening in
    let same : s.so_far.bytes ++ take ((u + n) + 1) piece ≡ s.status ++ (block ++ part) =
    front_bytes s.so_far.bytes piece s.status block u ((u + n) + 1) (omega arith) s.bytes ∙ ap (λ k. s.status ++ (block ++ take k (drop u piece))) from in
    let over = block_too_long kind s.status (block ++ part) code s.line_reader s.line (omega (arith, all, long, full)) in
    subst (λ (rs : List Reply). IsOver patience asked (moment ++ single_bytes link piece) why.TooLong rs) (sym (append-nil replies))
    (byte_ends_link patience link asked moment replies kind s.so_far.bytes piece (u + n) why.TooLong patient (omega (arith, left)) listens
    (ap (whole_reply kind) same ∙ over.0) (ap (λ t. why_of_rest (kind ∷ []) t) same ∙ over.1)))

-- ---- a quiet receive

pub block_quiet : (before now after : Option (List LinkEvent)) (link patience : ℕ) (kind : Awaited) (code : ℕ) (reader : BlockReader) (kept : List ℕ) (quiet : ℕ) → BlockSoFar before now link patience kind code reader kept quiet → after ≡ tell now (Quiet link ∷ []) → quiet + 1 < patience → BlockSoFar before after link patience kind code reader kept (quiet + 1)
block_quiet before now after link patience kind code reader kept quiet s told few =
    let t = quiet_heard_to before now after link patience kind quiet s.so_far told few in
    record {
      so_far = t.0;
      status = s.status;
      block = s.block;
      line_reader = s.line_reader;
      line = s.line;
      bytes = t.1 ∙ s.bytes;
      stands = s.stands;
      count = s.count;
    }

-- the measure falls at a piece after which the block goes on
pub falls_in_block : (before after n patience quiet : ℕ) → after ≡ before + n → 0 < n → after ≤ MOST_TEXT_BYTES → (MOST_TEXT_BYTES - after) * (patience + 1) + (patience - 0) < (MOST_TEXT_BYTES - before) * (patience + 1) + (patience - quiet)
falls_in_block before after n patience quiet grew some small =
    let less : (MOST_TEXT_BYTES - after) + 1 ≤ MOST_TEXT_BYTES - before = omega arith in
    let product : ((MOST_TEXT_BYTES - after) + 1) * (patience + 1) ≤ (MOST_TEXT_BYTES - before) * (patience + 1) = mul-le-mul_right (patience + 1) less in
    omega (arith, product)
