-- The completeness theorem over what a moment says: a file is complete exactly where each of its parts was heard whole, and what is
-- rebuilt is then the posted file (yEnc draft 1.3, and RFC 3977, 6.2.3).
use Rattle.std.specs.Prelude.{◌≡◌, ◌≢◌, ◌≤◌, ◌⊎◌, ◌↔◌, ◌-◌, ℕ, true, false, List, [], Some, None, Ok, length, slice_get, drop}
use Rattle.io_traits.specs.declared.links.LinkEvent.{LinkEvent}
use Rattle.yenc_body.specs.declared.part.Part.{Part}
use Rattle.yenc_body.specs.BodyReading.{body_of}
use Rattle.link_dialog.specs.Replies.{Reply}
use Rattle.range_assembler.specs.declared.assembler.Entry.{Entry}
use Rattle.range_assembler.specs.declared.assembler.Hold.{Hold}
use Rattle.range_assembler.specs.Entries.{shares, kept_size}
use Rattle.range_assembler.specs.declared.assembler.Hold.TheVariants.{Free, Accepted}
use Rattle.range_assembler.specs.Missing.{is_complete, is_covered, is_known}
use Rattle.fetch_trace.specs.Setting.{Setting}
use Rattle.fetch_trace.specs.Hearing.{opening_length}
use Rattle.fetch_trace.specs.Verdicts.{Range, range_in, range_of}
use Rattle.fetch_trace.specs.LinkNow.{LinkNow}
use Rattle.fetch_trace.specs.Standing.{Standing, is_kept}
use Rattle.fetch_trace.specs.Moving.{standing_at}
use Rattle.fetch_trace.specs.Result.{IsRebuilt, part_of}
use Rattle.fetch_trace.specs.HeldRanges.{IsOldest, NoneHeld}

-- a segment of the file
abbrev pub IsOf : Setting → ℕ → ℕ → Type 0
IsOf setting file segment = (entry : Entry) × ((slice_get setting.entries segment ≡ Some entry) × (entry.file ≡ file))

-- A file that was posted in parts, one for each segment: its bytes, the lines of each part's article, and what they are read as.
-- That the articles of a poster are so is a law (CutIsPosted): the canonical body reads back, and the parts cover the file.
pub record IsPosted (setting : Setting) (file : ℕ) (bytes : List ℕ) (lines : ℕ → List (List ℕ)) (part : ℕ → Part) : Type 0 where
  pub some : (segment : ℕ) × IsOf setting file segment
  pub reads : (segment : ℕ) → IsOf setting file segment → body_of (lines segment) ≡ Ok (part segment)
  pub fixes : (segment : ℕ) → IsOf setting file segment → range_in (lines segment) ≡ Some (record { size = length bytes; first = (part segment).first; last = (part segment).last })
  pub sized : (segment : ℕ) → IsOf setting file segment → (part segment).begin.size ≡ length bytes
  pub within : (segment : ℕ) → IsOf setting file segment → (1 ≤ (part segment).first) × ((part segment).last ≤ length bytes)
  -- the ranges of two parts share no offset, be they held or accepted
  pub apart : (segment other : ℕ) (hold : Hold) → IsOf setting file segment → IsOf setting file other → segment ≢ other →
      shares file (part segment).first (part segment).last (record { file = file; hold = hold; first = (part other).first; last = (part other).last }) ≡ false
  pub content : (segment offset : ℕ) → IsOf setting file segment → (part segment).first ≤ offset → offset ≤ (part segment).last →
      slice_get (part segment).content (offset - (part segment).first) ≡ slice_get bytes (offset - 1)
  -- no part is empty, unless it is the only one
  pub filled : (segment : ℕ) → IsOf setting file segment → ((part segment).first ≤ (part segment).last) ⊎ ((other : ℕ) → IsOf setting file other → other ≡ segment)
  pub covers : (offset : ℕ) → 1 ≤ offset → offset ≤ length bytes → (segment : ℕ) × (IsOf setting file segment × (((part segment).first ≤ offset) × (offset ≤ (part segment).last)))

-- the answers of a link, behind its opening
abbrev pub answers_on : LinkNow → List Reply
answers_on l = drop (opening_length l.opening.login l.hearing.replies) l.hearing.replies

-- Every answer on the link to a segment of the file is that of its posted article, or says that it is absent; and what was heard
-- of an article that isn't whole fixes no other range.
pub record IsPostedOn (setting : Setting) (file : ℕ) (bytes : List ℕ) (lines : ℕ → List (List ℕ)) (part : ℕ → Part) (l : LinkNow) : Type 0 where
  pub whole : (k segment : ℕ) (reply : Reply) → slice_get l.asking.commands k ≡ Some segment → slice_get (answers_on l) k ≡ Some reply → IsOf setting file segment → reply.code ≡ 222 → reply.lines ≡ lines segment
  pub begun : (segment : ℕ) (range : Range) → IsOldest l segment → IsOf setting file segment → range_of l.hearing.rest ≡ Some range → range ≡ record { size = length bytes; first = (part segment).first; last = (part segment).last }

-- so on every link
abbrev pub AnswersArePosted : Setting → ℕ → List ℕ → (ℕ → List (List ℕ)) → (ℕ → Part) → Standing → Type 0
AnswersArePosted setting file bytes lines part s = (i : ℕ) (l : LinkNow) → slice_get s.links i ≡ Some l → IsPostedOn setting file bytes lines part l

-- some answer on the link to the segment is an article
abbrev pub IsHeardOn : LinkNow → ℕ → Type 0
IsHeardOn l segment = (k : ℕ) × ((reply : Reply) × ((slice_get l.asking.commands k ≡ Some segment) × ((slice_get (answers_on l) k ≡ Some reply) × (reply.code ≡ 222))))

-- some answer to the segment is an article
abbrev pub IsHeardWhole : Standing → ℕ → Type 0
IsHeardWhole s segment = (i : ℕ) × ((l : LinkNow) × ((slice_get s.links i ≡ Some l) × IsHeardOn l segment))

-- the segment's range is accepted from the start
abbrev pub WasKept : Setting → ℕ → Type 0
WasKept setting segment = is_kept (slice_get setting.entries segment) ≡ true

-- The ranges of the file that are accepted from the start are those of its parts, of a file of its size, and the file that was there has
-- the posted bytes in them.
pub record AreKept (setting : Setting) (file : ℕ) (bytes : List ℕ) (part : ℕ → Part) (base : List ℕ) : Type 0 where
  pub first : (segment size : ℕ) (entry : Entry) → slice_get setting.entries segment ≡ Some entry → entry.file ≡ file → entry.hold ≡ Accepted size → entry.first ≡ (part segment).first
  pub last : (segment size : ℕ) (entry : Entry) → slice_get setting.entries segment ≡ Some entry → entry.file ≡ file → entry.hold ≡ Accepted size → entry.last ≡ (part segment).last
  pub sized : (segment size : ℕ) (entry : Entry) → slice_get setting.entries segment ≡ Some entry → entry.file ≡ file → entry.hold ≡ Accepted size → size ≡ length bytes
  pub same : (segment offset : ℕ) → IsOf setting file segment → WasKept setting segment → (part segment).first ≤ offset → offset ≤ (part segment).last → slice_get base (offset - 1) ≡ slice_get bytes (offset - 1)

-- the part was kept, or its article was heard whole
abbrev pub IsThere : Setting → Standing → ℕ → Type 0
IsThere setting s segment = WasKept setting segment ⊎ IsHeardWhole s segment

-- The file is complete exactly where every part was kept or its article was heard whole, and the file that is rebuilt is then the
-- posted one. Otherwise the parts that aren't given are exactly those not heard whole, and an offset is missing exactly where it is
-- in the range of a part that is neither kept nor heard whole.
pub record IsCompleted (setting : Setting) (file : ℕ) (bytes : List ℕ) (part : ℕ → Part) (base : List ℕ) (s : Standing) : Type 0 where
  pub complete : (is_complete file s.entries ≡ true) ↔ ((segment : ℕ) → IsOf setting file segment → IsThere setting s segment)
  pub rebuilt : (rebuilt : List ℕ) → is_complete file s.entries ≡ true → IsRebuilt setting base s file rebuilt → rebuilt ≡ bytes
  pub given : (segment : ℕ) → IsOf setting file segment → (WasKept setting segment → ⊥) → (part_of s segment ≡ Some (part segment)) ↔ IsHeardWhole s segment
  pub none_given : (segment : ℕ) → IsOf setting file segment → (WasKept setting segment → ⊥) → (part_of s segment ≡ None) ↔ (IsHeardWhole s segment → ⊥)
  pub size : (size : ℕ) → kept_size file s.entries ≡ Some size → size ≡ length bytes
  pub known : (is_known (kept_size file s.entries) ≡ true) ↔ ((segment : ℕ) × (IsOf setting file segment × IsThere setting s segment))
  pub missing : (offset : ℕ) → 1 ≤ offset → offset ≤ length bytes →
      (is_covered file s.entries offset ≡ false) ↔ ((segment : ℕ) × (IsOf setting file segment × (((part segment).first ≤ offset) × ((offset ≤ (part segment).last) × (IsThere setting s segment → ⊥)))))

-- Where every answer to a segment of a posted file, up to the end, is that of the part's posted article or says that it is absent, the
-- file is completed.
abbrev pub Completeness : Type 0
Completeness =
    (setting : Setting) (events : List LinkEvent) (file : ℕ) (bytes : List ℕ) (lines : ℕ → List (List ℕ)) (part : ℕ → Part) (base : List ℕ) → NoneHeld setting.entries → AreKept setting file bytes part base →
    IsPosted setting file bytes lines part → AnswersArePosted setting file bytes lines part (standing_at setting events) → IsCompleted setting file bytes part base (standing_at setting events)

-- no range of the file is accepted or held from the start
abbrev pub IsFresh : Setting → ℕ → Type 0
IsFresh setting file = (segment : ℕ) (entry : Entry) → slice_get setting.entries segment ≡ Some entry → entry.file ≡ file → entry.hold ≡ Free

-- The same of a fetch that begins with nothing of the file.
pub record IsCompletedAnew (setting : Setting) (file : ℕ) (bytes : List ℕ) (part : ℕ → Part) (s : Standing) : Type 0 where
  pub complete : (is_complete file s.entries ≡ true) ↔ ((segment : ℕ) → IsOf setting file segment → IsHeardWhole s segment)
  pub rebuilt : (rebuilt : List ℕ) → is_complete file s.entries ≡ true → IsRebuilt setting [] s file rebuilt → rebuilt ≡ bytes
  pub given : (segment : ℕ) → IsOf setting file segment → (part_of s segment ≡ Some (part segment)) ↔ IsHeardWhole s segment
  pub none_given : (segment : ℕ) → IsOf setting file segment → (part_of s segment ≡ None) ↔ (IsHeardWhole s segment → ⊥)
  pub size : (size : ℕ) → kept_size file s.entries ≡ Some size → size ≡ length bytes
  pub known : (is_known (kept_size file s.entries) ≡ true) ↔ ((segment : ℕ) × (IsOf setting file segment × IsHeardWhole s segment))
  pub missing : (offset : ℕ) → 1 ≤ offset → offset ≤ length bytes →
      (is_covered file s.entries offset ≡ false) ↔ ((segment : ℕ) × (IsOf setting file segment × (((part segment).first ≤ offset) × ((offset ≤ (part segment).last) × (IsHeardWhole s segment → ⊥)))))

abbrev pub CompletenessAnew : Type 0
CompletenessAnew =
    (setting : Setting) (events : List LinkEvent) (file : ℕ) (bytes : List ℕ) (lines : ℕ → List (List ℕ)) (part : ℕ → Part) → NoneHeld setting.entries → IsFresh setting file →
    IsPosted setting file bytes lines part → AnswersArePosted setting file bytes lines part (standing_at setting events) → IsCompletedAnew setting file bytes part (standing_at setting events)
