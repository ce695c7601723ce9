-- Articles of one posted file: none of their ranges clashes, and each of them is accepted.
use Rattle.std.proofs.Common.{◌≡◌, ◌≢◌, ◌+◌, ◌<◌, ◌⊎◌, inl, inr, zero, suc, ℕ, Bool, true, false, List, [], ◌∷◌, Option, Some, None, Result, Ok, length, map, refl, ap, sym, ◌∙◌, arith}
use Rattle.std.specs.Prelude.{slice_get, ◌==◌}
use Rattle.std.proofs.lemmas.Bool.Decides.{nat_tests}
use Rattle.yenc_body.specs.declared.part.Part.{Part}
use Rattle.yenc_body.specs.declared.fault.Fault.{Fault}
use Rattle.yenc_body.specs.BodyReading.{body_of}
use Rattle.link_dialog.specs.Replies.{Reply}
use Rattle.range_assembler.specs.declared.assembler.Entry.{Entry}
use Rattle.range_assembler.specs.declared.assembler.Hold.{Hold}
use Rattle.range_assembler.specs.declared.assembler.Hold.TheVariants.{Free, Held, Accepted}
use Rattle.range_assembler.specs.Entries.{is_taken, shares, least_clash, size_here, kept_size}
use Rattle.range_assembler.specs.Claims.{other_size}
use Rattle.pipeline_core.specs.Searches.{is_arrived_at}
use Rattle.pipeline_core.specs.SegmentAt.{SegmentAt}
use Rattle.pipeline_core.proofs.Exclusive.{one_of_all}
use Rattle.fetch_trace.proofs.Lists.{same_or_not}
use Rattle.fetch_trace.specs.Setting.{Setting}
use Rattle.fused_decoder.specs.WholeFile.{whole_of}
use Rattle.fetch_trace.specs.Verdicts.{Range, range_in, range_of, sized, article_verdict, verdict_of}
use Rattle.fetch_trace.specs.Verdicts.Verdict.{Accepted as HasAccepted}
use Rattle.fetch_trace.specs.LinkNow.{LinkNow, link_at, is_over}
use Rattle.fetch_trace.specs.Standing.{Standing, from_numbers, segment_at}
use Rattle.fetch_trace.specs.HeldRanges.{IsOldest}
use Rattle.fetch_trace.specs.Headline.{IsOf, IsPosted}
use Rattle.fetch_trace.proofs.Lists.{get-seen}
use Rattle.fetch_trace.proofs.HeldSteps.{asked_once}
use Rattle.fetch_trace.proofs.Always.{IsSound, free_at_claim}

-- each range of the file that is taken is that of its own part, and the accepted ones have the file's size
pub record PostedEntries (setting : Setting) (file size : ℕ) (part : ℕ → Part) (entries : List Entry) : Type 0 where
  pub files : (segment : ℕ) (entry : Entry) → slice_get entries segment ≡ Some entry → entry.file ≡ file → IsOf setting file segment
  pub first : (segment : ℕ) (entry : Entry) → slice_get entries segment ≡ Some entry → entry.file ≡ file → is_taken entry.hold ≡ true → entry.first ≡ (part segment).first
  pub last : (segment : ℕ) (entry : Entry) → slice_get entries segment ≡ Some entry → entry.file ≡ file → is_taken entry.hold ≡ true → entry.last ≡ (part segment).last
  pub sizes : (segment : ℕ) (entry : Entry) (kept : ℕ) → slice_get entries segment ≡ Some entry → entry.file ≡ file → entry.hold ≡ Accepted kept → kept ≡ size

-- ---- no clash

no_clash : (entries : List Entry) (n file first last : ℕ) → ((k : ℕ) (entry : Entry) → slice_get entries k ≡ Some entry → shares file first last entry ≡ false) → least_clash n file first last entries ≡ None
no_clash [] n file first last apart = refl
no_clash (entry ∷ entries) n file first last apart =
    let here : shares file first last entry ≡ false = apart zero entry refl in
    rw (here, no_clash entries (n + 1) file first last (λ k other is. apart (suc k) other is)) refl

-- a segment that is outstanding hasn't arrived
pub unarrived : (setting : Setting) (s : Standing) (i : ℕ) (l : LinkNow) (segment : ℕ) (entry : Entry) (size : ℕ) → IsSound setting s → slice_get s.links i ≡ Some l → is_over l ≡ false → IsOldest l segment → slice_get s.entries segment ≡ Some entry → entry.hold ≡ Accepted size → segment < length setting.entries → ⊥
unarrived setting s i l segment entry size sound here live oldest there taken below =
    let arrived = sound.held.accepted segment size entry there taken in
    let at : slice_get (from_numbers (segment_at setting s.links) 0 (length setting.entries)) segment ≡ Some (segment_at setting s.links segment) = numbered (segment_at setting s.links) 0 (length setting.entries) segment below ∙ (let z : 0 + segment ≡ segment = omega arith in ap (λ n. Some (segment_at setting s.links n)) z) in
    let none = sound.kept.exclusive.none_arrived segment (ap is_arrived_at at ∙ arrived) in
    let once = asked_once l segment live oldest in
    let all = one_of_all (map link_at s.links) i segment (link_at l) (get-seen link_at s.links i l here) in
    omega (arith, none, once, all)
  where
    numbered : (f : ℕ → SegmentAt) (start count k : ℕ) → k < count → slice_get (from_numbers f start count) k ≡ Some (f (start + k))
    numbered f start zero k below = absurd (omega (arith, below))
    numbered f start (suc count) zero below = let z : start + 0 ≡ start = omega arith in ap (λ n. Some (f n)) (sym z)
    numbered f start (suc count) (suc k) below = let less : k < count = omega (arith, below) in let z : (start + 1) + k ≡ start + suc k = omega arith in numbered f (start + 1) count k less ∙ ap (λ n. Some (f n)) z

file_apart : (file first last : ℕ) (entry : Entry) → entry.file ≢ file → shares file first last entry ≡ false
file_apart file first last entry other = let test : (entry.file == file) ≡ false = grind (arith, nat_tests) in rw test refl

untaken_apart : (b : Bool) (file first last : ℕ) (entry : Entry) → (entry.file == file) ≡ b → is_taken entry.hold ≡ false → shares file first last entry ≡ false
untaken_apart true file first last entry own none = rw (own, none) refl
untaken_apart false file first last entry own none = rw own refl

-- an article of the file that is before its range moment
pub record IsBefore (setting : Setting) (s : Standing) (file : ℕ) (bytes : List ℕ) (lines : ℕ → List (List ℕ)) (part : ℕ → Part) (i : ℕ) (l : LinkNow) (segment : ℕ) : Type 0 where
  pub sound : IsSound setting s
  pub posted : IsPosted setting file bytes lines part
  pub known : PostedEntries setting file (length bytes) part s.entries
  pub own : IsOf setting file segment
  pub below : segment < length setting.entries
  pub here : slice_get s.links i ≡ Some l
  pub live : is_over l ≡ false
  pub oldest : IsOldest l segment
  pub unfixed : range_of l.hearing.rest ≡ None

-- another part's range is apart
part_apart : (setting : Setting) (s : Standing) (file : ℕ) (bytes : List ℕ) (lines : ℕ → List (List ℕ)) (part : ℕ → Part) (i : ℕ) (l : LinkNow) (segment k : ℕ) (entry : Entry) → IsBefore setting s file bytes lines part i l segment → slice_get s.entries k ≡ Some entry → entry.file ≡ file → is_taken entry.hold ≡ true → segment ≢ k → shares file (part segment).first (part segment).last entry ≡ false
part_apart setting s file bytes lines part i l segment k entry at there own taken other =
    let first : entry.first ≡ (part k).first = at.known.first k entry there own taken in
    let last : entry.last ≡ (part k).last = at.known.last k entry there own taken in
    let apart = at.posted.apart segment k entry.hold at.own (at.known.files k entry there own) other in
    let same : record { file = entry.file; hold = entry.hold; first = entry.first; last = entry.last } ≡ record { file = file; hold = entry.hold; first = (part k).first; last = (part k).last } =
    ap (λ n. record { file = n; hold = entry.hold; first = entry.first; last = entry.last }) own
    ∙ ap (λ n. record { file = file; hold = entry.hold; first = n; last = entry.last }) first
    ∙ ap (λ n. record { file = file; hold = entry.hold; first = (part k).first; last = n }) last in
    ap (λ (e : Entry). shares file (part segment).first (part segment).last e) same ∙ apart

-- its own entry is free
own_apart : (setting : Setting) (s : Standing) (file : ℕ) (bytes : List ℕ) (lines : ℕ → List (List ℕ)) (part : ℕ → Part) (i : ℕ) (l : LinkNow) (segment : ℕ) (entry : Entry) (hold : Hold) → IsBefore setting s file bytes lines part i l segment → slice_get s.entries segment ≡ Some entry → entry.hold ≡ hold → shares file (part segment).first (part segment).last entry ≡ false
own_apart setting s file bytes lines part i l segment entry Free at there hold = untaken_apart (entry.file == file) file (part segment).first (part segment).last entry refl (ap is_taken hold)
own_apart setting s file bytes lines part i l segment entry Held at there hold = absurd (free_at_claim setting s i l segment entry at.sound at.here at.live at.oldest at.unfixed there hold)
own_apart setting s file bytes lines part i l segment entry (Accepted size) at there hold = absurd (unarrived setting s i l segment entry size at.sound at.here at.live at.oldest there hold at.below)

by_hold : (setting : Setting) (s : Standing) (file : ℕ) (bytes : List ℕ) (lines : ℕ → List (List ℕ)) (part : ℕ → Part) (i : ℕ) (l : LinkNow) (segment k : ℕ) (entry : Entry) (b : Bool) → IsBefore setting s file bytes lines part i l segment → slice_get s.entries k ≡ Some entry → entry.file ≡ file → is_taken entry.hold ≡ b → segment ≢ k → shares file (part segment).first (part segment).last entry ≡ false
by_hold setting s file bytes lines part i l segment k entry true at there own taken other = part_apart setting s file bytes lines part i l segment k entry at there own taken other
by_hold setting s file bytes lines part i l segment k entry false at there own free other = untaken_apart (entry.file == file) file (part segment).first (part segment).last entry refl free

each_apart : (setting : Setting) (s : Standing) (file : ℕ) (bytes : List ℕ) (lines : ℕ → List (List ℕ)) (part : ℕ → Part) (i : ℕ) (l : LinkNow) (segment k : ℕ) (entry : Entry) → IsBefore setting s file bytes lines part i l segment → slice_get s.entries k ≡ Some entry → shares file (part segment).first (part segment).last entry ≡ false
each_apart setting s file bytes lines part i l segment k entry at there = elim (same_or_not entry.file file) [
  | inr other ↦ file_apart file (part segment).first (part segment).last entry other
  | inl own ↦ elim (same_or_not segment k) [
    | inl e ↦ own_apart setting s file bytes lines part i l segment entry entry.hold at (ap (λ n. slice_get s.entries n) e ∙ there) refl
    | inr other ↦ by_hold setting s file bytes lines part i l segment k entry (is_taken entry.hold) at there own refl other
  ]
]

-- at its range moment an article of the file clashes with nothing
pub posted_is_clear : (setting : Setting) (s : Standing) (file : ℕ) (bytes : List ℕ) (lines : ℕ → List (List ℕ)) (part : ℕ → Part) (i : ℕ) (l : LinkNow) (segment : ℕ) → IsBefore setting s file bytes lines part i l segment → least_clash 0 file (part segment).first (part segment).last s.entries ≡ None
posted_is_clear setting s file bytes lines part i l segment at =
    no_clash s.entries 0 file (part segment).first (part segment).last (λ k entry there. each_apart setting s file bytes lines part i l segment k entry at there)

-- ---- one size

size_by : (file size : ℕ) (entry : Entry) (entries : List Entry) (hold : Hold) (b : Bool) → entry.hold ≡ hold → (entry.file == file) ≡ b → ((kept : ℕ) → entry.file ≡ file → entry.hold ≡ Accepted kept → kept ≡ size) → (kept_size file entries ≡ None) ⊎ (kept_size file entries ≡ Some size) → (size_here file entry.file entry.hold (kept_size file entries) ≡ None) ⊎ (size_here file entry.file entry.hold (kept_size file entries) ≡ Some size)
size_by file size entry entries Free b hold own one rest = rw hold rest
size_by file size entry entries Held b hold own one rest = rw hold rest
size_by file size entry entries (Accepted kept) true hold own one rest =
    let same : entry.file ≡ file = grind (arith, nat_tests) in
    let is : kept ≡ size = one kept same hold in
    inr (rw (hold, own) (ap (λ n. Some n) is))
size_by file size entry entries (Accepted kept) false hold own one rest = rw (hold, own) rest

pub one_size : (file size : ℕ) (entries : List Entry) → ((k : ℕ) (entry : Entry) (kept : ℕ) → slice_get entries k ≡ Some entry → entry.file ≡ file → entry.hold ≡ Accepted kept → kept ≡ size) → (kept_size file entries ≡ None) ⊎ (kept_size file entries ≡ Some size)
one_size file size [] one = inl refl
one_size file size (entry ∷ entries) one =
    size_by file size entry entries entry.hold (entry.file == file) refl refl (λ kept own hold. one zero entry kept refl own hold) (one_size file size entries (λ k other kept is own hold. one (suc k) other kept is own hold))

no_other_size : (size : ℕ) (kept : Option ℕ) → (kept ≡ None) ⊎ (kept ≡ Some size) → other_size size kept ≡ None
no_other_size size kept (inl none) = ap (λ o. other_size size o) none
no_other_size size kept (inr is) = let test : (size == size) ≡ true = grind (arith, nat_tests) in ap (λ o. other_size size o) is ∙ rw test refl

-- an article of the file against whose range none stood is accepted
pub posted_is_accepted : (setting : Setting) (file : ℕ) (bytes : List ℕ) (lines : ℕ → List (List ℕ)) (part : ℕ → Part) (entries : List Entry) (segment : ℕ) (reply : Reply) → IsPosted setting file bytes lines part → PostedEntries setting file (length bytes) part entries → IsOf setting file segment → reply.code ≡ 222 → reply.lines ≡ lines segment → verdict_of None (kept_size file entries) reply ≡ HasAccepted (part segment) (whole_of reply.lines)
posted_is_accepted setting file bytes lines part entries segment reply posted known own code is =
    let fixes : range_in reply.lines ≡ Some (record { size = length bytes; first = (part segment).first; last = (part segment).last }) = ap range_in is ∙ posted.fixes segment own in
    let reads : body_of reply.lines ≡ Ok (part segment) = ap body_of is ∙ posted.reads segment own in
    let size : (part segment).begin.size ≡ length bytes = posted.sized segment own in
    let same : other_size (part segment).begin.size (kept_size file entries) ≡ None = ap (λ n. other_size n (kept_size file entries)) size ∙ no_other_size (length bytes) (kept_size file entries) (one_size file (length bytes) entries (λ k entry kept there its hold. known.sizes k entry kept there its hold)) in
    let test : (reply.code == 222) ≡ true = grind (arith, nat_tests) in
    rw test
    (ap (λ (r : Option Range). article_verdict r None (body_of reply.lines) (whole_of reply.lines) (kept_size file entries)) fixes
    ∙ ap (λ (b : Result Part Fault). article_verdict (Some (record { size = length bytes; first = (part segment).first; last = (part segment).last })) None b (whole_of reply.lines) (kept_size file entries)) reads
    ∙ ap (λ (o : Option ℕ). sized (part segment) (whole_of reply.lines) o) same)
