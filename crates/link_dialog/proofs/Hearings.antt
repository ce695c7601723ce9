-- Hearing one reply, event by event.
use Rattle.std.proofs.Common.{◌≡◌, ◌<◌, ◌+◌, ◌≤◌, ◌-◌, ◌*◌, ℕ, true, false, List, [], ◌∷◌, ◌++◌, Option, Some, None, refl, ap, sym, subst, ◌∙◌, append_assoc, append-nil, length, take, arith}
use Rattle.std.proofs.Math.Nat.{mul-le-mul_right}
use Rattle.std.proofs.lemmas.List.{take_all}
use Rattle.io_traits.specs.declared.links.LinkEvent.{LinkEvent}
use Rattle.io_traits.specs.declared.links.LinkEvent.TheVariants.{Heard as HeardBytes, Quiet, Ended}
use Rattle.io_traits.specs.Links.{tell}
use Rattle.io_traits.specs.Trace.{link_of, sent}
use Rattle.nntp_lines.specs.declared.why.Why.{Why}
use Rattle.nntp_lines.specs.declared.why.Why.TheVariants.{Ended as EndedLink, Quiet as QuietLink, Unasked}
use Rattle.nntp_lines.specs.declared.why.Why.TheVariants.{NoReply}
use Rattle.nntp_lines.specs.declared.status.StatusFault.{StatusFault}
use Rattle.nntp_lines.specs.GroupReply.{group_of}
use Rattle.nntp_lines.specs.StatusLine.{status_of}
use Rattle.std.specs.Prelude.{Result, Ok, Err, Bool, cond, is_some}
use Rattle.link_dialog.specs.declared.awaited.Awaited.{Awaited}
use Rattle.link_dialog.specs.declared.awaited.Awaited.TheVariants.{Greeting, User, Pass, Post, Article, Group, Over as OverKind, Body, Quit}
use Rattle.link_dialog.specs.declared.reader.Reader.{Reader}
use Rattle.link_dialog.specs.declared.reader.Step.{Step}
use Rattle.link_dialog.specs.declared.reader.Step.TheVariants.{More, Line, Over}
use Rattle.link_dialog.specs.Events.{AllOn, fine, quiet_after, quiets_at_end, single_bytes}
use Rattle.link_dialog.specs.Reading.{RepliesRead}
use Rattle.link_dialog.specs.Replies.{Reply, has_block, whole_reply, is_meant, is_read, judged_code}
use Rattle.link_dialog.specs.Reader.{HoldsRest, IsLine, held}
use Rattle.link_dialog.specs.Moments.{IsListening, IsOver, state_of, why_at, reading_at}
use Rattle.link_dialog.specs.Dialog.{Message, asked_by, Follows, EachEvent, MayFollow}
use Rattle.link_dialog.specs.Sending.{sends}
use Rattle.link_dialog.specs.Fed.{IsFed, IsRead, ListensAt}
use Rattle.link_dialog.specs.Hearing.{HearsSoFar, HeardSoFar, IsAtEnd, HeardTo, LineHeard}
use Rattle.link_dialog.specs.Talk.{line_reply, HasNoBlock}
use Rattle.link_dialog.proofs.EventSteps.{fine-append, sent-append, quiet_after-append}
use Rattle.link_dialog.proofs.MomentSteps.{be_quiet, be_quiet_too_long, be_ended}
use Rattle.link_dialog.proofs.Feeding.{byte_ends_reply, unasked_in_piece}
use Rattle.link_dialog.proofs.ReaderSteps.{line_is_reply}
use Rattle.link_dialog.proofs.Telling.{tell-tell, tell-nothing}

-- one more event that is in turn
pub each_more : (P : List LinkEvent → LinkEvent → Type 0) (before events : List LinkEvent) (event : LinkEvent) → EachEvent P before events → P (before ++ events) event → EachEvent P before (events ++ event ∷ [])
each_more P before [] event each one = (subst (λ (m : List LinkEvent). P m event) (append-nil before) one, tt)
each_more P before (first ∷ events) event each one =
    (each.0, each_more P (before ++ first ∷ []) events event each.1 (subst (λ (m : List LinkEvent). P m event) (sym (append_assoc before (first ∷ []) events)) one))

pub on_more : (link : ℕ) (events : List LinkEvent) (event : LinkEvent) → AllOn link events → link_of event ≡ link → AllOn link (events ++ event ∷ [])
on_more link [] event all one = (one, tt)
on_more link (first ∷ events) event all one = (all.0, on_more link events event all.1 one)

pub on-append : (link : ℕ) (first second : List LinkEvent) → AllOn link first → AllOn link second → AllOn link (first ++ second)
on-append link [] second one two = two
on-append link (event ∷ first) second one two = (one.0, on-append link first second one.1 two)

pub on_sends : (link : ℕ) (pieces : List (List ℕ)) → AllOn link (sends link pieces)
on_sends link [] = tt
on_sends link (piece ∷ pieces) = (refl, on_sends link pieces)

-- the moments after one more event
pub fine_more : (before got : List LinkEvent) (event : LinkEvent) → fine (before ++ (got ++ event ∷ [])) ≡ fine (before ++ got) ++ fine (event ∷ [])
fine_more before got event = ap (λ t. fine t) (sym (append_assoc before got (event ∷ []))) ∙ fine-append (before ++ got) (event ∷ [])

fine_heard : (before got : List LinkEvent) (link : ℕ) (bytes : List ℕ) → fine (before ++ (got ++ HeardBytes link bytes ∷ [])) ≡ fine (before ++ got) ++ single_bytes link bytes
fine_heard before got link bytes = fine_more before got (HeardBytes link bytes) ∙ ap (λ t. fine (before ++ got) ++ t) (append-nil (single_bytes link bytes))

-- ---- one more event

-- where a reply is awaited, something may be received
receives : (messages : List Message) (patience : ℕ) (kind : Awaited) (before got : List LinkEvent) (replies : List Reply) (bytes : List ℕ) (quiet : ℕ) (event : LinkEvent) → HearsSoFar messages patience kind before got replies bytes quiet → ((reading_at (asked_by messages) (fine (before ++ got))).waiting ≡ kind ∷ [] → MayFollow messages (fine (before ++ got)) event) → EachEvent (Follows messages patience) before (got ++ event ∷ [])
receives messages patience kind before got replies bytes quiet event s may =
    each_more (Follows messages patience) before got event s.each record {
      not_over = ap (λ m. why_at patience (asked_by messages) m) s.listening.lived ∙ s.listening.not_over;
      in_turn = may (ap (λ (r : RepliesRead Awaited Reply). r.waiting) s.listening.reading);
    }

not_empty : (kind : Awaited) (waiting : List Awaited) → waiting ≡ kind ∷ [] → waiting ≡ [] → ⊥
not_empty kind waiting one none = cc

unsent_more : (got : List LinkEvent) (event : LinkEvent) → sent got ≡ [] → sent (event ∷ []) ≡ [] → sent (got ++ event ∷ []) ≡ []
unsent_more got event one two = sent-append got (event ∷ []) ∙ ap (λ t. t ++ sent (event ∷ [])) one ∙ two

told_more : (before now after : Option (List LinkEvent)) (got : List LinkEvent) (event : LinkEvent) → now ≡ tell before got → after ≡ tell now (event ∷ []) → after ≡ tell before (got ++ event ∷ [])
told_more before now after got event was more = more ∙ ap (λ t. tell t (event ∷ [])) was ∙ tell-tell before got (event ∷ [])

no_quiet : (link : ℕ) (bytes : List ℕ) → quiet_after 0 (single_bytes link bytes) ≡ 0
no_quiet link [] = refl
no_quiet link (byte ∷ bytes) = no_quiet link bytes

no_quiet_at_end : (m : List LinkEvent) (link : ℕ) (bytes : List ℕ) → 0 < length bytes → quiets_at_end (m ++ single_bytes link bytes) ≡ 0
no_quiet_at_end m link [] some = absurd (omega arith)
no_quiet_at_end m link (byte ∷ bytes) some = quiet_after-append 0 m (single_bytes link (byte ∷ bytes)) ∙ no_quiet link bytes

-- ---- so far

pub nothing_heard : (told : Option (List LinkEvent)) (link patience : ℕ) (kind : Awaited) → HeardSoFar told told link patience kind 0
nothing_heard told link patience kind = record {
  got = [];
  on_this = tt;
  told = tell-nothing told;
  bytes = [];
  hears = λ messages events replies due.
      let same : events ++ [] ≡ events = append-nil events in
      let P : List LinkEvent → Type 0 = λ t. IsListening patience (asked_by messages) (fine t) (state_of replies (kind ∷ []) []) in
      let Q : List LinkEvent → Type 0 = λ t. quiets_at_end (fine t) ≡ 0 in
      record { each = tt; unsent = refl; listening = subst P (sym same) due.0; quiets = subst Q (sym same) due.1 };
}

-- a piece after which the link listens for the same reply
pub piece_heard : (before now after : Option (List LinkEvent)) (link patience : ℕ) (kind : Awaited) (quiet : ℕ) (piece : List ℕ) → (s : HeardSoFar before now link patience kind quiet) → after ≡ tell now (HeardBytes link piece ∷ []) → 0 < length piece
    → ((asked : List ℕ → List Awaited) (moment : List LinkEvent) (replies : List Reply) → IsListening patience asked moment (state_of replies (kind ∷ []) s.bytes) → ListensAt patience link asked moment replies kind s.bytes piece)
    → HeardSoFar before after link patience kind 0
piece_heard before now after link patience kind quiet piece s told some listens = record {
  got = s.got ++ HeardBytes link piece ∷ [];
  on_this = on_more link s.got (HeardBytes link piece) s.on_this refl;
  told = told_more before now after s.got (HeardBytes link piece) s.told told;
  bytes = s.bytes ++ piece;
  hears = λ messages events replies due.
      let h = s.hears messages events replies due in
      let P : List LinkEvent → Type 0 = λ m. IsListening patience (asked_by messages) m (state_of replies (kind ∷ []) (s.bytes ++ piece)) in
      record {
        each = receives messages patience kind events s.got replies s.bytes quiet (HeardBytes link piece) h (λ one none. not_empty kind _ one none);
        unsent = unsent_more s.got (HeardBytes link piece) h.unsent refl;
        listening = subst P (sym (fine_heard events s.got link piece)) (listens (asked_by messages) (fine (events ++ s.got)) replies h.listening);
        quiets = ap (λ m. quiets_at_end m) (fine_heard events s.got link piece) ∙ no_quiet_at_end (fine (events ++ s.got)) link piece some;
      };
}

-- a quiet receive
pub quiet_heard : (before now after : Option (List LinkEvent)) (link patience : ℕ) (kind : Awaited) (quiet : ℕ) → HeardSoFar before now link patience kind quiet → after ≡ tell now (Quiet link ∷ []) → quiet + 1 < patience → HeardSoFar before after link patience kind (quiet + 1)
quiet_heard before now after link patience kind quiet s told few = record {
  got = s.got ++ Quiet link ∷ [];
  on_this = on_more link s.got (Quiet link) s.on_this refl;
  told = told_more before now after s.got (Quiet link) s.told told;
  bytes = s.bytes;
  hears = λ messages events replies due.
      let h = s.hears messages events replies due in
      let P : List LinkEvent → Type 0 = λ m. IsListening patience (asked_by messages) m (state_of replies (kind ∷ []) s.bytes) in
      let Few : ℕ → Type 0 = λ n. n + 1 < patience in
      record {
        each = receives messages patience kind events s.got replies s.bytes quiet (Quiet link) h (λ one none. not_empty kind _ one none);
        unsent = unsent_more s.got (Quiet link) h.unsent refl;
        listening = subst P (sym (fine_more events s.got (Quiet link)))
            (be_quiet patience (asked_by messages) (fine (events ++ s.got)) link replies (kind ∷ []) s.bytes (subst Few (sym h.quiets) few) h.listening);
        quiets = ap (λ m. quiets_at_end m) (fine_more events s.got (Quiet link)) ∙ quiet_after-append 0 (fine (events ++ s.got)) (Quiet link ∷ []) ∙ ap (λ n. n + 1) h.quiets;
      };
}

-- ---- to the end

-- a piece with which the reply ends, or the link
pub piece_to_end : (before now after : Option (List LinkEvent)) (link patience : ℕ) (kind : Awaited) (quiet : ℕ) (piece : List ℕ) (answers : List Reply) (over : Option Why) → (s : HeardSoFar before now link patience kind quiet) → after ≡ tell now (HeardBytes link piece ∷ [])
    → ((asked : List ℕ → List Awaited) (moment : List LinkEvent) (replies : List Reply) → IsListening patience asked moment (state_of replies (kind ∷ []) s.bytes) → IsAtEnd patience asked (moment ++ single_bytes link piece) (replies ++ answers) over)
    → HeardTo before after link patience kind answers over
piece_to_end before now after link patience kind quiet piece answers over s told ends = record {
  got = s.got ++ HeardBytes link piece ∷ [];
  on_this = on_more link s.got (HeardBytes link piece) s.on_this refl;
  told = told_more before now after s.got (HeardBytes link piece) s.told told;
  hears = λ messages events replies due.
      let h = s.hears messages events replies due in
      let P : List LinkEvent → Type 0 = λ m. IsAtEnd patience (asked_by messages) m (replies ++ answers) over in
      record {
        each = receives messages patience kind events s.got replies s.bytes quiet (HeardBytes link piece) h (λ one none. not_empty kind _ one none);
        unsent = unsent_more s.got (HeardBytes link piece) h.unsent refl;
        ends = subst P (sym (fine_heard events s.got link piece)) (ends (asked_by messages) (fine (events ++ s.got)) replies h.listening);
      };
}

-- one quiet receive too many
pub quiet_to_end : (before now after : Option (List LinkEvent)) (link patience : ℕ) (kind : Awaited) (quiet : ℕ) → HeardSoFar before now link patience kind quiet → after ≡ tell now (Quiet link ∷ []) → patience ≤ quiet + 1 → HeardTo before after link patience kind [] (Some QuietLink)
quiet_to_end before now after link patience kind quiet s told many = record {
  got = s.got ++ Quiet link ∷ [];
  on_this = on_more link s.got (Quiet link) s.on_this refl;
  told = told_more before now after s.got (Quiet link) s.told told;
  hears = λ messages events replies due.
      let h = s.hears messages events replies due in
      let P : List LinkEvent → Type 0 = λ m. IsOver patience (asked_by messages) m QuietLink (replies ++ []) in
      let R : List Reply → Type 0 = λ rs. IsOver patience (asked_by messages) (fine (events ++ s.got) ++ Quiet link ∷ []) QuietLink rs in
      let Many : ℕ → Type 0 = λ n. patience ≤ n + 1 in
      record {
        each = receives messages patience kind events s.got replies s.bytes quiet (Quiet link) h (λ one none. not_empty kind _ one none);
        unsent = unsent_more s.got (Quiet link) h.unsent refl;
        ends = subst P (sym (fine_more events s.got (Quiet link))) (subst R (sym (append-nil replies))
            (be_quiet_too_long patience (asked_by messages) (fine (events ++ s.got)) link replies (kind ∷ []) s.bytes (subst Many (sym h.quiets) many) h.listening));
      };
}

-- the link ended
pub ended_to_end : (before now after : Option (List LinkEvent)) (link patience : ℕ) (kind : Awaited) (quiet : ℕ) → HeardSoFar before now link patience kind quiet → after ≡ tell now (Ended link ∷ []) → HeardTo before after link patience kind [] (Some EndedLink)
ended_to_end before now after link patience kind quiet s told = record {
  got = s.got ++ Ended link ∷ [];
  on_this = on_more link s.got (Ended link) s.on_this refl;
  told = told_more before now after s.got (Ended link) s.told told;
  hears = λ messages events replies due.
      let h = s.hears messages events replies due in
      let P : List LinkEvent → Type 0 = λ m. IsOver patience (asked_by messages) m EndedLink (replies ++ []) in
      let R : List Reply → Type 0 = λ rs. IsOver patience (asked_by messages) (fine (events ++ s.got) ++ Ended link ∷ []) EndedLink rs in
      record {
        each = receives messages patience kind events s.got replies s.bytes quiet (Ended link) h (λ one. tt);
        unsent = unsent_more s.got (Ended link) h.unsent refl;
        ends = subst P (sym (fine_more events s.got (Ended link))) (subst R (sym (append-nil replies))
            (be_ended patience (asked_by messages) (fine (events ++ s.got)) link (state_of replies (kind ∷ []) s.bytes) h.listening));
      };
}

-- ---- a status line

-- the reader stands for what was heard of the line
pub record LineSoFar (before now : Option (List LinkEvent)) (link patience : ℕ) (kind : Awaited) (reader : Reader) (quiet : ℕ) : Type 0 where
  pub so_far : HeardSoFar before now link patience kind quiet
  pub stands : HoldsRest reader so_far.bytes

-- what the reader says of a piece
abbrev pub ReadAt : Awaited → List ℕ → ℕ → Step → Reader → Reader → Type 0
ReadAt kind piece used step old new = (rest : List ℕ) → HoldsRest old rest → IsRead kind rest piece used step new

abbrev pub FedAt : ℕ → ℕ → Awaited → List ℕ → ℕ → Step → Reader → Type 0
FedAt patience link kind piece used step old =
    (asked : List ℕ → List Awaited) (moment : List LinkEvent) (replies : List Reply) (rest : List ℕ) → HoldsRest old rest → IsListening patience asked moment (state_of replies (kind ∷ []) rest) → IsFed patience link asked moment replies kind rest piece used step

pub line_begins : (told : Option (List LinkEvent)) (link patience : ℕ) (kind : Awaited) (reader : Reader) → HoldsRest reader [] → LineSoFar told told link patience kind reader 0
unfolding nothing_heard
line_begins told link patience kind reader stands = record { so_far = nothing_heard told link patience kind; stands = stands }

pub line_quiet : (before now after : Option (List LinkEvent)) (link patience : ℕ) (kind : Awaited) (reader : Reader) (quiet : ℕ) → LineSoFar before now link patience kind reader quiet → after ≡ tell now (Quiet link ∷ []) → quiet + 1 < patience → LineSoFar before after link patience kind reader (quiet + 1)
unfolding quiet_heard
line_quiet before now after link patience kind reader quiet s told few =
    record { so_far = quiet_heard before now after link patience kind quiet s.so_far told few; stands = s.stands }

pub line_more : (before now after : Option (List LinkEvent)) (link patience : ℕ) (kind : Awaited) (old new : Reader) (quiet : ℕ) (piece : List ℕ) (used : ℕ) → LineSoFar before now link patience kind old quiet → after ≡ tell now (HeardBytes link piece ∷ []) → 0 < length piece → ReadAt kind piece used More old new → FedAt patience link kind piece used More old → LineSoFar before after link patience kind new 0
unfolding piece_heard
line_more before now after link patience kind old new quiet piece used s told some reads fed = record {
  so_far = piece_heard before now after link patience kind quiet piece s.so_far told some (λ asked moment replies listening. fed asked moment replies s.so_far.bytes s.stands listening);
  stands = (reads s.so_far.bytes s.stands).1;
}

pub line_ends : (before now after : Option (List LinkEvent)) (link patience : ℕ) (kind : Awaited) (old new : Reader) (quiet : ℕ) (piece : List ℕ) (used code : ℕ) → LineSoFar before now link patience kind old quiet → after ≡ tell now (HeardBytes link piece ∷ []) → ReadAt kind piece used (Line code) old new → FedAt patience link kind piece used (Line code) old → LineHeard before after link patience kind piece used code new
line_ends before now after link patience kind old new quiet piece used code s told reads fed = record {
  now = now;
  quiet = quiet;
  so_far = s.so_far;
  told = told;
  line = (reads s.so_far.bytes s.stands).1;
  listens = λ asked moment replies listening. fed asked moment replies s.so_far.bytes s.stands listening;
}

pub line_over : (before now after : Option (List LinkEvent)) (link patience : ℕ) (kind : Awaited) (old : Reader) (quiet : ℕ) (piece : List ℕ) (used : ℕ) (reason : Why) → LineSoFar before now link patience kind old quiet → after ≡ tell now (HeardBytes link piece ∷ []) → FedAt patience link kind piece used (Over reason) old → HeardTo before after link patience kind [] (Some reason)
line_over before now after link patience kind old quiet piece used reason s told fed =
    piece_to_end before now after link patience kind quiet piece [] (Some reason) s.so_far told
    (λ asked moment replies listening.
    let R : List Reply → Type 0 = λ rs. IsOver patience asked (moment ++ single_bytes link piece) reason rs in
    subst R (sym (append-nil replies)) (fed asked moment replies s.so_far.bytes s.stands listening))

-- the measure falls at a piece after which the line goes on
pub falls_at_piece : (before after n patience quiet : ℕ) → after ≡ before + n → 0 < n → after < 512 → (512 - after) * (patience + 1) + (patience - 0) < (512 - before) * (patience + 1) + (patience - quiet)
falls_at_piece before after n patience quiet grew some small =
    let less : (512 - after) + 1 ≤ 512 - before = omega arith in
    let product : ((512 - after) + 1) * (patience + 1) ≤ (512 - before) * (patience + 1) = mul-le-mul_right (patience + 1) less in
    omega (arith, product)

-- ---- a reply of one line

line_at_once : (before after : Option (List LinkEvent)) (link patience : ℕ) (kind : Awaited) (piece : List ℕ) (used code : ℕ) (reader : Reader) → 0 < patience → 0 < used → used ≤ length piece → has_block kind code ≡ false → (s : LineHeard before after link patience kind piece used code reader)
    → (asked : List ℕ → List Awaited) (moment : List LinkEvent) (replies : List Reply) → IsListening patience asked moment (state_of replies (kind ∷ []) s.so_far.bytes)
    → IsListening patience asked (moment ++ single_bytes link (take used piece)) (state_of (replies ++ line_reply code (held reader) ∷ []) [] [])
line_at_once before after link patience kind piece used code reader some one fits none s asked moment replies listening =
    let back : (used - 1) + 1 ≡ used = omega arith in
    let reply = line_reply code (held reader) in
    let whole : whole_reply kind (s.so_far.bytes ++ take ((used - 1) + 1) piece) ≡ Some reply =
    ap (λ n. whole_reply kind (s.so_far.bytes ++ take n piece)) back ∙ line_is_reply kind (s.so_far.bytes ++ take used piece) code reader s.line none in
    subst (λ (n : ℕ). IsListening patience asked (moment ++ single_bytes link (take n piece)) (state_of (replies ++ reply ∷ []) [] [])) back
    (byte_ends_reply patience link asked moment replies kind s.so_far.bytes piece (used - 1) reply some (omega arith) (s.listens asked moment replies listening) whole)

pub line_answers : (before after : Option (List LinkEvent)) (link patience : ℕ) (kind : Awaited) (piece : List ℕ) (used code : ℕ) (reader : Reader) → 0 < patience → 0 < used → used ≡ length piece → has_block kind code ≡ false → LineHeard before after link patience kind piece used code reader → HeardTo before after link patience kind (line_reply code (held reader) ∷ []) None
line_answers before after link patience kind piece used code reader some one all none s =
    piece_to_end before s.now after link patience kind s.quiet piece (line_reply code (held reader) ∷ []) None s.so_far s.told
    (λ asked moment replies listening.
    subst (λ (t : List ℕ). IsListening patience asked (moment ++ single_bytes link t) (state_of (replies ++ line_reply code (held reader) ∷ []) [] [])) (take_all used piece (omega arith))
    (line_at_once before after link patience kind piece used code reader some one (omega arith) none s asked moment replies listening))

pub line_answers_more : (before after : Option (List LinkEvent)) (link patience : ℕ) (kind : Awaited) (piece : List ℕ) (used code : ℕ) (reader : Reader) → 0 < patience → 0 < used → used < length piece → has_block kind code ≡ false → LineHeard before after link patience kind piece used code reader → HeardTo before after link patience kind (line_reply code (held reader) ∷ []) (Some Unasked)
line_answers_more before after link patience kind piece used code reader some one less none s =
    piece_to_end before s.now after link patience kind s.quiet piece (line_reply code (held reader) ∷ []) (Some Unasked) s.so_far s.told
    (λ asked moment replies listening.
    unasked_in_piece patience link asked moment (replies ++ line_reply code (held reader) ∷ []) piece used some less
    (line_at_once before after link patience kind piece used code reader some one (omega arith) none s asked moment replies listening))

pub no_block : (kind : Awaited) (code : ℕ) → HasNoBlock kind → has_block kind code ≡ false
no_block Greeting code plain = refl
no_block User code plain = refl
no_block Pass code plain = refl
no_block Post code plain = refl
no_block Article code plain = refl
no_block Group code plain = refl
no_block OverKind code plain = absurd plain
no_block Body code plain = absurd plain
no_block Quit code plain = refl

-- a line that is judged well has a code that is meant
meant_by : (kind : Awaited) (line : List ℕ) (status : Result ℕ StatusFault) (code : ℕ) → judged_code kind line status ≡ Ok code → is_meant kind code ≡ true
meant_by kind line (Err fault) code is = cc
meant_by kind line (Ok found) code is = by_test (is_meant kind found) refl
  where
    by_test : (test : Bool) → is_meant kind found ≡ test → is_meant kind code ≡ true
    by_test true meant =
        let same : found ≡ code = let e = rw meant at is in read_same (is_read kind found line) e in
        ap (is_meant kind) (sym same) ∙ meant
      where
        read_same : (read : Bool) → cond read (Ok found) (Err NoReply) ≡ Ok code → found ≡ code
        read_same true e = cc
        read_same false e = cc
    by_test false meant = let e = rw meant at is in cc

pub line_is_meant : (kind : Awaited) (bytes : List ℕ) (code : ℕ) (reader : Reader) → IsLine kind bytes code reader → is_meant kind code ≡ true
line_is_meant kind bytes code reader s = meant_by kind (held reader) (status_of (held reader)) code s.code_is

-- ---- with the bytes that were heard

pub piece_heard_to : (before now after : Option (List LinkEvent)) (link patience : ℕ) (kind : Awaited) (quiet : ℕ) (piece : List ℕ) → (s : HeardSoFar before now link patience kind quiet) → after ≡ tell now (HeardBytes link piece ∷ []) → 0 < length piece
    → ((asked : List ℕ → List Awaited) (moment : List LinkEvent) (replies : List Reply) → IsListening patience asked moment (state_of replies (kind ∷ []) s.bytes) → ListensAt patience link asked moment replies kind s.bytes piece)
    → (t : HeardSoFar before after link patience kind 0) × (t.bytes ≡ s.bytes ++ piece)
unfolding piece_heard
piece_heard_to before now after link patience kind quiet piece s told some listens = (piece_heard before now after link patience kind quiet piece s told some listens, refl)

pub quiet_heard_to : (before now after : Option (List LinkEvent)) (link patience : ℕ) (kind : Awaited) (quiet : ℕ) → (s : HeardSoFar before now link patience kind quiet) → after ≡ tell now (Quiet link ∷ []) → quiet + 1 < patience → (t : HeardSoFar before after link patience kind (quiet + 1)) × (t.bytes ≡ s.bytes)
unfolding quiet_heard
quiet_heard_to before now after link patience kind quiet s told few = (quiet_heard before now after link patience kind quiet s told few, refl)

-- ---- a line that chooses a newsgroup

read_by : (kind : Awaited) (line : List ℕ) (status : Result ℕ StatusFault) (code : ℕ) → judged_code kind line status ≡ Ok code → is_read kind code line ≡ true
read_by kind line (Err fault) code is = cc
read_by kind line (Ok found) code is = by_test (is_meant kind found) refl
  where
    by_test : (test : Bool) → is_meant kind found ≡ test → is_read kind code line ≡ true
    by_test true meant = let e = rw meant at is in by_read (is_read kind found line) refl e
      where
        by_read : (read : Bool) → is_read kind found line ≡ read → cond read (Ok found) (Err NoReply) ≡ Ok code → is_read kind code line ≡ true
        by_read true read e = let same : found ≡ code = cc in ap (λ n. is_read kind n line) (sym same) ∙ read
        by_read false read e = cc
    by_test false meant = let e = rw meant at is in cc

pub line_is_read : (bytes : List ℕ) (code : ℕ) (reader : Reader) → IsLine Group bytes code reader → code ≡ 211 → is_some (group_of (held reader)) ≡ true
line_is_read bytes code reader s is =
    let read : is_read Group code (held reader) ≡ true = read_by Group (held reader) (status_of (held reader)) code s.code_is in
    rw is at read
