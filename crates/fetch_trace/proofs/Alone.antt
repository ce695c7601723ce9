-- What is carried of one link from event to event is what its own events say: the greatest number of replies, the rest, and the
-- first reason for which it is over.
use Rattle.std.proofs.Common.{◌≡◌, ◌+◌, ◌<◌, ◌≤◌, ℕ, Bool, true, false, List, [], ◌∷◌, ◌++◌, Option, Some, None, refl, ap, sym, subst, ◌∙◌, arith, append-nil}
use Rattle.std.specs.Prelude.{nat_le, cond}
use Rattle.std.proofs.lemmas.Bool.Decides.{nat_tests}
use Rattle.io_traits.specs.declared.links.LinkEvent.{LinkEvent}
use Rattle.io_traits.specs.declared.links.LinkEvent.TheVariants.{Sent, Heard, Quiet, Ended}
use Rattle.io_traits.specs.Trace.{sent}
use Rattle.nntp_lines.specs.declared.why.Why.{Why}
use Rattle.nntp_lines.specs.declared.why.Why.TheVariants as why
use Rattle.link_dialog.specs.declared.awaited.Awaited.{Awaited}
use Rattle.link_dialog.specs.Events.{quiets_at_end}
use Rattle.link_dialog.specs.Reading.{RepliesRead, reading_of, with_replies}
use Rattle.link_dialog.specs.Replies.{Reply, whole_reply, why_of_rest}
use Rattle.link_dialog.specs.Moments.{IsListening, state_of, reading_at}
use Rattle.link_dialog.proofs.EventSteps.{quiet_after-append}
use Rattle.link_dialog.proofs.Readings.{read_none}
use Rattle.link_dialog.proofs.MomentSteps.{Asked, settled, go_on, reading_more, rest_gives_none, hear_more, hear_reply, hear_over, hear_unasked, be_quiet, be_quiet_too_long, be_ended}
use Rattle.fetch_trace.specs.HeardOn.{Listens, HeardBy, HeardAs}
use Rattle.fetch_trace.specs.Hearing.{Hearing, after_byte, after_quiet, after_end, after_sent, read_as}

-- ---- lists

pub nothing_behind : (rest : List ℕ) → why_of_rest [] rest ≡ None → rest ≡ []
nothing_behind [] none = refl
nothing_behind (c ∷ cs) none = cc

no_reading : (kinds : List Awaited) → reading_of whole_reply kinds [] ≡ state_of [] kinds []
no_reading [] = refl
no_reading (kind ∷ kinds) = refl

no_reason : (kinds : List Awaited) → why_of_rest kinds [] ≡ None
no_reason [] = refl
no_reason (kind ∷ kinds) = refl

few_now : (p : ℕ) (asked : Asked) (m : List LinkEvent) (h : Hearing) → Listens p asked m h → quiets_at_end m < p
few_now p asked m h s = let same : quiets_at_end m ≡ h.quiets = s.quiets in let few : h.quiets < p = s.few in omega (arith, same, few)

-- ---- a byte

unheard : (m : List LinkEvent) (link byte : ℕ) → quiets_at_end (m ++ Heard link (byte ∷ []) ∷ []) ≡ 0
unheard m link byte = quiet_after-append 0 m (Heard link (byte ∷ []) ∷ [])

byte_none : (p : ℕ) (asked : Asked) (m : List LinkEvent) (link byte : ℕ) (replies : List Reply) (kind : Awaited) (kinds : List Awaited) (rest : List ℕ) (quiets : ℕ) (o : Option Why) → 0 < p → Listens p asked m (record { replies = replies; waiting = kind ∷ kinds; rest = rest; quiets = quiets; over = None }) → whole_reply kind (rest ++ byte ∷ []) ≡ None → why_of_rest (kind ∷ kinds) (rest ++ byte ∷ []) ≡ o → HeardBy p asked (m ++ Heard link (byte ∷ []) ∷ []) (record { replies = replies; waiting = kind ∷ kinds; rest = rest ++ byte ∷ []; quiets = 0; over = o }) o
byte_none p asked m link byte replies kind kinds rest quiets None some s none goes_on =
    record { listening = hear_more p asked m link byte replies kind kinds rest some s.listening none goes_on; quiets = unheard m link byte; few = some }
byte_none p asked m link byte replies kind kinds rest quiets (Some reason) some s none ends = hear_over p asked m link byte replies kind kinds rest reason some s.listening none ends

byte_due : (p : ℕ) (asked : Asked) (m : List LinkEvent) (link byte : ℕ) (replies : List Reply) (kind : Awaited) (kinds : List Awaited) (rest : List ℕ) (quiets : ℕ) (o : Option Reply) → 0 < p → Listens p asked m (record { replies = replies; waiting = kind ∷ kinds; rest = rest; quiets = quiets; over = None }) → whole_reply kind (rest ++ byte ∷ []) ≡ o → HeardAs p asked (m ++ Heard link (byte ∷ []) ∷ []) (read_as o (rest ++ byte ∷ []) (record { replies = replies; waiting = kind ∷ kinds; rest = rest; quiets = quiets; over = None }))
byte_due p asked m link byte replies kind kinds rest quiets None some s none =
    byte_none p asked m link byte replies kind kinds rest quiets (why_of_rest (kind ∷ kinds) (rest ++ byte ∷ [])) some s none refl
byte_due p asked m link byte replies kind kinds rest quiets (Some reply) some s whole =
    record { listening = hear_reply p asked m link byte replies kind kinds rest reply some s.listening whole; quiets = unheard m link byte; few = some }

pub byte_alone : (p : ℕ) (asked : Asked) (m : List LinkEvent) (link byte : ℕ) (replies : List Reply) (waiting : List Awaited) (rest : List ℕ) (quiets : ℕ) → 0 < p → Listens p asked m (record { replies = replies; waiting = waiting; rest = rest; quiets = quiets; over = None }) → HeardAs p asked (m ++ Heard link (byte ∷ []) ∷ []) (after_byte byte (record { replies = replies; waiting = waiting; rest = rest; quiets = quiets; over = None }))
byte_alone p asked m link byte replies [] rest quiets some s =
    let none : rest ≡ [] = nothing_behind rest (rest_gives_none p asked m (state_of replies [] rest) s.listening (few_now p asked m (record { replies = replies; waiting = []; rest = rest; quiets = quiets; over = None }) s)) in
    let P : List ℕ → Type 0 = λ r. IsListening p asked m (state_of replies [] r) in
    let Q : List ℕ → Type 0 = λ r. HeardAs p asked (m ++ Heard link (byte ∷ []) ∷ []) (after_byte byte (record { replies = replies; waiting = []; rest = r; quiets = quiets; over = None })) in
    subst Q (sym none) (hear_unasked p asked m link byte replies some (subst P none s.listening))
byte_alone p asked m link byte replies (kind ∷ kinds) rest quiets some s =
    byte_due p asked m link byte replies kind kinds rest quiets (whole_reply kind (rest ++ byte ∷ [])) some s refl

-- ---- a quiet receive

quiet_by : (p : ℕ) (asked : Asked) (m : List LinkEvent) (link : ℕ) (h : Hearing) (b : Bool) → Listens p asked m h → nat_le p (h.quiets + 1) ≡ b → HeardBy p asked (m ++ Quiet link ∷ []) (record { replies = h.replies; waiting = h.waiting; rest = h.rest; quiets = h.quiets + 1; over = cond b (Some why.Quiet) None }) (cond b (Some why.Quiet) None)
quiet_by p asked m link h true s many =
    let same : quiets_at_end m ≡ h.quiets = s.quiets in
    let too_many : p ≤ quiets_at_end m + 1 = let least : p ≤ h.quiets + 1 = grind (arith, nat_tests) in omega (arith, same, least) in
    be_quiet_too_long p asked m link h.replies h.waiting h.rest too_many s.listening
quiet_by p asked m link h false s few =
    let same : quiets_at_end m ≡ h.quiets = s.quiets in
    let below : h.quiets + 1 < p = grind (arith, nat_tests) in
    record {
      listening = be_quiet p asked m link h.replies h.waiting h.rest (omega (arith, same, below)) s.listening;
      quiets = quiet_after-append 0 m (Quiet link ∷ []) ∙ ap (λ n. n + 1) same;
      few = below;
    }

pub quiet_alone : (p : ℕ) (asked : Asked) (m : List LinkEvent) (link : ℕ) (h : Hearing) → Listens p asked m h → HeardAs p asked (m ++ Quiet link ∷ []) (after_quiet p h)
quiet_alone p asked m link h s = quiet_by p asked m link h (nat_le p (h.quiets + 1)) s refl

-- ---- the link's end

pub end_alone : (p : ℕ) (asked : Asked) (m : List LinkEvent) (link : ℕ) (h : Hearing) → Listens p asked m h → HeardAs p asked (m ++ Ended link ∷ []) (after_end h)
end_alone p asked m link h s = be_ended p asked m link (state_of h.replies h.waiting h.rest) s.listening

-- ---- bytes that are sent, whatever is awaited

-- what is read where more is asked
asked_more : (asked : Asked) (m : List LinkEvent) (link : ℕ) (piece : List ℕ) (replies : List Reply) (waiting : List Awaited) (rest : List ℕ) (kinds : List Awaited) → reading_at asked m ≡ state_of replies waiting rest → asked (sent m ++ piece) ≡ asked (sent m) ++ kinds → why_of_rest waiting rest ≡ None → (reading_at asked (m ++ Sent link piece ∷ []) ≡ state_of replies (waiting ++ kinds) rest) × (why_of_rest (waiting ++ kinds) rest ≡ None)
asked_more asked m link piece replies [] rest kinds was more none =
    let empty : rest ≡ [] = nothing_behind rest none in
    let is : reading_at asked m ≡ state_of replies [] [] = was ∙ ap (λ (r : List ℕ). state_of replies [] r) empty in
    let P : List ℕ → Type 0 = λ r. (reading_at asked (m ++ Sent link piece ∷ []) ≡ state_of replies kinds r) × (why_of_rest kinds r ≡ None) in
    subst P (sym empty) (
      reading_more asked m (Sent link piece) (state_of replies [] []) kinds is (ap (λ t. asked (sent m ++ t)) (append-nil piece) ∙ more)
          ∙ ap (λ (r : RepliesRead Awaited Reply). with_replies replies r) (no_reading kinds)
          ∙ ap (λ (rs : List Reply). state_of rs kinds []) (append-nil replies),
      no_reason kinds,
    )
asked_more asked m link piece replies (kind ∷ waiting) rest kinds was more none = (
  reading_more asked m (Sent link piece) (state_of replies (kind ∷ waiting) rest) kinds was (ap (λ t. asked (sent m ++ t)) (append-nil piece) ∙ more)
      ∙ ap (λ (r : List ℕ). with_replies replies (reading_of whole_reply (kind ∷ waiting ++ kinds) r)) (append-nil rest)
      ∙ ap (λ (r : RepliesRead Awaited Reply). with_replies replies r) (read_none whole_reply kind (waiting ++ kinds) rest (settled asked m replies kind waiting rest was))
      ∙ ap (λ (rs : List Reply). state_of rs (kind ∷ waiting ++ kinds) rest) (append-nil replies),
  none,
)

pub sent_alone : (p : ℕ) (asked : Asked) (m : List LinkEvent) (link : ℕ) (piece : List ℕ) (kinds : List Awaited) (h : Hearing) → 0 < p → Listens p asked m h → asked (sent m ++ piece) ≡ asked (sent m) ++ kinds → HeardAs p asked (m ++ Sent link piece ∷ []) (after_sent kinds h)
sent_alone p asked m link piece kinds h some s more =
    let none = rest_gives_none p asked m (state_of h.replies h.waiting h.rest) s.listening (few_now p asked m h s) in
    let both = asked_more asked m link piece h.replies h.waiting h.rest kinds s.listening.reading more none in
    record {
      listening = go_on p asked m (Sent link piece) (state_of h.replies h.waiting h.rest) h.replies (h.waiting ++ kinds) h.rest s.listening refl some both.0 both.1;
      quiets = quiet_after-append 0 m (Sent link piece ∷ []);
      few = some;
    }
