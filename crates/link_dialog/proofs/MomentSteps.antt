-- One more event on a link that isn't over.
use Rattle.std.proofs.Common.{◌≡◌, ◌<◌, ◌≤◌, ◌+◌, ℕ, true, false, List, [], ◌∷◌, ◌++◌, Option, Some, None, refl, ap, sym, subst, ◌∙◌, append_assoc, append-nil, arith, cond}
use Rattle.std.specs.Prelude.{is_some, nat_le}
use Rattle.std.proofs.lemmas.Bool.Decides.{nat_tests}
use Rattle.io_traits.specs.declared.links.LinkEvent.{LinkEvent}
use Rattle.io_traits.specs.declared.links.LinkEvent.TheVariants.{Sent, Heard, Quiet, Ended}
use Rattle.io_traits.specs.Trace.{sent, heard}
use Rattle.link_dialog.specs.Events.{quiet_after, quiets_at_end, has_ended}
use Rattle.link_dialog.proofs.EventSteps.{sent-append, heard-append, quiet_after-append, has_ended-append}
use Rattle.link_dialog.specs.declared.awaited.Awaited.{Awaited}
use Rattle.link_dialog.specs.declared.awaited.Awaited.TheVariants.{Greeting}
use Rattle.nntp_lines.specs.declared.why.Why.{Why}
use Rattle.nntp_lines.specs.declared.why.Why.TheVariants.{Ended as EndedLink, Quiet as QuietLink, Unasked}
use Rattle.link_dialog.specs.Reading.{RepliesRead, reading_of, shortest_from, ends_here, with_replies}
use Rattle.link_dialog.specs.Replies.{Reply, whole_reply, why_of_rest}
use Rattle.link_dialog.specs.Moments.{reading_at, why_at, lived_from, IsListening, IsOver, state_of}
use Rattle.link_dialog.proofs.Readings.{by_cases, read_on, resumed, read_none, read_some, rest_settled, rest_has_none, found_last}

abbrev pub Asked : Type 0
Asked = List ℕ → List Awaited

-- past a moment at which no reason holds, the events go on being lived
pub lived_on : (why : List LinkEvent → Option Why) (before events more : List LinkEvent) → why (lived_from why before events) ≡ None → lived_from why before (events ++ more) ≡ lived_from why (before ++ events) more
lived_on why before [] more none = ap (λ m. lived_from why m more) (sym (append-nil before))
lived_on why before (event ∷ events) more none =
    by_cases (why before)
    (λ reason is. let some : why before ≡ None = rw is at none in cc)
    (λ now.
    let go : (es : List LinkEvent) → lived_from why before (event ∷ es) ≡ lived_from why (before ++ event ∷ []) es = λ es. rw now refl in
    go (events ++ more)
    ∙ lived_on why (before ++ event ∷ []) events more (ap why (sym (go events)) ∙ none)
    ∙ ap (λ m. lived_from why m more) (append_assoc before (event ∷ []) events))

-- past a moment at which one holds, nothing is
pub lived_stays : (why : List LinkEvent → Option Why) (before events more : List LinkEvent) (reason : Why) → why (lived_from why before events) ≡ Some reason → lived_from why before (events ++ more) ≡ lived_from why before events
lived_stays why before [] [] reason is = refl
lived_stays why before [] (event ∷ more) reason is = rw is refl
lived_stays why before (event ∷ events) more reason is =
    by_cases (why before)
    (λ other now. rw now refl)
    (λ now.
    let go : (es : List LinkEvent) → lived_from why before (event ∷ es) ≡ lived_from why (before ++ event ∷ []) es = λ es. rw now refl in
    go (events ++ more) ∙ lived_stays why (before ++ event ∷ []) events more reason (ap why (sym (go events)) ∙ is) ∙ sym (go events))

-- where no reason holds yet, one more event is lived
lived_more : (p : ℕ) (asked : Asked) (m : List LinkEvent) (event : LinkEvent) (state : RepliesRead Awaited Reply) → IsListening p asked m state → lived_from (why_at p asked) [] (m ++ event ∷ []) ≡ m ++ event ∷ []
lived_more p asked m event state s =
    let now : why_at p asked m ≡ None = s.not_over in
    let was : why_at p asked (lived_from (why_at p asked) [] m) ≡ None = ap (why_at p asked) s.lived ∙ now in
    lived_on (why_at p asked) [] m (event ∷ []) was ∙ ap (λ o. cond (is_some o) m (m ++ event ∷ [])) now

-- why a link is over that hasn't ended
why_alive : (p : ℕ) (asked : Asked) (m : List LinkEvent) (state : RepliesRead Awaited Reply) (q : ℕ) → has_ended m ≡ false → quiets_at_end m ≡ q → reading_at asked m ≡ state → q < p → why_at p asked m ≡ why_of_rest state.waiting state.rest
why_alive p asked m state q alive quiet reading below =
    let few : nat_le p (quiets_at_end m) ≡ false = rw quiet (grind (arith, nat_tests)) in
    rw (alive, few, reading) refl

-- the same of one that has ended, and of one that was quiet for too long
why_ended : (p : ℕ) (asked : Asked) (m : List LinkEvent) → has_ended m ≡ true → why_at p asked m ≡ Some EndedLink
why_ended p asked m ended = rw ended refl

why_quiet : (p : ℕ) (asked : Asked) (m : List LinkEvent) → has_ended m ≡ false → p ≤ quiets_at_end m → why_at p asked m ≡ Some QuietLink
why_quiet p asked m alive many =
    let much : nat_le p (quiets_at_end m) ≡ true = grind (arith, nat_tests) in
    rw (alive, much) refl

-- what is read after one more event: the kinds newly asked and the bytes newly heard
pub reading_more : (asked : Asked) (m : List LinkEvent) (event : LinkEvent) (state : RepliesRead Awaited Reply) (kinds : List Awaited) → reading_at asked m ≡ state → asked (sent m ++ sent (event ∷ [])) ≡ asked (sent m) ++ kinds → reading_at asked (m ++ event ∷ []) ≡ resumed whole_reply state kinds (heard (event ∷ []))
reading_more asked m event state kinds was more =
    ap (λ s. reading_of whole_reply (Greeting ∷ asked s) (heard (m ++ event ∷ []))) (sent-append m (event ∷ []))
    ∙ ap (λ ks. reading_of whole_reply (Greeting ∷ ks) (heard (m ++ event ∷ []))) more
    ∙ ap (λ h. reading_of whole_reply (Greeting ∷ asked (sent m) ++ kinds) h) (heard-append m (event ∷ []))
    ∙ read_on whole_reply (Greeting ∷ asked (sent m)) kinds (heard m) (heard (event ∷ []))
    ∙ ap (λ (r : RepliesRead Awaited Reply). resumed whole_reply r kinds (heard (event ∷ []))) was

-- where nothing new is asked
asks_nothing : (asked : Asked) (m : List LinkEvent) (event : LinkEvent) → sent (event ∷ []) ≡ [] → asked (sent m ++ sent (event ∷ [])) ≡ asked (sent m) ++ []
asks_nothing asked m event none = ap (λ s. asked (sent m ++ s)) none ∙ ap asked (append-nil (sent m)) ∙ sym (append-nil (asked (sent m)))

-- what a state that is reached holds back is no whole reply
pub settled : (asked : Asked) (m : List LinkEvent) (replies : List Reply) (kind : Awaited) (kinds : List Awaited) (rest : List ℕ) → reading_at asked m ≡ state_of replies (kind ∷ kinds) rest → shortest_from (whole_reply kind) [] rest ≡ None
settled asked m replies kind kinds rest is =
    let P : RepliesRead Awaited Reply → Type 0 = λ r. reading_of whole_reply r.waiting r.rest ≡ record { replies = []; waiting = r.waiting; rest = r.rest } in
    rest_has_none whole_reply kind kinds rest (subst P is (rest_settled whole_reply (Greeting ∷ asked (sent m)) (heard m)))

nothing_heard : (kinds : List Awaited) → reading_of whole_reply kinds [] ≡ state_of [] kinds []
nothing_heard [] = refl
nothing_heard (kind ∷ kinds) = refl

no_reason : (kinds : List Awaited) → why_of_rest kinds [] ≡ None
no_reason [] = refl
no_reason (kind ∷ kinds) = refl

-- a byte after which nothing is whole
byte_more : (asked : Asked) (m : List LinkEvent) (link byte : ℕ) (replies : List Reply) (kind : Awaited) (kinds : List Awaited) (rest : List ℕ) → reading_at asked m ≡ state_of replies (kind ∷ kinds) rest → whole_reply kind (rest ++ byte ∷ []) ≡ None → reading_at asked (m ++ Heard link (byte ∷ []) ∷ []) ≡ state_of replies (kind ∷ kinds) (rest ++ byte ∷ [])
byte_more asked m link byte replies kind kinds rest was none =
    let last : shortest_from (whole_reply kind) [] (rest ++ byte ∷ []) ≡ None =
    found_last (whole_reply kind) [] rest byte (settled asked m replies kind kinds rest was) ∙ ap (λ o. ends_here o []) none in
    reading_more asked m (Heard link (byte ∷ [])) (state_of replies (kind ∷ kinds) rest) [] was (asks_nothing asked m (Heard link (byte ∷ [])) refl)
    ∙ ap (λ ks. with_replies replies (reading_of whole_reply (kind ∷ ks) (rest ++ byte ∷ []))) (append-nil kinds)
    ∙ ap (λ (r : RepliesRead Awaited Reply). with_replies replies r) (read_none whole_reply kind kinds (rest ++ byte ∷ []) last)
    ∙ ap (λ rs. state_of rs (kind ∷ kinds) (rest ++ byte ∷ [])) (append-nil replies)

-- a byte that makes the reply whole
byte_whole : (asked : Asked) (m : List LinkEvent) (link byte : ℕ) (replies : List Reply) (kind : Awaited) (kinds : List Awaited) (rest : List ℕ) (reply : Reply) → reading_at asked m ≡ state_of replies (kind ∷ kinds) rest → whole_reply kind (rest ++ byte ∷ []) ≡ Some reply → reading_at asked (m ++ Heard link (byte ∷ []) ∷ []) ≡ state_of (replies ++ reply ∷ []) kinds []
byte_whole asked m link byte replies kind kinds rest reply was some =
    let last : shortest_from (whole_reply kind) [] (rest ++ byte ∷ []) ≡ Some (reply, []) =
    found_last (whole_reply kind) [] rest byte (settled asked m replies kind kinds rest was) ∙ ap (λ o. ends_here o []) some in
    reading_more asked m (Heard link (byte ∷ [])) (state_of replies (kind ∷ kinds) rest) [] was (asks_nothing asked m (Heard link (byte ∷ [])) refl)
    ∙ ap (λ ks. with_replies replies (reading_of whole_reply (kind ∷ ks) (rest ++ byte ∷ []))) (append-nil kinds)
    ∙ ap (λ (r : RepliesRead Awaited Reply). with_replies replies r) (read_some whole_reply kind kinds (rest ++ byte ∷ []) (reply, []) last)
    ∙ ap (λ (r : RepliesRead Awaited Reply). with_replies replies (with_replies (reply ∷ []) r)) (nothing_heard kinds)

-- a byte where nothing is awaited
byte_unasked : (asked : Asked) (m : List LinkEvent) (link byte : ℕ) (replies : List Reply) (rest : List ℕ) → reading_at asked m ≡ state_of replies [] rest → reading_at asked (m ++ Heard link (byte ∷ []) ∷ []) ≡ state_of replies [] (rest ++ byte ∷ [])
byte_unasked asked m link byte replies rest was =
    reading_more asked m (Heard link (byte ∷ [])) (state_of replies [] rest) [] was (asks_nothing asked m (Heard link (byte ∷ [])) refl)
    ∙ ap (λ rs. state_of rs [] (rest ++ byte ∷ [])) (append-nil replies)

-- an event that sends and hears nothing
nothing_read : (asked : Asked) (m : List LinkEvent) (event : LinkEvent) → sent (event ∷ []) ≡ [] → heard (event ∷ []) ≡ [] → reading_at asked (m ++ event ∷ []) ≡ reading_at asked m
nothing_read asked m event unsent unheard =
    ap (λ s. reading_of whole_reply (Greeting ∷ asked s) (heard (m ++ event ∷ []))) (sent-append m (event ∷ []) ∙ ap (λ s. sent m ++ s) unsent ∙ append-nil (sent m))
    ∙ ap (λ h. reading_of whole_reply (Greeting ∷ asked (sent m)) h) (heard-append m (event ∷ []) ∙ ap (λ h. heard m ++ h) unheard ∙ append-nil (heard m))

-- a link that goes on after an event
pub go_on : (p : ℕ) (asked : Asked) (m : List LinkEvent) (event : LinkEvent) (old : RepliesRead Awaited Reply) (replies : List Reply) (waiting : List Awaited) (rest : List ℕ) → IsListening p asked m old → has_ended (event ∷ []) ≡ false → quiet_after (quiets_at_end m) (event ∷ []) < p → reading_at asked (m ++ event ∷ []) ≡ state_of replies waiting rest → why_of_rest waiting rest ≡ None → IsListening p asked (m ++ event ∷ []) (state_of replies waiting rest)
go_on p asked m event old replies waiting rest s alive below is none =
    let not_ended : has_ended (m ++ event ∷ []) ≡ false = has_ended-append m (event ∷ []) s.not_ended ∙ alive in
    record {
      lived = lived_more p asked m event old s;
      not_over = why_alive p asked (m ++ event ∷ []) (state_of replies waiting rest) (quiet_after (quiets_at_end m) (event ∷ [])) not_ended (quiet_after-append 0 m (event ∷ [])) is below ∙ none;
      reading = is;
      not_ended = not_ended;
    }

-- a link that is over at an event
ends_at : (p : ℕ) (asked : Asked) (m : List LinkEvent) (event : LinkEvent) (old : RepliesRead Awaited Reply) (reason : Why) (replies : List Reply) → IsListening p asked m old → why_at p asked (m ++ event ∷ []) ≡ Some reason → (reading_at asked (m ++ event ∷ [])).replies ≡ replies → IsOver p asked (m ++ event ∷ []) reason replies
ends_at p asked m event old reason replies s why read =
    let lived : lived_from (why_at p asked) [] (m ++ event ∷ []) ≡ m ++ event ∷ [] = lived_more p asked m event old s in
    record {
      why = ap (why_at p asked) lived ∙ why;
      answers = ap (λ t. (reading_at asked t).replies) lived ∙ read;
    }

pub hear_more : (p : ℕ) (asked : Asked) (m : List LinkEvent) (link byte : ℕ) (replies : List Reply) (kind : Awaited) (kinds : List Awaited) (rest : List ℕ) → 0 < p → IsListening p asked m (state_of replies (kind ∷ kinds) rest) → whole_reply kind (rest ++ byte ∷ []) ≡ None → why_of_rest (kind ∷ kinds) (rest ++ byte ∷ []) ≡ None → IsListening p asked (m ++ Heard link (byte ∷ []) ∷ []) (state_of replies (kind ∷ kinds) (rest ++ byte ∷ []))
hear_more p asked m link byte replies kind kinds rest some s none no_why =
    go_on p asked m (Heard link (byte ∷ [])) (state_of replies (kind ∷ kinds) rest) replies (kind ∷ kinds) (rest ++ byte ∷ []) s refl some
    (byte_more asked m link byte replies kind kinds rest s.reading none) no_why

pub hear_reply : (p : ℕ) (asked : Asked) (m : List LinkEvent) (link byte : ℕ) (replies : List Reply) (kind : Awaited) (kinds : List Awaited) (rest : List ℕ) (reply : Reply) → 0 < p → IsListening p asked m (state_of replies (kind ∷ kinds) rest) → whole_reply kind (rest ++ byte ∷ []) ≡ Some reply → IsListening p asked (m ++ Heard link (byte ∷ []) ∷ []) (state_of (replies ++ reply ∷ []) kinds [])
hear_reply p asked m link byte replies kind kinds rest reply some s is =
    go_on p asked m (Heard link (byte ∷ [])) (state_of replies (kind ∷ kinds) rest) (replies ++ reply ∷ []) kinds [] s refl some
    (byte_whole asked m link byte replies kind kinds rest reply s.reading is) (no_reason kinds)

pub hear_over : (p : ℕ) (asked : Asked) (m : List LinkEvent) (link byte : ℕ) (replies : List Reply) (kind : Awaited) (kinds : List Awaited) (rest : List ℕ) (reason : Why) → 0 < p → IsListening p asked m (state_of replies (kind ∷ kinds) rest) → whole_reply kind (rest ++ byte ∷ []) ≡ None → why_of_rest (kind ∷ kinds) (rest ++ byte ∷ []) ≡ Some reason → IsOver p asked (m ++ Heard link (byte ∷ []) ∷ []) reason replies
hear_over p asked m link byte replies kind kinds rest reason some s none why =
    let event = Heard link (byte ∷ []) in
    let is : reading_at asked (m ++ event ∷ []) ≡ state_of replies (kind ∷ kinds) (rest ++ byte ∷ []) = byte_more asked m link byte replies kind kinds rest s.reading none in
    ends_at p asked m event (state_of replies (kind ∷ kinds) rest) reason replies s
    (why_alive p asked (m ++ event ∷ []) (state_of replies (kind ∷ kinds) (rest ++ byte ∷ [])) 0 (has_ended-append m (event ∷ []) s.not_ended) (quiet_after-append 0 m (event ∷ [])) is some ∙ why)
    (ap (λ (r : RepliesRead Awaited Reply). r.replies) is)

pub hear_unasked : (p : ℕ) (asked : Asked) (m : List LinkEvent) (link byte : ℕ) (replies : List Reply) → 0 < p → IsListening p asked m (state_of replies [] []) → IsOver p asked (m ++ Heard link (byte ∷ []) ∷ []) Unasked replies
hear_unasked p asked m link byte replies some s =
    let event = Heard link (byte ∷ []) in
    let is : reading_at asked (m ++ event ∷ []) ≡ state_of replies [] (byte ∷ []) = byte_unasked asked m link byte replies [] s.reading in
    ends_at p asked m event (state_of replies [] []) Unasked replies s
    (why_alive p asked (m ++ event ∷ []) (state_of replies [] (byte ∷ [])) 0 (has_ended-append m (event ∷ []) s.not_ended) (quiet_after-append 0 m (event ∷ [])) is some)
    (ap (λ (r : RepliesRead Awaited Reply). r.replies) is)

-- where a link listens, its rest gives no reason
pub rest_gives_none : (p : ℕ) (asked : Asked) (m : List LinkEvent) (state : RepliesRead Awaited Reply) → IsListening p asked m state → quiets_at_end m < p → why_of_rest state.waiting state.rest ≡ None
rest_gives_none p asked m state s few = sym (why_alive p asked m state (quiets_at_end m) s.not_ended refl s.reading few) ∙ s.not_over

pub be_quiet : (p : ℕ) (asked : Asked) (m : List LinkEvent) (link : ℕ) (replies : List Reply) (waiting : List Awaited) (rest : List ℕ) → quiets_at_end m + 1 < p → IsListening p asked m (state_of replies waiting rest) → IsListening p asked (m ++ Quiet link ∷ []) (state_of replies waiting rest)
be_quiet p asked m link replies waiting rest few s =
    go_on p asked m (Quiet link) (state_of replies waiting rest) replies waiting rest s refl few (nothing_read asked m (Quiet link) refl refl ∙ s.reading)
    (rest_gives_none p asked m (state_of replies waiting rest) s (omega (arith, few)))

pub be_quiet_too_long : (p : ℕ) (asked : Asked) (m : List LinkEvent) (link : ℕ) (replies : List Reply) (waiting : List Awaited) (rest : List ℕ) → p ≤ quiets_at_end m + 1 → IsListening p asked m (state_of replies waiting rest) → IsOver p asked (m ++ Quiet link ∷ []) QuietLink replies
be_quiet_too_long p asked m link replies waiting rest many s =
    let quiet : quiets_at_end (m ++ Quiet link ∷ []) ≡ quiets_at_end m + 1 = quiet_after-append 0 m (Quiet link ∷ []) in
    let P : ℕ → Type 0 = λ n. p ≤ n in
    ends_at p asked m (Quiet link) (state_of replies waiting rest) QuietLink replies s
    (why_quiet p asked (m ++ Quiet link ∷ []) (has_ended-append m (Quiet link ∷ []) s.not_ended) (subst P (sym quiet) many))
    (ap (λ (r : RepliesRead Awaited Reply). r.replies) (nothing_read asked m (Quiet link) refl refl ∙ s.reading))

pub be_ended : (p : ℕ) (asked : Asked) (m : List LinkEvent) (link : ℕ) (state : RepliesRead Awaited Reply) → IsListening p asked m state → IsOver p asked (m ++ Ended link ∷ []) EndedLink state.replies
be_ended p asked m link state s =
    ends_at p asked m (Ended link) state EndedLink state.replies s
    (why_ended p asked (m ++ Ended link ∷ []) (has_ended-append m (Ended link ∷ []) s.not_ended))
    (ap (λ (r : RepliesRead Awaited Reply). r.replies) (nothing_read asked m (Ended link) refl refl ∙ s.reading))

-- a piece sent where no reply is awaited
pub send_more : (p : ℕ) (asked : Asked) (m : List LinkEvent) (link : ℕ) (piece : List ℕ) (replies : List Reply) (kinds : List Awaited) → 0 < p → IsListening p asked m (state_of replies [] []) → asked (sent m ++ piece) ≡ asked (sent m) ++ kinds → IsListening p asked (m ++ Sent link piece ∷ []) (state_of replies kinds [])
send_more p asked m link piece replies kinds some s more =
    go_on p asked m (Sent link piece) (state_of replies [] []) replies kinds [] s refl some
    (reading_more asked m (Sent link piece) (state_of replies [] []) kinds s.reading (ap (λ t. asked (sent m ++ t)) (append-nil piece) ∙ more)
    ∙ ap (λ (r : RepliesRead Awaited Reply). with_replies replies r) (nothing_heard kinds)
    ∙ ap (λ rs. state_of rs kinds []) (append-nil replies))
    (no_reason kinds)

-- what comes after the moment at which a link is over changes nothing
pub over_stays : (p : ℕ) (asked : Asked) (m more : List LinkEvent) (reason : Why) (replies : List Reply) → IsOver p asked m reason replies → IsOver p asked (m ++ more) reason replies
over_stays p asked m more reason replies s =
    let same : lived_from (why_at p asked) [] (m ++ more) ≡ lived_from (why_at p asked) [] m = lived_stays (why_at p asked) [] m more reason s.why in
    record {
      why = ap (why_at p asked) same ∙ s.why;
      answers = ap (λ t. (reading_at asked t).replies) same ∙ s.answers;
    }
