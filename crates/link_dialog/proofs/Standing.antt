-- A dialog event by event: nothing said, a message said, its reply heard, and the link over.
use Rattle.std.proofs.Common.{◌≡◌, ◌<◌, ◌+◌, ◌≤◌, ℕ, false, List, [], ◌∷◌, ◌++◌, Option, Some, None, refl, ap, sym, subst, ◌∙◌, append_assoc, append-nil, length, take, drop, arith}
use Rattle.std.specs.Prelude.{nat_le}
use Rattle.std.specs.List.{concat, AllByRecursion}
use Rattle.std.proofs.lemmas.Bool.Decides.{nat_tests}
use Rattle.std.proofs.lemmas.List.{length-append, take-append-drop, length-take-le}
use Rattle.std.proofs.lemmas.List.Concat.{flat_map-append}
use Rattle.io_traits.specs.declared.links.LinkEvent.{LinkEvent}
use Rattle.io_traits.specs.declared.links.LinkEvent.TheVariants.{Opened, Ended}
use Rattle.io_traits.specs.Links.{tell}
use Rattle.io_traits.specs.Trace.{sent}
use Rattle.nntp_lines.specs.declared.why.Why.{Why}
use Rattle.nntp_lines.specs.declared.why.Why.TheVariants.{Ended as EndedLink}
use Rattle.link_dialog.specs.declared.awaited.Awaited.{Awaited}
use Rattle.link_dialog.specs.declared.awaited.Awaited.TheVariants.{Greeting}
use Rattle.link_dialog.specs.Events.{fine, quiets_at_end}
use Rattle.link_dialog.specs.Replies.{Reply}
use Rattle.link_dialog.specs.Moments.{IsListening, IsOver, state_of, why_at}
use Rattle.link_dialog.specs.Dialog.{Message, IsFull, AreFull, all_bytes, asked_by, kinds_within, Follows, EachEvent}
use Rattle.link_dialog.specs.Sending.{sends, SentWhole, SentInPart}
use Rattle.link_dialog.specs.Hearing.{Hears, HeardTo}
use Rattle.link_dialog.specs.Talk.{Start, GoesOn, Stands, Stopped}
use Rattle.link_dialog.proofs.EventSteps.{fine-append, sent-append}
use Rattle.link_dialog.proofs.MomentSteps.{be_ended}
use Rattle.link_dialog.proofs.Telling.{tell-tell}
use Rattle.link_dialog.proofs.Hearings.{each_more, on_more, on-append, on_sends}
use Rattle.link_dialog.proofs.Turns.{IsTurn, IsSending, send_pieces, kinds_whole, not_quiet_after}

-- ---- lists

pub full-append : (first second : List Message) → AreFull first → AreFull second → AreFull (first ++ second)
full-append [] second one two = two
full-append (message ∷ first) second one two = (one.0, full-append first second one.1 two)

pub bytes-append : (first second : List Message) → all_bytes (first ++ second) ≡ all_bytes first ++ all_bytes second
bytes-append first second = flat_map-append (λ (m : Message). m.bytes) first second

bytes_more : (said : List Message) (message : Message) → all_bytes (said ++ message ∷ []) ≡ all_bytes said ++ message.bytes
bytes_more said message = bytes-append said (message ∷ []) ∙ ap (λ t. all_bytes said ++ t) (append-nil message.bytes)

each-append : (P : List LinkEvent → LinkEvent → Type 0) (before first second : List LinkEvent) → EachEvent P before first → EachEvent P (before ++ first) second → EachEvent P before (first ++ second)
each-append P before [] second one two = subst (λ (m : List LinkEvent). EachEvent P m second) (append-nil before) two
each-append P before (event ∷ first) second one two = (one.0, each-append P (before ++ event ∷ []) first second one.1 (subst (λ (m : List LinkEvent). EachEvent P m second) (sym (append_assoc before (event ∷ []) first)) two))

-- ---- a reply is awaited, and nothing of it was heard

pub record Waits (start : Start) (now : Option (List LinkEvent)) (link patience : ℕ) (said : List Message) (replies : List Reply) (kind : Awaited) : Type 0 where
  pub stands : Stands start now link patience said replies (kind ∷ [])
  pub unquiet : quiets_at_end (fine stands.events) ≡ 0

-- before anything was heard or said
begins : (messages : List Message) (patience : ℕ) → AreFull messages → 0 < patience → IsListening patience (asked_by messages) [] (state_of [] (Greeting ∷ []) [])
begins [] patience full patient =
    let few : nat_le patience 0 ≡ false = grind (arith, nat_tests) in
    record { lived = refl; not_over = rw few refl; reading = refl; not_ended = refl }
begins (message ∷ messages) patience full patient =
    let few : nat_le patience 0 ≡ false = grind (arith, nat_tests) in
    let some : 0 < length message.bytes = full.0 in
    let none : nat_le (length message.bytes) 0 ≡ false = grind (arith, nat_tests) in
    record { lived = refl; not_over = rw few refl; reading = rw none refl; not_ended = refl }

pub opened : (start : Start) (after : Option (List LinkEvent)) (link patience : ℕ) → 0 < patience → after ≡ tell start.before (Opened link start.address ∷ []) → Waits start after link patience [] [] Greeting
opened start after link patience patient told =
    let t : Stands start after link patience [] [] (Greeting ∷ []) = record {
      events = [];
      on_this = tt;
      told = told;
      whole = refl;
      full = tt;
      count = refl;
      goes = λ more full. record { each = tt; listening = begins more patience full patient };
    } in
    record { stands = t; unquiet = refl }

-- ---- hearing

told_heard : (before now after : Option (List LinkEvent)) (link : ℕ) (address : List ℕ) (events got : List LinkEvent) → now ≡ tell before (Opened link address ∷ events) → after ≡ tell now got → after ≡ tell before (Opened link address ∷ (events ++ got))
told_heard before now after link address events got one two =
    two ∙ ap (λ t. tell t got) one ∙ tell-tell before (Opened link address ∷ events) got

sent_heard : (events got : List LinkEvent) → sent got ≡ [] → sent (events ++ got) ≡ sent events
sent_heard events got unsent = sent-append events got ∙ ap (λ t. sent events ++ t) unsent ∙ append-nil (sent events)

hears_by : (start : Start) (now after : Option (List LinkEvent)) (link patience : ℕ) (said : List Message) (replies answers : List Reply) (kind : Awaited) (over : Option Why) → (w : Waits start now link patience said replies kind) → (h : HeardTo now after link patience kind answers over) → (more : List Message) → AreFull more → Hears (said ++ more) patience w.stands.events h.got (replies ++ answers) over
hears_by start now after link patience said replies answers kind over w h more full =
    h.hears (said ++ more) w.stands.events replies ((w.stands.goes more full).listening, w.unquiet)

each_heard : (start : Start) (now after : Option (List LinkEvent)) (link patience : ℕ) (said : List Message) (replies answers : List Reply) (kind : Awaited) (over : Option Why) → (w : Waits start now link patience said replies kind) → (h : HeardTo now after link patience kind answers over) → (more : List Message) → AreFull more → EachEvent (Follows (said ++ more) patience) [] (w.stands.events ++ h.got)
each_heard start now after link patience said replies answers kind over w h more full =
    each-append (Follows (said ++ more) patience) [] w.stands.events h.got (w.stands.goes more full).each (hears_by start now after link patience said replies answers kind over w h more full).each

-- the reply was heard whole
pub heard_on : (start : Start) (now after : Option (List LinkEvent)) (link patience : ℕ) (said : List Message) (replies answers : List Reply) (kind : Awaited) → Waits start now link patience said replies kind → HeardTo now after link patience kind answers None → length answers ≡ 1 → Stands start after link patience said (replies ++ answers) []
heard_on start now after link patience said replies answers kind w h one = record {
  events = w.stands.events ++ h.got;
  on_this = on-append link w.stands.events h.got w.stands.on_this h.on_this;
  told = told_heard start.before now after link start.address w.stands.events h.got w.stands.told h.told;
  whole = sent_heard w.stands.events h.got (hears_by start now after link patience said replies answers kind None w h [] tt).unsent ∙ w.stands.whole;
  full = w.stands.full;
  count = let before : length replies + 1 ≡ length said + 1 = w.stands.count in omega (arith, length-append replies answers, one, before);
  goes = λ more full. record {
    each = each_heard start now after link patience said replies answers kind None w h more full;
    listening = (hears_by start now after link patience said replies answers kind None w h more full).ends;
  };
}

-- the link is over
pub heard_over : (start : Start) (now after : Option (List LinkEvent)) (link patience : ℕ) (said : List Message) (replies answers : List Reply) (kind : Awaited) (reason : Why) → Waits start now link patience said replies kind → HeardTo now after link patience kind answers (Some reason) → Stopped start after patience said (all_bytes said) reason (replies ++ answers)
heard_over start now after link patience said replies answers kind reason w h = record {
  link = link;
  events = w.stands.events ++ h.got;
  on_this = on-append link w.stands.events h.got w.stands.on_this h.on_this;
  told = told_heard start.before now after link start.address w.stands.events h.got w.stands.told h.told;
  bytes = sent_heard w.stands.events h.got (hears_by start now after link patience said replies answers kind (Some reason) w h [] tt).unsent ∙ w.stands.whole;
  front = ([], append-nil (all_bytes said));
  stops = λ more full. record {
    each = each_heard start now after link patience said replies answers kind (Some reason) w h more full;
    over = (hears_by start now after link patience said replies answers kind (Some reason) w h more full).ends;
  };
}

-- ---- saying

-- the message in hand, and whatever follows it
turn_of : (said : List Message) (message : Message) (more : List Message) → AreFull said → IsFull message → AreFull more → IsTurn ((said ++ message ∷ []) ++ more) said message more
turn_of said message more said_full full more_full =
    record { split = append_assoc said (message ∷ []) more; done_full = said_full; full = full; left_full = more_full }

no_kinds : (message : Message) → IsFull message → kinds_within (message ∷ []) 0 ≡ []
no_kinds message full = let none : nat_le (length message.bytes) 0 ≡ false = grind (arith, nat_tests) in rw none refl

-- before its first byte
sending_begins : (start : Start) (now : Option (List LinkEvent)) (link patience : ℕ) (said : List Message) (message : Message) (replies : List Reply) (more : List Message) → IsFull message → AreFull more → (t : Stands start now link patience said replies []) → IsSending ((said ++ message ∷ []) ++ more) said message patience replies [] t.events
sending_begins start now link patience said message replies more full more_full t =
    let same : said ++ message ∷ more ≡ (said ++ message ∷ []) ++ more = sym (append_assoc said (message ∷ []) more) in
    let goes = subst (λ (ms : List Message). GoesOn ms patience t.events replies []) same (t.goes (message ∷ more) (full, more_full)) in
    let P : List Awaited → Type 0 = λ ks. IsListening patience (asked_by ((said ++ message ∷ []) ++ more)) (fine t.events) (state_of replies ks []) in
    record { each = goes.each; listening = subst P (sym (no_kinds message full)) goes.listening; sent = t.whole ∙ sym (append-nil (all_bytes said)) }

-- some pieces of it
sending_pieces : (start : Start) (now : Option (List LinkEvent)) (link patience : ℕ) (said : List Message) (message : Message) (replies : List Reply) (more : List Message) (pieces : List (List ℕ)) → 0 < patience → IsFull message → AreFull more → AllByRecursion (λ (piece : List ℕ). 0 < length piece) pieces → length (concat pieces) ≤ length message.bytes → (t : Stands start now link patience said replies []) → IsSending ((said ++ message ∷ []) ++ more) said message patience replies (concat pieces) (t.events ++ sends link pieces)
sending_pieces start now link patience said message replies more pieces patient full more_full are fits t =
    let count : length replies + 0 ≡ length said + 1 = t.count in
    send_pieces ((said ++ message ∷ []) ++ more) said message more patience link replies [] pieces t.events patient
    (turn_of said message more t.full full more_full) (omega arith) are (omega arith)
    (sending_begins start now link patience said message replies more full more_full t)

-- all of it
sending_whole : (start : Start) (now after : Option (List LinkEvent)) (link patience : ℕ) (said : List Message) (message : Message) (replies : List Reply) (more : List Message) → 0 < patience → IsFull message → AreFull more → (t : Stands start now link patience said replies []) → (s : SentWhole now after link message.bytes) → IsSending ((said ++ message ∷ []) ++ more) said message patience replies message.bytes (t.events ++ sends link s.pieces)
sending_whole start now after link patience said message replies more patient full more_full t s =
    let long : length (concat s.pieces) ≡ length message.bytes = ap length s.whole in
    subst (λ (part : List ℕ). IsSending ((said ++ message ∷ []) ++ more) said message patience replies part (t.events ++ sends link s.pieces)) s.whole
    (sending_pieces start now link patience said message replies more s.pieces patient full more_full s.full (omega arith) t)

pub said_whole : (start : Start) (now after : Option (List LinkEvent)) (link patience : ℕ) (said : List Message) (message : Message) (replies : List Reply) → 0 < patience → IsFull message → Stands start now link patience said replies [] → SentWhole now after link message.bytes → Waits start after link patience (said ++ message ∷ []) replies message.kind
said_whole start now after link patience said message replies patient full t s =
    let count : length replies + 0 ≡ length said + 1 = t.count in
    let stands : Stands start after link patience (said ++ message ∷ []) replies (message.kind ∷ []) = record {
      events = t.events ++ sends link s.pieces;
      on_this = on-append link t.events (sends link s.pieces) t.on_this (on_sends link s.pieces);
      told = told_heard start.before now after link start.address t.events (sends link s.pieces) t.told s.told;
      whole = (sending_whole start now after link patience said message replies [] patient full tt t s).sent ∙ sym (bytes_more said message);
      full = full-append said (message ∷ []) t.full (full, tt);
      count = omega (arith, length-append said (message ∷ []), count);
      goes = λ more more_full.
          let sending = sending_whole start now after link patience said message replies more patient full more_full t s in
          let P : List Awaited → Type 0 = λ ks. IsListening patience (asked_by ((said ++ message ∷ []) ++ more)) (fine (t.events ++ sends link s.pieces)) (state_of replies ks []) in
          record { each = sending.each; listening = subst P (kinds_whole message) sending.listening };
    } in
    record {
      stands = stands;
      unquiet = not_quiet_after t.events link s.pieces (subst (λ (n : ℕ). 0 < n) (sym (ap length s.whole)) full);
    }

-- a message that was cut short by its link
pub said_in_part : (start : Start) (now after : Option (List LinkEvent)) (link patience : ℕ) (said : List Message) (message : Message) (replies : List Reply) (n : ℕ) → 0 < patience → IsFull message → Stands start now link patience said replies [] → SentInPart now after link message.bytes n → Stopped start after patience (said ++ message ∷ []) (all_bytes said ++ take n message.bytes) EndedLink replies
said_in_part start now after link patience said message replies n patient full t s =
    let part : length (take n message.bytes) ≡ n = let some = s.some in length-take-le n message.bytes (omega arith) in
    let long : length (concat s.pieces) ≡ n = ap length s.front ∙ part in
    let less : n < length message.bytes = s.some in
    let sending : (more : List Message) → AreFull more → IsSending ((said ++ message ∷ []) ++ more) said message patience replies (concat s.pieces) (t.events ++ sends link s.pieces) =
    λ more more_full. sending_pieces start now link patience said message replies more s.pieces patient full more_full s.full (omega arith) t in
    let events = t.events ++ sends link s.pieces in
    let all : events ++ Ended link ∷ [] ≡ t.events ++ (sends link s.pieces ++ Ended link ∷ []) = append_assoc t.events (sends link s.pieces) (Ended link ∷ []) in
    record {
      link = link;
      events = events ++ Ended link ∷ [];
      on_this = on_more link events (Ended link) (on-append link t.events (sends link s.pieces) t.on_this (on_sends link s.pieces)) refl;
      told = told_heard start.before now after link start.address t.events (sends link s.pieces ++ Ended link ∷ []) t.told s.told ∙ ap (λ es. tell start.before (Opened link start.address ∷ es)) (sym all);
      bytes = sent-append events (Ended link ∷ []) ∙ append-nil (sent events) ∙ (sending [] tt).sent ∙ ap (λ t. all_bytes said ++ t) s.front;
      front = (
        drop n message.bytes,
        append_assoc (all_bytes said) (take n message.bytes) (drop n message.bytes) ∙ ap (λ t. all_bytes said ++ t) (take-append-drop n message.bytes) ∙ sym (bytes_more said message),
      );
      stops = λ more more_full.
          let messages = (said ++ message ∷ []) ++ more in
          let s = sending more more_full in
          record {
            each = each_more (Follows messages patience) [] events (Ended link) s.each record {
              not_over = ap (λ m. why_at patience (asked_by messages) m) s.listening.lived ∙ s.listening.not_over;
              in_turn = tt;
            };
            over = subst (λ (m : List LinkEvent). IsOver patience (asked_by messages) m EndedLink replies) (sym (fine-append events (Ended link ∷ [])))
                (be_ended patience (asked_by messages) (fine events) link _ s.listening);
          };
    }
