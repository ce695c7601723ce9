-- Where a dialog stands: some messages done, one in hand, some left.
use Rattle.std.proofs.Common.{◌≡◌, ◌<◌, ◌+◌, ◌≤◌, ◌-◌, ℕ, true, false, List, [], ◌∷◌, ◌++◌, refl, ap, sym, subst, ◌∙◌, append_assoc, append-nil, length, arith}
use Rattle.std.specs.Prelude.{map, nat_le, ◌==◌}
use Rattle.std.specs.List.{concat}
use Rattle.std.proofs.lemmas.Bool.Decides.{nat_tests}
use Rattle.std.proofs.lemmas.List.{length-append}
use Rattle.io_traits.specs.declared.links.LinkEvent.{LinkEvent}
use Rattle.io_traits.specs.declared.links.LinkEvent.TheVariants.{Sent}
use Rattle.io_traits.specs.Trace.{sent}
use Rattle.link_dialog.specs.declared.awaited.Awaited.{Awaited}
use Rattle.link_dialog.specs.Events.{fine, quiet_after, quiets_at_end}
use Rattle.link_dialog.specs.Reading.{RepliesRead}
use Rattle.link_dialog.specs.Replies.{Reply}
use Rattle.link_dialog.specs.Moments.{IsListening, state_of, why_at, reading_at}
use Rattle.link_dialog.specs.Dialog.{Message, IsFull, AreFull, asked_by, kinds_within, begun_within, all_bytes, Follows, EachEvent}
use Rattle.link_dialog.specs.Sending.{sends, ArePieces}
use Rattle.link_dialog.proofs.EventSteps.{fine-append, sent-append, sent-fine, quiet_after-append}
use Rattle.link_dialog.proofs.MomentSteps.{send_more}
use Rattle.link_dialog.proofs.Hearings.{each_more}

-- the kinds of the messages that are done, and of what follows them
kinds_after : (done more : List Message) (n : ℕ) → kinds_within (done ++ more) (length (all_bytes done) + n) ≡ map (λ m. m.kind) done ++ kinds_within more n
kinds_after [] more n = ap (λ k. kinds_within more k) (omega arith)
kinds_after (message ∷ done) more n =
    let whole : length (message.bytes ++ all_bytes done) ≡ length message.bytes + length (all_bytes done) = length-append message.bytes (all_bytes done) in
    let fits : nat_le (length message.bytes) (length (message.bytes ++ all_bytes done) + n) ≡ true = rw whole (grind (arith, nat_tests)) in
    let left : (length (message.bytes ++ all_bytes done) + n) - length message.bytes ≡ length (all_bytes done) + n = omega (arith, whole) in
    rw (fits, left, kinds_after done more n) refl

-- one message in hand, of which no more than all is sent: those behind it aren't begun
kinds_in_hand : (message : Message) (left : List Message) (n : ℕ) → AreFull left → n ≤ length message.bytes → kinds_within (message ∷ left) n ≡ kinds_within (message ∷ []) n
kinds_in_hand message [] n full fits = refl
kinds_in_hand message (next ∷ left) n full fits =
    let none : nat_le (length next.bytes) (n - length message.bytes) ≡ false = let some : 0 < length next.bytes = full.0 in let zero : n - length message.bytes ≡ 0 = omega arith in rw zero (grind (arith, nat_tests)) in
    rw none refl

kinds_part : (message : Message) (n : ℕ) → n < length message.bytes → kinds_within (message ∷ []) n ≡ []
kinds_part message n part = let none : nat_le (length message.bytes) n ≡ false = grind (arith, nat_tests) in rw none refl

pub kinds_whole : (message : Message) → kinds_within (message ∷ []) (length message.bytes) ≡ message.kind ∷ []
kinds_whole message = let all : nat_le (length message.bytes) (length message.bytes) ≡ true = grind (arith, nat_tests) in rw all refl

begun_none : (left : List Message) → 1 + begun_within left 0 ≡ 1
begun_none [] = refl
begun_none (message ∷ left) = refl

begun_here : (message : Message) (left : List Message) (n : ℕ) → 0 < n → n ≤ length message.bytes → begun_within (message ∷ left) n ≡ 1
begun_here message left n some fits =
    let not_zero : (n == 0) ≡ false = grind (arith, nat_tests) in
    let zero : n - length message.bytes ≡ 0 = omega arith in
    rw (not_zero, zero) (begun_none left)

begun_after : (done : List Message) (message : Message) (left : List Message) (n : ℕ) → AreFull done → 0 < n → n ≤ length message.bytes → begun_within (done ++ message ∷ left) (length (all_bytes done) + n) ≡ length done + 1
begun_after [] message left n full some fits = ap (λ k. begun_within (message ∷ left) k) (omega arith) ∙ begun_here message left n some fits
begun_after (first ∷ done) message left n full some fits =
    let whole : length (first.bytes ++ all_bytes done) ≡ length first.bytes + length (all_bytes done) = length-append first.bytes (all_bytes done) in
    let first_full : 0 < length first.bytes = full.0 in
    let not_zero : ((length (first.bytes ++ all_bytes done) + n) == 0) ≡ false = rw whole (grind (arith, nat_tests)) in
    let rest : (length (first.bytes ++ all_bytes done) + n) - length first.bytes ≡ length (all_bytes done) + n = omega (arith, whole) in
    let more : begun_within (done ++ message ∷ left) (length (all_bytes done) + n) ≡ length done + 1 = begun_after done message left n full.1 some fits in
    rw (not_zero, rest, more) (omega arith)

-- a message in its turn
pub record IsTurn (messages done : List Message) (message : Message) (left : List Message) : Type 0 where
  pub split : messages ≡ done ++ message ∷ left
  pub done_full : AreFull done
  pub full : IsFull message
  pub left_full : AreFull left

-- what is asked once a part of the message in hand is sent
asked_in_hand : (messages done : List Message) (message : Message) (left : List Message) (part : List ℕ) → IsTurn messages done message left → length part ≤ length message.bytes → asked_by messages (all_bytes done ++ part) ≡ map (λ m. m.kind) done ++ kinds_within (message ∷ []) (length part)
asked_in_hand messages done message left part turn fits =
    ap (λ ms. kinds_within ms (length (all_bytes done ++ part))) turn.split
    ∙ ap (λ n. kinds_within (done ++ message ∷ left) n) (length-append (all_bytes done) part)
    ∙ kinds_after done (message ∷ left) (length part)
    ∙ ap (λ ks. map (λ m. m.kind) done ++ ks) (kinds_in_hand message left (length part) turn.left_full fits)

-- where a dialog stands while a message is sent
pub record IsSending (messages done : List Message) (message : Message) (patience : ℕ) (replies : List Reply) (part : List ℕ) (events : List LinkEvent) : Type 0 where
  pub each : EachEvent (Follows messages patience) [] events
  pub listening : IsListening patience (asked_by messages) (fine events) (state_of replies (kinds_within (message ∷ []) (length part)) [])
  pub sent : sent events ≡ all_bytes done ++ part

fine_sent : (events : List LinkEvent) (link : ℕ) (piece : List ℕ) → fine (events ++ Sent link piece ∷ []) ≡ fine events ++ Sent link piece ∷ []
fine_sent events link piece = fine-append events (Sent link piece ∷ [])

send_piece : (messages done : List Message) (message : Message) (left : List Message) (patience link : ℕ) (replies : List Reply) (part piece : List ℕ) (events : List LinkEvent) → 0 < patience → IsTurn messages done message left → length replies ≡ length done + 1 → 0 < length piece → length part + length piece ≤ length message.bytes → IsSending messages done message patience replies part events → IsSending messages done message patience replies (part ++ piece) (events ++ Sent link piece ∷ [])
send_piece messages done message left patience link replies part piece events patient turn count some fits s =
    let long : length (part ++ piece) ≡ length part + length piece = length-append part piece in
    let before : sent (fine events) ≡ all_bytes done ++ part = sent-fine events ∙ s.sent in
    let none : kinds_within (message ∷ []) (length part) ≡ [] = kinds_part message (length part) (omega arith) in
    let P : List Awaited → Type 0 = λ ks. IsListening patience (asked_by messages) (fine events) (state_of replies ks []) in
    let listening : IsListening patience (asked_by messages) (fine events) (state_of replies [] []) = subst P none s.listening in
    let asked_before : asked_by messages (sent (fine events)) ≡ map (λ m. m.kind) done =
    ap (asked_by messages) before ∙ asked_in_hand messages done message left part turn (omega arith) ∙ ap (λ ks. map (λ m. m.kind) done ++ ks) none ∙ append-nil (map (λ m. m.kind) done) in
    let asked_after : asked_by messages (sent (fine events) ++ piece) ≡ asked_by messages (sent (fine events)) ++ kinds_within (message ∷ []) (length (part ++ piece)) =
    ap (λ t. asked_by messages (t ++ piece)) before ∙ ap (asked_by messages) (append_assoc (all_bytes done) part piece)
    ∙ asked_in_hand messages done message left (part ++ piece) turn (omega (arith, long))
    ∙ ap (λ ks. ks ++ kinds_within (message ∷ []) (length (part ++ piece))) (sym asked_before) in
    let Q : List LinkEvent → Type 0 = λ m. IsListening patience (asked_by messages) m (state_of replies (kinds_within (message ∷ []) (length (part ++ piece))) []) in
    let length_before : length (sent (fine events)) ≡ length (all_bytes done) + length part = ap length before ∙ length-append (all_bytes done) part in
    let begun : begun_within messages (length (sent (fine events)) + length piece) ≡ length done + 1 =
    ap (λ n. begun_within messages n) (omega (arith, length_before))
    ∙ ap (λ ms. begun_within ms (length (all_bytes done) + (length part + length piece))) turn.split
    ∙ begun_after done message left (length part + length piece) turn.done_full (omega arith) fits in
    let heard : (reading_at (asked_by messages) (fine events)).replies ≡ replies = ap (λ (r : RepliesRead Awaited Reply). r.replies) listening.reading in
    let in_turn : begun_within messages (length (sent (fine events)) + length piece) ≤ length (reading_at (asked_by messages) (fine events)).replies = rw (begun, heard, count) (omega arith) in
    record {
      each = each_more (Follows messages patience) [] events (Sent link piece) s.each record {
        not_over = ap (λ m. why_at patience (asked_by messages) m) listening.lived ∙ listening.not_over;
        in_turn = in_turn;
      };
      listening = subst Q (sym (fine_sent events link piece)) (send_more patience (asked_by messages) (fine events) link piece replies (kinds_within (message ∷ []) (length (part ++ piece))) patient listening asked_after);
      sent = sent-append events (Sent link piece ∷ []) ∙ ap (λ t. t ++ sent (Sent link piece ∷ [])) s.sent ∙ ap (λ t. (all_bytes done ++ part) ++ t) (append-nil piece) ∙ append_assoc (all_bytes done) part piece;
    }

-- all pieces
pub send_pieces : (messages done : List Message) (message : Message) (left : List Message) (patience link : ℕ) (replies : List Reply) (part : List ℕ) (pieces : List (List ℕ)) (events : List LinkEvent) → 0 < patience → IsTurn messages done message left → length replies ≡ length done + 1 → ArePieces pieces → length part + length (concat pieces) ≤ length message.bytes → IsSending messages done message patience replies part events → IsSending messages done message patience replies (part ++ concat pieces) (events ++ sends link pieces)
send_pieces messages done message left patience link replies part [] events patient turn count full fits s =
    let P : List ℕ → Type 0 = λ p. IsSending messages done message patience replies p (events ++ []) in
    let Q : List LinkEvent → Type 0 = λ t. IsSending messages done message patience replies part t in
    subst P (sym (append-nil part)) (subst Q (sym (append-nil events)) s)
send_pieces messages done message left patience link replies part (piece ∷ pieces) events patient turn count full fits s =
    let long : length (piece ++ concat pieces) ≡ length piece + length (concat pieces) = length-append piece (concat pieces) in
    let longer : length (part ++ piece) ≡ length part + length piece = length-append part piece in
    let P : List ℕ → Type 0 = λ p. IsSending messages done message patience replies p (events ++ Sent link piece ∷ sends link pieces) in
    let Q : List LinkEvent → Type 0 = λ t. IsSending messages done message patience replies ((part ++ piece) ++ concat pieces) t in
    subst P (append_assoc part piece (concat pieces)) (subst Q (append_assoc events (Sent link piece ∷ []) (sends link pieces))
    (send_pieces messages done message left patience link replies (part ++ piece) pieces (events ++ Sent link piece ∷ []) patient turn count full.1 (omega (arith, long, longer))
    (send_piece messages done message left patience link replies part piece events patient turn count full.0 (omega (arith, long)) s)))

fine_sends : (link : ℕ) (pieces : List (List ℕ)) → fine (sends link pieces) ≡ sends link pieces
fine_sends link [] = refl
fine_sends link (piece ∷ pieces) = ap (λ t. Sent link piece ∷ t) (fine_sends link pieces)

not_quiet : (link : ℕ) (pieces : List (List ℕ)) → quiet_after 0 (sends link pieces) ≡ 0
not_quiet link [] = refl
not_quiet link (piece ∷ pieces) = not_quiet link pieces

-- after a send no quiet receive stands last
pub not_quiet_after : (events : List LinkEvent) (link : ℕ) (pieces : List (List ℕ)) → 0 < length (concat pieces) → quiets_at_end (fine (events ++ sends link pieces)) ≡ 0
not_quiet_after events link [] some = absurd (omega arith)
not_quiet_after events link (piece ∷ pieces) some =
    ap (λ m. quiets_at_end m) (fine-append events (sends link (piece ∷ pieces)))
    ∙ quiet_after-append 0 (fine events) (fine (sends link (piece ∷ pieces)))
    ∙ ap (λ m. quiet_after (quiets_at_end (fine events)) m) (fine_sends link (piece ∷ pieces))
    ∙ not_quiet link pieces
