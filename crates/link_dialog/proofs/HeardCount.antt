-- What the replies of a dialog say of the bytes that went out before them.
use Rattle.std.proofs.Common.{◌≡◌, ◌+◌, ◌-◌, ◌≤◌, ℕ, suc, true, false, List, [], ◌∷◌, ◌++◌, Option, ap, sym, subst, append_assoc, append-nil, length, arith, lit≤, inl, inr}
use Rattle.std.specs.Prelude.{nat_le, is_some, if◌then◌else◌}
use Rattle.std.proofs.lemmas.Bool.{cases_lt}
use Rattle.std.proofs.lemmas.Bool.Decides.{nat_tests}
use Rattle.std.proofs.lemmas.List.{length-append}
use Rattle.io_traits.specs.declared.links.LinkEvent.{LinkEvent}
use Rattle.io_traits.specs.Trace.{sent, heard}
use Rattle.nntp_lines.specs.declared.why.Why.{Why}
use Rattle.link_dialog.specs.declared.awaited.Awaited.{Awaited}
use Rattle.link_dialog.specs.declared.awaited.Awaited.TheVariants.{Greeting}
use Rattle.link_dialog.specs.Dialog.{Message, all_bytes, asked_by, kinds_within, answers_to}
use Rattle.link_dialog.specs.Events.{fine}
use Rattle.link_dialog.specs.Moments.{lived_from, last_moment, why_at}
use Rattle.link_dialog.specs.Reading.{RepliesRead, reading_of, shortest_from}
use Rattle.link_dialog.specs.Replies.{Reply, whole_reply}
use Rattle.link_dialog.proofs.EventSteps.{sent-append, sent-fine}
use Rattle.link_dialog.proofs.Readings.{by_cases, read_some, read_none}

-- ---- how many replies

-- no more replies than kinds that are awaited
few_replies : {K R : Type 0} (whole : K → List ℕ → Option R) (kinds : List K) (bytes : List ℕ) → length (reading_of whole kinds bytes).replies ≤ length kinds
few_replies whole [] bytes = lit≤ tt
few_replies {K = K} {R = R} whole (kind ∷ kinds) bytes =
    let P : RepliesRead K R → Type 0 = λ m. length m.replies ≤ length (kind ∷ kinds) in
    by_cases (shortest_from (whole kind) [] bytes)
    (λ found is. subst P (sym (read_some whole kind kinds bytes found is)) (let more : length (reading_of whole kinds found.1).replies ≤ length kinds = few_replies whole kinds found.1 in omega arith))
    (λ none. subst P (sym (read_none whole kind kinds bytes none)) (omega arith))

few_kinds : (messages : List Message) (n : ℕ) → length (kinds_within messages n) ≤ length messages
few_kinds [] n = lit≤ tt
few_kinds (message ∷ messages) n =
    let more : length (kinds_within messages (n - length message.bytes)) ≤ length messages = few_kinds messages (n - length message.bytes) in
    grind (arith, nat_tests, more)

-- messages whose kinds are within so many bytes are whole in them
whole_within : (first second : List Message) (n : ℕ) → length first ≤ length (kinds_within (first ++ second) n) → length (all_bytes first) ≤ n
whole_within [] second n many = omega arith
whole_within (message ∷ first) second n many =
    let both : length (all_bytes (message ∷ first)) ≡ length message.bytes + length (all_bytes first) = length-append message.bytes (all_bytes first) in
    elim (cases_lt n (length message.bytes)) [
      | inl less ↦ (let not : nat_le (length message.bytes) n ≡ false = grind (arith, nat_tests) in
          let none : suc (length first) ≤ 0 = rw not at many in absurd (omega (arith, none)))
      | inr le ↦ (let fits : nat_le (length message.bytes) n ≡ true = grind (arith, nat_tests) in
          let more : suc (length first) ≤ suc (length (kinds_within (first ++ second) (n - length message.bytes))) = rw fits at many in
          let later : length (all_bytes first) ≤ n - length message.bytes = whole_within first second (n - length message.bytes) (omega (arith, more)) in
          omega (arith, both, later, le))
    ]

-- what went out by the last moment that counts is a front of all that went out
front_sent : (why : List LinkEvent → Option Why) (before events : List LinkEvent) → length (sent (lived_from why before events)) ≤ length (sent (before ++ events))
front_sent why before [] = let same : length (sent (before ++ [])) ≡ length (sent before) = ap (λ m. length (sent m)) (append-nil before) in omega (arith, same)
front_sent why before (event ∷ events) =
    let P : List LinkEvent → Type 0 = λ m. length (sent m) ≤ length (sent (before ++ event ∷ events)) in
    let here : P before = omega (arith, ap length (sent-append before (event ∷ events)), length-append (sent before) (sent (event ∷ events))) in
    let later : P (lived_from why (before ++ event ∷ []) events) =
    subst (λ (m : List LinkEvent). length (sent (lived_from why (before ++ event ∷ []) events)) ≤ length (sent m)) (append_assoc before (event ∷ []) events) (front_sent why (before ++ event ∷ []) events) in
    elim (is_some (why before)) as (λ b. P (if b then before else lived_from why (before ++ event ∷ []) events)) [ true ↦ here | false ↦ later ]

sent_by_then : (patience : ℕ) (asked : List ℕ → List Awaited) (events : List LinkEvent) → length (sent (last_moment patience asked events)) ≤ length (sent events)
sent_by_then patience asked events =
    let front : length (sent (last_moment patience asked events)) ≤ length (sent (fine events)) = front_sent (why_at patience asked) [] (fine events) in
    let same : length (sent (fine events)) ≡ length (sent events) = ap length (sent-fine events) in
    omega (arith, front, same)

-- no more replies were heard than the greeting and one to each message
pub few_heard : (patience : ℕ) (messages : List Message) (events : List LinkEvent) (replies : List Reply) → answers_to patience messages events ≡ replies → length replies ≤ length messages + 1
few_heard patience messages events replies is =
    let moment : List LinkEvent = last_moment patience (asked_by messages) events in
    let n : ℕ = length (sent moment) in
    let few : length (answers_to patience messages events) ≤ suc (length (kinds_within messages n)) = few_replies whole_reply (Greeting ∷ kinds_within messages n) (heard moment) in
    let same : length (answers_to patience messages events) ≡ length replies = ap length is in
    omega (arith, few, same, few_kinds messages n)

-- messages that have their replies went out whole
pub whole_heard : (patience : ℕ) (first second : List Message) (events : List LinkEvent) (replies : List Reply) → answers_to patience (first ++ second) events ≡ replies → length first + 1 ≤ length replies → length (all_bytes first) ≤ length (sent events)
whole_heard patience first second events replies is many =
    let messages : List Message = first ++ second in
    let moment : List LinkEvent = last_moment patience (asked_by messages) events in
    let n : ℕ = length (sent moment) in
    let few : length (answers_to patience messages events) ≤ suc (length (kinds_within messages n)) = few_replies whole_reply (Greeting ∷ kinds_within messages n) (heard moment) in
    let same : length (answers_to patience messages events) ≡ length replies = ap length is in
    let by_then : n ≤ length (sent events) = sent_by_then patience (asked_by messages) events in
    let within : length (all_bytes first) ≤ n = whole_within first second n (omega (arith, few, same, many)) in
    omega (arith, within, by_then)
