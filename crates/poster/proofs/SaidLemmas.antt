-- The messages of a post, and its outcomes, with one part more.
use Rattle.std.proofs.Common.{◌≡◌, ◌≢◌, ◌<◌, ◌+◌, ◌-◌, ◌*◌, ◌≤◌, ◌==◌, ℕ, suc, zero, true, false, List, [], ◌∷◌, ◌++◌, Option, Some, None, refl, ap, sym, subst, ◌∙◌, length, set, drop, arith, lit<, lit≤, inl, inr}
use Rattle.std.specs.Prelude.{All}
use Rattle.std.proofs.lemmas.Bool.{cases_eq, eq-eqb, ne_eqb}
use Rattle.std.proofs.lemmas.List.{length-append, map-append}
use Rattle.std.proofs.lemmas.List.Concat.{flat_map-append}
use Rattle.std.proofs.lemmas.List.Elements.{All-cons, All-nil}
use Rattle.dot_blocks.specs.Blocks.{stuffed, stuffed_line}
use Rattle.link_dialog.specs.Dialog.{AreFull, all_bytes}
use Rattle.link_dialog.specs.Replies.{Reply}
use Rattle.link_dialog.proofs.Standing.{bytes-append}
use Rattle.poster.specs.Article.{lines_of}
use Rattle.poster.specs.Said.{Made, IsMade, AreMade, blocks_of, post_message, part_messages, messages_of, NoneEmpty, post_length, article_end, ends_of, refusal_in, outcomes_of}
use Rattle.poster.specs.declared.index.PartEnd.{PartEnd}
use Rattle.poster.specs.declared.index.PartEnd.TheVariants.{NotSent}
use Rattle.poster.specs.declared.index.Sent.{Sent}
use Rattle.poster.specs.declared.settings.Settings.{Settings}
use Rattle.limits.specs.declared.TheConstants.{MOST_OCTETS}

-- ---- articles

stuffed_some : (lines : List (List ℕ)) → 0 < length (stuffed lines)
stuffed_some [] = lit< tt
stuffed_some (line ∷ lines) = omega (arith, length-append (stuffed_line line) (13 ∷ 10 ∷ stuffed lines))

-- no block is empty
pub made_some : (s : Settings) (size : ℕ) (content : Option (List ℕ)) (part : ℕ) (made : Made) → IsMade s size content part made → 0 < length made.block
made_some s size content part made m =
    let P : List ℕ → Type 0 = λ b. 0 < length b in
    subst P (sym m.block_is) (stuffed_some (lines_of m.article))

pub mades_some : (s : Settings) (size : ℕ) (content : Option (List ℕ)) (part : ℕ) (mades : List Made) → AreMade s size content part mades → NoneEmpty (blocks_of mades)
mades_some s size content part [] are = tt
mades_some s size content part (made ∷ mades) are = (made_some s size content part made are.0, mades_some s size content (part + 1) mades are.1)

pub made_more : (s : Settings) (size : ℕ) (content : Option (List ℕ)) (part next : ℕ) (mades : List Made) (made : Made) → next ≡ part + length mades → AreMade s size content part mades → IsMade s size content next made → AreMade s size content part (mades ++ made ∷ [])
made_more s size content part next [] made is are m =
    let at : next ≡ part = omega (arith, is) in
    (subst (λ n. IsMade s size content n made) at m, tt)
made_more s size content part next (first ∷ mades) made is are m =
    (are.0, made_more s size content (part + 1) next mades made (omega (arith, is)) are.1 m)

pub blocks_more : (mades : List Made) (made : Made) → blocks_of (mades ++ made ∷ []) ≡ blocks_of mades ++ made.block ∷ []
blocks_more mades made = map-append (λ (m : Made). m.block) mades (made ∷ [])

-- ---- messages

pub messages-append : (first second : List (List ℕ)) → messages_of (first ++ second) ≡ messages_of first ++ messages_of second
messages-append first second = flat_map-append part_messages first second

pub messages_full : (blocks : List (List ℕ)) → NoneEmpty blocks → AreFull (messages_of blocks)
messages_full [] some = tt
messages_full (block ∷ blocks) some = (lit< tt, (some.0, messages_full blocks some.1))

pub count_of_messages : (blocks : List (List ℕ)) → length (messages_of blocks) ≡ 2 * length blocks
count_of_messages [] = refl
count_of_messages (block ∷ blocks) = let more : length (messages_of blocks) ≡ 2 * length blocks = count_of_messages blocks in omega arith

-- how many bytes POST and an article have, and those of the parts behind it
pub bytes_of_part : (block : List ℕ) (blocks : List (List ℕ)) → length (all_bytes (messages_of (block ∷ blocks))) ≡ post_length + length block + length (all_bytes (messages_of blocks))
bytes_of_part block blocks =
    let later : List ℕ = all_bytes (messages_of blocks) in
    let one : length (post_message.bytes ++ (block ++ later)) ≡ length post_message.bytes + length (block ++ later) = length-append post_message.bytes (block ++ later) in
    let two : length (block ++ later) ≡ length block + length later = length-append block later in
    one ∙ omega (arith, two)

pub bytes_of_last : (blocks : List (List ℕ)) (block : List ℕ) → length (all_bytes (messages_of (blocks ++ block ∷ []))) ≡ length (all_bytes (messages_of blocks)) + (post_length + length block)
bytes_of_last blocks block =
    let last : length (all_bytes (messages_of (block ∷ []))) ≡ post_length + length block + 0 = bytes_of_part block [] in
    ap (λ ms. length (all_bytes ms)) (messages-append blocks (block ∷ [])) ∙ ap length (bytes-append (messages_of blocks) (messages_of (block ∷ [])))
    ∙ length-append (all_bytes (messages_of blocks)) (all_bytes (messages_of (block ∷ []))) ∙ omega (arith, last)

-- ---- outcomes

-- each part that has its two replies, whatever number of bytes went out, and then the parts behind them
pub ends-append : (answers more : List Reply) (out any : ℕ) (blocks later : List (List ℕ)) → length answers ≡ 2 * length blocks →
    ends_of (answers ++ more) out (blocks ++ later) ≡ ends_of answers any blocks ++ ends_of more (out - length (all_bytes (messages_of blocks))) later
ends-append [] more out any [] later count = ap (λ n. ends_of more n later) (let e : out ≡ out - 0 = omega arith in e)
ends-append [] more out any (block ∷ blocks) later count = absurd (omega (arith, count))
ends-append (reply ∷ []) more out any [] later count = absurd (omega (arith, count))
ends-append (reply ∷ []) more out any (block ∷ blocks) later count = absurd (omega (arith, count))
ends-append (reply ∷ answer ∷ answers) more out any [] later count = absurd (omega (arith, count))
ends-append (reply ∷ answer ∷ answers) more out any (block ∷ blocks) later count =
    let rest : ℕ = length (all_bytes (messages_of blocks)) in
    let whole : length (all_bytes (messages_of (block ∷ blocks))) ≡ post_length + length block + rest = bytes_of_part block blocks in
    let left : out - post_length - length block - rest ≡ out - length (all_bytes (messages_of (block ∷ blocks))) = omega (arith, whole) in
    ap (λ (ends : List PartEnd). article_end answer.code ∷ ends)
    (ends-append answers more (out - post_length - length block) (any - post_length - length block) blocks later (omega (arith, count))
    ∙ ap (λ n. ends_of answers (any - post_length - length block) blocks ++ ends_of more n later) left)

pub count_of_ends : (answers : List Reply) (out : ℕ) (blocks : List (List ℕ)) → length (ends_of answers out blocks) ≡ length blocks
count_of_ends answers out [] = refl
count_of_ends answers out (block ∷ blocks) = ap suc (count_of_ends (drop 2 answers) (out - post_length - length block) blocks)

-- where POST was permitted each time, only the replies behind them can refuse it
pub refusal-append : (answers more : List Reply) (n : ℕ) → length answers ≡ 2 * n → refusal_in answers ≡ None → refusal_in (answers ++ more) ≡ refusal_in more
refusal-append [] more n count none = refl
refusal-append (reply ∷ []) more n count none = absurd (omega (arith, count))
refusal-append (reply ∷ answer ∷ answers) more zero count none = absurd (omega (arith, count))
refusal-append (reply ∷ answer ∷ answers) more (suc n) count none =
    elim (cases_eq reply.code 340) [
      | inl is ↦ (let e : (reply.code == 340) ≡ true = eq-eqb reply.code 340 is in
          let left : refusal_in answers ≡ None = rw e at none in
          rw e (refusal-append answers more n (omega (arith, count)) left))
      | inr not ↦ (let e : (reply.code == 340) ≡ false = ne_eqb reply.code 340 not in
          let some : Some reply.code ≡ None = rw e at none in cc)
    ]

pub no_refusal : (permit : Reply) (answers : List Reply) → permit.code ≡ 340 → length answers ≤ 1 → refusal_in (permit ∷ answers) ≡ None
no_refusal permit [] is few = let e : (permit.code == 340) ≡ true = eq-eqb permit.code 340 is in rw e refl
no_refusal permit (answer ∷ []) is few = let e : (permit.code == 340) ≡ true = eq-eqb permit.code 340 is in rw e refl
no_refusal permit (answer ∷ other ∷ answers) is few = absurd (omega (arith, few))

pub a_refusal : (reply : Reply) → reply.code ≢ 340 → refusal_in (reply ∷ []) ≡ Some reply.code
a_refusal reply not = let e : (reply.code == 340) ≡ false = ne_eqb reply.code 340 not in rw e refl

-- the outcome of the next part is set in its place
pub outcomes_more : (n : ℕ) (ends : List PartEnd) (mades : List Made) (end : PartEnd) (made : Made) → length ends ≡ length mades → length mades < n →
    set (outcomes_of n ends mades) (length mades) (record { end = end; bytes = made.octets }) ≡ outcomes_of n (ends ++ end ∷ []) (mades ++ made ∷ [])
outcomes_more zero ends mades end made same less = absurd (omega (arith, less))
outcomes_more (suc n) [] [] end made same less = refl
outcomes_more (suc n) [] (first ∷ mades) end made same less = absurd (omega (arith, same))
outcomes_more (suc n) (known ∷ ends) [] end made same less = absurd (omega (arith, same))
outcomes_more (suc n) (known ∷ ends) (first ∷ mades) end made same less =
    ap (λ (l : List Sent). record { end = known; bytes = first.octets } ∷ l) (outcomes_more n ends mades end made (omega (arith, same)) (omega (arith, less)))

pub count_of_outcomes : (n : ℕ) (ends : List PartEnd) (mades : List Made) → length (outcomes_of n ends mades) ≡ n
count_of_outcomes zero ends mades = refl
count_of_outcomes (suc n) [] mades = ap suc (count_of_outcomes n [] [])
count_of_outcomes (suc n) (end ∷ ends) [] = ap suc (count_of_outcomes n [] [])
count_of_outcomes (suc n) (end ∷ ends) (made ∷ mades) = ap suc (count_of_outcomes n ends mades)

-- one more part of which nothing was sent
pub outcomes_none : (n : ℕ) → outcomes_of n [] [] ++ record { end = NotSent; bytes = 0 } ∷ [] ≡ outcomes_of (n + 1) [] []
outcomes_none zero = refl
outcomes_none (suc n) = ap (λ (l : List Sent). record { end = NotSent; bytes = 0 } ∷ l) (outcomes_none n) ∙ ap (λ m. outcomes_of m [] []) (let e : suc (n + 1) ≡ suc n + 1 = omega arith in e)

abbrev pub FewOctets : Sent → Type 0
FewOctets sent = sent.bytes ≤ MOST_OCTETS

-- no outcome has more octets than an index may tell
pub outcomes_short : (n : ℕ) (ends : List PartEnd) (mades : List Made) (s : Settings) (size : ℕ) (content : Option (List ℕ)) (part : ℕ) → AreMade s size content part mades → All FewOctets (outcomes_of n ends mades)
outcomes_short zero ends mades s size content part are = All-nil FewOctets
outcomes_short (suc n) [] mades s size content part are =
    All-cons FewOctets (record { end = NotSent; bytes = 0 }) (outcomes_of n [] []) (lit≤ tt) (outcomes_short n [] [] s size content part tt)
outcomes_short (suc n) (end ∷ ends) [] s size content part are =
    All-cons FewOctets (record { end = NotSent; bytes = 0 }) (outcomes_of n [] []) (lit≤ tt) (outcomes_short n [] [] s size content part tt)
outcomes_short (suc n) (end ∷ ends) (made ∷ mades) s size content part are =
    All-cons FewOctets (record { end = end; bytes = made.octets }) (outcomes_of n ends mades) are.0.octets_most (outcomes_short n ends mades s size content (part + 1) are.1)
