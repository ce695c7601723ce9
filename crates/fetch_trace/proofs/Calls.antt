-- Each event moves the state of the segments as one call of the core does.
use Rattle.std.proofs.Common.{◌≡◌, ◌≤◌, ◌+◌, ℕ, Bool, true, false, not, ◌||◌, List, [], ◌∷◌, ◌++◌, Option, Some, None, length, refl, ap, sym, ◌∙◌, arith, length-append}
use Rattle.std.specs.Prelude.{slice_get, cond, is_some, nat_le}
use Rattle.std.proofs.lemmas.Bool.Decides.{nat_tests}
use Rattle.nntp_lines.specs.declared.why.Why.{Why}
use Rattle.nntp_lines.specs.declared.login.Login.{Login}
use Rattle.link_dialog.specs.Replies.{Reply, why_of_rest}
use Rattle.lists.specs.Edit.{edit_at}
use Rattle.range_assembler.specs.declared.assembler.Clash.{Clash}
use Rattle.range_assembler.specs.Entries.{least_clash, kept_size}
use Rattle.range_assembler.specs.Claims.{file_at}
use Rattle.fetch_trace.specs.Setting.{Setting}
use Rattle.fetch_trace.specs.Hearing.{Hearing, after_quiet, after_end, read_as, whole_by, opening_length, is_greeted}
use Rattle.fetch_trace.specs.Verdicts.{Range, range_of, verdict_of}
use Rattle.fetch_trace.specs.LinkNow.{LinkNow, Asking, is_over, is_ready, waiting_of, with_hearing, with_asking}
use Rattle.fetch_trace.specs.Standing.{Standing, pipeline_of, with_link}
use Rattle.fetch_trace.specs.Due.{Due, due_on}
use Rattle.fetch_trace.specs.Moving.{begins, says, sends, loses, answers, claims_by, claims, goes_on, replies_by, hears_byte, is_quiet, is_lost}
use Rattle.fetch_trace.specs.Calls.{after_call, answer_call, reply_call, byte_call, segment_call, due_call, begun_call, sent_call, quiet_call, end_call}
use Rattle.fetch_trace.specs.Calls.Call.{Nothing, Greets, Loses}
use Rattle.fetch_trace.proofs.Lists.{first-behind}
use Rattle.fetch_trace.proofs.Follows.{follows_nothing, follows_begun, follows_over, follows_greeting, follows_reply}

-- ---- a link that isn't over

right_false : (a b : Bool) → (a || b) ≡ false → b ≡ false
right_false true b is = cc
right_false false b is = is

-- it was opened
pub opened : (l : LinkNow) → is_over l ≡ false → not (is_some l.opening.number) ≡ false
opened l live = right_false (is_some l.hearing.over) (not (is_some l.opening.number)) live

le_grows : (n m k : ℕ) → nat_le n m ≡ true → nat_le n (m + k) ≡ true
le_grows n m k is = grind (arith, nat_tests)

longer : (n : ℕ) (replies : List Reply) (reply : Reply) → nat_le n (length replies) ≡ true → nat_le n (length (replies ++ reply ∷ [])) ≡ true
longer n replies reply is = ap (λ m. nat_le n m) (length-append replies (reply ∷ [])) ∙ le_grows n (length replies) 1 is

-- once the opening is whole it stays so
pub ready_stays : (login : Option Login) (replies : List Reply) (reply : Reply) → is_greeted login replies ≡ true → is_greeted login (replies ++ reply ∷ []) ≡ true
ready_stays None replies reply is = longer 1 replies reply is
ready_stays (Some login) [] reply is = absurd (grind (arith, nat_tests))
ready_stays (Some login) (greeting ∷ []) reply is = absurd (grind (arith, nat_tests))
ready_stays (Some login) (greeting ∷ answer ∷ replies) reply is = longer (opening_length (Some login) (greeting ∷ answer ∷ replies)) (greeting ∷ answer ∷ replies) reply is

-- ---- a change that the core doesn't see

-- what was heard changes, and the link is greeted and over as before
pub unseen : (setting : Setting) (s : Standing) (i : ℕ) (l : LinkNow) (hearing : Hearing) (asking : Asking) → slice_get s.links i ≡ Some l → is_over l ≡ false → hearing.over ≡ None → is_greeted l.opening.login hearing.replies ≡ is_ready l → asking.commands ≡ l.asking.commands → asking.verdicts ≡ l.asking.verdicts → pipeline_of setting (edit_at i (λ old. with_asking hearing asking l) s.links) ≡ pipeline_of setting s.links
unseen setting s i l hearing asking is live over ready commands verdicts =
    let still : is_over (with_asking hearing asking l) ≡ is_over l = rw (over, live) (opened l live) in
    follows_nothing setting s.links i l (with_asking hearing asking l) is (rw (still, ready, commands, verdicts) refl) refl (λ test segment. rw (commands, verdicts) refl)

pub heard_unseen : (setting : Setting) (s : Standing) (i : ℕ) (l : LinkNow) (hearing : Hearing) → slice_get s.links i ≡ Some l → is_over l ≡ false → hearing.over ≡ None → is_greeted l.opening.login hearing.replies ≡ is_ready l → pipeline_of setting (with_link i (with_hearing hearing l) s).links ≡ pipeline_of setting s.links
heard_unseen setting s i l hearing is live over ready = unseen setting s i l hearing l.asking is live over ready refl refl

-- ---- the link is over

lost : (setting : Setting) (s : Standing) (i : ℕ) (l : LinkNow) (hearing : Hearing) (why : Why) → slice_get s.links i ≡ Some l → hearing.over ≡ Some why → hearing.replies ≡ l.hearing.replies → pipeline_of setting (loses hearing i l s).links ≡ after_call Loses i (pipeline_of setting s.links)
lost setting s i l hearing why is over replies =
    let ends : is_over (with_hearing hearing l) ≡ true = rw over refl in
    follows_over setting s.links i l (with_hearing hearing l) is ends (ap (λ rs. is_greeted l.opening.login rs) replies) refl (λ test segment. refl)

-- ---- a byte

claims_by_unseen : (setting : Setting) (s : Standing) (i : ℕ) (l : LinkNow) (hearing : Hearing) (segment : ℕ) (range : Range) (clash : Option Clash) → slice_get s.links i ≡ Some l → is_over l ≡ false → hearing.over ≡ None → is_greeted l.opening.login hearing.replies ≡ is_ready l → pipeline_of setting (claims_by hearing segment range clash i l s).links ≡ pipeline_of setting s.links
claims_by_unseen setting s i l hearing segment range None is live over ready = heard_unseen setting s i l hearing is live over ready
claims_by_unseen setting s i l hearing segment range (Some clash) is live over ready =
    unseen setting s i l hearing (record { commands = l.asking.commands; verdicts = l.asking.verdicts; against = Some clash }) is live over ready refl refl

claims_unseen : (setting : Setting) (s : Standing) (i : ℕ) (l : LinkNow) (hearing : Hearing) (before now : Option Range) (waiting : List ℕ) → slice_get s.links i ≡ Some l → is_over l ≡ false → hearing.over ≡ None → is_greeted l.opening.login hearing.replies ≡ is_ready l → pipeline_of setting (claims hearing before now waiting i l s).links ≡ pipeline_of setting s.links
claims_unseen setting s i l hearing None (Some range) (segment ∷ waiting) is live over ready =
    claims_by_unseen setting s i l hearing segment range (least_clash 0 (file_at s.entries segment) range.first range.last s.entries) is live over ready
claims_unseen setting s i l hearing None (Some range) [] is live over ready = heard_unseen setting s i l hearing is live over ready
claims_unseen setting s i l hearing None None waiting is live over ready = heard_unseen setting s i l hearing is live over ready
claims_unseen setting s i l hearing (Some range) now waiting is live over ready = heard_unseen setting s i l hearing is live over ready

goes_on_unseen : (setting : Setting) (s : Standing) (i : ℕ) (l : LinkNow) (hearing : Hearing) (b : Bool) → slice_get s.links i ≡ Some l → is_over l ≡ false → hearing.over ≡ None → is_greeted l.opening.login hearing.replies ≡ is_ready l → pipeline_of setting (goes_on hearing b i l s).links ≡ pipeline_of setting s.links
goes_on_unseen setting s i l hearing true is live over ready = claims_unseen setting s i l hearing (range_of l.hearing.rest) (range_of hearing.rest) (waiting_of l.asking) is live over ready
goes_on_unseen setting s i l hearing false is live over ready = heard_unseen setting s i l hearing is live over ready

-- no reply is whole: the link is over, or goes on
none_follows : (setting : Setting) (s : Standing) (i : ℕ) (l : LinkNow) (hearing : Hearing) (b : Bool) (o : Option Why) → slice_get s.links i ≡ Some l → is_over l ≡ false → hearing.over ≡ o → hearing.replies ≡ l.hearing.replies → pipeline_of setting (replies_by hearing None b i l s).links ≡ after_call (reply_call None hearing b l s) i (pipeline_of setting s.links)
none_follows setting s i l hearing b None is live over replies =
    let test : is_some hearing.over ≡ false = ap (λ (o : Option Why). is_some o) over in
    rw test (goes_on_unseen setting s i l hearing b is live over (ap (λ rs. is_greeted l.opening.login rs) replies))
none_follows setting s i l hearing b (Some why) is live over replies =
    let test : is_some hearing.over ≡ true = ap (λ (o : Option Why). is_some o) over in
    rw test (lost setting s i l hearing why is over replies)

-- a reply of the opening is whole
greeting_follows : (setting : Setting) (s : Standing) (i : ℕ) (l : LinkNow) (hearing : Hearing) (b : Bool) → slice_get s.links i ≡ Some l → is_over l ≡ false → hearing.over ≡ None → is_ready l ≡ false → is_greeted l.opening.login hearing.replies ≡ b → pipeline_of setting (with_link i (with_hearing hearing l) s).links ≡ after_call (cond b Greets Nothing) i (pipeline_of setting s.links)
greeting_follows setting s i l hearing true is live over unready ready =
    let still : is_over (with_hearing hearing l) ≡ is_over l = rw (over, live) (opened l live) in
    follows_greeting setting s.links i l (with_hearing hearing l) is still ready refl refl (λ test segment. refl)
greeting_follows setting s i l hearing false is live over unready ready = heard_unseen setting s i l hearing is live over (ready ∙ sym unready)

-- an answer is whole
answer_follows : (setting : Setting) (s : Standing) (i : ℕ) (l : LinkNow) (hearing : Hearing) (reply : Reply) (waiting : List ℕ) → slice_get s.links i ≡ Some l → is_over l ≡ false → hearing.over ≡ None → is_greeted l.opening.login hearing.replies ≡ is_ready l → waiting_of l.asking ≡ waiting → pipeline_of setting (answers hearing reply waiting i l s).links ≡ after_call (answer_call reply waiting l s) i (pipeline_of setting s.links)
answer_follows setting s i l hearing reply [] is live over ready oldest = heard_unseen setting s i l hearing is live over ready
answer_follows setting s i l hearing reply (segment ∷ waiting) is live over ready oldest =
    let verdict = verdict_of l.asking.against (kept_size (file_at s.entries segment) s.entries) reply in
    let now = with_asking hearing (record { commands = l.asking.commands; verdicts = l.asking.verdicts ++ verdict ∷ []; against = None }) l in
    let still : is_over now ≡ false = rw over (opened l live) in
    follows_reply setting s.links i segment verdict l now is live still ready refl refl refl (first-behind (length l.asking.verdicts) l.asking.commands segment waiting oldest)

reads_follow : (setting : Setting) (s : Standing) (i : ℕ) (l : LinkNow) (whole : Option Reply) (rest : List ℕ) (b : Bool) → slice_get s.links i ≡ Some l → is_over l ≡ false → is_ready l ≡ b → pipeline_of setting (replies_by (read_as whole rest l.hearing) whole b i l s).links ≡ after_call (reply_call whole (read_as whole rest l.hearing) b l s) i (pipeline_of setting s.links)
reads_follow setting s i l None rest b is live ready = none_follows setting s i l (read_as None rest l.hearing) b (why_of_rest l.hearing.waiting rest) is live refl refl
reads_follow setting s i l (Some reply) rest true is live ready =
    answer_follows setting s i l (read_as (Some reply) rest l.hearing) reply (waiting_of l.asking) is live refl (ready_stays l.opening.login l.hearing.replies reply ready ∙ sym ready) refl
reads_follow setting s i l (Some reply) rest false is live ready =
    greeting_follows setting s i l (read_as (Some reply) rest l.hearing) (is_greeted l.opening.login (l.hearing.replies ++ reply ∷ [])) is live refl ready refl

pub byte_follows : (setting : Setting) (s : Standing) (i byte : ℕ) (l : LinkNow) (b : Bool) → slice_get s.links i ≡ Some l → is_over l ≡ b → pipeline_of setting (hears_byte byte i l s).links ≡ after_call (byte_call byte l s) i (pipeline_of setting s.links)
byte_follows setting s i byte l true is over = rw over refl
byte_follows setting s i byte l false is live =
    rw live (reads_follow setting s i l (whole_by l.hearing.waiting (l.hearing.rest ++ byte ∷ [])) (l.hearing.rest ++ byte ∷ []) (is_ready l) is live refl)

-- ---- a receive that finds nothing, and the link's end

quiet_moves : (setting : Setting) (s : Standing) (i : ℕ) (l : LinkNow) (hearing : Hearing) (o : Option Why) → slice_get s.links i ≡ Some l → is_over l ≡ false → hearing.over ≡ o → hearing.replies ≡ l.hearing.replies → pipeline_of setting (cond (is_some hearing.over) (loses hearing i l s) (with_link i (with_hearing hearing l) s)).links ≡ after_call (cond (is_some hearing.over) Loses Nothing) i (pipeline_of setting s.links)
quiet_moves setting s i l hearing None is live over replies =
    let test : is_some hearing.over ≡ false = ap (λ (o : Option Why). is_some o) over in
    rw test (heard_unseen setting s i l hearing is live over (ap (λ rs. is_greeted l.opening.login rs) replies))
quiet_moves setting s i l hearing (Some why) is live over replies =
    let test : is_some hearing.over ≡ true = ap (λ (o : Option Why). is_some o) over in
    rw test (lost setting s i l hearing why is over replies)

pub quiet_follows : (setting : Setting) (s : Standing) (i : ℕ) (l : LinkNow) (b : Bool) → slice_get s.links i ≡ Some l → is_over l ≡ b → pipeline_of setting (is_quiet setting.patience i l s).links ≡ after_call (quiet_call setting.patience l) i (pipeline_of setting s.links)
quiet_follows setting s i l true is over = rw over refl
quiet_follows setting s i l false is live = rw live (quiet_moves setting s i l (after_quiet setting.patience l.hearing) (after_quiet setting.patience l.hearing).over is live refl refl)

pub end_follows : (setting : Setting) (s : Standing) (i : ℕ) (l : LinkNow) (b : Bool) → slice_get s.links i ≡ Some l → is_over l ≡ b → pipeline_of setting (is_lost i l s).links ≡ after_call (end_call l) i (pipeline_of setting s.links)
end_follows setting s i l true is over = rw over refl
end_follows setting s i l false is live = rw live (follows_over setting s.links i l (with_hearing (after_end l.hearing) l) is refl refl refl (λ test segment. refl))

-- ---- a piece that is sent

said_unseen : (setting : Setting) (s : Standing) (i : ℕ) (l now : LinkNow) → slice_get s.links i ≡ Some l → is_over l ≡ false → now.opening ≡ l.opening → now.hearing.over ≡ None → now.hearing.replies ≡ l.hearing.replies → now.asking ≡ l.asking → pipeline_of setting (with_link i now s).links ≡ pipeline_of setting s.links
said_unseen setting s i l now is live opening over replies asking =
    let still : is_over now ≡ is_over l = rw (over, opening, live) (opened l live) in
    let ready : is_ready now ≡ is_ready l = rw (opening, replies) refl in
    follows_nothing setting s.links i l now is (rw (still, ready, opening, asking) refl) (rw opening refl) (λ test segment. rw asking refl)

due_follows : (setting : Setting) (s : Standing) (i : ℕ) (l : LinkNow) (bytes : List ℕ) (due : Due) (segment : Option ℕ) → slice_get s.links i ≡ Some l → is_over l ≡ false → length l.asking.verdicts ≤ length l.asking.commands → due.segment ≡ segment → pipeline_of setting (with_link i (begins bytes (Some due) l) s).links ≡ after_call (segment_call segment) i (pipeline_of setting s.links)
due_follows setting s i l bytes due None is live few none =
    said_unseen setting s i l (begins bytes (Some due) l) is live refl refl refl (rw none refl)
due_follows setting s i l bytes due (Some segment) is live few some =
    let still : is_over (begins bytes (Some due) l) ≡ false = opened l live in
    follows_begun setting s.links i segment l (begins bytes (Some due) l) is live still refl refl (rw some refl) (rw some refl) few

begun_follows : (setting : Setting) (s : Standing) (i : ℕ) (l : LinkNow) (bytes : List ℕ) (due : Option Due) → slice_get s.links i ≡ Some l → is_over l ≡ false → length l.asking.verdicts ≤ length l.asking.commands → pipeline_of setting (with_link i (begins bytes due l) s).links ≡ after_call (due_call due) i (pipeline_of setting s.links)
begun_follows setting s i l bytes None is live few = follows_nothing setting s.links i l l is refl refl (λ test segment. refl)
begun_follows setting s i l bytes (Some due) is live few = due_follows setting s i l bytes due due.segment is live few refl

says_follow : (setting : Setting) (s : Standing) (i : ℕ) (l : LinkNow) (bytes unsent : List ℕ) → slice_get s.links i ≡ Some l → is_over l ≡ false → length l.asking.verdicts ≤ length l.asking.commands → pipeline_of setting (with_link i (says setting bytes unsent i l s) s).links ≡ after_call (begun_call setting unsent i l s) i (pipeline_of setting s.links)
says_follow setting s i l bytes [] is live few = begun_follows setting s i l bytes (due_on setting (pipeline_of setting s.links) i l) is live few
says_follow setting s i l bytes (byte ∷ unsent) is live few = said_unseen setting s i l (says setting bytes (byte ∷ unsent) i l s) is live refl refl refl refl

pub sent_follows : (setting : Setting) (s : Standing) (i : ℕ) (l : LinkNow) (bytes : List ℕ) (b : Bool) → slice_get s.links i ≡ Some l → is_over l ≡ b → length l.asking.verdicts ≤ length l.asking.commands → pipeline_of setting (sends setting bytes i l s).links ≡ after_call (sent_call setting i l s) i (pipeline_of setting s.links)
sent_follows setting s i l bytes true is over few = rw over refl
sent_follows setting s i l bytes false is live few = rw live (says_follow setting s i l bytes l.saying.unsent is live few)
