-- At each moment a range stands against an unfinished article alone, and nothing is left over where nothing is awaited.
use Rattle.std.proofs.Common.{◌≡◌, ◌≤◌, zero, suc, ℕ, Bool, true, false, not, ◌||◌, List, [], ◌∷◌, ◌++◌, Option, Some, None, length, drop, map, refl, ap, sym, subst, ◌∙◌, append-nil}
use Rattle.std.specs.Prelude.{slice_get, cond, is_some}
use Rattle.nntp_lines.specs.declared.why.Why.{Why}
use Rattle.link_dialog.specs.declared.awaited.Awaited.{Awaited}
use Rattle.link_dialog.specs.Replies.{Reply, why_of_rest}
use Rattle.lists.specs.Edit.{edit_at}
use Rattle.range_assembler.specs.declared.assembler.Clash.{Clash}
use Rattle.range_assembler.specs.Entries.{least_clash, kept_size}
use Rattle.range_assembler.specs.Claims.{file_at}
use Rattle.fetch_trace.specs.Setting.{Opening, Setting}
use Rattle.nntp_lines.specs.declared.why.Why.TheVariants as why
use Rattle.fetch_trace.specs.Hearing.{Hearing, after_byte, after_quiet, after_end, read_as, whole_by, is_greeted}
use Rattle.fetch_trace.specs.Verdicts.{Range, range_of, verdict_of}
use Rattle.fetch_trace.specs.LinkNow.{LinkNow, Asking, fresh_link, is_over, is_ready, waiting_of, with_hearing, with_asking}
use Rattle.fetch_trace.specs.Standing.{Standing, pipeline_of, with_link}
use Rattle.fetch_trace.specs.Due.{Due, due_on}
use Rattle.fetch_trace.specs.Moving.{begun_with, awaited_after, with_saying, begins, says, sends, loses, answers, claims_by, claims, goes_on, replies_by, hears_byte, is_quiet, is_lost}
use Rattle.fetch_trace.specs.HeldRanges.{IsSettled}
use Rattle.fetch_trace.proofs.Lists.{drop-append}
use Rattle.fetch_trace.proofs.Alone.{nothing_behind}
use Rattle.fetch_trace.proofs.RangeStays.{range_stays}

abbrev pub AreSettled : Standing → Type 0
AreSettled s = (k : ℕ) (l : LinkNow) → slice_get s.links k ≡ Some l → IsSettled l

over_none : (o : Option Why) (b : Bool) → (is_some o || b) ≡ false → o ≡ None
over_none None b is = refl
over_none (Some why) b is = cc

pub live_none : (l : LinkNow) → is_over l ≡ false → l.hearing.over ≡ None
live_none l live = over_none l.hearing.over (not (is_some l.opening.number)) live

front_none : (kinds more : List Awaited) → kinds ++ more ≡ [] → kinds ≡ []
front_none [] more is = refl
front_none (kind ∷ kinds) more is = cc

-- ---- a command

pub oldest_on : (l : LinkNow) (o : Option ℕ) (segment : ℕ) (waiting : List ℕ) → length l.asking.verdicts ≤ length l.asking.commands → waiting_of l.asking ≡ segment ∷ waiting → (behind : List ℕ) × (waiting_of (begun_with o l.asking) ≡ segment ∷ behind)
oldest_on l None segment waiting few is = (waiting, is)
oldest_on l (Some k) segment waiting few is = (waiting ++ k ∷ [], drop-append (length l.asking.verdicts) l.asking.commands (k ∷ []) few ∙ ap (λ (w : List ℕ). w ++ k ∷ []) is)

against_on : (o : Option ℕ) (a : Asking) → (begun_with o a).against ≡ a.against
against_on None a = refl
against_on (Some k) a = refl

said_settled : (l : LinkNow) (kind : Awaited) (unsent : List ℕ) (o : Option ℕ) → length l.asking.verdicts ≤ length l.asking.commands → is_over l ≡ false → IsSettled l → IsSettled (with_saying kind unsent (begun_with o l.asking) l)
said_settled l kind unsent o few live old = record {
  blocked = λ clash is.
      (let was = old.blocked clash (sym (against_on o l.asking) ∙ is) in
      let oldest = was.1.1 in
      (was.0, (was.1.0, (oldest.0, oldest_on l o oldest.0 oldest.1.0 few oldest.1.1))));
  empty = λ none waiting. old.empty (live_none l live) (front_none l.hearing.waiting (awaited_after kind unsent) waiting);
}

begins_settled : (l : LinkNow) (bytes : List ℕ) (o : Option Due) → length l.asking.verdicts ≤ length l.asking.commands → is_over l ≡ false → IsSettled l → IsSettled (begins bytes o l)
begins_settled l bytes None few live old = old
begins_settled l bytes (Some due) few live old = said_settled l due.kind (drop (length bytes) due.text) due.segment few live old

says_settled : (setting : Setting) (s : Standing) (i : ℕ) (l : LinkNow) (bytes unsent : List ℕ) → length l.asking.verdicts ≤ length l.asking.commands → is_over l ≡ false → IsSettled l → IsSettled (says setting bytes unsent i l s)
says_settled setting s i l bytes [] few live old = begins_settled l bytes (due_on setting (pipeline_of setting s.links) i l) few live old
says_settled setting s i l bytes (byte ∷ unsent) few live old = said_settled l l.saying.kind (drop (length bytes) (byte ∷ unsent)) None few live old

-- ---- what is heard

-- the rest goes on
pub on_settled : (l : LinkNow) (hearing : Hearing) (more : List ℕ) → hearing.replies ≡ l.hearing.replies → hearing.rest ≡ l.hearing.rest ++ more → (hearing.over ≡ None → hearing.waiting ≡ [] → hearing.rest ≡ []) → IsSettled l → IsSettled (with_hearing hearing l)
on_settled l hearing more replies rest empty old = record {
  blocked = λ clash is.
      (let was = old.blocked clash is in
      let P : List Reply → Type 0 = λ rs. is_greeted l.opening.login rs ≡ true in
      (subst P (sym replies) was.0, ((was.1.0.0, ap range_of rest ∙ range_stays l.hearing.rest more was.1.0.0 was.1.0.1), was.1.1)));
  empty = empty;
}

-- a range stands against the article
pub clash_settled : (l : LinkNow) (hearing : Hearing) (clash : Clash) (range : Range) (segment : ℕ) (waiting : List ℕ) → is_ready (with_hearing hearing l) ≡ true → range_of hearing.rest ≡ Some range → waiting_of l.asking ≡ segment ∷ waiting → (hearing.over ≡ None → hearing.waiting ≡ [] → hearing.rest ≡ []) → IsSettled (with_asking hearing (record { commands = l.asking.commands; verdicts = l.asking.verdicts; against = Some clash }) l)
clash_settled l hearing clash range segment waiting ready fixed oldest empty = record {
  blocked = λ other is. (ready, ((range, fixed), (segment, (waiting, oldest))));
  empty = empty;
}

-- nothing stands against it any more
clear_settled : (l : LinkNow) (hearing : Hearing) (asking : Asking) → asking.against ≡ None → (hearing.over ≡ None → hearing.waiting ≡ [] → hearing.rest ≡ []) → IsSettled (with_asking hearing asking l)
clear_settled l hearing asking clear empty = record { blocked = λ clash is. (let no : None ≡ Some clash = sym clear ∙ is in cc); empty = empty }

no_clash : (l : LinkNow) (o : Option Clash) → l.asking.against ≡ o → ((clash : Clash) → l.asking.against ≡ Some clash → ⊥) → l.asking.against ≡ None
no_clash l None is none = is
no_clash l (Some clash) is none = absurd (none clash is)

-- nothing stands against a link that isn't ready, or on which nothing is asked
pub clear_unready : (l : LinkNow) → is_ready l ≡ false → IsSettled l → l.asking.against ≡ None
clear_unready l unready old = no_clash l l.asking.against refl (λ clash is. (let ready = (old.blocked clash is).0 in let no : true ≡ false = sym ready ∙ unready in cc))

pub clear_unasked : (l : LinkNow) → waiting_of l.asking ≡ [] → IsSettled l → l.asking.against ≡ None
clear_unasked l none old = no_clash l l.asking.against refl (λ clash is. (let oldest = (old.blocked clash is).1.1 in let no : [] ≡ oldest.0 ∷ oldest.1.0 = sym none ∙ oldest.1.1 in cc))

pub clear_unfixed : (l : LinkNow) → range_of l.hearing.rest ≡ None → IsSettled l → l.asking.against ≡ None
clear_unfixed l none old = no_clash l l.asking.against refl (λ clash is. (let fixed = (old.blocked clash is).1.0 in let no : None ≡ Some fixed.0 = sym none ∙ fixed.1 in cc))

-- ---- all links

edit_settled : (links : List LinkNow) (i : ℕ) (now : LinkNow) → ((k : ℕ) (l : LinkNow) → slice_get links k ≡ Some l → IsSettled l) → IsSettled now → (k : ℕ) (l : LinkNow) → slice_get (edit_at i (λ old. now) links) k ≡ Some l → IsSettled l
edit_settled [] i now all here k l is = cc
edit_settled (a ∷ links) zero now all here zero l is = let e : now ≡ l = cc in subst IsSettled e here
edit_settled (a ∷ links) zero now all here (suc k) l is = all (suc k) l is
edit_settled (a ∷ links) (suc i) now all here zero l is = all zero l is
edit_settled (a ∷ links) (suc i) now all here (suc k) l is = edit_settled links i now (λ j other. all (suc j) other) here k l is

claims_by_settled : (s : Standing) (i : ℕ) (l : LinkNow) (hearing : Hearing) (segment : ℕ) (waiting more : List ℕ) (range : Range) (clash : Option Clash) → hearing.replies ≡ l.hearing.replies → hearing.rest ≡ l.hearing.rest ++ more → is_ready (with_hearing hearing l) ≡ true → range_of hearing.rest ≡ Some range → waiting_of l.asking ≡ segment ∷ waiting → (hearing.over ≡ None → hearing.waiting ≡ [] → hearing.rest ≡ []) → AreSettled s → IsSettled l → AreSettled (claims_by hearing segment range clash i l s)
claims_by_settled s i l hearing segment waiting more range None replies rest ready fixed oldest empty all old = edit_settled s.links i (with_hearing hearing l) all (on_settled l hearing more replies rest empty old)
claims_by_settled s i l hearing segment waiting more range (Some clash) replies rest ready fixed oldest empty all old =
    edit_settled s.links i (with_asking hearing (record { commands = l.asking.commands; verdicts = l.asking.verdicts; against = Some clash }) l) all (clash_settled l hearing clash range segment waiting ready fixed oldest empty)

claims_settled : (s : Standing) (i : ℕ) (l : LinkNow) (hearing : Hearing) (more : List ℕ) (before now : Option Range) (waiting : List ℕ) → hearing.replies ≡ l.hearing.replies → hearing.rest ≡ l.hearing.rest ++ more → is_ready (with_hearing hearing l) ≡ true → range_of hearing.rest ≡ now → waiting_of l.asking ≡ waiting → (hearing.over ≡ None → hearing.waiting ≡ [] → hearing.rest ≡ []) → AreSettled s → IsSettled l → AreSettled (claims hearing before now waiting i l s)
claims_settled s i l hearing more None (Some range) (segment ∷ waiting) replies rest ready fixed oldest empty all old =
    claims_by_settled s i l hearing segment waiting more range (least_clash 0 (file_at s.entries segment) range.first range.last s.entries) replies rest ready fixed oldest empty all old
claims_settled s i l hearing more None (Some range) [] replies rest ready fixed oldest empty all old = edit_settled s.links i (with_hearing hearing l) all (on_settled l hearing more replies rest empty old)
claims_settled s i l hearing more None None waiting replies rest ready fixed oldest empty all old = edit_settled s.links i (with_hearing hearing l) all (on_settled l hearing more replies rest empty old)
claims_settled s i l hearing more (Some range) now waiting replies rest ready fixed oldest empty all old = edit_settled s.links i (with_hearing hearing l) all (on_settled l hearing more replies rest empty old)

goes_on_settled : (s : Standing) (i : ℕ) (l : LinkNow) (hearing : Hearing) (more : List ℕ) (b : Bool) → is_ready l ≡ b → hearing.replies ≡ l.hearing.replies → hearing.rest ≡ l.hearing.rest ++ more → (hearing.over ≡ None → hearing.waiting ≡ [] → hearing.rest ≡ []) → AreSettled s → IsSettled l → AreSettled (goes_on hearing b i l s)
goes_on_settled s i l hearing more true ready replies rest empty all old =
    claims_settled s i l hearing more (range_of l.hearing.rest) (range_of hearing.rest) (waiting_of l.asking) replies rest (ap (λ rs. is_greeted l.opening.login rs) replies ∙ ready) refl refl empty all old
goes_on_settled s i l hearing more false ready replies rest empty all old = edit_settled s.links i (with_hearing hearing l) all (on_settled l hearing more replies rest empty old)

loses_settled : (s : Standing) (i : ℕ) (l : LinkNow) (hearing : Hearing) (more : List ℕ) (why : Why) → hearing.replies ≡ l.hearing.replies → hearing.rest ≡ l.hearing.rest ++ more → hearing.over ≡ Some why → AreSettled s → IsSettled l → AreSettled (loses hearing i l s)
loses_settled s i l hearing more why replies rest over all old =
    edit_settled s.links i (with_hearing hearing l) all (on_settled l hearing more replies rest (λ none waiting. (let no : Some why ≡ None = sym over ∙ none in cc)) old)

none_settled : (s : Standing) (i : ℕ) (l : LinkNow) (hearing : Hearing) (more : List ℕ) (b : Bool) (o : Option Why) → hearing.over ≡ o → is_ready l ≡ b → hearing.replies ≡ l.hearing.replies → hearing.rest ≡ l.hearing.rest ++ more → (hearing.over ≡ None → hearing.waiting ≡ [] → hearing.rest ≡ []) → AreSettled s → IsSettled l → AreSettled (cond (is_some hearing.over) (loses hearing i l s) (goes_on hearing b i l s))
none_settled s i l hearing more b None over ready replies rest empty all old =
    let test : is_some hearing.over ≡ false = ap (λ (o : Option Why). is_some o) over in
    let P : Bool → Type 0 = λ c. AreSettled (cond c (loses hearing i l s) (goes_on hearing b i l s)) in
    subst P (sym test) (goes_on_settled s i l hearing more b ready replies rest empty all old)
none_settled s i l hearing more b (Some why) over ready replies rest empty all old =
    let test : is_some hearing.over ≡ true = ap (λ (o : Option Why). is_some o) over in
    let P : Bool → Type 0 = λ c. AreSettled (cond c (loses hearing i l s) (goes_on hearing b i l s)) in
    subst P (sym test) (loses_settled s i l hearing more why replies rest over all old)

answers_settled : (s : Standing) (i : ℕ) (l : LinkNow) (hearing : Hearing) (reply : Reply) (waiting : List ℕ) → hearing.rest ≡ [] → waiting_of l.asking ≡ waiting → AreSettled s → IsSettled l → AreSettled (answers hearing reply waiting i l s)
answers_settled s i l hearing reply [] rest none all old = edit_settled s.links i (with_hearing hearing l) all (clear_settled l hearing l.asking (clear_unasked l none old) (λ over waiting. rest))
answers_settled s i l hearing reply (segment ∷ waiting) rest oldest all old =
    let verdict = verdict_of l.asking.against (kept_size (file_at s.entries segment) s.entries) reply in
    let asking : Asking = record { commands = l.asking.commands; verdicts = l.asking.verdicts ++ verdict ∷ []; against = None } in
    edit_settled s.links i (with_asking hearing asking l) all (clear_settled l hearing asking refl (λ over waiting_none. rest))

reads_settled : (s : Standing) (i : ℕ) (l : LinkNow) (byte : ℕ) (whole : Option Reply) (b : Bool) → is_ready l ≡ b → AreSettled s → IsSettled l → AreSettled (replies_by (read_as whole (l.hearing.rest ++ byte ∷ []) l.hearing) whole b i l s)
reads_settled s i l byte (Some reply) true ready all old = answers_settled s i l (read_as (Some reply) (l.hearing.rest ++ byte ∷ []) l.hearing) reply (waiting_of l.asking) refl refl all old
reads_settled s i l byte (Some reply) false unready all old =
    let hearing = read_as (Some reply) (l.hearing.rest ++ byte ∷ []) l.hearing in
    edit_settled s.links i (with_hearing hearing l) all (clear_settled l hearing l.asking (clear_unready l unready old) (λ over waiting. refl))
reads_settled s i l byte None b ready all old =
    let rest = l.hearing.rest ++ byte ∷ [] in
    let hearing = read_as None rest l.hearing in
    let P : List Awaited → Type 0 = λ ws. why_of_rest ws rest ≡ None in
    none_settled s i l hearing (byte ∷ []) b (why_of_rest l.hearing.waiting rest) refl ready refl refl (λ over waiting. nothing_behind rest (subst P waiting over)) all old

-- ---- events

chosen : (b : Bool) (one two : Standing) → (b ≡ true → AreSettled one) → (b ≡ false → AreSettled two) → AreSettled (cond b one two)
chosen true one two first second = first refl
chosen false one two first second = second refl

pub byte_settled : (byte i : ℕ) (l : LinkNow) (s : Standing) → AreSettled s → IsSettled l → AreSettled (hears_byte byte i l s)
byte_settled byte i l s all old =
    chosen (is_over l) s (replies_by (after_byte byte l.hearing) (whole_by l.hearing.waiting (l.hearing.rest ++ byte ∷ [])) (is_ready l) i l s) (λ over. all)
    (λ live. reads_settled s i l byte (whole_by l.hearing.waiting (l.hearing.rest ++ byte ∷ [])) (is_ready l) refl all old)

pub sends_settled : (setting : Setting) (bytes : List ℕ) (i : ℕ) (l : LinkNow) (s : Standing) → length l.asking.verdicts ≤ length l.asking.commands → AreSettled s → IsSettled l → AreSettled (sends setting bytes i l s)
sends_settled setting bytes i l s few all old =
    chosen (is_over l) s (with_link i (says setting bytes l.saying.unsent i l s) s) (λ over. all)
    (λ live. edit_settled s.links i (says setting bytes l.saying.unsent i l s) all (says_settled setting s i l bytes l.saying.unsent few live old))

quiet_one : (patience : ℕ) (l : LinkNow) → is_over l ≡ false → IsSettled l → IsSettled (with_hearing (after_quiet patience l.hearing) l)
quiet_one patience l live old = record { blocked = old.blocked; empty = λ over waiting. old.empty (live_none l live) waiting }

quiet_by : (patience : ℕ) (i : ℕ) (l : LinkNow) (s : Standing) (o : Option Why) → (after_quiet patience l.hearing).over ≡ o → is_over l ≡ false → AreSettled s → IsSettled l → AreSettled (cond (is_some (after_quiet patience l.hearing).over) (loses (after_quiet patience l.hearing) i l s) (with_link i (with_hearing (after_quiet patience l.hearing) l) s))
quiet_by patience i l s None over live all old =
    let test : is_some (after_quiet patience l.hearing).over ≡ false = ap (λ (o : Option Why). is_some o) over in
    let P : Bool → Type 0 = λ c. AreSettled (cond c (loses (after_quiet patience l.hearing) i l s) (with_link i (with_hearing (after_quiet patience l.hearing) l) s)) in
    subst P (sym test) (edit_settled s.links i (with_hearing (after_quiet patience l.hearing) l) all (quiet_one patience l live old))
quiet_by patience i l s (Some why) over live all old =
    let test : is_some (after_quiet patience l.hearing).over ≡ true = ap (λ (o : Option Why). is_some o) over in
    let P : Bool → Type 0 = λ c. AreSettled (cond c (loses (after_quiet patience l.hearing) i l s) (with_link i (with_hearing (after_quiet patience l.hearing) l) s)) in
    subst P (sym test) (loses_settled s i l (after_quiet patience l.hearing) [] why refl (sym (append-nil l.hearing.rest)) over all old)

pub quiet_settled : (patience : ℕ) (i : ℕ) (l : LinkNow) (s : Standing) → AreSettled s → IsSettled l → AreSettled (is_quiet patience i l s)
quiet_settled patience i l s all old =
    chosen (is_over l) s (cond (is_some (after_quiet patience l.hearing).over) (loses (after_quiet patience l.hearing) i l s) (with_link i (with_hearing (after_quiet patience l.hearing) l) s)) (λ over. all)
    (λ live. quiet_by patience i l s (after_quiet patience l.hearing).over refl live all old)

pub lost_settled : (i : ℕ) (l : LinkNow) (s : Standing) → AreSettled s → IsSettled l → AreSettled (is_lost i l s)
lost_settled i l s all old =
    chosen (is_over l) s (loses (after_end l.hearing) i l s) (λ over. all)
    (λ live. loses_settled s i l (after_end l.hearing) [] why.Ended refl (sym (append-nil l.hearing.rest)) refl all old)

pub start_settled : (openings : List Opening) (k : ℕ) (l : LinkNow) → slice_get (map fresh_link openings) k ≡ Some l → IsSettled l
start_settled [] k l is = cc
start_settled (opening ∷ openings) zero l is =
    let e : fresh_link opening ≡ l = cc in
    subst IsSettled e (record { blocked = λ clash none. (let no : None ≡ Some clash = none in cc); empty = λ over waiting. refl })
start_settled (opening ∷ openings) (suc k) l is = start_settled openings k l is
