-- What is true at each moment of each trace: of the links, and of the segments that are outstanding.
use Rattle.std.proofs.Common.{◌≡◌, ℕ, Bool, true, false, List, [], ◌∷◌, ◌++◌, Option, Some, None, map, refl, ap, sym, subst, ◌∙◌, arith}
use Rattle.std.specs.Prelude.{slice_get, cond, is_some, ◌==◌}
use Rattle.nntp_lines.specs.Command.{pass_line, crlf}
use Rattle.link_dialog.specs.declared.awaited.Awaited.TheVariants.{Pass}
use Rattle.io_traits.specs.declared.links.LinkEvent.{LinkEvent}
use Rattle.io_traits.specs.declared.links.LinkEvent.TheVariants as event
use Rattle.nntp_lines.specs.declared.login.Login.{Login}
use Rattle.link_dialog.specs.declared.awaited.Awaited.{Awaited}
use Rattle.link_dialog.specs.Replies.{Reply}
use Rattle.pipeline_core.specs.PipelineAt.{Pipeline}
use Rattle.pipeline_core.specs.Links.{times_asked}
use Rattle.pipeline_core.specs.Pipeline.{next_segment, is_finished}
use Rattle.pipeline_core.specs.Sound.{IsExclusive}
use Rattle.fetch_trace.specs.Setting.{Opening, Setting}
use Rattle.fetch_trace.specs.Hearing.{Hearing, after_byte, after_quiet, is_greeted, whole_by}
use Rattle.fetch_trace.specs.LinkNow.{LinkNow, fresh_link, link_at, is_over, is_ready, waiting_of, outstanding_by}
use Rattle.fetch_trace.specs.Standing.{Standing, before_all, pipeline_of, place_from, by_link, by_place, on_number}
use Rattle.fetch_trace.specs.Due.{Due, login_by, login_due, ask_or_quit, due_on}
use Rattle.fetch_trace.specs.Moving.{sends, hears_byte, is_quiet, is_lost, hears, moved, moved_by, standing_at}
use Rattle.fetch_trace.specs.Calls.{Call, after_call, answer_call, reply_call, byte_call, segment_call, due_call, begun_call, sent_call, quiet_call, end_call}
use Rattle.fetch_trace.specs.Calls.Call.{Nothing, Greets, Loses}
use Rattle.fetch_trace.specs.Valid.{IsValid}
use Rattle.fetch_trace.proofs.Lists.{get-seen}
use Rattle.fetch_trace.proofs.Calls.{byte_follows, sent_follows, quiet_follows, end_follows}
use Rattle.fetch_trace.specs.OneLink.{Keeps}
use Rattle.fetch_trace.proofs.OneLink.{call_keeps}
use Rattle.fetch_trace.proofs.Exclusives.{Fits, exclusive_call}
use Rattle.fetch_trace.proofs.Valid.{byte_valid, sends_valid, quiet_valid, lost_valid, start_valid}

-- ---- what each event's call needs

chosen_fits : (b : Bool) (call : Call) (i : ℕ) (p : Pipeline) (l : LinkNow) → Fits call i p (link_at l) → Fits (cond b call Nothing) i p (link_at l)
chosen_fits true call i p l fits = fits
chosen_fits false call i p l fits = tt

answer_fits : (reply : Reply) (waiting : List ℕ) (i : ℕ) (p : Pipeline) (l : LinkNow) (s : Standing) → is_over l ≡ false → waiting_of l.asking ≡ waiting → Fits (answer_call reply waiting l s) i p (link_at l)
answer_fits reply [] i p l s live is = tt
answer_fits reply (segment ∷ waiting) i p l s live is =
    let asked : (link_at l).asked ≡ segment ∷ waiting = ap (λ b. outstanding_by b (waiting_of l.asking)) live ∙ is in
    ap (λ (t : List ℕ). slice_get t 0) asked

reply_fits : (whole : Option Reply) (hearing : Hearing) (b : Bool) (i : ℕ) (p : Pipeline) (l : LinkNow) (s : Standing) → is_over l ≡ false → Fits (reply_call whole hearing b l s) i p (link_at l)
reply_fits (Some reply) hearing true i p l s live = answer_fits reply (waiting_of l.asking) i p l s live refl
reply_fits (Some reply) hearing false i p l s live = chosen_fits (is_greeted l.opening.login hearing.replies) Greets i p l tt
reply_fits None hearing b i p l s live = chosen_fits (is_some hearing.over) Loses i p l tt

byte_fits : (byte i : ℕ) (p : Pipeline) (l : LinkNow) (s : Standing) (b : Bool) → is_over l ≡ b → Fits (cond b Nothing (reply_call (whole_by l.hearing.waiting (l.hearing.rest ++ byte ∷ [])) (after_byte byte l.hearing) (is_ready l) l s)) i p (link_at l)
byte_fits byte i p l s true over = tt
byte_fits byte i p l s false live = reply_fits (whole_by l.hearing.waiting (l.hearing.rest ++ byte ∷ [])) (after_byte byte l.hearing) (is_ready l) i p l s live

-- a command that is due for a segment is due for the link's next one
login_asks_none : (login : Login) (replies : List Reply) (due : Due) → login_by login replies ≡ Some due → due.segment ≡ None
login_asks_none login [] due is = cc
login_asks_none login (greeting ∷ []) due is = let e : Some None ≡ Some due.segment = ap segment_of is in cc
  where
    segment_of : Option Due → Option (Option ℕ)
    segment_of (Some d) = Some d.segment
    segment_of None = None
login_asks_none login (greeting ∷ answer ∷ []) due is = by (answer.code == 381) is
  where
    by : (b : Bool) → cond b (Some (record { kind = Pass; text = pass_line login.pass ++ crlf; segment = None })) None ≡ Some due → due.segment ≡ None
    by true e = let password : Due = record { kind = Pass; text = pass_line login.pass ++ crlf; segment = None } in let same : password ≡ due = cc in ap (λ (d : Due). d.segment) (sym same)
    by false e = cc
login_asks_none login (greeting ∷ answer ∷ more ∷ replies) due is = cc

pub login_due_asks_none : (login : Option Login) (replies : List Reply) (waiting : List Awaited) (due : Due) → login_due login replies waiting ≡ Some due → due.segment ≡ None
login_due_asks_none None replies waiting due is = cc
login_due_asks_none (Some login) replies (kind ∷ kinds) due is = cc
login_due_asks_none (Some login) replies [] due is = login_asks_none login replies due is

ask_asks : (setting : Setting) (next : Option ℕ) (finished quits : Bool) (due : Due) (k : ℕ) → ask_or_quit setting next finished quits ≡ Some due → due.segment ≡ Some k → next ≡ Some k
ask_asks setting next finished true due k is asks = cc
ask_asks setting (Some segment) finished false due k is asks = let e : Some segment ≡ due.segment = ap segment_of is in e ∙ asks
  where
    segment_of : Option Due → Option ℕ
    segment_of (Some d) = d.segment
    segment_of None = None
ask_asks setting None true false due k is asks = let e : None ≡ due.segment = ap segment_of is in let no_way : None ≡ Some k = e ∙ asks in cc
  where
    segment_of : Option Due → Option ℕ
    segment_of (Some d) = d.segment
    segment_of None = None
ask_asks setting None false false due k is asks = cc

pub due_asks : (setting : Setting) (p : Pipeline) (i : ℕ) (l : LinkNow) (over ready : Bool) (due : Due) (k : ℕ) → cond over None (cond ready (ask_or_quit setting (next_segment p i) (is_finished p) l.saying.quits) (login_due l.opening.login l.hearing.replies l.hearing.waiting)) ≡ Some due → due.segment ≡ Some k → next_segment p i ≡ Some k
due_asks setting p i l true ready due k is asks = cc
due_asks setting p i l false true due k is asks = ask_asks setting (next_segment p i) (is_finished p) l.saying.quits due k is asks
due_asks setting p i l false false due k is asks =
    let none = login_due_asks_none l.opening.login l.hearing.replies l.hearing.waiting due is in let no_way : None ≡ Some k = sym none ∙ asks in cc

segment_fits : (setting : Setting) (p : Pipeline) (i : ℕ) (l : LinkNow) (due : Due) (segment : Option ℕ) → due_on setting p i l ≡ Some due → due.segment ≡ segment → Fits (segment_call segment) i p (link_at l)
segment_fits setting p i l due None is asks = tt
segment_fits setting p i l due (Some k) is asks = due_asks setting p i l (is_over l) (is_ready l) due k is asks

due_fits : (setting : Setting) (p : Pipeline) (i : ℕ) (l : LinkNow) (due : Option Due) → due_on setting p i l ≡ due → Fits (due_call due) i p (link_at l)
due_fits setting p i l None is = tt
due_fits setting p i l (Some due) is = segment_fits setting p i l due due.segment is refl

begun_fits : (setting : Setting) (unsent : List ℕ) (i : ℕ) (l : LinkNow) (s : Standing) → Fits (begun_call setting unsent i l s) i (pipeline_of setting s.links) (link_at l)
begun_fits setting [] i l s = due_fits setting (pipeline_of setting s.links) i l (due_on setting (pipeline_of setting s.links) i l) refl
begun_fits setting (byte ∷ unsent) i l s = tt

sent_fits : (setting : Setting) (i : ℕ) (l : LinkNow) (s : Standing) (b : Bool) → Fits (cond b Nothing (begun_call setting l.saying.unsent i l s)) i (pipeline_of setting s.links) (link_at l)
sent_fits setting i l s true = tt
sent_fits setting i l s false = begun_fits setting l.saying.unsent i l s

end_fits : (b c : Bool) (i : ℕ) (p : Pipeline) (l : LinkNow) → Fits (cond b Nothing (cond c Loses Nothing)) i p (link_at l)
end_fits true c i p l = tt
end_fits false c i p l = chosen_fits c Loses i p l tt

lost_fits : (b : Bool) (i : ℕ) (p : Pipeline) (l : LinkNow) → Fits (cond b Nothing Loses) i p (link_at l)
lost_fits true i p l = tt
lost_fits false i p l = tt

-- ---- at each moment

pub record IsKept (setting : Setting) (s : Standing) : Type 0 where
  pub valid : IsValid s
  pub exclusive : IsExclusive (pipeline_of setting s.links).links (pipeline_of setting s.links).segments

by_call : (setting : Setting) (s after : Standing) (i : ℕ) (l : LinkNow) (call : Call) → slice_get s.links i ≡ Some l → pipeline_of setting after.links ≡ after_call call i (pipeline_of setting s.links) → Fits call i (pipeline_of setting s.links) (link_at l) → IsValid after → IsKept setting s → IsKept setting after
by_call setting s after i l call is follows fits valid old =
    let P : Pipeline → Type 0 = λ p. IsExclusive p.links p.segments in
    record { valid = valid; exclusive = subst P (sym follows) (exclusive_call call i (pipeline_of setting s.links) (link_at l) (get-seen link_at s.links i l is) fits old.exclusive) }

pub byte_kept : (setting : Setting) (byte i : ℕ) (l : LinkNow) (s : Standing) → slice_get s.links i ≡ Some l → IsKept setting s → IsKept setting (hears_byte byte i l s)
byte_kept setting byte i l s is old =
    by_call setting s (hears_byte byte i l s) i l (byte_call byte l s) is (byte_follows setting s i byte l (is_over l) is refl) (byte_fits byte i (pipeline_of setting s.links) l s (is_over l) refl)
    (byte_valid byte s i l old.valid (old.valid i l is)) old

pub sent_kept : (setting : Setting) (bytes : List ℕ) (i : ℕ) (l : LinkNow) (s : Standing) → slice_get s.links i ≡ Some l → IsKept setting s → IsKept setting (sends setting bytes i l s)
sent_kept setting bytes i l s is old =
    by_call setting s (sends setting bytes i l s) i l (sent_call setting i l s) is (sent_follows setting s i l bytes (is_over l) is refl (old.valid i l is).few) (sent_fits setting i l s (is_over l))
    (sends_valid setting bytes s i l old.valid (old.valid i l is)) old

pub quiet_kept : (setting : Setting) (i : ℕ) (l : LinkNow) (s : Standing) → slice_get s.links i ≡ Some l → IsKept setting s → IsKept setting (is_quiet setting.patience i l s)
quiet_kept setting i l s is old =
    by_call setting s (is_quiet setting.patience i l s) i l (quiet_call setting.patience l) is (quiet_follows setting s i l (is_over l) is refl)
    (end_fits (is_over l) (is_some (after_quiet setting.patience l.hearing).over) i (pipeline_of setting s.links) l)
    (quiet_valid setting.patience s i l old.valid (old.valid i l is)) old

pub lost_kept : (setting : Setting) (i : ℕ) (l : LinkNow) (s : Standing) → slice_get s.links i ≡ Some l → IsKept setting s → IsKept setting (is_lost i l s)
lost_kept setting i l s is old =
    by_call setting s (is_lost i l s) i l (end_call l) is (end_follows setting s i l (is_over l) is refl) (lost_fits (is_over l) i (pipeline_of setting s.links) l)
    (lost_valid s i l old.valid (old.valid i l is)) old

-- ---- events, and any fact that each of them keeps

pub on_each_link : (P : Standing → Type 0) (f : ℕ → LinkNow → Standing → Standing) (s : Standing) (i : ℕ) (o : Option LinkNow) → slice_get s.links i ≡ o → P s → ((k : ℕ) (l : LinkNow) → slice_get s.links k ≡ Some l → P (f k l s)) → P (by_link f i o s)
on_each_link P f s i None is all each = all
on_each_link P f s i (Some l) is all each = each i l is

on_each_place : (P : Standing → Type 0) (f : ℕ → LinkNow → Standing → Standing) (s : Standing) (o : Option ℕ) → P s → ((k : ℕ) (l : LinkNow) → slice_get s.links k ≡ Some l → P (f k l s)) → P (by_place f o s)
on_each_place P f s None all each = all
on_each_place P f s (Some i) all each = on_each_link P f s i (slice_get s.links i) refl all each

pub on_each : (P : Standing → Type 0) (f : ℕ → LinkNow → Standing → Standing) (n : ℕ) (s : Standing) → P s → ((k : ℕ) (l : LinkNow) → slice_get s.links k ≡ Some l → P (f k l s)) → P (on_number f n s)
on_each P f n s all each = on_each_place P f s (place_from 0 n s.links) all each

pub on_bytes : (P : Standing → Type 0) (bytes : List ℕ) (n : ℕ) (s : Standing) → P s → ((byte i : ℕ) (l : LinkNow) (t : Standing) → slice_get t.links i ≡ Some l → P t → P (hears_byte byte i l t)) → P (hears bytes n s)
on_bytes P [] n s all each = all
on_bytes P (byte ∷ bytes) n s all each = on_bytes P bytes n (on_number (hears_byte byte) n s) (on_each P (hears_byte byte) n s all (λ i l is. each byte i l s is all)) each

pub moved_kept : (setting : Setting) (s : Standing) (event : LinkEvent) → IsKept setting s → IsKept setting (moved setting s event)
moved_kept setting s (event.Opened n address) old = old
moved_kept setting s (event.Sent n bytes) old = on_each (λ t. IsKept setting t) (sends setting bytes) n s old (λ i l is. sent_kept setting bytes i l s is old)
moved_kept setting s (event.Heard n bytes) old =
    let now = on_bytes (λ t. IsKept setting t) bytes n s old (λ byte i l t is was. byte_kept setting byte i l t is was) in record { valid = now.valid; exclusive = now.exclusive }
moved_kept setting s (event.Quiet n) old =
    let now = on_each (λ t. IsKept setting t) (is_quiet setting.patience) n s old (λ i l is. quiet_kept setting i l s is old) in record { valid = now.valid; exclusive = now.exclusive }
moved_kept setting s (event.Ended n) old =
    let now = on_each (λ t. IsKept setting t) is_lost n s old (λ i l is. lost_kept setting i l s is old) in record { valid = now.valid; exclusive = now.exclusive }

moved_by_kept : (setting : Setting) (s : Standing) (events : List LinkEvent) → IsKept setting s → IsKept setting (moved_by setting s events)
moved_by_kept setting s [] old = old
moved_by_kept setting s (event ∷ events) old = moved_by_kept setting (moved setting s event) events (moved_kept setting s event old)

-- ---- before all events

none_by : (b : Bool) → outstanding_by b [] ≡ []
none_by true = refl
none_by false = refl

none_asked : (openings : List Opening) (segment : ℕ) → times_asked (map link_at (map fresh_link openings)) segment ≡ 0
none_asked [] segment = refl
none_asked (opening ∷ openings) segment =
    let none : (link_at (fresh_link opening)).asked ≡ [] = none_by (is_over (fresh_link opening)) in
    rw (none, none_asked openings segment) refl

pub start_kept : (setting : Setting) → IsKept setting (before_all setting)
start_kept setting = record {
  valid = start_valid setting.openings;
  exclusive = record {
    once = λ segment. (let none = none_asked setting.openings segment in omega (arith, none));
    none_arrived = λ segment here. none_asked setting.openings segment;
    within = λ segment past. none_asked setting.openings segment;
  };
}

pub always_kept : (setting : Setting) (events : List LinkEvent) → IsKept setting (standing_at setting events)
always_kept setting events = moved_by_kept setting (before_all setting) events (start_kept setting)

-- a byte on one link
pub byte_keeps : (setting : Setting) (s : Standing) (i byte segment : ℕ) (l : LinkNow) → IsKept setting s → slice_get s.links i ≡ Some l → Keeps (pipeline_of setting s.links) (pipeline_of setting (hears_byte byte i l s).links) i segment
byte_keeps setting s i byte segment l kept is =
    let P : Pipeline → Type 0 = λ p. Keeps (pipeline_of setting s.links) p i segment in
    subst P (sym (byte_follows setting s i byte l (is_over l) is refl))
    (call_keeps (byte_call byte l s) (pipeline_of setting s.links) i segment (link_at l) kept.exclusive (get-seen link_at s.links i l is) (byte_fits byte i (pipeline_of setting s.links) l s (is_over l) refl))

-- a piece that is sent, a receive that finds nothing, and the end
pub sent_keeps : (setting : Setting) (s : Standing) (i segment : ℕ) (l : LinkNow) (bytes : List ℕ) → IsKept setting s → slice_get s.links i ≡ Some l → Keeps (pipeline_of setting s.links) (pipeline_of setting (sends setting bytes i l s).links) i segment
sent_keeps setting s i segment l bytes kept is =
    let P : Pipeline → Type 0 = λ p. Keeps (pipeline_of setting s.links) p i segment in
    subst P (sym (sent_follows setting s i l bytes (is_over l) is refl (kept.valid i l is).few))
    (call_keeps (sent_call setting i l s) (pipeline_of setting s.links) i segment (link_at l) kept.exclusive (get-seen link_at s.links i l is) (sent_fits setting i l s (is_over l)))

pub quiet_keeps : (setting : Setting) (s : Standing) (i segment : ℕ) (l : LinkNow) → IsKept setting s → slice_get s.links i ≡ Some l → Keeps (pipeline_of setting s.links) (pipeline_of setting (is_quiet setting.patience i l s).links) i segment
quiet_keeps setting s i segment l kept is =
    let P : Pipeline → Type 0 = λ p. Keeps (pipeline_of setting s.links) p i segment in
    subst P (sym (quiet_follows setting s i l (is_over l) is refl))
    (call_keeps (quiet_call setting.patience l) (pipeline_of setting s.links) i segment (link_at l) kept.exclusive (get-seen link_at s.links i l is) (end_fits (is_over l) (is_some (after_quiet setting.patience l.hearing).over) i (pipeline_of setting s.links) l))

pub lost_keeps : (setting : Setting) (s : Standing) (i segment : ℕ) (l : LinkNow) → IsKept setting s → slice_get s.links i ≡ Some l → Keeps (pipeline_of setting s.links) (pipeline_of setting (is_lost i l s).links) i segment
lost_keeps setting s i segment l kept is =
    let P : Pipeline → Type 0 = λ p. Keeps (pipeline_of setting s.links) p i segment in
    subst P (sym (end_follows setting s i l (is_over l) is refl))
    (call_keeps (end_call l) (pipeline_of setting s.links) i segment (link_at l) kept.exclusive (get-seen link_at s.links i l is) (lost_fits (is_over l) i (pipeline_of setting s.links) l))
