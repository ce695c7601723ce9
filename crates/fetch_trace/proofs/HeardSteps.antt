-- Each event keeps what is carried of a link in step with what the link's own events say.
use Rattle.std.proofs.Common.{◌≡◌, ◌≢◌, ◌<◌, ◌⊎◌, inl, inr, ℕ, Bool, true, false, not, ◌||◌, List, [], ◌∷◌, ◌++◌, Option, Some, None, length, drop, map, refl, ap, sym, subst, ◌∙◌, arith, append_assoc, append-nil, length-append, ◌≤◌}
use Rattle.std.specs.Prelude.{cond, is_some, ◌==◌}
use Rattle.std.proofs.lemmas.List.{map-append}
use Rattle.io_traits.specs.declared.links.LinkEvent.{LinkEvent}
use Rattle.io_traits.specs.declared.links.LinkEvent.TheVariants as event
use Rattle.io_traits.specs.Trace.{sent}
use Rattle.nntp_lines.specs.declared.why.Why.{Why}
use Rattle.nntp_lines.specs.declared.login.Login.{Login}
use Rattle.nntp_lines.specs.Command.{pass_line, crlf}
use Rattle.link_dialog.specs.declared.awaited.Awaited.{Awaited}
use Rattle.link_dialog.specs.declared.awaited.Awaited.TheVariants.{Pass}
use Rattle.link_dialog.specs.Replies.{Reply}
use Rattle.link_dialog.specs.Events.{fine}
use Rattle.link_dialog.specs.Dialog.{Message, message_of, AreFull, all_bytes, asked_by}
use Rattle.link_dialog.proofs.EventSteps.{sent-append, fine-append, sent-fine}
use Rattle.link_dialog.proofs.MomentSteps.{over_stays}
use Rattle.lists.specs.Edit.{edit_at}
use Rattle.pipeline_core.specs.PipelineAt.{Pipeline}
use Rattle.pipeline_core.specs.Pipeline.{next_segment, is_finished}
use Rattle.range_assembler.specs.declared.assembler.Clash.{Clash}
use Rattle.range_assembler.specs.Entries.{least_clash, kept_size}
use Rattle.range_assembler.specs.Claims.{file_at}
use Rattle.fetch_trace.specs.Setting.{Setting}
use Rattle.fetch_trace.specs.Hearing.{Hearing, after_byte, after_quiet, after_end, after_sent}
use Rattle.fetch_trace.specs.Verdicts.{Range, range_of, verdict_of}
use Rattle.fetch_trace.specs.LinkNow.{LinkNow, Saying, Asking, is_over, is_ready, waiting_of, with_hearing, with_asking}
use Rattle.fetch_trace.specs.Standing.{Standing, pipeline_of, with_link}
use Rattle.fetch_trace.specs.Due.{Due, login_by, login_due, ask_or_quit, body_due}
use Rattle.fetch_trace.specs.Moving.{begun_with, awaited_after, with_saying, begins, says, loses, answers, claims_by, claims, goes_on, replies_by}
use Rattle.fetch_trace.specs.Lawful.{IsFront, IsPieceDue}
use Rattle.fetch_trace.specs.HeardOn.{Listens, HeardBy, HeardAs, is_body, bodies_of, body_message, IsSaid, HeardOn}
use Rattle.fetch_trace.proofs.Settled.{live_none}
use Rattle.fetch_trace.proofs.Standings.{login_due_asks_none}
use Rattle.fetch_trace.proofs.Alone.{byte_alone, quiet_alone, end_alone, sent_alone}
use Rattle.fetch_trace.proofs.Messages.{all_bytes_more, full_more, bodies_more, asked_piece}

-- ---- the link that an event leaves

pub record Becomes (s after : Standing) (i : ℕ) (l : LinkNow) (hearing : Hearing) : Type 0 where
  pub now : LinkNow
  pub links : after.links ≡ edit_at i (λ old. now) s.links
  pub hearing_is : now.hearing ≡ hearing
  pub opening_is : now.opening ≡ l.opening
  pub saying_is : now.saying ≡ l.saying
  pub commands_are : now.asking.commands ≡ l.asking.commands
  pub answered : length l.asking.verdicts ≤ length now.asking.verdicts

pub as_heard : (s : Standing) (i : ℕ) (l : LinkNow) (hearing : Hearing) → Becomes s (with_link i (with_hearing hearing l) s) i l hearing
as_heard s i l hearing = record { now = with_hearing hearing l; links = refl; hearing_is = refl; opening_is = refl; saying_is = refl; commands_are = refl; answered = omega arith }

claims_by_becomes : (s : Standing) (i : ℕ) (l : LinkNow) (hearing : Hearing) (segment : ℕ) (range : Range) (clash : Option Clash) → Becomes s (claims_by hearing segment range clash i l s) i l hearing
claims_by_becomes s i l hearing segment range None = record { now = with_hearing hearing l; links = refl; hearing_is = refl; opening_is = refl; saying_is = refl; commands_are = refl; answered = omega arith }
claims_by_becomes s i l hearing segment range (Some clash) = record {
  now = with_asking hearing (record { commands = l.asking.commands; verdicts = l.asking.verdicts; against = Some clash }) l;
  links = refl;
  hearing_is = refl;
  opening_is = refl;
  saying_is = refl;
  commands_are = refl;
  answered = omega arith;
}

claims_becomes : (s : Standing) (i : ℕ) (l : LinkNow) (hearing : Hearing) (before now : Option Range) (waiting : List ℕ) → Becomes s (claims hearing before now waiting i l s) i l hearing
claims_becomes s i l hearing None (Some range) (segment ∷ waiting) = claims_by_becomes s i l hearing segment range (least_clash 0 (file_at s.entries segment) range.first range.last s.entries)
claims_becomes s i l hearing None (Some range) [] = as_heard s i l hearing
claims_becomes s i l hearing None None waiting = as_heard s i l hearing
claims_becomes s i l hearing (Some range) now waiting = as_heard s i l hearing

goes_becomes : (s : Standing) (i : ℕ) (l : LinkNow) (hearing : Hearing) (b : Bool) → Becomes s (goes_on hearing b i l s) i l hearing
goes_becomes s i l hearing true = claims_becomes s i l hearing (range_of l.hearing.rest) (range_of hearing.rest) (waiting_of l.asking)
goes_becomes s i l hearing false = as_heard s i l hearing

pub loses_becomes : (s : Standing) (i : ℕ) (l : LinkNow) (hearing : Hearing) → Becomes s (loses hearing i l s) i l hearing
loses_becomes s i l hearing = record {
  now = with_hearing hearing l;
  links = refl;
  hearing_is = refl;
  opening_is = refl;
  saying_is = refl;
  commands_are = refl;
  answered = omega arith;
}

pub either : (s one two : Standing) (i : ℕ) (l : LinkNow) (hearing : Hearing) (b : Bool) → Becomes s one i l hearing → Becomes s two i l hearing → Becomes s (cond b one two) i l hearing
either s one two i l hearing true first second = first
either s one two i l hearing false first second = second

answers_becomes : (s : Standing) (i : ℕ) (l : LinkNow) (hearing : Hearing) (reply : Reply) (waiting : List ℕ) → Becomes s (answers hearing reply waiting i l s) i l hearing
answers_becomes s i l hearing reply [] = as_heard s i l hearing
answers_becomes s i l hearing reply (segment ∷ waiting) = record {
  now = with_asking hearing (record { commands = l.asking.commands; verdicts = l.asking.verdicts ++ verdict_of l.asking.against (kept_size (file_at s.entries segment) s.entries) reply ∷ []; against = None }) l;
  links = refl;
  hearing_is = refl;
  opening_is = refl;
  saying_is = refl;
  commands_are = refl;
  answered = (let more = length-append l.asking.verdicts (verdict_of l.asking.against (kept_size (file_at s.entries segment) s.entries) reply ∷ []) in omega (arith, more));
}

pub replies_becomes : (s : Standing) (i : ℕ) (l : LinkNow) (hearing : Hearing) (whole : Option Reply) (b : Bool) → Becomes s (replies_by hearing whole b i l s) i l hearing
replies_becomes s i l hearing (Some reply) true = answers_becomes s i l hearing reply (waiting_of l.asking)
replies_becomes s i l hearing (Some reply) false = as_heard s i l hearing
replies_becomes s i l hearing None b = either s (loses hearing i l s) (goes_on hearing b i l s) i l hearing (is_some hearing.over) (loses_becomes s i l hearing) (goes_becomes s i l hearing b)

-- ---- one link

-- what is carried is said of these events by their bytes alone
pub heard_same : (setting : Setting) (own other : List LinkEvent) (l : LinkNow) → fine own ≡ fine other → HeardOn setting own l → HeardOn setting other l
heard_same setting own other l same old =
    let sent_same : sent own ≡ sent other = sym (sent-fine own) ∙ ap sent same ∙ sent-fine other in
    record {
      said = old.said;
      full = old.full;
      goes = by l.saying.unsent sent_same old.goes;
      asks = old.asks;
      hears = λ more full. subst (λ (m : List LinkEvent). HeardAs setting.patience (asked_by (old.said ++ more)) m l.hearing) same (old.hears more full);
    }
  where
    by : (unsent : List ℕ) → sent own ≡ sent other → IsSaid own l.saying.kind old.said unsent → IsSaid other l.saying.kind old.said unsent
    by [] is goes = sym is ∙ goes
    by (byte ∷ unsent) is goes = (goes.0, (goes.1.0, (goes.1.1.0, sym is ∙ goes.1.1.1)))

said_more : (own : List LinkEvent) (e : LinkEvent) (kind : Awaited) (said : List Message) (unsent : List ℕ) → sent (e ∷ []) ≡ [] → IsSaid own kind said unsent → IsSaid (own ++ e ∷ []) kind said unsent
said_more own e kind said [] none goes = sent-append own (e ∷ []) ∙ ap (λ (bs : List ℕ). sent own ++ bs) none ∙ append-nil (sent own) ∙ goes
said_more own e kind said (byte ∷ unsent) none goes = (goes.0, (goes.1.0, (goes.1.1.0, sent-append own (e ∷ []) ∙ ap (λ (bs : List ℕ). sent own ++ bs) none ∙ append-nil (sent own) ∙ goes.1.1.1)))

fine_more : (own : List LinkEvent) (e : LinkEvent) → fine (e ∷ []) ≡ e ∷ [] → fine (own ++ e ∷ []) ≡ fine own ++ e ∷ []
fine_more own e is = fine-append own (e ∷ []) ∙ ap (λ (es : List LinkEvent). fine own ++ es) is

-- an event that sends nothing
unsent_step : (setting : Setting) (own : List LinkEvent) (e : LinkEvent) (l now : LinkNow) (hearing : Hearing) → sent (e ∷ []) ≡ [] → fine (e ∷ []) ≡ e ∷ [] → now.hearing ≡ hearing → now.saying ≡ l.saying → now.asking.commands ≡ l.asking.commands →
    ((said : List Message) → HeardAs setting.patience (asked_by said) (fine own) l.hearing → HeardAs setting.patience (asked_by said) (fine own ++ e ∷ []) hearing) → HeardOn setting own l → HeardOn setting (own ++ e ∷ []) now
unsent_step setting own e l now hearing none one hearing_is saying_is commands_are step old = record {
  said = old.said;
  full = old.full;
  goes = ap2 (said_more own e l.saying.kind old.said l.saying.unsent none old.goes);
  asks = old.asks ∙ ap (λ (cs : List ℕ). map (body_message setting) cs) (sym commands_are);
  hears = λ more full.
      (let P : List LinkEvent → Type 0 = λ m. HeardAs setting.patience (asked_by (old.said ++ more)) m hearing in
      let Q : Hearing → Type 0 = λ h. HeardAs setting.patience (asked_by (old.said ++ more)) (fine (own ++ e ∷ [])) h in
      subst Q (sym hearing_is) (subst P (sym (fine_more own e one)) (step (old.said ++ more) (old.hears more full))));
}
  where
    ap2 : IsSaid (own ++ e ∷ []) l.saying.kind old.said l.saying.unsent → IsSaid (own ++ e ∷ []) now.saying.kind old.said now.saying.unsent
    ap2 goes = subst (λ (a : Saying). IsSaid (own ++ e ∷ []) a.kind old.said a.unsent) (sym saying_is) goes

-- what is heard on a link that isn't over
listens : (p : ℕ) (asked : List ℕ → List Awaited) (m : List LinkEvent) (h : Hearing) → h.over ≡ None → HeardAs p asked m h → Listens p asked m h
listens p asked m h none heard = subst (λ (o : Option Why). HeardBy p asked m h o) none heard

-- and on one that is over
still_over : (p : ℕ) (asked : List ℕ → List Awaited) (m more : List LinkEvent) (h : Hearing) (reason : Why) → h.over ≡ Some reason → HeardAs p asked m h → HeardAs p asked (m ++ more) h
still_over p asked m more h reason is heard =
    subst (λ (o : Option Why). HeardBy p asked (m ++ more) h o) (sym is) (over_stays p asked m more reason h.replies (subst (λ (o : Option Why). HeardBy p asked m h o) is heard))

over_some : (o : Option Why) (number : ℕ) → (is_some o || not (is_some (Some number))) ≡ true → (reason : Why) × (o ≡ Some reason)
over_some None number is = cc
over_some (Some reason) number is = (reason, refl)

over_now : (l : LinkNow) (n : ℕ) → l.opening.number ≡ Some n → is_over l ≡ true → (reason : Why) × (l.hearing.over ≡ Some reason)
over_now l n number over = over_some l.hearing.over n (ap (λ (o : Option ℕ). is_some l.hearing.over || not (is_some o)) (sym number) ∙ over)

-- an event on a link that is over
pub over_step : (setting : Setting) (own : List LinkEvent) (e : LinkEvent) (l : LinkNow) (n : ℕ) → sent (e ∷ []) ≡ [] → fine (e ∷ []) ≡ e ∷ [] → l.opening.number ≡ Some n → is_over l ≡ true → HeardOn setting own l → HeardOn setting (own ++ e ∷ []) l
over_step setting own e l n none one number over old =
    let reason = over_now l n number over in
    unsent_step setting own e l l l.hearing none one refl refl refl (λ said heard. still_over setting.patience (asked_by said) (fine own) (e ∷ []) l.hearing reason.0 reason.1 heard) old

pub byte_step : (setting : Setting) (own : List LinkEvent) (n byte : ℕ) (l now : LinkNow) → 0 < setting.patience → is_over l ≡ false → now.hearing ≡ after_byte byte l.hearing → now.saying ≡ l.saying → now.asking.commands ≡ l.asking.commands → HeardOn setting own l → HeardOn setting (own ++ event.Heard n (byte ∷ []) ∷ []) now
byte_step setting own n byte l now some live hearing_is saying_is commands_are old =
    unsent_step setting own (event.Heard n (byte ∷ [])) l now (after_byte byte l.hearing) refl refl hearing_is saying_is commands_are
    (λ said heard. (let e : l.hearing ≡ record { replies = l.hearing.replies; waiting = l.hearing.waiting; rest = l.hearing.rest; quiets = l.hearing.quiets; over = None } =
    ap (λ (o : Option Why). record { replies = l.hearing.replies; waiting = l.hearing.waiting; rest = l.hearing.rest; quiets = l.hearing.quiets; over = o }) (live_none l live) in
    let now_listens = listens setting.patience (asked_by said) (fine own) l.hearing (live_none l live) heard in
    subst (λ (h : Hearing). HeardAs setting.patience (asked_by said) (fine own ++ event.Heard n (byte ∷ []) ∷ []) (after_byte byte h)) (sym e)
    (byte_alone setting.patience (asked_by said) (fine own) n byte l.hearing.replies l.hearing.waiting l.hearing.rest l.hearing.quiets some (record { listening = now_listens.listening; quiets = now_listens.quiets; few = now_listens.few })))) old

pub quiet_step : (setting : Setting) (own : List LinkEvent) (n : ℕ) (l now : LinkNow) → is_over l ≡ false → now.hearing ≡ after_quiet setting.patience l.hearing → now.saying ≡ l.saying → now.asking.commands ≡ l.asking.commands → HeardOn setting own l → HeardOn setting (own ++ event.Quiet n ∷ []) now
quiet_step setting own n l now live hearing_is saying_is commands_are old =
    unsent_step setting own (event.Quiet n) l now (after_quiet setting.patience l.hearing) refl refl hearing_is saying_is commands_are
    (λ said heard. quiet_alone setting.patience (asked_by said) (fine own) n l.hearing (listens setting.patience (asked_by said) (fine own) l.hearing (live_none l live) heard)) old

pub end_step : (setting : Setting) (own : List LinkEvent) (n : ℕ) (l now : LinkNow) → is_over l ≡ false → now.hearing ≡ after_end l.hearing → now.saying ≡ l.saying → now.asking.commands ≡ l.asking.commands → HeardOn setting own l → HeardOn setting (own ++ event.Ended n ∷ []) now
end_step setting own n l now live hearing_is saying_is commands_are old =
    unsent_step setting own (event.Ended n) l now (after_end l.hearing) refl refl hearing_is saying_is commands_are
    (λ said heard. end_alone setting.patience (asked_by said) (fine own) n l.hearing (listens setting.patience (asked_by said) (fine own) l.hearing (live_none l live) heard)) old

-- ---- a piece that is sent

drop_front : (front back : List ℕ) → drop (length front) (front ++ back) ≡ back
drop_front [] back = refl
drop_front (x ∷ front) back = drop_front front back

-- a piece of a message of which a part went out
said_on : (own : List LinkEvent) (n : ℕ) (kind : Awaited) (done : List Message) (part piece : List ℕ) (byte : ℕ) (unsent rest : List ℕ) → sent own ≡ all_bytes done ++ part → piece ++ rest ≡ byte ∷ unsent → IsSaid (own ++ event.Sent n piece ∷ []) kind (done ++ message_of kind (part ++ byte ∷ unsent) ∷ []) rest
said_on own n kind done part piece byte unsent [] was is =
    let whole : piece ≡ byte ∷ unsent = sym (append-nil piece) ∙ is in
    sent-append own (event.Sent n piece ∷ []) ∙ ap (λ (bs : List ℕ). sent own ++ bs) (append-nil piece ∙ whole) ∙ ap (λ (bs : List ℕ). bs ++ byte ∷ unsent) was ∙ append_assoc (all_bytes done) part (byte ∷ unsent)
    ∙ sym (all_bytes_more done (message_of kind (part ++ byte ∷ unsent)))
said_on own n kind done part piece byte unsent (next ∷ rest) was is =
    let bytes_are : part ++ byte ∷ unsent ≡ (part ++ piece) ++ next ∷ rest = ap (λ (bs : List ℕ). part ++ bs) (sym is) ∙ sym (append_assoc part piece (next ∷ rest)) in (
      done,
      (
        part ++ piece,
        (
          ap (λ (bs : List ℕ). done ++ message_of kind bs ∷ []) bytes_are,
          sent-append own (event.Sent n piece ∷ []) ∙ ap (λ (bs : List ℕ). sent own ++ bs) (append-nil piece) ∙ ap (λ (bs : List ℕ). bs ++ piece) was ∙ append_assoc (all_bytes done) part piece,
        ),
      ),
    )

some_bytes : (part : List ℕ) (byte : ℕ) (unsent : List ℕ) → 0 < length (part ++ byte ∷ unsent)
some_bytes part byte unsent = let long = length-append part (byte ∷ unsent) in omega (arith, long)

piece_step : (setting : Setting) (own : List LinkEvent) (n : ℕ) (l : LinkNow) (kind : Awaited) (done : List Message) (part piece : List ℕ) (byte : ℕ) (unsent rest : List ℕ) (asking : Asking) → 0 < setting.patience → is_over l ≡ false → AreFull done → sent own ≡ all_bytes done ++ part → piece ++ rest ≡ byte ∷ unsent →
    bodies_of (done ++ message_of kind (part ++ byte ∷ unsent) ∷ []) ≡ map (body_message setting) asking.commands →
    ((more : List Message) → AreFull more → HeardAs setting.patience (asked_by (done ++ message_of kind (part ++ byte ∷ unsent) ∷ more)) (fine own) l.hearing) → HeardOn setting (own ++ event.Sent n piece ∷ []) (with_saying kind rest asking l)
piece_step setting own n l kind done part piece byte unsent rest asking some live full was is asks hears =
    let message = message_of kind (part ++ byte ∷ unsent) in
    record {
      said = done ++ message ∷ [];
      full = full_more done message full (some_bytes part byte unsent);
      goes = said_on own n kind done part piece byte unsent rest was is;
      asks = asks;
      hears = λ more are_full.
          (let P : List Message → Type 0 = λ ms. HeardAs setting.patience (asked_by ms) (fine (own ++ event.Sent n piece ∷ [])) (after_sent (awaited_after kind rest) l.hearing) in
          let Q : List LinkEvent → Type 0 = λ m. HeardAs setting.patience (asked_by (done ++ message ∷ more)) m (after_sent (awaited_after kind rest) l.hearing) in
          let bytes_are : sent (fine own) ≡ all_bytes done ++ part = sent-fine own ∙ was in
          let more_asked : asked_by (done ++ message ∷ more) (sent (fine own) ++ piece) ≡ asked_by (done ++ message ∷ more) (sent (fine own)) ++ awaited_after kind rest =
          ap (λ (bs : List ℕ). asked_by (done ++ message ∷ more) (bs ++ piece)) bytes_are ∙ asked_piece done kind more part piece byte unsent rest are_full is ∙ ap (λ (bs : List ℕ). asked_by (done ++ message ∷ more) bs ++ awaited_after kind rest) (sym bytes_are) in
          subst P (sym (append_assoc done (message ∷ []) more)) (subst Q (sym (fine_more own (event.Sent n piece) refl))
          (sent_alone setting.patience (asked_by (done ++ message ∷ more)) (fine own) n piece (awaited_after kind rest) l.hearing some
          (listens setting.patience (asked_by (done ++ message ∷ more)) (fine own) l.hearing (live_none l live) (hears more are_full)) more_asked)));
    }

-- ---- which command is due

-- it is a BODY exactly where it asks for a segment
no_body : (setting : Setting) (kind : Awaited) (text : List ℕ) (commands : List ℕ) (done : List Message) → is_body kind ≡ false → bodies_of done ≡ map (body_message setting) commands → bodies_of (done ++ message_of kind text ∷ []) ≡ map (body_message setting) commands
no_body setting kind text commands done not_one is =
    bodies_more done (message_of kind text) ∙ ap (λ b. bodies_of done ++ cond b (message_of kind text ∷ []) []) not_one ∙ append-nil (bodies_of done) ∙ is

one_body : (setting : Setting) (segment : ℕ) (commands : List ℕ) (done : List Message) → bodies_of done ≡ map (body_message setting) commands → bodies_of (done ++ body_message setting segment ∷ []) ≡ map (body_message setting) (commands ++ segment ∷ [])
one_body setting segment commands done is =
    bodies_more done (body_message setting segment) ∙ ap (λ (ms : List Message). ms ++ body_message setting segment ∷ []) is ∙ sym (map-append (body_message setting) commands (segment ∷ []))

-- of a due command: no BODY and no segment, or the BODY of the segment
abbrev pub IsOne : Setting → Due → Type 0
IsOne setting due = ((is_body due.kind ≡ false) × (due.segment ≡ None)) ⊎ ((segment : ℕ) × (due ≡ body_due setting segment))

login_one : (setting : Setting) (login : Login) (replies : List Reply) (due : Due) → login_by login replies ≡ Some due → IsOne setting due
login_one setting login [] due is = cc
login_one setting login (greeting ∷ []) due is = inl (let e : Some false ≡ Some (is_body due.kind) = ap kind_of is in let k : is_body due.kind ≡ false = cc in k, login_due_asks_none (Some login) (greeting ∷ []) [] due is)
  where
    kind_of : Option Due → Option Bool
    kind_of (Some d) = Some (is_body d.kind)
    kind_of None = None
login_one setting login (greeting ∷ answer ∷ []) due is = inl (by (answer.code == 381) is, login_due_asks_none (Some login) (greeting ∷ answer ∷ []) [] due is)
  where
    by : (b : Bool) → cond b (Some (record { kind = Pass; text = pass_line login.pass ++ crlf; segment = None })) None ≡ Some due → is_body due.kind ≡ false
    by true e = let password : Due = record { kind = Pass; text = pass_line login.pass ++ crlf; segment = None } in let same : password ≡ due = cc in ap (λ (d : Due). is_body d.kind) (sym same)
    by false e = cc
login_one setting login (greeting ∷ answer ∷ more ∷ replies) due is = cc

login_due_one : (setting : Setting) (login : Option Login) (replies : List Reply) (waiting : List Awaited) (due : Due) → login_due login replies waiting ≡ Some due → IsOne setting due
login_due_one setting None replies waiting due is = cc
login_due_one setting (Some login) replies (kind ∷ kinds) due is = cc
login_due_one setting (Some login) replies [] due is = login_one setting login replies due is

some_due : (one two : Due) → Some one ≡ Some two → one ≡ two
some_due one two is = cc

ask_one : (setting : Setting) (next : Option ℕ) (finished quits : Bool) (due : Due) → ask_or_quit setting next finished quits ≡ Some due → IsOne setting due
ask_one setting next finished true due is = cc
ask_one setting (Some segment) finished false due is = inr (segment, sym (some_due (body_due setting segment) due is))
ask_one setting None true false due is = inl (ap (λ (d : Due). is_body d.kind) (sym (some_due _ due is)), ap (λ (d : Due). d.segment) (sym (some_due _ due is)))
ask_one setting None false false due is = cc

due_one : (setting : Setting) (p : Pipeline) (i : ℕ) (l : LinkNow) (over ready : Bool) (due : Due) → cond over None (cond ready (ask_or_quit setting (next_segment p i) (is_finished p) l.saying.quits) (login_due l.opening.login l.hearing.replies l.hearing.waiting)) ≡ Some due → IsOne setting due
due_one setting p i l true ready due is = cc
due_one setting p i l false true due is = ask_one setting (next_segment p i) (is_finished p) l.saying.quits due is
due_one setting p i l false false due is = login_due_one setting l.opening.login l.hearing.replies l.hearing.waiting due is

due_bodies : (setting : Setting) (due : Due) (a : Asking) (done : List Message) → IsOne setting due → bodies_of done ≡ map (body_message setting) a.commands → bodies_of (done ++ message_of due.kind due.text ∷ []) ≡ map (body_message setting) (begun_with due.segment a).commands
due_bodies setting due a done (inl none) is =
    no_body setting due.kind due.text a.commands done none.0 is ∙ ap (λ (o : Option ℕ). map (body_message setting) (begun_with o a).commands) (sym none.1)
due_bodies setting due a done (inr one) is =
    subst (λ (d : Due). bodies_of (done ++ message_of d.kind d.text ∷ []) ≡ map (body_message setting) (begun_with d.segment a).commands) (sym one.1) (one_body setting one.0 a.commands done is)

-- ---- a piece, of a command that is due or was begun

full_front : (done : List Message) (message : Message) → AreFull (done ++ message ∷ []) → AreFull done
full_front [] message full = tt
full_front (first ∷ done) message full = (full.0, full_front done message full.1)

no_front : (piece : List ℕ) (rest : List ℕ) → piece ≢ [] → piece ++ rest ≡ [] → ⊥
no_front [] rest some is = some refl
no_front (x ∷ piece) rest some is = cc

begin_step : (setting : Setting) (own : List LinkEvent) (n : ℕ) (l : LinkNow) (due : Due) (piece text : List ℕ) → 0 < setting.patience → is_over l ≡ false → IsOne setting due → due.text ≡ text → IsFront piece text → l.saying.unsent ≡ [] → HeardOn setting own l → HeardOn setting (own ++ event.Sent n piece ∷ []) (begins piece (Some due) l)
begin_step setting own n l due piece [] some live one is front whole old = absurd (no_front piece front.1.0 front.0 front.1.1)
begin_step setting own n l due piece (byte ∷ text) some live one is front whole old =
    let was : sent own ≡ all_bytes old.said = subst (λ (u : List ℕ). IsSaid own l.saying.kind old.said u) whole old.goes in
    let rest : drop (length piece) due.text ≡ front.1.0 = ap (λ (bs : List ℕ). drop (length piece) bs) (is ∙ sym front.1.1) ∙ drop_front piece front.1.0 in
    let asks = due_bodies setting due l.asking old.said one old.asks in
    subst (λ (r : List ℕ). HeardOn setting (own ++ event.Sent n piece ∷ []) (with_saying due.kind r (begun_with due.segment l.asking) l)) (sym rest)
    (piece_step setting own n l due.kind old.said [] piece byte text front.1.0 (begun_with due.segment l.asking) some live old.full (was ∙ sym (append-nil (all_bytes old.said))) front.1.1
    (ap (λ (bs : List ℕ). bodies_of (old.said ++ message_of due.kind bs ∷ [])) (sym is) ∙ asks)
    (λ more full. old.hears (message_of due.kind (byte ∷ text) ∷ more) (omega arith, full)))

go_on_step : (setting : Setting) (own : List LinkEvent) (n : ℕ) (l : LinkNow) (piece : List ℕ) (byte : ℕ) (unsent : List ℕ) → 0 < setting.patience → is_over l ≡ false → l.saying.unsent ≡ byte ∷ unsent → IsFront piece (byte ∷ unsent) → HeardOn setting own l →
    HeardOn setting (own ++ event.Sent n piece ∷ []) (with_saying l.saying.kind (drop (length piece) (byte ∷ unsent)) l.asking l)
go_on_step setting own n l piece byte unsent some live is front old =
    let goes = subst (λ (u : List ℕ). IsSaid own l.saying.kind old.said u) is old.goes in
    let done = goes.0 in
    let part = goes.1.0 in
    let message = message_of l.saying.kind (part ++ byte ∷ unsent) in
    let said_is : old.said ≡ done ++ message ∷ [] = goes.1.1.0 in
    let full : AreFull (done ++ message ∷ []) = subst AreFull said_is old.full in
    let rest : drop (length piece) (byte ∷ unsent) ≡ front.1.0 = ap (λ (bs : List ℕ). drop (length piece) bs) (sym front.1.1) ∙ drop_front piece front.1.0 in
    subst (λ (r : List ℕ). HeardOn setting (own ++ event.Sent n piece ∷ []) (with_saying l.saying.kind r l.asking l)) (sym rest)
    (piece_step setting own n l l.saying.kind done part piece byte unsent front.1.0 l.asking some live (full_front done message full) goes.1.1.1 front.1.1
    (ap bodies_of (sym said_is) ∙ old.asks)
    (λ more are_full. (let P : List Message → Type 0 = λ ms. HeardAs setting.patience (asked_by ms) (fine own) l.hearing in
    subst P (append_assoc done (message ∷ []) more) (subst (λ (ms : List Message). HeardAs setting.patience (asked_by (ms ++ more)) (fine own) l.hearing) said_is (old.hears more are_full)))))

pub sent_step : (setting : Setting) (own : List LinkEvent) (s : Standing) (i n : ℕ) (l : LinkNow) (piece unsent : List ℕ) → 0 < setting.patience → is_over l ≡ false → l.saying.unsent ≡ unsent → IsPieceDue setting s piece i l unsent → HeardOn setting own l → HeardOn setting (own ++ event.Sent n piece ∷ []) (says setting piece unsent i l s)
sent_step setting own s i n l piece [] some live is turn old =
    let one = due_one setting (pipeline_of setting s.links) i l (is_over l) (is_ready l) turn.0 turn.1 in
    subst (λ (o : Option Due). HeardOn setting (own ++ event.Sent n piece ∷ []) (begins piece o l)) (sym turn.1) (begin_step setting own n l turn.0 piece turn.0.text some live one refl turn.2 is old)
sent_step setting own s i n l piece (byte ∷ unsent) some live is turn old = go_on_step setting own n l piece byte unsent some live is turn old
