-- What the bytes of a status line do.
use Rattle.std.proofs.Common.{◌≡◌, ◌≢◌, ◌<◌, ◌≤◌, ◌+◌, ◌-◌, ℕ, Bool, true, false, List, [], ◌∷◌, ◌++◌, Option, Some, None, Result, Ok, Err, refl, ap, sym, subst, ◌∙◌, append_assoc, append-nil, length, length-append, arith, take, get_or}
use Rattle.std.specs.Prelude.{nat_le, cond}
use Rattle.std.proofs.lemmas.Bool.Decides.{nat_tests}
use Rattle.std.proofs.lemmas.List.{length-take, take_more, take_all}
use Rattle.nntp_lines.specs.declared.why.Why.{Why}
use Rattle.link_dialog.specs.declared.awaited.Awaited.{Awaited}
use Rattle.link_dialog.specs.declared.awaited.Awaited.TheVariants.{Greeting, User, Pass, Post, Article, Group, Over, Body, Quit}
use Rattle.link_dialog.specs.declared.reader.Reader.{Reader}
use Rattle.link_dialog.specs.Reader.{HoldsRest, IsLine, held, heard_len}
use Rattle.link_dialog.specs.Replies.{Reply, first_line, has_block, judged, reply_of, reply_judged, whole_reply, why_of_rest, why_of_line, why_judged, most}
use Rattle.link_dialog.proofs.ReaderSteps.{line_is_reply}
use Rattle.link_dialog.proofs.BlockSteps.{block_goes_on, nothing_none}
use Rattle.link_dialog.proofs.BlockHearings.{status_long}
use Rattle.range_assembler.specs.declared.assembler.Clash.{Clash}
use Rattle.fused_decoder.specs.declared.state.Mode.{Mode}
use Rattle.fused_decoder.specs.declared.state.Mode.TheVariants.{Unasked}
use Rattle.fused_decoder.specs.Stands as decoder
use Rattle.fused_decoder.specs.Steps.{IsGiven, Gives}
use Rattle.fetch_trace.specs.Hearing.{Hearing, whole_by, read_as}
use Rattle.fetch_trace.specs.Verdicts.{range_of}
use Rattle.fetch_link.specs.declared.connection.Connection.{Connection}
use Rattle.fetch_link.specs.declared.connection.Phase.{Phase}
use Rattle.fetch_link.specs.declared.connection.Phase.TheVariants as phase
use Rattle.fetch_link.specs.declared.taking.What.TheVariants as what
use Rattle.fetch_link.specs.Bytes.{heard_by, IsSilent, AreSilent, block_heard}
use Rattle.fetch_link.specs.Link.{IsAnswered, HasGiven, KnowsSize, InArticle, InPhase, KeepsBlock, LinkStands}
use Rattle.fetch_link.specs.Shown.{block_awaited}
use Rattle.fetch_link.specs.Takes.{Awaits, HasNoBlock, is_article, Takes}
use Rattle.fetch_link.proofs.Hearing.{longer, heard_longer, heard_reply, silent_front, silent_last, no_block, line_silent, alive_shows, stopped_by, stopped}
use Rattle.fetch_link.proofs.Counted.{none_given}
use Rattle.fetch_link.proofs.InArticle.{range_behind, heard_behind}
use Rattle.fetch_link.proofs.Shown.{line_ends}

-- ---- what is awaited

pub record First (kind : Awaited) (waiting : List Awaited) : Type 0 where
  pub kinds : List Awaited
  pub is : waiting ≡ kind ∷ kinds
  pub plain : kind ≢ Over

pub awaits_first : (kind : Awaited) (waiting : List Awaited) → Awaits (Some kind) waiting → First kind waiting
awaits_first kind [] awaits = absurd awaits
awaits_first kind (first ∷ kinds) awaits = record { kinds = kinds; is = ap (λ (k : Awaited). k ∷ kinds) awaits.0; plain = awaits.1 }

pub article_then : (kind : Awaited) (code : ℕ) → is_article kind code ≡ true → (kind ≡ Body) × (code ≡ 222)
article_then Greeting code is = cc
article_then User code is = cc
article_then Pass code is = cc
article_then Post code is = cc
article_then Article code is = cc
article_then Group code is = cc
article_then Over code is = cc
article_then Body code is = (refl, grind (arith, nat_tests))
article_then Quit code is = cc

pub no_article_then : (kind : Awaited) (code : ℕ) → kind ≢ Over → is_article kind code ≡ false → has_block kind code ≡ false
no_article_then Greeting code plain is = refl
no_article_then User code plain is = refl
no_article_then Pass code plain is = refl
no_article_then Post code plain is = refl
no_article_then Article code plain is = refl
no_article_then Group code plain is = refl
no_article_then Over code plain is = absurd (plain refl)
no_article_then Body code plain is = is
no_article_then Quit code plain is = refl

pub in_line : (old : Connection) (h : Hearing) (mode : Mode) (against : Option Clash) → h.over ≡ None → old.phase ≡ phase.Line → LinkStands old h mode against → HoldsRest old.reader h.rest × (mode ≡ Unasked) × (against ≡ None)
in_line old h mode against alive line stands = subst (λ (p : Phase). InPhase p old h mode against) line (stands.listens alive).in_phase

gives_nothing : (mode : Mode) (before after : List ℕ) → mode ≡ Unasked → before ≡ [] → after ≡ [] → Gives mode before after []
gives_nothing mode before after unasked none nothing =
    subst (λ (m : Mode). Gives m before after []) (sym unasked)
    (λ bytes given. subst (IsGiven after) (sym (append-nil bytes)) (subst (λ (b : List ℕ). IsGiven b bytes) (none ∙ sym nothing) given))

-- where bytes end the link they are no whole reply
why_by : (kind : Awaited) (bytes : List ℕ) (reason : Why) (found : Result ℕ Why) (b : Bool) (line after : List ℕ) → nat_le (length bytes) most ≡ b → judged kind line ≡ found → why_judged bytes found ≡ Some reason → cond b (reply_judged kind line after found) None ≡ None
why_by kind bytes reason (Err other) true line after fits is why = refl
why_by kind bytes reason found false line after fits is why = refl
why_by kind bytes reason (Ok code) true line after fits is why = let wrong : None ≡ Some reason = sym (rw fits refl) ∙ why in absurd cc

why_not_whole : (kind : Awaited) (bytes : List ℕ) (reason : Why) → why_of_rest (kind ∷ []) bytes ≡ Some reason → whole_reply kind bytes ≡ None
why_not_whole kind bytes reason why = by_line (first_line bytes) refl (nat_le (length bytes) most) refl
  where
    by_line : (o : Option (List ℕ × List ℕ)) → first_line bytes ≡ o → (b : Bool) → nat_le (length bytes) most ≡ b → whole_reply kind bytes ≡ None
    by_line None is true fits = rw fits (ap (reply_of kind) is)
    by_line None is false fits = rw fits refl
    by_line (Some line) is b fits =
        ap (λ (t : Bool). cond t (reply_of kind (first_line bytes)) None) fits
        ∙ ap (λ (o : Option (List ℕ × List ℕ)). cond b (reply_of kind o) None) is
        ∙ why_by kind bytes reason (judged kind line.0) b line.0 line.1 fits refl (sym (ap (why_of_line kind bytes) is) ∙ why)

-- ---- the line goes on, or ends with the last of the bytes

module _ (old new : Connection) (h : Hearing) (mode : Mode) (against : Option Clash) (kind : Awaited) (piece : List ℕ) (used : ℕ) (awaits : Awaits (Some kind) h.waiting) (alive : h.over ≡ None) (in_phase : old.phase ≡ phase.Line) (stands : LinkStands old h mode against) (some : 0 < used) (within : used ≤ length piece) (quiet : new.quiet ≡ 0) (same_against : new.against ≡ old.against) where
  abbrev pub xs : List ℕ
  xs = take used piece

  abbrev f : First kind h.waiting
  f = awaits_first kind h.waiting awaits

  abbrev was : HoldsRest old.reader h.rest × (mode ≡ Unasked) × (against ≡ None)
  was = in_line old h mode against alive in_phase stands

  abbrev front : List ℕ
  front = take (used - 1) piece

  abbrev final : ℕ
  final = get_or piece (used - 1) 0

  is : xs ≡ front ++ final ∷ []
  is = let one : used - 1 + 1 ≡ used = omega (arith, some) in ap (λ (n : ℕ). take n piece) (sym one) ∙ take_more piece (used - 1) 0 (omega (arith, some, within))

  last_rest : (h.rest ++ front) ++ final ∷ [] ≡ h.rest ++ xs
  last_rest = append_assoc h.rest front (final ∷ []) ∙ ap (λ (t : List ℕ). h.rest ++ t) (sym is)

  waits : (bytes : List ℕ) → AreSilent (kind ∷ f.kinds) h.rest bytes → AreSilent h.waiting h.rest bytes
  waits bytes silent = subst (λ (w : List Awaited). AreSilent w h.rest bytes) (sym f.is) silent

  last_whole : whole_by h.waiting ((h.rest ++ front) ++ final ∷ []) ≡ whole_reply kind (h.rest ++ xs)
  last_whole = ap (λ (w : List Awaited). whole_by w ((h.rest ++ front) ++ final ∷ [])) f.is ∙ ap (whole_reply kind) last_rest

  last_why : why_of_rest h.waiting ((h.rest ++ front) ++ final ∷ []) ≡ why_of_rest (kind ∷ []) (h.rest ++ xs)
  last_why = ap (λ (w : List Awaited). why_of_rest w ((h.rest ++ front) ++ final ∷ [])) f.is ∙ ap (why_of_rest (kind ∷ [])) last_rest

  stood : new.against ≡ against
  stood = same_against ∙ (stands.listens alive).against_is

  -- all of them are silent
  pub line_more : used ≡ length piece → HoldsRest new.reader (h.rest ++ piece) → heard_len new.reader < 512 → new.phase ≡ old.phase → new.over ≡ old.over → Takes new h mode against xs [] what.More
  line_more all reads small same_phase same_over =
      let whole : piece ≡ xs = sym (take_all used piece (omega (arith, all))) in
      let now : HoldsRest new.reader (h.rest ++ xs) = subst (λ (t : List ℕ). HoldsRest new.reader (h.rest ++ t)) whole reads in
      let short : length (h.rest ++ xs) < 512 = (let held_is : length (take new.reader.len new.reader.line) ≡ length (h.rest ++ xs) = ap length now.bytes in omega (arith, small, held_is, length-take new.reader.len new.reader.line)) in
      let silent : AreSilent h.waiting h.rest (front ++ final ∷ []) = subst (AreSilent h.waiting h.rest) is (waits xs (line_silent kind f.kinds xs h.rest now.unfinished short)) in
      let before = silent_front front final h.waiting h.rest silent in
      let last : IsSilent h.waiting (h.rest ++ front) final = silent_last front final h.waiting h.rest silent in
      let heard : heard_by xs h ≡ longer xs h = ap (λ (t : List ℕ). heard_by t h) is ∙ heard_longer front final h before last.0 last.1 ∙ ap (λ (t : List ℕ). longer t h) (sym is) in
      record {
        front = front;
        byte = final;
        bytes_are = is;
        silent = before;
        does = (last, gives_nothing mode (block_heard h.rest) (block_heard ((h.rest ++ front) ++ final ∷ [])) was.1 (no_block h.rest was.0.unfinished) (ap block_heard last_rest ∙ no_block (h.rest ++ xs) now.unfinished));
        stands = subst (λ (k : Hearing). LinkStands new k mode against) (sym heard) (record {
          over_is = same_over ∙ stands.over_is ∙ alive;
          listens = λ on. record {
            quiet_is = quiet;
            against_is = stood;
            stood_is = (stands.listens alive).stood_is;
            in_phase = subst (λ (p : Phase). InPhase p new (longer xs h) mode against) (sym (same_phase ∙ in_phase)) (now, was.1, was.2);
          };
          shows = alive_shows new (longer xs h) mode refl;
        });
      }

  -- the last one isn't
  module _ (none : first_line (h.rest ++ front) ≡ None) (short : length (h.rest ++ front) < 512) where
    before : AreSilent h.waiting h.rest front
    before = waits front (line_silent kind f.kinds front h.rest none short)

    pub line_over : (reason : Why) → why_of_rest (kind ∷ []) (h.rest ++ xs) ≡ Some reason → new.phase ≡ old.phase → new.over ≡ Some reason → Takes new h mode against xs [] (what.Over reason)
    line_over reason why same_phase over =
        let few : length (h.rest ++ xs) ≤ 512 = (let all : length ((h.rest ++ front) ++ final ∷ []) ≡ length (h.rest ++ xs) = ap length last_rest in omega (arith, all, short, length-append (h.rest ++ front) (final ∷ []))) in
        let none_kept : block_awaited h.waiting ((h.rest ++ front) ++ final ∷ []) ≡ None = ap (λ (w : List Awaited). block_awaited w ((h.rest ++ front) ++ final ∷ [])) f.is ∙ ap (block_awaited (kind ∷ f.kinds)) last_rest ∙ line_ends kind f.kinds (h.rest ++ xs) reason few why in
        subst (λ (b : List ℕ). Takes new h mode against b [] (what.Over reason)) (sym is)
        (stopped new h mode against front final reason before (last_whole ∙ why_not_whole kind (h.rest ++ xs) reason why) (last_why ∙ why) over
        (λ is_over shown. subst (λ (p : Phase). KeepsBlock p new (stopped_by ((h.rest ++ front) ++ final ∷ []) reason h) mode) (sym (same_phase ∙ in_phase)) none_kept))

    pub line_reply : (code : ℕ) (line_reader : Reader) → IsLine kind (h.rest ++ xs) code line_reader → is_article kind code ≡ false → HoldsRest new.reader [] → new.phase ≡ old.phase → new.over ≡ old.over → Takes new h mode against xs [] (what.Reply code)
    line_reply code line_reader line other empty same_phase same_over =
        let plain : has_block kind code ≡ false = no_article_then kind code f.plain other in
        let reply : Reply = record { code = code; line = held line_reader; lines = [] } in
        let whole : whole_by h.waiting ((h.rest ++ front) ++ final ∷ []) ≡ Some reply = last_whole ∙ line_is_reply kind (h.rest ++ xs) code line_reader line plain in
        let heard : heard_by xs h ≡ read_as (Some reply) [] h = ap (λ (t : List ℕ). heard_by t h) is ∙ heard_reply front final h reply before whole in
        record {
          front = front;
          byte = final;
          bytes_are = is;
          silent = before;
          does = (record { reply = reply; whole = whole; code_is = refl; no_block = subst (λ (w : List Awaited). HasNoBlock w code) (sym f.is) plain }, refl);
          stands = subst (λ (k : Hearing). LinkStands new k mode against) (sym heard) (record {
            over_is = same_over ∙ stands.over_is ∙ alive;
            listens = λ on. record {
              quiet_is = quiet;
              against_is = stood;
              stood_is = (stands.listens alive).stood_is;
              in_phase = subst (λ (p : Phase). InPhase p new (read_as (Some reply) [] h) mode against) (sym (same_phase ∙ in_phase)) (empty, was.1, was.2);
            };
            shows = alive_shows new (read_as (Some reply) [] h) mode refl;
          });
        }

    pub line_article : (code : ℕ) (line_reader : Reader) → IsLine kind (h.rest ++ xs) code line_reader → is_article kind code ≡ true → HoldsRest new.reader [] → decoder.HasHeard new.fused [] Unasked → new.heard ≡ length (held line_reader) + 2 → new.wrote ≡ 0 → new.phase ≡ phase.Article → new.over ≡ old.over → Takes new h mode against xs [] what.More
    line_article code line_reader line article empty start long none_wrote now_article same_over =
        let both = article_then kind code article in
        let status : IsLine Body (h.rest ++ xs) 222 line_reader = subst (λ (n : ℕ). IsLine Body (h.rest ++ xs) n line_reader) both.1 (subst (λ (k : Awaited). IsLine k (h.rest ++ xs) code line_reader) both.0 line) in
        let bare : (h.rest ++ xs) ++ [] ≡ h.rest ++ xs = append-nil (h.rest ++ xs) in
        let few : length ((h.rest ++ xs) ++ []) ≤ most = (let s = status.short in omega (arith, s, length-append (h.rest ++ xs) [])) in
        let on = block_goes_on Body (h.rest ++ xs) [] 222 line_reader status refl nothing_none few in
        let whole : whole_by h.waiting ((h.rest ++ front) ++ final ∷ []) ≡ None = last_whole ∙ ap (λ (k : Awaited). whole_reply k (h.rest ++ xs)) both.0 ∙ ap (whole_reply Body) (sym bare) ∙ on.0 in
        let why : why_of_rest h.waiting ((h.rest ++ front) ++ final ∷ []) ≡ None = last_why ∙ ap (λ (k : Awaited). why_of_rest (k ∷ []) (h.rest ++ xs)) both.0 ∙ ap (why_of_rest (Body ∷ [])) (sym bare) ∙ on.1 in
        let range : range_of ((h.rest ++ front) ++ final ∷ []) ≡ None = ap range_of (last_rest ∙ sym bare) ∙ range_behind (h.rest ++ xs) [] line_reader status in
        let given : block_heard ((h.rest ++ front) ++ final ∷ []) ≡ [] = ap block_heard (last_rest ∙ sym bare) ∙ heard_behind (h.rest ++ xs) [] line_reader status in
        let heard : heard_by xs h ≡ longer xs h = ap (λ (t : List ℕ). heard_by t h) is ∙ heard_longer front final h before whole why ∙ ap (λ (t : List ℕ). longer t h) (sym is) in
        record {
          front = front;
          byte = final;
          bytes_are = is;
          silent = before;
          does = ((whole, why, λ earlier. range), gives_nothing mode (block_heard h.rest) (block_heard ((h.rest ++ front) ++ final ∷ [])) was.1 (no_block h.rest was.0.unfinished) given);
          stands = subst (λ (k : Hearing). LinkStands new k mode against) (sym heard) (record {
            over_is = same_over ∙ stands.over_is ∙ alive;
            listens = λ alive_still. record {
              quiet_is = quiet;
              against_is = stood;
              stood_is = (stands.listens alive).stood_is;
              in_phase = subst (λ (p : Phase). InPhase p new (longer xs h) mode against) (sym now_article) (in_article both.0 status start long empty none_wrote);
            };
            shows = alive_shows new (longer xs h) mode refl;
          });
        }
      where
        in_article : kind ≡ Body → IsLine Body (h.rest ++ xs) 222 line_reader → decoder.HasHeard new.fused [] Unasked → new.heard ≡ length (held line_reader) + 2 → HoldsRest new.reader [] → new.wrote ≡ 0 → InArticle new (longer xs h) mode
        in_article body status start long empty none_wrote = record {
          kinds = f.kinds;
          waiting_is = f.is ∙ ap (λ (k : Awaited). k ∷ f.kinds) body;
          status = h.rest ++ xs;
          block = [];
          line_reader = line_reader;
          rest_is = sym (append-nil (h.rest ++ xs));
          line = status;
          stands = subst (λ (m : Mode). decoder.HasHeard new.fused [] m) (sym was.1) start;
          heard_is = long ∙ sym (status_long Body (h.rest ++ xs) 222 line_reader status);
          are_bytes = tt;
          is_answered = subst (λ (m : Mode). IsAnswered m (h.rest ++ xs)) (sym was.1) tt;
          reader_is = empty;
          wrote_is = subst (λ (m : Mode). HasGiven m [] new.wrote) (sym was.1) (subst (HasGiven Unasked []) (sym none_wrote) none_given);
          size_is = subst (λ (m : Mode). KnowsSize m (h.rest ++ xs) new.size) (sym was.1) tt;
        }

pub short_line : (kind : Awaited) (rest piece : List ℕ) (used code : ℕ) (line_reader : Reader) → 0 < used → used ≤ length piece → IsLine kind (rest ++ take used piece) code line_reader → length (rest ++ take (used - 1) piece) < 512
short_line kind rest piece used code line_reader some within line =
    let s = line.short in
    omega (arith, s, some, within, length-append rest (take used piece), length-append rest (take (used - 1) piece), length-take used piece, length-take (used - 1) piece)
