-- What the bytes of an article's block do.
use Rattle.std.proofs.Common.{◌≡◌, ◌<◌, ◌≤◌, ◌+◌, ◌-◌, ◌^◌, ℕ, Bool, true, false, List, [], ◌∷◌, ◌++◌, Option, Some, None, Result, Ok, Err, refl, ap, sym, subst, ◌∙◌, append_assoc, append-nil, length, length-append, arith, zero, suc, take, drop, get_or, min}
use Rattle.std.proofs.lemmas.List.{length-take, take-append-drop, take-take, take-append-le}
use Rattle.dot_blocks.specs.Blocks.{IsBlock}
use Rattle.dot_blocks.specs.BlockReading.{front_block}
use Rattle.std.specs.Prelude.{cond, nat_le}
use Rattle.std.specs.Option.{ok_or}
use Rattle.nntp_lines.specs.StatusLine.{code_of, status_of}
use Rattle.nntp_lines.specs.declared.status.StatusFault.{StatusFault}
use Rattle.nntp_lines.specs.declared.status.StatusFault.TheVariants.{NotACode, TooLong}
use Rattle.nntp_lines.specs.declared.why.Why.{Why}
use Rattle.nntp_lines.specs.declared.why.Why.TheVariants as why
use Rattle.limits.specs.declared.TheConstants.{MOST_TEXT_BYTES}
use Rattle.link_dialog.specs.declared.awaited.Awaited.{Awaited}
use Rattle.link_dialog.specs.declared.awaited.Awaited.TheVariants.{Body}
use Rattle.link_dialog.specs.declared.reader.Reader.{Reader}
use Rattle.link_dialog.specs.Reader.{IsLine, held}
use Rattle.link_dialog.specs.Reader as reader
use Rattle.link_dialog.specs.Replies.{Reply, first_line, whole_reply, why_of_rest, most, is_meant, refusal_of, judged_code}
use Rattle.link_dialog.proofs.Greatest.{first_line_stays}
use Rattle.link_dialog.proofs.BlockSteps.{block_goes_on, block_ends, block_too_long, before_end_none}
use Rattle.link_dialog.proofs.Readings.{by_cases}
use Rattle.range_assembler.specs.declared.assembler.Clash.{Clash}
use Rattle.fused_decoder.specs.declared.event.Ending.{Ending}
use Rattle.fused_decoder.specs.declared.state.Mode.{Mode}
use Rattle.fused_decoder.specs.declared.state.Mode.TheVariants.{Unasked, On, Away}
use Rattle.fused_decoder.specs.declared.state.Fused.{Fused}
use Rattle.fused_decoder.specs.Stands.{AreBytes}
use Rattle.fused_decoder.specs.Stands as decoder
use Rattle.fused_decoder.specs.Steps.{IsMoment, IsQuiet, AreQuiet, Gives, GivesAll, HearsMore}
use Rattle.fused_decoder.specs.Steps as steps
use Rattle.fetch_trace.specs.Hearing.{Hearing, whole_by, read_as}
use Rattle.fetch_trace.specs.Verdicts.{Range, range_in, range_of, range_of_block, block_behind, block_of, lines_from}
use Rattle.fetch_trace.proofs.RangeStays.{range_stays}
use Rattle.fetch_trace.proofs.WholeRange.{range_at_end}
use Rattle.fetch_link.specs.Verdict.{Stood}
use Rattle.fetch_link.proofs.Verdict.{ending_is_verdict}
use Rattle.fetch_trace.proofs.Lists.{drop-append}
use Rattle.fetch_link.specs.declared.connection.Connection.{Connection}
use Rattle.fetch_link.specs.declared.connection.Phase.{Phase}
use Rattle.fetch_link.specs.declared.connection.Phase.TheVariants.{Line, Article}
use Rattle.fetch_link.specs.declared.taking.What.TheVariants as what
use Rattle.fetch_link.specs.Bytes.{heard_by, IsSilent, AreSilent, block_heard, block_by}
use Rattle.fetch_link.specs.Link.{IsStood, IsAnswered, HasGiven, KnowsSize, InArticle, InPhase, LinkStands}
use Rattle.fetch_link.specs.Takes.{Takes}
use Rattle.fetch_link.proofs.Hearing.{longer, heard_longer, heard_reply, silent_front, silent_last, Split, split_some, alive_shows, stopped}
use Rattle.fetch_link.proofs.Counted.{has_given}
use Rattle.fetch_link.proofs.HeadRange.{head_is_a_range}
use Rattle.fetch_link.proofs.Blocks.{bytes_front, bytes_both, no_block_in_front, heard_none, moment_there, moment_fixes, none_before_moment}

-- ---- the code of a status line

code_by : (o : Option ℕ) (b : Bool) (code : ℕ) (none long : StatusFault) → cond b (ok_or o none) (Err long) ≡ Ok code → o ≡ Some code
code_by None true code none long is = cc
code_by (Some c) true code none long is = cc
code_by o false code none long is = cc

pub status_code : (line : List ℕ) (code : ℕ) → status_of line ≡ Ok code → code_of line ≡ Some code
unfolding status_of
status_code line code is = code_by (code_of line) (nat_le (length line) 510) code NotACode TooLong is

meant_by : (c code : ℕ) (b : Bool) (reason : Why) → cond b (Ok c) (Err reason) ≡ Ok code → c ≡ code
meant_by c code true reason is = cc
meant_by c code false reason is = cc

judged_status : (line : List ℕ) (found : Result ℕ StatusFault) (code : ℕ) → judged_code Body line found ≡ Ok code → found ≡ Ok code
judged_status line (Err fault) code is = cc
judged_status line (Ok c) code is = ap (λ n. Ok n) (meant_by c code (is_meant Body c) (refusal_of Body c) is)

-- ---- behind the status line

pub block_behind_status : (status block : List ℕ) (line_reader : Reader) → IsLine Body status 222 line_reader → block_of (first_line (status ++ block)) ≡ Some block
block_behind_status status block line_reader line =
    let coded : code_of (held line_reader) ≡ Some 222 = status_code (held line_reader) 222 (judged_status (held line_reader) (status_of (held line_reader)) 222 line.code_is) in
    ap block_of (first_line_stays status block (held line_reader, []) line.line)
    ∙ ap (λ (c : Option ℕ). block_behind c block) coded

pub range_behind : (status block : List ℕ) (line_reader : Reader) → IsLine Body status 222 line_reader → range_of (status ++ block) ≡ range_in (lines_from [] block)
range_behind status block line_reader line = ap range_of_block (block_behind_status status block line_reader line)

pub heard_behind : (status block : List ℕ) (line_reader : Reader) → IsLine Body status 222 line_reader → block_heard (status ++ block) ≡ block
heard_behind status block line_reader line = ap block_by (block_behind_status status block line_reader line)

-- ---- bytes at which nothing is fixed

no_moment : (status block : List ℕ) (x : ℕ) (line_reader : Reader) → IsLine Body status 222 line_reader → front_block (block ++ x ∷ []) ≡ None → AreBytes (block ++ x ∷ []) → IsQuiet (block ++ x ∷ []) → range_of (status ++ block) ≡ None → range_of (status ++ (block ++ x ∷ [])) ≡ None
no_moment status block x line_reader line none bytes quiet before =
    by_cases (range_of (status ++ (block ++ x ∷ [])))
    (λ range is.
    let moment = moment_there block x range none bytes (sym (range_behind status block line_reader line) ∙ before) (sym (range_behind status (block ++ x ∷ []) line_reader line) ∙ is) in
    absurd (quiet moment.0 range.first range.last moment.1))
    (λ is. is)

article_byte : (kinds : List Awaited) (status block : List ℕ) (x : ℕ) (line_reader : Reader) → IsLine Body status 222 line_reader → front_block (block ++ x ∷ []) ≡ None → length (status ++ (block ++ x ∷ [])) ≤ most → AreBytes (block ++ x ∷ []) → IsQuiet (block ++ x ∷ []) → IsSilent (Body ∷ kinds) (status ++ block) x
article_byte kinds status block x line_reader line none few bytes quiet =
    let on = block_goes_on Body status (block ++ x ∷ []) 222 line_reader line refl none few in
    let same : (status ++ block) ++ x ∷ [] ≡ status ++ (block ++ x ∷ []) = append_assoc status block (x ∷ []) in
    (ap (whole_reply Body) same ∙ on.0, ap (why_of_rest (Body ∷ kinds)) same ∙ on.1, λ before. ap range_of same ∙ no_moment status block x line_reader line none bytes quiet before)

article_silent : (kinds : List Awaited) (status : List ℕ) (line_reader : Reader) (xs block : List ℕ) → IsLine Body status 222 line_reader → front_block (block ++ xs) ≡ None → length (status ++ (block ++ xs)) ≤ most → AreBytes (block ++ xs) → AreQuiet block xs → AreSilent (Body ∷ kinds) (status ++ block) xs
article_silent kinds status line_reader [] block line none few bytes quiet = tt
article_silent kinds status line_reader (x ∷ xs) block line none few bytes quiet =
    let split : block ++ x ∷ xs ≡ (block ++ x ∷ []) ++ xs = sym (append_assoc block (x ∷ []) xs) in
    let all_none : front_block ((block ++ x ∷ []) ++ xs) ≡ None = ap front_block (sym split) ∙ none in
    let all_few : length (status ++ ((block ++ x ∷ []) ++ xs)) ≤ most = subst (λ (b : List ℕ). length (status ++ b) ≤ most) split few in
    let all_bytes : AreBytes ((block ++ x ∷ []) ++ xs) = subst AreBytes split bytes in
    let fewer : length (status ++ (block ++ x ∷ [])) ≤ most = omega (arith, all_few, length-append status ((block ++ x ∷ []) ++ xs), length-append status (block ++ x ∷ []), length-append (block ++ x ∷ []) xs) in (
      article_byte kinds status block x line_reader line (no_block_in_front (block ++ x ∷ []) xs all_none) fewer (bytes_front (block ++ x ∷ []) xs all_bytes) quiet.0,
      subst (λ (r : List ℕ). AreSilent (Body ∷ kinds) r xs) (sym (append_assoc status block (x ∷ []))) (article_silent kinds status line_reader xs (block ++ x ∷ []) line all_none all_few all_bytes quiet.1),
    )

stands_none : (f : Fused) (block : List ℕ) (mode : Mode) → decoder.HasHeard f block mode → front_block block ≡ None
stands_none f block mode s = heard_none block s.lines _ s.is_heard.is_heard

-- ---- a range that was answered

answered_stays : (mode : Mode) (rest more : List ℕ) → IsAnswered mode rest → IsAnswered mode (rest ++ more)
answered_stays Unasked rest more answered = tt
answered_stays On rest more answered = (answered.0, range_stays rest more answered.0 answered.1)
answered_stays Away rest more answered = (answered.0, range_stays rest more answered.0 answered.1)

unanswered : (mode : Mode) (rest more : List ℕ) → IsAnswered mode rest → range_of (rest ++ more) ≡ None → mode ≡ Unasked
unanswered Unasked rest more answered none = refl
unanswered On rest more answered none = let some = range_stays rest more answered.0 answered.1 in let wrong : None ≡ Some answered.0 = sym none ∙ some in absurd cc
unanswered Away rest more answered none = let some = range_stays rest more answered.0 answered.1 in let wrong : None ≡ Some answered.0 = sym none ∙ some in absurd cc

-- what stood at the article's end
stood_at : (mode : Mode) (against : Option Clash) (rest more : List ℕ) (byte : ℕ) (reply : Reply) → IsStood mode against → IsAnswered mode rest → whole_reply Body ((rest ++ more) ++ byte ∷ []) ≡ Some reply → Stood mode against (range_in reply.lines)
stood_at Unasked against rest more byte reply held answered whole = held
stood_at On against rest more byte reply held answered whole = held
stood_at Away against rest more byte reply held answered whole = (held.0, answered.0, held.1, (range_at_end (rest ++ more) byte reply answered.0 whole (range_stays rest more answered.0 answered.1)).1)

-- the size stays that of the range
size_before : (mode : Mode) (rest more : List ℕ) (size : ℕ) → IsAnswered mode rest → KnowsSize mode rest size → KnowsSize mode (rest ++ more) size
size_before Unasked rest more size answered knows = tt
size_before On rest more size answered knows = λ range fixed. size_stays range fixed
  where
    size_stays : (range : Range) → range_of (rest ++ more) ≡ Some range → size ≡ range.size
    size_stays range fixed =
        let stays : range_of (rest ++ more) ≡ Some answered.0 = range_stays rest more answered.0 answered.1 in
        let both : Some answered.0 ≡ Some range = sym stays ∙ fixed in
        let same : answered.0 ≡ range = cc in
        knows answered.0 answered.1 ∙ ap (λ (r : Range). r.size) same
size_before Away rest more size answered knows = tt

-- ---- bytes behind those of an article

module _ (old new : Connection) (h : Hearing) (mode : Mode) (xs out : List ℕ) (a : InArticle old h mode) (bytes : AreBytes xs) where
  all_bytes : AreBytes (a.block ++ xs)
  all_bytes = bytes_both a.block xs a.are_bytes bytes

  more_rest : (more : List ℕ) → h.rest ++ more ≡ a.status ++ (a.block ++ more)
  more_rest more = ap (λ (r : List ℕ). r ++ more) a.rest_is ∙ append_assoc a.status a.block more

  waits_silent : (more : List ℕ) → AreSilent (Body ∷ a.kinds) (a.status ++ a.block) more → AreSilent h.waiting h.rest more
  waits_silent more silent =
      subst (λ (w : List Awaited). AreSilent w h.rest more) (sym a.waiting_is) (subst (λ (r : List ℕ). AreSilent (Body ∷ a.kinds) r more) (sym a.rest_is) silent)

  few_all : length h.rest + length xs ≤ most → length (a.status ++ (a.block ++ xs)) ≤ most
  few_all few = let same : length (h.rest ++ xs) ≡ length (a.status ++ (a.block ++ xs)) = ap length (more_rest xs) in omega (arith, few, same, length-append h.rest xs)

  before_given : block_heard h.rest ≡ a.block
  before_given = ap block_heard a.rest_is ∙ heard_behind a.status a.block a.line_reader a.line

  after_given : (front : List ℕ) (byte : ℕ) → xs ≡ front ++ byte ∷ [] → block_heard ((h.rest ++ front) ++ byte ∷ []) ≡ a.block ++ xs
  after_given front byte is =
      ap block_heard (append_assoc h.rest front (byte ∷ []) ∙ ap (λ (t : List ℕ). h.rest ++ t) (sym is) ∙ more_rest xs)
      ∙ heard_behind a.status (a.block ++ xs) a.line_reader a.line

  gives_heard : (front : List ℕ) (byte : ℕ) → xs ≡ front ++ byte ∷ [] → Gives mode a.block (a.block ++ xs) out → Gives mode (block_heard h.rest) (block_heard ((h.rest ++ front) ++ byte ∷ [])) out
  gives_heard front byte is gives =
      subst (λ (b : List ℕ). Gives mode b (block_heard ((h.rest ++ front) ++ byte ∷ [])) out) (sym before_given)
      (subst (λ (b : List ℕ). Gives mode a.block b out) (sym (after_given front byte is)) gives)

  -- the decoder goes on
  stands_longer : (against : Option Clash) → IsStood mode against → new.phase ≡ Article → new.quiet ≡ 0 → new.over ≡ None → new.against ≡ against → new.heard ≡ old.heard + length xs → reader.HoldsRest new.reader [] → new.wrote ≡ old.wrote + length out → new.size ≡ old.size → Gives mode a.block (a.block ++ xs) out → decoder.HasHeard new.fused (a.block ++ xs) mode → LinkStands new (longer xs h) mode against
  stands_longer against held phase quiet over stood heard empty wrote same_size gives stands = record {
    over_is = over;
    listens = λ alive. record {
      quiet_is = quiet;
      against_is = stood;
      stood_is = held;
      in_phase = subst (λ (p : Phase). InPhase p new (longer xs h) mode against) (sym phase) (record {
        kinds = a.kinds;
        waiting_is = a.waiting_is;
        status = a.status;
        block = a.block ++ xs;
        line_reader = a.line_reader;
        rest_is = more_rest xs;
        line = a.line;
        stands = stands;
        heard_is = heard ∙ ap (λ (n : ℕ). n + length xs) a.heard_is ∙ sym (length-append h.rest xs);
        are_bytes = all_bytes;
        is_answered = answered_stays mode h.rest xs a.is_answered;
        reader_is = empty;
        wrote_is = subst (HasGiven mode (a.block ++ xs)) (sym wrote) (has_given old.fused mode a.block (a.block ++ xs) out old.wrote a.stands gives a.wrote_is);
        size_is = subst (KnowsSize mode (h.rest ++ xs)) (sym same_size) (size_before mode h.rest xs old.size a.is_answered a.size_is);
      });
    };
    shows = alive_shows new (longer xs h) mode refl;
  }

  pub article_more : (against : Option Clash) → IsStood mode against → 0 < length xs → length h.rest + length xs ≤ most → new.phase ≡ Article → new.quiet ≡ 0 → new.over ≡ None → new.against ≡ against → new.heard ≡ old.heard + length xs → reader.HoldsRest new.reader [] → new.wrote ≡ old.wrote + length out → new.size ≡ old.size → HearsMore new.fused a.block xs mode out → Takes new h mode against xs out what.More
  article_more against held some few phase quiet over stood heard empty wrote same_size r =
      let s : Split xs = split_some xs some in
      let silent : AreSilent h.waiting h.rest xs = waits_silent xs (article_silent a.kinds a.status a.line_reader xs a.block a.line (stands_none new.fused (a.block ++ xs) mode r.stands) (few_all few) all_bytes r.quiet) in
      let all : AreSilent h.waiting h.rest (s.front ++ s.final ∷ []) = subst (AreSilent h.waiting h.rest) s.is silent in
      let front = silent_front s.front s.final h.waiting h.rest all in
      let last : IsSilent h.waiting (h.rest ++ s.front) s.final = silent_last s.front s.final h.waiting h.rest all in
      let now : heard_by xs h ≡ longer xs h = ap (λ (t : List ℕ). heard_by t h) s.is ∙ heard_longer s.front s.final h front last.0 last.1 ∙ ap (λ (t : List ℕ). longer t h) (sym s.is) in
      record {
        front = s.front;
        byte = s.final;
        bytes_are = s.is;
        silent = front;
        does = (last, gives_heard s.front s.final s.is r.gives);
        stands = subst (λ (k : Hearing). LinkStands new k mode against) (sym now) (stands_longer against held phase quiet over stood heard empty wrote same_size r.gives r.stands);
      }

  module _ (against : Option Clash) (few : length h.rest + length xs ≤ most) (earlier : List ℕ) (final : ℕ) (is : xs ≡ earlier ++ final ∷ []) (quiet_before : AreQuiet a.block earlier) where
    none_then : front_block (a.block ++ xs) ≡ None → front_block (a.block ++ earlier) ≡ None
    none_then none = no_block_in_front (a.block ++ earlier) (final ∷ []) (ap front_block (append_assoc a.block earlier (final ∷ []) ∙ ap (λ (t : List ℕ). a.block ++ t) (sym is)) ∙ none)

    few_before : length (a.status ++ (a.block ++ earlier)) ≤ most
    few_before = let same : length (h.rest ++ earlier) ≡ length (a.status ++ (a.block ++ earlier)) = ap length (more_rest earlier) in omega (arith, few, same, ap length is, length-append earlier (final ∷ []), length-append h.rest earlier)

    silent_before : front_block (a.block ++ earlier) ≡ None → AreSilent h.waiting h.rest earlier
    silent_before none =
        waits_silent earlier (article_silent a.kinds a.status a.line_reader earlier a.block a.line none few_before
        (bytes_both a.block earlier a.are_bytes (bytes_front earlier (final ∷ []) (subst AreBytes is bytes))) quiet_before)

    last_rest : (h.rest ++ earlier) ++ final ∷ [] ≡ a.status ++ (a.block ++ xs)
    last_rest = append_assoc h.rest earlier (final ∷ []) ∙ ap (λ (t : List ℕ). h.rest ++ t) (sym is) ∙ more_rest xs

    last_whole : whole_by h.waiting ((h.rest ++ earlier) ++ final ∷ []) ≡ whole_reply Body (a.status ++ (a.block ++ xs))
    last_whole = ap (λ (w : List Awaited). whole_by w ((h.rest ++ earlier) ++ final ∷ [])) a.waiting_is ∙ ap (whole_reply Body) last_rest

    last_why : why_of_rest h.waiting ((h.rest ++ earlier) ++ final ∷ []) ≡ why_of_rest (Body ∷ []) (a.status ++ (a.block ++ xs))
    last_why = ap (λ (w : List Awaited). why_of_rest w ((h.rest ++ earlier) ++ final ∷ [])) a.waiting_is ∙ ap (why_of_rest (Body ∷ [])) last_rest

    -- the last byte fixes the range
    module _ (size first last : ℕ) (r : steps.Fixes new.fused a.block xs mode out size first last) where
      no_block : front_block (a.block ++ xs) ≡ None
      no_block = stands_none new.fused (a.block ++ xs) mode r.stands

      on : (whole_reply Body (a.status ++ (a.block ++ xs)) ≡ None) × (why_of_rest (Body ∷ []) (a.status ++ (a.block ++ xs)) ≡ None)
      on = block_goes_on Body a.status (a.block ++ xs) 222 a.line_reader a.line refl no_block (few_all few)

      moment : IsMoment ((a.block ++ earlier) ++ final ∷ []) r.begin first last
      moment = subst (λ (b : List ℕ). IsMoment b r.begin first last) (ap (λ (t : List ℕ). a.block ++ t) is ∙ sym (append_assoc a.block earlier (final ∷ []))) r.is_moment

      none_before : range_of (h.rest ++ earlier) ≡ None
      none_before =
          ap range_of (more_rest earlier) ∙ range_behind a.status (a.block ++ earlier) a.line_reader a.line
          ∙ none_before_moment (a.block ++ earlier) final r.begin first last moment

      fixed_now : range_of ((h.rest ++ earlier) ++ final ∷ []) ≡ Some (record { size = size; first = first; last = last })
      fixed_now =
          ap range_of last_rest ∙ range_behind a.status (a.block ++ xs) a.line_reader a.line
          ∙ moment_fixes (a.block ++ xs) r.begin first last r.is_moment
          ∙ ap (λ (n : ℕ). Some (record { size = n; first = first; last = last })) (sym r.size_is)

      claimable : (1 ≤ first) × (first ≤ last + 1) × (last ≤ size) × (size ≤ 2 ^ 40)
      claimable = subst (λ (n : ℕ). (1 ≤ first) × (first ≤ last + 1) × (last ≤ n) × (n ≤ 2 ^ 40)) (sym r.size_is) (head_is_a_range r.is_moment.lines r.begin first last r.is_moment.is_head)

      pub article_range : IsStood mode against → new.phase ≡ Article → new.quiet ≡ 0 → new.over ≡ None → new.against ≡ against → new.heard ≡ old.heard + length xs → reader.HoldsRest new.reader [] → new.wrote ≡ old.wrote + length out → new.size ≡ old.size → Takes new h mode against xs out (what.Range size first last)
      article_range held phase quiet over stood heard empty wrote same_size =
          let silent : AreSilent h.waiting h.rest earlier = silent_before (none_then no_block) in
          let none = last_whole ∙ on.0 in
          let alive = last_why ∙ on.1 in
          let now : heard_by xs h ≡ longer xs h = ap (λ (t : List ℕ). heard_by t h) is ∙ heard_longer earlier final h silent none alive ∙ ap (λ (t : List ℕ). longer t h) (sym is) in
          record {
            front = earlier;
            byte = final;
            bytes_are = is;
            silent = silent;
            does = (
              record {
                none = none;
                alive = alive;
                before = none_before;
                fixed = fixed_now;
                begin = r.begin;
                size_is = r.size_is;
                is_range = claimable;
                is_moment = subst (λ (b : List ℕ). IsMoment b r.begin first last) (sym (after_given earlier final is)) r.is_moment;
              },
              unanswered mode h.rest earlier a.is_answered none_before,
              r.nothing,
              gives_heard earlier final is r.gives,
            );
            stands = subst (λ (k : Hearing). LinkStands new k mode against) (sym now) (stands_longer against held phase quiet over stood heard empty wrote same_size r.gives r.stands);
          }

    given_all : (g : Mode) (lines : List (List ℕ)) → GivesAll g a.block lines out → GivesAll g (block_heard h.rest) lines out
    given_all g lines gives = subst (λ (b : List ℕ). GivesAll g b lines out) (sym before_given) gives

    -- the last byte ends the block
    pub article_end : IsStood mode against → (stood : Option Clash) (ending : Ending) (lines : List (List ℕ)) → IsBlock lines (a.block ++ xs) → steps.IsEnding lines mode ending → GivesAll mode a.block lines out → new.phase ≡ Line → new.quiet ≡ 0 → new.over ≡ None → new.against ≡ None → reader.HoldsRest new.reader [] → stood ≡ against → Takes new h mode against xs out (what.Article ending stood old.size)
    article_end by_answer stood ending lines block is_ending gives phase quiet over clear empty is_stood =
        let apart : IsBlock lines ((a.block ++ earlier) ++ final ∷ []) = subst (IsBlock lines) (ap (λ (t : List ℕ). a.block ++ t) is ∙ sym (append_assoc a.block earlier (final ∷ []))) block in
        let silent : AreSilent h.waiting h.rest earlier = silent_before (before_end_none lines (a.block ++ earlier) (final ∷ []) apart (λ e. cc)) in
        let reply : Reply = record { code = 222; line = held a.line_reader; lines = lines } in
        let whole : whole_by h.waiting ((h.rest ++ earlier) ++ final ∷ []) ≡ Some reply = last_whole ∙ block_ends Body a.status (a.block ++ xs) 222 a.line_reader lines a.line refl block (few_all few) in
        let body : whole_reply Body ((h.rest ++ earlier) ++ final ∷ []) ≡ Some reply = ap (whole_reply Body) last_rest ∙ block_ends Body a.status (a.block ++ xs) 222 a.line_reader lines a.line refl block (few_all few) in
        let stood_then : Stood mode against (range_in lines) = stood_at mode against h.rest earlier final reply by_answer a.is_answered body in
        let now : heard_by xs h ≡ read_as (Some reply) [] h = ap (λ (t : List ℕ). heard_by t h) is ∙ heard_reply earlier final h reply silent whole in
        record {
          front = earlier;
          byte = final;
          bytes_are = is;
          silent = silent;
          does = (record { reply = reply; whole = whole; code_is = refl; is_ending = is_ending; verdict = λ kept. ending_is_verdict reply mode against kept ending refl is_ending stood_then; gives = given_all mode lines gives }, is_stood, size_before mode h.rest earlier old.size a.is_answered a.size_is);
          stands = subst (λ (k : Hearing). LinkStands new k Unasked None) (sym now) (record {
            over_is = over;
            listens = λ alive. record {
              quiet_is = quiet;
              against_is = clear;
              stood_is = refl;
              in_phase = subst (λ (p : Phase). InPhase p new (read_as (Some reply) [] h) Unasked None) (sym phase) (empty, refl, refl);
            };
            shows = alive_shows new (read_as (Some reply) [] h) Unasked refl;
          });
        }

-- ---- one byte too many

pub article_too_long : (old new : Connection) (h : Hearing) (mode : Mode) (against : Option Clash) (byte : ℕ) (a : InArticle old h mode) → most ≤ old.heard → new.over ≡ Some why.TooLong → Takes new h mode against (byte ∷ []) [] (what.Over why.TooLong)
article_too_long old new h mode against byte a much over =
    let rest : (h.rest ++ []) ++ byte ∷ [] ≡ a.status ++ (a.block ++ byte ∷ []) =
    ap (λ (r : List ℕ). r ++ byte ∷ []) (append-nil h.rest ∙ a.rest_is) ∙ append_assoc a.status a.block (byte ∷ []) in
    let heard : old.heard ≡ length h.rest = a.heard_is in
    let long : length ((h.rest ++ []) ++ byte ∷ []) ≡ length (a.status ++ (a.block ++ byte ∷ [])) = ap length rest in
    let past : most < length (a.status ++ (a.block ++ byte ∷ [])) = omega (arith, much, heard, long, length-append (h.rest ++ []) (byte ∷ []), length-append h.rest []) in
    let stops = block_too_long Body a.status (a.block ++ byte ∷ []) 222 a.line_reader a.line past in
    let none : whole_by h.waiting ((h.rest ++ []) ++ byte ∷ []) ≡ None = ap (λ (w : List Awaited). whole_by w ((h.rest ++ []) ++ byte ∷ [])) a.waiting_is ∙ ap (whole_reply Body) rest ∙ stops.0 in
    let reason : why_of_rest h.waiting ((h.rest ++ []) ++ byte ∷ []) ≡ Some why.TooLong = ap (λ (w : List Awaited). why_of_rest w ((h.rest ++ []) ++ byte ∷ [])) a.waiting_is ∙ ap (why_of_rest (Body ∷ [])) rest ∙ stops.1 in
    stopped new h mode against [] byte why.TooLong tt none reason over (λ is_over shown. (let no : false ≡ true = shown in cc))

-- ---- what a step over the front of a piece used and gave

pub article_of : (old : Connection) (h : Hearing) (mode : Mode) (against : Option Clash) → h.over ≡ None → old.phase ≡ Article → LinkStands old h mode against → InArticle old h mode
article_of old h mode against alive phase stands = subst (λ (p : Phase). InPhase p old h mode against) phase (stands.listens alive).in_phase

pub bytes_of : (xs : List ℕ) → ((i : ℕ) → get_or xs i 0 < 256) → AreBytes xs
bytes_of [] are = tt
bytes_of (x ∷ xs) are = (are 0, bytes_of xs (λ i. are (suc i)))

pub bytes_taken : (n : ℕ) (xs : List ℕ) → AreBytes xs → AreBytes (take n xs)
bytes_taken n xs are = bytes_front (take n xs) (drop n xs) (subst AreBytes (sym (take-append-drop n xs)) are)

pub room_for_step : (old : Connection) (h : Hearing) (mode : Mode) (a : InArticle old h mode) (count : ℕ) (piece : List ℕ) → old.heard ≤ MOST_TEXT_BYTES → count ≡ min (MOST_TEXT_BYTES - old.heard) (length piece) → length a.block + length (take count piece) ≤ 9223372036854775808
room_for_step old h mode a count piece few room =
    let heard : old.heard ≡ length h.rest = a.heard_is in
    let rest : length h.rest ≡ length (a.status ++ a.block) = ap length a.rest_is in
    omega (arith, few, room, heard, rest, length-append a.status a.block, length-take count piece)

-- as the pieces stand: the step had the first `count` bytes, and what it left stands before the rest
pub used_taken : (piece : List ℕ) (count used : ℕ) (buf : List ℕ) → length buf ≡ length (take count piece) → used ≤ length buf → take used (take count piece) ≡ take used piece
used_taken piece count used buf long within = take-take used count piece (omega (arith, within, long, length-take count piece))

pub rest_left : (piece : List ℕ) (count used : ℕ) (buf : List ℕ) → length buf ≡ length (take count piece) → used ≤ length buf → drop used buf ≡ drop used (take count piece) → drop used (buf ++ drop count piece) ≡ drop used piece
rest_left piece count used buf long within rest =
    let all : drop used (take count piece ++ drop count piece) ≡ drop used piece = ap (drop used) (take-append-drop count piece) in
    drop-append used buf (drop count piece) within
    ∙ ap (λ (b : List ℕ). b ++ drop count piece) rest
    ∙ sym (drop-append used (take count piece) (drop count piece) (omega (arith, within, long)))
    ∙ all

pub few_used : (old : Connection) (h : Hearing) (mode : Mode) (a : InArticle old h mode) (piece : List ℕ) (count used : ℕ) (buf : List ℕ) → old.heard ≤ MOST_TEXT_BYTES → count ≡ min (MOST_TEXT_BYTES - old.heard) (length piece) → length buf ≡ length (take count piece) → used ≤ length buf → length h.rest + length (take used piece) ≤ most
few_used old h mode a piece count used buf bounded fits long within =
    let heard : old.heard ≡ length h.rest = a.heard_is in
    omega (arith, bounded, fits, long, within, heard, length-take count piece, length-take used piece)

pub some_used : (piece : List ℕ) (used : ℕ) → 0 < used → 0 < length piece → 0 < length (take used piece)
some_used piece used some any = omega (arith, some, any, length-take used piece)

pub given_front : (buf behind : List ℕ) (wrote used : ℕ) → wrote ≤ used → used ≤ length buf → take wrote (buf ++ behind) ≡ take wrote buf
given_front buf behind wrote used order within = take-append-le wrote buf behind (omega (arith, order, within))

pub no_room : (heard : ℕ) (piece : List ℕ) (count : ℕ) → count ≡ min (MOST_TEXT_BYTES - heard) (length piece) → count ≡ 0 → 0 < length piece → most ≤ heard
no_room heard piece count counted none some = omega (arith, counted, none, some)

pub step_uses : (piece : List ℕ) (count used : ℕ) → (count ≡ 0 → ⊥) → 0 < length piece → (0 < length (take count piece) → 0 < used) → 0 < used
step_uses piece zero used room some uses = absurd (room refl)
step_uses piece (suc count) used room some uses = uses (omega (arith, some, length-take (suc count) piece))
