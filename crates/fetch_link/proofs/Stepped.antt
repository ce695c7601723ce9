-- What a step over the front of a piece does in an article.
use Rattle.std.proofs.Common.{length-append, ◌≡◌, ◌<◌, ◌≤◌, ◌+◌, ◌-◌, min, ℕ, List, [], ◌++◌, Option, None, ap, sym, subst, ◌∙◌, length, take, drop, arith}
use Rattle.std.proofs.lemmas.List.{length-take, length-take-le}
use Rattle.limits.specs.declared.TheConstants.{MOST_TEXT_BYTES}
use Rattle.link_dialog.specs.declared.reader.Reader.{Reader}
use Rattle.link_dialog.specs.Reader as reader
use Rattle.link_dialog.specs.Replies.{most}
use Rattle.range_assembler.specs.declared.assembler.Clash.{Clash}
use Rattle.fused_decoder.specs.declared.event.Ending.{Ending}
use Rattle.fused_decoder.specs.declared.event.Event.{Event}
use Rattle.fused_decoder.specs.declared.event.Event.TheVariants as event
use Rattle.fused_decoder.specs.declared.state.Mode.{Mode}
use Rattle.fused_decoder.specs.Stands.{AreBytes, HasHeard}
use Rattle.fused_decoder.specs.Steps.{Happens}
use Rattle.fetch_trace.specs.Hearing.{Hearing}
use Rattle.fetch_link.specs.declared.connection.Connection.{Connection}
use Rattle.fetch_link.specs.declared.connection.Phase.TheVariants.{Line, Article}
use Rattle.fetch_link.specs.declared.taking.What.TheVariants as what
use Rattle.fetch_link.specs.Link.{InArticle, LinkStands}
use Rattle.fetch_link.specs.Takes.{Takes}
use Rattle.fetch_link.proofs.InArticle.{article_of, bytes_taken, room_for_step, used_taken, few_used, some_used, given_front, article_more, article_range, article_end}

module _ (old new : Connection) (h : Hearing) (mode : Mode) (against : Option Clash) (piece : List ℕ) (count used wrote : ℕ) (buf : List ℕ) (alive : h.over ≡ None) (phase : old.phase ≡ Article) (stands : LinkStands old h mode against) (counted : count ≡ min (MOST_TEXT_BYTES - old.heard) (length piece)) (are_bytes : AreBytes piece) (long : length buf ≡ length (take count piece)) (order : (wrote ≤ used) × (used ≤ length buf)) (came : Event) (does : (before : List ℕ) (m : Mode) → HasHeard old.fused before m → length before + length (take count piece) ≤ 9223372036854775808 → Happens new.fused before (take used (take count piece)) m (take wrote buf) came) where
  abbrev pub a : InArticle old h mode
  a = article_of old h mode against alive phase stands

  abbrev pub given : List ℕ
  given = take wrote (buf ++ drop count piece)

  happens : (e : Event) → came ≡ e → Happens new.fused a.block (take used piece) mode given e
  happens e is =
      subst (λ (out : List ℕ). Happens new.fused a.block (take used piece) mode out e) (sym (given_front buf (drop count piece) wrote used order.0 order.1))
      (subst (λ (xs : List ℕ). Happens new.fused a.block xs mode (take wrote buf) e) (used_taken piece count used buf long order.1)
      (subst (λ (k : Event). Happens new.fused a.block (take used (take count piece)) mode (take wrote buf) k) is
      (does a.block mode a.stands (room_for_step old h mode a count piece old.bounded counted))))

  bytes : AreBytes (take used piece)
  bytes = bytes_taken used piece are_bytes

  few : length h.rest + length (take used piece) ≤ most
  few = few_used old h mode a piece count used buf old.bounded counted long order.1

  short : used ≤ length piece
  short = omega (arith, long, order.1, length-take count piece)

  heard_is : new.heard ≡ old.heard + used → new.heard ≡ old.heard + length (take used piece)
  heard_is is = let all : length (take used piece) ≡ used = length-take-le used piece short in is ∙ ap (λ (n : ℕ). old.heard + n) (sym all)

  wrote_then : new.wrote ≡ old.wrote + wrote → new.wrote ≡ old.wrote + length given
  wrote_then is = let all : length given ≡ wrote = length-take-le wrote (buf ++ drop count piece) (omega (arith, order.0, order.1, length-append buf (drop count piece))) in is ∙ ap (λ (n : ℕ). old.wrote + n) (sym all)

  pub step_more : came ≡ event.More → 0 < used → 0 < length piece → new.phase ≡ old.phase → new.quiet ≡ 0 → new.over ≡ old.over → new.against ≡ old.against → new.heard ≡ old.heard + used → new.reader ≡ old.reader → new.wrote ≡ old.wrote + wrote → new.size ≡ old.size → Takes new h mode against (take used piece) given what.More
  step_more is some any same_phase quiet over stood heard same_reader counted_too same_size =
      article_more old new h mode (take used piece) given a bytes against (stands.listens alive).stood_is (some_used piece used some any) few (same_phase ∙ phase) quiet (over ∙ stands.over_is ∙ alive) (stood ∙ (stands.listens alive).against_is) (heard_is heard)
      (subst (λ (r : Reader). reader.HoldsRest r []) (sym same_reader) a.reader_is) (wrote_then counted_too) same_size (happens event.More is)

  pub step_range : (size first last : ℕ) → came ≡ event.Range size first last → new.phase ≡ old.phase → new.quiet ≡ 0 → new.over ≡ old.over → new.against ≡ old.against → new.heard ≡ old.heard + used → new.reader ≡ old.reader → new.wrote ≡ old.wrote + wrote → new.size ≡ old.size → Takes new h mode against (take used piece) given (what.Range size first last)
  step_range size first last is same_phase quiet over stood heard same_reader counted_too same_size =
      let r = happens (event.Range size first last) is in
      article_range old new h mode (take used piece) given a bytes against few r.earlier r.final r.bytes_are r.quiet size first last r (stands.listens alive).stood_is (same_phase ∙ phase) quiet (over ∙ stands.over_is ∙ alive) (stood ∙ (stands.listens alive).against_is) (heard_is heard)
      (subst (λ (r : Reader). reader.HoldsRest r []) (sym same_reader) a.reader_is) (wrote_then counted_too) same_size

  pub step_end : (ending : Ending) → came ≡ event.End ending → new.phase ≡ Line → new.quiet ≡ 0 → new.over ≡ old.over → new.against ≡ None → new.reader ≡ old.reader → Takes new h mode against (take used piece) given (what.Article ending old.against old.size)
  step_end ending is line quiet over clear same_reader =
      let r = happens (event.End ending) is in
      article_end old new h mode (take used piece) given a bytes against few r.earlier 10 r.bytes_are r.quiet (stands.listens alive).stood_is old.against ending r.lines r.is_block r.is_ending r.gives line quiet (over ∙ stands.over_is ∙ alive) clear
      (subst (λ (r : Reader). reader.HoldsRest r []) (sym same_reader) a.reader_is) (stands.listens alive).against_is
