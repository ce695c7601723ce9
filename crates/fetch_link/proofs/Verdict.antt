-- The ending of an article's block is the verdict of the answer.
use Rattle.std.proofs.Common.{◌≡◌, ℕ, Bool, true, Option, Some, None, Result, Ok, Err, refl, ap, sym, ◌∙◌, arith}
use Rattle.std.specs.Prelude.{cond, ◌==◌}
use Rattle.std.proofs.lemmas.Bool.Decides.{nat_tests}
use Rattle.yenc_body.specs.declared.fault.Fault.{Fault}
use Rattle.yenc_body.specs.declared.part.Part.{Part}
use Rattle.yenc_body.specs.BodyReading.{body_of}
use Rattle.yenc_body.proofs.BodyLaws.{body_read, fault_read}
use Rattle.link_dialog.specs.Replies.{Reply}
use Rattle.range_assembler.specs.declared.assembler.Clash.{Clash}
use Rattle.range_assembler.specs.Claims.{other_size}
use Rattle.fused_decoder.specs.declared.event.Ending.{Ending}
use Rattle.fused_decoder.specs.declared.event.Ending.TheVariants as ending
use Rattle.fused_decoder.specs.declared.state.Mode.TheVariants.{Unasked, On, Away}
use Rattle.fused_decoder.specs.Steps.{IsReadAs}
use Rattle.fused_decoder.specs.WholeFile.{whole_of}
use Rattle.fused_decoder.proofs.WholeLaws.{whole_read}
use Rattle.fetch_trace.specs.Verdicts.{Range, range_in, verdict_of, article_verdict, sized}
use Rattle.fetch_trace.specs.Verdicts.Verdict.{Refused, Absent}
use Rattle.fetch_link.specs.Verdict.{IsVerdict, EndingIsVerdict}

of_article : (reply : Reply) (against : Option Clash) (kept : Option ℕ) → reply.code ≡ 222 → verdict_of against kept reply ≡ article_verdict (range_in reply.lines) against (body_of reply.lines) (whole_of reply.lines) kept
of_article reply against kept is =
    let own : (reply.code == 222) ≡ true = grind (arith, nat_tests) in
    ap (λ (b : Bool). cond b (article_verdict (range_in reply.lines) against (body_of reply.lines) (whole_of reply.lines) kept) (Absent reply.code)) own

accepted : (range : Option Range) (part : Part) (whole kept : Option ℕ) → article_verdict range None (Ok part) whole kept ≡ sized part whole (other_size part.begin.size kept)
accepted None part whole kept = refl
accepted (Some range) part whole kept = refl

refused : (range : Option Range) (fault : Fault) (whole kept : Option ℕ) → article_verdict range None (Err fault) whole kept ≡ Refused fault
refused None fault whole kept = refl
refused (Some range) fault whole kept = refl

read_verdict : (reply : Reply) (against : Option Clash) (kept : Option ℕ) (ended : Ending) → reply.code ≡ 222 → IsReadAs reply.lines ended → against ≡ None → IsVerdict ended against kept (verdict_of against kept reply)
read_verdict reply against kept (ending.Accepted crc whole) is read none = (
  read.0,
  read.2,
  of_article reply against kept is
      ∙ ap (λ (a : Option Clash). article_verdict (range_in reply.lines) a (body_of reply.lines) (whole_of reply.lines) kept) none
      ∙ ap (λ (found : Result Part Fault). article_verdict (range_in reply.lines) None found (whole_of reply.lines) kept) (body_read reply.lines read.0 read.1)
      ∙ ap (λ (w : Option ℕ). article_verdict (range_in reply.lines) None (Ok read.0) w kept) (sym (whole_read reply.lines read.0 whole read.4))
      ∙ accepted (range_in reply.lines) read.0 whole kept,
)
read_verdict reply against kept (ending.Refused fault) is read none =
    of_article reply against kept is
    ∙ ap (λ (a : Option Clash). article_verdict (range_in reply.lines) a (body_of reply.lines) (whole_of reply.lines) kept) none
    ∙ ap (λ (found : Result Part Fault). article_verdict (range_in reply.lines) None found (whole_of reply.lines) kept) (fault_read reply.lines fault read)
    ∙ refused (range_in reply.lines) fault (whole_of reply.lines) kept
read_verdict reply against kept ending.TurnedAway is read none = absurd read

away_verdict : (reply : Reply) (against : Option Clash) (kept : Option ℕ) (ended : Ending) → reply.code ≡ 222 → ended ≡ ending.TurnedAway → (clash : Clash) (range : Range) → against ≡ Some clash → range_in reply.lines ≡ Some range → IsVerdict ended against kept (verdict_of against kept reply)
away_verdict reply against kept (ending.Accepted crc whole) is away clash range stood fixed = cc
away_verdict reply against kept (ending.Refused fault) is away clash range stood fixed = cc
away_verdict reply against kept ending.TurnedAway is away clash range stood fixed = (
  clash,
  stood,
  of_article reply against kept is
      ∙ ap (λ (a : Option Clash). article_verdict (range_in reply.lines) a (body_of reply.lines) (whole_of reply.lines) kept) stood
      ∙ ap (λ (r : Option Range). article_verdict r (Some clash) (body_of reply.lines) (whole_of reply.lines) kept) fixed,
)

pub ending_is_verdict : EndingIsVerdict
ending_is_verdict reply Unasked against kept ended is read stood = read_verdict reply against kept ended is read stood
ending_is_verdict reply On against kept ended is read stood = read_verdict reply against kept ended is read stood
ending_is_verdict reply Away against kept ended is away stood = away_verdict reply against kept ended is away stood.0 stood.1 stood.2 stood.3
