-- What the other calls do.
use Rattle.std.proofs.Common.{◌≡◌, ◌≢◌, ◌<◌, ◌≤◌, ◌+◌, min, ℕ, Bool, true, false, List, [], ◌++◌, Option, Some, None, refl, ap, sym, subst, ◌∙◌, append-nil, length, arith}
use Rattle.std.specs.Prelude.{nat_le, is_some, cond}
use Rattle.std.proofs.lemmas.Bool.Decides.{nat_tests}
use Rattle.yenc_lines.specs.declared.keyword.Begin.{Begin}
use Rattle.nntp_lines.specs.declared.why.Why.TheVariants as why
use Rattle.link_dialog.specs.declared.awaited.Awaited.{Awaited}
use Rattle.link_dialog.specs.declared.reader.Reader.{Reader}
use Rattle.link_dialog.specs.Reader as reader
use Rattle.range_assembler.specs.declared.assembler.Clash.{Clash}
use Rattle.fused_decoder.specs.declared.state.Fused.{Fused}
use Rattle.fused_decoder.specs.declared.state.Mode.{Mode}
use Rattle.fused_decoder.specs.declared.state.Mode.TheVariants.{Unasked, On, Away}
use Rattle.fused_decoder.specs.Stands as decoder
use Rattle.fused_decoder.specs.Steps.{IsMoment, IsGiven}
use Rattle.fetch_trace.specs.Hearing.{Hearing, after_quiet, after_end, after_sent}
use Rattle.fetch_trace.specs.Verdicts.{Range, range_of}
use Rattle.fetch_link.specs.declared.connection.Connection.{Connection}
use Rattle.fetch_link.specs.declared.connection.Phase.{Phase}
use Rattle.fetch_link.specs.declared.connection.Phase.TheVariants.{Line, Article}
use Rattle.fetch_link.specs.Bytes.{block_heard}
use Rattle.fetch_link.specs.Link.{IsStood, IsAnswered, HasGiven, InPhase, Listens, LinkStands, KnowsSize}
use Rattle.fetch_link.proofs.Hearing.{no_block, no_range, alive_shows}
use Rattle.fetch_link.proofs.Blocks.{moment_fixes}
use Rattle.fetch_link.proofs.Counted.{given_so_far}
use Rattle.fetch_link.proofs.InArticle.{range_behind, heard_behind}
use Rattle.fetch_link.proofs.Shown.{over_shows}

-- ---- the same bytes, with more awaited

record Alike (old new : Connection) (h now : Hearing) : Type 0 where
  phase : new.phase ≡ old.phase
  same_reader : new.reader ≡ old.reader
  same_fused : new.fused ≡ old.fused
  heard : new.heard ≡ old.heard
  wrote : new.wrote ≡ old.wrote
  same_size : new.size ≡ old.size
  rest : now.rest ≡ h.rest
  more : List Awaited
  waiting : now.waiting ≡ h.waiting ++ more

still : (p : Phase) (old new : Connection) (h now : Hearing) (mode : Mode) (against : Option Clash) → Alike old new h now → InPhase p old h mode against → InPhase p new now mode against
still Line old new h now mode against same was =
    (subst (λ (r : List ℕ). reader.HoldsRest new.reader r) (sym same.rest) (subst (λ (r : Reader). reader.HoldsRest r h.rest) (sym same.same_reader) was.0), was.1, was.2)
still Article old new h now mode against same was = record {
  kinds = was.kinds ++ same.more;
  waiting_is = same.waiting ∙ ap (λ (w : List Awaited). w ++ same.more) was.waiting_is;
  status = was.status;
  block = was.block;
  line_reader = was.line_reader;
  rest_is = same.rest ∙ was.rest_is;
  line = was.line;
  stands = subst (λ (f : Fused). decoder.HasHeard f was.block mode) (sym same.same_fused) was.stands;
  heard_is = same.heard ∙ was.heard_is ∙ ap length (sym same.rest);
  are_bytes = was.are_bytes;
  is_answered = subst (IsAnswered mode) (sym same.rest) was.is_answered;
  reader_is = subst (λ (r : Reader). reader.HoldsRest r []) (sym same.same_reader) was.reader_is;
  wrote_is = subst (HasGiven mode was.block) (sym same.wrote) was.wrote_is;
  size_is = subst (λ (r : List ℕ). KnowsSize mode r new.size) (sym same.rest) (subst (KnowsSize mode h.rest) (sym same.same_size) was.size_is);
}

goes_on : (old new : Connection) (h now : Hearing) (mode : Mode) (against : Option Clash) → h.over ≡ None → Alike old new h now → new.against ≡ old.against → new.quiet ≡ now.quiets → LinkStands old h mode against → Listens new now mode against
goes_on old new h now mode against alive same stood quiet stands = let was = stands.listens alive in record {
  quiet_is = quiet;
  against_is = stood ∙ was.against_is;
  stood_is = was.stood_is;
  in_phase = subst (λ (p : Phase). InPhase p new now mode against) (sym same.phase) (still old.phase old new h now mode against same was.in_phase);
}

-- ---- bytes were sent

pub sent : (old new : Connection) (h : Hearing) (mode : Mode) (against : Option Clash) (kinds : List Awaited) → h.over ≡ None → LinkStands old h mode against → new.phase ≡ old.phase → new.reader ≡ old.reader → new.fused ≡ old.fused → new.heard ≡ old.heard → new.wrote ≡ old.wrote → new.size ≡ old.size → new.against ≡ old.against → new.quiet ≡ 0 → new.over ≡ old.over → LinkStands new (after_sent kinds h) mode against
sent old new h mode against kinds alive stands phase same_reader same_fused heard wrote same_size stood quiet over = record {
  over_is = over ∙ stands.over_is ∙ alive;
  listens = λ on. goes_on old new h (after_sent kinds h) mode against alive
      (record { phase = phase; same_reader = same_reader; same_fused = same_fused; heard = heard; wrote = wrote; same_size = same_size; rest = refl; more = kinds; waiting = refl }) stood quiet stands;
  shows = alive_shows new (after_sent kinds h) mode refl;
}

-- ---- a receive found nothing

abbrev pub Quieter : ℕ → ℕ → Type 0
Quieter before now = now ≡ min (before + 1) 4294967295

quiet_now : (patience quiets : ℕ) (old new : Connection) → old.quiet ≡ quiets → Quieter old.quiet new.quiet → patience ≤ 4294967295 → patience ≤ new.quiet → nat_le patience (quiets + 1) ≡ true
quiet_now patience quiets old new is more fits much = let m : patience ≤ quiets + 1 = omega (arith, is, more, fits, much) in grind (arith, nat_tests)

not_quiet_now : (patience quiets : ℕ) (old new : Connection) → old.quiet ≡ quiets → Quieter old.quiet new.quiet → patience ≤ 4294967295 → new.quiet < patience → nat_le patience (quiets + 1) ≡ false
not_quiet_now patience quiets old new is more fits few = let m : quiets + 1 < patience = omega (arith, is, more, fits, few) in grind (arith, nat_tests)

module _ (patience : ℕ) (old new : Connection) (h : Hearing) (mode : Mode) (against : Option Clash) (alive : h.over ≡ None) (stands : LinkStands old h mode against) (more : Quieter old.quiet new.quiet) (fits : patience ≤ 4294967295) where
  was : old.quiet ≡ h.quiets
  was = (stands.listens alive).quiet_is

  too_quiet : patience ≤ new.quiet → (after_quiet patience h).over ≡ Some why.Quiet
  too_quiet much = ap (λ (b : Bool). cond b (Some why.Quiet) None) (quiet_now patience h.quiets old new was more fits much)

  not_yet : new.quiet < patience → (after_quiet patience h).over ≡ None
  not_yet few = ap (λ (b : Bool). cond b (Some why.Quiet) None) (not_quiet_now patience h.quiets old new was more fits few)

  pub quiet_over : patience ≤ new.quiet → true ≡ is_some (after_quiet patience h).over
  quiet_over much = sym (ap is_some (too_quiet much))

  pub quiet_on : new.quiet < patience → false ≡ is_some (after_quiet patience h).over
  quiet_on few = sym (ap is_some (not_yet few))

  pub quiet_ends : patience ≤ new.quiet → new.phase ≡ old.phase → new.fused ≡ old.fused → new.over ≡ Some why.Quiet → LinkStands new (after_quiet patience h) mode against
  quiet_ends much phase fused over = record {
    over_is = over ∙ sym (too_quiet much);
    listens = λ on. (let wrong : None ≡ Some why.Quiet = sym on ∙ too_quiet much in absurd cc);
    shows = over_shows old new h (after_quiet patience h) mode against alive stands phase fused refl refl;
  }

  pub quiet_goes_on : new.quiet < patience → new.phase ≡ old.phase → new.reader ≡ old.reader → new.fused ≡ old.fused → new.heard ≡ old.heard → new.wrote ≡ old.wrote → new.size ≡ old.size → new.against ≡ old.against → new.over ≡ old.over → LinkStands new (after_quiet patience h) mode against
  quiet_goes_on few phase same_reader same_fused heard wrote same_size stood over = record {
    over_is = over ∙ stands.over_is ∙ alive ∙ sym (not_yet few);
    listens = λ on. goes_on old new h (after_quiet patience h) mode against alive
        (record { phase = phase; same_reader = same_reader; same_fused = same_fused; heard = heard; wrote = wrote; same_size = same_size; rest = refl; more = []; waiting = sym (append-nil h.waiting) }) stood (let q = was in omega (arith, q, more, fits, few)) stands;
    shows = alive_shows new (after_quiet patience h) mode (not_yet few);
  }

-- ---- the link ended

pub ended : (old new : Connection) (h : Hearing) (mode : Mode) (against : Option Clash) → h.over ≡ None → LinkStands old h mode against → new.phase ≡ old.phase → new.fused ≡ old.fused → new.over ≡ Some why.Ended → LinkStands new (after_end h) mode against
ended old new h mode against alive stands phase fused over = record {
  over_is = over;
  listens = λ on. (let wrong : Some why.Ended ≡ None = on in cc);
  shows = over_shows old new h (after_end h) mode against alive stands phase fused refl refl;
}

-- ---- the answers to a range

given_by : (mode : Mode) (block : List ℕ) (wrote : ℕ) → HasGiven Unasked block wrote → HasGiven mode block wrote
given_by Unasked block wrote counts = counts
given_by On block wrote counts = counts
given_by Away block wrote counts = tt

answered : (p : Phase) (old new : Connection) (h : Hearing) (mode : Mode) (against now : Option Clash) (range : Range) → new.reader ≡ old.reader → new.heard ≡ old.heard → new.wrote ≡ old.wrote → range_of h.rest ≡ Some range → (mode ≢ Unasked) → KnowsSize mode h.rest new.size → ((block : List ℕ) → block_heard h.rest ≡ block → decoder.HasHeard old.fused block Unasked → decoder.HasHeard new.fused block mode) → InPhase p old h Unasked against → InPhase p new h mode now
answered Line old new h mode against now range same_reader heard wrote fixed asked knows turns was =
    let wrong : None ≡ Some range = sym (no_range h.rest was.0.unfinished) ∙ fixed in absurd cc
answered Article old new h mode against now range same_reader heard wrote fixed asked knows turns was = record {
  kinds = was.kinds;
  waiting_is = was.waiting_is;
  status = was.status;
  block = was.block;
  line_reader = was.line_reader;
  rest_is = was.rest_is;
  line = was.line;
  stands = turns was.block (ap block_heard was.rest_is ∙ heard_behind was.status was.block was.line_reader was.line) was.stands;
  heard_is = heard ∙ was.heard_is;
  are_bytes = was.are_bytes;
  is_answered = is_answered_by mode h.rest range fixed;
  reader_is = subst (λ (r : Reader). reader.HoldsRest r []) (sym same_reader) was.reader_is;
  wrote_is = subst (HasGiven mode was.block) (sym wrote) (given_by mode was.block old.wrote was.wrote_is);
  size_is = knows;
}
  where
    is_answered_by : (mode : Mode) (rest : List ℕ) (range : Range) → range_of rest ≡ Some range → IsAnswered mode rest
    is_answered_by Unasked rest range fixed = tt
    is_answered_by On rest range fixed = (range, fixed)
    is_answered_by Away rest range fixed = (range, fixed)

answered_link : (old new : Connection) (h : Hearing) (mode : Mode) (against now : Option Clash) (range : Range) → h.over ≡ None → LinkStands old h Unasked against → new.phase ≡ old.phase → new.reader ≡ old.reader → new.heard ≡ old.heard → new.wrote ≡ old.wrote → new.quiet ≡ old.quiet → new.over ≡ old.over → new.against ≡ now → IsStood mode now → range_of h.rest ≡ Some range → (mode ≢ Unasked) → KnowsSize mode h.rest new.size → ((block : List ℕ) → block_heard h.rest ≡ block → decoder.HasHeard old.fused block Unasked → decoder.HasHeard new.fused block mode) → LinkStands new h mode now
answered_link old new h mode against now range alive stands phase same_reader heard wrote quiet over stood held_now fixed asked knows turns = record {
  over_is = over ∙ stands.over_is;
  listens = λ on. let was = stands.listens alive in record {
    quiet_is = quiet ∙ was.quiet_is;
    against_is = stood;
    stood_is = held_now;
    in_phase = subst (λ (p : Phase). InPhase p new h mode now) (sym phase) (answered old.phase old new h mode against now range same_reader heard wrote fixed asked knows turns was.in_phase);
  };
  shows = alive_shows new h mode alive;
}

same_size_of : (rest : List ℕ) (range other : Range) → range_of rest ≡ Some range → range_of rest ≡ Some other → range.size ≡ other.size
same_size_of rest range other one two = let both : Some range ≡ Some other = sym one ∙ two in let same : range ≡ other = cc in ap (λ (r : Range). r.size) same

pub link_goes_on : (old new : Connection) (h : Hearing) (against : Option Clash) (range : Range) → h.over ≡ None → LinkStands old h Unasked against → new.phase ≡ old.phase → new.reader ≡ old.reader → new.heard ≡ old.heard → new.wrote ≡ old.wrote → new.quiet ≡ old.quiet → new.over ≡ old.over → new.against ≡ old.against → range_of h.rest ≡ Some range → new.size ≡ range.size → ((heard : List ℕ) (mode : Mode) → mode ≢ Away → decoder.HasHeard old.fused heard mode → decoder.HasHeard new.fused heard On) → LinkStands new h On against
link_goes_on old new h against range alive stands phase same_reader heard wrote quiet over stood fixed size turns =
    answered_link old new h On against against range alive stands phase same_reader heard wrote quiet over (stood ∙ (stands.listens alive).against_is) (stands.listens alive).stood_is fixed (λ e. cc) (λ other known. size ∙ same_size_of h.rest range other fixed known) (λ block is was. turns block Unasked (λ e. cc) was)

-- where a range was just fixed, the bytes fix it
moment_range : (p : Phase) (old : Connection) (h : Hearing) (against : Option Clash) (b : Begin) (first last : ℕ) → IsMoment (block_heard h.rest) b first last → InPhase p old h Unasked against → range_of h.rest ≡ Some (record { size = b.size; first = first; last = last })
moment_range Line old h against b first last moment was =
    let none : block_heard h.rest ≡ [] = no_block h.rest was.0.unfinished in
    let empty : IsMoment [] b first last = subst (λ (k : List ℕ). IsMoment k b first last) none moment in
    let fixes = moment_fixes [] b first last empty in
    let wrong : None ≡ Some (record { size = b.size; first = first; last = last }) = fixes in absurd cc
moment_range Article old h against b first last moment was =
    let block : block_heard h.rest ≡ was.block = ap block_heard was.rest_is ∙ heard_behind was.status was.block was.line_reader was.line in
    ap range_of was.rest_is ∙ range_behind was.status was.block was.line_reader was.line
    ∙ moment_fixes was.block b first last (subst (λ (k : List ℕ). IsMoment k b first last) block moment)

pub link_turns_away : (old new : Connection) (h : Hearing) (against : Option Clash) (clash : Clash) (b : Begin) (first last : ℕ) → h.over ≡ None → LinkStands old h Unasked against → new.phase ≡ old.phase → new.reader ≡ old.reader → new.heard ≡ old.heard → new.wrote ≡ old.wrote → new.quiet ≡ old.quiet → new.over ≡ old.over → new.against ≡ Some clash → IsMoment (block_heard h.rest) b first last → ((heard : List ℕ) (k : Begin) (start end : ℕ) → decoder.HasHeard old.fused heard Unasked → IsMoment heard k start end → decoder.HasHeard new.fused heard Away) → LinkStands new h Away (Some clash)
link_turns_away old new h against clash b first last alive stands phase same_reader heard wrote quiet over stood moment turns =
    answered_link old new h Away against (Some clash) (record { size = b.size; first = first; last = last }) alive stands phase same_reader heard wrote quiet over stood (clash, refl)
    (moment_range old.phase old h against b first last moment (stands.listens alive).in_phase) (λ e. cc) tt
    (λ block is was. turns block b first last was (subst (λ (k : List ℕ). IsMoment k b first last) is moment))

-- ---- how many bytes were given

wrote_by : (p : Phase) (c : Connection) (h : Hearing) (mode : Mode) (against : Option Clash) (range : Range) (bytes : List ℕ) → mode ≢ Away → range_of h.rest ≡ Some range → IsGiven (block_heard h.rest) bytes → InPhase p c h mode against → c.wrote ≡ length bytes
wrote_by Line c h mode against range bytes read fixed given was = let wrong : None ≡ Some range = sym (no_range h.rest was.0.unfinished) ∙ fixed in absurd cc
wrote_by Article c h mode against range bytes read fixed given was =
    let block : block_heard h.rest ≡ was.block = ap block_heard was.rest_is ∙ heard_behind was.status was.block was.line_reader was.line in
    given_so_far mode was.block c.wrote read was.wrote_is bytes (subst (λ (b : List ℕ). IsGiven b bytes) block given)

pub wrote_is : (c : Connection) (h : Hearing) (mode : Mode) (against : Option Clash) (range : Range) (bytes : List ℕ) → h.over ≡ None → LinkStands c h mode against → mode ≢ Away → range_of h.rest ≡ Some range → IsGiven (block_heard h.rest) bytes → c.wrote ≡ length bytes
wrote_is c h mode against range bytes alive stands read fixed given = wrote_by c.phase c h mode against range bytes read fixed given (stands.listens alive).in_phase
