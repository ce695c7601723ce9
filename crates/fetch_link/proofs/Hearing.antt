-- Silent bytes, and the one behind them.
use Rattle.std.proofs.Common.{◌≡◌, ◌<◌, ℕ, true, false, List, [], ◌∷◌, ◌++◌, Option, Some, None, refl, ap, sym, subst, ◌∙◌, append_assoc, append-nil, length, length-append, take, arith}
use Rattle.std.specs.Prelude.{is_some}
use Rattle.nntp_lines.specs.declared.why.Why.{Why}
use Rattle.nntp_lines.specs.declared.why.Why.TheVariants as why
use Rattle.link_dialog.specs.declared.awaited.Awaited.{Awaited}
use Rattle.link_dialog.specs.declared.awaited.Awaited.TheVariants.{Body}
use Rattle.link_dialog.specs.Replies.{Reply, first_line, why_of_rest}
use Rattle.link_dialog.proofs.Greatest.{first_line_stays}
use Rattle.link_dialog.proofs.ReaderSteps.{line_goes_on}
use Rattle.fetch_trace.specs.Hearing.{Hearing, after_byte, whole_by, read_as}
use Rattle.fetch_trace.specs.Verdicts.{range_of, range_of_block, block_of}
use Rattle.range_assembler.specs.declared.assembler.Clash.{Clash}
use Rattle.fused_decoder.specs.declared.state.Mode.{Mode}
use Rattle.fetch_link.specs.declared.connection.Connection.{Connection}
use Rattle.fetch_link.specs.declared.taking.What.{What}
use Rattle.fetch_link.specs.declared.taking.What.TheVariants as what
use Rattle.fetch_link.specs.declared.connection.Phase.{Phase}
use Rattle.fetch_link.specs.declared.connection.Phase.TheVariants as phase
use Rattle.fetch_link.specs.Shown.{block_awaited, is_shown}
use Rattle.fetch_link.specs.Link.{InPhase, KeepsBlock, LinkStands}
use Rattle.fetch_link.specs.Takes.{Takes}
use Rattle.fetch_link.specs.Bytes.{heard_by, IsSilent, AreSilent, block_heard, block_by}

-- ---- what is heard

-- what is heard with these bytes, where they are silent
abbrev pub longer : List ℕ → Hearing → Hearing
longer bytes h = record { replies = h.replies; waiting = h.waiting; rest = h.rest ++ bytes; quiets = 0; over = None }

abbrev Read : Hearing → List ℕ → Hearing
Read h rest = read_as (whole_by h.waiting rest) rest h

pub silent_byte : (h : Hearing) (byte : ℕ) (o : Option Reply) (w : Option Why) → whole_by h.waiting (h.rest ++ byte ∷ []) ≡ o → why_of_rest h.waiting (h.rest ++ byte ∷ []) ≡ w → o ≡ None → w ≡ None → after_byte byte h ≡ longer (byte ∷ []) h
silent_byte h byte (Some reply) w is why nothing none = cc
silent_byte h byte None (Some reason) is why nothing none = cc
silent_byte h byte None None is why nothing none =
    ap (λ (o : Option Reply). read_as o (h.rest ++ byte ∷ []) h) is
    ∙ ap (λ (w : Option Why). record { replies = h.replies; waiting = h.waiting; rest = h.rest ++ byte ∷ []; quiets = 0; over = w }) why

read_same : (o : Option Reply) (rest bytes : List ℕ) (h : Hearing) → read_as o rest (longer bytes h) ≡ read_as o rest h
read_same None rest bytes h = refl
read_same (Some reply) rest bytes h = refl

-- behind silent bytes the last one is heard as the end of all
pub heard_last : (front : List ℕ) (byte : ℕ) (h : Hearing) → AreSilent h.waiting h.rest front → heard_by (front ++ byte ∷ []) h ≡ Read h ((h.rest ++ front) ++ byte ∷ [])
heard_last [] byte h silent = ap (λ (r : List ℕ). Read h (r ++ byte ∷ [])) (sym (append-nil h.rest))
heard_last (x ∷ front) byte h silent =
    let one : after_byte x h ≡ longer (x ∷ []) h = silent_byte h x (whole_by h.waiting (h.rest ++ x ∷ [])) (why_of_rest h.waiting (h.rest ++ x ∷ [])) refl refl silent.0.0 silent.0.1 in
    ap (heard_by (front ++ byte ∷ [])) one
    ∙ heard_last front byte (longer (x ∷ []) h) silent.1
    ∙ read_same (whole_by h.waiting (((h.rest ++ x ∷ []) ++ front) ++ byte ∷ [])) (((h.rest ++ x ∷ []) ++ front) ++ byte ∷ []) (x ∷ []) h
    ∙ ap (λ (r : List ℕ). Read h (r ++ byte ∷ [])) (append_assoc h.rest (x ∷ []) front)

-- it is silent too, or fixes a range
pub heard_longer : (front : List ℕ) (byte : ℕ) (h : Hearing) → AreSilent h.waiting h.rest front → whole_by h.waiting ((h.rest ++ front) ++ byte ∷ []) ≡ None → why_of_rest h.waiting ((h.rest ++ front) ++ byte ∷ []) ≡ None → heard_by (front ++ byte ∷ []) h ≡ longer (front ++ byte ∷ []) h
heard_longer front byte h silent none alive =
    heard_last front byte h silent
    ∙ ap (λ (o : Option Reply). read_as o ((h.rest ++ front) ++ byte ∷ []) h) none
    ∙ ap (λ (w : Option Why). record { replies = h.replies; waiting = h.waiting; rest = (h.rest ++ front) ++ byte ∷ []; quiets = 0; over = w }) alive
    ∙ ap (λ (r : List ℕ). record { replies = h.replies; waiting = h.waiting; rest = r; quiets = 0; over = None }) (append_assoc h.rest front (byte ∷ []))

-- it makes a reply whole
pub heard_reply : (front : List ℕ) (byte : ℕ) (h : Hearing) (reply : Reply) → AreSilent h.waiting h.rest front → whole_by h.waiting ((h.rest ++ front) ++ byte ∷ []) ≡ Some reply → heard_by (front ++ byte ∷ []) h ≡ read_as (Some reply) [] h
heard_reply front byte h reply silent whole =
    heard_last front byte h silent ∙ ap (λ (o : Option Reply). read_as o ((h.rest ++ front) ++ byte ∷ []) h) whole

-- it ends the link
abbrev pub stopped_by : List ℕ → Why → Hearing → Hearing
stopped_by rest reason h = record { replies = h.replies; waiting = h.waiting; rest = rest; quiets = 0; over = Some reason }

pub heard_stop : (front : List ℕ) (byte : ℕ) (h : Hearing) (reason : Why) → AreSilent h.waiting h.rest front → whole_by h.waiting ((h.rest ++ front) ++ byte ∷ []) ≡ None → why_of_rest h.waiting ((h.rest ++ front) ++ byte ∷ []) ≡ Some reason → heard_by (front ++ byte ∷ []) h ≡ stopped_by ((h.rest ++ front) ++ byte ∷ []) reason h
heard_stop front byte h reason silent none why =
    heard_last front byte h silent
    ∙ ap (λ (o : Option Reply). read_as o ((h.rest ++ front) ++ byte ∷ []) h) none
    ∙ ap (λ (w : Option Why). record { replies = h.replies; waiting = h.waiting; rest = (h.rest ++ front) ++ byte ∷ []; quiets = 0; over = w }) why

-- ---- all but the last, and the last

pub record Split (bytes : List ℕ) : Type 0 where
  pub front : List ℕ
  pub final : ℕ
  pub is : bytes ≡ front ++ final ∷ []

pub split_last : (byte : ℕ) (bytes : List ℕ) → Split (byte ∷ bytes)
split_last byte [] = record { front = []; final = byte; is = refl }
split_last byte (next ∷ bytes) = let s = split_last next bytes in record { front = byte ∷ s.front; final = s.final; is = ap (λ (t : List ℕ). byte ∷ t) s.is }

pub split_some : (bytes : List ℕ) → 0 < length bytes → Split bytes
split_some [] some = absurd (omega (arith, some))
split_some (byte ∷ bytes) some = split_last byte bytes

pub silent_front : (front : List ℕ) (byte : ℕ) (kinds : List Awaited) (rest : List ℕ) → AreSilent kinds rest (front ++ byte ∷ []) → AreSilent kinds rest front
silent_front [] byte kinds rest silent = tt
silent_front (x ∷ front) byte kinds rest silent = (silent.0, silent_front front byte kinds (rest ++ x ∷ []) silent.1)

pub silent_last : (front : List ℕ) (byte : ℕ) (kinds : List Awaited) (rest : List ℕ) → AreSilent kinds rest (front ++ byte ∷ []) → IsSilent kinds (rest ++ front) byte
silent_last [] byte kinds rest silent = subst (λ (r : List ℕ). IsSilent kinds r byte) (sym (append-nil rest)) silent.0
silent_last (x ∷ front) byte kinds rest silent =
    subst (λ (r : List ℕ). IsSilent kinds r byte) (append_assoc rest (x ∷ []) front) (silent_last front byte kinds (rest ++ x ∷ []) silent.1)

-- ---- in a status line

pub no_line_in_front : (front back : List ℕ) → first_line (front ++ back) ≡ None → first_line front ≡ None
no_line_in_front front back none = by_line (first_line front) refl
  where
    by_line : (o : Option (List ℕ × List ℕ)) → first_line front ≡ o → first_line front ≡ None
    by_line None is = is
    by_line (Some line) is = let some = first_line_stays front back line is in let no : None ≡ Some (line.0, line.1 ++ back) = sym none ∙ some in cc

pub no_range : (rest : List ℕ) → first_line rest ≡ None → range_of rest ≡ None
no_range rest none = ap (λ (o : Option (List ℕ × List ℕ)). range_of_block (block_of o)) none

pub no_block : (rest : List ℕ) → first_line rest ≡ None → block_heard rest ≡ []
no_block rest none = ap (λ (o : Option (List ℕ × List ℕ)). block_by (block_of o)) none

line_byte : (kind : Awaited) (kinds : List Awaited) (rest : List ℕ) (byte : ℕ) → first_line (rest ++ byte ∷ []) ≡ None → length (rest ++ byte ∷ []) < 512 → IsSilent (kind ∷ kinds) rest byte
line_byte kind kinds rest byte none short =
    let on = line_goes_on kind (rest ++ byte ∷ []) none short in
    (on.0, on.1, λ before. no_range (rest ++ byte ∷ []) none)

pub line_silent : (kind : Awaited) (kinds : List Awaited) (bytes rest : List ℕ) → first_line (rest ++ bytes) ≡ None → length (rest ++ bytes) < 512 → AreSilent (kind ∷ kinds) rest bytes
line_silent kind kinds [] rest none short = tt
line_silent kind kinds (byte ∷ bytes) rest none short =
    let split : (rest ++ byte ∷ []) ++ bytes ≡ rest ++ byte ∷ bytes = append_assoc rest (byte ∷ []) bytes in
    let all : first_line ((rest ++ byte ∷ []) ++ bytes) ≡ None = ap first_line split ∙ none in
    let long : length ((rest ++ byte ∷ []) ++ bytes) ≡ length (rest ++ byte ∷ bytes) = ap length split in
    let few : length ((rest ++ byte ∷ []) ++ bytes) < 512 = omega (arith, long, short) in
    let fewer : length (rest ++ byte ∷ []) < 512 = omega (arith, few, length-append (rest ++ byte ∷ []) bytes) in
    (line_byte kind kinds rest byte (no_line_in_front (rest ++ byte ∷ []) bytes all) fewer, line_silent kind kinds bytes (rest ++ byte ∷ []) all few)

-- ---- the end of the link

-- of a link that is over the decoder of its unfinished article is kept
abbrev pub Shows : Connection → Hearing → Mode → Type 0
Shows c h mode = is_some h.over ≡ true → is_shown h.over ≡ true → KeepsBlock c.phase c h mode

pub alive_shows : (c : Connection) (h : Hearing) (mode : Mode) → h.over ≡ None → Shows c h mode
alive_shows c h mode alive over shown = let no : false ≡ true = sym (ap (λ (o : Option Why). is_some o) alive) ∙ over in cc

pub stopped : (new : Connection) (h : Hearing) (mode : Mode) (against : Option Clash) (front : List ℕ) (byte : ℕ) (reason : Why) → AreSilent h.waiting h.rest front → whole_by h.waiting ((h.rest ++ front) ++ byte ∷ []) ≡ None → why_of_rest h.waiting ((h.rest ++ front) ++ byte ∷ []) ≡ Some reason → new.over ≡ Some reason → Shows new (stopped_by ((h.rest ++ front) ++ byte ∷ []) reason h) mode → Takes new h mode against (front ++ byte ∷ []) [] (what.Over reason)
stopped new h mode against front byte reason silent none why over shows =
    let heard : heard_by (front ++ byte ∷ []) h ≡ stopped_by ((h.rest ++ front) ++ byte ∷ []) reason h = heard_stop front byte h reason silent none why in
    record {
      front = front;
      byte = byte;
      bytes_are = refl;
      silent = silent;
      does = (record { none = none; why = why }, refl);
      stands = subst (λ (k : Hearing). LinkStands new k mode against) (sym heard) (record { over_is = over; listens = λ alive. (let wrong : Some reason ≡ None = alive in cc); shows = shows });
    }

-- ---- what a call answers

pub takes_as : (new : Connection) (h : Hearing) (mode : Mode) (against : Option Clash) (bytes xs out given : List ℕ) (k did : What) → xs ≡ bytes → given ≡ out → did ≡ k → Takes new h mode against bytes out k → Takes new h mode against xs given did
takes_as new h mode against bytes xs out given k did one two three takes =
    subst (λ (w : What). Takes new h mode against xs given w) (sym three)
    (subst (λ (o : List ℕ). Takes new h mode against xs o k) (sym two) (subst (λ (b : List ℕ). Takes new h mode against b out k) (sym one) takes))

pub record OneByte (piece : List ℕ) : Type 0 where
  pub byte : ℕ
  pub is : take 1 piece ≡ byte ∷ []

pub one_byte : (piece : List ℕ) → 0 < length piece → OneByte piece
one_byte [] some = absurd (omega (arith, some))
one_byte (byte ∷ piece) some = record { byte = byte; is = refl }

-- ---- nothing is awaited

any_byte : (rest : List ℕ) (byte : ℕ) → why_of_rest [] (rest ++ byte ∷ []) ≡ Some why.Unasked
any_byte [] byte = refl
any_byte (c ∷ rest) byte = refl

-- the phase of a link on which nothing is awaited
waits_not : (p : Phase) (c : Connection) (h : Hearing) (mode : Mode) (against : Option Clash) → h.waiting ≡ [] → InPhase p c h mode against → p ≡ phase.Line
waits_not phase.Line c h mode against none was = refl
waits_not phase.Article c h mode against none was = let no : [] ≡ Body ∷ was.kinds = sym none ∙ was.waiting_is in cc

pub unasked : (old new : Connection) (h : Hearing) (mode : Mode) (against : Option Clash) (byte : ℕ) → h.over ≡ None → LinkStands old h mode against → new.phase ≡ old.phase → h.waiting ≡ [] → new.over ≡ Some why.Unasked → Takes new h mode against (byte ∷ []) [] (what.Over why.Unasked)
unasked old new h mode against byte alive stands same_phase none over =
    let line : new.phase ≡ phase.Line = same_phase ∙ waits_not old.phase old h mode against none (stands.listens alive).in_phase in
    let rest = (h.rest ++ []) ++ byte ∷ [] in
    stopped new h mode against [] byte why.Unasked tt (ap (λ (w : List Awaited). whole_by w rest) none)
    (ap (λ (w : List Awaited). why_of_rest w rest) none ∙ any_byte (h.rest ++ []) byte) over
    (λ is_over shown. subst (λ (p : Phase). KeepsBlock p new (stopped_by rest why.Unasked h) mode) (sym line) (ap (λ (w : List Awaited). block_awaited w rest) none))
