-- What is heard on a link, in the fold over all links.
use Rattle.std.proofs.Common.{◌≡◌, ℕ, Bool, true, false, ◌||◌, List, [], ◌∷◌, ◌++◌, Option, Some, None, refl, ap, sym, ◌∙◌}
use Rattle.std.specs.Prelude.{slice_get, is_some, not, cond}
use Rattle.nntp_lines.specs.declared.why.Why.{Why}
use Rattle.link_dialog.specs.Replies.{Reply, why_of_rest}
use Rattle.fetch_trace.specs.Hearing.{Hearing, after_byte, whole_by}
use Rattle.fetch_trace.specs.Verdicts.{Range, range_of}
use Rattle.fetch_trace.specs.LinkNow.{LinkNow, with_hearing, is_over, is_ready, waiting_of}
use Rattle.fetch_trace.specs.Standing.{Standing, with_link, place_from, on_number}
use Rattle.fetch_trace.specs.Moving.{hears, hears_byte, replies_by, goes_on, claims}
use Rattle.fetch_trace.proofs.Lists.{edit-nothing}
use Rattle.fetch_trace.proofs.Sending.{edit-twice, get-edit_same, place-kept}
use Rattle.fetch_trace.proofs.Went.{hears-append}
use Rattle.fetch_link.specs.Bytes.{heard_by, IsSilent, AreSilent}
use Rattle.fetch_link.specs.Laws.{behind, IsLive, SilenceMovesHearing, LastByteMoves}
use Rattle.fetch_link.proofs.Hearing.{longer, silent_byte}

right_false : (a b : Bool) → (a || b) ≡ false → b ≡ false
right_false true b is = cc
right_false false b is = is

-- ---- one byte

no_claim : (hearing : Hearing) (before now : Option Range) (waiting : List ℕ) (i : ℕ) (l : LinkNow) (s : Standing) → (before ≡ None → now ≡ None) → claims hearing before now waiting i l s ≡ with_link i (with_hearing hearing l) s
no_claim hearing None None waiting i l s none = refl
no_claim hearing None (Some range) waiting i l s none = let wrong : Some range ≡ None = none refl in absurd cc
no_claim hearing (Some range) now waiting i l s none = refl

on_goes : (hearing : Hearing) (ready : Bool) (i : ℕ) (l : LinkNow) (s : Standing) → (range_of l.hearing.rest ≡ None → range_of hearing.rest ≡ None) → goes_on hearing ready i l s ≡ with_link i (with_hearing hearing l) s
on_goes hearing true i l s none = no_claim hearing (range_of l.hearing.rest) (range_of hearing.rest) (waiting_of l.asking) i l s none
on_goes hearing false i l s none = refl

byte_silent : (byte i : ℕ) (l : LinkNow) (s : Standing) → is_over l ≡ false → IsSilent l.hearing.waiting l.hearing.rest byte → hears_byte byte i l s ≡ with_link i (with_hearing (after_byte byte l.hearing) l) s
byte_silent byte i l s live silent =
    let whole = whole_by l.hearing.waiting (l.hearing.rest ++ byte ∷ []) in
    let one : after_byte byte l.hearing ≡ longer (byte ∷ []) l.hearing = silent_byte l.hearing byte (whole_by l.hearing.waiting (l.hearing.rest ++ byte ∷ [])) (why_of_rest l.hearing.waiting (l.hearing.rest ++ byte ∷ [])) refl refl silent.0 silent.1 in
    ap (λ (b : Bool). cond b s (replies_by (after_byte byte l.hearing) (whole_by l.hearing.waiting (l.hearing.rest ++ byte ∷ [])) (is_ready l) i l s)) live
    ∙ ap (λ (o : Option Reply). replies_by (after_byte byte l.hearing) o (is_ready l) i l s) silent.0
    ∙ ap (λ (h : Hearing). replies_by h None (is_ready l) i l s) one
    ∙ on_goes (longer (byte ∷ []) l.hearing) (is_ready l) i l s silent.2
    ∙ ap (λ (h : Hearing). with_link i (with_hearing h l) s) (sym one)

-- ---- the link stays where it is

lives_on : (s : Standing) (n i : ℕ) (l : LinkNow) (h : Hearing) → h.over ≡ None → IsLive s n i l → IsLive (with_link i (with_hearing h l) s) n i (with_hearing h l)
lives_on s n i l h alive on = record {
  place = place-kept 0 n s.links i l (with_hearing h l) on.here refl ∙ on.place;
  here = get-edit_same s.links i l (with_hearing h l) on.here;
  live = ap (λ (b : Bool). b || not (is_some l.opening.number)) (ap is_some alive) ∙ right_false (is_some l.hearing.over) (not (is_some l.opening.number)) on.live;
}

on_live : (f : ℕ → LinkNow → Standing → Standing) (s : Standing) (n i : ℕ) (l : LinkNow) → IsLive s n i l → on_number f n s ≡ f i l s
on_live f s n i l on =
    let place : place_from 0 n s.links ≡ Some i = on.place in
    let here : slice_get s.links i ≡ Some l = on.here in
    rw (place, here) refl

same_link : (s : Standing) (i : ℕ) (l : LinkNow) → slice_get s.links i ≡ Some l → with_link i l s ≡ s
same_link s i l here = ap (λ (links : List LinkNow). record { links = links; entries = s.entries; ends = s.ends; last = s.last }) (edit-nothing s.links i (λ old. l) l here refl)

link_twice : (s : Standing) (i : ℕ) (l now : LinkNow) → with_link i now (with_link i l s) ≡ with_link i now s
link_twice s i l now = ap (λ (links : List LinkNow). record { links = links; entries = s.entries; ends = s.ends; last = s.last }) (edit-twice s.links i l now)

-- ---- bytes

hears_silent : (bytes : List ℕ) (s : Standing) (n i : ℕ) (l : LinkNow) → IsLive s n i l → AreSilent l.hearing.waiting l.hearing.rest bytes → hears bytes n s ≡ with_link i (behind bytes l) s
hears_silent [] s n i l on silent = sym (same_link s i l on.here)
hears_silent (byte ∷ bytes) s n i l on silent =
    let h = l.hearing in
    let one : after_byte byte l.hearing ≡ longer (byte ∷ []) l.hearing = silent_byte l.hearing byte (whole_by l.hearing.waiting (l.hearing.rest ++ byte ∷ [])) (why_of_rest l.hearing.waiting (l.hearing.rest ++ byte ∷ [])) refl refl silent.0.0 silent.0.1 in
    let moved : on_number (hears_byte byte) n s ≡ with_link i (with_hearing (longer (byte ∷ []) l.hearing) l) s =
    on_live (hears_byte byte) s n i l on ∙ byte_silent byte i l s on.live silent.0 ∙ ap (λ (k : Hearing). with_link i (with_hearing k l) s) one in
    let next = lives_on s n i l (longer (byte ∷ []) l.hearing) refl on in
    ap (λ (t : Standing). hears bytes n t) moved
    ∙ hears_silent bytes (with_link i (with_hearing (longer (byte ∷ []) l.hearing) l) s) n i (with_hearing (longer (byte ∷ []) l.hearing) l) next silent.1
    ∙ link_twice s i (with_hearing (longer (byte ∷ []) l.hearing) l) (with_hearing (heard_by bytes (longer (byte ∷ []) l.hearing)) l)
    ∙ ap (λ (k : Hearing). with_link i (with_hearing (heard_by bytes k) l) s) (sym one)

pub silence_moves_hearing : SilenceMovesHearing
silence_moves_hearing s n i l bytes on silent = hears_silent bytes s n i l on silent

alive_behind : (bytes : List ℕ) (h : Hearing) → h.over ≡ None → AreSilent h.waiting h.rest bytes → (heard_by bytes h).over ≡ None
alive_behind [] h alive silent = alive
alive_behind (byte ∷ bytes) h alive silent =
    let one : after_byte byte h ≡ longer (byte ∷ []) h = silent_byte h byte (whole_by h.waiting (h.rest ++ byte ∷ [])) (why_of_rest h.waiting (h.rest ++ byte ∷ [])) refl refl silent.0.0 silent.0.1 in
    ap (λ (k : Hearing). (heard_by bytes k).over) one ∙ alive_behind bytes (longer (byte ∷ []) h) refl silent.1

alive_of : (o : Option Why) (b : Bool) → (is_some o || b) ≡ false → o ≡ None
alive_of None b live = refl
alive_of (Some reason) b live = cc

pub last_byte_moves : LastByteMoves
last_byte_moves s n i l front byte on silent =
    let alive : l.hearing.over ≡ None = alive_of l.hearing.over (not (is_some l.opening.number)) on.live in
    let next = lives_on s n i l (heard_by front l.hearing) (alive_behind front l.hearing alive silent) on in
    hears-append n s front (byte ∷ [])
    ∙ ap (λ (t : Standing). on_number (hears_byte byte) n t) (hears_silent front s n i l on silent)
    ∙ on_live (hears_byte byte) (with_link i (behind front l) s) n i (behind front l) next
