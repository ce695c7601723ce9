-- A piece that is heard, byte by byte.
use Rattle.std.proofs.Common.{◌≡◌, ◌<◌, ◌≤◌, ◌+◌, ◌-◌, ℕ, List, [], ◌∷◌, ◌++◌, Some, None, ap, sym, subst, ◌∙◌, append_assoc, append-nil, take, drop, length, get_or, arith}
use Rattle.std.proofs.lemmas.List.{length-take, map_more, take_more, map-append, take-append-drop, take_all}
use Rattle.io_traits.specs.declared.links.LinkEvent.{LinkEvent}
use Rattle.io_traits.specs.declared.links.LinkEvent.TheVariants.{Heard}
use Rattle.nntp_lines.specs.declared.why.Why.{Why}
use Rattle.nntp_lines.specs.declared.why.Why.TheVariants.{Unasked}
use Rattle.link_dialog.specs.declared.awaited.Awaited.{Awaited}
use Rattle.link_dialog.specs.declared.reader.Reader.{Reader}
use Rattle.link_dialog.specs.declared.reader.Step.{Step}
use Rattle.link_dialog.specs.declared.reader.Step.TheVariants.{More, Line, Over}
use Rattle.link_dialog.specs.Events.{single_bytes}
use Rattle.link_dialog.specs.Replies.{Reply, whole_reply, why_of_rest, first_line}
use Rattle.link_dialog.specs.Reader.{HoldsRest, Says}
use Rattle.link_dialog.specs.Moments.{IsListening, IsOver, state_of}
use Rattle.link_dialog.specs.Fed.{ListensAt, IsFed, IsRead, EndsAt}
use Rattle.link_dialog.proofs.MomentSteps.{Asked, hear_more, hear_reply, hear_over, hear_unasked, over_stays}

-- one byte more of a piece
pub piece_more : (m : List LinkEvent) (link : ℕ) (piece : List ℕ) (i : ℕ) → i < length piece → m ++ single_bytes link (take (i + 1) piece) ≡ (m ++ single_bytes link (take i piece)) ++ Heard link (get_or piece i 0 ∷ []) ∷ []
piece_more m link piece i below = ap (λ t. m ++ t) (map_more (λ byte. Heard link (byte ∷ [])) piece i 0 below) ∙ sym (append_assoc m (single_bytes link (take i piece)) (Heard link (get_or piece i 0 ∷ []) ∷ []))

pub rest_more : (rest piece : List ℕ) (i : ℕ) → i < length piece → rest ++ take (i + 1) piece ≡ (rest ++ take i piece) ++ get_or piece i 0 ∷ []
rest_more rest piece i below = ap (λ t. rest ++ t) (take_more piece i 0 below) ∙ sym (append_assoc rest (take i piece) (get_or piece i 0 ∷ []))

-- over within a piece is over at its end
pub over_in_piece : (p : ℕ) (asked : Asked) (m : List LinkEvent) (link : ℕ) (piece : List ℕ) (n : ℕ) (reason : Why) (replies : List Reply) → IsOver p asked (m ++ single_bytes link (take n piece)) reason replies → IsOver p asked (m ++ single_bytes link piece) reason replies
over_in_piece p asked m link piece n reason replies over =
    let whole : (m ++ single_bytes link (take n piece)) ++ single_bytes link (drop n piece) ≡ m ++ single_bytes link piece =
    append_assoc m (single_bytes link (take n piece)) (single_bytes link (drop n piece))
    ∙ ap (λ t. m ++ t) (sym (map-append (λ byte. Heard link (byte ∷ [])) (take n piece) (drop n piece)) ∙ ap (λ bytes. single_bytes link bytes) (take-append-drop n piece)) in
    let P : List LinkEvent → Type 0 = λ t. IsOver p asked t reason replies in
    subst P whole (over_stays p asked (m ++ single_bytes link (take n piece)) (single_bytes link (drop n piece)) reason replies over)

-- one byte more, by what is then at the end
by_byte : (G : List LinkEvent → List ℕ → Type 0) (m : List LinkEvent) (link : ℕ) (rest piece : List ℕ) (i : ℕ) → i < length piece → G ((m ++ single_bytes link (take i piece)) ++ Heard link (get_or piece i 0 ∷ []) ∷ []) ((rest ++ take i piece) ++ get_or piece i 0 ∷ []) → G (m ++ single_bytes link (take (i + 1) piece)) (rest ++ take (i + 1) piece)
by_byte G m link rest piece i below g =
    subst (λ (t : List LinkEvent). G t (rest ++ take (i + 1) piece)) (sym (piece_more m link piece i below))
    (subst (λ (r : List ℕ). G ((m ++ single_bytes link (take i piece)) ++ Heard link (get_or piece i 0 ∷ []) ∷ []) r) (sym (rest_more rest piece i below)) g)

-- a byte after which neither the reply is whole nor a reason holds
pub byte_goes_on : (p link : ℕ) (asked : Asked) (m : List LinkEvent) (replies : List Reply) (kind : Awaited) (rest piece : List ℕ) (i : ℕ) → 0 < p → i < length piece → ListensAt p link asked m replies kind rest (take i piece) → whole_reply kind (rest ++ take (i + 1) piece) ≡ None → why_of_rest (kind ∷ []) (rest ++ take (i + 1) piece) ≡ None → ListensAt p link asked m replies kind rest (take (i + 1) piece)
byte_goes_on p link asked m replies kind rest piece i some below s none no_why =
    let byte = get_or piece i 0 in
    by_byte (λ (t : List LinkEvent) (r : List ℕ). IsListening p asked t (state_of replies (kind ∷ []) r)) m link rest piece i below
    (hear_more p asked (m ++ single_bytes link (take i piece)) link byte replies kind [] (rest ++ take i piece) some s
    (ap (whole_reply kind) (sym (rest_more rest piece i below)) ∙ none)
    (ap (λ t. why_of_rest (kind ∷ []) t) (sym (rest_more rest piece i below)) ∙ no_why))

-- a byte that makes the reply whole
pub byte_ends_reply : (p link : ℕ) (asked : Asked) (m : List LinkEvent) (replies : List Reply) (kind : Awaited) (rest piece : List ℕ) (i : ℕ) (reply : Reply) → 0 < p → i < length piece → ListensAt p link asked m replies kind rest (take i piece) → whole_reply kind (rest ++ take (i + 1) piece) ≡ Some reply → IsListening p asked (m ++ single_bytes link (take (i + 1) piece)) (state_of (replies ++ reply ∷ []) [] [])
byte_ends_reply p link asked m replies kind rest piece i reply some below s is =
    subst (λ (t : List LinkEvent). IsListening p asked t (state_of (replies ++ reply ∷ []) [] [])) (sym (piece_more m link piece i below))
    (hear_reply p asked (m ++ single_bytes link (take i piece)) link (get_or piece i 0) replies kind [] (rest ++ take i piece) reply some s
    (ap (whole_reply kind) (sym (rest_more rest piece i below)) ∙ is))

-- a byte at which a reason holds
pub byte_ends_link : (p link : ℕ) (asked : Asked) (m : List LinkEvent) (replies : List Reply) (kind : Awaited) (rest piece : List ℕ) (i : ℕ) (reason : Why) → 0 < p → i < length piece → ListensAt p link asked m replies kind rest (take i piece) → whole_reply kind (rest ++ take (i + 1) piece) ≡ None → why_of_rest (kind ∷ []) (rest ++ take (i + 1) piece) ≡ Some reason → IsOver p asked (m ++ single_bytes link piece) reason replies
byte_ends_link p link asked m replies kind rest piece i reason some below s none why =
    over_in_piece p asked m link piece (i + 1) reason replies
    (subst (λ (t : List LinkEvent). IsOver p asked t reason replies) (sym (piece_more m link piece i below))
    (hear_over p asked (m ++ single_bytes link (take i piece)) link (get_or piece i 0) replies kind [] (rest ++ take i piece) reason some s
    (ap (whole_reply kind) (sym (rest_more rest piece i below)) ∙ none)
    (ap (λ t. why_of_rest (kind ∷ []) t) (sym (rest_more rest piece i below)) ∙ why)))

-- a byte behind the reply
pub unasked_in_piece : (p link : ℕ) (asked : Asked) (m : List LinkEvent) (replies : List Reply) (piece : List ℕ) (i : ℕ) → 0 < p → i < length piece → IsListening p asked (m ++ single_bytes link (take i piece)) (state_of replies [] []) → IsOver p asked (m ++ single_bytes link piece) Unasked replies
unasked_in_piece p link asked m replies piece i some below s =
    over_in_piece p asked m link piece (i + 1) Unasked replies
    (subst (λ (t : List LinkEvent). IsOver p asked t Unasked replies) (sym (piece_more m link piece i below))
    (hear_unasked p asked (m ++ single_bytes link (take i piece)) link (get_or piece i 0) replies some s))

-- ---- a status line

-- what a step over the next byte of a piece did
abbrev pub Stepped : ℕ → ℕ → Asked → List LinkEvent → List Reply → Awaited → List ℕ → List ℕ → ℕ → Step → Type 0
Stepped p link asked m replies kind rest piece i More = ListensAt p link asked m replies kind rest (take (i + 1) piece)
Stepped p link asked m replies kind rest piece i (Line code) = IsFed p link asked m replies kind rest piece (i + 1) (Line code)
Stepped p link asked m replies kind rest piece i (Over reason) = IsFed p link asked m replies kind rest piece (i + 1) (Over reason)

step_by : (p link : ℕ) (asked : Asked) (m : List LinkEvent) (replies : List Reply) (kind : Awaited) (rest piece : List ℕ) (i : ℕ) (step : Step) (reader : Reader) → 0 < p → i < length piece → ListensAt p link asked m replies kind rest (take i piece) → Says kind (rest ++ take (i + 1) piece) step reader → Stepped p link asked m replies kind rest piece i step
step_by p link asked m replies kind rest piece i More reader some below s says = byte_goes_on p link asked m replies kind rest piece i some below s says.0 says.1
step_by p link asked m replies kind rest piece i (Line code) reader some below s says =
    let back : (i + 1) - 1 ≡ i = omega arith in
    rw back s
step_by p link asked m replies kind rest piece i (Over reason) reader some below s says =
    byte_ends_link p link asked m replies kind rest piece i reason some below s says.0 says.1

says_next : (kind : Awaited) (rest piece : List ℕ) (i : ℕ) (step : Step) (before after : Reader) → i < length piece → HoldsRest before (rest ++ take i piece) → ((r : List ℕ) → HoldsRest before r → Says kind (r ++ get_or piece i 0 ∷ []) step after) → Says kind (rest ++ take (i + 1) piece) step after
says_next kind rest piece i step before after below stands says =
    subst (λ (r : List ℕ). Says kind r step after) (sym (rest_more rest piece i below)) (says (rest ++ take i piece) stands)

pub step_in_piece : (p link : ℕ) (asked : Asked) (m : List LinkEvent) (replies : List Reply) (kind : Awaited) (rest piece : List ℕ) (i : ℕ) (step : Step) (before after : Reader) → 0 < p → i < length piece → ListensAt p link asked m replies kind rest (take i piece) → HoldsRest before (rest ++ take i piece) → ((r : List ℕ) → HoldsRest before r → Says kind (r ++ get_or piece i 0 ∷ []) step after) → Stepped p link asked m replies kind rest piece i step
step_in_piece p link asked m replies kind rest piece i step before after some below s stands says =
    step_by p link asked m replies kind rest piece i step after some below s (says_next kind rest piece i step before after below stands says)

-- the line goes on, or it ends
pub line_goes_on_in : (kind : Awaited) (rest piece : List ℕ) (i : ℕ) (before after : Reader) → i < length piece → HoldsRest before (rest ++ take i piece) → ((r : List ℕ) → HoldsRest before r → Says kind (r ++ get_or piece i 0 ∷ []) More after) → HoldsRest after (rest ++ take (i + 1) piece)
line_goes_on_in kind rest piece i before after below stands says = (says_next kind rest piece i More before after below stands says).2

pub line_ends_in : (kind : Awaited) (rest piece : List ℕ) (i code : ℕ) (before after : Reader) → i < length piece → HoldsRest before (rest ++ take i piece) → ((r : List ℕ) → HoldsRest before r → Says kind (r ++ get_or piece i 0 ∷ []) (Line code) after) → IsRead kind rest piece (i + 1) (Line code) after
line_ends_in kind rest piece i code before after below stands says = (omega arith, says_next kind rest piece i (Line code) before after below stands says)

unfinished_before : (rest piece : List ℕ) (i : ℕ) (before : Reader) → HoldsRest before (rest ++ take i piece) → first_line (rest ++ take ((i + 1) - 1) piece) ≡ None
unfinished_before rest piece i before stands = let back : (i + 1) - 1 ≡ i = omega arith in rw back stands.unfinished

short_before : (rest piece : List ℕ) (i : ℕ) (before : Reader) → HoldsRest before (rest ++ take i piece) → length (rest ++ take ((i + 1) - 1) piece) < 512
short_before rest piece i before stands =
    let back : (i + 1) - 1 ≡ i = omega arith in
    let below : before.len < 512 = before.in_range in
    let same : length (take before.len before.line) ≡ length (rest ++ take i piece) = ap length stands.bytes in
    rw back (omega (arith, below, same, length-take before.len before.line))

-- the piece ended the line, or the link
pub line_ended_at : (kind : Awaited) (rest piece : List ℕ) (i code : ℕ) (before : Reader) → HoldsRest before (rest ++ take i piece) → EndsAt kind rest piece (i + 1) (Line code)
line_ended_at kind rest piece i code before stands = unfinished_before rest piece i before stands

pub link_ended_at : (kind : Awaited) (rest piece : List ℕ) (i : ℕ) (reason : Why) (before after : Reader) → i < length piece → HoldsRest before (rest ++ take i piece) → ((r : List ℕ) → HoldsRest before r → Says kind (r ++ get_or piece i 0 ∷ []) (Over reason) after) → EndsAt kind rest piece (i + 1) (Over reason)
link_ended_at kind rest piece i reason before after below stands says = (
  unfinished_before rest piece i before stands,
  short_before rest piece i before stands,
  (says_next kind rest piece i (Over reason) before after below stands says).1,
)

-- before the first byte
pub nothing_yet : (p link : ℕ) (asked : Asked) (m : List LinkEvent) (replies : List Reply) (kind : Awaited) (rest : List ℕ) → IsListening p asked m (state_of replies (kind ∷ []) rest) → ListensAt p link asked m replies kind rest []
nothing_yet p link asked m replies kind rest s =
    subst (λ (t : List LinkEvent). IsListening p asked t (state_of replies (kind ∷ []) (rest ++ []))) (sym (append-nil m))
    (subst (λ (r : List ℕ). IsListening p asked m (state_of replies (kind ∷ []) r)) (sym (append-nil rest)) s)

-- after the last one
pub all_listened : (p link : ℕ) (asked : Asked) (m : List LinkEvent) (replies : List Reply) (kind : Awaited) (rest piece : List ℕ) (n : ℕ) → length piece ≤ n → ListensAt p link asked m replies kind rest (take n piece) → ListensAt p link asked m replies kind rest piece
all_listened p link asked m replies kind rest piece n all s = subst (λ (t : List ℕ). ListensAt p link asked m replies kind rest t) (take_all n piece all) s

pub all_stands : (rest piece : List ℕ) (n : ℕ) (reader : Reader) → length piece ≤ n → HoldsRest reader (rest ++ take n piece) → HoldsRest reader (rest ++ piece)
all_stands rest piece n reader all s = subst (λ (t : List ℕ). HoldsRest reader (rest ++ t)) (take_all n piece all) s
