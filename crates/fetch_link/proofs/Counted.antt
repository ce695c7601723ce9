-- How many bytes an article gave.
use Rattle.std.proofs.Common.{◌≡◌, ◌≢◌, ◌+◌, ℕ, false, List, [], ◌++◌, refl, sym, ap, ◌∙◌, length, length-append, arith}
use Rattle.yenc_body.specs.declared.place.Place.TheVariants.{Opening}
use Rattle.fused_decoder.specs.declared.state.Fused.{Fused}
use Rattle.fused_decoder.specs.declared.state.Mode.{Mode}
use Rattle.fused_decoder.specs.declared.state.Mode.TheVariants.{Unasked, On, Away}
use Rattle.fused_decoder.specs.DataGiven.{data_given}
use Rattle.fused_decoder.specs.Stands.{HasHeard}
use Rattle.fused_decoder.specs.Steps.{IsGiven, Gives}
use Rattle.fused_decoder.proofs.GivenLaws.{given_one}
use Rattle.fused_decoder.proofs.HeardLaws.{heard_none}
use Rattle.fused_decoder.proofs.HeardOnce.{heard_once}
use Rattle.fetch_link.specs.Link.{HasGiven}

-- bytes give the same
given_once : (heard a b : List ℕ) → IsGiven heard a → IsGiven heard b → a ≡ b
given_once heard a b one two =
    let same = heard_once heard one.lines two.lines one.dot two.dot one.content two.content one.cr two.cr one.is_heard two.is_heard in
    one.bytes_are ∙ (λ i. data_given (same.lines i) (same.content i)) ∙ sym two.bytes_are

-- what is given next counts
given_more : (f : Fused) (mode : Mode) (before after out : List ℕ) (wrote : ℕ) → HasHeard f before mode → ((bytes : List ℕ) → IsGiven before bytes → IsGiven after (bytes ++ out)) → ((bytes : List ℕ) → IsGiven before bytes → wrote ≡ length bytes) → (bytes : List ℕ) → IsGiven after bytes → wrote + length out ≡ length bytes
given_more f mode before after out wrote s gives counts bytes given =
    let was : IsGiven before (data_given s.lines s.content) = record { lines = s.lines; dot = f.dot; content = s.content; cr = f.cr; is_heard = s.is_heard; bytes_are = refl } in
    let same : bytes ≡ data_given s.lines s.content ++ out = given_once after bytes (data_given s.lines s.content ++ out) given (gives (data_given s.lines s.content) was) in
    let all : length bytes ≡ length (data_given s.lines s.content ++ out) = ap length same in
    let count = counts (data_given s.lines s.content) was in
    omega (arith, all, count, length-append (data_given s.lines s.content) out)

pub has_given : (f : Fused) (mode : Mode) (before after out : List ℕ) (wrote : ℕ) → HasHeard f before mode → Gives mode before after out → HasGiven mode before wrote → HasGiven mode after (wrote + length out)
has_given f Unasked before after out wrote s gives counts = given_more f Unasked before after out wrote s gives counts
has_given f On before after out wrote s gives counts = given_more f On before after out wrote s gives counts
has_given f Away before after out wrote s gives counts = tt

-- before the first byte
pub none_given : HasGiven Unasked [] 0
none_given bytes given =
    let none : IsGiven [] [] = record { lines = []; dot = false; content = []; cr = false; is_heard = heard_none; bytes_are = sym (given_one Opening []) } in
    ap length (given_once [] [] bytes none given)

pub given_so_far : (mode : Mode) (block : List ℕ) (wrote : ℕ) → mode ≢ Away → HasGiven mode block wrote → (bytes : List ℕ) → IsGiven block bytes → wrote ≡ length bytes
given_so_far Unasked block wrote read counts = counts
given_so_far On block wrote read counts = counts
given_so_far Away block wrote read counts = absurd (read refl)
