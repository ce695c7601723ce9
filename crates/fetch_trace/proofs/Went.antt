-- Events after events.
use Rattle.std.proofs.Common.{◌≡◌, ℕ, Bool, List, [], ◌∷◌, ◌++◌, Option, refl, ap, sym, subst, ◌∙◌}
use Rattle.io_traits.specs.Links.{tell}
use Rattle.link_dialog.proofs.Telling.{tell-tell, tell-nothing}
use Rattle.fetch_trace.specs.Went.{Went}
use Rattle.io_traits.specs.declared.links.LinkEvent.{LinkEvent}
use Rattle.fetch_trace.specs.Setting.{Setting}
use Rattle.fetch_trace.specs.Standing.{Standing, on_number}
use Rattle.fetch_trace.specs.Moving.{hears, hears_byte, moved, moved_by}
use Rattle.fetch_trace.specs.Lawful.{IsLawful}
use Rattle.fetch_trace.specs.Turns.{AreInTurn}

pub moved-append : (setting : Setting) (s : Standing) (first second : List LinkEvent) → moved_by setting s (first ++ second) ≡ moved_by setting (moved_by setting s first) second
moved-append setting s [] second = refl
moved-append setting s (event ∷ first) second = moved-append setting (moved setting s event) first second

pub lawful-append : (setting : Setting) (s : Standing) (first second : List LinkEvent) → IsLawful setting s first → IsLawful setting (moved_by setting s first) second → IsLawful setting s (first ++ second)
lawful-append setting s [] second one two = two
lawful-append setting s (event ∷ first) second one two = (one.0, lawful-append setting (moved setting s event) first second one.1 two)

turns-append : (setting : Setting) (s : Standing) (first second : List LinkEvent) → AreInTurn setting s first → AreInTurn setting (moved_by setting s first) second → AreInTurn setting s (first ++ second)
turns-append setting s [] second one two = two
turns-append setting s (event ∷ first) second one two = (one.0, turns-append setting (moved setting s event) first second one.1 two)

-- a piece is heard as its front and then the rest of it
pub hears-append : (n : ℕ) (s : Standing) (front back : List ℕ) → hears (front ++ back) n s ≡ hears back n (hears front n s)
hears-append n s [] back = refl
hears-append n s (byte ∷ front) back = hears-append n (on_number (hears_byte byte) n s) front back

-- ---- one function after another

-- what the first one leaves is where the second one begins
pub went_then : (setting : Setting) (keeps : Bool) (facts after : Standing → Type 0) (s : Standing) (a b c : Option (List LinkEvent)) → Went setting keeps facts s a b → ((t : Standing) → facts t → Went setting keeps after t b c) → Went setting keeps after s a c
went_then setting keeps facts after s a b c first second =
    let next = second (moved_by setting s first.events) first.stands in
    record {
      events = first.events ++ next.events;
      told = next.told ∙ ap (λ (o : Option (List LinkEvent)). tell o next.events) first.told ∙ tell-tell a first.events next.events;
      lawful = lawful-append setting s first.events next.events first.lawful next.lawful;
      turns = λ kept. turns-append setting s first.events next.events (first.turns kept) (next.turns kept);
      stands = subst after (sym (moved-append setting s first.events next.events)) next.stands;
    }

-- nothing was told
pub went_nowhere : (setting : Setting) (keeps : Bool) (facts : Standing → Type 0) (s : Standing) (a : Option (List LinkEvent)) → facts s → Went setting keeps facts s a a
went_nowhere setting keeps facts s a stands = record { events = []; told = tell-nothing a; lawful = tt; turns = λ kept. tt; stands = stands }
