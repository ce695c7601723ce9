use Rattle.std.proofs.Common.{◌≡◌, ◌<◌, ◌++◌, [], ◌∷◌, List, ℕ, ◌+◌, take}
use Rattle.io_traits.specs.declared.links.LinkEvent.{LinkEvent}
use Rattle.link_dialog.specs.declared.awaited.Awaited.{Awaited}
use Rattle.link_dialog.specs.Replies.{Reply}
use Rattle.link_dialog.specs.Reader.{HoldsRest}
use Rattle.link_dialog.specs.Moments.{IsListening, state_of}
use Rattle.link_dialog.specs.Fed.{ListensAt}
use Rattle.link_dialog.proofs.reader.Reader.feed.Given as goal

abbrev pub invariant-loop-i : goal.invariant-loop-i
invariant-loop-i l = record {
  grew : l.self.len ≡ l.fn.self.len + l.i;
  stands : (rest : List ℕ) → HoldsRest l.fn.self rest → HoldsRest l.self (rest ++ take l.i l.piece);
  fed : (patience link : ℕ) (asked : List ℕ → List Awaited) (moment : List LinkEvent) (replies : List Reply) (rest : List ℕ) → 0 < patience → HoldsRest l.fn.self rest → IsListening patience asked moment (state_of replies (l.kind ∷ []) rest) → ListensAt patience link asked moment replies l.kind rest (take l.i l.piece);
}
