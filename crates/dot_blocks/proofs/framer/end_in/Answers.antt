use Rattle.std.proofs.Common.{◌≡◌, ◌∙◌, true, false, ℕ, List, ap, sym, get_or}
use Rattle.dot_blocks.proofs.LineEnds.{joined, none_begins}
use Rattle.dot_blocks.proofs.Framing.{ended_there}
use Rattle.dot_blocks.proofs.framer.end_in.Goals as goal
use Rattle.dot_blocks.proofs.framer.end_in.Goals.{else-is_returned-via-then-is_returned+then-not-is_empty+else-bytes-eq10, else-is_returned-via-then-is_returned+else-not-is_empty, else-is_returned-via-else-is_returned}

pub returns-in-Some-clause-some : goal.returns-in-Some-clause-some
returns-in-Some-clause-some c = λ begun at none.
    ended_there begun c.args.bytes.now _ c.in-Some.len
    (λ r rest e. elim c.else-is_returned.branch [
      | else-is_returned-via-then-is_returned+then-not-is_empty+else-bytes-eq10 w ↦ w.if-bytes-eq10.false (ap (λ (l : List ℕ). get_or l 0 0) e)
      | else-is_returned-via-then-is_returned+else-not-is_empty w ↦ none_begins c.args.bytes.now rest (sym w.is_empty.ensures ∙ w.if-not-is_empty.false) e
      | else-is_returned-via-else-is_returned w ↦ let no : false ≡ true = (w.if-is_returned.ensures begun at).1 r in cc
    ])
    none c.in-Some.ensures.before c.in-Some.ensures.here

pub returns-in-None-clause-none : goal.returns-in-None-clause-none
returns-in-None-clause-none c = λ begun at none.
    joined begun c.args.bytes.now none c.in-None.ensures.none
    (λ r rest e. elim c.else-is_returned.branch [
      | else-is_returned-via-then-is_returned+then-not-is_empty+else-bytes-eq10 w ↦ w.if-bytes-eq10.false (ap (λ (l : List ℕ). get_or l 0 0) e)
      | else-is_returned-via-then-is_returned+else-not-is_empty w ↦ none_begins c.args.bytes.now rest (sym w.is_empty.ensures ∙ w.if-not-is_empty.false) e
      | else-is_returned-via-else-is_returned w ↦ let no : false ≡ true = (w.if-is_returned.ensures begun at).1 r in cc
    ])
