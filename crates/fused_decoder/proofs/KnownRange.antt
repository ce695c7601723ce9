-- The range that a decoder keeps is that of the lines heard.
use Rattle.std.proofs.Common.{◌≡◌, ◌≢◌, ℕ, List, [], ◌∷◌, ◌++◌, refl, sym, ap, subst, ◌∙◌, append_assoc, inl, inr}
use Rattle.std.proofs.lemmas.List.{append-nil}
use Rattle.yenc_lines.specs.declared.keyword.Begin.{Begin}
use Rattle.yenc_body.specs.Body.{IsHead, IsFilled}
use Rattle.fused_decoder.specs.declared.state.Fused.{Fused}
use Rattle.fused_decoder.specs.declared.state.Phase.{Phase}
use Rattle.fused_decoder.specs.declared.state.Phase.TheVariants.{Seeking, PartDue, Data, Keyword, Done, Failed}
use Rattle.fused_decoder.specs.declared.state.Mode.{Mode}
use Rattle.fused_decoder.specs.declared.state.Mode.TheVariants.{Unasked, On, Away}
use Rattle.fused_decoder.specs.Machine.{range_in}
use Rattle.fused_decoder.specs.Stands.{IsKnown, ReadsLine, IsInMode, HasHeard}
use Rattle.fused_decoder.specs.RangeSoFar.{FixRange, SaysOfRange, IsRangeSoFar}
use Rattle.fused_decoder.proofs.ModeLaws.{fixed_before}

-- behind the line that fixes the range
range_behind : (f : Fused) (lines : List (List ℕ)) (b : Begin) (first last : ℕ) (bytes : List ℕ) (front more : List (List ℕ)) →
    lines ≡ front ++ more → IsFilled front b first last bytes → IsKnown f b first last → FixRange lines f.first f.last
range_behind f lines b first last bytes front more is h known =
    let head : IsHead h.head b f.first f.last = subst (λ (n : ℕ). IsHead h.head b n f.last) (sym known.2) (subst (λ (n : ℕ). IsHead h.head b first n) (sym known.3) h.is_head) in
    record { begin = b; head = h.head; more = h.data_lines ++ more; lines_are = is ∙ ap (λ (x : List (List ℕ)). x ++ more) h.lines_are ∙ append_assoc h.head h.data_lines more; is_head = head }

range_at : (p : Phase) (f : Fused) (lines : List (List ℕ)) (content : List ℕ) → ReadsLine p f lines content → SaysOfRange lines content (range_in p f)
range_at Seeking f lines content r = inl (λ x. fixed_before lines x.begin x (inl r.0))
range_at PartDue f lines content r = inl (λ x. fixed_before lines r.begin x (inr (r.number, r.is_front)))
range_at Data f lines content r = range_behind f lines r.begin r.first r.last r.bytes lines [] (sym (append-nil lines)) r.is_front r.is_known
range_at Keyword f lines content r = range_behind f lines r.begin r.first r.last r.bytes lines [] (sym (append-nil lines)) r.is_front r.is_known
range_at Done f lines content r =
    let body = r.1 in range_behind f lines r.0.begin r.0.first r.0.last r.0.content body.front (body.line ∷ body.more) body.lines_are body.filled r.2
range_at (Failed fault) f lines content r = inr (fault, r)

pub range_told : (f : Fused) (heard : List ℕ) (a : Mode) → a ≢ Away → HasHeard f heard a → IsRangeSoFar heard (range_in f.phase f)
range_told f heard a n s = record { lines = s.lines; dot = f.dot; content = s.content; cr = f.cr; is_heard = s.is_heard; says = told a n s.in_mode }
  where
    told : (b : Mode) → b ≢ Away → IsInMode b f s.lines s.content → SaysOfRange s.lines s.content (range_in f.phase f)
    told Unasked m h = range_at f.phase f s.lines s.content h.reads
    told On m h = range_at f.phase f s.lines s.content h.reads
    told Away m h = absurd (m refl)
