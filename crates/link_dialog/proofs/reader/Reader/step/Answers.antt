-- A step over the last byte of a line, over one that is too long, and over any other.
use Rattle.std.proofs.Common.{rules, ◌≡◌, ◌<◌, ◌++◌, [], ◌∷◌, length, ◌+◌, ◌-◌, true, false, set, take, None, ap, sym, ◌∙◌, arith, length-append, subst}
use Rattle.std.proofs.lemmas.List.{length-take-le, take_more_set, take-take}
use Rattle.link_dialog.specs.Judged.{IsJudgedBy}
use Rattle.link_dialog.specs.Replies.{ends_line, first_line, judged}
use Rattle.link_dialog.proofs.StatusLines.{line_more, line_whole}
use Rattle.link_dialog.proofs.ReaderSteps.{line_judged, line_too_long, line_goes_on}
use Rattle.link_dialog.proofs.reader.Reader.step.Goals as goal

pub returns-then-ends_line-clause-says : goal.returns-then-ends_line-clause-says
returns-then-ends_line-clause-says c rest stands =
    let ends : ends_line rest c.args.byte ≡ true = ap (λ r. ends_line r c.args.byte) (sym stands.bytes) ∙ sym c.ends_line.ensures.value ∙ c.if-ends_line.true in
    let len : length rest ≡ c.args.self.now.len = ap length (sym stands.bytes) ∙ length-take-le _ _ (search rules) in
    let below : c.args.self.now.len < 512 = c.args.self.now.in_range in
    let front : take (c.args.self.now.len - 1) c.args.self.now.line ≡ take (length rest - 1) rest =
    sym (take-take (c.args.self.now.len - 1) c.args.self.now.len c.args.self.now.line (omega arith))
    ∙ ap (λ r. take (c.args.self.now.len - 1) r) stands.bytes ∙ ap (λ n. take (n - 1) rest) (sym len) in
    let judgement : c.judged-judgement.result ≡ judged c.args.kind (take (length rest - 1) rest) =
    c.judged-judgement.ensures ∙ ap (λ r. judged c.args.kind (take (length r - 1) r)) stands.bytes in
    line_judged c.args.kind (rest ++ c.args.byte ∷ []) (take (length rest - 1) rest) c.step_of.result _ (line_whole rest c.args.byte stands.unfinished ends)
    (rw length-append (omega (arith, len, below)))
    (subst (λ j. IsJudgedBy j c.step_of.result) judgement c.step_of.ensures) front

pub returns-then-self-eq511-clause-says : goal.returns-then-self-eq511-clause-says
returns-then-self-eq511-clause-says c rest stands =
    let goes_on : ends_line rest c.args.byte ≡ false = ap (λ r. ends_line r c.args.byte) (sym stands.bytes) ∙ sym c.ends_line.ensures.value ∙ c.if-ends_line.false in
    let len : length rest ≡ 511 = ap length (sym stands.bytes) ∙ length-take-le _ _ (search rules) ∙ c.if-self-eq511.true in
    let long : length (rest ++ c.args.byte ∷ []) ≡ 512 = length-append rest (c.args.byte ∷ []) ∙ omega (arith, len) in
    line_too_long c.args.kind (rest ++ c.args.byte ∷ []) (line_more rest c.args.byte stands.unfinished goes_on) long

pub returns-else-self-eq511-clause-says : goal.returns-else-self-eq511-clause-says
returns-else-self-eq511-clause-says c rest stands =
    let goes_on : ends_line rest c.args.byte ≡ false = ap (λ r. ends_line r c.args.byte) (sym stands.bytes) ∙ sym c.ends_line.ensures.value ∙ c.if-ends_line.false in
    let len : length rest ≡ c.args.self.now.len = ap length (sym stands.bytes) ∙ length-take-le _ _ (search rules) in
    let below : c.args.self.now.len < 512 = c.args.self.now.in_range in
    let short : length (rest ++ c.args.byte ∷ []) < 512 = rw length-append (omega (arith, len, below, c.if-self-eq511.false)) in
    let none : first_line (rest ++ c.args.byte ∷ []) ≡ None = line_more rest c.args.byte stands.unfinished goes_on in
    let says = line_goes_on c.args.kind (rest ++ c.args.byte ∷ []) none short in
    let bytes : take (c.args.self.now.len + 1) (set c.args.self.now.line c.args.self.now.len c.args.byte) ≡ rest ++ c.args.byte ∷ [] =
    take_more_set c.args.self.now.line c.args.self.now.len c.args.byte (search rules) ∙ ap (λ r. r ++ c.args.byte ∷ []) stands.bytes in
    (says.0, says.1, record { bytes = bytes; unfinished = none })
