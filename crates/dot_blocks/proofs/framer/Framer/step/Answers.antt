use Rattle.std.proofs.Common.{◌≡◌, true, false, ◌++◌, ◌∷◌, [], List, ℕ, take, subst, sym, refl}
use Rattle.dot_blocks.specs.Heard.{IsAt}
use Rattle.dot_blocks.specs.declared.place.Place.{Place}
use Rattle.dot_blocks.proofs.Framing.{heard_block, ended_line, stands_before}
use Rattle.dot_blocks.proofs.framer.Framer.step.Goals as goal
use Rattle.dot_blocks.proofs.framer.Framer.step.Goals.{then-is_dot_line, else-is_dot_line}

pub returns-after-is_dot_line-clause-steps : goal.returns-after-is_dot_line-clause-steps
returns-after-is_dot_line-clause-steps c = λ heard lines begun stands.
    let piece : List ℕ = take c.in-Some.used c.args.bytes.now in
    let at : IsAt c.self.inside.place begun = subst (λ (p : Place). IsAt p begun) (sym c.self.view_is) stands.is_at in
    let ended = c.in-Some.ensures.some begun at stands.is_heard.goes_on in
    elim c.if-is_dot_line.branch [
      | then-is_dot_line w ↦
          let is : begun ++ piece ≡ 46 ∷ 13 ∷ 10 ∷ [] = (w.if-is_dot_line.ensures begun at stands.is_heard.goes_on ended).0 refl in
          rw w.result-is (is, heard_block heard lines begun piece stands.is_heard is, stands_before)
      | else-is_dot_line w ↦
          rw w.result-is (ended_line heard lines begun piece stands.is_heard ended (λ is. let no : false ≡ true = (w.if-is_dot_line.ensures begun at stands.is_heard.goes_on ended).1 is in cc))
    ]
