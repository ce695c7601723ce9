use Rattle.std.proofs.Common.{◌≡◌, ◌∷◌, ◌++◌, [], List, ℕ, None, false, bytes_eq, sym, ap, ◌∙◌}
use Rattle.std.specs.Option.{is_some}
use Rattle.std.proofs.lemmas.Bool.{cond-false}
use Rattle.indexmap.proofs.CallerLemmas.{insert_entry-new}
use Rattle.par2_check.specs.Firsts.{first_in}
use Rattle.par2_check.proofs.FirstLaws.{none_known}
use Rattle.par2_check.proofs.firsts.Firsts.add.Goals as goal

pub returns : goal.returns
returns c =
    let firsts : List (List ℕ × ℕ) = c.args.self.now in
    let id : List ℕ = c.args.id in
    let unknown : is_some (first_in id firsts) ≡ false = ap is_some (sym c.first.ensures) ∙ sym c.is_some.ensures ∙ c.if-is_some.false in
    let absent : first_in id c.self.inside.numbers.entries ≡ None = ap (first_in id) c.self.view_is ∙ none_known (first_in id firsts) unknown in
    c.in_ok-insert.ensures.entries ∙ insert_entry-new bytes_eq c.self.inside.numbers id c.args.number absent ∙ ap (λ (l : List (List ℕ × ℕ)). l ++ (id, c.args.number) ∷ []) c.self.view_is
    ∙ sym (cond-false (is_some (first_in id firsts)) firsts (firsts ++ (id, c.args.number) ∷ []) unknown)
