use Rattle.std.proofs.Common.{◌≡◌, None, ap, ◌∙◌, arith, bytes_eq, rules}
use Rattle.std.specs.Map.{lookup}
use Rattle.indexmap.proofs.CallerLemmas.{insert_entry-new}
use Rattle.overview_index.specs.Grouper.{is_spelled}
use Rattle.overview_index.proofs.grouper.Grouper.begin_file.Goals as goal

pub returns-in-Ok-insert-clause-files : goal.returns-in-Ok-insert-clause-files
returns-in-Ok-insert-clause-files c =
    let old = c.args.self.now in
    let text : c.in-Ok.key.items ≡ old.key = search rules in
    let absent : lookup (is_spelled c.in-Ok.key.items) old.files.entries ≡ None = ap (λ t. lookup (is_spelled t) old.files.entries) text ∙ c.requires in (
      omega arith,
      omega arith,
      record {
        key = c.in-Ok.key;
        draft = c.in_ok-draft.draft;
        text_is = text;
        begun = c.in_ok-draft.ensures.begun;
        segments = c.in_ok-draft.ensures.segments;
        files = c.in-Ok-insert.ensures.entries ∙ insert_entry-new (λ a b. bytes_eq a.items b.items) old.files c.in-Ok.key c.in_ok-draft.draft absent;
      },
    )
