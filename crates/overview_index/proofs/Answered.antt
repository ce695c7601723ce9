-- What a grouper stands for behind one line more.
use Rattle.std.proofs.Common.{◌≡◌, ℕ, ◌+◌, ◌≤◌, ◌<◌, inl, inr, Bool, true, false, List, [], ◌∷◌, ◌++◌, length, None, Some, Ok, Err, Result, Option, IsErr, IsSome, is_err, is_some, nat_cmp, option_map, refl, sym, ap, subst, ◌∙◌, arith}
use Rattle.std.specs.BTreeMap.{btree_map_len, get}
use Rattle.std.specs.List.{AllZip, list_any}
use Rattle.std.specs.Map.{lookup, set_value, values_of}
use Rattle.std.proofs.lemmas.Bool.{true≢false}
use Rattle.std.proofs.lemmas.List.{length_push, map_push}
use Rattle.std.proofs.lemmas.List.Elements.{All-push}
use Rattle.std.proofs.lemmas.List.Sums.{sum_by_push}
use Rattle.std.proofs.lemmas.Map.{length-set_value}
use Rattle.std.proofs.lemmas.Map.Entries.{sum_by-set_value}
use Rattle.overview_lines.specs.Count.{count_of}
use Rattle.overview_lines.specs.OverLine.{Over}
use Rattle.overview_lines.specs.declared.count.Count.{Count}
use Rattle.overview_index.specs.Draft.{HasSegmentMore, IsDraftOf, IsSameDraft}
use Rattle.overview_index.specs.Group.{Counted, WouldPass, counted, counted_in, has_key, key_of, keys_of, number_of, parts_of, same_key, same_part}
use Rattle.overview_index.specs.Grouper.{BeginsFile, ChangesFile, HasFileMore, HasFilesOf, AddAnswers, IsEntryOf, IsArticleRead, PutsArticle, HasGrouped, count_behind, count_in, is_spelled, spelled}
use Rattle.overview_index.specs.declared.added.Added.{Added}
use Rattle.overview_index.specs.declared.added.Added.TheVariants.{New, Repeat, NoCount}
use Rattle.overview_index.specs.declared.added.GroupError.{GroupError}
use Rattle.overview_index.specs.declared.added.GroupError.TheVariants.{Memory, Segments, Files}
use Rattle.overview_index.specs.declared.draft.Draft.{Draft}
use Rattle.overview_index.specs.declared.grouper.Grouper.{Grouper}
use Rattle.overview_index.proofs.Drafts.{draft_begun, draft_more, draft_repeat, draft_same, has_number}
use Rattle.overview_index.proofs.Files.{AllZip-push, entry_kept, files_kept, files_set, length_zip, lookup-any, lookup-draft}
use Rattle.overview_index.proofs.Keys.{same_key-Decides, same_key-sym}
use Rattle.overview_index.proofs.Lines.{counted_more, counted_same, key_there, keys_more, keys_stay, part_absent, part_said, parts_more, parts_stay}
use Rattle.overview_index.proofs.Once.{IsDistinct-each_once}
use Rattle.limits.specs.declared.TheConstants.{MOST_FILES, MOST_SEGMENTS}

own_key : (a : Counted) → has_key (key_of a) a ≡ true
own_key a = (same_key-Decides (key_of a) (key_of a)).1 refl

-- ---- what is there already

module _ (old : Grouper) (group : List ℕ) (articles : List Counted) (a : Counted) (read : IsArticleRead a) (stands : HasFilesOf old group articles) where
  -- the table has the file of the article where an earlier article has its key
  file_there : is_some (lookup (is_spelled (spelled (key_of a))) old.files.entries) ≡ list_any (λ other. has_key (key_of other) a) articles
  file_there = lookup-any (key_of a) read.over.from.plain articles (keys_of articles) old.files.entries stands.files ∙ key_there articles (key_of a)

  file_is : (draft : Draft) → lookup (is_spelled (spelled (key_of a))) old.files.entries ≡ Some draft → IsDraftOf articles (key_of a) draft
  file_is draft there = lookup-draft (key_of a) read.over.from.plain articles (keys_of articles) old.files.entries draft stands.files there

  -- the file has the number of the article where an earlier article is the same part
  number_there : (draft : Draft) → lookup (is_spelled (spelled (key_of a))) old.files.entries ≡ Some draft → is_some (get nat_cmp draft.segments (number_of a)) ≡ list_any (λ other. same_part other a) articles
  number_there draft there = has_number (key_of a) (number_of a) articles draft (file_is draft there) ∙ sym (part_said articles a)

-- ---- what it stands for then

module _ (old new : Grouper) (group : List ℕ) (articles : List Counted) (a : Counted) (read : IsArticleRead a) (stands : HasFilesOf old group articles) (same_group : new.group ≡ old.group) where
  -- the same files
  unchanged : new.files.entries ≡ old.files.entries → new.count ≡ old.count → HasFilesOf new group articles
  unchanged files count = record {
    group_is = same_group ∙ stands.group_is;
    read = stands.read;
    files = subst (AllZip (IsEntryOf articles) (keys_of articles)) (sym files) stands.files;
    count = count ∙ stands.count;
    in_files = count ∙ stands.in_files ∙ ap (λ es. count_in (values_of es)) (sym files);
    few_segments = subst (λ n. n ≤ MOST_SEGMENTS) (sym count) stands.few_segments;
    few_files = subst (λ es. length es ≤ MOST_FILES) (sym files) stands.few_files;
  }

  -- a file for which another stands in the table
  module _ (before behind : Draft) (there : lookup (is_spelled (spelled (key_of a))) old.files.entries ≡ Some before)
      (files : new.files.entries ≡ set_value (is_spelled (spelled (key_of a))) old.files.entries behind) where
    set_count : count_in (values_of new.files.entries) + btree_map_len before.segments ≡ count_in (values_of old.files.entries) + btree_map_len behind.segments
    set_count =
        ap (λ es. count_in (values_of es) + btree_map_len before.segments) files
        ∙ sum_by-set_value (λ (draft : Draft). btree_map_len draft.segments) (is_spelled (spelled (key_of a))) old.files.entries before behind there

    set_len : length new.files.entries ≡ length old.files.entries
    set_len = ap length files ∙ length-set_value (is_spelled (spelled (key_of a))) old.files.entries behind

    -- the same file
    set_same : IsSameDraft before behind → new.count ≡ old.count → HasFilesOf new group articles
    set_same same count = record {
      group_is = same_group ∙ stands.group_is;
      read = stands.read;
      files = subst (AllZip (IsEntryOf articles) (keys_of articles)) (sym files)
          (files_set (key_of a) read.over.from.plain articles articles (λ x e apart is. is) behind (draft_same (key_of a) articles before behind same (file_is old group articles a read stands before there))
          (keys_of articles) old.files.entries (IsDistinct-each_once same_key _) stands.files);
      count = count ∙ stands.count;
      in_files =
          let lens : btree_map_len behind.segments ≡ btree_map_len before.segments = ap length same.segments in
          omega (arith, set_count, lens, stands.in_files, count);
      few_segments = subst (λ n. n ≤ MOST_SEGMENTS) (sym count) stands.few_segments;
      few_files = subst (λ n. n ≤ MOST_FILES) (sym set_len) stands.few_files;
    }

    any_there : list_any (λ other. has_key (key_of other) a) articles ≡ true
    any_there = sym (file_there old group articles a read stands) ∙ ap is_some there

    -- the file with the article
    set_more : IsDraftOf (articles ++ a ∷ []) (key_of a) behind → new.count ≡ length (parts_of (articles ++ a ∷ [])) → new.count ≡ count_in (values_of new.files.entries) → new.count ≤ MOST_SEGMENTS
        → HasFilesOf new group (articles ++ a ∷ [])
    set_more is count in_files few = record {
      group_is = same_group ∙ stands.group_is;
      read = All-push IsArticleRead articles a stands.read read;
      files = subst (λ ks. AllZip (IsEntryOf (articles ++ a ∷ [])) ks new.files.entries) (sym (keys_stay articles a any_there)) (
          subst (AllZip (IsEntryOf (articles ++ a ∷ [])) (keys_of articles)) (sym files)
          (files_set (key_of a) read.over.from.plain articles (articles ++ a ∷ []) (λ x e apart is'. entry_kept a articles x e apart is') behind is
          (keys_of articles) old.files.entries (IsDistinct-each_once same_key _) stands.files)
          );
      count = count;
      in_files = in_files;
      few_segments = few;
      few_files = subst (λ n. n ≤ MOST_FILES) (sym set_len) stands.few_files;
    }

    repeat_stands : IsSome (get nat_cmp before.segments (number_of a)) → IsSameDraft before behind → new.count ≡ old.count → HasFilesOf new group (articles ++ a ∷ [])
    repeat_stands there_already same count =
        let is = file_is old group articles a read stands before there in
        let part : list_any (λ other. same_part other a) articles ≡ true = sym (number_there old group articles a read stands before there) ∙ there_already in
        set_more (draft_same (key_of a) (articles ++ a ∷ []) before behind same (draft_repeat (key_of a) a articles before (own_key a) there_already is))
        (count ∙ stands.count ∙ sym (parts_stay articles a part)) ((set_same same count).in_files) ((set_same same count).few_segments)

    more_stands : get nat_cmp before.segments (number_of a) ≡ None → HasSegmentMore a before behind → old.count < MOST_SEGMENTS → new.count ≡ old.count + 1 → HasFilesOf new group (articles ++ a ∷ [])
    more_stands absent more few count =
        let is = file_is old group articles a read stands before there in
        let part : list_any (λ other. same_part other a) articles ≡ false = sym (number_there old group articles a read stands before there) ∙ ap is_some absent in
        set_more (draft_more (key_of a) a articles before behind (own_key a) absent more is)
        (omega (arith, count, stands.count, parts_more articles a part)) (omega (arith, set_count, more.more, stands.in_files, count)) (omega (arith, count, few))

  -- a file that the article begins
  begun_stands : list_any (λ other. has_key (key_of other) a) articles ≡ false → HasFileMore a (spelled (key_of a)) old.files.entries new.files.entries → old.count < MOST_SEGMENTS → length old.files.entries < MOST_FILES
      → new.count ≡ old.count + 1 → HasFilesOf new group (articles ++ a ∷ [])
  begun_stands absent more few few_files count =
      let k = key_of a in
      let nowhere : list_any (λ x. same_key x k) (keys_of articles) ≡ false = key_there articles k ∙ absent in
      let mine : list_any (has_key k) articles ≡ false = ap (λ (f : Counted → Bool). list_any f articles) (λ i x. same_key-sym k (key_of x) i) ∙ absent in
      record {
        group_is = same_group ∙ stands.group_is;
        read = All-push IsArticleRead articles a stands.read read;
        files = subst (λ ks. AllZip (IsEntryOf (articles ++ a ∷ [])) ks new.files.entries) (sym (keys_more articles a absent)) (
            subst (AllZip (IsEntryOf (articles ++ a ∷ [])) (keys_of articles ++ k ∷ [])) (sym more.files)
            (AllZip-push (IsEntryOf (articles ++ a ∷ [])) (keys_of articles) old.files.entries k (more.key, more.draft)
            (files_kept k read.over.from.plain articles (articles ++ a ∷ []) (λ x e apart is. entry_kept a articles x e apart is) (keys_of articles) old.files.entries nowhere stands.files)
            (record { plain = read.over.from.plain; text = more.text_is; draft = draft_begun k a articles more.draft (own_key a) mine more.begun more.segments }))
            );
        count = omega (arith, count, stands.count, parts_more articles a (part_absent articles a absent));
        in_files =
            let drafts : values_of new.files.entries ≡ values_of old.files.entries ++ more.draft ∷ [] = ap values_of more.files ∙ map_push (λ (e : _ × Draft). e.1) old.files.entries (more.key, more.draft) in
            let len : btree_map_len more.draft.segments ≡ 1 = ap length more.segments in
            let sum : count_in (values_of new.files.entries) ≡ count_in (values_of old.files.entries) + btree_map_len more.draft.segments =
            ap count_in drafts ∙ sum_by_push (λ (draft : Draft). btree_map_len draft.segments) (values_of old.files.entries) more.draft in
            omega (arith, count, stands.in_files, sum, len);
        few_segments = omega (arith, count, few);
        few_files = omega (arith, ap length more.files, length_push old.files.entries (more.key, more.draft), few_files);
      }

-- ---- the answers

some_same : (x y : Counted) (o : Option Counted) → o ≡ Some x → o ≡ Some y → x ≡ y
some_same x y o p q = cc

module _ (old new : Grouper) (group : List ℕ) (lines : List Over) (line : Over) (a : Counted) (is : counted line ≡ Some a) (read : IsArticleRead a) (stands : HasGrouped old group lines) (same_group : new.group ≡ old.group) where
  behind_line : HasFilesOf new group (counted_in lines ++ a ∷ []) → HasGrouped new group (lines ++ line ∷ [])
  behind_line files = record { files = subst (HasFilesOf new group) (sym (counted_more lines line a is)) files }

  -- the files within their limit, or the article is of a file that is there
  changed : (result : Result Added GroupError) → ChangesFile a (spelled (key_of a)) old.count old.files.entries new.files.entries result
      → ((added : Added) → result ≡ Ok added → new.count ≡ count_behind old.count added) → ((error : GroupError) → result ≡ Err error → new.count ≡ old.count) → AddAnswers new group lines line result
  changed (Ok New) ch counts stays =
      let adds = ch.adds in
      let part : list_any (λ other. same_part other a) (counted_in lines) ≡ false = sym (number_there old group (counted_in lines) a read stands.files ch.before ch.there) ∙ ap is_some adds.0 in
      let key : list_any (λ other. has_key (key_of other) a) (counted_in lines) ≡ true = sym (file_there old group (counted_in lines) a read stands.files) ∙ ap is_some ch.there in (
        (a, is, part),
        within_limits_there key adds.1,
        behind_line (more_stands old new group (counted_in lines) a read stands.files same_group ch.before ch.behind ch.there ch.files adds.0 adds.2 adds.1 (counts New refl)),
      )
    where
      within_limits_there : list_any (λ other. has_key (key_of other) a) (counted_in lines) ≡ true → old.count < MOST_SEGMENTS → (error : GroupError) → ¬ WouldPass lines line error
      within_limits_there key few Memory over = over
      within_limits_there key few Segments over = absurd (omega (arith, over.1, stands.files.count, few))
      within_limits_there key few Files over =
          let other_is : over.0.0 ≡ a = some_same over.0.0 a (counted line) over.0.1 is in
          absurd (true≢false (sym key ∙ subst (λ x. list_any (λ other. has_key (key_of other) x) (counted_in lines) ≡ false) other_is over.0.2))
  changed (Ok Repeat) ch counts stays =
      let adds = ch.adds in
      let part : list_any (λ other. same_part other a) (counted_in lines) ≡ true = sym (number_there old group (counted_in lines) a read stands.files ch.before ch.there) ∙ adds.0 in
      ((a, is, part), behind_line (repeat_stands old new group (counted_in lines) a read stands.files same_group ch.before ch.behind ch.there ch.files adds.0 adds.1 (counts Repeat refl)))
  changed (Ok NoCount) ch counts stays = absurd ch.adds
  changed (Err Memory) ch counts stays = record { files = set_same old new group (counted_in lines) a read stands.files same_group ch.before ch.behind ch.there ch.files ch.adds (stays Memory refl) }
  changed (Err Segments) ch counts stays =
      let adds = ch.adds in
      let part : list_any (λ other. same_part other a) (counted_in lines) ≡ false = sym (number_there old group (counted_in lines) a read stands.files ch.before ch.there) ∙ ap is_some adds.0 in
      (((a, is, part), subst (λ n. MOST_SEGMENTS ≤ n) stands.files.count adds.1), record { files = set_same old new group (counted_in lines) a read stands.files same_group ch.before ch.behind ch.there ch.files adds.2 (stays Segments refl) })
  changed (Err Files) ch counts stays = absurd ch.adds

  -- the article begins a file
  begun : (result : Result Added GroupError) → BeginsFile a (spelled (key_of a)) old.count old.files.entries new.files.entries result
      → ((added : Added) → result ≡ Ok added → new.count ≡ count_behind old.count added) → ((error : GroupError) → result ≡ Err error → new.count ≡ old.count) → AddAnswers new group lines line result
  begun (Ok New) be counts stays =
      let adds = be.adds in
      let key : list_any (λ other. has_key (key_of other) a) (counted_in lines) ≡ false = sym (file_there old group (counted_in lines) a read stands.files) ∙ ap is_some be.absent in (
        (a, is, part_absent (counted_in lines) a key),
        within_limits adds.0 adds.1,
        behind_line (begun_stands old new group (counted_in lines) a read stands.files same_group key adds.2 adds.0 adds.1 (counts New refl)),
      )
    where
      within_limits : old.count < MOST_SEGMENTS → length old.files.entries < MOST_FILES → (error : GroupError) → ¬ WouldPass lines line error
      within_limits few few_files Memory over = over
      within_limits few few_files Segments over = absurd (omega (arith, over.1, stands.files.count, few))
      within_limits few few_files Files over = absurd (omega (arith, over.2, few_files, length_zip (IsEntryOf (counted_in lines)) (keys_of (counted_in lines)) old.files.entries stands.files.files))
  begun (Ok Repeat) be counts stays = absurd be.adds
  begun (Ok NoCount) be counts stays = absurd be.adds
  begun (Err Memory) be counts stays = record { files = unchanged old new group (counted_in lines) a read stands.files same_group be.adds (stays Memory refl) }
  begun (Err Segments) be counts stays =
      let adds = be.adds in
      let key : list_any (λ other. has_key (key_of other) a) (counted_in lines) ≡ false = sym (file_there old group (counted_in lines) a read stands.files) ∙ ap is_some be.absent in (
        ((a, is, part_absent (counted_in lines) a key), subst (λ n. MOST_SEGMENTS ≤ n) stands.files.count adds.0),
        record { files = unchanged old new group (counted_in lines) a read stands.files same_group adds.1 (stays Segments refl) },
      )
  begun (Err Files) be counts stays =
      let adds = be.adds in
      let key : list_any (λ other. has_key (key_of other) a) (counted_in lines) ≡ false = sym (file_there old group (counted_in lines) a read stands.files) ∙ ap is_some be.absent in (
        ((a, is, key), subst (λ n. n < MOST_SEGMENTS) stands.files.count adds.0, omega (arith, adds.1, length_zip (IsEntryOf (counted_in lines)) (keys_of (counted_in lines)) old.files.entries stands.files.files)),
        record { files = unchanged old new group (counted_in lines) a read stands.files same_group adds.2 (stays Files refl) },
      )

  answered : (result : Result Added GroupError) → PutsArticle a (spelled (key_of a)) old.count old.files.entries new.files.entries result
      → ((added : Added) → result ≡ Ok added → new.count ≡ count_behind old.count added) → ((error : GroupError) → result ≡ Err error → new.count ≡ old.count) → AddAnswers new group lines line result
  answered result (inl ch) counts stays = changed result ch counts stays
  answered result (inr be) counts stays = begun result be counts stays

-- ---- a line without a count, and one with it

pub uncounted : (line : Over) → count_of line.subject ≡ None → counted line ≡ None
unfolding counted
uncounted line is = ap (option_map (λ count. record { over = line; count = count })) is

pub counted_as : (line : Over) (count : Count) → count_of line.subject ≡ Some count → counted line ≡ Some (record { over = line; count = count })
unfolding counted
counted_as line count is = ap (option_map (λ count. record { over = line; count = count })) is

pub nothing_added : (grouper : Grouper) (group : List ℕ) (lines : List Over) (line : Over) → counted line ≡ None → HasGrouped grouper group lines → HasGrouped grouper group (lines ++ line ∷ [])
nothing_added grouper group lines line is stands = record { files = subst (HasFilesOf grouper group) (sym (counted_same lines line is)) stands.files }

module _ (old new : Grouper) (group : List ℕ) (lines : List Over) (line : Over) (a : Counted) (text : List ℕ) (is : counted line ≡ Some a) (read : IsArticleRead a) (is_text : text ≡ spelled (key_of a))
    (stands : HasGrouped old group lines) (same_group : new.group ≡ old.group) where
  puts_as : (put result : Result Added GroupError) → put ≡ result → PutsArticle a text old.count old.files.entries new.files.entries put → PutsArticle a (spelled (key_of a)) old.count old.files.entries new.files.entries result
  puts_as put result same puts =
      subst (λ t. PutsArticle a t old.count old.files.entries new.files.entries result) is_text (subst (λ r. PutsArticle a text old.count old.files.entries new.files.entries r) same puts)

  pub answered_ok : (put : Result Added GroupError) (added : Added) → put ≡ Ok added → PutsArticle a text old.count old.files.entries new.files.entries put → new.count ≡ count_behind old.count added → AddAnswers new group lines line (Ok added)
  answered_ok put added same puts count =
      answered old new group lines line a is read stands same_group (Ok added) (puts_as put (Ok added) same puts) (λ other h. let e : added ≡ other = cc in count ∙ ap (count_behind old.count) e) (λ error h. cc)

  pub answered_err : (put result : Result Added GroupError) → put ≡ result → IsErr result → PutsArticle a text old.count old.files.entries new.files.entries put → new.count ≡ old.count → AddAnswers new group lines line result
  answered_err put result same refused puts count =
      answered old new group lines line a is read stands same_group result (puts_as put result same puts) (λ added h. absurd (true≢false (sym refused ∙ ap is_err h))) (λ error h. count)
