-- Lines that were added, and one or more behind them.
use Rattle.std.proofs.Common.{◌≡◌, ◌≢◌, ◌+◌, ℕ, suc, Bool, true, false, cond, List, [], ◌∷◌, ◌++◌, Option, Some, None, Ok, Err, refl, ap, sym, subst, ◌∙◌, append_assoc, append-nil, take, drop, arith}
use Rattle.std.specs.Prelude.{Result, is_some, not, slice_get, ◌==◌, if◌then◌else◌}
use Rattle.std.specs.List.{cons_option}
use Rattle.std.specs.Option.{option_map}
use Rattle.std.specs.Result.{result_ok}
use Rattle.std.proofs.lemmas.Bool.{eq-eqb}
use Rattle.std.proofs.lemmas.List.{take_more}
use Rattle.std.proofs.lemmas.List.Elements.{filter_map-append}
use Rattle.std.proofs.lemmas.List.Sums.{sum_by-append}
use Rattle.std.proofs.lemmas.Option.{get_or_from_slice_get, slice_get_within}
use Rattle.std.proofs.Math.Seq.{split_at}
use Rattle.dot_blocks.specs.Blocks.{IsBlock}
use Rattle.link_dialog.specs.Block.{IsKept}
use Rattle.link_dialog.specs.Replies.{Reply}
use Rattle.overview_lines.specs.Count.{count_of}
use Rattle.overview_lines.specs.OverLine.{Over}
use Rattle.overview_lines.specs.OverReading.{over_of}
use Rattle.overview_lines.specs.declared.count.Count.{Count}
use Rattle.overview_lines.specs.declared.over.OverFault.{OverFault}
use Rattle.overview_index.specs.Asking.{WouldFill}
use Rattle.overview_index.specs.Group.{Counted, WouldPass, counted, counted_in, keys_of}
use Rattle.overview_index.specs.Grouper.{AddAnswers, IsEntryOf, HasGrouped}
use Rattle.overview_index.specs.Session.{lines_in, overs_in, skipped_in, is_skipped, is_skipped_at, FitAnIndex}
use Rattle.overview_index.specs.declared.added.GroupError.{GroupError}
use Rattle.overview_index.specs.declared.added.GroupError.TheVariants.{Memory, Segments, Files}
use Rattle.overview_index.specs.declared.grouper.Grouper.{Grouper}
use Rattle.overview_index.proofs.Files.{length_zip}

-- an article of a line
abbrev counted_by : Over → Count → Counted
counted_by over count = record { over = over; count = count }

-- ---- a member of a list

pub take_there : {X : Type 0} (xs : List X) (i : ℕ) (x : X) → slice_get xs i ≡ Some x → take (i + 1) xs ≡ take i xs ++ x ∷ []
take_there xs i x is = take_more xs i x (slice_get_within xs i x is) ∙ ap (λ y. take i xs ++ y ∷ []) (get_or_from_slice_get xs i x x is)

pub split_there : {X : Type 0} (xs : List X) (i : ℕ) (x : X) → slice_get xs i ≡ Some x → xs ≡ take i xs ++ x ∷ drop (suc i) xs
split_there xs i x is = split_at xs i x (slice_get_within xs i x is) ∙ ap (λ y. take i xs ++ y ∷ drop (suc i) xs) (get_or_from_slice_get xs i x x is)

-- ---- what lines say

pub overs-append : (first second : List (List ℕ)) → overs_in (first ++ second) ≡ overs_in first ++ overs_in second
overs-append first second = filter_map-append (λ (line : List ℕ). result_ok (over_of line)) first second

skipped-append : (first second : List (List ℕ)) → skipped_in (first ++ second) ≡ skipped_in first + skipped_in second
skipped-append first second = sum_by-append (λ (line : List ℕ). cond (is_skipped line) 1 0) first second

over_alone : (line : List ℕ) (over : Over) → over_of line ≡ Ok over → overs_in (line ∷ []) ≡ over ∷ []
over_alone line over is = ap (λ (r : Result Over OverFault). cons_option (result_ok r) []) is

skipped_alone : (line : List ℕ) (r : Result Over OverFault) → over_of line ≡ r → skipped_in (line ∷ []) ≡ cond (is_skipped_at r) 1 0
skipped_alone line r is = let e : skipped_in (line ∷ []) ≡ cond (is_skipped_at (over_of line)) 1 0 = omega arith in e ∙ ap (λ (x : Result Over OverFault). cond (is_skipped_at x) 1 0) is

-- a line that is refused
pub overs_refused : (before : List (List ℕ)) (line : List ℕ) (fault : OverFault) → over_of line ≡ Err fault → overs_in (before ++ line ∷ []) ≡ overs_in before
overs_refused before line fault is =
    overs-append before (line ∷ []) ∙ ap (λ (r : Result Over OverFault). overs_in before ++ cons_option (result_ok r) []) is ∙ append-nil (overs_in before)

pub skipped_refused : (before : List (List ℕ)) (line : List ℕ) (fault : OverFault) → over_of line ≡ Err fault → skipped_in (before ++ line ∷ []) ≡ skipped_in before + 1
skipped_refused before line fault is = skipped-append before (line ∷ []) ∙ ap (λ n. skipped_in before + n) (skipped_alone line (Err fault) is)

-- a line that is read
pub overs_more : (before : List (List ℕ)) (line : List ℕ) (over : Over) → over_of line ≡ Ok over → overs_in (before ++ line ∷ []) ≡ overs_in before ++ over ∷ []
overs_more before line over is = overs-append before (line ∷ []) ∙ ap (λ o. overs_in before ++ o) (over_alone line over is)

-- a line whose subject has no count brings no article, and one whose subject has one does
uncounted : (over : Over) → counted over ≡ None → count_of over.subject ≡ None
unfolding counted
uncounted over none = by (count_of over.subject) none
  where
    by : (o : Option Count) → option_map (λ (count : Count). counted_by over count) o ≡ None → o ≡ None
    by None is = refl
    by (Some count) is = cc

some_count : (over : Over) (article : Counted) → counted over ≡ Some article → count_of over.subject ≢ None
unfolding counted
some_count over article some none = let both : counted over ≡ None = ap (λ (o : Option Count). option_map (λ (count : Count). counted_by over count) o) none in let e : Some article ≡ None = sym some ∙ both in cc

-- one with a count
is_counted : (o : Option Count) → o ≢ None → not (is_some o) ≡ false
is_counted None some = absurd (some refl)
is_counted (Some count) some = refl

pub skipped_counted : (before : List (List ℕ)) (line : List ℕ) (over : Over) (article : Counted) → over_of line ≡ Ok over → counted over ≡ Some article → skipped_in (before ++ line ∷ []) ≡ skipped_in before
skipped_counted before line over article is some =
    let none : skipped_in (line ∷ []) ≡ 0 = skipped_alone line (Ok over) is ∙ ap (λ b. cond b 1 0) (is_counted (count_of over.subject) (some_count over article some)) in
    omega (arith, skipped-append before (line ∷ []), none)

-- one without
pub skipped_uncounted : (before : List (List ℕ)) (line : List ℕ) (over : Over) → over_of line ≡ Ok over → counted over ≡ None → skipped_in (before ++ line ∷ []) ≡ skipped_in before + 1
skipped_uncounted before line over is none =
    let one : skipped_in (line ∷ []) ≡ 1 = skipped_alone line (Ok over) is ∙ ap (λ (o : Option Count). cond (not (is_some o)) 1 0) (uncounted over none) in
    omega (arith, skipped-append before (line ∷ []), one)

-- ---- where a line isn't added

-- lines for which a grouper stands pass no limit
fits : (grouper : Grouper) (group : List ℕ) (lines : List Over) → HasGrouped grouper group lines → FitAnIndex lines
fits grouper group lines s =
    let articles : List Counted = counted_in lines in (
      omega (arith, s.files.count, s.files.few_segments),
      omega (arith, length_zip (IsEntryOf articles) (keys_of articles) grouper.files.entries s.files.files, s.files.few_files),
    )

over_limit : (grouper : Grouper) (group : List ℕ) (lines : List Over) (line : Over) (reason : GroupError) → reason ≢ Memory → AddAnswers grouper group lines line (Err reason) → WouldPass lines line reason
over_limit grouper group lines line Memory some answer = absurd (some refl)
over_limit grouper group lines line Segments some answer = answer.0
over_limit grouper group lines line Files some answer = answer.0

pub fills_here : (was now : Grouper) (group : List ℕ) (before : List (List ℕ)) (line : List ℕ) (over : Over) (reason : GroupError) → over_of line ≡ Ok over → HasGrouped was group (overs_in before) → reason ≢ Memory → AddAnswers now group (overs_in before) over (Err reason) → WouldFill before (line ∷ []) reason
fills_here was now group before line over reason is stands some answer =
    let same : overs_in before ≡ overs_in before ++ [] = sym (append-nil (overs_in before)) in
    record {
      front = [];
      line = over;
      behind = [];
      lines_are = over_alone line over is;
      fits = subst (λ (lines : List Over). FitAnIndex lines) same (fits was group (overs_in before) stands);
      over = subst (λ (lines : List Over). WouldPass lines over reason) same (over_limit now group (overs_in before) over reason some answer);
    }

-- one of several lines
pub fills_among : (before lines : List (List ℕ)) (i : ℕ) (line : List ℕ) (reason : GroupError) → slice_get lines i ≡ Some line → WouldFill (before ++ take i lines) (line ∷ []) reason → WouldFill before lines reason
fills_among before lines i line reason there f =
    let first : List (List ℕ) = take i lines in
    let rest : List (List ℕ) = drop (suc i) lines in
    let same : overs_in (before ++ first) ++ f.front ≡ overs_in before ++ (overs_in first ++ f.front) = ap (λ l. l ++ f.front) (overs-append before first) ∙ append_assoc (overs_in before) (overs_in first) f.front in
    record {
      front = overs_in first ++ f.front;
      line = f.line;
      behind = f.behind ++ overs_in rest;
      lines_are = ap (λ l. overs_in l) (split_there lines i line there) ∙ overs-append first ((line ∷ []) ++ rest)
          ∙ ap (λ l. overs_in first ++ l) (overs-append (line ∷ []) rest ∙ ap (λ l. l ++ overs_in rest) f.lines_are ∙ append_assoc f.front (f.line ∷ f.behind) (overs_in rest))
          ∙ sym (append_assoc (overs_in first) f.front (f.line ∷ f.behind ++ overs_in rest));
      fits = subst (λ (l : List Over). FitAnIndex l) same f.fits;
      over = subst (λ (l : List Over). WouldPass l f.line reason) same f.over;
    }

-- ---- the lines of a reply

pub lines_of_block : (reply : Reply) → reply.code ≡ 224 → lines_in (reply ∷ []) ≡ reply.lines
lines_of_block reply is = append-nil (if reply.code == 224 then reply.lines else []) ∙ ap (λ b. if b then reply.lines else []) (eq-eqb reply.code 224 is)

-- where there was room for it, what is kept is the block of the reply
pub kept_block : (reply : Reply) (kept : Bool) (held : List ℕ) → kept ≡ true → (bytes : List ℕ) × IsBlock reply.lines bytes × IsKept kept held bytes → IsBlock reply.lines held
kept_block reply kept held all (bytes, is, keeps) =
    subst (λ (b : List ℕ). IsBlock reply.lines b) (sym (subst (λ (k : Bool). IsKept k held bytes) all keeps)) is
