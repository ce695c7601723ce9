-- The ranges that are asked.
use Rattle.std.proofs.Common.{◌≡◌, ◌+◌, ◌-◌, ◌*◌, ◌/◌, ◌<◌, ℕ, zero, suc, List, [], ◌∷◌, ◌++◌, Some, refl, ap, sym, ◌∙◌, length, take, min, max, arith}
use Rattle.std.specs.Prelude.{slice_get}
use Rattle.std.proofs.lemmas.List.{map-append}
use Rattle.nntp_lines.specs.declared.group.GroupReply.{GroupReply}
use Rattle.link_dialog.specs.Dialog.{Message}
use Rattle.overview_index.specs.Session.{Query, Range, ranges_from, ranges_in, over_message, messages_of}
use Rattle.overview_index.proofs.AddedLines.{take_there}
use Rattle.limits.specs.declared.TheConstants.{MOST_FILES}

abbrev range : ℕ → ℕ → Range
range first last = record { first = first; last = last }

count_of_ranges : (count first last : ℕ) → length (ranges_from count first last) ≡ count
count_of_ranges zero first last = refl
count_of_ranges (suc n) first last = ap suc (count_of_ranges n (first + 10000) last)

same_range : (first last from to : ℕ) → first ≡ from → last ≡ to → Some (range first last) ≡ Some (range from to)
same_range first last from to one two = ap (λ k. Some (range k last)) one ∙ ap (λ k. Some (range from k)) two

range_at : (count first last i from to : ℕ) → i < count → from ≡ first + i * 10000 → to ≡ min last (from + 9999) → slice_get (ranges_from count first last) i ≡ Some (range from to)
range_at zero first last i from to less f t = absurd (omega (arith, less))
range_at (suc n) first last zero from to less f t =
    let one : first ≡ from = omega (arith, f) in
    let two : min last (first + 9999) ≡ to = omega (arith, f, t) in
    same_range first (min last (first + 9999)) from to one two
range_at (suc n) first last (suc i) from to less f t = range_at n (first + 10000) last i from to (omega (arith, less)) (omega (arith, f)) t

-- how many ranges of a newsgroup are asked, and which
pub count_in : (q : Query) (group : GroupReply) (least most : ℕ) → least ≡ max q.first group.low → most ≡ min q.last group.high → length (ranges_in q group) ≡ (most + 10000 - least) / 10000
unfolding ranges_in
count_in q group least most l m =
    count_of_ranges ((min q.last group.high + 10000 - max q.first group.low) / 10000) (max q.first group.low) (min q.last group.high)
    ∙ ap (λ k. (k + 10000 - max q.first group.low) / 10000) (sym m) ∙ ap (λ k. (most + 10000 - k) / 10000) (sym l)

pub range_there : (q : Query) (group : GroupReply) (least most i from to : ℕ) → least ≡ max q.first group.low → most ≡ min q.last group.high → i < (most + 10000 - least) / 10000 → from ≡ least + i * 10000 → to ≡ min most (from + 9999) →
    slice_get (ranges_in q group) i ≡ Some (record { first = from; last = to })
unfolding ranges_in
range_there q group least most i from to l m less f t =
    let same : (most + 10000 - least) / 10000 ≡ (min q.last group.high + 10000 - max q.first group.low) / 10000 = ap (λ k. (k + 10000 - least) / 10000) m ∙ ap (λ k. (min q.last group.high + 10000 - k) / 10000) l in
    range_at ((min q.last group.high + 10000 - max q.first group.low) / 10000) (max q.first group.low) (min q.last group.high) i from to (omega (arith, less, same)) (omega (arith, f, l)) (omega (arith, t, m))

-- what is said of one range more
pub messages_more : (name : List ℕ) (ranges : List Range) (i : ℕ) (range : Range) → slice_get ranges i ≡ Some range → messages_of name (take i ranges) ++ over_message range ∷ [] ≡ messages_of name (take (i + 1) ranges)
messages_more name ranges i range there =
    sym (ap (λ (l : List Range). messages_of name l) (take_there ranges i range there) ∙ ap (λ (l : List Message). messages_of name [] ++ l) (map-append over_message (take i ranges) (range ∷ [])))
