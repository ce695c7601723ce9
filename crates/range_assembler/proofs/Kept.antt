-- What a change of one entry keeps of the order and the sizes.
use Rattle.std.proofs.Common.{◌≡◌, ◌≢◌, ◌+◌, ◌<◌, ◌≤◌, ◌^◌, ◌⊎◌, inl, inr, zero, suc, ℕ, Bool, true, false, List, [], ◌∷◌, ◌++◌, Option, Some, None, length, replicate, refl, ap, sym, subst, ◌∙◌, arith, set, length-set}
use Rattle.std.proofs.Math.ListN.{length-replicate}
use Rattle.std.specs.Prelude.{slice_get, cond, nat_le, ◌==◌, insert, remove}
use Rattle.std.proofs.lemmas.Bool.Decides.{nat_tests}
use Rattle.std.proofs.lemmas.Bool.{cases_lt, cases_eq}
use Rattle.range_assembler.specs.declared.assembler.Entry.{Entry}
use Rattle.range_assembler.specs.declared.assembler.Hold.{Hold}
use Rattle.range_assembler.specs.declared.assembler.Hold.TheVariants.{Free, Held, Accepted}
use Rattle.range_assembler.specs.declared.sequence.Range.{Range}
use Rattle.range_assembler.specs.Before.{IsPlace}
use Rattle.range_assembler.specs.Claims.{is_free, is_held}
use Rattle.range_assembler.specs.Entries.{least_clash, shares, is_taken, is_accepted, kept_size, size_here, free_entry, entries_of}
use Rattle.range_assembler.specs.Order.{range_of, is_shown, count_shown, IsOrder, IsAbsent, IsIndexed, with_range, without_place, size_read}
use Rattle.range_assembler.specs.Sound.{AreSoundRanges}
use Rattle.range_assembler.proofs.Holds.{sound-set, sound-start, free_in, fits-claim, fits-accept, fits-release}
use Rattle.lists.proofs.OnePlace.{get-set_other, get-set_same}
use Rattle.range_assembler.proofs.Scanning.{no_clash, kept_is, kept_none}
use Rattle.range_assembler.proofs.SetLaws.{shared}
use Rattle.range_assembler.proofs.Ordering.{not_before, before_means, reaches, below_place, from_place, leads, some_at, within, has_offset, shown_means}
use Rattle.range_assembler.proofs.Changes.{absent, order-hidden, order-kept, order-insert, order-remove, count-set, count-upto, one_if}
use Rattle.limits.specs.declared.TheConstants.{MOST_FILE_BYTES, MOST_SEGMENTS}

same_length : {X : Type 0} (xs : List X) (i : ℕ) (x : X) → length (set xs i x) ≡ length xs
same_length xs i x = length-set xs i x

-- there is room for one more
pub few : (entries : List Entry) (order : List Range × ℕ) (sizes : List (Option ℕ)) → IsIndexed entries order sizes → length order.0 + 1 < 2 ^ 32
few entries order sizes index = let a = index.many in let b = count-upto entries in let c = index.sound.few in omega (arith, a, b, c)

size_skip : (file of : ℕ) (hold : Hold) (other : Option ℕ) → is_accepted hold ≡ false → size_here file of hold other ≡ other
size_skip file of Free other is = refl
size_skip file of Held other is = refl
size_skip file of (Accepted size) other is = cc

-- an entry that isn't accepted, before and after
kept-set : (entries : List Entry) (i file : ℕ) (old new : Entry) → slice_get entries i ≡ Some old → is_accepted old.hold ≡ false → is_accepted new.hold ≡ false → kept_size file (set entries i new) ≡ kept_size file entries
kept-set [] i file old new is first second = cc
kept-set (entry ∷ entries) zero file old new is first second =
    let same : entry ≡ old = cc in
    let none : is_accepted entry.hold ≡ false = ap (λ (e : Entry). is_accepted e.hold) same ∙ first in
    size_skip file new.file new.hold (kept_size file entries) second ∙ sym (size_skip file entry.file entry.hold (kept_size file entries) none)
kept-set (entry ∷ entries) (suc i) file old new is first second = ap (λ o. size_here file entry.file entry.hold o) (kept-set entries i file old new is first second)

size_other : (file of : ℕ) (hold : Hold) (other : Option ℕ) → of ≢ file → size_here file of hold other ≡ other
size_other file of Free other differ = refl
size_other file of Held other differ = refl
size_other file of (Accepted size) other differ = let test : (of == file) ≡ false = grind (arith, nat_tests) in rw test refl

-- an entry of another file
kept-other : (entries : List Entry) (i file : ℕ) (old new : Entry) → slice_get entries i ≡ Some old → old.file ≢ file → new.file ≡ old.file → kept_size file (set entries i new) ≡ kept_size file entries
kept-other [] i file old new is differ its = cc
kept-other (entry ∷ entries) zero file old new is differ its =
    let same : entry ≡ old = cc in
    size_other file new.file new.hold (kept_size file entries) (λ e. differ (sym its ∙ e))
    ∙ sym (size_other file entry.file entry.hold (kept_size file entries) (λ e. differ (sym (ap (λ (x : Entry). x.file) same) ∙ e)))
kept-other (entry ∷ entries) (suc i) file old new is differ its = ap (λ o. size_here file entry.file entry.hold o) (kept-other entries i file old new is differ its)

kept_now_case : (entries : List Entry) (i size : ℕ) (new : Entry) (o : Option ℕ) → AreSoundRanges entries → slice_get entries i ≡ Some new → new.hold ≡ Accepted size → kept_size new.file entries ≡ o → o ≡ Some size
kept_now_case entries i size new None sound is has found = absurd (kept_none new.file entries i size new found is refl has)
kept_now_case entries i size new (Some n) sound is has found =
    let r = kept_is new.file n entries found in
    ap (λ k. Some k) (sound.one_size r.place i r.entry new n size r.is is r.its r.has has)

-- the file's size, where one of its parts was accepted with it
kept_now : (entries : List Entry) (i size : ℕ) (new : Entry) → AreSoundRanges entries → slice_get entries i ≡ Some new → new.hold ≡ Accepted size → kept_size new.file entries ≡ Some size
kept_now entries i size new sound is has = kept_now_case entries i size new (kept_size new.file entries) sound is has refl

free_not : (hold : Hold) → is_free hold ≡ true → (is_taken hold ≡ false) × (is_accepted hold ≡ false)
free_not Free is = (refl, refl)
free_not Held is = cc
free_not (Accepted size) is = cc

held_not : (hold : Hold) → is_held hold ≡ true → (is_taken hold ≡ true) × (is_accepted hold ≡ false)
held_not Free is = cc
held_not Held is = (refl, refl)
held_not (Accepted size) is = cc

hidden : (entry : Entry) → is_taken entry.hold ≡ false → is_shown entry ≡ false
hidden entry none = rw none refl

-- no range is that of a segment that has none
pub absent_free : (entries : List Entry) (order : List Range × ℕ) (sizes : List (Option ℕ)) (i : ℕ) (old : Entry) → IsIndexed entries order sizes → slice_get entries i ≡ Some old → is_free old.hold ≡ true → IsAbsent i order.0
absent_free entries order sizes i old index is free = absent entries order.0 i old index.ordered is (hidden old (free_not old.hold free).0)

-- a range that isn't before an offset, from which on none is
not_from : (entries : List Entry) (ranges : List Range) (file first p k : ℕ) (other : Range) → IsOrder entries ranges → IsPlace file first ranges p → p ≤ k → slice_get ranges k ≡ Some other → (file < other.file) ⊎ ((other.file ≡ file) × (first ≤ other.last))
not_from entries ranges file first p k other order at high is = elim (cases_eq k p) [
  | inl same ↦ not_before file first other (at.from other (ap (λ n. slice_get ranges n) (sym same) ∙ is))
  | inr differ ↦ (let up : p < k = omega (arith, high, differ) in
      let inside : p < length ranges = (let w = within ranges k other is in omega (arith, w, up)) in
      let here = some_at ranges p inside in
      let some = has_offset entries ranges k other order is in
      elim (not_before file first here.range (at.from here.range here.there)) [
        | inl above ↦ elim (order.rising p k here.range other up here.there is) [
          | inl less ↦ (let far : file < other.file = omega (arith, above, less) in inl far)
          | inr ends ↦ (let far : file < other.file = (let e = ends.0 in omega (arith, above, e)) in inl far)
        ]
        | inr same ↦ elim (order.rising p k here.range other up here.there is) [
          | inl less ↦ (let far : file < other.file = (let e = same.0 in omega (arith, e, less)) in inl far)
          | inr ends ↦ (let its : other.file ≡ file = sym ends.0 ∙ same.0 in let reach : first ≤ other.last = (let e = same.1 in let f = ends.1 in omega (arith, e, f, some)) in inr (its, reach))
        ]
      ])
]

-- what stands from the place on begins behind a range that shares no offset
above_place : (entries : List Entry) (ranges : List Range) (file first last p k : ℕ) (other : Range) → IsOrder entries ranges → IsPlace file first ranges p → least_clash 0 file first last entries ≡ None → first ≤ last → p ≤ k → slice_get ranges k ≡ Some other → (file < other.file) ⊎ ((file ≡ other.file) × (last < other.first))
above_place entries ranges file first last p k other order at none asked high is = elim (not_from entries ranges file first p k other order at high is) [
  | inl far ↦ inl far
  | inr same ↦ elim (cases_lt last other.first) [
    | inl behind ↦ inr (sym same.0, behind)
    | inr upto ↦ (let stands = order.sound k other is in
        let means = shown_means stands.entry stands.shown in
        let some = means.1 in
        let reach = same.1 in
        let one : other.first ≡ stands.entry.first = ap (λ (r : Range). r.first) stands.same in
        let two : other.last ≡ stands.entry.last = ap (λ (r : Range). r.last) stands.same in
        let three : other.file ≡ stands.entry.file = ap (λ (r : Range). r.file) stands.same in
        let its : stands.entry.file ≡ file = sym three ∙ same.0 in
        let no_share : shares file first last stands.entry ≡ false = no_clash 0 file first last entries other.segment stands.entry none stands.there in
        elim (cases_lt first other.first) [
          | inl above ↦ (let yes_share : shares file first last stands.entry ≡ true = shared file first last other.first stands.entry (record { its = its; taken = means.0; low = omega (arith, one); high = omega (arith, one, some) }) (omega (arith, above)) upto in
              let no_way : true ≡ false = sym yes_share ∙ no_share in cc)
          | inr below ↦ (let yes_share : shares file first last stands.entry ≡ true = shared file first last first stands.entry (record { its = its; taken = means.0; low = omega (arith, one, below); high = omega (arith, two, reach) }) (omega arith) asked in
              let no_way : true ≡ false = sym yes_share ∙ no_share in cc)
        ])
  ]
]

length_insert : {X : Type 0} (xs : List X) (p : ℕ) (y : X) → p ≤ length xs → length (insert xs p y) ≡ length xs + 1
length_insert xs zero y low = omega arith
length_insert [] (suc p) y low = absurd (omega arith)
length_insert (x ∷ xs) (suc p) y low = let e = length_insert xs p y (omega arith) in omega (arith, e)

length_remove : {X : Type 0} (xs : List X) (p : ℕ) → p < length xs → length (remove xs p) + 1 ≡ length xs
length_remove [] p low = absurd (omega arith)
length_remove (x ∷ xs) zero low = omega arith
length_remove (x ∷ xs) (suc p) low = let e = length_remove xs p (omega arith) in omega (arith, e)

ordered_claim : (entries : List Entry) (ranges : List Range) (i first last p : ℕ) (old : Entry) → IsOrder entries ranges → slice_get entries i ≡ Some old → is_shown old ≡ false → IsPlace old.file first ranges p → least_clash 0 old.file first last entries ≡ None → (b : Bool) → nat_le first last ≡ b → IsOrder (set entries i record { file = old.file; hold = Held; first = first; last = last }) (cond b (insert ranges p record { file = old.file; segment = i; first = first; last = last }) ranges)
ordered_claim entries ranges i first last p old order is none at clear true test =
    let asked : first ≤ last = grind (arith, nat_tests) in
    let shows : is_shown (record { file = old.file; hold = Held; first = first; last = last }) ≡ true = test in
    order-insert entries ranges i p old (record { file = old.file; hold = Held; first = first; last = last }) order is none shows at.within
    (λ j one low there. before_means old.file first one (below_place entries ranges old.file first p j one order at low there))
    (λ k other high there. above_place entries ranges old.file first last p k other order at clear asked high there)
ordered_claim entries ranges i first last p old order is none at clear false test =
    order-hidden entries ranges i old (record { file = old.file; hold = Held; first = first; last = last }) order is none test

many_claim : (ranges : List Range) (p : ℕ) (range : Range) (b : Bool) → p ≤ length ranges → length (cond b (insert ranges p range) ranges) ≡ length ranges + one_if b
many_claim ranges p range true low = length_insert ranges p range low
many_claim ranges p range false low = omega arith

-- a claim
pub index-claim : (entries : List Entry) (order after : List Range × ℕ) (sizes : List (Option ℕ)) (i first last p : ℕ) (old : Entry) → IsIndexed entries order sizes → slice_get entries i ≡ Some old → is_free old.hold ≡ true → IsPlace old.file first order.0 p → least_clash 0 old.file first last entries ≡ None → 1 ≤ first → first ≤ last + 1 → last ≤ MOST_FILE_BYTES → after.0 ≡ with_range p record { file = old.file; segment = i; first = first; last = last } order.0 → after.1 ≡ order.1 → IsIndexed (set entries i record { file = old.file; hold = Held; first = first; last = last }) after sizes
index-claim entries order after sizes i first last p old index is free at clear one forward small ranges sides =
    let frees = free_not old.hold free in
    let none = hidden old frees.0 in
    let new : Entry = record { file = old.file; hold = Held; first = first; last = last } in
    record {
      sound = sound-set entries i old _ index.sound is (fits-claim entries i first last old is clear one forward small);
      ordered = subst (λ (t : List Range). IsOrder (set entries i record { file = old.file; hold = Held; first = first; last = last }) t) (sym ranges) (ordered_claim entries order.0 i first last p old index.ordered is none at clear (nat_le first last) refl);
      many = (let a = ap (λ (t : List Range). length t) ranges in
          let b = many_claim order.0 p (record { file = old.file; segment = i; first = first; last = last }) (nat_le first last) at.within in
          let c = count-set entries i old (record { file = old.file; hold = Held; first = first; last = last }) is in
          let d : one_if (is_shown old) ≡ 0 = ap one_if none in
          let e = index.many in
          omega (arith, a, b, c, d, e));
      sides = (let a = index.sides in let b = same_length entries i (record { file = old.file; hold = Held; first = first; last = last }) in omega (arith, a, b, sides));
      files = λ k entry there. elim (cases_eq k i) [
        | inl same ↦ (let two : Some (record { file = old.file; hold = Held; first = first; last = last }) ≡ Some entry = sym (get-set_same entries i _ old is) ∙ ap (λ n. slice_get (set entries i record { file = old.file; hold = Held; first = first; last = last }) n) (sym same) ∙ there in
            let e : record { file = old.file; hold = Held; first = first; last = last } ≡ entry = cc in
            subst (λ n. n < length sizes) (ap (λ (x : Entry). x.file) e) (index.files i old is))
        | inr other ↦ index.files k entry (sym (get-set_other entries i k _ other) ∙ there)
      ];
      known = λ file low. index.known file low ∙ ap (λ o. Some o) (sym (kept-set entries i file old _ is frees.1 refl));
    }

pub entry_within : (entries : List Entry) (k : ℕ) (entry : Entry) → slice_get entries k ≡ Some entry → k < length entries
entry_within [] k entry is = cc
entry_within (e ∷ entries) zero entry is = omega arith
entry_within (e ∷ entries) (suc k) entry is = let low = entry_within entries k entry is in omega (arith, low)

-- the range of a segment stands at its place
pub at_place : (entries : List Entry) (ranges : List Range) (i p : ℕ) (old : Entry) → IsOrder entries ranges → slice_get entries i ≡ Some old → is_shown old ≡ true → IsPlace old.file old.first ranges p → slice_get ranges p ≡ Some (range_of i old)
at_place entries ranges i p old order is shows at =
    let some = (shown_means old shows).1 in
    let listed = order.whole i old is shows in
    let high = from_place entries ranges old.file old.first p listed.place (range_of i old) order at listed.there (reaches old.file old.first (range_of i old) refl some) in
    elim (cases_eq listed.place p) [
      | inl same ↦ ap (λ n. slice_get ranges n) (sym same) ∙ listed.there
      | inr other ↦ (let up : p < listed.place = omega (arith, high, other) in
          let lead = leads entries ranges old.file old.first p listed.place (range_of i old) order at listed.there refl up in
          let a = lead.reach in let b = lead.ends in absurd (omega (arith, a, b)))
    ]

shown_same : (entry : Entry) → is_taken entry.hold ≡ true → is_shown entry ≡ nat_le entry.first entry.last
shown_same entry taken = rw taken refl

ordered_accept : (entries : List Entry) (ranges : List Range) (i size : ℕ) (old : Entry) → IsOrder entries ranges → slice_get entries i ≡ Some old → is_taken old.hold ≡ true → (b : Bool) → nat_le old.first old.last ≡ b → IsOrder (set entries i record { file = old.file; hold = Accepted size; first = old.first; last = old.last }) ranges
ordered_accept entries ranges i size old order is taken true test = order-kept entries ranges i old (record { file = old.file; hold = Accepted size; first = old.first; last = old.last }) order is (shown_same old taken ∙ test) test refl
ordered_accept entries ranges i size old order is taken false test = order-hidden entries ranges i old (record { file = old.file; hold = Accepted size; first = old.first; last = old.last }) order is (shown_same old taken ∙ test) test

-- a part is accepted
pub index-accept : (entries : List Entry) (order : List Range × ℕ) (sizes : List (Option ℕ)) (i size : ℕ) (old : Entry) → IsIndexed entries order sizes → slice_get entries i ≡ Some old → is_held old.hold ≡ true → old.last ≤ size → ((kept : ℕ) → kept_size old.file entries ≡ Some kept → kept ≡ size) → IsIndexed (set entries i record { file = old.file; hold = Accepted size; first = old.first; last = old.last }) order (set sizes old.file (Some size))
index-accept entries order sizes i size old index is held small same =
    let holds = held_not old.hold held in
    let sound : AreSoundRanges (set entries i record { file = old.file; hold = Accepted size; first = old.first; last = old.last }) = sound-set entries i old _ index.sound is (fits-accept entries i size old index.sound is held small same) in
    let wide = same_length sizes old.file (Some size) in
    record {
      sound = sound;
      ordered = ordered_accept entries order.0 i size old index.ordered is holds.0 (nat_le old.first old.last) refl;
      many = (let c = count-set entries i old (record { file = old.file; hold = Accepted size; first = old.first; last = old.last }) is in
          let d : one_if (is_shown old) ≡ one_if (nat_le old.first old.last) = ap one_if (shown_same old holds.0) in
          let e = index.many in
          omega (arith, c, d, e));
      sides = (let a = index.sides in let b = same_length entries i (record { file = old.file; hold = Accepted size; first = old.first; last = old.last }) in omega (arith, a, b));
      files = λ k entry there. elim (cases_eq k i) [
        | inl here ↦ (let two : Some (record { file = old.file; hold = Accepted size; first = old.first; last = old.last }) ≡ Some entry = sym (get-set_same entries i _ old is) ∙ ap (λ n. slice_get (set entries i record { file = old.file; hold = Accepted size; first = old.first; last = old.last }) n) (sym here) ∙ there in
            let e : record { file = old.file; hold = Accepted size; first = old.first; last = old.last } ≡ entry = cc in
            let low : old.file < length (set sizes old.file (Some size)) = (let a = index.files i old is in omega (arith, a, wide)) in
            subst (λ n. n < length (set sizes old.file (Some size))) (ap (λ (x : Entry). x.file) e) low)
        | inr other ↦ (let a = index.files k entry (sym (get-set_other entries i k _ other) ∙ there) in omega (arith, a, wide))
      ];
      known = λ file low. (let inside : file < length sizes = omega (arith, low, wide) in elim (cases_eq file old.file) [
        | inl here ↦ (let now : kept_size old.file (set entries i record { file = old.file; hold = Accepted size; first = old.first; last = old.last }) ≡ Some size = kept_now (set entries i record { file = old.file; hold = Accepted size; first = old.first; last = old.last }) i size (record { file = old.file; hold = Accepted size; first = old.first; last = old.last }) sound (get-set_same entries i _ old is) refl in
            ap (λ n. slice_get (set sizes old.file (Some size)) n) here
            ∙ get-set_same sizes old.file (Some size) (kept_size old.file entries) (index.known old.file (index.files i old is))
            ∙ ap (λ o. Some o) (sym (ap (λ n. kept_size n (set entries i record { file = old.file; hold = Accepted size; first = old.first; last = old.last })) here ∙ now)))
        | inr other ↦ get-set_other sizes old.file file (Some size) other ∙ index.known file inside
            ∙ ap (λ o. Some o) (sym (kept-other entries i file old (record { file = old.file; hold = Accepted size; first = old.first; last = old.last }) is (λ e. other (sym e)) refl))
      ]);
    }

ordered_release : (entries : List Entry) (ranges : List Range) (i p : ℕ) (old : Entry) → IsOrder entries ranges → slice_get entries i ≡ Some old → is_taken old.hold ≡ true → IsPlace old.file old.first ranges p → (b : Bool) → nat_le old.first old.last ≡ b → IsOrder (set entries i record { file = old.file; hold = Free; first = old.first; last = old.last }) (without_place p b ranges)
ordered_release entries ranges i p old order is taken at true test = order-remove entries ranges i p old (record { file = old.file; hold = Free; first = old.first; last = old.last }) order is refl (at_place entries ranges i p old order is (shown_same old taken ∙ test) at)
ordered_release entries ranges i p old order is taken at false test = order-hidden entries ranges i old (record { file = old.file; hold = Free; first = old.first; last = old.last }) order is (shown_same old taken ∙ test) refl

many_release : (entries : List Entry) (ranges : List Range) (i p : ℕ) (old : Entry) → IsOrder entries ranges → slice_get entries i ≡ Some old → is_taken old.hold ≡ true → IsPlace old.file old.first ranges p → (b : Bool) → nat_le old.first old.last ≡ b → length (without_place p b ranges) + one_if b ≡ length ranges
many_release entries ranges i p old order is taken at true test = length_remove ranges p (within ranges p (range_of i old) (at_place entries ranges i p old order is (shown_same old taken ∙ test) at))
many_release entries ranges i p old order is taken at false test = omega arith

-- the place of a range that is given up
pub inside_release : (entries : List Entry) (order : List Range × ℕ) (sizes : List (Option ℕ)) (i p : ℕ) (old : Entry) → IsIndexed entries order sizes → slice_get entries i ≡ Some old → is_held old.hold ≡ true → IsPlace old.file old.first order.0 p → nat_le old.first old.last ≡ true → p < length order.0
inside_release entries order sizes i p old index is held at test = within order.0 p (range_of i old) (at_place entries order.0 i p old index.ordered is (shown_same old (held_not old.hold held).0 ∙ test) at)

-- each range in the order is that of a segment
pub segments_known : (entries : List Entry) (order : List Range × ℕ) (sizes : List (Option ℕ)) (p : ℕ) (range : Range) → IsIndexed entries order sizes → slice_get order.0 p ≡ Some range → range.segment < order.1
segments_known entries order sizes p range index is =
    let stands = index.ordered.sound p range is in
    let low = entry_within entries range.segment stands.entry stands.there in
    let sides = index.sides in omega (arith, low, sides)

-- a range is given up
pub index-release : (entries : List Entry) (order after : List Range × ℕ) (sizes : List (Option ℕ)) (i p : ℕ) (old : Entry) → IsIndexed entries order sizes → slice_get entries i ≡ Some old → is_held old.hold ≡ true → IsPlace old.file old.first order.0 p → after.0 ≡ without_place p (nat_le old.first old.last) order.0 → after.1 ≡ order.1 → IsIndexed (set entries i record { file = old.file; hold = Free; first = old.first; last = old.last }) after sizes
index-release entries order after sizes i p old index is held at ranges sides =
    let holds = held_not old.hold held in
    record {
      sound = sound-set entries i old _ index.sound is (fits-release entries i old);
      ordered = subst (λ (t : List Range). IsOrder (set entries i record { file = old.file; hold = Free; first = old.first; last = old.last }) t) (sym ranges) (ordered_release entries order.0 i p old index.ordered is holds.0 at (nat_le old.first old.last) refl);
      many = (let a = ap (λ (t : List Range). length t) ranges in
          let b = many_release entries order.0 i p old index.ordered is holds.0 at (nat_le old.first old.last) refl in
          let c = count-set entries i old (record { file = old.file; hold = Free; first = old.first; last = old.last }) is in
          let d : one_if (is_shown old) ≡ one_if (nat_le old.first old.last) = ap one_if (shown_same old holds.0) in
          let e = index.many in
          omega (arith, a, b, c, d, e));
      sides = (let a = index.sides in let b = same_length entries i (record { file = old.file; hold = Free; first = old.first; last = old.last }) in omega (arith, a, b, sides));
      files = λ k entry there. elim (cases_eq k i) [
        | inl here ↦ (let two : Some (record { file = old.file; hold = Free; first = old.first; last = old.last }) ≡ Some entry = sym (get-set_same entries i _ old is) ∙ ap (λ n. slice_get (set entries i record { file = old.file; hold = Free; first = old.first; last = old.last }) n) (sym here) ∙ there in
            let e : record { file = old.file; hold = Free; first = old.first; last = old.last } ≡ entry = cc in
            subst (λ n. n < length sizes) (ap (λ (x : Entry). x.file) e) (index.files i old is))
        | inr other ↦ index.files k entry (sym (get-set_other entries i k _ other) ∙ there)
      ];
      known = λ file low. index.known file low ∙ ap (λ o. Some o) (sym (kept-set entries i file old _ is holds.1 refl));
    }

count_none : (entries : List Entry) → ((k : ℕ) (entry : Entry) → slice_get entries k ≡ Some entry → is_shown entry ≡ false) → count_shown entries ≡ 0
count_none [] none = refl
count_none (entry ∷ entries) none = let here : is_shown entry ≡ false = none 0 entry refl in rw here (count_none entries (λ k e is. none (suc k) e is))

kept_free : (entries : List Entry) (file : ℕ) → ((k : ℕ) (entry : Entry) → slice_get entries k ≡ Some entry → entry.hold ≡ Free) → kept_size file entries ≡ None
kept_free [] file free = refl
kept_free (entry ∷ entries) file free = let here : entry.hold ≡ Free = free 0 entry refl in rw here (kept_free entries file (λ k e is. free (suc k) e is))

file_among : (file count high : ℕ) (rest : List Entry) (k : ℕ) (entry : Entry) → file < high → ((n : ℕ) → slice_get rest n ≡ Some entry → entry.file < high) → slice_get (replicate count (free_entry file) ++ rest) k ≡ Some entry → entry.file < high
file_among file zero high rest k entry low others is = others k is
file_among file (suc count) high rest zero entry low others is = let same : free_entry file ≡ entry = cc in subst (λ (e : Entry). e.file < high) same low
file_among file (suc count) high rest (suc k) entry low others is = file_among file count high rest k entry low others is

file_in : (file : ℕ) (counts : List ℕ) (k : ℕ) (entry : Entry) → slice_get (entries_of file counts) k ≡ Some entry → entry.file < file + length counts
file_in file [] k entry is = cc
file_in file (count ∷ counts) k entry is = file_among file count (file + length (count ∷ counts)) (entries_of (file + 1) counts) k entry (omega arith)
    (λ n there. let e = file_in (file + 1) counts n entry there in omega (arith, e)) is

get_replicate : {X : Type 0} (count k : ℕ) (x : X) → k < count → slice_get (replicate count x) k ≡ Some x
get_replicate zero k x low = absurd (omega arith)
get_replicate (suc count) zero x low = refl
get_replicate (suc count) (suc k) x low = get_replicate count k x (omega arith)

-- nothing is held at first
pub index-start : (counts : List ℕ) (entries : List Entry) (order : List Range × ℕ) (sizes : List (Option ℕ)) → entries ≡ entries_of 0 counts → length (entries_of 0 counts) ≤ MOST_SEGMENTS → order ≡ ([], length entries) → sizes ≡ replicate (length counts) None → IsIndexed entries order sizes
index-start counts entries order sizes is low none unknown =
    let frees : (k : ℕ) (entry : Entry) → slice_get entries k ≡ Some entry → entry.hold ≡ Free = λ k entry there. free_in 0 counts k entry (ap (λ (t : List Entry). slice_get t k) (sym is) ∙ there) in
    let hides : (k : ℕ) (entry : Entry) → slice_get entries k ≡ Some entry → is_shown entry ≡ false = λ k entry there. hidden entry (ap is_taken (frees k entry there)) in
    let ranges : order.0 ≡ [] = ap (λ d. d.0) none in
    let wide : length sizes ≡ length counts = ap (λ (t : List (Option ℕ)). length t) unknown ∙ length-replicate (length counts) None in
    record {
      sound = subst (λ (t : List Entry). AreSoundRanges t) (sym is) (sound-start counts low);
      ordered = subst (λ (t : List Range). IsOrder entries t) (sym ranges) (record {
        rising = λ j k one other less first second. cc;
        sound = λ k range there. cc;
        whole = λ segment entry there shown. let no_way : false ≡ true = sym (hides segment entry there) ∙ shown in cc;
      });
      many = ap (λ (t : List Range). length t) ranges ∙ sym (count_none entries hides);
      sides = ap (λ d. d.1) none;
      files = λ k entry there. let e = file_in 0 counts k entry (ap (λ (t : List Entry). slice_get t k) (sym is) ∙ there) in omega (arith, e, wide);
      known = λ file inside. (let low : file < length counts = omega (arith, inside, wide) in
          ap (λ (t : List (Option ℕ)). slice_get t file) unknown ∙ get_replicate (length counts) file None low ∙ ap (λ o. Some o) (sym (kept_free entries file frees)));
    }

size_within : (sizes : List (Option ℕ)) (k : ℕ) (size : Option ℕ) → slice_get sizes k ≡ Some size → k < length sizes
size_within [] k size is = cc
size_within (s ∷ sizes) zero size is = omega arith
size_within (s ∷ sizes) (suc k) size is = let low = size_within sizes k size is in omega (arith, low)

size_beyond : (sizes : List (Option ℕ)) (k : ℕ) → slice_get sizes k ≡ None → length sizes ≤ k
size_beyond [] k is = omega arith
size_beyond (s ∷ sizes) zero is = cc
size_beyond (s ∷ sizes) (suc k) is = let low = size_beyond sizes k is in omega (arith, low)

none_of_file : (entries : List Entry) (file : ℕ) → ((k : ℕ) (entry : Entry) → slice_get entries k ≡ Some entry → entry.file ≢ file) → kept_size file entries ≡ None
none_of_file [] file none = refl
none_of_file (entry ∷ entries) file none = size_other file entry.file entry.hold (kept_size file entries) (none 0 entry refl) ∙ none_of_file entries file (λ k e is. none (suc k) e is)

size_case : (entries : List Entry) (order : List Range × ℕ) (sizes : List (Option ℕ)) (file : ℕ) (o : Option (Option ℕ)) → IsIndexed entries order sizes → slice_get sizes file ≡ o → kept_size file entries ≡ size_read o
size_case entries order sizes file (Some size) index is = let e : Some (kept_size file entries) ≡ Some size = sym (index.known file (size_within sizes file size is)) ∙ is in cc
size_case entries order sizes file None index is = none_of_file entries file (λ k entry there same. let low = index.files k entry there in let e = size_beyond sizes file is in absurd (omega (arith, low, e, same)))

-- the size of a file that is read
pub size_found : (entries : List Entry) (order : List Range × ℕ) (sizes : List (Option ℕ)) (file : ℕ) → IsIndexed entries order sizes → kept_size file entries ≡ size_read (slice_get sizes file)
size_found entries order sizes file index = size_case entries order sizes file (slice_get sizes file) index refl
