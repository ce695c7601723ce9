-- What the tests and scans say of sets of offsets.
use Rattle.std.proofs.Common.{◌≡◌, ◌↔◌, ◌+◌, ◌<◌, ◌≤◌, inl, inr, zero, suc, ℕ, Bool, true, false, ◌&&◌, List, [], ◌∷◌, Option, Some, None, refl, ap, sym, subst, ◌∙◌, arith}
use Rattle.std.specs.Prelude.{slice_get, cond, nat_le, ◌==◌, IsTrue}
use Rattle.std.proofs.lemmas.Bool.Decides.{nat_tests}
use Rattle.std.proofs.lemmas.Bool.{cases_eq}
use Rattle.range_assembler.specs.declared.assembler.Entry.{Entry}
use Rattle.range_assembler.specs.declared.assembler.Clash.{Clash}
use Rattle.range_assembler.specs.Entries.{least_clash, lesser, clash_of, shares, is_taken, kept_size}
use Rattle.range_assembler.specs.Missing.{is_covered, gaps, with_bare, is_nothing, is_known, is_complete, missing_in}
use Rattle.range_assembler.specs.Sets.{Takes, ShareNothing, IsApart, NamesLeast, IsWholeFile}
use Rattle.range_assembler.specs.Sound.{AreSoundRanges}
use Rattle.range_assembler.proofs.Scanning.{both, no_clash}

-- a range that has one of the offsets shares it
pub shared : (file first last offset : ℕ) (entry : Entry) → Takes file offset entry → first ≤ offset → offset ≤ last → shares file first last entry ≡ true
shared file first last offset entry takes from upto =
    let its : entry.file ≡ file = takes.its in
    let low : entry.first ≤ offset = takes.low in
    let high : offset ≤ entry.last = takes.high in
    let a : (entry.file == file) ≡ true = grind (arith, nat_tests) in
    let b : nat_le entry.first last ≡ true = grind (arith, nat_tests) in
    let c : nat_le first entry.last ≡ true = grind (arith, nat_tests) in
    let d : nat_le entry.first entry.last ≡ true = grind (arith, nat_tests) in
    let e : nat_le first last ≡ true = grind (arith, nat_tests) in
    rw (a, takes.taken, b, c, d, e) refl

-- ranges that share pass each test
pub record Shared (file first last : ℕ) (entry : Entry) : Type 0 where
  pub its : entry.file ≡ file
  pub taken : is_taken entry.hold ≡ true
  pub begins : entry.first ≤ last
  pub ends : first ≤ entry.last
  pub some : entry.first ≤ entry.last
  pub asked : first ≤ last

pub shared_means : (file first last : ℕ) (entry : Entry) → shares file first last entry ≡ true → Shared file first last entry
shared_means file first last entry is =
    let f = both ((entry.file == file) && is_taken entry.hold && nat_le entry.first last && nat_le first entry.last && nat_le entry.first entry.last) (nat_le first last) is in
    let e = both ((entry.file == file) && is_taken entry.hold && nat_le entry.first last && nat_le first entry.last) (nat_le entry.first entry.last) f.0 in
    let d = both ((entry.file == file) && is_taken entry.hold && nat_le entry.first last) (nat_le first entry.last) e.0 in
    let c = both ((entry.file == file) && is_taken entry.hold) (nat_le entry.first last) d.0 in
    let b = both (entry.file == file) (is_taken entry.hold) c.0 in
    let one : (entry.file == file) ≡ true = b.0 in
    let three : nat_le entry.first last ≡ true = c.1 in
    let four : nat_le first entry.last ≡ true = d.1 in
    let five : nat_le entry.first entry.last ≡ true = e.1 in
    let six : nat_le first last ≡ true = f.1 in
    record { its = grind (arith, nat_tests); taken = b.1; begins = grind (arith, nat_tests); ends = grind (arith, nat_tests); some = grind (arith, nat_tests); asked = grind (arith, nat_tests) }

pub share_nothing : (entries : List Entry) → AreSoundRanges entries → ShareNothing entries
share_nothing entries sound j k file offset entry other one two first second = elim (cases_eq j k) [
  | inl same ↦ same
  | inr differ ↦ (let none : shares entry.file entry.first entry.last other ≡ false = sound.apart j k entry other differ one two first.taken in
      let some : shares entry.file entry.first entry.last other ≡ true = shared entry.file entry.first entry.last offset other (record { its = second.its ∙ sym first.its; taken = second.taken; low = second.low; high = second.high }) first.low first.high in
      let no_way : true ≡ false = sym some ∙ none in cc)
]

pub apart : (file first last : ℕ) (entries : List Entry) → least_clash 0 file first last entries ≡ None → IsApart file first last entries
apart file first last entries none k offset entry there low high takes =
    let no_way : true ≡ false = sym (shared file first last offset entry takes low high) ∙ no_clash 0 file first last entries k entry none there in cc

-- what a search that begins at number n found
pub record Found (n file first last : ℕ) (entries : List Entry) (clash : Clash) : Type 0 where
  pub place : ℕ
  pub entry : Entry
  pub there : slice_get entries place ≡ Some entry
  pub number : clash.other ≡ n + place
  pub begins : entry.first ≡ clash.first
  pub ends : entry.last ≡ clash.last
  pub its : shares file first last entry ≡ true
  pub least : (k : ℕ) (other : Entry) → slice_get entries k ≡ Some other → shares file first last other ≡ true → clash.first ≤ other.first

least_here : (file first last : ℕ) (entry : Entry) (entries : List Entry) → ((k : ℕ) (other : Entry) → slice_get entries k ≡ Some other → shares file first last other ≡ true → entry.first ≤ other.first) → (k : ℕ) (other : Entry) → slice_get (entry ∷ entries) k ≡ Some other → shares file first last other ≡ true → entry.first ≤ other.first
least_here file first last entry entries least zero other is its = let same : entry ≡ other = cc in subst (λ (e : Entry). entry.first ≤ e.first) same (omega arith)
least_here file first last entry entries least (suc k) other is its = least k other is its

here : (n file first last : ℕ) (entry : Entry) (entries : List Entry) → shares file first last entry ≡ true → ((k : ℕ) (other : Entry) → slice_get entries k ≡ Some other → shares file first last other ≡ true → entry.first ≤ other.first) → Found n file first last (entry ∷ entries) (clash_of n entry)
here n file first last entry entries its least = record { place = 0; entry = entry; there = refl; number = (let e : n ≡ n + 0 = omega arith in e); begins = refl; ends = refl; its = its; least = least_here file first last entry entries least }

least_later : (file first last : ℕ) (entry : Entry) (entries : List Entry) (clash : Clash) → (shares file first last entry ≡ true → clash.first ≤ entry.first) → ((k : ℕ) (other : Entry) → slice_get entries k ≡ Some other → shares file first last other ≡ true → clash.first ≤ other.first) → (k : ℕ) (other : Entry) → slice_get (entry ∷ entries) k ≡ Some other → shares file first last other ≡ true → clash.first ≤ other.first
least_later file first last entry entries clash mine least zero other is its = let same : entry ≡ other = cc in subst (λ (e : Entry). shares file first last e ≡ true → clash.first ≤ e.first) same mine its
least_later file first last entry entries clash mine least (suc k) other is its = least k other is its

later : (n file first last : ℕ) (entry : Entry) (entries : List Entry) (clash : Clash) → (shares file first last entry ≡ true → clash.first ≤ entry.first) → Found (n + 1) file first last entries clash → Found n file first last (entry ∷ entries) clash
later n file first last entry entries clash mine found = record { place = suc found.place; entry = found.entry; there = found.there; number = (let e : (n + 1) + found.place ≡ n + suc found.place = omega arith in found.number ∙ e); begins = found.begins; ends = found.ends; its = found.its; least = least_later file first last entry entries clash mine found.least }

found_case : (n file first last : ℕ) (entry : Entry) (entries : List Entry) (clash : Clash) (b : Bool) (o : Option Clash) → ((c : Clash) → least_clash (n + 1) file first last entries ≡ Some c → Found (n + 1) file first last entries c) → shares file first last entry ≡ b → least_clash (n + 1) file first last entries ≡ o → lesser (cond b (Some (clash_of n entry)) None) o ≡ Some clash → Found n file first last (entry ∷ entries) clash
found_case n file first last entry entries clash false None others its rest is = cc
found_case n file first last entry entries clash false (Some c) others its rest is =
    let same : c ≡ clash = cc in
    later n file first last entry entries clash (λ shared. let no_way : true ≡ false = sym shared ∙ its in cc) (others clash (rest ∙ is))
found_case n file first last entry entries clash true None others its rest is =
    let same : clash_of n entry ≡ clash = cc in
    subst (λ c. Found n file first last (entry ∷ entries) c) same (here n file first last entry entries its (λ k other there shared. let no_way : true ≡ false = sym shared ∙ no_clash (n + 1) file first last entries k other rest there in cc))
found_case n file first last entry entries clash true (Some c) others its rest is =
    let below = others c rest in
    elim (nat_le entry.first c.first) as (λ b. nat_le entry.first c.first ≡ b → cond b (Some (clash_of n entry)) (Some c) ≡ Some clash → Found n file first last (entry ∷ entries) clash) [
      | true ↦ λ test picked. let same : clash_of n entry ≡ clash = cc in let low : entry.first ≤ c.first = grind (arith, nat_tests) in
          subst (λ x. Found n file first last (entry ∷ entries) x) same (here n file first last entry entries its (λ k other there shared. let up : c.first ≤ other.first = below.least k other there shared in omega (arith, low, up)))
      | false ↦ λ test picked. let same : c ≡ clash = cc in let high : c.first ≤ entry.first = grind (arith, nat_tests) in
          subst (λ x. Found n file first last (entry ∷ entries) x) same (later n file first last entry entries c (λ shared. high) below)
    ] refl is

pub found_of : (n file first last : ℕ) (entries : List Entry) (clash : Clash) → least_clash n file first last entries ≡ Some clash → Found n file first last entries clash
found_of n file first last [] clash is = cc
found_of n file first last (entry ∷ entries) clash is = found_case n file first last entry entries clash (shares file first last entry) (least_clash (n + 1) file first last entries) (λ c. found_of (n + 1) file first last entries c) refl refl is

greater_low : (a b : ℕ) → a ≤ cond (nat_le a b) b a
greater_low a b = elim (nat_le a b) as (λ t. nat_le a b ≡ t → a ≤ cond t b a) [ true ↦ λ t. grind (arith, nat_tests) | false ↦ λ t. omega arith ] refl

greater_high : (a b : ℕ) → b ≤ cond (nat_le a b) b a
greater_high a b = elim (nat_le a b) as (λ t. nat_le a b ≡ t → b ≤ cond t b a) [ true ↦ λ t. omega arith | false ↦ λ t. grind (arith, nat_tests) ] refl

greater_upto : (a b c : ℕ) → a ≤ c → b ≤ c → cond (nat_le a b) b a ≤ c
greater_upto a b c one two = elim (nat_le a b) as (λ t. cond t b a ≤ c) [ true ↦ two | false ↦ one ]

pub names_least : (file first last : ℕ) (entries : List Entry) (clash : Clash) → least_clash 0 file first last entries ≡ Some clash → NamesLeast file first last entries clash
names_least file first last entries clash is =
    let found = found_of 0 file first last entries clash is in
    let means = shared_means file first last found.entry found.its in
    let number : found.place ≡ clash.other = (let e : 0 + found.place ≡ found.place = omega arith in sym (found.number ∙ e)) in
    record {
      entry = found.entry;
      there = subst (λ n. slice_get entries n ≡ Some found.entry) number found.there;
      begins = found.begins;
      ends = found.ends;
      offset = cond (nat_le found.entry.first first) first found.entry.first;
      low = greater_high found.entry.first first;
      high = greater_upto found.entry.first first last means.begins means.asked;
      takes = record { its = means.its; taken = means.taken; low = greater_low found.entry.first first; high = greater_upto found.entry.first first found.entry.last means.some means.ends };
      least = λ k offset other there low high takes. found.least k other there (shared file first last offset other takes low high);
    }

-- nothing is missing exactly where each offset is covered
bare_some : (offset : ℕ) (ranges : List (ℕ × ℕ)) → is_nothing (with_bare offset ranges) ≡ false
bare_some offset [] = refl
bare_some offset (range ∷ ranges) = elim (range.0 == offset + 1) as (λ b. is_nothing (cond b ((offset, range.1) ∷ ranges) ((offset, offset) ∷ range ∷ ranges)) ≡ false) [ true ↦ refl | false ↦ refl ]

covered_here : (covered : ℕ → Bool) (offset count : ℕ) (b : Bool) → covered offset ≡ b → is_nothing (gaps covered offset (suc count)) ≡ true → (covered offset ≡ true) × (is_nothing (gaps covered (offset + 1) count) ≡ true)
covered_here covered offset count true here none = (here, subst (λ b. is_nothing (cond b (gaps covered (offset + 1) count) (with_bare offset (gaps covered (offset + 1) count))) ≡ true) here none)
covered_here covered offset count false here none =
    let some : is_nothing (with_bare offset (gaps covered (offset + 1) count)) ≡ true = subst (λ b. is_nothing (cond b (gaps covered (offset + 1) count) (with_bare offset (gaps covered (offset + 1) count))) ≡ true) here none in
    let no_way : true ≡ false = sym some ∙ bare_some offset (gaps covered (offset + 1) count) in cc

all_covered : (covered : ℕ → Bool) (offset count k : ℕ) → is_nothing (gaps covered offset count) ≡ true → offset ≤ k → k < offset + count → covered k ≡ true
all_covered covered offset zero k none low high = absurd (omega arith)
all_covered covered offset (suc count) k none low high =
    let parts = covered_here covered offset count (covered offset) refl none in
    elim (cases_eq k offset) [
      | inl same ↦ ap covered same ∙ parts.0
      | inr other ↦ (let above : offset + 1 ≤ k = omega (arith, other) in all_covered covered (offset + 1) count k parts.1 above (omega arith))
    ]

nothing_left : (covered : ℕ → Bool) (offset count : ℕ) → ((k : ℕ) → offset ≤ k → k < offset + count → covered k ≡ true) → is_nothing (gaps covered offset count) ≡ true
nothing_left covered offset zero all = refl
nothing_left covered offset (suc count) all = let here : covered offset ≡ true = all offset (omega arith) (omega arith) in rw here (nothing_left covered (offset + 1) count (λ k low high. all k (omega arith) (omega arith)))

whole_case : (file : ℕ) (entries : List Entry) (o : Option ℕ) → kept_size file entries ≡ o → (is_known o && is_nothing (missing_in file entries o)) ≡ true → IsWholeFile file entries
whole_case file entries None known is = cc
whole_case file entries (Some size) known is = record { size = size; known = known; covered = λ k low high. all_covered (is_covered file entries) 1 size k is low (omega arith) }

pub whole_of : (file : ℕ) (entries : List Entry) → is_complete file entries ≡ true → IsWholeFile file entries
whole_of file entries is = whole_case file entries (kept_size file entries) refl is

pub of_whole : (file : ℕ) (entries : List Entry) → IsWholeFile file entries → is_complete file entries ≡ true
of_whole file entries whole = rw whole.known (nothing_left (is_covered file entries) 1 whole.size (λ k low high. whole.covered k low (omega arith)))

pub whole_or_not : (file : ℕ) (entries : List Entry) (b : Bool) → b ≡ is_complete file entries → IsTrue b ↔ IsWholeFile file entries
whole_or_not file entries b is = (λ t. whole_of file entries (sym is ∙ t), λ whole. is ∙ of_whole file entries whole)
