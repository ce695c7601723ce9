-- One call more in a row of calls on the files.
use Rattle.std.proofs.Common.{◌≡◌, ◌<◌, ◌≤◌, ◌+◌, inl, inr, zero, suc, ℕ, Bool, true, false, List, ◌∷◌, Option, Some, None, Result, Ok, Err, OnErr, cond, eqb, get_or, length, length-take, take, replicate, refl, sym, ap, subst, ◌∙◌, arith}
use Rattle.std.specs.Option.{option_map}
use Rattle.std.proofs.lemmas.Bool.{cases_lt, cases_eq}
use Rattle.std.proofs.lemmas.Bool.Decides.{nat_tests}
use Rattle.std.proofs.lemmas.List.{length-replicate}
use Rattle.std.proofs.lemmas.Option.{slice_get_read}
use Rattle.article_head.specs.OutName.{out_name}
use Rattle.nzb_writer.specs.declared.index.FileEntry.{FileEntry}
use Rattle.io_traits.specs.declared.blame.Blame.{Blame}
use Rattle.io_traits.specs.declared.blame.Blame.TheVariants.{Write}
use Rattle.io_traits.specs.Store.{Shelf, Stored, Puts, Spoils, WhereTold, is_created, with_bytes}
use Rattle.fetch_files.specs.Calls.{AreCreated, BlamesWrite, CreatesNoneFrom, PutsFirst, SparesFrom, SpoilsFirst, empty_file, zeroed}
use Rattle.fetch_files.specs.Names.{name_at, name_of}
use Rattle.fetch_files.proofs.Told.{told_then, told_same}
use Rattle.fetch_files.proofs.Written.{zeroed_more}

-- ---- one file that is changed twice

abbrev Changes : ℕ → (List ℕ → List ℕ) → Shelf → Shelf → Type 0
Changes file change old new = Puts file (option_map (with_bytes change) (old file)) old new

changed_twice : (first second both : List ℕ → List ℕ) → ((bytes : List ℕ) → second (first bytes) ≡ both bytes) → (held : Option Stored) → option_map (with_bytes second) (option_map (with_bytes first) held) ≡ option_map (with_bytes both) held
changed_twice first second both same None = refl
changed_twice first second both same (Some held) = ap (λ (bytes : List ℕ). Some (record { name = held.name; bytes = bytes })) (same held.bytes)

same_name : (change : List ℕ → List ℕ) (held : Option Stored) → option_map (λ (file : Stored). file.name) (option_map (with_bytes change) held) ≡ option_map (λ (file : Stored). file.name) held
same_name change None = refl
same_name change (Some held) = refl

pub changes_more : (file : ℕ) (first second both : List ℕ → List ℕ) → ((bytes : List ℕ) → second (first bytes) ≡ both bytes) → (before mid now : Option Shelf) → WhereTold before mid (Changes file first) → WhereTold mid now (Changes file second) → WhereTold before now (Changes file both)
changes_more file first second both same = told_then (Changes file first) (Changes file second) (Changes file both) (λ old mid new one two. record {
  changed = two.changed ∙ ap (λ (held : Option Stored). option_map (with_bytes second) held) one.changed ∙ changed_twice first second both same (old file);
  others = λ k other. two.others k other ∙ one.others k other;
})

unchanged : (held : Option Stored) (change : List ℕ → List ℕ) → ((bytes : List ℕ) → bytes ≡ change bytes) → held ≡ option_map (with_bytes change) held
unchanged None change same = refl
unchanged (Some held) change same = ap (λ (bytes : List ℕ). Some (record { name = held.name; bytes = bytes })) (same held.bytes)

pub changes_none : (file : ℕ) (change : List ℕ → List ℕ) → ((bytes : List ℕ) → bytes ≡ change bytes) → (told : Option Shelf) → WhereTold told told (Changes file change)
changes_none file change same = told_same (Changes file change) (λ old. record { changed = unchanged (old file) change same; others = λ k other. refl })

pub changes_spoil : (file : ℕ) (change : List ℕ → List ℕ) (before mid now : Option Shelf) → WhereTold before mid (Changes file change) → WhereTold mid now (Spoils file) → WhereTold before now (Spoils file)
changes_spoil file change = told_then (Changes file change) (Spoils file) (Spoils file) (λ old mid new one two. record {
  named = two.named ∙ ap (λ (held : Option Stored). option_map (λ (stored : Stored). stored.name) held) one.changed ∙ same_name change (old file);
  others = λ k other. two.others k other ∙ one.others k other;
})

-- ---- the first files, and one more

upto : (P : ℕ → Type 0) (n : ℕ) → ((k : ℕ) → k < n → P k) → P n → (k : ℕ) → k < n + 1 → P k
upto P n below here k less = elim (cases_lt k n) [
  | inl low ↦ below k low
  | inr high ↦ (let e : n ≡ k = omega arith in subst P e here)
]

pub puts_more : (n : ℕ) (holds : ℕ → Option Stored) (file : Option Stored) → file ≡ holds n → (before mid now : Option Shelf) → WhereTold before mid (PutsFirst n holds) → WhereTold mid now (Puts n file) → WhereTold before now (PutsFirst (n + 1) holds)
puts_more n holds file is = told_then (PutsFirst n holds) (Puts n file) (PutsFirst (n + 1) holds) (λ old mid new one two. record {
  changed = upto (λ k. new k ≡ holds k) n (λ k less. two.others k (λ same. absurd (omega arith)) ∙ one.changed k less) (two.changed ∙ is);
  others = λ k above. two.others k (λ same. absurd (omega arith)) ∙ one.others k (omega arith);
})

pub puts_fail : (n count : ℕ) (holds : ℕ → Option Stored) (file : Option Stored) → n < count → (before mid now : Option Shelf) → WhereTold before mid (PutsFirst n holds) → WhereTold mid now (Puts n file) → WhereTold before now (SparesFrom count)
puts_fail n count holds file low = told_then (PutsFirst n holds) (Puts n file) (SparesFrom count) (λ old mid new one two k above. two.others k (λ same. absurd (omega arith)) ∙ one.others k (omega arith))

abbrev ChangesFirst : ℕ → (ℕ → List ℕ → List ℕ) → Shelf → Shelf → Type 0
ChangesFirst count change old new = PutsFirst count (λ file. option_map (with_bytes (change file)) (old file)) old new

pub firsts_more : (n : ℕ) (change : ℕ → List ℕ → List ℕ) (before mid now : Option Shelf) → WhereTold before mid (ChangesFirst n change) → WhereTold mid now (Changes n (change n)) → WhereTold before now (ChangesFirst (n + 1) change)
firsts_more n change = told_then (ChangesFirst n change) (Changes n (change n)) (ChangesFirst (n + 1) change) (λ old mid new one two. record {
  changed = upto (λ k. new k ≡ option_map (with_bytes (change k)) (old k)) n
      (λ k less. two.others k (λ same. absurd (omega arith)) ∙ one.changed k less)
      (two.changed ∙ ap (λ (held : Option Stored). option_map (with_bytes (change n)) held) (one.others n (omega arith)));
  others = λ k above. two.others k (λ same. absurd (omega arith)) ∙ one.others k (omega arith);
})

pub firsts_fail : (n count : ℕ) (change : ℕ → List ℕ → List ℕ) → n < count → (before mid now : Option Shelf) → WhereTold before mid (ChangesFirst n change) → WhereTold mid now (Spoils n) → WhereTold before now (SpoilsFirst count)
firsts_fail n count change low = told_then (ChangesFirst n change) (Spoils n) (SpoilsFirst count) (λ old mid new one two. record {
  named = λ k less. elim (cases_eq k n) [
    | inl same ↦ (let P : ℕ → Type 0 = λ (i : ℕ). option_map (λ (held : Stored). held.name) (new i) ≡ option_map (λ (held : Stored). held.name) (old i) in
        subst P (sym same) (two.named ∙ ap (λ (held : Option Stored). option_map (λ (stored : Stored). stored.name) held) (one.others n (omega arith))))
    | inr other ↦ ap (λ (held : Option Stored). option_map (λ (stored : Stored). stored.name) held) (two.others k other) ∙ elim (cases_lt k n) [
      | inl below ↦ ap (λ (held : Option Stored). option_map (λ (stored : Stored). stored.name) held) (one.changed k below) ∙ same_name (change k) (old k)
      | inr above ↦ ap (λ (held : Option Stored). option_map (λ (stored : Stored). stored.name) held) (one.others k above)
    ]
  ];
  others = λ k above. two.others k (λ same. absurd (omega arith)) ∙ one.others k (omega arith);
})

abbrev CreatesOne : List ℕ → List ℕ → ℕ → Type 0
CreatesOne mid now n = (k : ℕ) → is_created now k ≡ cond (eqb k n) true (is_created mid k)

pub created_more : (mid now : List ℕ) (n : ℕ) → CreatesOne mid now n → AreCreated n mid → AreCreated (n + 1) now
created_more mid now n one are = upto (λ k. is_created now k ≡ true) n
    (λ k less. let a = one k in let b = are k less in grind (arith, nat_tests))
    (let a = one n in grind (arith, nat_tests))

pub others_more : (before mid now : List ℕ) (n : ℕ) → CreatesOne mid now n → CreatesNoneFrom n before mid → CreatesNoneFrom (n + 1) before now
others_more before mid now n one same k above =
    let a = one k in
    let b = same k (omega arith) in
    grind (arith, nat_tests)

-- ---- zeros

pub front_of_zeros : (m n : ℕ) → take m (replicate {A = ℕ} n 0) ≡ replicate (length (take m (replicate {A = ℕ} n 0))) 0
front_of_zeros zero n = refl
front_of_zeros (suc m) zero = refl
front_of_zeros (suc m) (suc n) = ap (λ (zeros : List ℕ). 0 ∷ zeros) (front_of_zeros m n)

pub front_long : (m n : ℕ) → m ≤ n → length (take m (replicate {A = ℕ} n 0)) ≡ m
front_long m n low = omega (arith, length-take m (replicate {A = ℕ} n 0), length-replicate {A = ℕ} n 0)

pub zeroed_front : (place done m n : ℕ) → m ≤ n → (bytes : List ℕ) → zeroed (place + done) (length (take m (replicate {A = ℕ} n 0))) (zeroed place done bytes) ≡ zeroed place (done + m) bytes
zeroed_front place done m n low bytes = ap (λ len. zeroed (place + done) len (zeroed place done bytes)) (front_long m n low) ∙ zeroed_more place done m bytes

-- ---- whether the last call failed, and which did

pub last_more : (before now : Bool) (n : ℕ) → now ≡ false → 0 < n → now ≡ cond (eqb n 0) before false
last_more before now n is some = grind (arith, nat_tests)

pub blames_piece : {T E : Type 0} (result : Result T E) (file place count done len : ℕ) (before mid now : Option (Option Blame)) → done + len ≤ count → mid ≡ before → now ≡ option_map (λ _. Some (Write file (place + done) len)) mid → OnErr result (BlamesWrite file place count before now)
blames_piece (Ok value) file place count done len before mid now fits same is = tt
blames_piece (Err e) file place count done len before mid now fits same is = record {
  at = place + done;
  len = len;
  from = omega arith;
  upto = omega (arith, fits);
  blame = is ∙ ap (λ (told : Option (Option Blame)). option_map (λ _. Some (Write file (place + done) len)) told) same;
}

-- ---- a file of an index

pub made_is : (files : List FileEntry) (file : ℕ) (entry : FileEntry) → file < length files → entry ≡ get_or files file entry → Some (empty_file (out_name file entry.subject)) ≡ Some (empty_file (name_at files file))
made_is files file entry within is = ap (λ (found : Option FileEntry). Some (empty_file (name_of file found))) (sym (slice_get_read files (length files) file entry refl within is))
