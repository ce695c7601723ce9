-- The first packet of each id, packet by packet.
use Rattle.std.proofs.Common.{◌≡◌, ℕ, zero, suc, ◌+◌, ◌<◌, Bool, true, false, cond, List, [], ◌∷◌, ◌++◌, Option, Some, None, length, take, drop, bytes_eq, inl, inr, refl, sym, ap, subst, ◌∙◌, arith}
use Rattle.std.specs.Prelude.{◌&&◌, slice_get}
use Rattle.std.specs.List.{find}
use Rattle.std.specs.Map.{lookup}
use Rattle.std.specs.Option.{is_some, option_or}
use Rattle.std.proofs.lemmas.Bool.{cases_Bool, cond-false, cond-true}
use Rattle.std.proofs.lemmas.List.Folds.{find-append}
use Rattle.std.proofs.lemmas.Slice.Eq.{bytes_eq-Decides}
use Rattle.par2_check.specs.Bodies.{file_id}
use Rattle.par2_check.specs.Firsts.{AreFirsts, IsNumberOf, counts_for, first_in, with_first}

-- ---- lists by their places

pub get_split : {A : Type 0} (xs : List A) (i : ℕ) (x : A) → slice_get xs i ≡ Some x → xs ≡ take i xs ++ x ∷ drop (suc i) xs
get_split [] i x e = absurd (cc)
get_split (y ∷ ys) zero x e = let same : y ≡ x = cc in ap (λ z. z ∷ ys) same
get_split (y ∷ ys) (suc i) x e = ap (λ zs. y ∷ zs) (get_split ys i x e)

pub take_get : {A : Type 0} (xs : List A) (i : ℕ) (x : A) → slice_get xs i ≡ Some x → take (i + 1) xs ≡ take i xs ++ x ∷ []
take_get [] i x e = absurd (cc)
take_get (y ∷ ys) zero x e = let same : y ≡ x = cc in ap (λ z. z ∷ []) same
take_get (y ∷ ys) (suc i) x e = let next : suc i + 1 ≡ suc (i + 1) = omega arith in ap (λ n. take n (y ∷ ys)) next ∙ ap (λ zs. y ∷ zs) (take_get ys i x e)

pub get_some : {A : Type 0} (xs : List A) (i : ℕ) → i < length xs → (x : A) × (slice_get xs i ≡ Some x)
get_some [] i lt = absurd (omega (arith, lt))
get_some (y ∷ ys) zero lt = (y, refl)
get_some (y ∷ ys) (suc i) lt = get_some ys i (omega (arith, lt))

pub find_passes : {A : Type 0} (test : A → Bool) (xs : List A) (x : A) → find test xs ≡ Some x → test x ≡ true
find_passes test [] x e = absurd (cc)
find_passes test (y ∷ ys) x e =
    elim (cases_Bool (test y)) [
      | inl t ↦ (let same : Some y ≡ Some x = sym (cond-true (test y) (Some y) (find test ys) t) ∙ e in let is : y ≡ x = cc in subst (λ z. test z ≡ true) is t)
      | inr f ↦ find_passes test ys x (sym (cond-false (test y) (Some y) (find test ys) f) ∙ e)
    ]

-- ---- one packet more

lookup_behind : (test : List ℕ → Bool) (firsts : List (List ℕ × ℕ)) (id : List ℕ) (number : ℕ) → lookup test (firsts ++ (id, number) ∷ []) ≡ option_or (lookup test firsts) (cond (test id) (Some number) None)
lookup_behind test [] id number = refl
lookup_behind test (first ∷ firsts) id number =
    elim (cases_Bool (test first.0)) [
      | inl t ↦ (cond-true (test first.0) (Some first.1) (lookup test (firsts ++ (id, number) ∷ [])) t
          ∙ sym (ap (λ (o : Option ℕ). option_or o (cond (test id) (Some number) None)) (cond-true (test first.0) (Some first.1) (lookup test firsts) t)))
      | inr f ↦ (cond-false (test first.0) (Some first.1) (lookup test (firsts ++ (id, number) ∷ [])) f ∙ lookup_behind test firsts id number
          ∙ sym (ap (λ (o : Option ℕ). option_or o (cond (test id) (Some number) None)) (cond-false (test first.0) (Some first.1) (lookup test firsts) f)))
    ]

or_none : {A : Type 0} (o : Option A) → option_or o None ≡ o
or_none None = refl
or_none (Some x) = refl

number_step : (packets : List (List ℕ)) (found : Option (List ℕ)) (first : Option ℕ) (hit : Bool) (packet : List ℕ) (number : ℕ) → IsNumberOf packets found first → slice_get packets number ≡ Some packet
    → number < length packets → IsNumberOf packets (option_or found (cond hit (Some packet) None)) (option_or first (cond hit (Some number) None))
number_step packets found None true packet number is there lt = (lt, there ∙ sym (ap (λ (o : Option (List ℕ)). option_or o (Some packet)) is))
number_step packets found None false packet number is there lt = ap (λ (o : Option (List ℕ)). option_or o None) is
number_step packets found (Some n) hit packet number is there lt =
    let some = get_some packets n is.0 in
    let found_is : found ≡ Some some.0 = sym is.1 ∙ some.1 in
    (is.0, is.1 ∙ found_is ∙ sym (ap (λ (o : Option (List ℕ)). option_or o (cond hit (Some packet) None)) found_is))

absorbs : (first : Option ℕ) (hit : Bool) (number : ℕ) → (hit ≡ true → is_some first ≡ true) → option_or first (cond hit (Some number) None) ≡ first
absorbs (Some n) hit number some = refl
absorbs None true number some = let never : false ≡ true = some refl in absurd (cc)
absorbs None false number some = refl

-- a packet that doesn't count
pub first_same : (counts : List ℕ → Bool) (packets among : List (List ℕ)) (firsts : List (List ℕ × ℕ)) (packet : List ℕ) → AreFirsts counts packets among firsts → counts packet ≡ false
    → AreFirsts counts packets (among ++ packet ∷ []) firsts
first_same counts packets among firsts packet are no_count id =
    let test : List ℕ → Bool = counts_for counts id in
    let fails : test packet ≡ false = ap (λ (b : Bool). b && bytes_eq id (file_id packet)) no_count in
    let e : find test (among ++ packet ∷ []) ≡ find test among =
    find-append test among (packet ∷ []) ∙ ap (λ (o : Option (List ℕ)). option_or (find test among) o) (cond-false (test packet) (Some packet) None fails) ∙ or_none (find test among) in
    subst (λ (o : Option (List ℕ)). IsNumberOf packets o (first_in id firsts)) (sym e) (are id)

-- a packet that counts
pub first_more : (counts : List ℕ → Bool) (packets among : List (List ℕ)) (firsts : List (List ℕ × ℕ)) (packet : List ℕ) (number : ℕ) → AreFirsts counts packets among firsts → counts packet ≡ true
    → slice_get packets number ≡ Some packet → number < length packets → AreFirsts counts packets (among ++ packet ∷ []) (with_first (file_id packet) number firsts)
first_more counts packets among firsts packet number are count there lt id =
    let own : List ℕ = file_id packet in
    let hit : Bool = bytes_eq id own in
    let test : List ℕ → Bool = counts_for counts id in
    let found_is : find test (among ++ packet ∷ []) ≡ option_or (find test among) (cond hit (Some packet) None) =
    find-append test among (packet ∷ []) ∙ ap (λ (b : Bool). option_or (find test among) (cond (b && hit) (Some packet) None)) count in
    let step : IsNumberOf packets (option_or (find test among) (cond hit (Some packet) None)) (option_or (first_in id firsts) (cond hit (Some number) None)) =
    number_step packets (find test among) (first_in id firsts) hit packet number (are id) there lt in
    let first_is : first_in id (with_first own number firsts) ≡ option_or (first_in id firsts) (cond hit (Some number) None) =
    elim (cases_Bool (is_some (first_in own firsts))) [
      | inl known ↦ (ap (first_in id) (cond-true (is_some (first_in own firsts)) firsts (firsts ++ (own, number) ∷ []) known)
          ∙ sym (absorbs (first_in id firsts) hit number (λ h. ap (λ (k : List ℕ). is_some (first_in k firsts)) ((bytes_eq-Decides id own).0 h) ∙ known)))
      | inr unknown ↦ (ap (first_in id) (cond-false (is_some (first_in own firsts)) firsts (firsts ++ (own, number) ∷ []) unknown) ∙ lookup_behind (bytes_eq id) firsts own number)
    ] in
    subst (λ (n : Option ℕ). IsNumberOf packets (find test (among ++ packet ∷ [])) n) (sym first_is)
    (subst (λ (o : Option (List ℕ)). IsNumberOf packets o (option_or (first_in id firsts) (cond hit (Some number) None))) (sym found_is) step)

-- an id that has no number gets one
pub none_known : {A : Type 0} (o : Option A) → is_some o ≡ false → o ≡ None
none_known None e = refl
none_known (Some x) e = absurd (cc)

-- ---- the places up to which packets are read

pub first_found : {A : Type 0} (test : A → Bool) (xs : List A) (i : ℕ) (x : A) → find test (take i xs) ≡ None → slice_get xs i ≡ Some x → test x ≡ true → Some x ≡ find test xs
first_found test xs i x none there passes =
    sym (ap (find test) (get_split xs i x there) ∙ find-append test (take i xs) (x ∷ drop (suc i) xs) ∙ ap (λ o. option_or o (find test (x ∷ drop (suc i) xs))) none ∙ cond-true (test x) (Some x) (find test (drop (suc i) xs)) passes)

pub none_up_to : {A : Type 0} (test : A → Bool) (xs : List A) (i : ℕ) (x : A) → find test (take i xs) ≡ None → slice_get xs i ≡ Some x → test x ≡ false → find test (take (i + 1) xs) ≡ None
none_up_to test xs i x none there fails =
    ap (find test) (take_get xs i x there) ∙ find-append test (take i xs) (x ∷ []) ∙ ap (λ o. option_or o (find test (x ∷ []))) none ∙ cond-false (test x) (Some x) None fails

pub kept : (counts : List ℕ → Bool) (packets : List (List ℕ)) (number : ℕ) (packet : List ℕ) (firsts : List (List ℕ × ℕ)) → slice_get packets number ≡ Some packet → counts packet ≡ false
    → AreFirsts counts packets (take number packets) firsts → AreFirsts counts packets (take (number + 1) packets) firsts
kept counts packets number packet firsts there fails are =
    subst (λ (among : List (List ℕ)). AreFirsts counts packets among firsts) (sym (take_get packets number packet there)) (first_same counts packets (take number packets) firsts packet are fails)

pub added : (counts : List ℕ → Bool) (packets : List (List ℕ)) (number : ℕ) (packet id : List ℕ) (firsts more : List (List ℕ × ℕ)) → slice_get packets number ≡ Some packet → number < length packets → counts packet ≡ true
    → id ≡ file_id packet → more ≡ with_first id number firsts → AreFirsts counts packets (take number packets) firsts → AreFirsts counts packets (take (number + 1) packets) more
added counts packets number packet id firsts more there lt passes own is are =
    subst (λ (l : List (List ℕ × ℕ)). AreFirsts counts packets (take (number + 1) packets) l) (sym (is ∙ ap (λ (k : List ℕ). with_first k number firsts) own))
    (subst (λ (among : List (List ℕ)). AreFirsts counts packets among (with_first (file_id packet) number firsts)) (sym (take_get packets number packet there))
    (first_more counts packets (take number packets) firsts packet number are passes there lt))
