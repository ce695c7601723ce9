-- The bytes of a file after a write, and after a change of its length.
use Rattle.std.proofs.Common.{◌≡◌, ◌<◌, ◌≤◌, ◌+◌, ◌-◌, ◌⊎◌, inl, inr, zero, suc, ℕ, List, [], ◌∷◌, ◌++◌, Some, None, length, take, drop, replicate, refl, sym, ap, ◌∙◌, arith, length-append, length-take}
use Rattle.std.specs.Prelude.{slice_get}
use Rattle.std.proofs.lemmas.List.{length-replicate, append_assoc, append-nil, drop-drop, take_at, drop_at, replicate-append-replicate}
use Rattle.std.proofs.lemmas.Option.{slice_get_past}
use Rattle.io_traits.specs.Store.{filled, written_at, resized}
use Rattle.fetch_files.specs.Calls.{zeroed}

-- ---- one place of a list

pub get-front : {A : Type 0} (xs ys : List A) (k : ℕ) → k < length xs → slice_get (xs ++ ys) k ≡ slice_get xs k
get-front [] ys k less = absurd (omega arith)
get-front (x ∷ xs) ys zero less = refl
get-front (x ∷ xs) ys (suc k) less = get-front xs ys k (omega arith)

pub get-behind : {A : Type 0} (xs ys : List A) (k n : ℕ) → k ≡ length xs + n → slice_get (xs ++ ys) k ≡ slice_get ys n
get-behind [] ys k n is = let e : k ≡ n = omega arith in ap (λ i. slice_get ys i) e
get-behind (x ∷ xs) ys zero n is = absurd (omega arith)
get-behind (x ∷ xs) ys (suc k) n is = get-behind xs ys k n (omega arith)

get-take : {A : Type 0} (n k : ℕ) (xs : List A) → k < n → slice_get (take n xs) k ≡ slice_get xs k
get-take zero k xs less = absurd (omega arith)
get-take (suc n) k [] less = refl
get-take (suc n) zero (x ∷ xs) less = refl
get-take (suc n) (suc k) (x ∷ xs) less = get-take n k xs (omega arith)

get-drop : {A : Type 0} (n k at : ℕ) (xs : List A) → at ≡ n + k → slice_get (drop n xs) k ≡ slice_get xs at
get-drop zero k at xs is = let e : k ≡ at = omega arith in ap (λ i. slice_get xs i) e
get-drop (suc n) k at [] is = refl
get-drop (suc n) k zero (x ∷ xs) is = absurd (omega arith)
get-drop (suc n) k (suc at) (x ∷ xs) is = get-drop n k at xs (omega arith)

pub get-zeros : (n k : ℕ) → k < n → slice_get {X = ℕ} (replicate n 0) k ≡ Some 0
get-zeros zero k less = absurd (omega arith)
get-zeros (suc n) zero less = refl
get-zeros (suc n) (suc k) less = get-zeros n k (omega arith)

none_some : {A : Type 0} (k : ℕ) (xs : List A) → k < length xs → slice_get xs k ≡ None → ⊥
none_some k [] less none = omega arith
none_some zero (x ∷ xs) less none = cc
none_some (suc k) (x ∷ xs) less none = none_some k xs (omega arith) none

pub some-get : {A : Type 0} (xs : List A) (k : ℕ) → k < length xs → (x : A) × (slice_get xs k ≡ Some x)
some-get [] k less = absurd (omega arith)
some-get (x ∷ xs) zero less = (x, refl)
some-get (x ∷ xs) (suc k) less = some-get xs k (omega arith)

-- ---- bytes that are filled up

get-filled : (len k : ℕ) (bytes : List ℕ) → k < length bytes → slice_get (filled len bytes) k ≡ slice_get bytes k
get-filled len k bytes less = get-front bytes (replicate (len - length bytes) 0) k less

get-fill : (len k : ℕ) (bytes : List ℕ) → length bytes ≤ k → k < len → slice_get (filled len bytes) k ≡ Some 0
get-fill len k bytes from less =
    let is : k ≡ length bytes + (k - length bytes) = omega arith in
    get-behind bytes (replicate (len - length bytes) 0) k (k - length bytes) is ∙ get-zeros (len - length bytes) (k - length bytes) (omega arith)

length-filled : (len : ℕ) (bytes : List ℕ) → len ≤ length (filled len bytes)
length-filled len bytes = omega (arith, length-append bytes (replicate (len - length bytes) 0), length-replicate {A = ℕ} (len - length bytes) 0)

-- ---- bytes with another length

pub length-resized : (len : ℕ) (bytes : List ℕ) → length (resized len bytes) ≡ len
length-resized len bytes = omega (arith, length-take len (filled len bytes), length-filled len bytes)

pub get-resized : (len k : ℕ) (bytes : List ℕ) → k < len → k < length bytes → slice_get (resized len bytes) k ≡ slice_get bytes k
get-resized len k bytes less within = get-take len k (filled len bytes) less ∙ get-filled len k bytes within

pub get-grown : (len k : ℕ) (bytes : List ℕ) → k < len → length bytes ≤ k → slice_get (resized len bytes) k ≡ Some 0
get-grown len k bytes less past = get-take len k (filled len bytes) less ∙ get-fill len k bytes past less

-- ---- bytes with a piece written

front_long : (place : ℕ) (bytes : List ℕ) → length (take place (filled place bytes)) ≡ place
front_long place bytes = omega (arith, length-take place (filled place bytes), length-filled place bytes)

-- the bytes as their front, the piece and what is behind it
parts : (place : ℕ) (byte : ℕ) (piece bytes : List ℕ) → written_at place (byte ∷ piece) bytes ≡ take place (filled place bytes) ++ ((byte ∷ piece) ++ drop (place + length (byte ∷ piece)) bytes)
parts place byte piece bytes = append_assoc (take place (filled place bytes)) (byte ∷ piece) (drop (place + length (byte ∷ piece)) bytes)

-- a place in the piece
pub get-written : (place k at : ℕ) (piece bytes : List ℕ) → at ≡ place + k → k < length piece → slice_get (written_at place piece bytes) at ≡ slice_get piece k
get-written place k at [] bytes is less = absurd (omega arith)
get-written place k at (byte ∷ piece) bytes is less =
    let here : at ≡ length (take place (filled place bytes)) + k = omega (arith, front_long place bytes) in
    ap (λ (t : List ℕ). slice_get t at) (parts place byte piece bytes)
    ∙ get-behind (take place (filled place bytes)) ((byte ∷ piece) ++ drop (place + length (byte ∷ piece)) bytes) at k here
    ∙ get-front (byte ∷ piece) (drop (place + length (byte ∷ piece)) bytes) k less

get-before : (place at : ℕ) (byte : ℕ) (piece bytes : List ℕ) → at < place → slice_get (written_at place (byte ∷ piece) bytes) at ≡ slice_get (filled place bytes) at
get-before place at byte piece bytes less =
    ap (λ (t : List ℕ). slice_get t at) (parts place byte piece bytes)
    ∙ get-front (take place (filled place bytes)) ((byte ∷ piece) ++ drop (place + length (byte ∷ piece)) bytes) at (omega (arith, front_long place bytes))
    ∙ get-take place at (filled place bytes) less

get-after : (place at : ℕ) (byte : ℕ) (piece bytes : List ℕ) → place + length (byte ∷ piece) ≤ at → slice_get (written_at place (byte ∷ piece) bytes) at ≡ slice_get bytes at
get-after place at byte piece bytes past =
    let here : at ≡ length (take place (filled place bytes)) + (at - place) = omega (arith, front_long place bytes) in
    let there : at - place ≡ length (byte ∷ piece) + (at - place - length (byte ∷ piece)) = omega arith in
    ap (λ (t : List ℕ). slice_get t at) (parts place byte piece bytes)
    ∙ get-behind (take place (filled place bytes)) ((byte ∷ piece) ++ drop (place + length (byte ∷ piece)) bytes) at (at - place) here
    ∙ get-behind (byte ∷ piece) (drop (place + length (byte ∷ piece)) bytes) (at - place) (at - place - length (byte ∷ piece)) there
    ∙ get-drop (place + length (byte ∷ piece)) (at - place - length (byte ∷ piece)) at bytes (omega arith)

-- a place before the piece, or behind it
abbrev pub IsBeside : ℕ → List ℕ → ℕ → Type 0
IsBeside place piece at = (at < place) ⊎ (place + length piece ≤ at)

-- there the bytes are as they were
pub get-beside : (place at : ℕ) (piece bytes : List ℕ) → IsBeside place piece at → at < length bytes → slice_get (written_at place piece bytes) at ≡ slice_get bytes at
get-beside place at [] bytes beside within = refl
get-beside place at (byte ∷ piece) bytes (inl less) within = get-before place at byte piece bytes less ∙ get-filled place at bytes within
get-beside place at (byte ∷ piece) bytes (inr past) within = get-after place at byte piece bytes past

-- or they are zeros that fill a gap
pub get-gap : (place at : ℕ) (piece bytes : List ℕ) → IsBeside place piece at → length bytes ≤ at → at < length (written_at place piece bytes) → slice_get (written_at place piece bytes) at ≡ Some 0
get-gap place at [] bytes beside past within = absurd (omega arith)
get-gap place at (byte ∷ piece) bytes (inl less) past within = get-before place at byte piece bytes less ∙ get-fill place at bytes past less
get-gap place at (byte ∷ piece) bytes (inr behind) past within =
    absurd (none_some at (written_at place (byte ∷ piece) bytes) within (get-after place at byte piece bytes behind ∙ slice_get_past bytes at past))

-- ---- a piece written behind another

filled_long : (len : ℕ) (bytes : List ℕ) → len ≤ length bytes → filled len bytes ≡ bytes
filled_long len bytes long =
    let none : len - length bytes ≡ 0 = omega arith in
    ap (λ n. bytes ++ replicate n 0) none ∙ append-nil bytes

written_behind : (place : ℕ) (x y : ℕ) (xs ys bytes : List ℕ) → written_at (place + length (x ∷ xs)) (y ∷ ys) (written_at place (x ∷ xs) bytes) ≡ written_at place ((x ∷ xs) ++ (y ∷ ys)) bytes
written_behind place x y xs ys bytes =
    let one : List ℕ = x ∷ xs in
    let two : List ℕ = y ∷ ys in
    let q : ℕ = place + length one in
    let front : List ℕ = take place (filled place bytes) in
    let rest : List ℕ = drop q bytes in
    let first : List ℕ = front ++ one in
    let long : length first ≡ q = omega (arith, length-append front one, front_long place bytes) in
    let whole : written_at place one bytes ≡ first ++ rest = refl in
    let enough : q ≤ length (first ++ rest) = omega (arith, length-append first rest, long) in
    let fills : take q (filled q (first ++ rest)) ≡ first = ap (λ (t : List ℕ). take q t) (filled_long q (first ++ rest) enough) ∙ take_at first rest q long in
    let behind : drop (q + length two) (first ++ rest) ≡ drop (q + length two) bytes =
    sym (drop-drop (length two) q (first ++ rest)) ∙ ap (λ (t : List ℕ). drop (length two) t) (drop_at first rest q long) ∙ drop-drop (length two) q bytes in
    let far : q + length two ≡ place + length (one ++ two) = omega (arith, length-append one two) in
    ap (λ (t : List ℕ). (t ++ two) ++ drop (q + length two) (first ++ rest)) fills
    ∙ ap (λ (t : List ℕ). (first ++ two) ++ t) behind
    ∙ ap (λ (t : List ℕ). t ++ drop (q + length two) bytes) (append_assoc front one two)
    ∙ ap (λ n. (front ++ (one ++ two)) ++ drop n bytes) far

pub written_more : (place : ℕ) (one two bytes : List ℕ) → written_at (place + length one) two (written_at place one bytes) ≡ written_at place (one ++ two) bytes
written_more place [] two bytes = let e : place + 0 ≡ place = omega arith in ap (λ n. written_at n two bytes) e
written_more place (x ∷ xs) [] bytes = ap (λ (t : List ℕ). written_at place t bytes) (sym (append-nil (x ∷ xs)))
written_more place (x ∷ xs) (y ∷ ys) bytes = written_behind place x y xs ys bytes

pub zeroed_more : (place done len : ℕ) (bytes : List ℕ) → zeroed (place + done) len (zeroed place done bytes) ≡ zeroed place (done + len) bytes
zeroed_more place done len bytes =
    ap (λ n. zeroed (place + n) len (zeroed place done bytes)) (sym (length-replicate {A = ℕ} done 0))
    ∙ written_more place (replicate done 0) (replicate len 0) bytes
    ∙ ap (λ (t : List ℕ). written_at place t bytes) (replicate-append-replicate {A = ℕ} done len 0)
